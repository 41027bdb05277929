use Rattle.std.proofs.Common.{rules}
use mir.Val.{SFits}
use mir.Syntax.{w64}
use Rattle.std.proofs.lemmas.Bool.{lt-ltb, le-ltb}
use Rattle.code_eval.proofs.LeadingLemmas.{built_in_given, load_given, number_given}
use Rattle.code_eval.proofs.OperandLemmas.{built_in_can, can_load}
use Rattle.code_eval.proofs.numbers.read.Goals as goal

pub built_in-requires : goal.built_in-requires
built_in-requires g c = built_in_can c.args.m.now c.args.spot (lt-ltb c.args.spot.field 6 c.if-spot-lt6.true) c.requires

pub returns-then-spot-lt6 : goal.returns-then-spot-lt6
returns-then-spot-lt6 g c =
    let fits : SFits w64 c.built_in.result = search rules in
    let is_built_in = lt-ltb c.args.spot.field 6 c.if-spot-lt6.true in
    rw (is_built_in, c.built_in.ensures) (number_given fits (built_in_given is_built_in))

pub load-requires : goal.load-requires
load-requires g c = can_load c.args.m.now c.args.spot (le-ltb c.args.spot.field 6 c.if-spot-lt6.false) c.requires

pub returns-else-spot-lt6 : goal.returns-else-spot-lt6
returns-else-spot-lt6 g c =
    let fits : SFits w64 c.load.result = search rules in
    let is_declared = le-ltb c.args.spot.field 6 c.if-spot-lt6.false in
    rw is_declared (number_given fits (load_given is_declared c.load.ensures))
