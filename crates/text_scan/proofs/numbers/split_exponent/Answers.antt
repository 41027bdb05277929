use Rattle.std.proofs.Common.{◌+◌, Some, refl, ap, sym, ◌∙◌}
use Rattle.std.proofs.lemmas.List.{take_rest}
use Rattle.text_scan.specs.Numbers as spec
use Rattle.text_scan.proofs.SplitLemmas.{position_some, position_none, all_before}
use Rattle.text_scan.proofs.numbers.split_exponent.Goals as goal

pub returns-in-Some-clause-before : goal.returns-in-Some-clause-before
returns-in-Some-clause-before c = (position_some spec.is_exponent_mark c.args.text.now c.in-Some.place (sym c.in-Some.ensures)).1

pub returns-in-Some-clause-after : goal.returns-in-Some-clause-after
returns-in-Some-clause-after c =
    let cut = position_some spec.is_exponent_mark c.args.text.now c.in-Some.place (sym c.in-Some.ensures) in
    rw cut.0 (ap Some (take_rest c.args.text.now (c.in-Some.place + 1) ∙ cut.2))

pub returns-in-None-clause-before : goal.returns-in-None-clause-before
returns-in-None-clause-before c =
    (all_before spec.is_exponent_mark c.args.text.now (position_none spec.is_exponent_mark c.args.text.now (sym c.in-None.ensures))).0

pub returns-in-None-clause-after : goal.returns-in-None-clause-after
returns-in-None-clause-after c = rw (position_none spec.is_exponent_mark c.args.text.now (sym c.in-None.ensures)) refl
