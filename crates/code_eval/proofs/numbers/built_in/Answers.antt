use Rattle.code_eval.proofs.FieldLemmas.{point_in_range}
use Rattle.code_eval.proofs.numbers.built_in.Goals as goal

pub point-point-requires : goal.point-point-requires
point-point-requires c = point_in_range c.args.m.now c.args.spot c.if-spot-eq4.false c.requires
