use Rattle.std.proofs.Common.{rules, arith, refl}
use Rattle.std.proofs.lemmas.Int.{to_z-of_z}
use mir.Val.{SFits}
use mir.Syntax.{w64}
use Rattle.code_eval.proofs.LeadingLemmas.{changed, store_given, reduction_given}
use Rattle.code_eval.proofs.statements.write.Goals as goal

pub returns-in_default : goal.returns-in_default
returns-in_default g c = rw (c.in_default.is, c.stop.ensures) (changed (omega arith) (λ view. refl))

pub returns-in-Set : goal.returns-in-Set
returns-in-Set g c = rw (c.in-Some.is, c.in-Set.is) (store_given (rw (to_z-of_z w64 c.args.n c.ranges.n) at c.store.ensures))

pub returns-in-Fold : goal.returns-in-Fold
returns-in-Fold g c =
    let old : SFits w64 c.load-old.result = search rules in
    let sum : SFits w64 c.fold_op.result = search rules in
    let stored = rw (to_z-of_z w64 c.fold_op.result sum, c.fold_op.ensures, to_z-of_z w64 c.load-old.result old, to_z-of_z w64 c.args.n c.ranges.n) at c.store-in-Fold.ensures in
    rw (c.in-Some.is, c.in-Fold.is) (reduction_given c.load-old.ensures stored)

pub returns-in-Less : goal.returns-in-Less
returns-in-Less g c =
    let old : SFits w64 c.load-old-in-Less.result = search rules in
    let operand : SFits w64 c.operand.result = search rules in
    let sum : SFits w64 c.fold_op-in-Less.result = search rules in
    let value = rw (to_z-of_z w64 c.args.n c.ranges.n, c.in-Less.is) at c.operand.ensures in
    let stored = rw (to_z-of_z w64 c.fold_op-in-Less.result sum, c.fold_op-in-Less.ensures, to_z-of_z w64 c.load-old-in-Less.result old, to_z-of_z w64 c.operand.result operand, value) at c.store-in-Less.ensures in
    rw (c.in-Some.is, c.in-Less.is) (reduction_given c.load-old-in-Less.ensures stored)
