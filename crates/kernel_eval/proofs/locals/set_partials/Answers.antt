use Rattle.std.proofs.Common.{◌≡◌, ◌<◌, Some, length, ◌∙◌, rules, arith}
use Rattle.std.proofs.lemmas.Int.{to_z-of_z}
use Rattle.std.specs.Int.{w64}
use mir.Val.{SFits}
use Rattle.std.specs.List.{slice_set}
use Rattle.liszt_base.specs.Reductions.{identity_of}
use Rattle.liszt_base.specs.declared.accesses.Mode.TheVariants.{Reduce}
use Rattle.liszt_base.specs.declared.elements.Op.{Op}
use Rattle.phase_types.specs.Checked.{checked_mode}
use Rattle.phase_types.specs.Walk.{OfScalar}
use Rattle.kernel_eval.proofs.NumberListLemmas.{holds_to_next}
use Rattle.kernel_eval.proofs.locals.set_partials.Goals as goal

pub loop-scalar-preserved : goal.loop-scalar-preserved
loop-scalar-preserved c =
    let fine : SFits w64 c.first_partial.result = search rules in
    let is : c.set.new.self ≡ slice_set c.loop-scalar.partials c.loop-scalar.scalar c.first_partial.result = rw (to_z-of_z w64 c.first_partial.result fine) at c.set.ensures in
    let within : c.loop-scalar.scalar < length c.loop-scalar.partials = search (rules, arith) in (
      search rules,
      λ scalar op below mode. rw is (holds_to_next
          (λ scalar value. (op : Op) → checked_mode c.args.c.now c.args.k (OfScalar scalar) ≡ Some (Reduce op) → value ≡ identity_of op)
          c.loop-scalar.partials c.loop-scalar.scalar c.first_partial.result within
          (λ scalar below op mode. c.loop-scalar.invariant.1 scalar op below mode)
          (λ op mode. c.first_partial.ensures op (c.scalar_mode.ensures ∙ mode)) scalar below op mode),
    )

pub returns-clause-identities : goal.returns-clause-identities
returns-clause-identities c scalar op below mode = c.loop-scalar.invariant.1 scalar op (search (rules, arith)) mode
