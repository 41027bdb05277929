use Rattle.std.proofs.Common.{◌≡◌, ◌<◌, ◌+◌, refl, ap, sym, subst, ◌∙◌, arith, rules, get_or, length, pos}
use Rattle.std.proofs.lemmas.Int.{to_z-of_z}
use Rattle.std.proofs.lemmas.Option.{slice_get-get_or}
use mir.Val.{SFits}
use mir.Syntax.{w64}
use Rattle.std.specs.List.{slice_set}
use Rattle.liszt_base.specs.Reductions.{InRange}
use Rattle.std.specs.Prelude.{Some}
use Rattle.phase_types.specs.Checked.{checked_mode}
use Rattle.phase_types.specs.Walk.{OfScalar}
use Rattle.seq_meaning.specs.Internal.Iterating.{AreReducedBelow, value_after}
use Rattle.seq_meaning.specs.MainRuns.{MainRun}
use Rattle.seq_meaning.proofs.ComprehensionRunLemmas.{all_reduced, none_reduced, one_reduced}
use Rattle.seq_meaning.proofs.sequential_run.reduce_scalars.Goals as goal

pub loop-scalar-init : goal.loop-scalar-init
loop-scalar-init c = (refl, none_reduced c.args.c.now c.args.k c.args.locals.now.activation.partials c.args.main.now.scalars)

pub loop-scalar-preserved : goal.loop-scalar-preserved
loop-scalar-preserved c =
    let mode = c.scalar_mode.result in
    let old_fits : SFits w64 c.scalar_at-old.result = search rules in
    let range : InRange c.scalar_at-old.result = search rules in
    let partial_fits : SFits w64 c.partial.result = search rules in
    let new_fits : SFits w64 c.value_after-new.result = search rules in
    let scalars = c.loop-scalar.main.scalars in
    let set : c.set_scalar.new.self ≡ record c.loop-scalar.main { scalars = slice_set scalars c.loop-scalar.scalar c.value_after-new.result } =
    rw (to_z-of_z w64 c.value_after-new.result new_fits) at c.set_scalar.ensures in
    let old : c.scalar_at-old.result ≡ get_or scalars c.loop-scalar.scalar (pos 0) = c.scalar_at-old.ensures ∙ ap (λ xs. get_or xs c.loop-scalar.scalar (pos 0)) c.scalars-in-loop-scalar.ensures in
    let value : c.value_after-new.result ≡ value_after mode c.scalar_at-old.result c.partial.result =
    rw (to_z-of_z w64 c.scalar_at-old.result old_fits, to_z-of_z w64 c.partial.result partial_fits) at c.value_after-new.ensures in
    let below : c.loop-scalar.scalar < length scalars =
    omega (arith, c.loop-scalar-test.true, c.requires.scalars, ap (λ names. length names) c.scalars.ensures, c.is_checked.ensures.within.scalars, c.loop-scalar.invariant.1.count) in (
      set ∙ ap (λ (main : MainRun). record main { scalars = slice_set scalars c.loop-scalar.scalar c.value_after-new.result }) c.loop-scalar.invariant.0
          ∙ sym (ap (λ (main : MainRun). record c.args.main.now { scalars = main.scalars }) set),
      subst (λ (main : MainRun). AreReducedBelow c.args.c.now c.args.k c.args.locals.now.activation.partials c.args.main.now.scalars main.scalars (c.loop-scalar.scalar + 1)) (sym set)
          (one_reduced c.args.c.now c.args.k c.args.locals.now.activation.partials c.args.main.now.scalars scalars c.loop-scalar.scalar c.scalar_at-old.result c.value_after-new.result c.loop-scalar.invariant.1
          (slice_get-get_or scalars c.loop-scalar.scalar (pos 0) below ∙ ap Some (sym old)) range
          (value ∙ ap (λ mode. value_after mode c.scalar_at-old.result c.partial.result) c.scalar_mode.ensures
          ∙ ap (value_after (checked_mode c.args.c.now c.args.k (OfScalar c.loop-scalar.scalar)) c.scalar_at-old.result) c.partial.ensures)),
    )

pub returns-clause-reduced : goal.returns-clause-reduced
returns-clause-reduced c =
    all_reduced c.args.c.now c.args.k c.args.locals.now.activation.partials c.args.main.now.scalars c.loop-scalar.main.scalars c.loop-scalar.scalar c.loop-scalar.invariant.1
    (omega (arith, c.loop-scalar-test.false, c.requires.scalars, ap (λ names. length names) c.scalars.ensures, c.is_checked.ensures.within.scalars))
