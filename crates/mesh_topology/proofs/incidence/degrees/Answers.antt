use Rattle.std.proofs.Common.{◌≡◌, ◌+◌, ◌<◌, ◌^◌, All, length, take, drop, [], ◌++◌, subst, sym, ap, ◌∙◌, arith}
use Rattle.std.proofs.Math.Seq.{take-append_seam}
use Rattle.std.proofs.lemmas.List.{get_or_read}
use Rattle.mesh_topology.specs.Internal.Incidence.{AreDegreesSoFar, AreChangedAt}
use Rattle.mesh_topology.proofs.TransposeLemmas.{degrees_step, degrees_all, few_degrees}
use Rattle.mesh_topology.proofs.incidence.degrees.Goals as goal

pub count_ids-requires-clause-few : goal.count_ids-requires-clause-few
count_ids-requires-clause-few g c =
    subst (λ xs. All (λ n. n + 1 < 2 ^ 32) xs) (sym c.deref_mut.ensures.value)
    (few_degrees c.args.rows.now c.args.count c.loop-row.row-index c.loop-row.degrees.items c.loop-row.invariant c.loop-row-test.true c.requires.few)

pub loop-row-preserved : goal.loop-row-preserved
loop-row-preserved g c =
    let rows = c.args.rows.now in
    let old = c.loop-row.degrees.items in
    let new = c.count_ids.new.degrees in
    let row = get_or_read rows c.loop-row.row-index c.row-item.result c.loop-row-test.true c.row-item.is [] in
    let counted = subst (λ r. AreChangedAt 0 (λ n. n + 1) r old new) row (subst (λ xs. AreChangedAt 0 (λ n. n + 1) c.row-item.result xs new) c.deref_mut.ensures.value c.count_ids.ensures) in
    let length_is : c.loop-row.degrees.len ≡ length new = omega (arith, c.loop-row.degrees.ok.0, counted.length_is) in
    let same : take c.loop-row.degrees.len (new ++ drop (length new) old) ≡ new = ap (λ n. take n (new ++ drop (length new) old)) length_is ∙ take-append_seam new (drop (length new) old) in
    let more = degrees_step rows c.args.count c.loop-row.row-index old new c.loop-row.invariant counted in
    subst (λ xs. AreDegreesSoFar rows c.args.count (c.loop-row.row-index + 1) xs) (sym same) more

pub returns : goal.returns
returns g c =
    degrees_all c.args.rows.now c.args.count c.loop-row.row-index c.loop-row.degrees.items (omega arith) c.loop-row.invariant
