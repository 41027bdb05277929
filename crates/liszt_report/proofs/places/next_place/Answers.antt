use Rattle.std.proofs.Common.{arith, ap, ◌∙◌}
use Rattle.liszt_report.specs.Internal.Places.{nearer_access}
use Rattle.liszt_report.proofs.PlaceLemmas.{place_step}
use Rattle.liszt_report.proofs.places.next_place.Goals as goal

pub loop-index-preserved : goal.loop-index-preserved
loop-index-preserved c =
    place_step c.args.fields c.args.from _ c.loop-index.least c.nearer_access-least.result c.args.accesses.now c.loop-index.index (omega (arith, c.loop-index-test.true, c.len-index-end.ensures))
    c.loop-index.invariant (c.nearer_access-least.ensures ∙ ap (nearer_access c.args.fields c.args.from c.loop-index.least) c.get.ensures)
