use Rattle.std.proofs.Common.{◌-◌, sym, subst, arith}
use Rattle.write_conflicts.specs.Conflicts.{IsFirstClash}
use Rattle.write_conflicts.proofs.ClashLemmas.{row, first_clash_at, no_clash}
use Rattle.write_conflicts.proofs.clashes.first_shared.Goals as goal

pub returns-then-first-second : goal.returns-then-first-second
returns-then-first-second c = λ lists writers.
    let rows = c.args.rows.now in
    let n = c.loop-next.next in
    subst (λ s. IsFirstClash lists s (row rows (n - 1)).1 (row rows n).1) (sym c.spot.ensures)
    (first_clash_at lists rows n writers c.requires (omega arith) (omega arith) c.loop-next.invariant c.if-shared-other.true c.if-first-second.true)

pub returns : goal.returns
returns c = λ lists writers.
    no_clash lists c.args.rows.now c.loop-next.next writers (omega arith) c.loop-next.invariant
