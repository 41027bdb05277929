use Rattle.std.proofs.Common.{rules, ◌≡◌, ◌≤◌, ◌<◌, ◌+◌, ◌-◌, ◌*◌, sym, subst, arith}
use Rattle.field_words.specs.Holdings.{Holding, OwnsRange, after_join}
use Rattle.field_words.specs.Internal.Fills.{IsFilled}
use Rattle.field_words.proofs.FillLemmas.{handed_owns, kept_owns, both_filled}
use Rattle.field_words.proofs.tests.+fill+fn-fill-join_mut+arg3.Goals as goal

pub join_mut-requires-after_bounds : goal.join_mut-requires-after_bounds
join_mut-requires-after_bounds g t c κs within =
    let some : 0 < c.args.workers = search rules in
    let more : c.args.workers * 1000 ≡ 1000 + (c.args.workers - 1) * 1000 = omega arith in
    let own : OwnsRange c.args.seat.now c.args.first (1000 + (c.args.workers - 1) * 1000) = subst (OwnsRange c.args.seat.now c.args.first) more c.requires.own in
    let first_own : OwnsRange c.split-given.result c.args.first 1000 =
    handed_owns c.args.first 1000 (1000 + (c.args.workers - 1) * 1000) c.args.seat.now c.split-given.result own (omega arith) c.split-given.ensures.new in
    let others_own : OwnsRange c.split-given.new.s (c.args.first + 1000) ((c.args.workers - 1) * 1000) =
    kept_owns c.args.first 1000 ((c.args.workers - 1) * 1000) c.args.seat.now c.split-given.new.s own c.split-given.ensures.seat in
    let bound : c.args.first + 1000 + (c.args.workers - 1) * 1000 < 4294967296 = let b = c.requires.bound in omega arith in
    let first_bound : c.args.first + 1000 < 4294967296 = let b = c.requires.bound in omega arith in
    search rules

pub returns : goal.returns
returns g t c =
    let some : 0 < c.args.workers = search rules in
    let share : 1 ≤ c.args.seat.now.share = let s = c.requires.share in omega arith in
    let more : c.args.workers * 1000 ≡ 1000 + (c.args.workers - 1) * 1000 = omega arith in
    let whole : (p q : Holding) → c.join.new.s ≡ after_join p q → IsFilled (c.args.first + 1000) ((c.args.workers - 1) * 1000) c.split-given.new.s p
    → IsFilled c.args.first 1000 c.split-given.result q → IsFilled c.args.first (c.args.workers * 1000) c.args.seat.now c.join.new.s =
    λ p q e others one.
    subst (λ n. IsFilled c.args.first n c.args.seat.now c.join.new.s) (sym more)
    (both_filled c.args.first 1000 ((c.args.workers - 1) * 1000) c.args.seat.now c.split-given.new.s c.split-given.result p q c.join.new.s share
    c.split-given.ensures.seat c.split-given.ensures.new others one e) in
    search (rules, whole)
