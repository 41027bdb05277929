-- How many events remain of a run of the main program.
use Rattle.std.proofs.Common.{◌≡◌, ◌<◌, ◌≤◌, ℕ, zero, suc, ◌+◌, ◌*◌, List, [], ◌∷◌, length, take, drop, refl, sym, ap, subst, ◌∙◌, arith, rules}
use Rattle.std.specs.List.{slice_set}
use Rattle.std.specs.Option.{option_map}
use Rattle.std.specs.Prelude.{Option, Some, None, slice_get}
use Rattle.liszt_base.specs.declared.answers.Place.{Place}
use Rattle.resolved_code.specs.declared.expressions.NumberCode.{NumberCode}
use Rattle.resolved_code.specs.declared.expressions.TruthCode.{TruthCode}
use Rattle.resolved_code.specs.declared.items.BlockCode.{BlockCode}
use Rattle.resolved_code.specs.declared.items.ItemCode.{ItemCode, the_lemmas}
use Rattle.resolved_code.specs.declared.items.ItemCode.TheVariants as code
use Rattle.seq_meaning.specs.MainRuns.{Frame, MainRun, InnerBlock, block_at, index_after, or_none, CanDo}
use Rattle.seq_meaning.specs.RemainingEvents.{event_count, events_in, events_left, HasFewer}
use Rattle.seq_meaning.specs.Internal.RunSteps.{events_at}
use Rattle.seq_meaning.specs.declared.main_run.MainStep.{MainStep}
use Rattle.seq_meaning.specs.declared.main_run.MainStep.TheVariants.{Enter, Leave, Declare, Comp, Over}
use Rattle.seq_meaning.proofs.MainStepLemmas.{set_here, drop_at}

-- THE EVENTS of an item, and of the items from an index on
pub count_field : (field : ℕ) (x : NumberCode) → event_count (code.Field field x) ≡ 1
count_field field x = search (rules, the_lemmas)

pub count_for : (k : ℕ) → event_count (code.For k) ≡ 1
count_for k = search (rules, the_lemmas)

pub count_if : (test : TruthCode) (first second : BlockCode) → event_count (code.If test first (Some second)) ≡ 2 + (events_in first.items + events_in second.items)
count_if test first second = search (rules, the_lemmas)

pub count_if_alone : (test : TruthCode) (first : BlockCode) → event_count (code.If test first None) ≡ 2 + (events_in first.items + 0)
count_if_alone test first = search (rules, the_lemmas)

pub count_while : (place : Place) (test : TruthCode) (body : BlockCode) → event_count (code.While place test body) ≡ 2 + events_in body.items
count_while place test body = search (rules, the_lemmas)

pub count_first : (test : TruthCode) (first : BlockCode) (second : Option BlockCode) → 2 + events_in first.items ≤ event_count (code.If test first second)
count_first test first None = omega (arith, count_if_alone test first)
count_first test first (Some second) = omega (arith, count_if test first second)

pub count_second : (test : TruthCode) (first second : BlockCode) → 2 + events_in second.items ≤ event_count (code.If test first (Some second))
count_second test first second = omega (arith, count_if test first second)

pub events_from : (items : List ItemCode) (i : ℕ) (c : ItemCode) → slice_get items i ≡ Some c → events_in (drop i items) ≡ event_count c + events_in (drop (suc i) items)
events_from items i c e = ap events_in (drop_at items i c e)

pub events_of_item : (items : List ItemCode) (i : ℕ) (c : ItemCode) → slice_get items i ≡ Some c → event_count c ≤ events_in items
events_of_item [] i c e = absurd cc
events_of_item (x ∷ items) zero c e = let same : x ≡ c = cc in subst (λ c. event_count c ≤ events_in (x ∷ items)) same (omega arith)
events_of_item (x ∷ items) (suc i) c e = let l = events_of_item items i c e in omega (arith, l)

-- THE FRAMES of the open blocks from a level on
taken_at : (frames : List Frame) (n i : ℕ) → i < n → slice_get (take n frames) i ≡ slice_get frames i
taken_at frames zero i l = absurd (omega (arith, l))
taken_at [] (suc n) i l = refl
taken_at (x ∷ frames) (suc n) zero l = refl
taken_at (x ∷ frames) (suc n) (suc i) l = taken_at frames n i (omega (arith, l))

none_past : (frames : List Frame) (n : ℕ) → drop n (take n frames) ≡ []
none_past frames zero = refl
none_past [] (suc n) = refl
none_past (x ∷ frames) (suc n) = none_past frames n

open_from : (frames : List Frame) (depth level : ℕ) (frame : Frame) → slice_get frames level ≡ Some frame → level < depth
    → drop level (take depth frames) ≡ frame ∷ drop (suc level) (take depth frames)
open_from frames depth level frame at l = drop_at (take depth frames) level frame (taken_at frames depth level l ∙ at)

pub events_here : (worth level : ℕ) (items : List ItemCode) (r : MainRun) (frame : Frame) → slice_get r.frames level ≡ Some frame → suc level ≡ r.depth
    → events_at worth level items r ≡ r.turns * worth + events_in (drop frame.index items)
events_here worth level items r frame at innermost =
    ap (λ frames. r.turns * worth + events_left items frames)
    (open_from r.frames r.depth level frame at (omega (arith, innermost))
    ∙ ap (λ frames. frame ∷ frames) (subst (λ depth. drop depth (take r.depth r.frames) ≡ []) (sym innermost) (none_past r.frames r.depth)))

pub events_inside : (worth level : ℕ) (items : List ItemCode) (r : MainRun) (frame next : Frame) (inner : InnerBlock) → slice_get r.frames level ≡ Some frame
    → slice_get r.frames (suc level) ≡ Some next → suc level < r.depth → block_at items frame ≡ Some inner
    → events_at worth level items r ≡ events_at worth (suc level) inner.block.items r + (1 + events_in (drop (index_after frame inner) items))
events_inside worth level items r frame next inner at next_at deep found =
    let here : drop (suc level) (take r.depth r.frames) ≡ next ∷ drop (suc (suc level)) (take r.depth r.frames) = open_from r.frames r.depth (suc level) next next_at deep in
    let a : events_left items (drop level (take r.depth r.frames))
    ≡ events_left inner.block.items (next ∷ drop (suc (suc level)) (take r.depth r.frames)) + (1 + events_in (drop (index_after frame inner) items)) =
    ap (events_left items) (open_from r.frames r.depth level frame at (omega (arith, deep)) ∙ ap (λ frames. frame ∷ frames) here)
    ∙ ap (λ o. or_none (option_map (λ (b : InnerBlock). events_left b.block.items (next ∷ drop (suc (suc level)) (take r.depth r.frames)) + (1 + events_in (drop (index_after frame b) items))) o)) found in
    let b : events_left inner.block.items (drop (suc level) (take r.depth r.frames)) ≡ events_left inner.block.items (next ∷ drop (suc (suc level)) (take r.depth r.frames)) =
    ap (events_left inner.block.items) here in
    omega (arith, a, b)

-- AFTER AN ITEM of the innermost block
pub events_moved : (worth level : ℕ) (items : List ItemCode) (next : Frame) (c : ItemCode) (r after : MainRun) (d : CanDo r level items next c) → level < length r.frames
    → after.frames ≡ slice_set r.frames level next → after.depth ≡ r.depth → after.turns ≡ r.turns → events_at worth level items after + event_count c ≡ events_at worth level items r
events_moved worth level items next c r after d l frames depth turns =
    let old : events_at worth level items r ≡ r.turns * worth + events_in (drop d.frame.index items) = events_here worth level items r d.frame d.at d.innermost in
    let new : events_at worth level items after ≡ after.turns * worth + events_in (drop next.index items) =
    events_here worth level items after next (ap (λ frames. slice_get frames level) frames ∙ set_here r.frames level next l) (d.innermost ∙ sym depth) in
    let item : events_in (drop d.frame.index items) ≡ event_count c + events_in (drop (suc d.frame.index) items) = events_from items d.frame.index c d.item in
    let rest : events_in (drop next.index items) ≡ events_in (drop (suc d.frame.index) items) = ap (λ (next : Frame). events_in (drop next.index items)) d.next_is in
    let same : after.turns * worth ≡ r.turns * worth = ap (λ n. n * worth) turns in
    omega (arith, old, new, item, rest, same)

pub events_opened : (worth level : ℕ) (items : List ItemCode) (after : MainRun) (frame first : Frame) (inner : InnerBlock) → slice_get after.frames level ≡ Some frame
    → slice_get after.frames (suc level) ≡ Some first → after.depth ≡ suc (suc level) → first.index ≡ 0 → block_at items frame ≡ Some inner
    → events_at worth level items after ≡ after.turns * worth + (events_in inner.block.items + (1 + events_in (drop (index_after frame inner) items)))
events_opened worth level items after frame first inner at first_at depth none found =
    let outer : events_at worth level items after ≡ events_at worth (suc level) inner.block.items after + (1 + events_in (drop (index_after frame inner) items)) =
    events_inside worth level items after frame first inner at first_at (omega (arith, depth)) found in
    let here : events_at worth (suc level) inner.block.items after ≡ after.turns * worth + events_in (drop first.index inner.block.items) =
    events_here worth (suc level) inner.block.items after first first_at (sym depth) in
    let all : events_in (drop first.index inner.block.items) ≡ events_in inner.block.items = ap (λ n. events_in (drop n inner.block.items)) none in
    omega (arith, outer, here, all)

pub turn_taken : (before after worth : ℕ) → before ≡ suc after → before * worth ≡ worth + after * worth
turn_taken before after worth e = rw e (omega arith)

-- ONE AFTER ANOTHER
pub fewer_then : (step : MainStep) (before between after : ℕ) → between ≤ before → HasFewer step between after → HasFewer step before after
fewer_then (Enter scope) before between after l h = omega (arith, l, h)
fewer_then (Leave scope) before between after l h = omega (arith, l, h)
fewer_then (Declare field value) before between after l h = omega (arith, l, h)
fewer_then (Comp k) before between after l h = omega (arith, l, h)
fewer_then (Over end) before between after l h = tt
