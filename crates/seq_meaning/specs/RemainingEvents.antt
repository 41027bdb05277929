-- The number of events that a run of a main program can still have, at most: each event makes it
-- smaller. This project's own.
use Rattle.std.specs.Prelude.{◌<◌, ℕ, ◌+◌, ◌*◌, List, [], ◌∷◌, map, take, drop}
use Rattle.std.specs.Option.{option_map}
use Rattle.resolved_code.specs.declared.items.ItemCode.{ItemCode, fold-ItemCode}
use Rattle.resolved_code.specs.declared.items.ItemCode.TheOpen.{ItemCode-F, BlockCode-F}
use Rattle.seq_meaning.specs.MainRuns.{Frame, MainRun, block_at, index_after, or_none}
use Rattle.seq_meaning.specs.declared.main_run.MainStep.{MainStep}
use Rattle.seq_meaning.specs.declared.main_run.MainStep.TheVariants.{Over}

-- THE EVENTS OF ITEMS, at most, where each block in them is run once: a block has the events of its
-- items between the start and the end of its scope, and any other item counts as one
abbrev pub total : List ℕ → ℕ
total [] = 0
total (n ∷ ns) = n + total ns

abbrev pub count_layer : ItemCode-F ℕ ℕ → ℕ
count_layer (ItemCode-F.If test first second) = 2 + (first + or_none second)
count_layer (ItemCode-F.While place test body) = 2 + body
count_layer _ = 1

abbrev pub block_count_layer : BlockCode-F ℕ ℕ → ℕ
block_count_layer block = total block.items

abbrev pub event_count : ItemCode → ℕ
event_count c = fold-ItemCode ℕ ℕ count_layer block_count_layer c

abbrev pub events_in : List ItemCode → ℕ
events_in items = total (map event_count items)

-- THE REMAINING EVENTS OF ITEMS in which blocks are open, without further turns of a `while`. The
-- first frame is that of the items, and each further one that of a block in the item of the frame
-- before it. With no frame the scope of the items is still to be opened.
abbrev pub events_left : List ItemCode → List Frame → ℕ
events_left items [] = 1 + events_in items
events_left items (frame ∷ []) = events_in (drop frame.index items)
events_left items (frame ∷ inner ∷ frames) =
    or_none (option_map (λ b. events_left b.block.items (inner ∷ frames)
    + (1 + events_in (drop (index_after frame b) items))) (block_at items frame))

-- THE REMAINING EVENTS OF A RUN: each turn that remains opens the body of a `while` once more, and
-- counts as all events of the program, which are more than those of a body.
abbrev pub remaining_events : List ItemCode → MainRun → ℕ
remaining_events items r =
    r.turns * (1 + events_in items) + events_left items (take r.depth r.frames)

-- fewer events remain, unless the program is over
abbrev pub HasFewer : MainStep → ℕ → ℕ → Type 0
HasFewer (Over end) before after = Unit {0}
HasFewer _ before after = after < before
