use Rattle.std.proofs.Common.{◌-◌, ◌≤◌, length, drop, map}
use Rattle.liszt_tree.specs.Tree.{item_tree}
use Rattle.liszt_parser.specs.Internal.Productions.{mains}
use Rattle.liszt_parser.specs.Internal.Sources.{source_lexemes}
use Rattle.liszt_parser.proofs.MeasureLemmas.{work}
use Rattle.liszt_parser.proofs.LoopLemmas.{SoFar, main_onto}
use Rattle.liszt_parser.proofs.item.+item.Given as goal

abbrev pub decreases-item_by_token : goal.decreases-item_by_token
decreases-item_by_token l = work (length (source_lexemes l.source.now)) l.at 2

abbrev pub decreases-conditional : goal.decreases-conditional
decreases-conditional l = work (length (source_lexemes l.source.now)) l.at 1

abbrev pub decreases-item : goal.decreases-item
decreases-item l = work (length (source_lexemes l.source.now)) l.at 3

abbrev pub decreases-items : goal.decreases-items
decreases-items l = work (length (source_lexemes l.source.now)) l.at 4

abbrev pub decreases-main_block : goal.decreases-main_block
decreases-main_block l = work (length (source_lexemes l.source.now)) l.at 1

abbrev pub decreases-else_block : goal.decreases-else_block
decreases-else_block l = work (length (source_lexemes l.source.now)) l.at 1

abbrev pub decreases-repetition : goal.decreases-repetition
decreases-repetition l = work (length (source_lexemes l.source.now)) l.at 1

abbrev pub invariant-items-loop-items : goal.invariant-items-loop-items
invariant-items-loop-items l =
    record {
      after : l.fn.at ≤ l.here;
      within : l.here ≤ length (source_lexemes l.source);
      so_far : SoFar mains (drop l.fn.at (source_lexemes l.source)) (drop l.here (source_lexemes l.source)) (main_onto (map item_tree l.items));
    }

abbrev pub decreases-items-loop-items : goal.decreases-items-loop-items
decreases-items-loop-items l = length (source_lexemes l.source) - l.here
