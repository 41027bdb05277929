use Rattle.std.proofs.Common.{◌-◌, ◌≤◌, length, drop, map}
use Rattle.liszt_tree.specs.Tree.{statement_tree}
use Rattle.liszt_parser.specs.Internal.Productions.{bodies}
use Rattle.liszt_parser.specs.Internal.Sources.{source_lexemes}
use Rattle.liszt_parser.proofs.MeasureLemmas.{work}
use Rattle.liszt_parser.proofs.LoopLemmas.{SoFar, body_onto}
use Rattle.liszt_parser.proofs.statement.+statement.Given as goal

abbrev pub decreases-statement_by_token : goal.decreases-statement_by_token
decreases-statement_by_token l = work (length (source_lexemes l.source.now)) l.at 2

abbrev pub decreases-block : goal.decreases-block
decreases-block l = work (length (source_lexemes l.source.now)) l.at 1

abbrev pub decreases-body : goal.decreases-body
decreases-body l = work (length (source_lexemes l.source.now)) l.at 4

abbrev pub decreases-conditional : goal.decreases-conditional
decreases-conditional l = work (length (source_lexemes l.source.now)) l.at 1

abbrev pub decreases-else_block : goal.decreases-else_block
decreases-else_block l = work (length (source_lexemes l.source.now)) l.at 1

abbrev pub decreases-repetition : goal.decreases-repetition
decreases-repetition l = work (length (source_lexemes l.source.now)) l.at 1

abbrev pub decreases-set_loop : goal.decreases-set_loop
decreases-set_loop l = work (length (source_lexemes l.source.now)) l.at 1

abbrev pub decreases-statement : goal.decreases-statement
decreases-statement l = work (length (source_lexemes l.source.now)) l.at 3

abbrev pub invariant-body-loop-body : goal.invariant-body-loop-body
invariant-body-loop-body l =
    record {
      after : l.fn.at ≤ l.here;
      within : l.here ≤ length (source_lexemes l.source);
      so_far : SoFar bodies (drop l.fn.at (source_lexemes l.source)) (drop l.here (source_lexemes l.source)) (body_onto (map statement_tree l.body));
    }

abbrev pub decreases-body-loop-body : goal.decreases-body-loop-body
decreases-body-loop-body l = length (source_lexemes l.source) - l.here
