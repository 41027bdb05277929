use Rattle.std.proofs.Common.{◌+◌, ◌-◌, ◌≤◌, length, drop, map}
use Rattle.liszt_tree.specs.Tree.{expression}
use Rattle.liszt_parser.specs.Grammar.{operand}
use Rattle.liszt_parser.specs.Internal.Productions.{links}
use Rattle.liszt_parser.specs.Internal.Sorts.{Stops}
use Rattle.liszt_parser.specs.Internal.Sources.{source_lexemes}
use Rattle.liszt_parser.proofs.MeasureLemmas.{work, operand_work}
use Rattle.liszt_parser.proofs.LoopLemmas.{SoFar, links_onto}
use Rattle.liszt_parser.proofs.expression.+expression.Given as goal

abbrev pub decreases-primary_expression : goal.decreases-primary_expression
decreases-primary_expression l = work (length (source_lexemes l.source.now)) l.at 3

abbrev pub decreases-argument : goal.decreases-argument
decreases-argument l = work (length (source_lexemes l.source.now)) l.at 2

abbrev pub decreases-bracketed_expression : goal.decreases-bracketed_expression
decreases-bracketed_expression l = work (length (source_lexemes l.source.now)) l.at 1

abbrev pub decreases-call : goal.decreases-call
decreases-call l = work (length (source_lexemes l.source.now)) l.at 1

abbrev pub decreases-chain : goal.decreases-chain
decreases-chain l = work (length (source_lexemes l.source.now)) l.at (operand_work l.level + 1)

abbrev pub decreases-comparison_tail : goal.decreases-comparison_tail
decreases-comparison_tail l = work (length (source_lexemes l.source.now)) l.at 0

abbrev pub decreases-comparison : goal.decreases-comparison
decreases-comparison l = work (length (source_lexemes l.source.now)) l.at 9

abbrev pub decreases-logical_not : goal.decreases-logical_not
decreases-logical_not l = work (length (source_lexemes l.source.now)) l.at 1

abbrev pub decreases-expression : goal.decreases-expression
decreases-expression l = work (length (source_lexemes l.source.now)) l.at 14

abbrev pub decreases-links : goal.decreases-links
decreases-links l = work (length (source_lexemes l.source.now)) l.at 0

abbrev pub decreases-name : goal.decreases-name
decreases-name l = work (length (source_lexemes l.source.now)) l.at 1

abbrev pub decreases-negation : goal.decreases-negation
decreases-negation l = work (length (source_lexemes l.source.now)) l.at 1

abbrev pub decreases-operand : goal.decreases-operand
decreases-operand l = work (length (source_lexemes l.source.now)) l.at (operand_work l.level)

abbrev pub decreases-prefix_expression : goal.decreases-prefix_expression
decreases-prefix_expression l = work (length (source_lexemes l.source.now)) l.at 4

abbrev pub decreases-towards : goal.decreases-towards
decreases-towards l = work (length (source_lexemes l.source.now)) l.at 1

abbrev pub decreases-value : goal.decreases-value
decreases-value l = work (length (source_lexemes l.source.now)) l.at 2

abbrev pub invariant-links-loop-token : goal.invariant-links-loop-token
invariant-links-loop-token l =
    record {
      after : l.fn.at ≤ l.here;
      within : l.here ≤ length (source_lexemes l.source);
      stops : Stops (operand l.level) (drop l.here (source_lexemes l.source));
      so_far : SoFar (links l.level) (drop l.fn.at (source_lexemes l.source)) (drop l.here (source_lexemes l.source)) (links_onto (map (λ x. (x.op, x.place, expression x.arg)) l.rest));
    }

abbrev pub decreases-links-loop-token : goal.decreases-links-loop-token
decreases-links-loop-token l = length (source_lexemes l.source) - l.here
