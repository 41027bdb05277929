use Rattle.std.proofs.Common.{◌-◌, ◌≡◌, length}
use Rattle.liszt_lexer.specs.Lexer.{tokens_of}
use Rattle.liszt_lexer.specs.Internal.Remaining.{IsAt, remaining_result}
use Rattle.liszt_lexer.proofs.lexer.tokens.Given as goal

abbrev pub invariant-loop-cursor : goal.invariant-loop-cursor
invariant-loop-cursor l = record {
  at : IsAt l.text l.cursor;
  so_far : remaining_result l.text l.cursor.passed l.tokens ≡ tokens_of l.text;
}

abbrev pub decreases-loop-cursor : goal.decreases-loop-cursor
decreases-loop-cursor l = length l.text - l.cursor.passed
