use Rattle.liszt_parser.specs.Grammar.{lexemes}
use Rattle.liszt_parser.specs.Internal.Nesting.{IsCounted}
use Rattle.liszt_parser.proofs.nesting.first_deep.Given as goal

abbrev pub invariant-loop-place : goal.invariant-loop-place
invariant-loop-place l = IsCounted (lexemes l.text l.tokens) l.place l.nesting
