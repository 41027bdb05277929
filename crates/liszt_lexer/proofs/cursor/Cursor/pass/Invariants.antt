use Rattle.std.proofs.Common.{◌≡◌, ◌+◌, take}
use Rattle.liszt_lexer.specs.Lexer.{place_after}
use Rattle.liszt_lexer.proofs.cursor.Cursor.pass.Given as goal

abbrev pub invariant-loop-byte : goal.invariant-loop-byte
invariant-loop-byte l =
    (l.self.passed ≡ l.fn.self.passed) × (l.self.place ≡ place_after (take (l.fn.self.passed + l.byte-index) l.text))
