use Rattle.std.proofs.Common.{◌+◌, ◌-◌, take, drop, get_or, ap, ◌∙◌}
use Rattle.liszt_lexer.specs.Internal.Remaining.{place_after_byte}
use Rattle.liszt_lexer.proofs.PlaceLemmas.{past_in_part}
use Rattle.liszt_lexer.proofs.cursor.Cursor.pass.Goals as goal

pub loop-byte-preserved : goal.loop-byte-preserved
loop-byte-preserved c =
    let text = c.args.text.now in
    let passed = c.args.self.now.passed in
    let i = c.loop-byte.byte-index in (
      c.loop-byte.invariant.0,
      c.place_after_byte-self.ensures
          ∙ ap (λ p. place_after_byte p (get_or (take (passed + c.args.size - passed) (drop passed text)) i 0)) c.loop-byte.invariant.1
          ∙ past_in_part text passed (passed + c.args.size - passed) i c.loop-byte-test.true,
    )
