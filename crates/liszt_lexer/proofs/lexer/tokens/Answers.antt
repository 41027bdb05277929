use Rattle.std.proofs.Common.{Result, Err, sym, ap, subst, ◌∙◌}
use Rattle.std.proofs.lemmas.Result.{err_from_is_err_and}
use Rattle.liszt_base.specs.declared.answers.ProgramFault.{ProgramFault}
use Rattle.liszt_base.specs.declared.answers.Refused.{Refused}
use Rattle.liszt_lexer.specs.Internal.Leading.{piece_of}
use Rattle.liszt_base.specs.Gives.{Gives}
use Rattle.liszt_lexer.specs.Lexed.{LexedText, lexed_text}
use Rattle.liszt_lexer.proofs.LexedTextLemmas.{lexed_tokens}
use Rattle.liszt_lexer.specs.Internal.Remaining.{remaining_result}
use Rattle.liszt_lexer.proofs.RemainingTextLemmas.{leading_piece_at, remaining_step, fault_at_cursor, is_at_the_beginning, at_the_beginning, at_the_end, at_the_ends_place}
use Rattle.liszt_lexer.proofs.lexer.tokens.Goals as goal

pub loop-cursor-init : goal.loop-cursor-init
loop-cursor-init c =
    let text = c.args.text.now in
    rw (c.new-cursor.ensures, c.new-tokens.ensures) (record { at = is_at_the_beginning text; so_far = at_the_beginning text })

pub loop-cursor-preserved : goal.loop-cursor-preserved
loop-cursor-preserved c =
    let text = c.args.text.now in
    let front = c.leading_piece-front in
    let here = leading_piece_at text c.loop-cursor.cursor.passed front.result.size (piece_of front.result.content) front.ensures in
    let after = remaining_step text c.loop-cursor.cursor front.result.size (piece_of front.result.content) c.loop-cursor.tokens c.append_piece.new.tokens
    c.loop-cursor.invariant.at here c.in_ok-append_piece.ensures in
    record {
      at = c.pass.ensures.at;
      so_far = ap (λ n. remaining_result text n c.append_piece.new.tokens) c.pass.ensures.passed ∙ sym after ∙ c.loop-cursor.invariant.so_far;
    }

pub returns-in_err-append_piece : goal.returns-in_err-append_piece
returns-in_err-append_piece c =
    let text = c.args.text.now in
    let front = c.leading_piece-front in
    let here = leading_piece_at text c.loop-cursor.cursor.passed front.result.size (piece_of front.result.content) front.ensures in
    let p = err_from_is_err_and c.from_residual.result c.from_residual.ensures.1 in
    let e = c.in_err-append_piece.field-0.0 in
    let h = fault_at_cursor (Unit {0}) text c.loop-cursor.cursor front.result.size (piece_of front.result.content) c.loop-cursor.tokens
    c.append_piece.new.tokens e c.loop-cursor.invariant.so_far c.loop-cursor.invariant.at here c.in_err-append_piece.ensures in
    subst (λ (r : Result LexedText (Refused ProgramFault)). Gives (lexed_text text) r) (sym (p.1 ∙ ap Err p.2)) h

pub returns : goal.returns
returns c =
    let end = c.loop-cursor-test.false in
    lexed_tokens c.args.text.now c.loop-cursor.tokens c.loop-cursor.cursor.place
    (sym c.loop-cursor.invariant.so_far ∙ at_the_end c.args.text.now c.loop-cursor.cursor.passed c.loop-cursor.tokens end)
    (at_the_ends_place c.args.text.now c.loop-cursor.cursor c.loop-cursor.invariant.at end)
