-- What the rest of a text gives, one piece after the other, is what the text gives.
use Rattle.std.proofs.Common.{◌≡◌, ℕ, zero, suc, ◌+◌, ◌-◌, ◌≤◌, Option, None, Some, unwrap_or, Result, Ok, Err, List, [], ◌∷◌, ◌++◌}
use Rattle.std.proofs.Common.{length, map}
use Rattle.std.proofs.Common.{take, drop, take-add, length-append, append_assoc, refl, sym, ap, subst, ◌∙◌, arith}
use Rattle.std.specs.List.{cons_option, enumerate_from}
use Rattle.std.proofs.lemmas.List.{length-take-le, append-nil, drop-drop, drop_all, take_all}
use Rattle.std.proofs.lemmas.Slice.{between_to_end}
use Rattle.liszt_base.specs.declared.answers.Place.{Place}
use Rattle.liszt_base.specs.declared.answers.ProgramFault.{ProgramFault}
use Rattle.liszt_base.specs.declared.answers.ProgramWhat.{ProgramWhat}
use Rattle.liszt_base.specs.declared.answers.ProgramWhat.TheVariants.{BadByte}
use Rattle.liszt_base.specs.declared.answers.Refused.{Refused}
use Rattle.liszt_base.specs.declared.answers.Refused.TheVariants.{Fault as Faulty, NoMemory}
use Rattle.liszt_lexer.specs.declared.cursor.Cursor.{Cursor}
use Rattle.liszt_lexer.specs.declared.token.Token.{Token as TokenOf}
use Rattle.liszt_lexer.specs.declared.token.TokenKind.{TokenKind}
use Rattle.liszt_lexer.specs.Internal.Leading.{IsLeadingPiece}
use Rattle.liszt_base.specs.Gives.{Gives}
use Rattle.liszt_lexer.specs.Lexed.{lexed_text}
use Rattle.liszt_lexer.proofs.LexedTextLemmas.{lexed_fault}
use Rattle.liszt_lexer.specs.Lexer.{Piece, Gap, Token, Fault, Finding, finding, piece, pieces, pieces_after, findings_after, place_after}
use Rattle.liszt_lexer.specs.Lexer.{with_limit, with_limit_at, prepend, tokens_or_first_fault, tokens_of, end_of}
use Rattle.liszt_lexer.specs.Internal.Remaining.{IsAt, finding_at, append_finding, append_optional, Appends, prepend_all, remaining_result}

-- PIECES. After the first bytes are the pieces of the rest.
pieces_after_is : (k : ℕ) (bytes : List ℕ) → pieces_after k bytes ≡ pieces_after 0 (drop k bytes)
pieces_after_is zero bytes = refl
pieces_after_is (suc k) [] = refl
pieces_after_is (suc k) (b ∷ bytes) = pieces_after_is k bytes

-- and so they are after a piece
pieces_after_cut : (size b : ℕ) (bytes : List ℕ) → 1 ≤ size → pieces_after (size - 1) bytes ≡ pieces_after 0 (drop size (b ∷ bytes))
pieces_after_cut zero b bytes some = absurd (omega arith)
pieces_after_cut (suc k) b bytes some =
    let same : suc k - 1 ≡ k = omega arith in
    ap (λ n. pieces_after n bytes) same ∙ pieces_after_is k bytes

-- the first piece of a text, and those of what is leading_piece_at
first_piece : (text : List ℕ) (size : ℕ) (is : Piece) → IsLeadingPiece text size is → pieces text ≡ take size text ∷ pieces (drop size text)
first_piece [] size is front = absurd (omega (arith, front.some, front.within))
first_piece (b ∷ bytes) size is front =
    ap (λ n. take n (b ∷ bytes) ∷ pieces_after (n - 1) bytes) front.size_is
    ∙ ap (λ l. take size (b ∷ bytes) ∷ l) (pieces_after_cut size b bytes front.some)

-- the front of what is leading_piece_at, as the code cuts it
pub leading_piece_at : (text : List ℕ) (passed size : ℕ) (is : Piece) → IsLeadingPiece (take (length text - passed) (drop passed text)) size is
    → IsLeadingPiece (drop passed text) size is
leading_piece_at text passed size is front =
    let same : take (length text - passed) (drop passed text) ≡ drop passed text = between_to_end text passed (length text) (omega arith) in
    subst (λ (l : List ℕ). IsLeadingPiece l size is) same front

-- FINDINGS.
-- a fault and a token by their place
abbrev faulty : ProgramWhat → Place → Option Finding
faulty what place = Some (Err (record { what = what; place = place; first = None }))

abbrev tokened : TokenKind → Place → ℕ → ℕ → Option Finding
tokened kind place start end = Some (Ok (record { kind = kind; place = place; start = start; end = end }))

-- the finding of a piece is the one at the cursor
finding_at_is : (front bytes : List ℕ) (cursor : Cursor) (p : Option Piece) → cursor.place ≡ place_after front → length front ≡ cursor.passed
    → finding front bytes p ≡ finding_at cursor (length bytes) (unwrap_or p (Fault BadByte))
finding_at_is front bytes cursor None place size = ap (faulty BadByte) (sym place)
finding_at_is front bytes cursor (Some Gap) place size = refl
finding_at_is front bytes cursor (Some (Token kind)) place size =
    ap (λ (p : Place). tokened kind p (length front) (length front + length bytes)) (sym place)
    ∙ ap (λ (n : ℕ). tokened kind cursor.place n (n + length bytes)) size
finding_at_is front bytes cursor (Some (Fault what)) place size = ap (faulty what) (sym place)

-- the findings of what is leading_piece_at, with the first one apart
first_finding : (text : List ℕ) (cursor : Cursor) (size : ℕ) (is : Piece) → IsAt text cursor → IsLeadingPiece (drop cursor.passed text) size is
    → findings_after (take cursor.passed text) (pieces (drop cursor.passed text))
    ≡ cons_option (finding_at cursor size is)
    (findings_after (take (cursor.passed + size) text) (pieces (drop (cursor.passed + size) text)))
first_finding text cursor size is at front =
    let before = take cursor.passed text in
    let after = drop cursor.passed text in
    let fits : length before ≡ cursor.passed = length-take-le cursor.passed text at.within in
    let long : length (take size after) ≡ size = length-take-le size after front.within in
    let here : finding before (take size after) (piece (take size after)) ≡ finding_at cursor size is =
    finding_at_is before (take size after) cursor (piece (take size after)) at.place_is fits
    ∙ ap (λ (n : ℕ). finding_at cursor n (unwrap_or (piece (take size after)) (Fault BadByte))) long
    ∙ ap (finding_at cursor size) front.piece_is in
    let behind : findings_after (before ++ take size after) (pieces (drop size after))
    ≡ findings_after (take (cursor.passed + size) text) (pieces (drop (cursor.passed + size) text)) =
    ap (λ (l : List ℕ). findings_after l (pieces (drop size after))) (sym (take-add cursor.passed size text))
    ∙ ap (λ (l : List ℕ). findings_after (take (cursor.passed + size) text) (pieces l)) (drop-drop size cursor.passed text) in
    ap (findings_after before) (first_piece after size is front)
    ∙ ap (λ (f : Option Finding). cons_option f (findings_after (before ++ take size after) (pieces (drop size after)))) here
    ∙ ap (cons_option (finding_at cursor size is)) behind

-- TOKENS. With one finding more.
one_finding : (f : Option Finding) (rest : List Finding) (tokens new : List TokenOf) → append_optional tokens f ≡ Ok new
    → prepend_all tokens (tokens_or_first_fault (map with_limit (enumerate_from (length tokens) (cons_option f rest))))
    ≡ prepend_all new (tokens_or_first_fault (map with_limit (enumerate_from (length new) rest)))
one_finding None rest tokens new e =
    let same : tokens ≡ new = cc in
    ap (λ (l : List TokenOf). prepend_all l (tokens_or_first_fault (map with_limit (enumerate_from (length l) rest)))) same
one_finding (Some f) rest tokens new e = go (with_limit_at (length tokens) f) e where
  joined : (token : TokenOf) (more : Result (List TokenOf) ProgramFault)
      → prepend_all tokens (prepend token more) ≡ prepend_all (tokens ++ token ∷ []) more
  joined token (Ok more) = ap Ok (sym (append_assoc tokens (token ∷ []) more))
  joined token (Err fault) = refl

  go : (r : Finding) → append_finding tokens r ≡ Ok new
      → prepend_all tokens (tokens_or_first_fault (r ∷ map with_limit (enumerate_from (length tokens + 1) rest)))
      ≡ prepend_all new (tokens_or_first_fault (map with_limit (enumerate_from (length new) rest)))
  go (Ok token) e =
      let same : tokens ++ token ∷ [] ≡ new = cc in
      let longer : length tokens + 1 ≡ length (tokens ++ token ∷ []) = omega (arith, length-append tokens (token ∷ [])) in
      joined token (tokens_or_first_fault (map with_limit (enumerate_from (length tokens + 1) rest)))
      ∙ ap (λ (n : ℕ). prepend_all (tokens ++ token ∷ []) (tokens_or_first_fault (map with_limit (enumerate_from n rest)))) longer
      ∙ ap (λ (l : List TokenOf). prepend_all l (tokens_or_first_fault (map with_limit (enumerate_from (length l) rest)))) same
  go (Err fault) e = cc

-- and where that is a fault, or a token too many
one_fault : (f : Option Finding) (rest : List Finding) (tokens : List TokenOf) (fault : ProgramFault) → append_optional tokens f ≡ Err fault
    → prepend_all tokens (tokens_or_first_fault (map with_limit (enumerate_from (length tokens) (cons_option f rest)))) ≡ Err fault
one_fault None rest tokens fault e = cc
one_fault (Some f) rest tokens fault e = go (with_limit_at (length tokens) f) e where
  go : (r : Finding) → append_finding tokens r ≡ Err fault
      → prepend_all tokens (tokens_or_first_fault (r ∷ map with_limit (enumerate_from (length tokens + 1) rest))) ≡ Err fault
  go (Ok token) e = cc
  go (Err other) e = e

-- THE REST OF A TEXT gives the same after one piece more,
pub remaining_step : (text : List ℕ) (cursor : Cursor) (size : ℕ) (is : Piece) (tokens new : List TokenOf) → IsAt text cursor
    → IsLeadingPiece (drop cursor.passed text) size is → append_optional tokens (finding_at cursor size is) ≡ Ok new
    → remaining_result text cursor.passed tokens ≡ remaining_result text (cursor.passed + size) new
unfolding remaining_result
remaining_step text cursor size is tokens new at front e =
    let rest = findings_after (take (cursor.passed + size) text) (pieces (drop (cursor.passed + size) text)) in
    ap (λ (fs : List Finding). prepend_all tokens (tokens_or_first_fault (map with_limit (enumerate_from (length tokens) fs))))
    (first_finding text cursor size is at front) ∙ one_finding (finding_at cursor size is) rest tokens new e

-- is the fault where the piece is one or a token too many,
fault_of_piece : (text : List ℕ) (cursor : Cursor) (size : ℕ) (is : Piece) (tokens : List TokenOf) (fault : ProgramFault) → IsAt text cursor
    → IsLeadingPiece (drop cursor.passed text) size is → append_optional tokens (finding_at cursor size is) ≡ Err fault
    → remaining_result text cursor.passed tokens ≡ Err fault
unfolding remaining_result
fault_of_piece text cursor size is tokens fault at front e =
    let rest = findings_after (take (cursor.passed + size) text) (pieces (drop (cursor.passed + size) text)) in
    ap (λ (fs : List Finding). prepend_all tokens (tokens_or_first_fault (map with_limit (enumerate_from (length tokens) fs))))
    (first_finding text cursor size is at front) ∙ one_fault (finding_at cursor size is) rest tokens fault e

-- and so the call has its answer,
pub fault_at_cursor : (A : Type 0) (text : List ℕ) (cursor : Cursor) (size : ℕ) (is : Piece) (tokens new : List TokenOf) (e : Refused ProgramFault)
    → remaining_result text cursor.passed tokens ≡ tokens_of text → IsAt text cursor → IsLeadingPiece (drop cursor.passed text) size is
    → Appends {A = A} (append_optional tokens (finding_at cursor size is)) (Err e) new → Gives (lexed_text text) (Err e)
fault_at_cursor A text cursor size is tokens new (Faulty fault) so_far at front takes =
    lexed_fault text fault (sym so_far ∙ fault_of_piece text cursor size is tokens fault at front takes)
fault_at_cursor A text cursor size is tokens new NoMemory so_far at front takes = tt

-- is all at the beginning,
pub at_the_beginning : (text : List ℕ) → remaining_result text 0 [] ≡ tokens_of text
unfolding remaining_result
at_the_beginning text = go (tokens_of text) where
  go : (r : Result (List TokenOf) ProgramFault) → prepend_all [] r ≡ r
  go (Ok tokens) = refl
  go (Err fault) = refl

-- where the cursor begins,
pub is_at_the_beginning : (text : List ℕ) → IsAt text (record { passed = 0; place = record { line = 1; col = 1 } })
is_at_the_beginning text = record { within = omega arith; place_is = refl }

-- and nothing at the end,
pub at_the_end : (text : List ℕ) (passed : ℕ) (tokens : List TokenOf) → length text ≤ passed → remaining_result text passed tokens ≡ Ok tokens
unfolding remaining_result
at_the_end text passed tokens le =
    ap (λ (l : List ℕ). prepend_all tokens
    (tokens_or_first_fault (map with_limit (enumerate_from (length tokens) (findings_after (take passed text) (pieces l))))))
    (drop_all passed text le) ∙ ap Ok (append-nil tokens)

-- where the cursor's place is the text's.
pub at_the_ends_place : (text : List ℕ) (cursor : Cursor) → IsAt text cursor → length text ≤ cursor.passed → cursor.place ≡ end_of text
at_the_ends_place text cursor at le = at.place_is ∙ ap place_after (take_all cursor.passed text le)
