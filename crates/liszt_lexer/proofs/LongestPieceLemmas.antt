-- The pieces of a text are the longest, and its tokens are the pieces that are no gaps.
use Rattle.std.proofs.Common.{◌≡◌, ℕ, zero, suc, ◌-◌, ◌<◌, ◌≤◌, ◌⊎◌, inl, inr, cond, Bool, true, false, Option, Some, None, is_some}
use Rattle.std.proofs.Common.{unwrap_or, List, [], ◌∷◌, ◌++◌, length, map, take, drop, Ok, refl, sym, ap, subst, ◌∙◌, append_assoc, arith}
use Rattle.std.specs.List.{find, filter, concat, cons_option}
use Rattle.std.proofs.Math.Seq.{drop-nil}
use Rattle.std.proofs.lemmas.List.{length-take-le}
use Rattle.liszt_lexer.specs.declared.token.Token.{Token as TokenOf}
use Rattle.liszt_lexer.specs.declared.token.TokenKind.{TokenKind}
use Rattle.liszt_lexer.specs.Lexer.{Piece, Gap, Token, Fault, down_from, longest_size, piece, pieces_after, pieces, finding, Finding}
use Rattle.liszt_lexer.specs.Lexer.{findings_after, token_after, tokens_of, bytes_of, AreLongest, is_no_gap}
use Rattle.liszt_lexer.proofs.PieceLemmas.{size_at, some_byte, pieces_join}
use Rattle.liszt_lexer.proofs.FindingLemmas.{Reading, findings_by, same_findings, all_below_limit, bytes_between}

-- a number passes a test, and none above it up to n does
abbrev IsLargest : (ℕ → Bool) → ℕ → ℕ → Type 0
IsLargest test n size = (size ≤ n) × (test size ≡ true) × ((more : ℕ) → size < more → more ≤ n → test more ≡ false)

-- up to one more is up to it or one more
pub at_or_below : (k n : ℕ) → k ≤ suc n → (k ≡ suc n) ⊎ (k ≤ n)
at_or_below k n le = grind arith

-- where the number above fails too, one that is not above n fails
fails_at : (test : ℕ → Bool) (k n : ℕ) → test (suc n) ≡ false → (k ≤ n → test k ≡ false) → (k ≡ suc n) ⊎ (k ≤ n) → test k ≡ false
fails_at test k n last below (inl e) = ap test e ∙ last
fails_at test k n last below (inr le) = below le

-- by the test of the number above
find_largest_step : (test : ℕ → Bool) (n size : ℕ) (b : Bool) → test (suc n) ≡ b
    → cond b (Some (suc n)) (find test (down_from n)) ≡ Some size
    → (find test (down_from n) ≡ Some size → IsLargest test n size) → IsLargest test (suc n) size
find_largest_step test n size true is e below =
    let same : suc n ≡ size = cc in
    (omega arith, ap test (sym same) ∙ is, λ more lt le. absurd (omega arith))
find_largest_step test n size false is e below =
    let h = below e in
    (omega (arith, h.0), h.1, λ more lt le. fails_at test more n is (h.2 more lt) (at_or_below more n le))

-- what is find_largest in a list that goes down to 1 is the largest that passes
find_largest : (test : ℕ → Bool) (n size : ℕ) → find test (down_from n) ≡ Some size → IsLargest test n size
find_largest test zero size e = cc
find_largest test (suc n) size e = find_largest_step test n size (test (suc n)) refl e (find_largest test n size)

-- by the test of the number above
not_found_step : (test : ℕ → Bool) (n : ℕ) (b : Bool) → test (suc n) ≡ b → cond b (Some (suc n)) (find test (down_from n)) ≡ None
    → (find test (down_from n) ≡ None → (k : ℕ) → 1 ≤ k → k ≤ n → test k ≡ false) → (k : ℕ) → 1 ≤ k → k ≤ suc n → test k ≡ false
not_found_step test n true is e below k some le = cc
not_found_step test n false is e below k some le = fails_at test k n is (below e k some) (at_or_below k n le)

-- where nothing is find_largest in a list that goes down to 1 none passes
not_found : (test : ℕ → Bool) (n : ℕ) → find test (down_from n) ≡ None → (k : ℕ) → 1 ≤ k → k ≤ n → test k ≡ false
not_found test zero e k some le = absurd (omega arith)
not_found test (suc n) e k some le = not_found_step test n (test (suc n)) refl e (not_found test n) k some le

-- what is not some is none
is_none : {A : Type 0} (o : Option A) → is_some o ≡ false → o ≡ None
is_none None e = refl
is_none (Some x) e = cc

-- the longest piece at the front
pub is_longest : (bytes : List ℕ) (size : ℕ) → longest_size bytes ≡ Some size
    → (size ≤ length bytes) × (is_some (piece (take size bytes)) ≡ true)
    × ((more : ℕ) → size < more → more ≤ length bytes → piece (take more bytes) ≡ None)
is_longest bytes size e =
    let h = find_largest (λ n. is_some (piece (take n bytes))) (length bytes) size e in
    (h.0, h.1, λ more lt le. is_none (piece (take more bytes)) (h.2 more lt le))

-- no piece at the front
pub is_nowhere : (bytes : List ℕ) → longest_size bytes ≡ None → (size : ℕ) → 1 ≤ size → size ≤ length bytes → piece (take size bytes) ≡ None
is_nowhere bytes e size some le =
    is_none (piece (take size bytes)) (not_found (λ n. is_some (piece (take n bytes))) (length bytes) e size some le)

-- what is find_largest in a list that goes down to 1 is no more than the list's first
at_most : (test : ℕ → Bool) (n m : ℕ) → 1 ≤ m → n ≤ m → unwrap_or (find test (down_from n)) 1 ≤ m
at_most test zero m some le = some
at_most test (suc n) m some le = go (test (suc n)) (at_most test n m some (omega arith)) where
  go : (b : Bool) → unwrap_or (find test (down_from n)) 1 ≤ m → unwrap_or (cond b (Some (suc n)) (find test (down_from n))) 1 ≤ m
  go true h = le
  go false h = h

-- one piece and what is after it
one_more_piece : (text : List ℕ) (size : ℕ) (more : List (List ℕ)) → size ≡ unwrap_or (longest_size text) 1 → size ≤ length text
    → AreLongest (drop size text) more → AreLongest text (take size text ∷ more)
one_more_piece text size more is within h =
    let same = length-take-le size text within in
    (same ∙ is, sym (ap (λ n. take n text) same), subst (λ (n : ℕ). AreLongest (drop n text) more) (sym same) h)

-- what is after at least one byte
after_one_piece : (b : ℕ) (bytes : List ℕ) (size : ℕ) (rest : ℕ → List (List ℕ)) → 1 ≤ size
    → ((k : ℕ) → AreLongest (drop k bytes) (rest k)) → AreLongest (drop size (b ∷ bytes)) (rest (size - 1))
after_one_piece b bytes zero rest some h = absurd (omega arith)
after_one_piece b bytes (suc n) rest some h =
    let same : n ≡ suc n - 1 = omega arith in
    subst (λ (k : ℕ). AreLongest (drop n bytes) (rest k)) same (h n)

-- the pieces after the first k bytes are the longest
longest_size_after : (bytes : List ℕ) (k : ℕ) → AreLongest (drop k bytes) (pieces_after k bytes)
longest_size_after [] k = drop-nil k
longest_size_after (b ∷ bytes) (suc k) = longest_size_after bytes k
longest_size_after (b ∷ bytes) zero =
    let within : size_at b bytes ≤ length (b ∷ bytes) =
    at_most (λ n. is_some (piece (take n (b ∷ bytes)))) (length (b ∷ bytes)) (length (b ∷ bytes)) (omega arith) (omega arith) in
    one_more_piece (b ∷ bytes) (size_at b bytes) (pieces_after (size_at b bytes - 1) bytes) refl within
    (after_one_piece b bytes (size_at b bytes) (λ k. pieces_after k bytes) (some_byte b bytes) (longest_size_after bytes))

-- the pieces of a text are the longest
pub all_longest : (text : List ℕ) → AreLongest text (pieces text)
all_longest text = longest_size_after text 0

-- by what the piece at the front is: a gap, a token or a fault
one_more_token : (what : Reading) (text front bytes : List ℕ) (rest : List Finding) (more : List (List ℕ)) (tokens : List TokenOf)
    (p : Option Piece) → ((kind : TokenKind) → bytes_of text (token_after front bytes kind) ≡ bytes)
    → ((ts : List TokenOf) → rest ≡ map Ok ts → map (bytes_of text) ts ≡ filter (λ bytes. is_no_gap (what bytes)) more)
    → cons_option (finding front bytes p) rest ≡ map Ok tokens
    → map (bytes_of text) tokens
    ≡ cond (is_no_gap p) (bytes ∷ filter (λ bytes. is_no_gap (what bytes)) more) (filter (λ bytes. is_no_gap (what bytes)) more)
one_more_token what text front bytes rest more tokens (Some Gap) here behind e = behind tokens e
one_more_token what text front bytes rest more [] None here behind e = cc
one_more_token what text front bytes rest more (t ∷ ts) None here behind e = cc
one_more_token what text front bytes rest more [] (Some (Fault fault)) here behind e = cc
one_more_token what text front bytes rest more (t ∷ ts) (Some (Fault fault)) here behind e = cc
one_more_token what text front bytes rest more [] (Some (Token kind)) here behind e = cc
one_more_token what text front bytes rest more (t ∷ ts) (Some (Token kind)) here behind e =
    let same : t ≡ token_after front bytes kind = cc in
    let after : rest ≡ map Ok ts = cc in
    ap (λ (u : TokenOf). bytes_of text u ∷ map (bytes_of text) ts) same
    ∙ ap (λ (l : List ℕ). l ∷ map (bytes_of text) ts) (here kind) ∙ ap (λ (ls : List (List ℕ)). bytes ∷ ls) (behind ts after)

-- findings that are all tokens have the bytes of the pieces that are no gaps
as_pieces : (what : Reading) (text : List ℕ) (ps : List (List ℕ)) (front : List ℕ) (tokens : List TokenOf) → front ++ concat ps ≡ text
    → findings_by what front ps ≡ map Ok tokens → map (bytes_of text) tokens ≡ filter (λ bytes. is_no_gap (what bytes)) ps
as_pieces what text [] front [] is e = refl
as_pieces what text [] front (t ∷ ts) is e = cc
as_pieces what text (bytes ∷ more) front tokens is e =
    one_more_token what text front bytes (findings_by what (front ++ bytes) more) more tokens (what bytes)
    (λ kind. subst (λ (l : List ℕ). bytes_of l (token_after front bytes kind) ≡ bytes) is (bytes_between front bytes (concat more)))
    (λ ts. as_pieces what text more (front ++ bytes) ts (append_assoc front bytes (concat more) ∙ is)) e

-- the tokens of a text are its pieces that are no gaps
pub tokens_as_pieces : (text : List ℕ) (tokens : List TokenOf) → tokens_of text ≡ Ok tokens
    → map (bytes_of text) tokens ≡ filter (λ bytes. is_no_gap (piece bytes)) (pieces text)
tokens_as_pieces text tokens e =
    as_pieces piece text (pieces text) [] tokens (pieces_join text)
    (sym (same_findings [] (pieces text)) ∙ all_below_limit 0 (findings_after [] (pieces text)) tokens e)
