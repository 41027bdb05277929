-- The pieces of a text are the whole text, and none of them is empty.
use Rattle.std.proofs.Common.{◌≡◌, ℕ, zero, suc, ◌-◌, ◌<◌, ◌≤◌, cond, Bool, true, false, Some, is_some, unwrap_or, List, [], ◌∷◌, ◌++◌}
use Rattle.std.proofs.Common.{length, take, drop, sym, ap, ◌∙◌, arith}
use Rattle.std.specs.List.{find, concat, AllByRecursion}
use Rattle.std.proofs.lemmas.List.{take-append-drop}
use Rattle.std.proofs.Math.Seq.{drop-nil}
use Rattle.liszt_lexer.specs.Lexer.{down_from, longest_size, piece, pieces_after, pieces}

-- what is found in a list that goes down to 1 is at least 1
at_least_one : (test : ℕ → Bool) (n : ℕ) → 1 ≤ unwrap_or (find test (down_from n)) 1
at_least_one test zero = omega arith
at_least_one test (suc n) = go (test (suc n)) (at_least_one test n) where
  go : (b : Bool) → 1 ≤ unwrap_or (find test (down_from n)) 1 → 1 ≤ unwrap_or (cond b (Some (suc n)) (find test (down_from n))) 1
  go true h = omega arith
  go false h = h

-- one piece and what is concat_pieces_after it
piece_joined : (b : ℕ) (bytes : List ℕ) (size : ℕ) (rest : ℕ → List (List ℕ)) → 1 ≤ size → ((k : ℕ) → concat (rest k) ≡ drop k bytes)
    → concat (take size (b ∷ bytes) ∷ rest (size - 1)) ≡ b ∷ bytes
piece_joined b bytes zero rest some more = absurd (omega arith)
piece_joined b bytes (suc n) rest some more =
    let same : suc n - 1 ≡ n = omega arith in
    rw same (ap (λ l. (b ∷ take n bytes) ++ l) (more n) ∙ ap (λ l. b ∷ l) (take-append-drop n bytes))

-- how many bytes the piece at the front has
abbrev pub size_at : ℕ → List ℕ → ℕ
size_at b bytes = unwrap_or (longest_size (b ∷ bytes)) 1

-- it is at least one
pub some_byte : (b : ℕ) (bytes : List ℕ) → 1 ≤ size_at b bytes
some_byte b bytes = at_least_one (λ n. is_some (piece (take n (b ∷ bytes)))) (length (b ∷ bytes))

-- the pieces concat_pieces_after the first k bytes are the bytes concat_pieces_after them
concat_pieces_after : (bytes : List ℕ) (k : ℕ) → concat (pieces_after k bytes) ≡ drop k bytes
concat_pieces_after [] k = sym (drop-nil k)
concat_pieces_after (b ∷ bytes) (suc k) = concat_pieces_after bytes k
concat_pieces_after (b ∷ bytes) zero = piece_joined b bytes (size_at b bytes) (λ k. pieces_after k bytes) (some_byte b bytes) (concat_pieces_after bytes)

-- the pieces of a text are the whole text
pub pieces_join : (text : List ℕ) → concat (pieces text) ≡ text
pieces_join text = concat_pieces_after text 0

-- the piece has a byte
abbrev pub IsNotEmpty : List ℕ → Type 0
IsNotEmpty bytes = 0 < length bytes

-- at least one byte of a text that has one is not nothing
leading_piece_is_not_empty : (b : ℕ) (bytes : List ℕ) (size : ℕ) → 1 ≤ size → IsNotEmpty (take size (b ∷ bytes))
leading_piece_is_not_empty b bytes zero some = absurd (omega arith)
leading_piece_is_not_empty b bytes (suc n) some = omega arith

-- no piece concat_pieces_after the first k bytes is empty
none_empty_after : (bytes : List ℕ) (k : ℕ) → AllByRecursion IsNotEmpty (pieces_after k bytes)
none_empty_after [] k = tt
none_empty_after (b ∷ bytes) (suc k) = none_empty_after bytes k
none_empty_after (b ∷ bytes) zero =
    (leading_piece_is_not_empty b bytes (size_at b bytes) (some_byte b bytes), none_empty_after bytes (size_at b bytes - 1))

-- no piece of a text is empty
pub none_empty : (text : List ℕ) → AllByRecursion IsNotEmpty (pieces text)
none_empty text = none_empty_after text 0
