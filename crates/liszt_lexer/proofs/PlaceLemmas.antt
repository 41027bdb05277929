-- The place after a longer prefix of a text is after the place after a shorter one.
use Rattle.std.proofs.Common.{◌≡◌, ℕ, zero, suc, ◌+◌, ◌-◌, ◌<◌, ◌≤◌, ◌⊎◌, inl, inr, not, cond, Bool, true, false, List, [], ◌∷◌, ◌++◌}
use Rattle.std.proofs.Common.{length, reverse, get_or, take, drop, refl, sym, ap, subst, ◌∙◌, length-drop, length-take, arith}
use Rattle.std.specs.List.{count_by, after_last, prefix_len}
use Rattle.std.proofs.lemmas.List.{take_more, get_or-take, get_or-drop, length-take-le, length-reverse, reverse-append}
use Rattle.std.proofs.lemmas.List.Sums.{count_by_more_no, count_by_more_yes, count_by-le-length, prefix_len-le-length}
use Rattle.liszt_base.specs.declared.answers.Place.{Place}
use Rattle.liszt_lexer.specs.Lexer.{is_line_feed, place_after, IsBefore}
use Rattle.liszt_lexer.specs.Internal.Remaining.{place_after_byte}

-- the number of bytes after the last LF
length_after : (front : List ℕ) → length (after_last is_line_feed front) ≡ prefix_len (λ b. not (is_line_feed b)) (reverse front)
length_after front =
    let n = prefix_len (λ b. not (is_line_feed b)) (reverse front) in
    let few = prefix_len-le-length (λ b. not (is_line_feed b)) (reverse front) in
    omega (arith, length-drop (length front - n) front, few, length-reverse front)

-- with one byte more that is no LF it is one more
one_more : (front : List ℕ) (b : ℕ) → is_line_feed b ≡ false
    → length (after_last is_line_feed (front ++ b ∷ [])) ≡ length (after_last is_line_feed front) + 1
one_more front b e =
    let turned : reverse (front ++ b ∷ []) ≡ b ∷ reverse front = reverse-append front (b ∷ []) in
    let n = prefix_len (λ b. not (is_line_feed b)) (reverse front) in
    let here : cond (not (is_line_feed b)) (1 + n) 0 ≡ 1 + n = ap (λ t. cond (not t) (1 + n) 0) e in
    let longer : prefix_len (λ b. not (is_line_feed b)) (reverse (front ++ b ∷ [])) ≡ 1 + n =
    ap (prefix_len (λ b. not (is_line_feed b))) turned ∙ here in
    omega (arith, length_after (front ++ b ∷ []), length_after front)

-- after an LF there is nothing yet
none_more : (front : List ℕ) (b : ℕ) → is_line_feed b ≡ true → length (after_last is_line_feed (front ++ b ∷ [])) ≡ 0
none_more front b e =
    let turned : reverse (front ++ b ∷ []) ≡ b ∷ reverse front = reverse-append front (b ∷ []) in
    let n = prefix_len (λ b. not (is_line_feed b)) (reverse front) in
    let here : cond (not (is_line_feed b)) (1 + n) 0 ≡ 0 = ap (λ t. cond (not t) (1 + n) 0) e in
    length_after (front ++ b ∷ []) ∙ ap (prefix_len (λ b. not (is_line_feed b))) turned ∙ here

-- what comes before is carried over a place between
before_transitive : (p q r : Place) → IsBefore p q → IsBefore q r → IsBefore p r
before_transitive p q r (inl a) (inl b) = inl (omega arith)
before_transitive p q r (inl a) (inr b) = inl (omega (arith, b.0))
before_transitive p q r (inr a) (inl b) = inl (omega (arith, a.0))
before_transitive p q r (inr a) (inr b) = inr (omega (arith, a.0, b.0), omega (arith, a.1, b.1))

-- the place after one more byte is later
place_step : (text : List ℕ) (i : ℕ) → i < length text → IsBefore (place_after (take i text)) (place_after (take (i + 1) text))
place_step text i within = go (is_line_feed (get_or text i 0)) refl where
  go : (test : Bool) → is_line_feed (get_or text i 0) ≡ test → IsBefore (place_after (take i text)) (place_after (take (i + 1) text))
  go true e = inl (omega (arith, count_by_more_yes is_line_feed text i 0 within e))
  go false e =
      let lines : count_by is_line_feed (take (i + 1) text) ≡ count_by is_line_feed (take i text) =
      count_by_more_no is_line_feed text i 0 within e in
      let cols : length (after_last is_line_feed (take (i + 1) text)) ≡ length (after_last is_line_feed (take i text)) + 1 =
      ap (λ l. length (after_last is_line_feed l)) (take_more text i 0 within) ∙ one_more (take i text) (get_or text i 0) e in
      inr (omega (arith, lines), omega (arith, cols))

-- a place is before the one after the next byte where it is before this one, or is this one
before_or_same : (text : List ℕ) (i j : ℕ) → j < length text → (i ≡ j) ⊎ IsBefore (place_after (take i text)) (place_after (take j text))
    → IsBefore (place_after (take i text)) (place_after (take (suc j) text))
before_or_same text i j within so_far =
    let one : j + 1 ≡ suc j = omega arith in
    let next : IsBefore (place_after (take j text)) (place_after (take (suc j) text)) =
    subst (λ (n : ℕ). IsBefore (place_after (take j text)) (place_after (take n text))) one (place_step text j within) in
    go so_far next where
      go : (i ≡ j) ⊎ IsBefore (place_after (take i text)) (place_after (take j text))
          → IsBefore (place_after (take j text)) (place_after (take (suc j) text))
          → IsBefore (place_after (take i text)) (place_after (take (suc j) text))
      go (inl e) next = subst (λ (n : ℕ). IsBefore (place_after (take n text)) (place_after (take (suc j) text))) (sym e) next
      go (inr h) next = before_transitive (place_after (take i text)) (place_after (take j text)) (place_after (take (suc j) text)) h next

-- up to a number is below it or at it
same_or_less : (i j : ℕ) → i < suc j → (i ≡ j) ⊎ (i < j)
same_or_less i j lt = grind arith

-- the place after more bytes of a text is later
pub ascends : (text : List ℕ) (i j : ℕ) → i < j → j ≤ length text → IsBefore (place_after (take i text)) (place_after (take j text))
ascends text i zero lt within = absurd (omega arith)
ascends text i (suc j) lt within =
    before_or_same text i j within (go (same_or_less i j lt) (λ less. ascends text i j less (omega arith)))
  where
    go : (i ≡ j) ⊎ (i < j) → (i < j → IsBefore (place_after (take i text)) (place_after (take j text)))
        → (i ≡ j) ⊎ IsBefore (place_after (take i text)) (place_after (take j text))
    go (inl e) more = inl e
    go (inr less) more = inr (more less)

-- a place that is the same in both parts
same_place : (line line' col col' : ℕ) → line ≡ line' → col ≡ col'
    → ◌≡◌ {A = Place} (record { line = line; col = col }) (record { line = line'; col = col' })
same_place line line' col col' p q = λ i. record { line = p i; col = q i }

-- the place past the next byte is the one after the bytes up to there
pub past_next : (text : List ℕ) (i : ℕ) → i < length text
    → place_after_byte (place_after (take i text)) (get_or text i 0) ≡ place_after (take (i + 1) text)
past_next text i within = go (is_line_feed (get_or text i 0)) refl where
  go : (test : Bool) → is_line_feed (get_or text i 0) ≡ test
      → place_after_byte (place_after (take i text)) (get_or text i 0) ≡ place_after (take (i + 1) text)
  go true e = rw e (same_place (count_by is_line_feed (take i text) + 1 + 1) (count_by is_line_feed (take (i + 1) text) + 1) 1
      (length (after_last is_line_feed (take (i + 1) text)) + 1) (omega (arith, count_by_more_yes is_line_feed text i 0 within e))
      (omega (
        arith,
        ap (λ l. length (after_last is_line_feed l)) (take_more text i 0 within),
        none_more (take i text) (get_or text i 0) e,
      )))
  go false e = rw e (same_place (count_by is_line_feed (take i text) + 1) (count_by is_line_feed (take (i + 1) text) + 1)
      (length (after_last is_line_feed (take i text)) + 1 + 1) (length (after_last is_line_feed (take (i + 1) text)) + 1)
      (omega (arith, count_by_more_no is_line_feed text i 0 within e))
      (omega (arith, ap (λ l. length (after_last is_line_feed l)) (take_more text i 0 within), one_more (take i text) (get_or text i 0) e)))

-- lines and columns are no more than the bytes and one
pub place_is_small : (text : List ℕ) (n : ℕ) → n ≤ length text
    → ((place_after (take n text)).line ≤ n + 1) × ((place_after (take n text)).col ≤ n + 1)
place_is_small text n le =
    let size = length-take-le n text le in (
      omega (arith, count_by-le-length is_line_feed (take n text)),
      omega (
        arith,
        length_after (take n text),
        prefix_len-le-length (λ b. not (is_line_feed b)) (reverse (take n text)),
        length-reverse (take n text),
      ),
    )

-- so it is where the bytes are a part of the text
pub past_in_part : (text : List ℕ) (passed n i : ℕ) → i < length (take n (drop passed text))
    → place_after_byte (place_after (take (passed + i) text)) (get_or (take n (drop passed text)) i 0)
    ≡ place_after (take (passed + (i + 1)) text)
past_in_part text passed n i lt =
    let few : i < n = omega (arith, length-take n (drop passed text)) in
    let within : passed + i < length text = omega (arith, length-take n (drop passed text), length-drop passed text) in
    let same : passed + i + 1 ≡ passed + (i + 1) = omega arith in
    let byte : get_or (take n (drop passed text)) i 0 ≡ get_or text (passed + i) 0 =
    get_or-take n (drop passed text) i 0 few ∙ get_or-drop passed text i 0 in
    ap (place_after_byte (place_after (take (passed + i) text))) byte ∙ past_next text (passed + i) within
    ∙ ap (λ (k : ℕ). place_after (take k text)) same
