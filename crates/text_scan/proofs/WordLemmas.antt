-- The first word of a text, and what follows it.
use Rattle.std.proofs.Common.{◌≡◌, ℕ, suc, ◌<◌, not, Bool, true, false, List, [], ◌∷◌, take, drop, length, refl, sym, ap, subst, ◌∙◌, arith, lt-ltb}
use Rattle.std.specs.List.{slice_split, onto_first, position_or_len, filter}
use Rattle.text_scan.specs.Rows.{is_blank, is_nonempty}
use Rattle.text_scan.specs.Internal.OpenRows.{words_in}

-- where the first byte that passes stands, a byte further
abbrev pub place_of : (ℕ → Bool) → List ℕ → ℕ
place_of test text = position_or_len test text

pub place_here : (test : ℕ → Bool) (b : ℕ) (text : List ℕ) → test b ≡ true → place_of test (b ∷ text) ≡ 0
place_here test b text e = rw e refl

pub place_further : (test : ℕ → Bool) (b : ℕ) (text : List ℕ) → test b ≡ false → place_of test (b ∷ text) ≡ suc (place_of test text)
place_further test b text e = rw e (omega arith)

-- blanks in front are no words, and what is left after them begins with a word, or is nothing
abbrev is_letter : ℕ → Bool
is_letter b = not (is_blank b)

abbrev StartsWord : List ℕ → Type 0
StartsWord [] = Unit {0}
StartsWord (b ∷ text) = is_blank b ≡ false

abbrev LeavesWord : List ℕ → ℕ → Type 0
LeavesWord text n = (words_in text ≡ words_in (drop n text)) × StartsWord (drop n text)

skip_blanks : (text : List ℕ) → LeavesWord text (place_of is_letter text)
skip_blanks [] = (refl, tt)
skip_blanks (b ∷ text) = go (is_blank b) refl (skip_blanks text)
  where
    go : (blank : Bool) → is_blank b ≡ blank → LeavesWord text (place_of is_letter text) → LeavesWord (b ∷ text) (place_of is_letter (b ∷ text))
    go true is h =
        let at = place_further is_letter b text (ap not is) in
        let one : words_in (b ∷ text) ≡ words_in text = rw is refl in
        subst (LeavesWord (b ∷ text)) (sym at) (one ∙ h.0, h.1)
    go false is h = subst (LeavesWord (b ∷ text)) (sym (place_here is_letter b text (ap not is))) (refl, is)

-- a text is a word and what follows it, where the word may be empty
abbrev CutsWord : List ℕ → List (List ℕ) → ℕ → Type 0
CutsWord text parts n = (more : List (List ℕ)) × (parts ≡ take n text ∷ more) × (filter is_nonempty more ≡ words_in (drop n text))

cuts_word : (text : List ℕ) → CutsWord text (slice_split is_blank text) (place_of is_blank text)
cuts_word [] = ([], refl, refl)
cuts_word (b ∷ text) = go (is_blank b) refl (cuts_word text)
  where
    go : (blank : Bool) → is_blank b ≡ blank → CutsWord text (slice_split is_blank text) (place_of is_blank text)
        → CutsWord (b ∷ text) (slice_split is_blank (b ∷ text)) (place_of is_blank (b ∷ text))
    go true is h =
        let at = place_here is_blank b text is in
        subst (CutsWord (b ∷ text) (slice_split is_blank (b ∷ text))) (sym at) (slice_split is_blank text, rw is refl, rw is refl)
    go false is h =
        let at = place_further is_blank b text is in
        let parts : slice_split is_blank (b ∷ text) ≡ (b ∷ take (place_of is_blank text) text) ∷ h.0 = rw is (ap (onto_first b) h.1) in
        subst (CutsWord (b ∷ text) (slice_split is_blank (b ∷ text))) (sym at) (h.0, parts, h.2)

-- a word of a byte or more is kept
word_nonempty : (b : ℕ) (word : List ℕ) (more : List (List ℕ)) → filter is_nonempty ((b ∷ word) ∷ more) ≡ (b ∷ word) ∷ filter is_nonempty more
word_nonempty b word more = rw (lt-ltb 0 (suc (length word)) (omega arith)) refl

-- where a word stands in front it is the first
word_split : (b : ℕ) (text : List ℕ) → is_blank b ≡ false
    → words_in (b ∷ text) ≡ take (place_of is_blank (b ∷ text)) (b ∷ text) ∷ words_in (drop (place_of is_blank (b ∷ text)) (b ∷ text))
word_split b text is =
    let h = cuts_word text in
    let at = place_further is_blank b text is in
    let parts : slice_split is_blank (b ∷ text) ≡ (b ∷ take (place_of is_blank text) text) ∷ h.0 = rw is (ap (onto_first b) h.1) in
    let kept = word_nonempty b (take (place_of is_blank text) text) h.0 in
    let ends : words_in (b ∷ text) ≡ (b ∷ take (place_of is_blank text) text) ∷ words_in (drop (place_of is_blank text) text) =
    ap (filter is_nonempty) parts ∙ (kept ∙ ap (λ l. (b ∷ take (place_of is_blank text) text) ∷ l) h.2) in
    ends ∙ ap (λ k. take k (b ∷ text) ∷ words_in (drop k (b ∷ text))) (sym at)

-- The words of a text, from the numbers that the code has: none where nothing is left after the blanks, and else the first and those of what follows.
pub no_words_left : (text tail : List ℕ) (n : ℕ) → n ≡ position_or_len (λ b. not (is_blank b)) text → tail ≡ drop n text → length tail ≡ 0 → words_in text ≡ []
no_words_left text tail n at is none =
    let left : tail ≡ drop (place_of is_letter text) text = is ∙ ap (λ k. drop k text) at in
    (skip_blanks text).0 ∙ (ap words_in (sym left) ∙ empty tail none)
  where
    empty : (l : List ℕ) → length l ≡ 0 → words_in l ≡ []
    empty [] e = refl
    empty (b ∷ l) e = absurd (omega arith)

pub first_word_split : (text tail : List ℕ) (n m : ℕ) → n ≡ position_or_len (λ b. not (is_blank b)) text → tail ≡ drop n text → 0 < length tail
    → m ≡ position_or_len is_blank tail → words_in text ≡ take m tail ∷ words_in (drop m tail)
first_word_split text tail n m at is some end =
    let left : tail ≡ drop (place_of is_letter text) text = is ∙ ap (λ k. drop k text) at in
    let starts : StartsWord tail = subst StartsWord (sym left) (skip_blanks text).1 in
    let skip : words_in text ≡ words_in tail = (skip_blanks text).0 ∙ ap words_in (sym left) in
    skip ∙ (length_take_le tail some starts ∙ ap (λ k. take k tail ∷ words_in (drop k tail)) (sym end))
  where
    length_take_le : (l : List ℕ) → 0 < length l → StartsWord l
        → words_in l ≡ take (place_of is_blank l) l ∷ words_in (drop (place_of is_blank l) l)
    length_take_le [] some starts = absurd (omega arith)
    length_take_le (b ∷ l) some starts = word_split b l starts
