-- The longest piece at the front of a text, by its first byte.
use Rattle.std.proofs.Common.{◌≡◌, ℕ, zero, suc, ◌+◌, ◌-◌, ◌<◌, ◌≤◌, ◌^◌, ◌==◌, ◌&&◌, ◌⊎◌, inl, inr, not, cond, nat_lt, Bool}
use Rattle.std.proofs.Common.{true, false, Option, None, Some, is_some, unwrap_or, List, [], ◌∷◌, ◌++◌, length, take, drop, get_or}
use Rattle.std.proofs.Common.{codes, pos}
use Rattle.std.proofs.Common.{refl, sym, ap, subst, ◌∙◌, length-append, arith}
use Rattle.std.specs.Char.{is_ascii_digit}
use Rattle.std.specs.List.{list_all, prefix_len, position, find}
use Rattle.std.specs.Option.{option_or, option_map}
use Rattle.std.specs.Str.{bytes_eq}
use Rattle.std.specs.Str.Parse.{digits_value}
use Rattle.std.proofs.Math.Seq.{take-append_seam, take-append-add}
use Rattle.std.proofs.lemmas.List.{length-take-le, take-append-drop}
use Rattle.std.proofs.lemmas.Slice.Eq.{bytes_eq-Decides}
use Rattle.std.proofs.lemmas.List.Sums.{prefix_len-le-length}
use Rattle.std.proofs.lemmas.Bool.{and_parts, lt-ltb, eqb-true, ne_eqb}
use Rattle.std.proofs.lemmas.Bool.Decides.{nat_tests}
use Rattle.liszt_base.specs.declared.answers.ProgramWhat.TheVariants.{BadByte, LongNumber, LongName}
use Rattle.liszt_lexer.specs.declared.leading.FoundPiece.{FoundPiece}
use Rattle.liszt_lexer.specs.declared.leading.FoundPiece.TheVariants.{Token as FoundToken, Fault as FoundFault}
use Rattle.liszt_lexer.specs.declared.token.TokenKind.{TokenKind}
use Rattle.liszt_lexer.specs.declared.token.TokenKind.TheVariants.{Name, Number, Word, Symbol, MinSet, MaxSet}
use Rattle.liszt_lexer.specs.Internal.Leading.{IsLeadingPiece, is_in_name, is_in_comment, piece_of, number_piece, word_piece, word_piece_at, symbol_piece}
use Rattle.liszt_lexer.specs.Internal.Leading.{symbol_size, symbol_piece_at, set_kind}
use Rattle.liszt_lexer.specs.Lexer.{Piece, Gap, Token, Fault, down_from, piece, gap, set_token, word_token, symbol_token, number_token}
use Rattle.liszt_lexer.specs.Lexer.{name_token, is_blank, is_letter, is_line_feed}
use Rattle.liszt_lexer.specs.Words.{reserved_words, symbols}
use Rattle.liszt_lexer.proofs.ByteLemmas.{not_true_is_false, not_equal_by_test, no_position, begins, is_mark, blank_is, digit_is, letter_is}
use Rattle.liszt_lexer.proofs.ByteLemmas.{prefix_passes, past_prefix, some_pass, is_short}
use Rattle.liszt_lexer.proofs.LongestPieceLemmas.{at_or_below}
use Rattle.liszt_base.specs.Limits.{name_limit}

-- A NUMBER THAT PASSES, with none above it, is found in the list that goes down to 1, and nothing is found where none passes.
largest_step : (test : ℕ → Bool) (n size : ℕ) → (size ≡ suc n) ⊎ (size ≤ n) → test size ≡ true
    → ((more : ℕ) → size < more → more ≤ suc n → test more ≡ false) → (size ≤ n → find test (down_from n) ≡ Some size)
    → cond (test (suc n)) (Some (suc n)) (find test (down_from n)) ≡ Some size
largest_step test n size (inl e) is above below =
    let here : test (suc n) ≡ true = ap test (sym e) ∙ is in
    rw here (ap Some (sym e))
largest_step test n size (inr le) is above below =
    let here : test (suc n) ≡ false = above (suc n) (omega arith) (omega arith) in
    rw here (below le)

largest : (test : ℕ → Bool) (n size : ℕ) → 1 ≤ size → size ≤ n → test size ≡ true
    → ((more : ℕ) → size < more → more ≤ n → test more ≡ false) → find test (down_from n) ≡ Some size
largest test zero size some within is above = absurd (omega arith)
largest test (suc n) size some within is above =
    largest_step test n size (at_or_below size n within) is above
    (λ le. largest test n size some le is (λ more lt below. above more lt (omega arith)))

find_none : (test : ℕ → Bool) (n : ℕ) → ((size : ℕ) → 1 ≤ size → size ≤ n → test size ≡ false) → find test (down_from n) ≡ None
find_none test zero none = refl
find_none test (suc n) none =
    let here : test (suc n) ≡ false = none (suc n) (omega arith) (omega arith) in
    rw here (find_none test n (λ size some le. none size some (omega arith)))

-- so a piece with no longer one is the front of the text, and one bad byte where there is none
pub is_leading_piece : (text : List ℕ) (size : ℕ) (is : Piece) → 1 ≤ size → size ≤ length text → piece (take size text) ≡ Some is
    → ((more : ℕ) → size < more → more ≤ length text → piece (take more text) ≡ None) → IsLeadingPiece text size is
is_leading_piece text size is some within here above =
    let found = largest (λ n. is_some (piece (take n text))) (length text) size some within (ap is_some here)
    (λ more lt le. ap is_some (above more lt le)) in
    record { size_is = ap (λ o. unwrap_or o 1) found; some = some; within = within; piece_is = ap (λ o. unwrap_or o (Fault BadByte)) here }

pub is_bad : (text : List ℕ) → 1 ≤ length text → ((size : ℕ) → 1 ≤ size → size ≤ length text → piece (take size text) ≡ None)
    → IsLeadingPiece text 1 (Fault BadByte)
is_bad text some none =
    let found = find_none (λ n. is_some (piece (take n text))) (length text) (λ size one le. ap is_some (none size one le)) in
    record {
      size_is = ap (λ o. unwrap_or o 1) found;
      some = omega arith;
      within = some;
      piece_is = ap (λ o. unwrap_or o (Fault BadByte)) (none 1 (omega arith) some);
    }

-- WHAT BYTES ARE NOT, by their first byte.
no_gap : (b : ℕ) (bytes : List ℕ) → is_blank b ≡ false → (b == 47) ≡ false → gap (b ∷ bytes) ≡ None
no_gap b [] blank slash = rw blank refl
no_gap b (c ∷ bytes) blank slash = rw slash refl

no_set : (b : ℕ) (bytes : List ℕ) → is_letter b ≡ false → set_token (b ∷ bytes) ≡ None
no_set b bytes letter =
    let min : bytes_eq (b ∷ bytes) (codes "min=") ≡ false = not_equal_by_test (begins is_letter) (b ∷ bytes) (codes "min=") false letter refl in
    let max : bytes_eq (b ∷ bytes) (codes "max=") ≡ false = not_equal_by_test (begins is_letter) (b ∷ bytes) (codes "max=") false letter refl in
    rw (min, max) refl

no_word : (b : ℕ) (bytes : List ℕ) → is_letter b ≡ false → word_token (b ∷ bytes) ≡ None
no_word b bytes letter =
    ap (option_map (λ place. Token (Word place))) (no_position (begins is_letter) (b ∷ bytes) reserved_words letter refl)

no_symbol : (b : ℕ) (bytes : List ℕ) → is_mark b ≡ false → symbol_token (b ∷ bytes) ≡ None
no_symbol b bytes mark =
    ap (option_map (λ place. Token (Symbol place))) (no_position (begins is_mark) (b ∷ bytes) symbols mark refl)

and_false : (a : Bool) → (a && false) ≡ false
and_false true = refl
and_false false = refl

too_long : (a b c : ℕ) (bytes : List ℕ) → symbol_token (a ∷ b ∷ c ∷ bytes) ≡ None
too_long a b c bytes = ap (option_map (λ place. Token (Symbol place))) (no_position is_short (a ∷ b ∷ c ∷ bytes) symbols refl refl)

no_number : (b : ℕ) (bytes : List ℕ) → is_ascii_digit b ≡ false → number_token (b ∷ bytes) ≡ None
no_number b bytes digit = rw (digit, and_false (nat_lt 0 (length (b ∷ bytes)))) refl

no_name : (b : ℕ) (bytes : List ℕ) → is_letter b ≡ false → name_token (b ∷ bytes) ≡ None
no_name b bytes letter = rw letter refl

-- nothing where each of the six is nothing, and the only one that is not
all_none : (a b c d e f : Option Piece) → a ≡ None → b ≡ None → c ≡ None → d ≡ None → e ≡ None → f ≡ None
    → option_or a (option_or b (option_or c (option_or d (option_or e f)))) ≡ None
all_none a b c d e f ha hb hc hd he hf = rw (ha, hb, hc, hd, he, hf) refl

fifth : (a b c d e f : Option Piece) → a ≡ None → b ≡ None → c ≡ None → d ≡ None → f ≡ None
    → option_or a (option_or b (option_or c (option_or d (option_or e f)))) ≡ e
fifth a b c d None f ha hb hc hd hf = rw (ha, hb, hc, hd, hf) refl
fifth a b c d (Some p) f ha hb hc hd hf = rw (ha, hb, hc, hd) refl

fourth : (a b c d e f : Option Piece) → a ≡ None → b ≡ None → c ≡ None → e ≡ None → f ≡ None
    → option_or a (option_or b (option_or c (option_or d (option_or e f)))) ≡ d
fourth a b c None e f ha hb hc he hf = rw (ha, hb, hc, he, hf) refl
fourth a b c (Some p) e f ha hb hc he hf = rw (ha, hb, hc) refl

three : (a b c d e f : Option Piece) → a ≡ None → d ≡ None → e ≡ None
    → option_or a (option_or b (option_or c (option_or d (option_or e f)))) ≡ option_or b (option_or c f)
three a b c d e f ha hd he = rw (ha, hd, he) refl

-- longer bytes begin with the first byte too
after_first_piece : (b : ℕ) (bytes : List ℕ) (size : ℕ)
    → ((rest : ℕ) → size ≤ rest → rest ≤ length bytes → piece (b ∷ take rest bytes) ≡ None)
    → (more : ℕ) → size < more → more ≤ length (b ∷ bytes) → piece (take more (b ∷ bytes)) ≡ None
after_first_piece b bytes size none zero lt le = absurd (omega arith)
after_first_piece b bytes size none (suc rest) lt le = none rest (omega arith) (omega arith)

-- A BLANK
blank_alone : (b : ℕ) (bytes : List ℕ) → 1 ≤ length bytes → is_blank b ≡ true → piece (b ∷ bytes) ≡ None
blank_alone b [] some blank = absurd (omega arith)
blank_alone b (c ∷ bytes) some blank =
    let is = blank_is b blank in
    let mark : is_mark b ≡ false = rw blank refl in
    let here : gap (b ∷ c ∷ bytes) ≡ None = rw is.2 refl in
    all_none (gap (b ∷ c ∷ bytes)) (set_token (b ∷ c ∷ bytes)) (word_token (b ∷ c ∷ bytes)) (symbol_token (b ∷ c ∷ bytes))
    (number_token (b ∷ c ∷ bytes)) (name_token (b ∷ c ∷ bytes)) here (no_set b (c ∷ bytes) is.1) (no_word b (c ∷ bytes) is.1)
    (no_symbol b (c ∷ bytes) mark) (no_number b (c ∷ bytes) is.0) (no_name b (c ∷ bytes) is.1)

pub leading_blank : (text : List ℕ) → 0 < length text → is_blank (get_or text 0 0) ≡ true → IsLeadingPiece text 1 Gap
leading_blank [] some blank = absurd (omega arith)
leading_blank (b ∷ bytes) some blank =
    let here : piece (b ∷ []) ≡ Some Gap = rw blank refl in
    is_leading_piece (b ∷ bytes) 1 Gap (omega arith) (omega arith) here
    (after_first_piece b bytes 1 (λ rest lt le. blank_alone b (take rest bytes) (omega (arith, length-take-le rest bytes le)) blank))

-- a first byte that passes and those after it
first_passes : (p : ℕ → Bool) (b : ℕ) (bytes : List ℕ) → p b ≡ true → prefix_len p (b ∷ bytes) ≡ 1 + prefix_len p bytes
first_passes p b bytes is = rw is refl

-- the size and what is there as the code says it
leading_piece_of : (text : List ℕ) (size size' : ℕ) (what : List ℕ → FoundPiece) (found : FoundPiece) → size ≡ size' → found ≡ what (take size' text)
    → IsLeadingPiece text size (piece_of (what (take size text))) → IsLeadingPiece text size' (piece_of found)
leading_piece_of text size size' what found same here h =
    subst (λ (f : FoundPiece). IsLeadingPiece text size' (piece_of f)) (sym here)
    (subst (λ (n : ℕ). IsLeadingPiece text n (piece_of (what (take n text)))) same h)

-- DIGITS. ByteLemmas that begin with a digit are a number or nothing.
some_number : (digits : List ℕ) → 0 < length digits → list_all is_ascii_digit digits ≡ true
    → number_token digits ≡ Some (piece_of (number_piece digits))
some_number digits some all =
    let long : nat_lt 0 (length digits) ≡ true = lt-ltb 0 (length digits) some in
    rw (long, all) (go (nat_lt (digits_value 10 digits) (2 ^ 63)))
  where
    go : (b : Bool) → ◌≡◌ {A = Option Piece} (Some (cond b (Token (Number (pos (digits_value 10 digits)))) (Fault LongNumber)))
        (Some (piece_of (cond b (FoundToken (Number (pos (digits_value 10 digits)))) (FoundFault LongNumber))))
    go true = refl
    go false = refl

no_digits : (b : ℕ) (bytes : List ℕ) → list_all is_ascii_digit bytes ≡ false → number_token (b ∷ bytes) ≡ None
no_digits b bytes fails =
    rw (fails, and_false (is_ascii_digit b), and_false (nat_lt 0 (length (b ∷ bytes)))) refl

only_number : (b : ℕ) (bytes : List ℕ) → is_ascii_digit b ≡ true → piece (b ∷ bytes) ≡ number_token (b ∷ bytes)
only_number b bytes digit =
    let is = digit_is b digit in
    let mark : is_mark b ≡ false = rw (is.0, digit) refl in
    fifth (gap (b ∷ bytes)) (set_token (b ∷ bytes)) (word_token (b ∷ bytes)) (symbol_token (b ∷ bytes)) (number_token (b ∷ bytes))
    (name_token (b ∷ bytes)) (no_gap b bytes is.0 is.2) (no_set b bytes is.1) (no_word b bytes is.1) (no_symbol b bytes mark)
    (no_name b bytes is.1)

digits_are : (b : ℕ) (bytes : List ℕ) → is_ascii_digit b ≡ true
    → IsLeadingPiece (b ∷ bytes) (suc (prefix_len is_ascii_digit bytes))
    (piece_of (number_piece (b ∷ take (prefix_len is_ascii_digit bytes) bytes)))
digits_are b bytes digit =
    let size = prefix_len is_ascii_digit bytes in
    let all : list_all is_ascii_digit (b ∷ take size bytes) ≡ true = rw (digit, prefix_passes is_ascii_digit bytes) refl in
    is_leading_piece (b ∷ bytes) (suc size) (piece_of (number_piece (b ∷ take size bytes))) (omega arith)
    (omega (arith, prefix_len-le-length is_ascii_digit bytes))
    (only_number b (take size bytes) digit ∙ some_number (b ∷ take size bytes) (omega arith) all)
    (after_first_piece b bytes (suc size) (λ rest lt le. only_number b (take rest bytes) digit ∙ no_digits b (take rest bytes)
    (past_prefix is_ascii_digit bytes rest (omega arith) le)))

pub leading_number : (text : List ℕ) (size : ℕ) (found : FoundPiece) → 0 < length text → is_ascii_digit (get_or text 0 0) ≡ true
    → size ≡ prefix_len is_ascii_digit text → found ≡ number_piece (take size text) → IsLeadingPiece text size (piece_of found)
leading_number [] size found some digit is here = absurd (omega arith)
leading_number (b ∷ bytes) size found some digit is here =
    let same : suc (prefix_len is_ascii_digit bytes) ≡ size = omega (arith, is ∙ first_passes is_ascii_digit b bytes digit) in
    leading_piece_of (b ∷ bytes) (suc (prefix_len is_ascii_digit bytes)) size number_piece found same here (digits_are b bytes digit)

-- LETTERS. ByteLemmas that begin with a letter are `min=` or `max=`, a reserved word or a name, or nothing.
only_word : (b : ℕ) (bytes : List ℕ) → is_letter b ≡ true
    → piece (b ∷ bytes) ≡ option_or (set_token (b ∷ bytes)) (option_or (word_token (b ∷ bytes)) (name_token (b ∷ bytes)))
only_word b bytes letter =
    let is = letter_is b letter in
    let mark : is_mark b ≡ false = rw (is.0, is.1, letter) refl in
    let no_gap' = no_gap b bytes is.0 is.2 in
    let no_symbol' = no_symbol b bytes mark in
    let no_number' = no_number b bytes is.1 in
    three (gap (b ∷ bytes)) (set_token (b ∷ bytes)) (word_token (b ∷ bytes)) (symbol_token (b ∷ bytes)) (number_token (b ∷ bytes))
    (name_token (b ∷ bytes)) no_gap' no_symbol' no_number'

-- a size of at most the limit is no size above it
at_most_name_limit : (n : ℕ) → nat_lt name_limit (suc n) ≡ not (nat_lt n name_limit)
at_most_name_limit n = grind (arith, nat_tests)

-- by the place among the reserved words, and whether the name is short
word_piece_at_is : (o : Option ℕ) (n : ℕ)
    → option_or (option_map (λ place. Token (Word place)) o) (Some (cond (nat_lt n name_limit) (Token Name) (Fault LongName)))
    ≡ Some (piece_of (word_piece_at o (suc n)))
word_piece_at_is (Some place) n = refl
word_piece_at_is None n = rw at_most_name_limit (go (nat_lt n name_limit)) where
  go : (b : Bool) → ◌≡◌ {A = Option Piece} (Some (cond b (Token Name) (Fault LongName)))
      (Some (piece_of (cond (not b) (FoundFault LongName) (FoundToken Name))))
  go true = refl
  go false = refl

some_name : (b : ℕ) (bytes : List ℕ) → is_letter b ≡ true → list_all is_in_name bytes ≡ true
    → piece (b ∷ bytes) ≡ Some (piece_of (word_piece (b ∷ bytes)))
some_name b bytes letter all =
    let whole : list_all is_in_name (b ∷ bytes) ≡ true = rw (letter, all) refl in
    let min : bytes_eq (b ∷ bytes) (codes "min=") ≡ false = not_equal_by_test (list_all is_in_name) (b ∷ bytes) (codes "min=") true whole refl in
    let max : bytes_eq (b ∷ bytes) (codes "max=") ≡ false = not_equal_by_test (list_all is_in_name) (b ∷ bytes) (codes "max=") true whole refl in
    let set : set_token (b ∷ bytes) ≡ None = rw (min, max) refl in
    let name : name_token (b ∷ bytes) ≡ Some (cond (nat_lt (length bytes) name_limit) (Token Name) (Fault LongName)) = rw (letter, all) refl in
    only_word b bytes letter ∙ ap (λ o. option_or o (option_or (word_token (b ∷ bytes)) (name_token (b ∷ bytes)))) set
    ∙ ap (λ o. option_or (word_token (b ∷ bytes)) o) name ∙ word_piece_at_is (position (bytes_eq (b ∷ bytes)) reserved_words) (length bytes)

-- with another byte in it they can only be `min=` or `max=`
only_set : (b : ℕ) (bytes : List ℕ) → is_letter b ≡ true → list_all is_in_name bytes ≡ false → set_token (b ∷ bytes) ≡ None
    → piece (b ∷ bytes) ≡ None
only_set b bytes letter fails set =
    let whole : list_all is_in_name (b ∷ bytes) ≡ false = rw (fails, and_false (is_in_name b)) refl in
    let word : word_token (b ∷ bytes) ≡ None =
    ap (option_map (λ place. Token (Word place))) (no_position (list_all is_in_name) (b ∷ bytes) reserved_words whole refl) in
    let name : name_token (b ∷ bytes) ≡ None = rw (fails, and_false (is_letter b)) refl in
    only_word b bytes letter ∙ rw (set, word, name) refl

-- four bytes of a text that are no `min=` and no `max=` rule these out
set_by_kind : (bytes : List ℕ) → set_token bytes ≡ option_map (λ kind. Token kind) (set_kind bytes)
set_by_kind bytes = go (bytes_eq bytes (codes "min=")) (bytes_eq bytes (codes "max=")) where
  go : (a b : Bool) → ◌≡◌ {A = Option Piece} (cond a (Some (Token MinSet)) (cond b (Some (Token MaxSet)) None))
      (option_map (λ kind. Token kind) (cond a (Some MinSet) (cond b (Some MaxSet) None)))
  go true b = refl
  go false true = refl
  go false false = refl

not_four : (bytes : List ℕ) → (length bytes == 4) ≡ false → set_token bytes ≡ None
not_four bytes size =
    let min : bytes_eq bytes (codes "min=") ≡ false = not_equal_by_test (λ w. length w == 4) bytes (codes "min=") false size refl in
    let max : bytes_eq bytes (codes "max=") ≡ false = not_equal_by_test (λ w. length w == 4) bytes (codes "max=") false size refl in
    rw (min, max) refl

no_longer_set : (text : List ℕ) (more : ℕ) → set_kind (take 4 text) ≡ None → more ≤ length text → set_token (take more text) ≡ None
no_longer_set text more none le = go (more == 4) refl where
  go : (b : Bool) → (more == 4) ≡ b → set_token (take more text) ≡ None
  go true e =
      subst (λ (n : ℕ). set_token (take n text) ≡ None) (sym (eqb-true more 4 e))
      (set_by_kind (take 4 text) ∙ ap (option_map (λ kind. Token kind)) none)
  go false e =
      not_four (take more text) (ap (λ n. n == 4) (length-take-le more text le) ∙ e)

word_is : (b : ℕ) (bytes : List ℕ) → is_letter b ≡ true → set_kind (take 4 (b ∷ bytes)) ≡ None
    → IsLeadingPiece (b ∷ bytes) (suc (prefix_len is_in_name bytes)) (piece_of (word_piece (b ∷ take (prefix_len is_in_name bytes) bytes)))
word_is b bytes letter none =
    let size = prefix_len is_in_name bytes in
    is_leading_piece (b ∷ bytes) (suc size) (piece_of (word_piece (b ∷ take size bytes))) (omega arith)
    (omega (arith, prefix_len-le-length is_in_name bytes)) (some_name b (take size bytes) letter (prefix_passes is_in_name bytes))
    (after_first_piece b bytes (suc size) (λ rest lt le. only_set b (take rest bytes) letter (past_prefix is_in_name bytes rest (omega arith) le)
    (no_longer_set (b ∷ bytes) (suc rest) none (omega arith))))

pub leading_word : (text : List ℕ) (size : ℕ) (found : FoundPiece) → 0 < length text → is_letter (get_or text 0 0) ≡ true
    → set_kind (take 4 text) ≡ None → size ≡ prefix_len is_in_name text → found ≡ word_piece (take size text)
    → IsLeadingPiece text size (piece_of found)
leading_word [] size found some letter none is here = absurd (omega arith)
leading_word (b ∷ bytes) size found some letter none is here =
    let in_name : is_in_name b ≡ true = rw letter refl in
    let same : suc (prefix_len is_in_name bytes) ≡ size = omega (arith, is ∙ first_passes is_in_name b bytes in_name) in
    leading_piece_of (b ∷ bytes) (suc (prefix_len is_in_name bytes)) size word_piece found same here (word_is b bytes letter none)

-- `min=` and `max=` at the front
set_is : (kind : TokenKind) (b : ℕ) (set rest : List ℕ) → is_letter b ≡ true → set_token (b ∷ set) ≡ Some (Token kind) → length set ≡ 3
    → ((more : List ℕ) → list_all is_in_name (set ++ more) ≡ false) → IsLeadingPiece (b ∷ (set ++ rest)) 4 (Token kind)
set_is kind b set rest letter is three fails =
    let size : length (set ++ rest) ≡ 3 + length rest = omega (arith, length-append set rest) in
    let here : take 3 (set ++ rest) ≡ set = ap (λ n. take n (set ++ rest)) (sym three) ∙ take-append_seam set rest in
    let is_piece : piece (b ∷ set) ≡ Some (Token kind) = only_word b set letter ∙ rw is refl in
    is_leading_piece (b ∷ (set ++ rest)) 4 (Token kind) (omega arith) (omega arith) (ap (λ l. piece (b ∷ l)) here ∙ is_piece)
    (after_first_piece b (set ++ rest) 4 (λ n lt le. longer n lt le))
  where
    longer : (n : ℕ) → 4 ≤ n → n ≤ length (set ++ rest) → piece (b ∷ take n (set ++ rest)) ≡ None
    longer n lt le =
        let seam : length set + (n - 3) ≡ n = omega arith in
        let shape : take n (set ++ rest) ≡ set ++ take (n - 3) rest =
        ap (λ k. take k (set ++ rest)) (sym seam) ∙ take-append-add set rest (n - 3) in
        let size : length (b ∷ take n (set ++ rest)) ≡ suc n = ap suc (length-take-le n (set ++ rest) le) in
        only_set b (take n (set ++ rest)) letter (ap (list_all is_in_name) shape ∙ fails (take (n - 3) rest))
        (not_four (b ∷ take n (set ++ rest)) (ne_eqb (length (b ∷ take n (set ++ rest))) 4 (λ e. absurd (omega arith))))

pub leading_set : (text : List ℕ) (kind : TokenKind) → set_kind (take 4 text) ≡ Some kind → IsLeadingPiece text 4 (Token kind)
leading_set text kind is = go (bytes_eq (take 4 text) (codes "min=")) refl (bytes_eq (take 4 text) (codes "max=")) refl is where
  whole : (set : List ℕ) → bytes_eq (take 4 text) set ≡ true → set ++ drop 4 text ≡ text
  whole set e = ap (λ l. l ++ drop 4 text) (sym ((bytes_eq-Decides (take 4 text) set).0 e)) ∙ take-append-drop 4 text

  go : (a : Bool) → bytes_eq (take 4 text) (codes "min=") ≡ a → (b : Bool) → bytes_eq (take 4 text) (codes "max=") ≡ b
      → cond a (Some MinSet) (cond b (Some MaxSet) None) ≡ Some kind → IsLeadingPiece text 4 (Token kind)
  go true min b max is =
      let same : MinSet ≡ kind = cc in
      subst (λ (k : TokenKind). IsLeadingPiece text 4 (Token k)) same
      (subst (λ (l : List ℕ). IsLeadingPiece l 4 (Token MinSet)) (whole (codes "min=") min)
      (set_is MinSet 109 (105 ∷ 110 ∷ 61 ∷ []) (drop 4 text) refl refl refl (λ more. refl)))
  go false min true max is =
      let same : MaxSet ≡ kind = cc in
      subst (λ (k : TokenKind). IsLeadingPiece text 4 (Token k)) same
      (subst (λ (l : List ℕ). IsLeadingPiece l 4 (Token MaxSet)) (whole (codes "max=") max)
      (set_is MaxSet 109 (97 ∷ 120 ∷ 61 ∷ []) (drop 4 text) refl refl refl (λ more. refl)))
  go false min false max is = cc

-- A COMMENT
comment_alone : (bytes : List ℕ) → 0 < length bytes → list_all is_in_comment bytes ≡ false → piece (47 ∷ 47 ∷ bytes) ≡ None
comment_alone [] some fails = absurd (omega arith)
comment_alone (c ∷ bytes) some fails =
    let gap' : gap (47 ∷ 47 ∷ c ∷ bytes) ≡ None = rw (some_pass is_line_feed (c ∷ bytes), fails) refl in
    all_none (gap (47 ∷ 47 ∷ c ∷ bytes)) (set_token (47 ∷ 47 ∷ c ∷ bytes)) (word_token (47 ∷ 47 ∷ c ∷ bytes))
    (symbol_token (47 ∷ 47 ∷ c ∷ bytes)) (number_token (47 ∷ 47 ∷ c ∷ bytes)) (name_token (47 ∷ 47 ∷ c ∷ bytes)) gap'
    (no_set 47 (47 ∷ c ∷ bytes) refl) (no_word 47 (47 ∷ c ∷ bytes) refl) (too_long 47 47 c bytes) (no_number 47 (47 ∷ c ∷ bytes) refl)
    (no_name 47 (47 ∷ c ∷ bytes) refl)

comment_is : (rest : List ℕ) → IsLeadingPiece (47 ∷ 47 ∷ rest) (suc (suc (prefix_len is_in_comment rest))) Gap
comment_is rest =
    let size = prefix_len is_in_comment rest in
    let here : gap (47 ∷ 47 ∷ take size rest) ≡ Some Gap =
    rw (some_pass is_line_feed (take size rest), prefix_passes is_in_comment rest) refl in
    let here' : piece (47 ∷ 47 ∷ take size rest) ≡ Some Gap = rw here refl in
    is_leading_piece (47 ∷ 47 ∷ rest) (suc (suc size)) Gap (omega arith) (omega (arith, prefix_len-le-length is_in_comment rest)) here'
    (after_first_piece 47 (47 ∷ rest) (suc (suc size)) longer)
  where
    longer : (n : ℕ) → suc (suc (prefix_len is_in_comment rest)) ≤ n → n ≤ length (47 ∷ rest) → piece (47 ∷ take n (47 ∷ rest)) ≡ None
    longer zero lt le = absurd (omega arith)
    longer (suc n) lt le =
        comment_alone (take n rest) (omega (arith, length-take-le n rest (omega arith)))
        (past_prefix is_in_comment rest n (omega arith) (omega arith))

pub leading_comment : (text : List ℕ) (size : ℕ) → bytes_eq (codes "//") (take 2 text) ≡ true → size ≡ prefix_len is_in_comment text
    → IsLeadingPiece text size Gap
leading_comment text size begins is =
    let whole : codes "//" ++ drop 2 text ≡ text =
    ap (λ l. l ++ drop 2 text) ((bytes_eq-Decides (codes "//") (take 2 text)).0 begins) ∙ take-append-drop 2 text in
    let same : suc (suc (prefix_len is_in_comment (drop 2 text))) ≡ size = omega (arith, is, ap (prefix_len is_in_comment) whole) in
    subst (λ (l : List ℕ). IsLeadingPiece l size Gap) whole
    (subst (λ (n : ℕ). IsLeadingPiece (47 ∷ 47 ∷ drop 2 text) n Gap) same (comment_is (drop 2 text)))

-- MARKS. ByteLemmas that begin with none of these are a symbol or nothing.
only_symbol : (b : ℕ) (bytes : List ℕ) → is_ascii_digit b ≡ false → is_letter b ≡ false → gap (b ∷ bytes) ≡ None
    → piece (b ∷ bytes) ≡ symbol_token (b ∷ bytes)
only_symbol b bytes digit letter gap' =
    let set = no_set b bytes letter in
    let word = no_word b bytes letter in
    let number = no_number b bytes digit in
    let name = no_name b bytes letter in
    fourth (gap (b ∷ bytes)) (set_token (b ∷ bytes)) (word_token (b ∷ bytes)) (symbol_token (b ∷ bytes)) (number_token (b ∷ bytes))
    (name_token (b ∷ bytes)) gap' set word number name

-- one byte
one_symbol : (text : List ℕ) (b : ℕ) → take 1 text ≡ b ∷ [] → 1 ≤ length text
    → piece (b ∷ []) ≡ option_map (λ place. Token (Symbol place)) (position (bytes_eq (b ∷ [])) symbols)
    → ((more : ℕ) → 1 < more → more ≤ length text → piece (take more text) ≡ None) → IsLeadingPiece text 1 (piece_of (symbol_piece (b ∷ [])))
one_symbol text b is some here above = go (position (bytes_eq (b ∷ [])) symbols) here where
  each : piece (take 1 text) ≡ None → (size : ℕ) → 1 ≤ size → size ≤ length text → piece (take size text) ≡ None
  each none zero some le = absurd (omega arith)
  each none (suc zero) some le = none
  each none (suc (suc n)) some le = above (suc (suc n)) (omega arith) le

  go : (o : Option ℕ) → piece (b ∷ []) ≡ option_map (λ place. Token (Symbol place)) o → IsLeadingPiece text 1 (piece_of (symbol_piece_at o))
  go (Some place) e = is_leading_piece text 1 (Token (Symbol place)) (omega arith) some (ap piece is ∙ e) above
  go None e = is_bad text some (each (ap piece is ∙ e))

-- two bytes, else one
no_comment : (b c : ℕ) → bytes_eq (codes "//") (b ∷ c ∷ []) ≡ false → ((b == 47) && (c == 47)) ≡ false
no_comment b c comment = not_true_is_false ((b == 47) && (c == 47)) (λ e.
    let parts = and_parts (b == 47) (c == 47) e in
    let first : b ≡ 47 = eqb-true b 47 parts.0 in
    let second : c ≡ 47 = eqb-true c 47 parts.1 in
    let same : bytes_eq (codes "//") (b ∷ c ∷ []) ≡ true = (bytes_eq-Decides (codes "//") (b ∷ c ∷ [])).1 cc in
    cc)

two_symbols : (b c : ℕ) (bytes : List ℕ) → piece (b ∷ []) ≡ symbol_token (b ∷ [])
    → ((rest : List ℕ) → piece (b ∷ c ∷ rest) ≡ symbol_token (b ∷ c ∷ rest)) → (o : Option ℕ) → position (bytes_eq (b ∷ c ∷ [])) symbols ≡ o
    → IsLeadingPiece (b ∷ c ∷ bytes) (cond (is_some o) 2 1) (piece_of (symbol_piece (take (cond (is_some o) 2 1) (b ∷ c ∷ bytes))))
two_symbols b c bytes one two o e = go o e where
  longer : (n : ℕ) → 2 ≤ n → n ≤ length (c ∷ bytes) → piece (b ∷ take n (c ∷ bytes)) ≡ None
  longer zero lt le = absurd (omega arith)
  longer (suc zero) lt le = absurd (omega arith)
  longer (suc (suc n)) lt le = three_none (take (suc n) bytes) (omega (arith, length-take-le (suc n) bytes (omega arith))) where
    three_none : (rest : List ℕ) → 0 < length rest → piece (b ∷ c ∷ rest) ≡ None
    three_none [] some = absurd (omega arith)
    three_none (d ∷ rest) some = two (d ∷ rest) ∙ too_long b c d rest

  above : position (bytes_eq (b ∷ c ∷ [])) symbols ≡ None → (n : ℕ) → 1 ≤ n → n ≤ length (c ∷ bytes) → piece (b ∷ take n (c ∷ bytes)) ≡ None
  above none zero lt le = absurd (omega arith)
  above none (suc zero) lt le = two [] ∙ ap (option_map (λ place. Token (Symbol place))) none
  above none (suc (suc n)) lt le = longer (suc (suc n)) (omega arith) le

  go : (o : Option ℕ) → position (bytes_eq (b ∷ c ∷ [])) symbols ≡ o
      → IsLeadingPiece (b ∷ c ∷ bytes) (cond (is_some o) 2 1) (piece_of (symbol_piece (take (cond (is_some o) 2 1) (b ∷ c ∷ bytes))))
  go (Some place) e =
      subst (λ (o : Option ℕ). IsLeadingPiece (b ∷ c ∷ bytes) 2 (piece_of (symbol_piece_at o))) (sym e)
      (is_leading_piece (b ∷ c ∷ bytes) 2 (Token (Symbol place)) (omega arith) (omega arith)
      (two [] ∙ ap (option_map (λ place. Token (Symbol place))) e) (after_first_piece b (c ∷ bytes) 2 longer))
  go None e = one_symbol (b ∷ c ∷ bytes) b refl (omega arith) one (after_first_piece b (c ∷ bytes) 1 (above e))

pub leading_symbol : (text : List ℕ) (size : ℕ) (found : FoundPiece) → 0 < length text → is_blank (get_or text 0 0) ≡ false
    → is_ascii_digit (get_or text 0 0) ≡ false → is_letter (get_or text 0 0) ≡ false → bytes_eq (codes "//") (take 2 text) ≡ false
    → size ≡ symbol_size text → found ≡ symbol_piece (take size text) → IsLeadingPiece text size (piece_of found)
leading_symbol [] size found some blank digit letter comment is here = absurd (omega arith)
leading_symbol (b ∷ []) size found some blank digit letter comment is here =
    leading_piece_of (b ∷ []) 1 size symbol_piece found (sym is) here
    (one_symbol (b ∷ []) b refl (omega arith) (only_symbol b [] digit letter (rw blank refl)) (λ more lt le. absurd (omega arith)))
leading_symbol (b ∷ c ∷ bytes) size found some blank digit letter comment is here =
    let apart = no_comment b c comment in
    let gap' : (rest : List ℕ) → gap (b ∷ c ∷ rest) ≡ None = λ rest. rw apart refl in
    leading_piece_of (b ∷ c ∷ bytes) (symbol_size (b ∷ c ∷ bytes)) size symbol_piece found (sym is) here
    (two_symbols b c bytes (only_symbol b [] digit letter (rw blank refl)) (λ rest. only_symbol b (c ∷ rest) digit letter (gap' rest))
    (position (bytes_eq (b ∷ c ∷ [])) symbols) refl)
