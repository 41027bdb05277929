-- A token is the longest piece before a byte that ends tokens; so are `(`, `-` and `!` before any byte but `=`.
use Rattle.std.proofs.Common.{◌≡◌, ℕ, zero, suc, ◌+◌, ◌-◌, ◌^◌, ◌<◌, ◌≤◌, ◌==◌, ◌&&◌, ◌||◌, not, cond, nat_lt, Bool, true, false, Option}
use Rattle.std.proofs.Common.{None, Some, unwrap_or, List, [], ◌∷◌, ◌++◌, length, take, codes, ℤ, pos, refl, sym, ap}
use Rattle.std.proofs.Common.{subst, ◌∙◌, length-append, arith}
use Rattle.std.specs.Char.{is_ascii_digit}
use Rattle.std.specs.Fmt.{signed_decimal, decimal}
use Rattle.std.specs.List.{list_all, list_any, prefix_len, position}
use Rattle.std.specs.Option.{option_map, option_or}
use Rattle.std.specs.Str.{bytes_eq}
use Rattle.std.specs.Str.{all_ascii_digits}
use Rattle.std.specs.Str.Parse.{digits_value, IsNumeral}
use Rattle.std.proofs.Math.Bool.{and-false}
use Rattle.std.proofs.Math.Seq.{take-append_seam, take-append-add}
use Rattle.std.proofs.lemmas.Bool.{and_parts, or_left, or_right, eqb-true, ltb-true, lt-ltb, not-true}
use Rattle.std.proofs.lemmas.Bool.Decides.{nat_tests}
use Rattle.std.proofs.lemmas.Fmt.{digits_decimal, decimal_is_IsNumeral}
use Rattle.std.proofs.lemmas.List.{take_all}
use Rattle.std.proofs.lemmas.List.Sums.{AllPass-from_list_all}
use Rattle.std.proofs.lemmas.Str.Parse.{numerals_by_value, tells_all_ascii_digits}
use Rattle.std.proofs.lemmas.List.Folds.{list_any-append}
use Rattle.liszt_base.specs.declared.answers.ProgramWhat.TheVariants.{BadByte, LongNumber, LongName}
use Rattle.liszt_lexer.specs.declared.leading.FoundPiece.TheVariants.{Token as FoundToken}
use Rattle.liszt_lexer.specs.declared.token.TokenKind.{TokenKind}
use Rattle.liszt_lexer.specs.declared.token.TokenKind.TheVariants.{Name, Number, Word, Symbol, MinSet, MaxSet}
use Rattle.liszt_lexer.specs.Internal.Leading.{IsLeadingPiece, is_in_name, number_piece}
use Rattle.liszt_lexer.specs.Lexer.{Piece, Gap, Token, Fault, piece, gap, set_token, word_token, symbol_token, number_token, name_token}
use Rattle.liszt_lexer.specs.Lexer.{is_blank, is_letter, is_line_feed}
use Rattle.liszt_lexer.specs.Words.{reserved_words, symbols}
use Rattle.liszt_lexer.proofs.ByteLemmas.{not_true_is_false, not_equal_by_test, no_position}
use Rattle.liszt_lexer.proofs.LeadingPieceLemmas.{is_leading_piece, leading_number}
use Rattle.liszt_base.specs.Limits.{name_limit}

-- THE BYTES THAT END TOKENS: a blank, LF, a bracket, `,` and `;`
abbrev pub ends_token : ℕ → Bool
ends_token b = (b == 32) || (b == 10) || (b == 40) || (b == 41) || (b == 44) || (b == 59)

ending_is : (b : ℕ) → ends_token b ≡ true → (is_ascii_digit b ≡ false) × (is_letter b ≡ false) × ((b == 47) ≡ false)
ending_is b e = (grind (arith, nat_tests), grind (arith, nat_tests), grind (arith, nat_tests))

ends_no_number : (b : ℕ) → ends_token b ≡ true → is_ascii_digit b ≡ false
ends_no_number b e = (ending_is b e).0

ends_no_name : (b : ℕ) → ends_token b ≡ true → is_in_name b ≡ false
ends_no_name b e = let is = ending_is b e in rw (is.0, is.1) refl

-- where a byte passes one test no list passes another that each such byte fails
some_fails : (fails passes : ℕ → Bool) → ((b : ℕ) → fails b ≡ true → passes b ≡ false) → (bytes : List ℕ) → list_any fails bytes ≡ true
    → list_all passes bytes ≡ false
some_fails fails passes apart [] e = cc
some_fails fails passes apart (b ∷ bytes) e = go (fails b) refl e (some_fails fails passes apart bytes) where
  go : (t : Bool) → fails b ≡ t → (t || list_any fails bytes) ≡ true → (list_any fails bytes ≡ true → list_all passes bytes ≡ false)
      → (passes b && list_all passes bytes) ≡ false
  go true is e more = rw (apart b is) refl
  go false is e more = rw (more e) (and-false (passes b))

-- bytes with one in them that passes
some_in : (test : ℕ → Bool) (front : List ℕ) (b : ℕ) (bytes : List ℕ) → test b ≡ true → list_any test (front ++ b ∷ bytes) ≡ true
some_in test front b bytes is =
    list_any-append test front (b ∷ bytes)
    ∙ or_right (list_any test front) (list_any test (b ∷ bytes)) (or_left (test b) (list_any test bytes) is)

-- BYTES ARE NO PIECE where none of the six kinds of piece is there.
no_kind : (bytes : List ℕ) → gap bytes ≡ None → set_token bytes ≡ None → word_token bytes ≡ None → symbol_token bytes ≡ None
    → number_token bytes ≡ None → name_token bytes ≡ None → piece bytes ≡ None
no_kind bytes g s w m n a = rw (g, s, w, m, n, a) refl

-- one byte, or bytes that none of these is among
abbrev is_mark_like : List ℕ → Bool
is_mark_like (b ∷ []) = true
is_mark_like bytes = not (list_any ends_token bytes)

-- Two bytes or more, one of them after the first a byte that ends tokens, are no token.
no_token : (b c : ℕ) (bytes : List ℕ) → list_any ends_token (c ∷ bytes) ≡ true → gap (b ∷ c ∷ bytes) ≡ None → piece (b ∷ c ∷ bytes) ≡ None
no_token b c bytes ends gap' =
    let whole : list_any ends_token (b ∷ c ∷ bytes) ≡ true = or_right (ends_token b) (list_any ends_token (c ∷ bytes)) ends in
    let min : bytes_eq (b ∷ c ∷ bytes) (codes "min=") ≡ false = not_equal_by_test (list_any ends_token) (b ∷ c ∷ bytes) (codes "min=") true whole refl in
    let max : bytes_eq (b ∷ c ∷ bytes) (codes "max=") ≡ false = not_equal_by_test (list_any ends_token) (b ∷ c ∷ bytes) (codes "max=") true whole refl in
    let set : set_token (b ∷ c ∷ bytes) ≡ None = rw (min, max) refl in
    let word = ap (option_map (λ place. Token (Word place)))
    (no_position (λ w. not (list_any ends_token w)) (b ∷ c ∷ bytes) reserved_words (ap not whole) refl) in
    let mark = ap (option_map (λ place. Token (Symbol place))) (no_position is_mark_like (b ∷ c ∷ bytes) symbols (ap not whole) refl) in
    let digits : list_all is_ascii_digit (b ∷ c ∷ bytes) ≡ false = some_fails ends_token is_ascii_digit ends_no_number (b ∷ c ∷ bytes) whole in
    let letters : list_all is_in_name (c ∷ bytes) ≡ false = some_fails ends_token is_in_name ends_no_name (c ∷ bytes) ends in
    let number : number_token (b ∷ c ∷ bytes) ≡ None = rw (digits, and-false (nat_lt 0 (length (b ∷ c ∷ bytes)))) refl in
    let name : name_token (b ∷ c ∷ bytes) ≡ None = rw (letters, and-false (is_letter b)) refl in
    no_kind (b ∷ c ∷ bytes) gap' set word mark number name

-- a comment is no token
comment_is_no_token : (bytes : List ℕ) (kind : TokenKind) → piece (47 ∷ 47 ∷ bytes) ≡ Some (Token kind) → ⊥
comment_is_no_token bytes kind e = go (not (list_any is_line_feed bytes)) (number_token (47 ∷ 47 ∷ bytes)) none e where
  none : number_token (47 ∷ 47 ∷ bytes) ≡ None
  none = rw (and-false (nat_lt 0 (length (47 ∷ 47 ∷ bytes)))) refl

  go : (b : Bool) (o : Option Piece) → o ≡ None → option_or (cond b (Some Gap) None) (option_or o None) ≡ Some (Token kind) → ⊥
  go true o no_number e = cc
  go false None no_number e = cc
  go false (Some p) no_number e = cc

no_slashes : (b c : ℕ) (bytes : List ℕ) (kind : TokenKind) → piece (b ∷ c ∷ bytes) ≡ Some (Token kind) → ((b == 47) && (c == 47)) ≡ false
no_slashes b c bytes kind e = not_true_is_false ((b == 47) && (c == 47)) (λ h.
    let parts = and_parts (b == 47) (c == 47) h in
    comment_is_no_token bytes kind (subst (λ (x : ℕ). piece (47 ∷ x ∷ bytes) ≡ Some (Token kind)) (eqb-true c 47 parts.1)
    (subst (λ (x : ℕ). piece (x ∷ c ∷ bytes) ≡ Some (Token kind)) (eqb-true b 47 parts.0) e)))

no_comment : (b c : ℕ) (bytes : List ℕ) → ((b == 47) && (c == 47)) ≡ false → gap (b ∷ c ∷ bytes) ≡ None
no_comment b c bytes e = rw e refl

-- A token and a byte that ends tokens after it are no piece, whatever follows.
no_longer : (bytes : List ℕ) (kind : TokenKind) (b : ℕ) (more : List ℕ) → piece bytes ≡ Some (Token kind) → ends_token b ≡ true
    → piece (bytes ++ b ∷ more) ≡ None
no_longer [] kind b more is ends = absurd cc
no_longer (a ∷ []) kind b more is ends =
    let apart : ((a == 47) && (b == 47)) ≡ false = rw (ending_is b ends).2 (and-false (a == 47)) in
    no_token a b more (or_left (ends_token b) (list_any ends_token more) ends) (no_comment a b more apart)
no_longer (a ∷ c ∷ bytes) kind b more is ends =
    no_token a c (bytes ++ b ∷ more) (some_in ends_token (c ∷ bytes) b more ends)
    (no_comment a c (bytes ++ b ∷ more) (no_slashes a c bytes kind is))

-- THE FRONT of a text is a piece where it is one and no longer front is.
front_of : (bytes rest : List ℕ) (is : Piece) → 1 ≤ length bytes → piece bytes ≡ Some is
    → ((n : ℕ) → 1 ≤ n → n ≤ length rest → piece (bytes ++ take n rest) ≡ None) → IsLeadingPiece (bytes ++ rest) (length bytes) is
front_of bytes rest is some here above =
    is_leading_piece (bytes ++ rest) (length bytes) is some (omega (arith, length-append bytes rest)) (ap piece (take-append_seam bytes rest) ∙ here)
    (λ more lt le.
    let seam : length bytes + (more - length bytes) ≡ more = omega arith in
    ap piece (ap (λ n. take n (bytes ++ rest)) (sym seam) ∙ take-append-add bytes rest (more - length bytes))
    ∙ above (more - length bytes) (omega arith) (omega (arith, length-append bytes rest)))

-- a token has a byte
some_byte : (bytes : List ℕ) (kind : TokenKind) → piece bytes ≡ Some (Token kind) → 1 ≤ length bytes
some_byte [] kind e = absurd cc
some_byte (b ∷ bytes) kind e = omega arith

-- the text begins with a byte that ends tokens
abbrev pub EndsToken : List ℕ → Type 0
EndsToken [] = ⊥
EndsToken (b ∷ bytes) = ends_token b ≡ true

-- before such a text a token is the longest piece,
pub token_stops : (bytes rest : List ℕ) (kind : TokenKind) → piece bytes ≡ Some (Token kind) → EndsToken rest
    → IsLeadingPiece (bytes ++ rest) (length bytes) (Token kind)
token_stops bytes [] kind is stops = absurd stops
token_stops bytes (b ∷ rest) kind is stops =
    front_of bytes (b ∷ rest) (Token kind) (some_byte bytes kind is) is longer where
      longer : (n : ℕ) → 1 ≤ n → n ≤ length (b ∷ rest) → piece (bytes ++ take n (b ∷ rest)) ≡ None
      longer zero some le = absurd (omega arith)
      longer (suc n) some le = no_longer bytes kind b (take n rest) is stops

-- `(`, `-` and `!` are the longest piece before bytes that do not begin with `=`.
-- the text does not begin with `=`
abbrev pub begins_well : List ℕ → Bool
begins_well [] = false
begins_well (b ∷ bytes) = not (b == 61)

minus_alone : (b : ℕ) (more : List ℕ) → (b == 61) ≡ false → piece (45 ∷ b ∷ more) ≡ None
minus_alone b more e =
    let number : number_token (45 ∷ b ∷ more) ≡ None = rw (and-false (nat_lt 0 (length (45 ∷ b ∷ more)))) refl in
    let mark : symbol_token (45 ∷ b ∷ more) ≡ None = rw e refl in
    no_kind (45 ∷ b ∷ more) refl refl refl mark number refl

bang_alone : (b : ℕ) (more : List ℕ) → (b == 61) ≡ false → piece (33 ∷ b ∷ more) ≡ None
bang_alone b more e =
    let number : number_token (33 ∷ b ∷ more) ≡ None = rw (and-false (nat_lt 0 (length (33 ∷ b ∷ more)))) refl in
    let mark : symbol_token (33 ∷ b ∷ more) ≡ None = rw e refl in
    no_kind (33 ∷ b ∷ more) refl refl refl mark number refl

bracket_alone : (b : ℕ) (more : List ℕ) → (b == 61) ≡ false → piece (40 ∷ b ∷ more) ≡ None
bracket_alone b more e =
    let number : number_token (40 ∷ b ∷ more) ≡ None = rw (and-false (nat_lt 0 (length (40 ∷ b ∷ more)))) refl in
    no_kind (40 ∷ b ∷ more) refl refl refl refl number refl

-- by a byte that is alone before any but `=`
alone_before : (a : ℕ) (rest : List ℕ) (kind : TokenKind) → piece (a ∷ []) ≡ Some (Token kind)
    → ((b : ℕ) (more : List ℕ) → (b == 61) ≡ false → piece (a ∷ b ∷ more) ≡ None)
    → begins_well rest ≡ true → IsLeadingPiece (a ∷ rest) 1 (Token kind)
alone_before a [] kind is alone begins = absurd cc
alone_before a (b ∷ rest) kind is alone begins = front_of (a ∷ []) (b ∷ rest) (Token kind) (omega arith) is longer where
  longer : (n : ℕ) → 1 ≤ n → n ≤ length (b ∷ rest) → piece (a ∷ take n (b ∷ rest)) ≡ None
  longer zero some le = absurd (omega arith)
  longer (suc n) some le = alone b (take n rest) (not-true (b == 61) begins)

pub leading_minus : (rest : List ℕ) → begins_well rest ≡ true → IsLeadingPiece (45 ∷ rest) 1 (Token (Symbol 17))
leading_minus rest begins = alone_before 45 rest (Symbol 17) refl minus_alone begins

pub leading_bang : (rest : List ℕ) → begins_well rest ≡ true → IsLeadingPiece (33 ∷ rest) 1 (Token (Symbol 21))
leading_bang rest begins = alone_before 33 rest (Symbol 21) refl bang_alone begins

pub leading_bracket : (rest : List ℕ) → begins_well rest ≡ true → IsLeadingPiece (40 ∷ rest) 1 (Token (Symbol 0))
leading_bracket rest begins = alone_before 40 rest (Symbol 0) refl bracket_alone begins

-- WHAT TOKENS ARE. A name begins as no symbol does, and a number's value is one that has digits.
pub record IsSmall (value : ℤ) : Type 0 where
  pub size : ℕ
  pub is : value ≡ pos size
  pub small : size < 2 ^ 63

abbrev HasForm : List ℕ → Piece → Type 0
HasForm bytes (Token Name) = begins_well bytes ≡ true
HasForm bytes (Token (Number value)) = IsSmall value
HasForm bytes _ = Unit {0}

abbrev IfSome : List ℕ → Option Piece → Type 0
IfSome bytes None = Unit {0}
IfSome bytes (Some p) = HasForm bytes p

is_some_either : (bytes : List ℕ) (a b : Option Piece) → IfSome bytes a → IfSome bytes b → IfSome bytes (option_or a b)
is_some_either bytes None b ha hb = hb
is_some_either bytes (Some p) b ha hb = ha

-- by a test
if_chosen : (bytes : List ℕ) (t : Bool) (p : Piece) → HasForm bytes p → IfSome bytes (cond t (Some p) None)
if_chosen bytes true p h = h
if_chosen bytes false p h = tt

gap_form : (bytes : List ℕ) → IfSome bytes (gap bytes)
gap_form [] = tt
gap_form (b ∷ []) = if_chosen (b ∷ []) (is_blank b) Gap tt
gap_form (b ∷ c ∷ bytes) = if_chosen (b ∷ c ∷ bytes) ((b == 47) && (c == 47) && not (list_any is_line_feed bytes)) Gap tt

set_form : (bytes : List ℕ) → IfSome bytes (set_token bytes)
set_form bytes = go (bytes_eq bytes (codes "min=")) (bytes_eq bytes (codes "max=")) where
  go : (a b : Bool) → IfSome bytes (cond a (Some (Token MinSet)) (cond b (Some (Token MaxSet)) None))
  go true b = tt
  go false true = tt
  go false false = tt

word_form : (bytes : List ℕ) (o : Option ℕ) → IfSome bytes (option_map (λ place. Token (Word place)) o)
word_form bytes None = tt
word_form bytes (Some place) = tt

symbol_form : (bytes : List ℕ) (o : Option ℕ) → IfSome bytes (option_map (λ place. Token (Symbol place)) o)
symbol_form bytes None = tt
symbol_form bytes (Some place) = tt

number_form : (bytes : List ℕ) → IfSome bytes (number_token bytes)
number_form bytes =
    if_chosen bytes (nat_lt 0 (length bytes) && list_all is_ascii_digit bytes)
    (cond (nat_lt value (2 ^ 63)) (Token (Number (pos value))) (Fault LongNumber)) (go (nat_lt value (2 ^ 63)) refl)
  where
    value : ℕ
    value = digits_value 10 bytes

    go : (b : Bool) → nat_lt value (2 ^ 63) ≡ b → HasForm bytes (cond b (Token (Number (pos value))) (Fault LongNumber))
    go true e = record { size = value; is = refl; small = ltb-true value (2 ^ 63) e }
    go false e = tt

-- a letter and a digit are no `=`
letter_begins : (b : ℕ) → is_letter b ≡ true → not (b == 61) ≡ true
letter_begins b e = grind (arith, nat_tests)

digit_begins : (b : ℕ) → is_ascii_digit b ≡ true → not (b == 61) ≡ true
digit_begins b e = grind (arith, nat_tests)

name_form : (bytes : List ℕ) → IfSome bytes (name_token bytes)
name_form [] = tt
name_form (b ∷ bytes) = go (is_letter b && list_all is_in_name bytes) refl (nat_lt (length bytes) name_limit) where
  go : (t : Bool) → (is_letter b && list_all is_in_name bytes) ≡ t → (short : Bool)
      → IfSome (b ∷ bytes) (cond t (Some (cond short (Token Name) (Fault LongName))) None)
  go true e true = letter_begins b (and_parts (is_letter b) (list_all is_in_name bytes) e).0
  go true e false = tt
  go false e short = tt

-- so has each piece
has_form : (bytes : List ℕ) (p : Piece) → piece bytes ≡ Some p → HasForm bytes p
has_form bytes p e = subst (λ o. IfSome bytes o) e
    (is_some_either bytes (gap bytes) (option_or (set_token bytes) (option_or (word_token bytes)
    (option_or (symbol_token bytes) (option_or (number_token bytes) (name_token bytes))))) (gap_form bytes)
    (is_some_either bytes (set_token bytes) (option_or (word_token bytes)
    (option_or (symbol_token bytes) (option_or (number_token bytes) (name_token bytes)))) (set_form bytes)
    (is_some_either bytes (word_token bytes) (option_or (symbol_token bytes) (option_or (number_token bytes) (name_token bytes)))
    (word_form bytes (position (bytes_eq bytes) reserved_words))
    (is_some_either bytes (symbol_token bytes) (option_or (number_token bytes) (name_token bytes))
    (symbol_form bytes (position (bytes_eq bytes) symbols))
    (is_some_either bytes (number_token bytes) (name_token bytes) (number_form bytes) (name_form bytes))))))

pub name_begins : (bytes : List ℕ) → piece bytes ≡ Some (Token Name) → begins_well bytes ≡ true
name_begins bytes e = has_form bytes (Token Name) e

pub number_is_small : (bytes : List ℕ) (value : ℤ) → piece bytes ≡ Some (Token (Number value)) → IsSmall value
number_is_small bytes value e = has_form bytes (Token (Number value)) e

-- THE DIGITS of such a number are a token of that value, and do not begin with `=`.
same_test : (bytes : List ℕ) → list_all is_ascii_digit bytes ≡ all_ascii_digits bytes
same_test [] = refl
same_test (b ∷ bytes) = ap (λ t. is_ascii_digit b && t) (same_test bytes)

prefix_is_all : (p : ℕ → Bool) (bytes : List ℕ) → list_all p bytes ≡ true → prefix_len p bytes ≡ length bytes
prefix_is_all p [] e = refl
prefix_is_all p (b ∷ bytes) e =
    let parts = and_parts (p b) (list_all p bytes) e in
    let here : p b ≡ true = parts.0 in
    rw here (omega (arith, prefix_is_all p bytes parts.1))

first_begins : (bytes : List ℕ) → 0 < length bytes → list_all is_ascii_digit bytes ≡ true → begins_well bytes ≡ true
first_begins [] some e = absurd (omega arith)
first_begins (b ∷ bytes) some e = digit_begins b (and_parts (is_ascii_digit b) (list_all is_ascii_digit bytes) e).0

is_token : (o : Option Piece) (kind : TokenKind) → unwrap_or o (Fault BadByte) ≡ Token kind → o ≡ Some (Token kind)
is_token None kind e = cc
is_token (Some p) kind e = ap Some e

digits_are : (bytes : List ℕ) (n : ℕ) → 0 < length bytes → list_all is_ascii_digit bytes ≡ true → digits_value 10 bytes ≡ n
    → nat_lt n (2 ^ 63) ≡ true → piece bytes ≡ Some (Token (Number (pos n)))
digits_are bytes n some all value small =
    let found : number_piece bytes ≡ FoundToken (Number (pos n)) = rw (value, small) refl in
    let whole : take (length bytes) bytes ≡ bytes = take_all (length bytes) bytes (omega arith) in
    let front = leading_number bytes (length bytes) (FoundToken (Number (pos n))) some (AllPass-from_list_all is_ascii_digit bytes all 0 0 some)
    (sym (prefix_is_all is_ascii_digit bytes all)) (sym (ap number_piece whole ∙ found)) in
    ap piece (sym whole) ∙ is_token (piece (take (length bytes) bytes)) (Number (pos n)) front.piece_is

-- the digits of a number
all_digits : (n : ℕ) → n < 2 ^ 64 → list_all is_ascii_digit (decimal n) ≡ true
all_digits n small =
    same_test (decimal n)
    ∙ digits_decimal {P = λ ds. all_ascii_digits ds ≡ true} {v = digits_value 10}
    (numerals_by_value (λ ds. all_ascii_digits ds ≡ true) tells_all_ascii_digits) n small

pub number_is_token : (value : ℤ) → IsSmall value
    → (piece (signed_decimal value) ≡ Some (Token (Number value))) × (begins_well (signed_decimal value) ≡ true)
number_is_token value h =
    subst (λ z. (piece (signed_decimal z) ≡ Some (Token (Number z))) × (begins_well (signed_decimal z) ≡ true)) (sym h.is) (
      digits_are (decimal h.size) h.size is.0.0 (all_digits h.size wide) is.1 (lt-ltb h.size (2 ^ 63) h.small),
      first_begins (decimal h.size) is.0.0 (all_digits h.size wide),
    )
  where
    wide : h.size < 2 ^ 64
    wide = omega (arith, h.small)

    is : IsNumeral 10 (decimal h.size) × (digits_value 10 (decimal h.size) ≡ h.size)
    is = decimal_is_IsNumeral h.size wide
