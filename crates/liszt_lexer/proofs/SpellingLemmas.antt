-- A text that is cut into gaps and these tokens has them as its tokens, where they are not too many.
use Rattle.std.proofs.Common.{◌≡◌, ℕ, suc, ◌+◌, ◌-◌, cond, Bool, true, false, Option, Some, None, Result, Ok, Err, List, []}
use Rattle.std.proofs.Common.{◌∷◌, ◌++◌, length, map, take, codes, nat_lt, refl, sym, ap, subst, ◌∙◌, append_assoc, arith}
use Rattle.std.specs.List.{concat, cons_option, enumerate_from}
use Rattle.std.proofs.Math.Seq.{take-append_seam}
use Rattle.liszt_base.specs.declared.answers.ProgramFault.{ProgramFault}
use Rattle.liszt_base.specs.declared.answers.ProgramWhat.TheVariants.{Big}
use Rattle.liszt_lexer.specs.declared.token.Token.{Token as TokenOf}
use Rattle.liszt_lexer.specs.declared.token.TokenKind.{TokenKind}
use Rattle.liszt_lexer.specs.declared.token.TokenKind.TheVariants.{Symbol}
use Rattle.liszt_lexer.specs.Internal.Leading.{IsLeadingPiece}
use Rattle.liszt_lexer.specs.Lexer.{Piece, Gap, Token, Finding, is_blank, piece, pieces, pieces_after, finding, token_after, bytes_of}
use Rattle.liszt_lexer.specs.Lexer.{with_limit, prepend, tokens_or_first_fault, tokens_of}
use Rattle.liszt_lexer.proofs.FindingLemmas.{Reading, findings_by, same_findings, bytes_between}
use Rattle.liszt_lexer.proofs.LeadingPieceLemmas.{leading_blank}
use Rattle.liszt_lexer.proofs.PieceLemmas.{pieces_join}
use Rattle.liszt_lexer.proofs.TokenEndLemmas.{EndsToken, token_stops, begins_well, leading_minus, leading_bang, leading_bracket}
use Rattle.liszt_base.specs.Limits.{token_limit}

-- what a token is, and its bytes
pub record Spelling : Type 0 where
  pub kind : TokenKind
  pub bytes : List ℕ

abbrev pub spelling : List ℕ → TokenOf → Spelling
spelling text token = record { kind = token.kind; bytes = bytes_of text token }

-- the bytes are that token
pub record IsSpelling (kind : TokenKind) (bytes : List ℕ) : Type 0 where
  pub is : piece bytes ≡ Some (Token kind)

-- Pieces that are gaps, and these tokens, by what is said of pieces.
data AreCut (what : Reading) : List (List ℕ) → List Spelling → Type 0 where
  no_piece : AreCut what [] []
  a_gap : {bytes : List ℕ} {more : List (List ℕ)} {words : List Spelling} → what bytes ≡ Some Gap → AreCut what more words
      → AreCut what (bytes ∷ more) words
  a_token : {bytes : List ℕ} {more : List (List ℕ)} {words : List Spelling} (kind : TokenKind) → what bytes ≡ Some (Token kind)
      → AreCut what more words → AreCut what (bytes ∷ more) (record { kind = kind; bytes = bytes } ∷ words)

-- the text is cut into gaps and these tokens
pub Spells : List ℕ → List Spelling → Type 0
Spells text words = AreCut piece (pieces text) words

-- THE FIRST PIECE of a text, and those of what is left
pieces_past : (bytes rest : List ℕ) → pieces_after (length bytes) (bytes ++ rest) ≡ pieces rest
pieces_past [] rest = refl
pieces_past (b ∷ bytes) rest = pieces_past bytes rest

first_piece : (bytes rest : List ℕ) (is : Piece) → IsLeadingPiece (bytes ++ rest) (length bytes) is → pieces (bytes ++ rest) ≡ bytes ∷ pieces rest
first_piece [] rest is front = absurd (omega (arith, front.some))
first_piece (b ∷ bytes) rest is front =
    let one : suc (length bytes) - 1 ≡ length bytes = omega arith in
    ap (λ n. take n (b ∷ (bytes ++ rest)) ∷ pieces_after (n - 1) (bytes ++ rest)) front.size_is
    ∙ ap (λ (l : List ℕ). l ∷ pieces_after (suc (length bytes) - 1) (bytes ++ rest)) (take-append_seam (b ∷ bytes) rest)
    ∙ ap (λ n. (b ∷ bytes) ∷ pieces_after n (bytes ++ rest)) one ∙ ap (λ (ls : List (List ℕ)). (b ∷ bytes) ∷ ls) (pieces_past bytes rest)

-- nothing, a blank and a token
pub spells_nothing : Spells [] []
unfolding Spells
spells_nothing = no_piece

pub spells_blank : (b : ℕ) (rest : List ℕ) (words : List Spelling) → is_blank b ≡ true → Spells rest words → Spells (b ∷ rest) words
unfolding Spells
spells_blank b rest words blank more =
    let one : piece (b ∷ []) ≡ Some Gap = rw blank refl in
    subst (λ ps. AreCut piece ps words) (sym (first_piece (b ∷ []) rest Gap (leading_blank (b ∷ rest) (omega arith) blank))) (a_gap one more)

spells_front : (bytes rest : List ℕ) (kind : TokenKind) (words : List Spelling) → IsLeadingPiece (bytes ++ rest) (length bytes) (Token kind)
    → IsSpelling kind bytes → Spells rest words → Spells (bytes ++ rest) (record { kind = kind; bytes = bytes } ∷ words)
unfolding Spells
spells_front bytes rest kind words front is more =
    subst (λ ps. AreCut piece ps (record { kind = kind; bytes = bytes } ∷ words)) (sym (first_piece bytes rest (Token kind) front))
    (a_token kind is.is more)

-- a token before a byte that ends tokens
pub spells_token : (bytes rest : List ℕ) (kind : TokenKind) (words : List Spelling) → IsSpelling kind bytes → EndsToken rest → Spells rest words
    → Spells (bytes ++ rest) (record { kind = kind; bytes = bytes } ∷ words)
spells_token bytes rest kind words is stops more = spells_front bytes rest kind words (token_stops bytes rest kind is.is stops) is more

-- `-`, `!` and `(` before bytes that do not begin with `=`
pub spells_minus : (rest : List ℕ) (words : List Spelling) → begins_well rest ≡ true → Spells rest words
    → Spells (45 ∷ rest) (record { kind = Symbol 17; bytes = codes "-" } ∷ words)
spells_minus rest words begins more =
    spells_front (codes "-") rest (Symbol 17) words (leading_minus rest begins) (record { is = refl }) more

pub spells_bang : (rest : List ℕ) (words : List Spelling) → begins_well rest ≡ true → Spells rest words
    → Spells (33 ∷ rest) (record { kind = Symbol 21; bytes = codes "!" } ∷ words)
spells_bang rest words begins more = spells_front (codes "!") rest (Symbol 21) words (leading_bang rest begins) (record { is = refl }) more

pub spells_bracket : (rest : List ℕ) (words : List Spelling) → begins_well rest ≡ true → Spells rest words
    → Spells (40 ∷ rest) (record { kind = Symbol 0; bytes = codes "(" } ∷ words)
spells_bracket rest words begins more =
    spells_front (codes "(") rest (Symbol 0) words (leading_bracket rest begins) (record { is = refl }) more

-- WHAT THE TEXT RESULTS IN: these tokens, or one token too many
abbrev pub ResultsIn : List ℕ → List Spelling → Result (List TokenOf) ProgramFault → Type 0
ResultsIn text words (Ok tokens) = map (spelling text) tokens ≡ words
ResultsIn text words (Err fault) = fault.what ≡ Big

-- with one token more
one_more : (text : List ℕ) (words : List Spelling) (token : TokenOf) (fault : ProgramFault) (word : Spelling) (few : Bool)
    (rest : List Finding) → spelling text token ≡ word → fault.what ≡ Big → ResultsIn text words (tokens_or_first_fault rest)
    → ResultsIn text (word ∷ words) (tokens_or_first_fault (cond few (Ok token) (Err fault) ∷ rest))
one_more text words token fault word false rest is big h = big
one_more text words token fault word true rest is big h = go (tokens_or_first_fault rest) h where
  go : (r : Result (List TokenOf) ProgramFault) → ResultsIn text words r → ResultsIn text (word ∷ words) (prepend token r)
  go (Ok tokens) h = ap (λ (w : Spelling). w ∷ map (spelling text) tokens) is ∙ ap (λ (ws : List Spelling). word ∷ ws) h
  go (Err fault') h = h

results_in_after : (what : Reading) (text front : List ℕ) (n : ℕ) {ps : List (List ℕ)} {words : List Spelling} → AreCut what ps words
    → front ++ concat ps ≡ text → ResultsIn text words (tokens_or_first_fault (map with_limit (enumerate_from n (findings_by what front ps))))
results_in_after what text front n no_piece is = refl
results_in_after what text front n (a_gap {bytes} {more} {words} gap rest) is =
    subst (λ (o : Option Piece). ResultsIn text words
    (tokens_or_first_fault (map with_limit (enumerate_from n (cons_option (finding front bytes o) (findings_by what (front ++ bytes) more)))))) (sym gap)
    (results_in_after what text (front ++ bytes) n rest (append_assoc front bytes (concat more) ∙ is))
results_in_after what text front n (a_token {bytes} {more} {words} kind token rest) is =
    let word : Spelling = record { kind = kind; bytes = bytes } in
    let there : bytes_of text (token_after front bytes kind) ≡ bytes =
    subst (λ (l : List ℕ). bytes_of l (token_after front bytes kind) ≡ bytes) is (bytes_between front bytes (concat more)) in
    let same : spelling text (token_after front bytes kind) ≡ word = ap (λ (l : List ℕ). record { kind = kind; bytes = l }) there in
    subst (λ (o : Option Piece). ResultsIn text (word ∷ words)
    (tokens_or_first_fault (map with_limit (enumerate_from n (cons_option (finding front bytes o) (findings_by what (front ++ bytes) more)))))) (sym token)
    (one_more text words (token_after front bytes kind)
    (record { what = Big; place = (token_after front bytes kind).place; first = None }) word (nat_lt n token_limit)
    (map with_limit (enumerate_from (n + 1) (findings_by what (front ++ bytes) more))) same refl
    (results_in_after what text (front ++ bytes) (n + 1) rest (append_assoc front bytes (concat more) ∙ is)))

pub results_in : (text : List ℕ) (words : List Spelling) → Spells text words → ResultsIn text words (tokens_of text)
unfolding Spells
results_in text words cut =
    subst (λ (fs : List Finding). ResultsIn text words (tokens_or_first_fault (map with_limit (enumerate_from 0 fs)))) (sym (same_findings [] (pieces text)))
    (results_in_after piece text [] 0 cut (pieces_join text))
