-- The tokens of a text are spelled in it, one after the other.
use Rattle.std.proofs.Common.{◌≡◌, ℕ, ◌+◌, ◌-◌, ◌<◌, ◌≤◌, cond, Bool, true, false, Option, Some, None, Result, Ok, Err, List, []}
use Rattle.std.proofs.Common.{◌∷◌, ◌++◌, length, map, take, drop, nat_lt, refl, sym, ap, subst, ◌∙◌, append_assoc, length-append, arith}
use Rattle.std.specs.List.{concat, cons_option, enumerate_from, All, AllPairs, AllByRecursion}
use Rattle.std.proofs.Math.Seq.{take-append_seam, drop-append_seam}
use Rattle.std.proofs.lemmas.List.Kept.{AllPairs-cons}
use Rattle.std.proofs.lemmas.List.Elements.{All-nil, All-cons}
use Rattle.std.proofs.lemmas.Bool.{ltb-true}
use Rattle.liszt_base.specs.declared.answers.Place.{Place}
use Rattle.liszt_base.specs.declared.answers.ProgramFault.{ProgramFault}
use Rattle.liszt_base.specs.declared.answers.ProgramWhat.TheVariants.{Big}
use Rattle.liszt_lexer.specs.declared.token.Token.{Token as TokenOf}
use Rattle.liszt_lexer.specs.declared.token.TokenKind.{TokenKind}
use Rattle.liszt_lexer.specs.Lexer.{Piece, Gap, Token, Fault, piece, pieces, place_after, token_after, finding, Finding}
use Rattle.liszt_lexer.specs.Lexer.{findings_after, with_limit, prepend, tokens_or_first_fault, tokens_of, IsBefore, LiesBefore, IsSpelledIn}
use Rattle.liszt_lexer.proofs.PieceLemmas.{IsNotEmpty, none_empty, pieces_join}
use Rattle.liszt_lexer.proofs.PlaceLemmas.{ascends}
use Rattle.liszt_base.specs.Limits.{token_limit}

-- What follows holds of whatever says what bytes are as one piece.
abbrev pub Reading : Type 0
Reading = List ℕ → Option Piece

-- the findings by what is said
abbrev pub findings_by : Reading → List ℕ → List (List ℕ) → List Finding
findings_by what front [] = []
findings_by what front (bytes ∷ more) = cons_option (finding front bytes (what bytes)) (findings_by what (front ++ bytes) more)

-- a token is spelled by what is said
abbrev IsSpelledBy : Reading → List ℕ → TokenOf → Type 0
IsSpelledBy what text token =
    (token.start < token.end) × (token.end ≤ length text) × (token.place ≡ place_after (take token.start text))
    × (what (take (token.end - token.start) (drop token.start text)) ≡ Some (Token token.kind))

-- the findings of the language are those by `piece`
pub same_findings : (front : List ℕ) (ps : List (List ℕ)) → findings_after front ps ≡ findings_by piece front ps
same_findings front [] = refl
same_findings front (bytes ∷ more) = ap (cons_option (finding front bytes (piece bytes))) (same_findings (front ++ bytes) more)

-- no fault among them, and no token too many
prepend_is : (token : TokenOf) (r : Result (List TokenOf) ProgramFault) (tokens : List TokenOf) → prepend token r ≡ Ok tokens
    → (more : List TokenOf) × (r ≡ Ok more) × (tokens ≡ token ∷ more)
prepend_is token (Ok more) tokens e = (more, refl, cc)
prepend_is token (Err fault) tokens e = cc

-- one token more
all_below_limit_step : (token : TokenOf) (fault : ProgramFault) (fs rest : List Finding) (tokens : List TokenOf) (few : Bool)
    → tokens_or_first_fault (cond few (Ok token) (Err fault) ∷ rest) ≡ Ok tokens
    → ((more : List TokenOf) → tokens_or_first_fault rest ≡ Ok more → fs ≡ map Ok more)
    → ◌≡◌ {A = List Finding} (Ok token ∷ fs) (map Ok tokens)
all_below_limit_step token fault fs rest tokens false e more = cc
all_below_limit_step token fault fs rest tokens true e more =
    let o = prepend_is token (tokens_or_first_fault rest) tokens e in
    rw o.2 (ap (λ (l : List Finding). Ok token ∷ l) (more o.0 o.1))

-- where no token is one too many the findings are the tokens
pub all_below_limit : (n : ℕ) (fs : List Finding) (tokens : List TokenOf) → tokens_or_first_fault (map with_limit (enumerate_from n fs)) ≡ Ok tokens
    → fs ≡ map Ok tokens
all_below_limit n [] [] e = refl
all_below_limit n [] (t ∷ tokens) e = cc
all_below_limit n (Err fault ∷ fs) tokens e = cc
all_below_limit n (Ok token ∷ fs) tokens e =
    let big : ProgramFault = record { what = Big; place = token.place; first = None } in
    all_below_limit_step token big fs (map with_limit (enumerate_from (n + 1) fs)) tokens (nat_lt n token_limit) e (all_below_limit (n + 1) fs)

-- with one token more there is still room
few_step : (n : ℕ) (token : TokenOf) (fault : ProgramFault) (rest : List Finding) (tokens : List TokenOf) (few : Bool) → nat_lt n token_limit ≡ few
    → tokens_or_first_fault (cond few (Ok token) (Err fault) ∷ rest) ≡ Ok tokens
    → ((more : List TokenOf) → n + 1 ≤ token_limit → tokens_or_first_fault rest ≡ Ok more → n + 1 + length more ≤ token_limit)
    → n + length tokens ≤ token_limit
few_step n token fault rest tokens false is e more = cc
few_step n token fault rest tokens true is e more =
    let o = prepend_is token (tokens_or_first_fault rest) tokens e in
    let le : n + 1 ≤ token_limit = omega (arith, ltb-true n token_limit is) in
    rw o.2 (omega (arith, more o.0 le o.1))

-- at most 2^17 tokens
pub few_with_limit : (n : ℕ) (fs : List Finding) (tokens : List TokenOf) → n ≤ token_limit
    → tokens_or_first_fault (map with_limit (enumerate_from n fs)) ≡ Ok tokens → n + length tokens ≤ token_limit
few_with_limit n [] [] le e = omega (arith, le)
few_with_limit n [] (t ∷ tokens) le e = cc
few_with_limit n (Err fault ∷ fs) tokens le e = cc
few_with_limit n (Ok token ∷ fs) tokens le e =
    let big : ProgramFault = record { what = Big; place = token.place; first = None } in
    few_step n token big (map with_limit (enumerate_from (n + 1) fs)) tokens (nat_lt n token_limit) refl e (few_with_limit (n + 1) fs)

-- the bytes between a front and what is after them
pub bytes_between : (front bytes rest : List ℕ)
    → take (length front + length bytes - length front) (drop (length front) (front ++ (bytes ++ rest))) ≡ bytes
bytes_between front bytes rest =
    let size : length front + length bytes - length front ≡ length bytes = omega arith in
    rw (size, drop-append_seam front (bytes ++ rest), take-append_seam bytes rest) refl

-- a token's bytes as a piece
spelled : (what : Reading) (front bytes rest : List ℕ) (kind : TokenKind) → IsNotEmpty bytes → what bytes ≡ Some (Token kind)
    → IsSpelledBy what (front ++ (bytes ++ rest)) (token_after front bytes kind)
spelled what front bytes rest kind some is =
    let within : length front + length bytes ≤ length (front ++ (bytes ++ rest)) =
    omega (arith, length-append front (bytes ++ rest), length-append bytes rest) in
    (omega arith, within, ap place_after (sym (take-append_seam front (bytes ++ rest))), ap what (bytes_between front bytes rest) ∙ is)

-- Tokens that are spelled in the text, each after the previous one.
abbrev AreLaidOut : Reading → List ℕ → ℕ → List TokenOf → Type 0
AreLaidOut what text from [] = Unit {0}
AreLaidOut what text from (t ∷ ts) = IsSpelledBy what text t × (from ≤ t.start) × AreLaidOut what text t.end ts

-- they lie after every earlier place too
laid_out_lower : (what : Reading) (text : List ℕ) (from to : ℕ) (ts : List TokenOf) → from ≤ to → AreLaidOut what text to ts
    → AreLaidOut what text from ts
laid_out_lower what text from to [] le h = tt
laid_out_lower what text from to (t ∷ ts) le h = (h.0, omega (arith, h.1), h.2)

-- by what the piece at the front is: a gap, a token or a fault
laid_out_step : (what : Reading) (text front bytes : List ℕ) (rest : List Finding) (tokens : List TokenOf) (p : Option Piece)
    → ((kind : TokenKind) → p ≡ Some (Token kind) → IsSpelledBy what text (token_after front bytes kind))
    → ((ts : List TokenOf) → rest ≡ map Ok ts → AreLaidOut what text (length (front ++ bytes)) ts)
    → cons_option (finding front bytes p) rest ≡ map Ok tokens → AreLaidOut what text (length front) tokens
laid_out_step what text front bytes rest tokens (Some Gap) here more e =
    laid_out_lower what text (length front) (length (front ++ bytes)) tokens (omega (arith, length-append front bytes)) (more tokens e)
laid_out_step what text front bytes rest [] None here more e = cc
laid_out_step what text front bytes rest (t ∷ ts) None here more e = cc
laid_out_step what text front bytes rest [] (Some (Fault fault)) here more e = cc
laid_out_step what text front bytes rest (t ∷ ts) (Some (Fault fault)) here more e = cc
laid_out_step what text front bytes rest [] (Some (Token kind)) here more e = cc
laid_out_step what text front bytes rest (t ∷ ts) (Some (Token kind)) here more e =
    let same : token_after front bytes kind ≡ t = cc in
    let after : rest ≡ map Ok ts = cc in
    let le : length front + length bytes ≤ length (front ++ bytes) = omega (arith, length-append front bytes) in
    let le' : length front ≤ length front = omega arith in
    let whole : AreLaidOut what text (length front) (token_after front bytes kind ∷ ts) =
    (here kind refl, le', laid_out_lower what text (length front + length bytes) (length (front ++ bytes)) ts le (more ts after)) in
    subst (λ (u : TokenOf). AreLaidOut what text (length front) (u ∷ ts)) same whole

-- findings that are all tokens are laid out
laid_out : (what : Reading) (text : List ℕ) (ps : List (List ℕ)) (front : List ℕ) (tokens : List TokenOf) → front ++ concat ps ≡ text
    → AllByRecursion IsNotEmpty ps → findings_by what front ps ≡ map Ok tokens → AreLaidOut what text (length front) tokens
laid_out what text [] front [] is some e = tt
laid_out what text [] front (t ∷ ts) is some e = cc
laid_out what text (bytes ∷ more) front tokens is some e =
    laid_out_step what text front bytes (findings_by what (front ++ bytes) more) tokens (what bytes)
    (λ kind h. subst (λ l. IsSpelledBy what l (token_after front bytes kind)) is (spelled what front bytes (concat more) kind some.0 h))
    (λ ts. laid_out what text more (front ++ bytes) ts (append_assoc front bytes (concat more) ∙ is) some.1) e

-- each of them is spelled
all_spelled : (what : Reading) (text : List ℕ) (from : ℕ) (ts : List TokenOf) → AreLaidOut what text from ts
    → AllByRecursion (IsSpelledBy what text) ts
all_spelled what text from [] h = tt
all_spelled what text from (t ∷ ts) h = (h.0, all_spelled what text t.end ts h.2)

-- where one ends before another begins its place comes before too
lies_before : (what : Reading) (text : List ℕ) (t u : TokenOf) → IsSpelledBy what text t → IsSpelledBy what text u → t.end ≤ u.start
    → LiesBefore t u
lies_before what text t u here there le =
    let lt : t.start < u.start = omega (arith, here.0) in
    let within : u.start ≤ length text = omega (arith, there.0, there.1) in
    let places = ascends text t.start u.start lt within in
    let first : IsBefore t.place (place_after (take u.start text)) =
    subst (λ (p : Place). IsBefore p (place_after (take u.start text))) (sym here.2) places in
    (le, subst (λ (p : Place). IsBefore t.place p) (sym there.2) first)

-- all that are laid out after a token lie after it
all_after : (what : Reading) (text : List ℕ) (t : TokenOf) (from : ℕ) (ts : List TokenOf) → IsSpelledBy what text t → t.end ≤ from
    → AreLaidOut what text from ts → All (LiesBefore t) ts
all_after what text t from [] here le h = All-nil (LiesBefore t)
all_after what text t from (u ∷ ts) here le h =
    let later : t.end ≤ u.end = omega (arith, h.1, h.0.0) in
    All-cons (LiesBefore t) u ts (lies_before what text t u here h.0 (omega (arith, h.1))) (all_after what text t u.end ts here later h.2)

-- each lies before each later one
all_pairs : (what : Reading) (text : List ℕ) (from : ℕ) (ts : List TokenOf) → AreLaidOut what text from ts → AllPairs LiesBefore ts
all_pairs what text from [] h = λ i j d lt within. absurd (omega arith)
all_pairs what text from (t ∷ ts) h =
    let le : t.end ≤ t.end = omega arith in
    AllPairs-cons LiesBefore t ts (all_after what text t t.end ts h.0 le h.2) (all_pairs what text t.end ts h.2)

-- so are the tokens of a text
tokens_laid_out : (text : List ℕ) (tokens : List TokenOf) → tokens_of text ≡ Ok tokens → AreLaidOut piece text 0 tokens
tokens_laid_out text tokens e =
    laid_out piece text (pieces text) [] tokens (pieces_join text) (none_empty text)
    (sym (same_findings [] (pieces text)) ∙ all_below_limit 0 (findings_after [] (pieces text)) tokens e)

-- the tokens of a text are spelled in it
pub all_tokens_spelled : (text : List ℕ) (tokens : List TokenOf) → tokens_of text ≡ Ok tokens → AllByRecursion (IsSpelledIn text) tokens
all_tokens_spelled text tokens e = all_spelled piece text 0 tokens (tokens_laid_out text tokens e)

-- the tokens of a text lie one after the other
pub tokens_follow : (text : List ℕ) (tokens : List TokenOf) → tokens_of text ≡ Ok tokens → AllPairs LiesBefore tokens
tokens_follow text tokens e = all_pairs piece text 0 tokens (tokens_laid_out text tokens e)
