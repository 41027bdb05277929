-- What reading the tokens up to the first that is too deep tells of them all.
use Rattle.std.proofs.Common.{◌≡◌, zero, suc, ◌∷◌, ℕ, ◌+◌, ◌<◌, ◌≤◌, inl, inr, Some, List, [], length, take, get_or, refl, sym, ap, subst, ◌∙◌, arith}
use Rattle.std.specs.Prelude.{Result, Ok}
use Rattle.std.specs.List.{AllByRecursion}
use Rattle.std.proofs.lemmas.List.{take-take, take-map, length-map, get_or-map, length-take-le, append-nil}
use Rattle.liszt_base.specs.declared.answers.Place.{Place}
use Rattle.liszt_base.specs.declared.answers.ProgramWhat.TheVariants.{Syntax, Deep}
use Rattle.liszt_base.specs.declared.answers.Refused.{Refused}
use Rattle.liszt_lexer.specs.Lexer.{tokens_of, IsSpelledIn}
use Rattle.liszt_lexer.specs.declared.token.Token.{Token}
use Rattle.liszt_lexer.proofs.FindingLemmas.{all_tokens_spelled}
use Rattle.liszt_tree.specs.declared.tree.Program.{Program}
use Rattle.liszt_tree.specs.Tree.{Main}
use Rattle.liszt_parser.specs.Grammar.{Lexeme, lexeme, lexemes, Derives}
use Rattle.liszt_parser.specs.Internal.Nesting.{IsFirstDeep}
use Rattle.liszt_parser.specs.Internal.TokenBounds.{IsInText}
use Rattle.liszt_parser.specs.Internal.ProgramParsing.{IsParsed}
use Rattle.liszt_parser.specs.ParseFault.{IsProgramPrefix, IsSyntaxAt, IsShallow, place_of, fault_at, IsParseFault}

-- SHALLOW up to an earlier place
shallow_before : (ts : List Lexeme) (place up_to : ℕ) → place ≤ up_to → IsShallow ts up_to → IsShallow ts place
shallow_before ts place up_to le shallow k lt within = shallow k (omega arith) within

pub syntax_primary : (ts : List Lexeme) (ending : Place) (place : ℕ) → IsShallow ts (length ts) → IsSyntaxAt ts place
    → IsParseFault ts ending (Some (fault_at Syntax (place_of ts ending place)))
syntax_primary ts ending place shallow s = (place, inl (s, shallow_before ts place (length ts) s.within shallow, refl))

-- THE FRONT up to the first token that is too deep. Syntax in it is Syntax in all.
front_length : (ts : List Lexeme) (deep : ℕ) → deep < length ts → length (take (deep + 1) ts) ≡ deep + 1
front_length ts deep lt = length-take-le (deep + 1) ts (omega arith)

syntax_in_all : (ts : List Lexeme) (deep place : ℕ) → deep < length ts → place ≤ deep → IsSyntaxAt (take (deep + 1) ts) place → IsSyntaxAt ts place
syntax_in_all ts deep place lt le s =
    let long = front_length ts deep lt in
    record {
      within = omega arith;
      before = subst IsProgramPrefix (take-take place (deep + 1) ts (omega arith)) s.before;
      token = λ _ b. s.token (omega arith) (subst IsProgramPrefix (sym (take-take (place + 1) (deep + 1) ts (omega arith))) b);
      «end» = λ e. absurd (omega arith);
    }

pub syntax_first : (ts : List Lexeme) (ending : Place) (deep place : ℕ) → IsFirstDeep ts (Some deep) → place ≤ deep
    → IsSyntaxAt (take (deep + 1) ts) place → IsParseFault ts ending (Some (fault_at Syntax (place_of ts ending place)))
syntax_first ts ending deep place first le s =
    (place, inl (syntax_in_all ts deep place first.1 le s, shallow_before ts place deep le first.0, refl))

-- and where a program begins with the front it is Deep
deep_by : (ts : List Lexeme) (ending : Place) (deep : ℕ) → IsFirstDeep ts (Some deep) → IsProgramPrefix (take (deep + 1) ts)
    → IsParseFault ts ending (Some (fault_at Deep (place_of ts ending deep)))
deep_by ts ending deep first begins =
    (deep, inr (record { within = first.1; deep = first.2; shallow = first.0; begins = begins }, refl))

pub deep_of_program : (ts : List Lexeme) (ending : Place) (deep : ℕ) (tree : Main) → IsFirstDeep ts (Some deep) → Derives (take (deep + 1) ts) tree
    → IsParseFault ts ending (Some (fault_at Deep (place_of ts ending deep)))
deep_of_program ts ending deep tree first d =
    deep_by ts ending deep first ([], tree, subst (λ (all : List Lexeme). Derives all tree) (sym (append-nil (take (deep + 1) ts))) d)

pub deep_at_end : (ts : List Lexeme) (ending : Place) (deep place : ℕ) → IsFirstDeep ts (Some deep) → deep < place
    → IsSyntaxAt (take (deep + 1) ts) place → IsParseFault ts ending (Some (fault_at Deep (place_of ts ending deep)))
deep_at_end ts ending deep place first lt s =
    let long = front_length ts deep first.1 in
    let within = s.within in
    let is : place ≡ deep + 1 = omega arith in
    deep_by ts ending deep first (subst IsProgramPrefix (ap (λ n. take n (take (deep + 1) ts)) is ∙ take-take (deep + 1) (deep + 1) ts (omega arith)) s.before)

-- THE TOKENS of a text lie in it, and so do those of a front; the lexemes of a front are a prefix of the lexemes.
abbrev lie_by : (text : List ℕ) (tokens : List Token) → AllByRecursion (IsSpelledIn text) tokens → AllByRecursion (IsInText text) tokens
lie_by text [] h = tt
lie_by text (t ∷ tokens) h =
    let start = h.0.0 in
    let inside = h.0.1 in
    ((omega arith, inside), lie_by text tokens h.1)

pub all_in_text : (text : List ℕ) (tokens : List Token) → tokens_of text ≡ Ok tokens → AllByRecursion (IsInText text) tokens
all_in_text text tokens e = lie_by text tokens (all_tokens_spelled text tokens e)

each_in_front : {A : Type 0} (P : A → Type 0) (n : ℕ) (xs : List A) → AllByRecursion P xs → AllByRecursion P (take n xs)
each_in_front P zero xs h = tt
each_in_front P (suc n) [] h = tt
each_in_front P (suc n) (x ∷ xs) h = (h.0, each_in_front P n xs h.1)

pub front_in_text : (text : List ℕ) (tokens : List Token) (n : ℕ) → tokens_of text ≡ Ok tokens → AllByRecursion (IsInText text) (take n tokens)
front_in_text text tokens n e = each_in_front (IsInText text) n tokens (all_in_text text tokens e)

pub front_reads : (text : List ℕ) (tokens : List Token) (n : ℕ) (result : Result Program (Refused ℕ))
    → IsParsed (lexemes text (take n tokens)) result → IsParsed (take n (lexemes text tokens)) result
front_reads text tokens n result h = subst (λ ts. IsParsed ts result) (sym (take-map (lexeme text) n tokens)) h

-- where a token stands
pub place_of_token : (text : List ℕ) (tokens : List Token) (ending : Place) (place : ℕ) (d : Token) → place < length tokens
    → place_of (lexemes text tokens) ending place ≡ (get_or tokens place d).place
place_of_token text tokens ending place d lt =
    let all = lexemes text tokens in
    let long : place < length all = omega (arith, lt, length-map tokens (lexeme text)) in
    get_or-map (λ t. t.place) all place (lexeme text d) ending long ∙ ap (λ t. t.place) (get_or-map (lexeme text) tokens place d (lexeme text d) lt)
