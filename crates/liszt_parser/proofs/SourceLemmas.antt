-- What a parser sees at a place of the tokens of a text.
use Rattle.std.proofs.Common.{◌≡◌, ℕ, zero, suc, ◌+◌, ◌≤◌, Option, Some, None, List, [], ◌∷◌, length, map, drop, refl, sym, ap, subst, ◌∙◌, arith, add-one}
use Rattle.std.specs.List.{slice_get, AllByRecursion}
use Rattle.std.specs.Option.{option_map}
use Rattle.std.proofs.lemmas.Option.{slice_get_within}
use Rattle.std.proofs.lemmas.List.{drop-map, length-map}
use Rattle.liszt_lexer.specs.declared.token.Token.{Token}
use Rattle.liszt_parser.specs.Grammar.{Lexeme, lexeme, lexemes}
use Rattle.liszt_base.specs.declared.answers.Refused.TheVariants.{Fault}
use Rattle.liszt_lexer.specs.declared.token.TokenKind.{TokenKind}
use Rattle.std.specs.Prelude.{Ok}
use Rattle.liszt_parser.specs.Internal.TokenBounds.{IsInText}
use Rattle.liszt_parser.specs.Internal.Reading.{Sees, HeadIs, Is, HasValue, IsRead, HeadIsNot, Chooses, token, token_with_value, Outcome, Fails}
use Rattle.liszt_parser.proofs.Readers.{Lawful}
use Rattle.liszt_parser.proofs.TokenReaders.{token_read, token_stuck, chosen_read, chosen_stuck}

drop_some : {A : Type 0} (xs : List A) (n : ℕ) (x : A) → slice_get xs n ≡ Some x → drop n xs ≡ x ∷ drop (suc n) xs
drop_some [] n x e = absurd cc
drop_some (y ∷ ys) zero x e = let same : y ≡ x = cc in ap (λ z. z ∷ ys) same
drop_some (y ∷ ys) (suc n) x e = drop_some ys n x e

drop_none : {A : Type 0} (xs : List A) (n : ℕ) → slice_get xs n ≡ None → drop n xs ≡ []
drop_none [] zero e = refl
drop_none [] (suc n) e = refl
drop_none (y ∷ ys) zero e = absurd cc
drop_none (y ∷ ys) (suc n) e = drop_none ys n e

-- each token lies in the text
pub AllLie : List ℕ → List Token → Type 0
AllLie text tokens = (place : ℕ) (t : Token) → slice_get tokens place ≡ Some t → IsInText text t

pub all_in_text : (text : List ℕ) (tokens : List Token) → AllByRecursion (IsInText text) tokens → (place : ℕ) (t : Token) → slice_get tokens place ≡ Some t
    → IsInText text t
all_in_text text [] h place t e = absurd cc
all_in_text text (u ∷ tokens) h zero t e = let same : u ≡ t = cc in subst (IsInText text) same h.0
all_in_text text (u ∷ tokens) h (suc place) t e = all_in_text text tokens h.1 place t e

pub sees : (text : List ℕ) (tokens : List Token) (at : ℕ) (o : Option Token) → ((place : ℕ) (t : Token) → slice_get tokens place ≡ Some t → IsInText text t)
    → o ≡ slice_get tokens at → Sees text (lexemes text tokens) (lexeme text) at o
sees text tokens at (Some t) tokens_in_text e =
    let lexed : drop at (lexemes text tokens) ≡ lexeme text t ∷ map (lexeme text) (drop (suc at) tokens) =
    drop-map (lexeme text) at tokens ∙ ap (map (lexeme text)) (drop_some tokens at t (sym e)) in
    let after : map (lexeme text) (drop (suc at) tokens) ≡ drop (at + 1) (lexemes text tokens) =
    sym (drop-map (lexeme text) (suc at) tokens) ∙ ap (λ n. drop n (lexemes text tokens)) (sym (add-one at)) in
    let within = slice_get_within tokens at t (sym e) in
    let long : length (lexemes text tokens) ≡ length tokens = length-map tokens (lexeme text) in
    (lexed ∙ ap (λ rest. lexeme text t ∷ rest) after, omega arith, tokens_in_text at t (sym e))
sees text tokens at None tokens_in_text e = drop-map (lexeme text) at tokens ∙ ap (map (lexeme text)) (drop_none tokens at (sym e))

-- A TOKEN AT A PLACE is read, or is stuck there
pub token_seen : (text : List ℕ) (ts : List Lexeme) (lex : Token → Lexeme) (at : ℕ) (kind : TokenKind) (t : Token)
    → Sees text ts lex at (Some t) → (lex t).kind ≡ kind → Outcome 1 (token kind) lex ts at (Ok (t, at + 1))
token_seen text ts lex at kind t s is =
    (omega arith, s.1, token_read kind (lex t) (drop at ts) (drop (at + 1) ts) s.0 is)

pub other_seen : (text : List ℕ) (ts : List Lexeme) (lex : Token → Lexeme) (at : ℕ) (kind : TokenKind) (t : Token)
    → Sees text ts lex at (Some t) → ((lex t).kind ≡ kind → ⊥) → Fails (token kind) ts at (Fault at)
other_seen text ts lex at kind t s not =
    (omega (arith, s.1), token_stuck kind (drop at ts) (λ k. not (subst (HeadIs (Is kind)) s.0 k)))

pub end_seen : (text : List ℕ) (ts : List Lexeme) (lex : Token → Lexeme) (at : ℕ) (kind : TokenKind)
    → Sees text ts lex at None → at ≤ length ts → Fails (token kind) ts at (Fault at)
end_seen text ts lex at kind s within = (within, token_stuck kind (drop at ts) (λ k. subst (HeadIs (Is kind)) s k))

-- a choice is read, or nothing is chosen
pub choice_read : {A : Type 0} (what : TokenKind → Option A) (ts : List Lexeme) (lex : Token → Lexeme) (at : ℕ) (x : (Token × A) × ℕ)
    → Chooses what lex ts at (Some x) → IsRead (token_with_value what) (drop at ts) (lex x.0.0, x.0.1) (drop x.1 ts)
choice_read what ts lex at x s = chosen_read what x.0.1 (lex x.0.0) (drop at ts) (drop x.1 ts) s.0 s.3

pub choice_fails : {A : Type 0} (what : TokenKind → Option A) (ts : List Lexeme) (lex : Token → Lexeme) (at : ℕ)
    → Lawful (token_with_value what) → Chooses what lex ts at None → at ≤ length ts → Fails (token_with_value what) ts at (Fault at)
choice_fails what ts lex at law s within = (within, chosen_stuck what (drop at ts) law s)

abbrev pub pair : {A B : Type 0} → A → B → A × B
pair a b = (a, b)

-- what is chosen of a token
pub chooses : {A : Type 0} (what : TokenKind → Option A) (text : List ℕ) (ts : List Lexeme) (lex : Token → Lexeme) (at : ℕ) (t : Token) (value : Option A)
    → Sees text ts lex at (Some t) → what (lex t).kind ≡ value → Chooses what lex ts at (option_map (λ v. pair (pair t v) (at + 1)) value)
chooses what text ts lex at t (Some value) s is = (s.0, omega arith, s.1, is)
chooses what text ts lex at t None s is =
    λ k. let some = subst (HeadIs (HasValue what)) s.0 k in let none : Some some.0 ≡ None = sym some.1 ∙ is in absurd cc

-- whether a token is of a kind
pub is_at : (text : List ℕ) (ts : List Lexeme) (lex : Token → Lexeme) (at : ℕ) (kind : TokenKind) (t : Token) → Sees text ts lex at (Some t)
    → (lex t).kind ≡ kind → HeadIs (Is kind) (drop at ts)
is_at text ts lex at kind t s h = subst (HeadIs (Is kind)) (sym s.0) h

pub is_not_at : (text : List ℕ) (ts : List Lexeme) (lex : Token → Lexeme) (at : ℕ) (kind : TokenKind) (t : Token) → Sees text ts lex at (Some t)
    → ((lex t).kind ≡ kind → ⊥) → HeadIsNot (Is kind) (drop at ts)
is_not_at text ts lex at kind t s h k = h (subst (HeadIs (Is kind)) s.0 k)
