-- Which tokens have a strength, so that what does not continue with an expression stops it.
use Rattle.std.proofs.Common.{◌≡◌, ℕ, ◌<◌, ◌≤◌, ◌⊎◌, inl, inr, true, Option, Some, None, List, [], ◌∷◌, refl, ap, arith}
use Rattle.std.specs.Prelude.{is_some}
use Rattle.std.proofs.lemmas.Bool.Decides.{nat_tests}
use Rattle.liszt_lexer.specs.declared.token.TokenKind.{TokenKind}
use Rattle.liszt_lexer.specs.declared.token.TokenKind.TheVariants.{Symbol}
use Rattle.liszt_tree.specs.declared.tree.Level.{Level}
use Rattle.liszt_tree.specs.declared.tree.Level.TheVariants.{Or, And, Sum, Product}
use Rattle.liszt_parser.specs.Grammar.{Lexeme, chain, comparison, prefix_expression, primary_expression, operand, sign_of, rel_of, open_bracket}
use Rattle.liszt_parser.specs.Internal.Reading.{HeadIsNot, Is, HasValue}
use Rattle.liszt_parser.specs.Internal.Sorts.{strength, strength_or, level_strength, rank_strength, Stops}
use Rattle.liszt_parser.proofs.Sorts.{rel_strength, open_strength}

-- each strength is that of an operator of its level, of a comparison, or of the opening bracket
has : {A : Type 0} (o : Option A) → is_some o ≡ true → (value : A) × (o ≡ Some value)
has (Some value) h = (value, refl)
has None h = absurd cc

rel_place : (place : ℕ) → strength (Symbol place) ≡ 3 → is_some (rel_of (Symbol place)) ≡ true
unfolding strength strength_or
rel_place place e = grind (arith, nat_tests)

rel_is : (kind : TokenKind) → strength kind ≡ 3 → HasValue rel_of kind
unfolding strength strength_or
rel_is (Symbol place) e = has (rel_of (Symbol place)) (rel_place place e)
rel_is _ e = absurd (omega arith)

sign_place : (level : Level) (place : ℕ) → strength (Symbol place) ≡ level_strength level → is_some (sign_of level (Symbol place)) ≡ true
unfolding strength strength_or
sign_place Or place e = grind (arith, nat_tests)
sign_place And place e = grind (arith, nat_tests)
sign_place Sum place e = grind (arith, nat_tests)
sign_place Product place e = grind (arith, nat_tests)

strong : (level : Level) → 0 < level_strength level
strong Or = omega arith
strong And = omega arith
strong Sum = omega arith
strong Product = omega arith

sign_is : (level : Level) (kind : TokenKind) → strength kind ≡ level_strength level → HasValue (sign_of level) kind
unfolding strength strength_or
sign_is level (Symbol place) e = has (sign_of level (Symbol place)) (sign_place level place e)
sign_is level _ e = let some = strong level in absurd (omega arith)

open_place : (place : ℕ) → 5 < strength (Symbol place) → place ≡ 0
unfolding strength strength_or
open_place place l = grind (arith, nat_tests)

open_is : (kind : TokenKind) → 5 < strength kind → kind ≡ open_bracket
unfolding strength strength_or
open_is (Symbol place) l = ap Symbol (open_place place l)
open_is _ l = absurd (omega arith)

-- WHAT STOPS
at_most : (k l : ℕ) → (k ≤ l) ⊎ (l < k)
at_most k l = grind arith

-- what begins with no bracket, and no operator of a level, and is no comparison
pub primary_stops : (left : List Lexeme) → HeadIsNot (Is open_bracket) left → Stops primary_expression left
primary_stops [] h = omega arith
primary_stops (t ∷ left) h = go (at_most (strength t.kind) 5) where
  go : (strength t.kind ≤ 5) ⊎ (5 < strength t.kind) → strength t.kind < 7
  go (inl l) = omega arith
  go (inr l) = absurd (h (open_is t.kind l))

pub no_bracket : (left : List Lexeme) → Stops primary_expression left → HeadIsNot (Is open_bracket) left
no_bracket [] stop h = h
no_bracket (t ∷ left) stop h = let is = open_strength h in omega arith

pub prefix_stops : (left : List Lexeme) → Stops primary_expression left → Stops prefix_expression left
prefix_stops [] stop = omega arith
prefix_stops (t ∷ left) stop = go (at_most (strength t.kind) 5) where
  go : (strength t.kind ≤ 5) ⊎ (5 < strength t.kind) → strength t.kind < 6
  go (inl l) = omega arith
  go (inr l) = let is = open_strength (open_is t.kind l) in absurd (omega arith)

differs : {A : Type 0} (k l : ℕ) → (k ≡ l → A) → (A → ⊥) → (k < l) ⊎ (l < k)
differs k l f h = go (trichotomy k l) where
  go : (k < l) ⊎ ((k ≡ l) ⊎ (l < k)) → (k < l) ⊎ (l < k)
  go (inl a) = inl a
  go (inr (inl e)) = absurd (h (f e))
  go (inr (inr a)) = inr a

  trichotomy : (k l : ℕ) → (k < l) ⊎ ((k ≡ l) ⊎ (l < k))
  trichotomy k l = grind arith

pub chain_stops : (level : Level) (left : List Lexeme) → Stops (operand level) left → HeadIsNot (HasValue (sign_of level)) left
    → Stops (chain level) left
chain_stops level [] stop h = strong level
chain_stops level (t ∷ left) stop h =
    go level stop (differs (strength t.kind) (level_strength level) (sign_is level t.kind) h) where
      go : (level : Level) → strength t.kind < rank_strength (operand level)
          → (strength t.kind < level_strength level) ⊎ (level_strength level < strength t.kind)
          → strength t.kind < level_strength level
      go level stop (inl l) = l
      go Or stop (inr l) = absurd (omega arith)
      go And stop (inr l) = absurd (omega arith)
      go Sum stop (inr l) = absurd (omega arith)
      go Product stop (inr l) = absurd (omega arith)

pub comparison_stops : (left : List Lexeme) → HeadIsNot (HasValue rel_of) left → Stops (chain Sum) left → Stops comparison left
comparison_stops [] h stop = omega arith
comparison_stops (t ∷ left) h stop = go (differs (strength t.kind) 3 (rel_is t.kind) h) where
  go : (strength t.kind < 3) ⊎ (3 < strength t.kind) → strength t.kind < 3
  go (inl l) = l
  go (inr l) = absurd (omega arith)

pub no_comparison_left : (left : List Lexeme) → Stops comparison left → HeadIsNot (HasValue rel_of) left × Stops (chain Sum) left
no_comparison_left [] stop = (λ h. h, omega arith)
no_comparison_left (t ∷ left) stop = (λ h. let is = rel_strength t.kind h.0 h.1 in omega arith, omega arith)
