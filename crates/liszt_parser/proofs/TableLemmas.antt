-- A property of all entries of a table is one of the entry at an index, and of the entry of a symbol.
use Rattle.std.proofs.Common.{◌≡◌, ℕ, ◌==◌, cond, Bool, true, false, Some, List, [], ◌∷◌, refl, subst}
use Rattle.std.specs.List.{AllByRecursion}
use Rattle.std.proofs.lemmas.Bool.{eqb-true}
use Rattle.liszt_lexer.specs.declared.token.TokenKind.{TokenKind}
use Rattle.liszt_lexer.specs.declared.token.TokenKind.TheVariants.{Symbol}
use Rattle.liszt_parser.specs.Grammar.{lookup, symbol_value}

found : {A : Type 0} (P : ℕ → A → Type 0) (table : List (ℕ × A)) (place : ℕ) (x : A) → AllByRecursion (λ entry. P entry.0 entry.1) table
    → lookup table place ≡ Some x → P place x
found P [] place x all e = cc
found {A} P (entry ∷ table) place x all e = go (entry.0 == place) refl e (found P table place x all.1) where
  go : (b : Bool) → (entry.0 == place) ≡ b → cond b (Some entry.1) (lookup table place) ≡ Some x
      → (lookup table place ≡ Some x → P place x) → P place x
  go true here e more =
      let same : entry.1 ≡ x = cc in
      subst (λ y. P place y) same (subst (λ n. P n entry.1) (eqb-true entry.0 place here) all.0)
  go false here e more = more e

pub table_symbol : {A : Type 0} (P : TokenKind → A → Type 0) (table : List (ℕ × A)) (kind : TokenKind) (x : A)
    → AllByRecursion (λ entry. P (Symbol entry.0) entry.1) table → symbol_value table kind ≡ Some x → P kind x
table_symbol P table (Symbol place) x all e = found (λ n y. P (Symbol n) y) table place x all e
table_symbol P table _ x all e = cc
