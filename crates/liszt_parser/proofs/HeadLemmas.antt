-- What the first token says of its sort, and its sort of the token.
use Rattle.std.proofs.Common.{◌≡◌, ℕ, ◌==◌, true, Option, Some, None, List, [], ◌∷◌, refl, sym, ap, ◌∙◌, arith}
use Rattle.std.proofs.lemmas.Bool.Decides.{nat_tests}
use Rattle.liszt_lexer.specs.declared.token.TokenKind.{TokenKind}
use Rattle.liszt_lexer.specs.declared.token.TokenKind.TheVariants.{Word, Symbol}
use Rattle.liszt_tree.specs.declared.tree.Fun.{Fun}
use Rattle.liszt_parser.specs.Grammar.{Lexeme, fun_of, close_brace, else_word}
use Rattle.liszt_parser.specs.Internal.Reading.{SameHead, HeadIs, Is, HeadIsNot}
use Rattle.liszt_parser.specs.Internal.Sorts.{an_end, an_else, sort_or, sort_by, sort_of, head_sort, Ends, NoElse}
use Rattle.liszt_parser.proofs.Sorts.{sort_end, sort_else, clash}

pub sort_same : (left other : List Lexeme) → SameHead left other → head_sort left ≡ head_sort other
sort_same [] [] h = refl
sort_same (t ∷ left) (u ∷ other) h = ap (λ (z : Lexeme). sort_of z.kind) h
sort_same [] (u ∷ other) h = absurd h
sort_same (t ∷ left) [] h = absurd h

pub ends_same : (left other : List Lexeme) → SameHead left other → Ends left → Ends other
ends_same left other h ends = sym (sort_same left other h) ∙ ends

pub no_else_same : (left other : List Lexeme) → SameHead left other → NoElse left → NoElse other
no_else_same left other h none e = none (sort_same left other h ∙ e)

pub head_sorted : (kind : TokenKind) (ts : List Lexeme) → HeadIs (Is kind) ts → head_sort ts ≡ sort_of kind
head_sorted kind [] h = absurd h
head_sorted kind (t ∷ ts) h = ap sort_of h

-- `else` and `}` are the only tokens of their sorts
else_place : (place : ℕ) (o : Option Fun) → fun_of (Word place) ≡ o → sort_by o (Word place) ≡ an_else → (place == 4) ≡ true
unfolding sort_by sort_or
else_place place (Some fun) e h = absurd cc
else_place place None e h = grind (arith, nat_tests)

same_place : (k l : ℕ) → (k == l) ≡ true → k ≡ l
same_place k l h = grind (arith, nat_tests)

pub else_is : (kind : TokenKind) → sort_of kind ≡ an_else → kind ≡ else_word
unfolding sort_of sort_by sort_or
else_is (Word place) h = ap Word (same_place place 4 (else_place place (fun_of (Word place)) refl h))
else_is (Symbol place) h = absurd (no_symbol place h)
  where
    no_symbol : (place : ℕ) → sort_of (Symbol place) ≡ an_else → ⊥
    no_symbol place h = grind (arith, nat_tests)
else_is _ h = absurd cc

end_place : (place : ℕ) → sort_of (Symbol place) ≡ an_end → (place == 3) ≡ true
unfolding sort_of sort_by sort_or
end_place place h = grind (arith, nat_tests)

no_word_ends : (place : ℕ) (o : Option Fun) → sort_by o (Word place) ≡ an_end → ⊥
unfolding sort_by sort_or
no_word_ends place (Some fun) h = cc
no_word_ends place None h = grind (arith, nat_tests)

pub end_is : (kind : TokenKind) → sort_of kind ≡ an_end → kind ≡ close_brace
unfolding sort_of sort_by
end_is (Symbol place) h = ap Symbol (same_place place 3 (end_place place h))
end_is (Word place) h = absurd (no_word_ends place (fun_of (Word place)) h)
end_is _ h = absurd cc

pub no_else : (left : List Lexeme) → HeadIsNot (Is else_word) left → NoElse left
no_else [] n h = clash an_end an_else refl h refl
no_else (t ∷ left) n h = n (else_is t.kind h)

pub not_else : (left : List Lexeme) → NoElse left → HeadIsNot (Is else_word) left
not_else left none h = none (head_sorted else_word left h ∙ sort_else refl)

pub ends_at : (ts : List Lexeme) → HeadIs (Is close_brace) ts → Ends ts
ends_at ts h = head_sorted close_brace ts h ∙ sort_end refl

pub not_ends : (t : Lexeme) (ts : List Lexeme) → HeadIsNot (Is close_brace) (t ∷ ts) → Ends (t ∷ ts) → ⊥
not_ends t ts n h = n (end_is t.kind h)
