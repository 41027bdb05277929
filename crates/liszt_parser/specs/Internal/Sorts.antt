-- What a token starts, by its kind: its sort; and its strength as an operator. Private functions' contracts cite it.
use Rattle.std.specs.Prelude.{◌≡◌, ℕ, ◌<◌, ℤ, List, [], ◌∷◌, Option, Some, None}
use Rattle.liszt_lexer.specs.declared.token.TokenKind.{TokenKind}
use Rattle.liszt_lexer.specs.declared.token.TokenKind.TheVariants.{Name as NameToken, Number as NumberToken, Word, Symbol, MinSet, MaxSet}
use Rattle.liszt_tree.specs.declared.tree.Fun.{Fun}
use Rattle.liszt_tree.specs.declared.tree.Level.{Level}
use Rattle.liszt_tree.specs.declared.tree.Level.TheVariants.{Or, And, Sum, Product}
use Rattle.liszt_parser.specs.Grammar.{Lexeme, Rank, chain, comparison, prefix_expression, primary_expression, lookup, fun_of}

-- The sorts of first tokens of productions.
pub data Sort : Type 0 where
  a_number : ℤ → Sort
  a_call : Fun → Sort
  a_name a_towards an_open a_minus a_bang a_field a_var a_val an_if an_else a_while a_for a_print an_end another : Sort

-- The sort, or `another` where there is none.
unfoldable pub sort_or : Option Sort → Sort
sort_or (Some s) = s
sort_or None = another

-- The words and the symbols with a sort, by index.
abbrev pub word_sorts : List (ℕ × Sort)
word_sorts =
    (0, a_field) ∷ (1, a_var) ∷ (2, a_val) ∷ (3, an_if) ∷ (4, an_else) ∷ (5, a_while) ∷ (6, a_for) ∷ (7, a_print) ∷ (20, a_towards) ∷ []

abbrev pub symbol_sorts : List (ℕ × Sort)
symbol_sorts = (0, an_open) ∷ (3, an_end) ∷ (17, a_minus) ∷ (21, a_bang) ∷ []

unfoldable pub sort_by : Option Fun → TokenKind → Sort
sort_by (Some fun) kind = a_call fun
sort_by None NameToken = a_name
sort_by None (NumberToken n) = a_number n
sort_by None (Word place) = sort_or (lookup word_sorts place)
sort_by None (Symbol place) = sort_or (lookup symbol_sorts place)
sort_by None MinSet = another
sort_by None MaxSet = another

unfoldable pub sort_of : TokenKind → Sort
sort_of kind = sort_by (fun_of kind) kind

-- The sort of the first token.
abbrev pub head_sort : List Lexeme → Sort
head_sort [] = an_end
head_sort (t ∷ ts) = sort_of t.kind

-- The strength of a token as an operator after an expression, 0 for none.
unfoldable pub strength_or : Option ℕ → ℕ
strength_or (Some n) = n
strength_or None = 0

-- The strengths of the operators and of the opening bracket, by index; the weakest is 1.
abbrev pub strengths : List (ℕ × ℕ)
strengths =
    (0, 9) ∷ (15, 1) ∷ (14, 2) ∷ (8, 3) ∷ (9, 3) ∷ (10, 3) ∷ (11, 3) ∷ (12, 3) ∷ (13, 3) ∷
    (16, 4) ∷ (17, 4) ∷ (18, 5) ∷ (19, 5) ∷ (20, 5) ∷ []

unfoldable pub strength : TokenKind → ℕ
strength (Symbol place) = strength_or (lookup strengths place)
strength _ = 0

abbrev pub strength_at : List Lexeme → ℕ
strength_at [] = 0
strength_at (t ∷ ts) = strength t.kind

-- The strength of the operators of each level, and the least strength of an expression of each rank.
abbrev pub level_strength : Level → ℕ
level_strength Or = 1
level_strength And = 2
level_strength Sum = 4
level_strength Product = 5

abbrev pub rank_strength : Rank → ℕ
rank_strength (chain level) = level_strength level
rank_strength comparison = 3
rank_strength prefix_expression = 6
rank_strength primary_expression = 7

-- The remaining tokens do not continue an expression of the rank.
abbrev pub Stops : Rank → List Lexeme → Type 0
Stops rank left = strength_at left < rank_strength rank

-- The remaining tokens are empty or start with `}`; they do not start with `else`.
abbrev pub Ends : List Lexeme → Type 0
Ends left = head_sort left ≡ an_end

abbrev pub NoElse : List Lexeme → Type 0
NoElse left = head_sort left ≡ an_else → ⊥
