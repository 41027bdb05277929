-- The derivations of the programs of the worked cases.
use Rattle.std.proofs.Common.{List, map, refl}
use Rattle.liszt_parser.specs.Cases.{lexeme_of}
use Rattle.liszt_parser.specs.Grammar.{Lexeme, lexemes, Derives, chain, comparison, primary_expression, lowest_rank, IsExpression}
use Rattle.liszt_parser.specs.Grammar.{one_operand, chained, one_sum, compared}
use Rattle.liszt_parser.specs.Grammar.{no_prefix, negation, logical_not, number, name, field, call, towards, in_brackets, no_more_links, linked, bracketed}
use Rattle.liszt_parser.specs.Grammar.{by_semicolon, by_brace, is_declared, no_target, target, var, val, assign, if, while, for, statements, no_statements, block, no_else, else}
use Rattle.liszt_parser.specs.Grammar.{main_field, main_var, main_assign, main_if, main_while, main_for, print, main_block, main_else, items, no_items}
use Rattle.liszt_parser.proofs.Faults.{up, sum_up}
use Rattle.liszt_parser.specs.Programs.{degree_text, degree_tokens, degree_tree, other_text, other_tokens, other_tree, every_words, every_tree}
use Rattle.liszt_tree.specs.declared.tree.Level.TheVariants.{And, Sum, Product}
use Rattle.liszt_tree.specs.Tree.{Expression}

-- a sum is an expression
only_sum : {ts left : List Lexeme} {e : Expression} → IsExpression (chain Sum) ts e left → IsExpression lowest_rank ts e left
only_sum h = one_operand (one_operand (one_sum h))

-- a comparison is an expression
only_comparison : {ts left : List Lexeme} {e : Expression} → IsExpression comparison ts e left → IsExpression lowest_rank ts e left
only_comparison h = one_operand (one_operand h)

-- what stands alone is a summand
summand : {ts left : List Lexeme} {e : Expression} → IsExpression primary_expression ts e left → IsExpression (chain Product) ts e left
summand h = one_operand (no_prefix h)

-- the program that counts the edges of each vertex: its field, and its loop with the two assignments
pub degree_derives : Derives (lexemes degree_text degree_tokens) degree_tree
degree_derives =
    items (main_field _ _ _ _ _ refl refl refl refl refl (up (number _ refl)) (by_semicolon _ refl))
    (items (main_for _ _ _ _ _ _ _ _ _ refl refl refl refl refl refl refl refl refl (block _ _ refl
    (statements
    (assign _ _ refl (target (bracketed _ _ refl (up (call _ refl (bracketed _ _ refl (up (name _ refl)) refl))) refl)) refl
    (up (number _ refl)) (by_semicolon _ refl))
    (statements
    (assign _ _ refl (target (bracketed _ _ refl (up (call _ refl (bracketed _ _ refl (up (name _ refl)) refl))) refl)) refl
    (up (number _ refl)) (by_brace _ refl))
    no_statements)) refl)) no_items)

-- the other program: its declaration, the test of its loop, and the assignment there
pub other_derives : Derives (lexemes other_text other_tokens) other_tree
other_derives =
    items (main_var (is_declared _ _ _ refl refl refl (only_sum (chained (summand (number _ refl))
    (linked _ refl (chained (no_prefix (number _ refl)) (linked _ refl (negation _ refl (no_prefix (number _ refl))) no_more_links))
    (linked _ refl (summand (number _ refl)) no_more_links)))) (by_semicolon _ refl)))
    (items (main_while _ refl
    (bracketed _ _ refl (one_operand (chained (compared _ (sum_up (name _ refl)) refl (sum_up (number _ refl)))
    (linked _ refl (one_sum (one_operand (one_operand (logical_not _ refl (no_prefix (in_brackets (bracketed _ _ refl
    (only_comparison (compared _ (sum_up (name _ refl)) refl (sum_up (number _ refl)))) refl))))))) no_more_links))) refl)
    (main_block _ _ refl
    (items (main_assign _ _ refl refl (up (in_brackets (bracketed _ _ refl
    (only_sum (chained (summand (name _ refl)) (linked _ refl (summand (number _ refl)) no_more_links))) refl))) (by_brace _ refl))
    no_items) refl)) no_items)

-- what stands alone is an operand of `||`
an_or : {ts left : List Lexeme} {e : Expression} → IsExpression primary_expression ts e left → IsExpression (chain And) ts e left
an_or h = one_operand (one_sum (sum_up h))

-- the program with every other construct
pub every_derives : Derives (map lexeme_of every_words) every_tree
every_derives =
    items (main_var (is_declared _ _ _ refl refl refl
    (only_sum (one_operand (one_operand (negation _ refl (no_prefix (number _ refl)))))) (by_semicolon _ refl)))
    (items (main_field _ _ _ _ _ refl refl refl refl refl (up (number _ refl)) (by_semicolon _ refl))
    (items (main_if _ refl
    (bracketed _ _ refl (only_comparison (compared _ (sum_up (name _ refl)) refl (sum_up (number _ refl)))) refl)
    (main_block _ _ refl (items (print _ refl (up (name _ refl)) (by_brace _ refl)) no_items) refl)
    (main_else _ refl (main_block _ _ refl
    (items (main_assign _ _ refl refl (up (number _ refl)) (by_brace _ refl)) no_items) refl)))
    (items (main_for _ _ _ _ _ _ _ _ _ refl refl refl refl refl refl refl refl refl (block _ _ refl
    (statements (val (is_declared _ _ _ refl refl refl
    (up (call _ refl (bracketed _ _ refl (up (name _ refl)) refl))) (by_semicolon _ refl)))
    (statements (var (is_declared _ _ _ refl refl refl (up (number _ refl)) (by_semicolon _ refl)))
    (statements (if _ refl
    (bracketed _ _ refl (chained (an_or (call _ refl (bracketed _ _ refl (up (name _ refl)) refl)))
    (linked _ refl (one_operand (compared _ (sum_up (name _ refl)) refl (sum_up (number _ refl)))) no_more_links)) refl)
    (block _ _ refl (statements (assign _ _ refl no_target refl (up (number _ refl)) (by_brace _ refl)) no_statements) refl)
    (else _ refl (block _ _ refl no_statements refl)))
    (statements (while _ refl
    (bracketed _ _ refl (only_comparison (compared _ (sum_up (name _ refl)) refl (sum_up (number _ refl)))) refl)
    (block _ _ refl (statements (assign _ _ refl no_target refl (up (number _ refl)) (by_brace _ refl)) no_statements) refl))
    (statements (for _ _ _ _ _ _ refl refl refl refl refl (bracketed _ _ refl (up (name _ refl)) refl) refl (block _ _ refl
    (statements (assign _ _ refl (target (bracketed _ _ refl (up (name _ refl)) refl)) refl
    (only_sum (one_operand (chained (no_prefix (call _ refl (bracketed _ _ refl
    (up (towards _ _ _ _ refl refl (up (name _ refl)) refl (up (call _ refl (bracketed _ _ refl (up (name _ refl)) refl))) refl))
    refl))) (linked _ refl (no_prefix (number _ refl)) no_more_links)))) (by_brace _ refl)) no_statements) refl))
    (statements (if _ refl
    (bracketed _ _ refl (only_comparison
    (compared _ (sum_up (field _ refl (bracketed _ _ refl (up (name _ refl)) refl))) refl (sum_up (number _ refl)))) refl)
    (block _ _ refl (statements
    (assign _ _ refl (target (bracketed _ _ refl (up (name _ refl)) refl)) refl (up (name _ refl)) (by_brace _ refl))
    no_statements) refl) no_else)
    no_statements)))))) refl)) no_items)))
