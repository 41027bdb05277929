-- Programs with their tokens and their trees, for worked cases of the grammar. This project's own.
use Rattle.std.specs.Prelude.{ℕ, true, false, Some, None, List, [], ◌∷◌, codes, pos}
use Rattle.liszt_base.specs.declared.answers.Place.{Place}
use Rattle.liszt_base.specs.declared.elements.Kind.TheVariants.{Vertex, Edge, Face}
use Rattle.liszt_base.specs.declared.elements.Op.TheVariants.{Add, Mul, Min}
use Rattle.liszt_base.specs.declared.elements.SetName.TheVariants.{EdgesCcw}
use Rattle.liszt_lexer.specs.Cases.{token_at}
use Rattle.liszt_lexer.specs.declared.token.Token.{Token}
use Rattle.liszt_lexer.specs.declared.token.TokenKind.TheVariants.{Name as IsName, Number as IsNumber}
use Rattle.liszt_lexer.specs.declared.token.TokenKind.TheVariants.{Word as IsWord, Symbol as IsSymbol, MinSet as IsMinSet}
use Rattle.liszt_tree.specs.declared.tree.Fun.TheVariants.{Head, Tail, Inside, Valid, Id}
use Rattle.liszt_tree.specs.declared.tree.How.TheVariants.{Set, Fold, Less}
use Rattle.liszt_tree.specs.declared.tree.Level.TheVariants as level
use Rattle.liszt_tree.specs.declared.tree.Rel.TheVariants.{Same as Equal, Other, Below, AtMost, Above}
use Rattle.liszt_tree.specs.declared.tree.Sign.TheVariants as sign
use Rattle.liszt_tree.specs.Tree.{nowhere, Expression, Number, Name, Field, Call, Towards, Neg, Not, Chain, Compare, no_links, link}
use Rattle.liszt_tree.specs.Tree.{Statement, Var, Val, Assign, If, While, For, Body, no_statement, statement}
use Rattle.liszt_tree.specs.Trees.{name, number}
use Rattle.liszt_tree.specs.Tree.{MainField, MainVar, MainAssign, MainIf, MainWhile, MainFor, Print, Main, no_item, item}

abbrev pub at : ℕ → ℕ → Place
at line col = record { line = line; col = col }

-- THE DEGREE of each vertex.
abbrev pub degree_text : List ℕ
degree_text = codes "field Deg : Vertex = 0;\nfor (e <- edges(mesh)) { Deg(head(e)) += 1; Deg(tail(e)) += 1 }\n"

abbrev pub degree_tokens : List Token
degree_tokens =
    token_at (IsWord 0) 1 1 0 5 ∷ token_at IsName 1 7 6 9 ∷ token_at (IsSymbol 6) 1 11 10 11 ∷ token_at (IsWord 11) 1 13 12 18
    ∷ token_at (IsSymbol 22) 1 20 19 20 ∷ token_at (IsNumber (pos 0)) 1 22 21 22 ∷ token_at (IsSymbol 5) 1 23 22 23
    ∷ token_at (IsWord 6) 2 1 24 27 ∷ token_at (IsSymbol 0) 2 5 28 29 ∷ token_at IsName 2 6 29 30 ∷ token_at (IsSymbol 7) 2 8 31 33
    ∷ token_at (IsWord 22) 2 11 34 39 ∷ token_at (IsSymbol 0) 2 16 39 40 ∷ token_at (IsWord 8) 2 17 40 44 ∷ token_at (IsSymbol 1) 2 21 44 45
    ∷ token_at (IsSymbol 1) 2 22 45 46 ∷ token_at (IsSymbol 2) 2 24 47 48
    ∷ token_at IsName 2 26 49 52 ∷ token_at (IsSymbol 0) 2 29 52 53 ∷ token_at (IsWord 15) 2 30 53 57 ∷ token_at (IsSymbol 0) 2 34 57 58
    ∷ token_at IsName 2 35 58 59 ∷ token_at (IsSymbol 1) 2 36 59 60 ∷ token_at (IsSymbol 1) 2 37 60 61 ∷ token_at (IsSymbol 23) 2 39 62 64
    ∷ token_at (IsNumber (pos 1)) 2 42 65 66 ∷ token_at (IsSymbol 5) 2 43 66 67
    ∷ token_at IsName 2 45 68 71 ∷ token_at (IsSymbol 0) 2 48 71 72 ∷ token_at (IsWord 16) 2 49 72 76 ∷ token_at (IsSymbol 0) 2 53 76 77
    ∷ token_at IsName 2 54 77 78 ∷ token_at (IsSymbol 1) 2 55 78 79 ∷ token_at (IsSymbol 1) 2 56 79 80 ∷ token_at (IsSymbol 23) 2 58 81 83
    ∷ token_at (IsNumber (pos 1)) 2 61 84 85 ∷ token_at (IsSymbol 3) 2 63 86 87 ∷ []

-- `Deg(target) += 1`, at the place of `Deg`, and with the place of `1`
abbrev pub adds_one : Place → Expression → Place → Statement
adds_one place target one = Assign place (codes "Deg") (Some target) (Fold Add) (Number one (pos 1))

abbrev pub degree_tree : Main
degree_tree =
    item (MainField (at 1 1) (codes "Deg") (at 1 7) Vertex (Number (at 1 22) (pos 0)))
    (item (MainFor (at 2 1) (codes "e") (at 2 6) Edge
    (statement (adds_one (at 2 26) (Call (at 2 30) Head (Name (at 2 35) (codes "e"))) (at 2 42))
    (statement (adds_one (at 2 45) (Call (at 2 49) Tail (Name (at 2 54) (codes "e"))) (at 2 61)) no_statement))) no_item)

-- ANOTHER PROGRAM: a product in a chain of sums, prefix operators, brackets that leave no node, and `min=`
abbrev pub other_text : List ℕ
other_text = codes "var m = 1 + 2 * -3 - 4; while (m <= 9 && !(m == 8)) { m min= (m - 1) }"

abbrev pub other_tokens : List Token
other_tokens =
    token_at (IsWord 1) 1 1 0 3 ∷ token_at IsName 1 5 4 5 ∷ token_at (IsSymbol 22) 1 7 6 7
    ∷ token_at (IsNumber (pos 1)) 1 9 8 9 ∷ token_at (IsSymbol 16) 1 11 10 11 ∷ token_at (IsNumber (pos 2)) 1 13 12 13
    ∷ token_at (IsSymbol 18) 1 15 14 15 ∷ token_at (IsSymbol 17) 1 17 16 17 ∷ token_at (IsNumber (pos 3)) 1 18 17 18
    ∷ token_at (IsSymbol 17) 1 20 19 20 ∷ token_at (IsNumber (pos 4)) 1 22 21 22 ∷ token_at (IsSymbol 5) 1 23 22 23
    ∷ token_at (IsWord 5) 1 25 24 29 ∷ token_at (IsSymbol 0) 1 31 30 31 ∷ token_at IsName 1 32 31 32 ∷ token_at (IsSymbol 10) 1 34 33 35
    ∷ token_at (IsNumber (pos 9)) 1 37 36 37 ∷ token_at (IsSymbol 14) 1 39 38 40 ∷ token_at (IsSymbol 21) 1 42 41 42
    ∷ token_at (IsSymbol 0) 1 43 42 43 ∷ token_at IsName 1 44 43 44 ∷ token_at (IsSymbol 8) 1 46 45 47 ∷ token_at (IsNumber (pos 8)) 1 49 48 49
    ∷ token_at (IsSymbol 1) 1 50 49 50 ∷ token_at (IsSymbol 1) 1 51 50 51 ∷ token_at (IsSymbol 2) 1 53 52 53
    ∷ token_at IsName 1 55 54 55 ∷ token_at IsMinSet 1 57 56 60 ∷ token_at (IsSymbol 0) 1 62 61 62 ∷ token_at IsName 1 63 62 63
    ∷ token_at (IsSymbol 17) 1 65 64 65 ∷ token_at (IsNumber (pos 1)) 1 67 66 67 ∷ token_at (IsSymbol 1) 1 68 67 68
    ∷ token_at (IsSymbol 3) 1 70 69 70 ∷ []

abbrev pub m_at : Place → Expression
m_at place = Name place (codes "m")

-- `1 + 2 * -3 - 4`
abbrev pub other_sum : Expression
other_sum =
    Chain level.Sum (Number (at 1 9) (pos 1))
    (link sign.Plus (at 1 11) (Chain level.Product (Number (at 1 13) (pos 2))
    (link sign.Times (at 1 15) (Neg (at 1 17) (Number (at 1 18) (pos 3))) no_links))
    (link sign.Minus (at 1 20) (Number (at 1 22) (pos 4)) no_links))

-- `m <= 9 && !(m == 8)`
abbrev pub other_test : Expression
other_test =
    Chain level.And (Compare (at 1 34) AtMost (m_at (at 1 32)) (Number (at 1 37) (pos 9)))
    (link sign.And (at 1 39) (Not (at 1 42) (Compare (at 1 46) Equal (m_at (at 1 44)) (Number (at 1 49) (pos 8)))) no_links)

-- `m - 1`
abbrev pub one_less : Expression
one_less = Chain level.Sum (m_at (at 1 63)) (link sign.Minus (at 1 65) (Number (at 1 67) (pos 1)) no_links)

abbrev pub other_tree : Main
other_tree =
    item (MainVar (at 1 1) (codes "m") (at 1 5) other_sum)
    (item (MainWhile (at 1 25) other_test (item (MainAssign (at 1 55) (codes "m") (Fold Min) one_less) no_item)) no_item)

-- EVERY OTHER CONSTRUCT: blocks with and without `else`, an empty block, and each statement of a body. The tokens have no places.
abbrev pub every_words : List (List ℕ)
every_words =
    codes "var" ∷ codes "m" ∷ codes "=" ∷ codes "-" ∷ codes "1" ∷ codes ";" ∷ codes "field" ∷ codes "F" ∷ codes ":"
    ∷ codes "Face" ∷ codes "=" ∷ codes "0" ∷ codes ";" ∷ codes "if" ∷ codes "(" ∷ codes "m" ∷ codes "==" ∷ codes "0" ∷ codes ")"
    ∷ codes "{" ∷ codes "print" ∷ codes "m" ∷ codes "}" ∷ codes "else" ∷ codes "{" ∷ codes "m" ∷ codes "=" ∷ codes "2"
    ∷ codes "}" ∷ codes "for" ∷ codes "(" ∷ codes "f" ∷ codes "<-" ∷ codes "faces" ∷ codes "(" ∷ codes "mesh" ∷ codes ")"
    ∷ codes ")" ∷ codes "{" ∷ codes "val" ∷ codes "c" ∷ codes "=" ∷ codes "inside" ∷ codes "(" ∷ codes "f" ∷ codes ")"
    ∷ codes ";" ∷ codes "var" ∷ codes "n" ∷ codes "=" ∷ codes "1" ∷ codes ";" ∷ codes "if" ∷ codes "(" ∷ codes "valid"
    ∷ codes "(" ∷ codes "c" ∷ codes ")" ∷ codes "||" ∷ codes "n" ∷ codes ">" ∷ codes "2" ∷ codes ")" ∷ codes "{" ∷ codes "n"
    ∷ codes "-=" ∷ codes "1" ∷ codes "}" ∷ codes "else" ∷ codes "{" ∷ codes "}" ∷ codes "while" ∷ codes "(" ∷ codes "n"
    ∷ codes "<" ∷ codes "3" ∷ codes ")" ∷ codes "{" ∷ codes "n" ∷ codes "*=" ∷ codes "2" ∷ codes "}" ∷ codes "for" ∷ codes "("
    ∷ codes "e" ∷ codes "<-" ∷ codes "edges_ccw" ∷ codes "(" ∷ codes "f" ∷ codes ")" ∷ codes ")" ∷ codes "{" ∷ codes "F"
    ∷ codes "(" ∷ codes "f" ∷ codes ")" ∷ codes "+=" ∷ codes "ID" ∷ codes "(" ∷ codes "towards" ∷ codes "(" ∷ codes "e"
    ∷ codes "," ∷ codes "head" ∷ codes "(" ∷ codes "e" ∷ codes ")" ∷ codes ")" ∷ codes ")" ∷ codes "%" ∷ codes "7" ∷ codes "}"
    ∷ codes "if" ∷ codes "(" ∷ codes "F" ∷ codes "(" ∷ codes "f" ∷ codes ")" ∷ codes "!=" ∷ codes "0" ∷ codes ")" ∷ codes "{"
    ∷ codes "F" ∷ codes "(" ∷ codes "f" ∷ codes ")" ∷ codes "=" ∷ codes "n" ∷ codes "}" ∷ codes "}" ∷ []

abbrev pub in_block : Statement → Body
in_block s = statement s no_statement

abbrev pub every_statement : Body
every_statement =
    statement (Val nowhere (codes "c") nowhere (Call nowhere Inside (name (codes "f"))))
    (statement (Var nowhere (codes "n") nowhere (number 1))
    (statement (If nowhere
    (Chain level.Or (Call nowhere Valid (name (codes "c"))) (link sign.Or nowhere (Compare nowhere Above (name (codes "n")) (number 2)) no_links))
    (in_block (Assign nowhere (codes "n") None Less (number 1))) no_statement true)
    (statement (While nowhere (Compare nowhere Below (name (codes "n")) (number 3))
    (in_block (Assign nowhere (codes "n") None (Fold Mul) (number 2))))
    (statement (For nowhere (codes "e") nowhere EdgesCcw nowhere (name (codes "f"))
    (in_block (Assign nowhere (codes "F") (Some (name (codes "f"))) (Fold Add)
    (Chain level.Product (Call nowhere Id (Towards nowhere (name (codes "e")) (Call nowhere Head (name (codes "e")))))
    (link sign.Rest nowhere (number 7) no_links)))))
    (in_block (If nowhere (Compare nowhere Other (Field nowhere (codes "F") (name (codes "f"))) (number 0))
    (in_block (Assign nowhere (codes "F") (Some (name (codes "f"))) Set (name (codes "n")))) no_statement false))))))

abbrev pub every_tree : Main
every_tree =
    item (MainVar nowhere (codes "m") nowhere (Neg nowhere (number 1)))
    (item (MainField nowhere (codes "F") nowhere Face (number 0))
    (item (MainIf nowhere (Compare nowhere Equal (name (codes "m")) (number 0))
    (item (Print nowhere (name (codes "m"))) no_item) (item (MainAssign nowhere (codes "m") Set (number 2)) no_item) true)
    (item (MainFor nowhere (codes "f") nowhere Face every_statement) no_item)))
