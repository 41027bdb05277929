-- The trees of the worked cases, without places. This project's own.
use Rattle.std.specs.Prelude.{ℕ, true, false, Some, None, List, codes, pos}
use Rattle.liszt_base.specs.declared.elements.Kind.TheVariants.{Vertex, Edge, Face}
use Rattle.liszt_base.specs.declared.elements.Op.TheVariants.{Add, Mul, And as AndBits}
use Rattle.liszt_base.specs.declared.elements.Op.TheVariants.{Or as OrBits, Xor, Min, Max}
use Rattle.liszt_base.specs.declared.elements.SetName.TheVariants.{EdgesCcw}
use Rattle.liszt_tree.specs.declared.tree.Fun.{Fun}
use Rattle.liszt_tree.specs.declared.tree.Fun.TheVariants.{Head, Tail, Inside, Valid, Id}
use Rattle.liszt_tree.specs.declared.tree.How.TheVariants.{Set, Fold, Less}
use Rattle.liszt_tree.specs.declared.tree.How.{How}
use Rattle.liszt_tree.specs.declared.tree.Level.TheVariants as level
use Rattle.liszt_tree.specs.declared.tree.Rel.TheVariants.{Same as Equal, Below}
use Rattle.liszt_tree.specs.declared.tree.Sign.{Sign}
use Rattle.liszt_tree.specs.declared.tree.Sign.TheVariants as sign
use Rattle.liszt_tree.specs.Tree.{nowhere, Expression, Number, Name, Call, Towards}
use Rattle.liszt_tree.specs.Tree.{Neg, Not, Chain, Compare, no_links, link}
use Rattle.liszt_tree.specs.Tree.{Statement, Var, Val, Assign, If, While}
use Rattle.liszt_tree.specs.Tree.{For, Body, no_statement, statement}
use Rattle.liszt_tree.specs.Tree.{MainField, MainVar, MainFor, MainWhile, MainIf}
use Rattle.liszt_tree.specs.Tree.{MainAssign, Print, Main, no_item, item}

abbrev pub name : List ℕ → Expression
name text = Name nowhere text

abbrev pub number : ℕ → Expression
number n = Number nowhere (pos n)

abbrev pub adds_one_to : Fun → Statement
adds_one_to fun =
    Assign nowhere (codes "Deg") (Some (Call nowhere fun (name (codes "e")))) (Fold Add) (number 1)

abbrev pub degrees : Main
degrees =
    item (MainField nowhere (codes "Deg") nowhere Vertex (number 0))
    (item (MainFor nowhere (codes "e") nowhere Edge
    (statement (adds_one_to Head) (statement (adds_one_to Tail) no_statement))) no_item)

abbrev pub is_m : ℕ → Expression
is_m n = Compare nowhere Equal (name (codes "m")) (number n)

abbrev pub choices : Main
choices =
    item (MainWhile nowhere (Compare nowhere Below (name (codes "m")) (number 3))
    (item (MainIf nowhere (is_m 0) no_item (item (Print nowhere (name (codes "m"))) no_item) true)
    (item (MainIf nowhere (is_m 1) no_item no_item true)
    (item (MainAssign nowhere (codes "m") (Fold Min) (Neg nowhere (number 1))) no_item)))) no_item

abbrev pub brackets : Expression
brackets =
    Compare nowhere Below
    (Chain level.Product
    (Neg nowhere (Chain level.Sum (name (codes "a"))
    (link sign.Plus nowhere (number 1) no_links)))
    (link sign.Times nowhere
    (Chain level.Sum (name (codes "b"))
    (link sign.Minus nowhere
    (Chain level.Sum (name (codes "c")) (link sign.Minus nowhere (number 2) no_links))
    no_links)) no_links))
    (Not nowhere (Chain level.And (name (codes "x"))
    (link sign.And nowhere (name (codes "y")) no_links)))

abbrev pub plain_chain : Expression
plain_chain =
    Chain level.Sum (name (codes "a"))
    (link sign.Minus nowhere (name (codes "b"))
    (link sign.Minus nowhere (Towards nowhere (name (codes "e")) (name (codes "v"))) no_links))

-- A body with every statement and every assignment.
abbrev pub sets_n : How → Expression → Statement
sets_n how value = Assign nowhere (codes "n") None how value

abbrev pub single_statement : Statement → Body
single_statement s = statement s no_statement

abbrev pub every_statement : Body
every_statement =
    statement (Var nowhere (codes "n") nowhere (number 1))
    (statement (Val nowhere (codes "c") nowhere (Call nowhere Inside (name (codes "f"))))
    (statement (If nowhere (Call nowhere Valid (name (codes "c")))
    (single_statement (Assign nowhere (codes "F") (Some (name (codes "c"))) Less
    (name (codes "n")))) no_statement false)
    (statement (While nowhere (Compare nowhere Below (name (codes "n")) (number 3))
    (single_statement (sets_n (Fold Mul) (number 2))))
    (statement (For nowhere (codes "e") nowhere EdgesCcw nowhere (name (codes "f"))
    (single_statement (sets_n (Fold Max)
    (Call nowhere Id (Call nowhere Tail (name (codes "e")))))))
    (statement (sets_n (Fold AndBits) (number 7))
    (statement (sets_n (Fold OrBits) (number 1))
    (statement (sets_n (Fold Xor) (number 3))
    (single_statement (sets_n Set (number 0))))))))))

abbrev pub over_faces : Main
over_faces =
    item (MainVar nowhere (codes "m") nowhere (Neg nowhere (number 1)))
    (item (MainFor nowhere (codes "f") nowhere Face every_statement)
    (item (MainIf nowhere (Compare nowhere Equal (name (codes "m")) (number 0)) no_item no_item
    false) no_item))

-- operands of one level, and prefix operators in a row
abbrev pub sum_of : Expression → Sign → Expression → Expression
sum_of a s b = Chain level.Sum a (link s nowhere b no_links)

abbrev pub summed_sum : Expression
summed_sum =
    sum_of (sum_of (name (codes "a")) sign.Plus (name (codes "b"))) sign.Plus (name (codes "c"))

abbrev pub compared_comparison : Expression
compared_comparison =
    Compare nowhere Equal (Compare nowhere Below (name (codes "a")) (name (codes "b")))
    (name (codes "c"))

abbrev pub compared_to_comparison : Expression
compared_to_comparison =
    Compare nowhere Equal (name (codes "a"))
    (Compare nowhere Below (name (codes "b")) (name (codes "c")))

abbrev pub prefixes : Expression
prefixes = Not nowhere (Neg nowhere (Neg nowhere (name (codes "x"))))

abbrev pub either : Expression
either =
    Chain level.Or (Chain level.And (name (codes "a"))
    (link sign.And nowhere
    (Chain level.Or (name (codes "b")) (link sign.Or nowhere (name (codes "c")) no_links))
    no_links))
    (link sign.Or nowhere (name (codes "d")) no_links)
