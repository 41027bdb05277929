-- The productions of the grammar as readers, in the order in which a parser reads them. Private functions' contracts cite them.
use Rattle.std.specs.Prelude.{⊤, true, false, Option, Some, None, List, ℤ}
use Rattle.liszt_lexer.specs.declared.token.TokenKind.{TokenKind}
use Rattle.liszt_lexer.specs.declared.token.TokenKind.TheVariants.{Name as NameToken, Number as NumberToken}
use Rattle.liszt_base.specs.declared.elements.Kind.{Kind}
use Rattle.liszt_base.specs.declared.elements.SetName.{SetName}
use Rattle.liszt_tree.specs.declared.tree.Fun.{Fun}
use Rattle.liszt_tree.specs.declared.tree.How.{How}
use Rattle.liszt_tree.specs.declared.tree.Level.{Level}
use Rattle.liszt_tree.specs.declared.tree.Level.TheVariants.{Sum}
use Rattle.liszt_tree.specs.declared.tree.Rel.{Rel}
use Rattle.liszt_tree.specs.Tree.{Expression, Number, Name, Field, Call, Towards, Neg, Not, Chain, Compare, Links, no_links, link, Statement, Var, Val, Assign, If, While, For, Body, no_statement, MainItem, MainField, MainVar, MainAssign, MainIf, MainWhile, MainFor, Print, Main, no_item}
use Rattle.liszt_parser.specs.Grammar.{Lexeme, Rank, chain, prefix_expression, operand, lowest_rank, fun_of, kind_of, mesh_set_of, set_of, rel_of, how_of, open_bracket, close_bracket, comma, minus, bang, colon, arrow, set_to, field_word, var_word, val_word, if_word, else_word, while_word, for_word, print_word, mesh_word, towards_word, IsExpression, IsLinks, IsBracketed, Closes, IsStatement, IsBody, IsBlock, IsItem, IsMain, IsMainBlock}
use Rattle.liszt_parser.specs.Internal.Sorts.{Stops, Ends, NoElse}
use Rattle.liszt_parser.specs.Internal.Reading.{Reader, anything, any_other, token, token_with_value, ◌then◌, mapped_reader, Is, HasValue, optional}

-- THE RELATIONS OF THE GRAMMAR. The tokens after a list of statements can be replaced by other tokens with which a list ends.
abbrev pub EndFits : List Lexeme → List Lexeme → Type 0
EndFits left other = Ends left → Ends other

abbrev pub expressions : Rank → Reader Expression
expressions rank = record { reads = IsExpression rank; stops = Stops rank; fits = any_other }

abbrev pub links : Level → Reader Links
links level = record { reads = IsLinks level; stops = Stops (chain level); fits = any_other }

abbrev pub brackets : Reader Expression
brackets = record { reads = IsBracketed; stops = anything; fits = any_other }

abbrev pub closings : Reader ⊤
closings = record { reads = λ ts x left. Closes ts left; stops = anything; fits = EndFits }

abbrev pub statements : Reader Statement
statements = record { reads = IsStatement; stops = NoElse; fits = EndFits }

abbrev pub bodies : Reader Body
bodies = record { reads = IsBody; stops = Ends; fits = EndFits }

abbrev pub blocks : Reader Body
blocks = record { reads = IsBlock; stops = anything; fits = any_other }

abbrev pub main_items : Reader MainItem
main_items = record { reads = IsItem; stops = NoElse; fits = EndFits }

abbrev pub mains : Reader Main
mains = record { reads = IsMain; stops = Ends; fits = EndFits }

abbrev pub main_blocks : Reader Main
main_blocks = record { reads = IsMainBlock; stops = anything; fits = any_other }

-- EXPRESSIONS
-- The tree of an operand and its links.
abbrev pub chain_tree : Level → Expression → Links → Expression
chain_tree level first no_links = first
chain_tree level first (link s place e more) = Chain level first (link s place e more)

abbrev pub chains : Level → Reader Expression
chains level = mapped_reader (λ x. chain_tree level x.0 x.1) (expressions (operand level) then links level)

-- A sum, and the sum that it is compared with, if any.
abbrev pub compared_with : Expression → Option ((Lexeme × Rel) × Expression) → Expression
compared_with first None = first
compared_with first (Some x) = Compare x.0.0.place x.0.1 first x.1

abbrev pub seconds : Reader (Option ((Lexeme × Rel) × Expression))
seconds = optional (HasValue rel_of) (token_with_value rel_of then expressions (chain Sum))

-- A name, or a field with its argument.
abbrev pub argument_of : Lexeme → Option Expression → Expression
argument_of t None = Name t.place t.bytes
argument_of t (Some e) = Field t.place t.bytes e

-- An optional argument in brackets.
abbrev pub arguments : Reader (Option Expression)
arguments = optional (Is open_bracket) brackets

abbrev pub names_tree : Lexeme × Option Expression → Expression
names_tree x = argument_of x.0 x.1

abbrev pub names : Reader Expression
names = mapped_reader names_tree (token NameToken then arguments)

abbrev pub calls_tree : (Lexeme × Fun) × Expression → Expression
calls_tree x = Call x.0.0.place x.0.1 x.1

abbrev pub calls : Reader Expression
calls = mapped_reader calls_tree (token_with_value fun_of then brackets)

abbrev pub orientations_tree : Lexeme × (Lexeme × (Expression × (Lexeme × (Expression × Lexeme)))) → Expression
orientations_tree x = Towards x.0.place x.1.1.0 x.1.1.1.1.0

abbrev pub orientations : Reader Expression
orientations =
    mapped_reader orientations_tree
    (token towards_word then token open_bracket then expressions lowest_rank then token comma then expressions lowest_rank then token close_bracket)

abbrev pub negations_tree : Lexeme × Expression → Expression
negations_tree x = Neg x.0.place x.1

abbrev pub negations : Reader Expression
negations = mapped_reader negations_tree (token minus then expressions prefix_expression)

abbrev pub logical_nots_tree : Lexeme × Expression → Expression
logical_nots_tree x = Not x.0.place x.1

abbrev pub logical_nots : Reader Expression
logical_nots = mapped_reader logical_nots_tree (token bang then expressions prefix_expression)

abbrev pub number_of : TokenKind → Option ℤ
number_of (NumberToken n) = Some n
number_of _ = None

abbrev pub numbers_tree : Lexeme × ℤ → Expression
numbers_tree x = Number x.0.place x.1

abbrev pub numbers : Reader Expression
numbers = mapped_reader numbers_tree (token_with_value number_of)

-- STATEMENTS
abbrev pub closed_tree : Expression × ⊤ → Expression
closed_tree x = x.0

abbrev pub closed_expression : Reader Expression
closed_expression = mapped_reader closed_tree (expressions lowest_rank then closings)

-- The word, the name and the initial expression of a declaration.
abbrev pub declaration_parts : Lexeme × (Lexeme × (Lexeme × Expression)) → Lexeme × (Lexeme × Expression)
declaration_parts x = (x.0, (x.1.0, x.1.1.1))

abbrev pub declaration : TokenKind → Reader (Lexeme × (Lexeme × Expression))
declaration word = mapped_reader declaration_parts (token word then token NameToken then token set_to then closed_expression)

abbrev pub variables_tree : Lexeme × (Lexeme × Expression) → Statement
variables_tree x = Var x.0.place x.1.0.bytes x.1.0.place x.1.1

abbrev pub variables : Reader Statement
variables = mapped_reader variables_tree (declaration var_word)

abbrev pub constants_tree : Lexeme × (Lexeme × Expression) → Statement
constants_tree x = Val x.0.place x.1.0.bytes x.1.0.place x.1.1

abbrev pub constants : Reader Statement
constants = mapped_reader constants_tree (declaration val_word)

abbrev pub assignments_tree : Lexeme × (Option Expression × ((Lexeme × How) × Expression)) → Statement
assignments_tree x = Assign x.0.place x.0.bytes x.1.0 x.1.1.0.1 x.1.1.1

abbrev pub assignments : Reader Statement
assignments = mapped_reader assignments_tree (token NameToken then arguments then token_with_value how_of then closed_expression)

-- An `if` with the block of its `else`, if any.
abbrev pub if_of : Lexeme → Expression → Body → Option Body → Statement
if_of w test first None = If w.place test first no_statement false
if_of w test first (Some second) = If w.place test first second true

abbrev pub elses : Reader (Option Body)
elses = optional (Is else_word) (mapped_reader (λ x. x.1) (token else_word then blocks))

abbrev pub branches_tree : Lexeme × (Expression × (Body × Option Body)) → Statement
branches_tree x = if_of x.0 x.1.0 x.1.1.0 x.1.1.1

abbrev pub branches : Reader Statement
branches = mapped_reader branches_tree (token if_word then brackets then blocks then elses)

abbrev pub repetitions_tree : Lexeme × (Expression × Body) → Statement
repetitions_tree x = While x.0.place x.1.0 x.1.1

abbrev pub repetitions : Reader Statement
repetitions = mapped_reader repetitions_tree (token while_word then brackets then blocks)

abbrev pub set_loops_tree : Lexeme × (Lexeme × (Lexeme × (Lexeme × ((Lexeme × SetName) × (Expression × (Lexeme × Body)))))) → Statement
set_loops_tree x = For x.0.place x.1.1.0.bytes x.1.1.0.place x.1.1.1.1.0.1 x.1.1.1.1.0.0.place x.1.1.1.1.1.0 x.1.1.1.1.1.1.1

abbrev pub set_loops : Reader Statement
set_loops =
    mapped_reader set_loops_tree
    (token for_word then token open_bracket then token NameToken then token arrow then token_with_value set_of then brackets
    then token close_bracket then blocks)

-- ITEMS
abbrev pub fields_tree : Lexeme × (Lexeme × (Lexeme × ((Lexeme × Kind) × (Lexeme × Expression)))) → MainItem
fields_tree x = MainField x.0.place x.1.0.bytes x.1.0.place x.1.1.1.0.1 x.1.1.1.1.1

abbrev pub fields : Reader MainItem
fields = mapped_reader fields_tree (token field_word then token NameToken then token colon then token_with_value kind_of then token set_to then closed_expression)

abbrev pub main_variables_tree : Lexeme × (Lexeme × Expression) → MainItem
main_variables_tree x = MainVar x.0.place x.1.0.bytes x.1.0.place x.1.1

abbrev pub main_variables : Reader MainItem
main_variables = mapped_reader main_variables_tree (declaration var_word)

abbrev pub main_assignments_tree : Lexeme × ((Lexeme × How) × Expression) → MainItem
main_assignments_tree x = MainAssign x.0.place x.0.bytes x.1.0.1 x.1.1

abbrev pub main_assignments : Reader MainItem
main_assignments = mapped_reader main_assignments_tree (token NameToken then token_with_value how_of then closed_expression)

abbrev pub main_if_of : Lexeme → Expression → Main → Option Main → MainItem
main_if_of w test first None = MainIf w.place test first no_item false
main_if_of w test first (Some second) = MainIf w.place test first second true

abbrev pub main_elses : Reader (Option Main)
main_elses = optional (Is else_word) (mapped_reader (λ x. x.1) (token else_word then main_blocks))

abbrev pub main_branches_tree : Lexeme × (Expression × (Main × Option Main)) → MainItem
main_branches_tree x = main_if_of x.0 x.1.0 x.1.1.0 x.1.1.1

abbrev pub main_branches : Reader MainItem
main_branches = mapped_reader main_branches_tree (token if_word then brackets then main_blocks then main_elses)

abbrev pub main_repetitions_tree : Lexeme × (Expression × Main) → MainItem
main_repetitions_tree x = MainWhile x.0.place x.1.0 x.1.1

abbrev pub main_repetitions : Reader MainItem
main_repetitions = mapped_reader main_repetitions_tree (token while_word then brackets then main_blocks)

abbrev pub comprehensions_tree :
    Lexeme × (Lexeme × (Lexeme × (Lexeme × ((Lexeme × Kind) × (Lexeme × (Lexeme × (Lexeme × (Lexeme × Body)))))))) → MainItem
comprehensions_tree x = MainFor x.0.place x.1.1.0.bytes x.1.1.0.place x.1.1.1.1.0.1 x.1.1.1.1.1.1.1.1.1

abbrev pub comprehensions : Reader MainItem
comprehensions =
    mapped_reader comprehensions_tree
    (token for_word then token open_bracket then token NameToken then token arrow then token_with_value mesh_set_of then token open_bracket
    then token mesh_word then token close_bracket then token close_bracket then blocks)

abbrev pub prints_tree : Lexeme × Expression → MainItem
prints_tree x = Print x.0.place x.1

abbrev pub prints : Reader MainItem
prints = mapped_reader prints_tree (token print_word then closed_expression)
