-- Expressions and assignments of the worked cases. This project's own.
use Rattle.std.specs.Prelude.{ℕ, ◌^◌, ◌-◌, Option, Some, None, [], ◌∷◌, codes, ℤ, pos, neg_ℤ, Result, Ok, Err}
use Rattle.liszt_base.specs.declared.accesses.Mode.{Mode}
use Rattle.liszt_base.specs.declared.accesses.Spot.{Spot}
use Rattle.liszt_base.specs.declared.answers.Place.{Place}
use Rattle.liszt_base.specs.declared.answers.TrapKind.{TrapKind}
use Rattle.liszt_base.specs.declared.elements.Elem.{Elem}
use Rattle.liszt_base.specs.declared.elements.Kind.TheVariants.{Edge, Face}
use Rattle.liszt_base.specs.declared.elements.Op.{Op}
use Rattle.liszt_tree.specs.declared.tree.Fun.{Fun}
use Rattle.liszt_tree.specs.declared.tree.Level.TheVariants as level
use Rattle.liszt_tree.specs.declared.tree.Rel.TheVariants.{Same as Equal}
use Rattle.liszt_tree.specs.declared.tree.Sign.{Sign}
use Rattle.liszt_tree.specs.declared.tree.Sign.TheVariants as sign
use Rattle.liszt_tree.specs.Tree.{nowhere, Expression, Number, Call, Neg, Chain, Compare, no_links, link}
use Rattle.mesh_topology.specs.Internal.Meshes.{one_cell}
use Rattle.topo_operators.specs.Operators.{unflipped}
use Rattle.kernel_eval.specs.Expressions.{ElementBindings, element_value}
use Rattle.kernel_eval.specs.Outcomes.{Stop, Trapped}
use Rattle.kernel_eval.specs.States.{State, Act, ScalarFold, main_evaluation}
use Rattle.kernel_eval.specs.Meaning.{Value, NumberValue, meaning}

abbrev pub empty : State
empty = record { fields = []; scalars = []; prints = []; turns = 0 }

-- the value of an expression without names, or its trap
abbrev pub value_of : Expression → Result Value Stop
value_of e = (meaning one_cell [] e (main_evaluation empty)).answer

abbrev pub number_result : ℤ → Result Value Stop
number_result n = Ok (NumberValue n)

abbrev pub trap_result : TrapKind → Place → Result Value Stop
trap_result kind place = Err (Trapped (record { kind = kind; place = place; elem = None }))

abbrev pub least_number : ℤ
least_number = neg_ℤ (pos (2 ^ 63))

abbrev pub greatest_number : ℤ
greatest_number = pos (2 ^ 63 - 1)

abbrev pub operator_place : Place
operator_place = record { line = 3; col = 7 }

-- an operator of two numbers, at `operator_place`
abbrev pub binary : Sign → ℤ → ℤ → Expression
binary s a b = Chain level.Product (Number nowhere a) (link s operator_place (Number nowhere b) no_links)

abbrev pub negation_of : ℤ → Expression
negation_of n = Neg operator_place (Number nowhere n)

-- `1 / 0 == 0`, with `/` at `operator_place`
abbrev pub divides_by_zero : Expression
divides_by_zero = Compare nowhere Equal (binary sign.Over (pos 1) (pos 0)) (Number nowhere (pos 0))

abbrev pub equality : ℤ → ℤ → Expression
equality a b = Compare nowhere Equal (Number nowhere a) (Number nowhere b)

abbrev pub both : Expression → Expression → Expression
both a b = Chain level.And a (link sign.And nowhere b no_links)

abbrev pub either : Expression → Expression → Expression
either a b = Chain level.Or a (link sign.Or nowhere b no_links)

-- two operators of three numbers, the second at `operator_place`
abbrev pub chained : ℤ → Sign → ℤ → Sign → ℤ → Expression
chained a s b t c = Chain level.Sum (Number nowhere a) (link s nowhere (Number nowhere b) (link t operator_place (Number nowhere c) no_links))

-- ACTS AT SPOTS and reductions of scalars
abbrev pub a_spot : ℕ → ℕ → Spot
a_spot field id = record { field = field; id = id }

abbrev pub an_act : ℕ → Mode → ℤ → Act
an_act id mode value = record { spot = a_spot 6 id; mode = mode; value = value }

abbrev pub a_fold : ℕ → Op → ℤ → ScalarFold
a_fold scalar op value = record { scalar = scalar; op = op; value = value }

-- `e` is the edge from vertex 0 to vertex 1, an older `e` the next one, `f` the first face, and `n` nil
abbrev pub some_elements : ElementBindings
some_elements =
    (codes "e", Some (unflipped Edge 0)) ∷ (codes "f", Some (unflipped Face 0)) ∷ (codes "n", None) ∷ (codes "e", Some (unflipped Edge 1)) ∷ []

abbrev pub element_of : Expression → Option (Option Elem)
element_of e = element_value one_cell some_elements e

abbrev pub call : Fun → Expression → Expression
call fun arg = Call nowhere fun arg
