-- The numbers of programs, their comparisons and their assignments. This project's own profile after Liszt (DeVito et al.,
-- Supercomputing 2011).
use Rattle.std.specs.Prelude.{ℕ, ◌==◌, ◌&&◌, ◌^◌, not, Bool, if◌then◌else◌, Option, ◌∷◌, [], slice_get, ℤ, pos, neg_ℤ, ◌+ℤ◌, ◌-ℤ◌, ◌*ℤ◌, int_lt, int_le, int_div, int_rem, Result, Ok, Err}
use Rattle.std.specs.Option.{option_map, option_and_then}
use Rattle.liszt_base.specs.MeshLists.{MeshLists}
use Rattle.liszt_base.specs.Reductions.{fold, word, value}
use Rattle.liszt_base.specs.declared.accesses.Spot.{Spot}
use Rattle.liszt_base.specs.declared.answers.TrapKind.{TrapKind}
use Rattle.liszt_base.specs.declared.answers.TrapKind.TheVariants.{Overflow, ZeroDivide}
use Rattle.liszt_base.specs.declared.elements.Elem.{Elem}
use Rattle.liszt_base.specs.declared.elements.Op.TheVariants.{Add}
use Rattle.liszt_tree.specs.declared.tree.How.{How}
use Rattle.liszt_tree.specs.declared.tree.How.TheVariants.{Set, Fold, Less}
use Rattle.liszt_tree.specs.declared.tree.Rel.{Rel}
use Rattle.liszt_tree.specs.declared.tree.Rel.TheVariants.{Same, Other, Below, AtMost, Above, AtLeast}
use Rattle.resolved_code.specs.declared.expressions.Arithmetic.{Arithmetic}
use Rattle.resolved_code.specs.declared.expressions.Arithmetic.TheVariants.{Plus, Minus, Times, Over, Rest}

-- NUMBERS are signed, of 64 bits; a result outside of them is an overflow.
abbrev pub is_in_range : ℤ → Bool
is_in_range n = int_le (neg_ℤ (pos (2 ^ 63))) n && int_lt n (pos (2 ^ 63))

abbrev pub in_range : ℤ → Result ℤ TrapKind
in_range n = if is_in_range n then Ok n else Err Overflow

-- OPERATORS between numbers. Division rounds towards zero, the remainder has the sign of the dividend, and neither divides by zero.
abbrev pub divided : ℤ → Result ℤ TrapKind → Result ℤ TrapKind
divided divisor result = if int_le divisor (pos 0) && int_le (pos 0) divisor then Err ZeroDivide else result

abbrev pub arithmetic_result : Arithmetic → ℤ → ℤ → Result ℤ TrapKind
arithmetic_result Plus a b = in_range (a +ℤ b)
arithmetic_result Minus a b = in_range (a -ℤ b)
arithmetic_result Times a b = in_range (a *ℤ b)
arithmetic_result Over a b = divided b (in_range (int_div a b))
arithmetic_result Rest a b = divided b (Ok (int_rem a b))

-- COMPARISONS of numbers
abbrev pub holds : Rel → ℤ → ℤ → Bool
holds Same a b = int_le a b && int_le b a
holds Other a b = not (int_le a b && int_le b a)
holds Below a b = int_lt a b
holds AtMost a b = int_le a b
holds Above a b = int_lt b a
holds AtLeast a b = int_le b a

-- ASSIGNMENTS: `=` replaces the value, an operator folds the old value and the operand, and `-=` is `+=` of the negation modulo 2^64.
abbrev pub operand : How → ℤ → ℤ
operand Less n = value (word (neg_ℤ n))
operand how n = n

abbrev pub assigned_value : How → ℤ → ℤ → ℤ
assigned_value Set old n = n
assigned_value (Fold op) old n = fold op old n
assigned_value Less old n = fold Add old (operand Less n)

-- THE VALUES OF BUILT-IN FIELDS are those of the mesh.
abbrev pub built_in_value : MeshLists → Spot → Option ℤ
built_in_value mesh spot =
    if spot.field == 4 then option_map (λ cell. cell.region) (slice_get mesh.cells spot.id)
    else option_and_then (λ p. slice_get (p.x ∷ p.y ∷ p.z ∷ p.mark ∷ []) spot.field) (slice_get mesh.points spot.id)

abbrev pub spot_of : ℕ → Elem → Spot
spot_of number x = record { field = number; id = x.id }
