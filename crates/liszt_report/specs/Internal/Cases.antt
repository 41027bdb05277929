-- The programs, meshes and values of the worked cases. This project's own.
use Rattle.std.specs.Prelude.{ℕ, ◌+◌, ℤ, pos, Some, None, [], ◌∷◌, codes}
use Rattle.liszt_base.specs.declared.accesses.Mode.TheVariants.{Read, Reduce}
use Rattle.liszt_base.specs.declared.answers.Place.{Place}
use Rattle.liszt_base.specs.declared.answers.Trap.{Trap}
use Rattle.liszt_base.specs.declared.answers.TrapKind.TheVariants.{Overflow, ZeroDivide}
use Rattle.liszt_base.specs.declared.elements.Elem.{Elem}
use Rattle.liszt_base.specs.declared.elements.Kind.{Kind}
use Rattle.liszt_base.specs.declared.elements.Kind.TheVariants.{Vertex, Edge, Face, Cell}
use Rattle.liszt_base.specs.declared.elements.Op.TheVariants.{Add, Max}
use Rattle.phase_types.specs.Walk.{OfField, OfScalar}
use Rattle.phase_types.specs.declared.state.CheckedProgram.{CheckedProgram}

abbrev pub at : ℕ → ℕ → Place
at line col = record { line = line; col = col }

abbrev pub overflow_in_main : Trap
overflow_in_main = record { kind = Overflow; place = at 4 9; elem = None }

abbrev pub zero_at : Elem → Trap
zero_at elem = record { kind = ZeroDivide; place = at 2 63; elem = Some elem }

-- two fields of the outermost scope round one of a block; and a loop over edges that folds into a scalar and a field, and reads a coordinate
abbrev pub three_fields : CheckedProgram
three_fields =
    record {
      fields =
          record { name = codes "Deg"; kind = Vertex; scope = 0 } ∷ record { name = codes "Own"; kind = Cell; scope = 1 }
          ∷ record { name = codes "Sum"; kind = Cell; scope = 0 } ∷ [];
      scalars = codes "top" ∷ [];
      scopes = 0 ∷ 0 ∷ [];
      comprehensions =
          record {
            over = Edge;
            elements = Edge ∷ [];
            numbers = 0;
            body = [];
            accesses =
                record { subject = OfScalar 0; mode = Reduce Max; place = at 5 1 } ∷ record { subject = OfField 6; mode = Reduce Add; place = at 6 1 }
                ∷ record { subject = OfField 0; mode = Read; place = at 6 9 } ∷ [];
          }
          ∷ [];
      items = [];
    }

-- counts of elements
abbrev pub few : Kind → ℕ
few Vertex = 2
few Edge = 6
few Face = 4
few Cell = 1

abbrev pub tens : ℕ → ℕ → ℤ
tens field id = pos (10 + field + id)
