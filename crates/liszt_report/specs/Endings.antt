-- Endings, their status and their texts. This project's own.
use Rattle.std.specs.Prelude.{ℕ, ◌+◌, ℤ, nat_abs, Option, Some, None, List, [], ◌∷◌, ◌++◌, codes}
use Rattle.std.specs.List.{flat_map, range_with_len}
use Rattle.std.specs.Fmt.{decimal, signed_decimal}
use Rattle.liszt_base.specs.declared.answers.Input.{Input}
use Rattle.liszt_base.specs.declared.answers.Input.TheVariants.{Program, Node, Ele}
use Rattle.liszt_base.specs.declared.answers.LimitWhat.{LimitWhat}
use Rattle.liszt_base.specs.declared.answers.LimitWhat.TheVariants.{File, Points, Cells, Tokens, Visits, Entries, Words, Kept}
use Rattle.liszt_base.specs.declared.answers.MeshFault.{MeshFault}
use Rattle.liszt_base.specs.declared.answers.MeshFile.{MeshFile}
use Rattle.liszt_base.specs.declared.answers.MeshFile.TheVariants.{Node as InNode, Ele as InEle}
use Rattle.liszt_base.specs.declared.answers.MeshWhat.{MeshWhat}
use Rattle.liszt_base.specs.declared.answers.MeshWhat.TheVariants.{Header, BadNumber, CoordRange, Dimension, SecondOrder, NumberOrder, Missing, Extra, CornerRange, CornerTwice, CellTwice, FaceShared, TooMany}
use Rattle.liszt_base.specs.declared.answers.Place.{Place}
use Rattle.liszt_base.specs.declared.answers.ProgramFault.{ProgramFault}
use Rattle.liszt_base.specs.declared.answers.ProgramWhat.{ProgramWhat}
use Rattle.liszt_base.specs.declared.answers.ProgramWhat.TheVariants.{BadByte, LongNumber, LongName, Big, Syntax, Deep, NameUnknown, NameTwice, TypeMismatch, PhaseConflict, ScalarWrite, BuiltinWrite}
use Rattle.liszt_base.specs.declared.answers.Refused.{Refused}
use Rattle.liszt_base.specs.declared.answers.Refused.TheVariants.{Fault, NoMemory as OutOfMemory}
use Rattle.liszt_base.specs.declared.answers.TrapKind.{TrapKind}
use Rattle.liszt_base.specs.declared.answers.TrapKind.TheVariants.{Overflow, ZeroDivide, NilElement, Spent, Prints}
use Rattle.liszt_base.specs.declared.elements.Elem.{Elem}
use Rattle.liszt_base.specs.declared.elements.Kind.{Kind}
use Rattle.liszt_base.specs.declared.elements.Kind.TheVariants.{Vertex, Edge, Face, Cell}
use Rattle.liszt_base.specs.Limits.{file_limit, point_limit, cell_limit, token_limit}
use Rattle.liszt_report.specs.declared.ended.Ended.{Ended}
use Rattle.liszt_report.specs.declared.ended.Ended.TheVariants.{Done, Usage, Program as OfProgram, Mesh, Limit, Trap, ReadFault, WriteFault, NoMemory}

-- The exit status of an ending.
abbrev pub status : Ended → ℕ
status Done = 0
status Usage = 1
status (OfProgram fault) = 2
status (Mesh fault) = 3
status (Limit fault) = 6
status (Trap trap) = 7
status (ReadFault input) = 8
status WriteFault = 9
status NoMemory = 10

-- The ending for a file of too many bytes.
abbrev pub too_long : Input → Ended
too_long input = Limit (record { what = File input; allowed = file_limit; found = file_limit + 1 })

-- The ending for a header's count that exceeds its limit.
abbrev pub too_many : MeshFile → ℤ → Ended
too_many InNode count = Limit (record { what = Points; allowed = point_limit; found = nat_abs count })
too_many InEle count = Limit (record { what = Cells; allowed = cell_limit; found = nat_abs count })

-- The ending for a mesh's fault.
abbrev pub mesh_ending : MeshFault → Ended
mesh_ending fault = ending fault.what where
  ending : MeshWhat → Ended
  ending TooMany = too_many fault.file fault.number
  ending what = Mesh fault

-- The ending for a program's fault.
abbrev pub program_ending : ProgramFault → Ended
program_ending fault = ending fault.what where
  ending : ProgramWhat → Ended
  ending Big = Limit (record { what = Tokens; allowed = token_limit; found = token_limit + 1 })
  ending what = OfProgram fault

-- The ending for a call that was refused, by its fault's ending.
abbrev pub ending_of : {F : Type 0} → (F → Ended) → Refused F → Ended
ending_of of_fault (Fault fault) = of_fault fault
ending_of of_fault OutOfMemory = NoMemory

abbrev pub program_word : ProgramWhat → List ℕ
program_word BadByte = codes "BadByte"
program_word LongNumber = codes "LongNumber"
program_word LongName = codes "LongName"
program_word Big = codes "Big"
program_word Syntax = codes "Syntax"
program_word Deep = codes "Deep"
program_word NameUnknown = codes "NameUnknown"
program_word NameTwice = codes "NameTwice"
program_word TypeMismatch = codes "TypeMismatch"
program_word PhaseConflict = codes "PhaseConflict"
program_word ScalarWrite = codes "ScalarWrite"
program_word BuiltinWrite = codes "BuiltinWrite"

-- `LINE:COL`, and the place of the first access where there is one.
abbrev pub place_text : Place → List ℕ
place_text place = decimal place.line ++ (codes ":" ++ decimal place.col)

abbrev pub first_text : Option Place → List ℕ
first_text None = []
first_text (Some place) = codes " first " ++ place_text place

abbrev pub input_word : Input → List ℕ
input_word Program = codes "program"
input_word Node = codes "node"
input_word Ele = codes "ele"

abbrev pub mesh_file_word : MeshFile → List ℕ
mesh_file_word InNode = codes "node"
mesh_file_word InEle = codes "ele"

abbrev pub mesh_word : MeshWhat → List ℕ
mesh_word Header = codes "Header"
mesh_word BadNumber = codes "BadNumber"
mesh_word CoordRange = codes "CoordRange"
mesh_word Dimension = codes "Dimension"
mesh_word SecondOrder = codes "SecondOrder"
mesh_word NumberOrder = codes "NumberOrder"
mesh_word Missing = codes "Missing"
mesh_word Extra = codes "Extra"
mesh_word CornerRange = codes "CornerRange"
mesh_word CornerTwice = codes "CornerTwice"
mesh_word CellTwice = codes "CellTwice"
mesh_word FaceShared = codes "FaceShared"
mesh_word TooMany = codes "TooMany"

-- ` comp K`
abbrev pub comprehension_text : ℕ → List ℕ
comprehension_text comprehension = codes " comp " ++ decimal comprehension

abbrev pub limit_word : LimitWhat → List ℕ
limit_word (File input) = codes "File " ++ input_word input
limit_word Points = codes "Points"
limit_word Cells = codes "Cells"
limit_word Tokens = codes "Tokens"
limit_word (Visits comprehension) = codes "Visits" ++ comprehension_text comprehension
limit_word (Entries comprehension) = codes "Entries" ++ comprehension_text comprehension
limit_word Words = codes "Words"
limit_word (Kept comprehension) = codes "Kept" ++ comprehension_text comprehension

-- The line of a limit.
abbrev pub limit_line : LimitWhat → ℕ → List ℕ
limit_line what allowed = codes "limit " ++ (limit_word what ++ (codes " over " ++ (decimal allowed ++ codes "\n")))

abbrev pub trap_word : TrapKind → List ℕ
trap_word Overflow = codes "Overflow"
trap_word ZeroDivide = codes "ZeroDivide"
trap_word NilElement = codes "NilElement"
trap_word Spent = codes "Spent"
trap_word Prints = codes "Prints"

abbrev pub kind_word : Kind → List ℕ
kind_word Vertex = codes "vertex"
kind_word Edge = codes "edge"
kind_word Face = codes "face"
kind_word Cell = codes "cell"

-- The element of the iteration that stopped, by its kind and id, or `main` for the main program.
abbrev pub site_text : Option Elem → List ℕ
site_text None = codes "main"
site_text (Some elem) = kind_word elem.kind ++ (codes " " ++ decimal elem.id)

-- The line of an ending; `Done` and `WriteFault` have none.
abbrev pub ending_text : Ended → List ℕ
ending_text Usage =
    codes "usage: liszt_run MODE PROGRAM NODE ELE [--workers N] [--ranks N] [--parts NAME] [--turns L] or self N\n"
ending_text (OfProgram fault) =
    codes "program " ++ (program_word fault.what ++ (codes " " ++ (place_text fault.place ++ (first_text fault.first ++ codes "\n"))))
ending_text (Mesh fault) =
    codes "mesh " ++ (mesh_file_word fault.file ++ (codes " " ++ (mesh_word fault.what ++ (codes " line " ++ (decimal fault.line ++ codes "\n")))))
ending_text (Limit fault) = limit_line fault.what fault.allowed
ending_text (Trap trap) =
    codes "trap " ++ (trap_word trap.kind ++ (codes " " ++ (place_text trap.place ++ (codes " " ++ (site_text trap.elem ++ codes "\n")))))
ending_text (ReadFault input) = codes "read fault " ++ (input_word input ++ codes "\n")
ending_text NoMemory = codes "no memory\n"
ending_text Done = []
ending_text WriteFault = []

-- `NAME ID VALUE`.
abbrev pub value_line : List ℕ → ℕ → ℤ → List ℕ
value_line name id value = name ++ (32 ∷ (decimal id ++ (32 ∷ (signed_decimal value ++ 10 ∷ []))))

-- The lines of a field's values at the ids below `count`, ascending.
abbrev pub field_text : List ℕ → (ℕ → ℤ) → ℕ → List ℕ
field_text name value count = flat_map (λ id. value_line name id (value id)) (range_with_len 0 count)
