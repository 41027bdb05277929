-- The ending and the text in which a list of words and files result. Memory has no part in it. This project's own.
use Rattle.std.specs.Prelude.{◌≡◌, ℕ, ◌<◌, ◌≤◌, ◌⊎◌, List, length, MatchOption, Some, None, Result, Ok, Err, ◌++◌, map, MatchResult, ℤ, pos, unwrap_or}
use Rattle.liszt_base.specs.declared.answers.Input.{Input}
use Rattle.liszt_base.specs.declared.answers.Input.TheVariants.{Program, Node, Ele}
use Rattle.liszt_base.specs.declared.answers.MeshFault.{MeshFault}
use Rattle.liszt_base.specs.declared.mesh.PointTable.{PointTable}
use Rattle.liszt_base.specs.MeshLists.{MeshLists}
use Rattle.liszt_io.specs.Shelves.{Files, file}
use Rattle.liszt_base.specs.declared.answers.ProgramFault.{ProgramFault}
use Rattle.liszt_lexer.specs.Lexer.{tokens_of, end_of}
use Rattle.liszt_lexer.specs.declared.token.Token.{Token}
use Rattle.liszt_parser.specs.Grammar.{lexemes, Derives}
use Rattle.liszt_parser.specs.ParseFault.{IsShallow, IsParseFault}
use Rattle.liszt_tree.specs.Tree.{Main}
use Rattle.liszt_tree.specs.Canonical.{canonical}
use Rattle.mesh_topology.specs.Elements.{count}
use Rattle.phase_types.specs.declared.state.CheckedProgram.{CheckedProgram}
use Rattle.phase_types.specs.Checked.{checked_program}
use Rattle.phase_types.specs.Walk.{check_fault}
use Rattle.text_scan.specs.Rows.{text_rows}
use Rattle.tet_reader.specs.Answers.{SpellTable, SpellMesh}
use Rattle.tet_reader.specs.Faults.{node_fault, cells_fault}
use Rattle.liszt_report.specs.declared.ended.Ended.{Ended}
use Rattle.liszt_report.specs.declared.ended.Ended.TheVariants.{Done, Usage, Limit, Trap, ReadFault}
use Rattle.command_words.specs.declared.command.Mode.{Mode}
use Rattle.command_words.specs.declared.command.Mode.TheVariants.{Check, Stencil, Seq}
use Rattle.command_words.specs.Commands.{command_of, Invocation}
use Rattle.liszt_report.specs.Endings.{ending_text, too_long, program_ending, mesh_ending}
use Rattle.liszt_report.specs.Texts.{check_text, fields_text, prints_text, stencils_text}
use Rattle.phase_types.specs.Environments.{fields_of}
use Rattle.kernel_eval.specs.States.{value_in}
use Rattle.seq_meaning.specs.FieldStores.{prepared_store}
use Rattle.seq_meaning.specs.Runs.{prints_of, run, run_end}
use Rattle.liszt_base.specs.declared.answers.RunEnd.{RunEnd}
use Rattle.liszt_base.specs.declared.answers.RunEnd.TheVariants.{Done as IsDone, Trap as IsTrap}
use Rattle.liszt_base.specs.Limits.{file_limit}
use Rattle.stencil_infer.specs.Stencils.{StencilLists, program_inference}

-- An ending and its text.
pub record Outcome : Type 0 where
  pub ended : Ended
  pub text : List ℕ

-- The outcome of a refusal: its ending and its line.
abbrev pub refusal : Ended → Outcome
refusal ended = record { ended = ended; text = ending_text ended }

-- The outcome of a command that ran: its text.
abbrev pub done_with : List ℕ → Outcome
done_with text = record { ended = Done; text = text }

-- THE RESULT OF A FILE'S BYTES: the value that they spell, or the ending of their first fault.

-- The first fault of a program's text: of its tokens, or else of its grammar.
abbrev pub IsProgramFault : List ℕ → ProgramFault → Type 0
IsProgramFault bytes fault =
    (tokens_of bytes ≡ Err fault)
    ⊎ ((tokens : List Token) × (tokens_of bytes ≡ Ok tokens)
    × IsParseFault (lexemes bytes tokens) (end_of bytes) (Some fault))

-- A program's tree, nowhere deeper than the limit, or the ending of its first fault.
abbrev pub ProgramResult : List ℕ → Result Main Ended → Type 0
ProgramResult bytes (Ok tree) =
    (tokens : List Token) × (tokens_of bytes ≡ Ok tokens) × Derives (lexemes bytes tokens) tree
    × IsShallow (lexemes bytes tokens) (length (lexemes bytes tokens))
ProgramResult bytes (Err ended) =
    (fault : ProgramFault) × IsProgramFault bytes fault × (ended ≡ program_ending fault)

-- The points of a node file, or the ending of its first fault.
abbrev pub NodeResult : List ℕ → Result PointTable Ended → Type 0
NodeResult bytes (Ok table) = SpellTable (text_rows bytes) table
NodeResult bytes (Err ended) =
    (fault : MeshFault) × (node_fault (text_rows bytes) ≡ Some fault) × (ended ≡ mesh_ending fault)

-- The mesh of an ele file over points, or the ending of its first fault, those of the whole mesh among them.
abbrev pub EleResult : PointTable → List ℕ → Result MeshLists Ended → Type 0
EleResult table bytes (Ok mesh) = SpellMesh table (text_rows bytes) mesh
EleResult table bytes (Err ended) =
    (fault : MeshFault) × (cells_fault (length table.list) table.base (text_rows bytes) ≡ Some fault)
    × (ended ≡ mesh_ending fault)

-- The result of bytes within the limit; the result of more bytes is that limit.
abbrev pub Within : {A : Type 0} → Input → (List ℕ → Result A Ended → Type 0)
    → List ℕ → Result A Ended → Type 0
Within input HasResult bytes result =
    ((file_limit < length bytes) × (result ≡ Err (too_long input)))
    ⊎ ((length bytes ≤ file_limit) × HasResult bytes result)

-- THE INPUTS OF A COMMAND, one after the other.

-- After the result of an input: the command continues with its value, or the outcome is the refusal.
abbrev pub Follows : {A : Type 0} → (A → Outcome → Type 0) → Result A Ended → Outcome → Type 0
Follows Continues (Ok value) outcome = Continues value outcome
Follows Continues (Err ended) outcome = outcome ≡ refusal ended

-- An input is missing, or its bytes have a result, which the rest of the command follows.
abbrev pub TakesIn : {A : Type 0} → (List ℕ → Type 0) → Files → Input → List ℕ
    → (List ℕ → Result A Ended → Type 0) → (A → Outcome → Type 0) → Outcome → Type 0
TakesIn {A} IsMissing files input name HasResult Continues outcome =
    (IsMissing name × (outcome ≡ refusal (ReadFault input)))
    ⊎ ((bytes : List ℕ) × (result : Result A Ended) × (file files name ≡ Some bytes)
    × Within input HasResult bytes result × Follows Continues result outcome)

-- `check`: the canonical text of a typed program, its phases, and the counts of the mesh's elements.
abbrev pub ChecksOn : Main → MeshLists → Outcome → Type 0
ChecksOn tree mesh outcome =
    (checked : CheckedProgram) × (checked_program tree ≡ Ok checked)
    × (outcome ≡ done_with (check_text (canonical tree) checked (count mesh)))

-- `stencil`: the stencils of a typed program's comprehensions, or the first limit that their inference passes.
abbrev pub stencils_outcome : CheckedProgram → List StencilLists → Outcome
stencils_outcome checked stencils = done_with (stencils_text checked (map (λ s. s.lists) stencils))

abbrev pub InfersOn : Main → MeshLists → Outcome → Type 0
InfersOn tree mesh outcome =
    MatchResult (program_inference mesh tree)
    (λ stencils. (checked : CheckedProgram) × (checked_program tree ≡ Ok checked) × (outcome ≡ stencils_outcome checked stencils))
    (λ fault. outcome ≡ refusal (Limit fault))

-- THE OUTCOME OF A RUN, by its end: its prints, and then the text of the fields, or the line of the trap.
abbrev pub outcome_of_run : RunEnd → List ℤ → List ℕ → Outcome
outcome_of_run IsDone prints fields = done_with (prints_text prints ++ fields)
outcome_of_run (IsTrap trap) prints fields =
    record { ended = Trap trap; text = prints_text prints ++ ending_text (Trap trap) }

-- The value of a field at an id in the state that a run leaves.
abbrev pub value_left : MeshLists → Main → ℕ → ℕ → ℕ → ℤ
value_left mesh tree turns field id =
    unwrap_or (value_in (run mesh tree turns).after.state.fields (record { field = field; id = id })) (pos 0)

abbrev pub run_outcome : MeshLists → Main → ℕ → RunEnd → Outcome
run_outcome mesh tree turns end =
    outcome_of_run end (prints_of mesh tree turns) (fields_text (count mesh) (value_left mesh tree turns) (fields_of tree))

-- `seq`: a typed program whose declared fields have too many words is refused; every other one is run on the mesh.
abbrev pub RunsOn : ℕ → Main → MeshLists → Outcome → Type 0
RunsOn turns tree mesh outcome =
    MatchResult (prepared_store (fields_of tree) mesh)
    (λ store. (end : RunEnd) × (run_end mesh tree turns ≡ Some end) × (outcome ≡ run_outcome mesh tree turns end))
    (λ fault. outcome ≡ refusal (Limit fault))

-- The outcome of a mode on a typed program and a mesh.
abbrev pub WorksOn : Mode → Main → MeshLists → Outcome → Type 0
WorksOn Check tree mesh outcome = ChecksOn tree mesh outcome
WorksOn Stencil tree mesh outcome = InfersOn tree mesh outcome
WorksOn (Seq turns) tree mesh outcome = RunsOn turns tree mesh outcome

-- A program with a fault of the checker is refused, whatever the mode and the mesh.
abbrev pub Finishes : Mode → Main → MeshLists → Outcome → Type 0
Finishes mode tree mesh outcome =
    MatchOption (check_fault tree) (WorksOn mode tree mesh outcome) (λ fault. outcome ≡ refusal (program_ending fault))

abbrev pub TakesCells : (List ℕ → Type 0) → Files → Invocation → Main → PointTable → Outcome → Type 0
TakesCells IsMissing files c tree table = TakesIn IsMissing files Ele c.ele (EleResult table) (Finishes c.mode tree)

abbrev pub TakesPoints : (List ℕ → Type 0) → Files → Invocation → Main → Outcome → Type 0
TakesPoints IsMissing files c tree =
    TakesIn IsMissing files Node c.node NodeResult (TakesCells IsMissing files c tree)

-- A command: the program, the points and the cells are read, in this order, and then the mode has its outcome on them.
abbrev pub Performs : (List ℕ → Type 0) → Files → Invocation → Outcome → Type 0
Performs IsMissing files c = TakesIn IsMissing files Program c.program ProgramResult (TakesPoints IsMissing files c)

-- The outcome of a list of words, where `IsMissing` says which files are missing.
abbrev pub ResultsIn : (List ℕ → Type 0) → List (List ℕ) → Files → Outcome → Type 0
ResultsIn IsMissing words files outcome =
    MatchOption (command_of words) (outcome ≡ refusal Usage) (λ c. Performs IsMissing files c outcome)

-- The outcome of the words over these files, of which a file is missing where none has its name.
abbrev pub Expected : List (List ℕ) → Files → Outcome → Type 0
Expected words files = ResultsIn (λ name. file files name ≡ None) words files
