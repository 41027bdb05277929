-- The texts of prints, of the values of fields, and of a checked program. This project's own.
use Rattle.std.specs.Prelude.{ℕ, ◌+◌, ◌==◌, if◌then◌else◌, ℤ, Option, Some, None, List, [], ◌∷◌, ◌++◌, map, length, slice_get, unwrap_or, codes}
use Rattle.std.specs.List.{flat_map, range_with_len}
use Rattle.std.specs.Fmt.{decimal, signed_decimal}
use Rattle.liszt_base.specs.declared.accesses.Access.{Access}
use Rattle.liszt_base.specs.declared.accesses.Mode.{Mode}
use Rattle.liszt_base.specs.declared.accesses.Mode.TheVariants.{Read, Write, Reduce}
use Rattle.liszt_base.specs.declared.elements.Kind.{Kind}
use Rattle.liszt_base.specs.declared.elements.Kind.TheVariants.{Vertex, Edge, Face, Cell}
use Rattle.liszt_base.specs.declared.elements.Op.{Op}
use Rattle.liszt_base.specs.declared.elements.Op.TheVariants.{Add, Mul, And, Or, Xor, Min, Max}
use Rattle.phase_types.specs.Checked.{built_in_names, checked_kind, checked_mode}
use Rattle.phase_types.specs.Environments.{first_declared}
use Rattle.phase_types.specs.Walk.{Subject, OfField, OfScalar}
use Rattle.phase_types.specs.declared.info.FieldInfo.{FieldInfo}
use Rattle.phase_types.specs.declared.state.CheckedProgram.{CheckedProgram}
use Rattle.liszt_report.specs.Endings.{field_text, kind_word}

-- PRINTS: a line for each number.
abbrev pub number_line : ℤ → List ℕ
number_line number = signed_decimal number ++ codes "\n"

abbrev pub prints_text : List ℤ → List ℕ
prints_text prints = flat_map number_line prints

-- FIELDS: the values of each field of the outermost scope, in the order of the text. `count` gives the number of elements of a
-- kind, and `value` the value of a field at an id.
abbrev pub declared_text : (Kind → ℕ) → (ℕ → ℕ → ℤ) → ℕ → FieldInfo → List ℕ
declared_text count value field info = if info.scope == 0 then field_text info.name (value field) (count info.kind) else []

abbrev pub fields_from : (Kind → ℕ) → (ℕ → ℕ → ℤ) → ℕ → List FieldInfo → List ℕ
fields_from count value field [] = []
fields_from count value field (info ∷ rest) = declared_text count value field info ++ fields_from count value (field + 1) rest

abbrev pub fields_text : (Kind → ℕ) → (ℕ → ℕ → ℤ) → List FieldInfo → List ℕ
fields_text count value fields = fields_from count value first_declared fields

-- PHASES: the mode of each field and then of each scalar that a comprehension accesses, ascending.
abbrev pub op_word : Op → List ℕ
op_word Add = codes "add"
op_word Mul = codes "mul"
op_word And = codes "and"
op_word Or = codes "or"
op_word Xor = codes "xor"
op_word Min = codes "min"
op_word Max = codes "max"

abbrev pub mode_word : Mode → List ℕ
mode_word Read = codes "read"
mode_word Write = codes "write"
mode_word (Reduce op) = op_word op

-- the names of the fields by their numbers: those that are built in, none for the reserved number, and the declared ones
abbrev pub field_names : CheckedProgram → List (List ℕ)
field_names checked = map (λ entry. entry.0) built_in_names ++ [] ∷ map (λ info. info.name) checked.fields

abbrev pub subject_name : CheckedProgram → Subject → List ℕ
subject_name checked (OfField field) = unwrap_or (slice_get (field_names checked) field) []
subject_name checked (OfScalar scalar) = unwrap_or (slice_get checked.scalars scalar) []

-- `phase COMP NAME MODE`.
abbrev pub phase_line : ℕ → List ℕ → Mode → List ℕ
phase_line comp name mode = codes "phase " ++ (decimal comp ++ (codes " " ++ (name ++ (codes " " ++ (mode_word mode ++ codes "\n")))))

-- The line of a field or scalar with its mode, if the comprehension accesses it.
abbrev pub access_text : ℕ → List ℕ → Option Mode → List ℕ
access_text comp name None = []
access_text comp name (Some mode) = phase_line comp name mode

abbrev pub subject_text : CheckedProgram → ℕ → Subject → List ℕ
subject_text checked comp subject = access_text comp (subject_name checked subject) (checked_mode checked comp subject)

-- All fields and then all scalars, by their numbers.
abbrev pub subjects_of : ℕ → ℕ → List Subject
subjects_of fields scalars = map OfField (range_with_len 0 fields) ++ map OfScalar (range_with_len 0 scalars)

abbrev pub comprehension_phases : CheckedProgram → ℕ → List ℕ
comprehension_phases checked comp =
    flat_map (subject_text checked comp) (subjects_of (first_declared + length checked.fields) (length checked.scalars))

abbrev pub phases_text : CheckedProgram → List ℕ
phases_text checked = flat_map (comprehension_phases checked) (range_with_len 0 (length checked.comprehensions))

-- `vertices V edges E faces F cells C`.
abbrev pub counts_line : (Kind → ℕ) → List ℕ
counts_line count =
    codes "vertices " ++ (decimal (count Vertex) ++ (codes " edges " ++ (decimal (count Edge) ++ (codes " faces " ++ (decimal (count Face)
    ++ (codes " cells " ++ (decimal (count Cell) ++ codes "\n")))))))

-- THE TEXT OF A CHECKED PROGRAM: its canonical text, the phases, and the counts of elements.
abbrev pub check_text : List ℕ → CheckedProgram → (Kind → ℕ) → List ℕ
check_text canonical checked count = canonical ++ (phases_text checked ++ counts_line count)

-- STENCILS: a line for each access of each iteration. The word of the kind of a field, by its number
abbrev pub built_in_kinds : List Kind
built_in_kinds = Vertex ∷ Vertex ∷ Vertex ∷ Vertex ∷ Cell ∷ []

abbrev pub field_kind_words : CheckedProgram → List (List ℕ)
field_kind_words checked = map kind_word built_in_kinds ++ [] ∷ map (λ info. kind_word info.kind) checked.fields

abbrev pub field_kind_word : CheckedProgram → ℕ → List ℕ
field_kind_word checked field = unwrap_or (slice_get (field_kind_words checked) field) []

-- ` KIND ID`; `stencil COMP KIND ID NAME KIND ID MODE`.
abbrev pub element_text : List ℕ → ℕ → List ℕ
element_text word id = codes " " ++ (word ++ (codes " " ++ decimal id))

abbrev pub access_line : CheckedProgram → ℕ → Kind → ℕ → Access → List ℕ
access_line checked comp over id access =
    ((codes "stencil " ++ decimal comp) ++ (element_text (kind_word over) id ++ codes " "))
    ++ (subject_name checked (OfField access.spot.field)
    ++ (element_text (field_kind_word checked access.spot.field) access.spot.id ++ (codes " " ++ (mode_word access.mode ++ codes "\n"))))

-- the text of one iteration, of a comprehension, and of all comprehensions
abbrev pub stencil_text : CheckedProgram → ℕ → Kind → ℕ → List Access → List ℕ
stencil_text checked comp over id accesses = flat_map (access_line checked comp over id) accesses

abbrev pub iteration_stencil : CheckedProgram → ℕ → Kind → List (List Access) → ℕ → List ℕ
iteration_stencil checked comp over lists id = stencil_text checked comp over id (unwrap_or (slice_get lists id) [])

abbrev pub stencils_over : CheckedProgram → ℕ → List (List Access) → Option Kind → List ℕ
stencils_over checked comp lists None = []
stencils_over checked comp lists (Some over) = flat_map (iteration_stencil checked comp over lists) (range_with_len 0 (length lists))

abbrev pub comprehension_stencils : CheckedProgram → ℕ → List (List Access) → List ℕ
comprehension_stencils checked comp lists = stencils_over checked comp lists (checked_kind checked comp)

abbrev pub stencils_from : CheckedProgram → ℕ → List (List (List Access)) → List ℕ
stencils_from checked comp [] = []
stencils_from checked comp (lists ∷ rest) = comprehension_stencils checked comp lists ++ stencils_from checked (comp + 1) rest

abbrev pub stencils_text : CheckedProgram → List (List (List Access)) → List ℕ
stencils_text checked stencils = stencils_from checked 0 stencils
