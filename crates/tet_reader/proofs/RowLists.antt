-- The rows of a file one after the other, for both kinds of rows.
use Rattle.std.proofs.lemmas.Bool.{le-leb, leb-true}
use Rattle.std.proofs.Common.{◌≡◌, ℕ, zero, suc, ◌+◌, ◌<◌, ◌≤◌, nat_le, if◌then◌else◌, Bool, true, false, Option, Some, None, List, []}
use Rattle.std.proofs.Common.{◌∷◌, map, length, slice_index_or, refl, sym, ap, subst, ◌∙◌, arith}
use Rattle.std.specs.Prelude.{ℤ, pos, nat_abs, Ok}
use Rattle.std.specs.List.{enumerate_from}
use Rattle.std.specs.Option.{option_map}
use Rattle.liszt_base.specs.declared.answers.MeshFault.{MeshFault}
use Rattle.liszt_base.specs.declared.answers.MeshFile.{MeshFile}
use Rattle.liszt_base.specs.declared.answers.MeshWhat.{MeshWhat}
use Rattle.liszt_base.specs.declared.answers.MeshWhat.TheVariants.{Missing}
use Rattle.text_scan.specs.Numbers.{whole_of}
use Rattle.text_scan.specs.Rows.{Row}
use Rattle.tet_reader.specs.Tests.{first_some, unless}
use Rattle.tet_reader.specs.Points.{AreNumbered}
use Rattle.tet_reader.specs.Faults.{fault_at, is_one, first_number, line_fault, file_tests}
use Rattle.tet_reader.proofs.Forms.{file_form}
use Rattle.tet_reader.proofs.Tests.{unless_none, none_unless, FindNone, each_none, first_none, none_append, append_none}

-- the tests of each row find nothing, and the places run on by one
abbrev pub AllPass : (ℕ → List (List ℕ) → List (Option MeshWhat)) → ℕ → List Row → Type 0
AllPass tests place [] = Unit {0}
AllPass tests place (row ∷ rows) = FindNone (tests place row.words) × AllPass tests (place + 1) rows

-- a value that is none after a function was none before
map_none : {A B : Type 0} (f : A → B) (o : Option A) → option_map f o ≡ None → o ≡ None
map_none f None e = refl
map_none f (Some x) e = cc

-- a line's tests find no fault where each finds nothing
line_spelled : (file : MeshFile) (count : ℤ) (line : ℕ) (tests : List (Option MeshWhat)) → line_fault file count line tests ≡ None
    → FindNone tests
line_spelled file count line tests e = each_none tests (map_none (fault_at file count line) (first_some tests) e)

pub line_passes : (file : MeshFile) (count : ℤ) (line : ℕ) (tests : List (Option MeshWhat)) → FindNone tests
    → line_fault file count line tests ≡ None
line_passes file count line tests h = ap (option_map (fault_at file count line)) (first_none tests h)

-- what the tests of the rows find, by their lines
abbrev pub row_faults : MeshFile → ℤ → (ℕ → List (List ℕ) → List (Option MeshWhat)) → ℕ → List Row → List (Option MeshFault)
row_faults file count tests place rows = map (λ r. line_fault file count r.1.line (tests r.0 r.1.words)) (enumerate_from place rows)

-- they find nothing where each row's tests do
rows_pass : (file : MeshFile) (count : ℤ) (tests : ℕ → List (List ℕ) → List (Option MeshWhat)) (place : ℕ) (rows : List Row)
    → FindNone (row_faults file count tests place rows) → AllPass tests place rows
rows_pass file count tests place [] h = tt
rows_pass file count tests place (row ∷ rows) h =
    (line_spelled file count row.line (tests place row.words) h.0, rows_pass file count tests (place + 1) rows h.1)

pub pass_rows : (file : MeshFile) (count : ℤ) (tests : ℕ → List (List ℕ) → List (Option MeshWhat)) (place : ℕ) (rows : List Row)
    → AllPass tests place rows → FindNone (row_faults file count tests place rows)
pass_rows file count tests place [] h = tt
pass_rows file count tests place (row ∷ rows) h =
    (line_passes file count row.line (tests place row.words) h.0, pass_rows file count tests (place + 1) rows h.1)

-- the test at the last line
abbrev pub last_tests : ℤ → List Row → List (Option MeshWhat)
last_tests count rows = unless (nat_le (nat_abs count) (length rows)) Missing ∷ []

-- a file's tests find nothing where those of its header and of its rows do, and no row is missing
pub file_spelled : (file : MeshFile) (count : ℤ) (header_tests : List (Option MeshWhat)) (tests : ℕ → List (List ℕ) → List (Option MeshWhat))
    (last : ℕ) (header : Row) (rows : List Row)
    → first_some (file_tests (file_form file count header_tests tests) last header rows) ≡ None
    → FindNone header_tests × AllPass tests 0 rows × (nat_abs count ≤ length rows)
file_spelled file count header_tests tests last header rows e =
    let all = each_none (file_tests (file_form file count header_tests tests) last header rows) e in
    let end : List (Option MeshFault) = line_fault file count last (last_tests count rows) ∷ [] in
    let parts = append_none (row_faults file count tests 0 rows) end all.1 in
    let enough = line_spelled file count last (last_tests count rows) parts.1.0 in
    let enough' = leb-true (nat_abs count) (length rows) (unless_none (nat_le (nat_abs count) (length rows)) Missing enough.0) in
    (line_spelled file count header.line header_tests all.0, rows_pass file count tests 0 rows parts.0, enough')

pub file_passes : (file : MeshFile) (count : ℤ) (header_tests : List (Option MeshWhat)) (tests : ℕ → List (List ℕ) → List (Option MeshWhat))
    (last : ℕ) (header : Row) (rows : List Row)
    → FindNone header_tests → AllPass tests 0 rows → nat_abs count ≤ length rows
    → first_some (file_tests (file_form file count header_tests tests) last header rows) ≡ None
file_passes file count header_tests tests last header rows head pass enough =
    let end : List (Option MeshFault) = line_fault file count last (last_tests count rows) ∷ [] in
    let none : FindNone (last_tests count rows) = (none_unless _ Missing (le-leb (nat_abs count) (length rows) enough), tt) in
    let end' : FindNone end = (line_passes file count last (last_tests count rows) none, tt) in
    let rest = none_append (row_faults file count tests 0 rows) end (pass_rows file count tests 0 rows pass) end' in
    first_none (file_tests (file_form file count header_tests tests) last header rows) (line_passes file count header.line header_tests head, rest)

-- ---- rows and items

-- A row's tests find nothing where it is within the count and is some item's row; the number of the row at place 0 is base.
pub record IsKind {A : Type 0} (count base : ℕ) (tests : ℕ → List (List ℕ) → List (Option MeshWhat))
    (IsRowOf : ℕ → List (List ℕ) → A → Type 0) : Type 0 where
  pub spelled_item : (place : ℕ) (words : List (List ℕ)) → FindNone (tests place words)
      → (place < count) × ((item : A) × IsRowOf (base + place) words item)
  pub item_passes : (place : ℕ) (words : List (List ℕ)) (item : A) → place < count → IsRowOf (base + place) words item
      → FindNone (tests place words)

-- rows whose tests find nothing are those of some items
pub rows_spelled : {A : Type 0} {count base : ℕ} {tests : ℕ → List (List ℕ) → List (Option MeshWhat)}
    {IsRowOf : ℕ → List (List ℕ) → A → Type 0} → IsKind count base tests IsRowOf
    → (rows : List Row) (place number : ℕ) → number ≡ base + place → AllPass tests place rows
    → (items : List A) × AreNumbered IsRowOf number rows items
rows_spelled kind [] place number e h = ([], tt)
rows_spelled {base = base} {IsRowOf = IsRowOf} kind (row ∷ rows) place number e h =
    let one = kind.spelled_item place row.words h.0 in
    let more = rows_spelled kind rows (place + 1) (number + 1) (omega arith) h.1 in
    let here = subst (λ (k : ℕ). IsRowOf k row.words one.1.0) (sym e) one.1.1 in
    (one.1.0 ∷ more.0, (here, more.1))

-- and there are no more of them than the count
pub rows_within : {A : Type 0} {count base : ℕ} {tests : ℕ → List (List ℕ) → List (Option MeshWhat)}
    {IsRowOf : ℕ → List (List ℕ) → A → Type 0} → IsKind count base tests IsRowOf
    → (rows : List Row) (place : ℕ) → place ≤ count → AllPass tests place rows → place + length rows ≤ count
rows_within kind [] place le h = omega arith
rows_within kind (row ∷ rows) place le h =
    let here = (kind.spelled_item place row.words h.0).0 in
    let more = rows_within kind rows (place + 1) (omega arith) h.1 in
    omega arith

-- the tests of the rows of items find nothing
pub rows_passes : {A : Type 0} {count base : ℕ} {tests : ℕ → List (List ℕ) → List (Option MeshWhat)}
    {IsRowOf : ℕ → List (List ℕ) → A → Type 0} → IsKind count base tests IsRowOf
    → (rows : List Row) (items : List A) (place number : ℕ) → number ≡ base + place → place + length rows ≤ count
    → AreNumbered IsRowOf number rows items → AllPass tests place rows
rows_passes kind [] items place number e le h = tt
rows_passes kind (row ∷ rows) [] place number e le h = absurd h
rows_passes {IsRowOf = IsRowOf} kind (row ∷ rows) (item ∷ items) place number e le h =
    let here = subst (λ (k : ℕ). IsRowOf k row.words item) e h.0 in
    let more = rows_passes kind rows items (place + 1) (number + 1) (omega arith) (omega arith) h.1 in
    (kind.item_passes place row.words item (omega arith) here, more)

-- there are as many items as rows
pub numbered_length : {A : Type 0} (IsRowOf : ℕ → List (List ℕ) → A → Type 0) (number : ℕ) (rows : List Row) (items : List A)
    → AreNumbered IsRowOf number rows items → length items ≡ length rows
numbered_length IsRowOf number [] [] h = refl
numbered_length IsRowOf number [] (item ∷ items) h = absurd h
numbered_length IsRowOf number (row ∷ rows) [] h = absurd h
numbered_length IsRowOf number (row ∷ rows) (item ∷ items) h = ap suc (numbered_length IsRowOf (number + 1) rows items h.1)

-- where a row is that of one item, rows are those of one list
pub one_items : {A : Type 0} (R : ℕ → List (List ℕ) → A → Type 0)
    → ((k l : ℕ) (words : List (List ℕ)) (x y : A) → R k words x → R l words y → x ≡ y)
    → (rows : List Row) (k l : ℕ) (xs ys : List A) → AreNumbered R k rows xs → AreNumbered R l rows ys → xs ≡ ys
one_items R one [] k l [] [] h i = refl
one_items R one [] k l [] (y ∷ ys) h i = absurd i
one_items R one [] k l (x ∷ xs) ys h i = absurd h
one_items R one (row ∷ rows) k l [] ys h i = absurd h
one_items R one (row ∷ rows) k l (x ∷ xs) [] h i = absurd i
one_items R one (row ∷ rows) k l (x ∷ xs) (y ∷ ys) h i =
    cc (one k l row.words x y h.0 i.0, one_items R one rows (k + 1) (l + 1) xs ys h.1 i.1)

-- ---- the first number

-- a first number of at most 1 is found
zero_or_one : (k : ℕ) → k ≤ 1 → (if is_one (Ok (pos k)) then 1 else 0) ≡ k
zero_or_one zero le = refl
zero_or_one (suc zero) le = refl
zero_or_one (suc (suc k)) le = absurd (omega arith)

-- the number that the tests take is at most 1
at_most_one : (b : Bool) → (if b then 1 else 0) ≤ 1
at_most_one true = omega arith
at_most_one false = omega arith

pub first_number_fits : (rows : List Row) → first_number rows ≤ 1
first_number_fits [] = omega arith
first_number_fits (row ∷ rows) = at_most_one (is_one (whole_of (slice_index_or row.words 0 [])))

-- where there is a row its number is the first
pub first_number_is : {A : Type 0} (R : ℕ → List (List ℕ) → A → Type 0)
    → ((k : ℕ) (words : List (List ℕ)) (x : A) → R k words x → whole_of (slice_index_or words 0 []) ≡ Ok (pos k))
    → (row : Row) (rows : List Row) (k : ℕ) (xs : List A) → k ≤ 1 → AreNumbered R k (row ∷ rows) xs → first_number (row ∷ rows) ≡ k
first_number_is R number row rows k [] le h = absurd h
first_number_is R number row rows k (x ∷ xs) le h = ap (λ r. if is_one r then 1 else 0) (number k row.words x h.0) ∙ zero_or_one k le
