-- The rows of a file one after the other as they are read, for both kinds of rows.
use Rattle.std.proofs.lemmas.Bool.Decides.{nat_tests}
use Rattle.std.proofs.Common.{add-zero, zero-add, false}
use Rattle.std.proofs.Common.{◌≡◌, ℕ, zero, suc, ◌+◌, ◌<◌, ◌≤◌, nat_le, Option, Some, None, List, [], ◌∷◌, ◌++◌, take, length, refl, sym, ap, subst, ◌∙◌, arith}
use Rattle.std.specs.Prelude.{ℤ, nat_abs}
use Rattle.std.proofs.lemmas.List.{take_all}
use Rattle.liszt_base.specs.declared.answers.MeshFault.{MeshFault}
use Rattle.liszt_base.specs.declared.answers.MeshFile.{MeshFile}
use Rattle.liszt_base.specs.declared.answers.MeshWhat.{MeshWhat}
use Rattle.liszt_base.specs.declared.answers.MeshWhat.TheVariants.{Missing}
use Rattle.text_scan.specs.Rows.{Row}
use Rattle.text_scan.specs.Rows.{row_at}
use Rattle.tet_reader.specs.Tests.{first_some}
use Rattle.tet_reader.specs.Points.{AreNumbered}
use Rattle.tet_reader.specs.Faults.{fault_at, line_fault, file_tests}
use Rattle.tet_reader.proofs.Forms.{file_form}
use Rattle.tet_reader.proofs.Tests.{FindNone, each_none, first_none}
use Rattle.tet_reader.proofs.WordLists.{first_after}
use Rattle.tet_reader.proofs.RowLists.{AllPass, row_faults, last_tests, pass_rows, line_passes}

-- the tests of a kind of rows, by place and words
abbrev Tests : Type 0
Tests = ℕ → List (List ℕ) → List (Option MeshWhat)

-- The rows before a place pass and are those of these items; the first row has this number.
pub record AreReadUpTo {A : Type 0} (tests : Tests) (IsRowOf : ℕ → List (List ℕ) → A → Type 0) (number : ℕ) (rows : List Row) (items : List A) (place : ℕ) : Type 0 where
  pub pass : AllPass tests 0 (take place rows)
  pub each : AreNumbered IsRowOf number (take place rows) items

pub none_passed : {A : Type 0} (tests : Tests) (IsRowOf : ℕ → List (List ℕ) → A → Type 0) (number : ℕ) (rows : List Row) (items : List A) → items ≡ []
    → AreReadUpTo tests IsRowOf number rows items 0
none_passed tests IsRowOf number rows items e =
    record { pass = tt; each = subst (λ l. AreNumbered IsRowOf number [] l) (sym e) tt }

pass_more : (tests : Tests) (start : ℕ) (rows : List Row) (place : ℕ) → place < length rows → AllPass tests start (take place rows)
    → FindNone (tests (start + place) (row_at rows place).words) → AllPass tests start (take (place + 1) rows)
pass_more tests start [] place lt h one = absurd (omega arith)
pass_more tests start (row ∷ rows) zero lt h one = (subst (λ k. FindNone (tests k row.words)) (add-zero start) one, tt)
pass_more tests start (row ∷ rows) (suc place) lt h one =
    let at : suc place + 1 ≡ suc (place + 1) = omega arith in
    let number : start + suc place ≡ start + 1 + place = omega arith in
    let one' = subst (λ k. FindNone (tests k (row_at rows place).words)) number one in
    subst (λ k. AllPass tests start (take k (row ∷ rows))) (sym at) (h.0, pass_more tests (start + 1) rows place (omega arith) h.1 one')

numbered_more : {A : Type 0} (R : ℕ → List (List ℕ) → A → Type 0) (number : ℕ) (rows : List Row) (items : List A) (place : ℕ) (item : A)
    → place < length rows → AreNumbered R number (take place rows) items → R (number + place) (row_at rows place).words item
    → AreNumbered R number (take (place + 1) rows) (items ++ item ∷ [])
numbered_more R number [] items place item lt h one = absurd (omega arith)
numbered_more R number (row ∷ rows) [] zero item lt h one = (subst (λ k. R k row.words item) (add-zero number) one, tt)
numbered_more R number (row ∷ rows) (other ∷ items) zero item lt h one = absurd h
numbered_more R number (row ∷ rows) [] (suc place) item lt h one = absurd h
numbered_more R number (row ∷ rows) (other ∷ items) (suc place) item lt h one =
    let at : suc place + 1 ≡ suc (place + 1) = omega arith in
    let is : number + suc place ≡ number + 1 + place = omega arith in
    let one' = subst (λ k. R k (row_at rows place).words item) is one in
    let more = numbered_more R (number + 1) rows items place item (omega arith) h.1 one' in
    subst (λ k. AreNumbered R number (take k (row ∷ rows)) (other ∷ (items ++ item ∷ []))) (sym at) (h.0, more)

-- a row more
pub row_read : {A : Type 0} (tests : Tests) (IsRowOf : ℕ → List (List ℕ) → A → Type 0) (number : ℕ) (rows : List Row) (items items' : List A) (place : ℕ) (item : A)
    → place < length rows → AreReadUpTo tests IsRowOf number rows items place → first_some (tests place (row_at rows place).words) ≡ None
    → IsRowOf (number + place) (row_at rows place).words item → items' ≡ items ++ item ∷ [] → AreReadUpTo tests IsRowOf number rows items' (place + 1)
row_read tests IsRowOf number rows items items' place item lt h pass is same = record {
  pass = pass_more tests 0 rows place lt h.pass
      (subst (λ k. FindNone (tests k (row_at rows place).words)) (sym (zero-add place)) (each_none (tests place (row_at rows place).words) pass));
  each = subst (λ l. AreNumbered IsRowOf number (take (place + 1) rows) l) (sym same) (numbered_more IsRowOf number rows items place item lt h.each is);
}

-- all rows
pub all_rows_read : {A : Type 0} (tests : Tests) (IsRowOf : ℕ → List (List ℕ) → A → Type 0) (number : ℕ) (rows : List Row) (items : List A) (place : ℕ)
    → AreReadUpTo tests IsRowOf number rows items place → length rows ≤ place → AllPass tests 0 rows × AreNumbered IsRowOf number rows items
all_rows_read tests IsRowOf number rows items place h all =
    let whole = take_all place rows all in (
      subst (λ l. AllPass tests 0 l) whole h.pass,
      subst (λ l. AreNumbered IsRowOf number l items) whole h.each,
    )

-- ---- the first fault

found_among : (file : MeshFile) (count : ℤ) (tests : Tests) (start : ℕ) (rows : List Row) (place : ℕ) (what : MeshWhat) (end : List (Option MeshFault))
    → place < length rows → AllPass tests start (take place rows) → first_some (tests (start + place) (row_at rows place).words) ≡ Some what
    → first_some (row_faults file count tests start rows ++ end) ≡ Some (fault_at file count (row_at rows place).line what)
found_among file count tests start [] place what end lt h wrong = absurd (omega arith)
found_among file count tests start (row ∷ rows) zero what end lt h wrong =
    let here : first_some (tests start row.words) ≡ Some what = ap (λ k. first_some (tests k row.words)) (sym (add-zero start)) ∙ wrong in
    rw here refl
found_among file count tests start (row ∷ rows) (suc place) what end lt h wrong =
    let number : start + suc place ≡ start + 1 + place = omega arith in
    let none = line_passes file count row.line (tests start row.words) h.0 in
    let more = found_among file count tests (start + 1) rows place what end (omega arith) h.1
    (ap (λ k. first_some (tests k (row_at rows place).words)) (sym number) ∙ wrong) in
    rw none more

-- a row's fault is the file's, where the header and the rows before it pass
pub row_fault : (file : MeshFile) (count : ℤ) (header_tests : List (Option MeshWhat)) (tests : Tests) (last : ℕ) (header : Row) (rows : List Row) (place : ℕ)
    (what : MeshWhat) → FindNone header_tests → place < length rows → AllPass tests 0 (take place rows)
    → first_some (tests place (row_at rows place).words) ≡ Some what
    → first_some (file_tests (file_form file count header_tests tests) last header rows) ≡ Some (fault_at file count (row_at rows place).line what)
row_fault file count header_tests tests last header rows place what head lt h wrong =
    let none = line_passes file count header.line header_tests head in
    rw none (found_among file count tests 0 rows place what (line_fault file count last (last_tests count rows) ∷ []) lt h
    (ap (λ k. first_some (tests k (row_at rows place).words)) (zero-add place) ∙ wrong))

-- that a row is missing is the file's fault, where the header and the rows pass
pub missing_fault : (file : MeshFile) (count : ℤ) (header_tests : List (Option MeshWhat)) (tests : Tests) (last : ℕ) (header : Row) (rows : List Row)
    → FindNone header_tests → AllPass tests 0 rows → length rows < nat_abs count
    → first_some (file_tests (file_form file count header_tests tests) last header rows) ≡ Some (fault_at file count last Missing)
missing_fault file count header_tests tests last header rows head pass few =
    let none = line_passes file count header.line header_tests head in
    let rest = first_none (row_faults file count tests 0 rows) (pass_rows file count tests 0 rows pass) in
    let short : nat_le (nat_abs count) (length rows) ≡ false = grind (arith, nat_tests) in
    rw none (first_after (row_faults file count tests 0 rows) (line_fault file count last (last_tests count rows) ∷ []) rest ∙ rw short refl)
