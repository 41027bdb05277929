-- What the readers of headers and rows answer. Private functions' contracts cite it.
use Rattle.std.specs.Prelude.{◌≡◌, ℕ, ◌<◌, ◌≤◌, None, Some, Option}
use Rattle.std.specs.Prelude.{List, drop, length, Result, Ok, Err}
use Rattle.liszt_base.specs.declared.answers.MeshFault.{MeshFault}
use Rattle.liszt_base.specs.declared.answers.MeshWhat.{MeshWhat}
use Rattle.liszt_base.specs.declared.answers.Refused.{Refused}
use Rattle.liszt_base.specs.declared.answers.Refused.TheVariants.{Fault, NoMemory as OutOfMemory}
use Rattle.text_scan.specs.Rows.{Row, row_at}
use Rattle.tet_reader.specs.Tests.{first_some}
use Rattle.tet_reader.specs.Headers.{IsNodeHeader, IsEleHeader}
use Rattle.tet_reader.specs.declared.headers.NodeHeader.{NodeHeader}
use Rattle.tet_reader.specs.declared.headers.EleHeader.{EleHeader}

-- The answer of a reader of one row: the item where no test
-- finds a fault, otherwise the first fault of the tests.
abbrev pub ReadsItem : {A : Type 0} → List (Option MeshWhat) → (A → Type 0) → Result A MeshWhat
    → Type 0
ReadsItem tests IsItem (Ok item) = (first_some tests ≡ None) × IsItem item
ReadsItem tests IsItem (Err what) = first_some tests ≡ Some what

-- The first row is this header.
abbrev pub HeadsNode : List Row → NodeHeader → Type 0
HeadsNode rows header =
    (0 < length rows) × IsNodeHeader (row_at rows 0).words header.points header.attributes
    header.markers

abbrev pub HeadsEle : List Row → EleHeader → Type 0
HeadsEle rows header =
    (0 < length rows) × IsEleHeader (row_at rows 0).words header.cells header.attributes

-- The answer of a reader of the header: the header, or the first fault.
abbrev pub ReadsHeader : {A : Type 0} → (A → Type 0) → Option MeshFault → Result A MeshFault
    → Type 0
ReadsHeader Heads fault (Ok header) = Heads header
ReadsHeader Heads fault (Err found) = fault ≡ Some found

-- the items of the rows after the header, of which there are no more than the count
abbrev pub ReadsRows : {A : Type 0} → (List A → Type 0) → ℕ → List Row → Option MeshFault
    → Result (List A) (Refused MeshFault) → Type 0
ReadsRows AreItems count rows fault (Ok items) = AreItems items × (length (drop 1 rows) ≤ count)
ReadsRows AreItems count rows fault (Err (Fault found)) = fault ≡ Some found
ReadsRows AreItems count rows fault (Err OutOfMemory) = Unit {0}
