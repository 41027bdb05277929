-- Files in memory: their names and bytes, and one of them by its index. This project's own.
use Rattle.std.specs.Prelude.{◌≡◌, ℕ, ◌<◌, ◌≤◌, List, [], map, length, slice_index_or, Some}
use Rattle.std.specs.FinMap.{from_entries}
use Rattle.liszt_io.specs.declared.held_file.HeldFile.{HeldFile}
use Rattle.liszt_io.specs.Shelves.{Files, file}

abbrev pub entry : HeldFile → List ℕ × List ℕ
entry f = (f.name, f.bytes)

-- The files by their names.
abbrev pub files_of : List HeldFile → Files
files_of fs = from_entries (map entry fs)

abbrev pub no_file : HeldFile
no_file = record { name = []; bytes = [] }

abbrev pub name_at : List HeldFile → ℕ → List ℕ
name_at fs i = (slice_index_or fs i no_file).name

abbrev pub bytes_at : List HeldFile → ℕ → List ℕ
bytes_at fs i = (slice_index_or fs i no_file).bytes

-- The file at that index is the one of its name.
pub record IsFileAt (fs : List HeldFile) (i : ℕ) : Type 0 where
  pub inside : i < length fs
  pub contents : file (files_of fs) (name_at fs i) ≡ Some (bytes_at fs i)

-- And the place in its bytes is not past them.
pub record IsOpenAt (fs : List HeldFile) (i place : ℕ) : Type 0 where
  pub file_at : IsFileAt fs i
  pub within : place ≤ length (bytes_at fs i)
