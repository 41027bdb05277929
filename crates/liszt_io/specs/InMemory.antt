-- A shelf and a sink in memory: their first state, and
-- which of their calls fail. This project's own.
use Rattle.std.specs.Prelude.{◌≡◌, ◌==◌, ◌&&◌, ◌||◌, ℕ, ◌-◌, Bool, true, not, nat_lt, min, List, []}
use Rattle.std.specs.Prelude.{length, is_some, Option, IfSome, Some, None, Result, Ok, Err}
use Rattle.std.specs.Prelude.{if◌then◌else◌}
use Rattle.std.specs.Option.{option_map}
use Rattle.liszt_io.specs.declared.held_file.HeldFile.{HeldFile}
use Rattle.liszt_io.specs.declared.memory_shelf.MemoryShelf.{MemoryShelf}
use Rattle.liszt_io.specs.declared.memory_sink.MemorySink.{MemorySink}
use Rattle.liszt_io.specs.declared.script.Script.{Script}
use Rattle.liszt_io.specs.declared.outside.Failed.{Failed}
use Rattle.liszt_io.specs.Causes.{one_more}
use Rattle.liszt_io.specs.Shelves.{Files, file, Cursor, Tally}
use Rattle.liszt_io.specs.FileLists.{files_of, name_at, bytes_at}
use Rattle.liszt_io.specs.Scripts.{fails_next, IsCallLater}

abbrev pub first_script : ℕ → List ℕ → Script
first_script step fails = record { step = step; fails = fails; calls = 0 }

-- The meaning of a shelf in memory: its files by name, the cursor, its faults by kind.
abbrev pub contents_of : MemoryShelf → Files
contents_of s = files_of s.files

abbrev pub cursor_of : MemoryShelf → Option Cursor
cursor_of s = option_map (λ o. (name_at s.files o.index, o.place)) s.current

abbrev pub tally_of : MemoryShelf → Tally
tally_of s =
    record { strays = s.strays; others = s.others; last = option_map (name_at s.files) s.last }

-- A shelf of these files before its first call.
pub record IsNewShelf (files : List HeldFile) (step : ℕ) (fails : List ℕ)
    (shelf : MemoryShelf) : Type 0 where
  pub files_are : shelf.files ≡ files
  pub script_is : shelf.script ≡ first_script step fails
  pub no_cursor : shelf.current ≡ None
  pub no_strays : shelf.strays ≡ 0
  pub no_others : shelf.others ≡ 0
  pub no_last : shelf.last ≡ None

-- The next `open_name` succeeds: its number is not among those that fail, and a file has the name.
abbrev pub opens_next : MemoryShelf → List ℕ → Bool
opens_next s name = not (fails_next s.script) && is_some (file (contents_of s) name)

-- The next `read` into a buffer of `room` bytes succeeds: a
-- file is open, and its number does not fail.
abbrev pub reads_next : MemoryShelf → ℕ → Bool
reads_next s room = is_some s.current && ((room == 0) || not (fails_next s.script))

-- The faults by kind after one more stray, and after one more fault at a name.
abbrev pub with_stray : Tally → Tally
with_stray t = record { strays = one_more t.strays; others = t.others; last = t.last }

abbrev pub with_fault_at : List ℕ → Tally → Tally
with_fault_at name t = record { strays = t.strays; others = one_more t.others; last = Some name }

-- The faults by kind after `open_name`: the failure is a stray where no file has the name.
abbrev pub tally_after_open : MemoryShelf → List ℕ → Result Unit Failed → Tally
tally_after_open s name (Ok _) = tally_of s
tally_after_open s name (Err _) =
    if is_some (file (contents_of s) name) then with_fault_at name (tally_of s)
    else with_stray (tally_of s)

-- The faults by kind after `read`: the failure is a stray where no file is open.
abbrev pub tally_after_read : MemoryShelf → Result ℕ Failed → Tally
tally_after_read s (Ok _) = tally_of s
tally_after_read s (Err _) = failed (cursor_of s) where
  failed : Option Cursor → Tally
  failed None = with_stray (tally_of s)
  failed (Some cursor) = with_fault_at cursor.0 (tally_of s)

-- The number of bytes that it gives of the open file.
abbrev pub GivesNext : MemoryShelf → ℕ → ℕ → Type 0
GivesNext s room count =
    IfSome s.current (λ o. count ≡ min (min (length (bytes_at s.files o.index) - o.place) room)
    s.script.step)

-- The bytes written to a sink.
abbrev pub output_of : MemorySink → List ℕ
output_of s = s.bytes.items

-- A sink before its first call.
pub record IsNewSink (step cut : ℕ) (fails : List ℕ) (sink : MemorySink) : Type 0 where
  pub nothing_taken : output_of sink ≡ []
  pub script_is : sink.script ≡ first_script step fails
  pub cut_is : sink.cut ≡ cut
  pub is_flushed : sink.is_flushed ≡ true
  pub no_faults : sink.faults ≡ 0

-- The next `write` of the piece succeeds: the piece is empty,
-- or the call's number does not fail and there is room.
abbrev pub writes_next : MemorySink → List ℕ → Bool
writes_next s piece =
    (length piece == 0) || (not (fails_next s.script) && nat_lt (length (output_of s)) s.cut)

-- The number of bytes that it takes.
abbrev pub next_count : MemorySink → List ℕ → ℕ
next_count s piece = min (min (length piece) (s.cut - length (output_of s))) s.script.step

abbrev pub flushes_next : MemorySink → Bool
flushes_next s = not (fails_next s.script)

-- One call later, with the same files.
pub record IsShelfLater (before now : MemoryShelf) : Type 0 where
  pub script : IsCallLater before.script now.script
  pub files : now.files ≡ before.files

-- One call later, with the same room.
pub record IsSinkLater (before now : MemorySink) : Type 0 where
  pub script : IsCallLater before.script now.script
  pub cut : now.cut ≡ before.cut
