-- The file of a name among files in memory.
use Rattle.std.proofs.Common.{◌≡◌, ◌≢◌, ℕ, ◌+◌, ◌<◌, ◌≤◌, List, [], ◌∷◌, length, drop, map, cond, Bool, true, false, Option, Some, None, refl, sym, ap, ◌∙◌, slice_index_or, get_or, drop-cons, add-one}
use Rattle.std.proofs.Math.ListN.{drop_of_length-le}
use Rattle.std.proofs.lemmas.List.{get_or_default}
use Rattle.std.specs.FinMap.{get-from_entries}
use Rattle.std.specs.FinMap.Entries.{find}
use Rattle.std.specs.Ordering.{nat_cmp}
use Rattle.std.specs.Cmp.Lexicographic.{slice_cmp}
use Rattle.std.specs.Str.{bytes_eq}
use Rattle.std.proofs.lemmas.Cmp.{nat_list_cmp_total}
use Rattle.std.proofs.lemmas.Map.Text.{is_eq-slice_cmp}
use Rattle.std.proofs.lemmas.Slice.Eq.{bytes_eq-Decides}
use Rattle.liszt_io.specs.declared.held_file.HeldFile.{HeldFile}
use Rattle.liszt_io.specs.Shelves.{file}
use Rattle.liszt_io.specs.FileLists.{entry, files_of, no_file, name_at, bytes_at, IsFileAt}

file_is : (fs : List HeldFile) (name : List ℕ) → file (files_of fs) name ≡ find (slice_cmp nat_cmp) name (map entry fs)
file_is fs name = get-from_entries nat_list_cmp_total (map entry fs) name

first_or_rest : (f : HeldFile) (fs : List HeldFile) (name : List ℕ) → file (files_of (f ∷ fs)) name ≡ cond (bytes_eq name f.name) (Some f.bytes) (file (files_of fs) name)
first_or_rest f fs name =
    file_is (f ∷ fs) name ∙ ap (λ (b : Bool). cond b (Some f.bytes) (find (slice_cmp nat_cmp) name (map entry fs))) (is_eq-slice_cmp name f.name)
    ∙ ap (λ (o : Option (List ℕ)). cond (bytes_eq name f.name) (Some f.bytes) o) (sym (file_is fs name))

same_bytes : (xs : List ℕ) → bytes_eq xs xs ≡ true
same_bytes xs = (bytes_eq-Decides xs xs).1 refl

is_false : (b : Bool) → (b ≡ true → ⊥) → b ≡ false
is_false true h = absurd (h refl)
is_false false h = refl

other_bytes : (xs ys : List ℕ) → xs ≢ ys → bytes_eq xs ys ≡ false
other_bytes xs ys h = is_false (bytes_eq xs ys) (λ e. h ((bytes_eq-Decides xs ys).0 e))

-- a file that was read at its place
pub file_at_index : (fs : List HeldFile) (i : ℕ) (f : HeldFile) → i < length fs → f ≡ get_or fs i f → f ≡ slice_index_or fs i no_file
file_at_index fs i f inside is = is ∙ get_or_default fs i f no_file inside

pub name_test : (fs : List HeldFile) (i : ℕ) (f : HeldFile) (bytes name : List ℕ) (test : Bool) → i < length fs → f ≡ get_or fs i f → bytes ≡ f.name → test ≡ bytes_eq bytes name
    → bytes_eq (name_at fs i) name ≡ test
name_test fs i f bytes name test inside is bytes_are e =
    let bytes_is : bytes ≡ name_at fs i = bytes_are ∙ ap (λ (g : HeldFile). g.name) (file_at_index fs i f inside is) in
    ap (λ (b : List ℕ). bytes_eq b name) (sym bytes_is) ∙ sym e

pub same_name : (xs ys : List ℕ) → bytes_eq xs ys ≡ true → xs ≡ ys
same_name xs ys e = (bytes_eq-Decides xs ys).0 e

pub other_name : (xs ys : List ℕ) → bytes_eq xs ys ≡ false → xs ≢ ys
other_name xs ys e same = let t : bytes_eq xs ys ≡ true = (bytes_eq-Decides xs ys).1 same in cc

drop_at : (fs : List HeldFile) (i : ℕ) → i < length fs → drop i fs ≡ slice_index_or fs i no_file ∷ drop (i + 1) fs
drop_at fs i h = rw add-one (drop-cons fs i no_file h)

-- no file before place i has the name, and the file there has it
pub file_at_match : (fs : List HeldFile) (i : ℕ) (name : List ℕ) → i < length fs → name_at fs i ≡ name → file (files_of (drop i fs)) name ≡ file (files_of fs) name → IsFileAt fs i
file_at_match fs i name inside same before =
    let first = first_or_rest (slice_index_or fs i no_file) (drop (i + 1) fs) name in
    let is : bytes_eq name (name_at fs i) ≡ true = rw same (same_bytes name) in
    let here : file (files_of (drop i fs)) name ≡ Some (bytes_at fs i) =
    ap (λ (l : List HeldFile). file (files_of l) name) (drop_at fs i inside) ∙ first ∙ rw is refl in
    record { inside = inside; contents = rw same (sym before ∙ here) }

-- the file at index i does not have the name
pub file_after_mismatch : (fs : List HeldFile) (i : ℕ) (name : List ℕ) → i < length fs → name_at fs i ≢ name → file (files_of (drop i fs)) name ≡ file (files_of fs) name
    → file (files_of (drop (i + 1) fs)) name ≡ file (files_of fs) name
file_after_mismatch fs i name inside other before =
    let first = first_or_rest (slice_index_or fs i no_file) (drop (i + 1) fs) name in
    let is : bytes_eq name (name_at fs i) ≡ false = other_bytes name (name_at fs i) (λ e. other (sym e)) in
    let here : file (files_of (drop i fs)) name ≡ file (files_of (drop (i + 1) fs)) name =
    ap (λ (l : List HeldFile). file (files_of l) name) (drop_at fs i inside) ∙ first ∙ rw is refl in
    sym here ∙ before

-- all places were passed
pub no_file_of_name : (fs : List HeldFile) (i : ℕ) (name : List ℕ) → length fs ≤ i → file (files_of (drop i fs)) name ≡ file (files_of fs) name → file (files_of fs) name ≡ None
no_file_of_name fs i name past before = sym before ∙ ap (λ (l : List HeldFile). file (files_of l) name) (drop_of_length-le fs past) ∙ file_is [] name
