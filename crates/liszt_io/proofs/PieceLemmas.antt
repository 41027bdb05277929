-- Lists that grow by pieces, and values that are known.
use Rattle.std.proofs.Common.{◌≡◌, ℕ, ◌+◌, ◌-◌, ◌<◌, ◌≤◌, List, [], ◌++◌, length, take, drop, Option, Some, None, IsSome, Ok, inr, refl, sym, ap, subst, ◌∙◌, append_assoc, arith, length-append, length-drop, length-take}
use Rattle.std.proofs.Math.Seq.{take-add, take-length}
use Rattle.std.proofs.lemmas.Slice.{between_to_end}
use Rattle.std.specs.Io.KnownBytes.{append_known}
use Rattle.std.proofs.lemmas.List.{append-nil}
use Rattle.liszt_io.specs.Shelves.{Files, file, Cursor, Tally, IsFaultAt, FailsAt, Opens, Reads}
use Rattle.liszt_io.specs.Sinks.{TakesPiece}

pub append_known-nil : (known : Option (List ℕ)) → append_known known [] ≡ known
append_known-nil None = refl
append_known-nil (Some xs) = ap Some (append-nil xs)

pub append_known-append : (known : Option (List ℕ)) (xs ys : List ℕ) → append_known (append_known known xs) ys ≡ append_known known (xs ++ ys)
append_known-append None xs ys = refl
append_known-append (Some zs) xs ys = ap Some (append_assoc zs xs ys)

-- the known value
pub known_value : {A : Type 0} (o : Option A) → IsSome o → (x : A) × (o ≡ Some x)
known_value None h = cc
known_value (Some x) h = (x, refl)

-- a prefix of a file was read, and nothing failed since
pub record IsReading (files : Files) (name bytes : List ℕ) (cursor : Option Cursor) (before now : Tally) : Type 0 where
  pub all : List ℕ
  pub contents : file files name ≡ Some all
  pub at : cursor ≡ Some (name, length bytes)
  pub inside : length bytes ≤ length all
  pub prefix : bytes ≡ take (length bytes) all
  pub tally : now ≡ before

-- the sink took `count` bytes of the rest
pub output_after_piece : (known now after : Option (List ℕ)) (bytes : List ℕ) (done count : ℕ) → done ≤ length bytes → now ≡ append_known known (take done bytes)
    → TakesPiece now after (take (length bytes - done) (drop done bytes)) count
    → (done + count ≤ length bytes) × (after ≡ append_known known (take (done + count) bytes))
output_after_piece known now after bytes done count within now_is t =
    let piece_is : take (length bytes - done) (drop done bytes) ≡ drop done bytes = between_to_end bytes done (length bytes) (omega arith) in
    let inside : count ≤ length (drop done bytes) = subst (λ (p : List ℕ). count ≤ length p) piece_is t.inside in
    let taken : after ≡ append_known now (take count (drop done bytes)) = subst (λ (p : List ℕ). after ≡ append_known now (take count p)) piece_is t.output in
    let joined : append_known now (take count (drop done bytes)) ≡ append_known known (take done bytes ++ take count (drop done bytes)) =
    ap (λ (k : Option (List ℕ)). append_known k (take count (drop done bytes))) now_is ∙ append_known-append known (take done bytes) (take count (drop done bytes)) in
    (omega (arith, length-drop {A = ℕ}), taken ∙ joined ∙ ap (append_known known) (sym (take-add done count bytes)))

pub reading_begins : (files : Files) (name bytes : List ℕ) (cursor : Option Cursor) (before now : Tally)
    → bytes ≡ [] → Opens files name (Ok tt) cursor before now → IsReading files name bytes cursor before now
reading_begins files name bytes cursor before now empty h =
    let known = known_value (file files name) h.0 in
    let at : cursor ≡ Some (name, length bytes) = rw empty h.1 in
    let none : length bytes ≡ 0 = ap length empty in
    let prefix : bytes ≡ take (length bytes) known.0 = rw none empty in
    record { all = known.0; contents = known.1; at = at; inside = omega arith; prefix = prefix; tally = h.2 }

pub reading_continues : (files : Files) (name bytes buffer : List ℕ) (count : ℕ) (cursor cursor' : Option Cursor) (before now now' : Tally)
    → (r : IsReading files name bytes cursor before now) → Reads name r.all (length bytes) (Ok count) buffer cursor' now now'
    → IsReading files name (bytes ++ take count buffer) cursor' before now'
reading_continues files name bytes buffer count cursor cursor' before now now' r h =
    let all = r.all in
    let inside : length bytes + count ≤ length all = h.0.inside in
    let piece : take count buffer ≡ take count (drop (length bytes) all) = h.0.piece in
    let size : length (bytes ++ take count buffer) ≡ length bytes + count = rw piece (omega (arith, length-append {A = ℕ}, length-take {A = ℕ}, length-drop {A = ℕ})) in
    let prefix : bytes ++ take count buffer ≡ take (length bytes + count) all =
    ap (λ (x : List ℕ). x ++ take count buffer) r.prefix ∙ ap (λ (x : List ℕ). take (length bytes) all ++ x) piece ∙ sym (take-add (length bytes) count all) in
    record { all = all; contents = r.contents; at = rw size h.1; inside = rw size inside; prefix = rw size prefix; tally = h.2 ∙ r.tally }

pub reading_ends : (files : Files) (name bytes buffer : List ℕ) (count : ℕ) (cursor cursor' : Option Cursor) (before now now' : Tally)
    → (r : IsReading files name bytes cursor before now) → count ≡ 0 → 0 < length buffer → Reads name r.all (length bytes) (Ok count) buffer cursor' now now'
    → (file files name ≡ Some bytes) × (now' ≡ before)
reading_ends files name bytes buffer count cursor cursor' before now now' r none room h =
    let place : length bytes ≡ length r.all = h.0.ends none room in
    let whole : bytes ≡ r.all = r.prefix ∙ rw place (take-length r.all) in
    (r.contents ∙ ap Some (sym whole), h.2 ∙ r.tally)

pub reading_fails : (files : Files) (name bytes : List ℕ) (cursor : Option Cursor) (before now now' : Tally)
    → IsReading files name bytes cursor before now → IsFaultAt name now now' → FailsAt files name before now'
reading_fails files name bytes cursor before now now' r f =
    inr (rw r.contents refl, subst (λ t. IsFaultAt name t now') r.tally f)

pub reading_is_long : (files : Files) (name bytes buffer : List ℕ) (count limit : ℕ) (cursor cursor' : Option Cursor) (before now now' : Tally)
    → (r : IsReading files name bytes cursor before now) → length bytes ≤ limit → limit - length bytes < count → Reads name r.all (length bytes) (Ok count) buffer cursor' now now'
    → (all : List ℕ) × (file files name ≡ Some all) × (limit < length all) × (now' ≡ before)
reading_is_long files name bytes buffer count limit cursor cursor' before now now' r within more h =
    let inside : length bytes + count ≤ length r.all = h.0.inside in
    (r.all, r.contents, omega arith, h.2 ∙ r.tally)
