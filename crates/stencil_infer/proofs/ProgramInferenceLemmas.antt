-- Comprehensions one after another: their stencils, up to a limit of what is kept.
use Rattle.std.proofs.Common.{◌≡◌, ℕ, zero, suc, ◌+◌, ◌-◌, ◌<◌, ◌≤◌, List, [], ◌∷◌, ◌++◌, length, drop, Bool, Option, Some, None, Result, Ok, Err, refl, sym, ap, ◌∙◌, arith, nat_lt, if◌then◌else◌, true, false, inl, inr, lt-ltb}
use Rattle.std.proofs.lemmas.Bool.{cases_Bool, le-ltb, ltb-false, ltb-true}
use Rattle.std.proofs.lemmas.List.Sums.{sum_by-cons}
use Rattle.std.proofs.Math.ListN.{drop_of_length-le}
use Rattle.std.specs.Prelude.{slice_get}
use Rattle.liszt_base.specs.Gives.{Gives}
use Rattle.liszt_base.specs.Limits.{kept_limit}
use Rattle.liszt_base.specs.MeshLists.{MeshLists}
use Rattle.liszt_base.specs.declared.accesses.Access.{Access}
use Rattle.liszt_base.specs.declared.answers.LimitFault.{LimitFault}
use Rattle.liszt_base.specs.declared.answers.LimitWhat.TheVariants.{Kept}
use Rattle.liszt_base.specs.declared.answers.Refused.{Refused}
use Rattle.liszt_base.specs.declared.answers.Refused.TheVariants.{Fault, NoMemory as OutOfMemory}
use Rattle.liszt_tree.specs.Tree.{Main}
use Rattle.phase_types.specs.Checked.{checked_program}
use Rattle.phase_types.specs.declared.state.CheckedProgram.{CheckedProgram}
use Rattle.phase_types.specs.Environments.{Comprehension, comprehension_of, comprehensions_of}
use Rattle.phase_types.proofs.CheckedLemmas.{checked_parts}
use Rattle.stencil_infer.specs.Stencils.{StencilLists, ◌>>=◌, entries, inference, inferences_from, kept_after, past_limit, program_inference}

-- WHAT REMAINS of a list at an index
remaining_at : {A : Type 0} (list : List A) (k : ℕ) (item : A) → slice_get list k ≡ Some item → drop k list ≡ item ∷ drop (k + 1) list
remaining_at [] k item at = absurd cc
remaining_at (first ∷ list) zero item at = let same : first ≡ item = same_item first item at in ap (λ first. first ∷ list) same where
  same_item : {A : Type 0} (first item : A) → Some first ≡ Some item → first ≡ item
  same_item first item e = cc
remaining_at (first ∷ list) (suc k) item at =
    let next : suc (k + 1) ≡ suc k + 1 = omega arith in remaining_at list k item at ∙ ap (λ n. item ∷ drop n (first ∷ list)) next

item_at : {A : Type 0} (list : List A) (k : ℕ) → k < length list → (item : A) × (slice_get list k ≡ Some item)
item_at [] k below = absurd (omega (arith, below))
item_at (first ∷ list) zero below = (first, refl)
item_at (first ∷ list) (suc k) below = item_at list k (omega (arith, below))

-- THE ROOM that is left after lists
abbrev pub HasLeft : List (List Access) → ℕ → ℕ → ℕ → Type 0
HasLeft lists room left id = room + entries (drop id lists) ≡ left + entries lists

abbrev pub room_left : List (List Access) → ℕ → Option ℕ
room_left lists room = if nat_lt room (entries lists) then None else Some (room - entries lists)

module _ (lists : List (List Access)) (room left id : ℕ) (so_far : HasLeft lists room left id) where
  entries_at : (list : List Access) → slice_get lists id ≡ Some list → entries (drop id lists) ≡ length list + entries (drop (id + 1) lists)
  entries_at list at = ap entries (remaining_at lists id list at) ∙ sum_by-cons (λ list. length list) list (drop (id + 1) lists)

  pub no_room : (list : List Access) → slice_get lists id ≡ Some list → left < length list → None ≡ room_left lists room
  no_room list at more =
      let past : nat_lt room (entries lists) ≡ true = lt-ltb room (entries lists) (omega (arith, so_far, entries_at list at, more)) in
      sym (ap (λ test. if◌then◌else◌ {A = Option ℕ} test None (Some (room - entries lists))) past)

  pub less_room : (list : List Access) → slice_get lists id ≡ Some list → length list ≤ left → HasLeft lists room (left - length list) (id + 1)
  less_room list at fits = omega (arith, so_far, entries_at list at, fits)

  pub has_room : length lists ≤ id → Some left ≡ room_left lists room
  has_room end =
      let none : entries (drop id lists) ≡ 0 = ap entries (drop_of_length-le lists end) in
      let within : nat_lt room (entries lists) ≡ false = le-ltb room (entries lists) (omega (arith, so_far, none)) in
      let rest : left ≡ room - entries lists = omega (arith, so_far, none) in
      ap Some rest ∙ sym (ap (λ test. if◌then◌else◌ {A = Option ℕ} test None (Some (room - entries lists))) within)

is_past : (lists : List (List Access)) (room : ℕ) → None ≡ room_left lists room → room < entries lists
is_past lists room e = elim (cases_Bool (nat_lt room (entries lists))) [
  | inl past ↦ ltb-true room (entries lists) past
  | inr fits ↦
      (let some : None ≡ Some (room - entries lists) = e ∙ ap (λ test. if◌then◌else◌ {A = Option ℕ} test None (Some (room - entries lists))) fits in absurd cc)
]

is_within : (lists : List (List Access)) (room left : ℕ) → Some left ≡ room_left lists room → (entries lists ≤ room) × (left ≡ room - entries lists)
is_within lists room left e = elim (cases_Bool (nat_lt room (entries lists))) [
  | inl past ↦
      (let none : Some left ≡ None = e ∙ ap (λ test. if◌then◌else◌ {A = Option ℕ} test None (Some (room - entries lists))) past in absurd cc)
  | inr fits ↦
      (let some : Some left ≡ Some (room - entries lists) = e ∙ ap (λ test. if◌then◌else◌ {A = Option ℕ} test None (Some (room - entries lists))) fits in
      (ltb-false room (entries lists) fits, cc))
]

-- the results of earlier comprehensions before those of later ones
abbrev with_first : StencilLists → Result (List StencilLists) LimitFault → Result (List StencilLists) LimitFault
with_first s result = result >>= λ later. Ok (s ∷ later)

abbrev pub with_all : List StencilLists → Result (List StencilLists) LimitFault → Result (List StencilLists) LimitFault
with_all [] result = result
with_all (s ∷ earlier) result = with_first s (with_all earlier result)

with_one_more : (earlier : List StencilLists) (s : StencilLists) (result : Result (List StencilLists) LimitFault)
    → with_all (earlier ++ s ∷ []) result ≡ with_all earlier (with_first s result)
with_one_more [] s result = refl
with_one_more (first ∷ earlier) s result = ap (with_first first) (with_one_more earlier s result)

with_none : (all : List StencilLists) → with_all all (Ok []) ≡ Ok all
with_none [] = refl
with_none (first ∷ all) = ap (with_first first) (with_none all)

with_fault : (earlier : List StencilLists) (fault : LimitFault) → with_all earlier (Err fault) ≡ Err fault
with_fault [] fault = refl
with_fault (first ∷ earlier) fault = ap (with_first first) (with_fault earlier fault)

-- the steps of an inference: what follows a comprehension's stencils, and what follows their count
abbrev after_kept : MeshLists → ℕ → List Comprehension → StencilLists → Result ℕ LimitFault → Result (List StencilLists) LimitFault
after_kept mesh k rest s kept = kept >>= λ kept_now. inferences_from mesh (k + 1) kept_now rest >>= λ later. Ok (s ∷ later)

abbrev after_inference : MeshLists → ℕ → ℕ → List Comprehension → Result StencilLists LimitFault → Result (List StencilLists) LimitFault
after_inference mesh k kept rest inferred = inferred >>= λ s. after_kept mesh k rest s (kept_after k kept s)

-- WHAT IS INFERRED so far, and what remains with the room that is left
abbrev pub IsInferred : MeshLists → CheckedProgram → ℕ → ℕ → List StencilLists → Type 0
IsInferred mesh checked k room all =
    (program : Main) → checked_program program ≡ Ok checked
    → program_inference mesh program ≡ with_all all (inferences_from mesh k (kept_limit - room) (drop k (comprehensions_of program)))

-- the contract of one inference, and that of all
abbrev pub GivesOne : MeshLists → CheckedProgram → ℕ → Result StencilLists (Refused LimitFault) → Type 0
GivesOne mesh checked k result =
    (program : Main) (c : Comprehension) → checked_program program ≡ Ok checked → comprehension_of program k ≡ Some c → Gives (inference mesh c k) result

abbrev pub GivesAll : MeshLists → CheckedProgram → Result (List StencilLists) (Refused LimitFault) → Type 0
GivesAll mesh checked result = (program : Main) → checked_program program ≡ Ok checked → Gives (program_inference mesh program) result

module _ (mesh : MeshLists) (checked : CheckedProgram) (k room : ℕ) (all : List StencilLists) (so_far : IsInferred mesh checked k room all) where
  pub gives_all : length checked.comprehensions ≤ k → GivesAll mesh checked (Ok all)
  gives_all end program is =
      let parts = checked_parts program checked is in
      so_far program is
      ∙ ap (λ rest. with_all all (inferences_from mesh k (kept_limit - room) rest)) (drop_of_length-le (comprehensions_of program) (omega (arith, end, parts.comprehensions)))
      ∙ with_none all

  module _ (below : k < length checked.comprehensions) where
    at_k : (program : Main) → checked_program program ≡ Ok checked → (c : Comprehension) × (comprehension_of program k ≡ Some c)
    at_k program is = let parts = checked_parts program checked is in item_at (comprehensions_of program) k (omega (arith, below, parts.comprehensions))

    continues : (program : Main) → checked_program program ≡ Ok checked → (c : Comprehension) → comprehension_of program k ≡ Some c → (result : Result StencilLists LimitFault)
        → inference mesh c k ≡ result
        → program_inference mesh program ≡ with_all all (after_inference mesh k (kept_limit - room) (drop (k + 1) (comprehensions_of program)) result)
    continues program is c at result infers =
        so_far program is
        ∙ ap (λ rest. with_all all (inferences_from mesh k (kept_limit - room) rest)) (remaining_at (comprehensions_of program) k c at)
        ∙ ap (λ inferred. with_all all (after_inference mesh k (kept_limit - room) (drop (k + 1) (comprehensions_of program)) inferred)) infers

    pub gives_fault : (refused : Refused LimitFault) → GivesOne mesh checked k (Err refused) → GivesAll mesh checked (Err refused)
    gives_fault (Fault fault) infers program is =
        let c = at_k program is in continues program is c.0 c.1 (Err fault) (infers program c.0 is c.1) ∙ with_fault all fault
    gives_fault OutOfMemory infers program is = tt

    module _ (s : StencilLists) (infers : GivesOne mesh checked k (Ok s)) (within : room ≤ kept_limit) where
      keeps : (program : Main) → checked_program program ≡ Ok checked → (kept : Result ℕ LimitFault) → kept_after k (kept_limit - room) s ≡ kept
          → program_inference mesh program ≡ with_all all (after_kept mesh k (drop (k + 1) (comprehensions_of program)) s kept)
      keeps program is kept after =
          let c = at_k program is in
          continues program is c.0 c.1 (Ok s) (infers program c.0 is c.1)
          ∙ ap (λ kept. with_all all (after_kept mesh k (drop (k + 1) (comprehensions_of program)) s kept)) after

      abbrev kept_by : Bool → Result ℕ LimitFault
      kept_by test = if◌then◌else◌ {A = Result ℕ LimitFault} test (Err (past_limit (Kept k) kept_limit)) (Ok (kept_limit - room + entries s.lists))

      pub gives_kept : None ≡ room_left s.lists room → GivesAll mesh checked (Err (Fault (past_limit (Kept k) kept_limit)))
      gives_kept none program is =
          let many = is_past s.lists room none in
          let past : nat_lt kept_limit (kept_limit - room + entries s.lists) ≡ true =
          lt-ltb kept_limit (kept_limit - room + entries s.lists) (omega (arith, many, within)) in
          keeps program is (Err (past_limit (Kept k) kept_limit)) (ap kept_by past) ∙ with_fault all (past_limit (Kept k) kept_limit)

      pub one_more : (left : ℕ) → Some left ≡ room_left s.lists room → (left ≤ kept_limit) × IsInferred mesh checked (k + 1) left (all ++ s ∷ [])
      one_more left some =
          let few = is_within s.lists room left some in
          let fits : nat_lt kept_limit (kept_limit - room + entries s.lists) ≡ false =
          le-ltb kept_limit (kept_limit - room + entries s.lists) (omega (arith, few.0, within)) in
          let now : kept_limit - room + entries s.lists ≡ kept_limit - left = omega (arith, few.0, few.1, within) in (
            omega (arith, few.1, within),
            λ program is.
                keeps program is (Ok (kept_limit - left)) (ap kept_by fits ∙ ap Ok now)
                ∙ sym (with_one_more all s (inferences_from mesh (k + 1) (kept_limit - left) (drop (k + 1) (comprehensions_of program)))),
          )
