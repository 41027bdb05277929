-- Iterations one after another: visits up to a cap, and stencils.
use Rattle.std.proofs.Common.{◌≡◌, ℕ, zero, suc, ◌+◌, ◌-◌, ◌<◌, ◌≤◌, List, [], ◌∷◌, ◌++◌, map, min, length, refl, sym, ap, subst, ◌∙◌, arith}
use Rattle.std.proofs.Common.{Bool, false, true, append_assoc, get_or, inl, inr, lt-ltb}
use Rattle.std.proofs.lemmas.Bool.{cases_Bool}
use Rattle.std.specs.Option.{option_map}
use Rattle.std.proofs.lemmas.Bool.{le-ltb}
use Rattle.std.proofs.lemmas.List.{append-nil, length-map}
use Rattle.std.proofs.lemmas.List.FromFn.{length-range_with_len}
use Rattle.phase_types.specs.Typed.{ComprehensionFits}
use Rattle.std.proofs.lemmas.List.Sums.{sum_by-cons, sum_by-append}
use Rattle.std.specs.List.{range_with_len, sum_by, slice_set}
use Rattle.resolved_code.specs.declared.statements.StatementCode.{StatementCode}
use Rattle.std.specs.Prelude.{Option, Some, None, slice_get, nat_lt, if◌then◌else◌, Result, Ok, Err}
use Rattle.liszt_base.specs.Limits.{entry_limit, visit_limit}
use Rattle.liszt_base.specs.declared.answers.LimitFault.{LimitFault}
use Rattle.liszt_base.specs.declared.answers.LimitWhat.TheVariants.{Visits, Entries}
use Rattle.liszt_base.specs.declared.elements.Kind.{Kind}
use Rattle.liszt_tree.specs.Tree.{Main}
use Rattle.phase_types.specs.Checked.{IsChecked, checked_program}
use Rattle.phase_types.specs.declared.state.CheckedProgram.{CheckedProgram}
use Rattle.phase_types.proofs.CheckedLemmas.{checked_is_typed, checked_parts}
use Rattle.phase_types.proofs.ComprehensionLemmas.{comprehension_stands}
use Rattle.stencil_infer.proofs.CodeComprehensionLemmas.{checked_fits, checked_walk}
use Rattle.liszt_base.specs.declared.accesses.Access.{Access}
use Rattle.stencil_infer.specs.declared.access_set.AccessSet.{AccessSet}
use Rattle.stencil_infer.specs.Internal.AccessSets.{HasGathered, HasOneMode, Holds, IsOrdered, IsOverfull}
use Rattle.stencil_infer.proofs.StencilLemmas.{has_stencil, no_more_accesses, one_mode_at, same_stencil}
use Rattle.liszt_base.specs.MeshLists.{MeshLists}
use Rattle.mesh_topology.specs.Elements.{count}
use Rattle.resolved_code.specs.declared.items.ComprehensionCode.{ComprehensionCode}
use Rattle.topo_operators.specs.Operators.{unflipped}
use Rattle.phase_types.specs.Environments.{Comprehension, comprehension_of}
use Rattle.stencil_infer.specs.Stencils.{AreStencils, StencilLists, IsStencil, entries, inference, iteration_accesses, iteration_visits, past_limit, stencil_of, stencils, visits}
use Rattle.stencil_infer.specs.Internal.CodeAccesses.{Slots, SlotsFit, code_walk}
use Rattle.stencil_infer.specs.Internal.CodeIterations.{FitsSlots, IsCodeOf, within}
use Rattle.stencil_infer.proofs.CountLemmas.{fit_set}

-- THE IDS from one on
abbrev pub from : ℕ → ℕ → List ℕ
from id end = range_with_len id (end - id)

pub one_more : (id end : ℕ) → id < end → from id end ≡ id ∷ from (id + 1) end
one_more id end l = let more : end - id ≡ suc (end - (id + 1)) = omega arith in ap (range_with_len id) more

pub no_more : (id end : ℕ) → end ≤ id → from id end ≡ []
no_more id end l = let none : end - id ≡ 0 = omega arith in ap (range_with_len id) none

pub all_ids : (end : ℕ) → from 0 end ≡ range_with_len 0 (end - 0)
all_ids end = refl

-- VISITS up to a cap
abbrev pub Counted : MeshLists → ComprehensionCode → ℕ → ℕ → ℕ → Type 0
Counted mesh code counted id cap =
    (c : Comprehension) → IsCodeOf mesh c code → min (counted + sum_by (iteration_visits mesh c) (from id (count mesh code.over))) cap ≡ min (visits mesh c) cap

module _ (mesh : MeshLists) (code : ComprehensionCode) (cap : ℕ) where
  pub count_start : Counted mesh code 0 0 cap
  count_start c h = omega (arith, ap (λ over. min (sum_by (iteration_visits mesh c) (from 0 (count mesh over))) cap) (sym h.over))

  pub count_step : (counted now id : ℕ) (slots started : Slots) (codes : List StatementCode) → id < count mesh code.over → length slots ≡ length code.elements
      → started ≡ slice_set slots 0 (Some (unflipped code.over id))
      → codes ≡ code.body → now ≡ min (counted + (code_walk mesh codes started).visits) cap → Counted mesh code counted id cap → Counted mesh code now (id + 1) cap
  count_step counted now id slots started codes l long is body e h c of =
      let this : (code_walk mesh codes started).visits ≡ iteration_visits mesh c id = ap (λ codes. (code_walk mesh codes started).visits) body ∙ ap (λ slots. (code_walk mesh code.body slots).visits) is ∙ of.visits id slots long in
      let rest : sum_by (iteration_visits mesh c) (from id (count mesh code.over)) ≡ iteration_visits mesh c id + sum_by (iteration_visits mesh c) (from (id + 1) (count mesh code.over)) =
      ap (sum_by (iteration_visits mesh c)) (one_more id (count mesh code.over) l)
      ∙ sum_by-cons (iteration_visits mesh c) id (from (id + 1) (count mesh code.over)) in
      omega (arith, e, this, rest, h c of)

  pub count_end : (counted id : ℕ) → count mesh code.over ≤ id → counted ≤ cap → Counted mesh code counted id cap → (c : Comprehension) → IsCodeOf mesh c code → counted ≡ min (visits mesh c) cap
  count_end counted id l few h c of =
      let none : sum_by (iteration_visits mesh c) (from id (count mesh code.over)) ≡ 0 = ap (sum_by (iteration_visits mesh c)) (no_more id (count mesh code.over) l) in
      omega (arith, h c of, few, none)

  pub count_full : (counted id : ℕ) → counted ≡ cap → Counted mesh code counted id cap → (c : Comprehension) → IsCodeOf mesh c code → counted ≡ min (visits mesh c) cap
  count_full counted id full h c of = omega (arith, h c of, full)

-- SLOTS at the start of an iteration
there : {A : Type 0} (xs : List A) (x : A) → slice_get xs 0 ≡ Some x → 0 < length xs
there [] x e = absurd cc
there (y ∷ xs) x e = omega arith

pub has_room : (mesh : MeshLists) (code : ComprehensionCode) (slots : Slots) → FitsSlots code → SlotsFit mesh code.elements slots → 0 < length slots
has_room mesh code slots fits h = omega (arith, h.long, there code.elements code.over fits.first)

pub start_fits : (mesh : MeshLists) (code : ComprehensionCode) (slots started : Slots) (id : ℕ) → FitsSlots code → SlotsFit mesh code.elements slots → id < count mesh code.over
    → started ≡ slice_set slots 0 (Some (unflipped code.over id)) → SlotsFit mesh code.elements started
start_fits mesh code slots started id fits h l is =
    subst (SlotsFit mesh code.elements) (sym is)
    (fit_set mesh code.elements slots 0 (Some (unflipped code.over id)) (there code.elements code.over fits.first) h
    (λ kind at. let same : Some code.over ≡ Some kind = sym fits.first ∙ at in let over : code.over ≡ kind = cc in (over, subst (λ kind. id < count mesh kind) over l)))

-- THE STENCIL of an iteration is what a set has gathered.
abbrev pub stencil_at : MeshLists → Comprehension → ℕ → List Access
stencil_at mesh c id = stencil_of (iteration_accesses mesh c id)

module _ (mesh : MeshLists) (code : ComprehensionCode) (c : Comprehension) (of : IsCodeOf mesh c code) (id : ℕ) where
  set_holds : (slots started later : Slots) (codes : List StatementCode) (s t : AccessSet) → length slots ≡ length code.elements
      → started ≡ slice_set slots 0 (Some (unflipped code.over id)) → codes ≡ code.body → Holds s [] → HasGathered (code_walk mesh codes started) later s t
      → Holds t (iteration_accesses mesh c id)
  set_holds slots started later codes s t long is body empty h =
      let same : (code_walk mesh codes started).accesses ≡ iteration_accesses mesh c id =
      ap (λ codes. (code_walk mesh codes started).accesses) body ∙ ap (λ slots. (code_walk mesh code.body slots).accesses) is ∙ of.accesses id slots long in
      subst (Holds t) same (h.adds.adds [] empty)

  pub is_stencil : (slots started later : Slots) (codes : List StatementCode) (s t : AccessSet) (items : List Access) → length slots ≡ length code.elements
      → started ≡ slice_set slots 0 (Some (unflipped code.over id)) → codes ≡ code.body → Holds s [] → HasGathered (code_walk mesh codes started) later s t
      → ((past : List Access) → Holds t past → HasOneMode past → IsOrdered past items) → items ≡ stencil_at mesh c id
  is_stencil slots started later codes s t items long is body empty h ordered =
      let xs : List Access = iteration_accesses mesh c id in
      let o : IsOrdered xs items = ordered xs (set_holds slots started later codes s t long is body empty h) (one_mode_at mesh c id of.typed) in
      same_stencil mesh c id (stencil_of xs) items (has_stencil mesh c id of.typed)
      (record { ascending = o.ascending; has_all = o.members.has_all; has_no_other = o.members.has_no_other })

  pub is_overfull : (slots started later : Slots) (codes : List StatementCode) (s t : AccessSet) → length slots ≡ length code.elements
      → started ≡ slice_set slots 0 (Some (unflipped code.over id)) → codes ≡ code.body → Holds s [] → HasGathered (code_walk mesh codes started) later s t
      → ((past : List Access) → Holds t past → HasOneMode past → IsOverfull past) → entry_limit < length (stencil_at mesh c id)
  is_overfull slots started later codes s t long is body empty h overfull =
      let xs : List Access = iteration_accesses mesh c id in
      let o : IsOverfull xs = overfull xs (set_holds slots started later codes s t long is body empty h) (one_mode_at mesh c id of.typed) in
      omega (arith, o.many, no_more_accesses mesh c id o.some of.typed o.ascending o.within)

-- STENCILS one after another
abbrev pub Gathered : MeshLists → ComprehensionCode → List (List Access) → ℕ → Type 0
Gathered mesh code lists id =
    (c : Comprehension) → IsCodeOf mesh c code → lists ++ map (stencil_at mesh c) (from id (count mesh code.over)) ≡ stencils mesh c

module _ (mesh : MeshLists) (code : ComprehensionCode) where
  pub gather_start : Gathered mesh code [] 0
  gather_start c of = ap (λ over. map (stencil_at mesh c) (from 0 (count mesh over))) (sym of.over)

  with_next : (c : Comprehension) (lists : List (List Access)) (id : ℕ) → id < count mesh code.over
      → lists ++ map (stencil_at mesh c) (from id (count mesh code.over)) ≡ lists ++ stencil_at mesh c id ∷ map (stencil_at mesh c) (from (id + 1) (count mesh code.over))
  with_next c lists id l = ap (λ ids. lists ++ map (stencil_at mesh c) ids) (one_more id (count mesh code.over) l)

  pub gather_step : (lists later : List (List Access)) (items : List Access) (id : ℕ) → id < count mesh code.over → later ≡ lists ++ items ∷ []
      → ((c : Comprehension) → IsCodeOf mesh c code → items ≡ stencil_at mesh c id) → Gathered mesh code lists id → Gathered mesh code later (id + 1)
  gather_step lists later items id l is stencil h c of =
      let rest : List (List Access) = map (stencil_at mesh c) (from (id + 1) (count mesh code.over)) in
      ap (λ lists. lists ++ rest) is ∙ append_assoc lists (items ∷ []) rest ∙ ap (λ items. lists ++ items ∷ rest) (stencil c of) ∙ sym (with_next c lists id l) ∙ h c of

  pub gather_end : (limit room id : ℕ) (lists : List (List Access)) → count mesh code.over ≤ id → entries lists + room ≡ limit → Gathered mesh code lists id
      → (c : Comprehension) → IsCodeOf mesh c code → Some lists ≡ within limit (stencils mesh c)
  gather_end limit room id lists l few h c of =
      let all : lists ≡ stencils mesh c =
      sym (append-nil lists) ∙ ap (λ ids. lists ++ map (stencil_at mesh c) ids) (sym (no_more id (count mesh code.over) l)) ∙ h c of in
      let fits : nat_lt limit (entries lists) ≡ false = le-ltb limit (entries lists) (omega (arith, few)) in
      sym (ap (λ b. if◌then◌else◌ {A = Option (List (List Access))} b None (Some lists)) fits) ∙ ap (within limit) all

  pub gather_full : (limit room id : ℕ) (lists : List (List Access)) → id < count mesh code.over → entries lists + room ≡ limit → Gathered mesh code lists id
      → ((c : Comprehension) → IsCodeOf mesh c code → room < length (stencil_at mesh c id)) → (c : Comprehension) → IsCodeOf mesh c code → None ≡ within limit (stencils mesh c)
  gather_full limit room id lists l few h more c of =
      let rest : List (List Access) = map (stencil_at mesh c) (from (id + 1) (count mesh code.over)) in
      let all : lists ++ stencil_at mesh c id ∷ rest ≡ stencils mesh c = sym (with_next c lists id l) ∙ h c of in
      let size : entries (stencils mesh c) ≡ entries lists + (length (stencil_at mesh c id) + entries rest) =
      sym (ap entries all) ∙ sum_by-append (λ list. length list) lists (stencil_at mesh c id ∷ rest)
      ∙ ap (λ n. entries lists + n) (sum_by-cons (λ list. length list) (stencil_at mesh c id) rest) in
      let past : nat_lt limit (entries (stencils mesh c)) ≡ true = lt-ltb limit (entries (stencils mesh c)) (omega (arith, few, more c of, size)) in
      sym (ap (λ b. if◌then◌else◌ {A = Option (List (List Access))} b None (Some (stencils mesh c))) past)

pub entries_step : (lists later : List (List Access)) (items : List Access) (room now limit : ℕ) → later ≡ lists ++ items ∷ [] → entries lists + room ≡ limit → length items ≤ room
    → now ≡ room - length items → entries later + now ≡ limit
entries_step lists later items room now limit is few fits now_is =
    let size : entries later ≡ entries lists + (length items + 0) =
    ap entries is ∙ sum_by-append (λ list. length list) lists (items ∷ []) ∙ ap (λ n. entries lists + n) (sum_by-cons (λ list. length list) items []) in
    omega (arith, few, fits, now_is, size)

-- THE CODE of a comprehension of a checked program
item_at : {A : Type 0} (xs : List A) (k : ℕ) (x : A) → k < length xs → x ≡ get_or xs k x → slice_get xs k ≡ Some x
item_at [] k x l e = absurd (omega (arith, l))
item_at (y ∷ xs) zero x l e = ap Some (sym e)
item_at (y ∷ xs) (suc k) x l e = item_at xs k x (omega (arith, l)) e

pub at_index : {A : Type 0} (xs used : List A) (k : ℕ) (x : A) → k < length xs → used ≡ xs → x ≡ get_or used k x → slice_get xs k ≡ Some x
at_index xs used k x l same e = item_at xs k x l (e ∙ ap (λ xs. get_or xs k x) same)

pub fits_slots : (checked : CheckedProgram) (k : ℕ) (code : ComprehensionCode) → IsChecked checked → slice_get checked.comprehensions k ≡ Some code → FitsSlots code
fits_slots checked k code is at =
    let fit = checked_fits is.program checked k code is.is at in record { body = fit.fits; first = fit.first }

same_kind : (kind other : Kind) → Some kind ≡ Some other → kind ≡ other
same_kind kind other e = cc

pub is_code : (mesh : MeshLists) (program : Main) (checked : CheckedProgram) (k : ℕ) (code : ComprehensionCode) (c : Comprehension) → checked_program program ≡ Ok checked
    → slice_get checked.comprehensions k ≡ Some code → comprehension_of program k ≡ Some c → IsCodeOf mesh c code
is_code mesh program checked k code c is at of =
    let over : c.over ≡ code.over =
    same_kind c.over code.over
    (sym (ap (option_map (λ (c : Comprehension). c.over)) of) ∙ sym ((checked_parts program checked is).kinds k) ∙ ap (option_map (λ (c : ComprehensionCode). c.over)) at) in
    record {
      typed = (comprehension_stands program (checked_is_typed program checked is) k c of).fits;
      over = over;
      accesses = λ id slots long. ap (λ kind. (code_walk mesh code.body (slice_set slots 0 (Some (unflipped kind id)))).accesses) (sym over)
          ∙ (checked_walk program checked k code c is at of mesh id slots long).accesses;
      visits = λ id slots long. ap (λ kind. (code_walk mesh code.body (slice_set slots 0 (Some (unflipped kind id)))).visits) (sym over)
          ∙ (checked_walk program checked k code c is at of mesh id slots long).visits;
    }

-- THE RESULT
abbrev choice : Bool → Result StencilLists LimitFault → Result StencilLists LimitFault → Result StencilLists LimitFault
choice test past rest = if◌then◌else◌ {A = Result StencilLists LimitFault} test past rest

abbrev as_result : StencilLists → Result StencilLists LimitFault
as_result value = Ok value

module _ (mesh : MeshLists) (c : Comprehension) (k : ℕ) where
  abbrev visits_fault : Result StencilLists LimitFault
  visits_fault = Err (past_limit (Visits k) visit_limit)

  abbrev entries_fault : Result StencilLists LimitFault
  entries_fault = Err (past_limit (Entries k) entry_limit)

  abbrev lists_and_visits : Result StencilLists LimitFault
  lists_and_visits = Ok (record { lists = stencils mesh c; visits = visits mesh c })

  pub gives_visits : visit_limit < visits mesh c → inference mesh c k ≡ Err (past_limit (Visits k) visit_limit)
  gives_visits l =
      ap (λ test. choice test visits_fault (choice (nat_lt entry_limit (entries (stencils mesh c))) entries_fault lists_and_visits)) (lt-ltb visit_limit (visits mesh c) l)

  few_visits : visits mesh c ≤ visit_limit → inference mesh c k ≡ choice (nat_lt entry_limit (entries (stencils mesh c))) entries_fault lists_and_visits
  few_visits l =
      ap (λ test. choice test visits_fault (choice (nat_lt entry_limit (entries (stencils mesh c))) entries_fault lists_and_visits)) (le-ltb visit_limit (visits mesh c) l)

  is_past : None ≡ within entry_limit (stencils mesh c) → nat_lt entry_limit (entries (stencils mesh c)) ≡ true
  is_past e = elim (cases_Bool (nat_lt entry_limit (entries (stencils mesh c)))) [
    | inl past ↦ past
    | inr fits ↦ (let some : None ≡ Some (stencils mesh c) = e ∙ ap (λ test. if◌then◌else◌ {A = Option (List (List Access))} test None (Some (stencils mesh c))) fits in absurd cc)
  ]

  are_within : (lists : List (List Access)) → Some lists ≡ within entry_limit (stencils mesh c) → (nat_lt entry_limit (entries (stencils mesh c)) ≡ false) × (lists ≡ stencils mesh c)
  are_within lists e = elim (cases_Bool (nat_lt entry_limit (entries (stencils mesh c)))) [
    | inl past ↦ (let none : Some lists ≡ None = e ∙ ap (λ test. if◌then◌else◌ {A = Option (List (List Access))} test None (Some (stencils mesh c))) past in absurd cc)
    | inr fits ↦ (let some : Some lists ≡ Some (stencils mesh c) = e ∙ ap (λ test. if◌then◌else◌ {A = Option (List (List Access))} test None (Some (stencils mesh c))) fits in (fits, cc))
  ]

  pub gives_entries : visits mesh c ≤ visit_limit → None ≡ within entry_limit (stencils mesh c) → inference mesh c k ≡ Err (past_limit (Entries k) entry_limit)
  gives_entries l e = few_visits l ∙ ap (λ test. choice test entries_fault lists_and_visits) (is_past e)

  pub gives_lists : (lists : List (List Access)) (n : ℕ) → visits mesh c ≤ visit_limit → n ≡ visits mesh c → Some lists ≡ within entry_limit (stencils mesh c)
      → inference mesh c k ≡ Ok (record { lists = lists; visits = n })
  gives_lists lists n l is e =
      let w = are_within lists e in
      let ends : lists_and_visits ≡ Ok (record { lists = lists; visits = n }) =
      ap (λ lists. as_result (record { lists = lists; visits = visits mesh c })) (sym w.1) ∙ ap (λ n. as_result (record { lists = lists; visits = n })) (sym is) in
      few_visits l ∙ ap (λ test. choice test entries_fault lists_and_visits) w.0 ∙ ends

-- THE LISTS of a result are the stencils.
same_result : (a b : StencilLists) → as_result a ≡ as_result b → a ≡ b
same_result a b e = cc

lists_of : (mesh : MeshLists) (c : Comprehension) (k : ℕ) (result : StencilLists) → inference mesh c k ≡ Ok result → result.lists ≡ stencils mesh c
lists_of mesh c k result e = elim (cases_Bool (nat_lt visit_limit (visits mesh c))) [
  | inl many ↦
      let fault : Err (past_limit (Visits k) visit_limit) ≡ Ok result =
      sym (ap (λ test. choice test (visits_fault mesh c k) (choice (nat_lt entry_limit (entries (stencils mesh c))) (entries_fault mesh c k) (lists_and_visits mesh c k))) many) ∙ e in
      absurd cc
  | inr few ↦
      let rest : choice (nat_lt entry_limit (entries (stencils mesh c))) (entries_fault mesh c k) (lists_and_visits mesh c k) ≡ Ok result =
      sym (ap (λ test. choice test (visits_fault mesh c k) (choice (nat_lt entry_limit (entries (stencils mesh c))) (entries_fault mesh c k) (lists_and_visits mesh c k))) few) ∙ e in
      elim (cases_Bool (nat_lt entry_limit (entries (stencils mesh c)))) [
        | inl past ↦
            let fault : Err (past_limit (Entries k) entry_limit) ≡ Ok result =
            sym (ap (λ test. choice test (entries_fault mesh c k) (lists_and_visits mesh c k)) past) ∙ rest in absurd cc
        | inr fits ↦
            let is : as_result (record { lists = stencils mesh c; visits = visits mesh c }) ≡ as_result result =
            sym (ap (λ test. choice test (entries_fault mesh c k) (lists_and_visits mesh c k)) fits) ∙ rest in
            sym (ap (λ (value : StencilLists). value.lists) (same_result (record { lists = stencils mesh c; visits = visits mesh c }) result is))
      ]
]

same_list : (xs ys : List Access) → Some xs ≡ Some ys → xs ≡ ys
same_list xs ys e = cc

at_id : (f : ℕ → List Access) (first size id : ℕ) (list : List Access) → slice_get (map f (range_with_len first size)) id ≡ Some list → f (first + id) ≡ list
at_id f first zero id list e = absurd cc
at_id f first (suc size) zero list e = let at : first + 0 ≡ first = omega arith in ap f at ∙ same_list (f first) list e
at_id f first (suc size) (suc id) list e = let at : first + suc id ≡ first + 1 + id = omega arith in ap f at ∙ at_id f (first + 1) size id list e

pub lists_are_stencils : (mesh : MeshLists) (c : Comprehension) (k : ℕ) (result : StencilLists) → ComprehensionFits c → inference mesh c k ≡ Ok result → AreStencils mesh c result.lists
lists_are_stencils mesh c k result fits e =
    let is = lists_of mesh c k result e in
    let ids : List ℕ = range_with_len 0 (count mesh c.over - 0) in
    record {
      one_each = ap length is ∙ length-map ids (stencil_at mesh c) ∙ length-range_with_len 0 (count mesh c.over - 0) ∙ omega arith;
      each = λ id stencil at.
          let here : stencil_at mesh c (0 + id) ≡ stencil = at_id (stencil_at mesh c) 0 (count mesh c.over - 0) id stencil (sym (ap (λ lists. slice_get lists id) is) ∙ at) in
          let same : 0 + id ≡ id = omega arith in
          subst (IsStencil mesh c id) (sym (ap (stencil_at mesh c) same) ∙ here) (has_stencil mesh c id fits);
    }
