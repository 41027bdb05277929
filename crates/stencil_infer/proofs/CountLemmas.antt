-- Visits that are counted up to a cap, with the slots as after the walk unless the cap is reached.
use Rattle.std.proofs.Common.{◌≡◌, ℕ, zero, suc, ◌+◌, ◌≤◌, ◌<◌, ◌&&◌, Bool, true, List, [], ◌∷◌, map, min, length, drop, get_or, refl, sym, ap, subst, ◌∙◌, inl, inr, arith}
use Rattle.std.proofs.lemmas.Bool.{and_parts}
use Rattle.std.proofs.lemmas.Bool.Decides.{leb_tells, eqb_tells}
use Rattle.std.proofs.lemmas.List.{drop_more, length-set}
use Rattle.std.proofs.Math.ListN.{drop_of_length-le}
use Rattle.std.specs.Prelude.{Option, Some, None, slice_get}
use Rattle.std.specs.List.{AllByRecursion, slice_set}
use Rattle.liszt_base.specs.Corners.{IsMesh}
use Rattle.liszt_base.specs.Kinds.{has_set, kind_of as kind_of_set}
use Rattle.liszt_base.specs.MeshLists.{MeshLists}
use Rattle.liszt_base.specs.declared.answers.Place.{Place}
use Rattle.liszt_base.specs.declared.elements.SetName.{SetName}
use Rattle.liszt_base.specs.declared.elements.Elem.{Elem}
use Rattle.liszt_base.specs.declared.elements.Kind.{Kind}
use Rattle.mesh_topology.specs.Elements.{corner_lists, count}
use Rattle.resolved_code.specs.declared.expressions.ElementCode.{ElementCode}
use Rattle.resolved_code.specs.declared.statements.StatementCode.{StatementCode}
use Rattle.resolved_code.specs.declared.statements.StatementCode.TheVariants as code
use Rattle.topo_operators.specs.Operators.{members}
use Rattle.topo_operators.proofs.ResultLemmas.{members_of}
use Rattle.stencil_infer.proofs.FitClauseLemmas.{fits_statement_val, fits_statement_for}
use Rattle.stencil_infer.proofs.VisitLemmas.{greatest}
use Rattle.topo_operators.specs.Operands.{IsElement, IsNilOrElement}
use Rattle.stencil_infer.specs.Internal.CodeAccesses.{Slots, in_slot, Walk, and_then, code_walk, members_walk, statement_walk, are_same_kind, may_have_set, kind_of, FitsSlot, SlotsFit, all_fit, statement_fits, code_fits}
use Rattle.phase_types.proofs.TypeLemmas.{kinds_are}
use Rattle.stencil_infer.proofs.CodeStatementLemmas.{set_slot, set_other}

-- the count and the slots so far, and the rest of a walk with a whole count and last slots
pub record Counts (cap visits : ℕ) (slots : Slots) (rest : Slots → Walk) (whole : ℕ) (last : Slots) : Type 0 where
  pub visits_are : min (visits + (rest slots).visits) cap ≡ min whole cap
  pub slots_are : min whole cap < cap → (rest slots).slots ≡ last

pub counts_start : (cap visits : ℕ) (slots : Slots) (walk : Slots → Walk) → Counts cap visits slots walk (visits + (walk slots).visits) (walk slots).slots
counts_start cap visits slots walk = record { visits_are = refl; slots_are = λ l. refl }

pub counts_step : (cap visits now : ℕ) (slots later : Slots) (first next : Slots → Walk) (whole : ℕ) (last : Slots) → Counts cap visits slots (λ slots. and_then (first slots) next) whole last
    → now ≡ min (visits + (first slots).visits) cap → (now < cap → later ≡ (first slots).slots) → Counts cap now later next whole last
counts_step cap visits now slots later first next whole last h is same = elim (leb_tells cap now) [
  | inl reached ↦ record { visits_are = omega (arith, reached.1, is, h.visits_are); slots_are = λ l. absurd (omega (arith, reached.1, is, h.visits_are, l)) }
  | inr below ↦
      let there : later ≡ (first slots).slots = same below.1 in
      let visits_there : (next later).visits ≡ (next (first slots).slots).visits = ap (λ slots. (next slots).visits) there in
      record { visits_are = omega (arith, below.1, is, visits_there, h.visits_are); slots_are = λ l. ap (λ slots. (next slots).slots) there ∙ h.slots_are l }
]

pub counts_end : (cap visits : ℕ) (slots : Slots) (rest : Slots → Walk) (whole : ℕ) (last : Slots) → Counts cap visits slots rest whole last → (rest slots).visits ≡ 0 → visits ≤ cap
    → visits ≡ min whole cap
counts_end cap visits slots rest whole last h none few = omega (arith, h.visits_are, none, few)

pub counts_cap : (cap visits : ℕ) (slots : Slots) (rest : Slots → Walk) (whole : ℕ) (last : Slots) → Counts cap visits slots rest whole last → cap ≤ visits → visits ≤ cap
    → visits ≡ min whole cap
counts_cap cap visits slots rest whole last h more few = omega (arith, h.visits_are, more, few)

-- statements
pub fit_of_each : {A : Type 0} (f : A → Bool) (xs : List A) (i : ℕ) (x : A) → all_fit (map f xs) ≡ true → i < length xs → x ≡ get_or xs i x → f x ≡ true
fit_of_each f [] i x h l e = absurd (omega (arith, l))
fit_of_each f (y ∷ xs) zero x h l e = ap f e ∙ (and_parts (f y) (all_fit (map f xs)) h).0
fit_of_each f (y ∷ xs) (suc i) x h l e = fit_of_each f xs i x (and_parts (f y) (all_fit (map f xs)) h).1 (omega (arith, l)) e

pub body_step : (mesh : MeshLists) (codes : List StatementCode) (i : ℕ) (code : StatementCode) (cap visits now : ℕ) (slots later : Slots) (whole : ℕ) (last : Slots)
    → i < length codes → code ≡ get_or codes i code → Counts cap visits slots (code_walk mesh (drop i codes)) whole last
    → now ≡ min (visits + (statement_walk mesh code slots).visits) cap → (now < cap → later ≡ (statement_walk mesh code slots).slots)
    → Counts cap now later (code_walk mesh (drop (i + 1) codes)) whole last
body_step mesh codes i code cap visits now slots later whole last l here h is same =
    let parted : drop i codes ≡ code ∷ drop (i + 1) codes = drop_more codes i code l ∙ ap (λ x. x ∷ drop (i + 1) codes) (sym here) in
    let started : Counts cap visits slots (code_walk mesh (code ∷ drop (i + 1) codes)) whole last =
    subst (λ codes. Counts cap visits slots (code_walk mesh codes) whole last) parted h in
    counts_step cap visits now slots later (statement_walk mesh code) (code_walk mesh (drop (i + 1) codes)) whole last
    (record { visits_are = started.visits_are; slots_are = started.slots_are }) is same

pub body_ends : (mesh : MeshLists) (codes : List StatementCode) (i cap visits : ℕ) (slots : Slots) (whole : ℕ) (last : Slots) → length codes ≤ i
    → Counts cap visits slots (code_walk mesh (drop i codes)) whole last → Counts cap visits slots (code_walk mesh []) whole last
body_ends mesh codes i cap visits slots whole last l h = subst (λ codes. Counts cap visits slots (code_walk mesh codes) whole last) (drop_of_length-le codes l) h

-- slots that are set
pub fit_set : (mesh : MeshLists) (kinds : List Kind) (slots : Slots) (slot : ℕ) (x : Option Elem) → slot < length kinds → SlotsFit mesh kinds slots
    → ((kind : Kind) → slice_get kinds slot ≡ Some kind → IsNilOrElement mesh kind x) → SlotsFit mesh kinds (slice_set slots slot x)
fit_set mesh kinds slots slot x l h g = record {
  long = length-set slots slot x ∙ h.long;
  each = λ other kind is. elim (eqb_tells other slot) [
    | inl same ↦ subst (IsNilOrElement mesh kind) (sym (ap (in_slot (slice_set slots slot x)) same.1 ∙ set_slot slots slot x (omega (arith, l, h.long))))
        (g kind (ap (slice_get kinds) (sym same.1) ∙ is))
    | inr apart ↦ subst (IsNilOrElement mesh kind) (sym (set_other slots slot other x apart.1)) (h.each other kind is)
  ];
}

-- members
pub members_step : (mesh : MeshLists) (codes : List StatementCode) (slot : ℕ) (member : Elem) (over xs : List Elem) (cap visits now : ℕ) (slots later : Slots) (whole : ℕ) (last : Slots)
    → over ≡ member ∷ xs → Counts cap visits slots (members_walk slot (code_walk mesh codes) over) whole last
    → now ≡ min (visits + 1 + (code_walk mesh codes (slice_set slots slot (Some member))).visits) cap
    → (now < cap → later ≡ (code_walk mesh codes (slice_set slots slot (Some member))).slots) → Counts cap now later (members_walk slot (code_walk mesh codes) xs) whole last
members_step mesh codes slot member over xs cap visits now slots later whole last is h e same =
    let started : Counts cap visits slots (members_walk slot (code_walk mesh codes) (member ∷ xs)) whole last =
    subst (λ over. Counts cap visits slots (members_walk slot (code_walk mesh codes) over) whole last) is h in
    counts_step cap visits now slots later (λ slots. and_then (record { accesses = []; visits = 1; slots = slice_set slots slot (Some member) }) (code_walk mesh codes))
    (members_walk slot (code_walk mesh codes) xs) whole last (record { visits_are = started.visits_are; slots_are = started.slots_are }) (omega (arith, e)) same

pub members_end : (mesh : MeshLists) (codes : List StatementCode) (slot : ℕ) (over : List Elem) (cap visits : ℕ) (slots : Slots) (whole : ℕ) (last : Slots) → over ≡ []
    → Counts cap visits slots (members_walk slot (code_walk mesh codes) over) whole last → Counts cap visits slots (members_walk slot (code_walk mesh codes) []) whole last
members_end mesh codes slot over cap visits slots whole last is h = subst (λ over. Counts cap visits slots (members_walk slot (code_walk mesh codes) over) whole last) is h

-- statements with blocks
pub if_visits : (cap visits tv v₁ v₂ v₃ truths tested counted result : ℕ) → cap ≤ greatest → truths ≡ min tv greatest → tested ≡ min (visits + min (truths + 1) greatest) cap
    → counted ≡ min (tested + v₁) cap → (counted < cap → v₃ ≡ v₂) → result ≡ min (counted + v₃) cap → result ≡ min (visits + (1 + tv + v₁ + v₂)) cap
if_visits cap visits tv v₁ v₂ v₃ truths tested counted result few a b c same d = elim (leb_tells cap counted) [
  | inl reached ↦ omega (arith, few, a, b, c, d, reached.1)
  | inr below ↦ omega (arith, few, a, b, c, d, below.1, same below.1)
]

pub while_visits : (cap visits tv v truths tested result : ℕ) → cap ≤ greatest → truths ≡ min tv greatest → tested ≡ min (visits + min (truths + 1) greatest) cap
    → result ≡ min (tested + v) cap → result ≡ min (visits + (1 + tv + v)) cap
while_visits cap visits tv v truths tested result few a b d = omega (arith, few, a, b, d)

-- the kinds of a `val` and of a `for`
same_kinds : (a b : Option Kind) → are_same_kind a b ≡ true → (kind : Kind) × (a ≡ Some kind) × (b ≡ Some kind)
same_kinds (Some a) (Some b) e = (a, refl, ap Some (sym (kinds_are a b e)))
same_kinds (Some a) None e = absurd cc
same_kinds None b e = absurd cc

there : (kinds : List Kind) (slot : ℕ) (kind : Kind) → slice_get kinds slot ≡ Some kind → slot < length kinds
there [] slot kind e = absurd cc
there (k ∷ kinds) zero kind e = omega arith
there (k ∷ kinds) (suc slot) kind e = omega (arith, there kinds slot kind e)

same_some : (a b : Kind) → Some a ≡ Some b → a ≡ b
same_some a b e = cc

module _ (mesh : MeshLists) (kinds : List Kind) (slots : Slots) where
  pub val_within : (slot : ℕ) (init : ElementCode) (given : StatementCode) → given ≡ code.Val slot init → statement_fits kinds given ≡ true → slot < length kinds
  val_within slot init given is e =
      let k = same_kinds (slice_get kinds slot) (kind_of kinds init) (sym (ap (statement_fits kinds) is ∙ fits_statement_val kinds slot init) ∙ e) in
      there kinds slot k.0 k.1

  pub val_fit : (slot : ℕ) (init used : ElementCode) (given : StatementCode) (x : Option Elem) → given ≡ code.Val slot init → used ≡ init → statement_fits kinds given ≡ true
      → SlotsFit mesh kinds slots → ((kind : Kind) → kind_of kinds used ≡ Some kind → IsNilOrElement mesh kind x) → SlotsFit mesh kinds (slice_set slots slot x)
  val_fit slot init used given x is same e fit h =
      let k = same_kinds (slice_get kinds slot) (kind_of kinds init) (sym (ap (statement_fits kinds) is ∙ fits_statement_val kinds slot init) ∙ e) in
      fit_set mesh kinds slots slot x (there kinds slot k.0 k.1) fit
      (λ kind at. h kind (ap (kind_of kinds) same ∙ k.2 ∙ ap Some (same_some k.0 kind (sym k.1 ∙ at))))

  may_have : (set : SetName) (found : Option Kind) → may_have_set set found ≡ true → (kind : Kind) × (found ≡ Some kind) × (has_set kind set ≡ true)
  may_have set (Some kind) e = (kind, refl, e)
  may_have set None e = absurd cc

  pub record ForFits (slot : ℕ) (set : SetName) (arg : ElementCode) (body : List StatementCode) : Type 0 where
    pub kind : Kind
    pub arg_is : kind_of kinds arg ≡ Some kind
    pub can : has_set kind set ≡ true
    pub slot_is : slice_get kinds slot ≡ Some (kind_of_set set)
    pub body_fits : code_fits kinds body ≡ true

  pub for_fits : (slot : ℕ) (set : SetName) (place : Place) (arg : ElementCode) (body : List StatementCode) (given : StatementCode) → given ≡ code.For slot set place arg body
      → statement_fits kinds given ≡ true → ForFits slot set arg body
  for_fits slot set place arg body given is e =
      let p = and_parts (may_have_set set (kind_of kinds arg)) (are_same_kind (slice_get kinds slot) (Some (kind_of_set set)) && code_fits kinds body)
      (sym (ap (statement_fits kinds) is ∙ fits_statement_for kinds slot set place arg body) ∙ e) in
      let q = and_parts (are_same_kind (slice_get kinds slot) (Some (kind_of_set set))) (code_fits kinds body) p.1 in
      let m = may_have set (kind_of kinds arg) p.0 in
      let k = same_kinds (slice_get kinds slot) (Some (kind_of_set set)) q.0 in
      record { kind = m.0; arg_is = m.1; can = m.2; slot_is = k.1 ∙ sym k.2; body_fits = q.1 }

  pub slot_there : (slot : ℕ) (kind : Kind) → slice_get kinds slot ≡ Some kind → slot < length kinds
  slot_there slot kind e = there kinds slot kind e

  each_fits : (slot : ℕ) (kind : Kind) (xs : List Elem) → slice_get kinds slot ≡ Some kind → AllByRecursion (IsElement mesh kind) xs → AllByRecursion (FitsSlot mesh kinds slot) xs
  each_fits slot kind [] at all = tt
  each_fits slot kind (x ∷ xs) at all =
      (λ other is. subst (λ kind. IsElement mesh kind x) (same_some kind other (sym at ∙ is)) all.0, each_fits slot kind xs at all.1)

  pub members_fit : (slot : ℕ) (set : SetName) (kind : Kind) (x : Elem) (over : List Elem) → IsMesh (length mesh.points) (corner_lists mesh)
      → slice_get kinds slot ≡ Some (kind_of_set set) → has_set kind set ≡ true → IsElement mesh kind x → over ≡ members mesh set x → AllByRecursion (FitsSlot mesh kinds slot) over
  members_fit slot set kind x over is at can element same =
      subst (AllByRecursion (FitsSlot mesh kinds slot)) (sym same)
      (each_fits slot (kind_of_set set) (members mesh set x) at
      (members_of mesh set x is (record { in_range = subst (λ kind. x.id < count mesh kind) (sym element.0) element.1; kind_has_set = ap (λ kind. has_set kind set) element.0 ∙ can })))
