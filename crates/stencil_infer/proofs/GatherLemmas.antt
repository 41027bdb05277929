-- Accesses that are added to a set one after another.
use Rattle.std.proofs.Common.{◌≡◌, ℕ, ◌+◌, ◌<◌, ◌≤◌, List, [], ◌∷◌, ◌++◌, map, length, drop, get_or, refl, sym, ap, subst, ◌∙◌, append_assoc}
use Rattle.std.proofs.Common.{◌&&◌, true}
use Rattle.std.proofs.lemmas.Bool.{and_parts}
use Rattle.std.proofs.lemmas.List.{append-nil, drop_more}
use Rattle.liszt_base.specs.declared.elements.Kind.{Kind}
use Rattle.resolved_code.specs.declared.expressions.TruthCode.{TruthCode}
use Rattle.resolved_code.specs.declared.statements.StatementCode.TheVariants as code
use Rattle.stencil_infer.proofs.FitClauseLemmas.{fits_statement_if}
use Rattle.stencil_infer.specs.Internal.CodeAccesses.{truth_fits, statement_fits, code_fits}
use Rattle.std.proofs.Math.ListN.{drop_of_length-le}
use Rattle.std.specs.Prelude.{Result, Ok, Err, OnOk}
use Rattle.liszt_base.specs.declared.accesses.Access.{Access}
use Rattle.stencil_infer.specs.declared.access_set.AccessSet.{AccessSet}
use Rattle.std.specs.List.{slice_set}
use Rattle.liszt_base.specs.MeshLists.{MeshLists}
use Rattle.liszt_base.specs.declared.elements.Elem.{Elem}
use Rattle.resolved_code.specs.declared.statements.StatementCode.{StatementCode}
use Rattle.std.specs.Prelude.{Option, Some}
use Rattle.liszt_base.specs.declared.accesses.Mode.{Mode}
use Rattle.liszt_base.specs.declared.answers.Place.{Place}
use Rattle.liszt_base.specs.declared.elements.SetName.{SetName}
use Rattle.liszt_tree.specs.declared.tree.How.{How}
use Rattle.resolved_code.specs.declared.expressions.ElementCode.{ElementCode}
use Rattle.resolved_code.specs.declared.expressions.NumberCode.{NumberCode}
use Rattle.topo_operators.specs.Operators.{members}
use Rattle.phase_types.specs.Walk.{mode_by}
use Rattle.stencil_infer.specs.Internal.CodeAccesses.{at_element, element_of, element_visits, number_accesses, number_visits, over_nil, truth_accesses, truth_visits}
use Rattle.stencil_infer.proofs.CodeClauseLemmas.{walk_field, walk_if, walk_while, walk_for}
use Rattle.stencil_infer.specs.Internal.AccessSets.{Holds, Adds, HasGathered}
use Rattle.stencil_infer.specs.Internal.CodeAccesses.{Slots, Walk, and_then, no_walk, joined, code_walk, statement_walk, members_walk}

pub adds_none : (s : AccessSet) → Adds [] s s
adds_none s = record { adds = λ past h. subst (Holds s) (sym (append-nil past)) h }

pub adds_then : (a b : List Access) (s t u : AccessSet) → Adds a s t → Adds b t u → Adds (a ++ b) s u
adds_then a b s t u h g = record { adds = λ past held. subst (Holds u) (append_assoc past a b) (g.adds (past ++ a) (h.adds past held)) }

pub on_ok : {A E : Type 0} {P Q : Type 0} (r : Result A E) → (P → Q) → OnOk r P → OnOk r Q
on_ok (Ok a) f h = f h
on_ok (Err e) f h = tt

-- two steps
pub two_adds : {A E : Type 0} (a b all : List Access) (s t u : AccessSet) (r : Result A E) → all ≡ a ++ b → Adds a s t → OnOk r (Adds b t u) → OnOk r (Adds all s u)
two_adds a b all s t u r e h g = on_ok r (λ (last : Adds b t u). subst (λ accesses. Adds accesses s u) (sym e) (adds_then a b s t u h last)) g

-- THE REST of the accesses that are added leads to all of them.
pub record Leads (rest all : List Access) (now first : AccessSet) : Type 0 where
  pub leads : (last : AccessSet) → Adds rest now last → Adds all first last

pub leads_start : (all : List Access) (s : AccessSet) → Leads all all s s
leads_start all s = record { leads = λ last h. h }

pub leads_step : (a rest all : List Access) (now later first : AccessSet) → Leads (a ++ rest) all now first → Adds a now later → Leads rest all later first
leads_step a rest all now later first h g = record { leads = λ last next. h.leads last (adds_then a rest now later last g next) }

pub leads_end : (all : List Access) (now first : AccessSet) → Leads [] all now first → Adds all first now
leads_end all now first h = h.leads now (adds_none now)

-- lists of operands
module _ {A : Type 0} (f : A → List Access) where
  pub link_step : (xs : List A) (i : ℕ) (x : A) (all : List Access) (now later first : AccessSet) → i < length xs → x ≡ get_or xs i x
      → Leads (joined (map f (drop i xs))) all now first → Adds (f x) now later → Leads (joined (map f (drop (i + 1) xs))) all later first
  link_step xs i x all now later first l here h g =
      let parted : drop i xs ≡ x ∷ drop (i + 1) xs = drop_more xs i x l ∙ ap (λ x. x ∷ drop (i + 1) xs) (sym here) in
      let started : Leads (joined (map f (x ∷ drop (i + 1) xs))) all now first = subst (λ xs. Leads (joined (map f xs)) all now first) parted h in
      leads_step (f x) (joined (map f (drop (i + 1) xs))) all now later first started g

  pub link_end : (xs : List A) (i : ℕ) (all : List Access) (now first : AccessSet) → length xs ≤ i → Leads (joined (map f (drop i xs))) all now first → Adds all first now
  link_end xs i all now first l h = leads_end all now first (subst (λ xs. Leads (joined (map f xs)) all now first) (drop_of_length-le xs l) h)

-- WALKS: the rest of a walk from slots leads to the whole one.
pub record WalkLeads (rest : Slots → Walk) (slots : Slots) (whole : Walk) (now first : AccessSet) : Type 0 where
  pub leads : (after : Slots) (last : AccessSet) → HasGathered (rest slots) after now last → HasGathered whole after first last

pub walk_start : (walk : Slots → Walk) (slots : Slots) (s : AccessSet) → WalkLeads walk slots (walk slots) s s
walk_start walk slots s = record { leads = λ after last h. h }

gathered_then : (first : Walk) (next : Slots → Walk) (slots after : Slots) (s t u : AccessSet) → HasGathered first slots s t → HasGathered (next slots) after t u
    → HasGathered (and_then first next) after s u
gathered_then first next slots after s t u h g =
    let there : (next slots).accesses ≡ (next first.slots).accesses = ap (λ slots. (next slots).accesses) h.slots_are in
    record {
      adds = adds_then first.accesses (next first.slots).accesses s t u h.adds (subst (λ accesses. Adds accesses t u) there g.adds);
      slots_are = g.slots_are ∙ ap (λ slots. (next slots).slots) h.slots_are;
    }

pub walk_step : (first next : Slots → Walk) (slots later : Slots) (whole : Walk) (now then' origin : AccessSet) → WalkLeads (λ slots. and_then (first slots) next) slots whole now origin
    → HasGathered (first slots) later now then' → WalkLeads next later whole then' origin
walk_step first next slots later whole now then' origin h g =
    record { leads = λ after last more. h.leads after last (gathered_then (first slots) next later after now then' last g more) }

pub walk_end : (slots : Slots) (whole : Walk) (now first : AccessSet) → WalkLeads no_walk slots whole now first → HasGathered whole slots first now
walk_end slots whole now first h = h.leads slots now (record { adds = adds_none now; slots_are = refl })

-- the walk of one expression
pub plain : {A E : Type 0} (walk : Walk) (accesses : List Access) (visits : ℕ) (slots : Slots) (s t : AccessSet) (r : Result A E)
    → walk ≡ record { accesses = accesses; visits = visits; slots = slots } → OnOk r (Adds accesses s t) → OnOk r (HasGathered walk slots s t)
plain walk accesses visits slots s t r is h = on_ok r (λ (adds : Adds accesses s t).
    subst (λ walk. HasGathered walk slots s t) (sym is) (record { adds = adds; slots_are = refl })) h

pub nothing : (walk : Walk) (visits : ℕ) (slots : Slots) (s : AccessSet) → walk ≡ record { accesses = []; visits = visits; slots = slots } → HasGathered walk slots s s
nothing walk visits slots s is = subst (λ walk. HasGathered walk slots s s) (sym is) (record { adds = adds_none s; slots_are = refl })

-- a first walk, and the rest
pub first_then : {A E : Type 0} (whole first : Walk) (next : Slots → Walk) (slots after : Slots) (s t u : AccessSet) (r : Result A E)
    → whole ≡ and_then first next → HasGathered first slots s t → OnOk r (HasGathered (next slots) after t u) → OnOk r (HasGathered whole after s u)
first_then whole first next slots after s t u r is h g = on_ok r (λ (rest : HasGathered (next slots) after t u).
    subst (λ walk. HasGathered walk after s u) (sym is) (gathered_then first next slots after s t u h rest)) g

-- statements
pub body_step : (mesh : MeshLists) (codes : List StatementCode) (i : ℕ) (code : StatementCode) (slots later : Slots) (whole : Walk) (now then' origin : AccessSet)
    → i < length codes → code ≡ get_or codes i code → WalkLeads (code_walk mesh (drop i codes)) slots whole now origin
    → HasGathered (statement_walk mesh code slots) later now then' → WalkLeads (code_walk mesh (drop (i + 1) codes)) later whole then' origin
body_step mesh codes i code slots later whole now then' origin l here h g =
    let parted : drop i codes ≡ code ∷ drop (i + 1) codes = drop_more codes i code l ∙ ap (λ x. x ∷ drop (i + 1) codes) (sym here) in
    let started : WalkLeads (code_walk mesh (code ∷ drop (i + 1) codes)) slots whole now origin =
    subst (λ codes. WalkLeads (code_walk mesh codes) slots whole now origin) parted h in
    walk_step (statement_walk mesh code) (code_walk mesh (drop (i + 1) codes)) slots later whole now then' origin (record { leads = started.leads }) g

pub body_end : (mesh : MeshLists) (codes : List StatementCode) (i : ℕ) (slots : Slots) (whole : Walk) (now origin : AccessSet) → length codes ≤ i
    → WalkLeads (code_walk mesh (drop i codes)) slots whole now origin → HasGathered whole slots origin now
body_end mesh codes i slots whole now origin l h =
    let ended : WalkLeads (code_walk mesh []) slots whole now origin = subst (λ codes. WalkLeads (code_walk mesh codes) slots whole now origin) (drop_of_length-le codes l) h in
    walk_end slots whole now origin (record { leads = ended.leads })

-- members
pub member_step : (mesh : MeshLists) (codes : List StatementCode) (slot : ℕ) (member : Elem) (over xs : List Elem) (slots later : Slots) (whole : Walk) (now then' origin : AccessSet)
    → over ≡ member ∷ xs → WalkLeads (members_walk slot (code_walk mesh codes) over) slots whole now origin
    → HasGathered (code_walk mesh codes (slice_set slots slot (Some member))) later now then' → WalkLeads (members_walk slot (code_walk mesh codes) xs) later whole then' origin
member_step mesh codes slot member over xs slots later whole now then' origin is h g =
    let started : WalkLeads (members_walk slot (code_walk mesh codes) (member ∷ xs)) slots whole now origin =
    subst (λ over. WalkLeads (members_walk slot (code_walk mesh codes) over) slots whole now origin) is h in
    walk_step (λ slots. and_then (record { accesses = []; visits = 1; slots = slice_set slots slot (Some member) }) (code_walk mesh codes))
    (members_walk slot (code_walk mesh codes) xs) slots later whole now then' origin (record { leads = started.leads })
    (record { adds = g.adds; slots_are = g.slots_are })

pub member_end : (mesh : MeshLists) (codes : List StatementCode) (slot : ℕ) (over : List Elem) (slots : Slots) (whole : Walk) (now origin : AccessSet) → over ≡ []
    → WalkLeads (members_walk slot (code_walk mesh codes) over) slots whole now origin → HasGathered whole slots origin now
member_end mesh codes slot over slots whole now origin is h =
    let ended : WalkLeads (members_walk slot (code_walk mesh codes) []) slots whole now origin =
    subst (λ over. WalkLeads (members_walk slot (code_walk mesh codes) over) slots whole now origin) is h in
    walk_end slots whole now origin (record { leads = ended.leads })

-- the second block of an `if` fits the kinds of the slots
pub second_fits : (kinds : List Kind) (test : TruthCode) (first second used : List StatementCode) (given : StatementCode) → given ≡ code.If test first second → used ≡ second
    → statement_fits kinds given ≡ true → code_fits kinds used ≡ true
second_fits kinds test first second used given is same e =
    let whole = sym (ap (statement_fits kinds) is ∙ fits_statement_if kinds test first second) ∙ e in
    let blocks = (and_parts (truth_fits kinds test) (code_fits kinds first && code_fits kinds second) whole).1 in
    ap (code_fits kinds) same ∙ (and_parts (code_fits kinds first) (code_fits kinds second) blocks).1

-- statements with several parts
module _ (mesh : MeshLists) (slots : Slots) {A E : Type 0} where
  pub field_gathered : (place : Place) (field : ℕ) (how : How) (target : ElementCode) (value : NumberCode) (given : StatementCode) (mode : Mode) (x : Option Elem) (s t u : AccessSet) (r : Result A E)
      → given ≡ code.Field place field how target value → mode ≡ mode_by how → x ≡ element_of mesh slots target → Adds (number_accesses mesh slots value) s t
      → OnOk r (Adds (at_element mode field x) t u) → OnOk r (HasGathered (statement_walk mesh given slots) slots s u)
  field_gathered place field how target value given mode x s t u r is mode_is x_is h g =
      let first : List Access = number_accesses mesh slots value in
      let last : List Access = at_element (mode_by how) field (element_of mesh slots target) in
      let same : at_element mode field x ≡ last = ap (λ mode. at_element mode field x) mode_is ∙ ap (at_element (mode_by how) field) x_is in
      plain (statement_walk mesh given slots) (first ++ last) (1 + number_visits value + element_visits target) slots s u r
      (ap (λ code. statement_walk mesh code slots) is ∙ walk_field mesh slots place field how target value)
      (two_adds first last (first ++ last) s t u r refl h (subst (λ accesses. OnOk r (Adds accesses t u)) same g))

  pub if_gathered : (test : TruthCode) (first second used other : List StatementCode) (given : StatementCode) (later after : Slots) (s t u v : AccessSet) (r : Result A E)
      → given ≡ code.If test first second → used ≡ first → other ≡ second → Adds (truth_accesses mesh slots test) s t → HasGathered (code_walk mesh used slots) later t u
      → OnOk r (HasGathered (code_walk mesh other later) after u v) → OnOk r (HasGathered (statement_walk mesh given slots) after s v)
  if_gathered test first second used other given later after s t u v r is used_is other_is h g last =
      let start : Walk = record { accesses = truth_accesses mesh slots test; visits = 1 + truth_visits test; slots = slots } in
      first_then (statement_walk mesh given slots) (and_then start (code_walk mesh first)) (code_walk mesh second) later after s u v r
      (ap (λ code. statement_walk mesh code slots) is ∙ walk_if mesh slots test first second)
      (gathered_then start (code_walk mesh first) slots later s t u (record { adds = h; slots_are = refl })
      (subst (λ codes. HasGathered (code_walk mesh codes slots) later t u) used_is g))
      (subst (λ codes. OnOk r (HasGathered (code_walk mesh codes later) after u v)) other_is last)

  pub while_gathered : (place : Place) (test : TruthCode) (body used : List StatementCode) (given : StatementCode) (after : Slots) (s t u : AccessSet) (r : Result A E)
      → given ≡ code.While place test body → used ≡ body → Adds (truth_accesses mesh slots test) s t
      → OnOk r (HasGathered (code_walk mesh used slots) after t u) → OnOk r (HasGathered (statement_walk mesh given slots) after s u)
  while_gathered place test body used given after s t u r is used_is h last =
      let start : Walk = record { accesses = truth_accesses mesh slots test; visits = 1 + truth_visits test; slots = slots } in
      first_then (statement_walk mesh given slots) start (code_walk mesh body) slots after s t u r
      (ap (λ code. statement_walk mesh code slots) is ∙ walk_while mesh slots place test body)
      (record { adds = h; slots_are = refl })
      (subst (λ codes. OnOk r (HasGathered (code_walk mesh codes slots) after t u)) used_is last)

  pub for_gathered : (slot : ℕ) (set : SetName) (place : Place) (arg : ElementCode) (body used : List StatementCode) (given : StatementCode) (x : Elem) (found : Option Elem) (over : List Elem)
      (after : Slots) (s t : AccessSet) (r : Result A E)
      → given ≡ code.For slot set place arg body → used ≡ body → found ≡ element_of mesh slots arg → found ≡ Some x → over ≡ members mesh set x
      → OnOk r (HasGathered (members_walk slot (code_walk mesh used) over slots) after s t) → OnOk r (HasGathered (statement_walk mesh given slots) after s t)
  for_gathered slot set place arg body used given x found over after s t r is used_is found_is some over_is last =
      let start : Walk = record { accesses = []; visits = 1 + element_visits arg; slots = slots } in
      let members_are : over_nil (members mesh set) (element_of mesh slots arg) ≡ over = ap (over_nil (members mesh set)) (sym found_is ∙ some) ∙ sym over_is in
      first_then (statement_walk mesh given slots) start (members_walk slot (code_walk mesh body) over) slots after s s t r
      (ap (λ code. statement_walk mesh code slots) is ∙ walk_for mesh slots slot set place arg body
      ∙ ap (λ over. and_then start (members_walk slot (code_walk mesh body) over)) members_are)
      (record { adds = adds_none s; slots_are = refl })
      (subst (λ codes. OnOk r (HasGathered (members_walk slot (code_walk mesh codes) over slots) after s t)) used_is last)
