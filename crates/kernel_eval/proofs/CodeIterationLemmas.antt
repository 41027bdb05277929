-- The code of a comprehension does its iterations.
use Rattle.std.proofs.Common.{◌≡◌, ◌≢◌, ◌<◌, ℕ, Bool, true, false, List, [], ◌∷◌, ◌++◌, length, refl, sym, ap, subst, ◌∙◌, inl, inr, arith}
use Rattle.std.proofs.lemmas.Bool.{cases_Bool}
use Rattle.std.proofs.lemmas.Slice.Eq.{bytes_eq-Decides}
use Rattle.std.specs.Option.{option_map}
use Rattle.std.specs.Prelude.{Option, Some, None, is_some, ℤ, slice_get, if◌then◌else◌, Result, Ok, Err}
use Rattle.std.specs.Str.{bytes_eq}
use Rattle.liszt_base.specs.Corners.{IsMesh}
use Rattle.liszt_base.specs.MeshLists.{MeshLists}
use Rattle.liszt_base.specs.declared.accesses.Spot.{Spot}
use Rattle.liszt_base.specs.declared.answers.ProgramFault.{ProgramFault}
use Rattle.liszt_base.specs.declared.answers.Trap.{Trap}
use Rattle.liszt_base.specs.declared.elements.Elem.{Elem}
use Rattle.liszt_base.specs.declared.elements.Kind.{Kind}
use Rattle.liszt_tree.specs.Tree.{Main}
use Rattle.mesh_topology.specs.Elements.{corner_lists, count}
use Rattle.resolved_code.specs.declared.accesses.AccessAt.{AccessAt}
use Rattle.resolved_code.specs.declared.items.ComprehensionCode.{ComprehensionCode}
use Rattle.resolved_code.specs.declared.statements.StatementCode.{StatementCode}
use Rattle.topo_operators.specs.Operands.{IsNilOrElement}
use Rattle.topo_operators.specs.Operators.{unflipped}
use Rattle.phase_types.specs.declared.frame.Frame.{Frame}
use Rattle.phase_types.specs.declared.resolution.Resolution.{Resolution}
use Rattle.phase_types.specs.declared.resolution.Resolution.TheVariants as resolution
use Rattle.phase_types.specs.declared.state.CheckedProgram.{CheckedProgram}
use Rattle.phase_types.specs.Checked.{checked_program}
use Rattle.phase_types.specs.Environments.{Comprehension, LocalName, ElementName, comprehension_of}
use Rattle.phase_types.specs.Resolve.{Names, Accesses, resolution_of, first_access, after_first, conflict_between, new_name, no_slots, element_name, with_element, accesses_in, resolved_body}
use Rattle.phase_types.specs.Typed.{ComprehensionFits}
use Rattle.phase_types.specs.Walk.{Step, TestStep, AccessStep, OfField, OfScalar, is_mode, body_steps}
use Rattle.phase_types.proofs.BodyLemmas.{body_walks, declared, after_body}
use Rattle.phase_types.proofs.CheckedLemmas.{IsCodeOf, checked_code}
use Rattle.phase_types.proofs.ResolveLemmas.{binding_in}
use Rattle.phase_types.proofs.WalkLemmas.{walk, Walks, IsAny}
use Rattle.code_eval.specs.Acts.{Act}
use Rattle.code_eval.specs.declared.activation.Activation.{Activation}
use Rattle.code_eval.specs.Executions.{Done}
use Rattle.code_eval.specs.Meaning.{body_execution}
use Rattle.code_eval.specs.Stops.{Stop, Trapped, NoMeaning}
use Rattle.kernel_eval.specs.CodeIterations.{IsReady, HasValues, DoesIteration}
use Rattle.kernel_eval.specs.Fits.{StateFits}
use Rattle.kernel_eval.specs.Iterations.{iteration_start, iteration, iteration_end, end_of, partials_after}
use Rattle.kernel_eval.specs.States.{State, EvaluationState, element_bound_to}
use Rattle.kernel_eval.proofs.ResolvingLemmas.{IfOk, in_sequence, Within}
use Rattle.kernel_eval.proofs.ResolvedStatementLemmas.{IsWithinFrame, IsBodyCode, body_code_of}
use Rattle.kernel_eval.proofs.SimulationLemmas.{Setting, NameAgrees, Agrees, AgreesWithMore, Matches, Same}
use Rattle.kernel_eval.proofs.SlotLemmas.{SlotsFit, element_fits, kept_name, added_name}
use Rattle.kernel_eval.proofs.TypedEvaluationLemmas.{iteration_ends}

abbrev as_ok : {A : Type 0} → A → Result A ProgramFault
as_ok a = Ok a

ok_is : {A : Type 0} (a b : A) → as_ok a ≡ as_ok b → a ≡ b
ok_is a b e = cc

-- THE ACCESSES of a comprehension are known after its body too.
still_some : (steps : List Step) (accesses : List AccessAt) (later : Accesses) → walk (Some accesses) steps ≡ Ok later → later ≢ None
still_some [] accesses later e none = absurd (some_none (ok_is (Some accesses) later e ∙ none)) where
  some_none : Some accesses ≡ None → ⊥
  some_none e = cc
still_some (TestStep None ∷ steps) accesses later e none = still_some steps accesses later e none
still_some (TestStep (Some fault) ∷ steps) accesses later e none = absurd cc
still_some (AccessStep access ∷ steps) accesses later e none = go (first_access accesses access.subject) e (λ more e. still_some steps more later e none) where
  go : (found : Option AccessAt) → in_sequence (after_first accesses access found) (λ later. walk later steps) ≡ Ok later → ((more : List AccessAt) → walk (Some more) steps ≡ Ok later → ⊥) → ⊥
  go None e rest = rest (accesses ++ access ∷ []) e
  go (Some first) e rest = by (is_mode access.mode first.mode) e where
    by : (b : Bool) → in_sequence (if b then Ok (Some accesses) else Err (conflict_between access.place first.place)) (λ later. walk later steps) ≡ Ok later → ⊥
    by true e = rest accesses e
    by false e = absurd cc

within_whole : (c : Setting) (accesses : Accesses) → accesses ≢ None → accesses_in accesses ≡ c.accesses → Within c accesses
within_whole c None not e = absurd (not refl)
within_whole c (Some accesses) not e = λ subject access is. ap (λ accesses. first_access accesses subject) (sym e) ∙ is

-- THE NAMES of the main program denote fields and scalars alone, where a state fits their environment.
module _ (mesh : MeshLists) (c : Comprehension) (code : ComprehensionCode) (is : IsCodeOf code c) (s : State) (fits : StateFits mesh c.environment s) where
  no_number : (name : List ℕ) (slot : ℕ) → resolution_of is.names name ≡ Some (resolution.Number slot) → ⊥
  no_number name slot e = fits.entry_fits name LocalName (sym (is.agrees.each name) ∙ ap (option_map binding_in) e)

  no_element : (name : List ℕ) (slot : ℕ) (kind : Kind) → resolution_of is.names name ≡ Some (resolution.Element slot kind) → ⊥
  no_element name slot kind e = fits.entry_fits name (ElementName kind) (sym (is.agrees.each name) ∙ ap (option_map binding_in) e)

  main_fits : SlotsFit is.names no_slots
  main_fits = record {
    numbers = λ name slot e. absurd (no_number name slot e);
    elements = λ name slot kind e. absurd (no_element name slot kind e);
    apart = λ name other slot e f. absurd (no_number name slot e);
  }

  module _ (turns id : ℕ) (values : Spot → ℤ) (a : Activation) (below : id < count mesh c.over) (ready : IsReady code c turns s id a) (read : HasValues c s values)
      (new : resolution_of is.names c.name ≡ None) where
    abbrev setting : Setting
    setting = record {
      mesh = mesh;
      globals = c.environment;
      view = values;
      accesses = code.accesses;
      scalars = a.scalars;
      partials = a.partials;
      numbers = length a.numbers;
      elements = length a.elements;
    }

    abbrev names : Names
    names = is.names ++ element_name c.name c.over no_slots ∷ []

    abbrev begun : EvaluationState
    begun = iteration_start c turns s id

    abbrev Named : List ℕ → Option (Option Elem) → Option Resolution → Type 0
    Named name element found = NameAgrees setting a name None element found

    other_name : (name : List ℕ) → bytes_eq name c.name ≡ false → element_bound_to begun name ≡ None
    other_name name e = rw e refl

    this_name : (name : List ℕ) → bytes_eq name c.name ≡ true → element_bound_to begun name ≡ Some (Some (unflipped c.over id))
    this_name name e = rw e refl

    older : (name : List ℕ) (found : Resolution) → resolution_of is.names name ≡ Some found → Named name None (Some found)
    older name (resolution.Field field kind) e = sym (is.agrees.each name) ∙ ap (option_map binding_in) e
    older name (resolution.Scalar scalar) e = (refl, refl, sym (is.agrees.each name) ∙ ap (option_map binding_in) e)
    older name (resolution.Number slot) e = absurd (no_number name slot e)
    older name (resolution.Element slot kind) e = absurd (no_element name slot kind e)

    not_this : (name : List ℕ) (found : Resolution) → resolution_of is.names name ≡ Some found → bytes_eq name c.name ≡ false
    not_this name found e = elim (cases_Bool (bytes_eq name c.name)) [
      | inl same ↦ absurd (let bad : Some found ≡ None = sym e ∙ ap (resolution_of is.names) ((bytes_eq-Decides name c.name).0 same) ∙ new in cc)
      | inr not ↦ not
    ]

    all_named : (name : List ℕ) → Named name (element_bound_to begun name) (resolution_of names name)
    all_named name = go (resolution_of is.names name) refl where
      go : (found : Option Resolution) → resolution_of is.names name ≡ found → Named name (element_bound_to begun name) (resolution_of names name)
      go (Some found) e =
          subst (Named name (element_bound_to begun name)) (sym (kept_name is.names (element_name c.name c.over no_slots) name found e))
          (subst (λ element. Named name element (Some found)) (sym (other_name name (not_this name found e))) (older name found e))
      go None e = elim (cases_Bool (bytes_eq name c.name)) [
        | inl same ↦
            subst (Named name (element_bound_to begun name)) (sym (added_name is.names (element_name c.name c.over no_slots) name true e same))
            (subst (λ element. Named name element (Some (resolution.Element 0 c.over))) (sym (this_name name same))
            (refl, ap Some (sym ready.first), subst (IsNilOrElement mesh c.over) (sym ready.first) (refl, below)))
        | inr not ↦
            subst (Named name (element_bound_to begun name)) (sym (added_name is.names (element_name c.name c.over no_slots) name false e not))
            (subst (λ element. Named name element None) (sym (other_name name not)) (refl, refl))
      ]

    start_agrees : Agrees setting names begun a
    start_agrees = record {
      elem = ap Some (sym ready.elem);
      turns = sym ready.turns_are;
      named = all_named;
      fields = λ spot value known declared found. sym (read.read spot value (sym (is.modes (OfField spot.field)) ∙ known) declared found);
      scalars = λ scalar value known found. sym (ready.scalars scalar value (sym (is.modes (OfScalar scalar)) ∙ known) found);
      partials = refl;
      kept = refl;
      numbers_room = refl;
      elements_room = refl;
    }

    -- what the body does, where the iteration has a meaning
    finished : (m : EvaluationState) (after : Activation) (made : List Act) (x y : Result Done Stop) → m ≡ (iteration mesh c turns s id).after → x ≡ (iteration mesh c turns s id).answer
        → is_some (end_of x) ≡ true → Matches setting Same (AgreesWithMore setting names) names begun m after made x y
        → DoesIteration mesh c turns s id a (record { after = after; acts = made; answer = y })
    finished m after made (Ok x) (Ok y) e f has h = record {
      acts = sym h.3 ∙ ap (λ m. m.acts) e;
      end = ap end_of f;
      partials = h.1.agrees.partials ∙ ap (λ m. partials_after a.partials m.folds) e;
      scalars = h.1.agrees.kept;
      numbers = h.1.agrees.numbers_room;
      elements = h.1.agrees.elements_room;
    }
    finished m after made (Err (Trapped t)) (Err (Trapped u)) e f has h = record {
      acts = sym h.2 ∙ ap (λ m. m.acts) e;
      end = ap (λ trap. end_of (as_stop trap)) (sym h.0) ∙ ap end_of f;
      partials = h.1.partials ∙ ap (λ m. partials_after a.partials m.folds) e;
      scalars = h.1.kept;
      numbers = h.1.numbers_room;
      elements = h.1.elements_room;
    } where
      as_stop : Trap → Result Done Stop
      as_stop trap = Err (Trapped trap)
    finished m after made (Err NoMeaning) y e f has h = absurd cc
    finished m after made (Ok x) (Err u) e f has h = absurd h
    finished m after made (Err (Trapped t)) (Ok y) e f has h = absurd h
    finished m after made (Err (Trapped t)) (Err NoMeaning) e f has h = absurd h

    abbrev Block : Type 0
    Block = List StatementCode × Frame

    abbrev frame : Frame
    frame = with_element c.over no_slots

    abbrev code_of : Block → Result ComprehensionCode ProgramFault
    code_of block = Ok (record { over = c.over; elements = block.1.elements; numbers = block.1.numbers; body = block.0; accesses = accesses_in block.1.accesses })

    -- the accesses after the body are known
    known_after : (block : Block) → Walks after_body IsAny (walk (Some []) (body_steps ((c.name, ElementName c.over) ∷ c.environment) c.body)) (as_ok block) → block.1.accesses ≢ None
    known_after block h = go (walk (Some []) (body_steps ((c.name, ElementName c.over) ∷ c.environment) c.body)) refl h where
      go : (walked : Result Accesses ProgramFault) → walk (Some []) (body_steps ((c.name, ElementName c.over) ∷ c.environment) c.body) ≡ walked → Walks after_body IsAny walked (as_ok block)
          → block.1.accesses ≢ None
      go (Ok later) e h none = still_some (body_steps ((c.name, ElementName c.over) ∷ c.environment) c.body) [] later e (sym h.same.0 ∙ none)
      go (Err fault) e h none = absurd h.same

    block_does : is_some (iteration_end mesh c turns s id) ≡ true → (block : Block) → code_of block ≡ Ok code → block.1.accesses ≢ None → (mesh_is : IsMesh (length mesh.points) (corner_lists mesh))
        → IsBodyCode setting mesh_is names frame [] c.body block → DoesIteration mesh c turns s id a (body_execution mesh code.body values a)
    block_does has block e known mesh_is h =
        let whole = ok_is (record { over = c.over; elements = block.1.elements; numbers = block.1.numbers; body = block.0; accesses = accesses_in block.1.accesses }) code e in
        let numbers_are : block.1.numbers ≡ code.numbers = ap (λ (code : ComprehensionCode). code.numbers) whole in
        let elements_are : block.1.elements ≡ code.elements = ap (λ (code : ComprehensionCode). code.elements) whole in
        let body_is : block.0 ≡ code.body = ap (λ (code : ComprehensionCode). code.body) whole in
        let within : IsWithinFrame setting block.1 = record {
          accesses = within_whole setting block.1.accesses known (ap (λ (code : ComprehensionCode). code.accesses) whole);
          numbers = omega (arith, numbers_are, ready.numbers);
          elements = omega (arith, ap length elements_are, ready.elements);
        } in
        let follows = h.1 (element_fits is.names no_slots c.name c.over new main_fits frame refl refl) within in
        subst (λ body. DoesIteration mesh c turns s id a (body_execution mesh body values a)) (sym follows.is ∙ body_is)
        (finished (iteration mesh c turns s id).after (body_execution mesh follows.new values a).after (body_execution mesh follows.new values a).acts
        (iteration mesh c turns s id).answer (body_execution mesh follows.new values a).answer refl refl has (follows.follows.at begun a start_agrees))

    body_does : is_some (iteration_end mesh c turns s id) ≡ true → (mesh_is : IsMesh (length mesh.points) (corner_lists mesh)) → (r : Result Block ProgramFault)
        → Walks after_body IsAny (walk (Some []) (body_steps ((c.name, ElementName c.over) ∷ c.environment) c.body)) r
        → IfOk (IsBodyCode setting mesh_is names frame [] c.body) r → in_sequence r code_of ≡ Ok code → DoesIteration mesh c turns s id a (body_execution mesh code.body values a)
    body_does has mesh_is (Ok block) w h e = block_does has block e (known_after block w) mesh_is h
    body_does has mesh_is (Err fault) w h e = absurd cc

-- the name of a comprehension is new
module _ (mesh : MeshLists) (c : Comprehension) (code : ComprehensionCode) (is : IsCodeOf code c) (s : State) (fits : StateFits mesh c.environment s) (turns id : ℕ) (values : Spot → ℤ) (a : Activation)
    (below : id < count mesh c.over) (ready : IsReady code c turns s id a) (read : HasValues c s values) (mesh_is : IsMesh (length mesh.points) (corner_lists mesh)) where
  abbrev Declared : Type 0
  Declared = ℕ × Names × Frame

  abbrev later_names : Names
  later_names = is.names ++ element_name c.name c.over no_slots ∷ []

  abbrev declared_by : Option Resolution → Result Declared ProgramFault
  declared_by found = in_sequence (new_name found is.at) (λ new. Ok (0, later_names, with_element c.over no_slots))

  abbrev rest : Declared → Result ComprehensionCode ProgramFault
  rest d = in_sequence (resolved_body d.1 d.2 [] c.body) (λ block. Ok (record { over = c.over; elements = block.1.elements; numbers = block.1.numbers; body = block.0; accesses = accesses_in block.1.accesses }))

  by_name : is_some (iteration_end mesh c turns s id) ≡ true → (found : Option Resolution) → resolution_of is.names c.name ≡ found → in_sequence (declared_by found) rest ≡ Ok code
      → DoesIteration mesh c turns s id a (body_execution mesh code.body values a)
  by_name has (Some other) new e = absurd cc
  by_name has None new e =
      body_does mesh c code is s fits turns id values a below ready read new has mesh_is (resolved_body later_names (with_element c.over no_slots) [] c.body)
      (body_walks (declared c.name (resolution.Element 0 c.over) is.agrees new) (with_element c.over no_slots) [] c.body)
      (body_code_of (setting mesh c code is s fits turns id values a below ready read new) mesh_is c.body later_names (with_element c.over no_slots) []) e

  pub code_does : ComprehensionFits c → DoesIteration mesh c turns s id a (body_execution mesh code.body values a)
  code_does typed = by_name (iteration_ends mesh c turns s id mesh_is typed fits below) (resolution_of is.names c.name) refl is.resolved

pub checked_code_does : (program : Main) (checked : CheckedProgram) (k : ℕ) (code : ComprehensionCode) (c : Comprehension) (mesh : MeshLists) (turns : ℕ) (s : State) (id : ℕ) (values : Spot → ℤ) (a : Activation)
    → checked_program program ≡ Ok checked → slice_get checked.comprehensions k ≡ Some code → comprehension_of program k ≡ Some c
    → IsMesh (length mesh.points) (corner_lists mesh) → ComprehensionFits c → StateFits mesh c.environment s → id < count mesh c.over → IsReady code c turns s id a → HasValues c s values
    → DoesIteration mesh c turns s id a (body_execution mesh code.body values a)
checked_code_does program checked k code c mesh turns s id values a e f g mesh_is typed fits below ready read =
    let found = checked_code program checked e k code f in
    let same : found.0 ≡ c = some_is found.0 c (sym found.1 ∙ g) in
    code_does mesh c code (subst (IsCodeOf code) same found.2) s fits turns id values a below ready read mesh_is typed where
      some_is : (x y : Comprehension) → Some x ≡ Some y → x ≡ y
      some_is x y e = cc
