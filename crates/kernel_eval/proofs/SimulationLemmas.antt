-- A tree and its code go alike: evaluation states and activations that agree, and computations that executions simulate.
use Rattle.std.proofs.Common.{◌≡◌, ℕ, zero, suc, ◌+◌, ◌-◌, Bool, true, false, List, [], ◌∷◌, ◌++◌, map, length, drop, get_or, refl, sym, ap, subst, ◌∙◌, append_assoc, append-nil, inl, inr, arith}
use Rattle.std.proofs.lemmas.Bool.{cases_Bool}
use Rattle.std.proofs.lemmas.List.{length-append, length-map}
use Rattle.std.proofs.lemmas.Slice.Eq.{bytes_eq-Decides}
use Rattle.std.specs.List.{AllByRecursion}
use Rattle.std.specs.Option.{option_map}
use Rattle.std.specs.Prelude.{Option, Some, None, ℤ, pos, Result, Ok, Err}
use Rattle.std.specs.Str.{bytes_eq}
use Rattle.liszt_base.specs.MeshLists.{MeshLists}
use Rattle.liszt_base.specs.declared.accesses.Mode.{Mode}
use Rattle.liszt_base.specs.declared.accesses.Mode.TheVariants.{Read}
use Rattle.liszt_base.specs.declared.accesses.Spot.{Spot}
use Rattle.liszt_base.specs.declared.answers.Place.{Place}
use Rattle.liszt_base.specs.declared.answers.TrapKind.{TrapKind}
use Rattle.liszt_base.specs.declared.elements.Elem.{Elem}
use Rattle.resolved_code.specs.declared.accesses.AccessAt.{AccessAt}
use Rattle.topo_operators.specs.Operands.{IsNilOrElement}
use Rattle.phase_types.specs.declared.resolution.Resolution.{Resolution}
use Rattle.phase_types.specs.declared.resolution.Resolution.TheVariants as resolution
use Rattle.phase_types.specs.Environments.{Environment, FieldName, ScalarName, binding_of, is_built_in, lookup}
use Rattle.phase_types.specs.Resolve.{Names, resolution_of, first_access}
use Rattle.phase_types.specs.Walk.{Subject, OfField, OfScalar}
use Rattle.code_eval.specs.Acts.{Act}
use Rattle.code_eval.specs.Executions as code
use Rattle.code_eval.specs.declared.activation.Activation.{Activation}
use Rattle.code_eval.specs.Executions.{Execution, ◌>>=◌}
use Rattle.code_eval.specs.Stops.{Stop, Trapped, NoMeaning}
use Rattle.kernel_eval.specs.Iterations.{partials_after}
use Rattle.kernel_eval.specs.Meaning.{trap, in_block, evaluation_turns}
use Rattle.kernel_eval.specs.Outcomes.{Computation, pure, skip, modify, continue_with, and_then, if_then_else, for_each, take_turn, loop_within, loop}
use Rattle.kernel_eval.specs.States.{EvaluationState, value_in, scalar_value, local_bound_to, element_bound_to, after_block}

-- THE SETTING of an iteration: its mesh, its site, the values of its reads, the first accesses of its comprehension, the partials at
-- its start, and the numbers of slots
pub record Setting : Type 0 where
  pub mesh : MeshLists
  pub globals : Environment
  pub view : Spot → ℤ
  pub accesses : List AccessAt
  pub scalars : List ℤ
  pub partials : List ℤ
  pub numbers : ℕ
  pub elements : ℕ

abbrev pub known_mode : Setting → Subject → Option Mode
known_mode c subject = option_map (λ access. access.mode) (first_access c.accesses subject)

-- NAMES agree with the slots that they denote.
abbrev pub NameAgrees : Setting → Activation → List ℕ → Option ℤ → Option (Option Elem) → Option Resolution → Type 0
NameAgrees c a name local element None = (local ≡ None) × (element ≡ None)
NameAgrees c a name local element (Some (resolution.Field field kind)) = binding_of c.globals name ≡ Some (FieldName field kind)
NameAgrees c a name local element (Some (resolution.Scalar scalar)) = (local ≡ None) × (element ≡ None) × (binding_of c.globals name ≡ Some (ScalarName scalar))
NameAgrees c a name local element (Some (resolution.Number slot)) = local ≡ Some (get_or a.numbers slot (pos 0))
NameAgrees c a name local element (Some (resolution.Element slot kind)) =
    (local ≡ None) × (element ≡ Some (get_or a.elements slot None)) × IsNilOrElement c.mesh kind (get_or a.elements slot None)

-- STATES AND ACTIVATIONS agree under names; what is read has the values of the setting.
pub record Agrees (c : Setting) (names : Names) (m : EvaluationState) (a : Activation) : Type 0 where
  pub elem : m.elem ≡ Some a.elem
  pub turns : m.state.turns ≡ a.turns
  pub named : (name : List ℕ) → NameAgrees c a name (local_bound_to m name) (element_bound_to m name) (resolution_of names name)
  pub fields : (spot : Spot) (value : ℤ) → known_mode c (OfField spot.field) ≡ Some Read → is_built_in spot.field ≡ false
      → value_in m.state.fields spot ≡ Some value → value ≡ c.view spot
  pub scalars : (scalar : ℕ) (value : ℤ) → known_mode c (OfScalar scalar) ≡ Some Read → scalar_value m.state scalar ≡ Some value
      → value ≡ get_or a.scalars scalar (pos 0)
  pub partials : a.partials ≡ partials_after c.partials m.folds
  pub kept : a.scalars ≡ c.scalars
  pub numbers_room : length a.numbers ≡ c.numbers
  pub elements_room : length a.elements ≡ c.elements

-- what an activation keeps, also at a trap
pub record Keeps (c : Setting) (m : EvaluationState) (a : Activation) : Type 0 where
  pub partials : a.partials ≡ partials_after c.partials m.folds
  pub kept : a.scalars ≡ c.scalars
  pub numbers_room : length a.numbers ≡ c.numbers
  pub elements_room : length a.elements ≡ c.elements

pub keeps : {c : Setting} {names : Names} {m : EvaluationState} {a : Activation} → Agrees c names m a → Keeps c m a
keeps r = record { partials = r.partials; kept = r.kept; numbers_room = r.numbers_room; elements_room = r.elements_room }

-- NESTING: the bindings of a state are those of an earlier one, after bindings of names that were not visible there.
abbrev pub keys : {V : Type 0} → List (List ℕ × V) → List (List ℕ)
keys entries = map (λ entry. entry.0) entries

abbrev pub IsUnresolved : Names → List ℕ → Type 0
IsUnresolved names name = resolution_of names name ≡ None

pub record IsNested (names : Names) (before m : EvaluationState) : Type 0 where
  pub new_locals : List (List ℕ)
  pub locals : keys m.locals ≡ new_locals ++ keys before.locals
  pub locals_are_new : AllByRecursion (IsUnresolved names) new_locals
  pub new_elements : List (List ℕ)
  pub elements : keys m.elements ≡ new_elements ++ keys before.elements
  pub elements_are_new : AllByRecursion (IsUnresolved names) new_elements

pub record Extends (names later : Names) : Type 0 where
  pub kept : (name : List ℕ) (r : Resolution) → resolution_of names name ≡ Some r → resolution_of later name ≡ Some r

still_unresolved : (names later : Names) → Extends names later → (name : List ℕ) → IsUnresolved later name → IsUnresolved names name
still_unresolved names later e name none = go (resolution_of names name) refl where
  go : (r : Option Resolution) → resolution_of names name ≡ r → r ≡ None
  go None is = refl
  go (Some r) is = let there = e.kept name r is in absurd cc

all_unresolved : (names later : Names) → Extends names later → (keys : List (List ℕ)) → AllByRecursion (IsUnresolved later) keys → AllByRecursion (IsUnresolved names) keys
all_unresolved names later e [] h = tt
all_unresolved names later e (key ∷ keys) h = (still_unresolved names later e key h.0, all_unresolved names later e keys h.1)

all_of_both : {A : Type 0} (P : A → Type 0) (xs ys : List A) → AllByRecursion P xs → AllByRecursion P ys → AllByRecursion P (xs ++ ys)
all_of_both P [] ys h g = g
all_of_both P (x ∷ xs) ys h g = (h.0, all_of_both P xs ys h.1 g)

pub extends_itself : (names : Names) → Extends names names
extends_itself names = record { kept = λ name r is. is }

pub extends_then : {names mid later : Names} → Extends names mid → Extends mid later → Extends names later
extends_then e f = record { kept = λ name r is. f.kept name r (e.kept name r is) }

pub nested_itself : (names : Names) (m : EvaluationState) → IsNested names m m
nested_itself names m = record { new_locals = []; locals = refl; locals_are_new = tt; new_elements = []; elements = refl; elements_are_new = tt }

pub nested_then : {names later : Names} {before mid m : EvaluationState} → Extends names later → IsNested names before mid → IsNested later mid m → IsNested names before m
nested_then {names = names} {later = later} {before = before} e h g = record {
  new_locals = g.new_locals ++ h.new_locals;
  locals = g.locals ∙ ap (λ ks. g.new_locals ++ ks) h.locals ∙ sym (append_assoc g.new_locals h.new_locals (keys before.locals));
  locals_are_new = all_of_both (IsUnresolved names) g.new_locals h.new_locals (all_unresolved names later e g.new_locals g.locals_are_new) h.locals_are_new;
  new_elements = g.new_elements ++ h.new_elements;
  elements = g.elements ∙ ap (λ ks. g.new_elements ++ ks) h.elements ∙ sym (append_assoc g.new_elements h.new_elements (keys before.elements));
  elements_are_new = all_of_both (IsUnresolved names) g.new_elements h.new_elements (all_unresolved names later e g.new_elements g.elements_are_new) h.elements_are_new;
}

-- AN EXECUTION SIMULATES a computation: where that has a meaning, both give the same value, or the same trap, with the same acts.
abbrev pub Related : Type 1
Related = EvaluationState → Activation → Type 0

abbrev pub Matches : {A B : Type 0} → Setting → (A → B → Type 0) → Related → Names → EvaluationState → EvaluationState → Activation → List Act
    → Result A Stop → Result B Stop → Type 0
Matches c V S names before m a acts (Ok x) (Ok y) = V x y × S m a × IsNested names before m × (m.acts ≡ before.acts ++ acts)
Matches c V S names before m a acts (Err (Trapped trap)) (Err (Trapped other)) = (trap ≡ other) × Keeps c m a × (m.acts ≡ before.acts ++ acts)
Matches c V S names before m a acts (Err NoMeaning) answer = Unit {0}
Matches c V S names before m a acts _ _ = ⊥

pub record Simulates {A B : Type 0} (c : Setting) (V : A → B → Type 0) (R S : Related) (names : Names) (computation : Computation EvaluationState A) (execution : Execution B) : Type 0 where
  pub at : (m : EvaluationState) (a : Activation) → R m a
      → Matches c V S names m (computation m).after (execution c.view a).after (execution c.view a).acts (computation m).answer (execution c.view a).answer

matches_later : {A B : Type 0} (c : Setting) (V : A → B → Type 0) (S : Related) {names later : Names} (before mid m : EvaluationState) (a : Activation) (xs ys : List Act)
    (x : Result A Stop) (y : Result B Stop) → Extends names later → IsNested names before mid → mid.acts ≡ before.acts ++ xs
    → Matches c V S later mid m a ys x y → Matches c V S names before m a (xs ++ ys) x y
matches_later c V S before mid m a xs ys (Ok x) (Ok y) e n is h = (h.0, h.1, nested_then e n h.2, h.3 ∙ ap (λ zs. zs ++ ys) is ∙ append_assoc before.acts xs ys)
matches_later c V S before mid m a xs ys (Err (Trapped t)) (Err (Trapped u)) e n is h = (h.0, h.1, h.2 ∙ ap (λ zs. zs ++ ys) is ∙ append_assoc before.acts xs ys)
matches_later c V S before mid m a xs ys (Err NoMeaning) y e n is h = tt
matches_later c V S before mid m a xs ys (Ok x) (Err u) e n is h = absurd h
matches_later c V S before mid m a xs ys (Err (Trapped t)) (Ok y) e n is h = absurd h
matches_later c V S before mid m a xs ys (Err (Trapped t)) (Err NoMeaning) e n is h = absurd h

matches_continue : {A B C D : Type 0} (c : Setting) (V : A → B → Type 0) (W : C → D → Type 0) (S T : Related) {names later : Names} (next : A → Computation EvaluationState C) (f : B → Execution D)
    → Extends names later → ((x : A) (y : B) → V x y → Simulates c W S T later (next x) (f y)) → (before m : EvaluationState) (a : Activation) (acts : List Act)
    (x : Result A Stop) (y : Result B Stop) → Matches c V S names before m a acts x y
    → Matches c W T names before (continue_with next m x).after (code.continue_with f c.view a acts y).after (code.continue_with f c.view a acts y).acts (continue_with next m x).answer (code.continue_with f c.view a acts y).answer
matches_continue c V W S T next f e h before m a acts (Ok x) (Ok y) g =
    matches_later c W T before m (next x m).after (f y c.view a).after acts (f y c.view a).acts (next x m).answer (f y c.view a).answer e g.2 g.3 ((h x y g.0).at m a g.1)
matches_continue c V W S T next f e h before m a acts (Err (Trapped t)) (Err (Trapped u)) g = g
matches_continue c V W S T next f e h before m a acts (Err NoMeaning) y g = tt
matches_continue c V W S T next f e h before m a acts (Ok x) (Err u) g = absurd g
matches_continue c V W S T next f e h before m a acts (Err (Trapped t)) (Ok y) g = absurd g
matches_continue c V W S T next f e h before m a acts (Err (Trapped t)) (Err NoMeaning) g = absurd g

pub simulates_then : {A B C D : Type 0} {c : Setting} {V : A → B → Type 0} {W : C → D → Type 0} {R S T : Related} {names later : Names} {first : Computation EvaluationState A}
    {next : A → Computation EvaluationState C} {p : Execution B} {f : B → Execution D} → Extends names later → Simulates c V R S names first p
    → ((x : A) (y : B) → V x y → Simulates c W S T later (next x) (f y)) → Simulates c W R T names (and_then first next) (p >>= f)
unfolding ◌>>=◌
simulates_then {c = c} {V = V} {W = W} {S = S} {T = T} {first = first} {next = next} {p = p} {f = f} e h g = record {
  at = λ m a r. matches_continue c V W S T next f e g m (first m).after (p c.view a).after (p c.view a).acts (first m).answer (p c.view a).answer (h.at m a r);
}

pub simulates_if : {A B : Type 0} {c : Setting} {V : A → B → Type 0} {R S : Related} {names : Names} {this other : Computation EvaluationState A} {p q : Execution B} (b : Bool)
    → Simulates c V R S names this p → Simulates c V R S names other q → Simulates c V R S names (if_then_else b this other) (code.if_then_else b p q)
simulates_if true h g = h
simulates_if false h g = g

-- a value of both, and a trap of both
pub simulates_value : {A B : Type 0} {c : Setting} {V : A → B → Type 0} {R : Related} {names : Names} {x : A} {y : B} → V x y → Simulates c V R R names (pure x) (code.pure y)
simulates_value {names = names} v = record { at = λ m a r. (v, r, nested_itself names m, sym (append-nil m.acts)) }

pub simulates_trap : {A B : Type 0} {c : Setting} {V : A → B → Type 0} {S : Related} {names later : Names} (kind : TrapKind) (place : Place)
    → Simulates c V (Agrees c names) S later (trap kind place) (code.trap kind place)
simulates_trap kind place = record { at = λ m a r. (ap (λ x. record { kind = kind; place = place; elem = x }) r.elem, record { partials = r.partials; kept = r.kept; numbers_room = r.numbers_room; elements_room = r.elements_room }, sym (append-nil m.acts)) }

-- a change of both
abbrev pub Same : Unit {0} → Unit {0} → Type 0
Same x y = Unit {0}

pub simulates_skip : {c : Setting} {R : Related} {names : Names} → Simulates c Same R R names skip (code.pure (tt {0}))
simulates_skip {names = names} = record { at = λ m a r. (tt, r, nested_itself names m, sym (append-nil m.acts)) }

-- the same execution otherwise written
pub simulates_as : {A B : Type 0} {c : Setting} {V : A → B → Type 0} {R S : Related} {names : Names} {computation : Computation EvaluationState A} (p : Execution B) {q : Execution B}
    → ((a : Activation) → p c.view a ≡ q c.view a) → Simulates c V R S names computation p → Simulates c V R S names computation q
simulates_as {c = c} {V = V} {S = S} {names = names} {computation = computation} p e h = record {
  at = λ m a r. subst (λ x. Matches c V S names m (computation m).after x.after x.acts (computation m).answer x.answer) (e a) (h.at m a r);
}

-- MEMBERS of a list
pub simulates_for_each : {X : Type 0} {c : Setting} {R : Related} {names : Names} {P : X → Type 0} {computation : X → Computation EvaluationState (Unit {0})} {execution : X → Execution (Unit {0})}
    → ((x : X) → P x → Simulates c Same R R names (computation x) (execution x)) → (xs : List X) → AllByRecursion P xs
    → Simulates c Same R R names (for_each computation xs) (code.for_each execution xs)
simulates_for_each h [] all = simulates_skip
simulates_for_each {names = names} h (x ∷ xs) all = simulates_then (extends_itself names) (h x all.0) (λ u v same. simulates_for_each h xs all.1)

-- LOOPS
abbrev Test : Bool → Bool → Type 0
Test b d = b ≡ d

module _ {c : Setting} {names : Names} (place : Place) (kind : TrapKind) {test : Computation EvaluationState Bool} {body : Computation EvaluationState (Unit {0})} {t : Execution Bool} {p : Execution (Unit {0})}
    (tests : Simulates c Test (Agrees c names) (Agrees c names) names test t) (bodies : Simulates c Same (Agrees c names) (Agrees c names) names body p) where
  with_turns_agrees : (n : ℕ) (m : EvaluationState) (a : Activation) → Agrees c names m a → Agrees c names (evaluation_turns.set_remaining n m) (code.with_turns n a)
  with_turns_agrees n m a r = record {
    elem = r.elem;
    turns = refl;
    named = r.named;
    fields = r.fields;
    scalars = r.scalars;
    partials = r.partials;
    kept = r.kept;
    numbers_room = r.numbers_room;
    elements_room = r.elements_room;
  }

  same_before : (n : ℕ) (before m : EvaluationState) (a : Activation) (acts : List Act) (x y : Result (Unit {0}) Stop)
      → Matches c Same (Agrees c names) names (evaluation_turns.set_remaining n before) m a acts x y → Matches c Same (Agrees c names) names before m a acts x y
  same_before n before m a acts (Ok x) (Ok y) h = (
    h.0,
    h.1,
    record {
      new_locals = h.2.new_locals;
      locals = h.2.locals;
      locals_are_new = h.2.locals_are_new;
      new_elements = h.2.new_elements;
      elements = h.2.elements;
      elements_are_new = h.2.elements_are_new;
    },
    h.3,
  )
  same_before n before m a acts (Err (Trapped t)) (Err (Trapped u)) h = h
  same_before n before m a acts (Err NoMeaning) y h = tt
  same_before n before m a acts (Ok x) (Err u) h = h
  same_before n before m a acts (Err (Trapped t)) (Ok y) h = h
  same_before n before m a acts (Err (Trapped t)) (Err NoMeaning) h = h

  turn_with : (left : ℕ) (m : EvaluationState) (a : Activation) → Agrees c names m a
      → Matches c Same (Agrees c names) names m (take_turn evaluation_turns (trap kind place) body left m).after (code.take_turn (code.trap kind place) p left c.view a).after
      (code.take_turn (code.trap kind place) p left c.view a).acts (take_turn evaluation_turns (trap kind place) body left m).answer (code.take_turn (code.trap kind place) p left c.view a).answer
  turn_with zero m a r = (simulates_trap {V = Same} {S = Agrees c names} {names = names} {later = names} kind place).at m a r
  turn_with (suc n) m a r =
      same_before n m (body (evaluation_turns.set_remaining n m)).after (p c.view (code.with_turns n a)).after (p c.view (code.with_turns n a)).acts
      (body (evaluation_turns.set_remaining n m)).answer (p c.view (code.with_turns n a)).answer (bodies.at (evaluation_turns.set_remaining n m) (code.with_turns n a) (with_turns_agrees n m a r))

  turn : Simulates c Same (Agrees c names) (Agrees c names) names (λ m. take_turn evaluation_turns (trap kind place) body m.state.turns m) (λ view a. code.take_turn (code.trap kind place) p a.turns view a)
  turn = record {
    at = λ m a r. subst (λ n. Matches c Same (Agrees c names) names m (take_turn evaluation_turns (trap kind place) body m.state.turns m).after (code.take_turn (code.trap kind place) p n c.view a).after
        (code.take_turn (code.trap kind place) p n c.view a).acts (take_turn evaluation_turns (trap kind place) body m.state.turns m).answer (code.take_turn (code.trap kind place) p n c.view a).answer) r.turns (turn_with m.state.turns m a r);
  }

  within : (n : ℕ) → Simulates c Same (Agrees c names) (Agrees c names) names (loop_within evaluation_turns (trap kind place) test body n) (code.loop_within (code.trap kind place) t p n)
  within zero = simulates_then (extends_itself names) tests (λ b d e.
      subst (λ d. Simulates c Same (Agrees c names) (Agrees c names) names (if_then_else b (trap kind place) skip) (code.if_then_else d (code.trap kind place) (code.pure (tt {0})))) e
      (simulates_if b (simulates_trap kind place) simulates_skip))
  within (suc n) = simulates_then (extends_itself names) tests (λ b d e.
      subst (λ d. Simulates c Same (Agrees c names) (Agrees c names) names (if_then_else b (and_then (λ m. take_turn evaluation_turns (trap kind place) body m.state.turns m) (λ done. loop_within evaluation_turns (trap kind place) test body n)) skip)
      (code.if_then_else d ((λ view a. code.take_turn (code.trap kind place) p a.turns view a) >>= λ done. code.loop_within (code.trap kind place) t p n) (code.pure (tt {0})))) e
      (simulates_if b (simulates_then (extends_itself names) turn (λ u v same. within n)) simulates_skip))

  pub simulates_loop : Simulates c Same (Agrees c names) (Agrees c names) names (loop evaluation_turns (trap kind place) test body) (code.loop (code.trap kind place) t p)
  simulates_loop = record {
    at = λ m a r.
        subst (λ n. Matches c Same (Agrees c names) names m (loop_within evaluation_turns (trap kind place) test body m.state.turns m).after (code.loop_within (code.trap kind place) t p n c.view a).after
        (code.loop_within (code.trap kind place) t p n c.view a).acts (loop_within evaluation_turns (trap kind place) test body m.state.turns m).answer (code.loop_within (code.trap kind place) t p n c.view a).answer)
        r.turns ((within m.state.turns).at m a r);
  }

some_is_none : {A : Type 0} (x : A) → Some x ≡ None → ⊥
some_is_none x e = cc

-- BLOCKS: the bindings that were visible at entry remain.
module _ {V : Type 0} where
  length_of_keys : (xs : List (List ℕ × V)) → length (keys xs) ≡ length xs
  length_of_keys xs = length-map xs (λ entry. entry.0)

  keys_dropped : (new rest : List (List ℕ)) (xs : List (List ℕ × V)) → keys xs ≡ new ++ rest → keys (drop (length new) xs) ≡ rest
  keys_dropped [] rest xs e = e
  keys_dropped (k ∷ new) rest (x ∷ xs) e = keys_dropped new rest xs (cc e)
  keys_dropped (k ∷ new) rest [] e = absurd cc

  lookup_dropped : (name : List ℕ) (new rest : List (List ℕ)) (xs : List (List ℕ × V)) → keys xs ≡ new ++ rest → AllByRecursion (λ k. bytes_eq name k ≡ false) new
      → lookup (bytes_eq name) (drop (length new) xs) ≡ lookup (bytes_eq name) xs
  lookup_dropped name [] rest xs e h = refl
  lookup_dropped name (k ∷ new) rest (x ∷ xs) e h =
      let first : x.0 ≡ k = cc e in
      rw (ap (bytes_eq name) first ∙ h.0) (lookup_dropped name new rest xs (cc e) h.1)
  lookup_dropped name (k ∷ new) rest [] e h = absurd cc

  none_by_keys : (name : List ℕ) (xs ys : List (List ℕ × V)) → keys xs ≡ keys ys → lookup (bytes_eq name) xs ≡ None → lookup (bytes_eq name) ys ≡ None
  none_by_keys name [] [] e h = refl
  none_by_keys name (x ∷ xs) (y ∷ ys) e h =
      let first : x.0 ≡ y.0 = cc e in
      elim (cases_Bool (bytes_eq name x.0)) [
        | inl is ↦ absurd (some_is_none x.1 (rw is at h))
        | inr is ↦ rw (ap (bytes_eq name) (sym first) ∙ is) (none_by_keys name xs ys (cc e) (rw is at h))
      ]
  none_by_keys name [] (y ∷ ys) e h = absurd cc
  none_by_keys name (x ∷ xs) [] e h = absurd cc

  dropped_at : (new : List (List ℕ)) (before xs : List (List ℕ × V)) → keys xs ≡ new ++ keys before → length xs - length before ≡ length new
  dropped_at new before xs e =
      let long : length xs ≡ length new + length before = sym (length_of_keys xs) ∙ ap length e ∙ length-append new (keys before) ∙ ap (λ n. length new + n) (length_of_keys before) in
      omega (arith, long)

-- the bindings after a block, of a name that was visible at entry, and of another one
other_names : (names : Names) (name : List ℕ) (r : Resolution) → resolution_of names name ≡ Some r → (keys : List (List ℕ)) → AllByRecursion (IsUnresolved names) keys
    → AllByRecursion (λ k. bytes_eq name k ≡ false) keys
other_names names name r is [] h = tt
other_names names name r is (k ∷ keys) h = (
  elim (cases_Bool (bytes_eq name k)) [
    | inl same ↦ absurd (some_is_none r (sym is ∙ ap (resolution_of names) ((bytes_eq-Decides name k).0 same) ∙ h.0))
    | inr other ↦ other
  ],
  other_names names name r is keys h.1,
)

module _ {names : Names} {before m : EvaluationState} (nested : IsNested names before m) where
  locals_dropped : (after_block before m).locals ≡ drop (length nested.new_locals) m.locals
  locals_dropped = ap (λ n. drop n m.locals) (dropped_at nested.new_locals before.locals m.locals nested.locals)

  elements_dropped : (after_block before m).elements ≡ drop (length nested.new_elements) m.elements
  elements_dropped = ap (λ n. drop n m.elements) (dropped_at nested.new_elements before.elements m.elements nested.elements)

  local_kept : (name : List ℕ) (r : Resolution) → resolution_of names name ≡ Some r → local_bound_to (after_block before m) name ≡ local_bound_to m name
  local_kept name r is =
      ap (lookup (bytes_eq name)) locals_dropped
      ∙ lookup_dropped name nested.new_locals (keys before.locals) m.locals nested.locals (other_names names name r is nested.new_locals nested.locals_are_new)

  element_kept : (name : List ℕ) (r : Resolution) → resolution_of names name ≡ Some r → element_bound_to (after_block before m) name ≡ element_bound_to m name
  element_kept name r is =
      ap (lookup (bytes_eq name)) elements_dropped
      ∙ lookup_dropped name nested.new_elements (keys before.elements) m.elements nested.elements (other_names names name r is nested.new_elements nested.elements_are_new)

  same_local_keys : keys before.locals ≡ keys (after_block before m).locals
  same_local_keys = sym (ap keys locals_dropped ∙ keys_dropped nested.new_locals (keys before.locals) m.locals nested.locals)

  same_element_keys : keys before.elements ≡ keys (after_block before m).elements
  same_element_keys = sym (ap keys elements_dropped ∙ keys_dropped nested.new_elements (keys before.elements) m.elements nested.elements)

  name_kept : {c : Setting} {later : Names} (a a' : Activation) → Extends names later → Agrees c names before a → Agrees c later m a' → (name : List ℕ)
      → NameAgrees c a' name (local_bound_to (after_block before m) name) (element_bound_to (after_block before m) name) (resolution_of names name)
  name_kept {c = c} {later = later} a a' e r h name = go (resolution_of names name) refl where
    go : (found : Option Resolution) → resolution_of names name ≡ found → NameAgrees c a' name (local_bound_to (after_block before m) name) (element_bound_to (after_block before m) name) found
    go None is =
        let outer : (local_bound_to before name ≡ None) × (element_bound_to before name ≡ None) = subst (NameAgrees c a name (local_bound_to before name) (element_bound_to before name)) is (r.named name) in (
          none_by_keys name before.locals (after_block before m).locals same_local_keys outer.0,
          none_by_keys name before.elements (after_block before m).elements same_element_keys outer.1,
        )
    go (Some found) is =
        let inner : NameAgrees c a' name (local_bound_to m name) (element_bound_to m name) (Some found) =
        subst (NameAgrees c a' name (local_bound_to m name) (element_bound_to m name)) (e.kept name found is) (h.named name) in
        subst (λ local. NameAgrees c a' name local (element_bound_to (after_block before m) name) (Some found)) (sym (local_kept name found is))
        (subst (λ element. NameAgrees c a' name (local_bound_to m name) element (Some found)) (sym (element_kept name found is)) inner)

  pub left : {c : Setting} {later : Names} (a a' : Activation) → Extends names later → Agrees c names before a → Agrees c later m a' → Agrees c names (after_block before m) a'
  left a a' e r h = record {
    elem = h.elem;
    turns = h.turns;
    named = name_kept a a' e r h;
    fields = h.fields;
    scalars = h.scalars;
    partials = h.partials;
    kept = h.kept;
    numbers_room = h.numbers_room;
    elements_room = h.elements_room;
  }

  nested_after_block : IsNested names before (after_block before m)
  nested_after_block = record { new_locals = []; locals = sym same_local_keys; locals_are_new = tt; new_elements = []; elements = sym same_element_keys; elements_are_new = tt }

-- after the statements of a block: some names more are visible
pub record AgreesWithMore (c : Setting) (names : Names) (m : EvaluationState) (a : Activation) : Type 0 where
  pub later : Names
  pub extends : Extends names later
  pub agrees : Agrees c later m a

block_matches : (c : Setting) (names : Names) (before m : EvaluationState) (a a' : Activation) (acts : List Act) (x y : Result (Unit {0}) Stop) → Agrees c names before a
    → Matches c Same (AgreesWithMore c names) names before m a' acts x y
    → Matches c Same (Agrees c names) names before (continue_with (λ done. modify (after_block before)) m x).after a' acts (continue_with (λ done. modify (after_block before)) m x).answer y
block_matches c names before m a a' acts (Ok x) (Ok y) r h = (tt, left h.2 a a' h.1.extends r h.1.agrees, nested_after_block h.2, h.3)
block_matches c names before m a a' acts (Err (Trapped t)) (Err (Trapped u)) r h = h
block_matches c names before m a a' acts (Err NoMeaning) y r h = tt
block_matches c names before m a a' acts (Ok x) (Err u) r h = absurd h
block_matches c names before m a a' acts (Err (Trapped t)) (Ok y) r h = absurd h
block_matches c names before m a a' acts (Err (Trapped t)) (Err NoMeaning) r h = absurd h

pub simulates_block : {c : Setting} {names : Names} {body : Computation EvaluationState (Unit {0})} {p : Execution (Unit {0})}
    → Simulates c Same (Agrees c names) (AgreesWithMore c names) names body p → Simulates c Same (Agrees c names) (Agrees c names) names (in_block body) p
simulates_block {c = c} {names = names} {body = body} {p = p} h = record {
  at = λ m a r. block_matches c names m (body m).after a (p c.view a).after (p c.view a).acts (body m).answer (p c.view a).answer r (h.at m a r);
}
