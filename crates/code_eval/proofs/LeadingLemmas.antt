-- An execution leads to another.
use Rattle.std.proofs.Common.{◌≡◌, ◌≢◌, ◌≤◌, ℕ, Bool, true, false, List, [], ◌∷◌, ◌++◌, refl, sym, ap, ◌∙◌, subst, append_assoc, append-nil, eqb-true, arith, inl, inr}
use Rattle.std.proofs.lemmas.Bool.{cases_Bool, and_parts}
use Rattle.std.proofs.lemmas.Result.{err_from_is_err_and}
use Rattle.std.specs.Option.{option_map}
use Rattle.std.specs.Result.{IsErrAnd}
use Rattle.std.specs.Prelude.{Option, Some, None, ℤ, Result, Ok, Err, ◌&&◌, ◌||◌, cond}
use mir.Val.{to_z, of_z, SFits}
use mir.Syntax.{w64}
use Rattle.std.proofs.lemmas.Int.{to_z-of_z}
use Rattle.liszt_base.specs.Reductions.{fold}
use Rattle.liszt_base.specs.declared.accesses.Mode.{Mode}
use Rattle.liszt_base.specs.declared.accesses.Mode.TheVariants.{Read, Write, Reduce}
use Rattle.liszt_base.specs.declared.accesses.Spot.{Spot}
use Rattle.liszt_base.specs.declared.elements.Op.{Op}
use Rattle.phase_types.specs.Environments.{is_built_in}
use Rattle.code_eval.specs.Acts.{Act, is_spot, value_by, value_after_act, value_after, changes_value, is_changed}
use Rattle.code_eval.specs.Executions.{Activation, Executed, Execution, answered, pure, act, stop_in, after_acts, continue_with, ◌>>=◌, HasLed, LeadsTo, CanRun}
use Rattle.code_eval.specs.Stops.{Stop, Trapped, NoMeaning}
use Rattle.code_eval.specs.declared.activation.Stopped.{Stopped}
use Rattle.code_eval.specs.Stores.{Entry, Load, Store, StoreView, HasSameSpots, IsLoad, IsStore, stored, CallsFor, ForNothing, ForBuiltIn, ForRead, ForWrite, ForReduce, HasActed, AdmitsBy, AdmitsAll, Admits}
use Rattle.code_eval.specs.Meaning.{read_value}

-- ACTS in sequence
value_after_both : (xs ys : List Act) (spot : Spot) (v : ℤ) → value_after (xs ++ ys) spot v ≡ value_after ys spot (value_after xs spot v)
value_after_both [] ys spot v = refl
value_after_both (x ∷ xs) ys spot v = value_after_both xs ys spot (value_after_act x spot v)

or_assoc : (a b c : Bool) → ((a || b) || c) ≡ (a || (b || c))
or_assoc true b c = refl
or_assoc false b c = refl

changed_by_both : (xs ys : List Act) (spot : Spot) → is_changed (xs ++ ys) spot ≡ (is_changed xs spot || is_changed ys spot)
changed_by_both [] ys spot = refl
changed_by_both (x ∷ xs) ys spot = ap (λ b. (is_spot x.spot spot && changes_value x.mode) || b) (changed_by_both xs ys spot) ∙ sym (or_assoc (is_spot x.spot spot && changes_value x.mode) (is_changed xs spot) (is_changed ys spot))

calls_for_both : {xs ys : List Act} {es fs : List Entry} → CallsFor xs es → CallsFor ys fs → CallsFor (xs ++ ys) (es ++ fs)
calls_for_both ForNothing k = k
calls_for_both (ForBuiltIn spot v b h) k = ForBuiltIn spot v b (calls_for_both h k)
calls_for_both (ForRead spot v b h) k = ForRead spot v b (calls_for_both h k)
calls_for_both (ForWrite spot v h) k = ForWrite spot v (calls_for_both h k)
calls_for_both (ForReduce spot v old h) k = ForReduce spot v old (calls_for_both h k)

spots_then : {s t u : StoreView} → HasSameSpots s t → HasSameSpots t u → HasSameSpots s u
spots_then h k = record { loadable = k.loadable ∙ h.loadable; storable = k.storable ∙ h.storable }

false_flag : (flag : Option Bool) → flag ≡ option_map (λ b. false || b) flag
false_flag None = refl
false_flag (Some b) = refl

both_flags : (a b : Bool) (flag : Option Bool) → option_map (λ f. b || f) (option_map (λ f. a || f) flag) ≡ option_map (λ f. (a || b) || f) flag
both_flags a b None = refl
both_flags true true (Some f) = refl
both_flags true false (Some f) = refl
both_flags false b (Some f) = refl

pub acted_nothing : (s : StoreView) → HasActed [] s s
acted_nothing s = record {
  spots = record { loadable = refl; storable = refl };
  values = λ spot. refl;
  flags = λ spot. false_flag (s.flags spot);
  logged = λ entries e. record { new_entries = []; logged = e ∙ ap Some (sym (append-nil entries)); calls = ForNothing };
}

pub acted_then : {xs ys : List Act} {s t u : StoreView} → HasActed xs s t → HasActed ys t u → HasActed (xs ++ ys) s u
acted_then {xs = xs} {ys = ys} {s = s} {t = t} h k = record {
  spots = spots_then h.spots k.spots;
  values = λ spot. k.values spot ∙ ap (value_after ys spot) (h.values spot) ∙ sym (value_after_both xs ys spot (s.values spot));
  flags = λ spot.
      k.flags spot ∙ ap (option_map (λ f. is_changed ys spot || f)) (h.flags spot)
      ∙ both_flags (is_changed xs spot) (is_changed ys spot) (s.flags spot) ∙ ap (λ b. option_map (λ f. b || f) (s.flags spot)) (sym (changed_by_both xs ys spot));
  logged = λ entries e.
      let a = h.logged entries e in
      let b = k.logged (entries ++ a.new_entries) a.logged in
      record { new_entries = a.new_entries ++ b.new_entries; logged = b.logged ∙ ap Some (append_assoc entries a.new_entries b.new_entries); calls = calls_for_both a.calls b.calls };
}

-- WHAT A STORE ADMITS: the first acts, and those after them once the first are done
admits_first : (modes : ℕ → Option Mode) (s : StoreView) (xs ys : List Act) → AdmitsAll modes s (xs ++ ys) → AdmitsAll modes s xs
admits_first modes s [] ys h = tt
admits_first modes s (x ∷ xs) ys h = (h.0, admits_first modes s xs ys h.1)

admits_second : (modes : ℕ → Option Mode) (s : StoreView) (xs ys : List Act) → AdmitsAll modes s (xs ++ ys) → AdmitsAll modes s ys
admits_second modes s [] ys h = h
admits_second modes s (x ∷ xs) ys h = admits_second modes s xs ys h.1

is_same_spot : (a b : Spot) → is_spot a b ≡ true → a ≡ b
is_same_spot a b e = let p = and_parts _ _ e in
    ap (λ n. record { field = n; id = a.id }) (eqb-true a.field b.field p.0) ∙ ap (λ n. record { field = b.field; id = n }) (eqb-true a.id b.id p.1)

same_field : (a b : Spot) → is_spot a b ≡ true → a.field ≡ b.field
same_field a b e = eqb-true a.field b.field (and_parts _ _ e).0

kept_by_read : (modes : ℕ → Option Mode) (x : Act) (spot : Spot) (v : ℤ) → modes x.spot.field ≡ Some x.mode → modes spot.field ≡ Some Read
    → is_spot x.spot spot ≡ true → value_by x.mode x.value v ≡ v
kept_by_read modes x spot v h r e =
    let is : x.mode ≡ Read = cc (h, r, ap modes (same_field x.spot spot e)) in rw is refl

read_is_kept : (modes : ℕ → Option Mode) (s : StoreView) (xs : List Act) (spot : Spot) (v : ℤ) → AdmitsAll modes s xs → modes spot.field ≡ Some Read
    → value_after xs spot v ≡ v
read_is_kept modes s [] spot v h r = refl
read_is_kept modes s (x ∷ xs) spot v h r = elim (cases_Bool (is_spot x.spot spot)) [
  | inl is ↦ rw (is, kept_by_read modes x spot v h.0.0 r is) (read_is_kept modes s xs spot v h.1 r)
  | inr is ↦ rw is (read_is_kept modes s xs spot v h.1 r)
]

admits_after : (modes : ℕ → Option Mode) (s t : StoreView) (xs ys : List Act) → HasActed xs s t → AdmitsAll modes s xs → AdmitsAll modes s ys → AdmitsAll modes t ys
admits_after modes s t xs [] a h k = tt
admits_after modes s t xs (y ∷ ys) a h k = ((k.0.0, λ b. by y.mode refl (k.0.1 b), k.0.2), admits_after modes s t xs ys a h k.1) where
  by : (mode : Mode) → y.mode ≡ mode → AdmitsBy s y mode → AdmitsBy t y mode
  by Read e g = (ap (λ f. f y.spot) a.spots.loadable ∙ g.0, a.values y.spot ∙ read_is_kept modes s xs y.spot _ h (k.0.0 ∙ ap Some e) ∙ g.1)
  by Write e g = ap (λ f. f y.spot) a.spots.storable ∙ g
  by (Reduce op) e g = (ap (λ f. f y.spot) a.spots.loadable ∙ g.0, ap (λ f. f y.spot) a.spots.storable ∙ g.1)

admitted_first : (xs ys : List Act) {s : StoreView} → Admits s (xs ++ ys) → Admits s xs
admitted_first xs ys {s = s} h = record { modes = h.modes; all = admits_first h.modes s xs ys h.all }

admitted_second : (xs ys : List Act) {s t : StoreView} → HasActed xs s t → Admits s (xs ++ ys) → Admits t ys
admitted_second xs ys {s = s} {t = t} a h = record {
  modes = h.modes;
  all = admits_after h.modes s t xs ys a (admits_first h.modes s xs ys h.all) (admits_second h.modes s xs ys h.all);
}

-- LEADING TO an execution: by a change of the activation, and at once
pub changed : {A : Type 0} {p q : Execution A} {a b : Activation} {s : StoreView} → b.turns ≤ a.turns
    → ((view : Spot → ℤ) → p view a ≡ q view b) → LeadsTo p a s q b s
changed {s = s} fewer e = record { turns = fewer; leads = λ view h. record { acts = []; is = e view; acted = acted_nothing s } }

pub at_once : {A : Type 0} {p q : Execution A} {a : Activation} {s : StoreView} → ((view : Spot → ℤ) → p view a ≡ q view a) → LeadsTo p a s q a s
at_once e = changed (omega arith) e

admits_rest : {A : Type 0} {whole rest : Executed A} {s t : StoreView} → HasLed whole rest s t → Admits s whole.acts → Admits t rest.acts
admits_rest {rest = rest} {s = s} h g = admitted_second h.acts rest.acts h.acted (subst (λ r. Admits s r.acts) h.is g)

pub then : {A : Type 0} {p q r : Execution A} {a b c : Activation} {s t u : StoreView} → LeadsTo p a s q b t → LeadsTo q b t r c u → LeadsTo p a s r c u
then {r = r} {c = c} h g = record {
  turns = omega (arith, h.turns, g.turns);
  leads = λ view admits.
      let x = h.leads view admits in
      let y = g.leads view (admits_rest x admits) in
      record {
        acts = x.acts ++ y.acts;
        is = x.is ∙ ap (after_acts x.acts) y.is
            ∙ ap (λ acts. record { after = (r view c).after; acts = acts; answer = (r view c).answer }) (sym (append_assoc x.acts y.acts (r view c).acts));
        acted = acted_then x.acted y.acted;
      };
}

first_admitted : {A B : Type 0} (f : A → Execution B) (view : Spot → ℤ) (a : Activation) (acts : List Act) (answer : Result A Stop) (s : StoreView)
    → Admits s (continue_with f view a acts answer).acts → Admits s acts
first_admitted f view a acts (Ok v) s h = admitted_first acts (f v view a).acts h
first_admitted f view a acts (Err stop) s h = h

continue_after : {A B : Type 0} (f : A → Execution B) (view : Spot → ℤ) (a : Activation) (xs acts : List Act) (answer : Result A Stop)
    → continue_with f view a (xs ++ acts) answer ≡ after_acts xs (continue_with f view a acts answer)
continue_after f view a xs acts (Ok v) =
    ap (λ acts. record { after = (f v view a).after; acts = acts; answer = (f v view a).answer }) (append_assoc xs acts (f v view a).acts)
continue_after f view a xs acts (Err stop) = refl

pub inside : {A B : Type 0} {p q : Execution A} {a b : Activation} {s t : StoreView} (f : A → Execution B) → LeadsTo p a s q b t → LeadsTo (p >>= f) a s (q >>= f) b t
unfolding ◌>>=◌
inside {p = p} {q = q} {a = a} {b = b} {s = s} f h = record {
  turns = h.turns;
  leads = λ view admits.
      let x = h.leads view (first_admitted f view (p view a).after (p view a).acts (p view a).answer s admits) in
      record {
        acts = x.acts;
        is = ap (λ r. continue_with f view r.after r.acts r.answer) x.is ∙ continue_after f view (q view b).after x.acts (q view b).acts (q view b).answer;
        acted = x.acted;
      };
}

-- a part that gave a value, and one that stopped
pub given_value : {A B : Type 0} {p : Execution A} (f : A → Execution B) {a b : Activation} {s t : StoreView} {v : A}
    → LeadsTo p a s (pure v) b t → LeadsTo (p >>= f) a s (f v) b t
unfolding ◌>>=◌
given_value f {v = v} h = then (inside f h) (at_once (λ view. refl))

pub stopped : {A B : Type 0} {p : Execution A} (f : A → Execution B) {a b : Activation} {s t : StoreView} {stop : Stop}
    → LeadsTo p a s (answered (Err stop)) b t → LeadsTo (p >>= f) a s (answered (Err stop)) b t
unfolding ◌>>=◌
stopped f h = then (inside f h) (at_once (λ view. refl))

-- the exit of a `?`
pub stop_handed_on : {A B : Type 0} (Q : Stopped → Type 0) {p : Execution A} (f : A → Execution B) (r : Result B Stopped) {a b : Activation} {s t : StoreView}
    → IsErrAnd r Q → LeadsTo p a s (answered (Err (Trapped b.trap))) b t → LeadsTo (p >>= f) a s (answered (stop_in r b)) b t
stop_handed_on Q f r e h = let is = err_from_is_err_and r e in rw is.1 (stopped f h)

-- WHAT CAN RUN
first_has_meaning : {A B : Type 0} (f : A → Execution B) (view : Spot → ℤ) (a : Activation) (acts : List Act) (answer : Result A Stop)
    → (continue_with f view a acts answer).answer ≢ Err NoMeaning → answer ≢ Err NoMeaning
first_has_meaning f view a acts (Ok v) h e = absurd cc
first_has_meaning f view a acts (Err stop) h e = h (cc e)

pub can_first : {A B : Type 0} {p : Execution A} (f : A → Execution B) {a : Activation} {s : StoreView} → CanRun (p >>= f) a s → CanRun p a s
unfolding ◌>>=◌
can_first {p = p} f {a = a} {s = s} h = record {
  view = h.view;
  admits = first_admitted f h.view (p h.view a).after (p h.view a).acts (p h.view a).answer s h.admits;
  has_meaning = first_has_meaning f h.view (p h.view a).after (p h.view a).acts (p h.view a).answer h.has_meaning;
}

pub can_then : {A : Type 0} {p q : Execution A} {a b : Activation} {s t : StoreView} → CanRun p a s → LeadsTo p a s q b t → CanRun q b t
can_then h c =
    let x = c.leads h.view h.admits in
    record { view = h.view; admits = admits_rest x h.admits; has_meaning = λ e. h.has_meaning (ap (λ r. r.answer) x.is ∙ e) }

-- NUMBERS that are handed on
pub number_given : {p : Execution ℤ} {a b : Activation} {s t : StoreView} {n : ℤ} → SFits w64 n → LeadsTo p a s (pure n) b t → LeadsTo p a s (pure (to_z w64 (of_z w64 n))) b t
number_given {p = p} {a = a} {b = b} {s = s} {t = t} {n = n} fits h = subst (λ v. LeadsTo p a s (pure v) b t) (sym (to_z-of_z w64 n fits)) h

-- A READ of a built-in field, and a load
pub built_in_acted : (spot : Spot) (value : ℤ) (s : StoreView) → is_built_in spot.field ≡ true → HasActed (record { spot = spot; mode = Read; value = value } ∷ []) s s
built_in_acted spot value s b = record {
  spots = record { loadable = refl; storable = refl };
  values = λ other. same_if (is_spot spot other) (s.values other);
  flags = λ other. flag_if (is_spot spot other) (s.flags other);
  logged = λ entries is. record { new_entries = []; logged = is ∙ ap Some (sym (append-nil entries)); calls = ForBuiltIn spot value b ForNothing };
} where
  same_if : (b : Bool) (v : ℤ) → v ≡ cond b v v
  same_if true v = refl
  same_if false v = refl

  flag_if : (b : Bool) (flag : Option Bool) → flag ≡ option_map (λ f. ((b && false) || false) || f) flag
  flag_if true flag = false_flag flag
  flag_if false flag = false_flag flag

pub built_in_given : {spot : Spot} {value : ℤ} {a : Activation} {s : StoreView} → is_built_in spot.field ≡ true → LeadsTo (read_value spot value) a s (pure value) a s
built_in_given {spot = spot} {value = value} {s = s} b = record {
  turns = omega arith;
  leads = λ view admits. record { acts = record { spot = spot; mode = Read; value = value } ∷ []; is = refl; acted = built_in_acted spot value s b };
}

acted_load : (spot : Spot) (value seen : ℤ) (s t : StoreView) → is_built_in spot.field ≡ false → value ≡ seen → IsLoad spot value s t
    → HasActed (record { spot = spot; mode = Read; value = seen } ∷ []) s t
acted_load spot value seen s t b e h = subst (λ n. HasActed (record { spot = spot; mode = Read; value = n } ∷ []) s t) e record {
  spots = h.spots;
  values = λ other. h.values other ∙ same_if (is_spot spot other) (s.values other);
  flags = λ other. h.flags other ∙ flag_if (is_spot spot other) (s.flags other);
  logged = λ entries is. record { new_entries = Load spot value ∷ []; logged = h.logged.logged entries is; calls = ForRead spot value b ForNothing };
} where
  same_if : (b : Bool) (v : ℤ) → v ≡ cond b v v
  same_if true v = refl
  same_if false v = refl

  flag_if : (b : Bool) (flag : Option Bool) → flag ≡ option_map (λ f. ((b && false) || false) || f) flag
  flag_if true flag = false_flag flag
  flag_if false flag = false_flag flag

pub load_given : {spot : Spot} {value : ℤ} {a : Activation} {s t : StoreView} → is_built_in spot.field ≡ false → IsLoad spot value s t
    → LeadsTo (λ view a. read_value spot (view spot) view a) a s (pure value) a t
load_given {spot = spot} {value = value} {a = a} {s = s} {t = t} b h = record {
  turns = omega arith;
  leads = λ view admits.
      let e : value ≡ view spot = h.is ∙ (admits.all.0.1 b).1 in
      record {
        acts = record { spot = spot; mode = Read; value = view spot } ∷ [];
        is = ap (λ n. record { after = a; acts = record { spot = spot; mode = Read; value = view spot } ∷ []; answer = Ok n }) (sym e);
        acted = acted_load spot value (view spot) s t b e h;
      };
}

-- A STORE, and one directly after a load
changed_flag : (b : Bool) (flag : Option Bool) → option_map (λ f. b || f) flag ≡ option_map (λ f. ((b && true) || false) || f) flag
changed_flag true flag = refl
changed_flag false flag = refl

acted_store : (spot : Spot) (value : ℤ) (s t : StoreView) → IsStore spot value s t → HasActed (record { spot = spot; mode = Write; value = value } ∷ []) s t
acted_store spot value s t h = record {
  spots = h.spots;
  values = h.values;
  flags = λ other. h.flags other ∙ changed_flag (is_spot spot other) (s.flags other);
  logged = λ entries is. record { new_entries = Store spot value ∷ []; logged = h.logged.logged entries is; calls = ForWrite spot value ForNothing };
}

pub store_given : {spot : Spot} {value : ℤ} {a : Activation} {s t : StoreView} → IsStore spot value s t
    → LeadsTo (act (record { spot = spot; mode = Write; value = value }) (tt {0})) a s (pure (tt {0})) a t
store_given {spot = spot} {value = value} {s = s} {t = t} h = record {
  turns = omega arith;
  leads = λ view admits. record { acts = record { spot = spot; mode = Write; value = value } ∷ []; is = refl; acted = acted_store spot value s t h };
}

acted_reduction : (op : Op) (spot : Spot) (value old : ℤ) (s t u : StoreView) → IsLoad spot old s t → IsStore spot (fold op old value) t u
    → HasActed (record { spot = spot; mode = Reduce op; value = value } ∷ []) s u
acted_reduction op spot value old s t u h k = record {
  spots = spots_then h.spots k.spots;
  values = λ other. k.values other ∙ ap (stored spot (fold op old value) other) (h.values other) ∙ at_spot (is_spot spot other) other refl;
  flags = λ other. k.flags other ∙ ap (option_map (λ f. is_spot spot other || f)) (h.flags other) ∙ changed_flag (is_spot spot other) (s.flags other);
  logged = λ entries is. record {
    new_entries = Load spot old ∷ Store spot (fold op old value) ∷ [];
    logged = k.logged.logged _ (h.logged.logged entries is) ∙ ap Some (append_assoc entries (Load spot old ∷ []) (Store spot (fold op old value) ∷ []));
    calls = ForReduce spot value old ForNothing;
  };
} where
  at_spot : (b : Bool) (other : Spot) → is_spot spot other ≡ b
      → cond (is_spot spot other) (fold op old value) (s.values other) ≡ cond (is_spot spot other) (fold op (s.values other) value) (s.values other)
  at_spot true other e =
      let same : spot ≡ other = is_same_spot spot other e in
      rw e (ap (λ v. fold op v value) (h.is ∙ ap s.values same))
  at_spot false other e = rw e refl

pub reduction_given : {op : Op} {spot : Spot} {value old : ℤ} {a : Activation} {s t u : StoreView} → IsLoad spot old s t → IsStore spot (fold op old value) t u
    → LeadsTo (act (record { spot = spot; mode = Reduce op; value = value }) (tt {0})) a s (pure (tt {0})) a u
reduction_given {op = op} {spot = spot} {value = value} {old = old} {s = s} {t = t} {u = u} h k = record {
  turns = omega arith;
  leads = λ view admits. record { acts = record { spot = spot; mode = Reduce op; value = value } ∷ []; is = refl; acted = acted_reduction op spot value old s t u h k };
}
