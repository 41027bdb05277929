-- The order of iterations.
use Rattle.std.proofs.Common.{◌≡◌, ◌≢◌, ℕ, zero, suc, ◌<◌, ◌==◌, nat_lt, Bool, true, false, List, [], ◌∷◌, ◌++◌, length, Option, Some, None, refl, sym, ap, subst, ◌∙◌, arith, if◌then◌else◌, inl, inr, lt-ltb, ltb-true, eqb-true}
use Rattle.std.proofs.Math.ListN.{get_or, set}
use Rattle.std.proofs.lemmas.Bool.{and_parts, cases_Bool, eqb-false}
use Rattle.std.proofs.lemmas.List.Sorted.{Contains-permutation, IsPermutation-keeps, IsPermutation-sym}
use Rattle.std.specs.List.{AllByRecursion, Contains, filter_map, fold, swap}
use Rattle.std.specs.Option.{option_map}
use Rattle.std.specs.Prelude.{IsPermutation, ℤ}
use Rattle.liszt_base.specs.MeshLists.{MeshLists}
use Rattle.liszt_base.specs.Reductions.{fold as folded}
use Rattle.liszt_base.specs.declared.accesses.Mode.{Mode}
use Rattle.liszt_base.specs.declared.accesses.Mode.TheVariants.{Read, Write, Reduce}
use Rattle.liszt_base.specs.declared.accesses.Spot.{Spot}
use Rattle.liszt_base.specs.declared.elements.Op.{Op}
use Rattle.liszt_base.proofs.Operators.{associates, commutes}
use Rattle.mesh_topology.specs.Elements.{count}
use Rattle.phase_types.specs.Environments.{Comprehension}
use Rattle.phase_types.specs.Typed.{ComprehensionFits}
use Rattle.phase_types.specs.Walk.{OfField, mode_in}
use Rattle.kernel_eval.specs.Iterations.{acts, partial}
use Rattle.kernel_eval.specs.Preservation.{HasTheMode, is_spot, value_after_act, value_after_acts}
use Rattle.kernel_eval.specs.States.{Act, State}
use Rattle.kernel_eval.proofs.ActModeLemmas.{iteration_in_modes}
use Rattle.stencil_infer.specs.Stencils.{LiesIn, iteration_accesses}
use Rattle.stencil_infer.proofs.SoundnessLemmas.{acts_in_accesses}
use Rattle.independence.specs.Independence.{AreIterations, Clash, HasNoClash, acts_of, partials_of}
use Rattle.independence.proofs.SequenceLemmas.{more_acts}

-- FOLDS whose steps commute give the same over each permutation.
module _ {V : Type 0} (f : V → ℕ → V) (commute : (v : V) (x y : ℕ) → f (f v x) y ≡ f (f v y) x) where
  first_exchanged : (rest : List ℕ) (j first d : ℕ) (v : V) → j < length rest → fold f (f v (get_or rest j d)) (set rest j first) ≡ fold f (f v first) rest
  first_exchanged [] j first d v below = absurd (omega (arith, below))
  first_exchanged (y ∷ rest) zero first d v below = ap (λ start. fold f start rest) (commute v y first)
  first_exchanged (z ∷ rest) (suc j) first d v below =
      ap (λ start. fold f start (set rest j first)) (commute v (get_or rest j d) z)
      ∙ first_exchanged rest j first d (f v z) (omega (arith, below))
      ∙ ap (λ start. fold f start rest) (commute v z first)

  exchanged : (list : List ℕ) (i j d : ℕ) (v : V) → i < length list → j < length list → fold f v (set (set list i (get_or list j d)) j (get_or list i d)) ≡ fold f v list
  exchanged [] i j d v p q = absurd (omega (arith, p))
  exchanged (first ∷ rest) zero zero d v p q = refl
  exchanged (first ∷ rest) zero (suc j) d v p q = first_exchanged rest j first d v (omega (arith, q))
  exchanged (first ∷ rest) (suc i) zero d v p q = first_exchanged rest i first d v (omega (arith, p))
  exchanged (first ∷ rest) (suc i) (suc j) d v p q = exchanged rest i j d (f v first) (omega (arith, p)) (omega (arith, q))

  swapped : (list : List ℕ) (i j : ℕ) (v : V) → i < length list → j < length list → fold f v (swap list i j) ≡ fold f v list
  swapped [] i j v p q = absurd (omega (arith, p))
  swapped (first ∷ rest) i j v p q = exchanged (first ∷ rest) i j first v p q

  pub permuted : (xs ys : List ℕ) → IsPermutation xs ys → (v : V) → fold f v ys ≡ fold f v xs
  permuted xs ys same v = IsPermutation-keeps xs (λ list. fold f v list ≡ fold f v xs) refl (λ list i j p q h. swapped list i j v p q ∙ h) ys same

-- ACTS AT A SPOT commute unless both write it.
abbrev at_spot : Spot → Option ℤ → Act → Option ℤ
at_spot spot value act = if is_spot spot act.spot then option_map (value_after_act act.mode act.value) value else value

abbrev Commute : Spot → Act → Act → Type 0
Commute spot a b = (value : Option ℤ) → at_spot spot (at_spot spot value a) b ≡ at_spot spot (at_spot spot value b) a

one_commutes : (spot : Spot) (a : Act) (acts : List Act) → AllByRecursion (Commute spot a) acts → (value : Option ℤ)
    → value_after_acts spot (at_spot spot value a) acts ≡ at_spot spot (value_after_acts spot value acts) a
one_commutes spot a [] all value = refl
one_commutes spot a (b ∷ rest) all value = ap (λ v. value_after_acts spot v rest) (all.0 value) ∙ one_commutes spot a rest all.1 (at_spot spot value b)

lists_commute : (spot : Spot) (first second : List Act) → AllByRecursion (λ a. AllByRecursion (Commute spot a) second) first → (value : Option ℤ)
    → value_after_acts spot (value_after_acts spot value first) second ≡ value_after_acts spot (value_after_acts spot value second) first
lists_commute spot [] second all value = refl
lists_commute spot (a ∷ first) second all value =
    lists_commute spot first second all.1 (at_spot spot value a) ∙ ap (λ v. value_after_acts spot v first) (one_commutes spot a second all.0 value)

operands_commute : (op : Op) (x a b : ℤ) → folded op (folded op x a) b ≡ folded op (folded op x b) a
operands_commute op x a b = associates op x a b ∙ ap (folded op x) (commutes op a b) ∙ sym (associates op x b a)

modes_commute : (m n : Mode) (a b : ℤ) → m ≡ n → (m ≡ Write → ⊥) → (value : Option ℤ)
    → option_map (value_after_act n b) (option_map (value_after_act m a) value) ≡ option_map (value_after_act m a) (option_map (value_after_act n b) value)
modes_commute m n a b same h None = refl
modes_commute Read Read a b same h (Some x) = refl
modes_commute Write n a b same h (Some x) = absurd (h refl)
modes_commute (Reduce op) (Reduce other) a b same h (Some x) = let ops : op ≡ other = cc in rw ops (ap Some (operands_commute other x a b))
modes_commute Read Write a b same h (Some x) = absurd cc
modes_commute Read (Reduce other) a b same h (Some x) = absurd cc
modes_commute (Reduce op) Read a b same h (Some x) = absurd cc
modes_commute (Reduce op) Write a b same h (Some x) = absurd cc

same_spot : (a b : Spot) → is_spot a b ≡ true → a ≡ b
same_spot a b h =
    let parts = and_parts (a.field == b.field) (a.id == b.id) h in
    ap (λ n. record { field = n; id = a.id }) (eqb-true a.field b.field parts.0) ∙ ap (λ n. record { field = b.field; id = n }) (eqb-true a.id b.id parts.1)

some_is : {A : Type 0} (x y : A) → Some x ≡ Some y → x ≡ y
some_is x y e = cc

pair_commutes : (c : Comprehension) (spot : Spot) (a b : Act) → HasTheMode c a → HasTheMode c b
    → (a.spot ≡ b.spot → a.mode ≡ Write → b.mode ≡ Write → ⊥) → Commute spot a b
pair_commutes c spot a b of_a of_b apart value = elim (cases_Bool (is_spot spot a.spot)) [
  | inr h ↦ rw h refl
  | inl h ↦ elim (cases_Bool (is_spot spot b.spot)) [
    | inr i ↦ rw i refl
    | inl i ↦
        let spots : a.spot ≡ b.spot = sym (same_spot spot a.spot h) ∙ same_spot spot b.spot i in
        let modes : a.mode ≡ b.mode = some_is a.mode b.mode (sym of_a ∙ ap (λ (p : Spot). mode_in c (OfField p.field)) spots ∙ of_b) in
        rw (h, i) (modes_commute a.mode b.mode a.value b.value modes (λ w. apart spots w (sym modes ∙ w)) value)
  ]
]

each : {A : Type 0} (P Q R : A → Type 0) → ((x : A) → P x → Q x → R x) → (xs : List A) → AllByRecursion P xs → AllByRecursion Q xs → AllByRecursion R xs
each P Q R step [] p q = tt
each P Q R step (x ∷ xs) p q = (step x p.0 q.0, each P Q R step xs p.1 q.1)

module _ (mesh : MeshLists) (c : Comprehension) (turns : ℕ) (s : State) (typed : ComprehensionFits c) (none : HasNoClash mesh c) where
  -- a write of both would be a clash
  clash_of : (i j : ℕ) (a b : Act) → i ≢ j → LiesIn (iteration_accesses mesh c i) a → LiesIn (iteration_accesses mesh c j) b
      → a.spot ≡ b.spot → a.mode ≡ Write → b.mode ≡ Write → Clash mesh c i j
  clash_of i j a b differ in_a in_b spots of_a of_b =
      record {
        differ = differ;
        spot = a.spot;
        in_first = subst (λ m. Contains (iteration_accesses mesh c i) (record { spot = a.spot; mode = m })) of_a in_a;
        in_second = subst (λ p. Contains (iteration_accesses mesh c j) (record { spot = p; mode = Write })) (sym spots)
            (subst (λ m. Contains (iteration_accesses mesh c j) (record { spot = b.spot; mode = m })) of_b in_b);
      }

  modes_of : (id : ℕ) → AllByRecursion (HasTheMode c) (acts mesh c turns s id)
  modes_of id = (iteration_in_modes mesh c turns s id typed).0 (tt {0})

  iterations_commute : (spot : Spot) (i j : ℕ) → i < count mesh c.over → j < count mesh c.over → i ≢ j → (value : Option ℤ)
      → value_after_acts spot (value_after_acts spot value (acts mesh c turns s i)) (acts mesh c turns s j)
      ≡ value_after_acts spot (value_after_acts spot value (acts mesh c turns s j)) (acts mesh c turns s i)
  iterations_commute spot i j below_i below_j differ =
      lists_commute spot (acts mesh c turns s i) (acts mesh c turns s j)
      (each (HasTheMode c) (LiesIn (iteration_accesses mesh c i)) (λ a. AllByRecursion (Commute spot a) (acts mesh c turns s j))
      (λ a of_a in_a. each (HasTheMode c) (LiesIn (iteration_accesses mesh c j)) (Commute spot a)
      (λ b of_b in_b. pair_commutes c spot a b of_a of_b (λ spots v w. none i j below_i below_j (clash_of i j a b differ in_a in_b spots v w)))
      (acts mesh c turns s j) (modes_of j) (acts_in_accesses mesh c turns s j))
      (acts mesh c turns s i) (modes_of i) (acts_in_accesses mesh c turns s i))

  abbrev value_step : Spot → Option ℤ → ℕ → Option ℤ
  value_step spot value id = if nat_lt id (count mesh c.over) then value_after_acts spot value (acts mesh c turns s id) else value

  steps_commute : (spot : Spot) (value : Option ℤ) (i j : ℕ) → value_step spot (value_step spot value i) j ≡ value_step spot (value_step spot value j) i
  steps_commute spot value i j = elim (cases_Bool (nat_lt i (count mesh c.over))) [
    | inr h ↦ rw h refl
    | inl h ↦ elim (cases_Bool (nat_lt j (count mesh c.over))) [
      | inr k ↦ rw k refl
      | inl k ↦ elim (cases_Bool (i == j)) [
        | inl e ↦ rw (eqb-true i j e) refl
        | inr e ↦ rw (h, k) (iterations_commute spot i j (ltb-true i (count mesh c.over) h) (ltb-true j (count mesh c.over) k) (eqb-false i j e) value)
      ]
    ]
  ]

  as_steps : (spot : Spot) (ids : List ℕ) (value : Option ℤ) → AreIterations mesh c ids → value_after_acts spot value (acts_of mesh c turns s ids) ≡ fold (value_step spot) value ids
  as_steps spot [] value are = refl
  as_steps spot (id ∷ ids) value are =
      more_acts spot value (acts mesh c turns s id) (acts_of mesh c turns s ids)
      ∙ as_steps spot ids (value_after_acts spot value (acts mesh c turns s id)) (λ other h. are other (suc h.0, omega (arith, h.1), h.2))
      ∙ ap (λ start. fold (value_step spot) start ids) (sym (rw (lt-ltb id (count mesh c.over) (are id (0, omega arith, refl))) refl))

  pub values_permuted : (spot : Spot) (ids others : List ℕ) (value : Option ℤ) → AreIterations mesh c ids → AreIterations mesh c others → IsPermutation ids others
      → value_after_acts spot value (acts_of mesh c turns s others) ≡ value_after_acts spot value (acts_of mesh c turns s ids)
  values_permuted spot ids others value are those same =
      as_steps spot others value those ∙ permuted (value_step spot) (steps_commute spot) ids others same value ∙ sym (as_steps spot ids value are)

-- PARTIALS of a scalar
abbrev fold_some : Op → ℤ → Option ℤ → ℤ
fold_some op old None = old
fold_some op old (Some value) = folded op old value

some_commute : (op : Op) (old : ℤ) (a b : Option ℤ) → fold_some op (fold_some op old a) b ≡ fold_some op (fold_some op old b) a
some_commute op old None b = refl
some_commute op old (Some a) None = refl
some_commute op old (Some a) (Some b) = operands_commute op old a b

module _ (mesh : MeshLists) (c : Comprehension) (turns : ℕ) (s : State) (scalar : ℕ) (op : Op) where
  partials_as_steps : (ids : List ℕ) (old : ℤ)
      → fold (folded op) old (partials_of mesh c turns s scalar ids) ≡ fold (λ value id. fold_some op value (partial mesh c turns s id scalar)) old ids
  partials_as_steps [] old = refl
  partials_as_steps (id ∷ ids) old = go (partials_as_steps ids) (partial mesh c turns s id scalar) refl where
    go : ((old : ℤ) → fold (folded op) old (partials_of mesh c turns s scalar ids) ≡ fold (λ value id. fold_some op value (partial mesh c turns s id scalar)) old ids)
        → (value : Option ℤ) → partial mesh c turns s id scalar ≡ value
        → fold (folded op) old (partials_of mesh c turns s scalar (id ∷ ids)) ≡ fold (λ value id. fold_some op value (partial mesh c turns s id scalar)) (fold_some op old (partial mesh c turns s id scalar)) ids
    go rest None is = rw is (rest old)
    go rest (Some value) is = rw is (rest (folded op old value))

  pub partials_permuted : (ids others : List ℕ) (old : ℤ) → IsPermutation ids others
      → fold (folded op) old (partials_of mesh c turns s scalar others) ≡ fold (folded op) old (partials_of mesh c turns s scalar ids)
  partials_permuted ids others old same =
      partials_as_steps others old
      ∙ permuted (λ value id. fold_some op value (partial mesh c turns s id scalar)) (λ value i j. some_commute op value (partial mesh c turns s i scalar) (partial mesh c turns s j scalar)) ids others same old
      ∙ sym (partials_as_steps ids old)
