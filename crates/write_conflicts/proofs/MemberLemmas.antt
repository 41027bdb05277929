-- Members of filters and of images of lists; the spots that accesses reduce and write.
use Rattle.std.proofs.Common.{◌≡◌, ◌⊎◌, ℕ, zero, suc, ◌<◌, Bool, true, false, cond, List, [], ◌∷◌, map, length, get_or}
use Rattle.std.proofs.Common.{refl, sym, ap, subst, ◌∙◌, inl, inr, arith}
use Rattle.std.specs.List.{filter, flat_map, Contains}
use Rattle.std.proofs.lemmas.List.Concat.{flat_map-cons}
use Rattle.std.proofs.lemmas.List.Elements.{All-contains, All-filter, All-contains_itself, filter_passes, Contains-append_left, Contains-append_right, Contains-append_cases, Contains-get_or}
use Rattle.liszt_base.specs.declared.accesses.Access.{Access}
use Rattle.liszt_base.specs.declared.accesses.Mode.{Mode}
use Rattle.liszt_base.specs.declared.accesses.Mode.TheVariants.{Read, Write, Reduce}
use Rattle.liszt_base.specs.declared.accesses.Spot.{Spot}
use Rattle.liszt_base.specs.declared.elements.Op.{Op}
use Rattle.write_conflicts.specs.Conflicts.{is_reduction, reduced_spots, accesses_at, Reduces, Writes}
use Rattle.write_conflicts.specs.Internal.Rows.{is_write, Writer, writers_in}

pub contains_first : {A : Type 0} (x y : A) (xs : List A) → x ≡ y → Contains (x ∷ xs) y
contains_first x y xs e = (0, omega arith, e)

pub contains_later : {A : Type 0} (x y : A) (xs : List A) → Contains xs y → Contains (x ∷ xs) y
contains_later x y xs m = (suc m.0, omega (arith, m.1), m.2)

pub contains_cases : {A : Type 0} (x y : A) (xs : List A) → Contains (x ∷ xs) y → (x ≡ y) ⊎ Contains xs y
contains_cases x y xs (zero, lt, e) = inl e
contains_cases x y xs (suc k, lt, e) = inr (k, omega (arith, lt), e)

pub not_in_nil : {A : Type 0} (x : A) → Contains [] x → ⊥
not_in_nil x m = absurd (omega (arith, m.1))

filter_contains : {A : Type 0} (p : A → Bool) (xs : List A) (y : A) → Contains xs y → p y ≡ true → Contains (filter p xs) y
filter_contains p [] y m h = absurd (omega (arith, m.1))
filter_contains p (x ∷ xs) y (zero, lt, e) h =
    subst (λ (b : Bool). Contains (cond b (x ∷ filter p xs) (filter p xs)) y) (sym h ∙ ap p (sym e)) (contains_first x y (filter p xs) e)
filter_contains p (x ∷ xs) y (suc k, lt, e) h =
    more (p x) (filter_contains p xs y (k, omega (arith, lt), e) h) where
      more : (b : Bool) → Contains (filter p xs) y → Contains (cond b (x ∷ filter p xs) (filter p xs)) y
      more true m = contains_later x y (filter p xs) m
      more false m = m

filter_member : {A : Type 0} (p : A → Bool) (xs : List A) (y : A) → Contains (filter p xs) y → Contains xs y × (p y ≡ true)
filter_member p xs y m = (
  All-contains (Contains xs) (filter p xs) y (All-filter p (Contains xs) xs (All-contains_itself xs)) m,
  All-contains (λ x. p x ≡ true) (filter p xs) y (filter_passes p xs) m,
)

pub map_contains : {A B : Type 0} (f : A → B) (xs : List A) (y : A) (x : B) → Contains xs y → f y ≡ x → Contains (map f xs) x
map_contains f [] y x m e = absurd (omega (arith, m.1))
map_contains f (a ∷ xs) y x (zero, lt, h) e = contains_first (f a) x (map f xs) (ap f h ∙ e)
map_contains f (a ∷ xs) y x (suc k, lt, h) e = contains_later (f a) x (map f xs) (map_contains f xs y x (k, omega (arith, lt), h) e)

pub contains_map : {A B : Type 0} (f : A → B) (xs : List A) (x : B) → Contains (map f xs) x → (y : A) × Contains xs y × (f y ≡ x)
contains_map f [] x m = absurd (omega (arith, m.1))
contains_map f (a ∷ xs) x (zero, lt, e) = (a, contains_first a a xs refl, e)
contains_map f (a ∷ xs) x (suc k, lt, e) =
    let r = contains_map f xs x (k, omega (arith, lt), e) in (r.0, contains_later a r.0 xs r.1, r.2)

-- what the modes say
mode_reduces : (mode : Mode) → is_reduction mode ≡ true → (op : Op) × (mode ≡ Reduce op)
mode_reduces Read e = cc
mode_reduces Write e = cc
mode_reduces (Reduce op) e = (op, refl)

mode_writes : (mode : Mode) → is_write mode ≡ true → mode ≡ Write
mode_writes Read e = cc
mode_writes Write e = refl
mode_writes (Reduce op) e = cc

-- the reduced spots are the spots that are reduced
pub contains_reduced : (accesses : List Access) (spot : Spot) → Contains (reduced_spots accesses) spot → Reduces accesses spot
contains_reduced accesses spot m =
    let r = contains_map (λ (a : Access). a.spot) (filter (λ (a : Access). is_reduction a.mode) accesses) spot m in
    let a = r.0 in
    let k = filter_member (λ (a : Access). is_reduction a.mode) accesses a r.1 in
    let how = mode_reduces a.mode k.1 in
    let is : a ≡ record { spot = spot; mode = Reduce how.0 } =
    ap (λ s. record { spot = s; mode = a.mode }) r.2 ∙ ap (λ m'. record { spot = spot; mode = m' }) how.1 in
    (how.0, subst (λ x. Contains accesses x) is k.0)

pub reduced_contains : (accesses : List Access) (spot : Spot) → Reduces accesses spot → Contains (reduced_spots accesses) spot
reduced_contains accesses spot h =
    let a : Access = record { spot = spot; mode = Reduce h.0 } in
    map_contains (λ (a : Access). a.spot) (filter (λ (a : Access). is_reduction a.mode) accesses) a spot
    (filter_contains (λ (a : Access). is_reduction a.mode) accesses a h.1 refl) refl

-- the spot of an access that reduces is one of them
pub reduced_at : (accesses : List Access) (k : ℕ) (d : Access) → k < length accesses → is_reduction (get_or accesses k d).mode ≡ true
    → Contains (reduced_spots accesses) (get_or accesses k d).spot
reduced_at accesses k d lt h =
    let a = get_or accesses k d in
    map_contains (λ (a : Access). a.spot) (filter (λ (a : Access). is_reduction a.mode) accesses) a a.spot
    (filter_contains (λ (a : Access). is_reduction a.mode) accesses a (Contains-get_or accesses k d lt) h) refl

-- the reduced spots of all lists
pub contains_flat : (lists : List (List Access)) (spot : Spot) → Contains (flat_map reduced_spots lists) spot
    → (i : ℕ) × Contains (reduced_spots (accesses_at lists i)) spot
contains_flat [] spot m = absurd (not_in_nil spot m)
contains_flat (list ∷ lists) spot m =
    elim (Contains-append_cases (reduced_spots list) (flat_map reduced_spots lists) spot
    (subst (λ l. Contains l spot) (flat_map-cons reduced_spots list lists) m)) [
      | inl here ↦ (0, here)
      | inr later ↦ let r = contains_flat lists spot later in (suc r.0, r.1)
    ]

pub flat_contains : (lists : List (List Access)) (i : ℕ) (spot : Spot) → Contains (reduced_spots (accesses_at lists i)) spot
    → Contains (flat_map reduced_spots lists) spot
flat_contains [] i spot m = absurd (not_in_nil spot m)
flat_contains (list ∷ lists) zero spot m =
    subst (λ l. Contains l spot) (sym (flat_map-cons reduced_spots list lists))
    (Contains-append_left (reduced_spots list) (flat_map reduced_spots lists) spot m)
flat_contains (list ∷ lists) (suc i) spot m =
    subst (λ l. Contains l spot) (sym (flat_map-cons reduced_spots list lists))
    (Contains-append_right (reduced_spots list) (flat_map reduced_spots lists) spot (flat_contains lists i spot m))

-- the writers in a list are its writes
pub contains_writer : (i : ℕ) (accesses : List Access) (w : Writer) → Contains (writers_in i accesses) w
    → (w.iteration ≡ i) × Writes accesses w.spot
contains_writer i accesses w m =
    let f : Access → Writer = λ a. record { spot = a.spot; iteration = i } in
    let r = contains_map f (filter (λ (a : Access). is_write a.mode) accesses) w m in
    let a = r.0 in
    let k = filter_member (λ (a : Access). is_write a.mode) accesses a r.1 in
    let is : a ≡ record { spot = w.spot; mode = Write } =
    ap (λ s. record { spot = s; mode = a.mode }) (ap (λ (v : Writer). v.spot) r.2)
    ∙ ap (λ m'. record { spot = w.spot; mode = m' }) (mode_writes a.mode k.1) in
    (sym (ap (λ (v : Writer). v.iteration) r.2), subst (λ x. Contains accesses x) is k.0)

pub writer_contains : (i : ℕ) (accesses : List Access) (spot : Spot) → Writes accesses spot
    → Contains (writers_in i accesses) (record { spot = spot; iteration = i })
writer_contains i accesses spot m =
    let a : Access = record { spot = spot; mode = Write } in
    let f : Access → Writer = λ a. record { spot = a.spot; iteration = i } in
    map_contains f (filter (λ (a : Access). is_write a.mode) accesses) a (record { spot = spot; iteration = i })
    (filter_contains (λ (a : Access). is_write a.mode) accesses a m refl) refl
