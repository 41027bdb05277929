-- The next access in the order of places: what is skipped is not accessed.
use Rattle.std.proofs.Common.{◌≡◌, ℕ, ◌+◌, ◌-◌, ◌<◌, ◌≤◌, ◌&&◌, nat_lt, nat_le, true, false, List, [], ◌∷◌, ◌++◌, map, Some, None, length, drop, ◌⊎◌, inl, inr, subst, refl, sym, ap, ◌∙◌, arith, zero, suc}
use Rattle.std.proofs.lemmas.Bool.{cases_Bool, eqb-true, ltb-false, ltb-true, lt-ltb, le-ltb, le-leb, leb-true, and_parts}
use Rattle.std.proofs.lemmas.Grind.{flat_map-append}
use Rattle.std.proofs.lemmas.List.Folds.{flat_map-map}
use Rattle.std.proofs.lemmas.Option.{slice_get_cases}
use Rattle.std.specs.List.{flat_map, range_with_len, slice_get}
use Rattle.resolved_code.specs.Accesses.{is_subject, first_access}
use Rattle.resolved_code.specs.declared.accesses.AccessAt.{AccessAt}
use Rattle.resolved_code.specs.declared.items.ComprehensionCode.{ComprehensionCode}
use Rattle.phase_types.specs.Checked.{checked_mode}
use Rattle.phase_types.specs.Walk.{Subject, OfField, OfScalar}
use Rattle.phase_types.specs.declared.state.CheckedProgram.{CheckedProgram}
use Rattle.liszt_report.specs.Internal.Places.{place_of, subject_at, nearer, nearer_access, next_place}
use Rattle.liszt_report.specs.Texts.{subject_text, subjects_of}
use Rattle.liszt_report.proofs.WrittenLemmas.{drop_item, range_parts}

place_at : (fields place : ℕ) → place_of fields (subject_at fields place) ≡ place
place_at fields place = elim (cases_Bool (nat_lt place fields)) [
  | inl h ↦ rw h refl
  | inr h ↦ rw h (let past = ltb-false place fields h in let e : fields + (place - fields) ≡ place = omega arith in e)
]

same_subject : (a b : Subject) → is_subject a b ≡ true → a ≡ b
same_subject (OfField m) (OfField n) h = ap OfField (eqb-true m n h)
same_subject (OfScalar m) (OfScalar n) h = ap OfScalar (eqb-true m n h)
same_subject (OfField m) (OfScalar n) h = cc
same_subject (OfScalar m) (OfField n) h = cc

nearer_cases : (from least place : ℕ) → ((from ≤ place) × (place < least) × (nearer from least place ≡ place)) ⊎ (((from ≤ place) → (place < least) → ⊥) × (nearer from least place ≡ least))
nearer_cases from least place = elim (cases_Bool (nat_le from place && nat_lt place least)) [
  | inl h ↦ let p = and_parts (nat_le from place) (nat_lt place least) h in
      inl (leb-true from place p.0, ltb-true place least p.1, rw h refl)
  | inr h ↦ inr ((λ le lt. let e : (nat_le from place && nat_lt place least) ≡ true = rw (le-leb from place le) (lt-ltb place least lt) in let bad : true ≡ false = sym e ∙ h in cc), rw h refl)
]

nearer_below : (from least place : ℕ) → nearer from least place ≤ least
nearer_below from least place = elim (nearer_cases from least place) [
  | inl h ↦ omega (arith, h.1, h.2)
  | inr h ↦ omega (arith, h.1)
]

pub next_below : (fields from least : ℕ) (xs : List AccessAt) → next_place fields from least xs ≤ least
next_below fields from least [] = omega arith
next_below fields from least (x ∷ xs) =
    omega (arith, next_below fields from (nearer from least (place_of fields x.subject)) xs, nearer_below from least (place_of fields x.subject))

nearer_from : (from least place : ℕ) → from ≤ least → from ≤ nearer from least place
nearer_from from least place le = elim (nearer_cases from least place) [
  | inl h ↦ omega (arith, h.0, h.2)
  | inr h ↦ omega (arith, h.1, le)
]

pub next_from : (fields from least : ℕ) (xs : List AccessAt) → from ≤ least → from ≤ next_place fields from least xs
next_from fields from least [] le = le
next_from fields from least (x ∷ xs) le =
    next_from fields from (nearer from least (place_of fields x.subject)) xs (nearer_from from least (place_of fields x.subject) le)

not_there : (from least place : ℕ) → from ≤ place → place < nearer from least place → ⊥
not_there from least place le lt = elim (nearer_cases from least place) [
  | inl h ↦ absurd (omega (arith, h.2, lt))
  | inr h ↦ h.0 le (omega (arith, h.1, lt))
]

pub none_between : (fields from least : ℕ) (xs : List AccessAt) (place : ℕ) → from ≤ place → place < next_place fields from least xs
    → first_access xs (subject_at fields place) ≡ None
none_between fields from least [] place le lt = refl
none_between fields from least (x ∷ xs) place le lt =
    let at = place_of fields x.subject in
    let first : place < nearer from least at = omega (arith, lt, next_below fields from (nearer from least at) xs) in
    elim (cases_Bool (is_subject (subject_at fields place) x.subject)) [
      | inl h ↦ let same : at ≡ place = ap (place_of fields) (sym (same_subject (subject_at fields place) x.subject h)) ∙ place_at fields place in
          absurd (not_there from least place le (subst (λ p. place < nearer from least p) same first))
      | inr h ↦ rw h (none_between fields from (nearer from least at) xs place le lt)
    ]

pub place_step : (fields from whole least next : ℕ) (xs : List AccessAt) (k : ℕ) → k < length xs
    → whole ≡ next_place fields from least (drop k xs) → next ≡ nearer_access fields from least (slice_get xs k)
    → whole ≡ next_place fields from next (drop (k + 1) xs)
place_step fields from whole least next xs k within is step = elim (slice_get_cases xs k).1 [
  | inl h ↦ let here = ap (nearer_access fields from least) h.2 in
      is ∙ ap (next_place fields from least) (drop_item xs k h.0 h.2) ∙ ap (λ n. next_place fields from n (drop (k + 1) xs)) (sym (step ∙ here))
  | inr h ↦ absurd (omega (arith, within, h.0))
]

pub mode_none : (checked : CheckedProgram) (comp : ℕ) (x : ComprehensionCode) (subject : Subject) → slice_get checked.comprehensions comp ≡ Some x
    → first_access x.accesses subject ≡ None → checked_mode checked comp subject ≡ None
mode_none checked comp x subject is none = rw is (rw none refl)

pub no_text : (checked : CheckedProgram) (comp : ℕ) (subject : Subject) → checked_mode checked comp subject ≡ None → subject_text checked comp subject ≡ []
no_text checked comp subject none = rw none refl

-- Texts by places

pub nothing_between : (f : ℕ → List ℕ) (a n : ℕ) → ((k : ℕ) → a ≤ k → k < a + n → f k ≡ []) → flat_map f (range_with_len a n) ≡ []
nothing_between f a zero none = refl
nothing_between f a (suc n) none =
    rw (none a (omega arith) (omega arith)) (nothing_between f (a + 1) n (λ k le lt. none k (omega arith) (omega arith)))

pub skip_places : (f : ℕ → List ℕ) (a b n : ℕ) → a ≤ b → b ≤ n → ((k : ℕ) → a ≤ k → k < b → f k ≡ [])
    → flat_map f (range_with_len a (n - a)) ≡ flat_map f (range_with_len b (n - b))
skip_places f a b n le end none =
    let e : n - a ≡ (b - a) + (n - b) = omega arith in
    let at : a + (b - a) ≡ b = omega arith in
    let first = nothing_between f a (b - a) (λ k low high. none k low (omega (arith, high, at))) in
    ap (λ m. flat_map f (range_with_len a m)) e ∙ range_parts f a (b - a) (n - b)
    ∙ ap (λ (l : List ℕ). l ++ flat_map f (range_with_len (a + (b - a)) (n - b))) first
    ∙ ap (λ m. flat_map f (range_with_len m (n - b))) at

fields_agree : (g : Subject → List ℕ) (fields a n : ℕ) → a + n ≤ fields
    → flat_map (λ place. g (subject_at fields place)) (range_with_len a n) ≡ flat_map (λ number. g (OfField number)) (range_with_len a n)
fields_agree g fields a zero le = refl
fields_agree g fields a (suc n) le =
    let lt : nat_lt a fields ≡ true = lt-ltb a fields (omega arith) in
    rw lt (ap (λ (l : List ℕ). g (OfField a) ++ l) (fields_agree g fields (a + 1) n (omega arith)))

scalars_agree : (g : Subject → List ℕ) (fields a n : ℕ)
    → flat_map (λ place. g (subject_at fields place)) (range_with_len (fields + a) n) ≡ flat_map (λ number. g (OfScalar number)) (range_with_len a n)
scalars_agree g fields a zero = refl
scalars_agree g fields a (suc n) =
    let past : nat_lt (fields + a) fields ≡ false = le-ltb (fields + a) fields (omega arith) in
    let number : fields + a - fields ≡ a = omega arith in
    let next : fields + a + 1 ≡ fields + (a + 1) = omega arith in
    rw past (rw number (rw next (ap (λ (l : List ℕ). g (OfScalar a) ++ l) (scalars_agree g fields (a + 1) n))))

pub subjects_by_place : (g : Subject → List ℕ) (fields scalars : ℕ)
    → flat_map g (subjects_of fields scalars) ≡ flat_map (λ place. g (subject_at fields place)) (range_with_len 0 (fields + scalars))
subjects_by_place g fields scalars =
    let at : fields + 0 ≡ 0 + fields = omega arith in
    let parts = range_parts (λ place. g (subject_at fields place)) 0 fields scalars in
    let first = fields_agree g fields 0 fields (omega arith) in
    let second = ap (λ m. flat_map (λ place. g (subject_at fields place)) (range_with_len m scalars)) (sym at) ∙ scalars_agree g fields 0 scalars in
    let joined = parts ∙ ap (λ (l : List ℕ). l ++ flat_map (λ place. g (subject_at fields place)) (range_with_len (0 + fields) scalars)) first
    ∙ ap (λ (l : List ℕ). flat_map (λ number. g (OfField number)) (range_with_len 0 fields) ++ l) second in
    let left = flat_map-append g (map OfField (range_with_len 0 fields)) (map OfScalar (range_with_len 0 scalars))
    ∙ ap (λ (l : List ℕ). l ++ flat_map g (map OfScalar (range_with_len 0 scalars))) (flat_map-map g OfField (range_with_len 0 fields))
    ∙ ap (λ (l : List ℕ). flat_map (λ number. g (OfField number)) (range_with_len 0 fields) ++ l) (flat_map-map g OfScalar (range_with_len 0 scalars)) in
    left ∙ sym joined
