-- What follows for a list of colours: there is no other one, batches are apart, and there are few colours.
use Rattle.std.proofs.Common.{◌≡◌, ◌≢◌, ℕ, zero, suc, ◌+◌, ◌<◌, ◌≤◌, ◌==◌, List, [], ◌∷◌, length, eqb-true, eq-eqb}
use Rattle.std.proofs.Common.{refl, sym, ap, subst, ◌∙◌, inl, inr, arith}
use Rattle.std.specs.Prelude.{◌↔◌, slice_index}
use Rattle.std.specs.List.{All, AllPairs, Contains}
use Rattle.std.proofs.lemmas.Bool.{cases_lt, cases_eq, cases_order}
use Rattle.std.proofs.lemmas.List.{ext_get_or, get_or_default}
use Rattle.std.proofs.lemmas.List.Elements.{All-nil, All-cons, All-weaker, All-contains, All-get_or, Contains-get_or}
use Rattle.std.proofs.lemmas.List.Kept.{AllPairs-cons}
use Rattle.conflict_color.specs.Colours.{AreColours, Conflict, HasLeastColour, number_of_colours, positions_of}
use Rattle.conflict_color.proofs.MemberLemmas.{selected_passes, passing_is_selected}
use Rattle.conflict_color.proofs.LeastColourLemmas.{below_number}

-- one list of colours
not_below : (touched : List (List ℕ)) (cs ds : List ℕ) (i : ℕ) → HasLeastColour touched cs i → HasLeastColour touched ds i
    → ((j : ℕ) → j < i → slice_index cs j ≡ slice_index ds j) → slice_index ds i ≤ slice_index cs i
not_below touched cs ds i h h' same =
    elim (cases_lt (slice_index cs i) (slice_index ds i)) [
      | inl lt ↦ let r = h'.least (slice_index cs i) lt in absurd (h.apart r.0 r.1 r.2 (same r.0 r.1 ∙ r.3))
      | inr le ↦ le
    ]

same_below : (touched : List (List ℕ)) (cs ds : List ℕ) → AreColours touched cs → AreColours touched ds
    → (n i : ℕ) → i < n → i < length touched → slice_index cs i ≡ slice_index ds i
same_below touched cs ds h h' zero i lt inside = absurd (omega arith)
same_below touched cs ds h h' (suc n) i lt inside =
    let same = λ (j : ℕ) (less : j < i). same_below touched cs ds h h' n j (omega arith) (omega arith) in
    let le = not_below touched cs ds i (h.each i inside) (h'.each i inside) same in
    let ge = not_below touched ds cs i (h'.each i inside) (h.each i inside) (λ j less. sym (same j less)) in
    omega arith

pub unique : (touched : List (List ℕ)) (cs ds : List ℕ) → AreColours touched cs → AreColours touched ds → cs ≡ ds
unique touched cs ds h h' =
    ext_get_or 0 cs ds (h.length_is ∙ sym h'.length_is)
    (λ i lt. same_below touched cs ds h h' (length touched) i (omega (arith, h.length_is)) (omega (arith, h.length_is)))

-- batches
pub members : (c i : ℕ) (cs : List ℕ) → Contains (positions_of c cs) i ↔ ((i < length cs) × (slice_index cs i ≡ c))
members c i cs = (
  λ m. let h = selected_passes (λ j. slice_index cs j == c) (length cs) i m in (h.0, eqb-true (slice_index cs i) c h.1),
  λ h. passing_is_selected (λ j. slice_index cs j == c) (length cs) i h.0 (eq-eqb (slice_index cs i) c h.1),
)

other_way : (touched : List (List ℕ)) (i j : ℕ) → Conflict touched i j → Conflict touched j i
other_way touched i j h =
    record { different = λ e. h.different (sym e); number = h.number; by_first = h.by_second; by_second = h.by_first }

pub apart : (touched : List (List ℕ)) (cs : List ℕ) (c i j : ℕ) → AreColours touched cs → Contains (positions_of c cs) i
    → Contains (positions_of c cs) j → Conflict touched i j → ⊥
apart touched cs c i j h m m' conflict =
    let first = (members c i cs).0 m in
    let second = (members c j cs).0 m' in
    let size = h.length_is in
    elim (cases_order i j) [
      | inl e ↦ conflict.different e
      | inr (inl less) ↦
          (h.each j (omega (arith, second.0))).apart i less (other_way touched i j conflict) (first.1 ∙ sym second.1)
      | inr (inr more) ↦ (h.each i (omega (arith, first.0))).apart j more conflict (second.1 ∙ sym first.1)
    ]

-- some colour is not below a number that is below the number of colours
pub some_above : (cs : List ℕ) (c : ℕ) → c < number_of_colours cs → (i : ℕ) × (i < length cs) × (c ≤ slice_index cs i)
some_above [] c lt = absurd (omega arith)
some_above (d ∷ cs) c lt =
    elim (cases_lt d c) [
      | inl less ↦ let r = some_above cs c (omega arith) in (suc r.0, omega (arith, r.1), r.2)
      | inr le ↦ (0, omega arith, le)
    ]

pub number_at_most : (cs : List ℕ) (n : ℕ) → All (λ c. c < n) cs → number_of_colours cs ≤ n
number_at_most cs n h =
    elim (cases_lt n (number_of_colours cs)) [
      | inl lt ↦ let r = some_above cs n lt in absurd (omega (arith, r.2, All-get_or (λ c. c < n) cs r.0 0 r.1 h))
      | inr le ↦ le
    ]

pub each_colour : (touched : List (List ℕ)) (cs : List ℕ) (c : ℕ) → AreColours touched cs
    → (c < number_of_colours cs) ↔ Contains cs c
each_colour touched cs c h = (
  λ lt.
      let r = some_above cs c lt in
      let size = h.length_is in
      elim (cases_eq (slice_index cs r.0) c) [
        | inl e ↦ subst (λ d. Contains cs d) e (Contains-get_or cs r.0 0 r.1)
        | inr ne ↦
            let s = (h.each r.0 (omega (arith, r.1))).least c (omega (arith, r.2)) in
            subst (λ d. Contains cs d) s.3 (Contains-get_or cs s.0 0 (omega (arith, r.1, s.1)))
      ],
  λ m. All-contains (λ d. d < number_of_colours cs) cs c (below_number cs) m,
)

-- iterations in conflict with one that has a colour above theirs
record Below (touched : List (List ℕ)) (cs : List ℕ) (i n : ℕ) (js : List ℕ) : Type 0 where
  count : length js ≡ n
  different : AllPairs (λ j k. j ≢ k) js
  in_conflict : All (Conflict touched i) js
  below : All (λ j. slice_index cs j < n) js

below_at : (touched : List (List ℕ)) (cs : List ℕ) (i : ℕ) → HasLeastColour touched cs i
    → (n : ℕ) → n ≤ slice_index cs i → (js : List ℕ) × Below touched cs i n js
below_at touched cs i h zero le = (
  [],
  record {
    count = refl;
    different = λ j k d lt lt'. absurd (omega arith);
    in_conflict = All-nil (Conflict touched i);
    below = All-nil (λ j. slice_index cs j < 0);
  },
)
below_at touched cs i h (suc n) le =
    let r = below_at touched cs i h n (omega arith) in
    let s = h.least n (omega arith) in
    let js = r.0 in
    let is = s.3 in (
      s.0 ∷ js,
      record {
        count = ap suc r.1.count;
        different =
            AllPairs-cons (λ j k. j ≢ k) s.0 js
            (All-weaker (λ j. slice_index cs j < n) (λ j. s.0 ≢ j) (λ j lt e. absurd (omega (arith, lt, is, ap (λ k. slice_index cs k) e))) js r.1.below)
            r.1.different;
        in_conflict = All-cons (Conflict touched i) s.0 js s.2 r.1.in_conflict;
        below =
            All-cons (λ j. slice_index cs j < suc n) s.0 js (omega (arith, is))
            (All-weaker (λ j. slice_index cs j < n) (λ j. slice_index cs j < suc n) (λ j lt. omega arith) js r.1.below);
      },
    )

pub few_colours : (touched : List (List ℕ)) (cs : List ℕ) (d : ℕ) → AreColours touched cs
    → ((i : ℕ) (js : List ℕ) → AllPairs (λ j k. j ≢ k) js → All (Conflict touched i) js → length js ≤ d)
    → number_of_colours cs ≤ d + 1
few_colours touched cs d h few =
    number_at_most cs (d + 1)
    (λ i e lt.
    let size = h.length_is in
    let r = below_at touched cs i (h.each i (omega arith)) (slice_index cs i) (omega arith) in
    let le = few i r.0 r.1.different r.1.in_conflict in
    subst (λ c. c < d + 1) (get_or_default cs i 0 e lt) (omega (arith, r.1.count)))
