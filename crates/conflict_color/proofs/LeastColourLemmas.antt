-- The colours that are computed from the first iteration on are colours.
use Rattle.std.proofs.Common.{◌≡◌, ℕ, zero, suc, ◌+◌, ◌<◌, ◌≤◌, max, true, false, List, [], ◌∷◌, ◌++◌, length}
use Rattle.std.proofs.Common.{refl, sym, subst, ◌∙◌, inl, inr, arith}
use Rattle.std.specs.Prelude.{slice_index, slice_index_or}
use Rattle.std.specs.List.{filter, range_with_len, All, Contains}
use Rattle.std.proofs.lemmas.Bool.{cases_Bool, cases_eq, cond-true, cond-false, both_ways, false_from_ne_true}
use Rattle.std.proofs.lemmas.List.{get_or_append_left, get_or_push, length_push}
use Rattle.std.proofs.lemmas.List.Elements.{All-nil, All-cons, All-weaker, All-contains}
use Rattle.std.proofs.lemmas.List.Folds.{Any-from_list_any, list_any-from_Any}
use Rattle.liszt_base.specs.Corners.{is_in}
use Rattle.conflict_color.specs.Colours.{AreColours, Conflict, HasLeastColour, number_of_colours}
use Rattle.conflict_color.specs.Internal.LeastColours.{colours_in_conflict, colours_of, first_absent, first_colours, least_absent, share}
use Rattle.conflict_color.proofs.MemberLemmas.{contains_in, in_contains, map_contains, contains_map, selected_passes, passing_is_selected}

pub below_number : (cs : List ℕ) → All (λ c. c < number_of_colours cs) cs
below_number [] = All-nil (λ c. c < 0)
below_number (c ∷ cs) =
    let n = max (c + 1) (number_of_colours cs) in
    All-cons (λ d. d < n) c cs (omega arith)
    (All-weaker (λ d. d < number_of_colours cs) (λ d. d < n) (λ d lt. omega arith) cs (below_number cs))

-- every number that the search passed is in the list, and what it found is not
earlier_present : (bound c : ℕ) (xs : List ℕ) (d : ℕ) → c ≤ d → d < first_absent bound c xs → is_in xs d ≡ true
earlier_present zero c xs d le lt = absurd (omega arith)
earlier_present (suc bound) c xs d le lt =
    elim (cases_Bool (is_in xs c)) [
      | inl t ↦
          let is = cond-true (is_in xs c) (first_absent bound (c + 1) xs) c t in
          elim (cases_eq c d) [
            | inl e ↦ subst (λ k. is_in xs k ≡ true) e t
            | inr ne ↦ earlier_present bound (c + 1) xs d (omega arith) (subst (λ k. d < k) is lt)
          ]
      | inr f ↦
          let is = cond-false (is_in xs c) (first_absent bound (c + 1) xs) c f in
          absurd (omega (arith, subst (λ k. d < k) is lt))
    ]

first_is_absent : (bound c : ℕ) (xs : List ℕ) → number_of_colours xs ≤ bound + c → is_in xs (first_absent bound c xs) ≡ false
first_is_absent zero c xs le =
    false_from_ne_true (is_in xs c)
    (λ t. absurd (omega (arith, All-contains (λ d. d < number_of_colours xs) xs c (below_number xs) (in_contains xs c t))))
first_is_absent (suc bound) c xs le =
    elim (cases_Bool (is_in xs c)) [
      | inl t ↦
          let is = cond-true (is_in xs c) (first_absent bound (c + 1) xs) c t in
          subst (λ k. is_in xs k ≡ false) (sym is) (first_is_absent bound (c + 1) xs (omega arith))
      | inr f ↦
          let is = cond-false (is_in xs c) (first_absent bound (c + 1) xs) c f in
          subst (λ k. is_in xs k ≡ false) (sym is) f
    ]

-- the colours in conflict with an iteration
pub in_conflict : (touched : List (List ℕ)) (cs : List ℕ) (i j : ℕ) → j < i → Conflict touched i j
    → Contains (colours_in_conflict touched cs i) (slice_index cs j)
in_conflict touched cs i j lt conflict =
    let xs = slice_index_or touched i [] in
    let row = λ (k : ℕ). slice_index_or touched k [] in
    let shared : share xs (row j) ≡ true =
    list_any-from_Any (is_in (row j)) xs
    (conflict.by_first.0, conflict.number, conflict.by_first.1, conflict.by_first.2, contains_in (row j) conflict.number conflict.by_second) in
    map_contains (λ k. slice_index cs k) (filter (λ k. share xs (row k)) (range_with_len 0 i)) j (slice_index cs j)
    (passing_is_selected (λ k. share xs (row k)) i j lt shared) refl

pub from_conflict : (touched : List (List ℕ)) (cs : List ℕ) (i c : ℕ) → Contains (colours_in_conflict touched cs i) c
    → (j : ℕ) × (j < i) × Conflict touched i j × (slice_index cs j ≡ c)
from_conflict touched cs i c m =
    let xs = slice_index_or touched i [] in
    let row = λ (k : ℕ). slice_index_or touched k [] in
    let found = contains_map (λ k. slice_index cs k) (filter (λ k. share xs (row k)) (range_with_len 0 i)) c m in
    let is = selected_passes (λ k. share xs (row k)) i found.0 found.1 in
    let r = Any-from_list_any (is_in (row found.0)) xs is.1 in
    let lt = is.0 in (
      found.0,
      lt,
      record {
        different = λ e. absurd (omega (arith, lt, e));
        number = r.1;
        by_first = (r.0, r.2, r.3);
        by_second = in_contains (row found.0) r.1 r.4;
      },
      found.2,
    )

-- a colour more leaves the earlier ones the least
colour_stays : (touched : List (List ℕ)) (cs : List ℕ) (c i : ℕ) → i < length cs → HasLeastColour touched cs i
    → HasLeastColour touched (cs ++ c ∷ []) i
colour_stays touched cs c i lt h =
    let same = λ (j : ℕ) (le : j ≤ i). get_or_append_left cs (c ∷ []) 0 j (omega arith) in
    record {
      apart = λ j less conflict e. h.apart j less conflict (sym (same j (omega arith)) ∙ (e ∙ same i (omega arith)));
      least = λ d less.
          let r = h.least d (subst (λ k. d < k) (same i (omega arith)) less) in
          let lower = r.1 in
          (r.0, r.1, r.2, same r.0 (omega (arith, lower)) ∙ r.3);
    }

-- and it is the least of its own iteration
colour_added : (touched : List (List ℕ)) (cs : List ℕ) (n : ℕ) → length cs ≡ n
    → HasLeastColour touched (cs ++ least_absent (colours_in_conflict touched cs n) ∷ []) n
colour_added touched cs n size =
    let others = colours_in_conflict touched cs n in
    let c = least_absent others in
    let same = λ (j : ℕ) (lt : j < n). get_or_append_left cs (c ∷ []) 0 j (omega arith) in
    let own = get_or_push cs c 0 n size in
    record {
      apart = λ j less conflict e.
          let is : slice_index cs j ≡ c = sym (same j less) ∙ (e ∙ own) in
          both_ways (is_in others c) (first_is_absent (number_of_colours others) 0 others (omega arith))
          (contains_in others c (subst (λ d. Contains others d) is (in_conflict touched cs n j less conflict)));
      least = λ d less.
          let lower = subst (λ k. d < k) own less in
          let r = from_conflict touched cs n d (in_contains others d (earlier_present (number_of_colours others) 0 others d (omega arith) lower)) in
          (r.0, r.1, r.2, same r.0 r.1 ∙ r.3);
    }

pub first_length : (touched : List (List ℕ)) (n : ℕ) → length (first_colours touched n) ≡ n
unfolding first_colours
first_length touched zero = refl
first_length touched (suc n) =
    let cs = first_colours touched n in
    length_push cs (least_absent (colours_in_conflict touched cs n)) ∙ (omega (arith, first_length touched n))

first_least : (touched : List (List ℕ)) (n i : ℕ) → i < n → HasLeastColour touched (first_colours touched n) i
unfolding first_colours
first_least touched zero i lt = absurd (omega arith)
first_least touched (suc n) i lt =
    let cs = first_colours touched n in
    elim (cases_eq i n) [
      | inl e ↦
          subst (λ k. HasLeastColour touched (cs ++ least_absent (colours_in_conflict touched cs n) ∷ []) k) (sym e)
          (colour_added touched cs n (first_length touched n))
      | inr ne ↦
          colour_stays touched cs (least_absent (colours_in_conflict touched cs n)) i (omega (arith, first_length touched n))
          (first_least touched n i (omega arith))
    ]

pub are_colours : (touched : List (List ℕ)) → AreColours touched (colours_of touched)
unfolding colours_of
are_colours touched = record {
  length_is = first_length touched (length touched);
  each = first_least touched (length touched);
}
