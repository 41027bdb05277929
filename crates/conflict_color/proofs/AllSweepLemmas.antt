-- All sweeps: the iterations of the colours so far have their colour, and at the end no iteration remains.
use Rattle.std.proofs.Common.{◌≡◌, ℕ, zero, suc, ◌+◌, ◌<◌, ◌≤◌, ◌==◌, Bool, true, false, cond, List, [], ◌∷◌, ◌++◌, map, length, get_or, replicate}
use Rattle.std.proofs.Common.{refl, sym, ap, subst, ◌∙◌, inl, inr, arith, zero-add, eqb-true, eq-eqb}
use Rattle.std.specs.Prelude.{nat_le, slice_index}
use Rattle.std.specs.List.{filter, range_with_len, All, Contains}
use Rattle.std.proofs.lemmas.Bool.{cases_Bool, cases_lt, cond-true, cond-false, both_ways, eqb-false, le-leb, leb-true}
use Rattle.std.proofs.lemmas.List.{ext_get_or, length-replicate}
use Rattle.std.proofs.lemmas.List.Elements.{All-get_or, All-from_get_or, All-replicate, Contains-get_or}
use Rattle.std.proofs.lemmas.List.FromFn.{map-range_with_len_more}
use Rattle.liszt_base.specs.Corners.{is_in}
use Rattle.conflict_color.specs.Colours.{AreColours, number_of_colours, positions_of}
use Rattle.conflict_color.specs.Internal.LeastColours.{colours_of, positions_from}
use Rattle.conflict_color.proofs.MemberLemmas.{contains_in, in_contains, selected_passes, selected_below, passing_is_selected}
use Rattle.conflict_color.proofs.LeastColourLemmas.{are_colours, below_number}
use Rattle.conflict_color.proofs.ColourLemmas.{number_at_most}

-- What is known after the sweeps of the colours below k.
pub record IsColoured (touched : List (List ℕ)) (k : ℕ) (colours : List ℕ) (batches : List (List ℕ)) (first_free remaining : List ℕ) : Type 0 where
  pub size : length colours ≡ length touched
  pub remaining_is : remaining ≡ positions_from k (colours_of touched)
  pub colours_are : (i : ℕ) → i < length touched → slice_index (colours_of touched) i < k
      → slice_index colours i ≡ slice_index (colours_of touched) i
  pub batches_are : batches ≡ map (λ c. positions_of c (colours_of touched)) (range_with_len 0 k)
  pub bound : k ≤ number_of_colours (colours_of touched)
  pub fits : All (All (λ x. x < length first_free)) touched
  pub few : All (λ c. c ≤ k) first_free

-- no iteration has a colour above its own index
index_bound : (touched : List (List ℕ)) (cs : List ℕ) → AreColours touched cs → (n i : ℕ) → i < n → i < length touched
    → slice_index cs i ≤ i
index_bound touched cs h zero i lt inside = absurd (omega arith)
index_bound touched cs h (suc n) i lt inside =
    elim (cases_lt i (slice_index cs i)) [
      | inl less ↦
          let r = (h.each i inside).least i less in
          absurd (omega (arith, index_bound touched cs h n r.0 (omega (arith, r.1)) (omega (arith, r.1)), r.1, r.3))
      | inr le ↦ le
    ]

pub at_most_the_iterations : (touched : List (List ℕ)) → number_of_colours (colours_of touched) ≤ length touched
at_most_the_iterations touched =
    let cs = colours_of touched in
    let h = are_colours touched in
    let size = h.length_is in
    number_at_most cs (length touched)
    (All-from_get_or (λ c. c < length touched) cs 0
    (λ i lt. omega (arith, index_bound touched cs h (length touched) i (omega arith) (omega arith))))

filter_all : (p : ℕ → Bool) → ((x : ℕ) → p x ≡ true) → (xs : List ℕ) → filter p xs ≡ xs
filter_all p h [] = refl
filter_all p h (x ∷ xs) = cond-true (p x) (x ∷ filter p xs) (filter p xs) (h x) ∙ ap (λ l. x ∷ l) (filter_all p h xs)

pub all_remain : (touched : List (List ℕ)) (n : ℕ) → n ≡ length touched → range_with_len 0 n ≡ positions_from 0 (colours_of touched)
all_remain touched n e =
    let cs = colours_of touched in
    ap (range_with_len 0) (e ∙ sym (are_colours touched).length_is)
    ∙ sym (filter_all (λ i. nat_le 0 (slice_index cs i)) (λ i. le-leb 0 (slice_index cs i) (omega arith)) (range_with_len 0 (length cs)))

pub coloured_none : (touched : List (List ℕ)) (n size : ℕ) (colours first_free remaining : List ℕ) → n ≡ length touched
    → colours ≡ replicate n 0 → first_free ≡ replicate size 0 → All (All (λ x. x < size)) touched → remaining ≡ range_with_len 0 n
    → IsColoured touched 0 colours [] first_free remaining
coloured_none touched n size colours first_free remaining e colours_are free_are fits remaining_is = record {
  size = ap (λ (l : List ℕ). length l) colours_are ∙ (length-replicate {A = ℕ} n 0 ∙ e);
  remaining_is = remaining_is ∙ all_remain touched n e;
  colours_are = λ i inside less. absurd (omega arith);
  batches_are = refl;
  bound = omega arith;
  fits = subst (λ k. All (All (λ x. x < k)) touched) (sym (ap (λ (l : List ℕ). length l) free_are ∙ length-replicate {A = ℕ} size 0)) fits;
  few = subst (All (λ c. c ≤ 0)) (sym free_are) (All-replicate (λ c. c ≤ 0) size 0 (omega arith));
}

pub batch_fits : (touched : List (List ℕ)) (k n : ℕ) (batch : List ℕ) → batch ≡ positions_of k (colours_of touched) → n ≡ length touched
    → All (λ i. i < n) batch
batch_fits touched k n batch is e =
    let cs = colours_of touched in
    subst (All (λ i. i < n)) (sym is)
    (subst (λ m. All (λ i. i < m) (positions_of k cs)) ((are_colours touched).length_is ∙ sym e) (selected_below (λ i. slice_index cs i == k) (length cs)))

-- while iterations remain, the next colour is below the number of colours
pub colour_below : (touched : List (List ℕ)) (k : ℕ) (remaining : List ℕ) (n : ℕ) → remaining ≡ positions_from k (colours_of touched)
    → n ≡ length remaining → (n == 0) ≡ false → k < number_of_colours (colours_of touched)
colour_below touched k remaining n is size some =
    let cs = colours_of touched in
    let i = get_or remaining 0 0 in
    let none = eqb-false n 0 some in
    let lt : 0 < length remaining = omega arith in
    let h = selected_passes (λ j. nat_le k (slice_index cs j)) (length cs) i (subst (λ l. Contains l i) is (Contains-get_or remaining 0 0 lt)) in
    omega (arith, leb-true k (slice_index cs i) h.1, All-get_or (λ c. c < number_of_colours cs) cs i 0 h.0 (below_number cs))

pub coloured_more : (touched : List (List ℕ)) (k : ℕ) (colours after : List ℕ) (batches batches' : List (List ℕ)) (first_free first_free' remaining batch rest : List ℕ)
    → IsColoured touched k colours batches first_free remaining → k < number_of_colours (colours_of touched)
    → batch ≡ positions_of k (colours_of touched) → rest ≡ positions_from (k + 1) (colours_of touched)
    → ((i : ℕ) → i < length colours → slice_index after i ≡ cond (is_in batch i) k (slice_index colours i))
    → length after ≡ length colours → batches' ≡ batches ++ batch ∷ [] → length first_free' ≡ length first_free
    → All (λ c. c ≤ k + 1) first_free'
    → IsColoured touched (k + 1) after batches' first_free' rest
coloured_more touched k colours after batches batches' first_free first_free' remaining batch rest h lt batch_is rest_is change size pushed same few =
    let cs = colours_of touched in
    let cs_size = (are_colours touched).length_is in
    let h_size = h.size in
    let p = λ (i : ℕ). slice_index cs i == k in
    record {
      size = size ∙ h.size;
      remaining_is = rest_is;
      colours_are = λ i inside less.
          let within : i < length cs = omega arith in
          let changed = change i (omega arith) in
          elim (cases_Bool (is_in batch i)) [
            | inl t ↦
                let m = selected_passes p (length cs) i (subst (λ l. Contains l i) batch_is (in_contains batch i t)) in
                changed ∙ (cond-true (is_in batch i) k (slice_index colours i) t ∙ sym (eqb-true (slice_index cs i) k m.1))
            | inr f ↦
                let ne = λ (e : slice_index cs i ≡ k).
                both_ways (is_in batch i) f
                (contains_in batch i (subst (λ l. Contains l i) (sym batch_is) (passing_is_selected p (length cs) i within (eq-eqb (slice_index cs i) k e)))) in
                let lower : slice_index cs i < k = elim (cases_lt (slice_index cs i) k) [ inl l ↦ l | inr g ↦ absurd (ne (omega arith)) ] in
                changed ∙ (cond-false (is_in batch i) k (slice_index colours i) f ∙ h.colours_are i inside lower)
          ];
      batches_are =
          pushed ∙ (ap (λ l. l ++ batch ∷ []) h.batches_are
          ∙ (ap (λ b. map (λ c. positions_of c cs) (range_with_len 0 k) ++ b ∷ []) batch_is
          ∙ sym (map-range_with_len_more (λ c. positions_of c cs) 0 k k (zero-add k))));
      bound = omega arith;
      fits = subst (λ n. All (All (λ x. x < n)) touched) (sym same) h.fits;
      few = few;
    }

-- at the end each iteration has its colour
pub coloured_all : (touched : List (List ℕ)) (k : ℕ) (colours : List ℕ) (batches : List (List ℕ)) (first_free remaining : List ℕ)
    → IsColoured touched k colours batches first_free remaining → length remaining ≡ 0
    → (colours ≡ colours_of touched) × (k ≡ number_of_colours (colours_of touched))
coloured_all touched k colours batches first_free remaining h none =
    let cs = colours_of touched in
    let cs_size = (are_colours touched).length_is in
    let h_size = h.size in
    let h_bound = h.bound in
    let below = λ (i : ℕ) (lt : i < length cs).
    elim (cases_lt (slice_index cs i) k) as (λ _. slice_index cs i < k) [
      | inl l ↦ l
      | inr g ↦
          let m = passing_is_selected (λ j. nat_le k (slice_index cs j)) (length cs) i lt (le-leb k (slice_index cs i) g) in
          let m' = subst (λ l. Contains l i) (sym h.remaining_is) m in absurd (omega (arith, m'.1))
    ] in
    let most = number_at_most cs k (All-from_get_or (λ c. c < k) cs 0 below) in (
      ext_get_or 0 colours cs (omega arith) (λ i lt. h.colours_are i (omega arith) (below i (omega arith))),
      omega arith,
    )

pub batches_at : (touched : List (List ℕ)) (k : ℕ) (colours : List ℕ) (batches : List (List ℕ)) → colours ≡ colours_of touched
    → k ≡ number_of_colours (colours_of touched)
    → batches ≡ map (λ c. positions_of c (colours_of touched)) (range_with_len 0 k)
    → batches ≡ map (λ c. positions_of c colours) (range_with_len 0 (number_of_colours colours))
batches_at touched k colours batches e k_is h =
    h ∙ (ap (λ n. map (λ c. positions_of c (colours_of touched)) (range_with_len 0 n)) k_is
    ∙ ap (λ cs. map (λ c. positions_of c cs) (range_with_len 0 (number_of_colours cs))) (sym e))
