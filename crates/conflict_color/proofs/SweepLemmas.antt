-- One sweep: it gives its colour to those of the remaining iterations that have it.
use Rattle.std.proofs.Common.{◌≡◌, ℕ, ◌+◌, ◌<◌, ◌≤◌, ◌==◌, Bool, true, false, cond, List, [], ◌∷◌, ◌++◌, take, length, get_or}
use Rattle.std.proofs.Common.{refl, sym, ap, subst, ◌∙◌, inl, inr, arith, eqb-true, eq-eqb}
use Rattle.std.specs.Prelude.{nat_le, slice_index, slice_index_or, slice_get, Some}
use Rattle.std.specs.List.{filter, range_with_len, All, Any, Contains}
use Rattle.std.proofs.lemmas.Bool.{cases_Bool, cases_lt, cond-true, cond-false, ne_eqb, le-leb, leb-true, lt-leb}
use Rattle.std.proofs.lemmas.List.{take_more, take_all, append-nil}
use Rattle.std.proofs.lemmas.List.Elements.{All-contains, All-get_or, All-from_get_or, All-weaker, Contains-append_left, Contains-get_or, Contains-push, Contains-push_cases, filter-append}
use Rattle.std.proofs.lemmas.Option.{get_or_from_slice_get}
use Rattle.liszt_base.specs.Corners.{is_in}
use Rattle.conflict_color.specs.Colours.{Conflict, positions_of}
use Rattle.conflict_color.specs.Internal.LeastColours.{colours_of, positions_from}
use Rattle.conflict_color.proofs.MemberLemmas.{contains_in, in_contains, selected_passes, passing_is_selected, selected_ascending, before_below, below_before}
use Rattle.conflict_color.proofs.LeastColourLemmas.{are_colours}

-- A seen iteration of colour c touches the number x.
pub record IsTouched (touched : List (List ℕ)) (colours seen : List ℕ) (c x : ℕ) : Type 0 where
  pub iteration : ℕ
  pub is_seen : Contains seen iteration
  pub colour : slice_index colours iteration ≡ c
  pub number : Contains (slice_index_or touched iteration []) x

-- What is known after the first m of the remaining iterations.
pub record IsSwept (touched : List (List ℕ)) (k : ℕ) (remaining : List ℕ) (m : ℕ) (first_free batch rest : List ℕ) : Type 0 where
  pub batch_is : batch ≡ filter (λ i. slice_index (colours_of touched) i == k) (take m remaining)
  pub rest_is : rest ≡ filter (λ i. nat_le (k + 1) (slice_index (colours_of touched) i)) (take m remaining)
  pub only : (x : ℕ) → x < length first_free → k < slice_index first_free x
      → IsTouched touched (colours_of touched) (take m remaining) k x
  pub all : (x : ℕ) → x < length first_free → IsTouched touched (colours_of touched) (take m remaining) k x
      → k < slice_index first_free x
  pub few : All (λ c. c ≤ k + 1) first_free

pub swept_none : (touched : List (List ℕ)) (k : ℕ) (remaining first_free : List ℕ) → All (λ c. c ≤ k) first_free
    → IsSwept touched k remaining 0 first_free [] []
swept_none touched k remaining first_free h = record {
  batch_is = refl;
  rest_is = refl;
  only = λ x lt above. absurd (omega (arith, All-get_or (λ c. c ≤ k) first_free x 0 lt h));
  all = λ x lt t. absurd (omega (arith, t.is_seen.1));
  few = All-weaker (λ c. c ≤ k) (λ c. c ≤ k + 1) (λ c le. omega arith) first_free h;
}

-- the iteration at an index of the remaining ones
record IsNext (touched : List (List ℕ)) (k : ℕ) (remaining : List ℕ) (m i : ℕ) (numbers : List ℕ) : Type 0 where
  inside : i < length touched
  low : k ≤ slice_index (colours_of touched) i
  row : slice_index_or touched i [] ≡ numbers
  before : (j : ℕ) → Contains (take m remaining) j → j < i
  below : (j : ℕ) → j < i → slice_index (colours_of touched) j ≡ k → Contains (take m remaining) j
  more : take (m + 1) remaining ≡ take m remaining ++ i ∷ []

pub is_remaining : (touched : List (List ℕ)) (k : ℕ) (remaining : List ℕ) (m : ℕ) → remaining ≡ positions_from k (colours_of touched)
    → m < length remaining
    → (get_or remaining m 0 < length touched) × (k ≤ slice_index (colours_of touched) (get_or remaining m 0))
is_remaining touched k remaining m is lt =
    let cs = colours_of touched in
    let size = (are_colours touched).length_is in
    let i = get_or remaining m 0 in
    let h = selected_passes (λ j. nat_le k (slice_index cs j)) (length cs) i (subst (λ l. Contains l i) is (Contains-get_or remaining m 0 lt)) in
    (omega (arith, h.0), leb-true k (slice_index cs i) h.1)

next : (touched : List (List ℕ)) (k : ℕ) (remaining : List ℕ) (m i : ℕ) (numbers : List ℕ) → remaining ≡ positions_from k (colours_of touched)
    → m < length remaining → i ≡ get_or remaining m 0 → slice_get touched i ≡ Some numbers
    → IsNext touched k remaining m i numbers
next touched k remaining m i numbers is lt i_is read =
    let cs = colours_of touched in
    let size = (are_colours touched).length_is in
    let p = λ (j : ℕ). nat_le k (slice_index cs j) in
    let ascending = subst (λ l. ((a b d : ℕ) → a < b → b < length l → get_or l a d < get_or l b d)) (sym is) (selected_ascending p (length cs)) in
    let h = is_remaining touched k remaining m is lt in
    record {
      inside = omega (arith, h.0);
      low = subst (λ j. k ≤ slice_index cs j) (sym i_is) h.1;
      row = get_or_from_slice_get touched i numbers [] read;
      before = λ j seen. omega (arith, before_below remaining m j ascending lt seen);
      below = λ j less e.
          below_before remaining m j ascending lt
          (subst (λ l. Contains l j) (sym is) (passing_is_selected p (length cs) j (omega (arith, h.0)) (le-leb k (slice_index cs j) (omega (arith, e)))))
          (omega arith);
      more = take_more remaining m 0 lt ∙ ap (λ j. take m remaining ++ j ∷ []) (sym i_is);
    }

-- a member more of a filter
filter_with : (p : ℕ → Bool) (remaining : List ℕ) (m i : ℕ) → take (m + 1) remaining ≡ take m remaining ++ i ∷ [] → p i ≡ true
    → filter p (take m remaining) ++ i ∷ [] ≡ filter p (take (m + 1) remaining)
filter_with p remaining m i more h =
    sym (ap (filter p) more ∙ (filter-append p (take m remaining) (i ∷ [])
    ∙ ap (λ l. filter p (take m remaining) ++ l) (cond-true (p i) (i ∷ []) [] h)))

filter_without : (p : ℕ → Bool) (remaining : List ℕ) (m i : ℕ) → take (m + 1) remaining ≡ take m remaining ++ i ∷ [] → p i ≡ false
    → filter p (take m remaining) ≡ filter p (take (m + 1) remaining)
filter_without p remaining m i more h =
    sym (ap (filter p) more ∙ (filter-append p (take m remaining) (i ∷ [])
    ∙ (ap (λ l. filter p (take m remaining) ++ l) (cond-false (p i) (i ∷ []) [] h) ∙ append-nil (filter p (take m remaining)))))

touched_more : (touched : List (List ℕ)) (cs seen : List ℕ) (i k x : ℕ) → IsTouched touched cs seen k x
    → IsTouched touched cs (seen ++ i ∷ []) k x
touched_more touched cs seen i k x t = record {
  iteration = t.iteration;
  is_seen = Contains-append_left seen (i ∷ []) t.iteration t.is_seen;
  colour = t.colour;
  number = t.number;
}

-- an iteration whose numbers are all free has the colour
free_has_colour : (touched : List (List ℕ)) (k : ℕ) (remaining : List ℕ) (m i : ℕ) (numbers first_free batch rest : List ℕ)
    → IsNext touched k remaining m i numbers → IsSwept touched k remaining m first_free batch rest
    → All (λ x. x < length first_free) numbers → All (λ x. slice_index first_free x ≤ k) numbers
    → slice_index (colours_of touched) i ≡ k
free_has_colour touched k remaining m i numbers first_free batch rest n s fits free =
    let cs = colours_of touched in
    let low = n.low in
    elim (cases_lt k (slice_index cs i)) [
      | inl lt ↦
          let r = ((are_colours touched).each i n.inside).least k lt in
          let conflict = r.2 in
          let x = conflict.number in
          let m' = subst (λ l. Contains l x) n.row conflict.by_first in
          let t : IsTouched touched cs (take m remaining) k x =
          record { iteration = r.0; is_seen = n.below r.0 r.1 r.3; colour = r.3; number = conflict.by_second } in
          absurd (omega (
            arith,
            s.all x (All-contains (λ y. y < length first_free) numbers x fits m') t,
            All-contains (λ y. slice_index first_free y ≤ k) numbers x free m',
          ))
      | inr le ↦ omega arith
    ]

-- and one of whose numbers one is not free has a greater one
taken_is_above : (touched : List (List ℕ)) (k : ℕ) (remaining : List ℕ) (m i : ℕ) (numbers first_free batch rest : List ℕ)
    → IsNext touched k remaining m i numbers → IsSwept touched k remaining m first_free batch rest
    → All (λ x. x < length first_free) numbers → Any (λ x. k < slice_index first_free x) numbers
    → k < slice_index (colours_of touched) i
taken_is_above touched k remaining m i numbers first_free batch rest n s fits taken =
    let cs = colours_of touched in
    let x = taken.1 in
    let m' : Contains numbers x = (taken.0, taken.2, taken.3) in
    let t = s.only x (All-contains (λ y. y < length first_free) numbers x fits m') taken.4 in
    let j = t.iteration in
    let less : j < i = n.before j t.is_seen in
    let conflict : Conflict touched i j = record {
      different = λ e. absurd (omega arith);
      number = x;
      by_first = subst (λ l. Contains l x) (sym n.row) m';
      by_second = t.number;
    } in
    let low = n.low in
    let ne = λ (e : k ≡ slice_index cs i). ((are_colours touched).each i n.inside).apart j less conflict (t.colour ∙ e) in
    elim (cases_lt k (slice_index cs i)) [ inl lt ↦ lt | inr le ↦ absurd (ne (omega arith)) ]

pub swept_batch : (touched : List (List ℕ)) (k : ℕ) (remaining : List ℕ) (m i : ℕ) (numbers first_free after batch rest : List ℕ)
    → IsSwept touched k remaining m first_free batch rest → remaining ≡ positions_from k (colours_of touched)
    → m < length remaining → i ≡ get_or remaining m 0 → slice_get touched i ≡ Some numbers
    → All (λ x. x < length first_free) numbers → All (λ x. slice_index first_free x ≤ k) numbers
    → ((x : ℕ) → x < length first_free → slice_index after x ≡ cond (is_in numbers x) (k + 1) (slice_index first_free x))
    → length after ≡ length first_free
    → IsSwept touched k remaining (m + 1) after (batch ++ i ∷ []) rest
swept_batch touched k remaining m i numbers first_free after batch rest s is lt i_is read fits free change size =
    let cs = colours_of touched in
    let n = next touched k remaining m i numbers is lt i_is read in
    let more = n.more in
    let own = free_has_colour touched k remaining m i numbers first_free batch rest n s fits free in
    let new = λ (x : ℕ) (t : is_in numbers x ≡ true) (inside : x < length first_free).
    change x inside ∙ cond-true (is_in numbers x) (k + 1) (slice_index first_free x) t in
    let old = λ (x : ℕ) (f : is_in numbers x ≡ false) (inside : x < length first_free).
    change x inside ∙ cond-false (is_in numbers x) (k + 1) (slice_index first_free x) f in
    record {
      batch_is =
          ap (λ l. l ++ i ∷ []) s.batch_is
          ∙ filter_with (λ j. slice_index cs j == k) remaining m i more (eq-eqb (slice_index cs i) k own);
      rest_is =
          s.rest_is
          ∙ filter_without (λ j. nat_le (k + 1) (slice_index cs j)) remaining m i more (lt-leb (k + 1) (slice_index cs i) (omega (arith, own)));
      only = λ x inside above.
          subst (λ seen. IsTouched touched cs seen k x) (sym more)
          (elim (cases_Bool (is_in numbers x)) [
            | inl t ↦ record {
              iteration = i;
              is_seen = Contains-push (take m remaining) i;
              colour = own;
              number = subst (λ l. Contains l x) (sym n.row) (in_contains numbers x t);
            }
            | inr f ↦
                touched_more touched cs (take m remaining) i k x
                (s.only x (omega arith) (subst (λ c. k < c) (old x f (omega arith)) above))
          ]);
      all = λ x inside t.
          let within : x < length first_free = omega arith in
          elim (cases_Bool (is_in numbers x)) [
            | inl yes' ↦ omega (arith, new x yes' within)
            | inr f ↦
                elim (Contains-push_cases (take m remaining) i t.iteration (subst (λ l. Contains l t.iteration) more t.is_seen)) [
                  | inl seen ↦
                      omega (arith, old x f within, s.all x within (record { iteration = t.iteration; is_seen = seen; colour = t.colour; number = t.number }))
                  | inr e ↦
                      let m' = subst (λ l. Contains l x) (ap (λ j. slice_index_or touched j []) (sym e) ∙ n.row) t.number in
                      absurd (cc (f, contains_in numbers x m'))
                ]
          ];
      few =
          All-from_get_or (λ c. c ≤ k + 1) after 0
          (λ x inside.
          let within : x < length first_free = omega arith in
          elim (cases_Bool (is_in numbers x)) [
            | inl t ↦ omega (arith, new x t within)
            | inr f ↦ omega (arith, old x f within, All-get_or (λ c. c ≤ k + 1) first_free x 0 within s.few)
          ]);
    }

pub swept_rest : (touched : List (List ℕ)) (k : ℕ) (remaining : List ℕ) (m i : ℕ) (numbers first_free batch rest : List ℕ)
    → IsSwept touched k remaining m first_free batch rest → remaining ≡ positions_from k (colours_of touched)
    → m < length remaining → i ≡ get_or remaining m 0 → slice_get touched i ≡ Some numbers
    → All (λ x. x < length first_free) numbers → Any (λ x. k < slice_index first_free x) numbers
    → IsSwept touched k remaining (m + 1) first_free batch (rest ++ i ∷ [])
swept_rest touched k remaining m i numbers first_free batch rest s is lt i_is read fits taken =
    let cs = colours_of touched in
    let n = next touched k remaining m i numbers is lt i_is read in
    let more = n.more in
    let own = taken_is_above touched k remaining m i numbers first_free batch rest n s fits taken in
    record {
      batch_is =
          s.batch_is
          ∙ filter_without (λ j. slice_index cs j == k) remaining m i more (ne_eqb (slice_index cs i) k (λ e. absurd (omega arith)));
      rest_is =
          ap (λ l. l ++ i ∷ []) s.rest_is
          ∙ filter_with (λ j. nat_le (k + 1) (slice_index cs j)) remaining m i more (le-leb (k + 1) (slice_index cs i) (omega (arith, own)));
      only = λ x inside above.
          subst (λ seen. IsTouched touched cs seen k x) (sym more) (touched_more touched cs (take m remaining) i k x (s.only x inside above));
      all = λ x inside t.
          elim (Contains-push_cases (take m remaining) i t.iteration (subst (λ l. Contains l t.iteration) more t.is_seen)) [
            | inl seen ↦ s.all x inside (record { iteration = t.iteration; is_seen = seen; colour = t.colour; number = t.number })
            | inr e ↦ absurd (omega (arith, own, t.colour, ap (λ j. slice_index cs j) e))
          ];
      few = s.few;
    }

-- a filter of a filter that keeps all that it keeps
pub filter_twice : (p q : ℕ → Bool) → ((x : ℕ) → p x ≡ true → q x ≡ true) → (xs : List ℕ) → filter p (filter q xs) ≡ filter p xs
filter_twice p q h [] = refl
filter_twice p q h (x ∷ xs) =
    elim (cases_Bool (q x)) [
      | inl t ↦
          ap (filter p) (cond-true (q x) (x ∷ filter q xs) (filter q xs) t)
          ∙ ap (λ l. cond (p x) (x ∷ l) l) (filter_twice p q h xs)
      | inr f ↦
          let skip : p x ≡ false = elim (cases_Bool (p x)) [ inl t ↦ absurd (cc (f, h x t)) | inr f' ↦ f' ] in
          ap (filter p) (cond-false (q x) (x ∷ filter q xs) (filter q xs) f)
          ∙ (filter_twice p q h xs ∙ sym (cond-false (p x) (x ∷ filter p xs) (filter p xs) skip))
    ]

pub swept_all : (touched : List (List ℕ)) (k : ℕ) (remaining : List ℕ) (m : ℕ) (first_free batch rest : List ℕ)
    → IsSwept touched k remaining m first_free batch rest → remaining ≡ positions_from k (colours_of touched)
    → length remaining ≤ m
    → (batch ≡ positions_of k (colours_of touched)) × (rest ≡ positions_from (k + 1) (colours_of touched))
swept_all touched k remaining m first_free batch rest s is le =
    let cs = colours_of touched in
    let q = λ (j : ℕ). nat_le k (slice_index cs j) in
    let p = λ (j : ℕ). slice_index cs j == k in
    let p' = λ (j : ℕ). nat_le (k + 1) (slice_index cs j) in
    let whole = take_all m remaining le ∙ is in (
      s.batch_is ∙ (ap (filter p) whole
          ∙ filter_twice p q (λ j e. le-leb k (slice_index cs j) (omega (arith, eqb-true (slice_index cs j) k e))) (range_with_len 0 (length cs))),
      s.rest_is ∙ (ap (filter p') whole
          ∙ filter_twice p' q (λ j e. le-leb k (slice_index cs j) (omega (arith, leb-true (k + 1) (slice_index cs j) e))) (range_with_len 0 (length cs))),
    )

-- the numbers of an iteration are below the size of a table that all numbers are below
pub row_fits : (touched : List (List ℕ)) (size size' i : ℕ) (numbers : List ℕ) → All (All (λ x. x < size)) touched
    → i < length touched → slice_get touched i ≡ Some numbers → size' ≡ size → All (λ x. x < size') numbers
row_fits touched size size' i numbers h inside read e =
    subst (λ n. All (λ x. x < n) numbers) (sym e)
    (subst (All (λ x. x < size)) (get_or_from_slice_get touched i numbers [] read)
    (All-get_or (All (λ x. x < size)) touched i [] inside h))
