-- Rows of keys and iterations: the writers that they denote, and their order.
use Rattle.std.proofs.Common.{◌≡◌, ◌⊎◌, ℕ, ◌+◌, ◌<◌, ◌≤◌, false, Some, List, [], ◌++◌, map, get_or}
use Rattle.std.proofs.Common.{nat_cmp, sym, ap, subst, ◌∙◌, inl, inr, arith}
use Rattle.std.specs.Prelude.{slice_get}
use Rattle.std.specs.Cmp.{nat_cmp_total, on_total, then_total}
use Rattle.std.specs.List.{Contains}
use Rattle.std.specs.List.Sorted.{IsPermutation, IsSorted}
use Rattle.std.specs.Ordering.{is_lt, ordering_then}
use Rattle.std.proofs.lemmas.Bool.{cases_eq}
use Rattle.std.proofs.lemmas.Bool.Decides.{nat_tests}
use Rattle.std.proofs.lemmas.List.Elements.{Contains-append_cases, Contains-append_left, Contains-append_right}
use Rattle.std.proofs.lemmas.List.Sorted.{ranks_by, sorted_far, Contains-permutation, IsPermutation-map, IsPermutation-sym}
use Rattle.std.proofs.lemmas.Option.{get_or_from_slice_get}
use Rattle.liszt_base.specs.declared.accesses.Access.{Access}
use Rattle.write_conflicts.specs.Conflicts.{accesses_at, Writes}
use Rattle.write_conflicts.specs.Internal.Rows.{writer_of, writers_in, Writer, AreWriters, AreOrdered}
use Rattle.write_conflicts.proofs.MemberLemmas.{contains_writer, writer_contains, not_in_nil}

-- the writers of one iteration more
pub writers_none : (lists : List (List Access)) → AreWriters lists 0 []
writers_none lists = record {
  each = λ w m. absurd (not_in_nil w m);
  all = λ w lt. absurd (omega arith);
}

pub writers_more : (lists : List (List Access)) (n : ℕ) (accesses : List Access) (writers new : List Writer) → AreWriters lists n writers
    → slice_get lists n ≡ Some accesses → new ≡ writers ++ writers_in n accesses → AreWriters lists (n + 1) new
writers_more lists n accesses writers new h read is =
    let own = get_or_from_slice_get lists n accesses [] read in
    record {
      each = λ w m.
          elim (Contains-append_cases writers (writers_in n accesses) w (subst (λ l. Contains l w) is m)) [
            | inl earlier ↦ let r = h.each w earlier in (omega (arith, r.0), r.1)
            | inr here ↦
                let r = contains_writer n accesses w here in
                (omega (arith, r.0), subst (λ l. Writes l w.spot) (sym (ap (accesses_at lists) r.0 ∙ own)) r.1)
          ];
      all = λ w lt m.
          subst (λ l. Contains l w) (sym is)
          (elim (cases_eq w.iteration n) [
            | inl e ↦
                Contains-append_right writers (writers_in n accesses) w
                (subst (λ i. Contains (writers_in n accesses) (record { spot = w.spot; iteration = i })) (sym e)
                (writer_contains n accesses w.spot (subst (λ l. Writes l w.spot) (ap (accesses_at lists) e ∙ own) m)))
            | inr ne ↦ Contains-append_left writers (writers_in n accesses) w (h.all w (omega arith) m)
          ]);
    }

-- the same writers in another order
pub writers_moved : (lists : List (List Access)) (n : ℕ) (rows sorted : List (ℕ × ℕ)) → AreWriters lists n (map writer_of rows)
    → IsPermutation rows sorted → AreWriters lists n (map writer_of sorted)
writers_moved lists n rows sorted h moved =
    let moved' = IsPermutation-map writer_of rows sorted moved in
    record {
      each = λ w m.
          h.each w (Contains-permutation (map writer_of sorted) (map writer_of rows) w (IsPermutation-sym (map writer_of rows) (map writer_of sorted) moved') m);
      all = λ w lt m. Contains-permutation (map writer_of rows) (map writer_of sorted) w moved' (h.all w lt m);
    }

-- sorted rows are in their order
not_less : (a b c d : ℕ) → is_lt (ordering_then (nat_cmp a c) (nat_cmp b d)) ≡ false → (c < a) ⊎ ((c ≡ a) × (d ≤ b))
not_less a b c d h = grind (arith, nat_tests)

pub rows_ordered : (rows : List (ℕ × ℕ)) → IsSorted (λ (x y : ℕ × ℕ). ordering_then (nat_cmp x.0 y.0) (nat_cmp x.1 y.1)) rows → AreOrdered rows
rows_ordered rows up i j d le lt =
    let cmp = λ (x y : ℕ × ℕ). ordering_then (nat_cmp x.0 y.0) (nat_cmp x.1 y.1) in
    let total = then_total (on_total (λ (t : ℕ × ℕ). t.0) nat_cmp_total) (on_total (λ (t : ℕ × ℕ). t.1) nat_cmp_total) in
    let x = get_or rows j d in
    let y = get_or rows i d in
    not_less x.0 x.1 y.0 y.1 (sorted_far (λ x y. is_lt (cmp x y)) (ranks_by total (λ (x : ℕ × ℕ). x)) rows up i j d le lt)
