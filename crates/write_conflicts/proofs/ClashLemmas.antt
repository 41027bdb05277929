-- The first two rows with one key and different iterations are the first clash.
use Rattle.std.proofs.Common.{◌≡◌, ◌≢◌, ◌⊎◌, ℕ, ◌+◌, ◌-◌, ◌<◌, ◌≤◌, true, List, [], map, length, get_or}
use Rattle.std.proofs.Common.{refl, sym, ap, subst, ◌∙◌, inl, inr, arith}
use Rattle.std.proofs.lemmas.Bool.{cases_lt, cases_eq, cases_order, false_from_ne_true}
use Rattle.std.proofs.lemmas.List.{get_or_default, get_or_past}
use Rattle.std.proofs.lemmas.List.Elements.{Contains-get_or}
use Rattle.liszt_base.specs.declared.accesses.Access.{Access}
use Rattle.liszt_base.specs.declared.accesses.Spot.{Spot}
use Rattle.write_conflicts.specs.Conflicts.{precedes, accesses_at, Clash, IsFirstClash, Writes}
use Rattle.write_conflicts.specs.Internal.Rows.{spot_of, writer_of, Writer, AreOrdered, AreWriters}
use Rattle.write_conflicts.proofs.KeyLemmas.{precedes_key, same_key}
use Rattle.write_conflicts.proofs.MemberLemmas.{contains_map, map_contains, not_in_nil}

abbrev pub row : List (ℕ × ℕ) → ℕ → ℕ × ℕ
row rows p = get_or rows p (0, 0)

-- Of the rows below an index, those with one key have one iteration.
abbrev pub HaveOneIteration : List (ℕ × ℕ) → ℕ → Type 0
HaveOneIteration rows n = (p q : ℕ) → p < q → q < n → (row rows p).0 ≡ (row rows q).0 → (row rows p).1 ≡ (row rows q).1

pub one_iteration_more : (rows : List (ℕ × ℕ)) (n : ℕ) → AreOrdered rows → n < length rows → HaveOneIteration rows n
    → ((row rows (n - 1)).0 ≡ (row rows n).0 → (row rows (n - 1)).1 ≡ (row rows n).1) → HaveOneIteration rows (n + 1)
one_iteration_more rows n up inside h next p q lt lt' e =
    elim (cases_lt q n) [
      | inl less ↦ h p q lt less e
      | inr ge ↦
          let is : q ≡ n = omega arith in
          let e' : (row rows p).0 ≡ (row rows n).0 = e ∙ ap (λ k. (row rows k).0) is in
          let low = up p (n - 1) (0, 0) (omega arith) (omega arith) in
          let high = up (n - 1) n (0, 0) (omega arith) inside in
          let same : (row rows p).0 ≡ (row rows (n - 1)).0 = between (row rows p).0 (row rows (n - 1)).0 (row rows n).0
          ((row rows p).1 ≤ (row rows (n - 1)).1) ((row rows (n - 1)).1 ≤ (row rows n).1) low high e' in
          let last = next (sym same ∙ e') in
          let first : (row rows p).1 ≡ (row rows (n - 1)).1 = elim (cases_eq p (n - 1)) [
            | inl here ↦ ap (λ k. (row rows k).1) here
            | inr ne ↦ h p (n - 1) (omega arith) (omega arith) same
          ] in
          first ∙ (last ∙ ap (λ k. (row rows k).1) (sym is))
    ] where
      between : (a b c : ℕ) (P Q : Type 0) → (a < b) ⊎ ((a ≡ b) × P) → (b < c) ⊎ ((b ≡ c) × Q) → a ≡ c → a ≡ b
      between a b c P Q (inl lt) (inl lt') e = absurd (omega arith)
      between a b c P Q (inl lt) (inr le) e = absurd (omega (arith, le.0))
      between a b c P Q (inr le) h e = le.0

-- where a row of an iteration that writes a spot is
pub record HasRow (rows : List (ℕ × ℕ)) (spot : Spot) (i : ℕ) : Type 0 where
  pub at : ℕ
  pub inside : at < length rows
  pub key : spot_of (row rows at).0 ≡ spot
  pub iteration : (row rows at).1 ≡ i

writes_within : (lists : List (List Access)) (i : ℕ) (spot : Spot) → Writes (accesses_at lists i) spot → i < length lists
writes_within lists i spot m =
    elim (cases_lt i (length lists)) [
      | inl lt ↦ lt
      | inr le ↦ absurd (not_in_nil _ (subst (λ l. Writes l spot) (get_or_past lists i [] le) m))
    ]

pub has_row : (lists : List (List Access)) (rows : List (ℕ × ℕ)) (spot : Spot) (i : ℕ) → AreWriters lists (length lists) (map writer_of rows)
    → Writes (accesses_at lists i) spot → HasRow rows spot i
has_row lists rows spot i h m =
    let w : Writer = record { spot = spot; iteration = i } in
    let r = contains_map writer_of rows w (h.all w (writes_within lists i spot m) m) in
    let c = r.1 in
    let is : row rows c.0 ≡ r.0 = get_or_default rows c.0 (0, 0) r.0 c.1 ∙ c.2 in
    record {
      at = c.0;
      inside = c.1;
      key = ap (λ (x : ℕ × ℕ). spot_of x.0) is ∙ ap (λ (v : Writer). v.spot) r.2;
      iteration = ap (λ (x : ℕ × ℕ). x.1) is ∙ ap (λ (v : Writer). v.iteration) r.2;
    }

writes_at : (lists : List (List Access)) (rows : List (ℕ × ℕ)) (p : ℕ) → AreWriters lists (length lists) (map writer_of rows)
    → p < length rows → Writes (accesses_at lists (row rows p).1) (spot_of (row rows p).0)
writes_at lists rows p h lt =
    (h.each (writer_of (row rows p)) (map_contains writer_of rows (row rows p) (writer_of (row rows p)) (Contains-get_or rows p (0, 0) lt) refl)).1

-- two rows of one spot below such an index are of one iteration
same_iteration : (rows : List (ℕ × ℕ)) (n : ℕ) (spot : Spot) (i j : ℕ) → HaveOneIteration rows n
    → (a : HasRow rows spot i) (b : HasRow rows spot j) → a.at < n → b.at < n → i ≡ j
same_iteration rows n spot i j one a b lt lt' =
    let same : (row rows a.at).0 ≡ (row rows b.at).0 = same_key (row rows a.at).0 (row rows b.at).0 (a.key ∙ sym b.key) in
    let step : (row rows a.at).1 ≡ (row rows b.at).1 = elim (cases_order a.at b.at) [
      | inl e ↦ ap (λ k. (row rows k).1) e
      | inr (inl less) ↦ one a.at b.at less lt' same
      | inr (inr more) ↦ sym (one b.at a.at more lt (sym same))
    ] in
    sym a.iteration ∙ (step ∙ b.iteration)

pub no_clash : (lists : List (List Access)) (rows : List (ℕ × ℕ)) (n : ℕ) → AreWriters lists (length lists) (map writer_of rows)
    → length rows ≤ n → HaveOneIteration rows n → (spot : Spot) (i j : ℕ) → Clash lists spot i j → ⊥
no_clash lists rows n h le one spot i j clash =
    let a = has_row lists rows spot i h clash.by_first in
    let b = has_row lists rows spot j h clash.by_second in
    let a_in = a.inside in
    let b_in = b.inside in
    clash.different (same_iteration rows n spot i j one a b (omega arith) (omega arith))

-- a row of a spot that precedes is below
below : (rows : List (ℕ × ℕ)) (n : ℕ) (spot : Spot) (i : ℕ) → AreOrdered rows → (a : HasRow rows spot i)
    → precedes spot (spot_of (row rows n).0) ≡ true → a.at < n
below rows n spot i up a before =
    let less = precedes_key (row rows a.at).0 (row rows n).0
    (subst (λ s. precedes s (spot_of (row rows n).0) ≡ true) (sym a.key) before) in
    elim (cases_lt a.at n) [
      | inl lt ↦ lt
      | inr le ↦ elim (up n a.at (0, 0) le a.inside) [
        | inl lt ↦ absurd (omega arith)
        | inr (e, lt) ↦ absurd (omega arith)
      ]
    ]

pub first_clash_at : (lists : List (List Access)) (rows : List (ℕ × ℕ)) (n : ℕ) → AreWriters lists (length lists) (map writer_of rows)
    → AreOrdered rows → 1 ≤ n → n < length rows → HaveOneIteration rows n
    → (row rows (n - 1)).0 ≡ (row rows n).0 → (row rows (n - 1)).1 ≢ (row rows n).1
    → IsFirstClash lists (spot_of (row rows (n - 1)).0) (row rows (n - 1)).1 (row rows n).1
first_clash_at lists rows n h up positive inside one same differ =
    let m = n - 1 in
    let key = (row rows m).0 in
    let rising : (row rows m).1 < (row rows n).1 = elim (up m n (0, 0) (omega arith) inside) [
      | inl lt ↦ absurd (omega arith)
      | inr (e, le) ↦ omega arith
    ] in
    record {
      clash = record {
        different = differ;
        by_first = writes_at lists rows m h (omega arith);
        by_second =
            subst (λ k. Writes (accesses_at lists (row rows n).1) (spot_of k)) (sym same) (writes_at lists rows n h inside);
      };
      order = rising;
      least = λ other i j clash.
          false_from_ne_true (precedes other (spot_of key))
          (λ before.
          let a = has_row lists rows other i h clash.by_first in
          let b = has_row lists rows other j h clash.by_second in
          let lt : a.at < m = below rows m other i up a before in
          let lt' : b.at < m = below rows m other j up b before in
          clash.different (same_iteration rows n other i j one a b (omega arith) (omega arith)));
      two_least = λ i writes.
          let a = has_row lists rows (spot_of key) i h writes in
          let is : (row rows a.at).0 ≡ key = same_key (row rows a.at).0 key a.key in
          elim (cases_lt a.at n) [
            | inl lt ↦
                let step : (row rows a.at).1 ≡ (row rows m).1 = elim (cases_eq a.at m) [
                  | inl e ↦ ap (λ k. (row rows k).1) e
                  | inr ne ↦ one a.at m (omega arith) (omega arith) is
                ] in
                inl (sym a.iteration ∙ step)
            | inr le ↦
                let it = a.iteration in
                inr (elim (up n a.at (0, 0) le a.inside) [
                  | inl lt ↦ absurd (omega arith)
                  | inr (e, le') ↦ omega arith
                ])
          ];
    }
