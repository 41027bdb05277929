-- The least place of a piece that n earlier cells have is the place of the first cell that has one.
use Rattle.std.proofs.Common.{◌≡◌, ℕ, ◌+◌, ◌<◌, ◌≤◌, ◌==◌, ◌&&◌, ◌||◌, nat_lt, cond, min, Bool, true, false, Option, Some, None}
use Rattle.std.proofs.Common.{List, [], ◌∷◌, ◌++◌, length, map, refl, sym, ap, ◌∙◌, inl, inr, arith, eqb-true, eq-eqb, ne_eqb, ◌≢◌}
use Rattle.std.proofs.Common.{append_assoc, length-append, le_antisymm, lt-ltb, le-ltb}
use Rattle.std.specs.List.{list_any, count_by, fold, reduce}
use Rattle.std.proofs.lemmas.Bool.{both_ways, and_from, and_left, and_right, or_cases, or_left, or_right, or_from, cases_lt}
use Rattle.std.proofs.lemmas.List.Folds.{list_any-append}
use Rattle.std.proofs.lemmas.List.Sums.{sum_by-append}
use Rattle.liszt_base.specs.Corners.{is_in, same_members, along}
use Rattle.tet_reader.specs.Internal.FirstMisfit.{first_true}
use Rattle.tet_reader.specs.Internal.RepeatedRows.{with_cell_index}
use Rattle.tet_reader.proofs.FaceLemmas.{count_more, count_none}

-- ---- least numbers

-- the least number that passes, or none where none does
abbrev pub IsLeast : (ℕ → Bool) → Option ℕ → Type 0
IsLeast p None = (n : ℕ) → p n ≡ false
IsLeast p (Some m) = (p m ≡ true) × ((n : ℕ) → p n ≡ true → m ≤ n)

-- there is one least number, and tests that are one have the same
pub one_least : (p : ℕ → Bool) (r s : Option ℕ) → IsLeast p r → IsLeast p s → r ≡ s
one_least p None None f g = refl
one_least p None (Some m) f g = absurd (both_ways (p m) (f m) g.0)
one_least p (Some m) None f g = absurd (both_ways (p m) (g m) f.0)
one_least p (Some m) (Some n) f g = ap Some (le_antisymm (f.1 n g.0) (g.1 m f.0))

pub least_of : (p q : ℕ → Bool) (r : Option ℕ) → ((n : ℕ) → p n ≡ q n) → IsLeast p r → IsLeast q r
least_of p q None h f = λ n. sym (h n) ∙ f n
least_of p q (Some m) h f = (sym (h m) ∙ f.0, λ n e. f.1 n (h n ∙ e))

-- the least of some numbers
least_among : (x : ℕ) (xs : List ℕ) → (is_in (x ∷ xs) (fold min x xs) ≡ true) × ((n : ℕ) → is_in (x ∷ xs) n ≡ true → fold min x xs ≤ n)
least_among x [] = (
  or_left (x == x) false (eq-eqb x x refl),
  λ n e. elim (or_cases (x == n) false e) [
    | inl f ↦ omega (arith, eqb-true x n f)
    | inr f ↦ absurd (both_ways false refl f)
  ],
)
least_among x (y ∷ ys) =
    let more = least_among (min x y) ys in (
      found more.0,
      λ n e. elim (or_cases (x == n) (is_in (y ∷ ys) n) e) [
        | inl f ↦ omega (arith, least more.1, eqb-true x n f)
        | inr f ↦ elim (or_cases (y == n) (is_in ys n) f) [
          | inl g ↦ omega (arith, least more.1, eqb-true y n g)
          | inr g ↦ more.1 n (or_right (min x y == n) (is_in ys n) g)
        ]
      ],
    )
  where
    Bound : Type 0
    Bound = (n : ℕ) → is_in (min x y ∷ ys) n ≡ true → fold min (min x y) ys ≤ n

    least : Bound → fold min (min x y) ys ≤ min x y
    least more = more (min x y) (or_left (min x y == min x y) (is_in ys (min x y)) (eq-eqb (min x y) (min x y) refl))

    found : is_in (min x y ∷ ys) (fold min (min x y) ys) ≡ true → is_in (x ∷ y ∷ ys) (fold min (min x y) ys) ≡ true
    found e =
        let r = fold min (min x y) ys in
        elim (or_cases (min x y == r) (is_in ys r) e) [
          | inl f ↦
              let is = eqb-true (min x y) r f in
              elim (cases_lt x y) [
                | inl l ↦ or_left (x == r) (is_in (y ∷ ys) r) (eq-eqb x r (omega arith))
                | inr l ↦ or_right (x == r) (is_in (y ∷ ys) r) (or_left (y == r) (is_in ys r) (eq-eqb y r (omega arith)))
              ]
          | inr f ↦ or_right (x == r) (is_in (y ∷ ys) r) (or_right (y == r) (is_in ys r) f)
        ]

-- which `reduce` gives
pub reduce_least : (xs : List ℕ) → IsLeast (is_in xs) (reduce min xs)
reduce_least [] = λ n. refl
reduce_least (x ∷ xs) = least_among x xs

-- ---- tests of lists

-- tests that are one, tests of values, of two lists, and ones that fail or do not depend on the member
pub any_same : {A : Type 0} (p q : A → Bool) (xs : List A) → ((x : A) → p x ≡ q x) → list_any p xs ≡ list_any q xs
any_same p q [] h = refl
any_same p q (x ∷ xs) h = cc (h x, any_same p q xs h)

any_map : {A B : Type 0} (p : B → Bool) (f : A → B) (xs : List A) → list_any p (map f xs) ≡ list_any (λ x. p (f x)) xs
any_map p f [] = refl
any_map p f (x ∷ xs) = ap (λ b. p (f x) || b) (any_map p f xs)

-- their counts
count_map : {A B : Type 0} (p : B → Bool) (f : A → B) (xs : List A) → count_by p (map f xs) ≡ count_by (λ x. p (f x)) xs
count_map p f [] = refl
count_map p f (x ∷ xs) = cc (count_more p (f x) (map f xs), count_more (λ y. p (f y)) x xs, count_map p f xs)

pub count_same : {A : Type 0} (p q : A → Bool) (xs : List A) → ((x : A) → p x ≡ q x) → count_by p xs ≡ count_by q xs
count_same p q [] h = refl
count_same p q (x ∷ xs) h = cc (count_more p x xs, count_more q x xs, h x, count_same p q xs h)

count_append : {A : Type 0} (p : A → Bool) (xs ys : List A) → count_by p (xs ++ ys) ≡ count_by p xs + count_by p ys
count_append p xs ys = sum_by-append (λ x. cond (p x) 1 0) xs ys

any_none : {A : Type 0} (p : A → Bool) (xs : List A) → ((x : A) → p x ≡ false) → list_any p xs ≡ false
any_none p [] h = refl
any_none p (x ∷ xs) h = or_from (p x) (list_any p xs) (h x) (any_none p xs h)

any_and : {A : Type 0} (b : Bool) (p : A → Bool) (xs : List A) → list_any (λ x. b && p x) xs ≡ (b && list_any p xs)
any_and true p xs = refl
any_and false p xs = any_none (λ x. false) xs (λ x. refl)

and_true : (b t : Bool) → t ≡ true → (b && t) ≡ b
and_true true t e = e
and_true false t e = refl

-- ---- pieces and their places

-- a piece with the same corners and a lesser place
abbrev pub is_earlier : List ℕ × ℕ → List ℕ × ℕ → Bool
is_earlier piece other = same_members other.0 piece.0 && nat_lt other.1 piece.1

-- how many pieces of some cells have these corners
abbrev pub held : List ℕ → List (List (List ℕ)) → ℕ
held corners [] = 0
held corners (pieces ∷ cells) = count_by (λ piece. same_members piece corners) pieces + held corners cells

-- some piece of the cell is one of more than n earlier ones
abbrev pub item_passes : ℕ → List (List (List ℕ)) → List (List ℕ) → Bool
item_passes few earlier pieces = list_any (λ piece. nat_lt few (held piece earlier)) pieces

-- pieces from a place on are not earlier than it
none_earlier : (corners : List ℕ) (place start : ℕ) (cells : List (List (List ℕ))) → place ≤ start
    → count_by (is_earlier (corners, place)) (with_cell_index start cells) ≡ 0
none_earlier corners place start [] l = refl
none_earlier corners place start (pieces ∷ cells) l =
    let test = is_earlier (corners, place) in
    let here = λ (piece : List ℕ). and_right (same_members piece corners) (nat_lt start place) (le-ltb start place l) in
    count_append test (map (λ piece. (piece, start)) pieces) (with_cell_index (start + 1) cells)
    ∙ cc (
      count_map test (λ piece. (piece, start)) pieces,
      count_none (λ piece. test (piece, start)) pieces here,
      none_earlier corners place (start + 1) cells (omega arith),
    )

-- those in front of a place are
all_earlier : (corners : List ℕ) (place start : ℕ) (before after : List (List (List ℕ))) → place ≡ start + length before
    → count_by (is_earlier (corners, place)) (with_cell_index start (before ++ after)) ≡ held corners before
all_earlier corners place start [] after e = none_earlier corners place start after (omega (arith, e))
all_earlier corners place start (pieces ∷ before) after e =
    let test = is_earlier (corners, place) in
    let lt : start < place = omega (arith, e) in
    let here = λ (piece : List ℕ). and_true (same_members piece corners) (nat_lt start place) (lt-ltb start place lt) in
    count_append test (map (λ piece. (piece, start)) pieces) (with_cell_index (start + 1) (before ++ after))
    ∙ cc (
      count_map test (λ piece. (piece, start)) pieces,
      count_same (λ piece. test (piece, start)) (λ piece. same_members piece corners) pieces here,
      all_earlier corners place (start + 1) before after (omega (arith, e)),
    )

-- ---- the first cell

-- a piece with this place that passes
abbrev stands_at : (List ℕ × ℕ → Bool) → ℕ → List ℕ × ℕ → Bool
stands_at test place piece = (piece.1 == place) && test piece

-- there is no piece in front of the first place
none_below : (test : List ℕ × ℕ → Bool) (start place : ℕ) (cells : List (List (List ℕ))) → place < start
    → list_any (stands_at test place) (with_cell_index start cells) ≡ false
none_below test start place [] l = refl
none_below test start place (pieces ∷ cells) l =
    let ne : start ≢ place = omega arith in
    let here = λ (piece : List ℕ). and_left (start == place) (test (piece, start)) (ne_eqb start place ne) in
    let front : List (List ℕ × ℕ) = map (λ piece. (piece, start)) pieces in
    list_any-append (stands_at test place) front (with_cell_index (start + 1) cells)
    ∙ or_from (list_any (stands_at test place) front) (list_any (stands_at test place) (with_cell_index (start + 1) cells))
    (any_map (stands_at test place) (λ piece. (piece, start)) pieces ∙ any_none (λ piece. stands_at test place (piece, start)) pieces here)
    (none_below test (start + 1) place cells (omega arith))

-- What a test says of the pieces of each cell, at the cell's place, is what another says of the cell and those in front of it.
abbrev Agrees : (List ℕ × ℕ → Bool) → (List (List (List ℕ)) → List (List ℕ) → Bool) → List (List (List ℕ)) → Type 0
Agrees test said cells =
    (before : List (List (List ℕ))) (pieces : List (List ℕ)) (after : List (List (List ℕ))) → cells ≡ before ++ pieces ∷ after
    → list_any (λ piece. test (piece, length before)) pieces ≡ said before pieces

-- one more cell
least_step : (test : List ℕ × ℕ → Bool) (place : ℕ) (pieces : List (List ℕ)) (rest : List (List (List ℕ))) (b : Bool) (tests : List Bool)
    → list_any (λ piece. test (piece, place)) pieces ≡ b
    → IsLeast (λ m. list_any (stands_at test m) (with_cell_index (place + 1) rest)) (first_true (place + 1) tests)
    → IsLeast (λ m. list_any (stands_at test m) (with_cell_index place (pieces ∷ rest))) (first_true place (b ∷ tests))
least_step test place pieces rest b tests e more = go b e more where
  here : Bool
  here = list_any (λ piece. test (piece, place)) pieces

  row_after_header : ℕ → Bool
  row_after_header m = list_any (stands_at test m) (with_cell_index (place + 1) rest)

  all : ℕ → Bool
  all m = list_any (stands_at test m) (with_cell_index place (pieces ∷ rest))

  parted : (m : ℕ) → all m ≡ (((place == m) && here) || row_after_header m)
  parted m =
      list_any-append (stands_at test m) (map (λ piece. (piece, place)) pieces) (with_cell_index (place + 1) rest)
      ∙ ap (λ t. t || row_after_header m) (any_map (stands_at test m) (λ piece. (piece, place)) pieces)
      ∙ ap (λ t. t || row_after_header m) (any_and (place == m) (λ piece. test (piece, place)) pieces)

  go : (b : Bool) → here ≡ b → IsLeast row_after_header (first_true (place + 1) tests) → IsLeast all (first_true place (b ∷ tests))
  go true e more = (
    parted place ∙ or_left ((place == place) && here) (row_after_header place) (and_from (place == place) here (eq-eqb place place refl) e),
    λ n t. elim (cases_lt n place) [
      | inl lt ↦ absurd (both_ways (all n) (none_below test place n (pieces ∷ rest) lt) t)
      | inr ge ↦ ge
    ],
  )
  go false e more =
      let same = λ (n : ℕ). sym (parted n ∙ ap (λ t. t || row_after_header n) (and_right (place == n) here e)) in
      least_of row_after_header all (first_true (place + 1) tests) same more

-- then the least place of a piece that passes is the first cell's of which the other is true
least_along : (test : List ℕ × ℕ → Bool) (said : List (List (List ℕ)) → List (List ℕ) → Bool) (all : List (List (List ℕ)))
    → Agrees test said all → (before rest : List (List (List ℕ))) → all ≡ before ++ rest → (place : ℕ) → place ≡ length before
    → IsLeast (λ m. list_any (stands_at test m) (with_cell_index place rest)) (first_true place (along said before rest))
least_along test said all h before [] e place p = λ n. refl
least_along test said all h before (pieces ∷ rest) e place p =
    let this = ap (λ m. list_any (λ piece. test (piece, m)) pieces) p ∙ h before pieces rest e in
    let split : all ≡ (before ++ pieces ∷ []) ++ rest = e ∙ sym (append_assoc before (pieces ∷ []) rest) in
    let next : place + 1 ≡ length (before ++ pieces ∷ []) = omega (arith, p, length-append before (pieces ∷ [])) in
    least_step test place pieces rest (said before pieces) (along said (before ++ pieces ∷ []) rest) this
    (least_along test said all h (before ++ pieces ∷ []) rest split (place + 1) next)

-- a piece with this place that more than n earlier ones have; the least such place
abbrev pub has_earlier : ℕ → List (List ℕ × ℕ) → ℕ → Bool
has_earlier few pieces place = list_any (λ piece. (piece.1 == place) && nat_lt few (count_by (is_earlier piece) pieces)) pieces

-- is that of the first cell of which it is true
pub least_passes : (few : ℕ) (cells : List (List (List ℕ)))
    → IsLeast (has_earlier few (with_cell_index 0 cells)) (first_true 0 (along (item_passes few) [] cells))
least_passes few cells = least_along test (item_passes few) cells agrees [] cells refl 0 refl where
  test : List ℕ × ℕ → Bool
  test piece = nat_lt few (count_by (is_earlier piece) (with_cell_index 0 cells))

  count : (before : List (List (List ℕ))) (pieces : List (List ℕ)) (after : List (List (List ℕ))) → cells ≡ before ++ pieces ∷ after
      → (piece : List ℕ) → test (piece, length before) ≡ nat_lt few (held piece before)
  count before pieces after e piece = ap (λ n. nat_lt few n) (
      ap (λ l. count_by (is_earlier (piece, length before)) (with_cell_index 0 l)) e
      ∙ all_earlier piece (length before) 0 before (pieces ∷ after) (omega arith)
      )

  agrees : Agrees test (item_passes few) cells
  agrees before pieces after e =
      any_same (λ piece. test (piece, length before)) (λ piece. nat_lt few (held piece before)) pieces (count before pieces after e)
