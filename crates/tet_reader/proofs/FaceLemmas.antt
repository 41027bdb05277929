-- Corner sets without repeats: a set includes one of its size exactly where it is included in it, and a cell includes a triple
-- exactly where one of its faces has the triple's corners.
use Rattle.std.proofs.Common.{◌≡◌, ℕ, suc, ◌+◌, ◌≤◌, ◌==◌, ◌&&◌, ◌||◌, not, cond, Bool, true, false, List, [], ◌∷◌, length}
use Rattle.std.proofs.Common.{refl, sym, ap, subst, ◌∙◌, arith, eqb-true}
use Rattle.std.specs.List.{list_all, count_by}
use Rattle.std.proofs.lemmas.Bool.{and_parts, or_parts, not-true, both_ways}
use Rattle.std.proofs.lemmas.Bool.Decides.{nat_tests}
use Rattle.std.proofs.lemmas.List.Sums.{sum_by-cons, count_by-le-length}
use Rattle.liszt_base.specs.Corners.{is_in, includes, same_members, are_different, induced_cycles}

-- one more member
pub count_more : {A : Type 0} (p : A → Bool) (x : A) (xs : List A) → count_by p (x ∷ xs) ≡ cond (p x) 1 0 + count_by p xs
count_more p x xs = sum_by-cons (λ y. cond (p y) 1 0) x xs

-- a count that is one more, or is no more, against a length that is one more
one_more : (b t : Bool) (n l : ℕ) → t ≡ (n == l) → n ≤ l → (b && t) ≡ ((cond b 1 0 + n) == suc l)
one_more true t n l e le = e ∙ grind (arith, nat_tests)
one_more false t n l e le = grind (arith, nat_tests)

-- a test passes everywhere exactly where it passes as often as the list is long
all_count : {A : Type 0} (p : A → Bool) (xs : List A) → list_all p xs ≡ (count_by p xs == length xs)
all_count p [] = refl
all_count p (x ∷ xs) =
    rw (count_more p x xs) (one_more (p x) (list_all p xs) (count_by p xs) (length xs) (all_count p xs) (count_by-le-length p xs))

-- in a list without repeats a number stands once or never
one_of : (b t : Bool) (n : ℕ) → (b ≡ true → t ≡ false) → n ≡ cond t 1 0 → cond b 1 0 + n ≡ cond (b || t) 1 0
one_of true true n h e = absurd (both_ways true (h refl) refl)
one_of true false n h e = omega (arith, e)
one_of false true n h e = omega (arith, e)
one_of false false n h e = omega (arith, e)

-- equality of numbers goes both ways
pub same_either_way : (x y : ℕ) → (x == y) ≡ (y == x)
same_either_way x y = grind (arith, nat_tests)

-- so it is counted once where it is in the list
once : (x : ℕ) (ys : List ℕ) → are_different ys ≡ true → count_by (λ y. x == y) ys ≡ cond (is_in ys x) 1 0
once x [] d = refl
once x (y ∷ ys) d =
    let parts = and_parts (not (is_in ys y)) (are_different ys) d in
    let out : (y == x) ≡ true → is_in ys x ≡ false =
    λ e. subst (λ z. is_in ys z ≡ false) (eqb-true y x e) (not-true (is_in ys y) parts.0) in
    count_more (λ v. x == v) y ys ∙ ap (λ b. cond b 1 0 + count_by (λ v. x == v) ys) (same_either_way x y)
    ∙ one_of (y == x) (is_in ys x) (count_by (λ v. x == v) ys) out (once x ys parts.1)

-- a test that passes nowhere, and one of two that never pass together
pub count_none : {A : Type 0} (p : A → Bool) (xs : List A) → ((x : A) → p x ≡ false) → count_by p xs ≡ 0
count_none p [] h = refl
count_none p (x ∷ xs) h = rw (count_more p x xs) (rw (h x) (omega (arith, count_none p xs h)))

-- one more member for one of two such tests
add_one_of : (b t : Bool) (m n : ℕ) → (b ≡ true → t ≡ false) → cond (b || t) 1 0 + (m + n) ≡ (cond b 1 0 + m) + (cond t 1 0 + n)
add_one_of true true m n h = absurd (both_ways true (h refl) refl)
add_one_of true false m n h = omega arith
add_one_of false true m n h = omega arith
add_one_of false false m n h = omega arith

-- the two together pass as often as one and the other
count_either : {A : Type 0} (p q : A → Bool) (xs : List A) → ((x : A) → p x ≡ true → q x ≡ false)
    → count_by (λ x. p x || q x) xs ≡ count_by p xs + count_by q xs
count_either p q [] h = refl
count_either p q (x ∷ xs) h =
    count_more (λ v. p v || q v) x xs ∙ ap (λ n. cond (p x || q x) 1 0 + n) (count_either p q xs h)
    ∙ add_one_of (p x) (q x) (count_by p xs) (count_by q xs) (h x)
    ∙ sym (cc (count_more p x xs, count_more q x xs))

-- two lists without repeats have as many members in common, whichever is gone through
common : (xs ys : List ℕ) → are_different xs ≡ true → are_different ys ≡ true → count_by (is_in xs) ys ≡ count_by (is_in ys) xs
common [] ys d e = count_none (is_in []) ys (λ x. refl)
common (x ∷ xs) ys d e =
    let parts = and_parts (not (is_in xs x)) (are_different xs) d in
    let out : (v : ℕ) → (x == v) ≡ true → is_in xs v ≡ false =
    λ v h. subst (λ z. is_in xs z ≡ false) (eqb-true x v h) (not-true (is_in xs x) parts.0) in
    count_either (λ v. x == v) (is_in xs) ys out
    ∙ cc (once x ys e, common xs ys parts.1 e, count_more (is_in ys) x xs)

-- a test and itself
and_same : (b : Bool) → (b && b) ≡ b
and_same true = refl
and_same false = refl

-- so of two of one size each includes the other where one does
pub includes_back : (xs ys : List ℕ) → are_different xs ≡ true → are_different ys ≡ true → length xs ≡ length ys
    → includes xs ys ≡ includes ys xs
includes_back xs ys d e l =
    all_count (is_in xs) ys ∙ ap (λ n. n == length ys) (common xs ys d e) ∙ ap (λ n. count_by (is_in ys) xs == n) (sym l)
    ∙ sym (all_count (is_in ys) xs)

-- ---- a triple and the faces of a cell

-- of four tests, of which three pass at most, a choice of three passes once where three pass, and else never
abbrev as_number : Bool → ℕ
as_number b = cond b 1 0

abbrev sum_of_four : ℕ → ℕ → ℕ → ℕ → ℕ
sum_of_four a b c d = (((0 + a) + b) + c) + d

abbrev all_three : Bool → Bool → Bool → ℕ
all_three a b c = as_number (a && (b && (c && true)))

three_of : (a b c d : Bool) → sum_of_four (as_number a) (as_number b) (as_number c) (as_number d) ≤ 3
    → sum_of_four (all_three b c d) (all_three a d c) (all_three a b d) (all_three a c b)
    ≡ as_number (sum_of_four (as_number a) (as_number b) (as_number c) (as_number d) == 3)
three_of true true true true l = absurd (omega arith)
three_of true true true false l = refl
three_of true true false true l = refl
three_of true true false false l = refl
three_of true false true true l = refl
three_of true false true false l = refl
three_of true false false true l = refl
three_of true false false false l = refl
three_of false true true true l = refl
three_of false true true false l = refl
three_of false true false true l = refl
three_of false true false false l = refl
three_of false false true true l = refl
three_of false false true false l = refl
three_of false false false true l = refl
three_of false false false false l = refl

-- the six pairs of four different numbers
abbrev pub AreApart : ℕ → ℕ → ℕ → ℕ → Type 0
AreApart a b c d =
    ((b == a) ≡ false) × ((c == a) ≡ false) × ((d == a) ≡ false) × ((c == b) ≡ false) × ((d == b) ≡ false) × ((d == c) ≡ false)

-- are different each
pub apart : (a b c d : ℕ) → are_different (a ∷ b ∷ c ∷ d ∷ []) ≡ true → AreApart a b c d
apart a b c d e =
    let one = and_parts (not (is_in (b ∷ c ∷ d ∷ []) a)) (are_different (b ∷ c ∷ d ∷ [])) e in
    let two = and_parts (not (is_in (c ∷ d ∷ []) b)) (are_different (c ∷ d ∷ [])) one.1 in
    let three = and_parts (not (is_in (d ∷ []) c)) (are_different (d ∷ [])) two.1 in
    let a_out = or_parts (b == a) (is_in (c ∷ d ∷ []) a) (not-true _ one.0) in
    let a_more = or_parts (c == a) (is_in (d ∷ []) a) a_out.1 in
    let b_out = or_parts (c == b) (is_in (d ∷ []) b) (not-true _ two.0) in (
      a_out.0,
      a_more.0,
      (or_parts (d == a) false a_more.1).0,
      b_out.0,
      (or_parts (d == b) false b_out.1).0,
      (or_parts (d == c) false (not-true _ three.0)).0,
    )

-- three numbers that are different each have no repeat
are_three : (x y z : ℕ) → (y == x) ≡ false → (z == x) ≡ false → (z == y) ≡ false → are_different (x ∷ y ∷ z ∷ []) ≡ true
are_three x y z e f g = rw (e, f, g) refl

-- each of the four faces has three different corners
abbrev pub IsTriple : List ℕ → Type 0
IsTriple face = (length face ≡ 3) × (are_different face ≡ true)

-- so the faces of four different corners are triples
pub faces_are_triples : (a b c d : ℕ) → are_different (a ∷ b ∷ c ∷ d ∷ []) ≡ true
    → IsTriple (b ∷ c ∷ d ∷ []) × IsTriple (a ∷ d ∷ c ∷ []) × IsTriple (a ∷ b ∷ d ∷ []) × IsTriple (a ∷ c ∷ b ∷ [])
faces_are_triples a b c d e =
    let p = apart a b c d e in (
      (refl, are_three b c d p.3 p.4 p.5),
      (refl, are_three a d c p.2 p.1 (same_either_way c d ∙ p.5)),
      (refl, are_three a b d p.0 p.2 p.4),
      (refl, are_three a c b p.1 p.0 (same_either_way b c ∙ p.3)),
    )

-- a face and a triple that have the same corners
same_triple : (face cycle : List ℕ) → IsTriple face → IsTriple cycle → same_members face cycle ≡ includes face cycle
same_triple face cycle f c =
    ap (λ b. includes face cycle && b) (includes_back cycle face c.1 f.1 (c.0 ∙ sym f.0))
    ∙ and_same (includes face cycle)

-- a cell includes a triple exactly where one of its faces has the same corners, and then only one
pub one_face : (a b c d : ℕ) (face : List ℕ) → are_different (a ∷ b ∷ c ∷ d ∷ []) ≡ true → IsTriple face
    → count_by (same_members face) (induced_cycles (a ∷ b ∷ c ∷ d ∷ [])) ≡ as_number (includes (a ∷ b ∷ c ∷ d ∷ []) face)
one_face a b c d face e f =
    let cell : List ℕ = a ∷ b ∷ c ∷ d ∷ [] in
    let t = faces_are_triples a b c d e in
    let few : count_by (is_in face) cell ≤ 3 = omega (arith, count_by-le-length (is_in cell) face, common face cell f.1 e, f.0) in
    let all : includes cell face ≡ (count_by (is_in face) cell == 3) =
    all_count (is_in cell) face ∙ cc (common face cell f.1 e, f.0) in
    let each = three_of (is_in face a) (is_in face b) (is_in face c) (is_in face d) few in
    rw (same_triple face (b ∷ c ∷ d ∷ []) f t.0, same_triple face (a ∷ d ∷ c ∷ []) f t.1) (
    rw (same_triple face (a ∷ b ∷ d ∷ []) f t.2, same_triple face (a ∷ c ∷ b ∷ []) f t.3) (each ∙ ap as_number (sym all))
    )
