-- Ordered lists with the same members are equal.
use Rattle.std.proofs.Common.{◌≡◌, ◌⊎◌, ℕ, zero, suc, ◌<◌, List, [], ◌∷◌, ◌++◌, ◌+◌, length, take, get_or, pos, AllPairs, refl, sym, ap, subst, ◌∙◌, inl, inr, arith}
use Rattle.std.specs.Cmp.Lexicographic.{nat_list_cmp_total}
use Rattle.std.specs.List.{AllZip}
use Rattle.std.specs.List.Sorted.{IsNonDecreasing, IsPermutation}
use Rattle.std.proofs.lemmas.List.{take_more}
use Rattle.liszt_base.specs.declared.mesh.Point.{Point}
use Rattle.liszt_base.specs.declared.mesh.RawCell.{RawCell}
use Rattle.mesh_topology.specs.Internal.Combinations.{AreSortedCorners, IsTableOf}
use Rattle.mesh_topology.proofs.MemberLemmas.{Member, member_contained, contained_member}
use Rattle.mesh_topology.proofs.OrderLemmas.{Pairs, pairs_of, Before, not_before_itself}

-- two ordered lists with the same members are equal
pub same_list : {A : Type 0} (R : A → A → Type 0) → ((x y : A) → R x y → R y x → ⊥) → (xs ys : List A) → Pairs R xs → Pairs R ys
    → ((z : A) → Member z xs → Member z ys) → ((z : A) → Member z ys → Member z xs) → xs ≡ ys
same_list R apart [] [] p q h k = refl
same_list R apart [] (y ∷ ys) p q h k = absurd (k y (inl refl))
same_list R apart (x ∷ xs) [] p q h k = absurd (h x (inl refl))
same_list {A} R apart (x ∷ xs) (y ∷ ys) p q h k =
    let e : x ≡ y = heads (h x (inl refl)) (k y (inl refl)) in
    let t = same_list R apart xs ys p.1 q.1 (λ z m. later z m (h z (inr m)) e) (λ z m. past z m (k z (inr m)) e) in
    cc
  where
    alone : (z : A) → R z z → ⊥
    alone z r = apart z z r r

    heads : (y ≡ x) ⊎ Member x ys → (x ≡ y) ⊎ Member y xs → x ≡ y
    heads (inl e) n = sym e
    heads (inr m) (inl e) = e
    heads (inr m) (inr n) = absurd (apart x y (p.0 y n) (q.0 x m))

    later : (z : A) → Member z xs → (y ≡ z) ⊎ Member z ys → x ≡ y → Member z ys
    later z m (inl f) e = absurd (alone x (subst (λ v. R x v) (sym (e ∙ f)) (p.0 z m)))
    later z m (inr n) e = n

    past : (z : A) → Member z ys → (x ≡ z) ⊎ Member z xs → x ≡ y → Member z xs
    past z m (inl f) e = absurd (alone y (subst (λ v. R y v) (sym f ∙ e) (q.0 z m)))
    past z m (inr n) e = n

-- the lexicographic order is antisymmetric
pub not_both_before : (xs ys : List ℕ) → Before xs ys → Before ys xs → ⊥
not_both_before xs ys p q = not_before_itself xs (nat_list_cmp_total.trans xs ys xs p q)

-- two tables of the same sets are equal
pub same_table : (sets table other : List (List ℕ)) → IsTableOf sets table → AllPairs Before other
    → ((set : List ℕ) → Member set other → Member set sets) → ((set : List ℕ) → Member set sets → Member set other) → table ≡ other
same_table sets table other t up h k = same_list Before not_both_before table other (pairs_of Before table t.ordered) (pairs_of Before other up)
    (λ z m. k z (member_contained sets z ((t.members z).0 (contained_member table z m))))
    (λ z m. member_contained table z ((t.members z).1 (contained_member sets z (h z m))))

-- a relation of two lists, member by member, extends to a further pair
pub zip_push : {A B : Type 0} (R : A → B → Type 0) (xs : List A) (ys : List B) (x : A) (y : B) → AllZip R xs ys → R x y → AllZip R (xs ++ x ∷ []) (ys ++ y ∷ [])
zip_push R [] [] x y all one = (one, tt)
zip_push R [] (w ∷ ys) x y all one = absurd all
zip_push R (z ∷ xs) [] x y all one = absurd all
zip_push R (z ∷ xs) (w ∷ ys) x y all one = (all.0, zip_push R xs ys x y all.1 one)

-- and holds at each index
pub zip_at : {A B : Type 0} (R : A → B → Type 0) (xs : List A) (ys : List B) (k : ℕ) (x : A) (y : B) → AllZip R xs ys → k < length xs
    → R (get_or xs k x) (get_or ys k y)
zip_at R [] ys k x y all l = absurd (omega arith)
zip_at R (z ∷ xs) [] k x y all l = absurd all
zip_at R (z ∷ xs) (w ∷ ys) zero x y all l = all.0
zip_at R (z ∷ xs) (w ∷ ys) (suc k) x y all l = zip_at R xs ys k x y all.1 (omega arith)

-- lists so related have one length
pub zip_length : {A B : Type 0} (R : A → B → Type 0) (xs : List A) (ys : List B) → AllZip R xs ys → length xs ≡ length ys
zip_length R [] [] all = refl
zip_length R [] (w ∷ ys) all = absurd all
zip_length R (z ∷ xs) [] all = absurd all
zip_length R (z ∷ xs) (w ∷ ys) all = ap suc (zip_length R xs ys all.1)

-- the default cell and point at an index past the end
abbrev pub no_cell : RawCell
no_cell = record { corners = []; region = pos 0 }

abbrev pub no_point : Point
no_point = record { x = pos 0; y = pos 0; z = pos 0; mark = pos 0 }

-- the next pair of a longer prefix
pub zip_step : {A B : Type 0} (R : A → B → Type 0) (xs : List A) (ys : List B) (i : ℕ) (d : A) (y : B) → i < length xs → AllZip R (take i xs) ys → R (get_or xs i d) y
    → AllZip R (take (i + 1) xs) (ys ++ y ∷ [])
zip_step R xs ys i d y l all one = rw (take_more xs i d) (zip_push R (take i xs) ys (get_or xs i d) y all one)

-- the next row
pub row_step : (cells : List RawCell) (rows : List (List ℕ)) (at : ℕ) (row : List ℕ) → at < length cells → AllZip AreSortedCorners (take at cells) rows
    → IsNonDecreasing row → IsPermutation (get_or cells at no_cell).corners row → AllZip AreSortedCorners (take (at + 1) cells) (rows ++ row ∷ [])
row_step cells rows at row l all up moved =
    let one : AreSortedCorners (get_or cells at no_cell) row = record { ascending = up; permutes = moved } in
    zip_step AreSortedCorners cells rows at no_cell row l all one
