-- The other ids on the lists that contain an id, list by list.
use Rattle.std.proofs.Common.{◌≡◌, ℕ, ◌+◌, ◌<◌, ◌≤◌, true, false, cond, Bool, List, [], ◌∷◌, ◌++◌, length, set, get_or, filter, replicate, All, refl, sym, ap, subst, ◌∙◌, inl, inr, arith, length-append}
use Rattle.std.proofs.lemmas.Bool.{false_from_ne_true}
use Rattle.std.proofs.lemmas.List.{append-nil, flat_map_more, get_or-replicate, get_or-set_same, get_or-set_other, length-replicate, length-set}
use Rattle.std.proofs.lemmas.Option.{slice_get-get_or}
use Rattle.liszt_base.specs.Corners.{is_in}
use Rattle.mesh_topology.specs.Internal.Incidence.{differs_from, other_members, transposed, AreNeighbourSets, AreOthersAppended, AreOthersSoFar, IsSetOf}
use Rattle.mesh_topology.proofs.MemberLemmas.{Member, in_member, member_in}
use Rattle.mesh_topology.proofs.NeighbourLemmas.{neighbours_step}
use Rattle.mesh_topology.proofs.NearLemmas.{filter_is}
use Rattle.mesh_topology.proofs.TransposeLemmas.{fewer, transposed_at, transposed_length, with, with_step}
use Rattle.mesh_topology.proofs.UpperTableLemmas.{differs_from_by, other_is}

-- no lists
pub others_none : (lists : List (List ℕ)) (count : ℕ) (rows : List (List ℕ)) → rows ≡ replicate count [] → AreOthersSoFar lists count 0 rows
others_none lists count rows is = record {
  length_is = ap (λ xs. length xs) is ∙ length-replicate count [];
  at = λ y l. ap (λ xs. get_or xs y []) is ∙ get_or-replicate count y [] [] l;
}

-- the next list
pub others_joined : (lists : List (List ℕ)) (count id : ℕ) (mid new : List (List ℕ)) → AreOthersSoFar lists count id mid → AreOthersAppended (get_or lists id []) mid new → AreOthersSoFar lists count (id + 1) new
others_joined lists count id mid new so partners = record { length_is = partners.length_is ∙ so.length_is; at = at } where
  go : (y : ℕ) (b : Bool) (front : List ℕ) → cond b (other_members y lists front ++ filter (differs_from y) (get_or lists id [])) (other_members y lists front) ≡ other_members y lists (cond b (front ++ id ∷ []) front)
  go y true front = flat_map_more (λ by. filter (differs_from y) (get_or lists by [])) [] front id
  go y false front = refl

  at : (y : ℕ) → y < count → get_or new y [] ≡ other_members y lists (with lists y (id + 1))
  at y l =
      partners.at y (omega (arith, so.length_is)) ∙ (ap (λ xs. cond (is_in (get_or lists id []) y) (xs ++ filter (differs_from y) (get_or lists id [])) xs) (so.at y l)
      ∙ (go y (is_in (get_or lists id []) y) (with lists y id) ∙ ap (λ xs. other_members y lists xs) (sym (with_step lists y id))))

not_other : (y z : ℕ) → z ≡ y → differs_from y z ≡ false
not_other y z e = false_from_ne_true (differs_from y z) (λ h. other_is y z h (sym e))

left_out : (y z : ℕ) → z ≡ y → (xs : List ℕ) → filter (differs_from y) (z ∷ xs) ≡ filter (differs_from y) xs
left_out y z e xs = ap (λ b. cond b (z ∷ filter (differs_from y) xs) (filter (differs_from y) xs)) (not_other y z e)

left_in : (y z : ℕ) → (y ≡ z → ⊥) → (xs : List ℕ) → filter (differs_from y) (z ∷ xs) ≡ z ∷ filter (differs_from y) xs
left_in y z ne xs = ap (λ b. cond b (z ∷ filter (differs_from y) xs) (filter (differs_from y) xs)) (differs_from_by y z ne)

-- each list of two ids that contains an id has one other
others_few : (lists : List (List ℕ)) (y : ℕ) (front : List ℕ) → All (λ list. length list ≤ 2) lists → ((id : ℕ) → Member id front → (id < length lists) × (is_in (get_or lists id []) y ≡ true))
    → length (other_members y lists front) ≤ length front
others_few lists y [] two has = omega arith
others_few lists y (id ∷ front) two has =
    let h = has id (inl refl) in
    let one = one_other y (get_or lists id []) (two id [] h.0) (in_member (get_or lists id []) y h.1) in
    let more = others_few lists y front two (λ x m. has x (inr m)) in
    omega (arith, length-append (filter (differs_from y) (get_or lists id [])) (other_members y lists front))
  where
    short : (p : ℕ → Bool) (x : ℕ) → length (filter p (x ∷ [])) ≤ 1
    short p x = go (p x) where
      go : (b : Bool) → length (cond b (x ∷ []) []) ≤ 1
      go true = omega arith
      go false = omega arith

    one_other : (y : ℕ) (list : List ℕ) → length list ≤ 2 → Member y list → length (filter (differs_from y) list) ≤ 1
    one_other y [] l m = absurd m
    one_other y (a ∷ []) l m = short (differs_from y) a
    one_other y (a ∷ b ∷ []) l (inl e) = rw (left_out y a e (b ∷ [])) (short (differs_from y) b)
    one_other y (a ∷ b ∷ []) l (inr (inl e)) = both (differs_from y a) (left_out y b e []) where
      both : (t : Bool) → filter (differs_from y) (b ∷ []) ≡ [] → length (cond t (a ∷ filter (differs_from y) (b ∷ [])) (filter (differs_from y) (b ∷ []))) ≤ 1
      both true e = rw e (omega arith)
      both false e = rw e (omega arith)
    one_other y (a ∷ b ∷ []) l (inr (inr m)) = absurd m
    one_other y (a ∷ b ∷ c ∷ xs) l m = absurd (omega arith)

-- the rows of the ids of a list are not full
pub others_for : (lists : List (List ℕ)) (count most id : ℕ) (list : List ℕ) (rows : List (List ℕ)) → AreOthersSoFar lists count id rows → All (λ list. length list ≤ 2) lists
    → All (λ row. length row ≤ most) (transposed lists count) → id < length lists → get_or lists id [] ≡ list → All (λ y. y < count) list → All (λ y. length (get_or rows y []) < most) list
others_for lists count most id list rows so two few l e below k d m =
    let y = get_or list k d in
    let f = fewer lists count most id list few l e below k d m in
    let g = ap (λ xs. length xs) (so.at y (below k d m)) in
    let kept = filter_is (λ x. is_in (get_or lists x []) y) id in
    let o = others_few lists y (with lists y id) two (λ x n. let i = kept.inside x n in (omega (arith, i.0, l), i.1)) in
    omega arith

-- the next set
pub joined_step : (lists : List (List ℕ)) (count id : ℕ) (rows all : List (List ℕ)) (others : List ℕ) (new : List (List ℕ)) → AreOthersSoFar lists count (length lists) rows → id < count
    → AreNeighbourSets (transposed lists count) lists id all → IsSetOf (get_or rows id []) others → new ≡ all ++ others ∷ [] → AreNeighbourSets (transposed lists count) lists (id + 1) new
joined_step lists count id rows all others new are l so one is =
    let through = sym (transposed_at lists count id l) in
    let row = are.at id l ∙ ap (λ xs. other_members id lists xs) through in
    let read = slice_get-get_or (transposed lists count) id [] (omega (arith, transposed_length lists count)) in
    neighbours_step (transposed lists count) lists id all (get_or (transposed lists count) id []) others new so read (subst (λ xs. IsSetOf xs others) row one) is

-- a list of fewer than two has no others
pub joined_none : (list : List ℕ) (old : List (List ℕ)) → length list < 2 → AreOthersAppended list old old
joined_none list old l = record { length_is = refl; at = λ y m. sym (at y list l) } where
  at : (y : ℕ) (list : List ℕ) → length list < 2 → cond (is_in list y) (get_or old y [] ++ filter (differs_from y) list) (get_or old y []) ≡ get_or old y []
  at y [] l = refl
  at y (x ∷ z ∷ xs) l = absurd (omega arith)
  at y (x ∷ []) l = go (is_in (x ∷ []) y) refl where
    go : (b : Bool) → is_in (x ∷ []) y ≡ b → cond b (get_or old y [] ++ filter (differs_from y) (x ∷ [])) (get_or old y []) ≡ get_or old y []
    go false e = refl
    go true e = elim (in_member (x ∷ []) y e) [
      | inl same ↦ ap (λ xs. get_or old y [] ++ xs) (left_out y x same []) ∙ append-nil (get_or old y [])
      | inr none ↦ absurd none
    ]

-- each id of a list of two has the other one appended
pub joined_two : (x y : ℕ) (old mid new : List (List ℕ)) → x < y → x < length old → y < length old → mid ≡ set old x (get_or old x [] ++ y ∷ []) → new ≡ set mid y (get_or mid y [] ++ x ∷ [])
    → AreOthersAppended (x ∷ y ∷ []) old new
joined_two x y old mid new r lx ly first second = record { length_is = length_is; at = at } where
  one : length mid ≡ length old
  one = ap (λ xs. length xs) first ∙ length-set old x (get_or old x [] ++ y ∷ [])

  length_is : length new ≡ length old
  length_is = ap (λ xs. length xs) second ∙ (length-set mid y (get_or mid y [] ++ x ∷ []) ∙ one)

  mid_other : (z : ℕ) → (z ≡ x → ⊥) → get_or mid z [] ≡ get_or old z []
  mid_other z ne = ap (λ xs. get_or xs z []) first ∙ get_or-set_other old x z (get_or old x [] ++ y ∷ []) [] ne

  new_other : (z : ℕ) → (z ≡ y → ⊥) → get_or new z [] ≡ get_or mid z []
  new_other z ne = ap (λ xs. get_or xs z []) second ∙ get_or-set_other mid y z (get_or mid y [] ++ x ∷ []) [] ne

  apart : (z w : ℕ) → z < w → z ≡ w → ⊥
  apart z w l e = omega arith

  at_first : get_or new x [] ≡ get_or old x [] ++ filter (differs_from x) (x ∷ y ∷ [])
  at_first = new_other x (apart x y r) ∙ (ap (λ xs. get_or xs x []) first ∙ (get_or-set_same old x (get_or old x [] ++ y ∷ []) [] lx ∙ ap (λ xs. get_or old x [] ++ xs) (sym (left_out x x refl (y ∷ []) ∙ left_in x y (apart x y r) []))))

  at_second : get_or new y [] ≡ get_or old y [] ++ filter (differs_from y) (x ∷ y ∷ [])
  at_second = ap (λ xs. get_or xs y []) second ∙ (get_or-set_same mid y (get_or mid y [] ++ x ∷ []) [] (omega (arith, one, ly)) ∙ (ap (λ xs. xs ++ x ∷ []) (mid_other y (λ e. apart x y r (sym e))) ∙ ap (λ xs. get_or old y [] ++ xs) (sym (left_in y x (λ e. apart x y r (sym e)) (y ∷ []) ∙ ap (λ xs. x ∷ xs) (left_out y y refl [])))))

  go : (z : ℕ) (b : Bool) → is_in (x ∷ y ∷ []) z ≡ b → get_or new z [] ≡ cond b (get_or old z [] ++ filter (differs_from z) (x ∷ y ∷ [])) (get_or old z [])
  go z true e = elim (in_member (x ∷ y ∷ []) z e) [
    | inl same ↦ subst (λ v. get_or new v [] ≡ get_or old v [] ++ filter (differs_from v) (x ∷ y ∷ [])) same at_first
    | inr m ↦ elim m [
      | inl same ↦ subst (λ v. get_or new v [] ≡ get_or old v [] ++ filter (differs_from v) (x ∷ y ∷ [])) same at_second
      | inr none ↦ absurd none
    ]
  ]
  go z false e =
      let none = λ (w : ℕ) (m : Member w (x ∷ y ∷ [])) (same : z ≡ w). not_in w (subst (λ v. is_in (x ∷ y ∷ []) v ≡ false) same e) m in
      new_other z (none y (inr (inl refl))) ∙ mid_other z (none x (inl refl))
    where
      not_in : (w : ℕ) → is_in (x ∷ y ∷ []) w ≡ false → Member w (x ∷ y ∷ []) → ⊥
      not_in w f m = let t = member_in (x ∷ y ∷ []) w m in cc

  at : (z : ℕ) → z < length old → get_or new z [] ≡ cond (is_in (x ∷ y ∷ []) z) (get_or old z [] ++ filter (differs_from z) (x ∷ y ∷ [])) (get_or old z [])
  at z l = go z (is_in (x ∷ y ∷ []) z) refl
