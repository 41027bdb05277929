-- The parts of a list between the elements that pass a test, and what passes a test at no element.
use Rattle.std.proofs.lemmas.Bool.{or_parts}
use Rattle.std.proofs.Common.{◌≡◌, ℕ, zero, suc, ◌+◌, ◌≤◌, not, cond, ◌||◌, nat_lt, Bool, true, false, List, [], ◌∷◌, ◌++◌, take, drop, length, Some, None, position, refl, sym, ap, ◌∙◌, arith}
use Rattle.std.specs.List.{slice_split, onto_first, before_first, after_first, position_or_len, list_any, AllByRecursion}
use Rattle.std.proofs.lemmas.Bool.Decides.{nat_tests}
use Rattle.std.proofs.lemmas.List.{take_all, drop_all}
use Rattle.std.proofs.lemmas.List.Sums.{take_while-cons}

-- there is a first part
abbrev pub HasFirst : List (List ℕ) → Type 0
HasFirst split = (part : List ℕ) × (parts : List (List ℕ)) × (split ≡ part ∷ parts)

pub first_part : (p : ℕ → Bool) (xs : List ℕ) → HasFirst (slice_split p xs)
first_part p [] = ([], [], refl)
first_part p (x ∷ xs) = go (p x) (first_part p xs) where
  go : (b : Bool) → HasFirst (slice_split p xs) → HasFirst (cond b ([] ∷ slice_split p xs) (onto_first x (slice_split p xs)))
  go true f = ([], slice_split p xs, refl)
  go false f = (x ∷ f.0, f.1, ap (onto_first x) f.2)

-- a list is cut at an element that passes
pub split_append : (p : ℕ → Bool) (xs : List ℕ) (y : ℕ) (ys : List ℕ) → p y ≡ true
    → slice_split p (xs ++ y ∷ ys) ≡ slice_split p xs ++ slice_split p ys
split_append p [] y ys e = rw e refl
split_append p (x ∷ xs) y ys e = rw (split_append p xs y ys e) (go (p x) (first_part p xs)) where
  go : (b : Bool) → HasFirst (slice_split p xs)
      → cond b ([] ∷ slice_split p xs ++ slice_split p ys) (onto_first x (slice_split p xs ++ slice_split p ys))
      ≡ cond b ([] ∷ slice_split p xs) (onto_first x (slice_split p xs)) ++ slice_split p ys
  go true f = refl
  go false f = rw f.2 refl

-- no element of the list passes
abbrev pub NonePass : (ℕ → Bool) → List ℕ → Type 0
NonePass q xs = list_any q xs ≡ false

-- and none of any part
abbrev pub NoneOfAny : (ℕ → Bool) → List (List ℕ) → Type 0
NoneOfAny q parts = AllByRecursion (NonePass q) parts

onto : (q : ℕ → Bool) (x : ℕ) (parts : List (List ℕ)) → q x ≡ false → NoneOfAny q parts → NoneOfAny q (onto_first x parts)
onto q x [] out h = (rw out refl, tt)
onto q x (part ∷ parts) out h = (rw out h.0, h.1)

-- what passes at no element of the list passes at none of the parts
pub parts_keep : (p q : ℕ → Bool) (xs : List ℕ) → NonePass q xs → NoneOfAny q (slice_split p xs)
parts_keep p q [] h = (refl, tt)
parts_keep p q (x ∷ xs) h = go (p x) (or_parts (q x) (list_any q xs) h).0 (parts_keep p q xs (or_parts (q x) (list_any q xs) h).1) where
  go : (b : Bool) → q x ≡ false → NoneOfAny q (slice_split p xs)
      → NoneOfAny q (cond b ([] ∷ slice_split p xs) (onto_first x (slice_split p xs)))
  go true out more = (refl, more)
  go false out more = onto q x (slice_split p xs) out more

-- what cuts a list passes at none of the parts
pub parts_none : (p : ℕ → Bool) (xs : List ℕ) → NoneOfAny p (slice_split p xs)
parts_none p [] = (refl, tt)
parts_none p (x ∷ xs) = go (p x) refl (parts_none p xs) where
  go : (b : Bool) → p x ≡ b → NoneOfAny p (slice_split p xs)
      → NoneOfAny p (cond b ([] ∷ slice_split p xs) (onto_first x (slice_split p xs)))
  go true is more = (refl, more)
  go false is more = onto p x (slice_split p xs) is more

-- a list that nothing cuts is one part
pub one_part : (p : ℕ → Bool) (xs : List ℕ) → NonePass p xs → slice_split p xs ≡ xs ∷ []
one_part p [] h = refl
one_part p (x ∷ xs) h =
    let two = or_parts (p x) (list_any p xs) h in
    rw (two.0, one_part p xs two.1) refl

-- neither the whole of two lists nor a front has an element that passes, where none of the lists has
pub none_append : (p : ℕ → Bool) (xs ys : List ℕ) → NonePass p xs → NonePass p ys → NonePass p (xs ++ ys)
none_append p [] ys h k = k
none_append p (x ∷ xs) ys h k =
    let two = or_parts (p x) (list_any p xs) h in
    rw two.0 (none_append p xs ys two.1 k)

pub none_take : (p : ℕ → Bool) (n : ℕ) (xs : List ℕ) → NonePass p xs → NonePass p (take n xs)
none_take p zero xs h = refl
none_take p (suc n) [] h = refl
none_take p (suc n) (x ∷ xs) h =
    let two = or_parts (p x) (list_any p xs) h in
    rw two.0 (none_take p n xs two.1)

-- nor has what stands before the first that passes another test
pub before_keeps : (p q : ℕ → Bool) (xs : List ℕ) → NonePass q xs → NonePass q (before_first p xs)
before_keeps p q xs h = none_take q (position_or_len p xs) xs h

-- what passes is not among what stands before the first that passes
pub none_before : (p : ℕ → Bool) (xs : List ℕ) → NonePass p (before_first p xs)
none_before p [] = refl
none_before p (x ∷ xs) = rw (take_while-cons (λ y. not (p y)) x xs) (go (p x) refl (none_before p xs)) where
  go : (b : Bool) → p x ≡ b → NonePass p (before_first p xs) → NonePass p (cond (not b) (x ∷ before_first p xs) [])
  go true is h = refl
  go false is h = rw is h

-- the first that passes ends what stands before it
pub before_append : (p : ℕ → Bool) (xs : List ℕ) (y : ℕ) (ys : List ℕ) → NonePass p xs → p y ≡ true → before_first p (xs ++ y ∷ ys) ≡ xs
before_append p [] y ys h e = take_while-cons (λ z. not (p z)) y ys ∙ rw e refl
before_append p (x ∷ xs) y ys h e =
    let two = or_parts (p x) (list_any p xs) h in
    take_while-cons (λ z. not (p z)) x (xs ++ y ∷ ys) ∙ rw two.0 (ap (λ l. x ∷ l) (before_append p xs y ys two.1 e))

-- FIRST PLACES: where the first element that passes stands, if any does

one_part_more : (m n : ℕ) → nat_lt m n ≡ nat_lt (1 + m) (suc n)
one_part_more m n = grind (arith, nat_tests)

first_of_some : (n : ℕ) → true ≡ nat_lt 0 (suc n)
first_of_some n = grind (arith, nat_tests)

-- some element passes where the first one stands within the list
any_within : (p : ℕ → Bool) (xs : List ℕ) → list_any p xs ≡ nat_lt (position_or_len p xs) (length xs)
any_within p [] = refl
any_within p (x ∷ xs) = go (p x) (any_within p xs) where
  go : (b : Bool) → list_any p xs ≡ nat_lt (position_or_len p xs) (length xs)
      → (b || list_any p xs) ≡ nat_lt (cond (not b) (1 + position_or_len p xs) 0) (length (x ∷ xs))
  go true more = first_of_some (length xs)
  go false more = more ∙ one_part_more (position_or_len p xs) (length xs)

-- where none passes, the whole list stands before and nothing after
pub all_before : (p : ℕ → Bool) (xs : List ℕ) → NonePass p xs → (xs ≡ before_first p xs) × ([] ≡ after_first p xs)
all_before p xs none =
    let out : nat_lt (position_or_len p xs) (length xs) ≡ false = sym (any_within p xs) ∙ none in
    let past : length xs ≤ position_or_len p xs = grind (arith, nat_tests) in
    (sym (take_all (position_or_len p xs) xs past), sym (drop_all (position_or_len p xs + 1) xs (omega arith)))

-- what a place that was position_some says, and what none says
pub position_some : (p : ℕ → Bool) (xs : List ℕ) (place : ℕ) → position p xs ≡ Some place
    → (list_any p xs ≡ true) × (take place xs ≡ before_first p xs) × (drop (place + 1) xs ≡ after_first p xs)
position_some p xs place h = go (nat_lt (position_or_len p xs) (length xs)) refl h where
  go : (b : Bool) → nat_lt (position_or_len p xs) (length xs) ≡ b → cond b (Some (position_or_len p xs)) None ≡ Some place
      → (list_any p xs ≡ true) × (take place xs ≡ before_first p xs) × (drop (place + 1) xs ≡ after_first p xs)
  go true is e =
      let same : place ≡ position_or_len p xs = cc in
      (any_within p xs ∙ is, ap (λ n. take n xs) same, ap (λ n. drop (n + 1) xs) same)
  go false is e = absurd cc

pub position_none : (p : ℕ → Bool) (xs : List ℕ) → position p xs ≡ None → NonePass p xs
position_none p xs h = go (nat_lt (position_or_len p xs) (length xs)) refl h where
  go : (b : Bool) → nat_lt (position_or_len p xs) (length xs) ≡ b → cond b (Some (position_or_len p xs)) None ≡ None → NonePass p xs
  go true is e = absurd cc
  go false is e = any_within p xs ∙ is
