-- When the tests of words and rows find no fault.
use Rattle.std.proofs.lemmas.Bool.{and_parts, le-leb, leb-true, lt-ltb, ltb-true}
use Rattle.std.proofs.Common.{◌≡◌, ℕ, suc, ◌+◌, ◌-◌, ◌<◌, ◌≤◌, nat_le, nat_lt, Bool, true, false, Option, Some, None, List, [], ◌∷◌}
use Rattle.std.proofs.Common.{◌++◌, map, length, refl, ap, ◌∙◌, arith}
use Rattle.std.specs.Prelude.{ℤ, pos, negsuc, Result, Ok, Err}
use Rattle.std.specs.List.{zip, AllByRecursion, AllZip}
use Rattle.liszt_base.specs.declared.answers.MeshWhat.{MeshWhat}
use Rattle.liszt_base.specs.declared.answers.MeshWhat.TheVariants.{NumberOrder, CornerRange, Missing, Extra}
use Rattle.text_scan.specs.declared.faults.NumberFault.{NumberFault}
use Rattle.text_scan.specs.declared.faults.NumberFault.TheVariants.{BadNumber as NoNumber, CoordRange as TooFar}
use Rattle.tet_reader.specs.Tests.{unless, first_some, is_within, number_test, real_test, marker_test, is_corner, corner_test, word_test}
use Rattle.tet_reader.specs.declared.words.Word.{Word}
use Rattle.tet_reader.specs.Tests.{row_tests}

-- a number within bounds is a natural number within them
pub within_is : (low high : ℕ) (z : ℤ) → is_within low high z ≡ true → (n : ℕ) × (z ≡ pos n) × (low ≤ n) × (n ≤ high)
within_is low high (pos n) e = let b = and_parts (nat_le low n) (nat_le n high) e in (n, refl, leb-true low n b.0, leb-true n high b.1)
within_is low high (negsuc n) e = cc

pub is_within_passes : (low high n : ℕ) → low ≤ n → n ≤ high → is_within low high (pos n) ≡ true
is_within_passes low high n p q = rw (le-leb low n p) (le-leb n high q)

-- ---- the first fault

-- a test finds no fault where it holds
pub unless_none : (b : Bool) (fault : MeshWhat) → unless b fault ≡ None → b ≡ true
unless_none true fault e = refl
unless_none false fault e = cc

pub none_unless : (b : Bool) (fault : MeshWhat) → b ≡ true → unless b fault ≡ None
none_unless b fault e = rw e refl

-- the tests find nothing
abbrev pub FindNone : {A : Type 0} → List (Option A) → Type 0
FindNone tests = AllByRecursion (λ test. test ≡ None) tests

-- the first fault of several tests is none where each finds nothing
pub each_none : {A : Type 0} (tests : List (Option A)) → first_some tests ≡ None → FindNone tests
each_none [] e = tt
each_none (None ∷ tests) e = (refl, each_none tests e)
each_none (Some fault ∷ tests) e = cc

pub first_none : {A : Type 0} (tests : List (Option A)) → FindNone tests → first_some tests ≡ None
first_none [] h = refl
first_none (test ∷ tests) h = rw h.0 (first_none tests h.1)

-- two lists of tests one after the other find nothing where each does
pub none_append : {A : Type 0} (xs ys : List (Option A)) → FindNone xs → FindNone ys → FindNone (xs ++ ys)
none_append [] ys p q = q
none_append (x ∷ xs) ys p q = (p.0, none_append xs ys p.1 q)

pub append_none : {A : Type 0} (xs ys : List (Option A)) → FindNone (xs ++ ys) → FindNone xs × FindNone ys
append_none [] ys h = (tt, h)
append_none (x ∷ xs) ys h = let more = append_none xs ys h.1 in ((h.0, more.0), more.1)

-- the tests of two lists, member by member
pub zip_none : {A B C : Type 0} (test : A × B → Option C) (xs : List A) (ys : List B) → length xs ≡ length ys
    → FindNone (map test (zip xs ys)) → AllZip (λ x y. test (x, y) ≡ None) xs ys
zip_none test [] [] e h = tt
zip_none test [] (y ∷ ys) e h = absurd (omega arith)
zip_none test (x ∷ xs) [] e h = absurd (omega arith)
zip_none test (x ∷ xs) (y ∷ ys) e h = (h.0, zip_none test xs ys (omega arith) h.1)

pub none_zip : {A B C : Type 0} (test : A × B → Option C) (xs : List A) (ys : List B) → AllZip (λ x y. test (x, y) ≡ None) xs ys
    → FindNone (map test (zip xs ys))
none_zip test [] [] h = tt
none_zip test [] (y ∷ ys) h = absurd h
none_zip test (x ∷ xs) [] h = absurd h
none_zip test (x ∷ xs) (y ∷ ys) h = (h.0, none_zip test xs ys h.1)

-- lists whose members go with each other are as long
pub zip_length : {A B : Type 0} (R : A → B → Type 0) (xs : List A) (ys : List B) → AllZip R xs ys → length xs ≡ length ys
zip_length R [] [] h = refl
zip_length R [] (y ∷ ys) h = absurd h
zip_length R (x ∷ xs) [] h = absurd h
zip_length R (x ∷ xs) (y ∷ ys) h = ap suc (zip_length R xs ys h.1)

-- two lists one after the other go with the two parts of a list
pub zip_append : {A B : Type 0} (R : A → B → Type 0) (xs ys : List A) (us vs : List B) → AllZip R xs us → AllZip R ys vs
    → AllZip R (xs ++ ys) (us ++ vs)
zip_append R [] ys [] vs p q = q
zip_append R [] ys (u ∷ us) vs p q = absurd p
zip_append R (x ∷ xs) ys [] vs p q = absurd p
zip_append R (x ∷ xs) ys (u ∷ us) vs p q = (p.0, zip_append R xs ys us vs p.1 q)

-- the parts of a list that go with the parts of another
abbrev pub Parts : {A B : Type 0} → (A → B → Type 0) → List A → List A → List B → Type 0
Parts {A} {B} R xs ys zs = (us : List B) × (vs : List B) × (zs ≡ us ++ vs) × AllZip R xs us × AllZip R ys vs

pub append_zip : {A B : Type 0} (R : A → B → Type 0) (xs ys : List A) (zs : List B) → AllZip R (xs ++ ys) zs → Parts R xs ys zs
append_zip R [] ys zs h = ([], zs, refl, tt, h)
append_zip R (x ∷ xs) ys [] h = absurd h
append_zip R (x ∷ xs) ys (z ∷ zs) h =
    let more = append_zip R xs ys zs h.1 in
    (z ∷ more.0, more.1, ap (λ l. z ∷ l) more.2, (h.0, more.3), more.4)

-- ---- a row

-- the test of the word finds nothing
abbrev pub Passes : Word → List ℕ → Type 0
Passes expected word = word_test expected word ≡ None

-- a row's tests find nothing where it is within the count and each of its words passes
pub row_spelled : (count place : ℕ) (expected : List Word) (words : List (List ℕ)) → FindNone (row_tests count place expected words)
    → (place < count) × AllZip Passes expected words
row_spelled count place expected words h =
    let past = ltb-true place count (unless_none (nat_lt place count) Extra h.0) in
    let few = leb-true (length expected) (length words) (unless_none (nat_le (length expected) (length words)) Missing h.1.0) in
    let many = leb-true (length words) (length expected) (unless_none (nat_le (length words) (length expected)) Extra h.1.1.0) in
    (past, zip_none (λ w. word_test w.0 w.1) expected words (omega arith) h.1.1.1)

pub row_passes : (count place : ℕ) (expected : List Word) (words : List (List ℕ)) → place < count → AllZip Passes expected words
    → FindNone (row_tests count place expected words)
row_passes count place expected words past h =
    let same = zip_length Passes expected words h in
    let few : length expected ≤ length words = omega arith in
    let many : length words ≤ length expected = omega arith in
    let rest = none_zip (λ w. word_test w.0 w.1) expected words h in
    (none_unless _ _ (lt-ltb place count past), (none_unless _ _ (le-leb _ _ few), (none_unless _ _ (le-leb _ _ many), rest)))

-- ---- words, by what they are read as

-- the row's number
pub number_spelled : (number : ℕ) (read : Result ℤ NumberFault) → number_test number read ≡ None → read ≡ Ok (pos number)
number_spelled number (Ok z) e =
    let w = within_is number number z (unless_none (is_within number number z) NumberOrder e) in
    let same : w.0 ≡ number = omega (arith, w.2, w.3) in
    ap Ok (w.1 ∙ ap pos same)
number_spelled number (Err fault) e = cc

pub number_passes : (number : ℕ) (read : Result ℤ NumberFault) → read ≡ Ok (pos number) → number_test number read ≡ None
number_passes number read e = rw e (none_unless _ _ (is_within_passes number number number (omega arith) (omega arith)))

-- a coordinate or an attribute
pub real_spelled : (read : Result ℤ NumberFault) → real_test read ≡ None → (z : ℤ) × (read ≡ Ok z)
real_spelled (Ok z) e = (z, refl)
real_spelled (Err NoNumber) e = cc
real_spelled (Err TooFar) e = cc

pub real_passes : (z : ℤ) (read : Result ℤ NumberFault) → read ≡ Ok z → real_test read ≡ None
real_passes z read e = rw e refl

-- a marker
pub marker_spelled : (read : Result ℤ NumberFault) → marker_test read ≡ None → (z : ℤ) × (read ≡ Ok z)
marker_spelled (Ok z) e = (z, refl)
marker_spelled (Err fault) e = cc

pub marker_passes : (z : ℤ) (read : Result ℤ NumberFault) → read ≡ Ok z → marker_test read ≡ None
marker_passes z read e = rw e refl

-- a corner is the number of a point, by its place
corner_is : (base points : ℕ) (z : ℤ) → is_corner base points z ≡ true → (v : ℕ) × (z ≡ pos (base + v)) × (nat_lt v points ≡ true)
corner_is base points (pos n) e =
    let b = and_parts (nat_le base n) (nat_lt n (base + points)) e in
    let low = leb-true base n b.0 in
    let high = ltb-true n (base + points) b.1 in
    let n_is : n ≡ base + (n - base) = omega arith in
    (n - base, ap pos n_is, lt-ltb (n - base) points (omega arith))
corner_is base points (negsuc n) e = cc

pub corner_spelled : (base points : ℕ) (read : Result ℤ NumberFault) → corner_test base points read ≡ None
    → (v : ℕ) × (read ≡ Ok (pos (base + v))) × (nat_lt v points ≡ true)
corner_spelled base points (Ok z) e =
    let c = corner_is base points z (unless_none (is_corner base points z) CornerRange e) in
    (c.0, ap Ok c.1, c.2)
corner_spelled base points (Err fault) e = cc

pub corner_passes : (base points v : ℕ) (read : Result ℤ NumberFault) → read ≡ Ok (pos (base + v)) → nat_lt v points ≡ true
    → corner_test base points read ≡ None
corner_passes base points v read e h =
    let high = ltb-true v points h in
    let low : nat_le base (base + v) ≡ true = le-leb base (base + v) (omega arith) in
    let less : nat_lt (base + v) (base + points) ≡ true = lt-ltb (base + v) (base + points) (omega arith) in
    rw e (rw low (rw less refl))
