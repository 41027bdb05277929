-- A header's tests find nothing exactly where it is a header, and it is that of one count.
use Rattle.std.proofs.lemmas.Bool.{and_parts, le-leb, leb-true}
use Rattle.std.proofs.Common.{◌≡◌, ℕ, ◌+◌, ◌-◌, ◌≤◌, ◌&&◌, nat_le, Bool, true, false, Some, None, List, [], ◌∷◌, map, drop, length}
use Rattle.std.proofs.Common.{refl, sym, ap, subst, ◌∙◌, arith}
use Rattle.std.specs.Prelude.{ℤ, pos, negsuc, nat_abs}
use Rattle.std.specs.List.{list_all}
use Rattle.std.specs.Str.Parse.{signed_digits_value}
use Rattle.std.proofs.lemmas.List.{length-map, length-append, length-drop}
use Rattle.liszt_base.specs.declared.answers.MeshWhat.{MeshWhat}
use Rattle.liszt_base.specs.declared.answers.MeshWhat.TheVariants.{Header, Dimension, SecondOrder, TooMany}
use Rattle.text_scan.specs.Numbers.{is_whole}
use Rattle.tet_reader.specs.Tests.{unless, is_within, first_some}
use Rattle.tet_reader.specs.Headers.{attribute_limit, header_numbers, node_numbers, ele_numbers, IsNodeHeader, IsEleHeader, number_at, spelling_test}
use Rattle.tet_reader.specs.Headers.{count_test, corners_test, node_number_tests, ele_number_tests, node_header_tests, ele_header_tests}
use Rattle.tet_reader.proofs.Tests.{is_within_passes, within_is, unless_none, none_unless, FindNone, each_none}
use Rattle.liszt_base.specs.Limits.{point_limit, cell_limit}

-- the number is natural and within these bounds
abbrev Within : ℕ → ℕ → ℤ → Type 0
Within low high z = (z ≡ pos (nat_abs z)) × (low ≤ nat_abs z) × (nat_abs z ≤ high)

-- the test of bounds finds nothing where the number is within them
within_spelled : (low high : ℕ) (fault : MeshWhat) (z : ℤ) → unless (is_within low high z) fault ≡ None → Within low high z
within_spelled low high fault z e =
    let w = within_is low high z (unless_none (is_within low high z) fault e) in
    let n : nat_abs z ≡ w.0 = ap nat_abs w.1 in
    (w.1 ∙ ap pos (sym n), omega (arith, w.2), omega (arith, w.3))

within_passes : (low high n : ℕ) (fault : MeshWhat) → low ≤ n → n ≤ high → unless (is_within low high (pos n)) fault ≡ None
within_passes low high n fault p q = none_unless (is_within low high (pos n)) fault (is_within_passes low high n p q)

-- a number within n and n is n
exactly : (n : ℕ) (z : ℤ) → Within n n z → z ≡ pos n
exactly n z w = let same : nat_abs z ≡ n = omega (arith, w.1, w.2) in w.0 ∙ ap pos same

-- a count that passes is natural and at most the most
count_spelled : (most : ℕ) (z : ℤ) → count_test most z ≡ None → Within 0 most z
count_spelled most (pos n) e = (refl, omega arith, leb-true n most (unless_none (nat_le n most) TooMany e))
count_spelled most (negsuc n) e = cc

-- a number of corners that passes is 4
four_spelled : (z : ℤ) → corners_test z ≡ None → z ≡ pos 4
four_spelled z e = go (is_within 10 10 z) refl e
  where
    go : (ten : Bool) → is_within 10 10 z ≡ ten → corners_test z ≡ None → z ≡ pos 4
    go true is e = let no : Some SecondOrder ≡ None = rw is at e in cc
    go false is e = let yes : unless (is_within 4 4 z) Header ≡ None = rw is at e in exactly 4 z (within_spelled 4 4 Header z yes)

-- ---- how many numbers

-- as many numbers as words, and those of the words that are missing
header_length : (all : List ℤ) (words : List (List ℕ)) → length (header_numbers all words) ≡ length words + (length all - length words)
header_length all words =
    length-append (map (signed_digits_value 10) words) (drop (length words) all)
    ∙ cc (length-map words (signed_digits_value 10), length-drop (length words) all)

-- with no word too many there are as many numbers as there should be
length_is : (most : ℕ) (all : List ℤ) (words : List (List ℕ)) → length all ≡ most → length words ≤ most
    → length (header_numbers all words) ≡ most
length_is most all words l h = omega (arith, header_length all words)

-- and with as many numbers as there should be there is no word too many
few_words : (most : ℕ) (all numbers : List ℤ) (words : List (List ℕ)) → length all ≡ most → length numbers ≡ most
    → header_numbers all words ≡ numbers → length words ≤ most
few_words most all numbers words l k e = omega (arith, header_length all words, ap length e)

-- the test of the spelling
spelling_spelled : (most : ℕ) (words : List (List ℕ)) → spelling_test most words ≡ None
    → (length words ≤ most) × (list_all is_whole words ≡ true)
spelling_spelled most words e =
    let b = and_parts (nat_le (length words) most) (list_all is_whole words) (unless_none _ _ e) in
    (leb-true (length words) most b.0, b.1)

spelling_passes : (most : ℕ) (words : List (List ℕ)) → length words ≤ most → list_all is_whole words ≡ true → spelling_test most words ≡ None
spelling_passes most words few spelled = rw (le-leb (length words) most few) (none_unless (list_all is_whole words) Header spelled)

-- ---- node files

-- numbers that pass make a header
node_made : (words : List (List ℕ)) (numbers : List ℤ) → list_all is_whole words ≡ true → node_numbers words ≡ numbers → length numbers ≡ 4
    → FindNone (node_number_tests numbers)
    → IsNodeHeader words (nat_abs (number_at numbers 0)) (nat_abs (number_at numbers 2)) (nat_abs (number_at numbers 3))
node_made words [] s e l h = absurd (omega arith)
node_made words (a ∷ []) s e l h = absurd (omega arith)
node_made words (a ∷ b ∷ []) s e l h = absurd (omega arith)
node_made words (a ∷ b ∷ c ∷ []) s e l h = absurd (omega arith)
node_made words (a ∷ b ∷ c ∷ d ∷ []) s e l h =
    let points = count_spelled point_limit a h.0 in
    let dimension = exactly 3 b (within_spelled 3 3 Dimension b h.1.0) in
    let attributes = within_spelled 0 attribute_limit Header c h.1.1.0 in
    let markers = within_spelled 0 1 Header d h.1.1.1.0 in
    let are = e ∙ cc (points.0, dimension, attributes.0, markers.0) in
    record { spelled = s; numbers = are; points_fit = points.2; attributes_fit = attributes.2; markers_fit = markers.2 }
node_made words (a ∷ b ∷ c ∷ d ∷ f ∷ more) s e l h = absurd (omega arith)

-- a header whose tests find nothing is a header, and a header's tests find nothing
pub node_header_spelled : (words : List (List ℕ)) → FindNone (node_header_tests words)
    → IsNodeHeader words (nat_abs (number_at (node_numbers words) 0)) (nat_abs (number_at (node_numbers words) 2))
    (nat_abs (number_at (node_numbers words) 3))
node_header_spelled words h =
    let s = spelling_spelled 4 words h.0 in
    node_made words (node_numbers words) s.1 refl (length_is 4 (pos 0 ∷ pos 3 ∷ pos 0 ∷ pos 0 ∷ []) words refl s.0) h.1

pub node_header_passes : (words : List (List ℕ)) (points attributes markers : ℕ) → IsNodeHeader words points attributes markers
    → FindNone (node_header_tests words)
node_header_passes words points attributes markers h =
    let numbers : List ℤ = pos points ∷ pos 3 ∷ pos attributes ∷ pos markers ∷ [] in
    let few = few_words 4 (pos 0 ∷ pos 3 ∷ pos 0 ∷ pos 0 ∷ []) numbers words refl refl h.numbers in
    let points_fit = none_unless _ TooMany (le-leb points point_limit h.points_fit) in
    let attributes_fit = within_passes 0 attribute_limit attributes Header (omega arith) h.attributes_fit in
    let markers_fit = within_passes 0 1 markers Header (omega arith) h.markers_fit in
    let rest : FindNone (node_number_tests numbers) = (points_fit, (refl, (attributes_fit, (markers_fit, tt)))) in
    (spelling_passes 4 words few h.spelled, subst (λ (l : List ℤ). FindNone (node_number_tests l)) (sym h.numbers) rest)

-- the counts are those that the tests take from the header
pub node_counts : (words : List (List ℕ)) (points attributes markers : ℕ) → IsNodeHeader words points attributes markers
    → (nat_abs (number_at (node_numbers words) 0) ≡ points)
    × (nat_abs (number_at (node_numbers words) 2) ≡ attributes)
    × (nat_abs (number_at (node_numbers words) 3) ≡ markers)
node_counts words points attributes markers h =
    let numbers : List ℤ = pos points ∷ pos 3 ∷ pos attributes ∷ pos markers ∷ [] in
    let at : (k : ℕ) → nat_abs (number_at (node_numbers words) k) ≡ nat_abs (number_at numbers k) =
    λ k. ap (λ (l : List ℤ). nat_abs (number_at l k)) h.numbers in
    (at 0, at 2, at 3)

-- ---- ele files

-- numbers that pass make a header
ele_made : (words : List (List ℕ)) (numbers : List ℤ) → list_all is_whole words ≡ true → ele_numbers words ≡ numbers → length numbers ≡ 3
    → FindNone (ele_number_tests numbers)
    → IsEleHeader words (nat_abs (number_at numbers 0)) (nat_abs (number_at numbers 2))
ele_made words [] s e l h = absurd (omega arith)
ele_made words (a ∷ []) s e l h = absurd (omega arith)
ele_made words (a ∷ b ∷ []) s e l h = absurd (omega arith)
ele_made words (a ∷ b ∷ c ∷ []) s e l h =
    let cells = count_spelled cell_limit a h.0 in
    let corners = four_spelled b h.1.0 in
    let attributes = within_spelled 0 attribute_limit Header c h.1.1.0 in
    record { spelled = s; numbers = e ∙ cc (cells.0, corners, attributes.0); cells_fit = cells.2; attributes_fit = attributes.2 }
ele_made words (a ∷ b ∷ c ∷ d ∷ more) s e l h = absurd (omega arith)

-- a header whose tests find nothing is a header, and a header's tests find nothing
pub ele_header_spelled : (words : List (List ℕ)) → FindNone (ele_header_tests words)
    → IsEleHeader words (nat_abs (number_at (ele_numbers words) 0)) (nat_abs (number_at (ele_numbers words) 2))
ele_header_spelled words h =
    let s = spelling_spelled 3 words h.0 in
    ele_made words (ele_numbers words) s.1 refl (length_is 3 (pos 0 ∷ pos 4 ∷ pos 0 ∷ []) words refl s.0) h.1

pub ele_header_passes : (words : List (List ℕ)) (cells attributes : ℕ) → IsEleHeader words cells attributes
    → FindNone (ele_header_tests words)
ele_header_passes words cells attributes h =
    let numbers : List ℤ = pos cells ∷ pos 4 ∷ pos attributes ∷ [] in
    let few = few_words 3 (pos 0 ∷ pos 4 ∷ pos 0 ∷ []) numbers words refl refl h.numbers in
    let cells_fit = none_unless _ TooMany (le-leb cells cell_limit h.cells_fit) in
    let attributes_fit = within_passes 0 attribute_limit attributes Header (omega arith) h.attributes_fit in
    let rest : FindNone (ele_number_tests numbers) = (cells_fit, (refl, (attributes_fit, tt))) in
    (spelling_passes 3 words few h.spelled, subst (λ (l : List ℤ). FindNone (ele_number_tests l)) (sym h.numbers) rest)

-- the counts are those that the tests take from the header
pub ele_counts : (words : List (List ℕ)) (cells attributes : ℕ) → IsEleHeader words cells attributes
    → (nat_abs (number_at (ele_numbers words) 0) ≡ cells) × (nat_abs (number_at (ele_numbers words) 2) ≡ attributes)
ele_counts words cells attributes h =
    (ap (λ (l : List ℤ). nat_abs (number_at l 0)) h.numbers, ap (λ (l : List ℤ). nat_abs (number_at l 2)) h.numbers)

-- ---- from the numbers that the code has

-- spelled numbers whose tests find nothing are a header's
pub node_read : (words : List (List ℕ)) (numbers : List ℤ) → (nat_le (length words) 4 && list_all is_whole words) ≡ true → numbers ≡ node_numbers words
    → first_some (node_number_tests numbers) ≡ None
    → IsNodeHeader words (nat_abs (number_at numbers 0)) (nat_abs (number_at numbers 2)) (nat_abs (number_at numbers 3))
node_read words numbers spelled are pass =
    let tests : FindNone (node_number_tests (node_numbers words)) = each_none (node_number_tests (node_numbers words)) (ap (λ l. first_some (node_number_tests l)) (sym are) ∙ pass) in
    let h = node_header_spelled words (none_unless _ Header spelled, tests) in
    subst (λ (l : List ℤ). IsNodeHeader words (nat_abs (number_at l 0)) (nat_abs (number_at l 2)) (nat_abs (number_at l 3))) (sym are) h

pub ele_read : (words : List (List ℕ)) (numbers : List ℤ) → (nat_le (length words) 3 && list_all is_whole words) ≡ true → numbers ≡ ele_numbers words
    → first_some (ele_number_tests numbers) ≡ None → IsEleHeader words (nat_abs (number_at numbers 0)) (nat_abs (number_at numbers 2))
ele_read words numbers spelled are pass =
    let tests : FindNone (ele_number_tests (ele_numbers words)) = each_none (ele_number_tests (ele_numbers words)) (ap (λ l. first_some (ele_number_tests l)) (sym are) ∙ pass) in
    let h = ele_header_spelled words (none_unless _ Header spelled, tests) in
    subst (λ (l : List ℤ). IsEleHeader words (nat_abs (number_at l 0)) (nat_abs (number_at l 2))) (sym are) h
