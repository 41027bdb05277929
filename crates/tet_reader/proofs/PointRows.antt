-- A point's row: its tests find nothing exactly where it is some point's row, and it is that of one point.
use Rattle.std.proofs.Common.{◌≡◌, ℕ, suc, ◌+◌, nat_lt, true, None, map, lt-ltb, List, [], ◌∷◌, ◌++◌, length, replicate, slice_index_or, refl, sym, ap, subst, ◌∙◌, append_assoc}
use Rattle.std.proofs.Common.{arith}
use Rattle.std.specs.Prelude.{ℤ, pos, Ok}
use Rattle.std.specs.List.{AllZip, zip}
use Rattle.std.proofs.lemmas.List.{length-append, length-map, length-replicate}
use Rattle.liszt_base.specs.declared.mesh.Point.{Point}
use Rattle.text_scan.specs.Numbers.{whole_of, millionths_of}
use Rattle.tet_reader.specs.declared.words.Word.{Word}
use Rattle.tet_reader.specs.declared.words.Word.TheVariants.{Number, Real, Marker}
use Rattle.tet_reader.specs.Tests.{first_some, row_tests}
use Rattle.tet_reader.specs.Headers.{number_at}
use Rattle.tet_reader.specs.Internal.RowKinds.{value_or_zero, word_number, mark_of}
use Rattle.tet_reader.specs.Points.{IsPointRow, first_or_zero}
use Rattle.tet_reader.specs.Faults.{point_words}
use Rattle.tet_reader.proofs.Tests.{Passes, zip_append, append_zip, number_spelled, number_passes, real_spelled, real_passes, marker_spelled}
use Rattle.tet_reader.proofs.Tests.{marker_passes}
use Rattle.tet_reader.proofs.WordLists.{zip_size}
use Rattle.tet_reader.proofs.Tests.{each_none, row_spelled, zip_length}
use Rattle.tet_reader.proofs.SpellingLemmas.{three_parts, same_parts, spell_length, one_spelling, spell_read, spell_passes}

-- points are the same by their fields
pub same_point : (x y z mark x' y' z' mark' : ℤ) → x ≡ x' → y ≡ y' → z ≡ z' → mark ≡ mark'
    → ◌≡◌ {A = Point} (record { x = x; y = y; z = z; mark = mark }) (record { x = x'; y = y'; z = z'; mark = mark' })
same_point x y z mark x' y' z' mark' p q r s =
    let one : ◌≡◌ {A = Point} (record { x = x; y = y; z = z; mark = mark }) (record { x = x'; y = y; z = z; mark = mark }) =
    ap (λ (v : ℤ). record { x = v; y = y; z = z; mark = mark }) p in
    let two : ◌≡◌ {A = Point} (record { x = x'; y = y; z = z; mark = mark }) (record { x = x'; y = y'; z = z; mark = mark }) =
    ap (λ (v : ℤ). record { x = x'; y = v; z = z; mark = mark }) q in
    let three : ◌≡◌ {A = Point} (record { x = x'; y = y'; z = z; mark = mark }) (record { x = x'; y = y'; z = z'; mark = mark }) =
    ap (λ (v : ℤ). record { x = x'; y = y'; z = v; mark = mark }) r in
    one ∙ (two ∙ (three ∙ ap (λ (v : ℤ). record { x = x'; y = y'; z = z'; mark = v }) s))

-- a row of n attributes and markers is that of one point, whatever its number
pub one_point : (attributes markers k l : ℕ) (words : List (List ℕ)) (p q : Point) → IsPointRow attributes markers k words p
    → IsPointRow attributes markers l words q → p ≡ q
one_point attributes markers k l words p q h i =
    let front : List (List ℕ) = h.coordinate_words ++ h.attribute_words in
    let front' : List (List ℕ) = i.coordinate_words ++ i.attribute_words in
    let all : h.number_word ∷ (front ++ h.marker_words) ≡ i.number_word ∷ (front' ++ i.marker_words) = sym h.words_are ∙ i.words_are in
    let rest : front ++ h.marker_words ≡ front' ++ i.marker_words = cc (all) in
    let three = spell_length millionths_of h.coordinate_words (p.x ∷ p.y ∷ p.z ∷ []) h.coordinates_are in
    let three' = spell_length millionths_of i.coordinate_words (q.x ∷ q.y ∷ q.z ∷ []) i.coordinates_are in
    let mine = length-append h.coordinate_words h.attribute_words in
    let theirs = length-append i.coordinate_words i.attribute_words in
    let count : length front ≡ length front' = omega (arith, mine, theirs, three, three', h.attributes_count, i.attributes_count) in
    let outer = same_parts front h.marker_words front' i.marker_words count rest in
    let inner = same_parts h.coordinate_words h.attribute_words i.coordinate_words i.attribute_words (three ∙ sym three') outer.0 in
    let xyz = one_spelling millionths_of h.coordinate_words i.coordinate_words
    (p.x ∷ p.y ∷ p.z ∷ []) (q.x ∷ q.y ∷ q.z ∷ []) inner.0 h.coordinates_are i.coordinates_are in
    let marks = one_spelling whole_of h.marker_words i.marker_words h.marker_numbers i.marker_numbers outer.1 h.markers_are i.markers_are in
    same_point p.x p.y p.z p.mark q.x q.y q.z q.mark (cc (xyz)) (cc (xyz)) (cc (xyz)) (h.mark_is ∙ (ap first_or_zero marks ∙ sym i.mark_is))

-- a list of three numbers by its members
three_numbers : (numbers : List ℤ) → length numbers ≡ 3 → (x y z : ℤ) × (numbers ≡ x ∷ y ∷ z ∷ [])
three_numbers [] e = absurd (omega arith)
three_numbers (x ∷ []) e = absurd (omega arith)
three_numbers (x ∷ y ∷ []) e = absurd (omega arith)
three_numbers (x ∷ y ∷ z ∷ []) e = (x, y, z, refl)
three_numbers (x ∷ y ∷ z ∷ w ∷ numbers) e = absurd (omega arith)

-- words that pass are a point's row
pub point_spelled : (attributes markers number : ℕ) (words : List (List ℕ)) → AllZip Passes (point_words attributes markers number) words
    → (point : Point) × IsPointRow attributes markers number words point
point_spelled attributes markers number [] h = absurd h
point_spelled attributes markers number (word ∷ words) h =
    let c = append_zip Passes (replicate 3 Real) (replicate attributes Real ++ replicate markers Marker) words h.1 in
    let d = append_zip Passes (replicate attributes Real) (replicate markers Marker) c.1 c.4 in
    let coordinates = spell_read Real millionths_of (λ w e. real_spelled (millionths_of w) e) 3 c.0 c.3 in
    let attributes' = spell_read Real millionths_of (λ w e. real_spelled (millionths_of w) e) attributes d.0 d.3 in
    let markers' = spell_read Marker whole_of (λ w e. marker_spelled (whole_of w) e) markers d.1 d.4 in
    let xyz = three_numbers coordinates.0 (sym (spell_length millionths_of c.0 coordinates.0 coordinates.1) ∙ coordinates.2) in
    let point : Point = record { x = xyz.0; y = xyz.1; z = xyz.2; mark = first_or_zero markers'.0 } in
    let parts : words ≡ (c.0 ++ d.0) ++ d.1 = c.2 ∙ (ap (λ l. c.0 ++ l) d.2 ∙ sym (append_assoc c.0 d.0 d.1)) in (
      point,
      record {
        number_word = word;
        coordinate_words = c.0;
        attribute_words = d.0;
        marker_words = d.1;
        attribute_numbers = attributes'.0;
        marker_numbers = markers'.0;
        words_are = ap (λ l. word ∷ l) parts;
        number_is = number_spelled number (whole_of word) h.0;
        coordinates_are = cc (coordinates.1, xyz.3);
        attributes_are = attributes'.1;
        markers_are = markers'.1;
        attributes_count = attributes'.2;
        markers_count = markers'.2;
        mark_is = refl;
      },
    )

-- a point's row passes
pub point_passes : (attributes markers number : ℕ) (words : List (List ℕ)) (point : Point)
    → IsPointRow attributes markers number words point → AllZip Passes (point_words attributes markers number) words
point_passes attributes markers number words point h =
    let three = spell_length millionths_of h.coordinate_words (point.x ∷ point.y ∷ point.z ∷ []) h.coordinates_are in
    let coordinates = spell_passes Real millionths_of (λ w z e. real_passes z (millionths_of w) e) 3 h.coordinate_words
    (point.x ∷ point.y ∷ point.z ∷ []) h.coordinates_are three in
    let attributes' = spell_passes Real millionths_of (λ w z e. real_passes z (millionths_of w) e) attributes h.attribute_words
    h.attribute_numbers h.attributes_are h.attributes_count in
    let markers' = spell_passes Marker whole_of (λ w z e. marker_passes z (whole_of w) e) markers h.marker_words h.marker_numbers
    h.markers_are h.markers_count in
    let rest =
    zip_append Passes (replicate attributes Real) (replicate markers Marker) h.attribute_words h.marker_words attributes' markers' in
    let all = zip_append Passes (replicate 3 Real) (replicate attributes Real ++ replicate markers Marker) h.coordinate_words
    (h.attribute_words ++ h.marker_words) coordinates rest in
    let parts : words ≡ h.number_word ∷ (h.coordinate_words ++ (h.attribute_words ++ h.marker_words)) =
    h.words_are ∙ ap (λ l. h.number_word ∷ l) (append_assoc h.coordinate_words h.attribute_words h.marker_words) in
    let number' = number_passes number (whole_of h.number_word) h.number_is in
    subst (λ (l : List (List ℕ)). AllZip Passes (point_words attributes markers number) l) (sym parts) (number', all)

-- the first word of a point's row is its number
pub point_number : (attributes markers number : ℕ) (words : List (List ℕ)) (point : Point)
    → IsPointRow attributes markers number words point → whole_of (slice_index_or words 0 []) ≡ Ok (pos number)
point_number attributes markers number words point h =
    ap (λ (l : List (List ℕ)). whole_of (slice_index_or l 0 [])) h.words_are ∙ h.number_is

-- ---- the point that the code makes of the row's numbers

-- the numbers of a point's row: its own, x, y and z, the attributes and the markers
point_numbers : (attributes markers number : ℕ) (words : List (List ℕ)) (point : Point) (h : IsPointRow attributes markers number words point)
    → map word_number (zip (point_words attributes markers number) words)
    ≡ pos number ∷ point.x ∷ point.y ∷ point.z ∷ (h.attribute_numbers ++ h.marker_numbers)
point_numbers attributes markers number words point h =
    let three = spell_length millionths_of h.coordinate_words (point.x ∷ point.y ∷ point.z ∷ []) h.coordinates_are in
    let parts : words ≡ h.number_word ∷ (h.coordinate_words ++ (h.attribute_words ++ h.marker_words)) =
    h.words_are ∙ ap (λ l. h.number_word ∷ l) (append_assoc h.coordinate_words h.attribute_words h.marker_words) in
    let expected : List Word = replicate 3 Real ++ (replicate attributes Real ++ replicate markers Marker) in
    let all = three_parts Real Real Marker millionths_of millionths_of whole_of (λ w. refl) (λ w. refl) (λ w. refl) 3 attributes markers
    h.coordinate_words h.attribute_words h.marker_words (point.x ∷ point.y ∷ point.z ∷ []) h.attribute_numbers h.marker_numbers
    h.coordinates_are h.attributes_are h.markers_are three h.attributes_count h.markers_count in
    let own : value_or_zero (whole_of h.number_word) ≡ pos number = ap value_or_zero h.number_is in
    ap (λ l. map word_number (zip (Number number ∷ expected) l)) parts ∙ cc (own, all)

-- the mark among them
mark_is : (attributes markers number : ℕ) (x y z : ℤ) (numbers marks : List ℤ) → length numbers ≡ attributes → length marks ≡ markers
    → mark_of attributes markers (pos number ∷ x ∷ y ∷ z ∷ (numbers ++ marks)) ≡ first_or_zero marks
mark_is attributes markers number x y z numbers [] l k = rw (sym k) refl
mark_is attributes markers number x y z numbers (mark ∷ marks) l k =
    let some : nat_lt 0 markers ≡ true = lt-ltb 0 markers (omega arith) in
    let at : 4 + attributes ≡ suc (suc (suc (suc (length numbers)))) = omega arith in
    rw some (ap (λ i. number_at (pos number ∷ x ∷ y ∷ z ∷ (numbers ++ mark ∷ marks)) i) at ∙ seam numbers)
  where
    seam : (l : List ℤ) → slice_index_or (l ++ mark ∷ marks) (length l) (pos 0) ≡ mark
    seam [] = refl
    seam (n ∷ l) = seam l

-- the row is that of the point of these numbers
pub point_read : (count place attributes markers number : ℕ) (words : List (List ℕ)) (numbers : List ℤ)
    → first_some (row_tests count place (point_words attributes markers number) words) ≡ None
    → numbers ≡ map word_number (zip (point_words attributes markers number) words)
    → IsPointRow attributes markers number words
    (record { x = number_at numbers 1; y = number_at numbers 2; z = number_at numbers 3; mark = mark_of attributes markers numbers })
point_read count place attributes markers number words numbers pass are =
    let tests = each_none (row_tests count place (point_words attributes markers number) words) pass in
    let found = point_spelled attributes markers number words (row_spelled count place (point_words attributes markers number) words tests).1 in
    let point = found.0 in
    let h = found.1 in
    let all = are ∙ point_numbers attributes markers number words point h in
    let at : (k : ℕ) → number_at numbers k ≡ number_at (pos number ∷ point.x ∷ point.y ∷ point.z ∷ (h.attribute_numbers ++ h.marker_numbers)) k =
    λ k. ap (λ l. number_at l k) all in
    let attributes' = sym (spell_length millionths_of h.attribute_words h.attribute_numbers h.attributes_are) ∙ h.attributes_count in
    let markers' = sym (spell_length whole_of h.marker_words h.marker_numbers h.markers_are) ∙ h.markers_count in
    let mark = ap (mark_of attributes markers) all
    ∙ (mark_is attributes markers number point.x point.y point.z h.attribute_numbers h.marker_numbers attributes' markers' ∙ sym h.mark_is) in
    let same = same_point point.x point.y point.z point.mark (number_at numbers 1) (number_at numbers 2) (number_at numbers 3)
    (mark_of attributes markers numbers) (sym (at 1)) (sym (at 2)) (sym (at 3)) (sym mark) in
    subst (λ (p : Point). IsPointRow attributes markers number words p) same h

-- how many numbers there are
pub point_count : (count place attributes markers number : ℕ) (words : List (List ℕ)) (numbers : List ℤ)
    → first_some (row_tests count place (point_words attributes markers number) words) ≡ None
    → numbers ≡ map word_number (zip (point_words attributes markers number) words) → length numbers ≡ 4 + attributes + markers
point_count count place attributes markers number words numbers pass are =
    let expected = point_words attributes markers number in
    let tests = each_none (row_tests count place expected words) pass in
    let same = zip_length Passes expected words (row_spelled count place expected words tests).1 in
    let size = length-append (replicate attributes Real) (replicate markers Marker) in
    omega (
      arith,
      ap length are,
      length-map (zip expected words) word_number,
      zip_size expected words same,
      same,
      size,
      length-replicate attributes Real,
      length-replicate markers Marker,
    )
