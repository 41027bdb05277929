-- A cell's row: its tests find nothing exactly where it is some cell's row, and it is that of one cell.
use Rattle.std.proofs.lemmas.Bool.{and_parts, ltb-true, lt-ltb}
use Rattle.std.proofs.Common.{◌≡◌, ℕ, zero, suc, ◌+◌, ◌-◌, nat_lt, ◌<◌, ◌^◌, ◌&&◌, true, None, List, [], ◌∷◌, ◌++◌, map, length, replicate, slice_index_or}
use Rattle.std.proofs.Common.{refl, sym, ap, subst, ◌∙◌, arith}
use Rattle.std.specs.Prelude.{ℤ, pos, nat_abs, Result, Ok}
use Rattle.std.specs.List.{list_all, AllZip, zip}
use Rattle.std.proofs.lemmas.List.{length-map, length-append, take_at}
use Rattle.liszt_base.specs.Corners.{are_different}
use Rattle.liszt_base.specs.declared.mesh.RawCell.{RawCell}
use Rattle.text_scan.specs.Numbers.{whole_of, millionths_of}
use Rattle.text_scan.specs.declared.faults.NumberFault.{NumberFault}
use Rattle.tet_reader.specs.declared.words.Word.TheVariants.{Real, Corner}
use Rattle.tet_reader.specs.Tests.{first_some, row_tests}
use Rattle.tet_reader.specs.Headers.{number_at}
use Rattle.tet_reader.specs.Internal.RowKinds.{value_or_zero, word_number, IsCorner, corner_of, region_of}
use Rattle.tet_reader.specs.Points.{IsCellRow, Spell, first_or_zero}
use Rattle.tet_reader.specs.Faults.{magnitude_or_zero, cell_words, row_corners}
use Rattle.tet_reader.proofs.Forms.{cell_form}
use Rattle.tet_reader.proofs.Tests.{Passes, zip_append, append_zip, number_spelled, number_passes, real_spelled, real_passes}
use Rattle.tet_reader.proofs.Tests.{corner_spelled, corner_passes}
use Rattle.tet_reader.proofs.Tests.{each_none, row_spelled}
use Rattle.tet_reader.proofs.SpellingLemmas.{spelled_numbers, map_zip_append, same_parts, spell_length, one_spelling, spell_read, spell_passes}

-- the words spell the numbers of these places
abbrev pub SpellPlaces : ℕ → List (List ℕ) → List ℕ → Type 0
SpellPlaces base words places = Spell whole_of words (map (λ v. pos (base + v)) places)

-- there are as many words as places
places_length : (base : ℕ) (words : List (List ℕ)) (places : List ℕ) → SpellPlaces base words places → length words ≡ length places
places_length base words places e =
    spell_length whole_of words (map (λ v. pos (base + v)) places) e ∙ length-map places (λ v. pos (base + v))

-- words that are read as numbers of places, their sizes less the base
sizes_are : (read : List ℕ → Result ℤ NumberFault) (base : ℕ) (words : List (List ℕ)) (places : List ℕ)
    → Spell read words (map (λ v. pos (base + v)) places) → map (λ word. magnitude_or_zero (read word) - base) words ≡ places
sizes_are read base [] [] e = refl
sizes_are read base [] (v ∷ places) e = cc
sizes_are read base (word ∷ words) [] e = cc
sizes_are read base (word ∷ words) (v ∷ places) e =
    let one : read word ≡ Ok (pos (base + v)) = cc in
    let more : Spell read words (map (λ v. pos (base + v)) places) = cc in
    let size : base + v - base ≡ v = omega arith in
    let first_some : magnitude_or_zero (read word) - base ≡ v = ap (λ r. magnitude_or_zero r - base) one ∙ size in
    cc (first_some, sizes_are read base words places more)

-- the corners that the tests take from a row are those that it spells
pub corners_are : (base : ℕ) (number_word : List ℕ) (corner_words attribute_words : List (List ℕ)) (places : List ℕ)
    → SpellPlaces base corner_words places → length places ≡ 4
    → row_corners base (number_word ∷ (corner_words ++ attribute_words)) ≡ places
corners_are base number_word corner_words attribute_words places e l =
    let four = take_at corner_words attribute_words 4 (places_length base corner_words places e ∙ l) in
    ap (map (λ word. magnitude_or_zero (whole_of word) - base)) four ∙ sizes_are whole_of base corner_words places e

-- they are its cell's
pub row_corners_are : (attributes points base number : ℕ) (words : List (List ℕ)) (cell : RawCell)
    → IsCellRow (cell_form attributes points base) number words cell → row_corners base words ≡ cell.corners
row_corners_are attributes points base number words cell h =
    ap (row_corners base) h.words_are
    ∙ corners_are base h.number_word h.corner_words h.attribute_words cell.corners h.corners_are h.corners_fit.0

-- cells are the same by their fields
same_cell : (corners corners' : List ℕ) (region region' : ℤ) → corners ≡ corners' → region ≡ region'
    → ◌≡◌ {A = RawCell} (record { corners = corners; region = region }) (record { corners = corners'; region = region' })
same_cell corners corners' region region' p q =
    let one : ◌≡◌ {A = RawCell} (record { corners = corners; region = region }) (record { corners = corners'; region = region }) =
    ap (λ (v : List ℕ). record { corners = v; region = region }) p in
    one ∙ ap (λ (v : ℤ). record { corners = corners'; region = v }) q

-- a row is that of one cell, whatever its number
pub one_cell : (attributes points base k l : ℕ) (words : List (List ℕ)) (c d : RawCell) → IsCellRow (cell_form attributes points base) k words c
    → IsCellRow (cell_form attributes points base) l words d → c ≡ d
one_cell attributes points base k l words c d h i =
    let corners : c.corners ≡ d.corners =
    sym (row_corners_are attributes points base k words c h) ∙ row_corners_are attributes points base l words d i in
    let all : h.number_word ∷ (h.corner_words ++ h.attribute_words) ≡ i.number_word ∷ (i.corner_words ++ i.attribute_words) =
    sym h.words_are ∙ i.words_are in
    let rest : h.corner_words ++ h.attribute_words ≡ i.corner_words ++ i.attribute_words = cc (all) in
    let four = places_length base h.corner_words c.corners h.corners_are ∙ h.corners_fit.0 in
    let four' = places_length base i.corner_words d.corners i.corners_are ∙ i.corners_fit.0 in
    let parts = same_parts h.corner_words h.attribute_words i.corner_words i.attribute_words (four ∙ sym four') rest in
    let numbers = one_spelling millionths_of h.attribute_words i.attribute_words h.attribute_numbers i.attribute_numbers parts.1
    h.attributes_are i.attributes_are in
    same_cell c.corners d.corners c.region d.region corners (h.region_is ∙ (ap first_or_zero numbers ∙ sym i.region_is))

-- n words that pass as corners spell n places of points, and such words pass
places_spelled : (base points n : ℕ) (words : List (List ℕ)) → AllZip Passes (replicate n (Corner base points)) words
    → (places : List ℕ) × SpellPlaces base words places × (length places ≡ n) × (list_all (λ v. nat_lt v points) places ≡ true)
places_spelled base points zero [] h = ([], refl, refl, refl)
places_spelled base points zero (word ∷ words) h = absurd h
places_spelled base points (suc n) [] h = absurd h
places_spelled base points (suc n) (word ∷ words) h =
    let one = corner_spelled base points (whole_of word) h.0 in
    let more = places_spelled base points n words h.1 in
    (one.0 ∷ more.0, cc (one.1, more.1), ap suc more.2, rw one.2 more.3)

places_passes : (base points n : ℕ) (words : List (List ℕ)) (places : List ℕ) → SpellPlaces base words places → length places ≡ n
    → list_all (λ v. nat_lt v points) places ≡ true
    → AllZip Passes (replicate n (Corner base points)) words
places_passes base points zero [] [] e l h = tt
places_passes base points (suc n) [] [] e l h = absurd (omega arith)
places_passes base points n [] (v ∷ places) e l h = cc
places_passes base points n (word ∷ words) [] e l h = cc
places_passes base points zero (word ∷ words) (v ∷ places) e l h = absurd (omega arith)
places_passes base points (suc n) (word ∷ words) (v ∷ places) e l h =
    let one : whole_of word ≡ Ok (pos (base + v)) = cc in
    let more : SpellPlaces base words places = cc in
    let tests = and_parts (nat_lt v points) (list_all (λ v. nat_lt v points) places) h in
    (corner_passes base points v (whole_of word) one tests.0, places_passes base points n words places more (omega arith) tests.1)

-- words that pass, with different corners, are a cell's row
pub cell_spelled : (attributes points base number : ℕ) (words : List (List ℕ))
    → AllZip Passes (cell_words attributes points base number) words → are_different (row_corners base words) ≡ true
    → (cell : RawCell) × IsCellRow (cell_form attributes points base) number words cell
cell_spelled attributes points base number [] h different = absurd h
cell_spelled attributes points base number (word ∷ words) h different =
    let c = append_zip Passes (replicate 4 (Corner base points)) (replicate attributes Real) words h.1 in
    let corners = places_spelled base points 4 c.0 c.3 in
    let attributes' = spell_read Real millionths_of (λ w e. real_spelled (millionths_of w) e) attributes c.1 c.4 in
    let words_are : word ∷ words ≡ word ∷ (c.0 ++ c.1) = ap (λ l. word ∷ l) c.2 in
    let same : row_corners base (word ∷ words) ≡ corners.0 =
    ap (row_corners base) words_are ∙ corners_are base word c.0 c.1 corners.0 corners.1 corners.2 in
    let different' : are_different corners.0 ≡ true = sym (ap are_different same) ∙ different in (
      record { corners = corners.0; region = first_or_zero attributes'.0 },
      record {
        number_word = word;
        corner_words = c.0;
        attribute_words = c.1;
        attribute_numbers = attributes'.0;
        words_are = words_are;
        number_is = number_spelled number (whole_of word) h.0;
        corners_are = corners.1;
        corners_fit = (corners.2, different', corners.3);
        attributes_are = attributes'.1;
        attributes_count = attributes'.2;
        region_is = refl;
      },
    )

-- a cell's row passes, and its corners are different
pub cell_passes : (attributes points base number : ℕ) (words : List (List ℕ)) (cell : RawCell)
    → IsCellRow (cell_form attributes points base) number words cell
    → AllZip Passes (cell_words attributes points base number) words × (are_different (row_corners base words) ≡ true)
cell_passes attributes points base number words cell h =
    let corners = places_passes base points 4 h.corner_words cell.corners h.corners_are h.corners_fit.0 h.corners_fit.2 in
    let attributes' = spell_passes Real millionths_of (λ w z e. real_passes z (millionths_of w) e) attributes h.attribute_words
    h.attribute_numbers h.attributes_are h.attributes_count in
    let all = zip_append Passes (replicate 4 (Corner base points)) (replicate attributes Real) h.corner_words h.attribute_words corners
    attributes' in
    let number' = number_passes number (whole_of h.number_word) h.number_is in
    let passes =
    subst (λ (l : List (List ℕ)). AllZip Passes (cell_words attributes points base number) l) (sym h.words_are) (number', all) in
    (passes, ap are_different (row_corners_are attributes points base number words cell h) ∙ h.corners_fit.1)

-- the first word of a cell's row is its number
pub cell_number : (attributes points base number : ℕ) (words : List (List ℕ)) (cell : RawCell)
    → IsCellRow (cell_form attributes points base) number words cell → whole_of (slice_index_or words 0 []) ≡ Ok (pos number)
cell_number attributes points base number words cell h =
    ap (λ (l : List (List ℕ)). whole_of (slice_index_or l 0 [])) h.words_are ∙ h.number_is

-- ---- the cell that the code makes of the row's numbers

-- the numbers of n corners
places_numbers : (base points n : ℕ) (words : List (List ℕ)) (places : List ℕ) → SpellPlaces base words places → length places ≡ n
    → map word_number (zip (replicate n (Corner base points)) words) ≡ map (λ v. pos (base + v)) places
places_numbers base points n words places e l =
    spelled_numbers (Corner base points) whole_of (λ w. refl) n words (map (λ v. pos (base + v)) places) e (places_length base words places e ∙ l)

-- What a cell's row holds where its tests pass, whether its corners are different or not: four places of points and the attributes.
pub record Holds (attributes points base number : ℕ) (words : List (List ℕ)) (numbers : List ℤ) : Type 0 where
  pub places : List ℕ
  pub values : List ℤ
  pub four : length places ≡ 4
  pub inside : list_all (λ v. nat_lt v points) places ≡ true
  pub corners : row_corners base words ≡ places
  pub values_count : length values ≡ attributes
  pub numbers_are : numbers ≡ pos number ∷ (map (λ v. pos (base + v)) places ++ values)
  pub cell : are_different places ≡ true → (region : ℤ) × (region ≡ first_or_zero values) × IsCellRow (cell_form attributes points base) number words (record { corners = places; region = region })

pub holds : (count place attributes points base number : ℕ) (words : List (List ℕ)) (numbers : List ℤ)
    → first_some (row_tests count place (cell_words attributes points base number) words) ≡ None
    → numbers ≡ map word_number (zip (cell_words attributes points base number) words) → Holds attributes points base number words numbers
holds count place attributes points base number words numbers pass are =
    let expected = cell_words attributes points base number in
    let tests = each_none (row_tests count place expected words) pass in
    go words are (row_spelled count place expected words tests).1
  where
    go : (words : List (List ℕ)) → numbers ≡ map word_number (zip (cell_words attributes points base number) words)
        → AllZip Passes (cell_words attributes points base number) words → Holds attributes points base number words numbers
    go [] are h = absurd h
    go (word ∷ words) are h =
        let c = append_zip Passes (replicate 4 (Corner base points)) (replicate attributes Real) words h.1 in
        let corners = places_spelled base points 4 c.0 c.3 in
        let attributes' = spell_read Real millionths_of (λ w e. real_spelled (millionths_of w) e) attributes c.1 c.4 in
        let words_are : word ∷ words ≡ word ∷ (c.0 ++ c.1) = ap (λ l. word ∷ l) c.2 in
        let own = number_spelled number (whole_of word) h.0 in
        let size : length (replicate 4 (Corner base points)) ≡ length c.0 = sym (places_length base c.0 corners.0 corners.1 ∙ corners.2) in
        let parts = map_zip_append word_number (replicate 4 (Corner base points)) (replicate attributes Real) c.0 c.1 size in
        let first_four = places_numbers base points 4 c.0 corners.0 corners.1 corners.2 in
        let others = spelled_numbers Real millionths_of (λ w. refl) attributes c.1 attributes'.0 attributes'.1 attributes'.2 in
        let all : map word_number (zip (cell_words attributes points base number) (word ∷ (c.0 ++ c.1)))
        ≡ pos number ∷ (map (λ v. pos (base + v)) corners.0 ++ attributes'.0) =
        cc (ap value_or_zero own, parts, first_four, others) in
        record {
          places = corners.0;
          values = attributes'.0;
          four = corners.2;
          inside = corners.3;
          corners = ap (row_corners base) words_are ∙ corners_are base word c.0 c.1 corners.0 corners.1 corners.2;
          values_count = sym (spell_length millionths_of c.1 attributes'.0 attributes'.1) ∙ attributes'.2;
          numbers_are = are ∙ (ap (λ l. map word_number (zip (cell_words attributes points base number) l)) words_are ∙ all);
          cell = λ different. (
            first_or_zero attributes'.0,
            refl,
            record {
              number_word = word;
              corner_words = c.0;
              attribute_words = c.1;
              attribute_numbers = attributes'.0;
              words_are = words_are;
              number_is = own;
              corners_are = corners.1;
              corners_fit = (corners.2, different, corners.3);
              attributes_are = attributes'.1;
              attributes_count = attributes'.2;
              region_is = refl;
            },
          );
        }

-- ---- by the places of the numbers

-- the four corners are numbers of points
abbrev FourCorners : ℕ → ℕ → List ℤ → List ℕ → Type 0
FourCorners points base numbers (a ∷ b ∷ c ∷ d ∷ []) =
    (number_at numbers 1 ≡ pos (base + a)) × (number_at numbers 2 ≡ pos (base + b)) × (number_at numbers 3 ≡ pos (base + c)) × (number_at numbers 4 ≡ pos (base + d))
    × (a < points) × (b < points) × (c < points) × (d < points)
FourCorners points base numbers _ = ⊥

four_corners : (points base number : ℕ) (places : List ℕ) (values : List ℤ) → length places ≡ 4 → list_all (λ v. nat_lt v points) places ≡ true
    → FourCorners points base (pos number ∷ (map (λ v. pos (base + v)) places ++ values)) places
four_corners points base number [] values l h = absurd (omega arith)
four_corners points base number (a ∷ []) values l h = absurd (omega arith)
four_corners points base number (a ∷ b ∷ []) values l h = absurd (omega arith)
four_corners points base number (a ∷ b ∷ c ∷ []) values l h = absurd (omega arith)
four_corners points base number (a ∷ b ∷ c ∷ d ∷ []) values l h =
    let one = and_parts (nat_lt a points) (nat_lt b points && (nat_lt c points && (nat_lt d points && true))) h in
    let two = and_parts (nat_lt b points) (nat_lt c points && (nat_lt d points && true)) one.1 in
    let three = and_parts (nat_lt c points) (nat_lt d points && true) two.1 in
    let four = and_parts (nat_lt d points) true three.1 in
    (refl, refl, refl, refl, ltb-true a points one.0, ltb-true b points two.0, ltb-true c points three.0, ltb-true d points four.0)
four_corners points base number (a ∷ b ∷ c ∷ d ∷ e ∷ places) values l h = absurd (omega arith)

pub corners_hold : (attributes points base number : ℕ) (words : List (List ℕ)) (numbers : List ℤ) → points < 2 ^ 32
    → Holds attributes points base number words numbers
    → IsCorner base numbers 1 × IsCorner base numbers 2 × IsCorner base numbers 3 × IsCorner base numbers 4
    × (corner_of base numbers 1 ∷ corner_of base numbers 2 ∷ corner_of base numbers 3 ∷ corner_of base numbers 4 ∷ [] ≡ row_corners base words)
corners_hold attributes points base number words numbers few h =
    let four = subst (λ l. FourCorners points base l h.places) (sym h.numbers_are)
    (four_corners points base number h.places h.values h.four h.inside) in
    go h.places (sym h.corners) four
  where
    corner : (k v : ℕ) → number_at numbers k ≡ pos (base + v) → v < points → IsCorner base numbers k × (corner_of base numbers k ≡ v)
    corner k v e lt = let n : nat_abs (number_at numbers k) ≡ base + v = ap nat_abs e in ((omega arith, omega arith), omega arith)

    go : (places : List ℕ) → places ≡ row_corners base words → FourCorners points base numbers places
        → IsCorner base numbers 1 × IsCorner base numbers 2 × IsCorner base numbers 3 × IsCorner base numbers 4
        × (corner_of base numbers 1 ∷ corner_of base numbers 2 ∷ corner_of base numbers 3 ∷ corner_of base numbers 4 ∷ [] ≡ row_corners base words)
    go [] e f = absurd f
    go (a ∷ []) e f = absurd f
    go (a ∷ b ∷ []) e f = absurd f
    go (a ∷ b ∷ c ∷ []) e f = absurd f
    go (a ∷ b ∷ c ∷ d ∷ []) e f =
        let one = corner 1 a f.0 f.4 in
        let two = corner 2 b f.1 f.5 in
        let three = corner 3 c f.2 f.6 in
        let four = corner 4 d f.3 f.7 in
        (one.0, two.0, three.0, four.0, cc (one.1, two.1, three.1, four.1, e))
    go (a ∷ b ∷ c ∷ d ∷ x ∷ places) e f = absurd f

-- how many numbers there are
pub cell_count : (attributes points base number : ℕ) (words : List (List ℕ)) (numbers : List ℤ) → Holds attributes points base number words numbers
    → length numbers ≡ 5 + attributes
cell_count attributes points base number words numbers h =
    omega (
      arith,
      ap length h.numbers_are,
      length-append (map (λ v. pos (base + v)) h.places) h.values,
      length-map h.places (λ v. pos (base + v)),
      h.four,
      h.values_count,
    )

-- the region
region_is : (attributes base number : ℕ) (places : List ℕ) (values : List ℤ) → length places ≡ 4 → length values ≡ attributes
    → region_of attributes (pos number ∷ (map (λ v. pos (base + v)) places ++ values)) ≡ first_or_zero values
region_is attributes base number [] values l k = absurd (omega arith)
region_is attributes base number (a ∷ []) values l k = absurd (omega arith)
region_is attributes base number (a ∷ b ∷ []) values l k = absurd (omega arith)
region_is attributes base number (a ∷ b ∷ c ∷ []) values l k = absurd (omega arith)
region_is attributes base number (a ∷ b ∷ c ∷ d ∷ []) [] l k = rw (sym k) refl
region_is attributes base number (a ∷ b ∷ c ∷ d ∷ []) (v ∷ values) l k =
    let some : nat_lt 0 attributes ≡ true = lt-ltb 0 attributes (omega arith) in rw some refl
region_is attributes base number (a ∷ b ∷ c ∷ d ∷ e ∷ places) values l k = absurd (omega arith)

-- the row is that of the cell of these numbers, where its corners are different
pub cell_read : (attributes points base number : ℕ) (words : List (List ℕ)) (numbers : List ℤ) → points < 2 ^ 32
    → Holds attributes points base number words numbers → are_different (row_corners base words) ≡ true
    → IsCellRow (cell_form attributes points base) number words (record {
      corners = corner_of base numbers 1 ∷ corner_of base numbers 2 ∷ corner_of base numbers 3 ∷ corner_of base numbers 4 ∷ [];
      region = region_of attributes numbers;
    })
cell_read attributes points base number words numbers few h different =
    let c = h.cell (ap are_different (sym h.corners) ∙ different) in
    let corners : h.places ≡ corner_of base numbers 1 ∷ corner_of base numbers 2 ∷ corner_of base numbers 3 ∷ corner_of base numbers 4 ∷ [] =
    sym h.corners ∙ sym (corners_hold attributes points base number words numbers few h).4 in
    let region : c.0 ≡ region_of attributes numbers =
    c.1 ∙ sym (ap (region_of attributes) h.numbers_are ∙ region_is attributes base number h.places h.values h.four h.values_count) in
    subst (λ (q : RawCell). IsCellRow (cell_form attributes points base) number words q)
    (same_cell h.places (corner_of base numbers 1 ∷ corner_of base numbers 2 ∷ corner_of base numbers 3 ∷ corner_of base numbers 4 ∷ []) c.0
    (region_of attributes numbers) corners region) c.2
