-- Words that spell numbers, and the parts of a row.
use Rattle.std.proofs.Common.{◌≡◌, ℕ, zero, suc, None, List, [], ◌∷◌, ◌++◌, map, length, replicate, refl, sym, ap, ◌∙◌, arith}
use Rattle.std.specs.Prelude.{ℤ, Result, Ok}
use Rattle.std.specs.List.{AllZip, zip}
use Rattle.std.proofs.lemmas.List.{length-map, length-replicate}
use Rattle.text_scan.specs.declared.faults.NumberFault.{NumberFault}
use Rattle.tet_reader.specs.Tests.{word_test}
use Rattle.tet_reader.specs.declared.words.Word.{Word}
use Rattle.tet_reader.specs.Internal.RowKinds.{word_value, value_or_zero, word_number}
use Rattle.tet_reader.specs.Points.{Spell}
use Rattle.tet_reader.proofs.Tests.{Passes}

-- lists with the same members after a function that keeps members apart are the same
pub same_by_map : {A B : Type 0} (f : A → B) → ((x y : A) → f x ≡ f y → x ≡ y) → (xs ys : List A) → map f xs ≡ map f ys → xs ≡ ys
same_by_map f apart [] [] e = refl
same_by_map f apart [] (y ∷ ys) e = cc
same_by_map f apart (x ∷ xs) [] e = cc
same_by_map f apart (x ∷ xs) (y ∷ ys) e =
    let one : f x ≡ f y = cc in
    let more : map f xs ≡ map f ys = cc in
    cc (apart x y one, same_by_map f apart xs ys more)

-- two partings of one list with first parts of one length are the same
pub same_parts : {A : Type 0} (xs ys us vs : List A) → length xs ≡ length us → xs ++ ys ≡ us ++ vs → (xs ≡ us) × (ys ≡ vs)
same_parts [] ys [] vs l e = (refl, e)
same_parts [] ys (u ∷ us) vs l e = absurd (omega arith)
same_parts (x ∷ xs) ys [] vs l e = absurd (omega arith)
same_parts (x ∷ xs) ys (u ∷ us) vs l e =
    let one : x ≡ u = cc in
    let rest : xs ++ ys ≡ us ++ vs = cc in
    let more = same_parts xs ys us vs (omega arith) rest in
    (cc (one, more.0), more.1)

-- there are as many words as numbers
pub spell_length : (read : List ℕ → Result ℤ NumberFault) (words : List (List ℕ)) (numbers : List ℤ) → Spell read words numbers
    → length words ≡ length numbers
spell_length read words numbers e = sym (length-map words read) ∙ (ap length e ∙ length-map numbers (λ z. Ok z))

-- words spell one list of numbers
pub one_spelling : (read : List ℕ → Result ℤ NumberFault) (words others : List (List ℕ)) (ms ns : List ℤ) → words ≡ others
    → Spell read words ms → Spell read others ns → ms ≡ ns
one_spelling read words others ms ns e p q =
    let okay : ℤ → Result ℤ NumberFault = λ z. Ok z in
    same_by_map okay (λ x y h. cc) ms ns (sym p ∙ (ap (map read) e ∙ q))

-- n words that pass a test spell n numbers, and words that spell numbers pass it
pub spell_read : (expected : Word) (read : List ℕ → Result ℤ NumberFault)
    → ((word : List ℕ) → word_test expected word ≡ None → (z : ℤ) × (read word ≡ Ok z))
    → (n : ℕ) (words : List (List ℕ)) → AllZip Passes (replicate n expected) words
    → (numbers : List ℤ) × Spell read words numbers × (length words ≡ n)
spell_read expected read spelled_item zero [] h = ([], refl, refl)
spell_read expected read spelled_item zero (word ∷ words) h = absurd h
spell_read expected read spelled_item (suc n) [] h = absurd h
spell_read expected read spelled_item (suc n) (word ∷ words) h =
    let one = spelled_item word h.0 in
    let more = spell_read expected read spelled_item n words h.1 in
    (one.0 ∷ more.0, cc (one.1, more.1), ap suc more.2)

pub spell_passes : (expected : Word) (read : List ℕ → Result ℤ NumberFault)
    → ((word : List ℕ) (z : ℤ) → read word ≡ Ok z → word_test expected word ≡ None)
    → (n : ℕ) (words : List (List ℕ)) (numbers : List ℤ) → Spell read words numbers → length words ≡ n
    → AllZip Passes (replicate n expected) words
spell_passes expected read item_passes zero [] numbers e l = tt
spell_passes expected read item_passes zero (word ∷ words) numbers e l = absurd (omega arith)
spell_passes expected read item_passes (suc n) [] numbers e l = absurd (omega arith)
spell_passes expected read item_passes (suc n) (word ∷ words) [] e l = cc
spell_passes expected read item_passes (suc n) (word ∷ words) (z ∷ numbers) e l =
    let one : read word ≡ Ok z = cc in
    let more : Spell read words numbers = cc in
    (item_passes word z one, spell_passes expected read item_passes n words numbers more (omega arith))

-- ---- the numbers that the code reads

-- the numbers of n words that spell some
pub spelled_numbers : (expected : Word) (read : List ℕ → Result ℤ NumberFault) → ((word : List ℕ) → word_value expected word ≡ read word)
    → (n : ℕ) (words : List (List ℕ)) (numbers : List ℤ) → Spell read words numbers → length words ≡ n
    → map word_number (zip (replicate n expected) words) ≡ numbers
spelled_numbers expected read same zero [] [] e l = refl
spelled_numbers expected read same zero (word ∷ words) numbers e l = absurd (omega arith)
spelled_numbers expected read same (suc n) [] numbers e l = absurd (omega arith)
spelled_numbers expected read same n [] (z ∷ numbers) e l = cc
spelled_numbers expected read same (suc n) (word ∷ words) [] e l = cc
spelled_numbers expected read same (suc n) (word ∷ words) (z ∷ numbers) e l =
    let one : read word ≡ Ok z = cc in
    let more : Spell read words numbers = cc in
    cc (ap value_or_zero (same word ∙ one), spelled_numbers expected read same n words numbers more (omega arith))

-- lists that go with each other one after the other
pub map_zip_append : {A B C : Type 0} (f : A × B → C) (xs ys : List A) (us vs : List B) → length xs ≡ length us
    → map f (zip (xs ++ ys) (us ++ vs)) ≡ map f (zip xs us) ++ map f (zip ys vs)
map_zip_append f [] ys [] vs e = refl
map_zip_append f [] ys (u ∷ us) vs e = absurd (omega arith)
map_zip_append f (x ∷ xs) ys [] vs e = absurd (omega arith)
map_zip_append f (x ∷ xs) ys (u ∷ us) vs e = ap (λ l. f (x, u) ∷ l) (map_zip_append f xs ys us vs (omega arith))

-- three parts of a row: all of one kind each
pub three_parts : (a b c : Word) (read_a read_b read_c : List ℕ → Result ℤ NumberFault) → ((word : List ℕ) → word_value a word ≡ read_a word)
    → ((word : List ℕ) → word_value b word ≡ read_b word) → ((word : List ℕ) → word_value c word ≡ read_c word)
    → (k m n : ℕ) (us vs ws : List (List ℕ)) (ks ms ns : List ℤ) → Spell read_a us ks → Spell read_b vs ms → Spell read_c ws ns
    → length us ≡ k → length vs ≡ m → length ws ≡ n
    → map word_number (zip (replicate k a ++ (replicate m b ++ replicate n c)) (us ++ (vs ++ ws))) ≡ ks ++ (ms ++ ns)
three_parts a b c read_a read_b read_c p q r k m n us vs ws ks ms ns e f g lu lv lw =
    let inner = map_zip_append word_number (replicate m b) (replicate n c) vs ws (omega (arith, length-replicate m b, lv)) in
    let outer = map_zip_append word_number (replicate k a) (replicate m b ++ replicate n c) us (vs ++ ws) (omega (arith, length-replicate k a, lu)) in
    outer
    ∙ cc (spelled_numbers a read_a p k us ks e lu, inner, spelled_numbers b read_b q m vs ms f lv, spelled_numbers c read_c r n ws ns g lw)
