-- A parts file has no fault exactly where its rows spell a rank for each cell.
use Rattle.std.proofs.Common.{◌≡◌, ℕ, ◌+◌, ◌<◌, ◌≤◌, nat_lt, if◌then◌else◌, Bool, true, false}
use Rattle.std.proofs.Common.{List, [], ◌∷◌, map, length, refl, sym, ap, subst, ◌∙◌, arith}
use Rattle.std.proofs.lemmas.Bool.{lt-ltb, ltb-true, ltb-false}
use Rattle.std.specs.Prelude.{◌↔◌, ℤ, pos, negsuc, Result, Ok, Err}
use Rattle.std.specs.List.{AllZip, enumerate_from}
use Rattle.std.specs.Result.{result_map_both}
use Rattle.liszt_base.specs.declared.answers.PartsFault.{PartsFault}
use Rattle.liszt_base.specs.declared.answers.PartsWhat.{PartsWhat}
use Rattle.liszt_base.specs.declared.answers.PartsWhat.TheVariants.{Count, RankRange}
use Rattle.text_scan.specs.Numbers.{whole_of}
use Rattle.text_scan.specs.Rows.{Row, TextRows}
use Rattle.text_scan.specs.declared.faults.NumberFault.{NumberFault}
use Rattle.partitioner.specs.PartLists.{Parts}
use Rattle.partitioner.specs.PartsFile.{rank_among, rank_of, rank_of_words, rank_at, fault_at, row_rank, all_or_first, enough_ranks, file_parts, SpellsRank, SpellRanks}

-- A test that passes with a value, or else a fault.
test_passes : {A F : Type 0} (b : Bool) (r : Result A F) (fault : F) (value : A)
    → (if b then r else Err fault) ≡ Ok value → (b ≡ true) × (r ≡ Ok value)
test_passes true r fault value e = (refl, e)
test_passes false r fault value e = absurd cc

test_value : {A F : Type 0} (b : Bool) (r : Result A F) (fault : F) → b ≡ true
    → (if b then r else Err fault) ≡ r
test_value true r fault e = refl
test_value false r fault e = absurd cc

number_is_rank : (ranks : ℕ) (z : ℤ) (rank : ℕ) → rank_among ranks z ≡ Ok rank
    → (z ≡ pos rank) × (rank < ranks)
number_is_rank ranks (pos n) rank e =
    let h = test_passes (nat_lt n ranks) (Ok n) RankRange rank e in
    let is : n ≡ rank = cc in
    (ap pos is, subst (λ k. k < ranks) is (ltb-true n ranks h.0))
number_is_rank ranks (negsuc n) rank e = absurd cc

word_is_rank : (ranks : ℕ) (found : Result ℤ NumberFault) (rank : ℕ) → rank_of ranks found ≡ Ok rank
    → (found ≡ Ok (pos rank)) × (rank < ranks)
word_is_rank ranks (Ok z) rank e =
    let h = number_is_rank ranks z rank e in (ap Ok h.0, h.1)
word_is_rank ranks (Err fault) rank e = absurd cc

words_are_rank : (ranks : ℕ) (words : List (List ℕ)) (rank : ℕ) → rank_of_words ranks words ≡ Ok rank
    → (word : List ℕ) × (words ≡ word ∷ []) × (whole_of word ≡ Ok (pos rank)) × (rank < ranks)
words_are_rank ranks [] rank e = absurd cc
words_are_rank ranks (word ∷ []) rank e =
    let h = word_is_rank ranks (whole_of word) rank e in (word, refl, h.0, h.1)
words_are_rank ranks (word ∷ second ∷ words) rank e = absurd cc

-- The row's rank without its line.
rank_without_line : (line : ℕ) (found : Result ℕ PartsWhat) (rank : ℕ)
    → result_map_both (λ r. r) (fault_at line) found ≡ Ok rank → found ≡ Ok rank
rank_without_line line (Ok value) rank e = cc
rank_without_line line (Err what) rank e = absurd cc

row_spells : (cells ranks index : ℕ) (row : Row) (rank : ℕ)
    → row_rank cells ranks (index, row) ≡ Ok rank → (index < cells) × SpellsRank ranks row rank
row_spells cells ranks index row rank e =
    let found = rank_without_line row.line (rank_at cells ranks index row.words) rank e in
    let h = test_passes (nat_lt index cells) (rank_of_words ranks row.words) Count rank found in
    (ltb-true index cells h.0, words_are_rank ranks row.words rank h.1)

row_is_read : (cells ranks index : ℕ) (row : Row) (rank : ℕ) → index < cells
    → SpellsRank ranks row rank → row_rank cells ranks (index, row) ≡ Ok rank
row_is_read cells ranks index row rank lt h =
    let one = ap (rank_of_words ranks) h.1 ∙ ap (rank_of ranks) h.2
    ∙ test_value (nat_lt rank ranks) (Ok rank) RankRange (lt-ltb rank ranks h.3) in
    let found = test_value (nat_lt index cells) (rank_of_words ranks row.words) Count (lt-ltb index cells lt) in
    ap (result_map_both (λ r. r) (fault_at row.line)) (found ∙ one)

-- The first of a list of results, and the rest.
rest_of : (rank : ℕ) (rest : Result (List ℕ) PartsFault) (list : List ℕ)
    → result_map_both (λ values. rank ∷ values) (λ fault. fault) rest ≡ Ok list
    → (others : List ℕ) × (rest ≡ Ok others) × (list ≡ rank ∷ others)
rest_of rank (Ok others) list e = (others, refl, cc)
rest_of rank (Err fault) list e = absurd cc

first_and_rest : (first : Result ℕ PartsFault) (results : List (Result ℕ PartsFault)) (list : List ℕ)
    → all_or_first (first ∷ results) ≡ Ok list → (rank : ℕ) × (others : List ℕ)
    × (first ≡ Ok rank) × (all_or_first results ≡ Ok others) × (list ≡ rank ∷ others)
first_and_rest (Ok rank) results list e =
    let h = rest_of rank (all_or_first results) list e in (rank, h.0, refl, h.1, h.2)
first_and_rest (Err fault) results list e = absurd cc

rows_spell : (cells ranks index : ℕ) (rows : List Row) (list : List ℕ) → index ≤ cells
    → all_or_first (map (row_rank cells ranks) (enumerate_from index rows)) ≡ Ok list
    → AllZip (SpellsRank ranks) rows list × (index + length list ≤ cells)
rows_spell cells ranks index [] list le e =
    let is : [] ≡ list = cc in
    subst (λ l. AllZip (SpellsRank ranks) [] l × (index + length l ≤ cells)) is (tt, omega arith)
rows_spell cells ranks index (row ∷ rows) list le e =
    let h = first_and_rest (row_rank cells ranks (index, row)) (map (row_rank cells ranks) (enumerate_from (index + 1) rows)) list e in
    let first = row_spells cells ranks index row h.0 h.2 in
    let others = rows_spell cells ranks (index + 1) rows h.1 (omega (arith, first.0)) h.3 in
    subst (λ l. AllZip (SpellsRank ranks) (row ∷ rows) l × (index + length l ≤ cells)) (sym h.4)
    ((first.1, others.0), omega (arith, others.1))

rows_are_read : (cells ranks index : ℕ) (rows : List Row) (list : List ℕ)
    → index + length list ≤ cells → AllZip (SpellsRank ranks) rows list
    → all_or_first (map (row_rank cells ranks) (enumerate_from index rows)) ≡ Ok list
rows_are_read cells ranks index [] [] le h = refl
rows_are_read cells ranks index [] (rank ∷ list) le h = absurd h
rows_are_read cells ranks index (row ∷ rows) [] le h = absurd h
rows_are_read cells ranks index (row ∷ rows) (rank ∷ list) le h =
    let results = map (row_rank cells ranks) (enumerate_from (index + 1) rows) in
    let first = row_is_read cells ranks index row rank (omega arith) h.0 in
    let others = rows_are_read cells ranks (index + 1) rows list (omega arith) h.1 in
    ap (λ r. all_or_first (r ∷ results)) first
    ∙ ap (result_map_both (λ values. rank ∷ values) (λ fault. fault)) others

-- A file with enough ranks.
test_fails : {A F : Type 0} (b : Bool) (fault : F) (value other : A)
    → if◌then◌else◌ {A = Result A F} b (Err fault) (Ok value) ≡ Ok other
    → (b ≡ false) × (◌≡◌ {A = Result A F} (Ok value) (Ok other))
test_fails true fault value other e = absurd cc
test_fails false fault value other e = (refl, e)

list_of : Result Parts PartsFault → List ℕ
list_of (Ok parts) = parts.list
list_of (Err fault) = []

enough : (cells ranks last : ℕ) (found : Result (List ℕ) PartsFault) (list : List ℕ)
    → enough_ranks cells ranks last found ≡ Ok (record { list = list; ranks = ranks })
    → (found ≡ Ok list) × (cells ≤ length list)
unfolding list_of
enough cells ranks last (Ok values) list e =
    let h = test_fails (nat_lt (length values) cells) (fault_at last Count)
    (record { list = values; ranks = ranks }) (record { list = list; ranks = ranks }) e in
    let lists : values ≡ list = ap list_of h.1 in
    (ap Ok lists, subst (λ l. cells ≤ length l) lists (ltb-false (length values) cells h.0))
enough cells ranks last (Err fault) list e = absurd cc

not_less : (n m : ℕ) → n ≡ m → nat_lt n m ≡ false
not_less n m e = not_below (nat_lt n m) refl where
  not_below : (b : Bool) → nat_lt n m ≡ b → b ≡ false
  not_below true h = absurd (omega (arith, ltb-true n m h))
  not_below false h = refl

pub no_fault_is_ranks : (cells ranks : ℕ) (text : TextRows) (list : List ℕ)
    → (file_parts cells ranks text ≡ Ok (record { list = list; ranks = ranks }))
    ↔ SpellRanks text.rows cells ranks list
no_fault_is_ranks cells ranks text list = (
  λ e.
      let h = enough cells ranks text.last_line _ list e in
      let spelled = rows_spell cells ranks 0 text.rows list (omega arith) h.0 in
      record { count = omega (arith, h.1, spelled.1); each = spelled.0 },
  λ h.
      ap (enough_ranks cells ranks text.last_line) (rows_are_read cells ranks 0 text.rows list (omega (arith, h.count)) h.each)
      ∙ ap (λ b. if◌then◌else◌ {A = Result Parts PartsFault} b (Err (fault_at text.last_line Count))
      (Ok (record { list = list; ranks = ranks }))) (not_less (length list) cells h.count),
)
