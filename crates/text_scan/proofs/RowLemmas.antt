-- The laws of the rows of a text.
use Rattle.std.proofs.lemmas.Bool.{and_parts}
use Rattle.std.proofs.Common.{◌≡◌, ◌≢◌, ℕ, zero, suc, ◌+◌, ◌-◌, ◌<◌, ◌≤◌, ◌==◌, nat_lt, cond, Bool, true, false, List, [], ◌∷◌, ◌++◌}
use Rattle.std.proofs.Common.{map, length, take, slice_index, refl, sym, ap, ◌∙◌, inl, inr, subst, append_assoc, arith}
use Rattle.std.specs.List.{slice_split, onto_first, before_first, enumerate_from, filter, list_any, list_all, AllByRecursion}
use Rattle.std.specs.List.Sorted.{IsStrictlyIncreasing}
use Rattle.std.specs.Str.Lines.{strip_carriage_return}
use Rattle.std.proofs.lemmas.Bool.Decides.{nat_tests}
use Rattle.std.proofs.lemmas.List.{map-append, length-append, length-map}
use Rattle.std.proofs.lemmas.List.Elements.{filter-append}
use Rattle.text_scan.specs.Rows.{is_line_feed, is_hash, is_blank, without_empty_last, lines, is_nonempty}
use Rattle.text_scan.specs.Rows.{words, Row, row_of, has_words, TextRows, text_rows}
use Rattle.text_scan.specs.Rows.{with_carriage_returns, EndWithoutCarriageReturn, IsWholeLines, IsWord, IsRowUpTo, row_words}
use Rattle.text_scan.proofs.SplitLemmas.{HasFirst, first_part, split_append, NonePass, NoneOfAny, parts_keep, parts_none, one_part}
use Rattle.text_scan.proofs.SplitLemmas.{none_append, none_take, before_keeps, none_before, before_append}

-- the rows of lines from a number on
abbrev rows_from : ℕ → List (List ℕ) → List Row
rows_from n ls = filter has_words (map row_of (enumerate_from n ls))

-- the words of lines that have some
abbrev words_of : List (List ℕ) → List (List (List ℕ))
words_of ls = filter (λ ws. nat_lt 0 (length ws)) (map words ls)

-- ROWS HOLD WORDS

-- what has a length is not empty
some_bytes : (word : List ℕ) → is_nonempty word ≡ true → word ≢ []
some_bytes [] is = cc
some_bytes (b ∷ word) is = λ e. cc

some_words : (ws : List (List ℕ)) → nat_lt 0 (length ws) ≡ true → ws ≢ []
some_words [] is = cc
some_words (w ∷ ws) is = λ e. cc

-- parts without blanks, `#` and LF are words, where they are not empty
parts_words : (parts : List (List ℕ)) → NoneOfAny is_blank parts → NoneOfAny is_hash parts → NoneOfAny is_line_feed parts
    → AllByRecursion IsWord (filter is_nonempty parts)
parts_words [] a b c = tt
parts_words (part ∷ parts) a b c = go (is_nonempty part) refl (parts_words parts a.1 b.1 c.1) where
  go : (some : Bool) → is_nonempty part ≡ some → AllByRecursion IsWord (filter is_nonempty parts)
      → AllByRecursion IsWord (cond some (part ∷ filter is_nonempty parts) (filter is_nonempty parts))
  go true is more = ((some_bytes part is, a.0, b.0, c.0), more)
  go false is more = more

-- the words of a line without LF
strip_keeps : (q : ℕ → Bool) (line : List ℕ) → NonePass q line → NonePass q (strip_carriage_return line)
strip_keeps q line h = go (slice_index line (length line - 1) == 13) where
  go : (cr : Bool) → NonePass q (cond cr (take (length line - 1) line) line)
  go true = none_take q (length line - 1) line h
  go false = h

line_words : (line : List ℕ) → NonePass is_line_feed line → AllByRecursion IsWord (words line)
line_words line h =
    let whole = strip_carriage_return line in
    let shown = before_first is_hash whole in
    let feed = before_keeps is_hash is_line_feed whole (strip_keeps is_line_feed line h) in
    parts_words (slice_split is_blank shown) (parts_none is_blank shown) (parts_keep is_blank is_hash shown (none_before is_hash whole))
    (parts_keep is_blank is_line_feed shown feed)

-- lines are parts
less_keeps : (q : ℕ → Bool) (parts : List (List ℕ)) → NoneOfAny q parts → NoneOfAny q (without_empty_last parts)
less_keeps q [] h = tt
less_keeps q ([] ∷ []) h = tt
less_keeps q ([] ∷ part ∷ parts) h = (h.0, less_keeps q (part ∷ parts) h.1)
less_keeps q ((b ∷ bs) ∷ parts) h = (h.0, less_keeps q parts h.1)

-- rows of lines without LF
rows_hold : (last n : ℕ) (ls : List (List ℕ)) → 1 ≤ n → n + length ls ≤ last + 1 → NoneOfAny is_line_feed ls
    → AllByRecursion (IsRowUpTo last) (rows_from n ls)
rows_hold last n [] least room h = tt
rows_hold last n (l ∷ ls) least room h =
    go (nat_lt 0 (length (words l))) refl (rows_hold last (n + 1) ls (omega arith) (omega arith) h.1) where
      go : (some : Bool) → nat_lt 0 (length (words l)) ≡ some → AllByRecursion (IsRowUpTo last) (rows_from (n + 1) ls)
          → AllByRecursion (IsRowUpTo last) (cond some (row_of (n, l) ∷ rows_from (n + 1) ls) (rows_from (n + 1) ls))
      go true is more = ((least, omega arith, some_words (words l) is, line_words l h.0), more)
      go false is more = more

pub rows_have_words : (bytes : List ℕ) → AllByRecursion (IsRowUpTo (text_rows bytes).last_line) (text_rows bytes).rows
rows_have_words bytes =
    let clean = less_keeps is_line_feed (slice_split is_line_feed bytes) (parts_none is_line_feed bytes) in
    rows_hold (length (lines bytes)) 1 (lines bytes) (omega arith) (omega arith) clean

-- ROWS ASCEND

-- numbers from a number on, each above the one before
abbrev Rising : ℕ → List ℕ → Type 0
Rising low [] = Unit {0}
Rising low (n ∷ ns) = (low ≤ n) × Rising (n + 1) ns

rising_lower : (low high : ℕ) (ns : List ℕ) → low ≤ high → Rising high ns → Rising low ns
rising_lower low high [] le h = tt
rising_lower low high (n ∷ ns) le h = (omega (arith, h.0), h.1)

rising_rows : (n : ℕ) (ls : List (List ℕ)) → Rising n (map (λ row. row.line) (rows_from n ls))
rising_rows n [] = tt
rising_rows n (l ∷ ls) = go (nat_lt 0 (length (words l))) (rising_rows (n + 1) ls) where
  go : (some : Bool) → Rising (n + 1) (map (λ row. row.line) (rows_from (n + 1) ls))
      → Rising n (map (λ row. row.line) (cond some (row_of (n, l) ∷ rows_from (n + 1) ls) (rows_from (n + 1) ls)))
  go true more = (omega arith, more)
  go false more = rising_lower n (n + 1) (map (λ row. row.line) (rows_from (n + 1) ls)) (omega arith) more

increasing : (low : ℕ) (ns : List ℕ) → Rising low ns → IsStrictlyIncreasing ns
increasing low [] h = λ k l. absurd (omega arith)
increasing low (n ∷ []) h = λ k l. absurd (omega arith)
increasing low (n ∷ m ∷ ns) h = step (increasing (n + 1) (m ∷ ns) h.1) where
  step : IsStrictlyIncreasing (m ∷ ns) → (k : ℕ) → k + 1 < length (n ∷ m ∷ ns) → slice_index (n ∷ m ∷ ns) k < slice_index (n ∷ m ∷ ns) (k + 1)
  step more zero l = omega (arith, h.1.0)
  step more (suc k) l = let e : suc k + 1 ≡ suc (k + 1) = omega arith in rw e (more k (omega arith))

pub rows_ascend : (bytes : List ℕ) → IsStrictlyIncreasing (map (λ row. row.line) (text_rows bytes).rows)
rows_ascend bytes = increasing 1 (map (λ row. row.line) (rows_from 1 (lines bytes))) (rising_rows 1 (lines bytes))

-- COMMENTS ADD NOTHING

-- the words of the rows are those of the lines
words_are : (n : ℕ) (ls : List (List ℕ)) → map (λ row. row.words) (rows_from n ls) ≡ words_of ls
words_are n [] = refl
words_are n (l ∷ ls) = go (nat_lt 0 (length (words l))) (words_are (n + 1) ls) where
  go : (some : Bool) → map (λ row. row.words) (rows_from (n + 1) ls) ≡ words_of ls
      → map (λ row. row.words) (cond some (row_of (n, l) ∷ rows_from (n + 1) ls) (rows_from (n + 1) ls))
      ≡ cond some (words l ∷ words_of ls) (words_of ls)
  go true e = ap (λ ws. words l ∷ ws) e
  go false e = e

-- an empty last part is the last one of the parts at the back
less_append : (xs : List (List ℕ)) (y : List ℕ) (ys : List (List ℕ)) → without_empty_last (xs ++ y ∷ ys) ≡ xs ++ without_empty_last (y ∷ ys)
less_append [] y ys = refl
less_append ([] ∷ []) y ys = refl
less_append ([] ∷ x ∷ xs) y ys = ap (λ l. [] ∷ l) (less_append (x ∷ xs) y ys)
less_append ((b ∷ bs) ∷ xs) y ys = ap (λ l. (b ∷ bs) ∷ l) (less_append xs y ys)

-- an LF parts the lines
lines_append : (front back : List ℕ) → lines (front ++ 10 ∷ back) ≡ slice_split is_line_feed front ++ lines back
lines_append front back =
    let f = first_part is_line_feed back in
    ap without_empty_last (split_append is_line_feed front 10 back refl) ∙ rw f.2 (less_append (slice_split is_line_feed front) f.0 f.1)

-- a byte at the front stays when a CR at the end is length_take_le off
abbrev strip_at : ℕ → List ℕ → List ℕ
strip_at k line = cond (slice_index line k == 13) (take k line) line

strip_step : (b k : ℕ) (line : List ℕ) → strip_at (suc k) (b ∷ line) ≡ b ∷ strip_at k line
strip_step b k line = go (slice_index line k == 13) where
  go : (cr : Bool) → cond cr (b ∷ take k line) (b ∷ line) ≡ b ∷ cond cr (take k line) line
  go true = refl
  go false = refl

strip_cons : (b : ℕ) (line : List ℕ) → 0 < length line → strip_carriage_return (b ∷ line) ≡ b ∷ strip_carriage_return line
strip_cons b [] some = absurd (omega arith)
strip_cons b (c ∷ line) some =
    let longer : suc (suc (length line)) - 1 ≡ suc (length line) = omega arith in
    let shorter : suc (length line) - 1 ≡ length line = omega arith in
    ap (λ k. strip_at k (b ∷ c ∷ line)) longer ∙ strip_step b (length line) (c ∷ line) ∙ sym (ap (λ k. b ∷ strip_at k (c ∷ line)) shorter)

not_empty : (front : List ℕ) (b : ℕ) (back : List ℕ) → 0 < length (front ++ b ∷ back)
not_empty front b back = simp length-append (omega arith)

-- a comment's line keeps its blanks and its `#`, and has no words
comment_stays : (blanks comment : List ℕ) → (rest : List ℕ) × (strip_carriage_return (blanks ++ 35 ∷ comment) ≡ blanks ++ 35 ∷ rest)
comment_stays [] [] = ([], refl)
comment_stays [] (c ∷ comment) = (strip_carriage_return (c ∷ comment), strip_cons 35 (c ∷ comment) (omega arith))
comment_stays (b ∷ blanks) comment =
    let more = comment_stays blanks comment in
    (more.0, strip_cons b (blanks ++ 35 ∷ comment) (not_empty blanks 35 comment) ∙ ap (λ l. b ∷ l) more.1)

-- blanks hold no word, no `#` and no LF
no_words : (blanks : List ℕ) → list_all is_blank blanks ≡ true → filter is_nonempty (slice_split is_blank blanks) ≡ []
no_words [] h = refl
no_words (b ∷ blanks) h =
    let two = and_parts (is_blank b) (list_all is_blank blanks) h in
    rw two.0 (no_words blanks two.1)

none_of_blanks : (q : ℕ → Bool) → ((b : ℕ) → is_blank b ≡ true → q b ≡ false) → (blanks : List ℕ)
    → list_all is_blank blanks ≡ true → NonePass q blanks
none_of_blanks q other [] h = refl
none_of_blanks q other (b ∷ blanks) h =
    let two = and_parts (is_blank b) (list_all is_blank blanks) h in
    rw (other b two.0) (none_of_blanks q other blanks two.1)

no_hash : (b : ℕ) → is_blank b ≡ true → is_hash b ≡ false
no_hash b h = grind (arith, nat_tests)

no_feed : (b : ℕ) → is_blank b ≡ true → is_line_feed b ≡ false
no_feed b h = grind (arith, nat_tests)

comment_words : (blanks comment : List ℕ) → list_all is_blank blanks ≡ true → words (blanks ++ 35 ∷ comment) ≡ []
comment_words blanks comment h =
    let c = comment_stays blanks comment in
    let shown : before_first is_hash (strip_carriage_return (blanks ++ 35 ∷ comment)) ≡ blanks =
    rw c.1 (before_append is_hash blanks 35 c.0 (none_of_blanks is_hash no_hash blanks h) refl) in
    ap (λ l. filter is_nonempty (slice_split is_blank l)) shown ∙ no_words blanks h

-- a comment in front of lines
comment_line : (blanks comment back : List ℕ) → list_all is_blank blanks ≡ true → NonePass is_line_feed comment
    → words_of (lines (blanks ++ 35 ∷ comment ++ 10 ∷ back)) ≡ words_of (lines back)
comment_line blanks comment back h out =
    let line = blanks ++ 35 ∷ comment in
    let clean = none_append is_line_feed blanks (35 ∷ comment) (none_of_blanks is_line_feed no_feed blanks h) out in
    let one : slice_split is_line_feed line ≡ line ∷ [] = one_part is_line_feed line clean in
    let parted : lines (line ++ 10 ∷ back) ≡ line ∷ lines back = lines_append line back ∙ ap (λ l. l ++ lines back) one in
    let gone : words_of (line ∷ lines back) ≡ words_of (lines back) =
    ap (λ w. filter (λ ws. nat_lt 0 (length ws)) (w ∷ map words (lines back))) (comment_words blanks comment h) in
    ap words_of parted ∙ gone

-- lines after a prefix of lines
front_lines : (text back : List ℕ)
    → words_of (lines (text ++ 10 ∷ [] ++ back)) ≡ words_of (slice_split is_line_feed text) ++ words_of (lines back)
front_lines text back =
    let parts = slice_split is_line_feed text in
    let whole : lines (text ++ 10 ∷ [] ++ back) ≡ parts ++ lines back =
    ap lines (append_assoc text (10 ∷ []) back) ∙ lines_append text back in
    let mapped : map words (parts ++ lines back) ≡ map words parts ++ map words (lines back) = map-append words parts (lines back) in
    let some = λ (ws : List (List ℕ)). nat_lt 0 (length ws) in
    ap words_of whole ∙ ap (filter some) mapped ∙ filter-append some (map words parts) (map words (lines back))

after_front_lines : (front one two : List ℕ) → IsWholeLines front → words_of (lines one) ≡ words_of (lines two)
    → words_of (lines (front ++ one)) ≡ words_of (lines (front ++ two))
after_front_lines front one two (inl e) same = subst (λ f. words_of (lines (f ++ one)) ≡ words_of (lines (f ++ two))) (sym e) same
after_front_lines front one two (inr ends) same =
    let parts = slice_split is_line_feed ends.0 in
    subst (λ f. words_of (lines (f ++ one)) ≡ words_of (lines (f ++ two))) (sym ends.1)
    (front_lines ends.0 one ∙ ap (λ w. words_of parts ++ w) same ∙ sym (front_lines ends.0 two))

pub comments_add_no_rows : (front blanks comment back : List ℕ) → IsWholeLines front → list_all is_blank blanks ≡ true
    → list_any is_line_feed comment ≡ false → row_words (front ++ blanks ++ 35 ∷ comment ++ 10 ∷ back) ≡ row_words (front ++ back)
comments_add_no_rows front blanks comment back ends h out =
    let one = blanks ++ 35 ∷ comment ++ 10 ∷ back in
    let whole : front ++ blanks ++ 35 ∷ comment ++ 10 ∷ back ≡ front ++ one =
    ap (λ l. l ++ 10 ∷ back) (append_assoc front blanks (35 ∷ comment)) ∙ append_assoc front (blanks ++ 35 ∷ comment) (10 ∷ back) in
    let same = after_front_lines front one back ends (comment_line blanks comment back h out) in
    ap row_words whole ∙ words_are 1 (lines (front ++ one)) ∙ same ∙ sym (words_are 1 (lines (front ++ back)))

-- RETURNS CHANGE NOTHING

-- the rows, from the words of the lines
abbrev number : ℕ → List (List (List ℕ)) → List Row
number n [] = []
number n (w ∷ ws) = cond (nat_lt 0 (length w)) (record { line = n; words = w } ∷ number (n + 1) ws) (number (n + 1) ws)

abbrev numbered : List (List (List ℕ)) → TextRows
numbered ws = record { rows = number 1 ws; last_line = length ws }

-- a text's rows follow from the words of its lines
rows_are : (n : ℕ) (ls : List (List ℕ)) → rows_from n ls ≡ number n (map words ls)
rows_are n [] = refl
rows_are n (l ∷ ls) = rw (rows_are (n + 1) ls) refl

text_rows_are : (bytes : List ℕ) → text_rows bytes ≡ numbered (map words (lines bytes))
text_rows_are bytes =
    ap (λ r. let t : TextRows = record { rows = r; last_line = length (lines bytes) } in t) (rows_are 1 (lines bytes))
    ∙ ap (λ n. let t : TextRows = record { rows = number 1 (map words (lines bytes)); last_line = n } in t)
    (sym (length-map (lines bytes) words))

-- the parts with a CR at the end of each that an LF follows
abbrev with_return : List (List ℕ) → List (List ℕ)
with_return [] = []
with_return (part ∷ []) = part ∷ []
with_return (part ∷ next ∷ parts) = (part ++ 13 ∷ []) ∷ with_return (next ∷ parts)

with_return_onto : (b : ℕ) (part : List ℕ) (parts : List (List ℕ)) → onto_first b (with_return (part ∷ parts)) ≡ with_return ((b ∷ part) ∷ parts)
with_return_onto b part [] = refl
with_return_onto b part (next ∷ parts) = refl

-- a CR before each LF is such a CR
split_with_returns : (bytes : List ℕ) → slice_split is_line_feed (with_carriage_returns bytes) ≡ with_return (slice_split is_line_feed bytes)
split_with_returns [] = refl
split_with_returns (b ∷ bytes) = go (is_line_feed b) refl (first_part is_line_feed bytes) (split_with_returns bytes) where
  go : (lf : Bool) → is_line_feed b ≡ lf → HasFirst (slice_split is_line_feed bytes)
      → slice_split is_line_feed (with_carriage_returns bytes) ≡ with_return (slice_split is_line_feed bytes)
      → slice_split is_line_feed (cond lf (13 ∷ 10 ∷ []) (b ∷ []) ++ with_carriage_returns bytes)
      ≡ with_return (cond lf ([] ∷ slice_split is_line_feed bytes) (onto_first b (slice_split is_line_feed bytes)))
  go true is f same = ap (λ l. (13 ∷ []) ∷ l) (same ∙ ap with_return f.2) ∙ ap (λ l. with_return ([] ∷ l)) (sym f.2)
  go false is f same =
      let joined = ap (onto_first b) (same ∙ ap with_return f.2) ∙ with_return_onto b f.0 f.1 ∙ ap (λ l. with_return (onto_first b l)) (sym f.2) in
      rw is joined

-- a CR at the end of a line that ends in none changes no word
strip_return : (line : List ℕ) → strip_carriage_return (line ++ 13 ∷ []) ≡ line
strip_return [] = refl
strip_return (b ∷ line) = strip_cons b (line ++ 13 ∷ []) (not_empty line 13 []) ∙ ap (λ l. b ∷ l) (strip_return line)

with_return_words : (line : List ℕ) → strip_carriage_return line ≡ line → words (line ++ 13 ∷ []) ≡ words line
with_return_words line e = ap (λ l. filter is_nonempty (slice_split is_blank (before_first is_hash l))) (strip_return line ∙ sym e)

-- lines with such a CR have the same words
last_part_more : (part next : List ℕ) (parts : List (List ℕ)) → without_empty_last (part ∷ next ∷ parts) ≡ part ∷ without_empty_last (next ∷ parts)
last_part_more [] next parts = refl
last_part_more (b ∷ part) next parts = refl

last_part_return : (part : List ℕ) (parts : List (List ℕ))
    → without_empty_last ((part ++ 13 ∷ []) ∷ parts) ≡ (part ++ 13 ∷ []) ∷ without_empty_last parts
last_part_return [] parts = refl
last_part_return (b ∷ part) parts = refl

same_words : (parts : List (List ℕ)) → EndWithoutCarriageReturn (without_empty_last parts)
    → map words (without_empty_last (with_return parts)) ≡ map words (without_empty_last parts)
same_words [] h = refl
same_words (part ∷ []) h = refl
same_words (part ∷ next ∷ parts) h =
    let ends = subst EndWithoutCarriageReturn (last_part_more part next parts) h in
    ap (map words) (last_part_return part (with_return (next ∷ parts)))
    ∙ ap (λ w. w ∷ map words (without_empty_last (with_return (next ∷ parts)))) (with_return_words part ends.0)
    ∙ ap (λ ws. words part ∷ ws) (same_words (next ∷ parts) ends.1)
    ∙ sym (ap (map words) (last_part_more part next parts))

pub carriage_returns_change_nothing : (bytes : List ℕ) → EndWithoutCarriageReturn (lines bytes) → text_rows (with_carriage_returns bytes) ≡ text_rows bytes
carriage_returns_change_nothing bytes h =
    let same : map words (lines (with_carriage_returns bytes)) ≡ map words (lines bytes) =
    ap (λ parts. map words (without_empty_last parts)) (split_with_returns bytes) ∙ same_words (slice_split is_line_feed bytes) h in
    text_rows_are (with_carriage_returns bytes) ∙ ap numbered same ∙ sym (text_rows_are bytes)
