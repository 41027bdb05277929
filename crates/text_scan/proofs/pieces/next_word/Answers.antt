use Rattle.std.proofs.Common.{◌≡◌, ◌-◌, ◌<◌, take, drop, length, rules}
use Rattle.std.proofs.lemmas.List.{take_rest}
use Rattle.text_scan.proofs.WordLemmas.{no_words_left, first_word_split}
use Rattle.text_scan.proofs.pieces.next_word.Goals as goal

pub returns-then-is_empty-clause-none : goal.returns-then-is_empty-clause-none
returns-then-is_empty-clause-none c =
    let text = c.args.text.now in
    let n = c.word_position.result in
    let tail = take (length text - n) (drop n text) in
    let none : length tail ≡ 0 = search rules in
    no_words_left text tail n c.word_position.ensures.position (take_rest text n) none

pub returns-clause-some : goal.returns-clause-some
returns-clause-some c =
    let text = c.args.text.now in
    let n = c.word_position.result in
    let tail = take (length text - n) (drop n text) in
    let some : 0 < length tail = search rules in
    let h = first_word_split text tail n c.blank_position.result c.word_position.ensures.position (take_rest text n) some c.blank_position.ensures.position in
    search (rules, h)
