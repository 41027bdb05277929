use Rattle.std.proofs.Common.{◌≡◌, true, get_or, take, sym, ◌∙◌, arith}
use Rattle.std.specs.Char.{is_ascii_digit, digit_value}
use Rattle.std.specs.Str.Parse.{digits_value}
use Rattle.std.proofs.lemmas.Int.Digits.{digits_value_more}
use Rattle.std.proofs.lemmas.List.Sums.{AllPass-from_list_all}
use Rattle.command_words.proofs.DigitLemmas.{prefix_small, digit_is}
use Rattle.command_words.proofs.options.number_of.Goals as goal

pub overflow_mul-value : goal.overflow_mul-value
overflow_mul-value c =
    let small = prefix_small c.args.digits.now c.loop-b.b-index c.requires.digits c.requires.few in
    let is : c.loop-b.value ≡ digits_value 10 (take c.loop-b.b-index c.args.digits.now) = c.loop-b.invariant in
    omega arith

pub overflow_add-value : goal.overflow_add-value
overflow_add-value c =
    let small = prefix_small c.args.digits.now c.loop-b.b-index c.requires.digits c.requires.few in
    let is : c.loop-b.value ≡ digits_value 10 (take c.loop-b.b-index c.args.digits.now) = c.loop-b.invariant in
    let byte = c.type_inv.digits c.loop-b.b-index in
    omega arith

pub loop-b-preserved : goal.loop-b-preserved
loop-b-preserved c =
    let ds = c.args.digits.now in
    let i = c.loop-b.b-index in
    let passes : is_ascii_digit (get_or ds i 0) ≡ true = AllPass-from_list_all is_ascii_digit ds c.requires.digits i 0 c.loop-b-test.true in
    let digit : c.from.result ≡ digit_value (get_or ds i 0) = c.from.ensures ∙ sym (digit_is (get_or ds i 0) passes) in
    let more = digits_value_more 10 ds i c.loop-b-test.true in
    let is : c.loop-b.value ≡ digits_value 10 (take i ds) = c.loop-b.invariant in
    omega arith
