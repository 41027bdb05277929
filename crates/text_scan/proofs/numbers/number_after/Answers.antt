use Rattle.std.proofs.Common.{◌≡◌, ◌+◌, ◌-◌, ◌*◌, ◌^◌, min, true, get_or, drop, sym, ap, ◌∙◌, arith, rules}
use Rattle.std.specs.Char.{is_ascii_digit}
use Rattle.std.specs.Str.Parse.{digits_value_after}
use Rattle.std.proofs.lemmas.List.{at_drop_more}
use Rattle.std.proofs.lemmas.List.Sums.{AllPass-from_list_all}
use Rattle.text_scan.proofs.DecimalPlaces.{capped_more}
use Rattle.text_scan.proofs.numbers.number_after.Goals as goal

pub loop-b-preserved : goal.loop-b-preserved
loop-b-preserved c =
    let ds = c.args.digits.now in
    let i = c.loop-b.b-index in
    let passes : is_ascii_digit (get_or ds i 0) ≡ true = AllPass-from_list_all is_ascii_digit ds c.requires.digits i 0 c.loop-b-test.true in
    let next : c.min-value.result ≡ min (c.loop-b.value * 10 + (get_or ds i 0 - 48)) (10 ^ 18) = search rules in
    let step = capped_more c.loop-b.value (get_or ds i 0) (drop (i + 1) ds) passes in
    let rest = at_drop_more (λ l. min (digits_value_after 10 c.loop-b.value l) (10 ^ 18)) ds i 0 c.loop-b-test.true in
    (omega arith, ap (λ v. min (digits_value_after 10 v (drop (i + 1) ds)) (10 ^ 18)) next ∙ step ∙ sym rest ∙ c.loop-b.invariant.1)
