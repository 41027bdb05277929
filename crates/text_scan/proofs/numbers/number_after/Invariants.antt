use Rattle.std.proofs.Common.{◌≡◌, ◌^◌, ◌≤◌, min, drop}
use Rattle.std.specs.Str.Parse.{digits_value_after}
use Rattle.text_scan.proofs.numbers.number_after.Given as goal

abbrev pub invariant-loop-b : goal.invariant-loop-b
invariant-loop-b l =
    (l.value ≤ 10 ^ 18)
    × (min (digits_value_after 10 l.value (drop l.b-index l.digits)) (10 ^ 18) ≡ min (digits_value_after 10 l.front l.digits) (10 ^ 18))
