-- Words that workers of a test fill with their numbers.
use Rattle.std.specs.Prelude.{◌≡◌, ℕ, pos, cond}
use Rattle.std.specs.declared.option.Option.TheVariants.{Some}
use Rattle.field_words.specs.Maps.{value_in, is_within}
use Rattle.field_words.specs.Holdings.{Holding}

-- from h to k the words first to first + count - 1 got their numbers as values, and no other word of the seat changed
pub record IsFilled (first count : ℕ) (h k : Holding) : Type 0 where
  pub table : k.table ≡ h.table
  pub share : k.share ≡ h.share
  pub values : (x : ℕ) → value_in k.own x ≡ cond (is_within first count x) (Some (pos x)) (value_in h.own x)
