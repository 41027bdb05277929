-- Numbers that may not fit. This project's own.
use Rattle.std.specs.Int.{w64}
use Rattle.std.specs.Option.{SomeIff}
use Rattle.std.specs.Prelude.{FitsSigned, Option, ℤ}

-- the number where it fits, as checked arithmetic gives it
pub record IsIfFits (o : Option ℤ) (n : ℤ) : Type 0 where
  pub is : SomeIff o (FitsSigned w64 n) n
