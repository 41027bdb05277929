-- Why an evaluation stops. This project's own.
use Rattle.liszt_base.specs.declared.answers.Trap.{Trap}

-- A STOP is a trap, or the lack of a meaning, as of the sum of two truth values; only programs that are not typed can have that.
pub data Stop : Type 0 where
  Trapped : Trap → Stop
  NoMeaning : Stop
