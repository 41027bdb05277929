-- First accesses to fields and scalars. This project's own.
use Rattle.std.specs.Prelude.{◌==◌, Bool, false, Option, List}
use Rattle.std.specs.List.{find}
use Rattle.resolved_code.specs.declared.accesses.AccessAt.{AccessAt}
use Rattle.resolved_code.specs.declared.accesses.Subject.{Subject}
use Rattle.resolved_code.specs.declared.accesses.Subject.TheVariants.{Field, Scalar}

abbrev pub is_subject : Subject → Subject → Bool
is_subject (Field number) (Field other) = number == other
is_subject (Scalar number) (Scalar other) = number == other
is_subject _ _ = false

-- the first access to a field or a scalar
abbrev pub first_access : List AccessAt → Subject → Option AccessAt
first_access accesses subject = find (λ other. is_subject subject other.subject) accesses
