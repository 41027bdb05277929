-- Which act of the batch machine a call is. A load of an own word is a Load, and a load of a frozen word a Read. A store is a Put, and
-- the store of each Fold whose result is the stored value. Split, join, freeze and thaw are no acts. This project's own.
use Rattle.std.specs.Prelude.{◌≡◌, ℤ, List}
use Rattle.std.specs.declared.option.Option.TheVariants.{Some}
use Rattle.liszt_base.specs.Reductions.{fold}
use Rattle.batch_core.specs.declared.acts.Act.{Act}
use Rattle.batch_core.specs.declared.acts.Act.TheVariants.{Read, Load, Put, Fold}
use Rattle.batch_core.specs.Machine.{value_at}
use Rattle.field_words.specs.Maps.{WordMap, Each, value_in}
use Rattle.field_words.specs.Holdings.{Holding, Owns, SeesFrozen, after_load, after_store}

-- An act of a worker through its seat, from one holding and register to the next. The register is a value of the worker.
abbrev pub IsEvent : Act → Holding → ℤ → Holding → ℤ → Type 0
IsEvent (Read x) h register k after = SeesFrozen h x × (k ≡ after_load h) × (after ≡ register)
IsEvent (Load x) h register k after = (value_in h.own x ≡ Some after) × (k ≡ after_load h)
IsEvent (Put x u) h register k after = Owns h x × (k ≡ after_store h x u) × (after ≡ register)
IsEvent (Fold x op u) h register k after = Owns h x × (k ≡ after_store h x (fold op register u)) × (after ≡ register)

-- the words of a batch machine have the values of a map
abbrev pub HaveValues : List ℤ → WordMap → Type 0
HaveValues words m = Each (λ x u. value_at words x ≡ u) m
