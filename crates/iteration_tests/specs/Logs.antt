-- The store of the tests, by its log: the value of a spot is the one stored last, and at first 7.
use Rattle.std.specs.Prelude.{true, None, Some, List, [], ◌∷◌, map, ℤ, pos}
use Rattle.liszt_base.specs.declared.accesses.Spot.{Spot}
use Rattle.code_eval.specs.Stores.{Entry, Load, Store, StoreView, stored}
use Rattle.iteration_tests.specs.declared.entry.Logged.{Logged}
use Rattle.iteration_tests.specs.declared.entry.Logged.TheVariants as logged

abbrev pub value_after_entry : Logged → Spot → ℤ → ℤ
value_after_entry (logged.Load other value) spot old = old
value_after_entry (logged.Store other value) spot old = stored other value spot old

abbrev pub value_after_log : List Logged → Spot → ℤ → ℤ
value_after_log [] spot old = old
value_after_log (entry ∷ rest) spot old = value_after_log rest spot (value_after_entry entry spot old)

abbrev pub value_in_log : List Logged → Spot → ℤ
value_in_log log spot = value_after_log log spot (pos 7)

abbrev pub entry_of : Logged → Entry
entry_of (logged.Load spot value) = Load spot value
entry_of (logged.Store spot value) = Store spot value

abbrev pub view_of : List Logged → StoreView
view_of log =
    record {
      loadable = λ spot. true;
      storable = λ spot. true;
      values = value_in_log log;
      flags = λ spot. None;
      log = Some (map entry_of log);
    }
