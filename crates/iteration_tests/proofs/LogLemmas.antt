-- The store of the tests does loads and stores.
use Rattle.std.proofs.Common.{◌≡◌, List, [], ◌∷◌, ◌++◌, map, refl, ap, ◌∙◌}
use Rattle.std.specs.Prelude.{Some, ℤ, pos}
use Rattle.liszt_base.specs.declared.accesses.Spot.{Spot}
use Rattle.code_eval.specs.Stores.{Entry, IsLoad, IsLogged, IsStore, HasSameSpots}
use Rattle.iteration_tests.specs.declared.entry.Logged.{Logged}
use Rattle.iteration_tests.specs.declared.entry.Logged.TheVariants as logged
use Rattle.iteration_tests.specs.Logs.{value_after_entry, value_after_log, value_in_log, entry_of, view_of}

after_more : (log : List Logged) (entry : Logged) (spot : Spot) (old : ℤ)
    → value_after_log (log ++ entry ∷ []) spot old ≡ value_after_entry entry spot (value_after_log log spot old)
after_more [] entry spot old = refl
after_more (first ∷ log) entry spot old = after_more log entry spot (value_after_entry first spot old)

map_more : (log : List Logged) (entry : Logged) → map entry_of (log ++ entry ∷ []) ≡ map entry_of log ++ entry_of entry ∷ []
map_more [] entry = refl
map_more (first ∷ log) entry = ap (λ entries. entry_of first ∷ entries) (map_more log entry)

some_entries : (xs ys : List Entry) → Some xs ≡ Some ys → xs ≡ ys
some_entries xs ys e = cc

appended : (log : List Logged) (entry : Logged) → IsLogged (entry_of entry) (view_of log) (view_of (log ++ entry ∷ []))
appended log entry = record {
  logged = λ entries is. ap Some (map_more log entry ∙ ap (λ entries. entries ++ entry_of entry ∷ []) (some_entries (map entry_of log) entries is));
}

same_spots : (log later : List Logged) → HasSameSpots (view_of log) (view_of later)
same_spots log later = record { loadable = refl; storable = refl }

pub is_load : (log : List Logged) (spot : Spot) (value : ℤ) → value ≡ value_in_log log spot → IsLoad spot value (view_of log) (view_of (log ++ logged.Load spot value ∷ []))
is_load log spot value is = record {
  spots = same_spots log (log ++ logged.Load spot value ∷ []);
  is = is;
  values = λ other. after_more log (logged.Load spot value) other (pos 7);
  flags = λ other. refl;
  logged = appended log (logged.Load spot value);
}

pub is_store : (log : List Logged) (spot : Spot) (value : ℤ) → IsStore spot value (view_of log) (view_of (log ++ logged.Store spot value ∷ []))
is_store log spot value = record {
  spots = same_spots log (log ++ logged.Store spot value ∷ []);
  values = λ other. after_more log (logged.Store spot value) other (pos 7);
  flags = λ other. refl;
  logged = appended log (logged.Store spot value);
}
