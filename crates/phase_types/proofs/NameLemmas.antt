-- A table by names as the list of the names with what they denote.
use Rattle.std.proofs.Common.{◌≡◌, ℕ, zero, suc, Bool, true, false, cond, List, [], ◌∷◌, ◌++◌, map, take, refl, ap}
use Rattle.std.specs.List.{find}
use Rattle.std.specs.Map as table
use Rattle.std.specs.Option.{option_map}
use Rattle.std.specs.Prelude.{Option, Some, None}
use Rattle.std.specs.Str.{bytes_eq}
use Rattle.indexmap.specs.IndexMap.{insert_entry}
use Rattle.phase_types.specs.declared.resolution.Resolution.{Resolution}
use Rattle.phase_types.specs.Resolve.{Names, resolution_of}

module _ {K : Type 0} (bytes : K → List ℕ) where
  abbrev pub names_of : List (K × Resolution) → Names
  names_of entries = map (λ entry. (bytes entry.0, entry.1)) entries

  pub found_name : (name : List ℕ) (entries : List (K × Resolution)) → table.lookup (λ k. bytes_eq name (bytes k)) entries ≡ resolution_of (names_of entries) name
  found_name name [] = refl
  found_name name (entry ∷ entries) = go (bytes_eq name (bytes entry.0)) (found_name name entries) where
    others : Option (List ℕ × Resolution)
    others = find (λ other. bytes_eq name other.0) (names_of entries)

    go : (b : Bool) → table.lookup (λ k. bytes_eq name (bytes k)) entries ≡ option_map (λ other. other.1) others
        → cond b (Some entry.1) (table.lookup (λ k. bytes_eq name (bytes k)) entries) ≡ option_map (λ other. other.1) (cond b (Some (bytes entry.0, entry.1)) others)
    go true e = refl
    go false e = e

  -- a new name goes last
  pub inserted_name : (entries : List (K × Resolution)) (key : K) (r : Resolution) → resolution_of (names_of entries) (bytes key) ≡ None
      → names_of (insert_entry (λ k other. bytes_eq (bytes k) (bytes other)) entries key r) ≡ names_of entries ++ (bytes key, r) ∷ []
  inserted_name [] key r none = refl
  inserted_name (entry ∷ entries) key r none = go (bytes_eq (bytes key) (bytes entry.0)) none (inserted_name entries key r) where
    others : Option (List ℕ × Resolution)
    others = find (λ other. bytes_eq (bytes key) other.0) (names_of entries)

    rest : List (K × Resolution)
    rest = insert_entry (λ k other. bytes_eq (bytes k) (bytes other)) entries key r

    go : (b : Bool) → option_map (λ other. other.1) (cond b (Some (bytes entry.0, entry.1)) others) ≡ None
        → (option_map (λ other. other.1) others ≡ None → names_of rest ≡ names_of entries ++ (bytes key, r) ∷ [])
        → names_of (cond b ((entry.0, r) ∷ entries) (entry ∷ rest)) ≡ (bytes entry.0, entry.1) ∷ (names_of entries ++ (bytes key, r) ∷ [])
    go true e again = absurd cc
    go false e again = ap (λ names. (bytes entry.0, entry.1) ∷ names) (again e)

  pub taken_names : (n : ℕ) (entries : List (K × Resolution)) → names_of (take n entries) ≡ take n (names_of entries)
  taken_names zero entries = refl
  taken_names (suc n) [] = refl
  taken_names (suc n) (entry ∷ entries) = ap (λ names. (bytes entry.0, entry.1) ∷ names) (taken_names n entries)
