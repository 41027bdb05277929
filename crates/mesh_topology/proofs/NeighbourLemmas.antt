-- The other members of the lists at some indices, list by list.
use Rattle.std.proofs.Common.{◌≡◌, ℕ, ◌+◌, ◌<◌, List, [], ◌∷◌, ◌++◌, length, take, get_or, slice_get, filter, Some, sym, ap, subst, ◌∙◌, inl, inr, arith}
use Rattle.std.proofs.lemmas.Bool.{cases_eq}
use Rattle.std.proofs.lemmas.List.{flat_map_more, get_or_append_left, get_or_push, length_push, take_more}
use Rattle.std.proofs.lemmas.Option.{get_or_from_slice_get}
use Rattle.mesh_topology.specs.Internal.Incidence.{differs_from, other_members, AreNeighbourSets, IsSetOf}

-- the next list
pub others_step : (id : ℕ) (back : List (List ℕ)) (through : List ℕ) (i : ℕ) (mid new : List ℕ) → i < length through → mid ≡ other_members id back (take i through) → new ≡ mid ++ filter (differs_from id) (get_or back (get_or through i 0) []) → new ≡ other_members id back (take (i + 1) through)
others_step id back through i mid new l so is =
    let f = λ (by : ℕ). filter (differs_from id) (get_or back by []) in
    is ∙ (ap (λ xs. xs ++ f (get_or through i 0)) so ∙ (flat_map_more f [] (take i through) (get_or through i 0) ∙ ap (λ xs. other_members id back xs) (sym (take_more through i 0 l))))

-- the next set
pub neighbours_step : (through back : List (List ℕ)) (id : ℕ) (all : List (List ℕ)) (list others : List ℕ) (new : List (List ℕ)) → AreNeighbourSets through back id all → slice_get through id ≡ Some list
    → IsSetOf (other_members id back list) others → new ≡ all ++ others ∷ [] → AreNeighbourSets through back (id + 1) new
neighbours_step through back id all list others new so read one is = record { length_is = ap (λ xs. length xs) is ∙ (length_push all others ∙ ap (λ n. n + 1) so.length_is); at = at } where
  at : (k : ℕ) → k < id + 1 → IsSetOf (other_members k back (get_or through k [])) (get_or new k [])
  at k l = elim (cases_eq k id) [
    | inl e ↦
        let first : get_or new id [] ≡ others = ap (λ xs. get_or xs id []) is ∙ get_or_push all others [] id so.length_is in
        let second : list ≡ get_or through id [] = sym (get_or_from_slice_get through id list [] read) in
        let here = subst (λ xs. IsSetOf (other_members id back xs) (get_or new id [])) second (subst (λ xs. IsSetOf (other_members id back list) xs) (sym first) one) in
        subst (λ n. IsSetOf (other_members n back (get_or through n [])) (get_or new n [])) (sym e) here
    | inr ne ↦
        let before : k < id = omega arith in
        let first : get_or new k [] ≡ get_or all k [] = ap (λ xs. get_or xs k []) is ∙ get_or_append_left all (others ∷ []) [] k (omega (arith, so.length_is)) in
        subst (λ xs. IsSetOf (other_members k back (get_or through k [])) xs) (sym first) (so.at k before)
  ]
