-- One more list of accesses: its keys are gathered, and its ranks are a list.
use Rattle.std.proofs.Common.{◌≡◌, ℕ, ◌+◌, Some, List, [], ◌∷◌, ◌++◌, map, take, sym, ap, ◌∙◌}
use Rattle.std.specs.Prelude.{slice_get}
use Rattle.std.specs.List.{flat_map}
use Rattle.std.proofs.lemmas.Grind.{flat_map-append}
use Rattle.std.proofs.lemmas.List.{append-nil, map-append, take_more}
use Rattle.std.proofs.lemmas.List.Concat.{flat_map-cons}
use Rattle.std.proofs.lemmas.Option.{get_or_from_slice_get, slice_get_within}
use Rattle.liszt_base.specs.declared.accesses.Access.{Access}
use Rattle.liszt_base.specs.declared.accesses.Spot.{Spot}
use Rattle.write_conflicts.specs.Conflicts.{reduced_spots, AreReducedSpots, AreTouched}
use Rattle.write_conflicts.specs.Internal.Rows.{spot_of}

-- the lists so far, and the next
next_list : (lists : List (List Access)) (i : ℕ) (accesses : List Access) → slice_get lists i ≡ Some accesses
    → take (i + 1) lists ≡ take i lists ++ accesses ∷ []
next_list lists i accesses read =
    take_more lists i [] (slice_get_within lists i accesses read)
    ∙ ap (λ l. take i lists ++ l ∷ []) (get_or_from_slice_get lists i accesses [] read)

pub keys_more : (lists : List (List Access)) (i : ℕ) (accesses : List Access) (keys new : List ℕ) → slice_get lists i ≡ Some accesses
    → map spot_of keys ≡ flat_map reduced_spots (take i lists) → map spot_of new ≡ map spot_of keys ++ reduced_spots accesses
    → map spot_of new ≡ flat_map reduced_spots (take (i + 1) lists)
keys_more lists i accesses keys new read so_far added =
    added ∙ (ap (λ l. l ++ reduced_spots accesses) so_far
    ∙ sym (ap (flat_map reduced_spots) (next_list lists i accesses read)
    ∙ (flat_map-append reduced_spots (take i lists) (accesses ∷ [])
    ∙ ap (λ l. flat_map reduced_spots (take i lists) ++ l)
    (flat_map-cons reduced_spots accesses [] ∙ append-nil (reduced_spots accesses)))))

pub ranks_more : (spots : List Spot) (lists : List (List Access)) (i : ℕ) (accesses : List Access) (touched new : List (List ℕ)) (ranks : List ℕ)
    → slice_get lists i ≡ Some accesses
    → map (λ numbers. map (slice_get spots) numbers) touched ≡ map (λ list. map (λ spot. Some spot) (reduced_spots list)) (take i lists)
    → map (slice_get spots) ranks ≡ map (λ spot. Some spot) (reduced_spots accesses) → new ≡ touched ++ ranks ∷ []
    → map (λ numbers. map (slice_get spots) numbers) new ≡ map (λ list. map (λ spot. Some spot) (reduced_spots list)) (take (i + 1) lists)
ranks_more spots lists i accesses touched new ranks read so_far are pushed =
    let f = λ (numbers : List ℕ). map (slice_get spots) numbers in
    let g = λ (list : List Access). map (λ spot. Some spot) (reduced_spots list) in
    ap (map f) pushed
    ∙ (map-append f touched (ranks ∷ [])
    ∙ (ap (λ l. l ++ f ranks ∷ []) so_far
    ∙ (ap (λ r. map g (take i lists) ++ r ∷ []) are
    ∙ sym (ap (map g) (next_list lists i accesses read) ∙ map-append g (take i lists) (accesses ∷ [])))))

pub are_touched : (lists : List (List Access)) (spots : List Spot) (touched : List (List ℕ)) → AreReducedSpots lists spots
    → map (λ numbers. map (slice_get spots) numbers) touched ≡ map (λ list. map (λ spot. Some spot) (reduced_spots list)) lists
    → AreTouched lists touched
are_touched lists spots touched are ranks = record { spots = spots; are_reduced = are; ranks = ranks }
