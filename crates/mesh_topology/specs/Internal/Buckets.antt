-- Lists of fixed capacity, one after the other in one buffer. This project's own.
use Rattle.std.specs.Prelude.{◌≡◌, ℕ, ◌+◌, ◌-◌, ◌<◌, ◌≤◌, ◌^◌, List, [], map, take}
use Rattle.std.specs.Prelude.{length, replicate, slice_index, slice_index_or}
use Rattle.std.specs.List.{between, range_with_len}

-- lists and the capacity of each
pub record BucketLists : Type 0 where
  pub lists : List (List ℕ)
  pub capacities : List ℕ

-- the lists of a buffer, from their starts and ends
abbrev pub bucket_lists : List ℕ → List ℕ → List ℕ → BucketLists
bucket_lists starts ends items = record {
  lists =
      map (λ i. between (slice_index starts i) (slice_index ends i) items)
      (range_with_len 0 (length ends));
  capacities =
      map (λ i. slice_index starts (i + 1) - slice_index starts i) (range_with_len 0 (length ends));
}

-- no list extends into the next one
pub record AreApart (starts ends : List ℕ) (size : ℕ) : Type 0 where
  pub length_is : length starts ≡ length ends + 1
  pub begins : (i : ℕ) → i < length ends → slice_index starts i ≤ slice_index ends i
  pub inside : (i : ℕ) → i < length ends → slice_index ends i ≤ slice_index starts (i + 1)
  pub last : slice_index starts (length ends) ≤ size

-- each of the first `done` lists starts where the capacity of the previous one ends
pub record AreStartsOf (capacities : List ℕ) (done : ℕ) (starts : List ℕ) : Type 0 where
  pub length_is : length starts ≡ done + 1
  pub at : (i : ℕ) → i < done
      → slice_index starts (i + 1) ≡ slice_index starts i + slice_index capacities i

-- empty lists of these capacities
pub record IsEmptyWith (capacities : List ℕ) (buckets : BucketLists) : Type 0 where
  pub lists : buckets.lists ≡ replicate (length capacities) []
  pub capacities_are : buckets.capacities ≡ capacities

-- of each row the prefix of the length that `counts` has for it
abbrev pub prefixes : List ℕ → List (List ℕ) → List (List ℕ)
prefixes counts rows =
    map (λ i. take (slice_index counts i) (slice_index_or rows i []))
    (range_with_len 0 (length counts))

-- the rows have `size` members each, and no prefix is longer
pub record AreRowCounts (size : ℕ) (counts : List ℕ) (rows : List (List ℕ)) : Type 0 where
  pub few : size < 2 ^ 8
  pub length_is : length rows ≡ length counts
  pub wide : (i : ℕ) → i < length counts → length (slice_index_or rows i []) ≡ size
  pub short : (i : ℕ) → i < length counts → slice_index counts i ≤ size
