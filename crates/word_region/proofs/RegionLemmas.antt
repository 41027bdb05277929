-- What a region keeps, as it is planned and as scopes are closed.
use Rattle.std.proofs.Common.{◌≡◌, ◌<◌, ◌≤◌, ℕ, ◌+◌, ◌-◌, List, length, ap, ◌∙◌, arith}
use Rattle.std.specs.Prelude.{Some, slice_index}
use Rattle.word_region.specs.Regions.{AreScopes, IsLive, RegionState, closed, first_declared, first_word_of, index_of, own_words}
use Rattle.word_region.specs.Internal.Tables.{AreSums, HasWords}
use Rattle.word_region.proofs.ChainLemmas.{enclosing_below}
use Rattle.word_region.proofs.WordLemmas.{upto_is, upto_le_peak}

pub sums_fit : (scopes : List ℕ) (sizes : List (ℕ × ℕ)) (starts : List ℕ) (peak : ℕ) → AreScopes scopes
    → AreSums scopes sizes starts peak → (scope : ℕ) → scope < length starts
    → slice_index starts scope + own_words sizes scope ≤ peak
sums_fit scopes sizes starts peak are is scope below =
    let lt : scope < length scopes = omega (arith, is.words.all) in
    omega (arith, is.words.values scope lt, upto_is scopes sizes scope are lt, upto_le_peak scopes sizes scope lt, is.greatest)

-- a region whose innermost scope is closed
pub still_has_words : (region : RegionState) (firsts : List ℕ) (peak scope : ℕ) → HasWords region firsts peak
    → region.innermost ≡ Some scope → HasWords (closed region scope) firsts peak
still_has_words region firsts peak scope has e = record {
  is_region = record {
    scopes = has.is_region.scopes;
    fields = has.is_region.fields;
    innermost = λ other at.
        let below = has.is_region.innermost scope e in
        let less = enclosing_below region.scopes scope other has.is_region.scopes below at in
        omega arith;
  };
  words = has.words;
  greatest = has.greatest;
}

-- the first word of a live field, as it is kept
pub word_kept : (region : RegionState) (firsts : List ℕ) (peak field : ℕ) → HasWords region firsts peak → IsLive region field
    → slice_index firsts (field - 6) ≡ first_word_of region.scopes region.sizes field
word_kept region firsts peak field has live =
    let number : first_declared + index_of field ≡ field = (let le = live.declared in omega arith) in
    has.words.values (index_of field) live.exists ∙ ap (first_word_of region.scopes region.sizes) number
