-- The words of a numbered packet, one after the other.
use Rattle.std.proofs.Common.{◌≡◌, ℕ, ◌+◌, ◌<◌, List, [], ◌∷◌, ◌++◌, length, set, take, map, refl, sym, ap, ap₂, ◌∙◌, arith, length-set, zero-add}
use Rattle.std.specs.List.{range_with_len}
use Rattle.std.proofs.lemmas.List.{take_more_set}
use Rattle.std.proofs.lemmas.List.FromFn.{map-range_with_len_more}
use Rattle.std.proofs.Math.Seq.{take-length}
use Rattle.ghost_links.specs.Packets.{PacketWords, resized_words}
use Rattle.ghost_links.proofs.StageLemmas.{length_resized}
use Rattle.link_tests.specs.Scripts.{word_at}

-- the first i of `used` words are there
pub record HasFirst (a b n used i size : ℕ) (p : PacketWords) : Type 0 where
  pub length_is : length p.words ≡ used
  pub words_are : take i p.words ≡ map (word_at a b n) (range_with_len 0 i)
  pub size_is : p.size ≡ size

pub none_first : (a b n used : ℕ) (old new : PacketWords) → new ≡ record old { words = resized_words used old.words } → HasFirst a b n used 0 old.size new
none_first a b n used old new e = record {
  length_is = ap (λ (p : PacketWords). length p.words) e ∙ length_resized used old.words;
  words_are = refl;
  size_is = ap (λ (p : PacketWords). p.size) e;
}

pub one_more_first : (a b n used i word size : ℕ) (old new : PacketWords) → HasFirst a b n used i size old → i < used → word ≡ word_at a b n i
    → new ≡ record old { words = set old.words i word } → HasFirst a b n used (i + 1) size new
one_more_first a b n used i word size old new h lt is e =
    let inside : i < length old.words = let l = h.length_is in omega arith in
    record {
      length_is = ap (λ (p : PacketWords). length p.words) e ∙ (length-set old.words i word ∙ h.length_is);
      words_are = ap (λ (p : PacketWords). take (i + 1) p.words) e
          ∙ (take_more_set old.words i word inside
          ∙ (ap₂ (λ (xs : List ℕ) (w : ℕ). xs ++ w ∷ []) h.words_are is
          ∙ sym (map-range_with_len_more (word_at a b n) 0 i i (zero-add i))));
      size_is = ap (λ (p : PacketWords). p.size) e ∙ h.size_is;
    }

pub all_there : (a b n used i size : ℕ) (p : PacketWords) → HasFirst a b n used i size p → i ≡ used → p.words ≡ map (word_at a b n) (range_with_len 0 used)
all_there a b n used i size p h end =
    sym (take-length p.words) ∙ (ap (λ j. take j p.words) (h.length_is ∙ sym end)
    ∙ (h.words_are ∙ ap (λ j. map (word_at a b n) (range_with_len 0 j)) end))
