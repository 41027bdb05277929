-- Turn words and data words of different links are different words.
use Rattle.std.proofs.Common.{◌≡◌, ◌≢◌, ℕ, zero, suc, ◌+◌, ◌*◌, ◌/◌, ◌%◌, ◌<◌, ◌≤◌, ◌^◌, List, [], ◌∷◌, ◌++◌, length, map, Some, zero-add, Bool, true, false, not, cond, eqb, ltb, refl, sym, ap, ◌∙◌, subst, arith}
use Rattle.std.proofs.Math.Nat.{div-lt_iff_lt-mul, mod-lt}
use mathlib.Core.Logic.{dite}
use native.Mathlib.Decide.{dec_le}
use Rattle.std.proofs.lemmas.Bool.{and_parts}
use Rattle.std.proofs.lemmas.Bool.{eqb-false, ltb-true}
use Rattle.std.proofs.lemmas.List.FromFn.{get_or-map-range_with_len, length-map-range_with_len, map-range_with_len_more}
use Rattle.std.specs.List.{range_with_len}
use Rattle.std.specs.Prelude.{slice_get, slice_index_or}
use Rattle.liszt_base.specs.Limits.{rank_limit}
use Rattle.ghost_links.specs.Layouts.{IsLayout, Layout, first_of, first_word, given_room, given_size, is_link, layout_of, room, turn_count, word_count}
use Rattle.ghost_links.specs.Scripts.{script_over}
use Rattle.ghost_links.specs.LinkRule.{FitsLayout}
use Rattle.ghost_links.specs.Holdings.{FitsSizes}
use Rattle.ghost_links.specs.Ends.{is_end, receiving_end, sending_end}

pub link_below : (ranks link : ℕ) → is_link ranks link ≡ true → link < ranks * ranks
link_below ranks link h = ltb-true link (ranks * ranks) ((and_parts (ltb link (ranks * ranks)) (not (eqb (link / ranks) (link % ranks))) h).0)

pub end_of_sender : (ranks link x : ℕ) → x ≡ sending_end link → is_end ranks x ≡ is_link ranks link
end_of_sender ranks link x e = let half : x / 2 ≡ link = omega arith in ap (is_link ranks) half

pub end_of_receiver : (ranks link x : ℕ) → x ≡ receiving_end link → is_end ranks x ≡ is_link ranks link
end_of_receiver ranks link x e = let half : x / 2 ≡ link = omega arith in ap (is_link ranks) half

pub data_is_inside : (layout : Layout) → IsLayout layout → (link j : ℕ) → link < turn_count layout → j < room layout link
    → first_word layout link + j < first_word layout (link + 1)
data_is_inside layout h link j lo lt =
    let up = h.ascending link (link + 1) (omega arith) (omega arith) in omega arith

pub data_is_a_word : (layout : Layout) → IsLayout layout → (link j : ℕ) → link < turn_count layout → j < room layout link
    → first_word layout link + j < word_count layout
data_is_a_word layout h link j lo lt =
    let inside = data_is_inside layout h link j lo lt in
    let up = h.ascending (link + 1) (turn_count layout) (omega arith) (omega arith) in omega arith

pub turn_is_a_word : (layout : Layout) → IsLayout layout → (link : ℕ) → link < turn_count layout → link < word_count layout
turn_is_a_word layout h link lo =
    let up = h.ascending 0 (turn_count layout) (omega arith) (omega arith) in
    let start = h.start in omega arith

pub turn_is_no_data : (layout : Layout) → IsLayout layout → (link m j : ℕ) → link < turn_count layout → m ≤ turn_count layout
    → link ≢ first_word layout m + j
turn_is_no_data layout h link m j lo hi e =
    let up = h.ascending 0 m (omega arith) hi in
    let start = h.start in omega arith

pub data_apart : (layout : Layout) → IsLayout layout → (link m j k : ℕ) → m ≢ link → link < turn_count layout → m < turn_count layout
    → j < room layout link → k < room layout m → first_word layout m + k ≢ first_word layout link + j
data_apart layout h link m j k ne lo hi lj lk e = dite (dec_le (link + 1) m)
    (λ le.
    let inside = data_is_inside layout h link j lo lj in
    let up = h.ascending (link + 1) m le (omega arith) in omega arith)
    (λ gt.
    let le : m + 1 ≤ link = omega arith in
    let inside = data_is_inside layout h m k hi lk in
    let up = h.ascending (m + 1) link le (omega arith) in omega arith)

-- the layout of given sizes
pub first_of_ascends : (ranks : ℕ) (sizes : List (List ℕ)) (k l : ℕ) → k ≤ l → first_of ranks sizes k ≤ first_of ranks sizes l
first_of_ascends ranks sizes k zero le = let e : k ≡ 0 = omega arith in subst (λ j. first_of ranks sizes j ≤ first_of ranks sizes 0) (sym e) (omega arith)
first_of_ascends ranks sizes k (suc l) le = dite (dec_le k l)
    (λ less. let h = first_of_ascends ranks sizes k l less in omega arith)
    (λ more.
    let e : k ≡ suc l = omega arith in subst (λ j. first_of ranks sizes j ≤ first_of ranks sizes (suc l)) (sym e) (omega arith))

pub first_word_of : (ranks : ℕ) (sizes : List (List ℕ)) (link : ℕ) → link ≤ ranks * ranks → first_word (layout_of ranks sizes) link ≡ first_of ranks sizes link
first_word_of ranks sizes link le =
    get_or-map-range_with_len (first_of ranks sizes) 0 (ranks * ranks + 1) link link 0 (omega arith) (zero-add link)

pub layout_of_holds : (ranks : ℕ) (sizes : List (List ℕ)) → 0 < ranks → ranks ≤ rank_limit → first_of ranks sizes (ranks * ranks) < 2 ^ 32
    → IsLayout (layout_of ranks sizes)
layout_of_holds ranks sizes some few words = record {
  some_rank = some;
  few_ranks = few;
  count = length-map-range_with_len (first_of ranks sizes) 0 (ranks * ranks + 1);
  start = let e = first_word_of ranks sizes 0 (omega arith) in omega arith;
  ascending = λ k l le hi.
      let a = first_word_of ranks sizes k (omega arith) in
      let b = first_word_of ranks sizes l hi in
      let up = first_of_ascends ranks sizes k l le in omega arith;
  few_words = let e = first_word_of ranks sizes (ranks * ranks) (omega arith) in omega arith;
}

link_parts : (ranks link : ℕ) → is_link ranks link ≡ true → (link < ranks * ranks) × (eqb (link / ranks) (link % ranks) ≡ false)
link_parts ranks link h =
    let p = and_parts (ltb link (ranks * ranks)) (not (eqb (link / ranks) (link % ranks))) h in
    (ltb-true link (ranks * ranks) p.0, not_true (eqb (link / ranks) (link % ranks)) p.1)
  where
    not_true : (b : Bool) → not b ≡ true → b ≡ false
    not_true true q = absurd cc
    not_true false q = refl

pub ranks_of_link : (ranks link : ℕ) → 0 < ranks → is_link ranks link ≡ true → (link / ranks < ranks) × (link % ranks < ranks) × (link / ranks ≢ link % ranks)
ranks_of_link ranks link some h =
    let p = link_parts ranks link h in
    ((div-lt_iff_lt-mul some).1 p.0, mod-lt link some, eqb-false (link / ranks) (link % ranks) p.1)

pub room_of_layout : (ranks : ℕ) (sizes : List (List ℕ)) (link : ℕ) → is_link ranks link ≡ true
    → room (layout_of ranks sizes) link ≡ given_size sizes (link / ranks) (link % ranks) + 1
room_of_layout ranks sizes link is =
    let p = link_parts ranks link is in
    let lo = p.0 in
    let a = first_word_of ranks sizes link (omega arith) in
    let b = first_word_of ranks sizes (link + 1) (omega arith) in
    let more : first_of ranks sizes (suc link) ≡ first_of ranks sizes link + given_room ranks sizes link = refl in
    let given : given_room ranks sizes link ≡ given_size sizes (link / ranks) (link % ranks) + 1 =
    ap (λ t. cond t 0 (given_size sizes (link / ranks) (link % ranks) + 1)) p.1 in
    let next : link + 1 ≡ suc link = omega arith in
    let more' : first_of ranks sizes (link + 1) ≡ first_of ranks sizes (suc link) = ap (first_of ranks sizes) next in
    omega arith

pub packets_of_link : (ranks : ℕ) (packets : ℕ → ℕ → List (List ℕ)) (link : ℕ) → link < ranks * ranks
    → slice_index_or (script_over ranks packets) link [] ≡ packets (link / ranks) (link % ranks)
packets_of_link ranks packets link lo =
    get_or-map-range_with_len (λ l. packets (l / ranks) (l % ranks)) 0 (ranks * ranks) link link [] lo (zero-add link)

pub script_fits_layout : (ranks : ℕ) (sizes : List (List ℕ)) (packets : ℕ → ℕ → List (List ℕ)) → 0 < ranks → FitsSizes ranks sizes packets
    → FitsLayout (layout_of ranks sizes) (script_over ranks packets)
script_fits_layout ranks sizes packets some h = record {
  count = length-map-range_with_len (λ l. packets (l / ranks) (l % ranks)) 0 (ranks * ranks);
  short = λ link is.
      let p = ranks_of_link ranks link some is in
      subst (λ (l : List (List ℕ)). length l < 2 ^ 62) (sym (packets_of_link ranks packets link (link_below ranks link is)))
      (h.short (link / ranks) (link % ranks) p.0 p.1 p.2);
  fits = λ link n packet is e.
      let p = ranks_of_link ranks link some is in
      let there : slice_get (packets (link / ranks) (link % ranks)) n ≡ Some packet =
      ap (λ l. slice_get l n) (sym (packets_of_link ranks packets link (link_below ranks link is))) ∙ e in
      let le = h.fits (link / ranks) (link % ranks) n packet p.0 p.1 p.2 there in
      let r = room_of_layout ranks sizes link is in omega arith;
}

-- the loop that makes a layout
pub first_of_more : (ranks : ℕ) (sizes : List (List ℕ)) (link : ℕ) → first_of ranks sizes (link + 1) ≡ first_of ranks sizes link + given_room ranks sizes link
first_of_more ranks sizes link = let next : link + 1 ≡ suc link = omega arith in ap (first_of ranks sizes) next

pub firsts_more : (ranks : ℕ) (sizes : List (List ℕ)) (link next : ℕ) (old new : List ℕ) → next ≡ first_of ranks sizes link
    → old ≡ map (first_of ranks sizes) (range_with_len 0 link) → new ≡ old ++ next ∷ []
    → new ≡ map (first_of ranks sizes) (range_with_len 0 (link + 1))
firsts_more ranks sizes link next old new is h e =
    e ∙ ap (λ l. l ++ next ∷ []) h ∙ ap (λ n. map (first_of ranks sizes) (range_with_len 0 link) ++ n ∷ []) is
    ∙ sym (map-range_with_len_more (first_of ranks sizes) 0 link link (zero-add link))
