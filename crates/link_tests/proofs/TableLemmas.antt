-- The links of the tests and their seats: made, and split by ranks.
use Rattle.std.proofs.Common.{◌≡◌, ◌≢◌, ℕ, zero, suc, ◌+◌, ◌*◌, ◌/◌, ◌%◌, ◌<◌, ◌≤◌, ◌^◌, Bool, true, false, cond, eqb, eq-eqb, ne_eqb, List, [], length, replicate, Some, None, refl, sym, ap, ◌∙◌, subst, arith, mul-le-mul, zero-add, ◌∷◌}
use Rattle.std.specs.Prelude.{slice_get, slice_index, slice_index_or}
use Rattle.std.proofs.lemmas.List.{get_or-replicate, length-replicate}
use Rattle.std.proofs.lemmas.List.FromFn.{get_or-map-range_with_len, length-map-range_with_len}
use Rattle.std.proofs.Math.Nat.{div-lt_iff_lt-mul, mod-lt}
use Rattle.ghost_links.specs.Layouts.{Layout, first_of, given_size, layout_of, packet_size, turn_word}
use Rattle.ghost_links.specs.Ends.{end_in, idle_end}
use Rattle.ghost_links.specs.Holdings.{FitsSizes, HasIdleEnds, HasLink, Holding, IsSquare, LinkTable, after_split, first_holding, handed_holding, is_idle, link_of, next_of, receiver, sender}
use Rattle.ghost_links.proofs.EndLemmas.{first_receiver, first_sender, handed_receiver, handed_sender, kept_receiver, kept_sender}
use Rattle.ghost_links.proofs.RuleLemmas.{packets_of_pair, size_of_pair}
use Rattle.ghost_links.proofs.SeatLemmas.{slice_get-below}
use Rattle.link_tests.specs.Scripts.{packet_at, packets_at, word_at}
use Rattle.link_tests.specs.Rounds.{HasScript, IsAt, IsNumbered, RankIsAt, RanksStart, all_at}

-- sizes of seven words
abbrev pub sevens : ℕ → List (List ℕ)
sevens ranks = replicate ranks (replicate ranks 7)

row_is : (ranks a : ℕ) → a < ranks → slice_index_or (sevens ranks) a [] ≡ replicate ranks 7
row_is ranks a lt = get_or-replicate ranks a (replicate ranks 7) [] lt

size_is : (ranks a b : ℕ) → a < ranks → b < ranks → ◌≡◌ {A = ℕ} (given_size (sevens ranks) a b) 7
size_is ranks a b la lb = ap (λ (l : List ℕ). slice_index l b) (row_is ranks a la) ∙ get_or-replicate ranks b 7 0 lb

pub sevens_are_square : (ranks : ℕ) → IsSquare ranks (sevens ranks)
sevens_are_square ranks = record {
  senders = length-replicate ranks (replicate ranks 7);
  receivers = λ a lt. ap (λ (l : List ℕ). length l) (row_is ranks a lt) ∙ length-replicate ranks 7;
}

packet_length : (count a b n : ℕ) (packet : List ℕ) → slice_get (packets_at count a b) n ≡ Some packet → length packet ≤ 7
packet_length count a b n packet e =
    let below = slice_get-below (packets_at count a b) n packet e in
    let inside : n < count = let l = length-map-range_with_len (packet_at a b) 0 count in omega arith in
    let is : packet_at a b n ≡ packet = at_place (packets_at count a b) n packet e (get_or-map-range_with_len (packet_at a b) 0 count n n [] inside (zero-add n)) in
    let l = length-map-range_with_len (word_at a b n) 0 (n % 8) in
    let same = ap (λ (p : List ℕ). length p) is in
    let small : n % 8 < 8 = omega arith in omega arith
  where
    at_place : (l : List (List ℕ)) (i : ℕ) (p : List ℕ) → slice_get l i ≡ Some p → {q : List ℕ} → slice_index_or l i [] ≡ q → q ≡ p
    at_place [] i p h is = absurd cc
    at_place (y ∷ l) zero p h is = sym is ∙ cc
    at_place (y ∷ l) (suc i) p h is = at_place l i p h is

pub packets_fit_sevens : (ranks count : ℕ) → count < 2 ^ 32 → FitsSizes ranks (sevens ranks) (packets_at count)
packets_fit_sevens ranks count few = record {
  short = λ a b _ _ _. let l = length-map-range_with_len (packet_at a b) 0 count in omega arith;
  fits = λ a b n packet la lb _ e.
      let p = packet_length count a b n packet e in
      let s = size_is ranks a b la lb in omega arith;
}

some_room : (sizes : List (List ℕ)) (a b : ℕ) (t : Bool) → given_size sizes a b ≤ 7 → cond t 0 (given_size sizes a b + 1) ≤ 8
some_room sizes a b true le = omega arith
some_room sizes a b false le = omega arith

pub few_first_words : (ranks link : ℕ) → 0 < ranks → link ≤ ranks * ranks → first_of ranks (sevens ranks) link ≤ ranks * ranks + link * 8
few_first_words ranks zero above le = omega arith
few_first_words ranks (suc link) above le =
    let h = few_first_words ranks link above (omega arith) in
    let lt : link < ranks * ranks = omega arith in
    let la : link / ranks < ranks = (div-lt_iff_lt-mul above).1 lt in
    let lb : link % ranks < ranks = mod-lt link above in
    let s = size_is ranks (link / ranks) (link % ranks) la lb in
    let r = some_room (sevens ranks) (link / ranks) (link % ranks) (eqb (link / ranks) (link % ranks)) (omega arith) in omega arith

pub few_words_in_all : (ranks : ℕ) → 0 < ranks → ranks ≤ 16 → first_of ranks (sevens ranks) (ranks * ranks) < 2 ^ 32
few_words_in_all ranks above few =
    let h = few_first_words ranks (ranks * ranks) above (omega arith) in
    let m : ranks * ranks ≤ 16 * 16 = mul-le-mul few few in omega arith

-- an end that is idle before packet 0
pub starts : (h : Holding) (x : ℕ) → end_in h.ends x ≡ Some (idle_end 0 None) → IsAt h x 0
starts h x e = record { idle = ap is_idle e; next = ap next_of e }

pub new_links_are_numbered : (ranks count : ℕ) (t : LinkTable) (h : Holding) → t.layout ≡ layout_of ranks (sevens ranks)
    → h ≡ first_holding t (packets_at count) → IsNumbered t ranks count h
new_links_are_numbered ranks count t h layout_is e = record {
  ranks_are = ranks_are;
  sizes = λ a b l.
      let la : a < ranks = subst (λ r. a < r) ranks_are l.from in
      let lb : b < ranks = subst (λ r. b < r) ranks_are l.to in
      let s = size_is ranks a b la lb in
      let same : packet_size t.layout (link_of t a b) ≡ packet_size (layout_of ranks (sevens ranks)) (turn_word ranks a b) =
      ap (λ (y : Layout). packet_size y (turn_word y.ranks a b)) layout_is in
      let p = size_of_pair ranks (sevens ranks) a b la lb l.apart in omega arith;
  script = record {
    links = ap (λ (k : Holding). k.links) e;
    packets = λ a b l. ap (λ (k : Holding). slice_index_or k.script (link_of t a b) []) e
        ∙ packets_of_pair t.layout.ranks a b (packets_at count) l.from l.to;
  };
  ends = λ rank _ _. record {
    sends = λ other l. starts h (sender t rank other) (ap (λ (k : Holding). end_in k.ends (sender t rank other)) e ∙ first_sender t (packets_at count) rank other l);
    takes = λ other l. starts h (receiver t other rank) (ap (λ (k : Holding). end_in k.ends (receiver t other rank)) e ∙ first_receiver t (packets_at count) other rank l);
  };
}
  where
    ranks_are : t.layout.ranks ≡ ranks
    ranks_are = ap (λ (y : Layout). y.ranks) layout_is

-- a rank's ends before packet 0 are idle
other_way : (t : LinkTable) (a b : ℕ) → HasLink t a b → HasLink t b a
other_way t a b l = record { from = l.to; to = l.from; apart = λ e. l.apart (sym e) }

pub rank_is_idle : (t : LinkTable) (h : Holding) (first rank : ℕ) → RanksStart t h first → first ≤ rank → rank < t.layout.ranks → HasIdleEnds t h rank
rank_is_idle t h first rank r le lt other l =
    let a = r rank le lt in ((a.sends other l).idle, (a.takes other (other_way t rank other l)).idle)

at_end : (h k : Holding) (x n : ℕ) → end_in k.ends x ≡ end_in h.ends x → IsAt h x n → IsAt k x n
at_end h k x n e a = record { idle = ap is_idle e ∙ a.idle; next = ap next_of e ∙ a.next }

-- the seat that a split hands over, and the one that it leaves
pub handed_script : (t : LinkTable) (count rank : ℕ) (h k : Holding) → HasScript t count h → k ≡ handed_holding rank h → HasScript t count k
handed_script t count rank h k s e = record {
  links = ap (λ (z : Holding). z.links) e ∙ s.links;
  packets = λ a b l. ap (λ (z : Holding). slice_index_or z.script (link_of t a b) []) e ∙ s.packets a b l;
}

pub kept_script : (t : LinkTable) (count rank : ℕ) (h k : Holding) → HasScript t count h → k ≡ after_split rank h → HasScript t count k
kept_script t count rank h k s e = record {
  links = ap (λ (z : Holding). z.links) e ∙ s.links;
  packets = λ a b l. ap (λ (z : Holding). slice_index_or z.script (link_of t a b) []) e ∙ s.packets a b l;
}

sent_by : (t : LinkTable) (rank a b : ℕ) (h k : Holding) → h.links ≡ t → HasLink t a b → k ≡ handed_holding rank h → a ≡ rank
    → end_in k.ends (sender t a b) ≡ end_in h.ends (sender t a b)
sent_by t rank a b h k same l e is =
    subst (λ (u : LinkTable). HasLink u a b → end_in k.ends (sender u a b) ≡ end_in h.ends (sender u a b)) same
    (λ m. ap (λ (z : Holding). end_in z.ends (sender h.links a b)) e
    ∙ (handed_sender h rank a b m ∙ ap (λ c. cond c (end_in h.ends (sender h.links a b)) None) (eq-eqb a rank is))) l

taken_by : (t : LinkTable) (rank a b : ℕ) (h k : Holding) → h.links ≡ t → HasLink t a b → k ≡ handed_holding rank h → b ≡ rank
    → end_in k.ends (receiver t a b) ≡ end_in h.ends (receiver t a b)
taken_by t rank a b h k same l e is =
    subst (λ (u : LinkTable). HasLink u a b → end_in k.ends (receiver u a b) ≡ end_in h.ends (receiver u a b)) same
    (λ m. ap (λ (z : Holding). end_in z.ends (receiver h.links a b)) e
    ∙ (handed_receiver h rank a b m ∙ ap (λ c. cond c (end_in h.ends (receiver h.links a b)) None) (eq-eqb b rank is))) l

sender_left : (t : LinkTable) (rank a b : ℕ) (h k : Holding) → h.links ≡ t → HasLink t a b → k ≡ after_split rank h → a ≢ rank
    → end_in k.ends (sender t a b) ≡ end_in h.ends (sender t a b)
sender_left t rank a b h k same l e ne =
    subst (λ (u : LinkTable). HasLink u a b → end_in k.ends (sender u a b) ≡ end_in h.ends (sender u a b)) same
    (λ m. ap (λ (z : Holding). end_in z.ends (sender h.links a b)) e
    ∙ (kept_sender h rank a b m ∙ ap (λ c. cond c None (end_in h.ends (sender h.links a b))) (ne_eqb a rank ne))) l

receiver_left : (t : LinkTable) (rank a b : ℕ) (h k : Holding) → h.links ≡ t → HasLink t a b → k ≡ after_split rank h → b ≢ rank
    → end_in k.ends (receiver t a b) ≡ end_in h.ends (receiver t a b)
receiver_left t rank a b h k same l e ne =
    subst (λ (u : LinkTable). HasLink u a b → end_in k.ends (receiver u a b) ≡ end_in h.ends (receiver u a b)) same
    (λ m. ap (λ (z : Holding). end_in z.ends (receiver h.links a b)) e
    ∙ (kept_receiver h rank a b m ∙ ap (λ c. cond c None (end_in h.ends (receiver h.links a b))) (ne_eqb b rank ne))) l

pub handed_rank : (t : LinkTable) (rank : ℕ) (h k : Holding) → h.links ≡ t → RanksStart t h rank → rank < t.layout.ranks → k ≡ handed_holding rank h
    → RankIsAt t k rank (all_at 0) (all_at 0)
handed_rank t rank h k same r lt e =
    let a = r rank (omega arith) lt in
    record {
      sends = λ other l. at_end h k (sender t rank other) 0 (sent_by t rank rank other h k same l e refl) (a.sends other l);
      takes = λ other l. at_end h k (receiver t other rank) 0 (taken_by t rank other rank h k same l e refl) (a.takes other l);
    }

pub kept_ranks : (t : LinkTable) (first : ℕ) (h k : Holding) → h.links ≡ t → RanksStart t h first → k ≡ after_split first h → RanksStart t k (first + 1)
kept_ranks t first h k same r e rank le lt =
    let a = r rank (omega arith) lt in
    record {
      sends = λ other l. at_end h k (sender t rank other) 0 (sender_left t first rank other h k same l e (λ q. omega arith)) (a.sends other l);
      takes = λ other l. at_end h k (receiver t other rank) 0 (receiver_left t first other rank h k same l e (λ q. omega arith)) (a.takes other l);
    }

-- an end of another rank stays with the seat
pub sender_kept : (t : LinkTable) (rank a b : ℕ) (h k : Holding) → h.links ≡ t → HasLink t a b → k ≡ after_split rank h → a ≢ rank → IsAt h (sender t a b) 0
    → IsAt k (sender t a b) 0
sender_kept t rank a b h k same l e ne at_h = at_end h k (sender t a b) 0 (sender_left t rank a b h k same l e ne) at_h

pub later_ranks : (t : LinkTable) (h : Holding) (first : ℕ) → RanksStart t h 0 → RanksStart t h first
later_ranks t h first r rank le lt = r rank (omega arith) lt

pub zero_to_one : (t : LinkTable) → t.layout.ranks ≡ 2 → HasLink t 0 1
zero_to_one t two = record { from = omega arith; to = omega arith; apart = λ e. omega arith }
