-- The ends of a rank, from one post or take to the next.
use Rattle.std.proofs.Common.{◌≡◌, ◌≢◌, ℕ, zero, suc, ◌+◌, ◌/◌, ◌<◌, ◌≤◌, Bool, true, false, cond, ltb, lt-ltb, List, [], ◌∷◌, length, Some, refl, sym, ap, ◌∙◌, subst, arith, zero-add}
use Rattle.std.specs.Prelude.{slice_get, slice_index_or}
use Rattle.std.proofs.lemmas.List.FromFn.{get_or-map-range_with_len, length-map-range_with_len}
use mathlib.Core.Logic.{dite}
use native.Mathlib.Decide.{dec_le, ℕ_discrete}
use Rattle.std.proofs.lemmas.Bool.{ltb-true}
use Rattle.ghost_links.specs.Layouts.{turn_word}
use Rattle.ghost_links.specs.declared.links.PostAnswer.{PostAnswer}
use Rattle.ghost_links.specs.declared.links.TakeAnswer.{TakeAnswer}
use Rattle.ghost_links.specs.Packets.{PacketWords}
use Rattle.ghost_links.specs.Holdings.{ChangedOneEnd, HasLink, Holding, LinkTable, Posts, Takes, is_idle, link_of, next_of, next_packet, posted_count, receiver, sender, taken_count}
use Rattle.ghost_links.proofs.AnswerLemmas.{post_changes, take_changes}
use Rattle.ghost_links.proofs.RuleLemmas.{sending_rank}
use Rattle.link_tests.specs.Scripts.{packet_at, packets_at}
use Rattle.link_tests.specs.Rounds.{HasScript, IsAt, LinkIsAt, RankIsAt, all_at, first_ones_at}

slice_get-at : {A : Type 0} (l : List A) (i : ℕ) (d : A) → i < length l → slice_get l i ≡ Some (slice_index_or l i d)
slice_get-at [] i d h = absurd (omega arith)
slice_get-at (y ∷ l) zero d h = refl
slice_get-at (y ∷ l) (suc i) d h = slice_get-at l i d (omega arith)

-- the next packet at an end is the one of its next number
pub numbered_next : (t : LinkTable) (count a b x n : ℕ) (words : List ℕ) (h : Holding) → HasScript t count h → HasLink t a b → IsAt h x n → n < count
    → words ≡ packet_at a b n → next_packet h (link_of t a b) x ≡ Some words
numbered_next t count a b x n words h script link at_n lt is =
    let inside : n < length (packets_at count a b) = let l = length-map-range_with_len (packet_at a b) 0 count in omega arith in
    ap (slice_get (slice_index_or h.script (link_of t a b) [])) at_n.next
    ∙ (ap (λ l. slice_get l n) (script.packets a b link)
    ∙ (slice_get-at (packets_at count a b) n [] inside
    ∙ (ap Some (get_or-map-range_with_len (packet_at a b) 0 count n n [] lt (zero-add n)) ∙ ap Some (sym is))))

pub script_kept : (t : LinkTable) (count x n : ℕ) (h k : Holding) → HasScript t count h → ChangedOneEnd x n h k → HasScript t count k
script_kept t count x n h k s c = record {
  links = c.links ∙ s.links;
  packets = λ a b l. ap (λ z. slice_index_or z (link_of t a b) []) c.script ∙ s.packets a b l;
}

pub at_next : (x n m : ℕ) (h k : Holding) → IsAt h x n → ChangedOneEnd x m h k → IsAt k x (n + m)
at_next x n m h k a c = record { idle = c.idle; next = let p = a.next in let q = c.next in omega arith }

at_else : (x y n m : ℕ) (h k : Holding) → y ≢ x → IsAt h y n → ChangedOneEnd x m h k → IsAt k y n
at_else x y n m h k ne a c = record {
  idle = ap is_idle (c.others y ne) ∙ a.idle;
  next = ap next_of (c.others y ne) ∙ a.next;
}

at_same : (x n m : ℕ) (h : Holding) → n ≡ m → IsAt h x n → IsAt h x m
at_same x n m h e a = subst (IsAt h x) e a

-- the counts of the others
before_first : (n first other : ℕ) → other < first → first_ones_at n first other ≡ n + 1
before_first n first other lt = ap (λ b. cond b (n + 1) n) (lt-ltb other first lt)

not_before_first : (n first other : ℕ) → first ≤ other → first_ones_at n first other ≡ n
not_before_first n first other le = go (ltb other first) refl
  where
    go : (b : Bool) → ltb other first ≡ b → cond b (n + 1) n ≡ n
    go true is = let lt = ltb-true other first is in absurd (omega arith)
    go false is = refl

one_further : (n first other : ℕ) → other ≢ first → first_ones_at n first other ≡ first_ones_at n (first + 1) other
one_further n first other ne = dite (dec_le (other + 1) first)
    (λ lt. before_first n first other (omega arith) ∙ sym (before_first n (first + 1) other (omega arith)))
    (λ ge. not_before_first n first other (omega arith) ∙ sym (not_before_first n (first + 1) other (omega arith)))

this_one : (n first : ℕ) → first_ones_at n first first + 1 ≡ first_ones_at n (first + 1) first
this_one n first = ap (λ k. k + 1) (not_before_first n first first (omega arith)) ∙ sym (before_first n (first + 1) first (omega arith))

pub posts_start : (t : LinkTable) (h : Holding) (rank n : ℕ) (taken : ℕ → ℕ) → RankIsAt t h rank (all_at n) taken
    → RankIsAt t h rank (first_ones_at n 0) taken
posts_start t h rank n taken r = record {
  sends = λ other l. at_same (sender t rank other) n (first_ones_at n 0 other) h (sym (not_before_first n 0 other (omega arith))) (r.sends other l);
  takes = r.takes;
}

pub posts_end : (t : LinkTable) (h : Holding) (rank n : ℕ) (taken : ℕ → ℕ) → RankIsAt t h rank (first_ones_at n t.layout.ranks) taken
    → RankIsAt t h rank (all_at (n + 1)) taken
posts_end t h rank n taken r = record {
  sends = λ other l. at_same (sender t rank other) (first_ones_at n t.layout.ranks other) (n + 1) h (before_first n t.layout.ranks other l.to) (r.sends other l);
  takes = r.takes;
}

pub takes_start : (t : LinkTable) (h : Holding) (rank n : ℕ) (sent : ℕ → ℕ) → RankIsAt t h rank sent (all_at n)
    → RankIsAt t h rank sent (first_ones_at n 0)
takes_start t h rank n sent r = record {
  sends = r.sends;
  takes = λ other l. at_same (receiver t other rank) n (first_ones_at n 0 other) h (sym (not_before_first n 0 other (omega arith))) (r.takes other l);
}

pub takes_end : (t : LinkTable) (h : Holding) (rank n : ℕ) (sent : ℕ → ℕ) → RankIsAt t h rank sent (first_ones_at n t.layout.ranks)
    → RankIsAt t h rank sent (all_at (n + 1))
takes_end t h rank n sent r = record {
  sends = r.sends;
  takes = λ other l. at_same (receiver t other rank) (first_ones_at n t.layout.ranks other) (n + 1) h (before_first n t.layout.ranks other l.from) (r.takes other l);
}

-- the rank itself is passed over
pub post_passed : (t : LinkTable) (h : Holding) (rank n b : ℕ) (taken : ℕ → ℕ) → b ≡ rank → RankIsAt t h rank (first_ones_at n b) taken
    → RankIsAt t h rank (first_ones_at n (b + 1)) taken
post_passed t h rank n b taken is r = record {
  sends = λ other l. at_same (sender t rank other) (first_ones_at n b other) (first_ones_at n (b + 1) other) h
      (one_further n b other (λ e. l.apart (sym (e ∙ is)))) (r.sends other l);
  takes = r.takes;
}

pub take_passed : (t : LinkTable) (h : Holding) (rank n b : ℕ) (sent : ℕ → ℕ) → b ≡ rank → RankIsAt t h rank sent (first_ones_at n b)
    → RankIsAt t h rank sent (first_ones_at n (b + 1))
take_passed t h rank n b sent is r = record {
  sends = r.sends;
  takes = λ other l. at_same (receiver t other rank) (first_ones_at n b other) (first_ones_at n (b + 1) other) h
      (one_further n b other (λ e. l.apart (e ∙ is))) (r.takes other l);
}

pub one_posted : (t : LinkTable) (h k : Holding) (rank n b : ℕ) (taken : ℕ → ℕ) → HasLink t rank b → RankIsAt t h rank (first_ones_at n b) taken
    → ChangedOneEnd (sender t rank b) 1 h k → RankIsAt t k rank (first_ones_at n (b + 1)) taken
one_posted t h k rank n b taken link r c = record {
  sends = λ other l. dite (ℕ_discrete other b)
      (λ is. subst (λ o. IsAt k (sender t rank o) (first_ones_at n (b + 1) o)) (sym is)
      (at_same (sender t rank b) (first_ones_at n b b + 1) (first_ones_at n (b + 1) b) k (this_one n b)
      (at_next (sender t rank b) (first_ones_at n b b) 1 h k (r.sends b link) c)))
      (λ ne. at_same (sender t rank other) (first_ones_at n b other) (first_ones_at n (b + 1) other) k (one_further n b other ne)
      (at_else (sender t rank b) (sender t rank other) (first_ones_at n b other) 1 h k (λ e. ne (omega arith)) (r.sends other l) c));
  takes = λ other l. at_else (sender t rank b) (receiver t other rank) (taken other) 1 h k (λ e. omega arith) (r.takes other l) c;
}

pub one_taken : (t : LinkTable) (h k : Holding) (rank n b : ℕ) (sent : ℕ → ℕ) → HasLink t b rank → RankIsAt t h rank sent (first_ones_at n b)
    → ChangedOneEnd (receiver t b rank) 1 h k → RankIsAt t k rank sent (first_ones_at n (b + 1))
one_taken t h k rank n b sent link r c = record {
  sends = λ other l. at_else (receiver t b rank) (sender t rank other) (sent other) 1 h k (λ e. omega arith) (r.sends other l) c;
  takes = λ other l. dite (ℕ_discrete other b)
      (λ is. subst (λ o. IsAt k (receiver t o rank) (first_ones_at n (b + 1) o)) (sym is)
      (at_same (receiver t b rank) (first_ones_at n b b + 1) (first_ones_at n (b + 1) b) k (this_one n b)
      (at_next (receiver t b rank) (first_ones_at n b b) 1 h k (r.takes b link) c)))
      (λ ne. at_same (receiver t other rank) (first_ones_at n b other) (first_ones_at n (b + 1) other) k (one_further n b other ne)
      (at_else (receiver t b rank) (receiver t other rank) (first_ones_at n b other) 1 h k (λ e. ne (same_sender other e)) (r.takes other l) c));
}
  where
    same_sender : (other : ℕ) → receiver t other rank ≡ receiver t b rank → other ≡ b
    same_sender other e =
        let same : turn_word t.layout.ranks other rank ≡ turn_word t.layout.ranks b rank = omega arith in
        sym (sending_rank t.layout.ranks other rank link.to) ∙ (ap (λ l. l / t.layout.ranks) same ∙ sending_rank t.layout.ranks b rank link.to)

pub post_next : (t : LinkTable) (count rank b n : ℕ) (words : List ℕ) (h : Holding) → HasScript t count h → HasLink t rank b
    → RankIsAt t h rank (first_ones_at n b) (all_at n) → n < count → words ≡ packet_at rank b n
    → next_packet h (link_of t rank b) (sender t rank b) ≡ Some words
post_next t count rank b n words h script link r lt is =
    numbered_next t count rank b (sender t rank b) n words h script link
    (at_same (sender t rank b) (first_ones_at n b b) n h (not_before_first n b b (omega arith)) (r.sends b link)) lt is

-- both ends of one link in one seat
apart_ends : (t : LinkTable) → receiver t 0 1 ≢ sender t 0 1
apart_ends t e = omega arith

pub link_posted : (t : LinkTable) (count sent taken : ℕ) (words : List ℕ) (answer : PostAnswer) (h k : Holding) → LinkIsAt t count h sent taken
    → Posts (sender t 0 1) words answer h k → LinkIsAt t count k (sent + posted_count answer) taken
link_posted t count sent taken words answer h k a p =
    let c = post_changes (sender t 0 1) words answer h k a.sends.idle p in
    record {
      script = script_kept t count (sender t 0 1) (posted_count answer) h k a.script c;
      link = a.link;
      sends = at_next (sender t 0 1) sent (posted_count answer) h k a.sends c;
      takes = at_else (sender t 0 1) (receiver t 0 1) taken (posted_count answer) h k (apart_ends t) a.takes c;
    }

pub link_taken : (t : LinkTable) (count sent taken : ℕ) (answer : TakeAnswer) (h k : Holding) (old new : PacketWords) → LinkIsAt t count h sent taken
    → Takes (link_of t 0 1) (receiver t 0 1) answer h k old new → LinkIsAt t count k sent (taken + taken_count answer)
link_taken t count sent taken answer h k old new a p =
    let c = take_changes (link_of t 0 1) (receiver t 0 1) answer h k old new a.takes.idle p in
    record {
      script = script_kept t count (receiver t 0 1) (taken_count answer) h k a.script c;
      link = a.link;
      sends = at_else (receiver t 0 1) (sender t 0 1) sent (taken_count answer) h k (λ e. apart_ends t (sym e)) a.sends c;
      takes = at_next (receiver t 0 1) taken (taken_count answer) h k a.takes c;
    }
