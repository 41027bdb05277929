-- What a post, a take, a split and a join leave of a seat, for those who call them.
use Rattle.std.proofs.Common.{◌≡◌, ℕ, ◌+◌, ◌*◌, List, length, Some, true, false, not, refl, sym, ap, ◌∙◌, arith}
use Rattle.ghost_links.specs.declared.links.PostAnswer.{PostAnswer}
use Rattle.ghost_links.specs.declared.links.PostAnswer.TheVariants.{Posted, NotYet as PostNotYet}
use Rattle.ghost_links.specs.declared.links.TakeAnswer.{TakeAnswer}
use Rattle.ghost_links.specs.declared.links.TakeAnswer.TheVariants.{Taken, NotYet as TakeNotYet}
use Rattle.ghost_links.specs.declared.view.End.{End}
use Rattle.ghost_links.specs.Ends.{end_in, idle_end}
use Rattle.ghost_links.specs.Packets.{PacketWords}
use Rattle.ghost_links.specs.Holdings.{ChangedOneEnd, Holding, Posts, Takes, after_steps, has_idle, is_idle, next_of, posted_count, taken_count}
use Rattle.ghost_links.proofs.MapLemmas.{end_in_changed_else}
use Rattle.ghost_links.proofs.SeatLemmas.{idle_end_of}
use Rattle.ghost_links.proofs.StageLemmas.{end_after_steps}

steps_change : (x n m : ℕ) (f : End → End) (h k : Holding) → has_idle h x ≡ true → ((e : End) → (f e).busy ≡ false) → ((e : End) → (f e).next ≡ e.next + n)
    → k ≡ after_steps x f m h → ChangedOneEnd x n h k
steps_change x n m f h k has_end stays_idle more a =
    let e = idle_end_of (end_in h.ends x) has_end in
    let there = end_after_steps x m f h k e.0 e.1 a in
    record {
      links = ap (λ (z : Holding). z.links) a;
      script = ap (λ (z : Holding). z.script) a;
      idle = ap is_idle there ∙ ap not (stays_idle e.0);
      next = ap next_of there ∙ (more e.0 ∙ ap (λ o. next_of o + n) (sym e.1));
      others = λ y ne. ap (λ (z : Holding). end_in z.ends y) a ∙ end_in_changed_else x y f h.ends ne;
    }

pub post_changes : (x : ℕ) (packet : List ℕ) (answer : PostAnswer) (h k : Holding) → has_idle h x ≡ true → Posts x packet answer h k
    → ChangedOneEnd x (posted_count answer) h k
post_changes x packet Posted h k has_end p =
    steps_change x 1 (length packet + 3) (λ e. idle_end (e.next + 1) (Some (2 * e.next))) h k has_end (λ e. refl) (λ e. refl) p
post_changes x packet (PostNotYet word) h k has_end p =
    steps_change x 0 1 (λ e. idle_end e.next (Some word)) h k has_end (λ e. refl) (λ e. omega arith) p.2

pub take_changes : (link x : ℕ) (answer : TakeAnswer) (h k : Holding) (old new : PacketWords) → has_idle h x ≡ true
    → Takes link x answer h k old new → ChangedOneEnd x (taken_count answer) h k
take_changes link x Taken h k old new has_end p =
    steps_change x 1 (length new.words + 3) (λ e. idle_end (e.next + 1) (Some (2 * e.next + 1))) h k has_end (λ e. refl) (λ e. refl) p.2
take_changes link x (TakeNotYet word) h k old new has_end p =
    steps_change x 0 1 (λ e. idle_end e.next (Some word)) h k has_end (λ e. refl) (λ e. omega arith) p.2

-- two such calls at one end
pub changed_twice_at : (x n m : ℕ) (h j k : Holding) → ChangedOneEnd x n h j → ChangedOneEnd x m j k → ChangedOneEnd x (n + m) h k
changed_twice_at x n m h j k a b = record {
  links = b.links ∙ a.links;
  script = b.script ∙ a.script;
  idle = b.idle;
  next = let p = a.next in let q = b.next in omega arith;
  others = λ y ne. b.others y ne ∙ a.others y ne;
}
