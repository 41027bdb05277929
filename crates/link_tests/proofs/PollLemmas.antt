-- Tries of a post or a take.
use Rattle.std.proofs.Common.{◌≡◌, ℕ, List, Some, true, refl, ap, ◌∙◌, arith}
use Rattle.ghost_links.specs.declared.links.PostAnswer.TheVariants.{Posted, NotYet as PostNotYet}
use Rattle.ghost_links.specs.declared.links.TakeAnswer.TheVariants.{Taken, NotYet as TakeNotYet}
use Rattle.ghost_links.specs.Packets.{PacketWords}
use Rattle.ghost_links.specs.Scripts.{packet_of}
use Rattle.ghost_links.specs.Holdings.{ChangedOneEnd, Holding, Posts, Takes, has_idle, next_number, next_packet}
use Rattle.ghost_links.proofs.AnswerLemmas.{changed_twice_at, post_changes, take_changes}

pub no_try : (x : ℕ) (h : Holding) → has_idle h x ≡ true → ChangedOneEnd x 0 h h
no_try x h has = record { links = refl; script = refl; idle = has; next = omega arith; others = λ y ne. refl }

pub same_packet : (link x : ℕ) (packet : List ℕ) (h k : Holding) → ChangedOneEnd x 0 h k → next_packet h link x ≡ Some packet
    → next_packet k link x ≡ Some packet
same_packet link x packet h k c p =
    let next : next_number k x ≡ next_number h x = let n = c.next in omega arith in
    ap (λ s. packet_of s link (next_number k x)) c.script ∙ (ap (packet_of h.script link) next ∙ p)

pub posted_try : (x : ℕ) (packet : List ℕ) (h j k : Holding) → ChangedOneEnd x 0 h j → Posts x packet Posted j k → ChangedOneEnd x 1 h k
posted_try x packet h j k c p = changed_twice_at x 0 1 h j k c (post_changes x packet Posted j k c.idle p)

pub one_more_post_try : (x word : ℕ) (packet : List ℕ) (h j k : Holding) → ChangedOneEnd x 0 h j → Posts x packet (PostNotYet word) j k
    → ChangedOneEnd x 0 h k
one_more_post_try x word packet h j k c p = changed_twice_at x 0 0 h j k c (post_changes x packet (PostNotYet word) j k c.idle p)

pub taken_try : (link x : ℕ) (h j k : Holding) (old new : PacketWords) → ChangedOneEnd x 0 h j → Takes link x Taken j k old new → ChangedOneEnd x 1 h k
taken_try link x h j k old new c p = changed_twice_at x 0 1 h j k c (take_changes link x Taken j k old new c.idle p)

pub one_more_take_try : (link x word : ℕ) (h j k : Holding) (old new : PacketWords) → ChangedOneEnd x 0 h j → Takes link x (TakeNotYet word) j k old new
    → ChangedOneEnd x 0 h k
one_more_take_try link x word h j k old new c p = changed_twice_at x 0 0 h j k c (take_changes link x (TakeNotYet word) j k old new c.idle p)
