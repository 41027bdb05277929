use Rattle.std.proofs.Common.{◌≡◌, Some, true, sym, subst, ◌∙◌}
use Rattle.ghost_links.specs.Ends.{sending_end}
use Rattle.ghost_links.specs.Holdings.{after_post, has_idle, next_packet}
use Rattle.ghost_links.proofs.StageLemmas.{all_posted, has_put_all, packet_before_post, put_before_post, turn_to_post}
use Rattle.ghost_links.proofs.links.Links.post.Goals as goal

pub store_packet-requires-clause-end : goal.store_packet-requires-clause-end
store_packet-requires-clause-end c =
    let n = c.number-link.result in
    let x = sending_end n in
    let idle : has_idle c.args.s.now x ≡ true =
    subst (λ l. has_idle c.args.s.now (sending_end l) ≡ true) (sym c.number-link.ensures.number) c.requires.end in
    put_before_post x n c.load_to_post-word.result c.args.p.now.words c.args.s.now c.load_to_post-word.new.s idle c.load_to_post-word.ensures.word c.if-word-eq1.false c.load_to_post-word.ensures.seat

pub store_packet-requires-clause-packet : goal.store_packet-requires-clause-packet
store_packet-requires-clause-packet c =
    let n = c.number-link.result in
    let x = sending_end n in
    let idle : has_idle c.args.s.now x ≡ true =
    subst (λ l. has_idle c.args.s.now (sending_end l) ≡ true) (sym c.number-link.ensures.number) c.requires.end in
    let packet : next_packet c.args.s.now n x ≡ Some c.args.p.now.words =
    subst (λ l. next_packet c.args.s.now l (sending_end l) ≡ Some c.args.p.now.words) (sym c.number-link.ensures.number) c.requires.packet in
    packet_before_post x n c.load_to_post-word.result c.args.p.now.words c.args.s.now c.load_to_post-word.new.s idle c.load_to_post-word.ensures.word c.if-word-eq1.false c.load_to_post-word.ensures.seat ∙ packet

pub store_posted-requires-clause-end : goal.store_posted-requires-clause-end
store_posted-requires-clause-end c =
    let n = c.number-link.result in
    let x = sending_end n in
    let idle : has_idle c.args.s.now x ≡ true =
    subst (λ l. has_idle c.args.s.now (sending_end l) ≡ true) (sym c.number-link.ensures.number) c.requires.end in
    let packet : next_packet c.args.s.now n x ≡ Some c.args.p.now.words =
    subst (λ l. next_packet c.args.s.now l (sending_end l) ≡ Some c.args.p.now.words) (sym c.number-link.ensures.number) c.requires.packet in
    has_put_all n x c.args.p.now.words c.load_to_post-word.new.s c.store_packet.new.s
    (put_before_post x n c.load_to_post-word.result c.args.p.now.words c.args.s.now c.load_to_post-word.new.s idle c.load_to_post-word.ensures.word c.if-word-eq1.false c.load_to_post-word.ensures.seat)
    (packet_before_post x n c.load_to_post-word.result c.args.p.now.words c.args.s.now c.load_to_post-word.new.s idle c.load_to_post-word.ensures.word c.if-word-eq1.false c.load_to_post-word.ensures.seat ∙ packet)
    c.store_packet.ensures

pub store_posted-requires-clause-turn : goal.store_posted-requires-clause-turn
store_posted-requires-clause-turn c =
    let n = c.number-link.result in
    let x = sending_end n in
    let idle : has_idle c.args.s.now x ≡ true =
    subst (λ l. has_idle c.args.s.now (sending_end l) ≡ true) (sym c.number-link.ensures.number) c.requires.end in
    turn_to_post x n c.load_to_post-word.result c.args.p.now.words c.args.s.now c.load_to_post-word.new.s c.store_packet.new.s
    idle c.load_to_post-word.ensures.word c.if-word-eq1.false c.load_to_post-word.ensures.seat c.store_packet.ensures

pub returns : goal.returns
returns c =
    let n = c.number-link.result in
    let x = sending_end n in
    let idle : has_idle c.args.s.now x ≡ true =
    subst (λ l. has_idle c.args.s.now (sending_end l) ≡ true) (sym c.number-link.ensures.number) c.requires.end in
    subst (λ l. c.store_posted.new.s ≡ after_post (sending_end l) c.args.p.now.words c.args.s.now) c.number-link.ensures.number
    (all_posted x n c.load_to_post-word.result c.args.p.now.words c.args.s.now c.load_to_post-word.new.s c.store_packet.new.s c.store_posted.new.s
    idle c.load_to_post-word.ensures.word c.if-word-eq1.false c.load_to_post-word.ensures.seat c.store_packet.ensures c.store_posted.ensures)
