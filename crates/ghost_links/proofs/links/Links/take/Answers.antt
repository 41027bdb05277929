use Rattle.std.proofs.Common.{◌≡◌, ◌+◌, true, sym, subst, length}
use Rattle.ghost_links.specs.Ends.{receiving_end}
use Rattle.ghost_links.specs.Holdings.{Takes, has_idle}
use Rattle.ghost_links.specs.declared.links.TakeAnswer.TheVariants.{Taken}
use Rattle.ghost_links.proofs.StageLemmas.{all_taken, busy_after_loads, busy_before_take, has_packet_before_take, turn_to_take}
use Rattle.ghost_links.proofs.links.Links.take.Goals as goal

pub load_packet-requires-clause-end : goal.load_packet-requires-clause-end
load_packet-requires-clause-end c =
    let n = c.number-link.result in
    let x = receiving_end n in
    let idle : has_idle c.args.s.now x ≡ true =
    subst (λ l. has_idle c.args.s.now (receiving_end l) ≡ true) (sym c.number-link.ensures.number) c.requires.end in
    busy_before_take n x c.load_to_take-word.result c.args.s.now c.load_to_take-word.new.s idle c.load_to_take-word.ensures.word c.if-word-eq0.false c.load_to_take-word.ensures.seat

pub load_packet-requires-clause-packet : goal.load_packet-requires-clause-packet
load_packet-requires-clause-packet c =
    let n = c.number-link.result in
    let x = receiving_end n in
    let idle : has_idle c.args.s.now x ≡ true =
    subst (λ l. has_idle c.args.s.now (receiving_end l) ≡ true) (sym c.number-link.ensures.number) c.requires.end in
    has_packet_before_take n x c.load_to_take-word.result c.args.s.now c.load_to_take-word.new.s idle c.load_to_take-word.ensures.word c.if-word-eq0.false c.load_to_take-word.ensures.seat

pub store_taken-requires-clause-end : goal.store_taken-requires-clause-end
store_taken-requires-clause-end c =
    let n = c.number-link.result in
    let x = receiving_end n in
    let idle : has_idle c.args.s.now x ≡ true =
    subst (λ l. has_idle c.args.s.now (receiving_end l) ≡ true) (sym c.number-link.ensures.number) c.requires.end in
    busy_after_loads x (length c.load_packet.new.into.words + 1) c.load_to_take-word.new.s c.load_packet.new.s
    (busy_before_take n x c.load_to_take-word.result c.args.s.now c.load_to_take-word.new.s idle c.load_to_take-word.ensures.word c.if-word-eq0.false c.load_to_take-word.ensures.seat)
    c.load_packet.ensures.seat

pub store_taken-requires-clause-turn : goal.store_taken-requires-clause-turn
store_taken-requires-clause-turn c =
    let n = c.number-link.result in
    let x = receiving_end n in
    let idle : has_idle c.args.s.now x ≡ true =
    subst (λ l. has_idle c.args.s.now (receiving_end l) ≡ true) (sym c.number-link.ensures.number) c.requires.end in
    turn_to_take n x c.load_to_take-word.result (length c.load_packet.new.into.words + 1) c.args.s.now c.load_to_take-word.new.s c.load_packet.new.s
    idle c.load_to_take-word.ensures.word c.if-word-eq0.false c.load_to_take-word.ensures.seat c.load_packet.ensures.seat

pub returns : goal.returns
returns c =
    let n = c.number-link.result in
    let x = receiving_end n in
    let idle : has_idle c.args.s.now x ≡ true =
    subst (λ l. has_idle c.args.s.now (receiving_end l) ≡ true) (sym c.number-link.ensures.number) c.requires.end in
    subst (λ l. Takes l (receiving_end l) Taken c.args.s.now c.store_taken.new.s c.args.into.now c.load_packet.new.into) c.number-link.ensures.number
    (all_taken n x c.load_to_take-word.result c.args.s.now c.load_to_take-word.new.s c.load_packet.new.s c.store_taken.new.s c.args.into.now c.load_packet.new.into
    idle c.load_to_take-word.ensures.word c.if-word-eq0.false c.load_to_take-word.ensures.seat c.load_packet.ensures.packet c.load_packet.ensures.size c.load_packet.ensures.seat c.store_taken.ensures)
