use Rattle.std.proofs.Common.{rules, ◌≡◌, ◌≤◌, arith}
use Rattle.ghost_links.specs.Layouts.{packet_size}
use Rattle.ghost_links.specs.Holdings.{HasLink, link_of, receiver, sender}
use Rattle.link_tests.specs.Rounds.{HasScript, IsAt}
use Rattle.link_tests.proofs.TableLemmas.{handed_rank, handed_script, kept_script, later_ranks, rank_is_idle, sender_kept, zero_to_one}
use Rattle.link_tests.proofs.tests.thousand_over_one_link.Goals as goal

pub split-other-requires-clause-ends : goal.split-other-requires-clause-ends
split-other-requires-clause-ends g c =
    let n = c.in_ok-links.ensures in
    let two = n.ranks_are in
    rank_is_idle c.in_ok-links.links c.in_ok-links.seat 0 1 n.ends (omega arith) (omega arith)

pub join_mut-requires-after_bounds : goal.join_mut-requires-after_bounds
join_mut-requires-after_bounds g c κs within =
    let t = c.in_ok-links.links in
    let h = c.in_ok-links.seat in
    let n = c.in_ok-links.ensures in
    let two = n.ranks_are in
    let link : HasLink t 0 1 = zero_to_one t n.ranks_are in
    let seat_script : HasScript t 1000 c.split-other.new.s = kept_script t 1000 1 h c.split-other.new.s n.script c.split-other.ensures.seat in
    let seat_end : IsAt c.split-other.new.s (sender t 0 1) 0 =
    sender_kept t 1 0 1 h c.split-other.new.s n.script.links link c.split-other.ensures.seat (λ e. omega arith) ((n.ends 0 (omega arith) link.from).sends 1 link) in
    let other_links : c.split-other.result.links ≡ t = (handed_script t 1000 1 h c.split-other.result n.script c.split-other.ensures.new).links in
    let other_end : IsAt c.split-other.result (receiver t 0 1) 0 =
    (handed_rank t 1 h c.split-other.result n.script.links (later_ranks t h 1 n.ends) link.to c.split-other.ensures.new).takes 0 link in
    let size : packet_size t.layout (link_of t 0 1) ≤ 7 = n.sizes 0 1 link in
    let few : t.layout.ranks ≤ 16 = omega arith in
    search rules
