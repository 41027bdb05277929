use Rattle.std.proofs.Common.{arith}
use Rattle.ghost_links.proofs.LayoutLemmas.{first_word_of}
use Rattle.ghost_links.proofs.RuleLemmas.{link_is_pair, next_first_word, packets_of_pair, pair_is_link, size_of_pair}
use Rattle.ghost_links.proofs.laws.links_are_pairs.Goals as goal

pub returns-clause-links : goal.returns-clause-links
returns-clause-links c = pair_is_link

pub returns-clause-pairs : goal.returns-clause-pairs
returns-clause-pairs c = link_is_pair

pub returns-clause-next : goal.returns-clause-next
returns-clause-next c = next_first_word

pub returns-clause-size : goal.returns-clause-size
returns-clause-size c = size_of_pair

pub returns-clause-packets : goal.returns-clause-packets
returns-clause-packets c = packets_of_pair

pub returns-clause-first : goal.returns-clause-first
returns-clause-first c ranks sizes = first_word_of ranks sizes 0 (omega arith)
