use Rattle.ghost_links.proofs.RuleLemmas.{busy_sender, even_receiver, even_sender, few_packets, odd_packet, odd_receiver, odd_sender, one_script, one_view, packets_fit}
use Rattle.ghost_links.proofs.StepLemmas.{in_use}
use Rattle.ghost_links.proofs.laws.link_rule.Goals as goal

pub returns-clause-one_script : goal.returns-clause-one_script
returns-clause-one_script c = one_script

pub returns-clause-joined_away : goal.returns-clause-joined_away
returns-clause-joined_away c layout s r j v here = (r.each j v here).no_end

pub returns-clause-few_packets : goal.returns-clause-few_packets
returns-clause-few_packets c = few_packets

pub returns-clause-packets_fit : goal.returns-clause-packets_fit
returns-clause-packets_fit c = packets_fit

pub returns-clause-one_view : goal.returns-clause-one_view
returns-clause-one_view c = one_view

pub returns-clause-even_sender : goal.returns-clause-even_sender
returns-clause-even_sender c = even_sender

pub returns-clause-even_receiver : goal.returns-clause-even_receiver
returns-clause-even_receiver c = even_receiver

pub returns-clause-odd_sender : goal.returns-clause-odd_sender
returns-clause-odd_sender c = odd_sender

pub returns-clause-odd_receiver : goal.returns-clause-odd_receiver
returns-clause-odd_receiver c = odd_receiver

pub returns-clause-odd_packet : goal.returns-clause-odd_packet
returns-clause-odd_packet c = odd_packet

pub returns-clause-busy_sender : goal.returns-clause-busy_sender
returns-clause-busy_sender c = busy_sender

pub returns-clause-no_link : goal.returns-clause-no_link
returns-clause-no_link c layout s r = r.unused

pub returns-clause-in_use : goal.returns-clause-in_use
returns-clause-in_use c layout s rule j v here seat = in_use layout s j v rule here seat
