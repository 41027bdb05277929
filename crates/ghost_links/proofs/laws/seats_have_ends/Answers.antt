use Rattle.ghost_links.proofs.EndLemmas.{first_receiver, first_sender, handed_receiver, handed_sender, joined_end, kept_receiver, kept_sender}
use Rattle.ghost_links.proofs.laws.seats_have_ends.Goals as goal

pub returns-clause-first_sender : goal.returns-clause-first_sender
returns-clause-first_sender c = first_sender

pub returns-clause-first_receiver : goal.returns-clause-first_receiver
returns-clause-first_receiver c = first_receiver

pub returns-clause-handed_sender : goal.returns-clause-handed_sender
returns-clause-handed_sender c = handed_sender

pub returns-clause-handed_receiver : goal.returns-clause-handed_receiver
returns-clause-handed_receiver c = handed_receiver

pub returns-clause-kept_sender : goal.returns-clause-kept_sender
returns-clause-kept_sender c = kept_sender

pub returns-clause-kept_receiver : goal.returns-clause-kept_receiver
returns-clause-kept_receiver c = kept_receiver

pub returns-clause-joined : goal.returns-clause-joined
returns-clause-joined c = joined_end
