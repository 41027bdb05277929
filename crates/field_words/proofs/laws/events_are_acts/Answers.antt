use Rattle.field_words.proofs.EventLemmas.{event_is_act}
use Rattle.field_words.proofs.laws.events_are_acts.Goals as goal

pub returns : goal.returns
returns c = event_is_act
