use Rattle.liszt_tree.proofs.PlaceLemmas.{one_text, without_places}
use Rattle.liszt_tree.proofs.laws.places_are_not_shown.Goals as goal

pub returns-clause-without_places : goal.returns-clause-without_places
returns-clause-without_places c = without_places

pub returns-clause-same : goal.returns-clause-same
returns-clause-same c = one_text
