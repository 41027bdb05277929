use Rattle.ghost_links.proofs.AnswerLemmas.{post_changes, take_changes}
use Rattle.ghost_links.proofs.laws.answers_change_one_end.Goals as goal

pub returns-clause-post : goal.returns-clause-post
returns-clause-post c = post_changes

pub returns-clause-take : goal.returns-clause-take
returns-clause-take c = take_changes
