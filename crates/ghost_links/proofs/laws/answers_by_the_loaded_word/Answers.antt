use Rattle.ghost_links.proofs.RuleLemmas.{post_answer, post_step, take_answer, take_step}
use Rattle.ghost_links.proofs.laws.answers_by_the_loaded_word.Goals as goal

pub returns-clause-post : goal.returns-clause-post
returns-clause-post c = post_answer

pub returns-clause-post_step : goal.returns-clause-post_step
returns-clause-post_step c = post_step

pub returns-clause-take : goal.returns-clause-take
returns-clause-take c = take_answer

pub returns-clause-take_step : goal.returns-clause-take_step
returns-clause-take_step c = take_step
