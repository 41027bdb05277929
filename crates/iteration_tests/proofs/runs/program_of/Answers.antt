use Rattle.iteration_tests.proofs.ItemLemmas.{few_items}
use Rattle.iteration_tests.proofs.runs.program_of.Goals as goal

pub returns : goal.returns
returns c = few_items c.args.text.now c.in_ok-tokens.tokens c.parse.result c.in_ok-tokens.ensures c.parse.ensures
