use Rattle.program_tests.proofs.ReadingLemmas.{few_items}
use Rattle.program_tests.proofs.reading.read_program.Goals as goal

pub returns : goal.returns
returns c = few_items c.args.text.now c.in_ok-tokens.tokens c.parse.result c.in_ok-tokens.ensures c.parse.ensures
