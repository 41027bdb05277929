use Rattle.liszt.proofs.StepLemmas.{program_read, few_items}
use Rattle.liszt.proofs.inputs.read_program.Goals as goal

pub returns-clause-reads : goal.returns-clause-reads
returns-clause-reads c = program_read c.args.text.now c.in_ok-tokens.tokens c.parse.result c.in_ok-tokens.ensures c.parse.ensures

pub returns-clause-few : goal.returns-clause-few
returns-clause-few c =
    few_items c.args.text.now c.parse.result (program_read c.args.text.now c.in_ok-tokens.tokens c.parse.result c.in_ok-tokens.ensures c.parse.ensures)
