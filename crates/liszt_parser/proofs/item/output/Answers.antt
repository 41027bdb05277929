use Rattle.std.proofs.Common.{arith, rules, drop}
use Rattle.liszt_tree.specs.Tree.{expression, item_tree}
use Rattle.liszt_tree.specs.declared.tree.Item.{the_lemmas}
use Rattle.liszt_parser.specs.Internal.Sources.{source_lexemes, source_lexeme}
use Rattle.liszt_parser.specs.Grammar.{print_word}
use Rattle.liszt_parser.specs.Internal.Productions.{prints, prints_tree}
use Rattle.liszt_parser.proofs.Readers.{mapped_read}
use Rattle.liszt_parser.proofs.StatementReaders.{closed_lawful}
use Rattle.liszt_parser.proofs.StepLemmas.{leaves, map_fails, part_fails, part_then, part_read, token_part}
use Rattle.liszt_parser.proofs.ItemReaders.{print_lawful}
use Rattle.liszt_parser.proofs.item.output.Goals as goal

pub returns-in_err-word : goal.returns-in_err-word
returns-in_err-word c =
    let ts = source_lexemes c.args.source.now in
    let refused = c.in_err-word.field-0.0 in
    leaves 1 prints item_tree ts c.args.at c.from_residual.result refused c.from_residual.ensures.1
    (map_fails prints_tree print_lawful ts c.args.at refused
    (part_fails (token_part print_word) closed_lawful ts c.args.at refused (c.in_err-word.ensures.outcome)))

pub returns-in_err-value : goal.returns-in_err-value
returns-in_err-value c =
    let s = c.args.source.now in let ts = source_lexemes s in
    let refused = c.in_err-value.field-0.0 in
    leaves 1 prints item_tree ts c.args.at c.from_residual-in_err-value.result refused c.from_residual-in_err-value.ensures.1
    (map_fails prints_tree print_lawful ts c.args.at refused
    (part_then (token_part print_word) closed_lawful ts c.args.at c.in_ok-word.at (source_lexeme s c.in_ok-word.word) refused c.in_ok-word.ensures.outcome.2
    (c.in_err-value.ensures)))

pub returns : goal.returns
returns c =
    let s = c.args.source.now in
    let ts = source_lexemes s in (
      omega (arith, c.in_ok-word.ensures.outcome.0, c.in_ok-value.ensures.0),
      c.in_ok-value.ensures.1,
      mapped_read prints_tree (drop c.args.at ts) (drop c.in_ok-value.at ts) ((source_lexeme s c.in_ok-word.word), (expression c.in_ok-value.value)) _ (search (rules, the_lemmas))
          (part_read (token_part print_word) closed_lawful (drop c.args.at ts) (drop c.in_ok-word.at ts) (drop c.in_ok-value.at ts) (source_lexeme s c.in_ok-word.word) (expression c.in_ok-value.value) c.in_ok-word.ensures.outcome.2
          c.in_ok-value.ensures.2),
    )
