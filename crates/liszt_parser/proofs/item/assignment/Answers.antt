use Rattle.std.proofs.Common.{arith, rules, drop}
use Rattle.liszt_base.specs.declared.answers.Refused.TheVariants.{Fault}
use Rattle.liszt_lexer.specs.declared.token.TokenKind.TheVariants.{Name as NameToken}
use Rattle.liszt_tree.specs.Tree.{expression, item_tree}
use Rattle.liszt_tree.specs.declared.tree.Item.{the_lemmas}
use Rattle.liszt_parser.specs.Internal.Sources.{source_lexemes, source_lexeme}
use Rattle.liszt_parser.specs.Grammar.{how_of}
use Rattle.liszt_parser.specs.Internal.Productions.{main_assignments, main_assignments_tree}
use Rattle.liszt_parser.proofs.Readers.{mapped_read}
use Rattle.liszt_parser.proofs.StatementReaders.{closed_lawful, how_lawful, how_part, how_closed}
use Rattle.liszt_parser.proofs.SourceLemmas.{choice_read, choice_fails}
use Rattle.liszt_parser.proofs.StepLemmas.{leaves, map_fails, part_fails, part_then, part_read, token_part}
use Rattle.liszt_parser.proofs.ItemReaders.{main_assignment_lawful}
use Rattle.liszt_parser.proofs.item.assignment.Goals as goal

pub returns-in_err-word : goal.returns-in_err-word
returns-in_err-word c =
    let ts = source_lexemes c.args.source.now in
    let refused = c.in_err-word.field-0.0 in
    leaves 1 main_assignments item_tree ts c.args.at c.from_residual.result refused c.from_residual.ensures.1
    (map_fails main_assignments_tree main_assignment_lawful ts c.args.at refused
    (part_fails (token_part NameToken) how_closed ts c.args.at refused (c.in_err-word.ensures.outcome)))

pub returns-in_default : goal.returns-in_default
returns-in_default c =
    let s = c.args.source.now in let ts = source_lexemes s in
    let refused = (Fault c.in_ok-word.at) in
    map_fails main_assignments_tree main_assignment_lawful ts c.args.at refused
    (part_then (token_part NameToken) how_closed ts c.args.at c.in_ok-word.at (source_lexeme s c.in_ok-word.word) refused c.in_ok-word.ensures.outcome.2
    (part_fails how_part closed_lawful ts c.in_ok-word.at refused (choice_fails how_of ts (source_lexeme s) c.in_ok-word.at how_lawful c.in_default.ensures c.in_ok-word.ensures.outcome.1)))

pub returns-in_err-value : goal.returns-in_err-value
returns-in_err-value c =
    let s = c.args.source.now in let ts = source_lexemes s in
    let refused = c.in_err-value.field-0.0 in
    leaves 1 main_assignments item_tree ts c.args.at c.from_residual-in_err-value.result refused c.from_residual-in_err-value.ensures.1
    (map_fails main_assignments_tree main_assignment_lawful ts c.args.at refused
    (part_then (token_part NameToken) how_closed ts c.args.at c.in_ok-word.at (source_lexeme s c.in_ok-word.word) refused c.in_ok-word.ensures.outcome.2
    (part_then how_part closed_lawful ts c.in_ok-word.at c.in-Some.at (source_lexeme s c.in-Some.field-0-0-0, c.in-Some.how) refused (choice_read how_of ts (source_lexeme s) c.in_ok-word.at ((c.in-Some.field-0-0-0, c.in-Some.how), c.in-Some.at) c.in-Some.ensures)
    (c.in_err-value.ensures))))

pub returns : goal.returns
returns c =
    let s = c.args.source.now in
    let ts = source_lexemes s in (
      omega (arith, c.in_ok-word.ensures.outcome.0, c.in-Some.ensures.1, c.in_ok-value.ensures.0),
      c.in_ok-value.ensures.1,
      mapped_read main_assignments_tree (drop c.args.at ts) (drop c.in_ok-value.at ts) ((source_lexeme s c.in_ok-word.word), ((source_lexeme s c.in-Some.field-0-0-0, c.in-Some.how), (expression c.in_ok-value.value))) _ (search (rules, the_lemmas))
          (part_read (token_part NameToken) how_closed (drop c.args.at ts) (drop c.in_ok-word.at ts) (drop c.in_ok-value.at ts) (source_lexeme s c.in_ok-word.word) ((source_lexeme s c.in-Some.field-0-0-0, c.in-Some.how), (expression c.in_ok-value.value)) c.in_ok-word.ensures.outcome.2
          (part_read how_part closed_lawful (drop c.in_ok-word.at ts) (drop c.in-Some.at ts) (drop c.in_ok-value.at ts) (source_lexeme s c.in-Some.field-0-0-0, c.in-Some.how) (expression c.in_ok-value.value) (choice_read how_of ts (source_lexeme s) c.in_ok-word.at ((c.in-Some.field-0-0-0, c.in-Some.how), c.in-Some.at) c.in-Some.ensures)
          c.in_ok-value.ensures.2)),
    )
