use Rattle.std.proofs.Common.{arith, rules, drop}
use Rattle.liszt_base.specs.declared.answers.Refused.TheVariants.{Fault}
use Rattle.liszt_lexer.specs.declared.token.TokenKind.TheVariants.{Name as NameToken}
use Rattle.liszt_tree.specs.Tree.{expression, item_tree}
use Rattle.liszt_tree.specs.declared.tree.Item.{the_lemmas}
use Rattle.liszt_parser.specs.Internal.Sources.{source_lexemes, source_lexeme}
use Rattle.liszt_parser.specs.Grammar.{kind_of, colon, set_to, field_word}
use Rattle.liszt_parser.specs.Internal.Productions.{fields, fields_tree}
use Rattle.liszt_parser.proofs.Readers.{mapped_read}
use Rattle.liszt_parser.proofs.StatementReaders.{closed_lawful, set_closed}
use Rattle.liszt_parser.proofs.SourceLemmas.{choice_read, choice_fails}
use Rattle.liszt_parser.proofs.StepLemmas.{leaves, map_fails, part_fails, part_then, part_read, token_part}
use Rattle.liszt_parser.proofs.ItemReaders.{kind_lawful, kind_part, kind_set, colon_kind, name_colon, field_lawful}
use Rattle.liszt_parser.proofs.item.field.Goals as goal

pub returns-in_err-word : goal.returns-in_err-word
returns-in_err-word c =
    let ts = source_lexemes c.args.source.now in
    let refused = c.in_err-word.field-0.0 in
    leaves 1 fields item_tree ts c.args.at c.from_residual.result refused c.from_residual.ensures.1
    (map_fails fields_tree field_lawful ts c.args.at refused
    (part_fails (token_part field_word) name_colon ts c.args.at refused (c.in_err-word.ensures.outcome)))

pub returns-in_err-name : goal.returns-in_err-name
returns-in_err-name c =
    let s = c.args.source.now in let ts = source_lexemes s in
    let refused = c.in_err-name.field-0.0 in
    leaves 1 fields item_tree ts c.args.at c.from_residual-in_err-name.result refused c.from_residual-in_err-name.ensures.1
    (map_fails fields_tree field_lawful ts c.args.at refused
    (part_then (token_part field_word) name_colon ts c.args.at c.in_ok-word.at (source_lexeme s c.in_ok-word.word) refused c.in_ok-word.ensures.outcome.2
    (part_fails (token_part NameToken) colon_kind ts c.in_ok-word.at refused (c.in_err-name.ensures.outcome))))

pub returns-in_err-at : goal.returns-in_err-at
returns-in_err-at c =
    let s = c.args.source.now in let ts = source_lexemes s in
    let refused = c.in_err-at.field-0.0 in
    leaves 1 fields item_tree ts c.args.at c.from_residual-in_err-at.result refused c.from_residual-in_err-at.ensures.1
    (map_fails fields_tree field_lawful ts c.args.at refused
    (part_then (token_part field_word) name_colon ts c.args.at c.in_ok-word.at (source_lexeme s c.in_ok-word.word) refused c.in_ok-word.ensures.outcome.2
    (part_then (token_part NameToken) colon_kind ts c.in_ok-word.at c.in_ok-name.at (source_lexeme s c.in_ok-name.name) refused c.in_ok-name.ensures.outcome.2
    (part_fails (token_part colon) kind_set ts c.in_ok-name.at refused (c.in_err-at.ensures.outcome)))))

pub returns-in_default : goal.returns-in_default
returns-in_default c =
    let s = c.args.source.now in let ts = source_lexemes s in
    let refused = (Fault c.in_ok-at.at) in
    map_fails fields_tree field_lawful ts c.args.at refused
    (part_then (token_part field_word) name_colon ts c.args.at c.in_ok-word.at (source_lexeme s c.in_ok-word.word) refused c.in_ok-word.ensures.outcome.2
    (part_then (token_part NameToken) colon_kind ts c.in_ok-word.at c.in_ok-name.at (source_lexeme s c.in_ok-name.name) refused c.in_ok-name.ensures.outcome.2
    (part_then (token_part colon) kind_set ts c.in_ok-name.at c.in_ok-at.at (source_lexeme s c.in_ok-at.field-0-0) refused c.in_ok-at.ensures.outcome.2
    (part_fails kind_part set_closed ts c.in_ok-at.at refused (choice_fails kind_of ts (source_lexeme s) c.in_ok-at.at kind_lawful c.in_default.ensures c.in_ok-at.ensures.outcome.1)))))

pub returns-in_err-at-2 : goal.returns-in_err-at-2
returns-in_err-at-2 c =
    let s = c.args.source.now in let ts = source_lexemes s in
    let refused = c.in_err-at-2.field-0.0 in
    leaves 1 fields item_tree ts c.args.at c.from_residual-in_err-at-2.result refused c.from_residual-in_err-at-2.ensures.1
    (map_fails fields_tree field_lawful ts c.args.at refused
    (part_then (token_part field_word) name_colon ts c.args.at c.in_ok-word.at (source_lexeme s c.in_ok-word.word) refused c.in_ok-word.ensures.outcome.2
    (part_then (token_part NameToken) colon_kind ts c.in_ok-word.at c.in_ok-name.at (source_lexeme s c.in_ok-name.name) refused c.in_ok-name.ensures.outcome.2
    (part_then (token_part colon) kind_set ts c.in_ok-name.at c.in_ok-at.at (source_lexeme s c.in_ok-at.field-0-0) refused c.in_ok-at.ensures.outcome.2
    (part_then kind_part set_closed ts c.in_ok-at.at c.in-Some.at (source_lexeme s c.in-Some.field-0-0-0, c.in-Some.kind) refused (choice_read kind_of ts (source_lexeme s) c.in_ok-at.at ((c.in-Some.field-0-0-0, c.in-Some.kind), c.in-Some.at) c.in-Some.ensures)
    (part_fails (token_part set_to) closed_lawful ts c.in-Some.at refused (c.in_err-at-2.ensures.outcome)))))))

pub returns-in_err-init : goal.returns-in_err-init
returns-in_err-init c =
    let s = c.args.source.now in let ts = source_lexemes s in
    let refused = c.in_err-init.field-0.0 in
    leaves 1 fields item_tree ts c.args.at c.from_residual-in_err-init.result refused c.from_residual-in_err-init.ensures.1
    (map_fails fields_tree field_lawful ts c.args.at refused
    (part_then (token_part field_word) name_colon ts c.args.at c.in_ok-word.at (source_lexeme s c.in_ok-word.word) refused c.in_ok-word.ensures.outcome.2
    (part_then (token_part NameToken) colon_kind ts c.in_ok-word.at c.in_ok-name.at (source_lexeme s c.in_ok-name.name) refused c.in_ok-name.ensures.outcome.2
    (part_then (token_part colon) kind_set ts c.in_ok-name.at c.in_ok-at.at (source_lexeme s c.in_ok-at.field-0-0) refused c.in_ok-at.ensures.outcome.2
    (part_then kind_part set_closed ts c.in_ok-at.at c.in-Some.at (source_lexeme s c.in-Some.field-0-0-0, c.in-Some.kind) refused (choice_read kind_of ts (source_lexeme s) c.in_ok-at.at ((c.in-Some.field-0-0-0, c.in-Some.kind), c.in-Some.at) c.in-Some.ensures)
    (part_then (token_part set_to) closed_lawful ts c.in-Some.at c.in_ok-at-2.at (source_lexeme s c.in_ok-at-2.field-0-0) refused c.in_ok-at-2.ensures.outcome.2
    (c.in_err-init.ensures)))))))

pub returns : goal.returns
returns c =
    let s = c.args.source.now in
    let ts = source_lexemes s in (
      omega (arith, c.in_ok-word.ensures.outcome.0, c.in_ok-name.ensures.outcome.0, c.in_ok-at.ensures.outcome.0, c.in-Some.ensures.1, c.in_ok-at-2.ensures.outcome.0, c.in_ok-init.ensures.0),
      c.in_ok-init.ensures.1,
      mapped_read fields_tree (drop c.args.at ts) (drop c.in_ok-init.end ts) ((source_lexeme s c.in_ok-word.word), ((source_lexeme s c.in_ok-name.name), ((source_lexeme s c.in_ok-at.field-0-0), ((source_lexeme s c.in-Some.field-0-0-0, c.in-Some.kind), ((source_lexeme s c.in_ok-at-2.field-0-0), (expression c.in_ok-init.init)))))) _ (search (rules, the_lemmas))
          (part_read (token_part field_word) name_colon (drop c.args.at ts) (drop c.in_ok-word.at ts) (drop c.in_ok-init.end ts) (source_lexeme s c.in_ok-word.word) ((source_lexeme s c.in_ok-name.name), ((source_lexeme s c.in_ok-at.field-0-0), ((source_lexeme s c.in-Some.field-0-0-0, c.in-Some.kind), ((source_lexeme s c.in_ok-at-2.field-0-0), (expression c.in_ok-init.init))))) c.in_ok-word.ensures.outcome.2
          (part_read (token_part NameToken) colon_kind (drop c.in_ok-word.at ts) (drop c.in_ok-name.at ts) (drop c.in_ok-init.end ts) (source_lexeme s c.in_ok-name.name) ((source_lexeme s c.in_ok-at.field-0-0), ((source_lexeme s c.in-Some.field-0-0-0, c.in-Some.kind), ((source_lexeme s c.in_ok-at-2.field-0-0), (expression c.in_ok-init.init)))) c.in_ok-name.ensures.outcome.2
          (part_read (token_part colon) kind_set (drop c.in_ok-name.at ts) (drop c.in_ok-at.at ts) (drop c.in_ok-init.end ts) (source_lexeme s c.in_ok-at.field-0-0) ((source_lexeme s c.in-Some.field-0-0-0, c.in-Some.kind), ((source_lexeme s c.in_ok-at-2.field-0-0), (expression c.in_ok-init.init))) c.in_ok-at.ensures.outcome.2
          (part_read kind_part set_closed (drop c.in_ok-at.at ts) (drop c.in-Some.at ts) (drop c.in_ok-init.end ts) (source_lexeme s c.in-Some.field-0-0-0, c.in-Some.kind) ((source_lexeme s c.in_ok-at-2.field-0-0), (expression c.in_ok-init.init)) (choice_read kind_of ts (source_lexeme s) c.in_ok-at.at ((c.in-Some.field-0-0-0, c.in-Some.kind), c.in-Some.at) c.in-Some.ensures)
          (part_read (token_part set_to) closed_lawful (drop c.in-Some.at ts) (drop c.in_ok-at-2.at ts) (drop c.in_ok-init.end ts) (source_lexeme s c.in_ok-at-2.field-0-0) (expression c.in_ok-init.init) c.in_ok-at-2.ensures.outcome.2
          c.in_ok-init.ensures.2))))),
    )
