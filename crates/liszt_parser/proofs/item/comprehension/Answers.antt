use Rattle.std.proofs.Common.{arith, rules, drop, map}
use Rattle.liszt_base.specs.declared.answers.Refused.TheVariants.{Fault}
use Rattle.liszt_lexer.specs.declared.token.TokenKind.TheVariants.{Name as NameToken}
use Rattle.liszt_tree.specs.Tree.{statement_tree, item_tree, body_of}
use Rattle.liszt_tree.specs.declared.tree.Item.{the_lemmas}
use Rattle.liszt_parser.specs.Internal.Sources.{source_lexemes, source_lexeme}
use Rattle.liszt_parser.specs.Grammar.{mesh_set_of, open_bracket, close_bracket, arrow, for_word, mesh_word}
use Rattle.liszt_parser.specs.Internal.Productions.{comprehensions, comprehensions_tree}
use Rattle.liszt_parser.proofs.Readers.{mapped_read}
use Rattle.liszt_parser.proofs.StatementReaders.{blocks_lawful}
use Rattle.liszt_parser.proofs.SourceLemmas.{choice_read, choice_fails}
use Rattle.liszt_parser.proofs.StepLemmas.{leaves, map_fails, part_fails, part_then, part_read, token_part}
use Rattle.liszt_parser.proofs.ItemReaders.{whole_lawful, whole_part, close_body, close_close, mesh_close, open_mesh, whole_open, arrow_whole, name_arrow as name_arrow_whole, open_name as open_name_arrow, comprehension_lawful}
use Rattle.liszt_parser.proofs.item.comprehension.Goals as goal

pub returns-in_err-word : goal.returns-in_err-word
returns-in_err-word c =
    let ts = source_lexemes c.args.source.now in
    let refused = c.in_err-word.field-0.0 in
    leaves 1 comprehensions item_tree ts c.args.at c.from_residual.result refused c.from_residual.ensures.1
    (map_fails comprehensions_tree comprehension_lawful ts c.args.at refused
    (part_fails (token_part for_word) open_name_arrow ts c.args.at refused (c.in_err-word.ensures.outcome)))

pub returns-in_err-at : goal.returns-in_err-at
returns-in_err-at c =
    let s = c.args.source.now in let ts = source_lexemes s in
    let refused = c.in_err-at.field-0.0 in
    leaves 1 comprehensions item_tree ts c.args.at c.from_residual-in_err-at.result refused c.from_residual-in_err-at.ensures.1
    (map_fails comprehensions_tree comprehension_lawful ts c.args.at refused
    (part_then (token_part for_word) open_name_arrow ts c.args.at c.in_ok-word.at (source_lexeme s c.in_ok-word.word) refused c.in_ok-word.ensures.outcome.2
    (part_fails (token_part open_bracket) name_arrow_whole ts c.in_ok-word.at refused (c.in_err-at.ensures.outcome))))

pub returns-in_err-name : goal.returns-in_err-name
returns-in_err-name c =
    let s = c.args.source.now in let ts = source_lexemes s in
    let refused = c.in_err-name.field-0.0 in
    leaves 1 comprehensions item_tree ts c.args.at c.from_residual-in_err-name.result refused c.from_residual-in_err-name.ensures.1
    (map_fails comprehensions_tree comprehension_lawful ts c.args.at refused
    (part_then (token_part for_word) open_name_arrow ts c.args.at c.in_ok-word.at (source_lexeme s c.in_ok-word.word) refused c.in_ok-word.ensures.outcome.2
    (part_then (token_part open_bracket) name_arrow_whole ts c.in_ok-word.at c.in_ok-at.at (source_lexeme s c.in_ok-at.field-0-0) refused c.in_ok-at.ensures.outcome.2
    (part_fails (token_part NameToken) arrow_whole ts c.in_ok-at.at refused (c.in_err-name.ensures.outcome)))))

pub returns-in_err-at-2 : goal.returns-in_err-at-2
returns-in_err-at-2 c =
    let s = c.args.source.now in let ts = source_lexemes s in
    let refused = c.in_err-at-2.field-0.0 in
    leaves 1 comprehensions item_tree ts c.args.at c.from_residual-in_err-at-2.result refused c.from_residual-in_err-at-2.ensures.1
    (map_fails comprehensions_tree comprehension_lawful ts c.args.at refused
    (part_then (token_part for_word) open_name_arrow ts c.args.at c.in_ok-word.at (source_lexeme s c.in_ok-word.word) refused c.in_ok-word.ensures.outcome.2
    (part_then (token_part open_bracket) name_arrow_whole ts c.in_ok-word.at c.in_ok-at.at (source_lexeme s c.in_ok-at.field-0-0) refused c.in_ok-at.ensures.outcome.2
    (part_then (token_part NameToken) arrow_whole ts c.in_ok-at.at c.in_ok-name.at (source_lexeme s c.in_ok-name.name) refused c.in_ok-name.ensures.outcome.2
    (part_fails (token_part arrow) whole_open ts c.in_ok-name.at refused (c.in_err-at-2.ensures.outcome))))))

pub returns-in_default : goal.returns-in_default
returns-in_default c =
    let s = c.args.source.now in let ts = source_lexemes s in
    let refused = (Fault c.in_ok-at-2.at) in
    map_fails comprehensions_tree comprehension_lawful ts c.args.at refused
    (part_then (token_part for_word) open_name_arrow ts c.args.at c.in_ok-word.at (source_lexeme s c.in_ok-word.word) refused c.in_ok-word.ensures.outcome.2
    (part_then (token_part open_bracket) name_arrow_whole ts c.in_ok-word.at c.in_ok-at.at (source_lexeme s c.in_ok-at.field-0-0) refused c.in_ok-at.ensures.outcome.2
    (part_then (token_part NameToken) arrow_whole ts c.in_ok-at.at c.in_ok-name.at (source_lexeme s c.in_ok-name.name) refused c.in_ok-name.ensures.outcome.2
    (part_then (token_part arrow) whole_open ts c.in_ok-name.at c.in_ok-at-2.at (source_lexeme s c.in_ok-at-2.field-0-0) refused c.in_ok-at-2.ensures.outcome.2
    (part_fails whole_part open_mesh ts c.in_ok-at-2.at refused (choice_fails mesh_set_of ts (source_lexeme s) c.in_ok-at-2.at whole_lawful c.in_default.ensures c.in_ok-at-2.ensures.outcome.1))))))

pub returns-in_err-at-3 : goal.returns-in_err-at-3
returns-in_err-at-3 c =
    let s = c.args.source.now in let ts = source_lexemes s in
    let refused = c.in_err-at-3.field-0.0 in
    leaves 1 comprehensions item_tree ts c.args.at c.from_residual-in_err-at-3.result refused c.from_residual-in_err-at-3.ensures.1
    (map_fails comprehensions_tree comprehension_lawful ts c.args.at refused
    (part_then (token_part for_word) open_name_arrow ts c.args.at c.in_ok-word.at (source_lexeme s c.in_ok-word.word) refused c.in_ok-word.ensures.outcome.2
    (part_then (token_part open_bracket) name_arrow_whole ts c.in_ok-word.at c.in_ok-at.at (source_lexeme s c.in_ok-at.field-0-0) refused c.in_ok-at.ensures.outcome.2
    (part_then (token_part NameToken) arrow_whole ts c.in_ok-at.at c.in_ok-name.at (source_lexeme s c.in_ok-name.name) refused c.in_ok-name.ensures.outcome.2
    (part_then (token_part arrow) whole_open ts c.in_ok-name.at c.in_ok-at-2.at (source_lexeme s c.in_ok-at-2.field-0-0) refused c.in_ok-at-2.ensures.outcome.2
    (part_then whole_part open_mesh ts c.in_ok-at-2.at c.in-Some.at (source_lexeme s c.in-Some.field-0-0-0, c.in-Some.over) refused (choice_read mesh_set_of ts (source_lexeme s) c.in_ok-at-2.at ((c.in-Some.field-0-0-0, c.in-Some.over), c.in-Some.at) c.in-Some.ensures)
    (part_fails (token_part open_bracket) mesh_close ts c.in-Some.at refused (c.in_err-at-3.ensures.outcome))))))))

pub returns-in_err-at-4 : goal.returns-in_err-at-4
returns-in_err-at-4 c =
    let s = c.args.source.now in let ts = source_lexemes s in
    let refused = c.in_err-at-4.field-0.0 in
    leaves 1 comprehensions item_tree ts c.args.at c.from_residual-in_err-at-4.result refused c.from_residual-in_err-at-4.ensures.1
    (map_fails comprehensions_tree comprehension_lawful ts c.args.at refused
    (part_then (token_part for_word) open_name_arrow ts c.args.at c.in_ok-word.at (source_lexeme s c.in_ok-word.word) refused c.in_ok-word.ensures.outcome.2
    (part_then (token_part open_bracket) name_arrow_whole ts c.in_ok-word.at c.in_ok-at.at (source_lexeme s c.in_ok-at.field-0-0) refused c.in_ok-at.ensures.outcome.2
    (part_then (token_part NameToken) arrow_whole ts c.in_ok-at.at c.in_ok-name.at (source_lexeme s c.in_ok-name.name) refused c.in_ok-name.ensures.outcome.2
    (part_then (token_part arrow) whole_open ts c.in_ok-name.at c.in_ok-at-2.at (source_lexeme s c.in_ok-at-2.field-0-0) refused c.in_ok-at-2.ensures.outcome.2
    (part_then whole_part open_mesh ts c.in_ok-at-2.at c.in-Some.at (source_lexeme s c.in-Some.field-0-0-0, c.in-Some.over) refused (choice_read mesh_set_of ts (source_lexeme s) c.in_ok-at-2.at ((c.in-Some.field-0-0-0, c.in-Some.over), c.in-Some.at) c.in-Some.ensures)
    (part_then (token_part open_bracket) mesh_close ts c.in-Some.at c.in_ok-at-3.at (source_lexeme s c.in_ok-at-3.field-0-0) refused c.in_ok-at-3.ensures.outcome.2
    (part_fails (token_part mesh_word) close_close ts c.in_ok-at-3.at refused (c.in_err-at-4.ensures.outcome)))))))))

pub returns-in_err-at-5 : goal.returns-in_err-at-5
returns-in_err-at-5 c =
    let s = c.args.source.now in let ts = source_lexemes s in
    let refused = c.in_err-at-5.field-0.0 in
    leaves 1 comprehensions item_tree ts c.args.at c.from_residual-in_err-at-5.result refused c.from_residual-in_err-at-5.ensures.1
    (map_fails comprehensions_tree comprehension_lawful ts c.args.at refused
    (part_then (token_part for_word) open_name_arrow ts c.args.at c.in_ok-word.at (source_lexeme s c.in_ok-word.word) refused c.in_ok-word.ensures.outcome.2
    (part_then (token_part open_bracket) name_arrow_whole ts c.in_ok-word.at c.in_ok-at.at (source_lexeme s c.in_ok-at.field-0-0) refused c.in_ok-at.ensures.outcome.2
    (part_then (token_part NameToken) arrow_whole ts c.in_ok-at.at c.in_ok-name.at (source_lexeme s c.in_ok-name.name) refused c.in_ok-name.ensures.outcome.2
    (part_then (token_part arrow) whole_open ts c.in_ok-name.at c.in_ok-at-2.at (source_lexeme s c.in_ok-at-2.field-0-0) refused c.in_ok-at-2.ensures.outcome.2
    (part_then whole_part open_mesh ts c.in_ok-at-2.at c.in-Some.at (source_lexeme s c.in-Some.field-0-0-0, c.in-Some.over) refused (choice_read mesh_set_of ts (source_lexeme s) c.in_ok-at-2.at ((c.in-Some.field-0-0-0, c.in-Some.over), c.in-Some.at) c.in-Some.ensures)
    (part_then (token_part open_bracket) mesh_close ts c.in-Some.at c.in_ok-at-3.at (source_lexeme s c.in_ok-at-3.field-0-0) refused c.in_ok-at-3.ensures.outcome.2
    (part_then (token_part mesh_word) close_close ts c.in_ok-at-3.at c.in_ok-at-4.at (source_lexeme s c.in_ok-at-4.field-0-0) refused c.in_ok-at-4.ensures.outcome.2
    (part_fails (token_part close_bracket) close_body ts c.in_ok-at-4.at refused (c.in_err-at-5.ensures.outcome))))))))))

pub returns-in_err-at-6 : goal.returns-in_err-at-6
returns-in_err-at-6 c =
    let s = c.args.source.now in let ts = source_lexemes s in
    let refused = c.in_err-at-6.field-0.0 in
    leaves 1 comprehensions item_tree ts c.args.at c.from_residual-in_err-at-6.result refused c.from_residual-in_err-at-6.ensures.1
    (map_fails comprehensions_tree comprehension_lawful ts c.args.at refused
    (part_then (token_part for_word) open_name_arrow ts c.args.at c.in_ok-word.at (source_lexeme s c.in_ok-word.word) refused c.in_ok-word.ensures.outcome.2
    (part_then (token_part open_bracket) name_arrow_whole ts c.in_ok-word.at c.in_ok-at.at (source_lexeme s c.in_ok-at.field-0-0) refused c.in_ok-at.ensures.outcome.2
    (part_then (token_part NameToken) arrow_whole ts c.in_ok-at.at c.in_ok-name.at (source_lexeme s c.in_ok-name.name) refused c.in_ok-name.ensures.outcome.2
    (part_then (token_part arrow) whole_open ts c.in_ok-name.at c.in_ok-at-2.at (source_lexeme s c.in_ok-at-2.field-0-0) refused c.in_ok-at-2.ensures.outcome.2
    (part_then whole_part open_mesh ts c.in_ok-at-2.at c.in-Some.at (source_lexeme s c.in-Some.field-0-0-0, c.in-Some.over) refused (choice_read mesh_set_of ts (source_lexeme s) c.in_ok-at-2.at ((c.in-Some.field-0-0-0, c.in-Some.over), c.in-Some.at) c.in-Some.ensures)
    (part_then (token_part open_bracket) mesh_close ts c.in-Some.at c.in_ok-at-3.at (source_lexeme s c.in_ok-at-3.field-0-0) refused c.in_ok-at-3.ensures.outcome.2
    (part_then (token_part mesh_word) close_close ts c.in_ok-at-3.at c.in_ok-at-4.at (source_lexeme s c.in_ok-at-4.field-0-0) refused c.in_ok-at-4.ensures.outcome.2
    (part_then (token_part close_bracket) close_body ts c.in_ok-at-4.at c.in_ok-at-5.at (source_lexeme s c.in_ok-at-5.field-0-0) refused c.in_ok-at-5.ensures.outcome.2
    (part_fails (token_part close_bracket) blocks_lawful ts c.in_ok-at-5.at refused (c.in_err-at-6.ensures.outcome)))))))))))

pub returns-in_err-body : goal.returns-in_err-body
returns-in_err-body c =
    let s = c.args.source.now in let ts = source_lexemes s in
    let refused = c.in_err-body.field-0.0 in
    leaves 1 comprehensions item_tree ts c.args.at c.from_residual-in_err-body.result refused c.from_residual-in_err-body.ensures.1
    (map_fails comprehensions_tree comprehension_lawful ts c.args.at refused
    (part_then (token_part for_word) open_name_arrow ts c.args.at c.in_ok-word.at (source_lexeme s c.in_ok-word.word) refused c.in_ok-word.ensures.outcome.2
    (part_then (token_part open_bracket) name_arrow_whole ts c.in_ok-word.at c.in_ok-at.at (source_lexeme s c.in_ok-at.field-0-0) refused c.in_ok-at.ensures.outcome.2
    (part_then (token_part NameToken) arrow_whole ts c.in_ok-at.at c.in_ok-name.at (source_lexeme s c.in_ok-name.name) refused c.in_ok-name.ensures.outcome.2
    (part_then (token_part arrow) whole_open ts c.in_ok-name.at c.in_ok-at-2.at (source_lexeme s c.in_ok-at-2.field-0-0) refused c.in_ok-at-2.ensures.outcome.2
    (part_then whole_part open_mesh ts c.in_ok-at-2.at c.in-Some.at (source_lexeme s c.in-Some.field-0-0-0, c.in-Some.over) refused (choice_read mesh_set_of ts (source_lexeme s) c.in_ok-at-2.at ((c.in-Some.field-0-0-0, c.in-Some.over), c.in-Some.at) c.in-Some.ensures)
    (part_then (token_part open_bracket) mesh_close ts c.in-Some.at c.in_ok-at-3.at (source_lexeme s c.in_ok-at-3.field-0-0) refused c.in_ok-at-3.ensures.outcome.2
    (part_then (token_part mesh_word) close_close ts c.in_ok-at-3.at c.in_ok-at-4.at (source_lexeme s c.in_ok-at-4.field-0-0) refused c.in_ok-at-4.ensures.outcome.2
    (part_then (token_part close_bracket) close_body ts c.in_ok-at-4.at c.in_ok-at-5.at (source_lexeme s c.in_ok-at-5.field-0-0) refused c.in_ok-at-5.ensures.outcome.2
    (part_then (token_part close_bracket) blocks_lawful ts c.in_ok-at-5.at c.in_ok-at-6.at (source_lexeme s c.in_ok-at-6.field-0-0) refused c.in_ok-at-6.ensures.outcome.2
    (c.in_err-body.ensures)))))))))))

pub returns : goal.returns
returns c =
    let s = c.args.source.now in
    let ts = source_lexemes s in (
      omega (arith, c.in_ok-word.ensures.outcome.0, c.in_ok-at.ensures.outcome.0, c.in_ok-name.ensures.outcome.0, c.in_ok-at-2.ensures.outcome.0, c.in-Some.ensures.1, c.in_ok-at-3.ensures.outcome.0, c.in_ok-at-4.ensures.outcome.0, c.in_ok-at-5.ensures.outcome.0, c.in_ok-at-6.ensures.outcome.0, c.in_ok-body.ensures.0),
      c.in_ok-body.ensures.1,
      mapped_read comprehensions_tree (drop c.args.at ts) (drop c.in_ok-body.end ts) ((source_lexeme s c.in_ok-word.word), ((source_lexeme s c.in_ok-at.field-0-0), ((source_lexeme s c.in_ok-name.name), ((source_lexeme s c.in_ok-at-2.field-0-0), ((source_lexeme s c.in-Some.field-0-0-0, c.in-Some.over), ((source_lexeme s c.in_ok-at-3.field-0-0), ((source_lexeme s c.in_ok-at-4.field-0-0), ((source_lexeme s c.in_ok-at-5.field-0-0), ((source_lexeme s c.in_ok-at-6.field-0-0), (body_of (map statement_tree c.in_ok-body.body))))))))))) _ (search (rules, the_lemmas))
          (part_read (token_part for_word) open_name_arrow (drop c.args.at ts) (drop c.in_ok-word.at ts) (drop c.in_ok-body.end ts) (source_lexeme s c.in_ok-word.word) ((source_lexeme s c.in_ok-at.field-0-0), ((source_lexeme s c.in_ok-name.name), ((source_lexeme s c.in_ok-at-2.field-0-0), ((source_lexeme s c.in-Some.field-0-0-0, c.in-Some.over), ((source_lexeme s c.in_ok-at-3.field-0-0), ((source_lexeme s c.in_ok-at-4.field-0-0), ((source_lexeme s c.in_ok-at-5.field-0-0), ((source_lexeme s c.in_ok-at-6.field-0-0), (body_of (map statement_tree c.in_ok-body.body)))))))))) c.in_ok-word.ensures.outcome.2
          (part_read (token_part open_bracket) name_arrow_whole (drop c.in_ok-word.at ts) (drop c.in_ok-at.at ts) (drop c.in_ok-body.end ts) (source_lexeme s c.in_ok-at.field-0-0) ((source_lexeme s c.in_ok-name.name), ((source_lexeme s c.in_ok-at-2.field-0-0), ((source_lexeme s c.in-Some.field-0-0-0, c.in-Some.over), ((source_lexeme s c.in_ok-at-3.field-0-0), ((source_lexeme s c.in_ok-at-4.field-0-0), ((source_lexeme s c.in_ok-at-5.field-0-0), ((source_lexeme s c.in_ok-at-6.field-0-0), (body_of (map statement_tree c.in_ok-body.body))))))))) c.in_ok-at.ensures.outcome.2
          (part_read (token_part NameToken) arrow_whole (drop c.in_ok-at.at ts) (drop c.in_ok-name.at ts) (drop c.in_ok-body.end ts) (source_lexeme s c.in_ok-name.name) ((source_lexeme s c.in_ok-at-2.field-0-0), ((source_lexeme s c.in-Some.field-0-0-0, c.in-Some.over), ((source_lexeme s c.in_ok-at-3.field-0-0), ((source_lexeme s c.in_ok-at-4.field-0-0), ((source_lexeme s c.in_ok-at-5.field-0-0), ((source_lexeme s c.in_ok-at-6.field-0-0), (body_of (map statement_tree c.in_ok-body.body)))))))) c.in_ok-name.ensures.outcome.2
          (part_read (token_part arrow) whole_open (drop c.in_ok-name.at ts) (drop c.in_ok-at-2.at ts) (drop c.in_ok-body.end ts) (source_lexeme s c.in_ok-at-2.field-0-0) ((source_lexeme s c.in-Some.field-0-0-0, c.in-Some.over), ((source_lexeme s c.in_ok-at-3.field-0-0), ((source_lexeme s c.in_ok-at-4.field-0-0), ((source_lexeme s c.in_ok-at-5.field-0-0), ((source_lexeme s c.in_ok-at-6.field-0-0), (body_of (map statement_tree c.in_ok-body.body))))))) c.in_ok-at-2.ensures.outcome.2
          (part_read whole_part open_mesh (drop c.in_ok-at-2.at ts) (drop c.in-Some.at ts) (drop c.in_ok-body.end ts) (source_lexeme s c.in-Some.field-0-0-0, c.in-Some.over) ((source_lexeme s c.in_ok-at-3.field-0-0), ((source_lexeme s c.in_ok-at-4.field-0-0), ((source_lexeme s c.in_ok-at-5.field-0-0), ((source_lexeme s c.in_ok-at-6.field-0-0), (body_of (map statement_tree c.in_ok-body.body)))))) (choice_read mesh_set_of ts (source_lexeme s) c.in_ok-at-2.at ((c.in-Some.field-0-0-0, c.in-Some.over), c.in-Some.at) c.in-Some.ensures)
          (part_read (token_part open_bracket) mesh_close (drop c.in-Some.at ts) (drop c.in_ok-at-3.at ts) (drop c.in_ok-body.end ts) (source_lexeme s c.in_ok-at-3.field-0-0) ((source_lexeme s c.in_ok-at-4.field-0-0), ((source_lexeme s c.in_ok-at-5.field-0-0), ((source_lexeme s c.in_ok-at-6.field-0-0), (body_of (map statement_tree c.in_ok-body.body))))) c.in_ok-at-3.ensures.outcome.2
          (part_read (token_part mesh_word) close_close (drop c.in_ok-at-3.at ts) (drop c.in_ok-at-4.at ts) (drop c.in_ok-body.end ts) (source_lexeme s c.in_ok-at-4.field-0-0) ((source_lexeme s c.in_ok-at-5.field-0-0), ((source_lexeme s c.in_ok-at-6.field-0-0), (body_of (map statement_tree c.in_ok-body.body)))) c.in_ok-at-4.ensures.outcome.2
          (part_read (token_part close_bracket) close_body (drop c.in_ok-at-4.at ts) (drop c.in_ok-at-5.at ts) (drop c.in_ok-body.end ts) (source_lexeme s c.in_ok-at-5.field-0-0) ((source_lexeme s c.in_ok-at-6.field-0-0), (body_of (map statement_tree c.in_ok-body.body))) c.in_ok-at-5.ensures.outcome.2
          (part_read (token_part close_bracket) blocks_lawful (drop c.in_ok-at-5.at ts) (drop c.in_ok-at-6.at ts) (drop c.in_ok-body.end ts) (source_lexeme s c.in_ok-at-6.field-0-0) (body_of (map statement_tree c.in_ok-body.body)) c.in_ok-at-6.ensures.outcome.2
          c.in_ok-body.ensures.2))))))))),
    )
