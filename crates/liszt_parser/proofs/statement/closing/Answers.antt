use Rattle.std.proofs.Common.{◌+◌, arith, rules, drop}
use Rattle.liszt_parser.specs.Internal.Sources.{source_lexemes, source_lexeme}
use Rattle.liszt_parser.proofs.ClosingLemmas.{semicolon_read, end_read, brace_ends, nothing_ends, nothing_closes}
use Rattle.liszt_parser.proofs.statement.closing.Goals as goal

pub returns-in-None : goal.returns-in-None
returns-in-None c =
    let ts = source_lexemes c.args.source.now in
    (omega arith, c.requires, end_read (drop c.args.at ts) (nothing_ends (drop c.args.at ts) c.in-None.ensures))

pub returns-in-Some : goal.returns-in-Some
returns-in-Some c =
    let s = c.args.source.now in
    let ts = source_lexemes s in (
      omega arith,
      c.in-Some.ensures.1,
      semicolon_read (source_lexeme s c.in-Some.token) (drop c.args.at ts) (drop (c.args.at + 1) ts) c.in-Some.ensures.0 (search rules),
    )

pub returns-in-Some-2 : goal.returns-in-Some-2
returns-in-Some-2 c =
    let s = c.args.source.now in
    let ts = source_lexemes s in (
      omega arith,
      c.requires,
      end_read (drop c.args.at ts)
          (brace_ends (source_lexeme s c.in-Some-2.token) (drop c.args.at ts) (drop (c.args.at + 1) ts) c.in-Some-2.ensures.0 (search rules)),
    )

pub returns-in-Some-3 : goal.returns-in-Some-3
returns-in-Some-3 c =
    let s = c.args.source.now in
    let ts = source_lexemes s in (
      c.requires,
      nothing_closes (source_lexeme s c.in-Some-3.field-0) (drop c.args.at ts) (drop (c.args.at + 1) ts) c.in-Some-3.ensures.0 (search rules) (search rules),
    )
