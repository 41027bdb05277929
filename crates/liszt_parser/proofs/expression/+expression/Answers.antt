use Rattle.std.proofs.Common.{◌≡◌, refl, sym, subst, ◌∙◌, arith, rules, Some, None, [], drop, map}
use Rattle.std.specs.Option.{option_map}
use Rattle.liszt_base.specs.declared.answers.Refused.TheVariants.{Fault}
use Rattle.liszt_lexer.specs.declared.token.TokenKind.TheVariants.{Name as NameToken}
use Rattle.liszt_tree.specs.Tree.{expression, links_of, no_links}
use Rattle.liszt_tree.specs.declared.tree.Expr.{the_lemmas}
use Rattle.liszt_tree.specs.declared.tree.Level.TheVariants.{Sum}
use Rattle.liszt_parser.specs.Internal.Sources.{source_lexemes, source_lexeme}
use Rattle.liszt_parser.specs.Internal.Reading.{IsRead, token_with_value, HeadIs, Is, HasValue, token, ◌then◌}
use Rattle.liszt_parser.specs.Grammar.{lowest_rank, primary_expression, chain, comparison, operand, prefix_expression, open_bracket, close_bracket, comma, minus, bang, towards_word, fun_of, rel_of, sign_of}
use Rattle.liszt_parser.specs.Internal.Productions.{expressions, links, brackets, arguments, seconds, names, names_tree, calls, calls_tree, negations, negations_tree, logical_nots, logical_nots_tree, orientations, orientations_tree, numbers_tree}
use Rattle.liszt_parser.proofs.Readers.{mapped_read, mapped_lawful}
use Rattle.liszt_parser.proofs.TokenReaders.{becomes_fails, token_lawful, fails_by, first_fails, maybe_stuck, maybe_twice, something_read}
use Rattle.liszt_parser.proofs.StrengthLemmas.{primary_stops, no_bracket, prefix_stops, chain_stops, comparison_stops}
use Rattle.liszt_parser.proofs.ExpressionReaders.{expressions_lawful, links_lawful, brackets_lawful, operand_links, chain_becomes, joined_none, joined_some, no_links_read, links_becomes, further_lawful, further_links, further_loose, sign_part}
use Rattle.liszt_parser.proofs.ExpressionProductions.{bracketed_becomes, close_after, comma_after, fun_lawful, arguments_lawful, seconds_lawful, sum_seconds, comparison_becomes, second_lawful, rel_part, negated_becomes, denied_becomes, primary_becomes, names_become, calls_become, brackets_become, numbers_become, towards_become, number_lawful, through}
use Rattle.liszt_parser.proofs.ExpressionSteps.{inner_close, comma_inner, inner_comma, open_inner, orientation_lawful, negated_lawful, denied_lawful, call_lawful, name_lawful, fun_part, rank_fails, rank_then, rank_read}
use Rattle.liszt_parser.proofs.SourceLemmas.{choice_read, choice_fails}
use Rattle.liszt_parser.proofs.StepLemmas.{leaves, map_fails, part_fails, part_then, part_read, token_part, gives, settles, takes}
use Rattle.liszt_parser.proofs.LoopLemmas.{one_more, fails_so_far, links_pushed, links_all}
use Rattle.liszt_parser.proofs.expression.+expression.Goals as goal

pub bracketed_expression-returns-in_err-at : goal.bracketed_expression-returns-in_err-at
bracketed_expression-returns-in_err-at t c =
    let ts = source_lexemes c.args.source.now in let refused = c.in_err-at.field-0.0 in
    leaves 1 brackets expression ts c.args.at c.from_residual.result refused c.from_residual.ensures.1
    (becomes_fails ts c.args.at refused (bracketed_becomes (drop c.args.at ts))
    (part_fails (token_part open_bracket) inner_close ts c.args.at refused c.in_err-at.ensures.outcome))

pub bracketed_expression-returns-in_err-e : goal.bracketed_expression-returns-in_err-e
bracketed_expression-returns-in_err-e t c =
    let s = c.args.source.now in let ts = source_lexemes s in let refused = c.in_err-e.field-0.0 in
    leaves 1 brackets expression ts c.args.at c.from_residual-in_err-e.result refused c.from_residual-in_err-e.ensures.1
    (becomes_fails ts c.args.at refused (bracketed_becomes (drop c.args.at ts))
    (part_then (token_part open_bracket) inner_close ts c.args.at c.in_ok-at.at (source_lexeme s c.in_ok-at.field-0-0) refused c.in_ok-at.ensures.outcome.2
    (rank_fails close_after (token_lawful close_bracket) ts c.in_ok-at.at refused c.in_err-e.ensures)))

pub bracketed_expression-returns-in_err-at-2 : goal.bracketed_expression-returns-in_err-at-2
bracketed_expression-returns-in_err-at-2 t c =
    let s = c.args.source.now in let ts = source_lexemes s in let refused = c.in_err-at-2.field-0.0 in
    leaves 1 brackets expression ts c.args.at c.from_residual-in_err-at-2.result refused c.from_residual-in_err-at-2.ensures.1
    (becomes_fails ts c.args.at refused (bracketed_becomes (drop c.args.at ts))
    (part_then (token_part open_bracket) inner_close ts c.args.at c.in_ok-at.at (source_lexeme s c.in_ok-at.field-0-0) refused c.in_ok-at.ensures.outcome.2
    (rank_then close_after ts c.in_ok-at.at c.in_ok-e.at (expression c.in_ok-e.e) refused c.in_ok-e.ensures.2
    c.in_err-at-2.ensures.outcome)))

pub bracketed_expression-returns : goal.bracketed_expression-returns
bracketed_expression-returns t c =
    let s = c.args.source.now in
    let ts = source_lexemes s in (
      omega (arith, c.in_ok-at.ensures.outcome.0, c.in_ok-e.ensures.0, c.in_ok-at-2.ensures.outcome.0),
      c.in_ok-at-2.ensures.outcome.1,
      gives (expression c.in_ok-e.e) (drop c.args.at ts) (drop c.in_ok-at-2.at ts) ((source_lexeme s c.in_ok-at.field-0-0), ((expression c.in_ok-e.e), (source_lexeme s c.in_ok-at-2.field-0-0))) refl (bracketed_becomes (drop c.args.at ts)) tt
          (part_read (token_part open_bracket) inner_close (drop c.args.at ts) (drop c.in_ok-at.at ts) (drop c.in_ok-at-2.at ts) (source_lexeme s c.in_ok-at.field-0-0) ((expression c.in_ok-e.e), (source_lexeme s c.in_ok-at-2.field-0-0)) c.in_ok-at.ensures.outcome.2
          (rank_read close_after (token_lawful close_bracket) (drop c.in_ok-at.at ts) (drop c.in_ok-e.at ts) (drop c.in_ok-at-2.at ts) (expression c.in_ok-e.e) (source_lexeme s c.in_ok-at-2.field-0-0) c.in_ok-e.ensures.2
          c.in_ok-at-2.ensures.outcome.2)),
    )

pub towards-returns-in_err-word : goal.towards-returns-in_err-word
towards-returns-in_err-word t c =
    let ts = source_lexemes c.args.source.now in let refused = c.in_err-word.field-0.0 in
    leaves 1 orientations expression ts c.args.at c.from_residual.result refused c.from_residual.ensures.1
    (map_fails orientations_tree orientation_lawful ts c.args.at refused
    (part_fails (token_part towards_word) open_inner ts c.args.at refused c.in_err-word.ensures.outcome))

pub towards-returns-in_err-at : goal.towards-returns-in_err-at
towards-returns-in_err-at t c =
    let s = c.args.source.now in let ts = source_lexemes s in let refused = c.in_err-at.field-0.0 in
    leaves 1 orientations expression ts c.args.at c.from_residual-in_err-at.result refused c.from_residual-in_err-at.ensures.1
    (map_fails orientations_tree orientation_lawful ts c.args.at refused
    (part_then (token_part towards_word) open_inner ts c.args.at c.in_ok-word.at (source_lexeme s c.in_ok-word.word) refused c.in_ok-word.ensures.outcome.2
    (part_fails (token_part open_bracket) inner_comma ts c.in_ok-word.at refused c.in_err-at.ensures.outcome)))

pub towards-returns-in_err-arg : goal.towards-returns-in_err-arg
towards-returns-in_err-arg t c =
    let s = c.args.source.now in let ts = source_lexemes s in let refused = c.in_err-arg.field-0.0 in
    leaves 1 orientations expression ts c.args.at c.from_residual-in_err-arg.result refused c.from_residual-in_err-arg.ensures.1
    (map_fails orientations_tree orientation_lawful ts c.args.at refused
    (part_then (token_part towards_word) open_inner ts c.args.at c.in_ok-word.at (source_lexeme s c.in_ok-word.word) refused c.in_ok-word.ensures.outcome.2
    (part_then (token_part open_bracket) inner_comma ts c.in_ok-word.at c.in_ok-at.at (source_lexeme s c.in_ok-at.field-0-0) refused c.in_ok-at.ensures.outcome.2
    (rank_fails (comma_after (expressions lowest_rank then token close_bracket)) comma_inner ts c.in_ok-at.at refused c.in_err-arg.ensures))))

pub towards-returns-in_err-at-2 : goal.towards-returns-in_err-at-2
towards-returns-in_err-at-2 t c =
    let s = c.args.source.now in let ts = source_lexemes s in let refused = c.in_err-at-2.field-0.0 in
    leaves 1 orientations expression ts c.args.at c.from_residual-in_err-at-2.result refused c.from_residual-in_err-at-2.ensures.1
    (map_fails orientations_tree orientation_lawful ts c.args.at refused
    (part_then (token_part towards_word) open_inner ts c.args.at c.in_ok-word.at (source_lexeme s c.in_ok-word.word) refused c.in_ok-word.ensures.outcome.2
    (part_then (token_part open_bracket) inner_comma ts c.in_ok-word.at c.in_ok-at.at (source_lexeme s c.in_ok-at.field-0-0) refused c.in_ok-at.ensures.outcome.2
    (rank_then (comma_after (expressions lowest_rank then token close_bracket)) ts c.in_ok-at.at c.in_ok-arg.at (expression c.in_ok-arg.arg) refused c.in_ok-arg.ensures.2
    (part_fails (token_part comma) inner_close ts c.in_ok-arg.at refused c.in_err-at-2.ensures.outcome)))))

pub towards-returns-in_err-to : goal.towards-returns-in_err-to
towards-returns-in_err-to t c =
    let s = c.args.source.now in let ts = source_lexemes s in let refused = c.in_err-to.field-0.0 in
    leaves 1 orientations expression ts c.args.at c.from_residual-in_err-to.result refused c.from_residual-in_err-to.ensures.1
    (map_fails orientations_tree orientation_lawful ts c.args.at refused
    (part_then (token_part towards_word) open_inner ts c.args.at c.in_ok-word.at (source_lexeme s c.in_ok-word.word) refused c.in_ok-word.ensures.outcome.2
    (part_then (token_part open_bracket) inner_comma ts c.in_ok-word.at c.in_ok-at.at (source_lexeme s c.in_ok-at.field-0-0) refused c.in_ok-at.ensures.outcome.2
    (rank_then (comma_after (expressions lowest_rank then token close_bracket)) ts c.in_ok-at.at c.in_ok-arg.at (expression c.in_ok-arg.arg) refused c.in_ok-arg.ensures.2
    (part_then (token_part comma) inner_close ts c.in_ok-arg.at c.in_ok-at-2.at (source_lexeme s c.in_ok-at-2.field-0-0) refused c.in_ok-at-2.ensures.outcome.2
    (rank_fails close_after (token_lawful close_bracket) ts c.in_ok-at-2.at refused c.in_err-to.ensures))))))

pub towards-returns-in_err-at-3 : goal.towards-returns-in_err-at-3
towards-returns-in_err-at-3 t c =
    let s = c.args.source.now in let ts = source_lexemes s in let refused = c.in_err-at-3.field-0.0 in
    leaves 1 orientations expression ts c.args.at c.from_residual-in_err-at-3.result refused c.from_residual-in_err-at-3.ensures.1
    (map_fails orientations_tree orientation_lawful ts c.args.at refused
    (part_then (token_part towards_word) open_inner ts c.args.at c.in_ok-word.at (source_lexeme s c.in_ok-word.word) refused c.in_ok-word.ensures.outcome.2
    (part_then (token_part open_bracket) inner_comma ts c.in_ok-word.at c.in_ok-at.at (source_lexeme s c.in_ok-at.field-0-0) refused c.in_ok-at.ensures.outcome.2
    (rank_then (comma_after (expressions lowest_rank then token close_bracket)) ts c.in_ok-at.at c.in_ok-arg.at (expression c.in_ok-arg.arg) refused c.in_ok-arg.ensures.2
    (part_then (token_part comma) inner_close ts c.in_ok-arg.at c.in_ok-at-2.at (source_lexeme s c.in_ok-at-2.field-0-0) refused c.in_ok-at-2.ensures.outcome.2
    (rank_then close_after ts c.in_ok-at-2.at c.in_ok-to.at (expression c.in_ok-to.to) refused c.in_ok-to.ensures.2
    c.in_err-at-3.ensures.outcome))))))

pub towards-returns : goal.towards-returns
towards-returns t c =
    let s = c.args.source.now in
    let ts = source_lexemes s in (
      omega (arith, c.in_ok-word.ensures.outcome.0, c.in_ok-at.ensures.outcome.0, c.in_ok-arg.ensures.0, c.in_ok-at-2.ensures.outcome.0, c.in_ok-to.ensures.0, c.in_ok-at-3.ensures.outcome.0),
      c.in_ok-at-3.ensures.outcome.1,
      mapped_read orientations_tree (drop c.args.at ts) (drop c.in_ok-at-3.at ts) ((source_lexeme s c.in_ok-word.word), ((source_lexeme s c.in_ok-at.field-0-0), ((expression c.in_ok-arg.arg), ((source_lexeme s c.in_ok-at-2.field-0-0), ((expression c.in_ok-to.to), (source_lexeme s c.in_ok-at-3.field-0-0)))))) _ (search (rules, the_lemmas))
          (part_read (token_part towards_word) open_inner (drop c.args.at ts) (drop c.in_ok-word.at ts) (drop c.in_ok-at-3.at ts) (source_lexeme s c.in_ok-word.word) ((source_lexeme s c.in_ok-at.field-0-0), ((expression c.in_ok-arg.arg), ((source_lexeme s c.in_ok-at-2.field-0-0), ((expression c.in_ok-to.to), (source_lexeme s c.in_ok-at-3.field-0-0))))) c.in_ok-word.ensures.outcome.2
          (part_read (token_part open_bracket) inner_comma (drop c.in_ok-word.at ts) (drop c.in_ok-at.at ts) (drop c.in_ok-at-3.at ts) (source_lexeme s c.in_ok-at.field-0-0) ((expression c.in_ok-arg.arg), ((source_lexeme s c.in_ok-at-2.field-0-0), ((expression c.in_ok-to.to), (source_lexeme s c.in_ok-at-3.field-0-0)))) c.in_ok-at.ensures.outcome.2
          (rank_read (comma_after (expressions lowest_rank then token close_bracket)) comma_inner (drop c.in_ok-at.at ts) (drop c.in_ok-arg.at ts) (drop c.in_ok-at-3.at ts) (expression c.in_ok-arg.arg) ((source_lexeme s c.in_ok-at-2.field-0-0), ((expression c.in_ok-to.to), (source_lexeme s c.in_ok-at-3.field-0-0))) c.in_ok-arg.ensures.2
          (part_read (token_part comma) inner_close (drop c.in_ok-arg.at ts) (drop c.in_ok-at-2.at ts) (drop c.in_ok-at-3.at ts) (source_lexeme s c.in_ok-at-2.field-0-0) ((expression c.in_ok-to.to), (source_lexeme s c.in_ok-at-3.field-0-0)) c.in_ok-at-2.ensures.outcome.2
          (rank_read close_after (token_lawful close_bracket) (drop c.in_ok-at-2.at ts) (drop c.in_ok-to.at ts) (drop c.in_ok-at-3.at ts) (expression c.in_ok-to.to) (source_lexeme s c.in_ok-at-3.field-0-0) c.in_ok-to.ensures.2
          c.in_ok-at-3.ensures.outcome.2))))),
    )

pub negation-returns-in_err-token : goal.negation-returns-in_err-token
negation-returns-in_err-token t c =
    let ts = source_lexemes c.args.source.now in let refused = c.in_err-token.field-0.0 in
    leaves 1 negations expression ts c.args.at c.from_residual.result refused c.from_residual.ensures.1
    (map_fails negations_tree (negated_lawful) ts c.args.at refused
    (part_fails (token_part minus) (expressions_lawful prefix_expression) ts c.args.at refused c.in_err-token.ensures.outcome))

pub negation-returns-in_err-arg : goal.negation-returns-in_err-arg
negation-returns-in_err-arg t c =
    let s = c.args.source.now in let ts = source_lexemes s in let refused = c.in_err-arg.field-0.0 in
    leaves 1 negations expression ts c.args.at c.from_residual-in_err-arg.result refused c.from_residual-in_err-arg.ensures.1
    (map_fails negations_tree (negated_lawful) ts c.args.at refused
    (part_then (token_part minus) (expressions_lawful prefix_expression) ts c.args.at c.in_ok-token.at (source_lexeme s c.in_ok-token.token) refused c.in_ok-token.ensures.outcome.2
    c.in_err-arg.ensures))

pub negation-returns : goal.negation-returns
negation-returns t c =
    let s = c.args.source.now in
    let ts = source_lexemes s in (
      omega (arith, c.in_ok-token.ensures.outcome.0, c.in_ok-arg.ensures.0),
      c.in_ok-arg.ensures.1,
      mapped_read negations_tree (drop c.args.at ts) (drop c.in_ok-arg.at ts) ((source_lexeme s c.in_ok-token.token), (expression c.in_ok-arg.arg)) _ (search (rules, the_lemmas))
          (part_read (token_part minus) (expressions_lawful prefix_expression) (drop c.args.at ts) (drop c.in_ok-token.at ts) (drop c.in_ok-arg.at ts) (source_lexeme s c.in_ok-token.token) (expression c.in_ok-arg.arg) c.in_ok-token.ensures.outcome.2
          c.in_ok-arg.ensures.2),
    )

pub logical_not-returns-in_err-token : goal.logical_not-returns-in_err-token
logical_not-returns-in_err-token t c =
    let ts = source_lexemes c.args.source.now in let refused = c.in_err-token.field-0.0 in
    leaves 1 logical_nots expression ts c.args.at c.from_residual.result refused c.from_residual.ensures.1
    (map_fails logical_nots_tree (denied_lawful) ts c.args.at refused
    (part_fails (token_part bang) (expressions_lawful prefix_expression) ts c.args.at refused c.in_err-token.ensures.outcome))

pub logical_not-returns-in_err-arg : goal.logical_not-returns-in_err-arg
logical_not-returns-in_err-arg t c =
    let s = c.args.source.now in let ts = source_lexemes s in let refused = c.in_err-arg.field-0.0 in
    leaves 1 logical_nots expression ts c.args.at c.from_residual-in_err-arg.result refused c.from_residual-in_err-arg.ensures.1
    (map_fails logical_nots_tree (denied_lawful) ts c.args.at refused
    (part_then (token_part bang) (expressions_lawful prefix_expression) ts c.args.at c.in_ok-token.at (source_lexeme s c.in_ok-token.token) refused c.in_ok-token.ensures.outcome.2
    c.in_err-arg.ensures))

pub logical_not-returns : goal.logical_not-returns
logical_not-returns t c =
    let s = c.args.source.now in
    let ts = source_lexemes s in (
      omega (arith, c.in_ok-token.ensures.outcome.0, c.in_ok-arg.ensures.0),
      c.in_ok-arg.ensures.1,
      mapped_read logical_nots_tree (drop c.args.at ts) (drop c.in_ok-arg.at ts) ((source_lexeme s c.in_ok-token.token), (expression c.in_ok-arg.arg)) _ (search (rules, the_lemmas))
          (part_read (token_part bang) (expressions_lawful prefix_expression) (drop c.args.at ts) (drop c.in_ok-token.at ts) (drop c.in_ok-arg.at ts) (source_lexeme s c.in_ok-token.token) (expression c.in_ok-arg.arg) c.in_ok-token.ensures.outcome.2
          c.in_ok-arg.ensures.2),
    )

pub call-returns-in_default : goal.call-returns-in_default
call-returns-in_default t c =
    let s = c.args.source.now in let ts = source_lexemes s in
    let refused = (Fault c.args.at) in
    map_fails calls_tree call_lawful ts c.args.at refused
    (part_fails fun_part brackets_lawful ts c.args.at refused (choice_fails fun_of ts (source_lexeme s) c.args.at fun_lawful c.in_default.ensures c.requires))

pub call-returns-in_err-arg : goal.call-returns-in_err-arg
call-returns-in_err-arg t c =
    let s = c.args.source.now in let ts = source_lexemes s in let refused = c.in_err-arg.field-0.0 in
    leaves 1 calls expression ts c.args.at c.from_residual.result refused c.from_residual.ensures.1
    (map_fails calls_tree call_lawful ts c.args.at refused
    (part_then fun_part brackets_lawful ts c.args.at c.in-Some.at (source_lexeme s c.in-Some.token, c.in-Some.fun) refused (choice_read fun_of ts (source_lexeme s) c.args.at ((c.in-Some.token, c.in-Some.fun), c.in-Some.at) c.in-Some.ensures)
    c.in_err-arg.ensures))

pub call-returns : goal.call-returns
call-returns t c =
    let s = c.args.source.now in
    let ts = source_lexemes s in (
      omega (arith, c.in-Some.ensures.1, c.in_ok-arg.ensures.0),
      c.in_ok-arg.ensures.1,
      mapped_read calls_tree (drop c.args.at ts) (drop c.in_ok-arg.at ts) ((source_lexeme s c.in-Some.token, c.in-Some.fun), (expression c.in_ok-arg.arg)) _ (search (rules, the_lemmas))
          (part_read fun_part brackets_lawful (drop c.args.at ts) (drop c.in-Some.at ts) (drop c.in_ok-arg.at ts) (source_lexeme s c.in-Some.token, c.in-Some.fun) (expression c.in_ok-arg.arg) (choice_read fun_of ts (source_lexeme s) c.args.at ((c.in-Some.token, c.in-Some.fun), c.in-Some.at) c.in-Some.ensures)
          c.in_ok-arg.ensures.2),
    )

pub name-returns-in_err-token : goal.name-returns-in_err-token
name-returns-in_err-token t c =
    let ts = source_lexemes c.args.source.now in let refused = c.in_err-token.field-0.0 in
    leaves 1 names expression ts c.args.at c.from_residual.result refused c.from_residual.ensures.1
    (map_fails names_tree name_lawful ts c.args.at refused
    (part_fails (token_part NameToken) arguments_lawful ts c.args.at refused c.in_err-token.ensures.outcome))

pub name-returns-in_err-arg : goal.name-returns-in_err-arg
name-returns-in_err-arg t c =
    let s = c.args.source.now in let ts = source_lexemes s in let refused = c.in_err-arg.field-0.0 in
    leaves 1 names expression ts c.args.at c.from_residual-in_err-arg.result refused c.from_residual-in_err-arg.ensures.1
    (map_fails names_tree name_lawful ts c.args.at refused
    (part_then (token_part NameToken) arguments_lawful ts c.args.at c.in_ok-token.at (source_lexeme s c.in_ok-token.token) refused c.in_ok-token.ensures.outcome.2
    c.in_err-arg.ensures))

pub name-returns-in_default : goal.name-returns-in_default
name-returns-in_default t c =
    let s = c.args.source.now in let ts = source_lexemes s in
    let read : IsRead arguments (drop c.in_ok-token.at ts) None (drop c.in_ok-arg.at ts) = subst (λ o. IsRead arguments (drop c.in_ok-token.at ts) (option_map expression o) (drop c.in_ok-arg.at ts)) c.in_default.is c.in_ok-arg.ensures.2 in (
      omega (arith, c.in_ok-token.ensures.outcome.0, c.in_ok-arg.ensures.0),
      c.in_ok-arg.ensures.1,
      mapped_read names_tree (drop c.args.at ts) (drop c.in_ok-arg.at ts) (source_lexeme s c.in_ok-token.token, None) _ (search (rules, the_lemmas))
          (part_read (token_part NameToken) arguments_lawful (drop c.args.at ts) (drop c.in_ok-token.at ts) (drop c.in_ok-arg.at ts) (source_lexeme s c.in_ok-token.token) None c.in_ok-token.ensures.outcome.2 read),
    )

pub name-returns : goal.name-returns
name-returns t c =
    let s = c.args.source.now in let ts = source_lexemes s in
    let read : IsRead arguments (drop c.in_ok-token.at ts) (Some (expression c.in-Some.arg)) (drop c.in_ok-arg.at ts) = subst (λ o. IsRead arguments (drop c.in_ok-token.at ts) (option_map expression o) (drop c.in_ok-arg.at ts)) c.in-Some.is c.in_ok-arg.ensures.2 in (
      omega (arith, c.in_ok-token.ensures.outcome.0, c.in_ok-arg.ensures.0),
      c.in_ok-arg.ensures.1,
      mapped_read names_tree (drop c.args.at ts) (drop c.in_ok-arg.at ts) (source_lexeme s c.in_ok-token.token, (Some (expression c.in-Some.arg))) _ (search (rules, the_lemmas))
          (part_read (token_part NameToken) arguments_lawful (drop c.args.at ts) (drop c.in_ok-token.at ts) (drop c.in_ok-arg.at ts) (source_lexeme s c.in_ok-token.token) (Some (expression c.in-Some.arg)) c.in_ok-token.ensures.outcome.2 read),
    )

pub chain-returns-in_err-first : goal.chain-returns-in_err-first
chain-returns-in_err-first t c =
    let ts = source_lexemes c.args.source.now in let refused = c.in_err-first.field-0.0 in
    leaves 1 (expressions (chain c.args.level)) expression ts c.args.at c.from_residual.result refused c.from_residual.ensures.1
    (becomes_fails ts c.args.at refused (chain_becomes c.args.level (drop c.args.at ts))
    (rank_fails (operand_links c.args.level) (links_lawful c.args.level) ts c.args.at refused c.in_err-first.ensures))

pub chain-returns-in_err-rest : goal.chain-returns-in_err-rest
chain-returns-in_err-rest t c =
    let ts = source_lexemes c.args.source.now in let refused = c.in_err-rest.field-0.0 in
    leaves 1 (expressions (chain c.args.level)) expression ts c.args.at c.from_residual-in_err-rest.result refused c.from_residual-in_err-rest.ensures.1
    (becomes_fails ts c.args.at refused (chain_becomes c.args.level (drop c.args.at ts))
    (rank_then (operand_links c.args.level) ts c.args.at c.in_ok-first.at (expression c.in_ok-first.first) refused c.in_ok-first.ensures.2
    c.in_err-rest.ensures))

pub comparison-returns-in_err-left : goal.comparison-returns-in_err-left
comparison-returns-in_err-left t c =
    let ts = source_lexemes c.args.source.now in let refused = c.in_err-left.field-0.0 in
    leaves 1 (expressions comparison) expression ts c.args.at c.from_residual.result refused c.from_residual.ensures.1
    (becomes_fails ts c.args.at refused (comparison_becomes (drop c.args.at ts))
    (rank_fails sum_seconds seconds_lawful ts c.args.at refused c.in_err-left.ensures))

pub comparison-returns-in_err-second : goal.comparison-returns-in_err-second
comparison-returns-in_err-second t c =
    let ts = source_lexemes c.args.source.now in let refused = c.in_err-second.field-0.0 in
    leaves 1 (expressions comparison) expression ts c.args.at c.from_residual-in_err-second.result refused c.from_residual-in_err-second.ensures.1
    (becomes_fails ts c.args.at refused (comparison_becomes (drop c.args.at ts))
    (rank_then sum_seconds ts c.args.at c.in_ok-left.at (expression c.in_ok-left.left) refused c.in_ok-left.ensures.2
    c.in_err-second.ensures))

pub chain-returns-then-is_empty : goal.chain-returns-then-is_empty
chain-returns-then-is_empty t c =
    let ts = source_lexemes c.args.source.now in
    let rest = c.in_ok-rest.ensures.2 in (
      omega (arith, c.in_ok-first.ensures.0, c.in_ok-rest.ensures.0),
      c.in_ok-rest.ensures.1,
      gives (expression c.in_ok-first.first) (drop c.args.at ts) (drop c.in_ok-rest.at ts) (expression c.in_ok-first.first, _)
          (joined_none c.args.level (expression c.in_ok-first.first) _ c.in_ok-rest.rest (c.is_empty.ensures.0 c.if-is_empty.true))
          (chain_becomes c.args.level (drop c.args.at ts)) rest.stops
          (rank_read (operand_links c.args.level) (links_lawful c.args.level) (drop c.args.at ts) (drop c.in_ok-first.at ts) (drop c.in_ok-rest.at ts) _ _ c.in_ok-first.ensures.2 rest),
    )

pub chain-returns : goal.chain-returns
chain-returns t c =
    let ts = source_lexemes c.args.source.now in
    let rest = c.in_ok-rest.ensures.2 in
    let some : c.in_ok-rest.rest ≡ [] → ⊥ = λ e. let is = c.is_empty.ensures.1 e in cc in (
      omega (arith, c.in_ok-first.ensures.0, c.in_ok-rest.ensures.0),
      c.in_ok-rest.ensures.1,
      gives _ (drop c.args.at ts) (drop c.in_ok-rest.at ts) (expression c.in_ok-first.first, _)
          (joined_some c.args.level (expression c.in_ok-first.first) _ c.in_ok-rest.rest some ∙ search (rules, the_lemmas))
          (chain_becomes c.args.level (drop c.args.at ts)) rest.stops
          (rank_read (operand_links c.args.level) (links_lawful c.args.level) (drop c.args.at ts) (drop c.in_ok-first.at ts) (drop c.in_ok-rest.at ts) _ _ c.in_ok-first.ensures.2 rest),
    )

pub comparison-returns-in_default : goal.comparison-returns-in_default
comparison-returns-in_default t c =
    let s = c.args.source.now in let ts = source_lexemes s in
    let read : IsRead seconds (drop c.in_ok-left.at ts) None (drop c.in_ok-second.at ts) = subst (λ o. IsRead seconds (drop c.in_ok-left.at ts) ((option_map (λ x. ((source_lexeme s x.0, x.1), expression x.2))) o) (drop c.in_ok-second.at ts)) c.in_default.is c.in_ok-second.ensures.2 in (
      omega (arith, c.in_ok-left.ensures.0, c.in_ok-second.ensures.0),
      c.in_ok-second.ensures.1,
      gives (expression c.in_ok-left.left) (drop c.args.at ts) (drop c.in_ok-second.at ts) (expression c.in_ok-left.left, None) refl
          (comparison_becomes (drop c.args.at ts)) (comparison_stops (drop c.in_ok-second.at ts) read.stops.0 read.stops.1)
          (rank_read sum_seconds seconds_lawful (drop c.args.at ts) (drop c.in_ok-left.at ts) (drop c.in_ok-second.at ts) (expression c.in_ok-left.left) None c.in_ok-left.ensures.2 read),
    )

pub comparison-returns : goal.comparison-returns
comparison-returns t c =
    let s = c.args.source.now in let ts = source_lexemes s in
    let read : IsRead seconds (drop c.in_ok-left.at ts) (Some ((source_lexeme s c.in-Some.token, c.in-Some.rel), expression c.in-Some.right)) (drop c.in_ok-second.at ts) = subst (λ o. IsRead seconds (drop c.in_ok-left.at ts) ((option_map (λ x. ((source_lexeme s x.0, x.1), expression x.2))) o) (drop c.in_ok-second.at ts)) c.in-Some.is c.in_ok-second.ensures.2 in (
      omega (arith, c.in_ok-left.ensures.0, c.in_ok-second.ensures.0),
      c.in_ok-second.ensures.1,
      gives _ (drop c.args.at ts) (drop c.in_ok-second.at ts) (expression c.in_ok-left.left, Some ((source_lexeme s c.in-Some.token, c.in-Some.rel), expression c.in-Some.right)) (search (rules, the_lemmas))
          (comparison_becomes (drop c.args.at ts)) (comparison_stops (drop c.in_ok-second.at ts) read.stops.0 read.stops.1)
          (rank_read sum_seconds seconds_lawful (drop c.args.at ts) (drop c.in_ok-left.at ts) (drop c.in_ok-second.at ts) (expression c.in_ok-left.left) _ c.in_ok-left.ensures.2 read),
    )

pub comparison_tail-returns-in_err-right : goal.comparison_tail-returns-in_err-right
comparison_tail-returns-in_err-right t c =
    let s = c.args.source.now in let ts = source_lexemes s in let refused = c.in_err-right.field-0.0 in
    let first : HeadIs (HasValue rel_of) (drop c.args.at ts) = subst (HeadIs (HasValue rel_of)) (sym c.in-Some.ensures.0) (c.in-Some.relation, c.in-Some.ensures.3) in
    leaves 0 seconds (option_map (λ x. ((source_lexeme s x.0, x.1), expression x.2))) ts c.args.at c.from_residual.result refused c.from_residual.ensures.1
    (fails_by seconds (token_with_value rel_of then expressions (chain Sum)) ts c.args.at c.args.at
    (λ place d. maybe_stuck (HasValue rel_of) (drop c.args.at ts) (drop place ts) first d) refused
    (part_then rel_part (expressions_lawful (chain Sum)) ts c.args.at c.in-Some.after (source_lexeme s c.in-Some.token, c.in-Some.relation) refused
    (choice_read rel_of ts (source_lexeme s) c.args.at ((c.in-Some.token, c.in-Some.relation), c.in-Some.after) c.in-Some.ensures) c.in_err-right.ensures))

pub comparison_tail-returns-in-None : goal.comparison_tail-returns-in-None
comparison_tail-returns-in-None t c =
    let s = c.args.source.now in
    let ts = source_lexemes s in (
      omega (arith, c.in-Some.ensures.1, c.in_ok-right.ensures.0),
      c.in_ok-right.ensures.1,
      something_read (HasValue rel_of) (drop c.args.at ts) (drop c.in_ok-right.end ts) ((source_lexeme s c.in-Some.token, c.in-Some.relation), expression c.in_ok-right.right)
          (part_read rel_part (expressions_lawful (chain Sum)) (drop c.args.at ts) (drop c.in-Some.after ts) (drop c.in_ok-right.end ts) (source_lexeme s c.in-Some.token, c.in-Some.relation) (expression c.in_ok-right.right)
          (choice_read rel_of ts (source_lexeme s) c.args.at ((c.in-Some.token, c.in-Some.relation), c.in-Some.after) c.in-Some.ensures) c.in_ok-right.ensures.2)
          c.in-None.ensures,
    )

pub comparison_tail-returns-in-Some-rel : goal.comparison_tail-returns-in-Some-rel
comparison_tail-returns-in-Some-rel t c =
    let s = c.args.source.now in let ts = source_lexemes s in
    let first : HeadIs (HasValue rel_of) (drop c.args.at ts) = subst (HeadIs (HasValue rel_of)) (sym c.in-Some.ensures.0) (c.in-Some.relation, c.in-Some.ensures.3) in
    let again : HeadIs (HasValue rel_of) (drop c.in_ok-right.end ts) = subst (HeadIs (HasValue rel_of)) (sym c.in-Some-rel.ensures.0) (c.in-Some-rel.field-0.0.1, c.in-Some-rel.ensures.3) in (
      c.in_ok-right.ensures.1,
      maybe_twice (HasValue rel_of) (drop c.args.at ts) (drop c.in_ok-right.end ts) ((source_lexeme s c.in-Some.token, c.in-Some.relation), expression c.in_ok-right.right)
          second_lawful first (λ other. tt)
          (part_read rel_part (expressions_lawful (chain Sum)) (drop c.args.at ts) (drop c.in-Some.after ts) (drop c.in_ok-right.end ts) (source_lexeme s c.in-Some.token, c.in-Some.relation) (expression c.in_ok-right.right)
          (choice_read rel_of ts (source_lexeme s) c.args.at ((c.in-Some.token, c.in-Some.relation), c.in-Some.after) c.in-Some.ensures) c.in_ok-right.ensures.2)
          again,
    )

pub argument-returns-in_err-e : goal.argument-returns-in_err-e
argument-returns-in_err-e t c =
    let ts = source_lexemes c.args.source.now in let refused = c.in_err-e.field-0.0 in
    leaves 0 arguments (option_map expression) ts c.args.at c.from_residual.result refused c.from_residual.ensures.1
    (fails_by arguments brackets ts c.args.at c.args.at
    (λ place d. maybe_stuck (Is open_bracket) (drop c.args.at ts) (drop place ts) c.if-not-is.ensures d) refused c.in_err-e.ensures)

pub argument-returns-then-is : goal.argument-returns-then-is
argument-returns-then-is t c =
    let s = c.args.source.now in
    let ts = source_lexemes s in (
      c.in_ok-e.ensures.1,
      maybe_twice (Is open_bracket) (drop c.args.at ts) (drop c.in_ok-e.end ts) (expression c.in_ok-e.e) brackets_lawful c.if-not-is.ensures
          (λ other. tt) c.in_ok-e.ensures.2 c.if-is.ensures,
    )

pub primary_expression-returns : goal.primary_expression-returns
primary_expression-returns t c =
    let ts = source_lexemes c.args.source.now in
    (c.in_ok-e.ensures.0, c.in_ok-e.ensures.1, c.in_ok-e.ensures.2 (primary_stops (drop c.in_ok-e.end ts) c.if-is.ensures))

pub primary_expression-returns-then-is : goal.primary_expression-returns-then-is
primary_expression-returns-then-is t c =
    let ts = source_lexemes c.args.source.now in
    (c.in_ok-e.ensures.1, c.in_ok-e.ensures.3 (λ stop. no_bracket (drop c.in_ok-e.end ts) stop c.if-is.ensures))

pub prefix_expression-returns-then-is : goal.prefix_expression-returns-then-is
prefix_expression-returns-then-is t c =
    let ts = source_lexemes c.args.source.now in
    takes 1 expression expression (λ e. refl) (λ left stop. stop) ts c.args.at c.negation.result
    (through (drop c.args.at ts) (negated_becomes (drop c.args.at ts) c.if-is.ensures)) c.negation.ensures

pub prefix_expression-returns-then-is-2 : goal.prefix_expression-returns-then-is-2
prefix_expression-returns-then-is-2 t c =
    let ts = source_lexemes c.args.source.now in
    takes 1 expression expression (λ e. refl) (λ left stop. stop) ts c.args.at c.logical_not.result
    (through (drop c.args.at ts) (denied_becomes (drop c.args.at ts) c.if-is-2.ensures)) c.logical_not.ensures

pub prefix_expression-returns : goal.prefix_expression-returns
prefix_expression-returns t c =
    let ts = source_lexemes c.args.source.now in
    takes 1 expression expression (λ e. refl) prefix_stops ts c.args.at c.primary_expression.result
    (primary_becomes (drop c.args.at ts) c.if-is.ensures c.if-is-2.ensures) c.primary_expression.ensures

pub value-returns-then-is : goal.value-returns-then-is
value-returns-then-is t c =
    let ts = source_lexemes c.args.source.now in
    settles expression expression (λ e. refl) (expressions_lawful primary_expression) (mapped_lawful names_tree name_lawful) (λ left other not. tt) ts c.args.at c.name.result
    (through (drop c.args.at ts) (names_become (drop c.args.at ts) c.if-is.ensures)) c.name.ensures

pub value-returns-then-is-2 : goal.value-returns-then-is-2
value-returns-then-is-2 t c =
    let ts = source_lexemes c.args.source.now in
    settles expression expression (λ e. refl) (expressions_lawful primary_expression) (mapped_lawful orientations_tree orientation_lawful) (λ left other not. tt) ts c.args.at c.towards.result
    (through (drop c.args.at ts) (towards_become (drop c.args.at ts) c.if-is-2.ensures)) c.towards.ensures

pub value-returns-then-is-3 : goal.value-returns-then-is-3
value-returns-then-is-3 t c =
    let ts = source_lexemes c.args.source.now in
    settles expression expression (λ e. refl) (expressions_lawful primary_expression) brackets_lawful (λ left other not. tt) ts c.args.at c.bracketed_expression.result
    (brackets_become (drop c.args.at ts) c.if-is-3.ensures) c.bracketed_expression.ensures

pub value-returns-in-Some : goal.value-returns-in-Some
value-returns-in-Some t c =
    let ts = source_lexemes c.args.source.now in
    let first : HeadIs (HasValue fun_of) (drop c.args.at ts) = subst (HeadIs (HasValue fun_of)) (sym c.in-Some.ensures.0) (c.in-Some.field-0.0.1, c.in-Some.ensures.3) in
    settles expression expression (λ e. refl) (expressions_lawful primary_expression) (mapped_lawful calls_tree call_lawful) (λ left other not. tt) ts c.args.at c.call.result
    (through (drop c.args.at ts) (calls_become (drop c.args.at ts) first)) c.call.ensures

pub value-returns-in-None : goal.value-returns-in-None
value-returns-in-None t c =
    let ts = source_lexemes c.args.source.now in
    settles expression expression (λ e. refl) (expressions_lawful primary_expression) (mapped_lawful numbers_tree number_lawful) (λ left other not. tt) ts c.args.at c.number.result
    (through (drop c.args.at ts) (numbers_become (drop c.args.at ts) c.if-is.ensures c.if-is-2.ensures c.if-is-3.ensures c.in-None.ensures)) c.number.ensures

pub links-returns-in_err-arg : goal.links-returns-in_err-arg
links-returns-in_err-arg t c =
    let s = c.args.source.now in let ts = source_lexemes s in
    let here = c.loop-token.here in
    let level = c.args.level in
    let refused = c.in_err-arg.field-0.0 in
    let first : HeadIs (HasValue (sign_of level)) (drop here ts) = subst (HeadIs (HasValue (sign_of level))) (sym c.in-Some.ensures.0) (c.in-Some.op, c.in-Some.ensures.3) in
    leaves 0 (links level) (λ rest. links_of (map (λ l. (l.op, l.place, expression l.arg)) rest)) ts c.args.at c.from_residual.result refused c.from_residual.ensures.1
    (fails_so_far ts c.args.at here refused c.loop-token.invariant.so_far
    (becomes_fails ts here refused (links_becomes level (drop here ts) first) (first_fails (links_lawful level) (further_links level) ts here refused
    (part_then (sign_part level) (expressions_lawful (operand level)) ts here c.in-Some.after (source_lexeme s c.in-Some.token, c.in-Some.op) refused
    (choice_read (sign_of level) ts (source_lexeme s) here ((c.in-Some.token, c.in-Some.op), c.in-Some.after) c.in-Some.ensures) c.in_err-arg.ensures))))

pub links-loop-token-preserved : goal.links-loop-token-preserved
links-loop-token-preserved t c =
    let s = c.args.source.now in let ts = source_lexemes s in
    let here = c.loop-token.here in
    let end = c.in_ok-arg.end in
    let level = c.args.level in
    let first : HeadIs (HasValue (sign_of level)) (drop here ts) = subst (HeadIs (HasValue (sign_of level))) (sym c.in-Some.ensures.0) (c.in-Some.op, c.in-Some.ensures.3) in
    record {
      after = omega (arith, c.loop-token.invariant.after, c.in-Some.ensures.1, c.in_ok-arg.ensures.0);
      within = c.in_ok-arg.ensures.1;
      stops = c.in_ok-arg.ensures.2.stops;
      so_far =
          one_more (further_lawful level) (links_lawful level) (further_links level) (further_loose level) (drop c.args.at ts) (drop here ts) (drop end ts)
          ((source_lexeme s c.in-Some.token, c.in-Some.op), expression c.in_ok-arg.arg) _ _
          (λ more. links_pushed _ c.loop-token.rest c.push.new.items _ (c.in-Some.op, c.in-Some.token.place, expression c.in_ok-arg.arg) more c.in_ok-push.ensures refl)
          (links_becomes level (drop here ts) first)
          (part_read (sign_part level) (expressions_lawful (operand level)) (drop here ts) (drop c.in-Some.after ts) (drop end ts) (source_lexeme s c.in-Some.token, c.in-Some.op) (expression c.in_ok-arg.arg)
          (choice_read (sign_of level) ts (source_lexeme s) here ((c.in-Some.token, c.in-Some.op), c.in-Some.after) c.in-Some.ensures) c.in_ok-arg.ensures.2)
          c.loop-token.invariant.so_far;
    }

pub links-returns : goal.links-returns
links-returns t c =
    let ts = source_lexemes c.args.source.now in
    let here = drop c.loop-token.here ts in
    let level = c.args.level in
    let inv = c.loop-token.invariant in (
      omega (arith, inv.after),
      inv.within,
      subst (λ e. IsRead (links level) (drop c.args.at ts) e here) (links_all _)
          (inv.so_far.reads no_links here (no_links_read level here (chain_stops level here inv.stops c.in_default.ensures))),
    )
