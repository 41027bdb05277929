use Rattle.std.proofs.Common.{sym, ap, subst, ◌∙◌, Err, drop, map}
use Rattle.std.proofs.lemmas.Result.{err_from_is_err_and}
use Rattle.liszt_tree.specs.Tree.{main_of, item_tree}
use Rattle.liszt_parser.specs.Grammar.{Derives}
use Rattle.liszt_parser.specs.ParseFault.{IsSyntaxAt}
use Rattle.liszt_parser.specs.Internal.ProgramParsing.{IsParsed}
use Rattle.liszt_parser.specs.Internal.Sources.{source_lexemes, source_lexeme}
use Rattle.liszt_parser.proofs.ProgramReading.{program_fails, program_read, something_left}
use Rattle.liszt_parser.proofs.program.read_program.Goals as goal

pub returns-in_err-items : goal.returns-in_err-items
returns-in_err-items c =
    let source = c.new-source.result in
    let p = err_from_is_err_and c.from_residual.result c.from_residual.ensures.1 in
    subst (λ ts. IsParsed ts c.from_residual.result) c.new-source.ensures
    (subst (IsParsed (source_lexemes source)) (sym (p.1 ∙ ap Err p.2)) (program_fails (source_lexemes source) c.in_err-items.field-0.0 c.in_err-items.ensures))

pub returns-in-None : goal.returns-in-None
returns-in-None c =
    let source = c.new-source.result in
    subst (λ ts. Derives ts (main_of (map item_tree c.in_ok-items.items))) c.new-source.ensures
    (program_read (source_lexemes source) (drop c.in_ok-items.at (source_lexemes source)) (main_of (map item_tree c.in_ok-items.items)) c.in-None.ensures c.in_ok-items.ensures.2)

pub returns-in-Some : goal.returns-in-Some
returns-in-Some c =
    let source = c.new-source.result in
    let ts = source_lexemes source in
    subst (λ ts. IsSyntaxAt ts c.in_ok-items.at) c.new-source.ensures
    (something_left ts c.in_ok-items.at (source_lexeme source c.in-Some.field-0) _ (main_of (map item_tree c.in_ok-items.items)) c.in_ok-items.ensures.1 c.in-Some.ensures.0 c.in_ok-items.ensures.2)
