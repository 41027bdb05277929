use Rattle.std.proofs.Common.{ap, ◌∙◌, drop, rules}
use Rattle.std.proofs.lemmas.Int.{to_z-of_z}
use mir.Syntax.{w64}
use mir.Val.{SFits}
use Rattle.liszt_base.specs.declared.answers.Refused.TheVariants.{Fault}
use Rattle.liszt_tree.specs.Tree.{expression, Number}
use Rattle.liszt_parser.specs.Internal.Productions.{numbers_tree, number_of}
use Rattle.liszt_parser.specs.Internal.Sources.{source_lexemes, source_lexeme}
use Rattle.liszt_parser.proofs.Readers.{mapped_read}
use Rattle.liszt_parser.proofs.SourceLemmas.{choice_read, choice_fails}
use Rattle.liszt_parser.proofs.ExpressionProductions.{number_lawful}
use Rattle.liszt_parser.proofs.StepLemmas.{map_fails}
use Rattle.liszt_parser.proofs.expression.number.Goals as goal

pub returns-in-None : goal.returns-in-None
returns-in-None c =
    let s = c.args.source.now in let ts = source_lexemes s in
    map_fails numbers_tree number_lawful ts c.args.at (Fault c.args.at)
    (choice_fails number_of ts (source_lexeme s) c.args.at number_lawful c.in-None.ensures c.requires)

pub returns-in-Some : goal.returns-in-Some
returns-in-Some c =
    let s = c.args.source.now in let ts = source_lexemes s in
    let fits : SFits w64 c.in-Some.value = search rules in (
      c.in-Some.ensures.1,
      c.in-Some.ensures.2,
      mapped_read numbers_tree (drop c.args.at ts) (drop c.in-Some.end ts) (source_lexeme s c.in-Some.token, c.in-Some.value) (expression c.literal.result)
          (c.literal.ensures ∙ ap (Number c.in-Some.token.place) (to_z-of_z w64 c.in-Some.value fits))
          (choice_read number_of ts (source_lexeme s) c.args.at ((c.in-Some.token, c.in-Some.value), c.in-Some.end) c.in-Some.ensures),
    )
