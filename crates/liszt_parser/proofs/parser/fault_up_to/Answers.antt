use Rattle.std.proofs.Common.{arith, ◌+◌, take, ap, subst, sym, ◌∙◌}
use Rattle.std.specs.Prelude.{Err}
use Rattle.liszt_tree.specs.Tree.{program_tree}
use Rattle.std.specs.List.{AllByRecursion}
use Rattle.liszt_parser.specs.Grammar.{lexemes}
use Rattle.liszt_lexer.proofs.LexedTextLemmas.{lexed_parts}
use Rattle.liszt_parser.specs.Internal.TokenBounds.{IsInText}
use Rattle.liszt_parser.specs.Internal.ProgramParsing.{IsParsed, RefusesBy}
use Rattle.liszt_parser.proofs.ParsedLemmas.{front_in_text, front_reads, syntax_first, deep_of_program, deep_at_end}
use Rattle.liszt_parser.proofs.parser.fault_up_to.Goals.{in-Ok, in-Err-Fault, in-Err-Fault-2, in-Err-NoMemory}
use Rattle.liszt_parser.proofs.parser.fault_up_to.Goals as goal

pub read_program-requires : goal.read_program-requires
read_program-requires c =
    let slice = c.as_slice.ensures in
    subst (λ tokens. AllByRecursion (IsInText c.args.text.now) (take (c.args.deep + 1) tokens)) (sym slice)
    (front_in_text c.args.text.now c.args.tokens.now.tokens (c.args.deep + 1) (lexed_parts c.args.text.now c.args.tokens.now c.requires.lexed).0)

pub returns : goal.returns
returns c =
    let text = c.args.text.now in
    let ts = lexemes text c.args.tokens.now.tokens in
    let front = take (c.args.deep + 1) ts in
    let ending = c.args.tokens.now.end in
    let reads : IsParsed (take (c.args.deep + 1) ts) c.read_program.result =
    front_reads text c.args.tokens.now.tokens (c.args.deep + 1) c.read_program.result
    (subst (λ tokens. IsParsed (lexemes text (take (c.args.deep + 1) tokens)) c.read_program.result) c.as_slice.ensures c.read_program.ensures) in
    elim c.match-read_program.branch [
      | in-Ok w ↦
          subst (RefusesBy ts ending) (sym (w.result-is ∙ w.fault_of.ensures text))
          (deep_of_program ts ending c.args.deep (program_tree w.in-Ok.field-0) c.requires.deep (subst (IsParsed front) w.in-Ok.is reads))
      | in-Err-Fault w ↦
          let is = w.in-Err-Fault.is ∙ ap Err w.in-Err-Fault.field-0-is in
          subst (RefusesBy ts ending) (sym (w.result-is ∙ w.fault_of-in-Err-Fault.ensures text))
          (deep_at_end ts ending c.args.deep w.in-Err-Fault.place c.requires.deep w.if-place-deep.true (subst (IsParsed front) is reads))
      | in-Err-Fault-2 w ↦
          let is = w.in-Err-Fault.is ∙ ap Err w.in-Err-Fault.field-0-is in
          subst (RefusesBy ts ending) (sym (w.result-is ∙ w.fault_of-in-Err-Fault-2.ensures text))
          (syntax_first ts ending c.args.deep w.in-Err-Fault.place c.requires.deep (omega (arith, w.if-place-deep.false)) (subst (IsParsed front) is reads))
      | in-Err-NoMemory w ↦ subst (RefusesBy ts ending) (sym w.result-is) tt
    ]
