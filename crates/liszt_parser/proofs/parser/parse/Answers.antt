use Rattle.std.proofs.Common.{subst, sym}
use Rattle.std.specs.List.{AllByRecursion}
use Rattle.liszt_lexer.proofs.LexedTextLemmas.{lexed_parts}
use Rattle.liszt_parser.specs.Internal.TokenBounds.{IsInText}
use Rattle.liszt_parser.proofs.ParsedLemmas.{all_in_text}
use Rattle.liszt_parser.proofs.parser.parse.Goals as goal

pub read_program-requires : goal.read_program-requires
read_program-requires c =
    subst (AllByRecursion (IsInText c.args.text.now)) (sym c.as_slice-in_default.ensures) (all_in_text c.args.text.now c.args.tokens.now.tokens (lexed_parts c.args.text.now c.args.tokens.now c.requires.lexed).0)
