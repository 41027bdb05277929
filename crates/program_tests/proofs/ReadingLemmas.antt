-- A program that is read has at most as many items as tokens.
use Rattle.std.proofs.Common.{◌≡◌, ◌≤◌, ℕ, List, [], length, arith}
use Rattle.std.proofs.lemmas.List.{length-map}
use Rattle.std.specs.Prelude.{IfOk, Ok, Err, Result}
use Rattle.liszt_base.specs.Limits.{token_limit}
use Rattle.liszt_base.specs.declared.answers.ProgramFault.{ProgramFault}
use Rattle.liszt_base.specs.declared.answers.Refused.{Refused}
use Rattle.liszt_lexer.specs.Lexed.{LexedText, lexed_text}
use Rattle.liszt_lexer.specs.Lexer.{findings_after, pieces, tokens_of}
use Rattle.liszt_lexer.specs.declared.token.Token.{Token}
use Rattle.liszt_lexer.proofs.FindingLemmas.{few_with_limit}
use Rattle.liszt_lexer.proofs.LexedTextLemmas.{lexed_parts}
use Rattle.liszt_parser.specs.Grammar.{lexeme, lexemes}
use Rattle.liszt_parser.specs.ParserAnswers.{ParsesTo}
use Rattle.liszt_parser.proofs.NodeCountLemmas.{nodes_within}
use Rattle.liszt_tree.specs.Tree.{program_tree}
use Rattle.liszt_tree.specs.declared.tree.Program.{Program as Tree}
use Rattle.phase_types.specs.Checked.{item_count}
use Rattle.phase_types.proofs.CheckedLemmas.{items_are_nodes}

few_tokens : (text : List ℕ) (tokens : List Token) → tokens_of text ≡ Ok tokens → length tokens ≤ token_limit
few_tokens text tokens is =
    let le : 0 ≤ token_limit = omega arith in
    omega (arith, few_with_limit 0 (findings_after [] (pieces text)) tokens le is)

pub few_items : (text : List ℕ) (lexed : LexedText) (result : Result Tree (Refused ProgramFault)) → lexed_text text ≡ Ok lexed
    → ParsesTo (lexemes text lexed.tokens) lexed.end result → IfOk result (λ program. item_count (program_tree program) ≤ token_limit)
few_items text lexed (Ok program) is parsed =
    let tokens = few_tokens text lexed.tokens (lexed_parts text lexed is).0 in
    let nodes = nodes_within (lexemes text lexed.tokens) (program_tree program) parsed.0 in
    let long : length (lexemes text lexed.tokens) ≡ length lexed.tokens = length-map lexed.tokens (lexeme text) in
    omega (arith, tokens, nodes, items_are_nodes (program_tree program), long)
few_items text lexed (Err refused) is parsed = tt
