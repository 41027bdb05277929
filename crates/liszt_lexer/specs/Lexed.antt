-- What contracts see of a text's tokens. This project's own.
use Rattle.std.specs.Prelude.{ℕ, List, Result}
use Rattle.std.specs.Result.{result_map_both}
use Rattle.liszt_base.specs.declared.answers.Place.{Place}
use Rattle.liszt_base.specs.declared.answers.ProgramFault.{ProgramFault}
use Rattle.liszt_lexer.specs.declared.token.Token.{Token as TokenOf}
use Rattle.liszt_lexer.specs.Lexer.{tokens_of, end_of}

-- The tokens in the order of the text, and the place of the end of the text.
pub record LexedText : Type 0 where
  pub tokens : List TokenOf
  pub end : Place

-- The tokens of a text with the place of its end, or the first fault of the text.
abbrev pub lexed_text : List ℕ → Result LexedText ProgramFault
lexed_text text =
    result_map_both (λ tokens. record { tokens = tokens; end = end_of text }) (λ fault. fault)
    (tokens_of text)
