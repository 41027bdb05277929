-- The tokens of a text with the place of its end.
use Rattle.std.proofs.Common.{◌≡◌, ℕ, List, Result, Ok, Err, refl, sym, ap, ◌∙◌}
use Rattle.std.specs.Result.{result_map_both}
use Rattle.liszt_base.specs.declared.answers.Place.{Place}
use Rattle.liszt_base.specs.declared.answers.ProgramFault.{ProgramFault}
use Rattle.liszt_lexer.specs.declared.token.Token.{Token as TokenOf}
use Rattle.liszt_lexer.specs.Lexer.{tokens_of, end_of}
use Rattle.liszt_lexer.specs.Lexed.{LexedText, lexed_text}

abbrev with_end : List ℕ → Result (List TokenOf) ProgramFault → Result LexedText ProgramFault
with_end text result = result_map_both (λ tokens. record { tokens = tokens; end = end_of text }) (λ fault. fault) result

-- a fault of the tokens is the text's
pub lexed_fault : (text : List ℕ) (fault : ProgramFault) → tokens_of text ≡ Err fault → lexed_text text ≡ Err fault
lexed_fault text fault e = ap (with_end text) e

pub lexed_tokens : (text : List ℕ) (tokens : List TokenOf) (place : Place) → tokens_of text ≡ Ok tokens → place ≡ end_of text
    → lexed_text text ≡ Ok (record { tokens = tokens; end = place })
lexed_tokens text tokens place e p = ap (with_end text) e ∙ ap (λ q. Ok (record { tokens = tokens; end = q })) (sym p)

-- and back
pub lexed_parts : (text : List ℕ) (list : LexedText) → lexed_text text ≡ Ok list → (tokens_of text ≡ Ok list.tokens) × (list.end ≡ end_of text)
lexed_parts text list e = go (tokens_of text) refl e where
  go : (r : Result (List TokenOf) ProgramFault) → tokens_of text ≡ r → with_end text r ≡ Ok list
      → (tokens_of text ≡ Ok list.tokens) × (list.end ≡ end_of text)
  go (Ok tokens) is h =
      let same : record { tokens = tokens; end = end_of text } ≡ list = cc in
      (is ∙ ap (λ (l : LexedText). Ok l.tokens) same, sym (ap (λ (l : LexedText). l.end) same))
  go (Err fault) is h = cc

pub lexed_fault_parts : (text : List ℕ) (fault : ProgramFault) → lexed_text text ≡ Err fault → tokens_of text ≡ Err fault
lexed_fault_parts text fault e = go (tokens_of text) refl e where
  go : (r : Result (List TokenOf) ProgramFault) → tokens_of text ≡ r → with_end text r ≡ Err fault → tokens_of text ≡ Err fault
  go (Ok tokens) is h = cc
  go (Err other) is h = let same : other ≡ fault = cc in is ∙ ap Err same
