-- What closes a statement, as a parser sees it.
use Rattle.std.proofs.Common.{◌≡◌, List, [], ◌∷◌, refl, sym, ap, subst, ◌∙◌, Bool, true, false}
use Rattle.liszt_parser.specs.Grammar.{Lexeme, close_brace, semicolon, Closes, by_semicolon, by_brace, by_end}
use Rattle.liszt_parser.specs.Internal.Reading.{SameHead, IsRead, IsStuck, EndsAt}
use Rattle.liszt_parser.specs.Internal.Sorts.{Ends}
use Rattle.liszt_parser.specs.Internal.Productions.{closings}
use Rattle.liszt_parser.proofs.Readers.{stuck_at_once}
use Rattle.liszt_parser.proofs.HeadLemmas.{end_is}
use Rattle.liszt_parser.proofs.Sorts.{sort_end}
use Rattle.liszt_parser.proofs.StatementReaders.{closings_lawful}

pub semicolon_read : (t : Lexeme) (ts left : List Lexeme) → ts ≡ t ∷ left → t.kind ≡ semicolon → IsRead closings ts tt left
semicolon_read t ts left e h = record { front = t ∷ []; parts = e; reads_on = λ other k. by_semicolon t h; stops = tt }

closes_end : (other : List Lexeme) → Ends other → Closes other other
closes_end [] h = by_end
closes_end (t ∷ ts) h = by_brace t (end_is t.kind h)

pub end_read : (ts : List Lexeme) → Ends ts → IsRead closings ts tt ts
end_read ts ends = record { front = []; parts = refl; reads_on = λ other fits. closes_end other (fits ends); stops = tt }

pub brace_ends : (t : Lexeme) (ts left : List Lexeme) → ts ≡ t ∷ left → t.kind ≡ close_brace → Ends ts
brace_ends t ts left e h = subst Ends (sym e) (sort_end h)

pub nothing_ends : (ts : List Lexeme) → ts ≡ [] → Ends ts
nothing_ends ts e = subst Ends (sym e) refl

pub other_continues : (t : Lexeme) (ts left : List Lexeme) → ts ≡ t ∷ left → (t.kind ≡ close_brace → ⊥) → Ends ts → ⊥
other_continues t ts left e n ends = n (end_is t.kind (subst Ends e ends))

pub nothing_closes : (t : Lexeme) (ts left : List Lexeme) → ts ≡ t ∷ left → (t.kind ≡ semicolon → ⊥) → (t.kind ≡ close_brace → ⊥)
    → IsStuck closings ts ts
nothing_closes t ts left e n n' = stuck_at_once closings ts closings_lawful (λ other left' x h d stop. ends other left' (subst (λ z. SameHead z other) e h) d)
  where
    ends : (other left' : List Lexeme) → SameHead (t ∷ left) other → Closes other left' → ⊥
    ends (u ∷ us) left' h (by_semicolon v k) = n (ap (λ (z : Lexeme). z.kind) h ∙ k)
    ends (u ∷ us) left' h (by_brace v k) = n' (ap (λ (z : Lexeme). z.kind) h ∙ k)
    ends [] left' h d = h

pub ends_by : (t : Lexeme) (ts left : List Lexeme) (b : Bool) → ts ≡ t ∷ left → (b ≡ true → t.kind ≡ close_brace)
    → (b ≡ false → t.kind ≡ close_brace → ⊥) → EndsAt ts b
ends_by t ts left true e h n = brace_ends t ts left e (h refl)
ends_by t ts left false e h n = other_continues t ts left e (n refl)
