-- The laws of the readers of expressions, and the productions of expressions as readers one after the other.
use Rattle.std.proofs.Common.{◌≡◌, ◌<◌, Some, List, [], ◌∷◌, ◌++◌, map, refl, sym, ap, subst}
use Rattle.std.specs.Prelude.{pos}
use Rattle.liszt_lexer.specs.declared.token.TokenKind.TheVariants.{Number as NumberToken, Symbol}
use Rattle.liszt_tree.specs.declared.tree.Level.{Level}
use Rattle.liszt_tree.specs.declared.tree.Level.TheVariants.{Or, And, Sum, Product}
use Rattle.liszt_tree.specs.declared.tree.Sign.{Sign}
use Rattle.liszt_tree.specs.declared.tree.Sign.TheVariants as sign
use Rattle.liszt_tree.specs.Tree.{Expression, Number, Chain, PlainLink, Links, no_links, link, links_of}
use Rattle.liszt_parser.specs.Grammar.{Lexeme, Rank, chain, comparison, prefix_expression, primary_expression, operand, lowest_rank, sign_of, open_bracket, close_bracket, IsExpression, one_operand, chained, one_sum, no_prefix, number, IsLinks, no_more_links, linked, bracketed}
use Rattle.liszt_parser.specs.Internal.Sorts.{strength, strength_at, rank_strength, Stops}
use Rattle.liszt_parser.specs.Internal.Reading.{Reader, SameHead, IsRead, token_with_value, ◌then◌, HeadIs, HasValue}
use Rattle.liszt_parser.specs.Internal.Productions.{expressions, links, brackets, chain_tree}
use Rattle.liszt_parser.proofs.OneExpression.{one_expression, one_links, one_bracketed, sign_continues, links_stop}
use Rattle.liszt_parser.proofs.Faults.{up}
use Rattle.liszt_parser.proofs.Readers.{Lawful, Behind, Loose, Becomes, head_by, then_lawful, free_after}
use Rattle.liszt_parser.proofs.StepLemmas.{Part}
use Rattle.liszt_parser.proofs.TokenReaders.{free, of_kind, chosen_lawful}

-- LAWS
strength_same : (left other : List Lexeme) → SameHead left other → strength_at left ≡ strength_at other
strength_same [] [] h = refl
strength_same (t ∷ left) (u ∷ other) h = ap (λ (z : Lexeme). strength z.kind) h
strength_same [] (u ∷ other) h = absurd h
strength_same (t ∷ left) [] h = absurd h

pub stops_same : (rank : Rank) (left other : List Lexeme) → SameHead left other → Stops rank left → Stops rank other
stops_same rank left other h stop = let same = strength_same left other h in subst (λ n. n < rank_strength rank) same stop

-- a number is an expression of each rank
pub number_first : Lexeme
number_first = of_kind (NumberToken (pos 0))

abbrev pub one_number : List Lexeme
one_number = of_kind (NumberToken (pos 0)) ∷ []

abbrev pub number_tree : Expression
number_tree = Number (of_kind (NumberToken (pos 0))).place (pos 0)

pub number_read : (rank : Rank) (left : List Lexeme) → IsExpression rank (one_number ++ left) number_tree left
number_read primary_expression left = number _ refl
number_read prefix_expression left = no_prefix (number _ refl)
number_read (chain Product) left = one_operand (no_prefix (number _ refl))
number_read (chain Sum) left = one_operand (one_operand (no_prefix (number _ refl)))
number_read comparison left = one_sum (one_operand (one_operand (no_prefix (number _ refl))))
number_read (chain And) left = one_operand (one_sum (one_operand (one_operand (no_prefix (number _ refl)))))
number_read (chain Or) left = up (number _ refl)

pub expressions_lawful : (rank : Rank) → Lawful (expressions rank)
expressions_lawful rank =
    record {
      one = λ ts left left' e e' d stop d' stop'. one_expression d stop e' left' d' stop';
      by_head = stops_same rank;
      fits_head = λ left other h. tt;
      tokens = one_number;
      some = number_tree;
      reads_some = number_read rank;
    }

pub links_lawful : (level : Level) → Lawful (links level)
links_lawful level =
    record {
      one = λ ts left left' e e' d stop d' stop'. one_links d stop e' left' d' stop';
      by_head = stops_same (chain level);
      fits_head = λ left other h. tt;
      tokens = [];
      some = no_links;
      reads_some = λ left. no_more_links;
    }

pub brackets_lawful : Lawful brackets
brackets_lawful =
    record {
      one = λ ts left left' e e' d stop d' stop'. one_bracketed d e' left' d';
      by_head = λ left other h stop. tt;
      fits_head = λ left other h. tt;
      tokens = of_kind open_bracket ∷ (one_number ++ of_kind close_bracket ∷ []);
      some = number_tree;
      reads_some = λ left. bracketed _ _ refl (number_read lowest_rank _) refl;
    }

pub operand_links : (level : Level) → Behind (expressions (operand level)) (links level)
operand_links level = record { stops = λ mid left x d stop. links_stop d stop; fits = λ mid other x d h. tt }

-- CHAINS
pub chain_becomes : (level : Level) (ts : List Lexeme)
    → Becomes (expressions (chain level)) (expressions (operand level) then links level) (λ x. chain_tree level x.0 x.1) ts
chain_becomes level ts = record { into = λ us left x d. into us left d.0 x.0 x.1 d.1 d.2; out = out; fits = λ left other h. tt }
  where
    into : (us left mid : List Lexeme) (first : Expression) (more : Links) → IsExpression (operand level) us first mid
        → IsLinks level mid more left → IsExpression (chain level) us (chain_tree level first more) left
    into us left mid first more d no_more_links = one_operand d
    into us left mid first more d (linked t h d' l) = chained d (linked t h d' l)

    out : (other left : List Lexeme) (e : Expression) → SameHead ts other → IsExpression (chain level) other e left → Stops (chain level) left
        → (x : Expression × Links) × ((mid : List Lexeme) × IsExpression (operand level) other x.0 mid × IsLinks level mid x.1 left)
        × Stops (chain level) left × (e ≡ chain_tree level x.0 x.1)
    out other left e h (one_operand d) stop = ((e, no_links), (left, d, no_more_links), stop, refl)
    out other left e h (chained {mid} {first} {e = e'} {s} {place} {more} d l) stop = ((first, link s place e' more), (mid, d, l), stop, refl)

-- a further operand, where the first token is an operator of the level
abbrev pub further : Level → Reader ((Lexeme × Sign) × Expression)
further level = token_with_value (sign_of level) then expressions (operand level)

abbrev pub link_before : ((Lexeme × Sign) × Expression) × Links → Links
link_before x = link x.0.0.1 x.0.0.0.place x.0.1 x.1

pub sign_lawful : (level : Level) → Lawful (token_with_value (sign_of level))
sign_lawful Or = chosen_lawful (sign_of Or) (Symbol 15) sign.Or refl
sign_lawful And = chosen_lawful (sign_of And) (Symbol 14) sign.And refl
sign_lawful Sum = chosen_lawful (sign_of Sum) (Symbol 16) sign.Plus refl
sign_lawful Product = chosen_lawful (sign_of Product) (Symbol 18) sign.Times refl

pub further_lawful : (level : Level) → Lawful (further level)
further_lawful level = then_lawful (sign_lawful level) (expressions_lawful (operand level)) (free_after free)

pub further_links : (level : Level) → Behind (further level) (links level)
further_links level = record { stops = λ mid left x d stop. links_stop d stop; fits = λ mid other x d h. tt }

pub links_becomes : (level : Level) (ts : List Lexeme) → HeadIs (HasValue (sign_of level)) ts
    → Becomes (links level) (further level then links level) link_before ts
links_becomes level ts first =
    record {
      into = λ us left x d. into us left d.1.0 d.0 x.0.0 x.0.1 x.1 d.1.1 d.1.2 d.2;
      out = λ other left e h d stop. out other left e (head_by (HasValue (sign_of level)) ts other h first) d stop;
      fits = λ left other h. tt;
    }
  where
    into : (us left mid mid' : List Lexeme) (x : Lexeme × Sign) (e : Expression) (more : Links) → (us ≡ x.0 ∷ mid) × (sign_of level x.0.kind ≡ Some x.1)
        → IsExpression (operand level) mid e mid' → IsLinks level mid' more left → IsLinks level us (link x.1 x.0.place e more) left
    into us left mid mid' x e more h d l = subst (λ m. IsLinks level m (link x.1 x.0.place e more) left) (sym h.0) (linked x.0 h.1 d l)

    out : (other left : List Lexeme) (e : Links) → HeadIs (HasValue (sign_of level)) other → IsLinks level other e left → Stops (chain level) left
        → (x : ((Lexeme × Sign) × Expression) × Links)
        × ((mid' : List Lexeme) × ((mid : List Lexeme) × ((other ≡ x.0.0.0 ∷ mid) × (sign_of level x.0.0.0.kind ≡ Some x.0.0.1)) × IsExpression (operand level) mid x.0.1 mid')
        × IsLinks level mid' x.1 left) × Stops (chain level) left × (e ≡ link_before x)
    out [] left e h d stop = absurd h
    out (u ∷ us) left e h no_more_links stop = sign_continues level u us h.0 h.1 stop
    out (u ∷ us) left e h (linked {mid} {e = e'} {s = s'} {more} u' h' d l) stop =
        ((((u', s'), e'), more), (mid, (us, (refl, h'), d), l), stop, refl)

pub sign_part : (level : Level) → Part (token_with_value (sign_of level))
sign_part level = record { law = sign_lawful level; free = free }

pub further_loose : (level : Level) → Loose (further level) (links level)
unfolding Loose
further_loose level mid other left x d h = tt

pub no_links_read : (level : Level) (ts : List Lexeme) → Stops (chain level) ts → IsRead (links level) ts no_links ts
no_links_read level ts stop = record { front = []; parts = refl; reads_on = λ other h. no_more_links; stops = stop }

-- an operand alone, and a chain
pub joined_none : {T : Type 0} (level : Level) (first : Expression) (f : T → PlainLink) (rest : List T) → rest ≡ []
    → chain_tree level first (links_of (map f rest)) ≡ first
joined_none level first f rest e = ap (λ z. chain_tree level first (links_of (map f z))) e

pub joined_some : {T : Type 0} (level : Level) (first : Expression) (f : T → PlainLink) (rest : List T) → (rest ≡ [] → ⊥)
    → chain_tree level first (links_of (map f rest)) ≡ Chain level first (links_of (map f rest))
joined_some level first f [] n = absurd (n refl)
joined_some level first f (l ∷ rest) n = refl
