-- What depth sees of the tokens of the grammar.
use Rattle.std.proofs.Common.{◌≡◌, ℕ, ◌&&◌, not, Bool, true, false, Some, ℤ, List, [], ◌∷◌, refl, ap}
use Rattle.std.proofs.lemmas.Bool.{and_parts, not-true}
use Rattle.liszt_lexer.specs.declared.token.TokenKind.{TokenKind}
use Rattle.liszt_lexer.specs.declared.token.TokenKind.TheVariants.{Name as NameToken, Number as NumberToken, Word, Symbol, MinSet, MaxSet}
use Rattle.liszt_base.specs.declared.elements.Op.TheVariants.{Add, Mul, And as AndBits, Or as OrBits, Xor}
use Rattle.liszt_base.specs.declared.elements.Kind.{Kind}
use Rattle.liszt_base.specs.declared.elements.SetName.{SetName}
use Rattle.liszt_tree.specs.declared.tree.Fun.{Fun}
use Rattle.liszt_tree.specs.declared.tree.How.{How}
use Rattle.liszt_tree.specs.declared.tree.How.TheVariants.{Set, Fold, Less}
use Rattle.liszt_tree.specs.declared.tree.Level.{Level}
use Rattle.liszt_tree.specs.declared.tree.Level.TheVariants.{Or, And, Sum, Product}
use Rattle.liszt_tree.specs.declared.tree.Rel.{Rel}
use Rattle.liszt_tree.specs.declared.tree.Rel.TheVariants.{Same, Other, Below, AtMost, Above, AtLeast}
use Rattle.liszt_tree.specs.declared.tree.Sign.{Sign}
use Rattle.liszt_tree.specs.declared.tree.Sign.TheVariants as sign
use Rattle.liszt_parser.specs.Depth.{is_open_bracket, is_close_bracket, is_opening, is_closing, is_minus, is_bang, holds_operand, is_operand_end}
use Rattle.liszt_parser.specs.Grammar.{Lexeme, fun_of, kind_of, mesh_set_of, set_of, sign_of, rel_of, how_of, open_bracket, close_bracket, open_brace, close_brace, minus, bang}
use Rattle.liszt_parser.proofs.PrefixDepthLemmas.{of_kind, IsPlain, IsQuiet, IsOperator, begins_open}
use Rattle.liszt_parser.proofs.SegmentDepthLemmas.{IsAtom, IsOpening, IsClosing, IsCaller, IsInfix, IsOpeningBrace, IsClosingBrace}
use Rattle.liszt_parser.proofs.TableLemmas.{table_symbol}

-- BY A TEST
abbrev pub is_plain : TokenKind → Bool
is_plain kind =
    not (is_open_bracket (of_kind kind)) && (not (is_close_bracket (of_kind kind)) && (not (is_opening (of_kind kind))
    && (not (is_closing (of_kind kind)) && not (is_bang (of_kind kind)))))

pub plain_of : (kind : TokenKind) → is_plain kind ≡ true → IsPlain kind
plain_of kind e =
    let t = of_kind kind in
    let a = and_parts (not (is_open_bracket t)) (not (is_close_bracket t) && (not (is_opening t) && (not (is_closing t) && not (is_bang t)))) e in
    let b = and_parts (not (is_close_bracket t)) (not (is_opening t) && (not (is_closing t) && not (is_bang t))) a.1 in
    let c = and_parts (not (is_opening t)) (not (is_closing t) && not (is_bang t)) b.1 in
    let d = and_parts (not (is_closing t)) (not (is_bang t)) c.1 in
    record {
      no_open = not-true (is_open_bracket t) a.0;
      no_close = not-true (is_close_bracket t) b.0;
      no_opens = not-true (is_opening t) c.0;
      no_closes = not-true (is_closing t) d.0;
      no_bang = not-true (is_bang t) d.1;
    }

-- a token that leads an expression, quiet and no end of one
pub record IsLead (kind : TokenKind) : Type 0 where
  pub quiet : IsQuiet kind
  pub no_end : is_operand_end (Some (of_kind kind)) ≡ false

pub quiet_of : (kind : TokenKind) → is_plain kind ≡ true → is_minus (of_kind kind) ≡ false → IsQuiet kind
quiet_of kind e no_minus = record { plain = plain_of kind e; no_minus = no_minus }

pub infix_of : (kind : TokenKind) → is_plain kind ≡ true → is_operand_end (Some (of_kind kind)) ≡ false → IsInfix kind
infix_of kind e no_end = record { plain = plain_of kind e; no_end = no_end }

pub lead_of : (kind : TokenKind) → is_plain kind ≡ true → is_minus (of_kind kind) ≡ false → is_operand_end (Some (of_kind kind)) ≡ false
    → IsLead kind
lead_of kind e no_minus no_end = record { quiet = quiet_of kind e no_minus; no_end = no_end }

-- BRACKETS, braces and prefix operators
pub opening : IsOpening open_bracket
opening = record {
  is_open = refl;
  no_close = refl;
  is_opens = refl;
  no_closes = refl;
  no_prefix = λ before. refl;
  no_end = refl;
  holds = λ ts. refl;
}

pub closing : IsClosing close_bracket
closing = record { no_open = refl; is_close = refl; no_opens = refl; is_closes = refl; no_prefix = λ before. refl; is_end = refl }

pub opening_brace : IsOpeningBrace open_brace
opening_brace = record { no_open = refl; no_close = refl; is_opens = refl; no_closes = refl; no_prefix = λ before. refl }

pub closing_brace : IsClosingBrace close_brace
closing_brace = record { no_open = refl; no_close = refl; no_opens = refl; is_closes = refl; no_prefix = λ before. refl }

pub minus_operator : IsOperator minus
minus_operator = record {
  no_open = refl;
  no_close = refl;
  no_opens = refl;
  no_closes = refl;
  no_end = refl;
  holds = λ ts. refl;
  prefix = λ before fresh. ap not fresh;
}

pub bang_operator : IsOperator bang
bang_operator = record {
  no_open = refl;
  no_close = refl;
  no_opens = refl;
  no_closes = refl;
  no_end = refl;
  holds = λ ts. refl;
  prefix = λ before fresh. refl;
}

-- NAMES, numbers and words
pub quiet_name : IsQuiet NameToken
quiet_name = quiet_of NameToken refl refl

name_holds : (ts : List Lexeme) → begins_open ts ≡ false → holds_operand (of_kind NameToken ∷ ts) ≡ true
name_holds [] free = refl
name_holds (t ∷ ts) free = rw free refl

pub name_atom : IsAtom NameToken
name_atom = record { quiet = quiet_name; is_end = refl; holds = name_holds }

pub number_atom : (n : ℤ) → IsAtom (NumberToken n)
number_atom n = record { quiet = quiet_of (NumberToken n) refl refl; is_end = refl; holds = λ ts free. refl }

pub name_caller : IsCaller NameToken
name_caller = record { quiet = quiet_name; calls = λ o ts is. rw is refl }

pub word_caller : (place : ℕ) → IsCaller (Word place)
word_caller place = record { quiet = quiet_of (Word place) refl refl; calls = λ o ts is. rw is refl }

pub word_lead : (place : ℕ) → IsLead (Word place)
word_lead place = lead_of (Word place) refl refl refl

-- BY TABLES. What denotes a function, a kind or a set is a word.
pub fun_caller : (kind : TokenKind) (fun : Fun) → fun_of kind ≡ Some fun → IsCaller kind
fun_caller (Word place) fun e = word_caller place
fun_caller _ fun e = cc

pub kind_lead : (kind : TokenKind) (of : Kind) → kind_of kind ≡ Some of → IsLead kind
kind_lead (Word place) of e = word_lead place
kind_lead _ of e = cc

pub whole_caller : (kind : TokenKind) (of : Kind) → mesh_set_of kind ≡ Some of → IsCaller kind
whole_caller (Word place) of e = word_caller place
whole_caller _ of e = cc

pub set_caller : (kind : TokenKind) (set : SetName) → set_of kind ≡ Some set → IsCaller kind
set_caller (Word place) set e = word_caller place
set_caller _ set e = cc

-- Operators and assignments are symbols of their tables.
pub sign_infix : (level : Level) (kind : TokenKind) (s : Sign) → sign_of level kind ≡ Some s → IsInfix kind
sign_infix Or kind s e = table_symbol (λ kind x. IsInfix kind) ((15, sign.Or) ∷ []) kind s (infix_of (Symbol 15) refl refl, tt) e
sign_infix And kind s e = table_symbol (λ kind x. IsInfix kind) ((14, sign.And) ∷ []) kind s (infix_of (Symbol 14) refl refl, tt) e
sign_infix Sum kind s e =
    table_symbol (λ kind x. IsInfix kind) ((16, sign.Plus) ∷ (17, sign.Minus) ∷ []) kind s
    (infix_of (Symbol 16) refl refl, (infix_of (Symbol 17) refl refl, tt)) e
sign_infix Product kind s e =
    table_symbol (λ kind x. IsInfix kind) ((18, sign.Times) ∷ (19, sign.Over) ∷ (20, sign.Rest) ∷ []) kind s
    (infix_of (Symbol 18) refl refl, (infix_of (Symbol 19) refl refl, (infix_of (Symbol 20) refl refl, tt))) e

pub rel_infix : (kind : TokenKind) (rel : Rel) → rel_of kind ≡ Some rel → IsInfix kind
rel_infix kind rel e =
    table_symbol (λ kind x. IsInfix kind) ((8, Same) ∷ (9, Other) ∷ (10, AtMost) ∷ (11, AtLeast) ∷ (12, Below) ∷ (13, Above) ∷ []) kind rel (
      infix_of (Symbol 8) refl refl,
      (
        infix_of (Symbol 9) refl refl,
        (
          infix_of (Symbol 10) refl refl,
          (infix_of (Symbol 11) refl refl, (infix_of (Symbol 12) refl refl, (infix_of (Symbol 13) refl refl, tt))),
        ),
      ),
    ) e

pub how_lead : (kind : TokenKind) (how : How) → how_of kind ≡ Some how → IsLead kind
how_lead MinSet how e = lead_of MinSet refl refl refl
how_lead MaxSet how e = lead_of MaxSet refl refl refl
how_lead (Symbol place) how e =
    table_symbol (λ kind x. IsLead kind)
    ((22, Set) ∷ (23, Fold Add) ∷ (24, Less) ∷ (25, Fold Mul) ∷ (26, Fold AndBits) ∷ (27, Fold OrBits) ∷ (28, Fold Xor) ∷ []) (Symbol place) how (
      lead_of (Symbol 22) refl refl refl,
      (
        lead_of (Symbol 23) refl refl refl,
        (
          lead_of (Symbol 24) refl refl refl,
          (
            lead_of (Symbol 25) refl refl refl,
            (
              lead_of (Symbol 26) refl refl refl,
              (
                lead_of (Symbol 27) refl refl refl,
                (lead_of (Symbol 28) refl refl refl, tt),
              ),
            ),
          ),
        ),
      ),
    ) e
how_lead _ how e = cc
