-- How deep the tokens of a text are after a prefix of it, and what tokens do to that.
use Rattle.std.proofs.Common.{◌≡◌, ℕ, suc, ◌+◌, ◌-◌, ◌≤◌, ◌==◌, ◌&&◌, not, cond, Bool, true, false, Option, Some, None, List, []}
use Rattle.std.proofs.Common.{◌∷◌, ◌++◌, refl, sym, ap, subst, ◌∙◌, append_assoc, arith}
use Rattle.std.specs.List.{count_by}
use Rattle.std.proofs.Math.Bool.{and-false}
use Rattle.std.proofs.lemmas.Bool.{ne_eqb}
use Rattle.std.proofs.lemmas.List.{append-nil}
use Rattle.std.proofs.lemmas.List.Sums.{sum_by-append}
use Rattle.liszt_lexer.specs.declared.token.TokenKind.{TokenKind}
use Rattle.liszt_tree.specs.Tree.{nowhere}
use Rattle.liszt_parser.specs.Depth.{is_open_bracket, is_close_bracket, is_opening, is_closing, is_minus, is_bang, closes_bracket, holds_operand, is_operand_end, is_prefix, pending_prefixes, depth}
use Rattle.liszt_parser.specs.Grammar.{Lexeme}
use Rattle.liszt_base.specs.Limits.{depth_limit}

-- KINDS OF TOKENS. What depth sees of a token is its kind.
abbrev pub of_kind : TokenKind → Lexeme
of_kind kind = record { kind = kind; place = nowhere; bytes = [] }

-- no bracket and no brace
pub record IsPlain (kind : TokenKind) : Type 0 where
  pub no_open : is_open_bracket (of_kind kind) ≡ false
  pub no_close : is_close_bracket (of_kind kind) ≡ false
  pub no_opens : is_opening (of_kind kind) ≡ false
  pub no_closes : is_closing (of_kind kind) ≡ false
  pub no_bang : is_bang (of_kind kind) ≡ false

-- and no prefix operator
pub record IsQuiet (kind : TokenKind) : Type 0 where
  pub plain : IsPlain kind
  pub no_minus : is_minus (of_kind kind) ≡ false

-- a prefix operator
pub record IsOperator (kind : TokenKind) : Type 0 where
  pub no_open : is_open_bracket (of_kind kind) ≡ false
  pub no_close : is_close_bracket (of_kind kind) ≡ false
  pub no_opens : is_opening (of_kind kind) ≡ false
  pub no_closes : is_closing (of_kind kind) ≡ false
  pub no_end : is_operand_end (Some (of_kind kind)) ≡ false
  pub holds : (ts : List Lexeme) → holds_operand (of_kind kind ∷ ts) ≡ holds_operand ts
  pub prefix : (before : Option Lexeme) → is_operand_end before ≡ false → is_prefix before (of_kind kind) ≡ true

-- COUNTS
pub counted : (p : Lexeme → Bool) (xs ys : List Lexeme) → count_by p (xs ++ ys) ≡ count_by p xs + count_by p ys
counted p xs ys = sum_by-append (λ x. cond (p x) 1 0) xs ys

pub not_counted : (p : Lexeme → Bool) (t : Lexeme) (ts : List Lexeme) → p t ≡ false → count_by p (t ∷ ts) ≡ count_by p ts
not_counted p t ts e =
    let here : count_by p (t ∷ []) ≡ 0 = ap (λ b. 0 + cond b 1 0) e in
    omega (arith, here, counted p (t ∷ []) ts)

pub one_counted : (p : Lexeme → Bool) (t : Lexeme) (ts : List Lexeme) → p t ≡ true → count_by p (t ∷ ts) ≡ suc (count_by p ts)
one_counted p t ts e =
    let here : count_by p (t ∷ []) ≡ 1 = ap (λ b. 0 + cond b 1 0) e in
    omega (arith, here, counted p (t ∷ []) ts)

-- BRACKETS THAT CLOSE
pub plain_skips : (t : Lexeme) (n : ℕ) (ts : List Lexeme) → is_open_bracket t ≡ false → is_close_bracket t ≡ false
    → closes_bracket n (t ∷ ts) ≡ closes_bracket n ts
plain_skips t n ts no_open no_close = rw (no_open, no_close) refl

pub opening_step : (t : Lexeme) (n : ℕ) (ts : List Lexeme) → is_open_bracket t ≡ true → is_close_bracket t ≡ false
    → closes_bracket n (t ∷ ts) ≡ closes_bracket (suc n) ts
opening_step t n ts is_open no_close =
    let one : n + 1 ≡ suc n = omega arith in
    rw (is_open, no_close, one) refl

pub closing_step : (t : Lexeme) (n : ℕ) (ts : List Lexeme) → is_open_bracket t ≡ false → is_close_bracket t ≡ true
    → closes_bracket (suc (suc n)) (t ∷ ts) ≡ closes_bracket (suc n) ts
closing_step t n ts no_open is_close =
    let two : (suc (suc n) == 1) ≡ false = ne_eqb (suc (suc n)) 1 (λ e. absurd (omega arith)) in
    let less : suc (suc n) - 1 ≡ suc n = omega arith in
    rw (no_open, is_close, two, less) refl

pub closing_last : (t : Lexeme) (ts : List Lexeme) → is_close_bracket t ≡ true → closes_bracket 1 (t ∷ ts) ≡ true
closing_last t ts is_close = rw is_close refl

-- PREFIX OPERATORS that wait for the end of their operand
pub passes : (before : Option Lexeme) (t : Lexeme) (ts : List Lexeme) → is_prefix before t ≡ false
    → pending_prefixes before (t ∷ ts) ≡ pending_prefixes (Some t) ts
passes before t ts no_prefix =
    let here : ◌≡◌ {A = ℕ} (cond (is_prefix before t && not (holds_operand ts)) 1 0) 0 = ap (λ b. cond (b && not (holds_operand ts)) 1 0) no_prefix in
    omega (arith, here)

pub quiet_is_no_prefix : (before : Option Lexeme) (t : Lexeme) → IsQuiet t.kind → is_prefix before t ≡ false
quiet_is_no_prefix before t h =
    let no_bang : is_bang t ≡ false = h.plain.no_bang in
    let no_minus : is_minus t ≡ false = h.no_minus in
    rw (no_bang, no_minus) refl

pub plain_after_operand : (before : Option Lexeme) (t : Lexeme) → IsPlain t.kind → is_operand_end before ≡ true → is_prefix before t ≡ false
plain_after_operand before t h ended =
    let no_bang : is_bang t ≡ false = h.no_bang in
    rw (no_bang, ended) (and-false (is_minus t))

-- what is counted unless it is told
abbrev pub unless : Bool → ℕ → ℕ
unless true p = 0
unless false p = p

pub unless_none : (b : Bool) (p : ℕ) → p ≡ 0 → unless b p ≡ 0
unless_none true p e = refl
unless_none false p e = e

pub unless_less : (b : Bool) (p : ℕ) → unless b p ≤ p
unless_less true p = omega arith
unless_less false p = omega arith

-- FRONTS. Tokens that do not close the innermost open bracket, and whether they begin with a bracket.
abbrev pub StaysInside : List Lexeme → Type 0
StaysInside ts = (n : ℕ) → closes_bracket (suc n) ts ≡ false

abbrev pub begins_open : List Lexeme → Bool
begins_open [] = false
begins_open (t ∷ ts) = is_open_bracket t

-- After a front with n open brackets and braces, n prefix operators wait for a bracket to close, and n for the
-- operand that comes; its last token is known, and whether a bracket may come next.
pub record Front (front : List Lexeme) (before : Option Lexeme) (open_ waiting_operands coming : ℕ) (stop : Bool) : Type 0 where
  pub opened : count_by is_opening front ≡ count_by is_closing front + open_
  pub pends : (ts : List Lexeme) → StaysInside ts → (stop ≡ true → begins_open ts ≡ false)
      → pending_prefixes None (front ++ ts) ≡ waiting_operands + unless (holds_operand ts) coming + pending_prefixes before ts

pub depth_of : {front : List Lexeme} {before : Option Lexeme} {k q p : ℕ} {stop : Bool} → Front front before k q p stop → depth front ≡ k + q + p
depth_of {front} {before} {k} {q} {p} h =
    let here : pending_prefixes None (front ++ []) ≡ q + p + 0 = h.pends [] (λ n. refl) (λ e. refl) in
    let whole : pending_prefixes None (front ++ []) ≡ pending_prefixes None front = ap (pending_prefixes None) (append-nil front) in
    omega (arith, here, whole, h.opened)

pub no_front : Front [] None 0 0 0 false
no_front = record { opened = refl; pends = λ ts inside stop. nothing ts } where
  nothing : (ts : List Lexeme) → pending_prefixes None ts ≡ 0 + unless (holds_operand ts) 0 + pending_prefixes None ts
  nothing ts = let none = unless_none (holds_operand ts) 0 refl in omega (arith, none)

-- DEPTHS that are at most 64, at a front and at each token after it
abbrev pub ShallowIn : List Lexeme → List Lexeme → Type 0
ShallowIn front [] = depth front ≤ depth_limit
ShallowIn front (t ∷ ts) = (depth front ≤ depth_limit) × ShallowIn (front ++ t ∷ []) ts

pub shallow_here : (front ts : List Lexeme) → ShallowIn front ts → depth front ≤ depth_limit
shallow_here front [] h = h
shallow_here front (t ∷ ts) h = h.0

pub chain_tree : (front ts more : List Lexeme) → ShallowIn front ts → ShallowIn (front ++ ts) more → ShallowIn front (ts ++ more)
chain_tree front [] more h h' = subst (λ l. ShallowIn l more) (append-nil front) h'
chain_tree front (t ∷ ts) more h h' =
    (h.0, chain_tree (front ++ t ∷ []) ts more h.1 (subst (λ l. ShallowIn l more) (sym (append_assoc front (t ∷ []) ts)) h'))

pub parted : (front ts more : List Lexeme) → ShallowIn front (ts ++ more) → ShallowIn front ts × ShallowIn (front ++ ts) more
parted front [] more h = (shallow_here front more h, subst (λ l. ShallowIn l more) (sym (append-nil front)) h)
parted front (t ∷ ts) more h =
    let r = parted (front ++ t ∷ []) ts more h.1 in
    ((h.0, r.0), subst (λ l. ShallowIn l more) (append_assoc front (t ∷ []) ts) r.1)

-- ONE TOKEN MORE
pub after : {front : List Lexeme} {before : Option Lexeme} {k q : ℕ} {stop : Bool} (t : Lexeme) → Front front before k q 0 stop
    → IsPlain t.kind → is_prefix before t ≡ false → Front (front ++ t ∷ []) (Some t) k q 0 false
after {front} {before} {k} {q} {stop} t h plain no_prefix =
    record {
      opened =
          omega (
            arith,
            h.opened,
            counted is_opening front (t ∷ []),
            counted is_closing front (t ∷ []),
            not_counted is_opening t [] plain.no_opens,
            not_counted is_closing t [] plain.no_closes,
          );
      pends = λ ts inside free. step ts inside;
    }
  where
    step : (ts : List Lexeme) → StaysInside ts
        → pending_prefixes None (front ++ t ∷ [] ++ ts) ≡ q + unless (holds_operand ts) 0 + pending_prefixes (Some t) ts
    step ts inside =
        let whole : pending_prefixes None (front ++ t ∷ [] ++ ts) ≡ pending_prefixes None (front ++ (t ∷ ts)) = ap (pending_prefixes None) (append_assoc front (t ∷ []) ts) in
        let here = h.pends (t ∷ ts) (λ n. plain_skips t (suc n) ts plain.no_open plain.no_close ∙ inside n) (λ e. plain.no_open) in
        let none = unless_none (holds_operand (t ∷ ts)) 0 refl in
        let none' = unless_none (holds_operand ts) 0 refl in
        omega (arith, whole, here, none, none', passes before t ts no_prefix)

-- a prefix operator
pub after_operator : {front : List Lexeme} {before : Option Lexeme} {k q p : ℕ} (t : Lexeme) → Front front before k q p false
    → IsOperator t.kind → is_operand_end before ≡ false → Front (front ++ t ∷ []) (Some t) k q (suc p) false
after_operator {front} {before} {k} {q} {p} t h is fresh =
    record {
      opened =
          omega (
            arith,
            h.opened,
            counted is_opening front (t ∷ []),
            counted is_closing front (t ∷ []),
            not_counted is_opening t [] is.no_opens,
            not_counted is_closing t [] is.no_closes,
          );
      pends = λ ts inside free. step ts inside;
    }
  where
    waits : (b : Bool) (n : ℕ) → q + unless b p + (cond (true && not b) 1 0 + n) ≡ q + unless b (suc p) + n
    waits true n = omega arith
    waits false n = omega arith

    step : (ts : List Lexeme) → StaysInside ts
        → pending_prefixes None (front ++ t ∷ [] ++ ts) ≡ q + unless (holds_operand ts) (suc p) + pending_prefixes (Some t) ts
    step ts inside =
        let whole : pending_prefixes None (front ++ t ∷ [] ++ ts) ≡ pending_prefixes None (front ++ (t ∷ ts)) = ap (pending_prefixes None) (append_assoc front (t ∷ []) ts) in
        let here = h.pends (t ∷ ts) (λ n. plain_skips t (suc n) ts is.no_open is.no_close ∙ inside n) (λ e. is.no_open) in
        whole ∙ here
        ∙ ap (λ b. q + unless b p + pending_prefixes before (t ∷ ts)) (is.holds ts)
        ∙ ap (λ b. q + unless (holds_operand ts) p + (cond (b && not (holds_operand ts)) 1 0 + pending_prefixes (Some t) ts)) (is.prefix before fresh)
        ∙ waits (holds_operand ts) (pending_prefixes (Some t) ts)
