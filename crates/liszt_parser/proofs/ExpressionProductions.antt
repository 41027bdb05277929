-- The productions of comparisons and of primary expressions, as readers one after the other.
use Rattle.std.proofs.Common.{◌≡◌, ℤ, Option, Some, None, List, [], ◌∷◌, refl, sym, ap, subst, ◌∙◌, arith}
use Rattle.std.specs.Prelude.{⊤, pos}
use Rattle.liszt_lexer.specs.declared.token.TokenKind.{TokenKind}
use Rattle.liszt_lexer.specs.declared.token.TokenKind.TheVariants.{Name as NameToken, Number as NumberToken, Word, Symbol}
use Rattle.liszt_tree.specs.declared.tree.Fun.{Fun}
use Rattle.liszt_tree.specs.declared.tree.Fun.TheVariants.{Head}
use Rattle.liszt_tree.specs.declared.tree.Level.TheVariants.{Sum}
use Rattle.liszt_tree.specs.declared.tree.Rel.{Rel}
use Rattle.liszt_tree.specs.declared.tree.Rel.TheVariants.{Same}
use Rattle.liszt_tree.specs.Tree.{Expression, Number, Name, Field, Call, Towards, Neg, Not}
use Rattle.liszt_parser.specs.Grammar.{Lexeme, chain, comparison, prefix_expression, primary_expression, lowest_rank, fun_of, rel_of, open_bracket, close_bracket, comma, minus, bang, towards_word, IsExpression, one_sum, compared, no_prefix, negation, logical_not, number, name, field, call, towards, in_brackets, IsBracketed, bracketed}
use Rattle.liszt_parser.specs.Internal.Sorts.{Stops}
use Rattle.liszt_parser.specs.Internal.Reading.{Reader, SameHead, token, token_with_value, ◌then◌, mapped_reader, HeadIs, Is, HasValue, HeadIsNot, ReadsOptional}
use Rattle.liszt_parser.specs.Internal.Productions.{expressions, brackets, compared_with, seconds, argument_of, arguments, number_of}
use Rattle.liszt_parser.proofs.OneExpression.{bracket_opens, no_minus, no_bang, rel_stops, close_stops, comma_stops}
use Rattle.liszt_parser.proofs.Readers.{Lawful, Behind, Becomes, then_lawful, free_after, head_by, same_back}
use Rattle.liszt_parser.proofs.TokenReaders.{free, chosen_lawful, token_after, maybe_lawful, IsProgramPrefix}
use Rattle.liszt_parser.proofs.ExpressionReaders.{expressions_lawful, brackets_lawful}
use Rattle.liszt_parser.proofs.StepLemmas.{Part}
use Rattle.liszt_parser.proofs.StrengthLemmas.{no_bracket, no_comparison_left}

-- LAWS of the parts
pub rel_lawful : Lawful (token_with_value rel_of)
rel_lawful = chosen_lawful rel_of (Symbol 8) Same refl

pub rel_part : Part (token_with_value rel_of)
rel_part = record { law = rel_lawful; free = free }

pub fun_lawful : Lawful (token_with_value fun_of)
fun_lawful = chosen_lawful fun_of (Word 15) Head refl

pub number_lawful : Lawful (token_with_value number_of)
number_lawful = chosen_lawful number_of (NumberToken (pos 0)) (pos 0) refl

pub second_lawful : Lawful (token_with_value rel_of then expressions (chain Sum))
second_lawful = then_lawful rel_lawful (expressions_lawful (chain Sum)) (free_after free)

second_begins : IsProgramPrefix (HasValue rel_of) (token_with_value rel_of then expressions (chain Sum))
unfolding IsProgramPrefix
second_begins ts left x d = subst (HeadIs (HasValue rel_of)) (sym d.1.0) (x.0.1, d.1.1)

pub seconds_lawful : Lawful seconds
seconds_lawful = maybe_lawful (HasValue rel_of) second_lawful second_begins

bracket_first : IsProgramPrefix (Is open_bracket) brackets
unfolding IsProgramPrefix
bracket_first ts left x (bracketed o c h d h') = h

first_open : (ts left : List Lexeme) (e : Expression) → IsBracketed ts e left → HeadIs (Is open_bracket) ts
first_open ts left e (bracketed o c h d h') = h

pub arguments_lawful : Lawful arguments
arguments_lawful = maybe_lawful (Is open_bracket) brackets_lawful bracket_first

-- what follows an expression
pub close_after : Behind (expressions lowest_rank) (token close_bracket)
close_after = token_after close_bracket close_stops

pub comma_after : {B : Type 0} (s : Reader B) → Behind (expressions lowest_rank) (token comma then s)
comma_after s =
    record {
      stops = λ mid left x d stop. subst (Stops lowest_rank) (sym d.1.0) (comma_stops x.0 d.0 d.1.1);
      fits = λ mid other x d h. tt;
    }

pub sum_seconds : Behind (expressions (chain Sum)) seconds
sum_seconds = record { stops = stops; fits = λ mid other x d h. tt }
  where
    stops : (mid left : List Lexeme) (x : Option ((Lexeme × Rel) × Expression)) → ReadsOptional (token_with_value rel_of then expressions (chain Sum)) mid x left
        → HeadIsNot (HasValue rel_of) left × Stops (chain Sum) left → Stops (chain Sum) mid
    stops mid left None d stop = subst (Stops (chain Sum)) (sym d) stop.1
    stops mid left (Some x) d stop = subst (Stops (chain Sum)) (sym d.1.0) (rel_stops x.0.0 d.0 x.0.1 d.1.1)

-- a production is a production of what it is mapped to
pub through : {A B : Type 0} {r : Reader A} {s : Reader B} {f : B → A} (ts : List Lexeme) → Becomes r s f ts → Becomes r (mapped_reader f s) (λ x. x) ts
through {A} {B} {r} {s} {f} ts b =
    record {
      into = λ us left e d. subst (λ z. r.reads us z left) (sym d.2) (b.into us left d.0 d.1);
      out = λ other left e h d stop. let y = b.out other left e h d stop in (e, (y.0, y.1, y.3), y.2, refl);
      fits = b.fits;
    }

-- COMPARISONS
pub comparison_becomes : (ts : List Lexeme)
    → Becomes (expressions comparison) (expressions (chain Sum) then seconds) (λ x. compared_with x.0 x.1) ts
comparison_becomes ts = record { into = λ us left x d. into us left d.0 x.0 x.1 d.1 d.2; out = out; fits = λ left other h. tt }
  where
    into : (us left mid : List Lexeme) (first : Expression) (x : Option ((Lexeme × Rel) × Expression)) → IsExpression (chain Sum) us first mid
        → ReadsOptional (token_with_value rel_of then expressions (chain Sum)) mid x left → IsExpression comparison us (compared_with first x) left
    into us left mid first None d e = one_sum (subst (IsExpression (chain Sum) us first) e d)
    into us left mid first (Some x) d e = compared x.0.0 (subst (IsExpression (chain Sum) us first) e.1.0 d) e.1.1 e.2

    out : (other left : List Lexeme) (e : Expression) → SameHead ts other → IsExpression comparison other e left → Stops comparison left
        → (x : Expression × Option ((Lexeme × Rel) × Expression))
        × ((mid : List Lexeme) × IsExpression (chain Sum) other x.0 mid × ReadsOptional (token_with_value rel_of then expressions (chain Sum)) mid x.1 left)
        × (HeadIsNot (HasValue rel_of) left × Stops (chain Sum) left) × (e ≡ compared_with x.0 x.1)
    out other left e h (one_sum d) stop = ((e, None), (left, d, refl), no_comparison_left left stop, refl)
    out other left e h (compared {mid} {a} {b} {rel} t d r d') stop =
        ((a, Some ((t, rel), b)), (t ∷ mid, d, (mid, (refl, r), d')), no_comparison_left left stop, refl)

-- PREFIX OPERATORS
not_both : {A : Type 0} (t : Lexeme) → t.kind ≡ minus → t.kind ≡ bang → A
not_both t h k = absurd cc

pub negated_becomes : (ts : List Lexeme) → HeadIs (Is minus) ts
    → Becomes (expressions prefix_expression) (token minus then expressions prefix_expression) (λ x. Neg x.0.place x.1) ts
negated_becomes ts first = record { into = λ us left x d. into us left d.0 x.0 x.1 d.1.0 d.1.1 d.2; out = λ other left e h d stop. out other left e (head_by (Is minus) ts other h first) d stop; fits = λ left other h. tt }
  where
    into : (us left mid : List Lexeme) (t : Lexeme) (e : Expression) → us ≡ t ∷ mid → t.kind ≡ minus → IsExpression prefix_expression mid e left
        → IsExpression prefix_expression us (Neg t.place e) left
    into us left mid t e is h d = subst (λ m. IsExpression prefix_expression m (Neg t.place e) left) (sym is) (negation t h d)

    out : (other left : List Lexeme) (e : Expression) → HeadIs (Is minus) other → IsExpression prefix_expression other e left → Stops prefix_expression left
        → (x : Lexeme × Expression)
        × ((mid : List Lexeme) × ((other ≡ x.0 ∷ mid) × (x.0.kind ≡ minus)) × IsExpression prefix_expression mid x.1 left)
        × Stops prefix_expression left × (e ≡ Neg x.0.place x.1)
    out [] left e h d stop = absurd h
    out (u ∷ us) left e h (no_prefix d) stop = no_minus u d h
    out (u ∷ us) left e h (negation {e = e'} t k d) stop = ((t, e'), (us, (refl, k), d), stop, refl)
    out (u ∷ us) left e h (logical_not t k d) stop = not_both u h k

pub denied_becomes : (ts : List Lexeme) → HeadIs (Is bang) ts
    → Becomes (expressions prefix_expression) (token bang then expressions prefix_expression) (λ x. Not x.0.place x.1) ts
denied_becomes ts first = record { into = λ us left x d. into us left d.0 x.0 x.1 d.1.0 d.1.1 d.2; out = λ other left e h d stop. out other left e (head_by (Is bang) ts other h first) d stop; fits = λ left other h. tt }
  where
    into : (us left mid : List Lexeme) (t : Lexeme) (e : Expression) → us ≡ t ∷ mid → t.kind ≡ bang → IsExpression prefix_expression mid e left
        → IsExpression prefix_expression us (Not t.place e) left
    into us left mid t e is h d = subst (λ m. IsExpression prefix_expression m (Not t.place e) left) (sym is) (logical_not t h d)

    out : (other left : List Lexeme) (e : Expression) → HeadIs (Is bang) other → IsExpression prefix_expression other e left → Stops prefix_expression left
        → (x : Lexeme × Expression)
        × ((mid : List Lexeme) × ((other ≡ x.0 ∷ mid) × (x.0.kind ≡ bang)) × IsExpression prefix_expression mid x.1 left)
        × Stops prefix_expression left × (e ≡ Not x.0.place x.1)
    out [] left e h d stop = absurd h
    out (u ∷ us) left e h (no_prefix d) stop = no_bang u d h
    out (u ∷ us) left e h (negation t k d) stop = not_both u k h
    out (u ∷ us) left e h (logical_not {e = e'} t k d) stop = ((t, e'), (us, (refl, k), d), stop, refl)

pub primary_becomes : (ts : List Lexeme) → HeadIsNot (Is minus) ts → HeadIsNot (Is bang) ts
    → Becomes (expressions prefix_expression) (expressions primary_expression) (λ x. x) ts
primary_becomes ts n n' = record { into = λ us left x d. no_prefix d; out = λ other left e h d stop. out other left e h d stop; fits = λ left other h. tt }
  where
    back : (is : TokenKind → Type 0) (other : List Lexeme) → SameHead ts other → HeadIs is other → HeadIs is ts
    back is other h k = head_by is other ts (same_back ts other h) k

    stops : (left : List Lexeme) → Stops prefix_expression left → Stops primary_expression left
    stops left stop = omega arith

    out : (other left : List Lexeme) (e : Expression) → SameHead ts other → IsExpression prefix_expression other e left → Stops prefix_expression left
        → (x : Expression) × IsExpression primary_expression other x left × Stops primary_expression left × (e ≡ x)
    out other left e h (no_prefix d) stop = (e, d, stops left stop, refl)
    out (u ∷ us) left e h (negation t k d) stop = absurd (n (back (Is minus) (u ∷ us) h k))
    out (u ∷ us) left e h (logical_not t k d) stop = absurd (n' (back (Is bang) (u ∷ us) h k))

-- BRACKETS
pub bracketed_becomes : (ts : List Lexeme)
    → Becomes brackets (token open_bracket then expressions lowest_rank then token close_bracket) (λ x. x.1.0) ts
bracketed_becomes ts = record { into = λ us left x d. into us left d.0 d.2.0 x.0 x.1.1 x.1.0 d.1.0 d.1.1 d.2.1 d.2.2.0 d.2.2.1; out = λ other left e h d stop. out other left e d; fits = λ left other h. tt }
  where
    into : (us left mid mid' : List Lexeme) (o c : Lexeme) (e : Expression) → us ≡ o ∷ mid → o.kind ≡ open_bracket → IsExpression lowest_rank mid e mid'
        → mid' ≡ c ∷ left → c.kind ≡ close_bracket → IsBracketed us e left
    into us left mid mid' o c e is h d is' h' =
        subst (λ m. IsBracketed m e left) (sym is) (bracketed o c h (subst (IsExpression lowest_rank mid e) is' d) h')

    out : (other left : List Lexeme) (e : Expression) → IsBracketed other e left
        → (x : Lexeme × (Expression × Lexeme)) × ((mid : List Lexeme) × ((other ≡ x.0 ∷ mid) × (x.0.kind ≡ open_bracket))
        × ((mid' : List Lexeme) × IsExpression lowest_rank mid x.1.0 mid' × ((mid' ≡ x.1.1 ∷ left) × (x.1.1.kind ≡ close_bracket))))
        × ⊤ × (e ≡ x.1.0)
    out other left e (bracketed {ts} o c h d h') = ((o, (e, c)), (ts, (refl, h), (c ∷ left, d, (refl, h'))), tt, refl)

-- WHAT STANDS ALONE, by its first token
pub names_become : (ts : List Lexeme) → HeadIs (Is NameToken) ts
    → Becomes (expressions primary_expression) (token NameToken then arguments) (λ x. argument_of x.0 x.1) ts
names_become ts first = record { into = λ us left x d. into us left d.0 x.0 x.1 d.1.0 d.1.1 d.2; out = λ other left e h d stop. out other left e (head_by (Is NameToken) ts other h first) d stop; fits = λ left other h. tt }
  where
    into : (us left mid : List Lexeme) (t : Lexeme) (x : Option Expression) → us ≡ t ∷ mid → t.kind ≡ NameToken → ReadsOptional brackets mid x left
        → IsExpression primary_expression us (argument_of t x) left
    into us left mid t None is h d =
        subst (λ m. IsExpression primary_expression m (Name t.place t.bytes) left) (sym (is ∙ ap (λ m. t ∷ m) d)) (name t h)
    into us left mid t (Some x) is h d = subst (λ m. IsExpression primary_expression m (Field t.place t.bytes x) left) (sym is) (field t h d)

    not_fun : {A : Type 0} {fun : Fun} (kind : TokenKind) → kind ≡ NameToken → fun_of kind ≡ Some fun → A
    not_fun kind h k = absurd (cc (ap fun_of h))

    out : (other left : List Lexeme) (e : Expression) → HeadIs (Is NameToken) other → IsExpression primary_expression other e left → Stops primary_expression left
        → (x : Lexeme × Option Expression) × ((mid : List Lexeme) × ((other ≡ x.0 ∷ mid) × (x.0.kind ≡ NameToken)) × ReadsOptional brackets mid x.1 left)
        × (HeadIsNot (Is open_bracket) left × ⊤) × (e ≡ argument_of x.0 x.1)
    out [] left e h d stop = absurd h
    out (u ∷ us) left e h (number t k) stop = absurd cc
    out (u ∷ us) left e h (name t k) stop = ((t, None), (left, (refl, k), refl), (no_bracket left stop, tt), refl)
    out (u ∷ us) left e h (field {e = x} t k b) stop = ((t, Some x), (us, (refl, k), b), (no_bracket left stop, tt), refl)
    out (u ∷ us) left e h (call t k b) stop = not_fun u.kind h k
    out (u ∷ us) left e h (towards t o m c k ho d hm d' hc) stop = absurd cc
    out (u ∷ us) left e h (in_brackets b) stop = let k = bracket_opens b in absurd cc

pub calls_become : (ts : List Lexeme) → HeadIs (HasValue fun_of) ts
    → Becomes (expressions primary_expression) (token_with_value fun_of then brackets) (λ x. Call x.0.0.place x.0.1 x.1) ts
calls_become ts first = record { into = λ us left x d. into us left d.0 x.0.0 x.0.1 x.1 d.1.0 d.1.1 d.2; out = λ other left e h d stop. out other left e (head_by (HasValue fun_of) ts other h first) d stop; fits = λ left other h. tt }
  where
    into : (us left mid : List Lexeme) (t : Lexeme) (fun : Fun) (e : Expression) → us ≡ t ∷ mid → fun_of t.kind ≡ Some fun → IsBracketed mid e left
        → IsExpression primary_expression us (Call t.place fun e) left
    into us left mid t fun e is h d = subst (λ m. IsExpression primary_expression m (Call t.place fun e) left) (sym is) (call t h d)

    not_fun : {A : Type 0} (kind kind' : TokenKind) → HasValue fun_of kind → kind ≡ kind' → fun_of kind' ≡ None → A
    not_fun kind kind' h k n = let is = h.1 in absurd (cc (ap fun_of k))

    out : (other left : List Lexeme) (e : Expression) → HeadIs (HasValue fun_of) other → IsExpression primary_expression other e left → Stops primary_expression left
        → (x : (Lexeme × Fun) × Expression) × ((mid : List Lexeme) × ((other ≡ x.0.0 ∷ mid) × (fun_of x.0.0.kind ≡ Some x.0.1)) × IsBracketed mid x.1 left)
        × ⊤ × (e ≡ Call x.0.0.place x.0.1 x.1)
    out [] left e h d stop = absurd h
    out (u ∷ us) left e h (number {n} t k) stop = not_fun u.kind (NumberToken n) h k refl
    out (u ∷ us) left e h (name t k) stop = not_fun u.kind NameToken h k refl
    out (u ∷ us) left e h (field t k b) stop = not_fun u.kind NameToken h k refl
    out (u ∷ us) left e h (call {e = x} {fun} t k b) stop = (((t, fun), x), (us, (refl, k), b), tt, refl)
    out (u ∷ us) left e h (towards t o m c k ho d hm d' hc) stop = not_fun u.kind towards_word h k refl
    out (u ∷ us) left e h (in_brackets b) stop = not_fun u.kind open_bracket h (bracket_opens b) refl

pub brackets_become : (ts : List Lexeme) → HeadIs (Is open_bracket) ts → Becomes (expressions primary_expression) brackets (λ x. x) ts
brackets_become ts first = record { into = λ us left x d. in_brackets d; out = λ other left e h d stop. out other left e (head_by (Is open_bracket) ts other h first) d stop; fits = λ left other h. tt }
  where
    not_fun : {A : Type 0} {fun : Fun} (kind : TokenKind) → kind ≡ open_bracket → fun_of kind ≡ Some fun → A
    not_fun kind h k = absurd (cc (ap fun_of h))

    out : (other left : List Lexeme) (e : Expression) → HeadIs (Is open_bracket) other → IsExpression primary_expression other e left → Stops primary_expression left
        → (x : Expression) × IsBracketed other x left × ⊤ × (e ≡ x)
    out [] left e h d stop = absurd h
    out (u ∷ us) left e h (number t k) stop = absurd cc
    out (u ∷ us) left e h (name t k) stop = absurd cc
    out (u ∷ us) left e h (field t k b) stop = absurd cc
    out (u ∷ us) left e h (call t k b) stop = not_fun u.kind h k
    out (u ∷ us) left e h (towards t o m c k ho d hm d' hc) stop = absurd cc
    out (u ∷ us) left e h (in_brackets b) stop = (e, b, tt, refl)

pub numbers_become : (ts : List Lexeme) → HeadIsNot (Is NameToken) ts → HeadIsNot (Is towards_word) ts → HeadIsNot (Is open_bracket) ts
    → HeadIsNot (HasValue fun_of) ts → Becomes (expressions primary_expression) (token_with_value number_of) (λ x. Number x.0.place x.1) ts
numbers_become ts no_name no_towards no_open no_fun = record { into = λ us left x d. into us left x.0 x.1 d.0 d.1; out = out; fits = λ left other h. tt }
  where
    numeral : (kind : TokenKind) (n : ℤ) → number_of kind ≡ Some n → kind ≡ NumberToken n
    numeral (NumberToken m) n h = ap NumberToken cc
    numeral _ n h = absurd cc

    into : (us left : List Lexeme) (t : Lexeme) (n : ℤ) → us ≡ t ∷ left → number_of t.kind ≡ Some n → IsExpression primary_expression us (Number t.place n) left
    into us left t n is h = subst (λ m. IsExpression primary_expression m (Number t.place n) left) (sym is) (number t (numeral t.kind n h))

    back : (is : TokenKind → Type 0) (other : List Lexeme) → SameHead ts other → HeadIs is other → HeadIs is ts
    back is other h k = head_by is other ts (same_back ts other h) k

    out : (other left : List Lexeme) (e : Expression) → SameHead ts other → IsExpression primary_expression other e left → Stops primary_expression left
        → (x : Lexeme × ℤ) × ((other ≡ x.0 ∷ left) × (number_of x.0.kind ≡ Some x.1)) × ⊤ × (e ≡ Number x.0.place x.1)
    out (u ∷ us) left e h (number {n} t k) stop = ((t, n), (refl, ap number_of k), tt, refl)
    out (u ∷ us) left e h (name t k) stop = absurd (no_name (back (Is NameToken) (u ∷ us) h k))
    out (u ∷ us) left e h (field t k b) stop = absurd (no_name (back (Is NameToken) (u ∷ us) h k))
    out (u ∷ us) left e h (call {fun} t k b) stop = absurd (no_fun (back (HasValue fun_of) (u ∷ us) h (fun, k)))
    out (u ∷ us) left e h (towards t o m c k ho d hm d' hc) stop = absurd (no_towards (back (Is towards_word) (u ∷ us) h k))
    out other left e h (in_brackets b) stop = absurd (no_open (back (Is open_bracket) other h (first_open other left e b)))

pub towards_become : (ts : List Lexeme) → HeadIs (Is towards_word) ts
    → Becomes (expressions primary_expression)
    (token towards_word then token open_bracket then expressions lowest_rank then token comma then expressions lowest_rank then token close_bracket)
    (λ x. Towards x.0.place x.1.1.0 x.1.1.1.1.0) ts
towards_become ts first =
    record {
      into = λ us left x d. into us left d.0 d.2.0 d.2.2.0 d.2.2.2.0 d.2.2.2.2.0 x.0 x.1.0 x.1.1.1.0 x.1.1.1.1.1 x.1.1.0 x.1.1.1.1.0
          d.1 d.2.1 d.2.2.1 d.2.2.2.1 d.2.2.2.2.1 d.2.2.2.2.2;
      out = λ other left e h d stop. out other left e (head_by (Is towards_word) ts other h first) d stop;
      fits = λ left other h. tt;
    }
  where
    into : (us left mid mid' mid'' mid''' mid'''' : List Lexeme) (t o m c : Lexeme) (e to : Expression) → (us ≡ t ∷ mid) × (t.kind ≡ towards_word)
        → (mid ≡ o ∷ mid') × (o.kind ≡ open_bracket) → IsExpression lowest_rank mid' e mid'' → (mid'' ≡ m ∷ mid''') × (m.kind ≡ comma)
        → IsExpression lowest_rank mid''' to mid'''' → (mid'''' ≡ c ∷ left) × (c.kind ≡ close_bracket)
        → IsExpression primary_expression us (Towards t.place e to) left
    into us left mid mid' mid'' mid''' mid'''' t o m c e to h ho d hm d' hc =
        subst (λ z. IsExpression primary_expression z (Towards t.place e to) left) (sym (h.0 ∙ ap (λ z. t ∷ z) ho.0))
        (towards t o m c h.1 ho.1 (subst (IsExpression lowest_rank mid' e) hm.0 d) hm.1 (subst (IsExpression lowest_rank mid''' to) hc.0 d') hc.1)

    not_fun : {A : Type 0} {fun : Fun} (kind : TokenKind) → kind ≡ towards_word → fun_of kind ≡ Some fun → A
    not_fun kind h k = absurd (cc (ap fun_of h))

    out : (other left : List Lexeme) (e : Expression) → HeadIs (Is towards_word) other → IsExpression primary_expression other e left → Stops primary_expression left
        → (x : Lexeme × (Lexeme × (Expression × (Lexeme × (Expression × Lexeme)))))
        × ((mid : List Lexeme) × ((other ≡ x.0 ∷ mid) × (x.0.kind ≡ towards_word))
        × ((mid' : List Lexeme) × ((mid ≡ x.1.0 ∷ mid') × (x.1.0.kind ≡ open_bracket))
        × ((mid'' : List Lexeme) × IsExpression lowest_rank mid' x.1.1.0 mid''
        × ((mid''' : List Lexeme) × ((mid'' ≡ x.1.1.1.0 ∷ mid''') × (x.1.1.1.0.kind ≡ comma))
        × ((mid'''' : List Lexeme) × IsExpression lowest_rank mid''' x.1.1.1.1.0 mid''''
        × ((mid'''' ≡ x.1.1.1.1.1 ∷ left) × (x.1.1.1.1.1.kind ≡ close_bracket)))))))
        × ⊤ × (e ≡ Towards x.0.place x.1.1.0 x.1.1.1.1.0)
    out [] left e h d stop = absurd h
    out (u ∷ us) left e h (number t k) stop = absurd cc
    out (u ∷ us) left e h (name t k) stop = absurd cc
    out (u ∷ us) left e h (field t k b) stop = absurd cc
    out (u ∷ us) left e h (call t k b) stop = not_fun u.kind h k
    out (u ∷ us) left e h (towards {ts} {mid} {e = x} {to} t o m c k ho d hm d' hc) stop =
        ((t, (o, (x, (m, (to, c))))), (o ∷ ts, (refl, k), (ts, (refl, ho), (m ∷ mid, d, (mid, (refl, hm), (c ∷ left, d', (refl, hc)))))), tt, refl)
    out (u ∷ us) left e h (in_brackets b) stop = let k = bracket_opens b in absurd cc
