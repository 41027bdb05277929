-- Tokens begin with one expression at most, where what is left after it does not continue with one.
use Rattle.std.proofs.Common.{◌≡◌, ◌⊎◌, inl, inr, ℤ, List, ◌∷◌, Some, refl, sym, ap, subst, ◌∙◌, arith}
use Rattle.liszt_lexer.specs.declared.token.TokenKind.TheVariants.{Name as NameToken, Number as NumberToken}
use Rattle.liszt_tree.specs.declared.tree.Fun.{Fun}
use Rattle.liszt_tree.specs.declared.tree.Level.{Level}
use Rattle.liszt_tree.specs.declared.tree.Level.TheVariants.{Or, And, Sum, Product}
use Rattle.liszt_tree.specs.declared.tree.Rel.{Rel}
use Rattle.liszt_tree.specs.declared.tree.Sign.{Sign}
use Rattle.liszt_tree.specs.Tree.{Expression, Number, Name, Field, Call, Towards, Neg, Not, Compare, Links, no_links, link}
use Rattle.liszt_parser.specs.Grammar.{Lexeme, Rank, chain, comparison, prefix_expression, primary_expression, operand, lowest_rank, fun_of, sign_of, rel_of, open_bracket, close_bracket, comma, minus, bang, towards_word, IsExpression, one_operand, chained, one_sum, compared, no_prefix, negation, logical_not, number, name, field, call, towards, in_brackets, IsLinks, no_more_links, linked, IsBracketed, bracketed}
use Rattle.liszt_parser.specs.Internal.Sorts.{Sort, Stops, a_call, a_name, a_number, a_towards, an_open, sort_of}
use Rattle.liszt_parser.specs.Internal.Productions.{chain_tree}
use Rattle.liszt_parser.proofs.Sorts.{sort_number, sort_name, sort_call, sort_towards, sort_open, sort_minus, sort_bang, sign_strength, rel_strength, open_strength, close_strength, comma_strength}

-- WHAT IS CLAIMED: who reads a further tree from the tokens, with what is left after it, reads this one
abbrev pub Agrees : Rank → List Lexeme → Expression → List Lexeme → Type 0
Agrees rank ts e left =
    (e' : Expression) (left' : List Lexeme) → IsExpression rank ts e' left' → Stops rank left' → (e ≡ e') × (left ≡ left')

abbrev pub LinksAgree : Level → List Lexeme → Links → List Lexeme → Type 0
LinksAgree level ts links left =
    (links' : Links) (left' : List Lexeme) → IsLinks level ts links' left' → Stops (chain level) left' → (links ≡ links') × (left ≡ left')

abbrev pub BracketedAgree : List Lexeme → Expression → List Lexeme → Type 0
BracketedAgree ts e left = (e' : Expression) (left' : List Lexeme) → IsBracketed ts e' left' → (e ≡ e') × (left ≡ left')

-- STOPS
-- what stops a chain stops its operands
pub stronger : (level : Level) (left : List Lexeme) → Stops (chain level) left → Stops (operand level) left
stronger Or left h = omega arith
stronger And left h = omega arith
stronger Sum left h = omega arith
stronger Product left h = omega arith

-- an operator of a level stops an operand of it
sign_stops : (level : Level) (t : Lexeme) (ts : List Lexeme) (s : Sign) → sign_of level t.kind ≡ Some s → Stops (operand level) (t ∷ ts)
sign_stops Or t ts s h = let is = sign_strength Or t.kind s h in omega arith
sign_stops And t ts s h = let is = sign_strength And t.kind s h in omega arith
sign_stops Sum t ts s h = let is = sign_strength Sum t.kind s h in omega arith
sign_stops Product t ts s h = let is = sign_strength Product t.kind s h in omega arith

-- but it stops no chain of that level
pub sign_continues : {A : Type 0} (level : Level) (t : Lexeme) (ts : List Lexeme) (s : Sign) → sign_of level t.kind ≡ Some s
    → Stops (chain level) (t ∷ ts) → A
sign_continues level t ts s h stop = let is = sign_strength level t.kind s h in absurd (omega arith)

-- before links, as before nothing, an operand stops
pub links_stop : {level : Level} {mid left : List Lexeme} {links : Links} → IsLinks level mid links left → Stops (chain level) left
    → Stops (operand level) mid
links_stop {level} {left} no_more_links stop = stronger level left stop
links_stop (linked {level} {ts} {s} t h d more) stop = sign_stops level t ts s h

-- CHAINS
-- a chain, of one operand too, read as its first operand and its links
record Chained (level : Level) (ts : List Lexeme) (e : Expression) (left : List Lexeme) : Type 0 where
  first : Expression
  mid : List Lexeme
  links : Links
  one : IsExpression (operand level) ts first mid
  more : IsLinks level mid links left
  is : chain_tree level first links ≡ e

chain_of : {level : Level} {ts left : List Lexeme} {e : Expression} → IsExpression (chain level) ts e left → Chained level ts e left
chain_of (one_operand {left} {e} d) =
    record { first = e; mid = left; links = no_links; one = d; more = no_more_links; is = refl }
chain_of (chained {mid} {first} {e} {s} {place} {more} d l) =
    record { first = first; mid = mid; links = link s place e more; one = d; more = l; is = refl }

-- a chain agrees where its first operand and its links do
chain_agrees : (level : Level) (ts mid left : List Lexeme) (first : Expression) (links : Links) → Agrees (operand level) ts first mid
    → LinksAgree level mid links left → Agrees (chain level) ts (chain_tree level first links) left
chain_agrees level ts mid left first links one more e' left' d' stop =
    let c = chain_of d' in
    let a = one c.first c.mid c.one (links_stop c.more stop) in
    let b = more c.links left' (subst (λ m. IsLinks level m c.links left') (sym a.1) c.more) stop in
    (ap (λ f. chain_tree level f links) a.0 ∙ ap (chain_tree level c.first) b.0 ∙ c.is, b.1)

-- no links agree where what is left stops the chain
no_links_agree : (level : Level) (left : List Lexeme) → Stops (chain level) left → LinksAgree level left no_links left
no_links_agree level left stop links' left' no_more_links stop' = (refl, refl)
no_links_agree level left stop links' left' (linked {ts} {s} t h d more) stop' = sign_continues level t ts s h stop

-- a link and more agree where its operand and the more do
linked_agrees : (level : Level) (t : Lexeme) (ts mid left : List Lexeme) (s : Sign) (e : Expression) (links : Links)
    → sign_of level t.kind ≡ Some s
    → Agrees (operand level) ts e mid → LinksAgree level mid links left → LinksAgree level (t ∷ ts) (link s t.place e links) left
linked_agrees level t ts mid left s e links h one more links' left' no_more_links stop' = sign_continues level t ts s h stop'
linked_agrees level t ts mid left s e links h one more links' left' (linked {mid = n} {e = e'} {s = s'} {more = more'} t' h' d' l') stop' =
    let a = one e' n d' (links_stop l' stop') in
    let b = more more' left' (subst (λ m. IsLinks level m more' left') (sym a.1) l') stop' in
    let signs : s ≡ s' = cc in
    (ap (λ z. link z t.place e links) signs ∙ ap (λ z. link s' t.place z links) a.0 ∙ ap (link s' t.place e') b.0, b.1)

-- COMPARISONS
-- what follows the first sum of a comparison: nothing, or a comparison and a sum
data Follows (first : Expression) : List Lexeme → Expression → List Lexeme → Type 0 where
  nothing : {left : List Lexeme} → Follows first left first left
  a_rel : {mid left : List Lexeme} {b : Expression} {rel : Rel} (t : Lexeme) → rel_of t.kind ≡ Some rel
      → IsExpression (chain Sum) mid b left
      → Follows first (t ∷ mid) (Compare t.place rel first b) left

-- a comparison read as its first sum and what follows
record Compared (ts : List Lexeme) (e : Expression) (left : List Lexeme) : Type 0 where
  first : Expression
  mid : List Lexeme
  one : IsExpression (chain Sum) ts first mid
  more : Follows first mid e left

compared_of : {ts left : List Lexeme} {e : Expression} → IsExpression comparison ts e left → Compared ts e left
compared_of (one_sum {left} {e} d) = record { first = e; mid = left; one = d; more = nothing }
compared_of (compared {mid} {a} t d h d') = record { first = a; mid = t ∷ mid; one = d; more = a_rel t h d' }

-- a comparison stops a sum, but no comparison
pub rel_stops : (t : Lexeme) (ts : List Lexeme) (rel : Rel) → rel_of t.kind ≡ Some rel → Stops (chain Sum) (t ∷ ts)
rel_stops t ts rel h = let is = rel_strength t.kind rel h in omega arith

rel_continues : {A : Type 0} (t : Lexeme) (ts : List Lexeme) (rel : Rel) → rel_of t.kind ≡ Some rel → Stops comparison (t ∷ ts) → A
rel_continues t ts rel h stop = let is = rel_strength t.kind rel h in absurd (omega arith)

-- what stops a comparison stops its sums
sum_stops : (left : List Lexeme) → Stops comparison left → Stops (chain Sum) left
sum_stops left h = omega arith

-- before what follows, the first sum stops
follows_stop : {first e : Expression} {mid left : List Lexeme} → Follows first mid e left → Stops comparison left → Stops (chain Sum) mid
follows_stop {left} nothing stop = sum_stops left stop
follows_stop (a_rel {mid} {rel} t h d) stop = rel_stops t mid rel h

-- the claim of what follows
FollowsAgree : Expression → List Lexeme → Expression → List Lexeme → Type 0
FollowsAgree first mid e left =
    (e' : Expression) (left' : List Lexeme) → Follows first mid e' left' → Stops comparison left' → (e ≡ e') × (left ≡ left')

-- a comparison agrees where its first sum and what follows do
comparison_agrees : (ts mid left : List Lexeme) (first e : Expression) → Agrees (chain Sum) ts first mid → FollowsAgree first mid e left
    → Agrees comparison ts e left
unfolding FollowsAgree
comparison_agrees ts mid left first e one more e' left' d' stop =
    let c = compared_of d' in
    let a = one c.first c.mid c.one (follows_stop c.more stop) in
    more e' left' (subst (λ f. Follows f mid e' left') (sym a.0) (subst (λ m. Follows c.first m e' left') (sym a.1) c.more)) stop

-- each of both that may follow agrees
nothing_agrees : (first : Expression) (left : List Lexeme) → Stops comparison left → FollowsAgree first left first left
unfolding FollowsAgree
nothing_agrees first left stop e' left' nothing stop' = (refl, refl)
nothing_agrees first left stop e' left' (a_rel {mid} {rel} t h d) stop' = rel_continues t mid rel h stop

rel_agrees : (first b : Expression) (t : Lexeme) (mid left : List Lexeme) (rel : Rel) → rel_of t.kind ≡ Some rel
    → Agrees (chain Sum) mid b left
    → FollowsAgree first (t ∷ mid) (Compare t.place rel first b) left
unfolding FollowsAgree
rel_agrees first b t mid left rel h two e' left' nothing stop' = rel_continues t mid rel h stop'
rel_agrees first b t mid left rel h two e' left' (a_rel {b = b'} {rel = rel'} t' h' d') stop' =
    let a = two b' left' d' (sum_stops left' stop') in
    let rels : rel ≡ rel' = cc in
    (ap (λ z. Compare t.place z first b) rels ∙ ap (Compare t.place rel' first) a.0, a.1)

-- WHAT STANDS ALONE, by the sort of its first token
-- the two arguments of `towards` in their brackets
data IsTowards : List Lexeme → Expression → Expression → List Lexeme → Type 0 where
  is_towards : {ts mid left : List Lexeme} {e to : Expression} (o m c : Lexeme) → IsExpression lowest_rank ts e (m ∷ mid) → m.kind ≡ comma
      → IsExpression lowest_rank mid to (c ∷ left) → c.kind ≡ close_bracket → IsTowards (o ∷ ts) e to left

-- what an expression alone is where its first token has the sort
abbrev AloneAt : Lexeme → List Lexeme → Sort → Expression → List Lexeme → Type 0
AloneAt t ts (a_number n) e left = (e ≡ Number t.place n) × (left ≡ ts)
AloneAt t ts a_name e left =
    (e ≡ Name t.place t.bytes) × (left ≡ ts) ⊎ ((arg : Expression) × IsBracketed ts arg left × (e ≡ Field t.place t.bytes arg))
AloneAt t ts (a_call fun) e left = (arg : Expression) × IsBracketed ts arg left × (e ≡ Call t.place fun arg)
AloneAt t ts a_towards e left = (arg : Expression) × (to : Expression) × IsTowards ts arg to left × (e ≡ Towards t.place arg to)
AloneAt t ts an_open e left = IsBracketed (t ∷ ts) e left
AloneAt t ts _ e left = ⊥

-- brackets begin with the opening one
pub bracket_opens : {t : Lexeme} {ts left : List Lexeme} {e : Expression} → IsBracketed (t ∷ ts) e left → t.kind ≡ open_bracket
bracket_opens (bracketed o c h d h') = h

-- and so it is
primary_at : (t : Lexeme) (ts left : List Lexeme) (e : Expression) → IsExpression primary_expression (t ∷ ts) e left → AloneAt t ts (sort_of t.kind) e left
primary_at t ts left e (number t' h) = subst (λ s. AloneAt t ts s e left) (sym (sort_number h)) (refl, refl)
primary_at t ts left e (name t' h) = subst (λ s. AloneAt t ts s e left) (sym (sort_name h)) (inl (refl, refl))
primary_at t ts left e (field {e = arg} t' h b) = subst (λ s. AloneAt t ts s e left) (sym (sort_name h)) (inr (arg, b, refl))
primary_at t ts left e (call {e = arg} t' h b) = subst (λ s. AloneAt t ts s e left) (sym (sort_call t.kind h)) (arg, b, refl)
primary_at t ts left e (towards {e = arg} {to} t' o m c h ho d hm d' hc) =
    subst (λ s. AloneAt t ts s e left) (sym (sort_towards h)) (arg, to, is_towards o m c d hm d' hc, refl)
primary_at t ts left e (in_brackets b) = subst (λ s. AloneAt t ts s e left) (sym (sort_open (bracket_opens b))) b

-- the same, where the sort is known
primary_by : {sort : Sort} (t : Lexeme) (ts left : List Lexeme) (e : Expression) → sort_of t.kind ≡ sort → IsExpression primary_expression (t ∷ ts) e left
    → AloneAt t ts sort e left
primary_by t ts left e h d = subst (λ s. AloneAt t ts s e left) h (primary_at t ts left e d)

-- a number agrees
number_agrees : (t : Lexeme) (ts : List Lexeme) (n : ℤ) → t.kind ≡ NumberToken n → Agrees primary_expression (t ∷ ts) (Number t.place n) ts
number_agrees t ts n h e' left' d' stop = let a = primary_by t ts left' e' (sort_number h) d' in (sym a.0, sym a.1)

-- an expression in brackets is not what is left after a name
bracketed_continues : {A : Type 0} {ts left : List Lexeme} {e : Expression} → IsBracketed ts e left → Stops primary_expression ts → A
bracketed_continues (bracketed o c h d h') stop = let is = open_strength h in absurd (omega arith)

-- a name agrees where no bracket is left after it, and so does a field with its bracket
name_agrees : (t : Lexeme) (ts : List Lexeme) → t.kind ≡ NameToken → Stops primary_expression ts → Agrees primary_expression (t ∷ ts) (Name t.place t.bytes) ts
name_agrees t ts h stop e' left' d' stop' = go (primary_by t ts left' e' (sort_name h) d')
  where
    go : AloneAt t ts a_name e' left' → (Name t.place t.bytes ≡ e') × (ts ≡ left')
    go (inl a) = (sym a.0, sym a.1)
    go (inr a) = bracketed_continues a.1 stop

field_agrees : (t : Lexeme) (ts left : List Lexeme) (e : Expression) → t.kind ≡ NameToken → IsBracketed ts e left → BracketedAgree ts e left
    → Agrees primary_expression (t ∷ ts) (Field t.place t.bytes e) left
field_agrees t ts left e h b one e' left' d' stop' = go (primary_by t ts left' e' (sort_name h) d')
  where
    go : AloneAt t ts a_name e' left' → (Field t.place t.bytes e ≡ e') × (left ≡ left')
    go (inl a) = bracketed_continues b (subst (Stops primary_expression) a.1 stop')
    go (inr a) = let same = one a.0 left' a.1 in (ap (Field t.place t.bytes) same.0 ∙ sym a.2, same.1)

-- a call agrees where its argument does
call_agrees : (t : Lexeme) (ts left : List Lexeme) (e : Expression) (fun : Fun) → fun_of t.kind ≡ Some fun → BracketedAgree ts e left
    → Agrees primary_expression (t ∷ ts) (Call t.place fun e) left
call_agrees t ts left e fun h one e' left' d' stop' =
    let a = primary_by t ts left' e' (sort_call t.kind h) d' in
    let same = one a.0 left' a.1 in
    (ap (Call t.place fun) same.0 ∙ sym a.2, same.1)

-- an expression in brackets agrees, alone, where it does in brackets
brackets_agree : {ts left : List Lexeme} {e : Expression} → IsBracketed ts e left → BracketedAgree ts e left → Agrees primary_expression ts e left
brackets_agree (bracketed {ts} o c h d h') one e' left' d' stop' = one e' left' (primary_by o ts left' e' (sort_open h) d')

-- a closing bracket and a comma stop every expression
pub close_stops : (c : Lexeme) (ts : List Lexeme) → c.kind ≡ close_bracket → Stops lowest_rank (c ∷ ts)
close_stops c ts h = let is = close_strength h in omega arith

pub comma_stops : (c : Lexeme) (ts : List Lexeme) → c.kind ≡ comma → Stops lowest_rank (c ∷ ts)
comma_stops c ts h = let is = comma_strength h in omega arith

-- brackets agree where the expression in them does
bracketed_agrees : (o c : Lexeme) (ts left : List Lexeme) (e : Expression) → Agrees lowest_rank ts e (c ∷ left) → BracketedAgree (o ∷ ts) e left
bracketed_agrees o c ts left e one e' left' (bracketed o' c' h d h') = let a = one e' (c' ∷ left') d (close_stops c' left' h') in (a.0, cc)

-- `towards` agrees where both its arguments do
towards_agrees : (t o m c : Lexeme) (ts mid left : List Lexeme) (e to : Expression) → t.kind ≡ towards_word → Agrees lowest_rank ts e (m ∷ mid)
    → Agrees lowest_rank mid to (c ∷ left) → Agrees primary_expression (t ∷ o ∷ ts) (Towards t.place e to) left
towards_agrees t o m c ts mid left e to h one two e' left' d' stop' = go a.0 a.1 a.2 a.3
  where
    a : AloneAt t (o ∷ ts) a_towards e' left'
    a = primary_by t (o ∷ ts) left' e' (sort_towards h) d'

    go : (arg to' : Expression) → IsTowards (o ∷ ts) arg to' left' → e' ≡ Towards t.place arg to'
        → (Towards t.place e to ≡ e') × (left ≡ left')
    go arg to' (is_towards {mid = mid'} o' m' c' d hm d' hc) is =
        let a = one arg (m' ∷ mid') d (comma_stops m' mid' hm) in
        let mids : mid' ≡ mid = cc in
        let b = two to' (c' ∷ left') (subst (λ m. IsExpression lowest_rank m to' (c' ∷ left')) mids d') (close_stops c' left' hc) in
        (ap (λ z. Towards t.place z to) a.0 ∙ ap (Towards t.place arg) b.0 ∙ sym is, cc)

-- PREFIXES
-- what stops a prefixed expression stops one alone
prefix_stops : (left : List Lexeme) → Stops prefix_expression left → Stops primary_expression left
prefix_stops left h = omega arith

-- an expression alone begins with no prefix operator
pub no_minus : {A : Type 0} {ts left : List Lexeme} {e : Expression} (t : Lexeme) → IsExpression primary_expression (t ∷ ts) e left → t.kind ≡ minus → A
no_minus {ts} {left} {e} t d h = absurd (primary_by t ts left e (sort_minus h) d)

pub no_bang : {A : Type 0} {ts left : List Lexeme} {e : Expression} (t : Lexeme) → IsExpression primary_expression (t ∷ ts) e left → t.kind ≡ bang → A
no_bang {ts} {left} {e} t d h = absurd (primary_by t ts left e (sort_bang h) d)

-- one with no prefix agrees where it does alone
primary_agrees : {ts left : List Lexeme} {e : Expression} → IsExpression primary_expression ts e left → Agrees primary_expression ts e left → Agrees prefix_expression ts e left
primary_agrees d one e' left' (no_prefix d') stop' = one e' left' d' (prefix_stops left' stop')
primary_agrees d one e' left' (negation t h d') stop' = no_minus t d h
primary_agrees d one e' left' (logical_not t h d') stop' = no_bang t d h

-- a token is one of both
not_both : {A : Type 0} (t : Lexeme) → t.kind ≡ minus → t.kind ≡ bang → A
not_both t h h' = absurd cc

-- one with a prefix agrees where the one after it does
negated_agrees : (t : Lexeme) (ts left : List Lexeme) (e : Expression) → t.kind ≡ minus → Agrees prefix_expression ts e left
    → Agrees prefix_expression (t ∷ ts) (Neg t.place e) left
negated_agrees t ts left e h one e' left' (no_prefix d') stop' = no_minus t d' h
negated_agrees t ts left e h one e' left' (negation {e = arg} t' h' d') stop' = let a = one arg left' d' stop' in (ap (Neg t.place) a.0, a.1)
negated_agrees t ts left e h one e' left' (logical_not t' h' d') stop' = not_both t h h'

denied_agrees : (t : Lexeme) (ts left : List Lexeme) (e : Expression) → t.kind ≡ bang → Agrees prefix_expression ts e left
    → Agrees prefix_expression (t ∷ ts) (Not t.place e) left
denied_agrees t ts left e h one e' left' (no_prefix d') stop' = no_bang t d' h
denied_agrees t ts left e h one e' left' (negation t' h' d') stop' = not_both t h' h
denied_agrees t ts left e h one e' left' (logical_not {e = arg} t' h' d') stop' = let a = one arg left' d' stop' in (ap (Not t.place) a.0, a.1)

-- ALL EXPRESSIONS
mutual
  pub one_expression : {rank : Rank} {ts left : List Lexeme} {e : Expression} → IsExpression rank ts e left → Stops rank left
      → Agrees rank ts e left
  one_expression (one_operand {level} {ts} {left} {e} d) stop =
      chain_agrees level ts left left e no_links (one_expression d (stronger level left stop)) (no_links_agree level left stop)
  one_expression (chained {level} {ts} {mid} {left} {first} {e} {s} {place = p} {more} d l) stop =
      chain_agrees level ts mid left first (link s p e more) (one_expression d (links_stop l stop)) (one_links l stop)
  one_expression (one_sum {ts} {left} {e} d) stop =
      comparison_agrees ts left left e e (one_expression d (sum_stops left stop)) (nothing_agrees e left stop)
  one_expression (compared {ts} {mid} {left} {a} {b} {rel} t d h d') stop =
      comparison_agrees ts (t ∷ mid) left a (Compare t.place rel a b) (one_expression d (rel_stops t mid rel h))
      (rel_agrees a b t mid left rel h (one_expression d' (sum_stops left stop)))
  one_expression (no_prefix {left} d) stop = primary_agrees d (one_expression d (prefix_stops left stop))
  one_expression (negation {ts} {left} {e} t h d) stop = negated_agrees t ts left e h (one_expression d stop)
  one_expression (logical_not {ts} {left} {e} t h d) stop = denied_agrees t ts left e h (one_expression d stop)
  one_expression (number {left} {n} t h) stop = number_agrees t left n h
  one_expression (name {left} t h) stop = name_agrees t left h stop
  one_expression (field {ts} {left} {e} t h b) stop = field_agrees t ts left e h b (one_bracketed b)
  one_expression (call {ts} {left} {e} {fun} t h b) stop = call_agrees t ts left e fun h (one_bracketed b)
  one_expression (towards {ts} {mid} {left} {e} {to} t o m c h ho d hm d' hc) stop =
      towards_agrees t o m c ts mid left e to h (one_expression d (comma_stops m mid hm)) (one_expression d' (close_stops c left hc))
  one_expression (in_brackets b) stop = brackets_agree b (one_bracketed b)

  pub one_links : {level : Level} {ts left : List Lexeme} {links : Links} → IsLinks level ts links left → Stops (chain level) left
      → LinksAgree level ts links left
  one_links (no_more_links {level} {left}) stop = no_links_agree level left stop
  one_links (linked {level} {ts} {mid} {left} {e} {s} {more} t h d l) stop =
      linked_agrees level t ts mid left s e more h (one_expression d (links_stop l stop)) (one_links l stop)

  pub one_bracketed : {ts left : List Lexeme} {e : Expression} → IsBracketed ts e left → BracketedAgree ts e left
  one_bracketed (bracketed {ts} {left} {e} o c h d h') =
      bracketed_agrees o c ts left e (one_expression d (close_stops c left h'))
