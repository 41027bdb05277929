-- What begins no statement and no expression, and what an item that begins with a known token continues with.
use Rattle.std.proofs.Common.{◌≡◌, zero, suc, ◌==◌, ◌&&◌, ◌||◌, ℕ, ℤ, ◌+◌, ◌<◌, ◌≤◌, Bool, true, false, Option, Some, None, List, [], ◌∷◌, ◌++◌, length, refl, sym, ap, subst, ◌∙◌, inl, inr, arith}
use Rattle.std.specs.Prelude.{⊤, take, nat_le}
use Rattle.std.specs.List.{list_all}
use Rattle.std.proofs.Math.Seq.{take-length}
use Rattle.std.proofs.lemmas.Bool.Decides.{nat_tests}
use Rattle.liszt_base.specs.declared.answers.Place.{Place}
use Rattle.liszt_lexer.specs.declared.token.TokenKind.{TokenKind}
use Rattle.liszt_lexer.specs.declared.token.TokenKind.TheVariants.{Name as NameToken, Number as NumberToken, Word, Symbol}
use Rattle.liszt_tree.specs.declared.tree.Fun.{Fun}
use Rattle.liszt_tree.specs.declared.tree.Level.{Level}
use Rattle.liszt_tree.specs.declared.tree.Level.TheVariants.{Or, And, Sum, Product}
use Rattle.liszt_tree.specs.declared.tree.Rel.{Rel}
use Rattle.liszt_tree.specs.Tree.{Expression, Number, Name, Links, Statement, Body, MainItem, Main, no_item, item}
use Rattle.liszt_parser.specs.Depth.{is_symbol, is_open_bracket, is_close_bracket, depth}
use Rattle.liszt_parser.specs.Grammar.{Lexeme, Rank, chain, comparison, primary_expression, operand, lowest_rank, fun_of, sign_of, rel_of, open_bracket, close_bracket, open_brace, if_word, for_word, print_word, mesh_word, IsExpression, one_operand, chained, one_sum, compared, no_prefix, negation, logical_not, number, name, field, call, towards, in_brackets, IsLinks, no_more_links, linked, IsBracketed, bracketed, Closes, by_semicolon, by_brace, by_end, is_declared, IsStatement, var, val, assign, if, while, for, no_statements, statements, IsBlock, block, IsItem, main_field, main_var, main_assign, main_if, main_while, main_for, print, IsMain, no_items, items, IsMainBlock, main_block}
use Rattle.liszt_base.specs.declared.answers.ProgramFault.{ProgramFault}
use Rattle.liszt_base.specs.declared.answers.ProgramWhat.TheVariants.{Syntax, Deep}
use Rattle.liszt_parser.specs.ParseFault.{IsProgramPrefix, IsProgram, IsShallow, IsSyntaxAt, IsDeepAt, place_of, fault_at, IsParseFault}
use Rattle.liszt_parser.specs.Internal.Sorts.{Stops, level_strength, rank_strength, strength, strength_at}
use Rattle.liszt_parser.proofs.OneExpression.{one_expression, one_bracketed}
use Rattle.liszt_parser.proofs.Sorts.{sign_strength, rel_strength, closes_stops}
use Rattle.liszt_base.specs.Limits.{depth_limit}

-- EXPRESSIONS
-- whether a token begins an expression
starts_by : Option Fun → TokenKind → Bool
starts_by (Some fun) kind = true
starts_by None NameToken = true
starts_by None (NumberToken n) = true
starts_by None (Word place) = place == 20
starts_by None (Symbol place) = (place == 0) || (place == 17) || (place == 21)
starts_by None _ = false

pub starts : TokenKind → Bool
unfolding starts_by
starts kind = starts_by (fun_of kind) kind

abbrev pub head_starts : List Lexeme → Bool
head_starts [] = false
head_starts (t ∷ ts) = starts t.kind

-- `mesh` and `{` do not
pub mesh_starts : starts mesh_word ≡ false
unfolding starts starts_by
mesh_starts = refl

pub brace_starts : starts open_brace ≡ false
unfolding starts starts_by
brace_starts = refl

-- and each does
pub starts_of : {rank : Rank} {ts left : List Lexeme} {e : Expression} → IsExpression rank ts e left → head_starts ts ≡ true
unfolding starts starts_by
starts_of (one_operand d) = starts_of d
starts_of (chained d l) = starts_of d
starts_of (one_sum d) = starts_of d
starts_of (compared t d h d') = starts_of d
starts_of (no_prefix d) = starts_of d
starts_of (negation t h d) = ap starts h
starts_of (logical_not t h d) = ap starts h
starts_of (number t h) = ap starts h
starts_of (name t h) = ap starts h
starts_of (field t h b) = ap starts h
starts_of (call t h b) = ap (λ o. starts_by o t.kind) h
starts_of (towards t o m c h ho d hm d' hc) = ap starts h
starts_of (in_brackets (bracketed o c h d h')) = ap starts h

pub no_expression : {A : Type 0} {rank : Rank} {ts left : List Lexeme} {e : Expression} (t : Lexeme) → starts t.kind ≡ false
    → IsExpression rank (t ∷ ts) e left → A
no_expression t h d = let is = starts_of d in absurd cc

-- a symbol's test says its kind
symbol_kind : (n : ℕ) (kind : TokenKind) (place : Place) (bytes : List ℕ)
    → is_symbol n (record { kind = kind; place = place; bytes = bytes }) ≡ true → kind ≡ Symbol n
symbol_kind n (Symbol place) p b h = ap Symbol (grind (arith, nat_tests))
symbol_kind n _ p b h = absurd cc

is_open : (t : Lexeme) → is_open_bracket t ≡ true → t.kind ≡ open_bracket
is_open t h = symbol_kind 0 t.kind t.place t.bytes h

is_close : (t : Lexeme) → is_close_bracket t ≡ true → t.kind ≡ close_bracket
is_close t h = symbol_kind 1 t.kind t.place t.bytes h

-- an expression that begins with a bracket has one after it
abbrev Begun : List Lexeme → Type 0
Begun ts = (e : Expression) × (left : List Lexeme) × IsExpression lowest_rank ts e left

abbrev Inside : List Lexeme → Type 0
Inside [] = ⊤
Inside (o ∷ ts) = o.kind ≡ open_bracket → Begun ts

no_call : {A : Type 0} {fun : Fun} {kind : TokenKind} → fun_of kind ≡ Some fun → kind ≡ open_bracket → A
no_call h h' = absurd (cc (ap fun_of h'))

inside : {rank : Rank} {ts left : List Lexeme} {e : Expression} → IsExpression rank ts e left → Inside ts
inside (one_operand d) = inside d
inside (chained d l) = inside d
inside (one_sum d) = inside d
inside (compared t d h d') = inside d
inside (no_prefix d) = inside d
inside (negation t h d) = λ h'. absurd cc
inside (logical_not t h d) = λ h'. absurd cc
inside (number t h) = λ h'. absurd cc
inside (name t h) = λ h'. absurd cc
inside (field t h b) = λ h'. absurd cc
inside (call t h b) = λ h'. no_call h h'
inside (towards t o m c h ho d hm d' hc) = λ h'. absurd cc
inside (in_brackets (bracketed {left} {e} o c h d h')) = λ k. (e, c ∷ left, d)

-- brackets and then a token that begins no expression begin none
pub no_nested : (os : List Lexeme) (t : Lexeme) (ts left : List Lexeme) (e : Expression) → list_all is_open_bracket os ≡ true
    → starts t.kind ≡ false → IsExpression lowest_rank (os ++ t ∷ ts) e left → ⊥
no_nested [] t ts left e h h' d = no_expression t h' d
no_nested (o ∷ os) t ts left e h h' d =
    let both : (is_open_bracket o ≡ true) × (list_all is_open_bracket os ≡ true) = grind arith in
    let i = inside d (is_open o both.0) in
    no_nested os t ts i.1 i.0 both.1 h' i.2

-- what stands alone is an expression
pub sum_up : {ts left : List Lexeme} {e : Expression} → IsExpression primary_expression ts e left → IsExpression (chain Sum) ts e left
sum_up d = one_operand (one_operand (no_prefix d))

pub up : {ts left : List Lexeme} {e : Expression} → IsExpression primary_expression ts e left → IsExpression lowest_rank ts e left
up d = one_operand (one_operand (one_sum (one_operand (one_operand (no_prefix d)))))

-- an expression in brackets is one: the opening ones from the inside out, and as many closing ones
abbrev pub onto : List Lexeme → List Lexeme → List Lexeme
onto [] ts = ts
onto (o ∷ os) ts = onto os (o ∷ ts)

pub wrapped : (os cs ts left : List Lexeme) (e : Expression) → list_all is_open_bracket os ≡ true → list_all is_close_bracket cs ≡ true
    → length os ≡ length cs → IsExpression lowest_rank ts e (cs ++ left) → (e' : Expression) × IsExpression lowest_rank (onto os ts) e' left
wrapped [] [] ts left e h k l d = (e, d)
wrapped [] (c ∷ cs) ts left e h k l d = absurd (omega arith)
wrapped (o ∷ os) [] ts left e h k l d = absurd (omega arith)
wrapped (o ∷ os) (c ∷ cs) ts left e h k l d =
    let a : (is_open_bracket o ≡ true) × (list_all is_open_bracket os ≡ true) = grind arith in
    let b : (is_close_bracket c ≡ true) × (list_all is_close_bracket cs ≡ true) = grind arith in
    wrapped os cs (o ∷ ts) left e a.1 b.1 (omega arith) (up (in_brackets (bracketed o c (is_open o a.0) d (is_close c b.0))))

-- a token that no operator is
pub record Idle (kind : TokenKind) : Type 0 where
  pub no_sign : (level : Level) → sign_of level kind ≡ None
  pub no_rel : rel_of kind ≡ None

pub idle_word : (place : ℕ) → Idle (Word place)
idle_word place = record { no_sign = none; no_rel = refl }
  where
    none : (level : Level) → sign_of level (Word place) ≡ None
    none Or = refl
    none And = refl
    none Sum = refl
    none Product = refl

-- an expression that begins with a number and then has such a token leaves it
abbrev NumberThen : List Lexeme → List Lexeme → Type 0
NumberThen (t ∷ u ∷ ts) left = (n : ℤ) → t.kind ≡ NumberToken n → Idle u.kind → left ≡ u ∷ ts
NumberThen _ left = ⊤

no_link : {level : Level} {ts left : List Lexeme} {more : Links} (u : Lexeme) (us : List Lexeme) → Idle u.kind → ts ≡ u ∷ us
    → IsLinks level ts more left → left ≡ u ∷ us
no_link u us i e no_more_links = e
no_link {level} u us i e (linked t h d l) = let kinds : t.kind ≡ u.kind = cc in let none = i.no_sign level in absurd cc

no_rel_then : {rel : Rel} (u t : Lexeme) (us mid left : List Lexeme) → Idle u.kind → rel_of t.kind ≡ Some rel
    → t ∷ mid ≡ u ∷ us → left ≡ u ∷ us
no_rel_then u t us mid left i h e = let kinds : t.kind ≡ u.kind = cc in let none = i.no_rel in absurd cc

number_onto : (ts mid left : List Lexeme) → NumberThen ts mid
    → ((u : Lexeme) (us : List Lexeme) → Idle u.kind → mid ≡ u ∷ us → left ≡ u ∷ us) → NumberThen ts left
number_onto [] mid left d f = tt
number_onto (t ∷ []) mid left d f = tt
number_onto (t ∷ u ∷ us) mid left d f = λ n h i. f u us i (d n h i)

not_number : (t : Lexeme) (ts left : List Lexeme) → ((n : ℤ) → t.kind ≡ NumberToken n → ⊥) → NumberThen (t ∷ ts) left
not_number t [] left f = tt
not_number t (u ∷ ts) left f = λ n h i. absurd (f n h)

call_no_number : {fun : Fun} {kind : TokenKind} (n : ℤ) → fun_of kind ≡ Some fun → kind ≡ NumberToken n → ⊥
call_no_number n h h' = absurd (cc (ap fun_of h'))

number_left : (t : Lexeme) (left : List Lexeme) → NumberThen (t ∷ left) left
number_left t [] = tt
number_left t (u ∷ left) = λ n h i. refl

number_then : {rank : Rank} {ts left : List Lexeme} {e : Expression} → IsExpression rank ts e left → NumberThen ts left
number_then (one_operand d) = number_then d
number_then (chained {ts} {mid} {left} d l) = number_onto ts mid left (number_then d) (λ u us i e. no_link u us i e l)
number_then (one_sum d) = number_then d
number_then (compared {ts} {mid} {left} t d h d') =
    number_onto ts (t ∷ mid) left (number_then d) (λ u us i e. no_rel_then u t us mid left i h e)
number_then (no_prefix d) = number_then d
number_then (negation {ts} {left} t h d) = not_number t ts left (λ n h'. absurd cc)
number_then (logical_not {ts} {left} t h d) = not_number t ts left (λ n h'. absurd cc)
number_then (number {left} t h) = number_left t left
number_then (name {left} t h) = not_number t left left (λ n h'. absurd cc)
number_then (field {ts} {left} t h b) = not_number t ts left (λ n h'. absurd cc)
number_then (call {ts} {left} t h b) = not_number t ts left (λ n h'. call_no_number n h h')
number_then (towards {ts} {left} t o m c h ho d hm d' hc) = not_number t (o ∷ ts) left (λ n h'. absurd cc)
number_then (in_brackets (bracketed {ts} {left} o c h d h')) = not_number o ts left (λ n h'. absurd cc)

-- an expression and what closes it
abbrev pub Closed : List Lexeme → List Lexeme → Type 0
Closed ts left = (e : Expression) × (mid : List Lexeme) × IsExpression lowest_rank ts e mid × Closes mid left

no_close : {mid left : List Lexeme} (n : ℕ) (t : Lexeme) (ts : List Lexeme) → t.kind ≡ Word n → mid ≡ t ∷ ts → Closes mid left → ⊥
no_close n t ts h e (by_semicolon t' h') = let kinds : t'.kind ≡ t.kind = cc in absurd cc
no_close n t ts h e (by_brace t' h') = let kinds : t'.kind ≡ t.kind = cc in absurd cc
no_close n t ts h e by_end = absurd cc

-- nothing closes a number before a word
pub no_closed : {left : List Lexeme} (t u : Lexeme) (ts : List Lexeme) (n : ℤ) (place : ℕ) → t.kind ≡ NumberToken n → u.kind ≡ Word place
    → Closed (t ∷ u ∷ ts) left → ⊥
no_closed t u ts n place h k c = no_close place u ts k (number_then c.2 n h (subst Idle (sym k) (idle_word place))) c.3

-- COMPARISONS
-- what is no stronger than the operators of a level stops its operands
next_rank : (level : Level) (n : ℕ) → n ≤ level_strength level → n < rank_strength (operand level)
next_rank Or n h = omega arith
next_rank And n h = omega arith
next_rank Sum n h = omega arith
next_rank Product n h = omega arith

links_stop : {level : Level} {mid left : List Lexeme} {links : Links} → IsLinks level mid links left → Stops (chain level) left
    → Stops (operand level) mid
links_stop {level} {left} no_more_links stop = next_rank level (strength_at left) (omega arith)
links_stop {level} (linked {s} t h d more) stop = let is = sign_strength level t.kind s h in next_rank level (strength t.kind) (omega arith)

-- the first operand of a chain, and what is left after it
record First (rank : Rank) (ts : List Lexeme) : Type 0 where
  e : Expression
  left : List Lexeme
  one : IsExpression rank ts e left
  stops : Stops rank left

first_of_chain : {level : Level} {ts left : List Lexeme} {e : Expression} → IsExpression (chain level) ts e left → Stops (chain level) left
    → First (operand level) ts
first_of_chain (one_operand {level} {left} {e} d) stop =
    record { e = e; left = left; one = d; stops = next_rank level (strength_at left) (omega arith) }
first_of_chain (chained {mid} {first} d l) stop = record { e = first; left = mid; one = d; stops = links_stop l stop }

-- a comparison stops a sum, but no comparison
rel_stops : (t : Lexeme) (ts : List Lexeme) (rel : Rel) → rel_of t.kind ≡ Some rel → Stops (chain Sum) (t ∷ ts)
rel_stops t ts rel h = let is = rel_strength t.kind rel h in omega arith

rel_continues : (t : Lexeme) (ts left : List Lexeme) (rel : Rel) → rel_of t.kind ≡ Some rel → t ∷ ts ≡ left → Stops comparison left → ⊥
rel_continues t ts left rel h e stop =
    let is = rel_strength t.kind rel h in
    let stops : Stops comparison (t ∷ ts) = subst (Stops comparison) (sym e) stop in
    omega arith

-- two sums with a comparison between them and one after them
record Twice (ts : List Lexeme) : Type 0 where
  first : Expression
  second : Expression
  t : Lexeme
  u : Lexeme
  mid : List Lexeme
  rest : List Lexeme
  rel : Rel
  rel' : Rel
  is_rel : rel_of t.kind ≡ Some rel
  is_rel' : rel_of u.kind ≡ Some rel'
  one : IsExpression (chain Sum) ts first (t ∷ mid)
  two : IsExpression (chain Sum) mid second (u ∷ rest)

-- no comparison is those
no_comparison : {ts left : List Lexeme} {e : Expression} → IsExpression comparison ts e left → Stops comparison left → Twice ts → ⊥
no_comparison (one_sum {left} {e} d) stop w =
    let a = one_expression w.one (rel_stops w.t w.mid w.rel w.is_rel) e left d (omega arith) in
    rel_continues w.t w.mid left w.rel w.is_rel a.1 stop
no_comparison (compared {mid} {left} {a = x} {b} {rel} t d h d') stop w =
    let a = one_expression w.one (rel_stops w.t w.mid w.rel w.is_rel) x (t ∷ mid) d (rel_stops t mid rel h) in
    let mids : mid ≡ w.mid = cc (a.1) in
    let c = one_expression w.two (rel_stops w.u w.rest w.rel' w.is_rel') b left
    (subst (λ m. IsExpression (chain Sum) m b left) mids d') (omega arith) in
    rel_continues w.u w.rest left w.rel' w.is_rel' c.1 stop

-- and so no expression that is closed begins with them
twice_closed : {ts left : List Lexeme} → Twice ts → Closed ts left → ⊥
twice_closed w c =
    let a = first_of_chain c.2 (closes_stops c.3) in
    let b = first_of_chain a.one a.stops in
    no_comparison b.one b.stops w

-- STATEMENTS AND ITEMS
-- no statement begins with `print`, and no block does
no_print : {ts left : List Lexeme} {s : Statement} (t : Lexeme) → t.kind ≡ print_word → IsStatement (t ∷ ts) s left → ⊥
no_print t h (var (is_declared w n s hw hn hs d c)) = absurd cc
no_print t h (val (is_declared w n s hw hn hs d c)) = absurd cc
no_print t h (assign n h' hn i is d c) = absurd cc
no_print t h (if w h' b k l) = absurd cc
no_print t h (while w h' b k) = absurd cc
no_print t h (for w o n a s c hw ho hn ha hs b hc k) = absurd cc

pub no_print_block : {ts left : List Lexeme} {body : Body} (o t : Lexeme) → t.kind ≡ print_word → IsBlock (o ∷ t ∷ ts) body left → ⊥
no_print_block o t h (block o' c ho no_statements hc) = absurd cc
no_print_block o t h (block o' c ho (statements d more) hc) = no_print t h d

-- a block that begins with a word has a statement
abbrev pub HasStatement : List Lexeme → Type 0
HasStatement ts = (s : Statement) × (left : List Lexeme) × IsStatement ts s left

pub block_word : {ts left : List Lexeme} {body : Body} (o t : Lexeme) (place : ℕ) → t.kind ≡ Word place → IsBlock (o ∷ t ∷ ts) body left
    → HasStatement (t ∷ ts)
block_word o t place h (block o' c ho no_statements hc) = absurd cc
block_word o t place h (block o' c ho (statements {mid} {s} d more) hc) = (s, mid, d)

-- a block of the main program that begins with a name has an item
abbrev pub HasItem : List Lexeme → Type 0
HasItem ts = (i : MainItem) × (left : List Lexeme) × IsItem ts i left

pub main_block_name : {ts left : List Lexeme} {m : Main} (o t : Lexeme) → t.kind ≡ NameToken → IsMainBlock (o ∷ t ∷ ts) m left
    → HasItem (t ∷ ts)
main_block_name o t h (main_block o' c ho no_items hc) = absurd cc
main_block_name o t h (main_block o' c ho (items {mid} {i} d more) hc) = (i, mid, d)

-- and so does a program with a token
pub program_item : (t : Lexeme) (ts : List Lexeme) (m : Main) → IsMain (t ∷ ts) m [] → HasItem (t ∷ ts)
program_item t ts m (items {mid} {i} d more) = (i, mid, d)

-- a `for` continues with a bracket for its set
pub for_statement : {ts left : List Lexeme} {st : Statement} (w o n a s : Lexeme) → w.kind ≡ for_word
    → IsStatement (w ∷ o ∷ n ∷ a ∷ s ∷ ts) st left → (e : Expression) × (mid : List Lexeme) × IsBracketed ts e mid
for_statement w o n a s h (var (is_declared w' n' s' hw hn hs d c)) = absurd cc
for_statement w o n a s h (val (is_declared w' n' s' hw hn hs d c)) = absurd cc
for_statement w o n a s h (assign n' h' hn i is d c) = absurd cc
for_statement w o n a s h (if w' h' b k l) = absurd cc
for_statement w o n a s h (while w' h' b k) = absurd cc
for_statement w o n a s h (for {mid} {e} w' o' n' a' s' c hw ho hn ha hs b hc k) = (e, c ∷ mid, b)

-- no bracket begins with a token that begins no expression
pub no_bracketed : {ts left : List Lexeme} {e : Expression} (o t : Lexeme) → starts t.kind ≡ false → IsBracketed (o ∷ t ∷ ts) e left → ⊥
no_bracketed o t h (bracketed o' c ho d hc) = no_expression t h d

-- a `for` over the mesh continues with a block
pub for_item : {ts left : List Lexeme} {i : MainItem} (w o n a k p m q c : Lexeme) → w.kind ≡ for_word
    → IsItem (w ∷ o ∷ n ∷ a ∷ k ∷ p ∷ m ∷ q ∷ c ∷ ts) i left → (body : Body) × IsBlock ts body left
for_item w o n a k p m q c h (main_field w' n' d' k' s' hw hn hd hk hs d c') = absurd cc
for_item w o n a k p m q c h (main_var (is_declared w' n' s' hw hn hs d c')) = absurd cc
for_item w o n a k p m q c h (main_assign n' h' hn i d c') = absurd cc
for_item w o n a k p m q c h (main_if w' h' b l l') = absurd cc
for_item w o n a k p m q c h (main_while w' h' b l) = absurd cc
for_item w o n a k p m q c h (main_for {body} w' o' n' a' k' p' m' q' c' hw ho hn ha hk hp hm hq hc b) = (body, b)
for_item w o n a k p m q c h (print w' h' d c') = absurd cc

-- an `if` continues with its block after its test
pub if_item : {ts mid left : List Lexeme} {i : MainItem} {e : Expression} (w : Lexeme) → w.kind ≡ if_word → IsBracketed ts e mid
    → IsItem (w ∷ ts) i left → (body : Main) × (mid' : List Lexeme) × IsMainBlock mid body mid'
if_item w h b (main_field w' n' d' k' s' hw hn hd hk hs d c') = absurd cc
if_item w h b (main_var (is_declared w' n' s' hw hn hs d c')) = absurd cc
if_item w h b (main_assign n' h' hn i d c') = absurd cc
if_item w h b (main_if {mid = n} {mid'} {e = e'} {first} w' h' b' k l) =
    let a = one_bracketed b e' n b' in
    let k' : IsMainBlock _ first mid' = subst (λ m. IsMainBlock m first mid') (sym a.1) k in
    (first, mid', k')
if_item w h b (main_while w' h' b' l) = absurd cc
if_item w h b (main_for w' o' n' a' k' p' m' q' c' hw ho hn ha hk hp hm hq hc b') = absurd cc
if_item w h b (print w' h' d c') = absurd cc

-- an assignment, and a `print`, continues with an expression and what closes it
pub assign_item : {ts left : List Lexeme} {i : MainItem} (n s : Lexeme) → n.kind ≡ NameToken → IsItem (n ∷ s ∷ ts) i left → Closed ts left
assign_item n s h (main_field w' n' d' k' s' hw hn hd hk hs d c') = absurd cc
assign_item n s h (main_var (is_declared w' n' s' hw hn hs d c')) = absurd cc
assign_item n s h (main_assign {mid} {e} n' h' hn i d c') = (e, mid, d, c')
assign_item n s h (main_if w' h' b l l') = absurd cc
assign_item n s h (main_while w' h' b l) = absurd cc
assign_item n s h (main_for w' o' n' a' k' p' m' q' c' hw ho hn ha hk hp hm hq hc b') = absurd cc
assign_item n s h (print w' h' d c') = absurd cc

pub print_item : {ts left : List Lexeme} {i : MainItem} (w : Lexeme) → w.kind ≡ print_word → IsItem (w ∷ ts) i left → Closed ts left
print_item w h (main_field w' n' d' k' s' hw hn hd hk hs d c') = absurd cc
print_item w h (main_var (is_declared w' n' s' hw hn hs d c')) = absurd cc
print_item w h (main_assign n' h' hn i d c') = absurd cc
print_item w h (main_if w' h' b l l') = absurd cc
print_item w h (main_while w' h' b l) = absurd cc
print_item w h (main_for w' o' n' a' k' p' m' q' c' hw ho hn ha hk hp hm hq hc b') = absurd cc
print_item w h (print {mid} {e} w' h' d c') = (e, mid, d, c')

-- DEPTHS
-- a test at all places below one, and that it holds at each
abbrev pub all_below : (ℕ → Bool) → ℕ → Bool
all_below p zero = true
all_below p (suc n) = p n && all_below p n

at_each : (p : ℕ → Bool) (n : ℕ) → all_below p n ≡ true → (k : ℕ) → k < n → p k ≡ true
at_each p zero h k l = absurd (omega arith)
at_each p (suc n) h k l = go (k == n) refl (at_each p n both.1 k)
  where
    both : (p n ≡ true) × (all_below p n ≡ true)
    both = grind arith

    go : (b : Bool) → (k == n) ≡ b → (k < n → p k ≡ true) → p k ≡ true
    go true e more = let same : k ≡ n = grind (arith, nat_tests) in ap p same ∙ both.0
    go false e more = let less : k < n = grind (arith, nat_tests) in more less

-- the depth is at most 64 where the test says so
abbrev pub shallow_at : List Lexeme → ℕ → Bool
shallow_at ts place = nat_le (depth (take (place + 1) ts)) depth_limit

pub shallow : (ts : List Lexeme) (n : ℕ) → all_below (shallow_at ts) n ≡ true → IsShallow ts n
shallow ts n h place k l = is (depth (take (place + 1) ts)) (at_each (shallow_at ts) n h place k)
  where
    is : (d : ℕ) → nat_le d depth_limit ≡ true → d ≤ depth_limit
    is d e = grind (arith, nat_tests)

-- FAULTS
-- Syntax at a token, and Deep, where the tests of the depths compute
pub syntax_is : (ts : List Lexeme) (ending : Place) (place : ℕ) (fault : ProgramFault) → place < length ts → IsProgramPrefix (take place ts)
    → (IsProgramPrefix (take (place + 1) ts) → ⊥) → all_below (shallow_at ts) place ≡ true → fault ≡ fault_at Syntax (place_of ts ending place)
    → IsParseFault ts ending (Some fault)
syntax_is ts ending place fault l before token flat is = (place, inl (is_syntax, shallow ts place flat, is))
  where
    is_syntax : IsSyntaxAt ts place
    is_syntax = record { within = omega arith; before = before; token = λ k. token; «end» = λ e. absurd (omega arith) }

-- and Syntax at the end
pub syntax_at_end : (ts : List Lexeme) (ending : Place) (fault : ProgramFault) → IsProgramPrefix ts → (IsProgram ts → ⊥)
    → all_below (shallow_at ts) (length ts) ≡ true → fault ≡ fault_at Syntax (place_of ts ending (length ts))
    → IsParseFault ts ending (Some fault)
syntax_at_end ts ending fault before «end» flat is = (length ts, inl (is_syntax, shallow ts (length ts) flat, is))
  where
    whole : take (length ts) ts ≡ ts
    whole = take-length ts

    is_syntax : IsSyntaxAt ts (length ts)
    is_syntax =
        record { within = omega arith; before = subst IsProgramPrefix (sym whole) before; token = λ k. absurd (omega arith); «end» = λ e. «end» }

pub deep_is : (ts : List Lexeme) (ending : Place) (place : ℕ) (fault : ProgramFault) → place < length ts → shallow_at ts place ≡ false
    → all_below (shallow_at ts) place ≡ true → IsProgramPrefix (take (place + 1) ts) → fault ≡ fault_at Deep (place_of ts ending place)
    → IsParseFault ts ending (Some fault)
deep_is ts ending place fault l deep flat begins is = (place, inr (is_deep, is))
  where
    above : (d : ℕ) → nat_le d depth_limit ≡ false → depth_limit < d
    above d e = grind (arith, nat_tests)

    is_deep : IsDeepAt ts place
    is_deep =
        record { within = l; deep = above (depth (take (place + 1) ts)) deep; shallow = shallow ts place flat; begins = begins }

-- tokens begin a program where they and others are one
pub begins_by : (front rest : List Lexeme) → IsProgram (front ++ rest) → IsProgramPrefix front
begins_by front rest d = (rest, d.0, d.1)

-- a program of one item
pub one_item : {ts : List Lexeme} {i : MainItem} → IsItem ts i [] → IsProgram ts
one_item {i} d = (item i no_item, items d no_items)

-- `print`, brackets, a number and the brackets that close
pub nested_program : (w one : Lexeme) (n : ℤ) (os cs : List Lexeme) → w.kind ≡ print_word → one.kind ≡ NumberToken n
    → list_all is_open_bracket os ≡ true → list_all is_close_bracket cs ≡ true → length os ≡ length cs
    → IsProgram (w ∷ onto os (one ∷ (cs ++ [])))
nested_program w one n os cs h k ho hc l =
    one_item (print w h (wrapped os cs (one ∷ (cs ++ [])) [] (Number one.place n) ho hc l (up (number one k))).1 by_end)

-- `print` in the body of a loop
pub print_in_body : (w o n a k p m q c b t : Lexeme) (ts : List Lexeme) (tree : Main) → w.kind ≡ for_word → t.kind ≡ print_word
    → IsMain (w ∷ o ∷ n ∷ a ∷ k ∷ p ∷ m ∷ q ∷ c ∷ b ∷ t ∷ ts) tree [] → ⊥
print_in_body w o n a k p m q c b t ts tree h h' d =
    let i = program_item w (o ∷ n ∷ a ∷ k ∷ p ∷ m ∷ q ∷ c ∷ b ∷ t ∷ ts) tree d in
    let body = for_item w o n a k p m q c h i.2 in
    no_print_block b t h' body.1

-- the whole mesh in the body of a loop
pub mesh_in_body : (w o n a k p m q c b w' o' n' a' s o'' t : Lexeme) (ts : List Lexeme) (tree : Main) → w.kind ≡ for_word
    → w'.kind ≡ for_word → t.kind ≡ mesh_word
    → IsMain (w ∷ o ∷ n ∷ a ∷ k ∷ p ∷ m ∷ q ∷ c ∷ b ∷ w' ∷ o' ∷ n' ∷ a' ∷ s ∷ o'' ∷ t ∷ ts) tree [] → ⊥
mesh_in_body w o n a k p m q c b w' o' n' a' s o'' t ts tree h h' h'' d =
    let i = program_item w (o ∷ n ∷ a ∷ k ∷ p ∷ m ∷ q ∷ c ∷ b ∷ w' ∷ o' ∷ n' ∷ a' ∷ s ∷ o'' ∷ t ∷ ts) tree d in
    let body = for_item w o n a k p m q c h i.2 in
    let st = block_word b w' 6 h' body.1 in
    let set = for_statement w' o' n' a' s h' st.2 in
    no_bracketed o'' t (ap starts h'' ∙ mesh_starts) set.2

-- an assignment of a number with nothing that closes it, in the block of an `if`
pub word_in_if : (w b n s v t : Lexeme) (test ts : List Lexeme) (e : Expression) (value : ℤ) (place : ℕ) (tree : Main) → w.kind ≡ if_word
    → n.kind ≡ NameToken → v.kind ≡ NumberToken value → t.kind ≡ Word place → IsBracketed test e (b ∷ n ∷ s ∷ v ∷ t ∷ ts)
    → IsMain (w ∷ test) tree [] → ⊥
word_in_if w b n s v t test ts e value place tree h hn hv ht d m =
    let i = program_item w test tree m in
    let body = if_item w h d i.2 in
    let j = main_block_name b n hn body.2 in
    no_closed v t ts value place hv ht (assign_item n s hn j.2)

-- a word after `print` and a number
pub word_after_print : (w v t : Lexeme) (ts : List Lexeme) (value : ℤ) (place : ℕ) (tree : Main) → w.kind ≡ print_word
    → v.kind ≡ NumberToken value → t.kind ≡ Word place → IsMain (w ∷ v ∷ t ∷ ts) tree [] → ⊥
word_after_print w v t ts value place tree h hv ht m =
    let i = program_item w (v ∷ t ∷ ts) tree m in
    no_closed v t ts value place hv ht (print_item w h i.2)

-- nothing after `print`
pub nothing_after_print : (w : Lexeme) (tree : Main) → w.kind ≡ print_word → IsMain (w ∷ []) tree [] → ⊥
nothing_after_print w tree h m =
    let i = program_item w [] tree m in
    let c = print_item w h i.2 in
    let begins = starts_of c.2 in
    cc

-- brackets after `print`, and then what begins no expression
pub nested_after_print : (w t : Lexeme) (os ts : List Lexeme) (tree : Main) → w.kind ≡ print_word → list_all is_open_bracket os ≡ true
    → starts t.kind ≡ false → IsMain (w ∷ (os ++ t ∷ ts)) tree [] → ⊥
nested_after_print w t os ts tree h ho ht m =
    let i = program_item w (os ++ t ∷ ts) tree m in
    let c = print_item w h i.2 in
    no_nested os t ts c.1 c.0 ho ht c.2

-- a comparison of three names after `print`
pub compared_twice : (w a l b u : Lexeme) (ts : List Lexeme) (rel rel' : Rel) (tree : Main) → w.kind ≡ print_word → a.kind ≡ NameToken
    → rel_of l.kind ≡ Some rel → b.kind ≡ NameToken → rel_of u.kind ≡ Some rel' → IsMain (w ∷ a ∷ l ∷ b ∷ u ∷ ts) tree [] → ⊥
compared_twice w a l b u ts rel rel' tree h ha hl hb hu m =
    let i = program_item w (a ∷ l ∷ b ∷ u ∷ ts) tree m in
    twice_closed twice (print_item w h i.2)
  where
    twice : Twice (a ∷ l ∷ b ∷ u ∷ ts)
    twice =
        record {
          first = Name a.place a.bytes;
          second = Name b.place b.bytes;
          t = l;
          u = u;
          mid = b ∷ u ∷ ts;
          rest = ts;
          rel = rel;
          rel' = rel';
          is_rel = hl;
          is_rel' = hu;
          one = sum_up (name a ha);
          two = sum_up (name b hb);
        }
