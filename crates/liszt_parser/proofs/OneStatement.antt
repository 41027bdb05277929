-- Tokens begin with one statement at most, and with one body, where what is left does not continue with it.
use Rattle.std.proofs.Common.{◌≡◌, Bool, true, false, List, ◌∷◌, Option, Some, refl, sym, ap, subst, ◌∙◌}
use Rattle.liszt_base.specs.declared.elements.SetName.{SetName}
use Rattle.liszt_lexer.specs.declared.token.TokenKind.{TokenKind}
use Rattle.liszt_lexer.specs.declared.token.TokenKind.TheVariants.{Name as NameToken}
use Rattle.liszt_tree.specs.declared.tree.How.{How}
use Rattle.liszt_tree.specs.Tree.{Expression, Statement, Var, Val, Assign, If, While, For, Body, no_statement, statement}
use Rattle.liszt_parser.specs.Grammar.{Lexeme, lowest_rank, how_of, set_of, open_bracket, semicolon, close_brace, var_word, val_word, if_word, else_word, while_word, for_word, IsExpression, IsBracketed, Closes, by_semicolon, by_brace, by_end, IsDeclared, is_declared, IsTarget, no_target, target, IsStatement, var, val, assign, if, while, for, IsBody, no_statements, statements, IsBlock, block, IsElse, no_else, else}
use Rattle.liszt_parser.specs.Internal.Sorts.{Ends, NoElse, Sort, a_for, a_name, a_val, a_var, a_while, an_else, an_end, an_if, head_sort, sort_of}
use Rattle.liszt_parser.proofs.Sorts.{sort_name, sort_var, sort_val, sort_if, sort_else, sort_while, sort_for, sort_end, clash, closes_stops}
use Rattle.liszt_parser.proofs.OneExpression.{one_expression, one_bracketed, bracket_opens}

-- PLAIN EQUATIONS
-- a function of several values at equal ones
pub same₂ : {A B C : Type 0} (f : A → B → C) {a a' : A} {b b' : B} → a ≡ a' → b ≡ b' → f a b ≡ f a' b'
same₂ f {a' = a'} {b} p q = ap (λ z. f z b) p ∙ ap (f a') q

pub same₃ : {A B C D : Type 0} (f : A → B → C → D) {a a' : A} {b b' : B} {c c' : C} → a ≡ a' → b ≡ b' → c ≡ c' → f a b c ≡ f a' b' c'
same₃ f {a' = a'} {b} {c} p q r = ap (λ z. f z b c) p ∙ same₂ (f a') q r

pub same₄ : {A B C D E : Type 0} (f : A → B → C → D → E) {a a' : A} {b b' : B} {c c' : C} {d d' : D} → a ≡ a' → b ≡ b' → c ≡ c' → d ≡ d'
    → f a b c d ≡ f a' b' c' d'
same₄ f {a' = a'} {b} {c} {d} p q r s = ap (λ z. f z b c d) p ∙ same₃ (f a') q r s

-- the rests of equal lists, and the values of equal options
pub same_tail : {A : Type 0} {x x' : A} {xs xs' : List A} → x ∷ xs ≡ x' ∷ xs' → xs ≡ xs'
same_tail e = cc

pub same_some : {A : Type 0} {o : Option A} {x x' : A} → o ≡ Some x → o ≡ Some x' → x ≡ x'
same_some e e' = cc

-- WHAT ENDS WITH AN EXPRESSION
-- a token is one of both
not_both : {A : Type 0} (t : Lexeme) → t.kind ≡ semicolon → t.kind ≡ close_brace → A
not_both t h h' = absurd cc

-- what closes leaves one thing
pub one_closing : {mid left left' : List Lexeme} → Closes mid left → Closes mid left' → left ≡ left'
one_closing (by_semicolon t h) (by_semicolon t' h') = refl
one_closing (by_semicolon t h) (by_brace t' h') = not_both t h h'
one_closing (by_brace t h) (by_semicolon t' h') = not_both t h' h
one_closing (by_brace t h) (by_brace t' h') = refl
one_closing by_end by_end = refl

-- tokens begin with one expression and what closes it
pub one_closed : {ts mid mid' left left' : List Lexeme} {e e' : Expression} → IsExpression lowest_rank ts e mid → Closes mid left
    → IsExpression lowest_rank ts e' mid' → Closes mid' left' → (e ≡ e') × (left ≡ left')
one_closed {mid' = mid'} {left} {e' = e'} d c d' c' =
    let a = one_expression d (closes_stops c) e' mid' d' (closes_stops c') in
    (a.0, one_closing (subst (λ m. Closes m left) a.1 c) c')

-- and with one declaration, whose first token is its word
pub one_declared : {word : TokenKind} {ts left left' : List Lexeme} {w w' n n' : Lexeme} {e e' : Expression} → IsDeclared word ts w n e left
    → IsDeclared word ts w' n' e' left' → (w ≡ w') × (n ≡ n') × (e ≡ e') × (left ≡ left')
one_declared (is_declared w n s hw hn hs d c) (is_declared w' n' s' hw' hn' hs' d' c') =
    let a = one_closed d c d' c' in (refl, refl, a.0, a.1)

pub declared_sort : {word : TokenKind} {ts left : List Lexeme} {w n : Lexeme} {e : Expression} → IsDeclared word ts w n e left
    → head_sort ts ≡ sort_of word
declared_sort (is_declared w n s hw hn hs d c) = ap sort_of hw

-- TARGETS
-- no expression in brackets stands there
abbrev NoBracket : List Lexeme → Type 0
NoBracket ts = (e : Expression) (left : List Lexeme) → IsBracketed ts e left → ⊥

-- an assignment is no bracket
no_how : (how : How) → how_of open_bracket ≡ Some how → ⊥
no_how how e = cc

how_no_bracket : (h : Lexeme) (ts : List Lexeme) (how : How) → how_of h.kind ≡ Some how → NoBracket (h ∷ ts)
how_no_bracket h ts how is e left b = no_how how (sym (ap how_of (bracket_opens b)) ∙ is)

-- tokens begin with one target, where no bracket stands after it
one_target : {ts left left' : List Lexeme} {to to' : Option Expression} → NoBracket left → NoBracket left' → IsTarget ts to left
    → IsTarget ts to' left' → (to ≡ to') × (left ≡ left')
one_target f f' no_target no_target = (refl, refl)
one_target {left' = left'} f f' no_target (target {e} b) = absurd (f e left' b)
one_target {left} f f' (target {e} b) no_target = absurd (f' e left b)
one_target {left' = left'} f f' (target b) (target {e = e'} b') = let a = one_bracketed b e' left' b' in (ap Some a.0, a.1)

-- HOW STATEMENTS BEGIN
-- the sort of the first token of a statement
abbrev pub statement_sort : {ts left : List Lexeme} {s : Statement} → IsStatement ts s left → Sort
statement_sort (var d) = a_var
statement_sort (val d) = a_val
statement_sort (assign n h hn i how d c) = a_name
statement_sort (if w h b k l) = an_if
statement_sort (while w h b k) = a_while
statement_sort (for w o n a s c hw ho hn ha hs b hc k) = a_for

pub statement_begins : {ts left : List Lexeme} {s : Statement} (d : IsStatement ts s left) → head_sort ts ≡ statement_sort d
statement_begins (var d) = declared_sort d ∙ sort_var refl
statement_begins (val d) = declared_sort d ∙ sort_val refl
statement_begins (assign n h hn i how d c) = sort_name hn
statement_begins (if w h b k l) = sort_if h
statement_begins (while w h b k) = sort_while h
statement_begins (for w o n a s c hw ho hn ha hs b hc k) = sort_for hw

-- what ends with `}` or the tokens is no `else`, a statement is neither, and a body before an end is no `else`
pub ends_no_else : (left : List Lexeme) → Ends left → NoElse left
ends_no_else left ends h = clash an_end an_else ends h refl

begins_no_else : {ts left : List Lexeme} {s : Statement} → IsStatement ts s left → NoElse ts
begins_no_else (var d) h = clash a_var an_else (statement_begins (var d)) h refl
begins_no_else d h = clash (statement_sort d) an_else (statement_begins d) h refl

begins_no_end : {A : Type 0} {ts left : List Lexeme} {s : Statement} → IsStatement ts s left → Ends ts → A
begins_no_end (var d) h = clash a_var an_end (statement_begins (var d)) h refl
begins_no_end d h = clash (statement_sort d) an_end (statement_begins d) h refl

pub body_no_else : {ts left : List Lexeme} {b : Body} → IsBody ts b left → Ends left → NoElse ts
body_no_else (no_statements {left}) ends = ends_no_else left ends
body_no_else (statements d b) ends = begins_no_else d

-- WHAT IS CLAIMED: who reads further, with what is left after it, reads this
abbrev pub StatementAgrees : List Lexeme → Statement → List Lexeme → Type 0
StatementAgrees ts s left = (s' : Statement) (left' : List Lexeme) → IsStatement ts s' left' → NoElse left' → (s ≡ s') × (left ≡ left')

abbrev pub BodyAgrees : List Lexeme → Body → List Lexeme → Type 0
BodyAgrees ts b left = (b' : Body) (left' : List Lexeme) → IsBody ts b' left' → Ends left' → (b ≡ b') × (left ≡ left')

abbrev pub BlockAgrees : List Lexeme → Body → List Lexeme → Type 0
BlockAgrees ts b left = (b' : Body) (left' : List Lexeme) → IsBlock ts b' left' → (b ≡ b') × (left ≡ left')

abbrev pub ElseAgrees : List Lexeme → Body → Bool → List Lexeme → Type 0
ElseAgrees ts b has left =
    (b' : Body) (has' : Bool) (left' : List Lexeme) → IsElse ts b' has' left' → NoElse left' → (b ≡ b') × (has ≡ has') × (left ≡ left')

-- EACH STATEMENT
-- a statement agrees where its parts do: no other begins with a token of its sort
var_agrees : {ts left : List Lexeme} {w n : Lexeme} {e : Expression} → IsDeclared var_word ts w n e left
    → StatementAgrees ts (Var w.place n.bytes n.place e) left
var_agrees d s' left' (var d') no_else' =
    let a = one_declared d d' in (same₃ (λ (w n : Lexeme) (e : Expression). Var w.place n.bytes n.place e) a.0 a.1 a.2, a.3)
var_agrees d s' left' d' no_else' = clash a_var (statement_sort d') (declared_sort d ∙ sort_var refl) (statement_begins d') refl

val_agrees : {ts left : List Lexeme} {w n : Lexeme} {e : Expression} → IsDeclared val_word ts w n e left
    → StatementAgrees ts (Val w.place n.bytes n.place e) left
val_agrees d s' left' (val d') no_else' =
    let a = one_declared d d' in (same₃ (λ (w n : Lexeme) (e : Expression). Val w.place n.bytes n.place e) a.0 a.1 a.2, a.3)
val_agrees d s' left' d' no_else' = clash a_val (statement_sort d') (declared_sort d ∙ sort_val refl) (statement_begins d') refl

assign_agrees : {ts us mid left : List Lexeme} {to : Option Expression} {e : Expression} {how : How} (n h : Lexeme) → n.kind ≡ NameToken
    → IsTarget ts to (h ∷ us) → how_of h.kind ≡ Some how → IsExpression lowest_rank us e mid → Closes mid left
    → StatementAgrees (n ∷ ts) (Assign n.place n.bytes to how e) left
assign_agrees {us} {how} n h hn i is d c s' left' (assign {ts' = us'} {mid = m} {e = e'} {how = how'} n' h' hn' i' is' d' c') f =
    let a = one_target (how_no_bracket h us how is) (how_no_bracket h' us' how' is') i i' in
    let heads : h ≡ h' = cc in
    let hows : how ≡ how' = same_some is (ap (λ (t : Lexeme). how_of t.kind) heads ∙ is') in
    let b = one_closed d c (subst (λ ts. IsExpression lowest_rank ts e' m) (sym (same_tail a.1)) d') c' in
    (same₃ (Assign n.place n.bytes) a.0 hows b.0, b.1)
assign_agrees n h hn i is d c s' left' d' no_else' = clash a_name (statement_sort d') (sort_name hn) (statement_begins d') refl

if_agrees : {ts mid mid' left : List Lexeme} {e : Expression} {first second : Body} {has : Bool} (w : Lexeme) → w.kind ≡ if_word
    → IsBracketed ts e mid → BlockAgrees mid first mid' → ElseAgrees mid' second has left
    → StatementAgrees (w ∷ ts) (If w.place e first second has) left
if_agrees w h b one two t' left' (if {mid = n} {mid' = n'} {e = e'} {first = f'} {second = s'} {has_else = has'} w' h' b' k' l') no_else' =
    let a = one_bracketed b e' n b' in
    let k = one f' n' (subst (λ m. IsBlock m f' n') (sym a.1) k') in
    let l = two s' has' left' (subst (λ m. IsElse m s' has' left') (sym k.1) l') no_else' in
    (same₄ (If w.place) a.0 k.0 l.0 l.1, l.2)
if_agrees w h b one two s' left' d' no_else' = clash an_if (statement_sort d') (sort_if h) (statement_begins d') refl

while_agrees : {ts mid left : List Lexeme} {e : Expression} {body : Body} (w : Lexeme) → w.kind ≡ while_word
    → IsBracketed ts e mid → BlockAgrees mid body left → StatementAgrees (w ∷ ts) (While w.place e body) left
while_agrees w h b one s' left' (while {mid = n} {e = e'} {body = f'} w' h' b' k') no_else' =
    let a = one_bracketed b e' n b' in
    let k = one f' left' (subst (λ m. IsBlock m f' left') (sym a.1) k') in
    (same₂ (While w.place) a.0 k.0, k.1)
while_agrees w h b one s' left' d' no_else' = clash a_while (statement_sort d') (sort_while h) (statement_begins d') refl

for_agrees : {ts mid left : List Lexeme} {e : Expression} {body : Body} {set : SetName} (w o n a s c : Lexeme) → w.kind ≡ for_word
    → set_of s.kind ≡ Some set → IsBracketed ts e (c ∷ mid) → BlockAgrees mid body left
    → StatementAgrees (w ∷ o ∷ n ∷ a ∷ s ∷ ts) (For w.place n.bytes n.place set s.place e body) left
for_agrees w o n a s c h hs b one t' left' (for {mid = m'} {e = e'} {body = f'} w' o' n' a' s' c' hw' ho' hn' ha' hs' b' hc' k') no_else' =
    let i = one_bracketed b e' (c' ∷ m') b' in
    let k = one f' left' (subst (λ m. IsBlock m f' left') (sym (same_tail i.1)) k') in
    (same₃ (λ set. For w.place n.bytes n.place set s.place) (same_some hs hs') i.0 k.0, k.1)
for_agrees w o n a s c h hs b one t' left' d' no_else' = clash a_for (statement_sort d') (sort_for h) (statement_begins d') refl

-- BODIES, BLOCKS AND WHAT FOLLOWS AN `if`
-- no statements agree before an end, and a statement and more where both do
no_statements_agree : (left : List Lexeme) → Ends left → BodyAgrees left no_statement left
no_statements_agree left ends b' left' no_statements ends' = (refl, refl)
no_statements_agree left ends b' left' (statements d' k') ends' = begins_no_end d' ends

statements_agree : {ts mid left : List Lexeme} {s : Statement} {more : Body} → IsStatement ts s mid → StatementAgrees ts s mid
    → BodyAgrees mid more left → BodyAgrees ts (statement s more) left
statements_agree d one two b' left' no_statements ends' = begins_no_end d ends'
statements_agree d one two b' left' (statements {mid = m'} {s = s'} {more = more'} d' k') ends' =
    let a = one s' m' d' (body_no_else k' ends') in
    let k = two more' left' (subst (λ m. IsBody m more' left') (sym a.1) k') ends' in
    (same₂ statement a.0 k.0, k.1)

-- a block agrees where its body does
block_agrees : {ts left : List Lexeme} {body : Body} (o c : Lexeme) → BodyAgrees ts body (c ∷ left) → BlockAgrees (o ∷ ts) body left
block_agrees o c one b' left' (block o' c' h d h') = let a = one b' (c' ∷ left') d (sort_end h') in (a.0, same_tail a.1)

-- no `else` agrees where none is left, and one where its block does
no_else_agrees : (left : List Lexeme) → NoElse left → ElseAgrees left no_statement false left
no_else_agrees left f b' has' left' no_else f' = (refl, refl, refl)
no_else_agrees left f b' has' left' (else w' h' k') f' = absurd (f (sort_else h'))

else_agrees : {ts left : List Lexeme} {body : Body} (w : Lexeme) → w.kind ≡ else_word → BlockAgrees ts body left
    → ElseAgrees (w ∷ ts) body true left
else_agrees w h one b' has' left' no_else f' = absurd (f' (sort_else h))
else_agrees w h one b' has' left' (else w' h' k') f' = let a = one b' left' k' in (a.0, refl, a.1)

-- ALL STATEMENTS
mutual
  pub one_statement : {ts left : List Lexeme} {s : Statement} → IsStatement ts s left → NoElse left → StatementAgrees ts s left
  one_statement (var d) f = var_agrees d
  one_statement (val d) f = val_agrees d
  one_statement (assign n h hn i is d c) f = assign_agrees n h hn i is d c
  one_statement (if w h b k l) f = if_agrees w h b (one_block k) (one_else l f)
  one_statement (while w h b k) f = while_agrees w h b (one_block k)
  one_statement (for w o n a s c hw ho hn ha hs b hc k) f = for_agrees w o n a s c hw hs b (one_block k)

  pub one_body : {ts left : List Lexeme} {b : Body} → IsBody ts b left → Ends left → BodyAgrees ts b left
  one_body (no_statements {left}) ends = no_statements_agree left ends
  one_body (statements d k) ends = statements_agree d (one_statement d (body_no_else k ends)) (one_body k ends)

  pub one_block : {ts left : List Lexeme} {b : Body} → IsBlock ts b left → BlockAgrees ts b left
  one_block (block o c h k h') = block_agrees o c (one_body k (sort_end h'))

  pub one_else : {ts left : List Lexeme} {b : Body} {has : Bool} → IsElse ts b has left → NoElse left → ElseAgrees ts b has left
  one_else (no_else {left}) f = no_else_agrees left f
  one_else (else w h k) f = else_agrees w h (one_block k)
