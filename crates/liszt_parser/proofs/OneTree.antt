-- Tokens have one tree at most: items, as in the statements of a body, and the main program.
use Rattle.std.proofs.Common.{◌≡◌, Bool, true, false, List, [], ◌∷◌, Some, refl, sym, ap, subst, ◌∙◌}
use Rattle.liszt_base.specs.declared.elements.Kind.{Kind}
use Rattle.liszt_lexer.specs.declared.token.TokenKind.TheVariants.{Name as NameToken}
use Rattle.liszt_tree.specs.declared.tree.How.{How}
use Rattle.liszt_tree.specs.Tree.{Expression, Body, MainItem, MainField, MainVar, MainAssign, MainIf, MainWhile, MainFor, Print, Main, no_item, item}
use Rattle.liszt_parser.specs.Grammar.{Lexeme, lowest_rank, how_of, kind_of, mesh_set_of, field_word, var_word, if_word, else_word, while_word, for_word, print_word, IsExpression, IsBracketed, Closes, IsDeclared, IsItem, main_field, main_var, main_assign, main_if, main_while, main_for, print, IsMain, no_items, items, IsMainBlock, main_block, IsMainElse, no_main_else, main_else, Derives}
use Rattle.liszt_parser.specs.Internal.Sorts.{Ends, NoElse, Sort, a_field, a_for, a_name, a_print, a_var, a_while, an_else, an_end, an_if, head_sort}
use Rattle.liszt_parser.proofs.Sorts.{sort_name, sort_field, sort_var, sort_if, sort_else, sort_while, sort_for, sort_print, sort_end, clash}
use Rattle.liszt_parser.proofs.OneExpression.{one_bracketed}
use Rattle.liszt_parser.proofs.OneStatement.{same₂, same₃, same₄, same_tail, same_some, one_closed, one_declared, declared_sort, ends_no_else, BlockAgrees, one_block}

-- HOW ITEMS BEGIN
-- the sort of the first token of an item
abbrev pub item_sort : {ts left : List Lexeme} {i : MainItem} → IsItem ts i left → Sort
item_sort (main_field w n d k s hw hn hd hk hs e c) = a_field
item_sort (main_var d) = a_var
item_sort (main_assign n h hn i d c) = a_name
item_sort (main_if w h b k l) = an_if
item_sort (main_while w h b k) = a_while
item_sort (main_for w o n a k p m q c hw ho hn ha hk hp hm hq hc b) = a_for
item_sort (print w h d c) = a_print

pub item_begins : {ts left : List Lexeme} {i : MainItem} (d : IsItem ts i left) → head_sort ts ≡ item_sort d
item_begins (main_field w n d k s hw hn hd hk hs e c) = sort_field hw
item_begins (main_var d) = declared_sort d ∙ sort_var refl
item_begins (main_assign n h hn i d c) = sort_name hn
item_begins (main_if w h b k l) = sort_if h
item_begins (main_while w h b k) = sort_while h
item_begins (main_for w o n a k p m q c hw ho hn ha hk hp hm hq hc b) = sort_for hw
item_begins (print w h d c) = sort_print h

-- an item is no `else` and no end, and items before an end are no `else`
item_no_else : {ts left : List Lexeme} {i : MainItem} → IsItem ts i left → NoElse ts
item_no_else (main_var d) h = clash a_var an_else (item_begins (main_var d)) h refl
item_no_else d h = clash (item_sort d) an_else (item_begins d) h refl

item_no_end : {A : Type 0} {ts left : List Lexeme} {i : MainItem} → IsItem ts i left → Ends ts → A
item_no_end (main_var d) h = clash a_var an_end (item_begins (main_var d)) h refl
item_no_end d h = clash (item_sort d) an_end (item_begins d) h refl

pub main_no_else : {ts left : List Lexeme} {m : Main} → IsMain ts m left → Ends left → NoElse ts
main_no_else (no_items {left}) ends = ends_no_else left ends
main_no_else (items d k) ends = item_no_else d

-- WHAT IS CLAIMED: who reads further, with what is left after it, reads this
abbrev ItemAgrees : List Lexeme → MainItem → List Lexeme → Type 0
ItemAgrees ts i left = (i' : MainItem) (left' : List Lexeme) → IsItem ts i' left' → NoElse left' → (i ≡ i') × (left ≡ left')

abbrev MainAgrees : List Lexeme → Main → List Lexeme → Type 0
MainAgrees ts m left = (m' : Main) (left' : List Lexeme) → IsMain ts m' left' → Ends left' → (m ≡ m') × (left ≡ left')

abbrev MainBlockAgrees : List Lexeme → Main → List Lexeme → Type 0
MainBlockAgrees ts m left = (m' : Main) (left' : List Lexeme) → IsMainBlock ts m' left' → (m ≡ m') × (left ≡ left')

abbrev MainElseAgrees : List Lexeme → Main → Bool → List Lexeme → Type 0
MainElseAgrees ts m has left =
    (m' : Main) (has' : Bool) (left' : List Lexeme) → IsMainElse ts m' has' left' → NoElse left' → (m ≡ m') × (has ≡ has') × (left ≡ left')

-- EACH ITEM
-- an item agrees where its parts do: no other begins with a token of its sort
field_agrees : {ts mid left : List Lexeme} {e : Expression} {kind : Kind} (w n d k s : Lexeme) → w.kind ≡ field_word
    → kind_of k.kind ≡ Some kind
    → IsExpression lowest_rank ts e mid → Closes mid left → ItemAgrees (w ∷ n ∷ d ∷ k ∷ s ∷ ts) (MainField w.place n.bytes n.place kind e) left
field_agrees w n d k s h hk e c i' left' (main_field w' n' d' k' s' hw' hn' hd' hk' hs' e' c') f' =
    let a = one_closed e c e' c' in
    (same₂ (MainField w.place n.bytes n.place) (same_some hk hk') a.0, a.1)
field_agrees w n d k s h hk e c i' left' x f' = clash a_field (item_sort x) (sort_field h) (item_begins x) refl

var_agrees : {ts left : List Lexeme} {w n : Lexeme} {e : Expression} → IsDeclared var_word ts w n e left
    → ItemAgrees ts (MainVar w.place n.bytes n.place e) left
var_agrees d i' left' (main_var d') f' =
    let a = one_declared d d' in (same₃ (λ (w n : Lexeme) (e : Expression). MainVar w.place n.bytes n.place e) a.0 a.1 a.2, a.3)
var_agrees d i' left' x f' = clash a_var (item_sort x) (declared_sort d ∙ sort_var refl) (item_begins x) refl

assign_agrees : {ts mid left : List Lexeme} {e : Expression} {how : How} (n h : Lexeme) → n.kind ≡ NameToken → how_of h.kind ≡ Some how
    → IsExpression lowest_rank ts e mid → Closes mid left → ItemAgrees (n ∷ h ∷ ts) (MainAssign n.place n.bytes how e) left
assign_agrees n h hn is d c i' left' (main_assign n' h' hn' is' d' c') f' =
    let a = one_closed d c d' c' in
    (same₂ (MainAssign n.place n.bytes) (same_some is is') a.0, a.1)
assign_agrees n h hn is d c i' left' x f' = clash a_name (item_sort x) (sort_name hn) (item_begins x) refl

if_agrees : {ts mid mid' left : List Lexeme} {e : Expression} {first second : Main} {has : Bool} (w : Lexeme) → w.kind ≡ if_word
    → IsBracketed ts e mid → MainBlockAgrees mid first mid' → MainElseAgrees mid' second has left
    → ItemAgrees (w ∷ ts) (MainIf w.place e first second has) left
if_agrees w h b one two i' left' (main_if {mid = n} {mid' = n'} {e = e'} {first = m'} {second = s'} {has_else = has'} w' h' b' k' l') f' =
    let a = one_bracketed b e' n b' in
    let k = one m' n' (subst (λ m. IsMainBlock m m' n') (sym a.1) k') in
    let l = two s' has' left' (subst (λ m. IsMainElse m s' has' left') (sym k.1) l') f' in
    (same₄ (MainIf w.place) a.0 k.0 l.0 l.1, l.2)
if_agrees w h b one two i' left' x f' = clash an_if (item_sort x) (sort_if h) (item_begins x) refl

while_agrees : {ts mid left : List Lexeme} {e : Expression} {body : Main} (w : Lexeme) → w.kind ≡ while_word
    → IsBracketed ts e mid → MainBlockAgrees mid body left → ItemAgrees (w ∷ ts) (MainWhile w.place e body) left
while_agrees w h b one i' left' (main_while {mid = n} {e = e'} {body = m'} w' h' b' k') f' =
    let a = one_bracketed b e' n b' in
    let k = one m' left' (subst (λ m. IsMainBlock m m' left') (sym a.1) k') in
    (same₂ (MainWhile w.place) a.0 k.0, k.1)
while_agrees w h b one i' left' x f' = clash a_while (item_sort x) (sort_while h) (item_begins x) refl

for_agrees : {ts left : List Lexeme} {body : Body} {kind : Kind} (w o n a k p m q c : Lexeme) → w.kind ≡ for_word
    → mesh_set_of k.kind ≡ Some kind → BlockAgrees ts body left
    → ItemAgrees (w ∷ o ∷ n ∷ a ∷ k ∷ p ∷ m ∷ q ∷ c ∷ ts) (MainFor w.place n.bytes n.place kind body) left
for_agrees w o n a k p m q c h hk one i' left' (main_for {body = b'} w' o' n' a' k' p' m' q' c' hw' ho' hn' ha' hk' hp' hm' hq' hc' d') f' =
    let b = one b' left' d' in
    (same₂ (MainFor w.place n.bytes n.place) (same_some hk hk') b.0, b.1)
for_agrees w o n a k p m q c h hk one i' left' x f' = clash a_for (item_sort x) (sort_for h) (item_begins x) refl

print_agrees : {ts mid left : List Lexeme} {e : Expression} (w : Lexeme) → w.kind ≡ print_word → IsExpression lowest_rank ts e mid → Closes mid left
    → ItemAgrees (w ∷ ts) (Print w.place e) left
print_agrees w h d c i' left' (print w' h' d' c') f' = let a = one_closed d c d' c' in (ap (Print w.place) a.0, a.1)
print_agrees w h d c i' left' x f' = clash a_print (item_sort x) (sort_print h) (item_begins x) refl

-- LISTS OF ITEMS, BLOCKS AND WHAT FOLLOWS AN `if`
-- no items agree before an end, and an item and more where both do
no_items_agree : (left : List Lexeme) → Ends left → MainAgrees left no_item left
no_items_agree left ends m' left' no_items ends' = (refl, refl)
no_items_agree left ends m' left' (items d' k') ends' = item_no_end d' ends

items_agree : {ts mid left : List Lexeme} {i : MainItem} {more : Main} → IsItem ts i mid → ItemAgrees ts i mid → MainAgrees mid more left
    → MainAgrees ts (item i more) left
items_agree d one two m' left' no_items ends' = item_no_end d ends'
items_agree d one two m' left' (items {mid = n} {i = i'} {more = more'} d' k') ends' =
    let a = one i' n d' (main_no_else k' ends') in
    let k = two more' left' (subst (λ m. IsMain m more' left') (sym a.1) k') ends' in
    (same₂ item a.0 k.0, k.1)

-- a block agrees where its items do
block_agrees : {ts left : List Lexeme} {body : Main} (o c : Lexeme) → MainAgrees ts body (c ∷ left) → MainBlockAgrees (o ∷ ts) body left
block_agrees o c one m' left' (main_block o' c' h d h') = let a = one m' (c' ∷ left') d (sort_end h') in (a.0, same_tail a.1)

-- no `else` agrees where none is left, and one where its block does
no_else_agrees : (left : List Lexeme) → NoElse left → MainElseAgrees left no_item false left
no_else_agrees left f m' has' left' no_main_else f' = (refl, refl, refl)
no_else_agrees left f m' has' left' (main_else w' h' k') f' = absurd (f (sort_else h'))

else_agrees : {ts left : List Lexeme} {body : Main} (w : Lexeme) → w.kind ≡ else_word → MainBlockAgrees ts body left
    → MainElseAgrees (w ∷ ts) body true left
else_agrees w h one m' has' left' no_main_else f' = absurd (f' (sort_else h))
else_agrees w h one m' has' left' (main_else w' h' k') f' = let a = one m' left' k' in (a.0, refl, a.1)

-- ALL ITEMS
mutual
  pub one_item : {ts left : List Lexeme} {i : MainItem} → IsItem ts i left → NoElse left → ItemAgrees ts i left
  one_item (main_field w n d k s hw hn hd hk hs e c) f = field_agrees w n d k s hw hk e c
  one_item (main_var d) f = var_agrees d
  one_item (main_assign n h hn i d c) f = assign_agrees n h hn i d c
  one_item (main_if w h b k l) f = if_agrees w h b (one_main_block k) (one_main_else l f)
  one_item (main_while w h b k) f = while_agrees w h b (one_main_block k)
  one_item (main_for w o n a k p m q c hw ho hn ha hk hp hm hq hc b) f = for_agrees w o n a k p m q c hw hk (one_block b)
  one_item (print w h d c) f = print_agrees w h d c

  pub one_main : {ts left : List Lexeme} {m : Main} → IsMain ts m left → Ends left → MainAgrees ts m left
  one_main (no_items {left}) ends = no_items_agree left ends
  one_main (items d k) ends = items_agree d (one_item d (main_no_else k ends)) (one_main k ends)

  pub one_main_block : {ts left : List Lexeme} {m : Main} → IsMainBlock ts m left → MainBlockAgrees ts m left
  one_main_block (main_block o c h k h') = block_agrees o c (one_main k (sort_end h'))

  one_main_else : {ts left : List Lexeme} {m : Main} {has : Bool} → IsMainElse ts m has left → NoElse left → MainElseAgrees ts m has left
  one_main_else (no_main_else {left}) f = no_else_agrees left f
  one_main_else (main_else w h k) f = else_agrees w h (one_main_block k)

-- at the end of the tokens nothing is left
pub one_tree_derived : (ts : List Lexeme) (tree other : Main) → Derives ts tree → Derives ts other → tree ≡ other
one_tree_derived ts tree other d d' = (one_main d refl other [] d' refl).0
