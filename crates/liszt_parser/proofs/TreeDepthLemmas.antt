-- How deep a tree's canonical text goes, and that tokens which derive the tree go as deep.
use Rattle.std.proofs.Common.{◌≡◌, ℕ, suc, ◌≤◌, max, nat_le, nat_lt, Bool, true, false, Option, Some, None, List, [], ◌∷◌, ◌++◌}
use Rattle.std.proofs.Common.{refl, sym, ap, subst, ◌∙◌, arith}
use Rattle.std.proofs.lemmas.Bool.Decides.{nat_tests}
use Rattle.std.proofs.lemmas.List.{append-nil}
use Rattle.liszt_lexer.specs.declared.token.TokenKind.{TokenKind}
use Rattle.liszt_lexer.specs.declared.token.TokenKind.TheVariants.{Name as NameToken, Word}
use Rattle.liszt_tree.specs.declared.tree.Level.{Level}
use Rattle.liszt_tree.specs.declared.tree.Level.TheVariants.{Or, And, Sum, Product}
use Rattle.liszt_tree.specs.Canonical.{chain_level, level_of}
use Rattle.liszt_tree.specs.Tree.{Expression, Number, Name, Field, Call, Towards, Neg, Not, Chain, Compare, Links, no_links, link, Statement, Var, Val, Assign, If, While, For, Body, no_statement, statement, MainItem, MainField, MainVar, MainAssign, MainIf, MainWhile, MainFor, Print, Main, no_item, item}
use Rattle.liszt_parser.specs.Grammar.{Lexeme, Rank, chain, comparison, prefix_expression, primary_expression, operand, lowest_rank, IsExpression, one_operand, chained, one_sum, compared, no_prefix, negation, logical_not, number, name, field, call, towards, in_brackets, IsLinks, no_more_links, linked, IsBracketed, bracketed, Closes, by_semicolon, by_brace, by_end, IsDeclared, is_declared, IsTarget, no_target, target, IsStatement, var, val, assign, if, while, for, IsBody, no_statements, statements, IsBlock, block, IsElse, no_else, else, IsItem, main_field, main_var, main_assign, main_if, main_while, main_for, print, IsMain, no_items, items, IsMainBlock, main_block, IsMainElse, no_main_else, main_else}
use Rattle.liszt_parser.specs.Grammar.{open_bracket, close_bracket, open_brace, close_brace, comma, semicolon, colon, arrow, set_to, field_word, if_word, else_word, while_word, for_word, print_word, mesh_word}
use Rattle.liszt_parser.proofs.PrefixDepthLemmas.{IsQuiet, IsOperator, ShallowIn, no_front}
use Rattle.liszt_parser.proofs.KindDepthLemmas.{IsLead, opening, closing, opening_brace, closing_brace, minus_operator, bang_operator, quiet_name, name_atom, number_atom, name_caller, word_caller, word_lead, fun_caller, kind_lead, whole_caller, set_caller, sign_infix, rel_infix, how_lead, quiet_of, infix_of, lead_of}
use Rattle.liszt_parser.specs.Internal.Sorts.{level_strength, rank_strength}
use Rattle.liszt_parser.proofs.SegmentDepthLemmas.{Entry, Anywhere, AsLoose, AsOperand, AsAtom, Segment, Operand, LinkList, IsAtom, IsInfix, IsOpening, IsClosing, IsCaller, IsOpeningBrace, IsClosingBrace, IsHead, no_head, one_head, nothing, an_atom, an_operator, in_brackets as bracketed_part, weaker, no_link, a_link, a_chain, then_line, then_part, then_end, before_part, before_loose, before_line, as_part, braces}
use Rattle.liszt_base.specs.Limits.{depth_limit}

-- HOW DEEP the canonical text of a tree goes: brackets, braces and prefix operators
abbrev pub in_brackets_deep : Bool → ℕ → ℕ
in_brackets_deep true n = suc n
in_brackets_deep false n = n

abbrev mutual
  pub expression_deep : Expression → ℕ
  expression_deep (Number place value) = 0
  expression_deep (Name place word) = 0
  expression_deep (Field place word arg) = suc (expression_deep arg)
  expression_deep (Call place fun arg) = suc (expression_deep arg)
  expression_deep (Towards place arg to) = suc (max (expression_deep arg) (expression_deep to))
  expression_deep (Neg place arg) = suc (in_brackets_deep (nat_lt (level_of arg) 6) (expression_deep arg))
  expression_deep (Not place arg) = suc (in_brackets_deep (nat_lt (level_of arg) 6) (expression_deep arg))
  expression_deep (Chain level first links) =
      max (in_brackets_deep (nat_le (level_of first) (chain_level level)) (expression_deep first)) (links_deep (chain_level level) links)
  expression_deep (Compare place rel left right) =
      max (in_brackets_deep (nat_le (level_of left) 3) (expression_deep left)) (in_brackets_deep (nat_le (level_of right) 3) (expression_deep right))

  pub links_deep : ℕ → Links → ℕ
  links_deep level no_links = 0
  links_deep level (link s place arg more) = max (in_brackets_deep (nat_le (level_of arg) level) (expression_deep arg)) (links_deep level more)

abbrev pub target_deep : Option Expression → ℕ
target_deep None = 0
target_deep (Some to) = suc (expression_deep to)

abbrev pub else_deep : Bool → ℕ → ℕ
else_deep true n = suc n
else_deep false n = 0

abbrev mutual
  pub statement_deep : Statement → ℕ
  statement_deep (Var place word at init) = expression_deep init
  statement_deep (Val place word at init) = expression_deep init
  statement_deep (Assign place word to how value) = max (target_deep to) (expression_deep value)
  statement_deep (If place test first second has_else) =
      max (suc (expression_deep test)) (max (suc (body_deep first)) (else_deep has_else (body_deep second)))
  statement_deep (While place test body) = max (suc (expression_deep test)) (suc (body_deep body))
  statement_deep (For place word at set set_at arg body) = max (suc (suc (expression_deep arg))) (suc (body_deep body))

  pub body_deep : Body → ℕ
  body_deep no_statement = 0
  body_deep (statement s more) = max (statement_deep s) (body_deep more)

abbrev mutual
  pub item_deep : MainItem → ℕ
  item_deep (MainField place word at kind init) = expression_deep init
  item_deep (MainVar place word at init) = expression_deep init
  item_deep (MainAssign place word how value) = expression_deep value
  item_deep (MainIf place test first second has_else) =
      max (suc (expression_deep test)) (max (suc (main_deep first)) (else_deep has_else (main_deep second)))
  item_deep (MainWhile place test body) = max (suc (expression_deep test)) (suc (main_deep body))
  item_deep (MainFor place word at over body) = max 2 (suc (body_deep body))
  item_deep (Print place value) = expression_deep value

  pub main_deep : Main → ℕ
  main_deep no_item = 0
  main_deep (item i more) = max (item_deep i) (main_deep more)

-- WHERE a rank stands
abbrev entry_of : Rank → Entry
entry_of (chain level) = AsLoose
entry_of comparison = AsLoose
entry_of prefix_expression = AsOperand
entry_of primary_expression = AsAtom

-- how deep an expression goes where it is read at a rank
abbrev deep_at : Rank → Expression → ℕ
deep_at rank e = in_brackets_deep (nat_lt (level_of e) (rank_strength rank)) (expression_deep e)

stronger : (l s s' : ℕ) → s ≤ s' → nat_lt l s ≡ true → nat_lt l s' ≡ true
stronger l s s' le e = grind (arith, nat_tests)

fewer : (a b : Bool) (n : ℕ) → (a ≡ true → b ≡ true) → in_brackets_deep a n ≤ in_brackets_deep b n
fewer true true n h = omega arith
fewer true false n h = let e : false ≡ true = h refl in cc
fewer false true n h = omega arith
fewer false false n h = omega arith

less_at : (rank rank' : Rank) (e : Expression) → rank_strength rank ≤ rank_strength rank' → deep_at rank e ≤ deep_at rank' e
less_at rank rank' e le =
    fewer (nat_lt (level_of e) (rank_strength rank)) (nat_lt (level_of e) (rank_strength rank')) (expression_deep e)
    (stronger (level_of e) (rank_strength rank) (rank_strength rank') le)

same_test : (l n : ℕ) → nat_lt l (suc n) ≡ nat_le l n
same_test l n = grind (arith, nat_tests)

not_below : (n : ℕ) → nat_lt n n ≡ false
not_below n = grind (arith, nat_tests)

operand_strength : (level : Level) → rank_strength (operand level) ≡ suc (chain_level level)
operand_strength Or = refl
operand_strength And = refl
operand_strength Sum = refl
operand_strength Product = refl

same_strength : (level : Level) → level_strength level ≡ chain_level level
same_strength Or = refl
same_strength And = refl
same_strength Sum = refl
same_strength Product = refl

operand_deep : (level : Level) (e : Expression)
    → in_brackets_deep (nat_le (level_of e) (chain_level level)) (expression_deep e) ≡ deep_at (operand level) e
operand_deep level e =
    ap (λ b. in_brackets_deep b (expression_deep e)) (sym (same_test (level_of e) (chain_level level)))
    ∙ ap (λ n. in_brackets_deep (nat_lt (level_of e) n) (expression_deep e)) (sym (operand_strength level))

sum_deep : (e : Expression) → in_brackets_deep (nat_le (level_of e) 3) (expression_deep e) ≡ deep_at (chain Sum) e
sum_deep e = ap (λ b. in_brackets_deep b (expression_deep e)) (sym (same_test (level_of e) 3))

chain_deep : (level : Level) (first : Expression) (links : Links) → deep_at (chain level) (Chain level first links) ≡ expression_deep (Chain level first links)
chain_deep level first links =
    ap (λ n. in_brackets_deep (nat_lt (chain_level level) n) (expression_deep (Chain level first links))) (same_strength level)
    ∙ ap (λ b. in_brackets_deep b (expression_deep (Chain level first links))) (not_below (chain_level level))

any_deep : (e : Expression) → expression_deep e ≤ deep_at lowest_rank e
any_deep e = go (nat_lt (level_of e) 1) where
  go : (b : Bool) → expression_deep e ≤ in_brackets_deep b (expression_deep e)
  go true = omega arith
  go false = omega arith

one_bracket : (rank : Rank) (e : Expression) → deep_at rank e ≤ suc (expression_deep e)
one_bracket rank e = go (nat_lt (level_of e) (rank_strength rank)) where
  go : (b : Bool) → in_brackets_deep b (expression_deep e) ≤ suc (expression_deep e)
  go true = omega arith
  go false = omega arith

-- WHAT IS READ goes as deep.
record Reaches (enters : Entry) (n : ℕ) (ts left : List Lexeme) : Type 0 where
  deep : ℕ
  part : Operand enters deep ts left
  more : n ≤ deep

record LinksReach (n : ℕ) (ts left : List Lexeme) : Type 0 where
  deep : ℕ
  part : LinkList deep ts left
  more : n ≤ deep

record LineReaches (n : ℕ) (ts left : List Lexeme) : Type 0 where
  deep : ℕ
  part : Segment Anywhere deep ts left
  more : n ≤ deep

lower : {a : Entry} {m : ℕ} {ts left : List Lexeme} (n : ℕ) → n ≤ m → Reaches a m ts left → Reaches a n ts left
lower n le r = record { deep = r.deep; part = r.part; more = omega (arith, le, r.more) }

loose : {m : ℕ} {ts left : List Lexeme} → Reaches AsOperand m ts left → Reaches AsLoose m ts left
loose r = record { deep = r.deep; part = weaker (λ before p stop here. (here.0, here.1)) r.part; more = r.more }

loose_operand : (level : Level) (m : ℕ) (ts left : List Lexeme) → Reaches (entry_of (operand level)) m ts left → Reaches AsLoose m ts left
loose_operand Or m ts left r = r
loose_operand And m ts left r = r
loose_operand Sum m ts left r = r
loose_operand Product m ts left r = loose r

operand_less : (level : Level) (e : Expression) → deep_at (chain level) e ≤ deep_at (operand level) e
operand_less level e = less_at (chain level) (operand level) e (omega (arith, operand_strength level, same_strength level))

mutual
  expression : {rank : Rank} {ts left : List Lexeme} {e : Expression} → IsExpression rank ts e left
      → Reaches (entry_of rank) (deep_at rank e) ts left
  expression (one_operand {level} {ts} {left} {e} d) =
      lower (deep_at (chain level) e) (operand_less level e) (loose_operand level (deep_at (operand level) e) ts left (expression d))
  expression (chained {level} {ts} {mid} {left} {first} {e} {s} {place} {more} d l) =
      let a = loose_operand level (deep_at (operand level) first) ts mid (expression d) in
      let b = links l in
      record {
        deep = max a.deep b.deep;
        part = a_chain a.part b.part;
        more =
            omega (arith, a.more, b.more, operand_deep level first, chain_deep level first (link s place e more));
      }
  expression (one_sum {e} d) = lower (deep_at comparison e) (less_at comparison (chain Sum) e (omega arith)) (expression d)
  expression (compared {a = left} {b = right} {rel} t d is d') =
      let a = expression d in
      let b = expression d' in
      record {
        deep = max a.deep (max b.deep 0);
        part = a_chain a.part (a_link t (rel_infix t.kind rel is) b.part no_link);
        more = omega (arith, a.more, b.more, sum_deep left, sum_deep right);
      }
  expression (no_prefix {e} d) =
      let r = expression d in
      lower (deep_at prefix_expression e) (less_at prefix_expression primary_expression e (omega arith))
      (record { deep = r.deep; part = weaker (λ before p stop here. here.0) r.part; more = r.more })
  expression (negation t is d) =
      let r = expression d in
      record {
        deep = suc r.deep;
        part = an_operator t (subst IsOperator (sym is) minus_operator) r.part;
        more = omega (arith, r.more);
      }
  expression (logical_not t is d) =
      let r = expression d in
      record {
        deep = suc r.deep;
        part = an_operator t (subst IsOperator (sym is) bang_operator) r.part;
        more = omega (arith, r.more);
      }
  expression (number {n} t is) = record { deep = 0; part = an_atom t (subst IsAtom (sym is) (number_atom n)); more = omega arith }
  expression (name t is) = record { deep = 0; part = an_atom t (subst IsAtom (sym is) name_atom); more = omega arith }
  expression (field t is d) = brackets (t ∷ []) (one_head t (subst IsCaller (sym is) name_caller)) d
  expression (call {fun} t is d) =
      brackets (t ∷ []) (one_head t (fun_caller t.kind fun is)) d
  expression (towards {e} {to = target_tree} t o m c is opened d mid to close) =
      let a = expression d in
      let b = expression to in
      let comma_infix : IsInfix m.kind = subst IsInfix (sym mid) (infix_of comma refl refl) in
      let inner = a_chain a.part (a_link m comma_infix b.part no_link) in
      record {
        deep = suc (max a.deep (max b.deep 0));
        part =
            bracketed_part (t ∷ []) o c (one_head t (subst IsCaller (sym is) (word_caller 20))) (subst IsOpening (sym opened) opening)
            (subst IsClosing (sym close) closing) (refl, (subst IsOpening (sym opened) opening).no_end, refl) inner.segment;
        more = omega (arith, a.more, b.more, any_deep e, any_deep target_tree);
      }
  expression (in_brackets {ts} {left} {e} d) =
      let r = brackets [] no_head d in
      record { deep = r.deep; part = r.part; more = omega (arith, r.more, one_bracket primary_expression e) }

  links : {level : Level} {ts left : List Lexeme} {more : Links} → IsLinks level ts more left → LinksReach (links_deep (chain_level level) more) ts left
  links no_more_links = record { deep = 0; part = no_link; more = omega arith }
  links (linked {level} {ts} {mid} {left} {e} {s} {more} t is d l) =
      let a = loose_operand level (deep_at (operand level) e) ts mid (expression d) in
      let b = links l in
      record {
        deep = max a.deep b.deep;
        part = a_link t (sign_infix level t.kind s is) a.part b.part;
        more = omega (arith, a.more, b.more, operand_deep level e);
      }

  brackets : {ts left : List Lexeme} {e : Expression} (head : List Lexeme) → IsHead head → IsBracketed ts e left
      → Reaches AsAtom (suc (expression_deep e)) (head ++ ts) left
  brackets head h (bracketed {e} o c opened d close) =
      let a = expression d in
      record {
        deep = suc a.deep;
        part =
            bracketed_part head o c h (subst IsOpening (sym opened) opening) (subst IsClosing (sym close) closing)
            (refl, (subst IsOpening (sym opened) opening).no_end, refl) a.part.segment;
        more = omega (arith, a.more, any_deep e);
      }

-- STATEMENTS: what closes one, and its expression with that
is_closing : {ts left : List Lexeme} → Closes ts left → Segment Anywhere 0 ts left
is_closing (by_semicolon t is) = before_line t (subst IsQuiet (sym is) (quiet_of semicolon refl refl)) (nothing (λ before p stop here. here))
is_closing (by_brace t is) = nothing (λ before p stop here. here)
is_closing by_end = nothing (λ before p stop here. here)

-- tokens that lead an expression
leads : (t : Lexeme) (kind : TokenKind) → t.kind ≡ kind → IsLead kind → IsLead t.kind
leads t kind is h = subst IsLead (sym is) h

quiets : (t : Lexeme) (kind : TokenKind) → t.kind ≡ kind → IsQuiet kind → IsQuiet t.kind
quiets t kind is h = subst IsQuiet (sym is) h

-- a token, an expression and its end
valued : {ts mid left : List Lexeme} {e : Expression} (t : Lexeme) → IsLead t.kind → IsExpression lowest_rank ts e mid → Closes mid left
    → LineReaches (expression_deep e) (t ∷ ts) left
valued {e} t lead d end =
    let a = expression d in
    record {
      deep = max a.deep 0;
      part = before_loose t lead.quiet lead.no_end (then_end a.part (is_closing end));
      more = omega (arith, a.more, any_deep e);
    }

-- one more token before a line
led : {n : ℕ} {ts left : List Lexeme} (t : Lexeme) → IsQuiet t.kind → LineReaches n ts left → LineReaches n (t ∷ ts) left
led t quiet r = record { deep = r.deep; part = before_line t quiet r.part; more = r.more }

set_lead : IsLead set_to
set_lead = lead_of set_to refl refl refl

declaration : {word : ℕ} {ts left : List Lexeme} {w n : Lexeme} {e : Expression} → IsDeclared (Word word) ts w n e left
    → LineReaches (expression_deep e) ts left
declaration {word} (is_declared w n s is named set d close) =
    led w (quiets w (Word word) is (word_lead word).quiet)
    (led n (quiets n NameToken named quiet_name) (valued s (leads s set_to set set_lead) d close))

-- a part in brackets and lines after it
head_text : {n : ℕ} {ts mid left : List Lexeme} {e : Expression} (t : Lexeme) → IsQuiet t.kind → IsBracketed ts e mid → LineReaches n mid left
    → LineReaches (max (suc (expression_deep e)) n) (t ∷ ts) left
head_text t quiet d r =
    let a = brackets [] no_head d in
    record {
      deep = max a.deep r.deep;
      part = before_part t quiet (then_part (as_part a.part) r.part);
      more = omega (arith, a.more, r.more);
    }

-- the target and the value of an assignment
assigned : {ts ts' left : List Lexeme} {to : Option Expression} {n : ℕ} (t : Lexeme) → IsQuiet t.kind → IsTarget ts to ts' → LineReaches n ts' left
    → LineReaches (max (target_deep to) n) (t ∷ ts) left
assigned t quiet no_target r =
    let a = led t quiet r in
    record { deep = a.deep; part = a.part; more = omega (arith, a.more) }
assigned t quiet (target d) r = head_text t quiet d r

both : {m n : ℕ} {ts mid left : List Lexeme} → LineReaches m ts mid → LineReaches n mid left → LineReaches (max m n) ts left
both a b = record { deep = max a.deep b.deep; part = then_line a.part b.part; more = omega (arith, a.more, b.more) }

in_braces : {n : ℕ} {ts left : List Lexeme} (o c : Lexeme) → o.kind ≡ open_brace → c.kind ≡ close_brace → LineReaches n ts (c ∷ left)
    → LineReaches (suc n) (o ∷ ts) left
in_braces o c opened close r =
    record {
      deep = suc r.deep;
      part = braces o c (subst IsOpeningBrace (sym opened) opening_brace) (subst IsClosingBrace (sym close) closing_brace) r.part;
      more = omega (arith, r.more);
    }

no_line : {left : List Lexeme} → LineReaches 0 left left
no_line = record { deep = 0; part = nothing (λ before p stop here. here); more = omega arith }

-- brackets round a loop's name and set
looped : {n m : ℕ} {ts mid left : List Lexeme} (w o c : Lexeme) → w.kind ≡ for_word → o.kind ≡ open_bracket → c.kind ≡ close_bracket
    → LineReaches n ts (c ∷ mid) → LineReaches m mid left → LineReaches (max (suc n) m) (w ∷ o ∷ ts) left
looped w o c is opened close r body =
    let a = bracketed_part [] o c no_head (subst IsOpening (sym opened) opening) (subst IsClosing (sym close) closing) refl r.part in
    record {
      deep = max (suc r.deep) body.deep;
      part = before_part w (quiets w for_word is (word_lead 6).quiet) (then_part (as_part a) body.part);
      more = omega (arith, r.more, body.more);
    }

-- a name, `<-`, and a set of something
over_set : {n : ℕ} {ts left : List Lexeme} (t a : Lexeme) → t.kind ≡ NameToken → a.kind ≡ arrow → Reaches AsAtom n ts left
    → LineReaches n (t ∷ a ∷ ts) left
over_set t a named is r =
    record {
      deep = r.deep;
      part = before_line t (quiets t NameToken named quiet_name) (before_part a (quiets a arrow is (quiet_of arrow refl refl)) (as_part r.part));
      more = r.more;
    }

mutual
  a_statement : {ts left : List Lexeme} {s : Statement} → IsStatement ts s left → LineReaches (statement_deep s) ts left
  a_statement (var d) = declaration d
  a_statement (val d) = declaration d
  a_statement (assign {how} n h is to operator d close) =
      assigned n (quiets n NameToken is quiet_name) to (valued h (how_lead h.kind how operator) d close)
  a_statement (if w is test first second) =
      head_text w (quiets w if_word is (word_lead 3).quiet) test (both (a_block first) (an_else second))
  a_statement (while w is test body) = head_text w (quiets w while_word is (word_lead 5).quiet) test (a_block body)
  a_statement (for {set} w o n a s c is opened named arrowed of d close body) =
      looped w o c is opened close (over_set n a named arrowed (brackets (s ∷ []) (one_head s (set_caller s.kind set of)) d)) (a_block body)

  a_body : {ts left : List Lexeme} {body : Body} → IsBody ts body left → LineReaches (body_deep body) ts left
  a_body no_statements = no_line
  a_body (statements s more) = both (a_statement s) (a_body more)

  a_block : {ts left : List Lexeme} {body : Body} → IsBlock ts body left → LineReaches (suc (body_deep body)) ts left
  a_block (block o c is body close) = in_braces o c is close (a_body body)

  an_else : {ts left : List Lexeme} {body : Body} {has_else : Bool} → IsElse ts body has_else left
      → LineReaches (else_deep has_else (body_deep body)) ts left
  an_else no_else = no_line
  an_else (else w is body) = led w (quiets w else_word is (word_lead 4).quiet) (a_block body)

-- ITEMS in the same way
-- the whole mesh
whole : {left : List Lexeme} (k p m q : Lexeme) → IsCaller k.kind → p.kind ≡ open_bracket → m.kind ≡ mesh_word → q.kind ≡ close_bracket
    → Reaches AsAtom 1 (k ∷ p ∷ m ∷ q ∷ left) left
whole k p m q of opened is close =
    record {
      deep = 1;
      part =
          bracketed_part (k ∷ []) p q (one_head k of) (subst IsOpening (sym opened) opening) (subst IsClosing (sym close) closing) refl
          (before_line m (quiets m mesh_word is (word_lead 8).quiet) (nothing (λ before p stop here. here)));
      more = omega arith;
    }

mutual
  an_item : {ts left : List Lexeme} {i : MainItem} → IsItem ts i left → LineReaches (item_deep i) ts left
  an_item (main_field {kind} w n d k s is named coloned of set e close) =
      led w (quiets w field_word is (word_lead 0).quiet) (led n (quiets n NameToken named quiet_name)
      (led d (quiets d colon coloned (quiet_of colon refl refl)) (led k (kind_lead k.kind kind of).quiet
      (valued s (leads s set_to set set_lead) e close))))
  an_item (main_var d) = declaration d
  an_item (main_assign {how} n h is operator d close) =
      led n (quiets n NameToken is quiet_name) (valued h (how_lead h.kind how operator) d close)
  an_item (main_if w is test first second) =
      head_text w (quiets w if_word is (word_lead 3).quiet) test (both (a_main_block first) (a_main_else second))
  an_item (main_while w is test body) = head_text w (quiets w while_word is (word_lead 5).quiet) test (a_main_block body)
  an_item (main_for {kind} w o n a k p m q c is opened named arrowed of inner mesh close close' body) =
      looped w o c is opened close' (over_set n a named arrowed (whole k p m q (whole_caller k.kind kind of) inner mesh close)) (a_block body)
  an_item (print w is d close) = valued w (leads w print_word is (word_lead 7)) d close

  a_main : {ts left : List Lexeme} {tree : Main} → IsMain ts tree left → LineReaches (main_deep tree) ts left
  a_main no_items = no_line
  a_main (items i more) = both (an_item i) (a_main more)

  a_main_block : {ts left : List Lexeme} {body : Main} → IsMainBlock ts body left → LineReaches (suc (main_deep body)) ts left
  a_main_block (main_block o c is body close) = in_braces o c is close (a_main body)

  a_main_else : {ts left : List Lexeme} {body : Main} {has_else : Bool} → IsMainElse ts body has_else left
      → LineReaches (else_deep has_else (main_deep body)) ts left
  a_main_else no_main_else = no_line
  a_main_else (main_else w is body) = led w (quiets w else_word is (word_lead 4).quiet) (a_main_block body)

-- so the tokens of a program are as deep as its canonical text somewhere
pub reaches : (ts : List Lexeme) (tree : Main) → IsMain ts tree [] → ShallowIn [] ts → main_deep tree ≤ depth_limit
reaches ts tree d shallow =
    let r = a_main d in
    let whole : ts ≡ r.part.part.tokens = r.part.part.is ∙ append-nil r.part.part.tokens in
    let deep = r.part.lower [] None 0 0 0 false no_front refl (subst (ShallowIn []) whole shallow) in
    omega (arith, r.more, deep)
