-- The tokens of a canonical text go no deeper than its tree says.
use Rattle.std.proofs.Common.{◌≡◌, ℕ, suc, ◌≤◌, max, nat_le, nat_lt, Bool, true, false, Option, Some, None, List, [], ◌∷◌, ◌++◌}
use Rattle.std.proofs.Common.{codes, refl, sym, subst, ◌∙◌, arith}
use Rattle.std.specs.Fmt.{signed_decimal}
use Rattle.std.proofs.lemmas.List.{append-nil}
use Rattle.liszt_base.specs.declared.answers.Place.{Place}
use Rattle.liszt_base.specs.declared.elements.Kind.{Kind}
use Rattle.liszt_base.specs.declared.elements.Kind.TheVariants.{Vertex, Edge, Face, Cell}
use Rattle.liszt_lexer.specs.declared.token.TokenKind.TheVariants.{Name as NameToken, Number as NumberToken, Word}
use Rattle.liszt_lexer.proofs.SpellingLemmas.{Spelling}
use Rattle.liszt_tree.specs.declared.tree.Level.TheVariants.{Or, And, Sum, Product}
use Rattle.liszt_tree.specs.declared.tree.Sign.{Sign}
use Rattle.liszt_tree.specs.declared.tree.Sign.TheVariants as sign
use Rattle.liszt_tree.specs.Canonical.{kind_word, mesh_set_word, set_word, fun_word, how_text, sign_text, rel_text, chain_level, level_of}
use Rattle.liszt_tree.specs.Tree.{Expression, Number, Name, Field, Call, Towards, Neg, Not, Chain, Compare, Links, no_links, link, Statement, Var, Val, Assign, If, While, For, Body, no_statement, statement, MainItem, MainField, MainVar, MainAssign, MainIf, MainWhile, MainFor, Print, Main, no_item, item}
use Rattle.liszt_parser.specs.Grammar.{Lexeme, open_bracket, close_bracket, open_brace, close_brace, comma, semicolon, colon, arrow, minus, bang, set_to, field_word, if_word, else_word, while_word, for_word, print_word, mesh_word, towards_word}
use Rattle.liszt_parser.proofs.TreeDepthLemmas.{in_brackets_deep, expression_deep, links_deep, target_deep, else_deep, statement_deep, body_deep, item_deep, main_deep}
use Rattle.liszt_parser.proofs.PrefixDepthLemmas.{IsQuiet, ShallowIn, no_front}
use Rattle.liszt_parser.proofs.KindDepthLemmas.{IsLead, opening, closing, opening_brace, closing_brace, minus_operator, bang_operator, quiet_name, name_atom, number_atom, name_caller, word_caller, word_lead, fun_caller, kind_lead, set_caller, rel_infix, how_lead, quiet_of, infix_of, lead_of}
use Rattle.liszt_parser.proofs.SegmentDepthLemmas.{Entry, Anywhere, AsLoose, AsOperand, AsAtom, Segment, Operand, LinkList, IsInfix, IsHead, no_head, one_head, nothing, an_atom, an_operator, in_brackets as bracketed_part, weaker, no_link, a_link, a_chain, then_line, then_part, then_end, before_part, before_loose, before_line, as_part, braces}
use Rattle.liszt_parser.proofs.CanonicalTreeLemmas.{placed_word, later, placed, fun_has_value, kind_has_value, set_has_value, rel_has_value, how_has_value}
use Rattle.liszt_parser.proofs.CanonicalTokens.{Words, spelt, fun_token, kind_token, whole_token, set_token, sign_token, rel_token, how_token, bracketed_words, words_in, words_of, links_words, closed_words, declared_words, target_words, ended_words, else_words, statement_words, body_words, item_words, main_words}
use Rattle.liszt_base.specs.Limits.{depth_limit}

-- an operator of a chain stands between operands
sign_infix : (s : Sign) → IsInfix (sign_token s)
sign_infix sign.Or = infix_of (sign_token sign.Or) refl refl
sign_infix sign.And = infix_of (sign_token sign.And) refl refl
sign_infix sign.Plus = infix_of (sign_token sign.Plus) refl refl
sign_infix sign.Minus = infix_of (sign_token sign.Minus) refl refl
sign_infix sign.Times = infix_of (sign_token sign.Times) refl refl
sign_infix sign.Over = infix_of (sign_token sign.Over) refl refl
sign_infix sign.Rest = infix_of (sign_token sign.Rest) refl refl

-- WHAT IS WRITTEN goes no deeper.
record Written (enters : Entry) (n : ℕ) (ts : List Lexeme) (ws : List Spelling) : Type 0 where
  at : ℕ → Place
  deep : ℕ
  part : Operand enters deep ts (placed at ws)
  less : deep ≤ n

record WrittenLinks (n : ℕ) (ts : List Lexeme) (ws : List Spelling) : Type 0 where
  at : ℕ → Place
  deep : ℕ
  part : LinkList deep ts (placed at ws)
  less : deep ≤ n

record WrittenLine (n : ℕ) (ts : List Lexeme) (ws : List Spelling) : Type 0 where
  at : ℕ → Place
  deep : ℕ
  part : Segment Anywhere deep ts (placed at ws)
  less : deep ≤ n

-- where an expression stands with no brackets
abbrev entry_for : Expression → Entry
entry_for (Chain level first links) = AsLoose
entry_for (Compare place rel left right) = AsLoose
entry_for (Neg place arg) = AsOperand
entry_for (Not place arg) = AsOperand
entry_for _ = AsAtom

loose_entry : (e : Expression) (before : Option Lexeme) (p : ℕ) (stop : Bool) → AsLoose before p stop → entry_for e before p stop
loose_entry (Number place value) before p stop here = here.0
loose_entry (Name place word) before p stop here = here.0
loose_entry (Field place word arg) before p stop here = here.0
loose_entry (Call place fun arg) before p stop here = here.0
loose_entry (Towards place arg to) before p stop here = here.0
loose_entry (Neg place arg) before p stop here = (here.0, here.1)
loose_entry (Not place arg) before p stop here = (here.0, here.1)
loose_entry (Chain level first links) before p stop here = here
loose_entry (Compare place rel left right) before p stop here = here

operand_entry : (e : Expression) → nat_lt (level_of e) 6 ≡ false
    → (before : Option Lexeme) (p : ℕ) (stop : Bool) → AsOperand before p stop → entry_for e before p stop
operand_entry (Number place value) tight before p stop here = here.0
operand_entry (Name place word) tight before p stop here = here.0
operand_entry (Field place word arg) tight before p stop here = here.0
operand_entry (Call place fun arg) tight before p stop here = here.0
operand_entry (Towards place arg to) tight before p stop here = here.0
operand_entry (Neg place arg) tight before p stop here = here
operand_entry (Not place arg) tight before p stop here = here
operand_entry (Chain Or first links) tight before p stop here = absurd cc
operand_entry (Chain And first links) tight before p stop here = absurd cc
operand_entry (Chain Sum first links) tight before p stop here = absurd cc
operand_entry (Chain Product first links) tight before p stop here = absurd cc
operand_entry (Compare place rel left right) tight before p stop here = absurd cc

-- at each place, whatever follows
abbrev Writes : Expression → Type 0
Writes e = (at : ℕ → Place) (ws : List Spelling) → Written (entry_for e) (expression_deep e) (placed at (words_of e ws)) ws

-- in brackets
brackets : (head : List Lexeme) (e : Expression) (at : ℕ → Place) (ws : List Spelling) → IsHead head → Writes e
    → Written AsAtom (suc (expression_deep e)) (head ++ placed at (bracketed_words (words_of e) ws)) ws
brackets head e at ws h write =
    let close : Spelling = spelt close_bracket (codes ")") in
    let o = placed_word (at 0) (spelt open_bracket (codes "(")) in
    let r = write (later at) (close ∷ ws) in
    record {
      at = later r.at;
      deep = suc r.deep;
      part =
          bracketed_part head o (placed_word (r.at 0) close) h opening closing (loose_entry e (Some o) 0 false (refl, refl, refl)) r.part.segment;
      less = omega (arith, r.less);
    }

-- an operand, in brackets where its level asks for them
an_operand : {enters : Entry} (e : Expression) (b : Bool) (at : ℕ → Place) (ws : List Spelling)
    → (b ≡ false → (before : Option Lexeme) (p : ℕ) (stop : Bool) → enters before p stop → entry_for e before p stop)
    → ((before : Option Lexeme) (p : ℕ) (stop : Bool) → enters before p stop → AsAtom before p stop) → Writes e
    → Written enters (in_brackets_deep b (expression_deep e)) (placed at (words_in b (words_of e) ws)) ws
an_operand e false at ws expression_without_places in_brackets write =
    let r = write at ws in
    record { at = r.at; deep = r.deep; part = weaker (expression_without_places refl) r.part; less = r.less }
an_operand e true at ws expression_without_places in_brackets write =
    let r = brackets [] e at ws no_head write in
    record { at = r.at; deep = r.deep; part = weaker in_brackets r.part; less = r.less }

-- of a chain or a comparison, and of a prefix operator
loose_operand : (e : Expression) (b : Bool) (at : ℕ → Place) (ws : List Spelling) → Writes e
    → Written AsLoose (in_brackets_deep b (expression_deep e)) (placed at (words_in b (words_of e) ws)) ws
loose_operand e b at ws write = an_operand e b at ws (λ expression_without_places. loose_entry e) (λ before p stop here. here.0) write

tight_operand : (e : Expression) (at : ℕ → Place) (ws : List Spelling) → Writes e
    → Written AsOperand (in_brackets_deep (nat_lt (level_of e) 6) (expression_deep e))
    (placed at (words_in (nat_lt (level_of e) 6) (words_of e) ws)) ws
tight_operand e at ws write = an_operand e (nat_lt (level_of e) 6) at ws (operand_entry e) (λ before p stop here. here.0) write

-- EXPRESSIONS
mutual
  expression : (e : Expression) (at : ℕ → Place) (ws : List Spelling)
      → Written (entry_for e) (expression_deep e) (placed at (words_of e ws)) ws
  expression (Number place value) at ws =
      record {
        at = later at;
        deep = 0;
        part = an_atom (placed_word (at 0) (spelt (NumberToken value) (signed_decimal value))) (number_atom value);
        less = omega arith;
      }
  expression (Name place word) at ws =
      record { at = later at; deep = 0; part = an_atom (placed_word (at 0) (spelt NameToken word)) name_atom; less = omega arith }
  expression (Field place word arg) at ws =
      let t = placed_word (at 0) (spelt NameToken word) in
      brackets (t ∷ []) arg (later at) ws (one_head t name_caller) (expression arg)
  expression (Call place fun arg) at ws =
      let t = placed_word (at 0) (spelt (fun_token fun) (fun_word fun)) in
      brackets (t ∷ []) arg (later at) ws (one_head t (fun_caller (fun_token fun) fun (fun_has_value fun))) (expression arg)
  expression (Towards place arg to) at ws =
      let close : Spelling = spelt close_bracket (codes ")") in
      let mid : Spelling = spelt comma (codes ",") in
      let t = placed_word (at 0) (spelt towards_word (codes "towards")) in
      let o = placed_word (at 1) (spelt open_bracket (codes "(")) in
      let a = expression arg (later (later at)) (mid ∷ words_of to (close ∷ ws)) in
      let b = expression to (later a.at) (close ∷ ws) in
      let inner = a_chain (weaker (loose_entry arg) a.part)
      (a_link (placed_word (a.at 0) mid) (infix_of comma refl refl) (weaker (loose_entry to) b.part) no_link) in
      record {
        at = later b.at;
        deep = suc (max a.deep (max b.deep 0));
        part =
            bracketed_part (t ∷ []) o (placed_word (b.at 0) close) (one_head t (word_caller 20)) opening closing (refl, refl, refl) inner.segment;
        less = omega (arith, a.less, b.less);
      }
  expression (Neg place arg) at ws =
      let r = tight_operand arg (later at) ws (expression arg) in
      record {
        at = r.at;
        deep = suc r.deep;
        part = an_operator (placed_word (at 0) (spelt minus (codes "-"))) minus_operator r.part;
        less = omega (arith, r.less);
      }
  expression (Not place arg) at ws =
      let r = tight_operand arg (later at) ws (expression arg) in
      record {
        at = r.at;
        deep = suc r.deep;
        part = an_operator (placed_word (at 0) (spelt bang (codes "!"))) bang_operator r.part;
        less = omega (arith, r.less);
      }
  expression (Chain level first more) at ws =
      let n = chain_level level in
      let a = loose_operand first (nat_le (level_of first) n) at (links_words n more ws) (expression first) in
      let b = links n more a.at ws in
      record { at = b.at; deep = max a.deep b.deep; part = a_chain a.part b.part; less = omega (arith, a.less, b.less) }
  expression (Compare place rel left right) at ws =
      let operator : Spelling = spelt (rel_token rel) (rel_text rel) in
      let rest = words_in (nat_le (level_of right) 3) (words_of right) ws in
      let a = loose_operand left (nat_le (level_of left) 3) at (operator ∷ rest) (expression left) in
      let b = loose_operand right (nat_le (level_of right) 3) (later a.at) ws (expression right) in
      record {
        at = b.at;
        deep = max a.deep (max b.deep 0);
        part =
            a_chain a.part (a_link (placed_word (a.at 0) operator) (rel_infix (rel_token rel) rel (rel_has_value rel)) b.part no_link);
        less = omega (arith, a.less, b.less);
      }

  links : (n : ℕ) (more : Links) (at : ℕ → Place) (ws : List Spelling) → WrittenLinks (links_deep n more) (placed at (links_words n more ws)) ws
  links n no_links at ws = record { at = at; deep = 0; part = no_link; less = omega arith }
  links n (link s place arg more) at ws =
      let operator : Spelling = spelt (sign_token s) (sign_text s) in
      let a = loose_operand arg (nat_le (level_of arg) n) (later at) (links_words n more ws) (expression arg) in
      let b = links n more a.at ws in
      record {
        at = b.at;
        deep = max a.deep b.deep;
        part = a_link (placed_word (at 0) operator) (sign_infix s) a.part b.part;
        less = omega (arith, a.less, b.less);
      }

-- STATEMENTS
-- one more token before a line
led : {n : ℕ} {ts : List Lexeme} {ws : List Spelling} (t : Lexeme) → IsQuiet t.kind → WrittenLine n ts ws → WrittenLine n (t ∷ ts) ws
led t quiet r = record { at = r.at; deep = r.deep; part = before_line t quiet r.part; less = r.less }

no_line : (at : ℕ → Place) (ws : List Spelling) → WrittenLine 0 (placed at ws) ws
no_line at ws = record { at = at; deep = 0; part = nothing (λ before p stop here. here); less = omega arith }

-- a token, an expression and its `;`
valued : (t : Lexeme) (e : Expression) (at : ℕ → Place) (ws : List Spelling) → IsLead t.kind
    → WrittenLine (expression_deep e) (t ∷ placed at (closed_words e ws)) ws
valued t e at ws lead =
    let end : Spelling = spelt semicolon (codes ";") in
    let a = expression e at (end ∷ ws) in
    let closed = before_line (placed_word (a.at 0) end) (quiet_of semicolon refl refl) (nothing (λ before p stop here. here)) in
    record {
      at = later a.at;
      deep = max a.deep 0;
      part = before_loose t lead.quiet lead.no_end (then_end (weaker (loose_entry e) a.part) closed);
      less = omega (arith, a.less);
    }

set_lead : IsLead set_to
set_lead = lead_of set_to refl refl refl

declaration : (word : ℕ) (bytes called : List ℕ) (init : Expression) (at : ℕ → Place) (ws : List Spelling)
    → WrittenLine (expression_deep init) (placed at (declared_words (Word word) bytes called init ws)) ws
declaration word bytes called init at ws =
    led (placed_word (at 0) (spelt (Word word) bytes)) (word_lead word).quiet (led (placed_word (at 1) (spelt NameToken called)) quiet_name
    (valued (placed_word (at 2) (spelt set_to (codes "="))) init (later (later (later at))) ws set_lead))

-- an expression in brackets after a token, and a line after it
abbrev WritesLine : ℕ → Words → List Spelling → Type 0
WritesLine n words ws = (at : ℕ → Place) → WrittenLine n (placed at (words ws)) ws

head_text : {n : ℕ} (t : Lexeme) (e : Expression) (at : ℕ → Place) (words : Words) (ws : List Spelling) → IsQuiet t.kind → WritesLine n words ws
    → WrittenLine (max (suc (expression_deep e)) n) (t ∷ placed at (bracketed_words (words_of e) (words ws))) ws
head_text t e at words ws quiet write =
    let a = brackets [] e at (words ws) no_head (expression e) in
    let r = write a.at in
    record {
      at = r.at;
      deep = max a.deep r.deep;
      part = before_part t quiet (then_part (as_part a.part) r.part);
      less = omega (arith, a.less, r.less);
    }

assigned : {n : ℕ} (t : Lexeme) (to : Option Expression) (at : ℕ → Place) (words : Words) (ws : List Spelling) → IsQuiet t.kind
    → WritesLine n words ws → WrittenLine (max (target_deep to) n) (t ∷ placed at (target_words to (words ws))) ws
assigned t None at words ws quiet write =
    let r = led t quiet (write at) in
    record { at = r.at; deep = r.deep; part = r.part; less = omega (arith, r.less) }
assigned t (Some e) at words ws quiet write = head_text t e at words ws quiet write

both : {m n : ℕ} (f g : Words) (at : ℕ → Place) (ws : List Spelling)
    → WritesLine m f (g ws) → WritesLine n g ws → WrittenLine (max m n) (placed at (f (g ws))) ws
both f g at ws first second =
    let a = first at in
    let b = second a.at in
    record { at = b.at; deep = max a.deep b.deep; part = then_line a.part b.part; less = omega (arith, a.less, b.less) }

-- `{`, a body and `}`
in_braces : {n : ℕ} (words : Words) (at : ℕ → Place) (ws : List Spelling) → WritesLine n words (ended_words ws)
    → WrittenLine (suc n) (placed at (spelt open_brace (codes "{") ∷ words (ended_words ws))) ws
in_braces words at ws write =
    let r = write (later at) in
    record {
      at = later r.at;
      deep = suc r.deep;
      part =
          braces (placed_word (at 0) (spelt open_brace (codes "{"))) (placed_word (r.at 0) (spelt close_brace (codes "}"))) opening_brace
          closing_brace r.part;
      less = omega (arith, r.less);
    }

-- the two blocks of an `if`
two_blocks : {m n : ℕ} (has_else : Bool) (first second : Words) (at : ℕ → Place) (ws : List Spelling)
    → ((ws : List Spelling) → WritesLine m first ws) → ((ws : List Spelling) → WritesLine n second ws)
    → WrittenLine (max (suc m) (else_deep has_else n))
    (placed at (spelt open_brace (codes "{") ∷ first (else_words has_else second ws))) ws
two_blocks false first second at ws write write' =
    let r = in_braces first at ws (write (ended_words ws)) in
    record { at = r.at; deep = r.deep; part = r.part; less = omega (arith, r.less) }
two_blocks true first second at ws write write' =
    both (λ l. spelt open_brace (codes "{") ∷ first (ended_words l))
    (λ l. spelt else_word (codes "else") ∷ spelt open_brace (codes "{") ∷ second (ended_words l)) at ws
    (λ at. in_braces first at (spelt else_word (codes "else") ∷ spelt open_brace (codes "{") ∷ second (ended_words ws)) (write _))
    (λ at. led (placed_word (at 0) (spelt else_word (codes "else"))) (word_lead 4).quiet
    (in_braces second (later at) ws (write' (ended_words ws))))

-- the head of a loop: a name, `<-` and a set of something in brackets, and its block
looped : {n m : ℕ} (called : List ℕ) (set body : Words) (at : ℕ → Place) (ws : List Spelling)
    → ((at : ℕ → Place) (ws : List Spelling) → Written AsAtom n (placed at (set ws)) ws) → ((ws : List Spelling) → WritesLine m body ws)
    → WrittenLine (max (suc n) (suc m)) (placed at (spelt for_word (codes "for") ∷ spelt open_bracket (codes "(") ∷ spelt NameToken called
    ∷ spelt arrow (codes "<-") ∷ set (spelt close_bracket (codes ")") ∷ spelt open_brace (codes "{") ∷ body (ended_words ws)))) ws
looped called set body at ws over write =
    let close : Spelling = spelt close_bracket (codes ")") in
    let rest : List Spelling = spelt open_brace (codes "{") ∷ body (ended_words ws) in
    let w = placed_word (at 0) (spelt for_word (codes "for")) in
    let o = placed_word (at 1) (spelt open_bracket (codes "(")) in
    let a = over (later (later (later (later at)))) (close ∷ rest) in
    let inner = before_line (placed_word (at 2) (spelt NameToken called)) quiet_name
    (before_part (placed_word (at 3) (spelt arrow (codes "<-"))) (quiet_of arrow refl refl) (as_part a.part)) in
    let r = in_braces body (later a.at) ws (write (ended_words ws)) in
    record {
      at = r.at;
      deep = max (suc a.deep) r.deep;
      part =
          before_part w (word_lead 6).quiet
          (then_part (as_part (bracketed_part [] o (placed_word (a.at 0) close) no_head opening closing refl inner)) r.part);
      less = omega (arith, a.less, r.less);
    }

mutual
  a_statement : (s : Statement) (at : ℕ → Place) (ws : List Spelling) → WrittenLine (statement_deep s) (placed at (statement_words s ws)) ws
  a_statement (Var place word place' init) at ws = declaration 1 (codes "var") word init at ws
  a_statement (Val place word place' init) at ws = declaration 2 (codes "val") word init at ws
  a_statement (Assign place word to how value) at ws =
      assigned (placed_word (at 0) (spelt NameToken word)) to (later at) (λ l. spelt (how_token how) (how_text how) ∷ closed_words value l) ws
      quiet_name
      (λ at. valued (placed_word (at 0) (spelt (how_token how) (how_text how))) value (later at) ws (how_lead (how_token how) how (how_has_value how)))
  a_statement (If place test first second has_else) at ws =
      head_text (placed_word (at 0) (spelt if_word (codes "if"))) test (later at)
      (λ l. spelt open_brace (codes "{") ∷ body_words first (else_words has_else (body_words second) l)) ws (word_lead 3).quiet
      (λ at. two_blocks has_else (body_words first) (body_words second) at ws (λ ws at. a_body first at ws) (λ ws at. a_body second at ws))
  a_statement (While place test body) at ws =
      head_text (placed_word (at 0) (spelt while_word (codes "while"))) test (later at)
      (λ l. spelt open_brace (codes "{") ∷ body_words body (ended_words l)) ws (word_lead 5).quiet
      (λ at. in_braces (body_words body) at ws (λ at. a_body body at (ended_words ws)))
  a_statement (For place word place' set place'' arg body) at ws =
      looped word (λ l. spelt (set_token set) (set_word set) ∷ bracketed_words (words_of arg) l) (body_words body) at ws
      (λ at l. brackets (placed_word (at 0) (spelt (set_token set) (set_word set)) ∷ []) arg (later at) l
      (one_head (placed_word (at 0) (spelt (set_token set) (set_word set))) (set_caller (set_token set) set (set_has_value set))) (expression arg))
      (λ ws at. a_body body at ws)

  a_body : (body : Body) (at : ℕ → Place) (ws : List Spelling) → WrittenLine (body_deep body) (placed at (body_words body ws)) ws
  a_body no_statement at ws = no_line at ws
  a_body (statement s more) at ws =
      both (statement_words s) (body_words more) at ws (λ at. a_statement s at (body_words more ws)) (λ at. a_body more at ws)

-- ITEMS in the same way
-- the whole mesh
whole_mesh : (set : List ℕ) (place : ℕ) (at : ℕ → Place) (ws : List Spelling)
    → Written AsAtom 1 (placed at (spelt (Word place) set ∷ spelt open_bracket (codes "(") ∷ spelt mesh_word (codes "mesh")
    ∷ spelt close_bracket (codes ")") ∷ ws)) ws
whole_mesh set place at ws =
    let t = placed_word (at 0) (spelt (Word place) set) in
    let inner = before_line (placed_word (at 2) (spelt mesh_word (codes "mesh"))) (word_lead 8).quiet (nothing (λ before p stop here. here)) in
    record {
      at = later (later (later (later at)));
      deep = 1;
      part =
          bracketed_part (t ∷ []) (placed_word (at 1) (spelt open_bracket (codes "("))) (placed_word (at 3) (spelt close_bracket (codes ")")))
          (one_head t (word_caller place)) opening closing refl inner;
      less = omega arith;
    }

whole_set : (kind : Kind) (at : ℕ → Place) (ws : List Spelling)
    → Written AsAtom 1 (placed at (spelt (whole_token kind) (mesh_set_word kind) ∷ spelt open_bracket (codes "(")
    ∷ spelt mesh_word (codes "mesh") ∷ spelt close_bracket (codes ")") ∷ ws)) ws
whole_set Vertex at ws = whole_mesh (mesh_set_word Vertex) 21 at ws
whole_set Edge at ws = whole_mesh (mesh_set_word Edge) 22 at ws
whole_set Face at ws = whole_mesh (mesh_set_word Face) 23 at ws
whole_set Cell at ws = whole_mesh (mesh_set_word Cell) 24 at ws

mutual
  an_item : (i : MainItem) (at : ℕ → Place) (ws : List Spelling) → WrittenLine (item_deep i) (placed at (item_words i ws)) ws
  an_item (MainField place word place' kind init) at ws =
      led (placed_word (at 0) (spelt field_word (codes "field"))) (word_lead 0).quiet
      (led (placed_word (at 1) (spelt NameToken word)) quiet_name
      (led (placed_word (at 2) (spelt colon (codes ":"))) (quiet_of colon refl refl)
      (led (placed_word (at 3) (spelt (kind_token kind) (kind_word kind))) (kind_lead (kind_token kind) kind (kind_has_value kind)).quiet
      (valued (placed_word (at 4) (spelt set_to (codes "="))) init (later (later (later (later (later at))))) ws set_lead))))
  an_item (MainVar place word place' init) at ws = declaration 1 (codes "var") word init at ws
  an_item (MainAssign place word how value) at ws =
      led (placed_word (at 0) (spelt NameToken word)) quiet_name
      (valued (placed_word (at 1) (spelt (how_token how) (how_text how))) value (later (later at)) ws
      (how_lead (how_token how) how (how_has_value how)))
  an_item (MainIf place test first second has_else) at ws =
      head_text (placed_word (at 0) (spelt if_word (codes "if"))) test (later at)
      (λ l. spelt open_brace (codes "{") ∷ main_words first (else_words has_else (main_words second) l)) ws (word_lead 3).quiet
      (λ at. two_blocks has_else (main_words first) (main_words second) at ws (λ ws at. a_main first at ws) (λ ws at. a_main second at ws))
  an_item (MainWhile place test body) at ws =
      head_text (placed_word (at 0) (spelt while_word (codes "while"))) test (later at)
      (λ l. spelt open_brace (codes "{") ∷ main_words body (ended_words l)) ws (word_lead 5).quiet
      (λ at. in_braces (main_words body) at ws (λ at. a_main body at (ended_words ws)))
  an_item (MainFor place word place' over body) at ws =
      looped word (λ l. spelt (whole_token over) (mesh_set_word over) ∷ spelt open_bracket (codes "(") ∷ spelt mesh_word (codes "mesh")
      ∷ spelt close_bracket (codes ")") ∷ l) (body_words body) at ws (whole_set over) (λ ws at. a_body body at ws)
  an_item (Print place value) at ws = valued (placed_word (at 0) (spelt print_word (codes "print"))) value (later at) ws (word_lead 7)

  a_main : (tree : Main) (at : ℕ → Place) (ws : List Spelling) → WrittenLine (main_deep tree) (placed at (main_words tree ws)) ws
  a_main no_item at ws = no_line at ws
  a_main (item i more) at ws =
      both (item_words i) (main_words more) at ws (λ at. an_item i at (main_words more ws)) (λ at. a_main more at ws)

-- so the tokens of a canonical text are shallow where its tree is
pub written_shallow : (tree : Main) (at : ℕ → Place) → main_deep tree ≤ depth_limit → ShallowIn [] (placed at (main_words tree []))
written_shallow tree at le =
    let r = a_main tree at [] in
    let whole : placed at (main_words tree []) ≡ r.part.part.tokens = r.part.part.is ∙ append-nil r.part.part.tokens in
    subst (ShallowIn []) (sym whole) (r.part.upper [] None 0 0 0 false no_front refl (omega (arith, r.less, le)))
