-- The productions of statements, by their first tokens, as readers one after the other.
use Rattle.std.proofs.Common.{◌≡◌, Bool, true, false, Option, Some, None, List, ◌∷◌, refl, sym, ap, subst, ◌∙◌}
use Rattle.std.specs.Prelude.{⊤}
use Rattle.liszt_base.specs.declared.elements.SetName.{SetName}
use Rattle.liszt_lexer.specs.declared.token.TokenKind.{TokenKind}
use Rattle.liszt_lexer.specs.declared.token.TokenKind.TheVariants.{Name as NameToken}
use Rattle.liszt_tree.specs.declared.tree.How.{How}
use Rattle.liszt_tree.specs.Tree.{Expression, Statement, Assign, If, Body, no_statement}
use Rattle.liszt_parser.specs.Grammar.{Lexeme, lowest_rank, how_of, set_of, open_bracket, close_bracket, arrow, set_to, var_word, val_word, if_word, else_word, while_word, for_word, IsExpression, IsBracketed, IsDeclared, is_declared, IsTarget, no_target, target, IsStatement, var, val, assign, if, while, for, IsBlock, IsElse, no_else, else}
use Rattle.liszt_parser.specs.Internal.Reading.{Reader, SameHead, HeadIs, Is, HeadIsNot, token, token_with_value, ◌then◌, ReadsOptional}
use Rattle.liszt_parser.specs.Internal.Sorts.{a_var, a_val, an_if, a_while, a_for, NoElse}
use Rattle.liszt_parser.specs.Internal.Productions.{brackets, arguments, statements, blocks, closed_expression, declaration, elses, variables_tree, constants_tree, assignments_tree, branches_tree, repetitions_tree, set_loops_tree}
use Rattle.liszt_parser.proofs.Sorts.{sort_var, sort_val, sort_if, sort_while, sort_for, clash}
use Rattle.liszt_parser.proofs.OneStatement.{statement_sort, statement_begins}
use Rattle.liszt_parser.proofs.Readers.{Becomes, head_by, same_back}
use Rattle.liszt_parser.proofs.HeadLemmas.{head_sorted, not_else}

-- DECLARATIONS
pub declared_into : (word : TokenKind) (us left : List Lexeme) (x : Lexeme × (Lexeme × Expression)) → (declaration word).reads us x left
    → IsDeclared word us x.0 x.1.0 x.1.1 left
declared_into word us left x d =
    subst (λ (z : Lexeme × (Lexeme × Expression)). IsDeclared word us z.0 z.1.0 z.1.1 left) (sym d.2)
    (go us left d.1.0 d.1.2.0 d.1.2.2.0 d.0.0 d.0.1.0 d.0.1.1.0 d.0.1.1.1 d.1.1 d.1.2.1 d.1.2.2.1 d.1.2.2.2)
  where
    go : (us left mid mid' mid'' : List Lexeme) (w n s : Lexeme) (e : Expression) → (us ≡ w ∷ mid) × (w.kind ≡ word)
        → (mid ≡ n ∷ mid') × (n.kind ≡ NameToken) → (mid' ≡ s ∷ mid'') × (s.kind ≡ set_to) → closed_expression.reads mid'' e left
        → IsDeclared word us w n e left
    go us left mid mid' mid'' w n s e h hn hs c =
        subst (λ z. IsDeclared word z w n e left) (sym (h.0 ∙ ap (λ z. w ∷ z) (hn.0 ∙ ap (λ z. n ∷ z) hs.0)))
        (is_declared w n s h.1 hn.1 hs.1 (subst (λ z. IsExpression lowest_rank mid'' z c.1.0) (sym c.2) c.1.1) c.1.2)

pub declared_out : (word : TokenKind) (us left : List Lexeme) (w n : Lexeme) (e : Expression) → IsDeclared word us w n e left
    → (declaration word).reads us (w, (n, e)) left
declared_out word us left w n e (is_declared {ts} {mid} w' n' s h hn hs d c) =
    ((w, (n, (s, e))), (n ∷ s ∷ ts, (refl, h), (s ∷ ts, (refl, hn), (ts, (refl, hs), ((e, tt), (mid, d, c), refl)))), refl)

pub declared_first : (word : TokenKind) (us left : List Lexeme) (w n : Lexeme) (e : Expression) → IsDeclared word us w n e left → HeadIs (Is word) us
declared_first word us left w n e (is_declared w' n' s h hn hs d c) = h

pub var_becomes : (ts : List Lexeme) → HeadIs (Is var_word) ts → Becomes statements (declaration var_word) variables_tree ts
var_becomes ts first =
    record {
      into = λ us left x d. var (declared_into var_word us left x d);
      out = λ other left e h d stop. out other left e (head_by (Is var_word) ts other h first) d;
      fits = λ left other h. h;
    }
  where
    out : (other left : List Lexeme) (e : Statement) → HeadIs (Is var_word) other → IsStatement other e left
        → (x : Lexeme × (Lexeme × Expression)) × (declaration var_word).reads other x left × ⊤ × (e ≡ variables_tree x)
    out other left e h (var {e = x} {w} {n} d) = ((w, (n, x)), declared_out var_word other left w n x d, tt, refl)
    out other left e h d = clash a_var (statement_sort d) (head_sorted var_word other h ∙ sort_var refl) (statement_begins d) refl

pub val_becomes : (ts : List Lexeme) → HeadIs (Is val_word) ts → Becomes statements (declaration val_word) constants_tree ts
val_becomes ts first =
    record {
      into = λ us left x d. val (declared_into val_word us left x d);
      out = λ other left e h d stop. out other left e (head_by (Is val_word) ts other h first) d;
      fits = λ left other h. h;
    }
  where
    out : (other left : List Lexeme) (e : Statement) → HeadIs (Is val_word) other → IsStatement other e left
        → (x : Lexeme × (Lexeme × Expression)) × (declaration val_word).reads other x left × ⊤ × (e ≡ constants_tree x)
    out other left e h (val {e = x} {w} {n} d) = ((w, (n, x)), declared_out val_word other left w n x d, tt, refl)
    out other left e h d = clash a_val (statement_sort d) (head_sorted val_word other h ∙ sort_val refl) (statement_begins d) refl

-- ASSIGNMENTS, where no other statement begins
abbrev pub assigned : Reader (Lexeme × (Option Expression × ((Lexeme × How) × Expression)))
assigned = token NameToken then arguments then token_with_value how_of then closed_expression

pub assign_becomes : (ts : List Lexeme) → HeadIsNot (Is var_word) ts → HeadIsNot (Is val_word) ts → HeadIsNot (Is if_word) ts
    → HeadIsNot (Is while_word) ts → HeadIsNot (Is for_word) ts → Becomes statements assigned assignments_tree ts
assign_becomes ts no_var no_val no_if no_while no_for =
    record {
      into = λ us left x d. into us left d.0 d.2.0 d.2.2.0 x.0 x.1.1.0.0 x.1.0 x.1.1.0.1 x.1.1.1 d.1 d.2.1 d.2.2.1 d.2.2.2;
      out = λ other left e h d stop. out other left e h d;
      fits = λ left other h. h;
    }
  where
    into : (us left mid mid' mid'' : List Lexeme) (n h : Lexeme) (to : Option Expression) (how : How) (e : Expression) → (us ≡ n ∷ mid) × (n.kind ≡ NameToken)
        → ReadsOptional brackets mid to mid' → (mid' ≡ h ∷ mid'') × (how_of h.kind ≡ Some how) → closed_expression.reads mid'' e left
        → IsStatement us (Assign n.place n.bytes to how e) left
    into us left mid mid' mid'' n h to how e hn t hh c =
        subst (λ z. IsStatement z (Assign n.place n.bytes to how e) left) (sym hn.0)
        (assign n h hn.1 (subst (IsTarget mid to) hh.0 (targeted to t)) hh.1 (subst (λ z. IsExpression lowest_rank mid'' z c.1.0) (sym c.2) c.1.1) c.1.2)
      where
        targeted : (to : Option Expression) → ReadsOptional brackets mid to mid' → IsTarget mid to mid'
        targeted None e = subst (IsTarget mid None) e no_target
        targeted (Some x) b = target b

    back : (is : TokenKind → Type 0) (other : List Lexeme) → SameHead ts other → HeadIs is other → HeadIs is ts
    back is other h k = head_by is other ts (same_back ts other h) k

    untargeted : (us left : List Lexeme) (to : Option Expression) → IsTarget us to left → ReadsOptional brackets us to left
    untargeted us left to no_target = refl
    untargeted us left to (target b) = b

    out : (other left : List Lexeme) (e : Statement) → SameHead ts other → IsStatement other e left
        → (x : Lexeme × (Option Expression × ((Lexeme × How) × Expression))) × assigned.reads other x left × ⊤ × (e ≡ assignments_tree x)
    out other left e h (assign {ts = us} {ts' = us'} {mid} {to} {e = x} {how} n k hn t hh d c) =
        ((n, (to, ((k, how), x))), (us, (refl, hn), (k ∷ us', untargeted us (k ∷ us') to t, (us', (refl, hh), ((x, tt), (mid, d, c), refl)))), tt, refl)
    out other left e h (var {e = x} {w} {n} d) = absurd (no_var (back (Is var_word) other h (declared_first var_word other left w n x d)))
    out other left e h (val {e = x} {w} {n} d) = absurd (no_val (back (Is val_word) other h (declared_first val_word other left w n x d)))
    out other left e h (if w k b first second) = absurd (no_if (back (Is if_word) other h k))
    out other left e h (while w k b body) = absurd (no_while (back (Is while_word) other h k))
    out other left e h (for w o n a s c k ho hn ha hs b hc body) = absurd (no_for (back (Is for_word) other h k))

-- BRANCHES AND LOOPS
abbrev pub branched : Reader (Lexeme × (Expression × (Body × Option Body)))
branched = token if_word then brackets then blocks then elses

pub if_becomes : (ts : List Lexeme) → HeadIs (Is if_word) ts → Becomes statements branched branches_tree ts
if_becomes ts first =
    record {
      into = λ us left x d. into us left d.0 d.2.0 d.2.2.0 x.0 x.1.0 x.1.1.0 x.1.1.1 d.1 d.2.1 d.2.2.1 d.2.2.2;
      out = λ other left e h d stop. out other left e (head_by (Is if_word) ts other h first) d stop;
      fits = λ left other h. tt;
    }
  where
    into : (us left mid mid' mid'' : List Lexeme) (w : Lexeme) (e : Expression) (first : Body) (second : Option Body) → (us ≡ w ∷ mid) × (w.kind ≡ if_word)
        → IsBracketed mid e mid' → IsBlock mid' first mid'' → elses.reads mid'' second left → IsStatement us (branches_tree (w, (e, (first, second)))) left
    into us left mid mid' mid'' w e first None h b k l =
        subst (λ z. IsStatement z (If w.place e first no_statement false) left) (sym h.0) (if w h.1 b k (subst (IsElse mid'' no_statement false) l no_else))
    into us left mid mid' mid'' w e first (Some second) h b k l =
        subst (λ z. IsStatement z (If w.place e first second true) left) (sym h.0)
        (if w h.1 b k (subst (λ z. IsElse z second true left) (sym l.1.1.0) (else l.0.0 l.1.1.1 (subst (λ z. IsBlock l.1.0 z left) (sym l.2) l.1.2))))

    otherwise : (us left : List Lexeme) (w : Lexeme) (e : Expression) (first second : Body) (has : Bool) → IsElse us second has left
        → (o : Option Body) × elses.reads us o left × (If w.place e first second has ≡ branches_tree (w, (e, (first, o))))
    otherwise us left w e first second has no_else = (None, refl, refl)
    otherwise us left w e first second has (else {ts = us'} v h k) = (Some second, ((v, second), (us', (refl, h), k), refl), refl)

    out : (other left : List Lexeme) (e : Statement) → HeadIs (Is if_word) other → IsStatement other e left → NoElse left
        → (x : Lexeme × (Expression × (Body × Option Body))) × branched.reads other x left × (HeadIsNot (Is else_word) left × ⊤) × (e ≡ branches_tree x)
    out other left e h (if {ts = us} {mid} {mid'} {e = x} {first} {second} {has_else} w k b body l) stop =
        let o = otherwise mid' left w x first second has_else l in
        ((w, (x, (first, o.0))), (us, (refl, k), (mid, b, (mid', body, o.1))), (not_else left stop, tt), o.2)
    out other left e h d stop = clash an_if (statement_sort d) (head_sorted if_word other h ∙ sort_if refl) (statement_begins d) refl

abbrev pub repeated : Reader (Lexeme × (Expression × Body))
repeated = token while_word then brackets then blocks

pub while_becomes : (ts : List Lexeme) → HeadIs (Is while_word) ts → Becomes statements repeated repetitions_tree ts
while_becomes ts first =
    record {
      into = λ us left x d.
          subst (λ z. IsStatement z (repetitions_tree x) left) (sym d.1.0) (while x.0 d.1.1 d.2.1 d.2.2);
      out = λ other left e h d stop. out other left e (head_by (Is while_word) ts other h first) d;
      fits = λ left other h. tt;
    }
  where
    out : (other left : List Lexeme) (e : Statement) → HeadIs (Is while_word) other → IsStatement other e left
        → (x : Lexeme × (Expression × Body)) × repeated.reads other x left × ⊤ × (e ≡ repetitions_tree x)
    out other left e h (while {ts = us} {mid} {e = x} {body} w k b d) = ((w, (x, body)), (us, (refl, k), (mid, b, d)), tt, refl)
    out other left e h d = clash a_while (statement_sort d) (head_sorted while_word other h ∙ sort_while refl) (statement_begins d) refl

abbrev pub looped : Reader (Lexeme × (Lexeme × (Lexeme × (Lexeme × ((Lexeme × SetName) × (Expression × (Lexeme × Body)))))))
looped =
    token for_word then token open_bracket then token NameToken then token arrow then token_with_value set_of then brackets then token close_bracket
    then blocks

pub for_becomes : (ts : List Lexeme) → HeadIs (Is for_word) ts → Becomes statements looped set_loops_tree ts
for_becomes ts first =
    record {
      into = λ us left x d.
          into us left d.0 d.2.0 d.2.2.0 d.2.2.2.0 d.2.2.2.2.0 d.2.2.2.2.2.0 d.2.2.2.2.2.2.0 x d.1 d.2.1 d.2.2.1 d.2.2.2.1 d.2.2.2.2.1 d.2.2.2.2.2.1
          d.2.2.2.2.2.2.1 d.2.2.2.2.2.2.2;
      out = λ other left e h d stop. out other left e (head_by (Is for_word) ts other h first) d;
      fits = λ left other h. tt;
    }
  where
    into : (us left m₁ m₂ m₃ m₄ m₅ m₆ m₇ : List Lexeme) (x : Lexeme × (Lexeme × (Lexeme × (Lexeme × ((Lexeme × SetName) × (Expression × (Lexeme × Body)))))))
        → (us ≡ x.0 ∷ m₁) × (x.0.kind ≡ for_word) → (m₁ ≡ x.1.0 ∷ m₂) × (x.1.0.kind ≡ open_bracket) → (m₂ ≡ x.1.1.0 ∷ m₃) × (x.1.1.0.kind ≡ NameToken)
        → (m₃ ≡ x.1.1.1.0 ∷ m₄) × (x.1.1.1.0.kind ≡ arrow) → (m₄ ≡ x.1.1.1.1.0.0 ∷ m₅) × (set_of x.1.1.1.1.0.0.kind ≡ Some x.1.1.1.1.0.1)
        → IsBracketed m₅ x.1.1.1.1.1.0 m₆ → (m₆ ≡ x.1.1.1.1.1.1.0 ∷ m₇) × (x.1.1.1.1.1.1.0.kind ≡ close_bracket)
        → IsBlock m₇ x.1.1.1.1.1.1.1 left → IsStatement us (set_loops_tree x) left
    into us left m₁ m₂ m₃ m₄ m₅ m₆ m₇ x h ho hn ha hs b hc d =
        subst (λ z. IsStatement z (set_loops_tree x) left)
        (sym (h.0 ∙ ap (λ z. x.0 ∷ z) (ho.0 ∙ ap (λ z. x.1.0 ∷ z) (hn.0 ∙ ap (λ z. x.1.1.0 ∷ z) (ha.0 ∙ ap (λ z. x.1.1.1.0 ∷ z) hs.0)))))
        (for x.0 x.1.0 x.1.1.0 x.1.1.1.0 x.1.1.1.1.0.0 x.1.1.1.1.1.1.0 h.1 ho.1 hn.1 ha.1 hs.1 (subst (IsBracketed m₅ x.1.1.1.1.1.0) hc.0 b) hc.1 d)

    out : (other left : List Lexeme) (e : Statement) → HeadIs (Is for_word) other → IsStatement other e left
        → (x : Lexeme × (Lexeme × (Lexeme × (Lexeme × ((Lexeme × SetName) × (Expression × (Lexeme × Body))))))) × looped.reads other x left × ⊤
        × (e ≡ set_loops_tree x)
    out other left e h (for {ts = us} {mid} {e = x} {body} {set} w o n a s c k ho hn ha hs b hc d) = (
      (w, (o, (n, (a, ((s, set), (x, (c, body))))))),
      (
        o ∷ n ∷ a ∷ s ∷ us,
        (refl, k),
        (
          n ∷ a ∷ s ∷ us,
          (refl, ho),
          (
            a ∷ s ∷ us,
            (refl, hn),
            (
              s ∷ us,
              (refl, ha),
              (
                us,
                (refl, hs),
                (c ∷ mid, b, (mid, (refl, hc), d)),
              ),
            ),
          ),
        ),
      ),
      tt,
      refl,
    )
    out other left e h d = clash a_for (statement_sort d) (head_sorted for_word other h ∙ sort_for refl) (statement_begins d) refl
