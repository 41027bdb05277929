-- The productions of items, by their first tokens, as readers one after the other.
use Rattle.std.proofs.Common.{◌≡◌, Bool, true, false, Option, Some, None, List, ◌∷◌, refl, sym, ap, subst, ◌∙◌}
use Rattle.std.specs.Prelude.{⊤}
use Rattle.liszt_base.specs.declared.elements.Kind.{Kind}
use Rattle.liszt_lexer.specs.declared.token.TokenKind.{TokenKind}
use Rattle.liszt_lexer.specs.declared.token.TokenKind.TheVariants.{Name as NameToken}
use Rattle.liszt_tree.specs.declared.tree.How.{How}
use Rattle.liszt_tree.specs.Tree.{Expression, Body, MainItem, MainIf, Main, no_item}
use Rattle.liszt_parser.specs.Grammar.{Lexeme, lowest_rank, how_of, kind_of, mesh_set_of, open_bracket, close_bracket, colon, arrow, set_to, field_word, var_word, if_word, else_word, while_word, for_word, print_word, mesh_word, IsExpression, IsBracketed, IsBlock, IsItem, main_field, main_var, main_assign, main_if, main_while, main_for, print, IsMainBlock, IsMainElse, no_main_else, main_else}
use Rattle.liszt_parser.specs.Internal.Reading.{Reader, SameHead, HeadIs, Is, HeadIsNot, token, token_with_value, ◌then◌}
use Rattle.liszt_parser.specs.Internal.Sorts.{a_var, a_field, an_if, a_while, a_for, a_print, NoElse}
use Rattle.liszt_parser.specs.Internal.Productions.{brackets, blocks, closed_expression, declaration, main_items, main_blocks, main_elses, fields_tree, main_variables_tree, main_assignments_tree, main_branches_tree, main_repetitions_tree, comprehensions_tree, prints_tree}
use Rattle.liszt_parser.proofs.Sorts.{sort_var, sort_field, sort_if, sort_while, sort_for, sort_print, clash}
use Rattle.liszt_parser.proofs.OneTree.{item_sort, item_begins}
use Rattle.liszt_parser.proofs.Readers.{Becomes, head_by, same_back}
use Rattle.liszt_parser.proofs.HeadLemmas.{head_sorted, not_else}
use Rattle.liszt_parser.proofs.StatementProductions.{declared_into, declared_out, declared_first}

abbrev pub fielded : Reader (Lexeme × (Lexeme × (Lexeme × ((Lexeme × Kind) × (Lexeme × Expression)))))
fielded = token field_word then token NameToken then token colon then token_with_value kind_of then token set_to then closed_expression

pub field_becomes : (ts : List Lexeme) → HeadIs (Is field_word) ts → Becomes main_items fielded fields_tree ts
field_becomes ts first =
    record {
      into = λ us left x d. into us left d.0 d.2.0 d.2.2.0 d.2.2.2.0 d.2.2.2.2.0 x d.1 d.2.1 d.2.2.1 d.2.2.2.1 d.2.2.2.2.1 d.2.2.2.2.2;
      out = λ other left e h d stop. out other left e (head_by (Is field_word) ts other h first) d;
      fits = λ left other h. h;
    }
  where
    into : (us left m₁ m₂ m₃ m₄ m₅ : List Lexeme) (x : Lexeme × (Lexeme × (Lexeme × ((Lexeme × Kind) × (Lexeme × Expression)))))
        → (us ≡ x.0 ∷ m₁) × (x.0.kind ≡ field_word) → (m₁ ≡ x.1.0 ∷ m₂) × (x.1.0.kind ≡ NameToken) → (m₂ ≡ x.1.1.0 ∷ m₃) × (x.1.1.0.kind ≡ colon)
        → (m₃ ≡ x.1.1.1.0.0 ∷ m₄) × (kind_of x.1.1.1.0.0.kind ≡ Some x.1.1.1.0.1) → (m₄ ≡ x.1.1.1.1.0 ∷ m₅) × (x.1.1.1.1.0.kind ≡ set_to)
        → closed_expression.reads m₅ x.1.1.1.1.1 left → IsItem us (fields_tree x) left
    into us left m₁ m₂ m₃ m₄ m₅ x h hn hc hk hs c =
        subst (λ z. IsItem z (fields_tree x) left)
        (sym (h.0 ∙ ap (λ z. x.0 ∷ z) (hn.0 ∙ ap (λ z. x.1.0 ∷ z) (hc.0 ∙ ap (λ z. x.1.1.0 ∷ z) (hk.0 ∙ ap (λ z. x.1.1.1.0.0 ∷ z) hs.0)))))
        (main_field x.0 x.1.0 x.1.1.0 x.1.1.1.0.0 x.1.1.1.1.0 h.1 hn.1 hc.1 hk.1 hs.1
        (subst (λ z. IsExpression lowest_rank m₅ z c.1.0) (sym c.2) c.1.1) c.1.2)

    out : (other left : List Lexeme) (e : MainItem) → HeadIs (Is field_word) other → IsItem other e left
        → (x : Lexeme × (Lexeme × (Lexeme × ((Lexeme × Kind) × (Lexeme × Expression))))) × fielded.reads other x left × ⊤ × (e ≡ fields_tree x)
    out other left e h (main_field {ts = us} {mid} {e = x} {kind} w n d k s hw hn hd hk hs i c) = (
      (w, (n, (d, ((k, kind), (s, x))))),
      (
        n ∷ d ∷ k ∷ s ∷ us,
        (refl, hw),
        (
          d ∷ k ∷ s ∷ us,
          (refl, hn),
          (
            k ∷ s ∷ us,
            (refl, hd),
            (
              s ∷ us,
              (refl, hk),
              (
                us,
                (refl, hs),
                ((x, tt), (mid, i, c), refl),
              ),
            ),
          ),
        ),
      ),
      tt,
      refl,
    )
    out other left e h d = clash a_field (item_sort d) (head_sorted field_word other h ∙ sort_field refl) (item_begins d) refl

pub main_var_becomes : (ts : List Lexeme) → HeadIs (Is var_word) ts → Becomes main_items (declaration var_word) main_variables_tree ts
main_var_becomes ts first =
    record {
      into = λ us left x d. main_var (declared_into var_word us left x d);
      out = λ other left e h d stop. out other left e (head_by (Is var_word) ts other h first) d;
      fits = λ left other h. h;
    }
  where
    out : (other left : List Lexeme) (e : MainItem) → HeadIs (Is var_word) other → IsItem other e left
        → (x : Lexeme × (Lexeme × Expression)) × (declaration var_word).reads other x left × ⊤ × (e ≡ main_variables_tree x)
    out other left e h (main_var {e = x} {w} {n} d) = ((w, (n, x)), declared_out var_word other left w n x d, tt, refl)
    out other left e h d = clash a_var (item_sort d) (head_sorted var_word other h ∙ sort_var refl) (item_begins d) refl

-- ASSIGNMENTS, where no other item begins
abbrev pub main_assigned : Reader (Lexeme × ((Lexeme × How) × Expression))
main_assigned = token NameToken then token_with_value how_of then closed_expression

pub main_assign_becomes : (ts : List Lexeme) → HeadIsNot (Is field_word) ts → HeadIsNot (Is var_word) ts → HeadIsNot (Is if_word) ts
    → HeadIsNot (Is while_word) ts → HeadIsNot (Is for_word) ts → HeadIsNot (Is print_word) ts
    → Becomes main_items main_assigned main_assignments_tree ts
main_assign_becomes ts no_field no_var no_if no_while no_for no_print =
    record {
      into = λ us left x d. into us left d.0 d.2.0 x d.1 d.2.1 d.2.2;
      out = λ other left e h d stop. out other left e h d;
      fits = λ left other h. h;
    }
  where
    into : (us left mid mid' : List Lexeme) (x : Lexeme × ((Lexeme × How) × Expression)) → (us ≡ x.0 ∷ mid) × (x.0.kind ≡ NameToken)
        → (mid ≡ x.1.0.0 ∷ mid') × (how_of x.1.0.0.kind ≡ Some x.1.0.1) → closed_expression.reads mid' x.1.1 left → IsItem us (main_assignments_tree x) left
    into us left mid mid' x hn hh c =
        subst (λ z. IsItem z (main_assignments_tree x) left) (sym (hn.0 ∙ ap (λ z. x.0 ∷ z) hh.0))
        (main_assign x.0 x.1.0.0 hn.1 hh.1 (subst (λ z. IsExpression lowest_rank mid' z c.1.0) (sym c.2) c.1.1) c.1.2)

    back : (is : TokenKind → Type 0) (other : List Lexeme) → SameHead ts other → HeadIs is other → HeadIs is ts
    back is other h k = head_by is other ts (same_back ts other h) k

    out : (other left : List Lexeme) (e : MainItem) → SameHead ts other → IsItem other e left
        → (x : Lexeme × ((Lexeme × How) × Expression)) × main_assigned.reads other x left × ⊤ × (e ≡ main_assignments_tree x)
    out other left e h (main_assign {ts = us} {mid} {e = x} {how} n k hn hh d c) =
        ((n, ((k, how), x)), (k ∷ us, (refl, hn), (us, (refl, hh), ((x, tt), (mid, d, c), refl))), tt, refl)
    out other left e h (main_field w n d k s hw hn hd hk hs i c) = absurd (no_field (back (Is field_word) other h hw))
    out other left e h (main_var {e = x} {w} {n} d) = absurd (no_var (back (Is var_word) other h (declared_first var_word other left w n x d)))
    out other left e h (main_if w k b first second) = absurd (no_if (back (Is if_word) other h k))
    out other left e h (main_while w k b body) = absurd (no_while (back (Is while_word) other h k))
    out other left e h (main_for w o n a k p m q c hw ho hn ha hk hp hm hq hc body) = absurd (no_for (back (Is for_word) other h hw))
    out other left e h (print w k d c) = absurd (no_print (back (Is print_word) other h k))

-- BRANCHES AND LOOPS
abbrev pub main_branched : Reader (Lexeme × (Expression × (Main × Option Main)))
main_branched = token if_word then brackets then main_blocks then main_elses

pub main_if_becomes : (ts : List Lexeme) → HeadIs (Is if_word) ts → Becomes main_items main_branched main_branches_tree ts
main_if_becomes ts first =
    record {
      into = λ us left x d. into us left d.0 d.2.0 d.2.2.0 x.0 x.1.0 x.1.1.0 x.1.1.1 d.1 d.2.1 d.2.2.1 d.2.2.2;
      out = λ other left e h d stop. out other left e (head_by (Is if_word) ts other h first) d stop;
      fits = λ left other h. tt;
    }
  where
    into : (us left mid mid' mid'' : List Lexeme) (w : Lexeme) (e : Expression) (first : Main) (second : Option Main) → (us ≡ w ∷ mid) × (w.kind ≡ if_word)
        → IsBracketed mid e mid' → IsMainBlock mid' first mid'' → main_elses.reads mid'' second left
        → IsItem us (main_branches_tree (w, (e, (first, second)))) left
    into us left mid mid' mid'' w e first None h b k l =
        subst (λ z. IsItem z (MainIf w.place e first no_item false) left) (sym h.0)
        (main_if w h.1 b k (subst (IsMainElse mid'' no_item false) l no_main_else))
    into us left mid mid' mid'' w e first (Some second) h b k l =
        subst (λ z. IsItem z (MainIf w.place e first second true) left) (sym h.0)
        (main_if w h.1 b k (subst (λ z. IsMainElse z second true left) (sym l.1.1.0)
        (main_else l.0.0 l.1.1.1 (subst (λ z. IsMainBlock l.1.0 z left) (sym l.2) l.1.2))))

    otherwise : (us left : List Lexeme) (w : Lexeme) (e : Expression) (first second : Main) (has : Bool) → IsMainElse us second has left
        → (o : Option Main) × main_elses.reads us o left × (MainIf w.place e first second has ≡ main_branches_tree (w, (e, (first, o))))
    otherwise us left w e first second has no_main_else = (None, refl, refl)
    otherwise us left w e first second has (main_else {ts = us'} v h k) = (Some second, ((v, second), (us', (refl, h), k), refl), refl)

    out : (other left : List Lexeme) (e : MainItem) → HeadIs (Is if_word) other → IsItem other e left → NoElse left
        → (x : Lexeme × (Expression × (Main × Option Main))) × main_branched.reads other x left × (HeadIsNot (Is else_word) left × ⊤)
        × (e ≡ main_branches_tree x)
    out other left e h (main_if {ts = us} {mid} {mid'} {e = x} {first} {second} {has_else} w k b body l) stop =
        let o = otherwise mid' left w x first second has_else l in
        ((w, (x, (first, o.0))), (us, (refl, k), (mid, b, (mid', body, o.1))), (not_else left stop, tt), o.2)
    out other left e h d stop = clash an_if (item_sort d) (head_sorted if_word other h ∙ sort_if refl) (item_begins d) refl

abbrev pub main_repeated : Reader (Lexeme × (Expression × Main))
main_repeated = token while_word then brackets then main_blocks

pub main_while_becomes : (ts : List Lexeme) → HeadIs (Is while_word) ts → Becomes main_items main_repeated main_repetitions_tree ts
main_while_becomes ts first =
    record {
      into = λ us left x d. subst (λ z. IsItem z (main_repetitions_tree x) left) (sym d.1.0) (main_while x.0 d.1.1 d.2.1 d.2.2);
      out = λ other left e h d stop. out other left e (head_by (Is while_word) ts other h first) d;
      fits = λ left other h. tt;
    }
  where
    out : (other left : List Lexeme) (e : MainItem) → HeadIs (Is while_word) other → IsItem other e left
        → (x : Lexeme × (Expression × Main)) × main_repeated.reads other x left × ⊤ × (e ≡ main_repetitions_tree x)
    out other left e h (main_while {ts = us} {mid} {e = x} {body} w k b d) = ((w, (x, body)), (us, (refl, k), (mid, b, d)), tt, refl)
    out other left e h d = clash a_while (item_sort d) (head_sorted while_word other h ∙ sort_while refl) (item_begins d) refl

abbrev pub comprehended : Reader (Lexeme × (Lexeme × (Lexeme × (Lexeme × ((Lexeme × Kind) × (Lexeme × (Lexeme × (Lexeme × (Lexeme × Body)))))))))
comprehended =
    token for_word then token open_bracket then token NameToken then token arrow then token_with_value mesh_set_of then token open_bracket
    then token mesh_word then token close_bracket then token close_bracket then blocks

pub main_for_becomes : (ts : List Lexeme) → HeadIs (Is for_word) ts → Becomes main_items comprehended comprehensions_tree ts
main_for_becomes ts first =
    record {
      into = λ us left x d.
          into us left d.0 d.2.0 d.2.2.0 d.2.2.2.0 d.2.2.2.2.0 d.2.2.2.2.2.0 d.2.2.2.2.2.2.0 d.2.2.2.2.2.2.2.0 d.2.2.2.2.2.2.2.2.0 x
          d.1 d.2.1 d.2.2.1 d.2.2.2.1 d.2.2.2.2.1 d.2.2.2.2.2.1 d.2.2.2.2.2.2.1 d.2.2.2.2.2.2.2.1 d.2.2.2.2.2.2.2.2.1 d.2.2.2.2.2.2.2.2.2;
      out = λ other left e h d stop. out other left e (head_by (Is for_word) ts other h first) d;
      fits = λ left other h. tt;
    }
  where
    into : (us left m₁ m₂ m₃ m₄ m₅ m₆ m₇ m₈ m₉ : List Lexeme)
        (x : Lexeme × (Lexeme × (Lexeme × (Lexeme × ((Lexeme × Kind) × (Lexeme × (Lexeme × (Lexeme × (Lexeme × Body)))))))))
        → (us ≡ x.0 ∷ m₁) × (x.0.kind ≡ for_word) → (m₁ ≡ x.1.0 ∷ m₂) × (x.1.0.kind ≡ open_bracket) → (m₂ ≡ x.1.1.0 ∷ m₃) × (x.1.1.0.kind ≡ NameToken)
        → (m₃ ≡ x.1.1.1.0 ∷ m₄) × (x.1.1.1.0.kind ≡ arrow) → (m₄ ≡ x.1.1.1.1.0.0 ∷ m₅) × (mesh_set_of x.1.1.1.1.0.0.kind ≡ Some x.1.1.1.1.0.1)
        → (m₅ ≡ x.1.1.1.1.1.0 ∷ m₆) × (x.1.1.1.1.1.0.kind ≡ open_bracket) → (m₆ ≡ x.1.1.1.1.1.1.0 ∷ m₇) × (x.1.1.1.1.1.1.0.kind ≡ mesh_word)
        → (m₇ ≡ x.1.1.1.1.1.1.1.0 ∷ m₈) × (x.1.1.1.1.1.1.1.0.kind ≡ close_bracket)
        → (m₈ ≡ x.1.1.1.1.1.1.1.1.0 ∷ m₉) × (x.1.1.1.1.1.1.1.1.0.kind ≡ close_bracket)
        → IsBlock m₉ x.1.1.1.1.1.1.1.1.1 left → IsItem us (comprehensions_tree x) left
    into us left m₁ m₂ m₃ m₄ m₅ m₆ m₇ m₈ m₉ x h ho hn ha hk hp hm hq hc d =
        subst (λ z. IsItem z (comprehensions_tree x) left)
        (sym (h.0 ∙ ap (λ z. x.0 ∷ z) (ho.0 ∙ ap (λ z. x.1.0 ∷ z) (hn.0 ∙ ap (λ z. x.1.1.0 ∷ z) (ha.0 ∙ ap (λ z. x.1.1.1.0 ∷ z)
        (hk.0 ∙ ap (λ z. x.1.1.1.1.0.0 ∷ z) (hp.0 ∙ ap (λ z. x.1.1.1.1.1.0 ∷ z) (hm.0 ∙ ap (λ z. x.1.1.1.1.1.1.0 ∷ z)
        (hq.0 ∙ ap (λ z. x.1.1.1.1.1.1.1.0 ∷ z) hc.0)))))))))
        (main_for x.0 x.1.0 x.1.1.0 x.1.1.1.0 x.1.1.1.1.0.0 x.1.1.1.1.1.0 x.1.1.1.1.1.1.0 x.1.1.1.1.1.1.1.0 x.1.1.1.1.1.1.1.1.0
        h.1 ho.1 hn.1 ha.1 hk.1 hp.1 hm.1 hq.1 hc.1 d)

    out : (other left : List Lexeme) (e : MainItem) → HeadIs (Is for_word) other → IsItem other e left
        → (x : Lexeme × (Lexeme × (Lexeme × (Lexeme × ((Lexeme × Kind) × (Lexeme × (Lexeme × (Lexeme × (Lexeme × Body)))))))))
        × comprehended.reads other x left × ⊤ × (e ≡ comprehensions_tree x)
    out other left e h (main_for {ts = us} {body} {kind} w o n a k p m q c hw ho hn ha hk hp hm hq hc d) = (
      (w, (o, (n, (a, ((k, kind), (p, (m, (q, (c, body))))))))),
      (
        o ∷ n ∷ a ∷ k ∷ p ∷ m ∷ q ∷ c ∷ us,
        (refl, hw),
        (
          n ∷ a ∷ k ∷ p ∷ m ∷ q ∷ c ∷ us,
          (refl, ho),
          (
            a ∷ k ∷ p ∷ m ∷ q ∷ c ∷ us,
            (refl, hn),
            (
              k ∷ p ∷ m ∷ q ∷ c ∷ us,
              (refl, ha),
              (
                p ∷ m ∷ q ∷ c ∷ us,
                (refl, hk),
                (
                  m ∷ q ∷ c ∷ us,
                  (refl, hp),
                  (
                    q ∷ c ∷ us,
                    (refl, hm),
                    (c ∷ us, (refl, hq), (us, (refl, hc), d)),
                  ),
                ),
              ),
            ),
          ),
        ),
      ),
      tt,
      refl,
    )
    out other left e h d = clash a_for (item_sort d) (head_sorted for_word other h ∙ sort_for refl) (item_begins d) refl

abbrev pub printed : Reader (Lexeme × Expression)
printed = token print_word then closed_expression

pub print_becomes : (ts : List Lexeme) → HeadIs (Is print_word) ts → Becomes main_items printed prints_tree ts
print_becomes ts first =
    record {
      into = λ us left x d. into us left d.0 x d.1 d.2;
      out = λ other left e h d stop. out other left e (head_by (Is print_word) ts other h first) d;
      fits = λ left other h. h;
    }
  where
    into : (us left mid : List Lexeme) (x : Lexeme × Expression) → (us ≡ x.0 ∷ mid) × (x.0.kind ≡ print_word) → closed_expression.reads mid x.1 left
        → IsItem us (prints_tree x) left
    into us left mid x h c =
        subst (λ z. IsItem z (prints_tree x) left) (sym h.0) (print x.0 h.1 (subst (λ z. IsExpression lowest_rank mid z c.1.0) (sym c.2) c.1.1) c.1.2)

    out : (other left : List Lexeme) (e : MainItem) → HeadIs (Is print_word) other → IsItem other e left
        → (x : Lexeme × Expression) × printed.reads other x left × ⊤ × (e ≡ prints_tree x)
    out other left e h (print {ts = us} {mid} {e = x} w k d c) = ((w, x), (us, (refl, k), ((x, tt), (mid, d, c), refl)), tt, refl)
    out other left e h d = clash a_print (item_sort d) (head_sorted print_word other h ∙ sort_print refl) (item_begins d) refl
