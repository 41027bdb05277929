-- Loops that read one thing after the other: what is read from here on, and what is stuck, is so from the start on.
use Rattle.std.proofs.Common.{◌≡◌, ℕ, List, [], ◌∷◌, ◌++◌, map, drop, refl, sym, ap, subst, ◌∙◌}
use Rattle.liszt_base.specs.declared.answers.Refused.{Refused}
use Rattle.liszt_tree.specs.Tree.{PlainLink, Links, no_links, link, links_of, Statement, Body, no_statement, statement, body_of, MainItem, Main, no_item, item, main_of}
use Rattle.liszt_parser.specs.Grammar.{Lexeme}
use Rattle.liszt_parser.specs.Internal.Reading.{Reader, IsRead, IsStuck, Fails, ◌then◌}
use Rattle.liszt_parser.proofs.Readers.{Lawful, Behind, Loose, Becomes, then_read, then_second, becomes_read, becomes_stuck}
use Rattle.liszt_parser.proofs.TokenReaders.{fails_by}

pub record SoFar {A : Type 0} (r : Reader A) (start here : List Lexeme) (onto : A → A) : Type 0 where
  pub reads : (more : A) (left : List Lexeme) → IsRead r here more left → IsRead r start (onto more) left
  pub stuck : (at : List Lexeme) → IsStuck r here at → IsStuck r start at

pub at_start : {A : Type 0} (r : Reader A) (ts : List Lexeme) (onto : A → A) → ((more : A) → more ≡ onto more) → SoFar r ts ts onto
at_start r ts onto same = record { reads = λ more left d. subst (λ e. IsRead r ts e left) (same more) d; stuck = λ at d. d }

-- one more of it was read
pub one_more : {P A : Type 0} {p : Reader P} {r : Reader A} {f : P × A → A} → Lawful p → Lawful r → Behind p r → Loose p r
    → (start here mid : List Lexeme) (x : P) (onto onto' : A → A) → ((more : A) → onto (f (x, more)) ≡ onto' more)
    → Becomes r (p then r) f here → IsRead p here x mid → SoFar r start here onto → SoFar r start mid onto'
one_more {r = r} {f} law law' b loose start here mid x onto onto' same becomes d so_far =
    record {
      reads = λ more left k.
          subst (λ e. IsRead r start e left) (same more)
          (so_far.reads (f (x, more)) left (becomes_read here left (x, more) becomes (then_read law law' b here mid left x more d k) k.stops));
      stuck = λ at k. so_far.stuck at (becomes_stuck here at becomes (then_second law b loose here mid at x d k));
    }

pub fails_so_far : {A : Type 0} {r : Reader A} {onto : A → A} (ts : List Lexeme) (at here : ℕ) (refused : Refused ℕ)
    → SoFar r (drop at ts) (drop here ts) onto → Fails r ts here refused → Fails r ts at refused
fails_so_far {r = r} ts at here refused so_far h = fails_by r r ts at here (λ place d. so_far.stuck (drop place ts) d) refused h

-- LISTS before others
abbrev pub links_onto : List PlainLink → Links → Links
links_onto [] more = more
links_onto (l ∷ ls) more = link l.0 l.1 l.2 (links_onto ls more)

abbrev pub body_onto : List Statement → Body → Body
body_onto [] more = more
body_onto (s ∷ ss) more = statement s (body_onto ss more)

abbrev pub main_onto : List MainItem → Main → Main
main_onto [] more = more
main_onto (i ∷ is) more = item i (main_onto is more)

pub links_pushed : {T : Type 0} (f : T → PlainLink) (ls ls' : List T) (l : T) (x : PlainLink) (more : Links) → ls' ≡ ls ++ l ∷ [] → f l ≡ x
    → links_onto (map f ls) (link x.0 x.1 x.2 more) ≡ links_onto (map f ls') more
links_pushed {T} f ls ls' l x more e is =
    ap (λ (z : PlainLink). links_onto (map f ls) (link z.0 z.1 z.2 more)) (sym is) ∙ at_end ls ∙ ap (λ z. links_onto (map f z) more) (sym e)
  where
    at_end : (ls : List T) → links_onto (map f ls) (link (f l).0 (f l).1 (f l).2 more) ≡ links_onto (map f (ls ++ l ∷ [])) more
    at_end [] = refl
    at_end (m ∷ ls) = ap (link (f m).0 (f m).1 (f m).2) (at_end ls)

pub body_pushed : {T : Type 0} (f : T → Statement) (ls ls' : List T) (l : T) (more : Body) → ls' ≡ ls ++ l ∷ []
    → body_onto (map f ls) (statement (f l) more) ≡ body_onto (map f ls') more
body_pushed {T} f ls ls' l more e = at_end ls ∙ ap (λ z. body_onto (map f z) more) (sym e)
  where
    at_end : (ls : List T) → body_onto (map f ls) (statement (f l) more) ≡ body_onto (map f (ls ++ l ∷ [])) more
    at_end [] = refl
    at_end (m ∷ ls) = ap (statement (f m)) (at_end ls)

pub main_pushed : {T : Type 0} (f : T → MainItem) (ls ls' : List T) (l : T) (more : Main) → ls' ≡ ls ++ l ∷ []
    → main_onto (map f ls) (item (f l) more) ≡ main_onto (map f ls') more
main_pushed {T} f ls ls' l more e = at_end ls ∙ ap (λ z. main_onto (map f z) more) (sym e)
  where
    at_end : (ls : List T) → main_onto (map f ls) (item (f l) more) ≡ main_onto (map f (ls ++ l ∷ [])) more
    at_end [] = refl
    at_end (m ∷ ls) = ap (item (f m)) (at_end ls)

pub links_all : (ls : List PlainLink) → links_onto ls no_links ≡ links_of ls
links_all [] = refl
links_all (l ∷ ls) = ap (link l.0 l.1 l.2) (links_all ls)

pub body_all : (ss : List Statement) → body_onto ss no_statement ≡ body_of ss
body_all [] = refl
body_all (s ∷ ss) = ap (statement s) (body_all ss)

pub main_all : (is : List MainItem) → main_onto is no_item ≡ main_of is
main_all [] = refl
main_all (i ∷ is) = ap (item i) (main_all is)
