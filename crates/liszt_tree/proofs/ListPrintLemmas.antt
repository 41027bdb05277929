-- A list is written item by item: what is written and the text of what remains make the whole.
use Rattle.std.proofs.Common.{◌≡◌, ℕ, ◌+◌, ◌<◌, List, ◌∷◌, ◌++◌, map, length, get_or, drop, sym, ap, ◌∙◌, append_assoc}
use Rattle.std.proofs.lemmas.List.{drop_more}
use Rattle.liszt_tree.specs.declared.tree.Link.{Link}
use Rattle.liszt_tree.specs.declared.tree.Stmt.{Stmt}
use Rattle.liszt_tree.specs.declared.tree.Item.{Item}
use Rattle.liszt_tree.specs.Canonical.{links_text, body_text, main_text}
use Rattle.liszt_tree.specs.Tree.{expression, links_of, statement_tree, body_of, item_tree, main_of}

-- the text of links
abbrev pub links_after : ℕ → List Link → List ℕ
links_after level links = links_text level (links_of (map (λ l. (l.op, l.place, expression l.arg)) links))

-- an item written, and the rest after it
pub step : {X : Type 0} (f : List X → List ℕ) (piece : X → List ℕ) → ((x : X) (more : List X) → f (x ∷ more) ≡ piece x ++ f more)
    → (xs : List X) (i : ℕ) (x : X) → i < length xs → x ≡ get_or xs i x → (out now whole : List ℕ) → now ≡ out ++ piece x → out ++ f (drop i xs) ≡ whole
    → now ++ f (drop (i + 1) xs) ≡ whole
step f piece cons xs i x within here out now whole new so_far =
    ap (λ t. t ++ f (drop (i + 1) xs)) new ∙ append_assoc out (piece x) _
    ∙ ap (λ t. out ++ t) (sym (ap f (drop_more xs i x within ∙ ap (λ y. y ∷ drop (i + 1) xs) (sym here)) ∙ cons x _)) ∙ so_far

-- the text of the statements of a block
abbrev pub body_after : ℕ → List Stmt → List ℕ
body_after depth body = body_text depth (body_of (map statement_tree body))

-- the text of the items of the main program, or of a block in it
abbrev pub main_after : ℕ → List Item → List ℕ
main_after depth items = main_text depth (main_of (map item_tree items))
