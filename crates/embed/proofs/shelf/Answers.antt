use Rattle.std.proofs.Common.{◌≡◌, ℕ, List, [], ◌∷◌, ◌++◌, map, refl, subst, sym, ap, ◌∙◌}
use Rattle.std.specs.List.{IsDistinct}
use Rattle.std.specs.Str.{bytes_eq}
use Rattle.liszt_io.specs.declared.held_file.HeldFile.{HeldFile}
use Rattle.embed.proofs.shelf.Goals as goal

distinct : IsDistinct bytes_eq ((112 ∷ []) ∷ (110 ∷ []) ∷ (101 ∷ []) ∷ [])
unfolding IsDistinct
distinct = ((refl, (refl, tt)), ((refl, tt), (tt, tt)))

three : (a b c : HeldFile) (x y z w : List HeldFile) → x ≡ [] → y ≡ x ++ a ∷ [] → z ≡ y ++ b ∷ [] → w ≡ z ++ c ∷ []
    → a.name ≡ 112 ∷ [] → b.name ≡ 110 ∷ [] → c.name ≡ 101 ∷ [] → map (λ f. f.name) w ≡ (112 ∷ []) ∷ (110 ∷ []) ∷ (101 ∷ []) ∷ []
three a b c x y z w first second third fourth p n e =
    let files : w ≡ a ∷ b ∷ c ∷ [] = cc in
    ap (map (λ (f : HeldFile). f.name)) files ∙ cc

pub new-requires-2-clause-names : goal.new-requires-2-clause-names
new-requires-2-clause-names c =
    subst (λ (names : List (List ℕ)). IsDistinct bytes_eq names)
    (sym (three c.in_ok-program.program c.in_ok-node.node c.in_ok-ele.ele _ _ _ _ c.new-files.ensures c.in_ok-push.ensures.ok c.in_ok-push-2.ensures.ok c.in_ok-push-3.ensures.ok c.in_ok-program.ensures c.in_ok-node.ensures c.in_ok-ele.ensures))
    distinct
