use Rattle.std.proofs.Common.{◌≡◌, map, refl, rules, append_assoc}
use Rattle.std.proofs.lemmas.Result.{IfOk-equal}
use Rattle.liszt_tree.specs.declared.tree.Item.{the_lemmas}
use Rattle.liszt_tree.specs.Canonical.{item_text}
use Rattle.liszt_tree.specs.Tree.{item_tree, expression, main_of, MainIf}
use Rattle.liszt_tree.proofs.ListPrintLemmas.{main_after, step}
use Rattle.liszt_tree.proofs.print.+items.Goals as goal

pub print_item-returns-in_ok-print_main_else-in-If : goal.print_item-returns-in_ok-print_main_else-in-If
print_item-returns-in_ok-print_main_else-in-If t c =
    let i = c.in-If in
    let is : item_tree c.args.item.now ≡ MainIf i.place (expression i.test) (main_of (map item_tree i.yes)) (main_of (map item_tree i.no)) i.has_else = search (rules, the_lemmas) in
    search (rules, is, IfOk-equal, append_assoc)

pub print_main-loop-item-preserved : goal.print_main-loop-item-preserved
print_main-loop-item-preserved t c =
    step (main_after c.args.depth) (λ x. item_text c.args.depth (item_tree x)) (λ x more. refl)
    c.args.items.now c.loop-item.item-index c.item-item.result (search rules) c.item-item.is c.loop-item.out _ _ (search rules) c.loop-item.invariant
