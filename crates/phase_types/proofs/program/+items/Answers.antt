use Rattle.std.proofs.Common.{length, ◌≡◌, ◌+◌, ◌<◌, rules, sym, subst, map, Err, ap, ◌∙◌, drop}
use Rattle.liszt_base.specs.Gives.{Gives}
use Rattle.liszt_tree.specs.Tree.{expression, statement_tree, body_of, item_tree, main_of, MainAssign, MainIf, MainWhile, MainFor}
use Rattle.liszt_tree.specs.declared.tree.Item.{the_lemmas}
use Rattle.phase_types.specs.Internal.Results.{paired, resolved_block, main_choice_code, main_repetition_code, comprehension_item}
use Rattle.phase_types.specs.Checked.{resolved_item}
use Rattle.phase_types.proofs.LoopLemmas.{items_after, item_done, main_names_remain, handed_on, main_first_stops, main_chooses, while_is, else_there}
use Rattle.phase_types.proofs.program.+items.Goals as goal

pub resolve_item-resolve_block-requires : goal.resolve_item-resolve_block-requires
resolve_item-resolve_block-requires t c = (search (rules, the_lemmas), tt)

pub resolve_item-resolve_choice-requires : goal.resolve_item-resolve_choice-requires
resolve_item-resolve_choice-requires t c = (search (rules, the_lemmas), tt)

pub resolve_item-resolve_repetition-requires : goal.resolve_item-resolve_repetition-requires
resolve_item-resolve_repetition-requires t c = (search (rules, the_lemmas), tt)

pub resolve_item-returns-in_err-first-in-If : goal.resolve_item-returns-in_err-first-in-If
resolve_item-returns-in_err-first-in-If t c =
    let i = c.in-If in
    let is : item_tree c.args.i.now ≡ MainIf i.place (expression i.test) (main_of (map item_tree i.yes)) (main_of (map item_tree i.no)) i.has_else = search (rules, the_lemmas) in
    subst (λ x. Gives (resolved_item c.args.state.now x) (paired c.from_residual-in_err-first-in-If.result c.resolve_block.new.state)) (sym is)
    (handed_on _ c.from_residual-in_err-first-in-If.result c.resolve_block.new.state c.in_err-first-in-If.field-0.0 c.from_residual-in_err-first-in-If.ensures.1
    (main_first_stops c.args.state.now i.place (expression i.test) (main_of (map item_tree i.yes)) (main_of (map item_tree i.no)) i.has_else c.in_ok-test-in-If.test c.in_err-first-in-If.field-0.0
    c.in_ok-test-in-If.ensures
    (subst (λ items. Gives (resolved_block c.args.state.now (main_of (map item_tree items))) (Err c.in_err-first-in-If.field-0.0)) c.as_slice.ensures c.in_err-first-in-If.ensures)))

pub resolve_item-returns-in_ok-first-in-If : goal.resolve_item-returns-in_ok-first-in-If
resolve_item-returns-in_ok-first-in-If t c =
    let i = c.in-If in
    let is : item_tree c.args.i.now ≡ MainIf i.place (expression i.test) (main_of (map item_tree i.yes)) (main_of (map item_tree i.no)) i.has_else = search (rules, the_lemmas) in
    let answer : _ = paired c.resolve_choice.result c.resolve_choice.new.state in
    subst (λ x. Gives (resolved_item c.args.state.now x) answer) (sym is)
    (main_chooses c.args.state.now i.place (expression i.test) (main_of (map item_tree i.yes)) (main_of (map item_tree i.no)) i.has_else c.in_ok-test-in-If.test c.in_ok-first-in-If.first
    c.resolve_block.new.state answer c.in_ok-test-in-If.ensures
    (ap (λ items. resolved_block c.args.state.now (main_of (map item_tree items))) (sym c.as_slice.ensures) ∙ c.in_ok-first-in-If.ensures)
    (subst (λ items. Gives (main_choice_code c.resolve_block.new.state c.in_ok-test-in-If.test c.in_ok-first-in-If.first (main_of (map item_tree items)) i.has_else) answer) c.as_slice-in-If.ensures c.resolve_choice.ensures))

pub resolve_item-returns-in-Assign : goal.resolve_item-returns-in-Assign
resolve_item-returns-in-Assign t c =
    let i = c.in-Assign in
    let is : item_tree c.args.i.now ≡ MainAssign i.place i.name i.how (expression i.value) = search (rules, the_lemmas) in
    subst (λ x. Gives (resolved_item c.args.state.now x) (paired c.resolve_assignment.result c.resolve_assignment.new.state)) (sym is) c.resolve_assignment.ensures

pub resolve_item-returns-in-While : goal.resolve_item-returns-in-While
resolve_item-returns-in-While t c =
    let i = c.in-While in
    let is : item_tree c.args.i.now ≡ MainWhile i.place (expression i.test) (main_of (map item_tree i.body)) = search (rules, the_lemmas) in
    let answer : _ = paired c.resolve_repetition.result c.resolve_repetition.new.state in
    subst (λ x. Gives (resolved_item c.args.state.now x) answer) (sym is)
    (subst (λ r. Gives r answer) (sym (while_is c.args.state.now i.place (expression i.test) (main_of (map item_tree i.body))))
    (subst (λ items. Gives (main_repetition_code c.args.state.now i.place (expression i.test) (main_of (map item_tree items))) answer) c.as_slice-in-While.ensures c.resolve_repetition.ensures))

pub resolve_item-returns-in-For : goal.resolve_item-returns-in-For
resolve_item-returns-in-For t c =
    let i = c.in-For in
    let is : item_tree c.args.i.now ≡ MainFor i.place i.name i.at i.over (body_of (map statement_tree i.body)) = search (rules, the_lemmas) in
    let answer : _ = paired c.resolve_comprehension_item.result c.resolve_comprehension_item.new.state in
    subst (λ x. Gives (resolved_item c.args.state.now x) answer) (sym is)
    (subst (λ body. Gives (comprehension_item c.args.state.now i.name i.at i.over (body_of (map statement_tree body))) answer) c.as_slice-in-For.ensures
    c.resolve_comprehension_item.ensures)

pub resolve_items-loop-i-preserved : goal.resolve_items-loop-i-preserved
resolve_items-loop-i-preserved t c = (
  ap (λ done. items_after c.resolve_item.new.state done (drop (c.loop-i.i-index + 1) c.args.items.now)) c.in_ok-push.ensures
      ∙ item_done c.loop-i.state c.loop-i.done c.args.items.now c.loop-i.i-index c.i-item.result (search rules) c.i-item.is c.loop-i.invariant.0 c.in_ok-code.code c.resolve_item.new.state c.in_ok-code.ensures,
  main_names_remain c.args.state.now.names c.loop-i.state (item_tree c.i-item.result) c.in_ok-code.code c.resolve_item.new.state c.loop-i.invariant.1 c.in_ok-code.ensures,
)

pub resolve_else-returns-in-len1-up : goal.resolve_else-returns-in-len1-up
resolve_else-returns-in-len1-up t c =
    let within : 0 < length c.args.items.now = search rules in
    else_there c.args.state.now c.args.items.now c.args.has_else (paired c.resolve_some_block-in-len1-up.result c.resolve_some_block-in-len1-up.new.state) within c.resolve_some_block-in-len1-up.ensures
