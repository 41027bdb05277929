-- The walk of a program has no fault if and only if the program is typed.
use Rattle.std.proofs.Common.{◌≡◌, ℕ, List, [], ◌∷◌, ◌++◌, refl, sym, subst}
use Rattle.std.specs.List.{AllByRecursion, find}
use Rattle.std.specs.Option.{option_and_then}
use Rattle.std.specs.Prelude.{Option, Some, None, is_some}
use Rattle.liszt_base.specs.declared.answers.Place.{Place}
use Rattle.liszt_base.specs.declared.answers.ProgramFault.{ProgramFault}
use Rattle.liszt_tree.specs.declared.tree.How.{How}
use Rattle.liszt_tree.specs.Tree.{Expression, MainItem, MainField, MainVar, MainAssign, MainIf, MainWhile, MainFor, Print, Main, no_item, item}
use Rattle.phase_types.specs.Environments.{Binding, FieldName, ScalarName, LocalName, ElementName, binding_of, Site, start, after_item, comprehension_at, block_start, after_block, after_main, Comprehension}
use Rattle.phase_types.specs.Types.{NumberType, TruthType}
use Rattle.phase_types.specs.Typed.{ComprehensionFits, ItemFits, FitsMainField, FitsMainVar, FitsMainAssign, FitsMainIf, FitsMainWhile, FitsMainFor, FitsPrint, MainFits, FitsNoItem, FitsItems, IsTyped}
use Rattle.phase_types.specs.Walk.{Step, TestStep, AccessStep, typed_steps, name_requirement, steps_in, faults_in_steps, faults_in_main, main_target_steps, faults_in_item, faults_in_items, check_fault}
use Rattle.phase_types.proofs.ModeLemmas.{IsNone, typed_steps_have_no_fault, typed_steps_without_fault}
use Rattle.phase_types.proofs.StepLemmas.{all_of_both, all_of_first, all_of_second, Passes, AllPass, typed_pass, pass_typed, new_pass, pass_new, body_passes, passed_body, failed, then, first_of_both, second_of_both}

-- steps of the main program
main_steps_have_no_fault : (steps : List Step) → AllByRecursion Passes steps → AllByRecursion IsNone (faults_in_main steps)
main_steps_have_no_fault [] h = tt
main_steps_have_no_fault (TestStep fault ∷ steps) h = (h.0, main_steps_have_no_fault steps h.1)
main_steps_have_no_fault (AccessStep access ∷ steps) h = (refl, main_steps_have_no_fault steps h.1)

main_steps_without_fault : (steps : List Step) → AllByRecursion IsNone (faults_in_main steps) → AllByRecursion Passes steps
main_steps_without_fault [] h = tt
main_steps_without_fault (TestStep fault ∷ steps) h = (h.0, main_steps_without_fault steps h.1)
main_steps_without_fault (AccessStep access ∷ steps) h = (tt, main_steps_without_fault steps h.1)

main_passes : {steps : List Step} → AllPass steps → AllByRecursion IsNone (faults_in_main steps)
main_passes {steps = steps} h = main_steps_have_no_fault steps h.all

passed_main : (steps : List Step) → AllByRecursion IsNone (faults_in_main steps) → AllPass steps
passed_main steps h = record { all = main_steps_without_fault steps h }

-- assignments to scalars, and comprehensions
assigned_passed : (site : Site) (place : Place) (name : List ℕ) (how : How) (set_to : Expression) (global : Option Binding) → binding_of site.environment name ≡ global
    → AllPass (main_target_steps place global (typed_steps site.environment NumberType set_to)) → ItemFits site (MainAssign place name how set_to)
assigned_passed site place name how set_to (Some (ScalarName number)) is h = FitsMainAssign place name how is (pass_typed site.environment NumberType set_to h)
assigned_passed site place name how set_to (Some (FieldName number kind)) is h = failed _ place h
assigned_passed site place name how set_to (Some LocalName) is h = failed _ place h
assigned_passed site place name how set_to (Some (ElementName kind)) is h = failed _ place h
assigned_passed site place name how set_to None is h = failed _ place h

comprehension_has_no_fault : (c : Comprehension) → ComprehensionFits c → AllByRecursion IsNone (faults_in_steps [] (steps_in c))
comprehension_has_no_fault c h = typed_steps_have_no_fault (steps_in c) (body_passes h.body_fits) h.one_mode

comprehension_fits : (c : Comprehension) → AllByRecursion IsNone (faults_in_steps [] (steps_in c)) → ComprehensionFits c
comprehension_fits c h =
    let parts = typed_steps_without_fault (steps_in c) h in
    record { body_fits = passed_body _ c.body parts.0; one_mode = parts.1 }

-- ITEMS
mutual
  item_has_no_fault : {site : Site} {i : MainItem} → ItemFits site i → AllByRecursion IsNone (faults_in_item site i)
  item_has_no_fault {site = site} (FitsMainField place name at kind h is) = main_passes (then (typed_pass h) (new_pass site.environment name at is))
  item_has_no_fault {site = site} (FitsMainVar place name at h is) = main_passes (then (typed_pass h) (new_pass site.environment name at is))
  item_has_no_fault {site = site} (FitsMainAssign {set_to = set_to} place name how is h) =
      main_passes (subst (λ global. AllPass (main_target_steps place global (typed_steps site.environment NumberType set_to))) (sym is) (typed_pass h))
  item_has_no_fault (FitsMainIf place has_else h f g) = all_of_both _ _ _ (all_of_both _ _ _ (main_passes (typed_pass h)) (items_have_no_fault f)) (items_have_no_fault g)
  item_has_no_fault (FitsMainWhile place h f) = all_of_both _ _ _ (main_passes (typed_pass h)) (items_have_no_fault f)
  item_has_no_fault {site = site} (FitsMainFor {body = body} place name at over is h) =
      all_of_both _ _ _ (main_passes (new_pass site.environment name at is)) (comprehension_has_no_fault (comprehension_at site name over body) h)
  item_has_no_fault (FitsPrint place h) = main_passes (typed_pass h)

  items_have_no_fault : {site : Site} {program : Main} → MainFits site program → AllByRecursion IsNone (faults_in_items site program)
  items_have_no_fault (FitsNoItem site) = tt
  items_have_no_fault (FitsItems f g) = all_of_both _ _ _ (item_has_no_fault f) (items_have_no_fault g)

mutual
  item_fits : (site : Site) (i : MainItem) → AllByRecursion IsNone (faults_in_item site i) → ItemFits site i
  item_fits site (MainField place name at kind init) h =
      let steps = passed_main (typed_steps site.environment NumberType init ++ name_requirement site.environment name at) h in
      FitsMainField place name at kind (pass_typed site.environment NumberType init (first_of_both _ (name_requirement site.environment name at) steps))
      (pass_new site.environment name at (second_of_both (typed_steps site.environment NumberType init) _ steps))
  item_fits site (MainVar place name at init) h =
      let steps = passed_main (typed_steps site.environment NumberType init ++ name_requirement site.environment name at) h in
      FitsMainVar place name at (pass_typed site.environment NumberType init (first_of_both _ (name_requirement site.environment name at) steps))
      (pass_new site.environment name at (second_of_both (typed_steps site.environment NumberType init) _ steps))
  item_fits site (MainAssign place name how set_to) h =
      assigned_passed site place name how set_to (binding_of site.environment name) refl (passed_main (main_target_steps place (binding_of site.environment name) (typed_steps site.environment NumberType set_to)) h)
  item_fits site (MainIf place test first second has_else) h =
      let after_first : Site = block_start (after_block site (after_main (block_start site) first)) in
      let front = all_of_first _ (faults_in_main (typed_steps site.environment TruthType test) ++ faults_in_items (block_start site) first) (faults_in_items after_first second) h in
      FitsMainIf place has_else
      (pass_typed site.environment TruthType test (passed_main (typed_steps site.environment TruthType test) (all_of_first _ (faults_in_main (typed_steps site.environment TruthType test)) (faults_in_items (block_start site) first) front)))
      (main_fits (block_start site) first (all_of_second _ (faults_in_main (typed_steps site.environment TruthType test)) (faults_in_items (block_start site) first) front))
      (main_fits after_first second (all_of_second _ (faults_in_main (typed_steps site.environment TruthType test) ++ faults_in_items (block_start site) first) (faults_in_items after_first second) h))
  item_fits site (MainWhile place test body) h =
      FitsMainWhile place
      (pass_typed site.environment TruthType test (passed_main (typed_steps site.environment TruthType test) (all_of_first _ (faults_in_main (typed_steps site.environment TruthType test)) (faults_in_items (block_start site) body) h)))
      (main_fits (block_start site) body (all_of_second _ (faults_in_main (typed_steps site.environment TruthType test)) (faults_in_items (block_start site) body) h))
  item_fits site (MainFor place name at over body) h =
      FitsMainFor place name at over
      (pass_new site.environment name at (passed_main (name_requirement site.environment name at) (all_of_first _ (faults_in_main (name_requirement site.environment name at)) (faults_in_steps [] (steps_in (comprehension_at site name over body))) h)))
      (comprehension_fits (comprehension_at site name over body) (all_of_second _ (faults_in_main (name_requirement site.environment name at)) (faults_in_steps [] (steps_in (comprehension_at site name over body))) h))
  item_fits site (Print place value) h = FitsPrint place (pass_typed site.environment NumberType value (passed_main (typed_steps site.environment NumberType value) h))

  main_fits : (site : Site) (program : Main) → AllByRecursion IsNone (faults_in_items site program) → MainFits site program
  main_fits site no_item h = FitsNoItem site
  main_fits site (item i rest) h =
      FitsItems (item_fits site i (all_of_first _ (faults_in_item site i) (faults_in_items (after_item site i) rest) h))
      (main_fits (after_item site i) rest (all_of_second _ (faults_in_item site i) (faults_in_items (after_item site i) rest) h))

-- THE FIRST FAULT
all_none : (found : List (Option ProgramFault)) → option_and_then (λ fault. fault) (find is_some found) ≡ None → AllByRecursion IsNone found
all_none [] e = tt
all_none (None ∷ rest) e = (refl, all_none rest e)
all_none (Some fault ∷ rest) e = absurd cc

none_first : (found : List (Option ProgramFault)) → AllByRecursion IsNone found → option_and_then (λ fault. fault) (find is_some found) ≡ None
none_first [] h = refl
none_first (None ∷ rest) h = none_first rest h.1
none_first (Some fault ∷ rest) h = absurd (cc (h.0))

pub no_fault : (program : Main) → IsTyped program → check_fault program ≡ None
no_fault program h = none_first (faults_in_items start program) (items_have_no_fault h)

pub is_typed : (program : Main) → check_fault program ≡ None → IsTyped program
is_typed program e = main_fits start program (all_none (faults_in_items start program) e)
