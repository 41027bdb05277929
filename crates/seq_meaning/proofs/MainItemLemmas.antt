-- One item of the main program, by its code.
use Rattle.std.proofs.Common.{◌≡◌, ◌≢◌, ◌<◌, ◌≤◌, ℕ, suc, ◌+◌, ◌*◌, Bool, true, false, List, [], ◌∷◌, ◌++◌, length, drop, append_assoc, refl, sym, ap, subst, ◌∙◌, arith}
use Rattle.std.proofs.lemmas.Bool.{lt-ltb, le-ltb}
use Rattle.std.proofs.lemmas.Option.{slice_get_within}
use Rattle.std.proofs.Math.Nat.{le-max_left}
use Rattle.std.specs.List.{slice_set}
use Rattle.std.specs.Option.{option_and_then}
use Rattle.std.specs.Prelude.{Option, Some, None, slice_get, get_or, nat_lt, max, ℤ, pos, Result, Ok, Err}
use Rattle.liszt_base.specs.Limits.{print_limit}
use Rattle.liszt_base.specs.declared.answers.Place.{Place}
use Rattle.liszt_base.specs.declared.answers.Trap.{Trap}
use Rattle.liszt_base.specs.declared.answers.TrapKind.TheVariants.{Prints, Spent}
use Rattle.liszt_tree.specs.declared.tree.How.{How}
use Rattle.liszt_tree.specs.Tree.{Expression, MainItem, MainField, MainVar, MainIf, MainWhile, MainFor, Main, item}
use Rattle.mesh_topology.specs.Elements.{count}
use Rattle.resolved_code.specs.declared.expressions.NumberCode.{NumberCode}
use Rattle.resolved_code.specs.declared.expressions.TruthCode.{TruthCode}
use Rattle.resolved_code.specs.declared.items.BlockCode.{BlockCode}
use Rattle.resolved_code.specs.declared.items.ItemCode.{ItemCode, out-ItemCode}
use Rattle.resolved_code.specs.declared.items.ItemCode.TheOpen.{ItemCode-F}
use Rattle.resolved_code.specs.declared.items.ItemCode.TheVariants as code
use Rattle.phase_types.specs.Environments.{Comprehension, binding_of, Part, FieldPart, ScalarPart, ComprehensionPart, Site, field_part, scalar_part, comprehension_part, fields_in, scalars_in, comprehensions_in, next_field, next_scalar, next_comprehension, next_scope, comprehension_at, block_start, after_block, has_else_block, after_item, after_main}
use Rattle.phase_types.proofs.PartLemmas.{part_at, next_part, prefix_of_prefix, main_is_prefix}
use Rattle.kernel_eval.specs.Outcomes.{Stop, Trapped, NoMeaning, Outcome, Computation, Done, halt, skip, continue_with, take_turn, if_then_else, ◌>>=◌, ◌>>◌}
use Rattle.kernel_eval.specs.States.{scalar_value, with_scalar_value, known_scalars, main_evaluation}
use Rattle.kernel_eval.specs.Meaning.{assigned_value, trap, number_in, truth_in}
use Rattle.seq_meaning.specs.MainCode.{IsNumberCode, IsTruthCode, IsCode}
use Rattle.seq_meaning.specs.MainRuns.{Frame, MainRun, World, Descends, Stands, AtItem, InBlock, block_and_rest, block_in, block_at, index_after, nested, deepest, HasState, StandsAt, HasEvent, Reaches, Traps, Continues, HaveOneMore, AreSame, logged, next_frame, KeepsShape, CanDo}
use Rattle.seq_meaning.specs.RemainingEvents.{event_count, events_in}
use Rattle.seq_meaning.specs.Internal.RunSteps.{HasDone, events_at}
use Rattle.seq_meaning.specs.declared.main_run.MainStep.TheVariants.{Enter, Declare, Comp}
use Rattle.seq_meaning.specs.MainValues.{main_trap, main_number, main_truth}
use Rattle.seq_meaning.specs.Runs.{Progress, ScopeOpened, in_scope, program_turns, item_meaning, assign_main_name, assign_main_scalar, print_number, in_program, FieldDeclared, main_meaning, number_at, truth_at, modify_state, log_event, with_field, with_scalar}
use Rattle.seq_meaning.proofs.EventCountLemmas.{count_field, count_for, count_first, count_second, count_while, events_from, events_of_item, events_here, events_moved, events_opened, turn_taken}
use Rattle.seq_meaning.proofs.MainHereLemmas.{Here, here, code_here, at_next, keeps_shape, scalars_after_item, FieldHere, field_here, VarHere, var_here, AssignHere, assign_here, PrintHere, print_here, ForHere, for_here, WhileHere, while_here, ElseHere, IfHere, if_here, out_if, out_while, block_descends}
use Rattle.kernel_eval.specs.HeldFields.{HoldsScalars}
use Rattle.kernel_eval.proofs.LoopLemmas.{loop_is}
use Rattle.seq_meaning.proofs.MainCodeLemmas.{got}
use Rattle.seq_meaning.proofs.MainPreservationLemmas.{fewer_kept, main_keeps, scope_keeps, truth_keeps}
use Rattle.seq_meaning.proofs.TypedRunLemmas.{more_of, scalar_number}
use Rattle.seq_meaning.proofs.NestingLemmas.{nested_if, nested_if_alone, nested_while, item_nested}
use Rattle.seq_meaning.proofs.MainStepLemmas.{set_here, set_there, length_set, descends_below, holds_new, holds_assigned, known_after_assignment, take_more, length_take, number_changes_nothing, truth_changes_nothing, IsEvaluated, evaluated}

-- an expression first
pub number_first : (w : World) (scalars : List ℤ) (p : Progress) (site : Site) (e : Expression) (x : NumberCode) (next : ℤ → Computation Progress Done) (rest remaining : Computation Progress Done)
    → remaining ≡ ((number_at w.mesh site e >>= next) >> rest) → IsNumberCode site.environment e x → HoldsScalars p.state scalars → (remaining p).answer ≢ Err NoMeaning
    → IsEvaluated (main_number scalars x) (λ n. next n >> rest) remaining p
number_first w scalars p site e x next rest remaining is value held meaning =
    subst (λ remaining. (remaining p).answer ≢ Err NoMeaning → IsEvaluated (main_number scalars x) (λ n. next n >> rest) remaining p) (sym is)
    (λ meaning. evaluated (number_at w.mesh site e) next rest p (number_in w.mesh site.environment e (main_evaluation p.state)).answer (main_number scalars x)
    (ap (λ after. record { after = record p { state = after.state }; answer = (number_in w.mesh site.environment e (main_evaluation p.state)).answer }) (number_changes_nothing w.mesh site.environment e p.state))
    (value.answer w.mesh p.state scalars held) meaning) meaning

pub truth_first : (w : World) (scalars : List ℤ) (p : Progress) (site : Site) (e : Expression) (x : TruthCode) (next : Bool → Computation Progress Done) (rest remaining : Computation Progress Done)
    → remaining p ≡ ((truth_at w.mesh site e >>= next) >> rest) p → IsTruthCode site.environment e x → HoldsScalars p.state scalars → (remaining p).answer ≢ Err NoMeaning
    → IsEvaluated (main_truth scalars x) (λ b. next b >> rest) remaining p
truth_first w scalars p site e x next rest remaining is value held meaning =
    let g = evaluated (truth_at w.mesh site e) next rest p (truth_in w.mesh site.environment e (main_evaluation p.state)).answer (main_truth scalars x)
    (ap (λ after. record { after = record p { state = after.state }; answer = (truth_in w.mesh site.environment e (main_evaluation p.state)).answer }) (truth_changes_nothing w.mesh site.environment e p.state))
    (value.answer w.mesh p.state scalars held) (λ none. meaning (ap (λ outcome. outcome.answer) is ∙ none)) in
    record { has_meaning = g.has_meaning; value = λ b e. is ∙ g.value b e; trap = λ t e. is ∙ g.trap t e }

-- three computations in sequence
pub regrouped : (first second third : Computation Progress Done) (p : Progress) → ((first >> second) >> third) p ≡ (first >> (second >> third)) p
regrouped first second third p = go (first p).after (first p).answer where
  go : (after : Progress) (answer : Result Done Stop) → continue_with (λ done. third) (continue_with (λ done. second) after answer).after (continue_with (λ done. second) after answer).answer
      ≡ continue_with (λ done. second >> third) after answer
  go after (Ok done) = refl
  go after (Err stop) = refl

module _ (w : World) (r : MainRun) (level : ℕ) (outside : List ℕ) (items : List ItemCode) (p : Progress) (remaining : Computation Progress Done) (s : StandsAt w r level outside items p remaining)
    (innermost : suc level ≡ r.depth) (frame : Frame) (at : slice_get r.frames level ≡ Some frame) (next : Frame) (next_is : next ≡ next_frame frame) where
  abbrev after_move : MainRun
  after_move = record r { frames = slice_set r.frames level next }

  pub here_now : Here w r.frames r.depth level outside items (known_scalars p.state) remaining
  here_now = here s.stands innermost

  level_is : level < length r.frames
  level_is = slice_get_within r.frames level frame at

  next_codes : (site : Site) (rest : Main) → IsCode w.parts site rest (drop (suc frame.index) items) → IsCode w.parts site rest (drop next.index items)
  next_codes site rest code = subst (λ next. IsCode w.parts site rest (drop next.index items)) (sym next_is) code

  -- the run at the next item, from a state with the same scalars or with new ones
  moved : (after : MainRun) → after.frames ≡ slice_set r.frames level next → after.depth ≡ r.depth → (q : Progress) (site : Site) (rest : Main) (new : List ℕ)
      → IsCode w.parts site rest (drop (suc frame.index) items) → known_scalars q.state ≡ new ++ outside → Descends (next_scalar site) (known_scalars q.state) → HasState w after q.state
      → (main_meaning w.mesh w.turns site rest q).answer ≢ Err NoMeaning → StandsAt w after level outside items q (main_meaning w.mesh w.turns site rest)
  moved after frames depth q site rest new code known_is descends has_state meaning = record {
    stands = subst (λ frames. Stands w frames after.depth level outside items (known_scalars q.state) (main_meaning w.mesh w.turns site rest)) (sym frames)
        (subst (λ depth. Stands w (slice_set r.frames level next) depth level outside items (known_scalars q.state) (main_meaning w.mesh w.turns site rest)) (sym depth)
        (at_next w r.frames r.depth level outside (known_scalars q.state) new items next site rest level_is innermost (next_codes site rest code) known_is descends));
    has_state = has_state;
    room = omega (arith, s.room, ap (λ frames. length frames) frames, length_set r.frames level next);
    has_meaning = meaning;
  }

  pub trapped : (t : Trap) → remaining p ≡ halt (Trapped t) p → Traps w t p remaining r
  trapped t is = record { later = p; is = is; path = refl; has_state = s.has_state }

  still_means : (q : Progress) (rest : Computation Progress Done) → remaining p ≡ rest q → (rest q).answer ≢ Err NoMeaning
  still_means q rest is none = s.has_meaning (ap (λ outcome. outcome.answer) is ∙ none)

  -- THE DECLARATION OF A FIELD
  module _ (field : ℕ) (x : NumberCode) (c : slice_get items frame.index ≡ Some (code.Field field x)) where
    pub f : FieldHere w.parts here_now.site here_now.program (drop (suc frame.index) items) field x
    f = field_here field x (code_here here_now frame (code.Field field x) at c) refl

    abbrev declared_next : ℤ → Computation Progress Done
    declared_next n = modify_state (with_field (next_field here_now.site) (count w.mesh f.kind) n) >> log_event (FieldDeclared (next_field here_now.site) n)

    abbrev field_rest : Computation Progress Done
    field_rest = main_meaning w.mesh w.turns (after_item here_now.site (MainField f.place f.name f.at f.kind f.init)) f.rest

    pub field_value : IsEvaluated (main_number r.scalars x) (λ n. declared_next n >> field_rest) remaining p
    field_value = number_first w r.scalars p here_now.site f.init x declared_next field_rest remaining
        (here_now.is ∙ ap (main_meaning w.mesh w.turns here_now.site) f.is) f.value s.has_state.scalars s.has_meaning

    pub field_step : (n : ℤ) → main_number r.scalars x ≡ Ok n → HasEvent w (FieldDeclared field n) (HaveOneMore w field n) level outside items p remaining after_move
    field_step n e = subst (λ number. HasEvent w (FieldDeclared number n) (HaveOneMore w number n) level outside items p remaining after_move) (sym f.number) record {
      later = later;
      rest = field_rest;
      is = field_value.value n e;
      path = refl;
      fields = record {
        index = length (fields_in here_now.site.parts);
        info = record { name = f.name; kind = f.kind; scope = here_now.site.scope };
        number = refl;
        found = ap (λ parts. slice_get (fields_in parts) (length (fields_in here_now.site.parts))) f.before.appended
            ∙ ap (λ parts. slice_get (fields_in parts) (length (fields_in here_now.site.parts))) (append_assoc here_now.site.parts (this ∷ []) f.before.rest)
            ∙ part_at field_part here_now.site.parts f.before.rest this _ refl;
        are = refl;
      };
      stands = moved after_move refl refl (logged (FieldDeclared (next_field here_now.site) n) later) (after_item here_now.site (MainField f.place f.name f.at f.kind f.init)) f.rest here_now.new
          f.code here_now.known_is (scalars_after_item here_now.site (MainField f.place f.name f.at f.kind f.init) (known_scalars p.state) here_now.descends)
          (record { scalars = record { holds = s.has_state.scalars.holds }; prints = s.has_state.prints; turns = s.has_state.turns; each_scalar = s.has_state.each_scalar; each_print = s.has_state.each_print; printed = s.has_state.printed })
          (still_means (logged (FieldDeclared (next_field here_now.site) n) later) field_rest (field_value.value n e));
    } where
      this : Part
      this = FieldPart (record { name = f.name; kind = f.kind; scope = here_now.site.scope })

      later : Progress
      later = record p { state = with_field (next_field here_now.site) (count w.mesh f.kind) n p.state }

  -- THE DECLARATION OF A SCALAR
  module _ (scalar : ℕ) (x : NumberCode) (c : slice_get items frame.index ≡ Some (code.Var scalar x)) where
    pub v : VarHere w.parts here_now.site here_now.program (drop (suc frame.index) items) scalar x
    v = var_here scalar x (code_here here_now frame (code.Var scalar x) at c) refl

    abbrev scalar_next : ℤ → Computation Progress Done
    scalar_next n = modify_state (with_scalar (next_scalar here_now.site) n)

    abbrev scalar_rest : Computation Progress Done
    scalar_rest = main_meaning w.mesh w.turns (after_item here_now.site (MainVar v.place v.name v.at v.init)) v.rest

    pub scalar_value_first : IsEvaluated (main_number r.scalars x) (λ n. scalar_next n >> scalar_rest) remaining p
    scalar_value_first = number_first w r.scalars p here_now.site v.init x scalar_next scalar_rest remaining
        (here_now.is ∙ ap (main_meaning w.mesh w.turns here_now.site) v.is) v.value s.has_state.scalars s.has_meaning

    abbrev this_part : Part
    this_part = ScalarPart v.name

    pub scalar_below : scalar < length r.scalars
    scalar_below =
        let found : slice_get (scalars_in w.parts) (next_scalar here_now.site) ≡ Some v.name =
        ap (λ parts. slice_get (scalars_in parts) (next_scalar here_now.site)) v.before.appended
        ∙ ap (λ parts. slice_get (scalars_in parts) (next_scalar here_now.site)) (append_assoc here_now.site.parts (this_part ∷ []) v.before.rest)
        ∙ part_at scalar_part here_now.site.parts v.before.rest this_part v.name refl in
        let l = slice_get_within (scalars_in w.parts) (next_scalar here_now.site) v.name found in
        omega (arith, l, v.number, s.has_state.each_scalar)

    pub scalar_step : (n : ℤ) → main_number r.scalars x ≡ Ok n → Continues w level outside items p remaining r (record after_move { scalars = slice_set r.scalars scalar n })
    scalar_step n e = record {
      later = later;
      rest = scalar_rest;
      is = scalar_value_first.value n e;
      path = refl;
      fields = refl;
      stands = moved (record after_move { scalars = slice_set r.scalars scalar n }) refl refl later (after_item here_now.site (MainVar v.place v.name v.at v.init)) v.rest (next_scalar here_now.site ∷ here_now.new)
          v.code (ap (λ known. next_scalar here_now.site ∷ known) here_now.known_is) (one_more_descends, here_now.descends)
          (record {
            scalars = subst (λ number. HoldsScalars later.state (slice_set r.scalars number n)) (sym v.number) (holds_new r.scalars p.state (next_scalar here_now.site) n (subst (λ number. number < length r.scalars) v.number scalar_below) s.has_state.scalars);
            prints = s.has_state.prints;
            turns = s.has_state.turns;
            each_scalar = length_set r.scalars scalar n ∙ s.has_state.each_scalar;
            each_print = s.has_state.each_print;
            printed = s.has_state.printed;
          })
          (still_means later scalar_rest (scalar_value_first.value n e));
      depth = refl;
    } where
      later : Progress
      later = record p { state = with_scalar (next_scalar here_now.site) n p.state }

      one_more_descends : next_scalar here_now.site < next_scalar (after_item here_now.site (MainVar v.place v.name v.at v.init))
      one_more_descends = omega (arith, scalar_number here_now.site v.name)

  -- AN ASSIGNMENT
  module _ (scalar : ℕ) (how : How) (x : NumberCode) (c : slice_get items frame.index ≡ Some (code.Assign scalar how x)) where
    pub a : AssignHere w.parts here_now.site here_now.program (drop (suc frame.index) items) scalar how x
    a = assign_here scalar how x (code_here here_now frame (code.Assign scalar how x) at c) refl

    abbrev assign_next : ℤ → Computation Progress Done
    assign_next n = assign_main_name how n (binding_of here_now.site.environment a.name)

    abbrev assign_rest : Computation Progress Done
    assign_rest = main_meaning w.mesh w.turns here_now.site a.rest

    pub assign_value : IsEvaluated (main_number r.scalars x) (λ n. assign_next n >> assign_rest) remaining p
    assign_value = number_first w r.scalars p here_now.site a.value x assign_next assign_rest remaining
        (here_now.is ∙ ap (main_meaning w.mesh w.turns here_now.site) a.is) a.value_is s.has_state.scalars s.has_meaning

    assigned_at : (n : ℤ) → main_number r.scalars x ≡ Ok n → remaining p ≡ (assign_main_scalar how n scalar (scalar_value p.state scalar) >> assign_rest) p
    assigned_at n e = assign_value.value n e ∙ ap (λ bound. (assign_main_name how n bound >> assign_rest) p) a.bound

    abbrev assigned_state : ℤ → Progress
    assigned_state value = record p { state = with_scalar_value scalar value p.state }

    record Assigned (n : ℤ) : Type 0 where
      pub old : ℤ
      pub known : scalar_value p.state scalar ≡ Some old
      pub is : remaining p ≡ assign_rest (assigned_state (assigned_value how old n))

    assigned_scalar : (n : ℤ) → main_number r.scalars x ≡ Ok n → Assigned n
    assigned_scalar n e = go (scalar_value p.state scalar) refl (assigned_at n e) where
      go : (value : Option ℤ) → scalar_value p.state scalar ≡ value → remaining p ≡ (assign_main_scalar how n scalar value >> assign_rest) p → Assigned n
      go (Some old) known is = record { old = old; known = known; is = is }
      go None known is = absurd (s.has_meaning (ap (λ outcome. outcome.answer) is))

    pub assign_below : (n : ℤ) → main_number r.scalars x ≡ Ok n → scalar < length r.scalars
    assign_below n e = let g = assigned_scalar n e in slice_get_within r.scalars scalar g.old (s.has_state.scalars.holds scalar g.old g.known)

    pub assign_step : (n : ℤ) → main_number r.scalars x ≡ Ok n
        → Continues w level outside items p remaining r (record after_move { scalars = slice_set r.scalars scalar (assigned_value how (get_or r.scalars scalar (pos 0)) n) })
    assign_step n e = go (assigned_scalar n e) where
      go : Assigned n → Continues w level outside items p remaining r (record after_move { scalars = slice_set r.scalars scalar (assigned_value how (get_or r.scalars scalar (pos 0)) n) })
      go g = subst (λ old. Continues w level outside items p remaining r (record after_move { scalars = slice_set r.scalars scalar (assigned_value how old n) }))
          (sym (got r.scalars scalar g.old (s.has_state.scalars.holds scalar g.old g.known))) record {
            later = assigned_state (assigned_value how g.old n);
            rest = assign_rest;
            is = g.is;
            path = refl;
            fields = refl;
            stands = moved (record after_move { scalars = slice_set r.scalars scalar (assigned_value how g.old n) }) refl refl (assigned_state (assigned_value how g.old n)) here_now.site a.rest here_now.new a.code
                (known_after_assignment scalar (assigned_value how g.old n) p.state ∙ here_now.known_is)
                (subst (Descends (next_scalar here_now.site)) (sym (known_after_assignment scalar (assigned_value how g.old n) p.state)) here_now.descends)
                (record {
                  scalars = holds_assigned r.scalars p.state scalar (assigned_value how g.old n) g.old g.known s.has_state.scalars;
                  prints = s.has_state.prints;
                  turns = s.has_state.turns;
                  each_scalar = length_set r.scalars scalar (assigned_value how g.old n) ∙ s.has_state.each_scalar;
                  each_print = s.has_state.each_print;
                  printed = s.has_state.printed;
                })
                (still_means (assigned_state (assigned_value how g.old n)) assign_rest g.is);
            depth = refl;
          }

  -- A PRINT
  module _ (place : Place) (x : NumberCode) (c : slice_get items frame.index ≡ Some (code.Print place x)) where
    pub q : PrintHere w.parts here_now.site here_now.program (drop (suc frame.index) items) place x
    q = print_here place x (code_here here_now frame (code.Print place x) at c) refl

    abbrev print_rest : Computation Progress Done
    print_rest = main_meaning w.mesh w.turns here_now.site q.rest

    pub print_value : IsEvaluated (main_number r.scalars x) (λ n. print_number place n >> print_rest) remaining p
    print_value = number_first w r.scalars p here_now.site q.value x (print_number place) print_rest remaining
        (here_now.is ∙ ap (main_meaning w.mesh w.turns here_now.site) q.is) q.value_is s.has_state.scalars s.has_meaning

    abbrev print_or_trap : ℤ → Bool → Outcome Progress Done
    print_or_trap n room = (if_then_else room (modify_state (λ s. record s { prints = s.prints ++ n ∷ [] })) (in_program (trap Prints place)) >> print_rest) p

    printed_so_far : length p.state.prints ≡ r.printed
    printed_so_far = ap (λ prints. length prints) s.has_state.prints ∙ length_take r.prints r.printed (omega (arith, s.has_state.printed, s.has_state.each_print))

    print_at : (n : ℤ) → main_number r.scalars x ≡ Ok n → remaining p ≡ print_or_trap n (nat_lt r.printed print_limit)
    print_at n e = print_value.value n e ∙ ap (λ printed. print_or_trap n (nat_lt printed print_limit)) printed_so_far

    abbrev printed_state : ℤ → Progress
    printed_state n = record p { state = record p.state { prints = p.state.prints ++ n ∷ [] } }

    pub print_step : (n : ℤ) → main_number r.scalars x ≡ Ok n → r.printed < print_limit
        → Continues w level outside items p remaining r (record after_move { prints = slice_set r.prints r.printed n; printed = suc r.printed })
    print_step n e l = record {
      later = printed_state n;
      rest = print_rest;
      is = is;
      path = refl;
      fields = refl;
      stands = moved (record after_move { prints = slice_set r.prints r.printed n; printed = suc r.printed }) refl refl (printed_state n) here_now.site q.rest here_now.new q.code
          here_now.known_is here_now.descends
          (record {
            scalars = record { holds = s.has_state.scalars.holds };
            prints = ap (λ prints. prints ++ n ∷ []) s.has_state.prints ∙ sym (take_more r.prints r.printed n (omega (arith, l, s.has_state.each_print)));
            turns = s.has_state.turns;
            each_scalar = s.has_state.each_scalar;
            each_print = length_set r.prints r.printed n ∙ s.has_state.each_print;
            printed = omega (arith, l);
          })
          (still_means (printed_state n) print_rest is);
      depth = refl;
    } where
      is : remaining p ≡ print_rest (printed_state n)
      is = print_at n e ∙ ap (print_or_trap n) (lt-ltb r.printed print_limit l)

    pub print_trap : (n : ℤ) → main_number r.scalars x ≡ Ok n → print_limit ≤ r.printed → remaining p ≡ halt (Trapped (main_trap Prints place)) p
    print_trap n e l = print_at n e ∙ ap (print_or_trap n) (le-ltb r.printed print_limit l)

  -- A COMPREHENSION
  module _ (k : ℕ) (c : slice_get items frame.index ≡ Some (code.For k)) where
    pub o : ForHere w.parts here_now.site here_now.program (drop (suc frame.index) items) k
    o = for_here k (code_here here_now frame (code.For k) at c) refl

    abbrev over_it : Comprehension
    over_it = comprehension_at here_now.site o.name o.over o.body

    pub reach_step : Reaches w k level outside items p remaining after_move
    reach_step = subst (λ k. Reaches w k level outside items p remaining after_move) (sym o.number) record {
      later = p;
      rest = main_meaning w.mesh w.turns (after_item here_now.site (MainFor o.place o.name o.at o.over o.body)) o.rest;
      c = over_it;
      found = ap (λ parts. slice_get (comprehensions_in parts) (next_comprehension here_now.site)) o.before.appended
          ∙ ap (λ parts. slice_get (comprehensions_in parts) (next_comprehension here_now.site)) (append_assoc here_now.site.parts (ComprehensionPart over_it ∷ []) o.before.rest)
          ∙ part_at comprehension_part here_now.site.parts o.before.rest (ComprehensionPart over_it) over_it refl;
      is = ap (λ remaining. remaining p) (here_now.is ∙ ap (main_meaning w.mesh w.turns here_now.site) o.is);
      path = refl;
      fields = refl;
      stands = at_next w r.frames r.depth level outside (known_scalars p.state) here_now.new items next (after_item here_now.site (MainFor o.place o.name o.at o.over o.body)) o.rest level_is innermost
          (next_codes (after_item here_now.site (MainFor o.place o.name o.at o.over o.body)) o.rest o.code) here_now.known_is
          (scalars_after_item here_now.site (MainFor o.place o.name o.at o.over o.body) (known_scalars p.state) here_now.descends);
      has_state = record { scalars = s.has_state.scalars; prints = s.has_state.prints; turns = s.has_state.turns; each_scalar = s.has_state.each_scalar; each_print = s.has_state.each_print; printed = s.has_state.printed };
      room = omega (arith, s.room, length_set r.frames level next);
    }

  -- A BLOCK IS OPENED in the item
  abbrev pub frame_with : Bool → Frame
  frame_with after_else = record { index = frame.index; after_else = after_else }

  abbrev pub first_frame : Frame
  first_frame = record { index = 0; after_else = false }

  abbrev pub opened_frames : Bool → List Frame
  opened_frames after_else = slice_set (slice_set r.frames level (frame_with after_else)) (suc level) first_frame

  abbrev pub after_opening : Bool → MainRun
  after_opening after_else = record r { frames = opened_frames after_else; depth = suc (suc level) }

  outer_frame : (after_else : Bool) → slice_get (opened_frames after_else) level ≡ Some (frame_with after_else)
  outer_frame after_else =
      set_there (slice_set r.frames level (frame_with after_else)) (suc level) level first_frame (λ same. absurd (omega (arith, same)))
      ∙ set_here r.frames level (frame_with after_else) level_is

  inner_frame : (after_else : Bool) → suc level < length r.frames → slice_get (opened_frames after_else) (suc level) ≡ Some first_frame
  inner_frame after_else l =
      set_here (slice_set r.frames level (frame_with after_else)) (suc level) first_frame (omega (arith, l, length_set r.frames level (frame_with after_else)))

  opened_count : (after_else : Bool) → length (opened_frames after_else) ≡ length r.frames
  opened_count after_else =
      length_set (slice_set r.frames level (frame_with after_else)) (suc level) first_frame ∙ length_set r.frames level (frame_with after_else)

  opened_block : (after : MainRun) (after_else repeated : Bool) (block : BlockCode) (q : Progress) (inner_site site : Site) (tree rest : Main) → after.frames ≡ opened_frames after_else
      → after.depth ≡ suc (suc level) → suc level < length r.frames → block_at items (frame_with after_else) ≡ Some (record { block = block; is_repeated = repeated })
      → known_scalars q.state ≡ known_scalars p.state → IsCode w.parts inner_site tree block.items
      → IsCode w.parts site rest (drop (index_after (frame_with after_else) (record { block = block; is_repeated = repeated })) items)
      → Descends (next_scalar inner_site) (known_scalars p.state) → Descends (next_scalar site) (known_scalars p.state) → HasState w after q.state
      → (block_and_rest w q.state block.scope (main_meaning w.mesh w.turns inner_site tree) site rest (logged (ScopeOpened block.scope) q)).answer ≢ Err NoMeaning
      → StandsAt w after level outside items (logged (ScopeOpened block.scope) q) (block_and_rest w q.state block.scope (main_meaning w.mesh w.turns inner_site tree) site rest)
  opened_block after after_else repeated block q inner_site site tree rest frames depth l found known code rest_code inner_descends descends has_state meaning = record {
    stands = subst (λ frames. Stands w frames after.depth level outside items (known_scalars q.state) (block_and_rest w q.state block.scope (main_meaning w.mesh w.turns inner_site tree) site rest)) (sym frames)
        (subst (λ depth. Stands w (opened_frames after_else) depth level outside items (known_scalars q.state) (block_and_rest w q.state block.scope (main_meaning w.mesh w.turns inner_site tree) site rest)) (sym depth)
        (InBlock (frame_with after_else) (record { block = block; is_repeated = repeated }) site rest q.state here_now.new (outer_frame after_else) found
        (AtItem first_frame inner_site tree [] (inner_frame after_else l) refl code refl (subst (Descends (next_scalar inner_site)) (sym known) inner_descends))
        (known ∙ here_now.known_is) (subst (Descends (next_scalar site)) (sym known) descends) rest_code));
    has_state = record { scalars = record { holds = has_state.scalars.holds }; prints = has_state.prints; turns = has_state.turns; each_scalar = has_state.each_scalar; each_print = has_state.each_print; printed = has_state.printed };
    room = omega (arith, s.room, ap (λ frames. length frames) frames, opened_count after_else);
    has_meaning = meaning;
  }

  room_inside : (c : ItemCode) → slice_get items frame.index ≡ Some c → 0 < nested c → suc level < length r.frames
  room_inside c is deep = let l = item_nested items frame.index c is in omega (arith, l, deep, s.room)

  -- AN IF
  module _ (x : TruthCode) (first : BlockCode) (second : Option BlockCode) (c : slice_get items frame.index ≡ Some (code.If x first second)) where
    pub i : IfHere w.parts here_now.site here_now.program (drop (suc frame.index) items) x first second
    i = if_here x first second (code_here here_now frame (code.If x first second) at c) refl

    abbrev whole_if : MainItem
    whole_if = MainIf i.place i.test i.first_tree i.second_tree i.has_else

    abbrev after_first : Site
    after_first = after_block here_now.site (after_main (block_start here_now.site) i.first_tree)

    abbrev after_if : Site
    after_if = after_item here_now.site whole_if

    abbrev first_block : Computation Progress Done
    first_block = main_meaning w.mesh w.turns (block_start here_now.site) i.first_tree

    abbrev second_block : Computation Progress Done
    second_block = main_meaning w.mesh w.turns (block_start after_first) i.second_tree

    abbrev if_next : Bool → Computation Progress Done
    if_next b = if_then_else b (in_scope (next_scope here_now.site) first_block) (if_then_else (has_else_block i.second_tree i.has_else) (in_scope (next_scope after_first) second_block) skip)

    abbrev if_rest : Computation Progress Done
    if_rest = main_meaning w.mesh w.turns after_if i.rest

    pub if_value : IsEvaluated (main_truth r.scalars x) (λ b. if_next b >> if_rest) remaining p
    if_value = truth_first w r.scalars p here_now.site i.test x if_next if_rest remaining
        (ap (λ remaining. remaining p) (here_now.is ∙ ap (main_meaning w.mesh w.turns here_now.site) i.is)) i.value s.has_state.scalars s.has_meaning

    if_nested : 0 < nested (code.If x first second)
    if_nested = go second where
      go : (second : Option BlockCode) → 0 < nested (code.If x first second)
      go None = let e = nested_if_alone x first in let l : 1 + deepest first.items ≤ max (1 + deepest first.items) 0 = le-max_left (1 + deepest first.items) 0 in omega (arith, e, l)
      go (Some block) = let e = nested_if x first block in let l : 1 + deepest first.items ≤ max (1 + deepest first.items) (1 + deepest block.items) = le-max_left (1 + deepest first.items) (1 + deepest block.items) in omega (arith, e, l)

    pub if_room : suc level < length r.frames
    if_room = room_inside (code.If x first second) c if_nested

    block_of : (after_else : Bool) → block_at items (frame_with after_else) ≡ block_in (ItemCode-F.If x first second) after_else
    block_of after_else = ap (λ item. option_and_then (λ c. block_in (out-ItemCode c) after_else) item) c ∙ ap (λ c. block_in c after_else) (out_if x first second)

    same_state : HasState w r p.state → (after_else : Bool) → HasState w (after_opening after_else) p.state
    same_state h after_else = record { scalars = h.scalars; prints = h.prints; turns = h.turns; each_scalar = h.each_scalar; each_print = h.each_print; printed = h.printed }

    if_descends : Descends (next_scalar after_if) (known_scalars p.state)
    if_descends = scalars_after_item here_now.site whole_if (known_scalars p.state) here_now.descends

    pub first_step : main_truth r.scalars x ≡ Ok true → HasEvent w (ScopeOpened first.scope) AreSame level outside items p remaining (after_opening false)
    first_step e = record {
      later = p;
      rest = opened;
      is = is;
      path = refl;
      fields = refl;
      stands = opened_block (after_opening false) false false first p (block_start here_now.site) after_if i.first_tree i.rest refl refl if_room (block_of false) refl i.first_code i.code
          (block_descends here_now.site (known_scalars p.state) here_now.descends) if_descends (same_state s.has_state false) (still_means (logged (ScopeOpened first.scope) p) opened is);
    } where
      opened : Computation Progress Done
      opened = block_and_rest w p.state first.scope first_block after_if i.rest

      is : remaining p ≡ block_and_rest w p.state first.scope first_block after_if i.rest (logged (ScopeOpened first.scope) p)
      is = if_value.value true e ∙ ap (λ scope. block_and_rest w p.state scope first_block after_if i.rest (logged (ScopeOpened scope) p)) (sym i.scope)

    pub second_step : (block : BlockCode) → second ≡ Some block → main_truth r.scalars x ≡ Ok false → HasEvent w (ScopeOpened block.scope) AreSame level outside items p remaining (after_opening true)
    second_step block there e = record {
      later = p;
      rest = opened;
      is = is;
      path = refl;
      fields = refl;
      stands = opened_block (after_opening true) true false block p (block_start after_first) after_if i.second_tree i.rest refl refl if_room
          (block_of true ∙ ap (λ second. block_in (ItemCode-F.If x first second) true) there) refl else_here.2 i.code
          (block_descends after_first (known_scalars p.state) first_descends) if_descends (same_state s.has_state true) (still_means (logged (ScopeOpened block.scope) p) opened is);
    } where
      else_here : ElseHere w.parts after_first i.second_tree i.has_else (Some block)
      else_here = subst (ElseHere w.parts after_first i.second_tree i.has_else) there i.second_code

      first_descends : Descends (next_scalar after_first) (known_scalars p.state)
      first_descends = descends_below (next_scalar here_now.site) (next_scalar after_first) (known_scalars p.state)
          (more_of scalar_part here_now.site.parts after_first.parts (prefix_of_prefix (next_part here_now.site.parts _) (main_is_prefix (block_start here_now.site) i.first_tree))) here_now.descends

      opened : Computation Progress Done
      opened = block_and_rest w p.state block.scope second_block after_if i.rest

      is : remaining p ≡ block_and_rest w p.state block.scope second_block after_if i.rest (logged (ScopeOpened block.scope) p)
      is = if_value.value false e ∙ ap (λ b. (if_then_else b (in_scope (next_scope after_first) second_block) skip >> if_rest) p) else_here.0
          ∙ ap (λ scope. block_and_rest w p.state scope second_block after_if i.rest (logged (ScopeOpened scope) p)) (sym else_here.1)

    pub neither_step : second ≡ None → main_truth r.scalars x ≡ Ok false → Continues w level outside items p remaining r after_move
    neither_step there e = record {
      later = p;
      rest = if_rest;
      is = is;
      path = refl;
      fields = refl;
      stands = moved after_move refl refl p after_if i.rest here_now.new i.code here_now.known_is if_descends
          (record { scalars = s.has_state.scalars; prints = s.has_state.prints; turns = s.has_state.turns; each_scalar = s.has_state.each_scalar; each_print = s.has_state.each_print; printed = s.has_state.printed })
          (still_means p if_rest is);
      depth = refl;
    } where
      none_here : ElseHere w.parts after_first i.second_tree i.has_else None
      none_here = subst (ElseHere w.parts after_first i.second_tree i.has_else) there i.second_code

      is : remaining p ≡ if_rest p
      is = if_value.value false e ∙ ap (λ b. (if_then_else b (in_scope (next_scope after_first) second_block) skip >> if_rest) p) none_here

  -- A WHILE
  module _ (place : Place) (x : TruthCode) (body : BlockCode) (c : slice_get items frame.index ≡ Some (code.While place x body)) where
    pub l : WhileHere w.parts here_now.site here_now.program (drop (suc frame.index) items) place x body
    l = while_here place x body (code_here here_now frame (code.While place x body) at c) refl

    abbrev whole_while : MainItem
    whole_while = MainWhile place l.test l.tree

    abbrev again : Computation Progress Done
    again = item_meaning w.mesh w.turns here_now.site whole_while

    abbrev while_block : Computation Progress Done
    while_block = main_meaning w.mesh w.turns (block_start here_now.site) l.tree

    abbrev in_body : Computation Progress Done
    in_body = in_scope (next_scope here_now.site) while_block

    abbrev turn : ℕ → Computation Progress Done
    turn turns = take_turn program_turns (in_program (trap Spent place)) in_body turns

    abbrev while_next : Bool → Computation Progress Done
    while_next b = if_then_else b ((λ p. turn p.state.turns p) >> again) skip

    abbrev while_rest : Computation Progress Done
    while_rest = main_meaning w.mesh w.turns (after_item here_now.site whole_while) l.rest

    unfolded : again p ≡ (truth_at w.mesh here_now.site l.test >>= while_next) p
    unfolded =
        loop_is program_turns (λ n p. refl) (in_program (trap Spent place)) in_body (truth_at w.mesh here_now.site l.test) (λ again p. refl)
        (scope_keeps fewer_kept (next_scope here_now.site) (main_keeps fewer_kept w.mesh w.turns (block_start here_now.site) l.tree)) (truth_keeps fewer_kept w.mesh here_now.site l.test) p

    pub while_value : IsEvaluated (main_truth r.scalars x) (λ b. while_next b >> while_rest) remaining p
    while_value = truth_first w r.scalars p here_now.site l.test x while_next while_rest remaining
        (ap (λ remaining. remaining p) (here_now.is ∙ ap (main_meaning w.mesh w.turns here_now.site) l.is) ∙ ap (λ outcome. continue_with (λ done. while_rest) outcome.after outcome.answer) unfolded)
        l.value s.has_state.scalars s.has_meaning

    while_nested : 0 < nested (code.While place x body)
    while_nested = let e = nested_while place x body in omega (arith, e)

    pub while_room : suc level < length r.frames
    while_room = room_inside (code.While place x body) c while_nested

    body_at : block_at items (frame_with false) ≡ Some (record { block = body; is_repeated = true })
    body_at = ap (λ item. option_and_then (λ c. block_in (out-ItemCode c) false) item) c ∙ ap (λ c. block_in c false) (out_while place x body)

    pub ended_step : main_truth r.scalars x ≡ Ok false → Continues w level outside items p remaining r after_move
    ended_step e = record {
      later = p;
      rest = while_rest;
      is = while_value.value false e;
      path = refl;
      fields = refl;
      stands = moved after_move refl refl p (after_item here_now.site whole_while) l.rest here_now.new l.code here_now.known_is
          (scalars_after_item here_now.site whole_while (known_scalars p.state) here_now.descends)
          (record { scalars = s.has_state.scalars; prints = s.has_state.prints; turns = s.has_state.turns; each_scalar = s.has_state.each_scalar; each_print = s.has_state.each_print; printed = s.has_state.printed })
          (still_means p while_rest (while_value.value false e));
      depth = refl;
    }

    abbrev taken : ℕ → Progress
    taken turns = record p { state = record p.state { turns = turns } }

    turned : (turns : ℕ) → r.turns ≡ turns → main_truth r.scalars x ≡ Ok true → remaining p ≡ (((λ p. turn turns p) >> again) >> while_rest) p
    turned turns is e = while_value.value true e ∙ ap (λ turns. continue_with (λ done. while_rest) (continue_with (λ done. again) (turn turns p).after (turn turns p).answer).after (continue_with (λ done. again) (turn turns p).after (turn turns p).answer).answer) (s.has_state.turns ∙ is)

    pub spent_trap : main_truth r.scalars x ≡ Ok true → r.turns ≡ 0 → remaining p ≡ halt (Trapped (main_trap Spent place)) p
    spent_trap e none = turned 0 none e

    pub turn_step : (turns : ℕ) → r.turns ≡ suc turns → main_truth r.scalars x ≡ Ok true
        → HasEvent w (ScopeOpened body.scope) AreSame level outside items p remaining (record (after_opening false) { turns = turns })
    turn_step turns some e = record {
      later = taken turns;
      rest = opened;
      is = is;
      path = refl;
      fields = refl;
      stands = opened_block (record (after_opening false) { turns = turns }) false true body (taken turns) (block_start here_now.site) here_now.site l.tree here_now.program refl refl while_room body_at refl l.body_code
          (subst (λ frame. IsCode w.parts here_now.site here_now.program (drop frame.index items)) same_frame here_now.code)
          (block_descends here_now.site (known_scalars p.state) here_now.descends) here_now.descends
          (record { scalars = record { holds = s.has_state.scalars.holds }; prints = s.has_state.prints; turns = refl; each_scalar = s.has_state.each_scalar; each_print = s.has_state.each_print; printed = s.has_state.printed })
          (still_means (logged (ScopeOpened body.scope) (taken turns)) opened is);
    } where
      same_frame : here_now.frame ≡ frame
      same_frame = cc (here_now.at, at)

      opened : Computation Progress Done
      opened = block_and_rest w (taken turns).state body.scope while_block here_now.site here_now.program

      is : remaining p ≡ block_and_rest w (taken turns).state body.scope while_block here_now.site here_now.program (logged (ScopeOpened body.scope) (taken turns))
      is = turned (suc turns) some e ∙ regrouped in_body again while_rest (taken turns)
          ∙ ap (λ scope. block_and_rest w (taken turns).state scope while_block here_now.site (item whole_while l.rest) (logged (ScopeOpened scope) (taken turns))) (sym l.scope)
          ∙ ap (λ program. block_and_rest w (taken turns).state body.scope while_block here_now.site program (logged (ScopeOpened body.scope) (taken turns))) (sym l.is)

-- WHAT IS DONE, from each place at which the run may stand
pub traps_there : (r : MainRun) (level : ℕ) (items : List ItemCode) (next : Frame) (t : Trap)
    → ((w : World) (outside : List ℕ) (p : Progress) (remaining : Computation Progress Done) → StandsAt w r level outside items p remaining → remaining p ≡ halt (Trapped t) p)
    → HasDone level items next (Err t) r r
traps_there r level items next t h = record {
  done = λ w outside p remaining s. record { later = p; is = h w outside p remaining s; path = refl; has_state = s.has_state };
  keeps = record { frames = λ j l. refl; count = refl; scalars = refl; prints = refl };
  fewer = λ worth l. tt;
  at_next = λ e. absurd cc;
}

module _ (r : MainRun) (level : ℕ) (items : List ItemCode) (next : Frame) where
  abbrev frames_after : List Frame
  frames_after = slice_set r.frames level next

  -- the items from the next one on, and those of an item that is done
  moved_on : (worth : ℕ) (c : ItemCode) (after : MainRun) → CanDo r level items next c → after.frames ≡ frames_after → after.depth ≡ r.depth → after.turns ≡ r.turns
      → events_at worth level items after + event_count c ≡ events_at worth level items r
  moved_on worth c after d = events_moved worth level items next c r after d (slice_get_within r.frames level d.frame d.at)

  pub field_means : (field : ℕ) (x : NumberCode) → CanDo r level items next (code.Field field x) → main_number r.scalars x ≢ Err NoMeaning
  field_means field x d = (field_value d.can.w r level d.can.outside items d.can.p d.can.remaining d.can.stands d.innermost d.frame d.at next d.next_is field x d.item).has_meaning

  pub field_traps : (field : ℕ) (x : NumberCode) → CanDo r level items next (code.Field field x) → (t : Trap) → main_number r.scalars x ≡ Err (Trapped t) → HasDone level items next (Err t) r r
  field_traps field x d t e = traps_there r level items next t (λ w outside p remaining s. (field_value w r level outside items p remaining s d.innermost d.frame d.at next d.next_is field x d.item).trap t e)

  pub field_done : (field : ℕ) (x : NumberCode) → CanDo r level items next (code.Field field x) → (n : ℤ) → main_number r.scalars x ≡ Ok n
      → HasDone level items next (Ok (Some (Declare field n))) r (record r { frames = frames_after })
  field_done field x d n e = record {
    done = λ w outside p remaining s. field_step w r level outside items p remaining s d.innermost d.frame d.at next d.next_is field x d.item n e;
    keeps = keeps_shape level r (record r { frames = frames_after }) next refl refl refl;
    fewer = λ worth l. omega (arith, moved_on worth (code.Field field x) (record r { frames = frames_after }) d refl refl refl, count_field field x);
    at_next = λ e. absurd cc;
  }

  pub scalar_means : (scalar : ℕ) (x : NumberCode) → CanDo r level items next (code.Var scalar x) → main_number r.scalars x ≢ Err NoMeaning
  scalar_means scalar x d = (scalar_value_first d.can.w r level d.can.outside items d.can.p d.can.remaining d.can.stands d.innermost d.frame d.at next d.next_is scalar x d.item).has_meaning

  pub scalar_is_below : (scalar : ℕ) (x : NumberCode) → CanDo r level items next (code.Var scalar x) → scalar < length r.scalars
  scalar_is_below scalar x d = scalar_below d.can.w r level d.can.outside items d.can.p d.can.remaining d.can.stands d.innermost d.frame d.at next d.next_is scalar x d.item

  pub scalar_traps : (scalar : ℕ) (x : NumberCode) → CanDo r level items next (code.Var scalar x) → (t : Trap) → main_number r.scalars x ≡ Err (Trapped t) → HasDone level items next (Err t) r r
  scalar_traps scalar x d t e = traps_there r level items next t (λ w outside p remaining s. (scalar_value_first w r level outside items p remaining s d.innermost d.frame d.at next d.next_is scalar x d.item).trap t e)

  pub scalar_done : (scalar : ℕ) (x : NumberCode) → CanDo r level items next (code.Var scalar x) → (n : ℤ) → main_number r.scalars x ≡ Ok n
      → HasDone level items next (Ok None) r (record r { scalars = slice_set r.scalars scalar n; frames = frames_after })
  scalar_done scalar x d n e = record {
    done = λ w outside p remaining s. scalar_step w r level outside items p remaining s d.innermost d.frame d.at next d.next_is scalar x d.item n e;
    keeps = keeps_shape level r (record r { scalars = slice_set r.scalars scalar n; frames = frames_after }) next refl (length_set r.scalars scalar n) refl;
    fewer = λ worth l. omega (arith, moved_on worth (code.Var scalar x) (record r { scalars = slice_set r.scalars scalar n; frames = frames_after }) d refl refl refl);
    at_next = λ e. set_here r.frames level next (slice_get_within r.frames level d.frame d.at);
  }

  pub assign_means : (scalar : ℕ) (how : How) (x : NumberCode) → CanDo r level items next (code.Assign scalar how x) → main_number r.scalars x ≢ Err NoMeaning
  assign_means scalar how x d = (assign_value d.can.w r level d.can.outside items d.can.p d.can.remaining d.can.stands d.innermost d.frame d.at next d.next_is scalar how x d.item).has_meaning

  pub assign_traps : (scalar : ℕ) (how : How) (x : NumberCode) → CanDo r level items next (code.Assign scalar how x) → (t : Trap) → main_number r.scalars x ≡ Err (Trapped t) → HasDone level items next (Err t) r r
  assign_traps scalar how x d t e = traps_there r level items next t (λ w outside p remaining s. (assign_value w r level outside items p remaining s d.innermost d.frame d.at next d.next_is scalar how x d.item).trap t e)

  pub assign_is_below : (scalar : ℕ) (how : How) (x : NumberCode) → CanDo r level items next (code.Assign scalar how x) → (n : ℤ) → main_number r.scalars x ≡ Ok n → scalar < length r.scalars
  assign_is_below scalar how x d n e = assign_below d.can.w r level d.can.outside items d.can.p d.can.remaining d.can.stands d.innermost d.frame d.at next d.next_is scalar how x d.item n e

  pub assign_done : (scalar : ℕ) (how : How) (x : NumberCode) → CanDo r level items next (code.Assign scalar how x) → (n : ℤ) → main_number r.scalars x ≡ Ok n
      → HasDone level items next (Ok None) r (record r { scalars = slice_set r.scalars scalar (assigned_value how (get_or r.scalars scalar (pos 0)) n); frames = frames_after })
  assign_done scalar how x d n e = record {
    done = λ w outside p remaining s. assign_step w r level outside items p remaining s d.innermost d.frame d.at next d.next_is scalar how x d.item n e;
    keeps = keeps_shape level r (record r { scalars = slice_set r.scalars scalar (assigned_value how (get_or r.scalars scalar (pos 0)) n); frames = frames_after }) next refl
        (length_set r.scalars scalar (assigned_value how (get_or r.scalars scalar (pos 0)) n)) refl;
    fewer = λ worth l. omega (arith, moved_on worth (code.Assign scalar how x) (record r { scalars = slice_set r.scalars scalar (assigned_value how (get_or r.scalars scalar (pos 0)) n); frames = frames_after }) d refl refl refl);
    at_next = λ e. set_here r.frames level next (slice_get_within r.frames level d.frame d.at);
  }

  pub print_means : (place : Place) (x : NumberCode) → CanDo r level items next (code.Print place x) → main_number r.scalars x ≢ Err NoMeaning
  print_means place x d = (print_value d.can.w r level d.can.outside items d.can.p d.can.remaining d.can.stands d.innermost d.frame d.at next d.next_is place x d.item).has_meaning

  pub print_traps : (place : Place) (x : NumberCode) → CanDo r level items next (code.Print place x) → (t : Trap) → main_number r.scalars x ≡ Err (Trapped t) → HasDone level items next (Err t) r r
  print_traps place x d t e = traps_there r level items next t (λ w outside p remaining s. (print_value w r level outside items p remaining s d.innermost d.frame d.at next d.next_is place x d.item).trap t e)

  pub prints_end : (place : Place) (x : NumberCode) → CanDo r level items next (code.Print place x) → (n : ℤ) → main_number r.scalars x ≡ Ok n → print_limit ≤ r.printed
      → HasDone level items next (Err (main_trap Prints place)) r r
  prints_end place x d n e l = traps_there r level items next (main_trap Prints place)
      (λ w outside p remaining s. print_trap w r level outside items p remaining s d.innermost d.frame d.at next d.next_is place x d.item n e l)

  pub print_done : (place : Place) (x : NumberCode) → CanDo r level items next (code.Print place x) → (n : ℤ) → main_number r.scalars x ≡ Ok n → r.printed < print_limit
      → HasDone level items next (Ok None) r (record r { prints = slice_set r.prints r.printed n; printed = suc r.printed; frames = frames_after })
  print_done place x d n e l = record {
    done = λ w outside p remaining s. print_step w r level outside items p remaining s d.innermost d.frame d.at next d.next_is place x d.item n e l;
    keeps = keeps_shape level r (record r { prints = slice_set r.prints r.printed n; printed = suc r.printed; frames = frames_after }) next refl refl (length_set r.prints r.printed n);
    fewer = λ worth l. omega (arith, moved_on worth (code.Print place x) (record r { prints = slice_set r.prints r.printed n; printed = suc r.printed; frames = frames_after }) d refl refl refl);
    at_next = λ e. set_here r.frames level next (slice_get_within r.frames level d.frame d.at);
  }

  pub reach_done : (k : ℕ) → CanDo r level items next (code.For k) → HasDone level items next (Ok (Some (Comp k))) r (record r { frames = frames_after })
  reach_done k d = record {
    done = λ w outside p remaining s. reach_step w r level outside items p remaining s d.innermost d.frame d.at next d.next_is k d.item;
    keeps = keeps_shape level r (record r { frames = frames_after }) next refl refl refl;
    fewer = λ worth l. omega (arith, moved_on worth (code.For k) (record r { frames = frames_after }) d refl refl refl, count_for k);
    at_next = λ e. absurd cc;
  }

  -- a block that is opened
  abbrev frames_opened : Frame → Bool → List Frame
  frames_opened frame after_else = slice_set (slice_set r.frames level (record { index = frame.index; after_else = after_else })) (suc level) (record { index = 0; after_else = false })

  pub keeps_opened : (after : MainRun) (frame : Frame) (after_else : Bool) → after.frames ≡ frames_opened frame after_else → length after.scalars ≡ length r.scalars → length after.prints ≡ length r.prints
      → KeepsShape level r after
  keeps_opened after frame after_else is scalars prints = record {
    frames = λ j l. ap (λ frames. slice_get frames j) is
        ∙ set_there (slice_set r.frames level (record { index = frame.index; after_else = after_else })) (suc level) j (record { index = 0; after_else = false }) (λ same. absurd (omega (arith, same, l)))
        ∙ set_there r.frames level j (record { index = frame.index; after_else = after_else }) (λ same. absurd (omega (arith, same, l)));
    count = ap (λ frames. length frames) is
        ∙ length_set (slice_set r.frames level (record { index = frame.index; after_else = after_else })) (suc level) (record { index = 0; after_else = false })
        ∙ length_set r.frames level (record { index = frame.index; after_else = after_else });
    scalars = scalars;
    prints = prints;
  }

  module _ (x : TruthCode) (first : BlockCode) (second : Option BlockCode) (d : CanDo r level items next (code.If x first second)) where
    pub if_means : main_truth r.scalars x ≢ Err NoMeaning
    if_means = (if_value d.can.w r level d.can.outside items d.can.p d.can.remaining d.can.stands d.innermost d.frame d.at next d.next_is x first second d.item).has_meaning

    pub if_has_room : suc level < length r.frames
    if_has_room = if_room d.can.w r level d.can.outside items d.can.p d.can.remaining d.can.stands d.innermost d.frame d.at next d.next_is x first second d.item

    pub if_traps : (t : Trap) → main_truth r.scalars x ≡ Err (Trapped t) → HasDone level items next (Err t) r r
    if_traps t e = traps_there r level items next t (λ w outside p remaining s. (if_value w r level outside items p remaining s d.innermost d.frame d.at next d.next_is x first second d.item).trap t e)

    if_outer : (after_else : Bool) → slice_get (frames_opened d.frame after_else) level ≡ Some (record { index = d.frame.index; after_else = after_else })
    if_outer after_else = outer_frame d.can.w r level d.can.outside items d.can.p d.can.remaining d.can.stands d.innermost d.frame d.at next d.next_is after_else

    if_inner : (after_else : Bool) → slice_get (frames_opened d.frame after_else) (suc level) ≡ Some (record { index = 0; after_else = false })
    if_inner after_else = inner_frame d.can.w r level d.can.outside items d.can.p d.can.remaining d.can.stands d.innermost d.frame d.at next d.next_is after_else if_has_room

    if_block : (after_else : Bool) → block_at items (record { index = d.frame.index; after_else = after_else }) ≡ block_in (ItemCode-F.If x first second) after_else
    if_block after_else = block_of d.can.w r level d.can.outside items d.can.p d.can.remaining d.can.stands d.innermost d.frame d.at next d.next_is x first second d.item after_else

    if_before : (worth : ℕ) → events_at worth level items r ≡ r.turns * worth + (event_count (code.If x first second) + events_in (drop (suc d.frame.index) items))
    if_before worth = events_here worth level items r d.frame d.at d.innermost ∙ ap (λ n. r.turns * worth + n) (events_from items d.frame.index (code.If x first second) d.item)

    pub first_done : main_truth r.scalars x ≡ Ok true
        → HasDone level items next (Ok (Some (Enter first.scope))) r (record r { frames = frames_opened d.frame false; depth = suc (suc level) })
    first_done e = record {
      done = λ w outside p remaining s. first_step w r level outside items p remaining s d.innermost d.frame d.at next d.next_is x first second d.item e;
      keeps = keeps_opened (record r { frames = frames_opened d.frame false; depth = suc (suc level) }) d.frame false refl refl refl;
      fewer = λ worth l.
          let a = events_opened worth level items (record r { frames = frames_opened d.frame false; depth = suc (suc level) }) (record { index = d.frame.index; after_else = false }) (record { index = 0; after_else = false })
          (record { block = first; is_repeated = false }) (if_outer false) (if_inner false) refl refl (if_block false) in
          omega (arith, a, if_before worth, count_first x first second);
      at_next = λ e. absurd cc;
    }

    pub second_done : (block : BlockCode) → second ≡ Some block → main_truth r.scalars x ≡ Ok false
        → HasDone level items next (Ok (Some (Enter block.scope))) r (record r { frames = frames_opened d.frame true; depth = suc (suc level) })
    second_done block there e = record {
      done = λ w outside p remaining s. second_step w r level outside items p remaining s d.innermost d.frame d.at next d.next_is x first second d.item block there e;
      keeps = keeps_opened (record r { frames = frames_opened d.frame true; depth = suc (suc level) }) d.frame true refl refl refl;
      fewer = λ worth l.
          let a = events_opened worth level items (record r { frames = frames_opened d.frame true; depth = suc (suc level) }) (record { index = d.frame.index; after_else = true }) (record { index = 0; after_else = false })
          (record { block = block; is_repeated = false }) (if_outer true) (if_inner true) refl refl (if_block true ∙ ap (λ second. block_in (ItemCode-F.If x first second) true) there) in
          let b : 2 + events_in block.items ≤ event_count (code.If x first second) = subst (λ second. 2 + events_in block.items ≤ event_count (code.If x first second)) (sym there) (count_second x first block) in
          omega (arith, a, if_before worth, b);
      at_next = λ e. absurd cc;
    }

    pub neither_done : second ≡ None → main_truth r.scalars x ≡ Ok false → HasDone level items next (Ok None) r (record r { frames = frames_after })
    neither_done there e = record {
      done = λ w outside p remaining s. neither_step w r level outside items p remaining s d.innermost d.frame d.at next d.next_is x first second d.item there e;
      keeps = keeps_shape level r (record r { frames = frames_after }) next refl refl refl;
      fewer = λ worth l. omega (arith, moved_on worth (code.If x first second) (record r { frames = frames_after }) d refl refl refl);
      at_next = λ e. set_here r.frames level next (slice_get_within r.frames level d.frame d.at);
    }

  module _ (place : Place) (x : TruthCode) (body : BlockCode) (d : CanDo r level items next (code.While place x body)) where
    pub while_means : main_truth r.scalars x ≢ Err NoMeaning
    while_means = (while_value d.can.w r level d.can.outside items d.can.p d.can.remaining d.can.stands d.innermost d.frame d.at next d.next_is place x body d.item).has_meaning

    pub while_has_room : suc level < length r.frames
    while_has_room = while_room d.can.w r level d.can.outside items d.can.p d.can.remaining d.can.stands d.innermost d.frame d.at next d.next_is place x body d.item

    pub while_traps : (t : Trap) → main_truth r.scalars x ≡ Err (Trapped t) → HasDone level items next (Err t) r r
    while_traps t e = traps_there r level items next t (λ w outside p remaining s. (while_value w r level outside items p remaining s d.innermost d.frame d.at next d.next_is place x body d.item).trap t e)

    while_outer : slice_get (frames_opened d.frame false) level ≡ Some (record { index = d.frame.index; after_else = false })
    while_outer = outer_frame d.can.w r level d.can.outside items d.can.p d.can.remaining d.can.stands d.innermost d.frame d.at next d.next_is false

    while_inner : slice_get (frames_opened d.frame false) (suc level) ≡ Some (record { index = 0; after_else = false })
    while_inner = inner_frame d.can.w r level d.can.outside items d.can.p d.can.remaining d.can.stands d.innermost d.frame d.at next d.next_is false while_has_room

    while_block_at : block_at items (record { index = d.frame.index; after_else = false }) ≡ Some (record { block = body; is_repeated = true })
    while_block_at = body_at d.can.w r level d.can.outside items d.can.p d.can.remaining d.can.stands d.innermost d.frame d.at next d.next_is place x body d.item

    pub ended_done : main_truth r.scalars x ≡ Ok false → HasDone level items next (Ok None) r (record r { frames = frames_after })
    ended_done e = record {
      done = λ w outside p remaining s. ended_step w r level outside items p remaining s d.innermost d.frame d.at next d.next_is place x body d.item e;
      keeps = keeps_shape level r (record r { frames = frames_after }) next refl refl refl;
      fewer = λ worth l. omega (arith, moved_on worth (code.While place x body) (record r { frames = frames_after }) d refl refl refl);
      at_next = λ e. set_here r.frames level next (slice_get_within r.frames level d.frame d.at);
    }

    pub spent_done : main_truth r.scalars x ≡ Ok true → r.turns ≡ 0 → HasDone level items next (Err (main_trap Spent place)) r r
    spent_done e none = traps_there r level items next (main_trap Spent place)
        (λ w outside p remaining s. spent_trap w r level outside items p remaining s d.innermost d.frame d.at next d.next_is place x body d.item e none)

    pub turn_done : (turns : ℕ) → r.turns ≡ suc turns → main_truth r.scalars x ≡ Ok true
        → HasDone level items next (Ok (Some (Enter body.scope))) r (record r { turns = turns; frames = frames_opened d.frame false; depth = suc (suc level) })
    turn_done turns some e = record {
      done = λ w outside p remaining s. turn_step w r level outside items p remaining s d.innermost d.frame d.at next d.next_is place x body d.item turns some e;
      keeps = keeps_opened (record r { turns = turns; frames = frames_opened d.frame false; depth = suc (suc level) }) d.frame false refl refl refl;
      fewer = λ worth l.
          let a = events_opened worth level items (record r { turns = turns; frames = frames_opened d.frame false; depth = suc (suc level) }) (record { index = d.frame.index; after_else = false }) (record { index = 0; after_else = false })
          (record { block = body; is_repeated = true }) while_outer while_inner refl refl while_block_at in
          let b : events_at worth level items r ≡ r.turns * worth + events_in (drop d.frame.index items) = events_here worth level items r d.frame d.at d.innermost in
          let c : event_count (code.While place x body) ≤ events_in items = events_of_item items d.frame.index (code.While place x body) d.item in
          omega (arith, l, a, b, c, count_while place x body, turn_taken r.turns turns worth some);
      at_next = λ e. absurd cc;
    }
