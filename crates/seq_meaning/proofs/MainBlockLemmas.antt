-- A run of the main program goes through blocks.
use Rattle.std.proofs.Common.{◌≡◌, ◌<◌, ◌≤◌, ℕ, suc, List, [], length, drop, refl, ap, subst, ◌∙◌}
use Rattle.std.proofs.lemmas.Option.{slice_get_within, slice_get_past}
use Rattle.std.specs.Prelude.{Option, Some, None, slice_get, Result, Ok, Err}
use Rattle.liszt_base.specs.declared.answers.RunEnd.TheVariants.{Trap as EndTrap, Done as EndDone}
use Rattle.liszt_base.specs.declared.answers.Trap.{Trap}
use Rattle.liszt_tree.specs.Tree.{Main}
use Rattle.resolved_code.specs.declared.items.ItemCode.{ItemCode}
use Rattle.phase_types.specs.Environments.{Site}
use Rattle.kernel_eval.specs.Outcomes.{Computation, Done, pure}
use Rattle.kernel_eval.specs.States.{Fields, known_scalars}
use Rattle.seq_meaning.specs.MainCode.{IsCode, NoCode}
use Rattle.seq_meaning.specs.MainRuns.{Frame, MainRun, World, Stands, AtItem, InBlock, StandsAt, KeepsShape, HasEvent, Ends, Continues, HasAdvanced, HasDoneItem, AreSame, AreFewer, HaveOneMore, CanAdvance, CanDo, next_frame}
use Rattle.seq_meaning.specs.Runs.{Event, ScopeOpened, ScopeClosed, FieldDeclared, Progress, main_meaning}
use Rattle.seq_meaning.specs.declared.main_run.MainStep.{MainStep}
use Rattle.seq_meaning.specs.declared.main_run.MainStep.TheVariants.{Enter, Leave, Declare, Comp, Over}
use Rattle.seq_meaning.proofs.MainHereLemmas.{Here, here}
use Rattle.seq_meaning.proofs.MainStepLemmas.{drop_past}

pub level_in : {w : World} {frames : List Frame} {depth level : ℕ} {outside known : List ℕ} {items : List ItemCode} {remaining : Computation Progress Done}
    → Stands w frames depth level outside items known remaining → level < length frames
level_in {frames = frames} {level = level} (AtItem frame site rest new at is code known_is descends) = slice_get_within frames level frame at
level_in {frames = frames} {level = level} (InBlock frame inner site rest before new at is stands known_is descends code) = slice_get_within frames level frame at

pub level_within : {r : MainRun} {level : ℕ} {items : List ItemCode} → CanAdvance r level items → level < length r.frames
level_within can = level_in can.stands.stands

pub can_do : {r : MainRun} {level : ℕ} {items : List ItemCode} (can : CanAdvance r level items) → suc level ≡ r.depth → (frame next : Frame) (c : ItemCode) → slice_get r.frames level ≡ Some frame
    → next ≡ next_frame frame → slice_get items frame.index ≡ Some c → CanDo r level items next c
can_do can innermost frame next c at next_is is = record { can = can; innermost = innermost; frame = frame; at = at; next_is = next_is; item = is }

-- ONE AFTER ANOTHER
pub keeps_itself : (level : ℕ) (r : MainRun) → KeepsShape level r r
keeps_itself level r = record { frames = λ j l. refl; count = refl; scalars = refl; prints = refl }

pub keeps_then : {level : ℕ} {r mid after : MainRun} → KeepsShape level r mid → KeepsShape level mid after → KeepsShape level r after
keeps_then h g = record { frames = λ j l. g.frames j l ∙ h.frames j l; count = g.count ∙ h.count; scalars = g.scalars ∙ h.scalars; prints = g.prints ∙ h.prints }

pub continues_itself : {w : World} {r : MainRun} {level : ℕ} {outside : List ℕ} {items : List ItemCode} {p : Progress} {remaining : Computation Progress Done}
    → StandsAt w r level outside items p remaining → Continues w level outside items p remaining r r
continues_itself {p = p} {remaining = remaining} s = record { later = p; rest = remaining; is = refl; path = refl; fields = refl; stands = s; depth = refl }

pub continues_then : {w : World} {r mid after : MainRun} {level : ℕ} {outside : List ℕ} {items : List ItemCode} {p : Progress} {remaining : Computation Progress Done}
    (h : Continues w level outside items p remaining r mid) → Continues w level outside items h.later h.rest mid after → Continues w level outside items p remaining r after
continues_then h g = record { later = g.later; rest = g.rest; is = h.is ∙ g.is; path = g.path ∙ h.path; fields = g.fields ∙ h.fields; stands = g.stands; depth = g.depth ∙ h.depth }

module _ {w : World} {r mid : MainRun} {level : ℕ} {outside : List ℕ} {items : List ItemCode} {p : Progress} {remaining : Computation Progress Done}
    (h : Continues w level outside items p remaining r mid) (after : MainRun) where
  event_then : (event : Event) (Changes : Fields → Fields → Type 0) → HasEvent w event Changes level outside items h.later h.rest after → HasEvent w event Changes level outside items p remaining after
  event_then event Changes g = record { later = g.later; rest = g.rest; is = h.is ∙ g.is; path = g.path ∙ h.path; fields = subst (λ fields. Changes fields g.later.state.fields) h.fields g.fields; stands = g.stands }

  pub advances_then : (result : Option MainStep) → HasAdvanced w level outside items h.later h.rest result after → HasAdvanced w level outside items p remaining result after
  advances_then None g = record { later = g.later; is = h.is ∙ g.is; path = g.path ∙ h.path; fields = g.fields ∙ h.fields; has_state = g.has_state; new = g.new; known = g.known; bound = g.bound; descends = g.descends }
  advances_then (Some (Enter scope)) g = event_then (ScopeOpened scope) AreSame g
  advances_then (Some (Leave scope)) g = event_then (ScopeClosed scope) AreFewer g
  advances_then (Some (Declare field value)) g = event_then (FieldDeclared field value) (HaveOneMore w field value) g
  advances_then (Some (Comp k)) g = record { later = g.later; rest = g.rest; c = g.c; found = g.found; is = h.is ∙ g.is; path = g.path ∙ h.path; fields = g.fields ∙ h.fields; stands = g.stands; has_state = g.has_state; room = g.room }
  advances_then (Some (Over (EndTrap trap))) g = record { later = g.later; is = h.is ∙ g.is; path = g.path ∙ h.path; has_state = g.has_state }
  advances_then (Some (Over EndDone)) g = g

  pub item_then : (result : Result (Option MainStep) Trap) → HasDoneItem w level outside items h.later h.rest result mid after → result ≡ Ok None → Continues w level outside items p remaining r after
  item_then (Ok None) g e = continues_then h g
  item_then (Ok (Some step)) g e = absurd cc
  item_then (Err trap) g e = absurd cc

-- THE END of the innermost block
pub end_here : {w : World} {r : MainRun} {level : ℕ} {outside : List ℕ} {items : List ItemCode} {p : Progress} {remaining : Computation Progress Done} → StandsAt w r level outside items p remaining
    → suc level ≡ r.depth → (frame : Frame) → slice_get r.frames level ≡ Some frame → length items ≤ frame.index → Ends w outside p remaining r
end_here {w = w} {r = r} {level = level} {outside = outside} {items = items} {p = p} {remaining = remaining} s innermost frame at past = go (here s.stands innermost) where
  nothing : {site : Site} (program : Main) → IsCode w.parts site program [] → main_meaning w.mesh w.turns site program p ≡ pure (tt {0}) p
  nothing _ (NoCode site) = refl

  go : Here w r.frames r.depth level outside items (known_scalars p.state) remaining → Ends w outside p remaining r
  go h =
      let same : h.frame ≡ frame = cc (h.at, at) in
      let none : drop h.frame.index items ≡ [] = ap (λ frame. drop frame.index items) same ∙ drop_past items frame.index (slice_get_past items frame.index past) in
      record {
        later = p;
        is = ap (λ remaining. remaining p) h.is ∙ nothing h.program (subst (IsCode w.parts h.site h.program) none h.code);
        path = refl;
        fields = refl;
        has_state = s.has_state;
        new = h.new;
        known = h.known_is;
        bound = _;
        descends = h.descends;
      }
