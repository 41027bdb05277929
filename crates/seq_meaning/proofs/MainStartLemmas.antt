-- A run of the main program stands at its start.
use Rattle.std.proofs.Common.{◌≡◌, ◌≢◌, ◌<◌, ℕ, ◌+◌, ◌*◌, true, false, List, [], length, take, refl, sym, ap, subst, ◌∙◌, inl, inr, arith}
use Rattle.std.specs.List.{slice_set}
use Rattle.std.specs.Prelude.{is_some, Result, Ok, Err}
use Rattle.liszt_base.specs.Corners.{IsMesh}
use Rattle.liszt_base.specs.MeshLists.{MeshLists}
use Rattle.liszt_tree.specs.Tree.{Main}
use Rattle.mesh_topology.specs.Elements.{corner_lists}
use Rattle.resolved_code.specs.declared.items.ItemCode.{ItemCode}
use Rattle.phase_types.specs.declared.state.CheckedProgram.{CheckedProgram}
use Rattle.phase_types.specs.Checked.{checked_program}
use Rattle.phase_types.specs.Environments.{start}
use Rattle.phase_types.proofs.CheckedLemmas.{checked_is_typed, checked_parts}
use Rattle.kernel_eval.specs.Iterations.{end_of}
use Rattle.kernel_eval.specs.Outcomes.{Stop, NoMeaning, Done}
use Rattle.seq_meaning.specs.MainRuns.{MainRun, Frame, AtItem, KeepsShape, IsPreparedRun, HasBegunRun, HasOpened, CanContinue}
use Rattle.seq_meaning.specs.RemainingEvents.{events_in, events_left, remaining_events}
use Rattle.seq_meaning.specs.Runs.{main_meaning, run}
use Rattle.seq_meaning.specs.declared.main_run.MainStep.TheVariants.{Enter}
use Rattle.seq_meaning.proofs.EventCountLemmas.{events_here}
use Rattle.seq_meaning.proofs.ItemCodeLemmas.{checked_is_code}
use Rattle.seq_meaning.proofs.MainBlockLemmas.{level_within}
use Rattle.seq_meaning.proofs.MainHereLemmas.{keeps_shape}
use Rattle.seq_meaning.proofs.MainStepLemmas.{set_here, length_set}
use Rattle.seq_meaning.proofs.TypedRunLemmas.{run_ends}

abbrev first_frame : Frame
first_frame = record { index = 0; after_else = false }

pub has_an_end : (answer : Result Done Stop) → is_some (end_of answer) ≡ true → answer ≢ Err NoMeaning
has_an_end answer e none = false_or_true (sym (ap (λ answer. is_some (end_of answer)) none) ∙ e) where
  false_or_true : false ≡ true → ⊥
  false_or_true e = absurd cc

pub opened : (mesh : MeshLists) (program : Main) (turns : ℕ) (checked : CheckedProgram) (r after : MainRun) → IsMesh (length mesh.points) (corner_lists mesh) → checked_program program ≡ Ok checked
    → HasBegunRun turns r → IsPreparedRun checked r → after ≡ record r { frames = slice_set r.frames 0 first_frame; depth = 1 }
    → HasOpened mesh program turns checked.items (Enter 0) after
opened mesh program turns checked r after is_mesh is begun prepared same =
    subst (HasOpened mesh program turns checked.items (Enter 0)) (sym same) record {
      step_is = refl;
      at = record {
        remaining = main_meaning mesh turns start program;
        is = refl;
        stands = record {
          stands = AtItem first_frame start program [] (set_here r.frames 0 first_frame (omega (arith, prepared.frames))) refl (checked_is_code program checked is) refl tt;
          has_state = record {
            scalars = record { holds = λ number value e. absurd cc };
            prints = ap (λ printed. take printed r.prints) (sym begun.printed);
            turns = sym begun.turns_are;
            each_scalar = prepared.scalars ∙ ap (λ names. length names) (checked_parts program checked is).scalars;
            each_print = prepared.prints;
            printed = omega (arith, begun.printed);
          };
          room = omega (arith, prepared.frames, length_set r.frames 0 first_frame);
          has_meaning = has_an_end (run mesh program turns).answer (run_ends mesh turns is_mesh program (checked_is_typed program checked is));
        };
      };
    }

-- it remains prepared
pub still_prepared : {level : ℕ} {r after : MainRun} (checked : CheckedProgram) → KeepsShape level r after → IsPreparedRun checked r → IsPreparedRun checked after
still_prepared checked keeps prepared = record {
  scalars = keeps.scalars ∙ prepared.scalars;
  prints = keeps.prints ∙ prepared.prints;
  frames = omega (arith, prepared.frames, keeps.count);
}

pub opened_shape : (r after : MainRun) → after ≡ record r { frames = slice_set r.frames 0 first_frame; depth = 1 } → KeepsShape 0 r after
opened_shape r after is = subst (KeepsShape 0 r) (sym is) (keeps_shape 0 r (record r { frames = slice_set r.frames 0 first_frame; depth = 1 }) first_frame refl refl refl)

-- the first event makes fewer events remain
pub has_frames : (checked : CheckedProgram) (r : MainRun) → CanContinue checked r → 0 < length r.frames
has_frames checked r (inl start) = omega (arith, start.1.frames)
has_frames checked r (inr can) = level_within can

pub opened_fewer : (items : List ItemCode) (r after : MainRun) → r.depth ≡ 0 → 0 < length r.frames → after ≡ record r { frames = slice_set r.frames 0 first_frame; depth = 1 }
    → remaining_events items after < remaining_events items r
opened_fewer items r after depth room is =
    let old : remaining_events items r ≡ r.turns * (1 + events_in items) + (1 + events_in items) = ap (λ depth. r.turns * (1 + events_in items) + events_left items (take depth r.frames)) depth in
    let new : remaining_events items (record r { frames = slice_set r.frames 0 first_frame; depth = 1 }) ≡ r.turns * (1 + events_in items) + events_in items =
    events_here (1 + events_in items) 0 items (record r { frames = slice_set r.frames 0 first_frame; depth = 1 }) first_frame (set_here r.frames 0 first_frame room) refl in
    subst (λ after. remaining_events items after < remaining_events items r) (sym is) (omega (arith, old, new))
