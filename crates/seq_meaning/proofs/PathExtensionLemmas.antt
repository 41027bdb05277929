-- What the main program appends to a path comes after it.
use Rattle.std.proofs.Common.{ℕ, List, [], ◌++◌, refl, sym, ap, ◌∙◌}
use Rattle.std.proofs.lemmas.List.{append-nil, append_assoc}
use Rattle.liszt_base.specs.MeshLists.{MeshLists}
use Rattle.liszt_tree.specs.Tree.{Main}
use Rattle.phase_types.specs.Environments.{Site}
use Rattle.kernel_eval.specs.Preservation.{Commutes, Preserves}
use Rattle.kernel_eval.specs.Outcomes.{Outcome, ◌>>◌}
use Rattle.kernel_eval.specs.States.{State}
use Rattle.kernel_eval.proofs.ComputationLemmas.{IsPreorder, keeps_then}
use Rattle.seq_meaning.specs.Paths.{Extends}
use Rattle.seq_meaning.specs.Runs.{Event, Entry, Progress, with_earlier_path, log_event, lift_state, main_meaning}
use Rattle.seq_meaning.proofs.PathLemmas.{main_commutes}

pub same_path : (path : List Entry) → Extends path path
same_path path = record { more = []; is = sym (append-nil path) }

pub later_path : (a b c : List Entry) → Extends a b → Extends b c → Extends a c
later_path a b c r s = record { more = r.more ++ s.more; is = s.is ∙ ap (λ path. path ++ s.more) r.is ∙ append_assoc a r.more s.more }

-- COMPUTATIONS that extend the path
abbrev pub ExtendsPath : Progress → Progress → Type 0
ExtendsPath p after = Extends p.path after.path

pub path_leads : IsPreorder ExtendsPath
path_leads = record { same = λ p. same_path p.path; later = λ a b c r s. later_path a.path b.path c.path r s }

-- single steps
pub event_extends : (event : Event) → Preserves ExtendsPath (log_event event)
event_extends event = record { preserved = λ p. record { more = _; is = refl } }

pub state_extends : {A : Type 0} (computation : State → Outcome State A) → Preserves ExtendsPath (lift_state computation)
state_extends computation = record { preserved = λ p. same_path p.path }

-- a sequence
pub sequence_extends : {block rest : Progress → Outcome Progress (Unit {0})} → Preserves ExtendsPath block → Preserves ExtendsPath rest
    → Preserves ExtendsPath (block >> rest)
sequence_extends f g = keeps_then path_leads f (λ done. g)

-- a computation that never reads the path appends to it what it appends to the empty one
commuting_extends : {A : Type 0} {computation : Progress → Outcome Progress A} → ((path : List Entry) → Commutes (with_earlier_path path) computation)
    → Preserves ExtendsPath computation
commuting_extends {computation = computation} h = record {
  preserved = λ p. record {
    more = (computation (record p { path = [] })).after.path;
    is = ap (λ path. (computation (record p { path = path })).after.path) (sym (append-nil p.path))
        ∙ ap (λ outcome. outcome.after.path) ((h p.path).commuted (record p { path = [] }));
  };
}

pub main_extends : (mesh : MeshLists) (turns : ℕ) (site : Site) (program : Main) → Preserves ExtendsPath (main_meaning mesh turns site program)
main_extends mesh turns site program = commuting_extends (λ path. main_commutes path mesh turns site program)
