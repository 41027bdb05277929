-- The stencils of all comprehensions have the outcome of the definition, and their text is written one comprehension after another.
use Rattle.std.proofs.Common.{◌≡◌, ℕ, ◌+◌, List, ◌++◌, Some, Result, Ok, Err, MatchResult, refl, sym, ap, subst, slice_get}
use Rattle.std.specs.Prelude.{drop, map}
use Rattle.liszt_base.specs.MeshLists.{MeshLists}
use Rattle.liszt_base.specs.declared.answers.LimitFault.{LimitFault}
use Rattle.liszt_tree.specs.Tree.{Main}
use Rattle.phase_types.specs.Checked.{checked_program}
use Rattle.phase_types.specs.declared.state.CheckedProgram.{CheckedProgram}
use Rattle.liszt_report.specs.declared.ended.Ended.TheVariants.{Limit}
use Rattle.liszt_report.specs.Texts.{comprehension_stencils, stencils_from}
use Rattle.liszt_report.proofs.WrittenLemmas.{drop_item}
use Rattle.stencil_infer.specs.Stencils.{StencilLists, program_inference}
use Rattle.liszt.specs.Expected.{InfersOn, refusal, stencils_outcome}

pub inference_made : (tree : Main) (mesh : MeshLists) (checked : CheckedProgram) (stencils : List StencilLists) → checked_program tree ≡ Ok checked
    → program_inference mesh tree ≡ Ok stencils → InfersOn tree mesh (stencils_outcome checked stencils)
inference_made tree mesh checked stencils is inferred =
    subst (λ (result : Result (List StencilLists) LimitFault). MatchResult result
    (λ all. (c : CheckedProgram) × (checked_program tree ≡ Ok c) × (stencils_outcome checked stencils ≡ stencils_outcome c all))
    (λ fault. stencils_outcome checked stencils ≡ refusal (Limit fault))) (sym inferred) (checked, is, refl)

pub inference_limited : (tree : Main) (mesh : MeshLists) (fault : LimitFault) → program_inference mesh tree ≡ Err fault → InfersOn tree mesh (refusal (Limit fault))
inference_limited tree mesh fault inferred =
    subst (λ (result : Result (List StencilLists) LimitFault). MatchResult result
    (λ all. (c : CheckedProgram) × (checked_program tree ≡ Ok c) × (refusal (Limit fault) ≡ stencils_outcome c all))
    (λ other. refusal (Limit fault) ≡ refusal (Limit other))) (sym inferred) refl

-- what remains of the text at a comprehension
abbrev pub stencils_after : CheckedProgram → List StencilLists → ℕ → List ℕ
stencils_after checked stencils k = stencils_from checked k (map (λ s. s.lists) (drop k stencils))

pub stencils_next : (checked : CheckedProgram) (stencils : List StencilLists) (k : ℕ) (s : StencilLists) → slice_get stencils k ≡ Some s
    → stencils_after checked stencils k ≡ comprehension_stencils checked k s.lists ++ stencils_after checked stencils (k + 1)
stencils_next checked stencils k s is = ap (λ rest. stencils_from checked k (map (λ s. s.lists) rest)) (drop_item stencils k s is)
