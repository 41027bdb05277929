-- Records of the definitions, by their parts.
use Rattle.std.proofs.Common.{ℕ, Option, List}
use Rattle.std.specs.Prelude.{ℤ}
use Rattle.liszt_base.specs.declared.answers.MeshFile.{MeshFile}
use Rattle.liszt_base.specs.declared.answers.MeshWhat.{MeshWhat}
use Rattle.tet_reader.specs.Points.{CellForm}
use Rattle.tet_reader.specs.Faults.{FileForm}

abbrev pub cell_form : ℕ → ℕ → ℕ → CellForm
cell_form attributes points base = record { attributes = attributes; points = points; base = base }

abbrev pub file_form : MeshFile → ℤ → List (Option MeshWhat) → (ℕ → List (List ℕ) → List (Option MeshWhat)) → FileForm
file_form file count header_tests tests =
    record { file = file; count = count; header_tests = header_tests; tests_of_row = tests }
