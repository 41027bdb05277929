use Rattle.std.proofs.Common.{map}
use Rattle.std.specs.List.{IsDistinct}
use Rattle.std.specs.Str.{bytes_eq}
use Rattle.liszt_io.specs.declared.held_file.HeldFile.{HeldFile}
use Rattle.row_check.proofs.outcome.push_all.Given as goal

abbrev pub invariant-loop-file : goal.invariant-loop-file
invariant-loop-file l =
    (goal.iterator-loop-file).can_next l.file-iterator ×
    (goal.iterator-loop-file).is_finite l.file-iterator ×
    IsDistinct bytes_eq (map (λ (f : HeldFile). f.name) l.files)
