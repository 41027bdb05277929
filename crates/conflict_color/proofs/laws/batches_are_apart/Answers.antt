use Rattle.std.proofs.Common.{◌==◌, length}
use Rattle.std.specs.Prelude.{slice_index}
use Rattle.conflict_color.proofs.ColourLemmas.{apart, members}
use Rattle.conflict_color.proofs.MemberLemmas.{selected_increasing}
use Rattle.conflict_color.proofs.laws.batches_are_apart.Goals as goal

pub returns : goal.returns
returns c = record {
  ascending = λ k colours. selected_increasing (λ i. slice_index colours i == k) (length colours);
  members = members;
  apart = apart;
}
