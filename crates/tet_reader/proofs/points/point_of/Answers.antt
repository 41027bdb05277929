use Rattle.std.proofs.Common.{sym, ◌∙◌, to_z-of_z}
use Rattle.std.specs.Prelude.{pos}
use Rattle.std.proofs.lemmas.Option.{get_or_from_slice_get}
use mir.Syntax.{w64}
use Rattle.tet_reader.proofs.PointRows.{same_point}
use Rattle.tet_reader.proofs.points.point_of.Goals as goal

pub returns : goal.returns
returns c =
    let numbers = c.args.numbers.now in
    let x = to_z-of_z {w = w64} (record { sfits = c.at.type_inv }) ∙ sym (get_or_from_slice_get numbers 1 c.at.result (pos 0) c.at.ensures) in
    let y = to_z-of_z {w = w64} (record { sfits = c.at-2.type_inv }) ∙ sym (get_or_from_slice_get numbers 2 c.at-2.result (pos 0) c.at-2.ensures) in
    let z = to_z-of_z {w = w64} (record { sfits = c.at-3.type_inv }) ∙ sym (get_or_from_slice_get numbers 3 c.at-3.result (pos 0) c.at-3.ensures) in
    let mark = to_z-of_z {w = w64} (record { sfits = c.mark_of.type_inv }) ∙ c.mark_of.ensures in
    same_point _ _ _ _ _ _ _ _ x y z mark
