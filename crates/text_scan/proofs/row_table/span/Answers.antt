use Rattle.std.proofs.Common.{map, ap, sym, ◌∙◌}
use Rattle.std.proofs.lemmas.List.{get_or-map}
use Rattle.liszt_base.specs.Cuts.{start_at}
use Rattle.text_scan.proofs.RowTableLemmas.{start_is}
use Rattle.text_scan.proofs.row_table.span.Goals.{then-place-eq0, else-place-eq0}
use Rattle.text_scan.proofs.row_table.span.Goals as goal

pub returns : goal.returns
returns c =
    let ends = c.args.ends.now in
    record {
      start = elim c.if-place-eq0.branch [
        | then-place-eq0 w ↦ w.start-is ∙ ap (start_at 0 (map (λ e. e.end) ends)) (sym w.if-place-eq0.true)
        | else-place-eq0 w ↦ w.start-is ∙ start_is ends c.args.place (record { line = 0; end = 0 }) w.if-place-eq0.false c.requires
      ];
      end = sym (get_or-map (λ e. e.end) ends c.args.place (record { line = 0; end = 0 }) 0 c.requires);
    }
