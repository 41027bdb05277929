use Rattle.std.proofs.Common.{List, ℤ, ◌≡◌, sym, subst}
use Rattle.std.proofs.lemmas.Result.{err_from_is_err_and}
use Rattle.std.specs.Io.KnownBytes.{append_known}
use Rattle.liszt_base.specs.declared.answers.RunEnd.{RunEnd}
use Rattle.liszt_base.specs.declared.answers.RunEnd.TheVariants.{Done as IsDone, Trap as IsTrap}
use Rattle.liszt_io.specs.Sinks.{TakesPrefix, Writes}
use Rattle.liszt_report.specs.FieldValues.{value_at}
use Rattle.liszt_report.specs.Texts.{fields_text, prints_text}
use Rattle.mesh_topology.specs.Elements.{count}
use Rattle.liszt.specs.Expected.{outcome_of_run}
use Rattle.liszt.specs.Internal.Steps.{run_values, seq_prints}
use Rattle.liszt.proofs.RunLemmas.{has_outermost, prints_failed, run_written}
use Rattle.liszt.proofs.finish.write_run.Goals as goal

pub returns-in_err-write_prints-clause-writes : goal.returns-in_err-write_prints-clause-writes
returns-in_err-write_prints-clause-writes g c =
    let p = err_from_is_err_and c.from_residual.result c.from_residual.ensures.1 in
    let job = c.args.job.now in
    let fields = fields_text (count job.mesh) (value_at (run_values job.store.fields)) job.checked.fields in
    let old = g.S.Sink.output c.args.out.now in
    let new = g.S.Sink.output c.write_prints.new.out in
    prints_failed job.end (seq_prints job.store) fields old new _ c.from_residual.result p.1
    (subst (λ (prints : List ℤ). TakesPrefix old new (prints_text prints)) c.prints.ensures c.in_err-write_prints.ensures.writes)

pub write_fields-requires : goal.write_fields-requires
write_fields-requires g c =
    let job = c.args.job.now in
    has_outermost job.checked.fields job.mesh job.store.fields job.spots

pub returns-in-Done-clause-writes : goal.returns-in-Done-clause-writes
returns-in-Done-clause-writes g c =
    let job = c.args.job.now in
    let fields = fields_text (count job.mesh) (value_at (run_values job.store.fields)) job.checked.fields in
    let old = g.S.Sink.output c.args.out.now in
    let between = g.S.Sink.output c.write_prints.new.out in
    let new = g.S.Sink.output c.write_fields.new.out in
    subst (λ (end : RunEnd). Writes (outcome_of_run end (seq_prints job.store) fields).text old new c.write_fields.result) (sym c.in-Done.is)
    (run_written IsDone (seq_prints job.store) fields old between new c.write_fields.result
    (subst (λ (prints : List ℤ). between ≡ append_known old (prints_text prints)) c.prints.ensures c.in_ok-write_prints.ensures.writes) c.write_fields.ensures.writes)

pub returns-in-Trap-clause-writes : goal.returns-in-Trap-clause-writes
returns-in-Trap-clause-writes g c =
    let job = c.args.job.now in
    let fields = fields_text (count job.mesh) (value_at (run_values job.store.fields)) job.checked.fields in
    let old = g.S.Sink.output c.args.out.now in
    let between = g.S.Sink.output c.write_prints.new.out in
    let new = g.S.Sink.output c.write_ending.new.out in
    subst (λ (end : RunEnd). Writes (outcome_of_run end (seq_prints job.store) fields).text old new c.write_ending.result) (sym c.in-Trap.is)
    (run_written (IsTrap c.in-Trap.trap) (seq_prints job.store) fields old between new c.write_ending.result
    (subst (λ (prints : List ℤ). between ≡ append_known old (prints_text prints)) c.prints.ensures c.in_ok-write_prints.ensures.writes) c.write_ending.ensures.writes)
