use Rattle.std.proofs.Common.{ap, arith, rules, ◌<◌, length}
use Rattle.text_scan.proofs.LineLemmas.{left_shorter, line_added}
use Rattle.text_scan.proofs.rows.rows_of.Goals as goal

pub loop-rest-preserved : goal.loop-rest-preserved
loop-rest-preserved c =
    let rest = c.loop-rest.rest.now in
    let after = c.split_at_byte.result.1.now in
    let some : 0 < length rest = search rules in
    let less = left_shorter rest after some c.split_at_byte.ensures.after in
    record {
      closed = ap (λ t. t.last) c.in_ok-close.ensures.ok;
      short = omega (arith, less, c.loop-rest.invariant.short);
      text = line_added c.args.bytes.now rest c.split_at_byte.result.0.now after c.loop-rest.table c.push_line.new.self c.close.new.self
          c.loop-rest.last_line some c.split_at_byte.ensures.before c.split_at_byte.ensures.after c.loop-rest.invariant.closed
          c.in_ok-push_line.ensures.ok c.in_ok-close.ensures.ok c.loop-rest.invariant.text;
    }
