use Rattle.text_scan.proofs.RowTableLemmas.{row_closed}
use Rattle.text_scan.proofs.row_table.RowTable.close.Goals as goal

pub invariant_of-self-then-end-self : goal.invariant_of-self-then-end-self
invariant_of-self-then-end-self c =
    let a = c.self.inside in
    (row_closed a.words a.ends.items c.push.new.self.items a.closed c.args.line c.len-end.result c.args.self.now c.self.view_is c.self.invariant.0
    c.if-end-self.true c.len-end.ensures c.in_ok-push.ensures.items).0

pub returns-in_ok-push : goal.returns-in_ok-push
returns-in_ok-push c =
    let a = c.self.inside in
    record {
      ok = (row_closed a.words a.ends.items c.push.new.self.items a.closed c.args.line c.len-end.result c.args.self.now c.self.view_is c.self.invariant.0
          c.if-end-self.true c.len-end.ensures c.in_ok-push.ensures.items).1;
    }
