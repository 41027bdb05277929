use Rattle.std.specs.Prelude.{Result, Ok, Err, OnOk}
use Rattle.text_scan.proofs.RowTableLemmas.{word_pushed}
use Rattle.text_scan.proofs.row_table.RowTable.push_word.Goals as goal

on_ok : {E : Type 0} {P Q : Type 0} (r : Result (Unit {0}) E) → (P → Q) → OnOk r P → OnOk r Q
on_ok (Ok x) f h = f h
on_ok (Err e) f h = h

pub returns : goal.returns
returns c =
    let a = c.self.inside in
    record {
      ok = on_ok c.push.result
          (word_pushed a.words c.push.new.self a.ends.items a.closed c.args.word.now c.args.self.now c.self.view_is c.self.invariant.0 c.self.invariant.1)
          c.push.ensures.ok;
    }
