use Rattle.std.proofs.Common.{arith, inl, inr}
use Rattle.std.proofs.lemmas.Bool.{cases_Bool}
use Rattle.stencil_infer.proofs.SetLemmas.{compacted_members, compacted_full}
use Rattle.stencil_infer.proofs.access_set.AccessSet.compact.Goals as goal

pub returns-then-len-clause-held : goal.returns-then-len-clause-held
returns-then-len-clause-held c = λ past h. record {
  members = λ e. absurd cc;
  full = λ e. elim (cases_Bool c.args.self.now.is_full) [
    | inl full ↦ h.full full
    | inr room ↦ compacted_full past c.args.self.now.items.items c.order.new.items.items (h.members room) c.order.ensures.members c.order.ensures.ascending (omega arith)
  ];
}

pub returns-else-len-clause-held : goal.returns-else-len-clause-held
returns-else-len-clause-held c = λ past h. record {
  members = λ e. compacted_members past c.args.self.now.items.items c.order.new.items.items (h.members e) c.order.ensures.members;
  full = h.full;
}
