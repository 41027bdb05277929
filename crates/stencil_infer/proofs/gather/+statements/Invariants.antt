use Rattle.std.proofs.Common.{drop, length}
use Rattle.std.specs.List.{AllByRecursion}
use Rattle.stencil_infer.specs.Internal.CodeAccesses.{FitsSlot, SlotsFit, code_walk, members_walk}
use Rattle.stencil_infer.proofs.GatherLemmas.{WalkLeads}
use Rattle.stencil_infer.proofs.gather.+statements.Given as goal

abbrev pub invariant-gather_body-loop-code : goal.invariant-gather_body-loop-code
invariant-gather_body-loop-code l =
    record {
      gathers : WalkLeads (code_walk l.m (drop l.code-index l.codes)) l.slots (code_walk l.fn.m l.fn.codes l.fn.slots) l.set l.fn.set;
      fit : SlotsFit l.m l.kinds l.slots;
    }

abbrev pub invariant-gather_members-loop-member : goal.invariant-gather_members-loop-member
invariant-gather_members-loop-member l =
    record {
      gathers : WalkLeads (members_walk l.slot (code_walk l.m l.body) l.over) l.slots
          (members_walk l.fn.slot (code_walk l.fn.m l.fn.body) l.fn.over l.fn.slots) l.set l.fn.set;
      fit : SlotsFit l.m l.kinds l.slots;
      each : AllByRecursion (FitsSlot l.m l.kinds l.slot) l.over;
    }

abbrev pub decreases-gather_members-loop-member : goal.decreases-gather_members-loop-member
decreases-gather_members-loop-member l = length l.over
