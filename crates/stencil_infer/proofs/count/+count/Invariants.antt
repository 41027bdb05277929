use Rattle.std.proofs.Common.{◌≤◌, ◌+◌, drop}
use Rattle.std.specs.List.{AllByRecursion}
use Rattle.stencil_infer.specs.Internal.CodeAccesses.{FitsSlot, SlotsFit, code_walk, members_walk}
use Rattle.stencil_infer.proofs.CountLemmas.{Counts}
use Rattle.stencil_infer.proofs.count.+count.Given as goal

abbrev pub invariant-count_body-loop-code : goal.invariant-count_body-loop-code
invariant-count_body-loop-code l =
    record {
      counts : Counts l.cap l.counted l.slots (code_walk l.m (drop l.code-index l.codes)) (l.fn.visits + (code_walk l.fn.m l.fn.codes l.fn.slots).visits)
          (code_walk l.fn.m l.fn.codes l.fn.slots).slots;
      few : l.counted ≤ l.cap;
      fit : SlotsFit l.m l.kinds l.slots;
    }

abbrev pub invariant-count_members-loop-counted : goal.invariant-count_members-loop-counted
invariant-count_members-loop-counted l =
    record {
      counts : Counts l.cap l.counted l.slots (members_walk l.slot (code_walk l.m l.body) l.over)
          (l.fn.visits + (members_walk l.fn.slot (code_walk l.fn.m l.fn.body) l.fn.over l.fn.slots).visits)
          (members_walk l.fn.slot (code_walk l.fn.m l.fn.body) l.fn.over l.fn.slots).slots;
      few : l.counted ≤ l.cap;
      fit : SlotsFit l.m l.kinds l.slots;
      each : AllByRecursion (FitsSlot l.m l.kinds l.slot) l.over;
    }
