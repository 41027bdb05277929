-- A checked program may cross threads as its five lists may.
use base.Shift.{Keyless}
use contract.Lifetimes.{Lfts}
use denote.Builtin.{u8, u32}
use denote.Exit.{no}
use denote.Hole.{as_row}
use denote.Param.Send.{sendable, IsSend, IsSync, arg_send, arg_sync, param_send, param_sync}
use denote.Param.SendFields.{declared_send, declared_sync}
use denote.RattleType.{RattleType}
use Rattle.liszt_base.specs.contracts.plain_list.PlainList as plain_list
use Rattle.sqlite_items.specs.contracts.items.Items as items
use Rattle.resolved_code.specs.contracts.items.ComprehensionCode as comprehension
use Rattle.resolved_code.specs.contracts.items.ItemCode as item
use Rattle.phase_types.specs.contracts.info.FieldInfo as info
use Rattle.phase_types.specs.contracts.shared.shared.{T-row}
use Rattle.phase_types.specs.contracts.state.CheckedProgram as program
use Rattle.phase_types.specs.contracts.checker.Checked as checked
use Rattle.phase_types.proofs.shared.shared_types.Lts.{arg-0-0, arg-1-0, arg-2-0, arg-3-0, arg-4-0}
use Rattle.phase_types.proofs.shared.shared_types.Goals as goal

-- a list leaves nothing behind
list_send : (R : RattleType) → ((x : (items.the_row R).Denot) (vs : _) → Keyless ((items.the_row R).own_val x vs)) → IsSend (as_row (items.the_field R))
list_send R owned = record { owned = owned; leaving = λ k x w. tt }

list_sync : (R : RattleType) → ((x : (items.the_row R).Denot) (b o : _) (κ : _) → Keyless ((items.the_row R).shr_at x b o κ)) → IsSync (as_row (items.the_field R))
list_sync R shared = record { shared = shared }

module _ (κs : Lfts 1) where
  program_send : IsSend (T-row (arg-0-0 κs)) → IsSend (T-row (arg-1-0 κs)) → IsSend (T-row (arg-2-0 κs)) → IsSend (T-row (arg-3-0 κs)) → IsSend (T-row (arg-4-0 κs)) → IsSend program.the_row
  program_send fields scalars scopes comprehensions items =
      declared_send program.the_type (
        list_send info.the_row (λ x vs. fields.owned x vs),
        (
          list_send (plain_list.the_row u8) (λ x vs. scalars.owned x vs),
          (
            list_send u32 (λ x vs. scopes.owned x vs),
            (list_send comprehension.the_row (λ x vs. comprehensions.owned x vs), (list_send item.the_row (λ x vs. items.owned x vs), tt)),
          ),
        ),
      )

  program_sync : IsSync (T-row (arg-0-0 κs)) → IsSync (T-row (arg-1-0 κs)) → IsSync (T-row (arg-2-0 κs)) → IsSync (T-row (arg-3-0 κs)) → IsSync (T-row (arg-4-0 κs)) → IsSync program.the_row
  program_sync fields scalars scopes comprehensions items =
      declared_sync program.the_type (
        list_sync info.the_row (λ x b o κ. fields.shared x b o κ),
        (
          list_sync (plain_list.the_row u8) (λ x b o κ. scalars.shared x b o κ),
          (
            list_sync u32 (λ x b o κ. scopes.shared x b o κ),
            (list_sync comprehension.the_row (λ x b o κ. comprehensions.shared x b o κ), (list_sync item.the_row (λ x b o κ. items.shared x b o κ), tt)),
          ),
        ),
      )

checked_send : IsSend program.the_row → IsSend checked.the_row
checked_send h = search (sendable, declared_send checked.TheInside.the_type (h, tt))

checked_sync : IsSync program.the_row → IsSync checked.the_row
checked_sync h = search (sendable, declared_sync checked.TheInside.the_type (h, tt))

pub shared-requires-6-send-T : goal.shared-requires-6-send-T
shared-requires-6-send-T c κs =
    param_send _ _ (arg_send _ no checked.the_row (checked_send (program_send κs c.shared.ensures.send c.shared-2.ensures.send c.shared-3.ensures.send c.shared-4.ensures.send c.shared-5.ensures.send)))

pub shared-requires-6-sync-T : goal.shared-requires-6-sync-T
shared-requires-6-sync-T c κs =
    param_sync _ _ (arg_sync _ no checked.the_row (checked_sync (program_sync κs c.shared.ensures.sync c.shared-2.ensures.sync c.shared-3.ensures.sync c.shared-4.ensures.sync c.shared-5.ensures.sync)))
