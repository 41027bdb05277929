use denote.Param.Send.{sendable}
use Rattle.field_words.proofs.SharedLemmas.{seat_sync}
use Rattle.field_words.proofs.shared.shared_types.Goals as goal

pub shared-requires-2-sync-T : goal.shared-requires-2-sync-T
shared-requires-2-sync-T c κs = search (sendable, seat_sync) depth 20
