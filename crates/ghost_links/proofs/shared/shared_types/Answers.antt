use denote.Param.Send.{sendable}
use Rattle.ghost_links.proofs.SharedLemmas.{seat_sync}
use Rattle.ghost_links.proofs.shared.shared_types.Goals as goal

pub shared-requires-2-sync-T : goal.shared-requires-2-sync-T
shared-requires-2-sync-T c κs = search (sendable, seat_sync) depth 20
