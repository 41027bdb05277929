use Rattle.seq_meaning.proofs.FieldStoreLemmas.{spots_after_declaration, still_spots}
use Rattle.seq_meaning.proofs.store_laws.stores_keep_their_spots.Goals as goal

pub returns-clause-steps : goal.returns-clause-steps
returns-clause-steps c = still_spots

pub returns-clause-declarations : goal.returns-clause-declarations
returns-clause-declarations c = spots_after_declaration
