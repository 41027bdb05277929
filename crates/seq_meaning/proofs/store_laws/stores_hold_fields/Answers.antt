use Rattle.seq_meaning.proofs.StoreFieldLemmas.{holds_after_acts, holds_after_declaration, holds_after_scope}
use Rattle.seq_meaning.proofs.store_laws.stores_hold_fields.Goals as goal

pub returns-clause-declarations : goal.returns-clause-declarations
returns-clause-declarations c = holds_after_declaration

pub returns-clause-acts : goal.returns-clause-acts
returns-clause-acts c = holds_after_acts

pub returns-clause-scopes : goal.returns-clause-scopes
returns-clause-scopes c = holds_after_scope
