use Rattle.std.proofs.Common.{sym, ◌∙◌}
use Rattle.field_words.proofs.StepLemmas.{owned_once}
use Rattle.field_words.proofs.OwnershipLemmas.{frozen_is_present, owned_is_not_frozen, owned_or_frozen_word}
use Rattle.field_words.proofs.laws.ownership.Goals as goal

pub returns-clause-own : goal.returns-clause-own
returns-clause-own c n s r j x v u here = (r.each j v here).own x u

pub returns-clause-frozen : goal.returns-clause-frozen
returns-clause-frozen c = frozen_is_present

pub returns-clause-owned_once : goal.returns-clause-owned_once
returns-clause-owned_once c = owned_once

pub returns-clause-owned_is_not_frozen : goal.returns-clause-owned_is_not_frozen
returns-clause-owned_is_not_frozen c = owned_is_not_frozen

pub returns-clause-one_frozen_map : goal.returns-clause-one_frozen_map
returns-clause-one_frozen_map c n s r i j v w here there a b = (r.each i v here).same a ∙ sym ((r.each j w there).same b)

pub returns-clause-owned_or_frozen : goal.returns-clause-owned_or_frozen
returns-clause-owned_or_frozen c = owned_or_frozen_word

pub returns-clause-shares : goal.returns-clause-shares
returns-clause-shares c n s r = r.shares

pub returns-clause-spent : goal.returns-clause-spent
returns-clause-spent c n s r j v here = (r.each j v here).spent
