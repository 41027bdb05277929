use Rattle.tet_reader.proofs.WorkedLists.{marked, with_region, short, without_region}
use Rattle.tet_reader.proofs.cases.spelled_lists.Goals as goal

pub returns-clause-marked : goal.returns-clause-marked
returns-clause-marked c = marked

pub returns-clause-with_region : goal.returns-clause-with_region
returns-clause-with_region c = with_region

pub returns-clause-short : goal.returns-clause-short
returns-clause-short c = short

pub returns-clause-without_region : goal.returns-clause-without_region
returns-clause-without_region c = without_region
