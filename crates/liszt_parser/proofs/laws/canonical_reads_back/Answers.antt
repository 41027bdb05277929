use Rattle.liszt_parser.proofs.CanonicalReading.{reads_back, only_too_many, stays_shallow}
use Rattle.liszt_parser.proofs.laws.canonical_reads_back.Goals as goal

pub returns-clause-derives : goal.returns-clause-derives
returns-clause-derives c = reads_back

pub returns-clause-fails_big_only : goal.returns-clause-fails_big_only
returns-clause-fails_big_only c = only_too_many

pub returns-clause-no_deeper : goal.returns-clause-no_deeper
returns-clause-no_deeper c = stays_shallow
