use Rattle.text_scan.proofs.RowLemmas.{rows_have_words, rows_ascend}
use Rattle.text_scan.proofs.laws.rows_have_words.Goals as goal

pub returns-clause-words : goal.returns-clause-words
returns-clause-words c = rows_have_words

pub returns-clause-ascending : goal.returns-clause-ascending
returns-clause-ascending c = rows_ascend
