use Rattle.std.proofs.Common.{rules}
use Rattle.row_check.proofs.NameLemmas.{distinct_names}
use Rattle.row_check.proofs.outcome.push_new.Goals as goal

pub returns : goal.returns
returns c =
    distinct_names c.args.file.now.name _ _ c.in_ok-copied_file.field-0 c.push.result c.requires
    (search rules) c.in_ok-copied_file.ensures.name c.push.ensures.ok c.push.ensures.err
