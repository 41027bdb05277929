use Rattle.std.proofs.Common.{sym, ap, ◌∙◌, length}
use Rattle.liszt_base.proofs.Cuts.{cut_length}
use Rattle.liszt_base.proofs.plain_lists.PlainLists.len.Goals as goal

pub returns : goal.returns
returns g c =
    let a = c.self.inside in
    c.len.ensures ∙ (a.ends.ok.0 ∙ (sym (cut_length 0 a.items.items a.ends.items) ∙ ap length c.self.view_is))
