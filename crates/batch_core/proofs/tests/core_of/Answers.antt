use Rattle.std.proofs.Common.{rules, ◌≡◌, [], ◌∷◌, length}
use Rattle.batch_core.proofs.TestLemmas.{two_lists_in_range}
use Rattle.batch_core.proofs.tests.core_of.Goals as goal

pub new-requires : goal.new-requires
new-requires c =
    let words : length c.push-2.new.self ≡ 2 = search rules in
    let lists : c.push-4.new.self ≡ c.args.first.now ∷ c.args.second.now ∷ [] = search rules in
    two_lists_in_range c.push-2.new.self c.push-4.new.self c.args.first.now c.args.second.now words lists c.requires.first c.requires.second
