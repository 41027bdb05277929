use Rattle.std.proofs.Common.{◌≡◌, ◌<◌, None, length, sym, ap, rules}
use Rattle.command_words.specs.Internal.CommandReading.{command_after, options_so_far}
use Rattle.command_words.proofs.WordLemmas.{plain_more}
use Rattle.command_words.proofs.command.WordsRead.with_plain.Goals as goal

pub returns : goal.returns
returns c rest =
    let four : length c.args.self.plain ≡ 4 = search rules in
    let room : c.args.self.count < length c.args.self.plain = search rules in
    ap (λ plain. command_after None (options_so_far c.args.self) plain rest) (sym (plain_more c.args.self.plain c.args.self.count c.args.word room))
