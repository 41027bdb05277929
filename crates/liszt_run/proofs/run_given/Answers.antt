use Rattle.std.proofs.Common.{◌≡◌, ◌⊎◌, IfOk, None, Ok, sym, subst}
use Rattle.liszt_report.specs.declared.ended.Ended.TheVariants.{Usage, WriteFault as NotWritten}
use Rattle.command_words.specs.Commands.{command_of}
use Rattle.liszt_run.proofs.run_given.Goals as goal

pub returns-in-Ok-clause-usage : goal.returns-in-Ok-clause-usage
returns-in-Ok-clause-usage g c =
    subst (λ words. IfOk words (λ words. command_of words ≡ None → ((c.run_words.result ≡ Usage) ⊎ (c.run_words.result ≡ NotWritten)) × (c.run_words.new.shelf ≡ c.args.shelf.now)))
    (sym c.in-Ok.is) c.run_words.ensures.usage
