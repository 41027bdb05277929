use Rattle.std.proofs.Common.{refl, inl, inr, ap, Err}
use Rattle.liszt.proofs.StepLemmas.{lost_at}
use Rattle.liszt.proofs.inputs.read_bytes.Goals as goal

pub returns-in-Ok-clause-answers : goal.returns-in-Ok-clause-answers
returns-in-Ok-clause-answers g c files h = let w = c.in-Ok.ensures.whole files h in (c.in-Ok.bytes, w.0, inr (w.1, refl), w.2)

pub returns-in-Err-ReadFault-clause-answers : goal.returns-in-Err-ReadFault-clause-answers
returns-in-Err-ReadFault-clause-answers g c files h =
    let w = rw c.in-Err-ReadFault.field-0-is at (c.in-Err-ReadFault.ensures.whole files h) in
    inr (inl (refl, lost_at files c.args.name.now _ _ w))

pub returns-in-Err-TooLong-clause-answers : goal.returns-in-Err-TooLong-clause-answers
returns-in-Err-TooLong-clause-answers g c files h =
    let w = rw c.in-Err-TooLong.field-0-is at (c.in-Err-TooLong.ensures.whole files h) in
    inr (inr (w.0, w.1, inl (w.2, ap Err c.too_long.ensures)))
