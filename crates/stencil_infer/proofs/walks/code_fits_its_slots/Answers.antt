use Rattle.stencil_infer.proofs.CodeComprehensionLemmas.{checked_fits}
use Rattle.stencil_infer.proofs.walks.code_fits_its_slots.Goals as goal

pub returns-clause-fits : goal.returns-clause-fits
returns-clause-fits c program checked k code is at = (checked_fits program checked k code is at).fits

pub returns-clause-first : goal.returns-clause-first
returns-clause-first c program checked k code is at = (checked_fits program checked k code is at).first
