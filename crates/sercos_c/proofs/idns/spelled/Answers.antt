use Rattle.sercos_c.proofs.IdnLemmas.{utf8_text}
use Rattle.sercos_c.proofs.idns.spelled.Goals as goal

pub returns-in-Err-clause-value : goal.returns-in-Err-clause-value
returns-in-Err-clause-value c = absurd (c.in-Err.ensures.cases.0 (utf8_text c.args.text.now c.requires))

pub returns-in-Err-clause-text : goal.returns-in-Err-clause-text
returns-in-Err-clause-text c = absurd (c.in-Err.ensures.cases.0 (utf8_text c.args.text.now c.requires))
