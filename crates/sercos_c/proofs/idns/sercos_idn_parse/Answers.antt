use Rattle.std.proofs.Common.{◌≡◌, None, refl, ◌∙◌, ap}
use Rattle.sercos_idn.specs.Idns.{idn_fault, spelled_raw}
use Rattle.sercos_idn.proofs.IdnLemmas.{idn_fault-idn_text, spelled_raw-idn_text}
use Rattle.sercos_c.proofs.idns.sercos_idn_parse.Goals as goal

pub returns-in-Some-clause-only : goal.returns-in-Some-clause-only
returns-in-Some-clause-only c = λ raw small is.
    let none : idn_fault c.args.text.now ≡ None = ap idn_fault is ∙ idn_fault-idn_text raw small in
    absurd (cc (c.idn_fault.ensures.value, c.in-Some.is))

pub returns-in-None-clause-only : goal.returns-in-None-clause-only
returns-in-None-clause-only c = λ raw small is. (refl, c.spelled.ensures.value ∙ ap spelled_raw is ∙ spelled_raw-idn_text raw small)
