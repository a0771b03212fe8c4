use Rattle.std.proofs.Common.{◌≡◌, None, sym, refl, ◌∙◌, ap}
use Rattle.sercos_idn.specs.Idns.{idn_text, idn_fault, spelled_raw}
use Rattle.sercos_idn.proofs.IdnLemmas.{IsSpelled-idn_fault, idn_text-spelled_raw, idn_fault-idn_text, spelled_raw-idn_text}
use Rattle.sercos_idn.proofs.idn.Idn.parse.Goals as goal

pub returns-in-Some-clause-only : goal.returns-in-Some-clause-only
returns-in-Some-clause-only c = λ raw small is.
    let none : idn_fault c.as_bytes-text.result.now ≡ None = ap idn_fault (c.as_bytes-text.ensures.value ∙ is) ∙ idn_fault-idn_text raw small in
    cc

pub returns-in-None-clause-ok : goal.returns-in-None-clause-ok
returns-in-None-clause-ok c =
    let none : idn_fault c.as_bytes-text.result.now ≡ None = sym c.idn_fault.ensures.value ∙ c.in-None.is in
    sym c.as_bytes-text.ensures.value ∙ idn_text-spelled_raw _ (IsSpelled-idn_fault _ none) ∙ ap idn_text (sym c.spelled_raw.ensures)

pub returns-in-None-clause-only : goal.returns-in-None-clause-only
returns-in-None-clause-only c = λ raw small is.
    let again : c.spelled_raw.result ≡ raw = c.spelled_raw.ensures ∙ ap spelled_raw (c.as_bytes-text.ensures.value ∙ is) ∙ spelled_raw-idn_text raw small in
    rw again refl
