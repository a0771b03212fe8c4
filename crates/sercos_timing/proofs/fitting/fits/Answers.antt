use Rattle.std.proofs.Common.{refl, sym, ◌∙◌}
use Rattle.std.proofs.lemmas.Bool.{false≢true}
use Rattle.sercos_timing.proofs.BreakLemmas.{fits_from, from_fits}
use Rattle.sercos_timing.proofs.fitting.fits.Goals as goal

pub returns-in-Some-clause-fits : goal.returns-in-Some-clause-fits
returns-in-Some-clause-fits c =
    (λ e. absurd (false≢true e), λ fits. let none = from_fits c.args.w.now c.args.p.now fits in let some = c.in-Some.is in let is = c.first_broken.ensures in cc)

pub returns-in-None-clause-fits : goal.returns-in-None-clause-fits
returns-in-None-clause-fits c =
    (λ e. fits_from c.args.w.now c.args.p.now c.requires.valid c.requires.times c.requires.places (sym c.first_broken.ensures ∙ c.in-None.is), λ fits. refl)
