use Rattle.std.proofs.Common.{◌≤◌, subst}
use Rattle.sercos_config.specs.Views.{DocumentView}
use Rattle.sercos_multi.proofs.OpenLemmas.{ring_run}
use Rattle.sercos_multi.proofs.opening.open_part.Goals as goal

pub returns-in-Ok-open_document : goal.returns-in-Ok-open_document
returns-in-Ok-open_document c = (
  c.in-Ok.document,
  c.in-Ok.ensures.value,
  c.in-Ok-open_document.ensures,
  ring_run c.kept_law.ensures.kept c.clean_law.ensures.clean c.in-Ok.document (c.kept_law.ensures.opened c.in-Ok.document.setup c.in-Ok.document.jobs c.in-Ok.ensures.setup c.in-Ok.ensures.jobs c.in-Ok.ensures.typed.0 c.in-Ok.ensures.typed.1) c.in-Ok.ensures.jobs.few
      (subst (λ (d : DocumentView). 1 ≤ d.setup.cycles) c.document.view_is (rw (← c.cycles_of.ensures.value) c.cycles_of.ensures.some)),
)
