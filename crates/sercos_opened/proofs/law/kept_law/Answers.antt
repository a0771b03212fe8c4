use Rattle.sercos_opened.proofs.KeptLemmas.{opens_if_typed, opened_is_kept}
use Rattle.sercos_opened.proofs.law.kept_law.Goals as goal

pub returns : goal.returns
returns c = record {
  kept = opened_is_kept c.run_law.ensures.is_next c.harmless_law.ensures.clear c.once_law.ensures c.headline_law.ensures c.recovery_law.ensures.predicts c.undisturbed_law.ensures.starts
      c.recovery_law.ensures.recovers c.tolerance_law.ensures.tolerates c.tolerance_law.ensures.returns c.station_law.ensures.plain
      c.fall_law.ensures.causes c.station_law.ensures.alone;
  opened = opens_if_typed;
}
