use Rattle.sercos_law_run.proofs.Words.{unflipped_only_cuts}
use Rattle.sercos_law_run.proofs.Journal.HarmlessLemmas.{both_are_harmless, cuts_are_harmless, quiet_is_harmless}
use Rattle.sercos_law_run.proofs.Typed.Clear.{harmless_is_clear}
use Rattle.sercos_law_run.proofs.typed_laws.harmless_law.Goals as goal

pub returns : goal.returns
returns c = record { clear = harmless_is_clear c.typed_law.ensures.spelled; script = unflipped_only_cuts; quiet = quiet_is_harmless; cuts = cuts_are_harmless; both = both_are_harmless }
