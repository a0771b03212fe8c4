use Rattle.sercos_law_run.proofs.Typed.Spelled.{keeps_always, keeps_within, spelled_next}
use Rattle.sercos_law_run.proofs.typed_laws.typed_law.Goals as goal

pub returns : goal.returns
returns c =
    record { always = keeps_always; within = keeps_within; spelled = spelled_next }
