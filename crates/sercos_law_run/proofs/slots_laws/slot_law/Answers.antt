use Rattle.sercos_law_run.proofs.Slots.SlotLemmas.{keeps_apart}
use Rattle.sercos_law_run.proofs.Slots.SendingLemmas.{sends_slots}
use Rattle.sercos_law_run.proofs.slots_laws.slot_law.Goals as goal

pub returns-clause-apart : goal.returns-clause-apart
returns-clause-apart c = keeps_apart

pub returns-clause-sends : goal.returns-clause-sends
returns-clause-sends c = sends_slots
