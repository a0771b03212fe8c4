use Rattle.sercos_law_run.proofs.Start.RingSlotLemmas.{ring_keeps_apart, ring_sends_apart}
use Rattle.sercos_law_run.proofs.start_laws.ring_slot_law.Goals as goal

pub returns : goal.returns
returns c = record { apart = ring_keeps_apart; sends = ring_sends_apart }
