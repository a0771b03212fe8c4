use Rattle.sercos_block.proofs.RingLemmas.{IsRing-is_ring}
use Rattle.sercos_block.proofs.law.ring_law.Goals as goal

pub returns : goal.returns
returns c = IsRing-is_ring
