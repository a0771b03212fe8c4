use Rattle.std.proofs.Common.{◌-◌, ◌%◌, ℕ, ap}
use Rattle.sercos_c.proofs.FrameLemmas.{padded_by}
use Rattle.sercos_c.proofs.frames.pad.Goals as goal

pub returns : goal.returns
returns c = padded_by _ _ _ (ap (λ (n : ℕ). (8 - n % 8) % 8) c.len-rest.ensures.value) c.push_number.ensures.bits
