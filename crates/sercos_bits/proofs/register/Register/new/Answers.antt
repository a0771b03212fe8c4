use Rattle.sercos_bits.proofs.Division.{ones-bits}
use Rattle.sercos_bits.proofs.register.Register.new.Goals as goal

pub returns : goal.returns
returns c = ones-bits
