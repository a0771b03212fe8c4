use Rattle.std.proofs.Common.{sym, ◌∙◌, arith}
use Rattle.sercos_bits.proofs.Division.{fcs_by_register}
use Rattle.sercos_bits.proofs.register.Register.fcs.Goals as goal

pub returns : goal.returns
returns c = λ bytes taken. sym (fcs_by_register bytes c.self.inside.register (omega arith) (c.self.view_is ∙ taken))
