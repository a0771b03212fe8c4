use Rattle.std.proofs.Common.{arith}
use Rattle.sercos_script.proofs.ScriptLemmas.{never_acts}
use Rattle.sercos_script.proofs.fault.FaultDefault.default.Goals as goal

pub returns : goal.returns
returns c = never_acts _ (omega arith)
