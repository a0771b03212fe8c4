use Rattle.std.proofs.Common.{refl}
use Rattle.sercos_script.specs.Stretches.{stretch}
use Rattle.sercos_script.proofs.stretches.stretch.Goals as goal

pub returns : goal.returns
unfolding stretch
returns c = rw (c.edge-start.ensures, c.edge-end.ensures) refl
