use Rattle.std.proofs.Common.{◌≤◌, arith}
use Rattle.std.proofs.lemmas.Grind.{common_steps}
use Rattle.std.proofs.lemmas.List.Elements.{All-push}
use Rattle.sercos_config.specs.Fault.{faults_onto}
use Rattle.sercos_config.proofs.fault.read_faults.Goals as goal

pub loop-table-preserved : goal.loop-table-preserved
unfolding faults_onto
loop-table-preserved c =
    (rw c.in_ok-push.ensures.items (All-push (λ f. 1 ≤ f.every) c.loop-table.faults.items c.in_ok-fault.fault c.loop-table.invariant.0 c.in_ok-fault.ensures.valid), grind (arith, common_steps))
