use Rattle.std.proofs.Common.{◌≡◌, List, ◌++◌, take}
use Rattle.std.specs.List.{flat_map}
use Rattle.sercos_step.specs.declared.request.Job.{Job}
use Rattle.sercos_trace.specs.Views.{CycleView}
use Rattle.sercos_script.specs.Links.{Carry, Restarts}
use Rattle.sercos_ring.specs.Kept.{RingStandsFor}
use Rattle.sercos_backup.specs.Texts.{restored_line}
use Rattle.sercos_app.specs.Saving.{last_data}
use Rattle.sercos_app.proofs.restore_command.push_lines.Given as goal

abbrev pub invariant-loop-request : goal.invariant-loop-request
invariant-loop-request g l = (jobs : List Job) (carry : Carry) (restarts : Restarts) (j : List CycleView) → RingStandsFor g.L.BitLink.carry g.L.BitLink.restart l.ring l.setup jobs carry restarts j
    → l.out.items ≡ l.initial.out.items ++ flat_map (restored_line (last_data l.setup carry restarts j)) (take l.request-index l.list)
