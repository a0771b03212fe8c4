use Rattle.std.proofs.Common.{◌≡◌, ◌++◌, take}
use Rattle.std.specs.List.{flat_map}
use Rattle.sercos_backup.specs.Texts.{failed_line}
use Rattle.sercos_backup.proofs.texts.push_all_failed.Given as goal

abbrev pub invariant-loop-request : goal.invariant-loop-request
invariant-loop-request l = l.out.items ≡ l.initial.out.items ++ flat_map (failed_line l.absent) (take l.request-index l.list)
