use Rattle.std.proofs.Common.{◌≡◌, ◌+◌, ◌*◌, ◌≤◌, ◌++◌, length, drop}
use Rattle.std.specs.List.{flat_map}
use Rattle.sercos_drive.specs.Slots.{bytes_at}
use Rattle.sercos_drive.proofs.feedback.push_feedback.Given as goal

abbrev pub invariant-loop-value : goal.invariant-loop-value
invariant-loop-value l = record {
  whole : l.out ++ flat_map (bytes_at l.cycle) (drop l.value-index l.values) ≡ l.initial.out ++ flat_map (bytes_at l.cycle) l.values;
  room : length l.out ≤ length l.initial.out + 4 * l.value-index;
}
