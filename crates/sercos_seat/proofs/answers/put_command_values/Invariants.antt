use Rattle.std.proofs.Common.{◌≡◌, ◌≤◌, ◌*◌, length, take}
use Rattle.sercos_seat.specs.Records.{lens_said}
use Rattle.sercos_seat.proofs.answers.put_command_values.Given as goal

-- the values so far
abbrev pub invariant-loop-place : goal.invariant-loop-place
invariant-loop-place l = record {
  are : l.values.items ≡ lens_said l.count (take l.place l.lens);
  few : length l.values.items ≤ 4 * l.place;
}
