use Rattle.std.proofs.Common.{◌≡◌, ℕ, ◌≤◌, ◌++◌, length, drop}
use Rattle.std.specs.List.{filter_map, flat_map}
use Rattle.sercos_drive.specs.Slots.{feedback_of, bytes_at}
use Rattle.sercos_drive.specs.Says.{value_in}
use Rattle.sercos_drive.proofs.feedback.feedback_all.Given as goal

abbrev pub invariant-loop-idn : goal.invariant-loop-idn
invariant-loop-idn l = record {
  whole : l.values.items ++ filter_map (feedback_of l.store) (drop l.idn-index l.idns) ≡ filter_map (feedback_of l.store) l.idns;
  gives : (cycle : ℕ) → flat_map (bytes_at cycle) l.values.items ++ flat_map (value_in cycle l.store) (drop l.idn-index l.idns) ≡ flat_map (value_in cycle l.store) l.idns;
  room : length l.values.items ≤ l.idn-index;
}
