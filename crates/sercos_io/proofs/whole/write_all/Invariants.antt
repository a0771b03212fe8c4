use Rattle.std.proofs.Common.{◌≡◌, ◌+◌, ◌-◌, ◌≤◌, length, take}
use Rattle.std.specs.Io.KnownBytes.{Appends}
use Rattle.sercos_io.proofs.whole.write_all.Given as goal

-- the sink has taken the bytes before the place, without a fault and out of its room
abbrev pub invariant-loop-place : goal.invariant-loop-place
invariant-loop-place g l = record {
  within : l.place ≤ length l.bytes;
  taken : Appends (g.K.Sink.held l.initial.sink) (g.K.Sink.held l.sink) (take l.place l.bytes);
  faultless : g.K.Sink.faults l.sink ≡ g.K.Sink.faults l.initial.sink;
  room_left : g.K.Sink.room l.initial.sink ≤ g.K.Sink.room l.sink + l.place;
}

abbrev pub decreases-loop-place : goal.decreases-loop-place
decreases-loop-place g l = length l.bytes - l.place
