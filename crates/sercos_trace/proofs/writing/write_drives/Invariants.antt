use Rattle.std.proofs.Common.{◌≡◌, ℕ, ◌++◌, List, drop}
use Rattle.std.specs.List.{flat_map}
use Rattle.sercos_trace.specs.Texts.{drive_text}
use Rattle.sercos_trace.specs.MarkedWritten.{seen, HasTaken}
use Rattle.sercos_trace.proofs.writing.write_drives.Given as goal

abbrev pub invariant-loop-wish : goal.invariant-loop-wish
invariant-loop-wish g l = record {
  front : List ℕ;
  whole : front ++ flat_map (drive_text) (drop l.wish-index l.drives) ≡ flat_map (drive_text) l.drives;
  taken : HasTaken (seen l.mark g.K.Sink.held g.K.Sink.faults g.K.Sink.room l.initial.sink) (seen l.mark g.K.Sink.held g.K.Sink.faults g.K.Sink.room l.sink) front;
}
