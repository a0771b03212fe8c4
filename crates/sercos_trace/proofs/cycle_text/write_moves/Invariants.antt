use Rattle.std.proofs.Common.{◌≡◌, ℕ, ◌++◌, List, [], drop, if◌then◌else◌}
use mathlib.Core.Bool.{beq}
use Rattle.std.specs.List.{flat_map}
use Rattle.sercos_trace.specs.Texts.{move_text}
use Rattle.sercos_trace.specs.MarkedWritten.{seen, HasTaken}
use Rattle.sercos_trace.specs.declared.record.Move.{Move}
use Rattle.sercos_trace.proofs.cycle_text.write_moves.Given as goal

abbrev pub invariant-loop-moved : goal.invariant-loop-moved
invariant-loop-moved g l = record {
  front : List ℕ;
  whole : front ++ flat_map (λ (m : Move). if beq m.late l.late then move_text l.cycle m else []) (drop l.moved-index l.moves) ≡ flat_map (λ (m : Move). if beq m.late l.late then move_text l.cycle m else []) l.moves;
  taken : HasTaken (seen l.mark g.K.Sink.held g.K.Sink.faults g.K.Sink.room l.initial.sink) (seen l.mark g.K.Sink.held g.K.Sink.faults g.K.Sink.room l.sink) front;
}
