use Rattle.std.proofs.Common.{◌≡◌, ℕ, ◌++◌, List, drop}
use Rattle.std.specs.List.{flat_map}
use Rattle.sercos_trace.specs.Texts.{outcome_text}
use Rattle.sercos_trace.specs.MarkedWritten.{seen, HasTaken}
use Rattle.sercos_trace.proofs.event_text.write_outcomes.Given as goal

abbrev pub invariant-loop-outcome : goal.invariant-loop-outcome
invariant-loop-outcome g l = record {
  front : List ℕ;
  whole : front ++ flat_map (outcome_text l.cycle) (drop l.outcome-index l.outcomes) ≡ flat_map (outcome_text l.cycle) l.outcomes;
  taken : HasTaken (seen l.mark g.K.Sink.held g.K.Sink.faults g.K.Sink.room l.initial.sink) (seen l.mark g.K.Sink.held g.K.Sink.faults g.K.Sink.room l.sink) front;
}
