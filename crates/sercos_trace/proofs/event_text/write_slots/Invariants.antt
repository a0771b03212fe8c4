use Rattle.sercos_trace.specs.Texts.{slots_text}
use Rattle.sercos_trace.specs.MarkedWritten.{seen, HasTaken}
use Rattle.sercos_trace.proofs.event_text.write_slots.Given as goal

abbrev pub invariant-loop-place : goal.invariant-loop-place
invariant-loop-place g l =
    HasTaken (seen l.mark g.K.Sink.held g.K.Sink.faults g.K.Sink.room l.initial.sink) (seen l.mark g.K.Sink.held g.K.Sink.faults g.K.Sink.room l.sink) (slots_text l.cycle l.wishes l.plan l.place)
