use Rattle.std.proofs.Common.{◌≡◌, ℕ, ◌++◌, List, drop}
use Rattle.std.specs.List.{flat_map}
use Rattle.sercos_trace.specs.Texts.{sent_text}
use Rattle.sercos_trace.specs.MarkedWritten.{seen, HasTaken}
use Rattle.sercos_trace.proofs.cycle_text.write_all_sent.Given as goal

abbrev pub invariant-loop-telegram : goal.invariant-loop-telegram
invariant-loop-telegram g l = record {
  front : List ℕ;
  whole : front ++ flat_map (sent_text l.cycle) (drop l.telegram-index l.sent) ≡ flat_map (sent_text l.cycle) l.sent;
  taken : HasTaken (seen l.mark g.K.Sink.held g.K.Sink.faults g.K.Sink.room l.initial.sink) (seen l.mark g.K.Sink.held g.K.Sink.faults g.K.Sink.room l.sink) front;
}
