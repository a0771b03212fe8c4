use Rattle.std.proofs.Common.{inl, inr}
use Rattle.sercos_io.specs.declared.status.Status.TheVariants.{Refused}
use Rattle.sercos_trace.specs.Written.{seen}
use Rattle.sercos_multi.proofs.AnswerLemmas.{ends_early, ends_later}
use Rattle.sercos_multi.proofs.answering.refuse_document.Goals as goal

pub returns-in-Ok : goal.returns-in-Ok
returns-in-Ok g c = elim c.refuse.ensures [
  | inl none ↦ absurd (c.requires none.0)
  | inr written ↦ ends_later (seen g.K.Sink.held g.K.Sink.faults g.K.Sink.room c.args.sink.now) (seen g.K.Sink.held g.K.Sink.faults g.K.Sink.room c.write_document.new.sink) (seen g.K.Sink.held g.K.Sink.faults g.K.Sink.room c.refuse.new.sink)
      Refused _ _ c.refuse.result c.in-Ok.ensures written.1
]

pub returns-in-Err : goal.returns-in-Err
returns-in-Err g c = rw c.fault_status.ensures (ends_early _ _ Refused _ _ c.in-Err.ensures)
