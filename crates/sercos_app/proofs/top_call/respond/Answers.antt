use Rattle.std.proofs.Common.{sym, ◌∙◌, refl, ap, Err, []}
use Rattle.sercos_io.specs.declared.status.Status.TheVariants.{BadWords, ReadFault, Memory, TooLong}
use Rattle.sercos_words.specs.Form.{reads_input}
use Rattle.sercos_call.specs.TopCall.{TakesAtMost}
use Rattle.sercos_call.specs.Outcome.Stops.{no_form, unreadable, too_many, no_memory}
use Rattle.sercos_call.specs.Outcome.Outcome.{stopped}
use Rattle.sercos_call.proofs.Outcomes.{takes_none, stays_read}
use Rattle.sercos_call.proofs.ReplyLemmas.{reads_nothing, reads_all}
use Rattle.sercos_app.proofs.Outcomes.{answer_ends}
use Rattle.sercos_app.proofs.top_call.respond.Goals as goal

pub returns-in-Ok-None : goal.returns-in-Ok-None
returns-in-Ok-None g c = record { how = stopped BadWords (no_form (sym c.in-Ok-None.ensures.value ∙ c.in-Ok-None.field-0-is) refl refl refl) refl refl }

pub returns-in-Err : goal.returns-in-Err
returns-in-Err g c = record { how = stopped Memory (no_memory refl (takes_none 1048576 _ _ refl) (λ _. refl)) refl refl }

pub returns-then-not-reads_input : goal.returns-then-not-reads_input
returns-then-not-reads_input g c =
    answer_ends _ _ _ c.in-Ok-Some.form [] _ _ _ _ _ (sym c.in-Ok-Some.ensures.value ∙ c.in-Ok-Some.field-0-is) refl
    (reads_nothing _ _ _ c.if-not-reads_input.ensures refl refl) (ap g.K.Sink.faults) c.answer.ensures

pub returns-in-Err-ReadFault : goal.returns-in-Err-ReadFault
returns-in-Err-ReadFault g c =
    let cause = rw (c.in-Err-ReadFault.field-0-is) at c.in-Err-ReadFault.ensures.cause in
    let lost = rw (c.in-Err-ReadFault.field-0-is) at c.in-Err-ReadFault.ensures.lost in
    let takes : TakesAtMost 1048576 _ _ = record { taken = lost.0; few = lost.2; consumed = lost.1 } in
    record { how = stopped ReadFault (unreadable (ap reads_input (sym c.in-Ok-Some.ensures.value ∙ c.in-Ok-Some.field-0-is) ∙ sym c.if-not-reads_input.ensures) cause.0 cause.1 takes) refl refl }

pub returns-in-Err-TooLong : goal.returns-in-Err-TooLong
returns-in-Err-TooLong g c =
    let cause = rw (c.in-Err-TooLong.field-0-is) at c.in-Err-TooLong.ensures.cause in
    let taken = c.in-Err-TooLong.ensures.too_long (ap Err c.in-Err-TooLong.field-0-is) in
    record { how = stopped TooLong (too_many (ap reads_input (sym c.in-Ok-Some.ensures.value ∙ c.in-Ok-Some.field-0-is) ∙ sym c.if-not-reads_input.ensures) cause (record { taken = taken.0; many = taken.2; consumed = taken.1 })) refl refl }

pub returns-in-Err-Memory : goal.returns-in-Err-Memory
returns-in-Err-Memory g c =
    let cause = rw (c.in-Err-Memory.field-0-is) at c.in-Err-Memory.ensures.cause in
    let lost = rw (c.in-Err-Memory.field-0-is) at c.in-Err-Memory.ensures.lost in
    let takes : TakesAtMost 1048576 _ _ = record { taken = lost.0; few = lost.2; consumed = lost.1 } in
    record { how = stopped Memory (no_memory cause takes (stays_read _ _ (ap reads_input (sym c.in-Ok-Some.ensures.value ∙ c.in-Ok-Some.field-0-is) ∙ sym c.if-not-reads_input.ensures))) refl refl }

pub returns : goal.returns
returns g c =
    let read = c.in-Ok.ensures.ok in
    answer_ends _ _ _ c.in-Ok-Some.form c.in-Ok.bytes.items _ _ _ _ _ (sym c.in-Ok-Some.ensures.value ∙ c.in-Ok-Some.field-0-is) c.in-Ok.ensures.cause
    (reads_all _ _ _ _ c.if-not-reads_input.ensures (record { consumed = read.0; ended = read.1; fits = read.2 }))
    (ap g.K.Sink.faults) (rw (c.as_slice.ensures.value) at c.answer-2.ensures)
