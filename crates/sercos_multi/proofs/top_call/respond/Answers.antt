use Rattle.std.proofs.Common.{rules, ◌≡◌, true, false, sym, refl, ap, Err}
use Rattle.std.specs.Prelude.{is_none}
use Rattle.sercos_io.specs.declared.status.Status.TheVariants.{BadWords, ReadFault, Memory, TooLong}
use Rattle.sercos_call.specs.TopCall.{TakesAtMost}
use Rattle.sercos_call.specs.Outcome.Stops.{no_form, unreadable, too_many, no_memory}
use Rattle.sercos_call.specs.Outcome.Outcome.{stopped}
use Rattle.sercos_call.proofs.Outcomes.{stays_read}
use Rattle.sercos_call.proofs.ReplyLemmas.{reads_all, answer_ends}
use Rattle.sercos_multi.specs.Words.{form_of}
use Rattle.sercos_multi.proofs.TopLemmas.{reads_none}
use Rattle.sercos_multi.proofs.WordLemmas.{named, unnamed}
use Rattle.sercos_multi.proofs.top_call.respond.Goals as goal

pub returns-then-is_none : goal.returns-then-is_none
returns-then-is_none g c =
    let none : is_none (form_of c.args.words.now) ≡ true = search rules in
    record {
      words = λ none. refl;
      how =
          stopped BadWords (no_form (unnamed (form_of c.args.words.now) none) refl refl refl) refl refl;
    }

pub returns-in-Err-ReadFault : goal.returns-in-Err-ReadFault
returns-in-Err-ReadFault g c =
    let some : is_none (form_of c.args.words.now) ≡ false = search rules in
    let (form, is) = named (form_of c.args.words.now) some in
    let cause = rw (c.in-Err-ReadFault.field-0-is) at c.in-Err-ReadFault.ensures.cause in
    let lost = rw (c.in-Err-ReadFault.field-0-is) at c.in-Err-ReadFault.ensures.lost in
    let takes : TakesAtMost 1048576 _ _ = record { taken = lost.0; few = lost.2; consumed = lost.1 } in
    record {
      words = λ none. absurd (cc);
      how =
          stopped ReadFault (unreadable (reads_none (form_of c.args.words.now) form is) cause.0 cause.1 takes) refl refl;
    }

pub returns-in-Err-TooLong : goal.returns-in-Err-TooLong
returns-in-Err-TooLong g c =
    let some : is_none (form_of c.args.words.now) ≡ false = search rules in
    let (form, is) = named (form_of c.args.words.now) some in
    let cause = rw (c.in-Err-TooLong.field-0-is) at c.in-Err-TooLong.ensures.cause in
    let taken = c.in-Err-TooLong.ensures.too_long (ap Err c.in-Err-TooLong.field-0-is) in
    record {
      words = λ none. absurd (cc);
      how =
          stopped TooLong (too_many (reads_none (form_of c.args.words.now) form is) cause (record { taken = taken.0; many = taken.2; consumed = taken.1 })) refl refl;
    }

pub returns-in-Err-Memory : goal.returns-in-Err-Memory
returns-in-Err-Memory g c =
    let some : is_none (form_of c.args.words.now) ≡ false = search rules in
    let (form, is) = named (form_of c.args.words.now) some in
    let cause = rw (c.in-Err-Memory.field-0-is) at c.in-Err-Memory.ensures.cause in
    let lost = rw (c.in-Err-Memory.field-0-is) at c.in-Err-Memory.ensures.lost in
    let takes : TakesAtMost 1048576 _ _ = record { taken = lost.0; few = lost.2; consumed = lost.1 } in
    record {
      words = λ none. absurd (cc);
      how =
          stopped Memory (no_memory cause takes (stays_read _ _ (reads_none (form_of c.args.words.now) form is))) refl refl;
    }

pub returns : goal.returns
returns g c =
    let some : is_none (form_of c.args.words.now) ≡ false = search rules in
    let (form, is) = named (form_of c.args.words.now) some in
    let read = c.in-Ok.ensures.ok in
    record {
      words = λ none. absurd (cc);
      how =
          answer_ends _ _ _ _ form c.in-Ok.bytes.items _ _ _ _ _ is c.in-Ok.ensures.cause
          (reads_all _ _ _ _ (sym (reads_none (form_of c.args.words.now) form is)) (record { consumed = read.0; ended = read.1; fits = read.2 }))
          (ap g.K.Sink.faults) (rw (c.as_slice.ensures.value) at c.answer_rings.ensures.answer);
    }
