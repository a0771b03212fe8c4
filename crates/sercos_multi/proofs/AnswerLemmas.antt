-- From what was written to the status of an answer.
use Rattle.std.proofs.Common.{ℕ, ◌+◌, ◌≤◌, List, ◌++◌, length, Result, Ok, Err, ◌∙◌, subst, arith, length-append}
use Rattle.std.proofs.KnownBytes.{Appends-trans}
use Rattle.sercos_model.specs.Streams.{Rose}
use Rattle.sercos_model.proofs.KnownBytes.{Appends-prefix, Appends-front}
use Rattle.sercos_io.specs.declared.status.Status.{Status}
use Rattle.sercos_trace.specs.Written as plain
use Rattle.sercos_call.specs.TopCall.{fault_status}
use Rattle.sercos_call.specs.Outcome.{SinkChange, Writes}
use Rattle.sercos_call.specs.Outcome.Writes.{whole, short}
use Rattle.sercos_multi.specs.Ended.{ended_by}

abbrev pub between : plain.Seen → plain.Seen → SinkChange
between a b = record { held = a.held; held' = b.held; faults = a.faults; faults' = b.faults; room = a.room }

pub ends : {T E : Type 0} (a b : plain.Seen) (r : Result T E) (status : Status) (text : List ℕ) → plain.Writes a b r text → Writes status text (between a b) (ended_by r status)
ends a b (Ok x) status text w = whole w.taken w.faultless
ends a b (Err e) status text w = short w.count w.few w.taken w.cause.0 w.cause.1 (λ fits. let full = w.full in absurd (omega (arith, full, fits)))

pub ends_early : (a b : plain.Seen) (status : Status) (front text : List ℕ) → plain.HasFailed a b front → Writes status (front ++ text) (between a b) (fault_status status)
ends_early a b status front text w =
    let few = w.few in let full = w.full in let sum = length-append front text in
    short w.count (omega (arith, few, sum)) (Appends-front a.held b.held front text w.count (omega (arith, few)) w.taken) w.cause.0 w.cause.1 (λ fits. absurd (omega (arith, full, fits, sum)))

pub ends_later : (a b c : plain.Seen) (status : Status) (front text : List ℕ) (result : Status) → plain.HasTaken a b front → Writes status text (between b c) result → Writes status (front ++ text) (between a c) result
ends_later a b c status front text result first (whole appends same) = whole (Appends-trans a.held b.held c.held front text first.taken appends) (same ∙ first.faultless)
ends_later a b c status front text result first (short count below appends kept rose full) =
    let sum = length-append front text in let left = first.room_left in
    short (length front + count) (omega (arith, below, sum)) (Appends-prefix a.held b.held c.held front text count first.taken appends)
    (subst (λ n. n ≤ c.faults) first.faultless kept) (subst (λ n. Rose n c.faults) first.faultless rose) (λ fits. full (omega (arith, fits, sum, left)))
