-- The status of an answer after it was written.
use Rattle.std.specs.Prelude.{◌≡◌, ◌≢◌, Result, Ok, Err}
use Rattle.sercos_io.specs.declared.status.Status.{Status}
use Rattle.sercos_io.specs.declared.status.Status.TheVariants.{Memory, Refused}
use Rattle.sercos_call.specs.TopCall.{fault_status}
use Rattle.sercos_call.specs.Outcome.{SinkChange, Writes}
use Rattle.sercos_document.specs.declared.refusal.BadDocument.TheVariants as bads
use Rattle.sercos_multi.specs.declared.opening.Unopened.{Unopened}
use Rattle.sercos_multi.specs.declared.opening.Unopened.TheVariants as unopened
use Rattle.sercos_multi.specs.Asking.{document_line}

abbrev pub ended_by : {T E : Type 0} → Result T E → Status → Status
ended_by (Ok x) status = status
ended_by (Err e) status = fault_status status

-- how refusing what isn't opened ends: `Memory` is not a refusal
abbrev pub EndsUnopened : Unopened → SinkChange → Type 0 → Status → Type 0
EndsUnopened unopened.Memory sink Unwritten status = (status ≡ Memory) × Unwritten
EndsUnopened (unopened.Refused n bad) sink Unwritten status = Writes Refused (document_line n bad) sink status

abbrev pub IsTold : Unopened → Type 0
IsTold unopened.Memory = Unit {0}
IsTold (unopened.Refused n bad) = bad ≢ bads.Memory
