-- What `run` answers to a ring document.
use Rattle.std.specs.Prelude.{◌≡◌, ℕ, List, Result, Ok, Err}
use Rattle.sercos_io.specs.declared.status.Status.TheVariants.{Done, Refused}
use Rattle.sercos_step.specs.declared.request.Job.{Job}
use Rattle.sercos_block.specs.Views.{RingView}
use Rattle.sercos_block.specs.Rings.{wishes_of}
use Rattle.sercos_script.specs.Links.{Carry, Restarts}
use Rattle.sercos_law_run.specs.Journal.Runs.{run_of}
use Rattle.sercos_document.specs.declared.refusal.BadDocument.{BadDocument}
use Rattle.sercos_document.specs.Lines.{line_of}
use Rattle.sercos_config.specs.Views.{DocumentView}
use Rattle.sercos_config.specs.Document.{document_of}
use Rattle.sercos_law_trace.specs.Clean.Traces.{IsCleanIfClear}
use Rattle.sercos_opened.specs.Kept.{IsDocumentRun, carry_under, document_run, restarts_under}
use Rattle.sercos_answer.specs.Answer.{Answer}
use Rattle.sercos_app.specs.Journals.{journal_text}

-- the answer that is the trace of a ring's run, for its number of cycles
abbrev pub run_traced : RingView → List Job → Carry → Restarts → Answer
run_traced r jobs carry restarts = record { status = Done; output = journal_text (wishes_of r) (run_of r jobs carry restarts r.cycles) }

-- the answer to the contents of a document, or to its refusal
unfoldable pub traced_answer : Carry → Restarts → Result DocumentView BadDocument → Answer
traced_answer carry restarts (Ok d) = run_traced d.setup d.jobs (carry_under d carry) (restarts_under d restarts)
traced_answer carry restarts (Err bad) = record { status = Refused; output = line_of bad }

unfoldable pub run_answer : Carry → Restarts → List ℕ → Answer
run_answer carry restarts bytes = traced_answer carry restarts (document_of bytes)

-- What is written of a document is such a run; and it is clean, if nothing was unseen.
pub record IsTracedRun (carry : Carry) (restarts : Restarts) (d : DocumentView) : Type 0 where
  pub kept : IsDocumentRun carry restarts d
  pub clean : IsCleanIfClear d.setup (document_run carry restarts d)

abbrev pub RunsItsRing : Carry → Restarts → List ℕ → Type 0
RunsItsRing carry restarts bytes = (d : DocumentView) → document_of bytes ≡ Ok d → IsTracedRun carry restarts d
