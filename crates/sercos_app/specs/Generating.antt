-- What `gen` answers to a number of drives.
use Rattle.std.specs.Prelude.{ℕ, List, [], ◌∷◌, ◌++◌, codes, reverse, Option, Some, None}
use Rattle.sercos_io.specs.declared.status.Status.TheVariants.{Done}
use Rattle.sercos_step.specs.declared.request.Job.{Job}
use Rattle.sercos_block.specs.Views.{RingView}
use Rattle.sercos_script.specs.Links.{Carry, Restarts}
use Rattle.sercos_text.specs.Templates.{line_text}
use Rattle.sercos_text.specs.Templates.Value.{number}
use Rattle.sercos_trace.specs.declared.record.Totals.{Totals}
use Rattle.sercos_law_run.specs.Journal.Runs.{run_of}
use Rattle.sercos_config.specs.Generated.{generated}
use Rattle.sercos_answer.specs.Answer.{Answer, line_feed}
use Rattle.sercos_law_run.specs.Totals.Totals.{totals_of}
use Rattle.sercos_opened.specs.Kept.{document_run, IsDocumentRun}

-- The summary of the run of n drives. In the parts of the line a `D` is a number: of drives and of cycles; the first cycle
-- commanded phase 4, if there is one; and the counts.
abbrev pub head_text : ℕ → ℕ → List ℕ
head_text n cycles = line_text (codes "gen D cycles D phase4 ") (number n ∷ number cycles ∷ [])

unfoldable pub first_text : Option ℕ → List ℕ
first_text None = line_text (codes "none") []
first_text (Some cycle) = line_text (codes "D") (number cycle ∷ [])

abbrev pub counts_text : Totals → List ℕ
counts_text t =
    line_text (codes " complete D refused D broken D falls D unseen D")
    (number t.complete ∷ number t.refused ∷ number t.broken ∷ number t.falls ∷ number t.unseen ∷ [])

unfoldable pub gen_line : ℕ → Totals → List ℕ
gen_line n t = head_text n t.cycles ++ (first_text t.phase4 ++ (counts_text t ++ line_feed))

-- the answer that is the summary of a ring's run, for its number of cycles
abbrev pub run_summed : ℕ → RingView → List Job → Carry → Restarts → Answer
run_summed n r jobs carry restarts = record {
  status = Done;
  output = gen_line n (totals_of (reverse (run_of r jobs carry restarts r.cycles)));
}

-- the answer to a number of drives: the summary of the run of the document that is generated for it
unfoldable pub gen_answer : Carry → Restarts → ℕ → Answer
gen_answer carry restarts n = record {
  status = Done;
  output = gen_line n (totals_of (reverse (document_run carry restarts (generated n))));
}

-- what is summed is a run of the document, which keeps all that is promised of its cycles
abbrev pub RunsGenerated : Carry → Restarts → ℕ → Type 0
RunsGenerated carry restarts n = IsDocumentRun carry restarts (generated n)
