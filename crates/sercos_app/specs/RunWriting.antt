-- How the writing of a run ends.
use Rattle.std.specs.Prelude.{◌≡◌, ℕ, List, reverse, Result, IfOk, is_ok}
use Rattle.sercos_step.specs.declared.request.Job.{Job}
use Rattle.sercos_timing.specs.Views.{WishesView}
use Rattle.sercos_block.specs.Views.{RingView}
use Rattle.sercos_trace.specs.Views.{CycleView}
use Rattle.sercos_trace.specs.Written.{Seen, Writes}
use Rattle.sercos_trace.specs.declared.record.Totals.{Totals}
use Rattle.sercos_script.specs.Links.{Carry, Restarts}
use Rattle.sercos_law_run.specs.Totals.Totals.{totals_of}
use Rattle.sercos_app.specs.Journals.{OfRun, HasMade, journal_text}

pub record WritesRun {R E : Type 0} (stands : R → RingView → List Job → Carry → Restarts → List CycleView → Type 0) (w : WishesView)
    (old new : R) (n : ℕ) (a b : Seen) (result : Result Totals E) : Type 0 where
  pub made : HasMade stands old new n (is_ok result)
  pub totals : IfOk result (λ t. OfRun stands old n (λ run. t ≡ totals_of (reverse run)))
  pub written : OfRun stands old n (λ run. Writes a b result (journal_text w run))
