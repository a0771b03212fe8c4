-- The requests of a run are tracked cycle by cycle.
use Rattle.std.proofs.Common.{◌≡◌, ℕ, ◌+◌, true, List, [], ◌∷◌, ◌++◌, length, refl, sym, ap, ◌∙◌, arith}
use Rattle.sercos_step.specs.declared.request.Job.{Job}
use Rattle.sercos_step.specs.declared.request.Outcome.{Outcome}
use Rattle.sercos_block.specs.Views.{RingView}
use Rattle.sercos_trace.specs.Views.{CycleView}
use Rattle.sercos_script.specs.Links.{Carry, Restarts}
use Rattle.sercos_law_run.specs.Journal.Runs.{run_of}
use Rattle.sercos_backup.specs.declared.tracked.Tracked.{Tracked}
use Rattle.sercos_backup.specs.Tracking.{tracked}
use Rattle.sercos_app.specs.Journals.{OfRun, HasMade}
use Rattle.sercos_law_trace.specs.Told.Told.{told_in}
use Rattle.sercos_app.specs.Tracking.{HasNoted}
use Rattle.sercos_law_trace.proofs.Theorems.{told_more}
use Rattle.sercos_app.proofs.JournalLemmas.{journal_more, journal_is, made_of}

pub noted_none : {R : Type 0} (stands : R → RingView → List Job → Carry → Restarts → List CycleView → Type 0) (ring : R) (list : List Tracked) → HasNoted stands ring ring 0 list list
noted_none stands ring list = record {
  journal = record { cycles = []; count = refl; stands_for = λ r jobs carry restarts s. s };
  noted = λ jobs is. is;
}

pub noted_next : {R : Type 0} (stands : R → RingView → List Job → Carry → Restarts → List CycleView → Type 0) (old mid new : R) (k : ℕ) (before list after : List Tracked) (m : CycleView)
    → HasNoted stands old mid k before list
    → ((r : RingView) (jobs : List Job) (carry : Carry) (restarts : Restarts) (j : List CycleView) → stands mid r jobs carry restarts j → stands new r jobs carry restarts (m ∷ j))
    → ((told : List (ℕ × Outcome)) (jobs : List Job) → list ≡ tracked told jobs → after ≡ tracked (told ++ m.events.outcomes) jobs)
    → HasNoted stands old new (k + 1) before after
unfolding journal_more
noted_next stands old mid new k before list after m done turn notes = record {
  journal = journal_more stands old mid new k m done.journal turn;
  noted = λ jobs is. notes (told_in done.journal.cycles) jobs (done.noted jobs is) ∙ ap (λ told. tracked told jobs) (sym (told_more m done.journal.cycles));
}

-- All cycles of a run.
pub noted_run : {R : Type 0} (stands : R → RingView → List Job → Carry → Restarts → List CycleView → Type 0)
    → ((ring : R) (r : RingView) (jobs : List Job) (carry : Carry) (restarts : Restarts) (j : List CycleView) → stands ring r jobs carry restarts j → j ≡ run_of r jobs carry restarts (length j))
    → (old new : R) (m n : ℕ) (before after : List Tracked) → m ≡ n → HasNoted stands old new m before after
    → OfRun stands old n (λ run. (jobs : List Job) → before ≡ tracked [] jobs → after ≡ tracked (told_in run) jobs)
noted_run stands law old new m n before after same done = λ r jobs carry restarts s asked is.
    done.noted asked is ∙ ap (λ j. tracked (told_in j) asked) (journal_is stands law old new m done.journal r jobs carry restarts s ∙ ap (run_of r jobs carry restarts) same)

pub noted_made : {R : Type 0} (stands : R → RingView → List Job → Carry → Restarts → List CycleView → Type 0)
    → ((ring : R) (r : RingView) (jobs : List Job) (carry : Carry) (restarts : Restarts) (j : List CycleView) → stands ring r jobs carry restarts j → j ≡ run_of r jobs carry restarts (length j))
    → (old new : R) (m n : ℕ) (before after : List Tracked) → m ≡ n → HasNoted stands old new m before after → HasMade stands old new n true
noted_made stands law old new m n before after same done = made_of stands law old new n m true (omega (arith, same)) (λ whole. same) done.journal
