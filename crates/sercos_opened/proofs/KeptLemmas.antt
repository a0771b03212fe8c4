-- From the laws on a cycle to those on a run.
use Rattle.std.proofs.Common.{◌≡◌, ℕ, zero, suc, false, List, [], ◌∷◌, ◌++◌, length, subst}
use Rattle.sercos_step.specs.declared.request.Job.{Job}
use Rattle.sercos_block.specs.Views.{RingView}
use Rattle.sercos_script.specs.Links.{Carry, Restarts}
use Rattle.sercos_script.specs.Cuts.{has_flip}
use Rattle.sercos_script.proofs.CutLemmas.{unflipped_only_cuts}
use Rattle.sercos_trace.specs.Views.{CycleView}
use Rattle.sercos_law_run.specs.Typed.Clear.{HarmlessIsClear}
use Rattle.sercos_law_run.specs.Headline.Headline.{Headline}
use Rattle.sercos_law_run.specs.Headline.Once.{OnceAlways}
use Rattle.sercos_law_run.specs.Undisturbed.WholeRuns.{StartsUndisturbed}
use Rattle.sercos_law_run.specs.Recovery.Predicts.{Predicts}
use Rattle.sercos_law_run.specs.Recovery.Recovers.{Recovers}
use Rattle.sercos_law_run.specs.Stations.Cycles.{AlwaysPlain}
use Rattle.sercos_law_run.specs.Stations.Senders.{SendsAlone}
use Rattle.sercos_law_run.specs.Stations.Falls.{FallsHaveCause}
use Rattle.sercos_law_run.specs.Tolerance.Bears.{Tolerates}
use Rattle.sercos_law_run.specs.Tolerance.Returns.{ReturnsWhileSparse}
use Rattle.sercos_law_run.specs.Journal.Harmless.{IsHarmlessAfterCuts}
use Rattle.sercos_law_run.specs.Journal.Runs.{IsClear, IsNext, IsRun, next_record, no_drive, run_of}
use Rattle.sercos_law_run.proofs.Theorems.{both_are_harmless, cuts_are_harmless, opened}
use Rattle.sercos_config.specs.Views.{DocumentView}
use Rattle.sercos_opened.specs.Kept.{document_run, script_carry, script_run, IsDocumentRun, IsScriptRun, OpensIfTyped, OpenedIsKept}

-- each cycle that the function gives is the next one
abbrev pub AreNext : Type 0
AreNext = (r : RingView) (jobs : List Job) (carry : Carry) (restarts : Restarts) (j : List CycleView) → IsNext r jobs carry restarts (next_record r jobs carry restarts j) j

pub run_is : AreNext
    → (r : RingView) (jobs : List Job) (carry : Carry) (restarts : Restarts) (n : ℕ) → IsRun r jobs carry restarts (run_of r jobs carry restarts n)
run_is law r jobs carry restarts zero = tt
run_is law r jobs carry restarts (suc n) = (run_is law r jobs carry restarts n, law r jobs carry restarts (run_of r jobs carry restarts n))

-- the cycles up to one of a run are a run
run_before : (r : RingView) (jobs : List Job) (carry : Carry) (restarts : Restarts) (later : List CycleView) (j : List CycleView) → IsRun r jobs carry restarts (later ++ j) → IsRun r jobs carry restarts j
run_before r jobs carry restarts [] j run = run
run_before r jobs carry restarts (t ∷ later) j run = run_before r jobs carry restarts later j run.0

run_to : AreNext → (r : RingView) (jobs : List Job) (carry : Carry) (restarts : Restarts) (n : ℕ) (later : List CycleView) (t : CycleView)
    (j : List CycleView) → run_of r jobs carry restarts n ≡ later ++ t ∷ j → IsRun r jobs carry restarts (t ∷ j)
run_to next r jobs carry restarts n later t j is =
    run_before r jobs carry restarts later (t ∷ j) (subst (λ (run : List CycleView). IsRun r jobs carry restarts run) is (run_is next r jobs carry restarts n))

-- what is promised of each cycle is kept throughout a run
pub opened_is_kept : AreNext → HarmlessIsClear → OnceAlways → Headline → Predicts → StartsUndisturbed → Recovers → Tolerates
    → ReturnsWhileSparse → AlwaysPlain → FallsHaveCause → SendsAlone → OpenedIsKept
opened_is_kept next clear once law predicts starts back tolerates returns plain causes alone r jobs carry restarts cycles may =
    let to = run_to next r jobs carry restarts cycles in record {
      run = run_is next r jobs carry restarts cycles;
      clear = λ harmless. clear r jobs carry restarts (run_of r jobs carry restarts cycles) may.valid may.typed may.jobs_typed harmless
          (run_is next r jobs carry restarts cycles);
      once = λ later t j is. once r jobs carry restarts t j may.valid (to later t j is);
      keeps = λ later t j is. law r jobs carry restarts t j may (to later t j is);
      predicts = λ later t j is. predicts r jobs carry restarts t j may (to later t j is);
      starts = λ later t j is. starts r jobs carry restarts t j may (to later t j is);
      recovers = λ later t j is. back r jobs carry restarts t j may (to later t j is);
      drives = λ later t j is. plain r jobs carry restarts t j may;
      falls = λ later t j is. causes r jobs carry restarts t j may (to later t j is);
      alone = λ later t j is. alone r jobs carry restarts t j may (to later t j is);
      bears = λ later t j is. tolerates r jobs carry restarts t j may (to later t j is);
      returns = λ later t j is. returns r jobs carry restarts t j may (to later t j is);
    }

-- a ring may be opened with its requests
pub opens_if_typed : OpensIfTyped
opens_if_typed r jobs valid asked typed asked_typed = opened r jobs valid (λ k below. typed k no_drive below) asked_typed asked

-- Nothing is unseen in the run of a document whose script has no flip, if the link handed in is harmless after cuts; nor in its run over
-- its script alone.
pub document_clear : (carry : Carry) (restarts : Restarts) (d : DocumentView) → IsDocumentRun carry restarts d → has_flip d.faults ≡ false → IsHarmlessAfterCuts carry → IsClear (document_run carry restarts d)
document_clear carry restarts d kept plain harmless = kept.clear (both_are_harmless (script_carry d) carry (unflipped_only_cuts (length d.setup.drives) d.faults plain) harmless)

pub script_clear : (d : DocumentView) → IsScriptRun d → has_flip d.faults ≡ false → IsClear (script_run d)
script_clear d kept plain = kept.clear (cuts_are_harmless (script_carry d) (unflipped_only_cuts (length d.setup.drives) d.faults plain)).0
