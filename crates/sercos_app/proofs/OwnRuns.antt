-- The replay of the trace that `run` writes.
use Rattle.std.proofs.Common.{◌≡◌, ◌⊎◌, inl, inr, ℕ, ◌≤◌, true, List, [], ◌∷◌, length, reverse, Option, Some, None, Result, Ok, Err, refl, sym, ap, ◌∙◌, subst, arith}
use Rattle.std.specs.Prelude.{MatchResult, option_map}
use Rattle.std.specs.List.{All}
use Rattle.sercos_step.specs.declared.request.Job.{Job}
use Rattle.sercos_step.specs.Jobs.{AreJobs}
use Rattle.sercos_step.specs.Steps.{AreTypedJobs}
use Rattle.sercos_block.specs.Rings.{has_address, has_other_data, is_ring, wishes_of}
use Rattle.sercos_block.specs.Stores.{IsTyped}
use Rattle.sercos_block.specs.Views.{RingView}
use Rattle.sercos_answer.specs.Answer.{Answer}
use Rattle.sercos_answer.specs.Lines.{lines_of}
use Rattle.sercos_trace.specs.Views.{CycleView}
use Rattle.sercos_trace.specs.Texts.{trace_of}
use Rattle.sercos_checking.specs.declared.verdict.Verdict.TheVariants.{Clean}
use Rattle.sercos_checking.specs.Checking.{verdict_of}
use Rattle.sercos_script.specs.Links.{Carry, Restarts}
use Rattle.sercos_law_run.specs.Journal.Runs.{IsRun, IsClear, run_of}
use Rattle.sercos_document.specs.declared.refusal.BadDocument.{BadDocument}
use Rattle.sercos_document.specs.declared.refusal.BadDocument.TheVariants.{Memory}
use Rattle.sercos_law_run.proofs.Theorems.{stays_clear}
use Rattle.sercos_replay.specs.Captured.{NeverDisturbed}
use Rattle.sercos_replay.specs.Replaying.{late_start, place_answer}
use Rattle.sercos_replay.specs.Asking.{Asks, Replays, cycles_in}
use Rattle.sercos_replay.specs.Divided.{capture_part, capture_place, divided, document_part}
use Rattle.sercos_replay.specs.Places.{PlaceView}
use Rattle.sercos_replay.specs.Stations.{station_differs}
use Rattle.sercos_replay.specs.Traced.{TracesDiffer}
use Rattle.sercos_replay.specs.Undisturbed.{IsNoEarlier}
use Rattle.sercos_law_run.specs.Totals.Totals.{totals_of}
use Rattle.sercos_law_trace.specs.Clean.Ruled.{RunsFitLines}
use Rattle.sercos_law_trace.specs.Clean.Traces.{IsCleanTrace, RunsAreClean}
use Rattle.sercos_law_trace.proofs.Theorems.{few_cycles, whole_is_clean}
use Rattle.sercos_opened.specs.Kept.{carry_under, restarts_under, document_run, OpensIfTyped}
use Rattle.sercos_config.specs.Views.{DocumentView}
use Rattle.sercos_config.specs.Document.{document_of}
use Rattle.sercos_app.specs.OwnRun.{AgreesThroughout, IsCalm, IsOwnRun, MayBeOpened, OpensIfRead, OpensItsRing, OwnRunsHold, ReplaysItsRing}
use Rattle.sercos_app.proofs.RunLemmas.{run_answer_of}

abbrev pub AreMade : Type 0
AreMade = (r : RingView) (jobs : List Job) (carry : Carry) (restarts : Restarts) (n : ℕ) → IsRun r jobs carry restarts (run_of r jobs carry restarts n)

abbrev pub AreCounted : Type 0
AreCounted = (r : RingView) (jobs : List Job) (carry : Carry) (restarts : Restarts) (n : ℕ) → length (run_of r jobs carry restarts n) ≡ n

-- where nothing is disturbed, nothing is unseen
clear_so : (r : RingView) (jobs : List Job) (carry : Carry) (restarts : Restarts) (j : List CycleView) → IsRun r jobs carry restarts j → NeverDisturbed r carry restarts j → IsClear j
clear_so r jobs carry restarts [] run calm = tt
clear_so r jobs carry restarts (t ∷ j) run calm = stays_clear r jobs carry restarts (t ∷ []) j run (clear_so r jobs carry restarts j run.0 calm.0) (tt, calm.1)

module _ (made : AreMade) (count : AreCounted) (asking : (a : ℕ) (bytes : List ℕ) → Replays a bytes) (law : TracesDiffer) (fit_law : RunsFitLines) (clean_law : RunsAreClean) where
  module _ (address : ℕ) (input : List ℕ) (opens : OpensItsRing input) (carry : Carry) (restarts : Restarts) (d : DocumentView) (own : IsOwnRun carry restarts address input d) where
    may : MayBeOpened d
    may = opens own.document own.capture own.divides d own.says

    abbrev j : List CycleView
    j = document_run carry restarts d

    run : IsRun d.setup d.jobs (carry_under d carry) (restarts_under d restarts) j
    run = made d.setup d.jobs (carry_under d carry) (restarts_under d restarts) d.setup.cycles

    few : length j ≤ 50000
    few = let number = count d.setup d.jobs (carry_under d carry) (restarts_under d restarts) d.setup.cycles in let low = few_cycles d.setup may.opened.valid in omega (arith, number, low)

    counted : length j ≤ 4294967296
    counted = let low = few in omega (arith, low)

    text_is : own.capture ≡ trace_of (wishes_of d.setup) (reverse j) (totals_of (reverse j))
    text_is = own.written ∙ ap (λ (a : Answer). a.output) (run_answer_of carry restarts own.document d own.says)

    trace : IsClear j → IsCleanTrace (wishes_of d.setup) j (totals_of (reverse j))
    trace clear = whole_is_clean clean_law d.setup d.jobs (carry_under d carry) (restarts_under d restarts) may.opened may.few run clear

    clean : IsClear j → verdict_of own.capture ≡ Clean (length (lines_of own.capture))
    clean clear = subst (λ (text : List ℕ). verdict_of text ≡ Clean (length (lines_of text))) (sym text_is) (trace clear).clean

    starts : IsClear j → late_start own.capture ≡ None
    starts clear = subst (λ (text : List ℕ). late_start text ≡ None) (sym text_is) (trace clear).starts

    no_earlier : (place : PlaceView) → station_differs own.station (cycles_in own.capture) ≡ Some place → IsNoEarlier d.setup (carry_under d carry) (restarts_under d restarts) j place
    no_earlier place differs =
        law address d own.station (carry_under d carry) (restarts_under d restarts) j (totals_of (reverse j)) place own.has_station
        (record {
          ring = may.opened.valid;
          typed = may.opened.typed;
          jobs = may.opened.jobs_typed;
          run = run;
          fit = fit_law d.setup d.jobs (carry_under d carry) (restarts_under d restarts) j may.opened run counted;
        })
        (subst (λ (text : List ℕ). station_differs own.station (cycles_in text) ≡ Some place) text_is differs)

    -- a place that differs would be after the last cycle
    none : IsCalm carry restarts d → station_differs own.station (cycles_in own.capture) ≡ None
    none calm = by (station_differs own.station (cycles_in own.capture)) refl
      where
        by : (o : Option PlaceView) → station_differs own.station (cycles_in own.capture) ≡ o → o ≡ None
        by None is = refl
        by (Some place) is =
            let first = no_earlier place is in
            let low = first.within in
            let high = first.late [] j refl calm in
            absurd (omega (arith, low, high))

    agrees : IsCalm carry restarts d → AgreesThroughout address input own.capture
    agrees calm = record {
      clean = clean clear;
      starts = starts clear;
      replays = (asking address input).tells own.station own.capture asks ∙ ap (λ (o : Option PlaceView). place_answer o (length (cycles_in own.capture))) (none calm);
    }
      where
        clear : IsClear j
        clear = clear_so d.setup d.jobs (carry_under d carry) (restarts_under d restarts) j run calm

        asks : Asks address input own.station own.capture
        asks = record {
          document = own.document;
          divides = own.divides;
          d = d;
          says = own.says;
          has_station = own.has_station;
          count = length (lines_of own.capture);
          clean = clean clear;
          starts = starts clear;
        }

  pub own_runs : OwnRunsHold
  own_runs address input opens = record {
    agrees = agrees address input opens;
    differs = no_earlier address input opens;
    clean = clean address input opens;
  }

-- a document that was read may be opened
pub opens_read : OpensIfTyped → (bytes : List ℕ) (d : DocumentView) → document_of bytes ≡ Ok d → is_ring d.setup ≡ true
    → AreJobs (λ address. has_address address d.setup.drives) (λ address raw. has_other_data address raw d.setup.drives) d.jobs
    → All IsTyped d.setup.drives × AreTypedJobs d.jobs → OpensIfRead bytes
opens_read law bytes d says valid asked typed = λ e read.
    let same : d ≡ e = cc in
    subst MayBeOpened same (record { opened = law d.setup d.jobs valid asked typed.0 typed.1; few = asked.few })

-- the document of an input that a line divides
opens_parts : (input : List ℕ) (place : ℕ) → capture_place true input ≡ Some place → OpensIfRead (document_part input place) → OpensItsRing input
unfolding divided
opens_parts input place at opens document capture divides =
    let whole : Some (document_part input place, capture_part input place) ≡ Some (document, capture) = sym (ap (option_map (λ (k : ℕ). (document_part input k, capture_part input k))) at) ∙ divides in
    let parts : (document_part input place, capture_part input place) ≡ (document, capture) = cc in
    subst OpensIfRead (ap (λ (p : List ℕ × List ℕ). p.0) parts) opens

pub parts_open : {A : Type 0} (reply : Result A BadDocument) (input document : List ℕ) (place : ℕ) → capture_place true input ≡ Some place → document ≡ document_part input place
    → MatchResult reply (λ _. OpensIfRead document) (λ bad. (bad ≡ Memory) ⊎ OpensIfRead document)
    → MatchResult reply (λ _. OpensItsRing input) (λ bad. (bad ≡ Memory) ⊎ OpensItsRing input)
parts_open (Ok given) input document place at part opens = opens_parts input place at (subst OpensIfRead part opens)
parts_open (Err bad) input document place at part (inl memory) = inl memory
parts_open (Err bad) input document place at part (inr opens) = inr (opens_parts input place at (subst OpensIfRead part opens))

-- what the reply says beside its text
pub replays_ring : {A : Type 0} (made : Result A BadDocument) (address : ℕ) (input : List ℕ) → ((a : ℕ) (bytes : List ℕ) → Replays a bytes) → OwnRunsHold
    → MatchResult made (λ _. OpensItsRing input) (λ bad. (bad ≡ Memory) ⊎ OpensItsRing input)
    → MatchResult made (λ _. ReplaysItsRing address input) (λ bad. (bad ≡ Memory) ⊎ ReplaysItsRing address input)
replays_ring (Ok given) address input asking law opens = record { replays = asking address input; own = law address input opens }
replays_ring (Err bad) address input asking law (inl none) = inl none
replays_ring (Err bad) address input asking law (inr opens) = inr (record { replays = asking address input; own = law address input opens })
