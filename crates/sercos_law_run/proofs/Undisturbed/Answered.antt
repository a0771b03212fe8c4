-- In an undisturbed epoch answers come in time, and no request is broken.
use Rattle.sercos_law_run.proofs.Words.{◌≡◌, ◌⊎◌, inl, inr, ℕ, ◌+◌, ◌<◌, ◌≤◌, Bool, true, false, if◌then◌else◌, List, [], ◌∷◌, ◌++◌, length, Option, Some, None, refl, ap, ◌∙◌, subst, arith, or_parts, is_some, Job, Request, Outcome, Answer, answer_words, is_whole, outcome_of, RingView, Begun, answers_it, begun_by, CycleView, EventsView, Fall, Known, Task, known_of, Report, Past, fall_of, broken, events_told, Carry, Restarts, Heard, View, epoch_begun, AreClean, nothing_old, age_in, drive_at, no_events, master_calls, restart_events, IsRun, IsClear, IsReportOf, with_told, told_at_end, HasOutcome, HasReport, behind_mdt, view_of, views_of, IsOpened, KeepsAll, AreUndisturbed, IsUndisturbed, StartsEpoch, views_since, TellsNoFall, ages_in_time, answers_at_age, stays_clean}
use Rattle.sercos_step.specs.declared.request.Outcome.TheVariants as outcome
use Rattle.sercos_law_run.proofs.Views.Members.{members_count}
use Rattle.sercos_law_run.proofs.Headline.HeadlineRuns.{keeps_all}
use Rattle.sercos_law_run.proofs.Undisturbed.Checks.PassedCycles.{views_split}
use Rattle.sercos_law_run.proofs.Undisturbed.NeverFalls.{begins_so, runs_split, never_falls}
use Rattle.sercos_law_run.proofs.Undisturbed.Arriving.Comes.{none_below}

-- no answers end a request as broken
unbroken_by : (error whole : Bool) (refused complete : Outcome) → (refused ≡ outcome.Broken → ⊥) → (complete ≡ outcome.Broken → ⊥) → (if error then Some refused else (if whole then Some complete else None)) ≡ Some outcome.Broken → ⊥
unbroken_by true whole refused complete no_refused no_complete is = let same : refused ≡ outcome.Broken = cc in no_refused same
unbroken_by false true refused complete no_refused no_complete is = let same : complete ≡ outcome.Broken = cc in no_complete same
unbroken_by false false refused complete no_refused no_complete is = cc

pub outcome_unbroken : (q : Request) (answers : List Answer) → outcome_of q answers ≡ Some outcome.Broken → ⊥
outcome_unbroken q [] is = cc
outcome_unbroken q (a ∷ answers) is = unbroken_by a.error (is_whole q (answer_words answers ++ a.word ∷ [])) _ _ (λ same. cc)
    (λ same. cc) is

not_broken : (x : Report) (begun : List Begun) (tasks : List Task) → x.outcome ≡ outcome.Broken → IsReportOf x begun tasks → ⊥
not_broken x (b ∷ older) (t ∷ tasks) is (inl same) = outcome_unbroken b.request b.answers (same.1 ∙ ap (λ (o : Outcome). Some o) is)
not_broken x (b ∷ older) (t ∷ tasks) is (inr other) = not_broken x older tasks is other
not_broken x [] tasks is report = report
not_broken x (b ∷ older) [] is report = report

no_fall_told : (s : Known) (p : Past) (e : EventsView) → fall_of s p ≡ None → e.fall ≡ None → (events_told s p e).fall ≡ None
no_fall_told s p e none before = rw (none, before) refl

-- A CYCLE IN WHICH THE MASTER DOESN'T RESTART and at whose end the ring doesn't fall: its record has no fall, and no outcome of a broken
-- request.
module _ (r : RingView) (jobs : List Job) (carry : Carry) (restarts : Restarts) (opened : IsOpened r jobs) where
  pub tells_going : (t : CycleView) (j : List CycleView) → IsRun r jobs carry restarts (t ∷ j) → IsClear (t ∷ j) → restarts (length j) 0 ≡ false → fall_of (known_of r) (behind_mdt r jobs carry restarts t.sent j) ≡ None → TellsNoFall t
  tells_going t j run clear goes_on none = record {
    fall = ap (λ (e : EventsView). e.fall) run.1.events ∙ no_fall_told (known_of r) (behind_mdt r jobs carry restarts t.sent j) (restart_events r jobs restarts (length j) (master_calls r carry restarts j)) none (ap (λ (e : EventsView). e.fall) quiet);
    unbroken = λ number told. unbroken number ((keeps.reported.events number outcome.Broken).0 told);
  }
    where
      quiet : restart_events r jobs restarts (length j) (master_calls r carry restarts j) ≡ no_events
      quiet = rw goes_on refl

      keeps : KeepsAll r jobs carry restarts t j
      keeps = keeps_all r jobs carry restarts opened t j run clear

      ended_so : (k number : ℕ) (o : Option Report) → k < length r.drives → (behind_mdt r jobs carry restarts t.sent j).now.report k ≡ o → HasReport (with_told o []) number outcome.Broken → ⊥
      ended_so k number None below is told = told
      ended_so k number (Some x) below is (inl same) = not_broken x (begun_by ((behind_mdt r jobs carry restarts t.sent j).calls k)) ((behind_mdt r jobs carry restarts t.sent j).tasks k) same.1 (keeps.reported.right k x below is)
      ended_so k number (Some x) below is (inr more) = more

      unbroken : (number : ℕ) → (HasOutcome (restart_events r jobs restarts (length j) (master_calls r carry restarts j)).outcomes number outcome.Broken
          ⊎ ((k : ℕ) × (k < length (known_of r).drives) × HasReport (told_at_end (is_some (fall_of (known_of r) (behind_mdt r jobs carry restarts t.sent j))) ((behind_mdt r jobs carry restarts t.sent j).now.report k)
          (broken (behind_mdt r jobs carry restarts t.sent j) k) []) number outcome.Broken)) → ⊥
      unbroken number (inl told) = subst (λ (e : EventsView). HasOutcome e.outcomes number outcome.Broken) quiet told
      unbroken number (inr (k, below, told)) = ended_so k number _ (let count = members_count r in omega (arith, below, count)) refl (subst (λ (o : Option Fall). HasReport (told_at_end (is_some o) ((behind_mdt r jobs carry restarts t.sent j).now.report k)
          (broken (behind_mdt r jobs carry restarts t.sent j) k) []) number outcome.Broken) none told)

  pub tells_in : (t : CycleView) (j : List CycleView) → IsRun r jobs carry restarts (t ∷ j) → IsClear (t ∷ j) → IsUndisturbed r carry restarts t j → fall_of (known_of r) (behind_mdt r jobs carry restarts t.sent j) ≡ None → TellsNoFall t
  tells_in t j run clear calm none = tells_going t j run clear (none_below (length r.drives + 1) (restarts (length j)) (or_parts _ _ calm).0 0 (omega arith)) none

module _ (r : RingView) (jobs : List Job) (carry : Carry) (restarts : Restarts) (opened : IsOpened r jobs) where
  -- No step gets older than busy time and one cycle ..
  clean_so : (cycles before : List CycleView) → IsRun r jobs carry restarts (cycles ++ before) → IsClear (cycles ++ before)
      → StartsEpoch r jobs carry restarts before → AreUndisturbed r carry restarts cycles before → (k : ℕ) → k < length r.drives
      → AreClean (views_since r jobs carry restarts k cycles before) (views_of r jobs carry restarts k before)
  clean_so cycles before run clear starts calm k below =
      let all = never_falls r jobs carry restarts opened cycles before run clear starts calm in
      stays_clean (drive_at r k).busy (views_since r jobs carry restarts k cycles before) (views_of r jobs carry restarts k before) (runs_split r jobs carry restarts opened cycles before run clear k below) (begins_so r jobs carry restarts opened cycles before run clear starts k below).1
      (all.whole k below) (all.passed k below)

  pub ages_undisturbed : (cycles before : List CycleView) → IsRun r jobs carry restarts (cycles ++ before) → IsClear (cycles ++ before)
      → StartsEpoch r jobs carry restarts before → AreUndisturbed r carry restarts cycles before → (k : ℕ) → k < length r.drives
      → age_in (views_of r jobs carry restarts k (cycles ++ before)) ≤ (drive_at r k).busy + 1
  ages_undisturbed [] before run clear starts calm k below =
      let begins = begins_so r jobs carry restarts opened [] before run clear starts k below in
      let none = nothing_old (drive_at r k).busy (views_of r jobs carry restarts k before) begins.0 begins.1 in omega (arith, none)
  ages_undisturbed (t ∷ cycles) before run clear starts calm k below =
      let begins = begins_so r jobs carry restarts opened (t ∷ cycles) before run clear starts k below in
      let none = nothing_old (drive_at r k).busy (views_of r jobs carry restarts k before) begins.0 begins.1 in
      let young = ages_in_time (drive_at r k).busy (view_of r jobs carry restarts k t (cycles ++ before)) (views_since r jobs carry restarts k cycles before) (views_of r jobs carry restarts k before)
      (runs_split r jobs carry restarts opened (t ∷ cycles) before run clear k below) (clean_so (t ∷ cycles) before run clear starts calm k below) in
      (omega (arith, (ap (λ (l : List View). age_in l) (views_split r jobs carry restarts k (t ∷ cycles) before)), young, none))

  -- .. and an answer comes exactly then.
  pub answers_undisturbed : (t : CycleView) (cycles before : List CycleView) → IsRun r jobs carry restarts (t ∷ (cycles ++ before))
      → IsClear (t ∷ (cycles ++ before)) → StartsEpoch r jobs carry restarts before → AreUndisturbed r carry restarts (t ∷ cycles) before
      → (k : ℕ) (a : Heard) → k < length r.drives → (view_of r jobs carry restarts k t (cycles ++ before)).heard ≡ Some a
      → answers_it (epoch_begun (views_of r jobs carry restarts k (cycles ++ before))) a.status ≡ true
      → age_in (views_of r jobs carry restarts k (cycles ++ before)) ≡ (drive_at r k).busy + 1
  answers_undisturbed t cycles before run clear starts calm k a below hears fits =
      let split = views_split r jobs carry restarts k cycles before in
      let all = never_falls r jobs carry restarts opened (t ∷ cycles) before run clear starts calm in
      ap (λ (l : List View). age_in l) split
      ∙ answers_at_age (drive_at r k).busy (view_of r jobs carry restarts k t (cycles ++ before)) a (views_since r jobs carry restarts k cycles before) (views_of r jobs carry restarts k before)
      (runs_split r jobs carry restarts opened (t ∷ cycles) before run clear k below) (begins_so r jobs carry restarts opened (t ∷ cycles) before run clear starts k below).1 (clean_so cycles before run.0 clear.0 starts calm.0 k below) (all.whole k below).1.master hears
      (subst (λ (l : List View). answers_it (epoch_begun l) a.status ≡ true) split fits)

  -- So it is in an undisturbed epoch.
  pub tells_no_fall : (t : CycleView) (cycles before : List CycleView) → IsRun r jobs carry restarts (t ∷ (cycles ++ before)) → IsClear (t ∷ (cycles ++ before)) → StartsEpoch r jobs carry restarts before
      → AreUndisturbed r carry restarts (t ∷ cycles) before → TellsNoFall t
  tells_no_fall t cycles before run clear starts calm =
      tells_in r jobs carry restarts opened t (cycles ++ before) run clear calm.1 (never_falls r jobs carry restarts opened (t ∷ cycles) before run clear starts calm).stays.1
