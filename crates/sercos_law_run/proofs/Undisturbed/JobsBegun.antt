-- In each cycle up to phase 3 the requests that were begun have the places of a start-up's; and if all reads have ended and there is no
-- stop, the master has made the plan.
use Rattle.sercos_law_run.proofs.Words.{◌≡◌, ℕ, ◌+◌, ◌<◌, ◌≤◌, true, false, List, [], ◌∷◌, ◌++◌, length, Option, Some, None, sym, ap, ◌∙◌, subst, arith, append_assoc, if◌then◌else◌, nat_le, is_some, slice_get, le-leb, slice_get_within, same_Some, Job, Request, Outcome, record_bytes, WishesView, wishes_of, store_of, DriveView, RingView, Begun, begun_by, CycleView, Fall, reads, reads_count, wishes_given, MemberView, known_of, member, member_of, tasks_for, reads_length, Past, outcomes, all_read, fall_of, jobs_waiting, mdt_adds, no_stop_before, Carry, Restarts, epoch_begun, begun_in, View, begun_ago, all_entries, all_writes, AreExact, IsAnswer, AreAnswers, mst_in, ats_in, drive_at, at_calls, own_mst, begin_calls, master_calls, middle, IsRun, IsClear, AreBegunTasks, behind_ats, behind_mdt, view_of, views_of, IsOpened, jobs_of, AreAt, runs_exact, is_done, is_done_in, GoesOnInTwo}
use Rattle.sercos_step.specs.declared.request.Request.TheVariants as request
use Rattle.sercos_step.specs.declared.request.Outcome.TheVariants as outcome
use Rattle.sercos_law_run.proofs.Start.CheckPasses.{ring_drive}
use Rattle.sercos_law_run.proofs.Agenda.ReadWell.{complete}
use Rattle.sercos_law_run.proofs.Views.Members.{member_is, in_known}
use Rattle.sercos_law_run.proofs.Settings.CheckRuns.{checks_give_3}
use Rattle.sercos_law_run.proofs.Settings.WellSets.{well_first}
use Rattle.sercos_law_run.proofs.Held.AnsweredRuns.{is_read_request, as_read, read_of, read_answers, answered_by, entries_stored}
use Rattle.sercos_law_run.proofs.Held.Runs.{drive_got, got_inside, small, wishes_so}
use Rattle.sercos_law_run.proofs.Headline.HeadlineRuns.{all_stand, first_store, keeps_all, spelled_in, stored_in}
use Rattle.sercos_law_run.proofs.Headline.WellRuns.{AllWell, all_well}
use Rattle.sercos_law_run.proofs.Undisturbed.JobPlaces.{Give3, begun_at, few_in_two, reading}
use Rattle.sercos_law_run.proofs.Undisturbed.PlanMade.{plan_made, read_same}
use Rattle.sercos_law_run.proofs.Settings.NoCheck127.{next_still, stays}
use Rattle.sercos_law_run.proofs.Cited.{begins_tasks, tasks_end}
use Rattle.sercos_law_run.proofs.Start.WellLemmas.{ring_is_valid}
use Rattle.sercos_law_run.proofs.Undisturbed.ChannelsKept.{phase_now}

-- what stands in the middle of what was begun
pub place_of : (all : List Request) (newer older : List Begun) (b : Begun) → AreAt all (newer ++ b ∷ older) → slice_get all (length older) ≡ Some b.request
place_of all [] older b at = at.1
place_of all (x ∷ newer) older b at = place_of all newer older b at.0

module _ (r : RingView) (jobs : List Job) (carry : Carry) (restarts : Restarts) (opened : IsOpened r jobs) where
  -- THE CHECKS FOR PHASE 3 end well.
  pub wells : (j : List CycleView) → IsRun r jobs carry restarts j → IsClear j → AllWell r jobs carry restarts opened (first_store r jobs carry restarts opened) j
  wells [] run clear = λ k below. well_first r jobs carry restarts k
  wells (t ∷ j) (run, next) (before, clear) =
      all_well r jobs carry restarts opened (first_store r jobs carry restarts opened) t j next clear
      (spelled_in r jobs carry restarts opened t j next) (stored_in r jobs carry restarts opened t j)
      (all_stand r jobs carry restarts opened j run before) (all_stand r jobs carry restarts opened (t ∷ j) (run, next) (before, clear))
      (wells j run before)

  module _ (t : CycleView) (j : List CycleView) (run : IsRun r jobs carry restarts (t ∷ j)) (clear : IsClear (t ∷ j)) where
    abbrev now : Past
    now = behind_mdt r jobs carry restarts t.sent j

    -- what was begun by now, whether the ring falls at the end of the cycle or not
    abbrev begun_of : ℕ → List Begun
    begun_of k = begun_in (view_of r jobs carry restarts k t j) (views_of r jobs carry restarts k j)

    pub begun_then : (k : ℕ) → k < length r.drives → begun_by (now.calls k) ≡ begun_of k
    begun_then k below = sym ((keeps_all r jobs carry restarts opened t j run clear).exact k below).begun_now

    gives_3 : (k : ℕ) → k < length r.drives → Give3 (begun_of k)
    gives_3 k below newer older b bytes split asks whole =
        let stands = all_stand r jobs carry restarts opened (t ∷ j) run clear k below in
        let set = wells (t ∷ j) run clear k below in
        checks_give_3 (drive_at r k).busy (store_of (drive_at r k))
        (stays (view_of r jobs carry restarts k t j) ∷ views_of r jobs carry restarts k j)
        (stands.sees.run.0, next_still (drive_at r k).busy (view_of r jobs carry restarts k t j) (views_of r jobs carry restarts k j) stands.sees.run.1)
        stands.sound set.follow set.well set.commands newer older b bytes split asks whole

    pub tasks_then : (k : ℕ) → k < length r.drives → AreBegunTasks (known_of r) k now.plan (now.waiting k) now.now.phase (begun_of k) (now.tasks k)
    tasks_then k below = subst (λ (l : List Begun). AreBegunTasks (known_of r) k now.plan (now.waiting k) now.now.phase l (now.tasks k)) (begun_then k below) (begins_tasks (known_of r) (tasks_for (known_of r) jobs) (middle r carry restarts t.sent j) k (in_known r k below))

    pub places_then : (k : ℕ) → k < length r.drives → now.now.phase ≤ 3 → AreAt (jobs_of (known_of r) now.plan k) (begun_of k)
    places_then k below low = begun_at (known_of r) k now.plan (now.waiting k) now.now.phase (begun_of k) (now.tasks k) (jobs_waiting (known_of r) jobs (middle r carry restarts t.sent j) k) low (tasks_then k below) (gives_3 k below)

    pub few_then : (k : ℕ) → k < length r.drives → now.now.phase ≤ 2 → length (begun_of k) ≤ reads_count (member (known_of r) k) + 12
    few_then k below low = few_in_two (known_of r) k now.plan (now.waiting k) now.now.phase (begun_of k) (now.tasks k) (jobs_waiting (known_of r) jobs (middle r carry restarts t.sent j) k) low (tasks_then k below) (gives_3 k below)

    -- if it doesn't fall, that is what has been begun at the end
    module _ (stays : fall_of (known_of r) (behind_mdt r jobs carry restarts t.sent j) ≡ None) where
      pub begun_end : (k : ℕ) → epoch_begun (views_of r jobs carry restarts k (t ∷ j)) ≡ begun_in (view_of r jobs carry restarts k t j) (views_of r jobs carry restarts k j)
      begun_end k = ap (λ (o : Option Fall). if is_some o then [] else begun_in (view_of r jobs carry restarts k t j) (views_of r jobs carry restarts k j)) stays

      pub begun_now : (k : ℕ) → k < length r.drives → begun_by (now.calls k) ≡ epoch_begun (views_of r jobs carry restarts k (t ∷ j))
      begun_now k below = begun_then k below ∙ sym (begun_end k)

      pub tasks_now : (k : ℕ) → k < length r.drives → AreBegunTasks (known_of r) k now.plan (now.waiting k) now.now.phase (epoch_begun (views_of r jobs carry restarts k (t ∷ j))) (now.tasks k)
      tasks_now k below = subst (λ (l : List Begun). AreBegunTasks (known_of r) k now.plan (now.waiting k) now.now.phase l (now.tasks k)) (sym (begun_end k)) (tasks_then k below)

      pub places_now : (k : ℕ) → k < length r.drives → now.now.phase ≤ 3 → AreAt (jobs_of (known_of r) now.plan k) (epoch_begun (views_of r jobs carry restarts k (t ∷ j)))
      places_now k below low = subst (AreAt (jobs_of (known_of r) now.plan k)) (sym (begun_end k)) (places_then k below low)

      pub few_now : (k : ℕ) → k < length r.drives → now.now.phase ≤ 2 → length (epoch_begun (views_of r jobs carry restarts k (t ∷ j))) ≤ reads_count (member (known_of r) k) + 12
      few_now k below low = subst (λ (l : List Begun). length l ≤ reads_count (member (known_of r) k) + 12) (sym (begun_end k)) (few_then k below low)

    -- THE ANSWERS TO THE READS: if all are complete, they are the drive's.
    abbrev pub AreComplete : Type 0
    AreComplete = (k : ℕ) → k < length (known_of r).drives → (n : ℕ) → n < reads_count (member (known_of r) k) → (bytes : List ℕ) × (slice_get (outcomes now k) n ≡ Some (outcome.Complete bytes))

    answers_now : now.now.phase ≤ 3 → AreComplete → (k : ℕ) → k < length r.drives → AreAnswers (drive_at r k) (reads (member_of (drive_at r k))) (outcomes now k)
    answers_now low whole k below = subst (λ (m : MemberView). AreAnswers (drive_at r k) (reads m) (outcomes now k)) (member_is r k) (answered_by (drive_at r k) (reads (member (known_of r) k)) (outcomes now k) each)
      where
        each : (n : ℕ) (x : Request) → slice_get (reads (member (known_of r) k)) n ≡ Some x → (o : Outcome) × (slice_get (outcomes (behind_mdt r jobs carry restarts t.sent j) k) n ≡ Some o) × IsAnswer (drive_at r k) x o
        each n x got =
            let early : n < reads_count (member (known_of r) k) =
            let less = slice_get_within (reads (member (known_of r) k)) n x got in let long = reads_length (member (known_of r) k) in
            omega (arith, less, long) in
            let bytes : List ℕ = (whole k (in_known r k below) n early).0 in
            let at =
            tasks_end (known_of r) (tasks_for (known_of r) jobs) (middle r carry restarts t.sent j) k n (outcome.Complete bytes)
            (in_known r k below) ((whole k (in_known r k below) n early).1) in
            let views : List View = stays (view_of r jobs carry restarts k t j) ∷ views_of r jobs carry restarts k j in
            let split : begun_in (view_of r jobs carry restarts k t j) (views_of r jobs carry restarts k j) ≡ at.newer ++ at.one ∷
            at.older = sym (begun_then k below) ∙ at.split in
            let is = is_read_request (member (known_of r) k) n x got in
            let of = as_read x is in
            let answer : IsAnswer (drive_at r k) (request.Read of.0 of.1) (outcome.Complete bytes) =
            let stands = all_stand r jobs carry restarts opened (t ∷ j) run clear k below in
            let rules = (ring_drive r k (drive_at r k) opened.valid (drive_got r k below)).blocks in
            read_answers (drive_at r k) x of.0 of.1 bytes rules is of.2
            (read_of (drive_at r k) (store_of (drive_at r k)) (at.older ++ begun_ago views) at.one of.0 of.1 bytes of.3
            ((same_Some at.one.request x (sym (place_of (jobs_of (known_of r) now.plan k) at.newer at.older at.one
            (subst (AreAt (jobs_of (known_of r) now.plan k)) split (places_then k below low)))
            ∙ ap (slice_get (jobs_of (known_of r) now.plan k)) at.place ∙ reading (known_of r) k now.plan n early ∙ got)) ∙ of.2)
            at.ended at.newer
            (all_entries views) (all_writes views)
            (subst (λ (l : List Begun). AreExact (store_of (drive_at r k)) l (all_entries views) (all_writes views))
            (ap (λ (l : List Begun). l ++ begun_ago views) split ∙ append_assoc at.newer (at.one ∷ at.older) (begun_ago views))
            (runs_exact (drive_at r k).busy (store_of (drive_at r k)) views
            (small r jobs carry restarts opened (first_store r jobs carry restarts opened) k below) (
              stands.sees.run.0,
              next_still (drive_at r k).busy (view_of r jobs carry restarts k t j)
                  (views_of r jobs carry restarts k j) stands.sees.run.1,
            ) stands.sound))
            (entries_stored (drive_at r k) views stands.stored)) in (
              outcome.Complete bytes,
              ((whole k (in_known r k below) n early).1),
              subst
                  (λ (y : Request). IsAnswer (drive_at r k) y (outcome.Complete bytes)) (sym of.2) answer,
            )

    pub asked_now : now.now.phase ≤ 3 → AreComplete → wishes_given (known_of r) (outcomes now) ≡ wishes_of r
    asked_now low whole = wishes_so r jobs carry restarts opened (first_store r jobs carry restarts opened) (outcomes now) (answers_now low whole)

    -- THE PLAN
    pub complete_now : now.stop ≡ None → all_read (known_of r) now ≡ true → AreComplete
    complete_now none read k there n early =
        let q = behind_ats r jobs carry restarts t.sent j in
        let adds = mdt_adds (known_of r) q in
        let looked = complete (known_of r) q (λ i low. begins_tasks (known_of r) (tasks_for (known_of r) jobs) (at_calls r carry (length j) (ats_in t.sent) (own_mst carry (length j) (mst_in t.sent) (begin_calls restarts (length j) (master_calls r carry restarts j)))) i low)
        (sym (read_same (known_of r) now q adds) ∙ read) (no_stop_before (known_of r) q none) k there n early in
        (looked.0, ap (λ (l : List Outcome). slice_get l n) (adds k) ∙ looked.1)

    -- without a stop the master goes on with phase 2, as long as that isn't done
    pub goes_in_two : t.phase ≡ 2 → now.stop ≡ None → is_done (known_of r) now ≡ false → GoesOnInTwo r now
    goes_in_two two none unfinished =
        let phase : now.now.phase ≡ 2 = phase_now r jobs carry restarts t j run.1 ∙ two in
        record {
          phase = phase;
          goes_on = none;
          planned = λ read. let asks = asked_now (omega (arith, phase)) (complete_now none read) in
              let most : record_bytes (wishes_of r).drives ≤ 2047 = (ring_is_valid r opened.valid (λ k d got.
              let there = got_inside r.drives k d got in
              subst (λ (x : DriveView). (length x.at ≤ 16) × (length x.mdt ≤ 16)) (sym there.1)
              ((opened.typed k there.0).at, (opened.typed k there.0).mdt))).drives.mdt_len in
              plan_made (known_of r) (behind_ats r jobs carry restarts t.sent j) phase none read
              (ap (λ (w : WishesView). nat_le (record_bytes w.drives) 2047) asks
              ∙ le-leb (record_bytes (wishes_of r).drives) 2047 most);
          unchecked = sym (ap (λ (n : ℕ). is_done_in n (known_of r) now) phase) ∙ unfinished;
        }
