-- Where the master commands the next phase, a drive's check counts as passed: in every run in which nothing was unseen, if the drive doesn't
-- restart in this very cycle.
use Rattle.sercos_law_run.proofs.Words.{◌≡◌, inl, inr, ℕ, suc, ◌+◌, ◌<◌, ◌≤◌, Bool, true, false, not, List, [], ◌∷◌, length, Option, refl, sym, ap, ◌∙◌, subst, arith, if◌then◌else◌, is_some, cases_eq, and_parts, cond-false, ne_eqb, Job, store_of, RingView, is_command, Reset, CommandHistory, with_call, first_passed_in, Processed, commands_with, Begun, annals, may_rise, reset_in, CycleView, member, known_of, is_checked, is_ready, outcomes_in, Past, outcomes, fall_of, is_done, is_done_in, each_passes, jobs_waiting, Carry, Restarts, View, standing, stood_in, processed_in, kept_in, command, begun_in, write_of, Down, stands, ends, Nothing, Record, processes, commanded, passes_by_setting, passes_last, stays_passed, stays_passed_last, drive_at, with_restart, given_before, middle, IsRun, IsClear, behind_mdt, view_of, views_of, IsOpened, IsPassed, commands_ended, commands_before, CommandsFollow, is_passed, IsNextView, command_calls}
use Rattle.sercos_law_channel.proofs.Theorems.{Moves, Stays}
use Rattle.sercos_law_run.proofs.Views.Members.{members_count}
use Rattle.sercos_law_run.proofs.Views.ViewRuns.{command_below, views_count}
use Rattle.sercos_law_run.proofs.Held.Runs.{small, drive_rules}
use Rattle.sercos_law_run.proofs.Settings.Histories.{reset_if}
use Rattle.sercos_law_run.proofs.Settings.WellSets.{is_command_127}
use Rattle.sercos_law_run.proofs.Headline.HeadlineRuns.{first_store, all_stand}
use Rattle.sercos_law_run.proofs.Undisturbed.Checks.CheckLogs.{PassesIfSet, StaysIfCancelled, CountsBy}
use Rattle.sercos_law_run.proofs.Undisturbed.Checks.CheckTasks.{IsCheckNewest, check_127, check_128}
use Rattle.sercos_law_run.proofs.Undisturbed.Checks.CheckedViews.{check_counts}
use Rattle.sercos_law_run.proofs.Undisturbed.Checks.CommandCalls.{keeps_before, check_passed}
use Rattle.sercos_law_run.proofs.Undisturbed.Checks.CommandRuns.{first_commands, AreCommandsSo}
use Rattle.sercos_law_run.proofs.Undisturbed.JobsBegun.{begun_then, tasks_then, wells}
use Rattle.sercos_law_run.proofs.Undisturbed.Checks.WellGiven.{is_command_128}
use Rattle.sercos_law_run.proofs.Undisturbed.ChannelsKept.{phase_now}

-- A drive that is a phase below the commanded one at the end of a cycle, and was so before, got no MST in it: so all stays.
stays_below : (passed : CommandHistory → Option ℕ) (busy n : ℕ) (c : CommandHistory) (v : View) (past : List View) → IsNextView busy v past → CommandsFollow c (v ∷ past) → 1 ≤ n → v.phase ≡ n + 1 → (standing (v ∷ past)).ended ≡ n
    → (command past ≡ n + 1 → (standing past).ended ≡ n → CountsBy passed (commands_ended c past) (length past)) → CountsBy passed (commands_ended c (v ∷ past)) (suc (length past))
stays_below passed busy n c v past next follow some phase ended before =
    let stood : stood_in v (standing past) ≡ n = elim (ends v past)
    [ inl zero_is ↦ absurd (omega (arith, zero_is, ended, some)) | inr same ↦ sym same ∙ ended ] in
    let same_phase : command past ≡ n + 1 = elim (commanded v past next.commanded)
    [ inl r ↦ absurd (omega (arith, r.1, phase)) | inr on ↦ sym on.1 ∙ phase ] in
    elim (stands v (standing past)) [
      | Down zero_is ↦ absurd (omega (arith, zero_is, stood, some))
      | Moves came is low high ↦ absurd (omega (arith, is, stood, phase))
      | Stays missed got still is ↦
          let earlier = before same_phase (sym is ∙ stood) in
          let unchanged : commands_ended c (v ∷ past) ≡ v.commands =
          kept (standing (v ∷ past)).ended (commands_with (write_of (processed_in v past) (kept_in v past)) v.blocks v.commands) ended
          ∙ ap (λ (o : Option Processed). commands_with (write_of o (kept_in v past)) v.blocks v.commands)
          (elim (processes v past) [ Nothing none ↦ none | Record s got came two is ↦ absurd (cc) ]) in
          let follows : v.commands ≡ commands_ended c past = follow.1 ∙ kept (stood_in v (standing past)) (commands_before c v past) stood ∙ cond-false v.drive_restarts (with_call Reset (commands_ended c past)) (commands_ended c past) still in
          (earlier.0, ap passed (unchanged ∙ follows) ∙ earlier.1, omega (arith, earlier.2))
    ]
  where
    kept : (m : ℕ) (x : CommandHistory) → m ≡ n → reset_in m x ≡ x
    kept m x is = ap (λ (zero : Bool). reset_if zero x) (ne_eqb m 0 (λ e. omega (arith, e, is, some)))

module _ (r : RingView) (jobs : List Job) (carry : Carry) (restarts : Restarts) (opened : IsOpened r jobs) where
  -- the procedure commands of each drive
  pub commands_so : (j : List CycleView) → IsRun r jobs carry restarts j → IsClear j → (k : ℕ) → k < length r.drives → AreCommandsSo r jobs carry restarts k j
  commands_so j run clear k below = (wells r jobs carry restarts opened j run clear k below).set

  module _ (t : CycleView) (j : List CycleView) (run : IsRun r jobs carry restarts (t ∷ j)) (clear : IsClear (t ∷ j)) (k : ℕ)
      (below : k < length r.drives) where
    abbrev v : View
    v = view_of r jobs carry restarts k t j

    abbrev p : Past
    p = behind_mdt r jobs carry restarts t.sent j

    phase_is : p.now.phase ≡ v.phase
    phase_is = phase_now r jobs carry restarts t j run.1

    done : v.rises ≡ true → (n : ℕ) → v.phase ≡ n → is_done_in n (known_of r) p ≡ true
    done up n at = sym (ap (λ (m : ℕ). is_done_in m (known_of r) p) (phase_is ∙ at))
        ∙ (and_parts (not (is_some (fall_of (known_of r) p))) (is_done (known_of r) p) up).1

    -- at a rise the newest request is the check
    rises_127 : v.rises ≡ true → v.phase ≡ 2 → IsCheckNewest (store_of (drive_at r k)) 127 (begun_in v (views_of r jobs carry restarts k j))
    rises_127 up at =
        check_127 (known_of r) k (store_of (drive_at r k)) p.plan (p.waiting k) p.now.phase
        (jobs_waiting (known_of r) jobs (middle r carry restarts t.sent j) k) (omega (arith, phase_is, at))
        (begun_in v (views_of r jobs carry restarts k j)) (p.tasks k) (tasks_then r jobs carry restarts opened t j run clear k below)
        (ap (λ (l : List Begun). is_checked (member (known_of r) k) (outcomes_in l))
        (sym (begun_then r jobs carry restarts opened t j run clear k below))
        ∙ each_passes (length (known_of r).drives) 0 (λ i. is_checked (member (known_of r) i) (outcomes p i)) (done up 2 at) k (omega arith)
        (omega (arith, below, members_count r)))

    pub rises_128 : v.rises ≡ true → v.phase ≡ 3
        → IsCheckNewest (store_of (drive_at r k)) 128 (begun_in v (views_of r jobs carry restarts k j))
    rises_128 up at =
        check_128 (known_of r) k (store_of (drive_at r k)) p.plan (p.waiting k) p.now.phase
        (jobs_waiting (known_of r) jobs (middle r carry restarts t.sent j) k) (omega (arith, phase_is, at))
        (begun_in v (views_of r jobs carry restarts k j)) (p.tasks k) (tasks_then r jobs carry restarts opened t j run clear k below)
        (ap (λ (l : List Begun). is_ready (member (known_of r) k) (outcomes_in l))
        (sym (begun_then r jobs carry restarts opened t j run clear k below))
        ∙ each_passes (length (known_of r).drives) 0 (λ i. is_ready (member (known_of r) i) (outcomes p i)) (done up 3 at) k (omega arith)
        (omega (arith, below, members_count r)))

    -- so it counts as passed at the end of this cycle, if the drive is up
    counts_so : (raw n : ℕ) (passed : CommandHistory → Option ℕ) → PassesIfSet raw passed → StaysIfCancelled raw passed → is_command (store_of (drive_at r k)) raw ≡ true → 1 ≤ n → v.phase ≡ n → v.falls ≡ false
        → (standing (views_of r jobs carry restarts k (t ∷ j))).ended ≡ n → IsCheckNewest (store_of (drive_at r k)) raw (begun_in v (views_of r jobs carry restarts k j))
        → CountsBy passed (commands_ended (first_commands r k) (views_of r jobs carry restarts k (t ∷ j))) (suc (length (views_of r jobs carry restarts k j)))
    counts_so raw n passed sets stays command some phase on ended newest =
        let now = all_stand r jobs carry restarts opened (t ∷ j) run clear k below in
        let counts = check_counts raw passed sets stays (drive_at r k).busy (store_of (drive_at r k)) (small r jobs carry restarts opened (first_store r jobs carry restarts opened) k below) command
        (first_commands r k) refl v (views_of r jobs carry restarts k j) now.sees.run now.sound (commands_so (t ∷ j) run clear k below).follow (omega (arith, phase, some)) on (λ zero_is. omega (arith, zero_is, ended, some))
        newest.one newest.older newest.bytes newest.split newest.asks newest.complete newest.well newest.away in
        (counts.0, counts.1, omega (arith, counts.2))

  -- WHILE THE DRIVE IS A PHASE BELOW the one that is commanded next, its check counts as passed.
  module _ (raw n : ℕ) (some : 1 ≤ n) (passed : CommandHistory → Option ℕ) (sets : PassesIfSet raw passed)
      (stays : StaysIfCancelled raw passed) (is_there : (k : ℕ) → k < length r.drives → is_command (store_of (drive_at r k)) raw ≡ true)
      (at_rise : (t : CycleView) (j : List CycleView) → IsRun r jobs carry restarts (t ∷ j) → IsClear (t ∷ j) → (k : ℕ) → k < length r.drives → (view_of r jobs carry restarts k t j).rises ≡ true → (view_of r jobs carry restarts k t j).phase ≡ n → IsCheckNewest (store_of (drive_at r k)) raw (begun_in (view_of r jobs carry restarts k t j) (views_of r jobs carry restarts k j)))
    where
      counts_below : (j : List CycleView) → IsRun r jobs carry restarts j → IsClear j → (k : ℕ) → k < length r.drives → command (views_of r jobs carry restarts k j) ≡ n + 1 → (standing (views_of r jobs carry restarts k j)).ended ≡ n
          → CountsBy passed (commands_ended (first_commands r k) (views_of r jobs carry restarts k j)) (length (views_of r jobs carry restarts k j))
      counts_below [] run clear k below next ended = absurd (omega (arith, next))
      counts_below (t ∷ j) run clear k below next ended = by (view_of r jobs carry restarts k t j).falls (view_of r jobs carry restarts k t j).rises refl refl next (counts_below j run.0 clear.0 k below)
        where
          by : (falls rises : Bool) → (view_of r jobs carry restarts k t j).falls ≡ falls → (view_of r jobs carry restarts k t j).rises ≡ rises
              → (if falls then 0 else (if rises then (view_of r jobs carry restarts k t j).phase + 1 else (view_of r jobs carry restarts k t j).phase)) ≡ n + 1
              → (command (views_of r jobs carry restarts k j) ≡ n + 1 → (standing (views_of r jobs carry restarts k j)).ended ≡ n → CountsBy passed (commands_ended (first_commands r k) (views_of r jobs carry restarts k j)) (length (views_of r jobs carry restarts k j)))
              → CountsBy passed (commands_ended (first_commands r k) (views_of r jobs carry restarts k (t ∷ j))) (length (views_of r jobs carry restarts k (t ∷ j)))
          by true rises falls_is rises_is is before = absurd (omega (arith, is))
          by false true falls_is rises_is is before =
              let phase : (view_of r jobs carry restarts k t j).phase ≡ n = omega (arith, is) in
              counts_so t j run clear k below raw n passed sets stays (is_there k below) some phase falls_is ended (at_rise t j run clear k below rises_is phase)
          by false false falls_is rises_is is before =
              stays_below passed (drive_at r k).busy n (first_commands r k) (view_of r jobs carry restarts k t j) (views_of r jobs carry restarts k j) (all_stand r jobs carry restarts opened (t ∷ j) run clear k below).sees.run.1
              (commands_so (t ∷ j) run clear k below).follow some is ended before

  -- PASSED. A restart in this cycle would undo the check.
  pub passed_in : (t : CycleView) (j : List CycleView) → IsRun r jobs carry restarts (t ∷ j) → IsClear (t ∷ j) → (k : ℕ) → k < length r.drives → restarts (length j) (k + 1) ≡ false
      → IsPassed (view_of r jobs carry restarts k t j) (views_of r jobs carry restarts k j)
  passed_in t j run clear k below still late up = elim (cases_eq t.phase 3) [
    | inl three ↦ unrestarted ∙ at 3 three ∙ passed 127
        ((counts_below 127 2 (omega arith) (first_passed_in 127) passes_by_setting stays_passed
        (λ k below. is_command_127 (drive_at r k) (store_of (drive_at r k)) (drive_rules r k opened.valid below) refl) rises_127) j
        run.0 clear.0 k below (sym (going 3 three (omega arith)) ∙ three) (omega (arith, up, three)))
    | inr other ↦
        let four : t.phase ≡ 4 = omega (arith, late, other, high) in
        unrestarted ∙ at 4 four ∙ passed 128 ((counts_below 128 3 (omega arith) (first_passed_in 128) passes_last stays_passed_last
        (λ k below. is_command_128 (drive_at r k) (store_of (drive_at r k)) (drive_rules r k opened.valid below) refl) rises_128) j
        run.0 clear.0 k below (sym (going 4 four (omega arith)) ∙ four)
        (omega (arith, up, four)))
  ]
    where
      sees_run : IsNextView (drive_at r k).busy (view_of r jobs carry restarts k t j) (views_of r jobs carry restarts k j)
      sees_run = (all_stand r jobs carry restarts opened (t ∷ j) run clear k below).sees.run.1

      going : (n : ℕ) → t.phase ≡ n → 1 ≤ n → t.phase ≡ command (views_of r jobs carry restarts k j)
      going n is some = elim (commanded (view_of r jobs carry restarts k t j) (views_of r jobs carry restarts k j) sees_run.commanded) [ inl down ↦ absurd (omega (arith, down.1, is, some)) | inr on ↦ on.1 ]

      high : t.phase ≤ 4
      high = elim (commanded (view_of r jobs carry restarts k t j) (views_of r jobs carry restarts k j) sees_run.commanded) [
        | inl down ↦ omega (arith, down.1)
        | inr on ↦ subst (λ (n : ℕ). n ≤ 4) (sym on.1) (command_below (drive_at r k).busy (views_of r jobs carry restarts k j) (all_stand r jobs carry restarts opened (t ∷ j) run clear k below).sees.run.0)
      ]

      unrestarted : (view_of r jobs carry restarts k t j).checked ≡ may_rise (drive_at r k) r.rate (length j) t.phase (annals (drive_at r k) r.rate (given_before carry restarts j k))
      unrestarted = ap (λ (b : Bool). may_rise (drive_at r k) r.rate (length j) t.phase (annals (drive_at r k) r.rate (with_restart b (given_before carry restarts j k)))) still

      at : (n : ℕ) → t.phase ≡ n → may_rise (drive_at r k) r.rate (length j) t.phase (annals (drive_at r k) r.rate (given_before carry restarts j k)) ≡ may_rise (drive_at r k) r.rate (length j) n (annals (drive_at r k) r.rate (given_before carry restarts j k))
      at n is = ap (λ (m : ℕ). may_rise (drive_at r k) r.rate (length j) m (annals (drive_at r k) r.rate (given_before carry restarts j k))) is

      passed : (raw : ℕ) → CountsBy (first_passed_in raw) (commands_ended (first_commands r k) (views_of r jobs carry restarts k j))
          (length (views_of r jobs carry restarts k j))
          → is_passed r.rate (drive_at r k).command raw (command_calls (annals (drive_at r k) r.rate (given_before carry restarts j k)))
          (length j) ≡ true
      passed raw (first, is, le) = check_passed raw (drive_at r k) r.rate (length j) first
          (annals (drive_at r k) r.rate (given_before carry restarts j k)) (keeps_before r carry restarts k j)
          (ap (first_passed_in raw) (commands_so j run.0 clear.0 k below).behind ∙ is)
          (omega (arith, le, views_count r jobs carry restarts k j))
