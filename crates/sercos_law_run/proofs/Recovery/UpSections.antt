-- In undisturbed cycles of phase 2 without a fall, while some drive is in phase 0, each drive that is up has one of its sections at most.
use Rattle.sercos_law_run.proofs.Words.{◌≡◌, inl, inr, ℕ, suc, ◌+◌, ◌<◌, ◌≤◌, true, List, [], ◌∷◌, ◌++◌, length, Option, Some, None, sym, ap, ◌∙◌, subst, arith, if◌then◌else◌, is_some, slice_get, cases_eq, cases_lt, leb-true, Job, Outcome, next_step, blocks_fault, RingView, section_cycles, Begun, open_in, begun_by, PlanView, CycleView, Fall, is_checked, is_read, reads_count, outcomes_in, known_of, member, tasks_for, ended_there, Past, fall_of, outcomes, each_passes, not_longer, Carry, Restarts, epoch_begun, open_since, drive_at, middle, IsClear, IsRun, HasEndedAt, behind_mdt, views_of, IsOpened, jobs_of, AreAt, AreInTwo, NoneFalls, views_since, GoesOn, IsDown, IsStretch, reads_cost, writes_cost, is_planned, lost_since}
use Rattle.sercos_law_run.proofs.Start.CheckPasses.{ring_drive}
use Rattle.sercos_law_run.proofs.Views.Members.{member_is, members_count, in_known}
use Rattle.sercos_law_run.proofs.Held.Runs.{drive_got}
use Rattle.sercos_law_run.proofs.Undisturbed.InOrder.{in_order}
use Rattle.sercos_law_run.proofs.Undisturbed.JobPlaces.{some_plan}
use Rattle.sercos_law_run.proofs.Undisturbed.JobsBegun.{begun_now, few_now, places_now}
use Rattle.sercos_law_run.proofs.Recovery.DownSince.{NeverRestarts, calm_quiet, in_two, outcomes_stay}
use Rattle.sercos_law_run.proofs.Recovery.LateDown.{no_lower}
use Rattle.sercos_law_run.proofs.Recovery.ReadsInOrder.{reads_in_order}
use Rattle.sercos_law_run.proofs.Recovery.SectionCosts.{reads_within, writes_within}
use Rattle.sercos_law_run.proofs.Recovery.Stretches.{rest_clear, rest_runs, clean_or_down}
use Rattle.sercos_law_run.proofs.Agenda.Requests.{are_requests}
use Rattle.sercos_law_run.proofs.Agenda.WritesDone.{some_at}
use Rattle.sercos_law_run.proofs.Cited.{tasks_end}
use Rattle.sercos_law_run.proofs.Tolerance.Losses.{none_lost_since}
use Rattle.sercos_law_run.proofs.Tolerance.CostsSparse.{opens_if, recent_if}
use Rattle.sercos_law_run.proofs.Undisturbed.PhaseTwo.{listed_all}
use Rattle.sercos_law_run.proofs.Undisturbed.ChannelsKept.{phase_now}

module _ (r : RingView) (jobs : List Job) (carry : Carry) (restarts : Restarts) (opened : IsOpened r jobs) where
  -- WHAT WAS BEGUN up to a request that has ended
  pub ended_by : (t : CycleView) (j : List CycleView) (run : IsRun r jobs carry restarts (t ∷ j)) (clear : IsClear (t ∷ j)) → fall_of (known_of r) (behind_mdt r jobs carry restarts t.sent j) ≡ None → (k : ℕ) → k < length r.drives
      → (n m : ℕ) (o : Outcome) → suc n ≡ m → HasEndedAt (known_of r) k (behind_mdt r jobs carry restarts t.sent j).plan ((behind_mdt r jobs carry restarts t.sent j).waiting k) (behind_mdt r jobs carry restarts t.sent j).now.phase
      (begun_by ((behind_mdt r jobs carry restarts t.sent j).calls k)) n o
      → (newer old : List Begun) × (epoch_begun (views_of r jobs carry restarts k (t ∷ j)) ≡ newer ++ old) × (length old ≡ m) × (open_in old ≡ None)
  ended_by t j run clear stays k below n m o count at = let place = at.place in (
    at.newer,
    at.one ∷ at.older,
    sym (begun_now r jobs carry restarts opened t j run clear stays k below) ∙ at.split,
    omega (arith, place, count),
    ap (λ (o : Option Outcome). if is_some o then None else next_step at.one.request at.one.answers) at.ended,
  )

  -- A CYCLE up to phase 3 without a fall
  module _ (t : CycleView) (j : List CycleView) (run : IsRun r jobs carry restarts (t ∷ j)) (clear : IsClear (t ∷ j))
      (stays : fall_of (known_of r) (behind_mdt r jobs carry restarts t.sent j) ≡ None)
      (low : (behind_mdt r jobs carry restarts t.sent j).now.phase ≤ 2) where
    abbrev now : Past
    now = behind_mdt r jobs carry restarts t.sent j

    outcomes_now : (k : ℕ) → k < length r.drives → outcomes now k ≡ outcomes_in (epoch_begun (views_of r jobs carry restarts k (t ∷ j)))
    outcomes_now k below = ap outcomes_in (begun_now r jobs carry restarts opened t j run clear stays k below)

    -- where a drive has begun more than its reads, each drive has been read
    all_read_if : (k : ℕ) → k < length r.drives → reads_count (member (known_of r) k) < length (epoch_begun (views_of r jobs carry restarts k (t ∷ j))) → (i : ℕ) → i < length r.drives → is_read (member (known_of r) i) (outcomes now i) ≡ true
    all_read_if k below some i there =
        let has : (p : PlanView) × (now.plan ≡ Some p) = some_plan (known_of r) k now.plan (epoch_begun (views_of r jobs carry restarts k (t ∷ j))) (places_now r jobs carry restarts opened t j run clear stays k below (omega (arith, low))) some in
        let count = members_count r in
        each_passes (length (known_of r).drives) 0 (λ m. is_read (member (known_of r) m) (outcomes now m)) (is_planned (known_of r) (tasks_for (known_of r) jobs) (middle r carry restarts t.sent j) has.0 has.1).read i (omega arith) (omega (arith, count, there))

    -- so it is where a check has ended well
    all_read_if_checked : (k : ℕ) → k < length r.drives → is_checked (member (known_of r) k) (outcomes now k) ≡ true → (i : ℕ) → i < length r.drives → is_read (member (known_of r) i) (outcomes now i) ≡ true
    all_read_if_checked k below checked i there =
        let some = ended_there (outcomes now k) (reads_count (member (known_of r) k) + 11) checked in
        let same = ap (λ (l : List Begun). length l) (begun_now r jobs carry restarts opened t j run clear stays k below) in
        all_read_if k below (omega (arith, some, not_longer (begun_by (now.calls k)), same)) i there

    -- and where a drive has been read, those before it have
    read_before : (k : ℕ) → k < length r.drives → is_read (member (known_of r) k) (outcomes now k) ≡ true → (i : ℕ) → i < k → is_read (member (known_of r) i) (outcomes now i) ≡ true
    read_before k below read i less =
        let some = leb-true (reads_count (member (known_of r) k)) (length (outcomes now k)) read in
        let few = not_longer (begun_by (now.calls k)) in
        reads_in_order (known_of r) (tasks_for (known_of r) jobs) (middle r carry restarts t.sent j) low k (in_known r k below) (omega (arith, some, few)) i less

    -- THE READS of a drive that has been read come first, and have ended.
    reads_ended : (k : ℕ) → k < length r.drives → is_read (member (known_of r) k) (outcomes now k) ≡ true
        → (newer old : List Begun) × (epoch_begun (views_of r jobs carry restarts k (t ∷ j)) ≡ newer ++ old) × (length old ≡ reads_count (member (known_of r) k)) × (open_in old ≡ None)
    reads_ended k below read =
        let n : ℕ = 5 + length (member (known_of r) k).at + length (member (known_of r) k).mdt in
        let some = leb-true (reads_count (member (known_of r) k)) (length (outcomes now k)) read in
        let got : (o : Outcome) × (slice_get (outcomes now k) n ≡ Some o) = some_at (outcomes now k) n (omega (arith, some)) in
        ended_by t j run clear stays k below n (reads_count (member (known_of r) k)) got.0 (omega arith) (tasks_end (known_of r) (tasks_for (known_of r) jobs) (middle r carry restarts t.sent j) k n got.0 (in_known r k below) got.1)

  -- The phase doesn't go down,
  pub no_lower_on : (t : CycleView) (cycles : List CycleView) (first : CycleView) (before : List CycleView)
      → IsRun r jobs carry restarts (t ∷ (cycles ++ first ∷ before)) → IsClear (t ∷ (cycles ++ first ∷ before))
      → fall_of (known_of r) (behind_mdt r jobs carry restarts first.sent before) ≡ None
      → NoneFalls r jobs carry restarts cycles (first ∷ before) → NeverRestarts restarts (t ∷ cycles) (first ∷ before)
      → (k : ℕ) → k < length r.drives → first.phase ≤ t.phase
  no_lower_on t [] first before run clear first_stays stays quiet k below =
      no_lower r jobs carry restarts opened t first before run clear first_stays quiet.1 k below
  no_lower_on t (u ∷ cycles) first before run clear first_stays stays quiet k below =
      let next = no_lower r jobs carry restarts opened t u (cycles ++ first ∷ before) run clear stays.1 quiet.1 k below in
      omega (arith, no_lower_on u cycles first before run.0 clear.0 first_stays stays.0 quiet.0 k below, next)

  pub no_lower_since : (t : CycleView) (cycles : List CycleView) (first : CycleView) (before : List CycleView)
      → IsRun r jobs carry restarts (t ∷ (cycles ++ first ∷ before)) → IsClear (t ∷ (cycles ++ first ∷ before))
      → IsStretch r jobs carry restarts (t ∷ cycles) first before → (k : ℕ) → k < length r.drives → first.phase ≤ t.phase
  no_lower_since t cycles first before run clear stretch k below =
      no_lower_on t cycles first before run clear stretch.first_stays stretch.stays.0
      (calm_quiet r carry restarts (t ∷ cycles) (first ∷ before) stretch.calm) k below

  -- and its channels go on.
  pub goes_on_since : (k : ℕ) (cycles before : List CycleView) → NoneFalls r jobs carry restarts cycles before
      → NeverRestarts restarts cycles before → GoesOn (views_since r jobs carry restarts k cycles before)
  goes_on_since k [] before stays quiet = tt
  goes_on_since k (t ∷ cycles) before stays quiet =
      (goes_on_since k cycles before stays.0 quiet.0, ap (λ (o : Option Fall). is_some o) stays.1, quiet.1)

  -- In undisturbed cycles nothing of the channel of a drive is lost that isn't in phase 0 at the end.
  pub none_lost : (cycles : List CycleView) (first : CycleView) (before : List CycleView)
      → IsRun r jobs carry restarts (cycles ++ first ∷ before) → IsClear (cycles ++ first ∷ before)
      → IsStretch r jobs carry restarts cycles first before → (k : ℕ) → k < length r.drives
      → (IsDown r jobs carry restarts k (cycles ++ first ∷ before) → ⊥)
      → lost_since (views_since r jobs carry restarts k cycles (first ∷ before)) (views_of r jobs carry restarts k (first ∷ before)) ≡ 0
  none_lost cycles first before run clear stretch k below up =
      elim (clean_or_down r jobs carry restarts opened cycles first before run clear stretch k below) [
        | inl down ↦ absurd (up down)
        | inr clean ↦ none_lost_since _ _ clean
      ]

  -- WITHOUT A FALL OR A RESTART, whatever is lost
  module _ (t : CycleView) (cycles : List CycleView) (first : CycleView) (before : List CycleView)
      (run : IsRun r jobs carry restarts (t ∷ (cycles ++ first ∷ before))) (clear : IsClear (t ∷ (cycles ++ first ∷ before)))
      (first_stays : fall_of (known_of r) (behind_mdt r jobs carry restarts first.sent before) ≡ None)
      (stays : NoneFalls r jobs carry restarts (t ∷ cycles) (first ∷ before)) (quiet : NeverRestarts restarts (t ∷ cycles) (first ∷ before))
      (two : AreInTwo r jobs carry restarts (t ∷ cycles) (first ∷ before)) (d : ℕ) (there : d < length r.drives)
      (down : IsDown r jobs carry restarts d (first ∷ before)) where
    abbrev newest : Past
    newest = behind_mdt r jobs carry restarts t.sent (cycles ++ first ∷ before)

    abbrev was : Past
    was = behind_mdt r jobs carry restarts first.sent before

    first_run : IsRun r jobs carry restarts (first ∷ before)
    first_run = rest_runs r jobs carry restarts (t ∷ cycles) (first ∷ before) run

    first_clear : IsClear (first ∷ before)
    first_clear = rest_clear (t ∷ cycles) (first ∷ before) clear

    newest_low : newest.now.phase ≤ 2
    newest_low = let is = two.1.phase in omega (arith, is)

    was_low : was.now.phase ≤ 2
    was_low =
        let same = phase_now r jobs carry restarts first before first_run.1 in
        let is = in_two r jobs carry restarts opened t (cycles ++ first ∷ before) run two.1 in
        let least = no_lower_on t cycles first before run clear first_stays stays.0 quiet d there in omega (arith, same, is, least)

    -- nothing has come of the drive that is down
    same_outcomes : outcomes was d ≡ outcomes newest d
    same_outcomes = outcomes_now first before first_run first_clear first_stays was_low d there
        ∙ sym (outcomes_stay r jobs carry restarts opened (t ∷ cycles) (first ∷ before) run clear quiet stays two d there down)
        ∙ sym (outcomes_now t (cycles ++ first ∷ before) run clear stays.1 newest_low d there)

    -- A DRIVE THAT IS UP
    module _ (k : ℕ) (below : k < length r.drives) (up : IsDown r jobs carry restarts k (first ∷ before) → ⊥) where
      abbrev begun : List Begun
      begun = epoch_begun (views_of r jobs carry restarts k (t ∷ (cycles ++ first ∷ before)))

      -- the cycles in which a step to it is open
      abbrev opens : ℕ
      opens = open_since (views_since r jobs carry restarts k (t ∷ cycles) (first ∷ before))
          (views_of r jobs carry restarts k (first ∷ before))

      -- if it had begun more than its reads, it was read in the first cycle
      read_if : reads_count (member (known_of r) k) < length begun → is_read (member (known_of r) k) (outcomes was k) ≡ true
      read_if some = elim (cases_lt k d) [
        | inl less ↦ read_before first before first_run first_clear first_stays was_low d there
            (ap (is_read (member (known_of r) d)) same_outcomes
            ∙ all_read_if t (cycles ++ first ∷ before) run clear stays.1 newest_low k below some d there) k less
        | inr not_less ↦ elim (cases_eq d k) [
          | inl same ↦ absurd (up (subst (λ (i : ℕ). IsDown r jobs carry restarts i (first ∷ before)) same down))
          | inr other ↦
              let same = ap (λ (l : List Begun). length l)
              (begun_now r jobs carry restarts opened t (cycles ++ first ∷ before) run clear stays.1 k below) in
              all_read_if_checked first before first_run first_clear first_stays was_low d there
              (ap (is_checked (member (known_of r) d)) same_outcomes
              ∙ in_order (known_of r) (tasks_for (known_of r) jobs) (λ i. (are_requests (known_of r) jobs i).0)
              (middle r carry restarts t.sent (cycles ++ first ∷ before)) two.1.phase k (in_known r k below) (omega (arith, some, same)) d
              (omega (arith, not_less, other))) k below
        ]
      ]

      rules : blocks_fault [] (drive_at r k).blocks ≡ None
      rules = (ring_drive r k (drive_at r k) opened.valid (drive_got r k below)).blocks

      places : AreAt (jobs_of (known_of r) newest.plan k) begun
      places = places_now r jobs carry restarts opened t (cycles ++ first ∷ before) run clear stays.1 k below
          (let low = newest_low in omega (arith, low))

      abbrev lost : ℕ
      lost = lost_since (views_since r jobs carry restarts k (t ∷ cycles) (first ∷ before))
          (views_of r jobs carry restarts k (first ∷ before))

      -- THE WRITES alone
      writes_most : (newer old : List Begun) × (epoch_begun (views_of r jobs carry restarts k (first ∷ before)) ≡ newer ++ old)
          × (length old ≡ reads_count (member (known_of r) k)) × (open_in old ≡ None) → opens ≤ section_cycles (drive_at r k) + lost
      writes_most (newer, old, is, long, rests) =
          let (recent, since, few) = recent_if r jobs carry restarts opened (t ∷ cycles) (first ∷ before) run clear k (λ raw. 512) below
          (listed_all (views_of r jobs carry restarts k (t ∷ (cycles ++ first ∷ before))))
          (goes_on_since k (t ∷ cycles) (first ∷ before) stays quiet) newer old is rests in
          omega (
            arith,
            few,
            writes_within (λ raw. 512) (drive_at r k) rules (writes_cost (drive_at r k).busy) (known_of r) newest.plan k
                recent old (member_is r k) (subst (AreAt (jobs_of (known_of r) newest.plan k)) since places) long
                (subst (λ (l : List Begun). length l ≤ reads_count (member (known_of r) k) + 12) since
                (few_now r jobs carry restarts opened t (cycles ++ first ∷ before) run clear stays.1 k below newest_low)),
          )

      -- ONE SECTION at most
      pub section_most : opens ≤ section_cycles (drive_at r k) + lost
      section_most = elim (cases_lt (reads_count (member (known_of r) k)) (length begun)) [
        | inl some ↦ writes_most (reads_ended first before first_run first_clear first_stays was_low k below (read_if some))
        | inr few ↦ let all_cost = opens_if r jobs carry restarts opened (t ∷ cycles) (first ∷ before) run clear k (λ raw. 512) below
            (listed_all (views_of r jobs carry restarts k (t ∷ (cycles ++ first ∷ before))))
            (goes_on_since k (t ∷ cycles) (first ∷ before) stays quiet) in
            let most = reads_within (λ raw. 512) (drive_at r k) rules (reads_cost (drive_at r k).busy) (known_of r) newest.plan k begun
            (member_is r k) places (omega (arith, few)) in omega (arith, all_cost, most)
      ]
