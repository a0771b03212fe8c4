-- How long phase 3 lasts while disturbed cycles are sparse.
use Rattle.sercos_law_run.proofs.Words.{◌≡◌, inl, inr, ℕ, zero, suc, ◌+◌, ◌<◌, ◌≤◌, Bool, true, false, List, [], ◌∷◌, ◌++◌, length, Option, None, Some, refl, sym, ap, ◌∙◌, subst, arith, if◌then◌else◌, ◌==◌, is_some, sum_by, cases_eq, cond-false, eq-eqb, ne_eqb, Job, store_of, RingView, Begun, open_in, PlanView, CycleView, is_ready, reads_count, outcomes_in, known_of, member, Past, Carry, Restarts, begun_in, epoch_begun, unless_restart, with_heard, View, cost_in, cost_of, open_since, one_more, command_cycles, sum_below, drive_at, is_disturbed_in, looks_back, master_calls, IsClear, IsRun, at_start, behind_mdt, view_of, views_of, IsOpened, jobs_of, AreAt, GoesOnInThree, views_since, early_costs, disturbances, lost_since, AreSparse, reads_cost, writes_cost, cases_Bool, Request, AreListed, cases_lt}
use Rattle.sercos_law_run.proofs.Start.CheckPasses.{ring_drive}
use Rattle.sercos_law_run.proofs.Held.Extended.{heard_more, begun_same}
use Rattle.sercos_law_run.proofs.Held.Runs.{drive_got, holding}
use Rattle.sercos_law_run.proofs.Headline.HeadlineRuns.{all_stand, first_store, spelled_in, stored_in}
use Rattle.sercos_law_run.proofs.Undisturbed.JobsBegun.{begun_end, begun_now, places_now, tasks_now}
use Rattle.sercos_law_run.proofs.Undisturbed.JobsCost.{check_fits, two_fits}
use Rattle.sercos_law_run.proofs.Undisturbed.Checks.PassedCycles.{views_split}
use Rattle.sercos_law_run.proofs.Undisturbed.PhaseThree.{begun_few, unready_before}
use Rattle.sercos_law_run.proofs.Undisturbed.PhaseTwo.{listed_all, section_two, sum_within}
use Rattle.sercos_law_run.proofs.Undisturbed.Sections.{never_idle, more_or_same, sum_most}
use Rattle.sercos_law_run.proofs.Undisturbed.Stops.StopStays.{stop_after}
use Rattle.sercos_law_run.proofs.Views.Members.{member_is}
use Rattle.sercos_law_run.proofs.Tolerance.Borne.{IsBase, IsBorne, borne_on}
use Rattle.sercos_law_run.proofs.Tolerance.CostsShared.{all_few, sum_both}
use Rattle.sercos_law_run.proofs.Tolerance.CostsSparse.{lost_few, lost_more, opens_so, spare_for}
use Rattle.sercos_law_run.proofs.Tolerance.EarlySparse.{phase_is, rose, none_earlier}
use Rattle.sercos_law_run.proofs.Tolerance.TwoLasts.{each_fits, low_before, two_counts}
use Rattle.sercos_law_run.proofs.Tolerance.Losses.{more_if}
use Rattle.sercos_law_run.proofs.Undisturbed.ChannelsKept.{phase_now}

-- SUMS without one place
abbrev pub without : ℕ → (ℕ → ℕ) → ℕ → ℕ
without k f j = if j == k then 0 else f j

without_all : (n k : ℕ) (f : ℕ → ℕ) → n ≤ k → sum_below n (without k f) ≡ sum_below n f
without_all zero k f high = refl
without_all (suc n) k f high =
    let other : (n == k) ≡ false = ne_eqb n k (λ same. omega (arith, same, high)) in
    let last : without k f n ≡ f n = cond-false (n == k) 0 (f n) other in omega (arith, without_all n k f (omega (arith, high)), last)

pub sum_split : (n k : ℕ) (f : ℕ → ℕ) → k < n → sum_below n f ≡ sum_below n (without k f) + f k
sum_split zero k f low = absurd (omega (arith, low))
sum_split (suc n) k f low = elim (cases_eq n k) [
  | inl same ↦ (
      let last : without k f n ≡ 0 = ap (λ (b : Bool). if b then 0 else f n) (eq-eqb n k same) in
      let equal : f n ≡ f k = ap f same in omega (arith, without_all n k f (omega (arith, same)), last, equal))
  | inr other ↦ (
      let rest = sum_split n k f (omega (arith, low, other)) in
      let last : without k f n ≡ f n = cond-false (n == k) 0 (f n) (ne_eqb n k other) in omega (arith, rest, last))
]

pub without_mono : (k j : ℕ) (f g : ℕ → ℕ) → f j ≤ g j → without k f j ≤ without k g j
without_mono k j f g le = elim (cases_Bool (j == k)) [ inl on ↦ rw on (omega arith) | inr off ↦ rw off le ]

grown : (b : Bool) (n : ℕ) → n + 1 ≤ one_more b n → b ≡ true
grown true n le = refl
grown false n le = absurd (omega (arith, le))

-- A LIST cut after its newest items: n are left.
record IsLeft (begun : List Begun) (n : ℕ) : Type 0 where
  recent : List Begun
  old : List Begun
  is : begun ≡ recent ++ old
  long : length old ≡ n

left_of : (begun : List Begun) (n : ℕ) → n ≤ length begun → IsLeft begun n
left_of [] n le = record { recent = []; old = []; is = refl; long = omega (arith, le) }
left_of (b ∷ begun) n le = elim (cases_eq n (suc (length begun))) [
  | inl all ↦ record { recent = []; old = b ∷ begun; is = refl; long = sym all }
  | inr less ↦ (let c = left_of begun n (omega (arith, le, less)) in
      record { recent = b ∷ c.recent; old = c.old; is = ap (λ (l : List Begun). b ∷ l) c.is; long = c.long })
]

cost_both : (cost : Request → ℕ) (recent old : List Begun) → cost_in cost (recent ++ old) ≡ cost_in cost recent + cost_in cost old
cost_both cost [] old = omega arith
cost_both cost (b ∷ recent) old = let rest = cost_both cost recent old in omega (arith, rest)

at_old : (all : List Request) (recent old : List Begun) → AreAt all (recent ++ old) → AreAt all old
at_old all [] old are = are
at_old all (b ∷ recent) old are = at_old all recent old are.0

module _ (r : RingView) (jobs : List Job) (carry : Carry) (restarts : Restarts) (opened : IsOpened r jobs) where
  abbrev back : List CycleView → Past
  back j = looks_back r jobs (master_calls r carry restarts j)

  abbrev now : CycleView → List CycleView → Past
  now t j = behind_mdt r jobs carry restarts t.sent j

  abbrev Borne : CycleView → List CycleView → Type 0
  Borne t j = IsBorne r jobs carry restarts opened t j

  abbrev Base : List CycleView → Type 0
  Base before = IsBase r jobs carry restarts opened before

  abbrev spare : CycleView → List CycleView → ℕ
  spare t j = if is_disturbed_in r carry restarts (length j) t.sent then spare_for t.phase else 0

  abbrev lost_of : List CycleView → List CycleView → ℕ → ℕ
  lost_of cycles before k = lost_since (views_since r jobs carry restarts k cycles before) (views_of r jobs carry restarts k before)

  abbrev opens_of : List CycleView → List CycleView → ℕ → ℕ
  opens_of cycles before k = open_since (views_since r jobs carry restarts k cycles before) (views_of r jobs carry restarts k before)

  abbrev sec : ℕ → ℕ
  sec j = section_two (drive_at r j)

  abbrev others : ℕ → ℕ
  others k = sum_below (length r.drives) (without k sec)

  abbrev pub is_unready : ℕ → List CycleView → Type 0
  is_unready k j = is_ready (member (known_of r) k) (outcomes_in (epoch_begun (views_of r jobs carry restarts k j))) ≡ false

  -- UP TO THE RISE, by the cycles of one drive and the sections of the others
  at_rise : (t : CycleView) (cycles before : List CycleView) → IsRun r jobs carry restarts (t ∷ (cycles ++ before))
      → IsClear (t ∷ (cycles ++ before)) → Base before → AreSparse r carry restarts (t ∷ cycles) before
      → (back (t ∷ (cycles ++ before))).now.phase ≡ 2 → (back (t ∷ (cycles ++ before))).stop ≡ None → t.phase ≤ 2 → (k : ℕ)
      → k < length r.drives
      → suc (length cycles) + lost_of (t ∷ cycles) before k + spare t (cycles ++ before)
      ≤ 11 + length r.drives + early_costs r jobs carry restarts (t ∷ cycles) before + others k + opens_of (t ∷ cycles) before k +
      disturbances r carry restarts (t ∷ cycles) before
  at_rise t cycles before run clear starts sparse is_two none low k below =
      let counted = two_counts r jobs carry restarts opened (t ∷ cycles) before run clear starts sparse is_two none in
      let opens = sum_split (length r.drives) k (opens_of (t ∷ cycles) before) below in
      let losts = sum_split (length r.drives) k (lost_of (t ∷ cycles) before) below in
      let both = sum_both (length r.drives) (without k sec) (without k (lost_of (t ∷ cycles) before)) in
      omega (
        arith,
        counted,
        all_few r jobs carry restarts opened t cycles before run clear starts sparse low,
        opens,
        losts,
        sum_most
            (length r.drives) (without k (opens_of (t ∷ cycles) before)) (λ j. without k sec j + without k (lost_of (t ∷ cycles) before) j)
            (λ j j_low. elim (cases_Bool (j == k)) [ inl on ↦ rw on (omega arith) | inr off ↦ rw off (one j j_low) ]),
        both,
      )
    where
      one : (j : ℕ) → j < length r.drives → opens_of (t ∷ cycles) before j ≤ sec j + lost_of (t ∷ cycles) before j
      one j j_low =
          let cost = opens_so r jobs carry restarts opened (t ∷ cycles) before run clear starts sparse j (λ raw. 512) j_low
          (listed_all (views_of r jobs carry restarts j (t ∷ (cycles ++ before)))) in
          let fits = each_fits r jobs carry restarts opened t (cycles ++ before) run clear
          (borne_on r jobs carry restarts opened t cycles before run clear starts sparse).stays low j j_low in omega (arith, cost, fits)

  -- a drive that isn't ready at the end of a cycle wasn't before
  pub unready_start : (t : CycleView) (j : List CycleView) → Borne t j → (k : ℕ) → is_unready k (t ∷ j)
      → (run : IsRun r jobs carry restarts (t ∷ j)) → (clear : IsClear (t ∷ j)) → is_unready k j
  unready_start t j is k unready run clear =
      let v = view_of r jobs carry restarts k t j in
      unready_before (member (known_of r) k)
      (outcomes_in (epoch_begun (views_of r jobs carry restarts k j)))
      (outcomes_in (with_heard v.heard (epoch_begun (views_of r jobs carry restarts k j))))
      (heard_more v.heard (epoch_begun (views_of r jobs carry restarts k j)))
      (sym (ap (is_ready (member (known_of r) k)) (ap outcomes_in (begun_end r jobs carry restarts opened t j run clear is.stays k)
      ∙ begun_same (view_of r jobs carry restarts k t j).begins
      (with_heard (view_of r jobs carry restarts k t j).heard (unless_restart (view_of r jobs carry restarts k t j)
      (epoch_begun (views_of r jobs carry restarts k j))))
      ∙ ap (λ (l : List Begun). outcomes_in (with_heard (view_of r jobs carry restarts k t j).heard l))
      (cond-false (restarts (length j) 0) [] (epoch_begun (views_of r jobs carry restarts k j)) is.goes_on))) ∙ unready)

  -- in phase 3 there is a plan
  pub planned : (t : CycleView) (j : List CycleView) → IsRun r jobs carry restarts (t ∷ j) → IsClear (t ∷ j) → t.phase ≡ 3 → (k : ℕ)
      → k < length r.drives → (plan : PlanView) × ((behind_mdt r jobs carry restarts t.sent j).plan ≡ Some plan)
  planned t j (run, next) (before, clear) is_three k below =
      let at_three : (at_start r jobs carry restarts j).now.phase ≡ 3 = sym next.phase ∙ is_three in
      let held = holding r jobs carry restarts opened (first_store r jobs carry restarts opened) t j next clear
      (spelled_in r jobs carry restarts opened t j next) (stored_in r jobs carry restarts opened t j)
      (all_stand r jobs carry restarts opened j run before) (omega (arith, at_three)) k below in
      (held.0, held.1.now)

  -- IN PHASE 3 a drive that isn't ready has an open step in each cycle.
  pub opens_in_three : (t : CycleView) (j : List CycleView) → IsRun r jobs carry restarts (t ∷ j) → IsClear (t ∷ j) → Borne t j
      → t.phase ≡ 3 → (behind_mdt r jobs carry restarts t.sent j).stop ≡ None → (k : ℕ) → k < length r.drives → is_unready k (t ∷ j)
      → is_some (open_in (begun_in (view_of r jobs carry restarts k t j) (views_of r jobs carry restarts k j))) ≡ true
  opens_in_three t j run clear is is_three none k below unready =
      grown (is_some (open_in (begun_in (view_of r jobs carry restarts k t j) (views_of r jobs carry restarts k j)))) 0
      (never_idle r jobs carry restarts opened k below (t ∷ []) j run clear (tt, goes_on))
    where
      goes_on : GoesOnInThree r (behind_mdt r jobs carry restarts t.sent j) k
      goes_on = record {
        phase = phase_now r jobs carry restarts t j run.1 ∙ is_three;
        goes_on = none;
        planned = ap (λ (o : Option PlanView). is_some o) (planned t j run clear is_three k below).1;
        unready = ap (λ (l : List Begun). is_ready (member (known_of r) k) (outcomes_in l))
            (begun_now r jobs carry restarts opened t j run clear is.stays k below) ∙ unready;
      }

  pub three_counts : (t : CycleView) (cycles before : List CycleView) → IsRun r jobs carry restarts (t ∷ (cycles ++ before))
      → IsClear (t ∷ (cycles ++ before)) → Base before → AreSparse r carry restarts (t ∷ cycles) before
      → (back (t ∷ (cycles ++ before))).now.phase ≡ 3 → (back (t ∷ (cycles ++ before))).stop ≡ None → (k : ℕ) → k < length r.drives
      → is_unready k (t ∷ (cycles ++ before))
      → suc (length cycles) + lost_of (t ∷ cycles) before k + spare t (cycles ++ before)
      ≤ 12 + length r.drives + early_costs r jobs carry restarts (t ∷ cycles) before + others k + opens_of (t ∷ cycles) before k +
      disturbances r carry restarts (t ∷ cycles) before
  three_counts t [] before run clear starts sparse is_three none k below unready =
      let lost = lost_few r jobs carry restarts opened k below t [] before run clear starts sparse in omega (arith, lost)
  three_counts t (u ∷ cycles) before run clear starts sparse is_three none k below unready =
      let is = borne_on r jobs carry restarts opened t (u ∷ cycles) before run clear starts sparse in
      let same_phase = sym (phase_is r jobs carry restarts opened t (u ∷ (cycles ++ before)) run is) in
      let stop_none : (behind_mdt r jobs carry restarts t.sent (u ∷ (cycles ++ before))).stop ≡ None =
      sym (stop_after r jobs carry restarts t (u ∷ (cycles ++ before)) is.stays) ∙ none in
      let none_then = none_earlier r jobs carry restarts opened t (u ∷ (cycles ++ before)) run is stop_none in
      elim (rose r jobs carry restarts opened t (u ∷ (cycles ++ before)) run is 2 is_three) [
        | inl rise ↦ (
            let lost = lost_more r jobs carry restarts opened k below t u cycles before run clear starts sparse in omega (
              arith,
              at_rise u cycles before run.0 clear.0 starts sparse.0 (same_phase ∙ rise.1) none_then
                  (let same = low_before r jobs carry restarts opened u (cycles ++ before) run.0
                  (borne_on r jobs carry restarts opened u cycles before run.0 clear.0 starts sparse.0) (let same = same_phase in
                  omega (arith, same, rise.1)) in same) k below,
              more_or_same
                  (is_some (open_in (begun_in (view_of r jobs carry restarts k t (u ∷ (cycles ++ before)))
                  (views_since r jobs carry restarts k (u ∷ cycles) before ++ views_of r jobs carry restarts k before))))
                  (opens_of (u ∷ cycles) before k),
              lost,
            ))
        | inr later ↦ (
            let opens = more_if (is_some (open_in (begun_in (view_of r jobs carry restarts k t ((u ∷ cycles) ++ before))
            (views_since r jobs carry restarts k (u ∷ cycles) before ++ views_of r jobs carry restarts k before))))
            (opens_of (u ∷ cycles) before k)
            (subst (λ (l : List View). is_some (open_in (begun_in (view_of r jobs carry restarts k t ((u ∷ cycles) ++ before)) l)) ≡
            true)
            (views_split r jobs carry restarts k (u ∷ cycles) before)
            (opens_in_three t ((u ∷ cycles) ++ before) run clear is later.1 stop_none k below unready)) in
            let lost = lost_more r jobs carry restarts opened k below t u cycles before run clear starts sparse in omega (
              arith,
              three_counts u cycles before run.0 clear.0 starts sparse.0 (same_phase ∙ later.1) none_then k below
                  (unready_start t (u ∷ (cycles ++ before)) is k unready run clear),
              opens,
              lost,
            ))
      ]

  -- WHAT THE REQUESTS of phases 2 and 3 to a drive cost, by what those of phase 3 do
  pub three_fit : (longest : ℕ → ℕ) (extra : ℕ) (t : CycleView) (j : List CycleView) → IsRun r jobs carry restarts (t ∷ j) → IsClear (t ∷ j)
      → Borne t j → t.phase ≡ 3 → (k : ℕ) → k < length r.drives
      → ((plan : PlanView) (recent old : List Begun) → epoch_begun (views_of r jobs carry restarts k (t ∷ j)) ≡ recent ++ old
      → AreAt (jobs_of (known_of r) (Some plan) k) (recent ++ old) → length old ≡ reads_count (member (known_of r) k) + 12
      → cost_in (cost_of (drive_at r k).busy (drive_at r k).command longest (store_of (drive_at r k))) recent
      ≤ command_cycles (drive_at r k) + extra)
      → cost_in (cost_of (drive_at r k).busy (drive_at r k).command longest (store_of (drive_at r k)))
      (epoch_begun (views_of r jobs carry restarts k (t ∷ j))) ≤ section_two (drive_at r k) + command_cycles (drive_at r k) + extra
  three_fit longest extra t j run clear is is_three k below rest =
      elim (cases_lt (length (epoch_begun (views_of r jobs carry restarts k (t ∷ j)))) (reads_count (member (known_of r) k) + 12)) [
        | inl few ↦ (let all = fits (epoch_begun (views_of r jobs carry restarts k (t ∷ j))) at (omega (arith, few)) in omega (arith, all))
        | inr many ↦ later (left_of (epoch_begun (views_of r jobs carry restarts k (t ∷ j))) (reads_count (member (known_of r) k) + 12)
            (omega (arith, many)))
      ]
    where
      made : (plan : PlanView) × ((behind_mdt r jobs carry restarts t.sent j).plan ≡ Some plan)
      made = planned t j run clear is_three k below

      cost : Request → ℕ
      cost = cost_of (drive_at r k).busy (drive_at r k).command longest (store_of (drive_at r k))

      at : AreAt (jobs_of (known_of r) (Some made.0) k) (epoch_begun (views_of r jobs carry restarts k (t ∷ j)))
      at = subst (λ (o : Option PlanView). AreAt (jobs_of (known_of r) o k) (epoch_begun (views_of r jobs carry restarts k (t ∷ j)))) made.1
          (places_now r jobs carry restarts opened t j run clear is.stays k below
          (let same = phase_now r jobs carry restarts t j run.1 in omega (arith, same, is_three)))

      fits : (begun : List Begun) → AreAt (jobs_of (known_of r) (Some made.0) k) begun
          → length begun ≤ reads_count (member (known_of r) k) + 12 → cost_in cost begun ≤ section_two (drive_at r k)
      fits begun places low = two_fits longest (drive_at r k) (ring_drive r k (drive_at r k) opened.valid (drive_got r k below)).blocks
          (reads_cost (drive_at r k).busy) (writes_cost (drive_at r k).busy) (known_of r) (Some made.0) k begun (member_is r k) places low

      later : IsLeft (epoch_begun (views_of r jobs carry restarts k (t ∷ j))) (reads_count (member (known_of r) k) + 12)
          → cost_in cost (epoch_begun (views_of r jobs carry restarts k (t ∷ j)))
          ≤ section_two (drive_at r k) + command_cycles (drive_at r k) + extra
      later c =
          let split = subst (AreAt (jobs_of (known_of r) (Some made.0) k)) c.is at in
          let old = fits c.old (at_old (jobs_of (known_of r) (Some made.0) k) c.recent c.old split)
          (let long = c.long in omega (arith, long)) in
          let recent = rest made.0 c.recent c.old c.is split c.long in
          let both = ap (cost_in cost) c.is ∙ cost_both cost c.recent c.old in omega (arith, old, recent, both)

  -- as long as its check for phase 4 hasn't ended
  pub check_fit : (t : CycleView) (j : List CycleView) → IsRun r jobs carry restarts (t ∷ j) → IsClear (t ∷ j) → Borne t j → t.phase ≡ 3
      → (k : ℕ) → k < length r.drives
      → length (outcomes_in (epoch_begun (views_of r jobs carry restarts k (t ∷ j)))) ≤ reads_count (member (known_of r) k) + 12
      → cost_in (cost_of (drive_at r k).busy (drive_at r k).command (λ raw. 512) (store_of (drive_at r k)))
      (epoch_begun (views_of r jobs carry restarts k (t ∷ j))) ≤ section_two (drive_at r k) + command_cycles (drive_at r k) + 0
  check_fit t j run clear is is_three k below few =
      let begun = begun_few (known_of r) k (now t j).plan ((now t j).waiting k) (now t j).now.phase (reads_count (member (known_of r) k)
      + 12)
      (epoch_begun (views_of r jobs carry restarts k (t ∷ j))) ((now t j).tasks k)
      (tasks_now r jobs carry restarts opened t j run clear is.stays k below) few in
      three_fit (λ raw. 512) 0 t j run clear is is_three k below (λ plan recent old split at long.
      let most = check_fits (λ raw. 512) (drive_at r k) (ring_drive r k (drive_at r k) opened.valid (drive_got r k below)).blocks
      (known_of r) plan k recent old at long (let same = ap length split in omega (arith, same, begun)) in omega (arith, most))

  -- HOW LONG PHASE 3 LASTS, as long as a drive isn't ready, by what the requests to it cost
  pub three_sparse : (t : CycleView) (cycles before : List CycleView) → IsRun r jobs carry restarts (t ∷ (cycles ++ before))
      → IsClear (t ∷ (cycles ++ before)) → Base before → AreSparse r carry restarts (t ∷ cycles) before
      → (back (t ∷ (cycles ++ before))).now.phase ≡ 3 → (back (t ∷ (cycles ++ before))).stop ≡ None → (k : ℕ)
      → k < length r.drives → is_unready k (t ∷ (cycles ++ before)) → (longest : ℕ → ℕ) (extra : ℕ)
      → AreListed longest (views_of r jobs carry restarts k (t ∷ (cycles ++ before)))
      → cost_in (cost_of (drive_at r k).busy (drive_at r k).command longest (store_of (drive_at r k)))
      (epoch_begun (views_of r jobs carry restarts k (t ∷ (cycles ++ before))))
      ≤ section_two (drive_at r k) + command_cycles (drive_at r k) + extra
      → suc (length cycles) ≤ 12 + length r.drives + sum_by section_two r.drives + command_cycles (drive_at r k) + extra
      + early_costs r jobs
      carry restarts (t ∷ cycles) before + disturbances r carry restarts (t ∷ cycles) before
  three_sparse t cycles before run clear starts sparse is_three none k below unready longest extra listed cost =
      let opens = opens_so r jobs carry restarts opened (t ∷ cycles) before run clear starts sparse k longest below listed in
      let split = sum_split (length r.drives) k sec below in
      let sums = sum_within sec section_two r.drives (λ j low. omega arith) in
      omega (arith, three_counts t cycles before run clear starts sparse is_three none k below unready, opens, cost, split, sums)
