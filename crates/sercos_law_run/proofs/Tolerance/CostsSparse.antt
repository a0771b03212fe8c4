-- What sparse faults cost: the cycles with an open step to a drive, by the cost of its requests and the disturbed cycles.
use Rattle.sercos_law_run.proofs.Words.{◌≡◌, inl, inr, ℕ, ◌+◌, ◌*◌, ◌<◌, ◌≤◌, false, List, [], ◌∷◌, ◌++◌, length, Option, None, refl, sym, ap, ◌∙◌, subst, arith, if◌then◌else◌, ◌==◌, nat_le, is_some, cases_lt, cond-false, cond-true, nat_tests, Job, Request, times_le, store_of, RingView, CycleView, Fall, Carry, Restarts, Begun, answers_in, open_in, epoch_begun, epoch_log, View, AreListed, AreTimed, cost_in, cost_of, open_since, one_more, drive_at, is_disturbed_in, IsClear, IsDisturbed, IsRun, view_of, views_of, IsOpened, IsUndisturbed, views_since, GoesOn, cycles_for, disturbances, loses_step, lost_since, AreSparse, IsSparse, in_cost, says_shape, stays_in_cost_since, comes_timed, cases_eq, Bool, ne_eqb, length-append}
use Rattle.sercos_law_run.proofs.Held.Runs.{Stands, small}
use Rattle.sercos_law_run.proofs.Headline.HeadlineRuns.{all_stand, first_store}
use Rattle.sercos_law_run.proofs.Undisturbed.Checks.Carried.{are_carried}
use Rattle.sercos_law_run.proofs.Undisturbed.Checks.CommandRuns.{first_commands}
use Rattle.sercos_law_run.proofs.Undisturbed.NeverFalls.{runs_split}
use Rattle.sercos_law_run.proofs.Undisturbed.Checks.PassedCycles.{views_split}
use Rattle.sercos_law_run.proofs.Undisturbed.Checks.PassedRuns.{commands_so}
use Rattle.sercos_law_run.proofs.Recovery.LateDown.{phase_after, no_lower}
use Rattle.sercos_law_run.proofs.Recovery.DownSince.{one_at_most}
use Rattle.sercos_law_run.proofs.Tolerance.Borne.{IsBase, IsBorne, borne_on, calm_or_not, zero_is, is_run, IsHeld, rests_then, some_drive}
use Rattle.sercos_law_run.proofs.Tolerance.Losses.{early_kept, takes_time_and_losses, same_if}
use Rattle.sercos_law_run.proofs.Recovery.CausedStops.{phase_most}
use Rattle.sercos_law_run.proofs.Undisturbed.BehindRests.{Follow, follow_on}

-- What a disturbed cycle costs, and what of it is left for the next.
abbrev pub spare_for : ℕ → ℕ
spare_for phase = if phase == 2 then 1 else 0

pub early_for : (n : ℕ) → n ≤ 1 → (cycles_for n ≡ 0) × (spare_for n ≡ 0)
early_for n low =
    let other : (n == 2) ≡ false = grind (arith, nat_tests, low) in
    (cond-true (nat_le n 1) 0 (if n == 2 then 2 else 1) (grind (arith, nat_tests, low)), cond-false (n == 2) 1 0 other)

pub two_for : (n : ℕ) → n ≡ 2 → (cycles_for n ≡ 2) × (spare_for n ≡ 1)
two_for n is = (ap cycles_for is, ap spare_for is)

later_for : (n : ℕ) → 2 ≤ n → (1 + spare_for n ≡ cycles_for n) × (spare_for n ≤ 1)
later_for n high = elim (cases_eq n 2) [
  | inl two ↦ (let (a, b) = two_for n two in (omega (arith, a, b), omega (arith, b)))
  | inr other ↦ (
      let off : nat_le n 1 ≡ false = grind (arith, nat_tests, high) in
      let differs : (n == 2) ≡ false = ne_eqb n 2 other in
      let a : cycles_for n ≡ 1 = cond-false (nat_le n 1) 0 (if n == 2 then 2 else 1) off ∙ cond-false (n == 2) 2 1 differs in
      let b : spare_for n ≡ 0 = cond-false (n == 2) 1 0 differs in (omega (arith, a, b), omega (arith, b)))
]

answers_more : (newer old : List Begun) → length (answers_in old) ≤ length (answers_in (newer ++ old))
answers_more [] old = omega arith
answers_more (b ∷ newer) old = let before = answers_more newer old in let long = length-append b.answers
    (answers_in (newer ++ old)) in omega (arith, before, long)

module _ (r : RingView) (jobs : List Job) (carry : Carry) (restarts : Restarts) (opened : IsOpened r jobs) where
  abbrev Borne : CycleView → List CycleView → Type 0
  Borne t j = IsBorne r jobs carry restarts opened t j

  abbrev Base : List CycleView → Type 0
  Base before = IsBase r jobs carry restarts opened before

  abbrev pub spare : CycleView → List CycleView → ℕ
  spare t j = if is_disturbed_in r carry restarts (length j) t.sent then spare_for t.phase else 0

  abbrev pub costs : CycleView → List CycleView → ℕ
  costs t j = if is_disturbed_in r carry restarts (length j) t.sent then cycles_for t.phase else 0

  pub on_so : (t : CycleView) (j : List CycleView) → IsDisturbed r carry restarts t j
      → (costs t j ≡ cycles_for t.phase) × (spare t j ≡ spare_for t.phase)
  on_so t j on = (
    cond-true (is_disturbed_in r carry restarts (length j) t.sent) (cycles_for t.phase) 0 on,
    cond-true
        (is_disturbed_in r carry restarts (length j) t.sent) (spare_for t.phase) 0 on,
  )

  pub off_so : (t : CycleView) (j : List CycleView) → IsUndisturbed r carry restarts t j → (costs t j ≡ 0) × (spare t j ≡ 0)
  off_so t j off = (
    cond-false (is_disturbed_in r carry restarts (length j) t.sent) (cycles_for t.phase) 0 off,
    cond-false
        (is_disturbed_in r carry restarts (length j) t.sent) (spare_for t.phase) 0 off,
  )

  abbrev pub lost_at : ℕ → CycleView → List CycleView → Bool
  lost_at k t j = loses_step (view_of r jobs carry restarts k t j) (views_of r jobs carry restarts k j)

  abbrev lost_of : List CycleView → List CycleView → ℕ → ℕ
  lost_of cycles before k = lost_since (views_since r jobs carry restarts k cycles before) (views_of r jobs carry restarts k before)

  pub lost_parts : (k : ℕ) (t : CycleView) (cycles before : List CycleView)
      → lost_of (t ∷ cycles) before k ≡ one_more (lost_at k t (cycles ++ before)) (lost_of cycles before k)
  lost_parts k t cycles before =
      ap (λ (l : List View). one_more (loses_step (view_of r jobs carry restarts k t (cycles ++ before)) l) (lost_of cycles before k))
      (sym (views_split r jobs carry restarts k cycles before))

  -- HOW MUCH IS LOST of some channels, in cycles up to a phase: no more after a cycle in which nothing of these is lost, and one more at
  -- most after any other.
  pub record IsLoss (M : List CycleView → ℕ) (counts : ℕ → Type 0) (top : ℕ) (before : List CycleView) : Type 0 where
    pub none : M [] ≡ 0
    pub keeps : (t : CycleView) (cycles : List CycleView)
        → ((k : ℕ) → k < length r.drives → counts k → lost_at k t (cycles ++ before) ≡ false) → M (t ∷ cycles) ≡ M cycles
    pub one : (t : CycleView) (cycles : List CycleView) → IsRun r jobs carry restarts (t ∷ (cycles ++ before))
        → IsClear (t ∷ (cycles ++ before)) → 2 ≤ t.phase → t.phase ≤ top → M (t ∷ cycles) ≤ M cycles + 1

  -- what holds of some drives at the end of each of these cycles
  abbrev pub AreHeld : (ℕ → Type 0) → ℕ → List CycleView → List CycleView → Type 0
  AreHeld among since before [] = Unit {0}
  AreHeld among since before (t ∷ cycles) =
      AreHeld among since before cycles × IsHeld r jobs carry restarts opened among since t (cycles ++ before)

  module _ (M : List CycleView → ℕ) (counts : ℕ → Type 0) (top : ℕ) (before : List CycleView) (loss : IsLoss M counts top before)
      (among : ℕ → Type 0) (within : (k : ℕ) → among k → k < length r.drives) (since : ℕ)
      (those : (k : ℕ) → k < length r.drives → counts k → among k) where
    early : (t : CycleView) (cycles : List CycleView) → IsRun r jobs carry restarts (t ∷ (cycles ++ before))
        → IsClear (t ∷ (cycles ++ before)) → t.phase ≤ 1 → M (t ∷ cycles) ≡ M cycles
    early t cycles run clear low = loss.keeps t cycles (λ k below here. early_kept (drive_at r k).busy
        (view_of r jobs carry restarts k t (cycles ++ before)) (views_of r jobs carry restarts k (cycles ++ before))
        (is_run r jobs carry restarts opened (t ∷ (cycles ++ before)) run clear k below) low)

    -- a disturbed cycle costs so much, of which some is spare
    disturbed_more : (t : CycleView) (cycles : List CycleView) → IsRun r jobs carry restarts (t ∷ (cycles ++ before))
        → IsClear (t ∷ (cycles ++ before)) → t.phase ≤ top → IsDisturbed r carry restarts t (cycles ++ before) → (dist : ℕ)
        → M cycles ≤ dist → M (t ∷ cycles) + spare t (cycles ++ before) ≤ dist + costs t (cycles ++ before)
    disturbed_more t cycles run clear low on dist le = elim (cases_lt t.phase 2) [
      | inl first ↦ (
          let same = early t cycles run clear (omega (arith, first)) in
          let (a, b) = early_for t.phase (omega (arith, first)) in
          let (c, d) = on_so t (cycles ++ before) on in omega (arith, same, a, b, c, d, le))
      | inr later ↦ (
          let most = loss.one t cycles run clear (omega (arith, later)) low in
          let (a, b) = later_for t.phase (omega (arith, later)) in
          let (c, d) = on_so t (cycles ++ before) on in omega (arith, most, a, b, c, d, le))
    ]

    -- an undisturbed one loses no more than is spare
    calm_more : (t u : CycleView) (cycles : List CycleView) → IsRun r jobs carry restarts (t ∷ u ∷ (cycles ++ before))
        → IsClear (t ∷ u ∷ (cycles ++ before)) → IsHeld r jobs carry restarts opened among since u (cycles ++ before)
        → IsHeld r jobs carry restarts opened among since t (u ∷ (cycles ++ before)) → IsSparse r carry restarts t (u ∷ (cycles ++ before))
        → t.phase ≤ top → IsUndisturbed r carry restarts t (u ∷ (cycles ++ before)) → (dist : ℕ)
        → M (u ∷ cycles) + spare u (cycles ++ before) ≤ dist → M (t ∷ u ∷ cycles) ≤ dist
    calm_more t u cycles run clear was is sparse low off dist le = elim (cases_lt t.phase 2) [
      | inl first ↦ (let same = early t (u ∷ cycles) run clear (omega (arith, first)) in omega (arith, same, le))
      | inr two ↦ elim (calm_or_not r carry restarts u (cycles ++ before)) [
        | inr calm ↦ (let same = loss.keeps t (u ∷ cycles) (λ k below here. is.kept off (inr (tt, calm)) k (those k below here)) in
            omega (arith, same, le))
        | inl disturbed ↦ elim (cases_lt t.phase 3) [
          | inr high ↦ (omega (
            arith,
            loss.keeps t (u ∷ cycles)
                (λ k below here. is.kept off (inl (omega (arith, high))) k (those k below here)),
            le,
          ))
          | inl less ↦ elim (phase_after r jobs carry restarts opened t u (cycles ++ before) run clear was.stays
              (sparse.goes_on 0 (omega arith)) 0 (some_drive r jobs carry restarts opened)) [
                | inr up ↦ (let same = loss.keeps t (u ∷ cycles) (λ k below here. is.rested_kept off k (those k below here)
                    (rests_then r jobs carry restarts opened among within since t u (cycles ++ before) run clear was sparse k below up)) in
                    omega (arith, same, le))
                | inl equal ↦ (
                    let most = loss.one t (u ∷ cycles) run clear (omega (arith, two)) low in
                    let (a, b) = two_for u.phase (omega (arith, equal, two, less)) in
                    let (c, d) = on_so u (cycles ++ before) disturbed in omega (arith, most, a, b, c, d, le))
              ]
        ]
      ]
    ]

    pub loss_more : (t u : CycleView) (cycles : List CycleView) → IsRun r jobs carry restarts (t ∷ u ∷ (cycles ++ before))
        → IsClear (t ∷ u ∷ (cycles ++ before)) → IsHeld r jobs carry restarts opened among since u (cycles ++ before)
        → IsHeld r jobs carry restarts opened among since t (u ∷ (cycles ++ before)) → IsSparse r carry restarts t (u ∷ (cycles ++ before))
        → t.phase ≤ top → (dist : ℕ) → M (u ∷ cycles) + spare u (cycles ++ before) ≤ dist
        → M (t ∷ u ∷ cycles) + spare t (u ∷ (cycles ++ before)) ≤ dist + costs t (u ∷ (cycles ++ before))
    loss_more t u cycles run clear was is sparse low dist le = elim (calm_or_not r carry restarts t (u ∷ (cycles ++ before))) [
      | inl on ↦ disturbed_more t (u ∷ cycles) run clear low on dist (omega (arith, le))
      | inr off ↦ (
          let most = calm_more t u cycles run clear was is sparse low off dist le in
          let (c, d) = off_so t (u ∷ (cycles ++ before)) off in omega (arith, most, c, d))
    ]

    -- WHAT IS LOST, if nothing is in the first cycle if it is undisturbed
    module _ (start : (t : CycleView) → IsRun r jobs carry restarts (t ∷ before) → IsClear (t ∷ before)
        → IsHeld r jobs carry restarts opened among since t before → IsSparse r carry restarts t before
        → IsUndisturbed r carry restarts t before → (k : ℕ) → k < length r.drives → counts k → lost_at k t before ≡ false) where
      pub few_lost : (t : CycleView) (cycles : List CycleView) → IsRun r jobs carry restarts (t ∷ (cycles ++ before))
          → IsClear (t ∷ (cycles ++ before)) → AreHeld among since before (t ∷ cycles) → AreSparse r carry restarts (t ∷ cycles) before
          → t.phase ≤ top → M (t ∷ cycles) + spare t (cycles ++ before) ≤ disturbances r carry restarts (t ∷ cycles) before
      few_lost t [] run clear held sparse low = elim (calm_or_not r carry restarts t before) [
        | inl on ↦ (let more = disturbed_more t [] run clear low on 0 (let none = loss.none in omega (arith, none)) in omega (arith, more))
        | inr off ↦ (
            let same = loss.keeps t [] (start t run clear held.1 sparse.1 off) in
            let none = loss.none in let (c, d) = off_so t before off in omega (arith, same, none, c, d))
      ]
      few_lost t (u ∷ cycles) run clear held sparse low = loss_more t u cycles run clear held.0.1 held.1 sparse.1 low
          (disturbances r carry restarts (u ∷ cycles) before) (few_lost u cycles run.0 clear.0 held.0 sparse.0
          (let least = no_lower r jobs carry restarts opened t u (cycles ++ before) run clear held.0.1.stays
          (sparse.1.goes_on 0 (omega arith)) 0 (some_drive r jobs carry restarts opened) in omega (arith, least, low)))

  -- FROM A BASE ON, as far as all drives go
  abbrev every : (k : ℕ) → k < length r.drives → k < length r.drives
  every k below = below

  first_lost : (before : List CycleView) → Base before → (t : CycleView) → IsRun r jobs carry restarts (t ∷ before) → IsClear (t ∷ before)
      → Borne t before → IsSparse r carry restarts t before → IsUndisturbed r carry restarts t before → (k : ℕ) → k < length r.drives
      → lost_at k t before ≡ false
  first_lost before (inl starts) t run clear is sparse off k below =
      let at_zero = zero_is r jobs carry restarts opened t before run clear starts (sparse.goes_on 0 (omega arith)) in
      early_kept (drive_at r k).busy (view_of r jobs carry restarts k t before) (views_of r jobs carry restarts k before)
      (is_run r jobs carry restarts opened (t ∷ before) run clear k below) (omega (arith, at_zero))
  first_lost [] (inr none) t run clear is sparse off k below = absurd none
  first_lost (f ∷ before) (inr stood) t run clear is sparse off k below = is.kept off (inr (tt, stood.1)) k below

  held_on : (before : List CycleView) → Base before → (cycles : List CycleView) → IsRun r jobs carry restarts (cycles ++ before)
      → IsClear (cycles ++ before) → AreSparse r carry restarts cycles before → AreHeld (λ k. k < length r.drives) 0 before cycles
  held_on before base [] run clear sparse = tt
  held_on before base (t ∷ cycles) run clear sparse = (
    held_on before base cycles run.0 clear.0 sparse.0,
    borne_on r jobs carry restarts opened t cycles before run clear base sparse,
  )

  pub few_from : (M : List CycleView → ℕ) (counts : ℕ → Type 0) (top : ℕ) (before : List CycleView) → IsLoss M counts top before
      → (t : CycleView) (cycles : List CycleView) → IsRun r jobs carry restarts (t ∷ (cycles ++ before)) → IsClear (t ∷ (cycles ++ before))
      → Base before → AreSparse r carry restarts (t ∷ cycles) before → t.phase ≤ top
      → M (t ∷ cycles) + spare t (cycles ++ before) ≤ disturbances r carry restarts (t ∷ cycles) before
  few_from M counts top before loss t cycles run clear base sparse low =
      few_lost M counts top before loss (λ k. k < length r.drives) every 0 (λ k below here. below)
      (λ u run_u clear_u is sparse_u off k below here. first_lost before base u run_u clear_u is sparse_u off k below) t cycles run clear
      (held_on before base (t ∷ cycles) run clear sparse) sparse low

  -- ONE CHANNEL, in all phases
  module _ (k : ℕ) (below : k < length r.drives) where
    of_one : (before : List CycleView) → IsLoss (λ l. lost_of l before k) (λ i. i ≡ k) 4 before
    of_one before = record {
      none = refl;
      keeps = λ t cycles kept. lost_parts k t cycles before ∙ same_if (lost_at k t (cycles ++ before)) (lost_of cycles before k)
          (kept k below refl);
      one = λ t cycles run clear late low. (
          let same = lost_parts k t cycles before in
          let most = one_at_most (lost_at k t (cycles ++ before)) (lost_of cycles before k) in omega (arith, same, most));
    }

    pub lost_more : (t u : CycleView) (cycles before : List CycleView) → IsRun r jobs carry restarts (t ∷ u ∷ (cycles ++ before))
        → IsClear (t ∷ u ∷ (cycles ++ before)) → Base before → AreSparse r carry restarts (t ∷ u ∷ cycles) before
        → lost_of (t ∷ u ∷ cycles) before k + spare t (u ∷ (cycles ++ before))
        ≤ lost_of (u ∷ cycles) before k + spare u (cycles ++ before) + costs t (u ∷ (cycles ++ before))
    lost_more t u cycles before run clear base sparse = loss_more (λ l. lost_of l before k) (λ i. i ≡ k) 4 before (of_one before)
        (λ i. i < length r.drives) every 0 (λ i low here. low) t u cycles run clear
        (borne_on r jobs carry restarts opened u cycles before run.0 clear.0 base sparse.0)
        (borne_on r jobs carry restarts opened t (u ∷ cycles) before run clear base sparse) sparse.1
        (phase_most r jobs carry restarts opened t (u ∷ (cycles ++ before)) run clear) _ (omega arith)

    pub lost_few : (t : CycleView) (cycles before : List CycleView) → IsRun r jobs carry restarts (t ∷ (cycles ++ before))
        → IsClear (t ∷ (cycles ++ before)) → Base before → AreSparse r carry restarts (t ∷ cycles) before
        → lost_of (t ∷ cycles) before k + spare t (cycles ++ before) ≤ disturbances r carry restarts (t ∷ cycles) before
    lost_few t cycles before run clear base sparse = few_from (λ l. lost_of l before k) (λ i. i ≡ k) 4 before (of_one before) t cycles run
        clear base sparse (phase_most r jobs carry restarts opened t (cycles ++ before) run clear)

    pub goes_since : (cycles before : List CycleView) → IsRun r jobs carry restarts (cycles ++ before) → IsClear (cycles ++ before)
        → Base before → AreSparse r carry restarts cycles before
        → GoesOn (views_since r jobs carry restarts k cycles before)
    goes_since [] before run clear starts sparse = tt
    goes_since (t ∷ cycles) before run clear starts sparse =
        let is = borne_on r jobs carry restarts opened t cycles before run clear starts sparse
        in
        (goes_since cycles before run.0 clear.0 starts sparse.0, ap (λ (o : Option Fall). is_some o) is.stays, is.goes_on)

  -- A STRETCH of the run of one drive, as its channel goes on
  module _ (cycles before : List CycleView) (run : IsRun r jobs carry restarts (cycles ++ before)) (clear : IsClear (cycles ++ before))
      (k : ℕ) (longest : ℕ → ℕ) (below : k < length r.drives)
      (listed : AreListed longest (views_of r jobs carry restarts k (cycles ++ before)))
      (going : GoesOn (views_since r jobs carry restarts k cycles before)) where
    abbrev its_cost : Request → ℕ
    its_cost = cost_of (drive_at r k).busy (drive_at r k).command longest (store_of (drive_at r k))

    stands : Stands r jobs carry restarts (cycles ++ before) k
    stands = all_stand r jobs carry restarts opened (cycles ++ before) run clear k below

    timed : AreTimed (drive_at r k).command (views_of r jobs carry restarts k (cycles ++ before))
    timed =
        let follow = (commands_so r jobs carry restarts opened (cycles ++ before) run clear k below).follow in
        comes_timed (drive_at r k).command (views_of r jobs carry restarts k (cycles ++ before))
        (are_carried (drive_at r k).command (first_commands r k) refl refl (views_of r jobs carry restarts k (cycles ++ before)) follow)

    paced : open_since (views_since r jobs carry restarts k cycles before) (views_of r jobs carry restarts k before)
        + ((drive_at r k).busy + 1) * length (answers_in (epoch_begun (views_of r jobs carry restarts k before)))
        ≤ ((drive_at r k).busy + 1) * length (epoch_log (views_of r jobs carry restarts k (cycles ++ before)))
        + lost_since (views_since r jobs carry restarts k cycles before) (views_of r jobs carry restarts k before)
    paced = subst (λ (l : List View).
        open_since (views_since r jobs carry restarts k cycles before) (views_of r jobs carry restarts k before)
        + ((drive_at r k).busy + 1) * length (answers_in (epoch_begun (views_of r jobs carry restarts k before)))
        ≤ ((drive_at r k).busy + 1) * length (epoch_log l)
        + lost_since (views_since r jobs carry restarts k cycles before) (views_of r jobs carry restarts k before))
        (sym (views_split r jobs carry restarts k cycles before))
        (takes_time_and_losses (drive_at r k).busy (views_since r jobs carry restarts k cycles before)
        (views_of r jobs carry restarts k before) (runs_split r jobs carry restarts opened cycles before run clear k below) going)

    -- THE CYCLES WITH AN OPEN STEP, by what was lost and what its requests cost,
    pub opens_if : open_since (views_since r jobs carry restarts k cycles before) (views_of r jobs carry restarts k before)
        ≤ cost_in its_cost (epoch_begun (views_of r jobs carry restarts k (cycles ++ before)))
        + lost_since (views_since r jobs carry restarts k cycles before) (views_of r jobs carry restarts k before)
    opens_if =
        let cost = in_cost (drive_at r k).busy (drive_at r k).command longest (store_of (drive_at r k))
        (views_of r jobs carry restarts k (cycles ++ before))
        (small r jobs carry restarts opened (first_store r jobs carry restarts opened) k below) stands.sees.run stands.sound timed listed in
        let time = paced in omega (arith, cost, time)

    -- or the recent ones, where those before them had ended before the stretch,
    pub recent_if : (newer old : List Begun) → epoch_begun (views_of r jobs carry restarts k before) ≡ newer ++ old → open_in old ≡ None
        → (recent : List Begun) × (epoch_begun (views_of r jobs carry restarts k (cycles ++ before)) ≡ recent ++ old)
        × (open_since (views_since r jobs carry restarts k cycles before) (views_of r jobs carry restarts k before)
        ≤ cost_in its_cost recent + lost_since (views_since r jobs carry restarts k cycles before)
        (views_of r jobs carry restarts k before))
    recent_if newer old is shut =
        let recently : Follow old (epoch_begun (views_of r jobs carry restarts k (cycles ++ before))) =
        subst (λ (l : List View). Follow old (epoch_begun l)) (sym (views_split r jobs carry restarts k cycles before))
        (follow_on (views_since r jobs carry restarts k cycles before) (views_of r jobs carry restarts k before) old going shut
        (newer, is)) in
        let cost = stays_in_cost_since says_shape (drive_at r k).busy (drive_at r k).command longest (store_of (drive_at r k))
        (small r jobs carry restarts opened (first_store r jobs carry restarts opened) k below)
        (views_of r jobs carry restarts k (cycles ++ before)) recently.0 old stands.sees.run stands.sound timed listed recently.1 shut in
        let most = times_le ((drive_at r k).busy + 1) (length (answers_in old))
        (length (answers_in (epoch_begun (views_of r jobs carry restarts k before))))
        (subst (λ (l : List Begun). length (answers_in old) ≤ length (answers_in l)) (sym is) (answers_more newer old)) in
        let time = paced in (recently.0, recently.1, omega (arith, cost, most, time))

  pub opens_so : (cycles before : List CycleView)
      → IsRun r jobs carry restarts (cycles ++ before) → IsClear (cycles ++ before) → Base before
      → AreSparse r carry restarts cycles before → (k : ℕ) (longest : ℕ → ℕ) → k < length r.drives
      → AreListed longest (views_of r jobs carry restarts k (cycles ++ before))
      → open_since (views_since r jobs carry restarts k cycles before) (views_of r jobs carry restarts k before)
      ≤ cost_in (cost_of (drive_at r k).busy (drive_at r k).command longest (store_of (drive_at r k)))
      (epoch_begun (views_of r jobs carry restarts k (cycles ++ before)))
      + lost_since (views_since r jobs carry restarts k cycles before) (views_of r jobs carry restarts k before)
  opens_so cycles before run clear starts sparse k longest below listed =
      opens_if cycles before run clear k longest below listed (goes_since k below cycles before run clear starts sparse)

  -- and by the disturbed cycles
  pub costs_sparse : (cycles before : List CycleView)
      → IsRun r jobs carry restarts (cycles ++ before) → IsClear (cycles ++ before) → Base before
      → AreSparse r carry restarts cycles before → (k : ℕ) (longest : ℕ → ℕ) → k < length r.drives
      → AreListed longest (views_of r jobs carry restarts k (cycles ++ before))
      → open_since (views_since r jobs carry restarts k cycles before) (views_of r jobs carry restarts k before)
      ≤ cost_in (cost_of (drive_at r k).busy (drive_at r k).command longest (store_of (drive_at r k)))
      (epoch_begun (views_of r jobs carry restarts k (cycles ++ before))) + disturbances r carry restarts cycles before
  costs_sparse cycles before run clear starts sparse k longest below listed =
      let most = opens_so cycles before run clear starts sparse k longest below listed in
      let lost = lost_in cycles run clear sparse in omega (arith, most, lost)
    where
      lost_in : (l : List CycleView) → IsRun r jobs carry restarts (l ++ before) → IsClear (l ++ before)
          → AreSparse r carry restarts l before
          → lost_since (views_since r jobs carry restarts k l before) (views_of r jobs carry restarts k before)
          ≤ disturbances r carry restarts l before
      lost_in [] run clear sparse = omega arith
      lost_in (t ∷ l) run clear sparse = let few = lost_few k below t l before run clear starts sparse in omega (arith, few)
