-- While the ring doesn't fall: a drive in phase 0 stays there, and the master goes on with phase 2 up to a cycle of it without a stop.
use Rattle.sercos_law_run.proofs.Words.{◌≡◌, ℕ, suc, ◌+◌, ◌<◌, ◌≤◌, false, List, [], ◌∷◌, ◌++◌, length, None, sym, ap, ◌∙◌, arith, if◌then◌else◌, slice_index_or, Job, DriveView, RingView, greatest, CycleView, known_of, Past, fall_of, is_done, Carry, Restarts, looks_back, master_calls, no_drive, IsClear, IsRun, at_start, behind_mdt, IsOpened, AreInTwo, GoesOnInTwo, IsDown, IsStretch, NoneFalls}
use Rattle.sercos_law_run.proofs.Undisturbed.JobsBegun.{goes_in_two}
use Rattle.sercos_law_run.proofs.Undisturbed.PhaseCounts.{end_kept}
use Rattle.sercos_law_run.proofs.Undisturbed.Stops.StopStays.{none_before, stop_after}
use Rattle.sercos_law_run.proofs.Undisturbed.Stops.StopOnce.{same_start}
use Rattle.sercos_law_run.proofs.Undisturbed.NoFalls.{stays_at}
use Rattle.sercos_law_run.proofs.Recovery.DownSince.{NeverRestarts, calm_quiet}
use Rattle.sercos_law_run.proofs.Recovery.LateDown.{no_lower}
use Rattle.sercos_law_run.proofs.Recovery.Stretches.{stays_down_in}
use Rattle.sercos_law_run.proofs.Recovery.UpSections.{no_lower_on}
use Rattle.sercos_law_run.proofs.Undisturbed.ChannelsKept.{phase_now}

-- the slowest drive is busy for at most 20 cycles
pub greatest_low : (f : DriveView → ℕ) (most : ℕ) (drives : List DriveView) → ((k : ℕ) → k < length drives
    → f (slice_index_or drives k no_drive) ≤ most) → greatest f drives ≤ most
greatest_low f most [] each = omega arith
greatest_low f most (d ∷ drives) each =
    let rest = greatest_low f most drives (λ k low. each (suc k) (omega (arith, low))) in omega (arith, each 0 (omega arith), rest)

module _ (r : RingView) (jobs : List Job) (carry : Carry) (restarts : Restarts) (opened : IsOpened r jobs) where
  -- A DRIVE IN PHASE 0 stays there, whatever is lost.
  pub down_on : (cycles : List CycleView) (first : CycleView) (before : List CycleView)
      → IsRun r jobs carry restarts (cycles ++ first ∷ before)
      → IsClear (cycles ++ first ∷ before) → fall_of (known_of r) (behind_mdt r jobs carry restarts first.sent before) ≡ None
      → NoneFalls r jobs carry restarts cycles (first ∷ before) → NeverRestarts restarts cycles (first ∷ before) → 2 ≤ first.phase → (k : ℕ)
      → k < length r.drives → IsDown r jobs carry restarts k (first ∷ before) → IsDown r jobs carry restarts k (cycles ++ first ∷ before)
  down_on [] first before run clear first_stays stays quiet late k below down = down
  down_on (t ∷ cycles) first before run clear first_stays stays quiet late k below down =
      let least = no_lower_on r jobs carry restarts opened t cycles first before run clear first_stays stays.0 quiet k below in
      (stays_down_in r jobs carry restarts opened t (cycles ++ first ∷ before) run clear k below
      (down_on cycles first before run.0 clear.0 first_stays stays.0 quiet.0 late k below down) (omega (arith, least, late))).ended

  -- where the newest cycle is of phase 2 and has no stop, the master went on with phase 2 in those before it
  module _ (u t : CycleView) (j : List CycleView) (run : IsRun r jobs carry restarts (u ∷ t ∷ j)) (clear : IsClear (u ∷ t ∷ j))
      (stays : fall_of (known_of r) (behind_mdt r jobs carry restarts t.sent j) ≡ None) (on : restarts (length (t ∷ j)) 0 ≡ false) where
    start : at_start r jobs carry restarts (t ∷ j) ≡ looks_back r jobs (master_calls r carry restarts (t ∷ j))
    start = same_start r jobs carry restarts (t ∷ j) on

    stop_before : (behind_mdt r jobs carry restarts u.sent (t ∷ j)).stop ≡ None → (behind_mdt r jobs carry restarts t.sent j).stop ≡ None
    stop_before none = sym (stop_after r jobs carry restarts t j stays) ∙ none_before r jobs carry restarts u (t ∷ j) start none

    goes_on_in_two : u.phase ≡ 2 → t.phase ≡ 2 → (behind_mdt r jobs carry restarts u.sent (t ∷ j)).stop ≡ None
        → GoesOnInTwo r (behind_mdt r jobs carry restarts t.sent j)
    goes_on_in_two u_two t_two none =
        let p : Past = behind_mdt r jobs carry restarts t.sent j in
        let phase : p.now.phase ≡ 2 = phase_now r jobs carry restarts t j run.0.1 ∙ t_two in
        let next : (if is_done (known_of r) p then p.now.phase + 1 else p.now.phase) ≡ 2 = sym
        (run.1.phase ∙ ap (λ (q : Past). q.now.phase) start ∙ ap (λ (q : Past). q.now.phase) (end_kept (known_of r) p stays)) ∙ u_two in
        goes_in_two r jobs carry restarts opened t j run.0 clear.0 t_two (stop_before none)
        (stays_at (is_done (known_of r) p) p.now.phase 2 phase next)

  pub in_two_on : (u : CycleView) (cycles : List CycleView) (first : CycleView) (before : List CycleView)
      → IsRun r jobs carry restarts (u ∷ (cycles ++ first ∷ before)) → IsClear (u ∷ (cycles ++ first ∷ before))
      → fall_of (known_of r) (behind_mdt r jobs carry restarts first.sent before) ≡ None
      → NoneFalls r jobs carry restarts cycles (first ∷ before)
      → NeverRestarts restarts (u ∷ cycles) (first ∷ before) → 2 ≤ first.phase → u.phase ≡ 2
      → (behind_mdt r jobs carry restarts u.sent (cycles ++ first ∷ before)).stop ≡ None → (k : ℕ) → k < length r.drives
      → AreInTwo r jobs carry restarts cycles (first ∷ before)
  in_two_on u [] first before run clear first_stays stays on late two none k below = tt
  in_two_on u (t ∷ cycles) first before run clear first_stays stays on late two none k below =
      let least = no_lower_on r jobs carry restarts opened t cycles first before run.0 clear.0 first_stays stays.0 on.0 k below in
      let most = no_lower r jobs carry restarts opened u t (cycles ++ first ∷ before) run clear stays.1 on.1 k below in
      let t_two : t.phase ≡ 2 = omega (arith, least, most, two, late) in (
        in_two_on t cycles first before run.0 clear.0 first_stays stays.0 on.0 late t_two
            (stop_before u t (cycles ++ first ∷ before) run clear stays.1 on.1 none) k below,
        goes_on_in_two u t (cycles ++ first ∷ before) run clear stays.1 on.1 two t_two none,
      )

  pub are_in_two : (u : CycleView) (cycles : List CycleView) (first : CycleView) (before : List CycleView)
      → IsRun r jobs carry restarts (u ∷ (cycles ++ first ∷ before)) → IsClear (u ∷ (cycles ++ first ∷ before))
      → IsStretch r jobs carry restarts (u ∷ cycles) first before → 2 ≤ first.phase → u.phase ≡ 2
      → (behind_mdt r jobs carry restarts u.sent (cycles ++ first ∷ before)).stop ≡ None → (k : ℕ) → k < length r.drives
      → AreInTwo r jobs carry restarts cycles (first ∷ before)
  are_in_two u cycles first before run clear stretch = in_two_on u cycles first before run clear stretch.first_stays stretch.stays.0
      (calm_quiet r carry restarts (u ∷ cycles) (first ∷ before) stretch.calm)
