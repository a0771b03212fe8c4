-- In an undisturbed epoch the ring never falls, and each drive stands in the commanded phase.
use Rattle.sercos_law_run.proofs.Words.{◌≡◌, ℕ, zero, suc, ◌<◌, ◌≤◌, true, false, List, [], ◌∷◌, ◌++◌, length, Option, None, sym, ap, ◌∙◌, subst, arith, nat_le, is_some, slice_index_or, and_parts, nat_tests, Job, is_ring, DriveView, RingView, cycles_open, CycleView, Fall, known_of, fall_of, Carry, Restarts, View, IsWhole, AreWhole, IsPassed, ArePassed, BeginsEpoch, staying, calls_in, channel_calls, no_drive, drive_at, IsRun, IsClear, behind_mdt, view_of, views_of, IsOpened, AreUndisturbed, StartsEpoch, views_since, NoneFalls, StaysUp, none_late, hears_throughout, stands_throughout, is_drive, are_drives, are_drive_numbers, IsViewRun}
use Rattle.sercos_law_run.proofs.Journal.StationLemmas.{drives_so}
use Rattle.sercos_law_run.proofs.Headline.HeadlineRuns.{all_stand}
use Rattle.sercos_law_run.proofs.Undisturbed.Arriving.WholeIn.{whole_in}
use Rattle.sercos_law_run.proofs.Undisturbed.Checks.PassedCycles.{views_split, passed_undisturbed}
use Rattle.sercos_law_run.proofs.Undisturbed.StaysUp.{stays_up}

-- no drive is busy for more than 20 cycles
busy_in : (before drives : List DriveView) (k : ℕ) → are_drives before drives ≡ true → k < length drives → nat_le (slice_index_or drives k no_drive).busy 20 ≡ true
unfolding are_drives is_drive are_drive_numbers
busy_in before [] k are below = absurd (omega arith)
busy_in before (d ∷ drives) zero are below = (and_parts _ _ (and_parts _ _ (and_parts _ _ (and_parts _ _ (and_parts _ _ (and_parts _ _ are).0).1).0).1).1).0
busy_in before (d ∷ drives) (suc k) are below = busy_in (before ++ d ∷ []) drives k (and_parts _ _ are).1 (omega arith)

pub busy_low : (r : RingView) (k : ℕ) → is_ring r ≡ true → k < length r.drives → (drive_at r k).busy ≤ 20
busy_low r k valid below = let low : nat_le (drive_at r k).busy 20 ≡ true = busy_in [] r.drives k (drives_so r valid) below in grind (arith, nat_tests, low)

-- a cycle that is whole up to its end, and at whose end the ring stays up, is whole
pub whole_then : (v : View) (past : List View) → IsWhole (staying v) past → v.falls ≡ false → IsWhole v past
whole_then v past w none = record {
  mst = w.mst;
  drive = w.drive;
  master = w.master;
  stays = none;
  sends = w.sends;
  joint = w.joint;
  mdt = w.mdt;
  hears = w.hears;
  listens = w.listens;
}

-- at the end of none of these cycles does the ring fall, and each is whole for each drive, with its checks passed
pub record AllWhole (r : RingView) (jobs : List Job) (carry : Carry) (restarts : Restarts) (cycles before : List CycleView) : Type 0 where
  pub stays : NoneFalls r jobs carry restarts cycles before
  pub whole : (k : ℕ) → k < length r.drives → AreWhole (views_since r jobs carry restarts k cycles before) (views_of r jobs carry restarts k before)
  pub passed : (k : ℕ) → k < length r.drives → ArePassed (views_since r jobs carry restarts k cycles before) (views_of r jobs carry restarts k before)

module _ (r : RingView) (jobs : List Job) (carry : Carry) (restarts : Restarts) (opened : IsOpened r jobs) where
  -- each drive with its channel makes a run
  pub runs_split : (cycles before : List CycleView) → IsRun r jobs carry restarts (cycles ++ before) → IsClear (cycles ++ before) → (k : ℕ) → k < length r.drives
      → IsViewRun (drive_at r k).busy (views_since r jobs carry restarts k cycles before ++ views_of r jobs carry restarts k before)
  runs_split cycles before run clear k below = subst (λ (l : List View). IsViewRun (drive_at r k).busy l) (views_split r jobs carry restarts k cycles before) (all_stand r jobs carry restarts opened (cycles ++ before) run clear k below).sees.run

  -- where phase 0 is commanded next, it is so for each drive with its channel
  pub begins_so : (cycles before : List CycleView) → IsRun r jobs carry restarts (cycles ++ before) → IsClear (cycles ++ before) → StartsEpoch r jobs carry restarts before → (k : ℕ) → k < length r.drives
      → IsViewRun (drive_at r k).busy (views_of r jobs carry restarts k before) × BeginsEpoch (views_of r jobs carry restarts k before)
  begins_so [] before run clear starts k below = let sees = (all_stand r jobs carry restarts opened before run clear k below).sees in (sees.run, sym sees.master.phase_is ∙ starts)
  begins_so (t ∷ cycles) before run clear starts k below = begins_so cycles before run.0 clear.0 starts k below

module _ (r : RingView) (jobs : List Job) (carry : Carry) (restarts : Restarts) (opened : IsOpened r jobs) where
  -- the next cycle
  whole_next : (t : CycleView) (cycles before : List CycleView) → IsRun r jobs carry restarts (t ∷ (cycles ++ before)) → IsClear (t ∷ (cycles ++ before)) → StartsEpoch r jobs carry restarts before
      → AreUndisturbed r carry restarts (t ∷ cycles) before → AllWhole r jobs carry restarts cycles before → AllWhole r jobs carry restarts (t ∷ cycles) before
  whole_next t cycles before run clear starts calm all = record {
    stays = (all.stays, none);
    whole = λ k below. (all.whole k below, whole_then (view_of r jobs carry restarts k t (cycles ++ before)) _ (whole_up k below) (ap (λ (o : Option Fall). is_some o) none));
    passed = λ k below. (all.passed k below, passes k below);
  }
    where
      whole_up : (k : ℕ) → k < length r.drives → IsWhole (staying (view_of r jobs carry restarts k t (cycles ++ before))) (views_since r jobs carry restarts k cycles before ++ views_of r jobs carry restarts k before)
      whole_up k below = subst (λ (l : List View). IsWhole (staying (view_of r jobs carry restarts k t (cycles ++ before))) l) (views_split r jobs carry restarts k cycles before) (whole_in r jobs carry restarts opened t (cycles ++ before) run clear calm.1 k below)

      passes : (k : ℕ) → k < length r.drives → IsPassed (view_of r jobs carry restarts k t (cycles ++ before)) (views_since r jobs carry restarts k cycles before ++ views_of r jobs carry restarts k before)
      passes k below = subst (λ (l : List View). IsPassed (view_of r jobs carry restarts k t (cycles ++ before)) l) (views_split r jobs carry restarts k cycles before) (passed_undisturbed r jobs carry restarts opened t (cycles ++ before) run clear k below calm.1)

      in_time : (k : ℕ) → k < length r.drives → (cycles_open (calls_in (view_of r jobs carry restarts k t (cycles ++ before)) (channel_calls (views_of r jobs carry restarts k (cycles ++ before)))) ≤ (drive_at r k).busy)
          × (3 ≤ t.phase → is_some (view_of r jobs carry restarts k t (cycles ++ before)).heard ≡ true)
      in_time k below =
          let split = views_split r jobs carry restarts k cycles before in
          let is_run : IsViewRun (drive_at r k).busy (view_of r jobs carry restarts k t (cycles ++ before) ∷ views_of r jobs carry restarts k (cycles ++ before)) = (all_stand r jobs carry restarts opened (t ∷ (cycles ++ before)) run clear k below).sees.run in
          let both = none_late (drive_at r k).busy (view_of r jobs carry restarts k t (cycles ++ before)) (views_since r jobs carry restarts k cycles before) (views_of r jobs carry restarts k before)
          (subst (λ (l : List View). IsViewRun (drive_at r k).busy (view_of r jobs carry restarts k t (cycles ++ before) ∷ l)) split is_run)
          (begins_so r jobs carry restarts opened (t ∷ cycles) before run clear starts k below).1 (all.whole k below) (all.passed k below) (whole_up k below) (passes k below) in
          subst (λ (l : List View). (cycles_open (calls_in (view_of r jobs carry restarts k t (cycles ++ before)) (channel_calls l)) ≤ (drive_at r k).busy) × (3 ≤ t.phase → is_some (view_of r jobs carry restarts k t (cycles ++ before)).heard ≡ true))
          (sym split) both

      none : fall_of (known_of r) (behind_mdt r jobs carry restarts t.sent (cycles ++ before)) ≡ None
      none = stays_up r jobs carry restarts opened t cycles before run clear starts calm (λ three k below. (in_time k below).1 three)
          (λ two k below. let low = busy_low r k opened.valid below in let short = (in_time k below).0 in omega (arith, low, short))

  -- THE RING STAYS UP from the start of an epoch on, as long as nothing is disturbed.
  pub never_falls : (cycles before : List CycleView) → IsRun r jobs carry restarts (cycles ++ before) → IsClear (cycles ++ before) → StartsEpoch r jobs carry restarts before → AreUndisturbed r carry restarts cycles before
      → AllWhole r jobs carry restarts cycles before
  never_falls [] before run clear starts calm = record { stays = tt; whole = λ k below. tt; passed = λ k below. tt }
  never_falls (t ∷ cycles) before run clear starts calm = whole_next t cycles before run clear starts calm (never_falls cycles before run.0 clear.0 starts calm.0)

  -- So each drive stands in the commanded phase, and the master hears it in phases 3 and 4.
  pub stays_throughout : (cycles before : List CycleView) → IsRun r jobs carry restarts (cycles ++ before) → IsClear (cycles ++ before)
      → StartsEpoch r jobs carry restarts before → AreUndisturbed r carry restarts cycles before
      → StaysUp r jobs carry restarts cycles before
  stays_throughout cycles before run clear starts calm =
      let all = never_falls cycles before run clear starts calm in
      record {
        stays = all.stays;
        whole = all.whole;
        stands = λ k below. stands_throughout (drive_at r k).busy (views_since r jobs carry restarts k cycles before) (views_of r jobs carry restarts k before) (runs_split r jobs carry restarts opened cycles before run clear k below) (begins_so r jobs carry restarts opened cycles before run clear starts k below).1 (all.whole k below) (all.passed k below);
        heard = λ k below. hears_throughout (drive_at r k).busy (views_since r jobs carry restarts k cycles before) (views_of r jobs carry restarts k before) (runs_split r jobs carry restarts opened cycles before run clear k below) (begins_so r jobs carry restarts opened cycles before run clear starts k below).1 (all.whole k below) (all.passed k below);
      }
