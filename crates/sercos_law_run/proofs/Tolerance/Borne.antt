-- From one cycle to the next: while disturbed cycles are sparse, the ring doesn't fall, each drive keeps near the commanded phase, and no
-- step gets old.
use Rattle.sercos_law_run.proofs.Words.{◌≡◌, ◌⊎◌, inl, inr, ℕ, ◌+◌, ◌<◌, ◌≤◌, Bool, true, false, List, [], ◌∷◌, ◌++◌, length, Option, None, refl, sym, ap, ◌∙◌, subst, arith, if◌then◌else◌, is_some, cases_Bool, cases_eq, cases_lt, cond-false, Job, RingView, IsRing-is_ring, open_in, cycles_open, CycleView, Fall, is_place, known_of, tasks_for, Past, Turn, count_addressed, fall_of, has_lost_at, has_lost_mst, is_done, Carry, Restarts, begun_in, epoch_begun, View, processed_in, standing, stood_in, staying, IsPassed, IsUp, IsWhole, commanded, up_by, whole_row-le, drive_at, is_disturbed_in, looks_back, master_calls, middle, IsClear, IsDisturbed, IsRun, behind_ats, behind_mdt, view_of, views_of, IsOpened, StartsEpoch, IsUndisturbed, IsBehind, IsFirst, loses_step, AreCalm, AreSparse, IsSparse, begins_empty, comes_to_zero, stays_a_run, IsViewRun}
use Rattle.sercos_law_run.proofs.Views.MasterSame.{begun_cycle}
use Rattle.sercos_law_run.proofs.Views.Members.{in_ring}
use Rattle.sercos_law_run.proofs.Views.ViewRuns.{started}
use Rattle.sercos_law_run.proofs.Headline.HeadlineRuns.{all_stand}
use Rattle.sercos_law_run.proofs.Undisturbed.NeverFalls.{busy_low}
use Rattle.sercos_law_run.proofs.Undisturbed.NoFalls.{IsNoLower, has_risen, heard_mdt, limit_so, none_falls}
use Rattle.sercos_law_run.proofs.Undisturbed.Checks.PassedRuns.{passed_in}
use Rattle.sercos_law_run.proofs.Undisturbed.Arriving.Small.{never_both}
use Rattle.sercos_law_run.proofs.Undisturbed.StaysUp.{addressed_once, begun_none, heard_then, idle_then, whole_now}
use Rattle.sercos_law_run.proofs.Undisturbed.Arriving.WholeIn.{whole_in}
use Rattle.sercos_law_run.proofs.Recovery.LateDown.{phase_after, turns_now}
use Rattle.sercos_law_run.proofs.Recovery.Limits.{not_old}
use Rattle.sercos_law_run.proofs.Recovery.Stretches.{whole_at}
use Rattle.sercos_law_run.proofs.Tolerance.FirstCycles.{never_first}
use Rattle.sercos_law_run.proofs.Tolerance.Losses.{early_kept, none_lost_in}
use Rattle.sercos_law_run.proofs.Tolerance.NoFallSo.{at_second, count_next, mst_second}
use Rattle.sercos_law_run.proofs.Tolerance.Standing.{hears_whole, lost_so, stays_same, takes_whole, took_mdt, zero_up}
use Rattle.sercos_law_run.proofs.Tolerance.Steps.{IsYoung, IsYoungSince, never_some, older, oldest, rested, young_both, young_lost, young_taken}
use Rattle.sercos_law_run.proofs.Undisturbed.ChannelsKept.{phase_now}

-- A cycle is disturbed or not.
pub calm_or_not : (r : RingView) (carry : Carry) (restarts : Restarts) (t : CycleView) (j : List CycleView)
    → IsDisturbed r carry restarts t j ⊎ IsUndisturbed r carry restarts t j
calm_or_not r carry restarts t j = cases_Bool (is_disturbed_in r carry restarts (length j) t.sent)

-- How old a step may be at the end of a cycle, by whether the cycle is disturbed, and the one before.
pub record IsAged (r : RingView) (carry : Carry) (restarts : Restarts) (since busy : ℕ) (t : CycleView) (j : List CycleView)
    (all : List View) : Type 0 where
  pub any : IsYoungSince since busy 1 2 all
  pub lost : IsDisturbed r carry restarts t j → IsYoungSince since busy 1 1 all
  pub calm : IsUndisturbed r carry restarts t j → (3 ≤ t.phase) ⊎ AreCalm r carry restarts 1 j → IsYoungSince since busy 0 0 all

-- if it was heard and processed, it is so whatever was before
pub aged_all : (r : RingView) (carry : Carry) (restarts : Restarts) (since busy : ℕ) (t : CycleView) (j : List CycleView) (all : List View)
    → IsYoungSince since busy 0 0 all → IsAged r carry restarts since busy t j all
aged_all r carry restarts since busy t j all young = record {
  any = older since busy 0 0 1 2 all (omega arith) (omega arith) young;
  lost = λ disturbed. older since busy 0 0 1 1 all (omega arith) (omega arith) young;
  calm = λ calm before. young;
}

rested_all : (r : RingView) (carry : Carry) (restarts : Restarts) (since busy : ℕ) (t : CycleView) (j : List CycleView) (all : List View)
    → open_in (epoch_begun all) ≡ None → IsAged r carry restarts since busy t j all
rested_all r carry restarts since busy t j all none = aged_all r carry restarts since busy t j all (rested since busy all none)

-- In how many cycles in a row the drive at place k was addressed in phase 1, where it is addressed in this one.
pub record IsAsked (r : RingView) (carry : Carry) (restarts : Restarts) (t : CycleView) (j : List CycleView) (k : ℕ) (p : Past) : Type 0
  where
    pub any : p.now.phase ≡ 1 → is_place k p.now.addressed ≡ true → count_addressed k p.turns ≤ 2
    pub lost : IsDisturbed r carry restarts t j → p.now.phase ≡ 1 → is_place k p.now.addressed ≡ true → count_addressed k p.turns ≤ 1
    pub calm : IsUndisturbed r carry restarts t j → AreCalm r carry restarts 1 j → p.now.phase ≡ 1 → is_place k p.now.addressed ≡ true
        → count_addressed k p.turns ≤ 0

module _ (r : RingView) (jobs : List Job) (carry : Carry) (restarts : Restarts) (opened : IsOpened r jobs) where
  abbrev view : ℕ → CycleView → List CycleView → View
  view k t j = view_of r jobs carry restarts k t j

  abbrev views : ℕ → List CycleView → List View
  views k j = views_of r jobs carry restarts k j

  abbrev now : CycleView → List CycleView → Past
  now t j = behind_mdt r jobs carry restarts t.sent j

  abbrev busy_of : ℕ → ℕ
  busy_of k = (drive_at r k).busy

  -- What holds at the end of a cycle of some drives, whose steps are young unless they were accepted before the cycle `since`.
  pub record IsHeld (among : ℕ → Type 0) (since : ℕ) (t : CycleView) (j : List CycleView) : Type 0 where
    pub stays : fall_of (known_of r) (now t j) ≡ None
    pub goes_on : restarts (length j) 0 ≡ false
    pub up : IsUndisturbed r carry restarts t j → (k : ℕ) → among k → IsUp (view k t j) (views k j)
    pub near : 1 ≤ t.phase → (k : ℕ) → among k → IsUp (view k t j) (views k j) ⊎ IsBehind (view k t j) (views k j)
    pub first : (k : ℕ) → among k → IsFirst (view k t j) (views k j) → is_done (known_of r) (now t j) ≡ true → ⊥
    pub aged : (k : ℕ) → among k → IsAged r carry restarts since (busy_of k) t j (views k (t ∷ j))
    pub asked : (k : ℕ) → among k → IsAsked r carry restarts t j k (now t j)
    pub kept : IsUndisturbed r carry restarts t j → (3 ≤ t.phase) ⊎ AreCalm r carry restarts 1 j → (k : ℕ) → among k
        → loses_step (view k t j) (views k j) ≡ false
    pub rested_kept : IsUndisturbed r carry restarts t j → (k : ℕ) → among k → open_in (epoch_begun (views k j)) ≡ None
        → loses_step (view k t j) (views k j) ≡ false

  -- .. and of all drives, whose steps are young
  abbrev pub all_drives : ℕ → Type 0
  all_drives k = k < length r.drives

  abbrev pub IsBorne : CycleView → List CycleView → Type 0
  IsBorne t j = IsHeld all_drives 0 t j

  pub is_run : (j : List CycleView) → IsRun r jobs carry restarts j → IsClear j → (k : ℕ) → k < length r.drives
      → IsViewRun (busy_of k) (views k j)
  is_run j run clear k below = (all_stand r jobs carry restarts opened j run clear k below).sees.run

  pub some_drive : 0 < length r.drives
  some_drive = let some = (IsRing-is_ring r opened.valid).some in omega (arith, some)

  -- in phases 0 and 1 no step is open
  idle_so : (t : CycleView) (j : List CycleView) → IsRun r jobs carry restarts (t ∷ j) → IsClear (t ∷ j) → (k : ℕ) → k < length r.drives
      → t.phase ≤ 1 → begun_in (view k t j) (views k j) ≡ []
  idle_so t j run clear k below early = begun_none (busy_of k) (begins_empty (busy_of k)) (view k t j) (views k j)
      (is_run (t ∷ j) run clear k below) early

  pub aged_after : (since : ℕ) (t : CycleView) (j : List CycleView) (k : ℕ) → fall_of (known_of r) (now t j) ≡ None
      → IsAged r carry restarts since (busy_of k) t j (staying (view k t j) ∷ views k j)
      → IsAged r carry restarts since (busy_of k) t j (views k (t ∷ j))
  aged_after since t j k stays aged = subst (λ (v : View). IsAged r carry restarts since (busy_of k) t j (v ∷ views k j))
      (stays_same (view k t j) (ap (λ (o : Option Fall). is_some o) stays)) aged

  -- THE FIRST CYCLE OF AN EPOCH
  module _ (t : CycleView) (j : List CycleView) (run : IsRun r jobs carry restarts (t ∷ j)) (clear : IsClear (t ∷ j))
      (starts : StartsEpoch r jobs carry restarts j) (goes_on : restarts (length j) 0 ≡ false) where
    pub zero_is : t.phase ≡ 0
    zero_is = run.1.phase ∙ ap (λ (p : Past). p.now.phase) (started r jobs (restarts (length j) 0) (master_calls r carry restarts j)
        ∙ ap (λ (b : Bool). begun_cycle b (looks_back r jobs (master_calls r carry restarts j))) goes_on) ∙ starts

    now_zero : (now t j).now.phase ≡ 0
    now_zero = phase_now r jobs carry restarts t j run.1 ∙ zero_is

    none_lost : (turns : List Turn) → IsNoLower (now t j).now.phase turns → has_lost_mst ((now t j).now ∷ turns) ≡ false
    none_lost [] low = refl
    none_lost (b ∷ turns) low = let zero_now = now_zero in mst_second (now t j).now b turns (inr (inr (omega (arith, low, zero_now))))

    all_heard : (k : ℕ) (turns : List Turn) → IsNoLower (now t j).now.phase turns → has_lost_at k ((now t j).now ∷ turns) ≡ false
    all_heard k [] low = refl
    all_heard k (b ∷ turns) low = let zero_now = now_zero in at_second k (now t j).now b turns
        (λ late. absurd (omega (arith, late, low, zero_now)))

    stays_first : fall_of (known_of r) (now t j) ≡ None
    stays_first =
        let risen = has_risen (known_of r) (tasks_for (known_of r) jobs) (middle r carry restarts t.sent j) in
        none_falls (known_of r) (now t j) (none_lost (now t j).turns risen) (λ k below. all_heard k (now t j).turns risen)
        (λ k below. limit_so (now t j) k (λ one. let zero_now = now_zero in absurd (omega (arith, one, zero_now)))
        (λ other. let zero_now = zero_is in let idle = idle_then r jobs carry restarts opened t j run clear (omega (arith, zero_now)) k
        (in_ring r k below) in omega (arith, idle)))

    never_above : (j' : List CycleView) (k : ℕ) → IsFirst (view k t j) (views k j') → ⊥
    never_above [] k first = first
    never_above (u ∷ older) k first = let zero_now = zero_is in omega (arith, first, zero_now)

    pub first_borne : IsBorne t j
    first_borne = record {
      stays = stays_first;
      goes_on = goes_on;
      up = λ calm k below. zero_up (view k t j) (views k j) (whole_in r jobs carry restarts opened t j run clear calm k below).mst zero_is;
      near = λ one k below. let zero_now = zero_is in absurd (omega (arith, one, zero_now));
      first = λ k below first done. never_above j k first;
      aged = λ k below. aged_after 0 t j k stays_first (rested_all r carry restarts 0 (busy_of k) t j (staying (view k t j) ∷ views k j)
          (ap open_in (idle_so t j run clear k below (let zero_now = zero_is in omega (arith, zero_now)))));
      kept = λ calm before k below. early_kept (busy_of k) (view k t j) (views k j) (is_run (t ∷ j) run clear k below)
          (let zero_now = zero_is in omega (arith, zero_now));
      rested_kept = λ calm k below none. early_kept (busy_of k) (view k t j) (views k j) (is_run (t ∷ j) run clear k below)
          (let zero_now = zero_is in omega (arith, zero_now));
      asked = λ k below. record {
        any = λ one. let zero_now = now_zero in absurd (omega (arith, one, zero_now));
        lost = λ disturbed one. let zero_now = now_zero in absurd (omega (arith, one, zero_now));
        calm = λ calm before one. let zero_now = now_zero in absurd (omega (arith, one, zero_now));
      };
    }

  -- A LATER CYCLE, t, after u
  module _ (among : ℕ → Type 0) (within : (k : ℕ) → among k → k < length r.drives) (since : ℕ) (t u : CycleView) (j : List CycleView)
      (run : IsRun r jobs carry restarts (t ∷ u ∷ j)) (clear : IsClear (t ∷ u ∷ j)) (is : IsHeld among since u j)
      (sparse : IsSparse r carry restarts t (u ∷ j)) where
    goes_now : restarts (length (u ∷ j)) 0 ≡ false
    goes_now = sparse.goes_on 0 (omega arith)

    next : (k : ℕ) → k < length r.drives → (u.phase ≡ t.phase) ⊎ (u.phase + 1 ≡ t.phase)
    next k below = phase_after r jobs carry restarts opened t u j run clear is.stays goes_now k below

    u_stays : (k : ℕ) → (view k u j).falls ≡ false
    u_stays k = ap (λ (o : Option Fall). is_some o) is.stays

    passed : (k : ℕ) → k < length r.drives → IsPassed (view k t (u ∷ j)) (views k (u ∷ j))
    passed k below = passed_in r jobs carry restarts opened t (u ∷ j) run clear k below (sparse.goes_on (k + 1) (omega (arith, below)))

    whole : IsUndisturbed r carry restarts t (u ∷ j) → (k : ℕ) → k < length r.drives
        → IsWhole (staying (view k t (u ∷ j))) (views k (u ∷ j))
    whole calm k below = whole_in r jobs carry restarts opened t (u ∷ j) run clear calm k below

    whole_before : IsUndisturbed r carry restarts u j → (k : ℕ) → k < length r.drives → IsWhole (view k u j) (views k j)
    whole_before calm k below = whole_at r jobs carry restarts opened u j run.0 clear.0 calm is.stays k below

    -- if t is disturbed from phase 1 on, u isn't
    calm_before : IsDisturbed r carry restarts t (u ∷ j) → 1 ≤ t.phase → IsUndisturbed r carry restarts u j
    calm_before disturbed one = elim (cases_lt t.phase 3) [
      | inl low ↦ (sparse.early disturbed one (omega (arith, low))).1
      | inr high ↦ (sparse.late disturbed (omega (arith, high))).1
    ]

    -- THE PHASE RISES at the end of u
    rises : (k : ℕ) → k < length r.drives → u.phase + 1 ≡ t.phase → (view k u j).rises ≡ true
    rises k below up = elim (commanded (view k t (u ∷ j)) (views k (u ∷ j)) (is_run (t ∷ u ∷ j) run clear k below).1.commanded) [
      | inl c ↦ absurd (never_both (view k t (u ∷ j)).master_restarts c.0 goes_now)
      | inr c ↦ elim (cases_Bool (view k u j).rises) [
        | inl on ↦ rw on refl
        | inr off ↦ let is = rw off at (sym (cond-false (view k u j).falls 0 (if (view k u j).rises then u.phase + 1 else u.phase)
            (u_stays k)) ∙ sym c.1 ∙ sym up) in rw off (absurd (omega (arith, is)))
      ]
    ]

    pub rests_then : (k : ℕ) → k < length r.drives → u.phase + 1 ≡ t.phase → open_in (epoch_begun (views k (u ∷ j))) ≡ None
    rests_then k below up = ap open_in (cond-false (view k u j).falls [] (begun_in (view k u j) (views k j)) (u_stays k))
        ∙ (is_run (u ∷ j) run.0 clear.0 k below).1.rests (rises k below up)

    ended_zero : (k : ℕ) → k < length r.drives → u.phase ≡ 0 → u.phase + 1 ≡ t.phase → (standing (views k (u ∷ j))).ended ≡ 0
    ended_zero k below at_zero up =
        let row = (is_run (u ∷ j) run.0 clear.0 k below).1.ten (rises k below up) at_zero in
        let most = whole_row-le (views k (u ∷ j)) in
        comes_to_zero (busy_of k) (views k (u ∷ j)) (is_run (u ∷ j) run.0 clear.0 k below) (omega (arith, row, most))

    -- before the MST each drive is in the commanded phase or the one below
    was_near : 1 ≤ t.phase → (k : ℕ) → among k → ((standing (views k (u ∷ j))).ended ≡ t.phase)
        ⊎ ((standing (views k (u ∷ j))).ended + 1 ≡ t.phase)
    was_near one k here = elim (cases_eq u.phase 0) [
      | inl at_zero ↦ elim (next k (within k here)) [
        | inl same ↦ absurd (omega (arith, at_zero, same, one))
        | inr up ↦ inr (let ended = ended_zero k (within k here) at_zero up in omega (arith, ended, at_zero, up))
      ]
      | inr later ↦ elim (is.near (omega (arith, later)) k here) [
        | inl at ↦ elim (next k (within k here)) [ inl same ↦ inl (at.1 ∙ same) | inr up ↦ inr (ap (λ (n : ℕ). n + 1) at.1 ∙ up) ]
        | inr behind ↦ elim (next k (within k here)) [
          | inl same ↦ inr (behind.ended ∙ same)
          | inr up ↦ absurd (is.first k here behind.first (elim (cases_Bool (is_some (fall_of (known_of r) (now u j)))) [
            | inl on ↦ let is = rw on at (rises k (within k here) up) in absurd (cc)
            | inr off ↦ let is = rw off at (rises k (within k here) up) in is
          ]))
        ]
      ]
    ]

    up_now : IsUndisturbed r carry restarts t (u ∷ j) → (k : ℕ) → among k → IsUp (view k t (u ∷ j)) (views k (u ∷ j))
    up_now calm k here = elim (cases_eq t.phase 0) [
      | inl at_zero ↦ zero_up (view k t (u ∷ j)) (views k (u ∷ j)) (whole calm k (within k here)).mst at_zero
      | inr later ↦ up_by (staying (view k t (u ∷ j))) (views k (u ∷ j)) (whole calm k (within k here)) (passed k (within k here))
          (was_near (omega (arith, later)) k here)
    ]

    -- THE STEPS
    module _ (k : ℕ) (here : among k) where
      abbrev all : List View
      all = staying (view k t (u ∷ j)) ∷ views k (u ∷ j)

      run_now : IsViewRun (busy_of k) all
      run_now = stays_a_run (busy_of k) (view k t (u ∷ j)) (views k (u ∷ j)) (is_run (t ∷ (u ∷ j)) run clear k (within k here))

      takes : IsUndisturbed r carry restarts t (u ∷ j) → is_some (open_in (begun_in (staying (view k t (u ∷ j))) (views k (u ∷ j)))) ≡ true
          → is_some (processed_in (staying (view k t (u ∷ j))) (views k (u ∷ j))) ≡ true
      takes calm = takes_whole (busy_of k) (staying (view k t (u ∷ j))) (views k (u ∷ j)) run_now (whole calm k (within k here))
          (up_now calm k here)

      hears : IsUndisturbed r carry restarts t (u ∷ j) → (3 ≤ t.phase) ⊎ AreCalm r carry restarts 1 (u ∷ j)
          → is_some (open_in (epoch_begun (views k (u ∷ j)))) ≡ true → is_some (view k t (u ∷ j)).heard ≡ true
      hears calm before = hears_whole (busy_of k) (staying (view k t (u ∷ j))) (view k u j) (views k j) run_now (u_stays k)
          (whole calm k (within k here)) (up_now calm k here) (next k (within k here)) (elim before [
            | inl late ↦ inl late
            | inr are ↦ inr (whole_before are.1 k (within k here), is.up are.1 k here)
          ])

      calm_now : IsUndisturbed r carry restarts t (u ∷ j) → (3 ≤ t.phase) ⊎ AreCalm r carry restarts 1 (u ∷ j)
          → IsYoungSince since (busy_of k) 0 0 all
      calm_now calm before = young_both (busy_of k) (staying (view k t (u ∷ j))) (views k (u ∷ j)) run_now refl goes_now since 2
          (is.aged k here).any (takes calm) (hears calm before)

      kept_now : IsUndisturbed r carry restarts t (u ∷ j) → (3 ≤ t.phase) ⊎ AreCalm r carry restarts 1 (u ∷ j)
          → loses_step (view k t (u ∷ j)) (views k (u ∷ j)) ≡ false
      kept_now calm before = none_lost_in (view k t (u ∷ j)) (views k (u ∷ j)) goes_now (hears calm before) (takes calm)

      rested_now : IsUndisturbed r carry restarts t (u ∷ j) → open_in (epoch_begun (views k (u ∷ j))) ≡ None
          → loses_step (view k t (u ∷ j)) (views k (u ∷ j)) ≡ false
      rested_now calm none = none_lost_in (view k t (u ∷ j)) (views k (u ∷ j)) goes_now
          (λ some. absurd (never_some (open_in (epoch_begun (views k (u ∷ j)))) none some)) (takes calm)

      before_lost_then : IsDisturbed r carry restarts t (u ∷ j) → 2 ≤ t.phase → IsYoungSince since (busy_of k) 0 0 (views k (u ∷ j))
      before_lost_then disturbed two = elim (cases_lt t.phase 3) [
        | inl low ↦ (let are = sparse.early disturbed (omega (arith, two)) (omega (arith, low)) in (is.aged k here).calm are.1 (inr are.0))
        | inr high ↦ elim (next k (within k here)) [
          | inl same ↦ (is.aged k here).calm (sparse.late disturbed (omega (arith, high))).1 (inl (omega (arith, high, same)))
          | inr up ↦ rested since (busy_of k) (views k (u ∷ j)) (rests_then k (within k here) up)
        ]
      ]

      lost_now : 2 ≤ t.phase → IsDisturbed r carry restarts t (u ∷ j) → IsYoungSince since (busy_of k) 1 1 all
      lost_now two disturbed = young_lost (busy_of k) (staying (view k t (u ∷ j))) (views k (u ∷ j)) run_now refl goes_now since 0
          (before_lost_then disturbed two)

      pub aged_now : IsAged r carry restarts since (busy_of k) t (u ∷ j) all
      aged_now = elim (cases_lt t.phase 2) [
        | inl early ↦ rested_all r carry restarts since (busy_of k) t (u ∷ j) all
            (ap open_in (idle_so t (u ∷ j) run clear k (within k here) (omega (arith, early))))
        | inr late ↦ record {
          any = elim (calm_or_not r carry restarts t (u ∷ j)) [
            | inl disturbed ↦ older since (busy_of k) 1 1 1 2 all (omega arith) (omega arith) (lost_now (omega (arith, late)) disturbed)
            | inr calm ↦ elim (calm_or_not r carry restarts u j) [
              | inl before ↦ older since (busy_of k) 0 2 1 2 all (omega arith) (omega arith)
                  (young_taken (busy_of k) (staying (view k t (u ∷ j))) (views k (u ∷ j)) run_now refl goes_now since 1
                  ((is.aged k here).lost before) (takes calm))
              | inr before ↦ older since (busy_of k) 0 0 1 2 all (omega arith) (omega arith) (calm_now calm (inr (tt, before)))
            ]
          ];
          lost = lost_now (omega (arith, late));
          calm = calm_now;
        }
      ]

      few_open : IsYoung (busy_of k) 1 2 all → cycles_open ((now t (u ∷ j)).calls k) ≤ 63
      few_open young =
          let age = oldest (busy_of k) 1 2 all run_now (omega arith) young in
          let low = busy_low r k opened.valid (within k here) in
          not_old r jobs carry restarts opened t (u ∷ j) run clear k (within k here) (omega (arith, age, low))

    -- THE IDENTIFICATIONS
    module _ (k : ℕ) (here : among k) where
      more_asked : (c : ℕ) → ((now u j).now.phase ≡ 1 → is_place k (now u j).now.addressed ≡ true → count_addressed k (now u j).turns ≤ c)
          → count_addressed k (now t (u ∷ j)).turns ≤ c + 1
      more_asked c few = subst (λ (l : List Turn). count_addressed k l ≤ c + 1)
          (sym (turns_now r jobs carry restarts t u j is.stays goes_now))
          (count_next k c (now u j).now (now u j).turns few)

      calm_asked : IsUndisturbed r carry restarts t (u ∷ j) → AreCalm r carry restarts 1 (u ∷ j) → (now t (u ∷ j)).now.phase ≡ 1
          → is_place k (now t (u ∷ j)).now.addressed ≡ true → count_addressed k (now t (u ∷ j)).turns ≤ 0
      calm_asked calm before one to =
          let none = addressed_once r jobs carry restarts opened t u j run clear calm before.1
          (sym (phase_now r jobs carry restarts t (u ∷ j) run.1) ∙ one) k (within k here) to in omega (arith, none)

      lost_asked : IsDisturbed r carry restarts t (u ∷ j) → (now t (u ∷ j)).now.phase ≡ 1 → is_place k (now t (u ∷ j)).now.addressed ≡ true
          → count_addressed k (now t (u ∷ j)).turns ≤ 1
      lost_asked disturbed one to =
          let same = phase_now r jobs carry restarts t (u ∷ j) run.1 in
          let are = sparse.early disturbed (omega (arith, same, one)) (omega (arith, same, one)) in
          more_asked 0 ((is.asked k here).calm are.1 are.0)

      asked_now : IsAsked r carry restarts t (u ∷ j) k (now t (u ∷ j))
      asked_now = record {
        any = λ one to. elim (calm_or_not r carry restarts t (u ∷ j)) [
          | inl disturbed ↦ (let few = lost_asked disturbed one to in omega (arith, few))
          | inr calm ↦ elim (calm_or_not r carry restarts u j) [
            | inl before ↦ more_asked 1 ((is.asked k here).lost before)
            | inr before ↦ (let few = calm_asked calm (tt, before) one to in omega (arith, few))
          ]
        ];
        lost = lost_asked;
        calm = calm_asked;
      }

    -- THE RING DOESN'T FALL
    up_stood : (v : View) (past : List View) → IsUp v past → 3 ≤ v.phase → 1 ≤ stood_in v (standing past)
    up_stood v past up late = let same = up.0 in omega (arith, same, late)

    own_came : ((now t (u ∷ j)).now.whole ≡ true) ⊎ (((now u j).now.whole ≡ true) ⊎ ((now u j).now.phase ≡ 0))
    own_came = elim (calm_or_not r carry restarts t (u ∷ j)) [
      | inr calm ↦ inl (whole_now r jobs carry restarts opened t (u ∷ j) run.1 calm)
      | inl disturbed ↦ elim (cases_eq t.phase 0) [
        | inr later ↦ inr (inl (whole_now r jobs carry restarts opened u j run.0.1 (calm_before disturbed (omega (arith, later)))))
        | inl at_zero ↦ (
            let low : (now u j).now.phase ≤ (now t (u ∷ j)).now.phase = subst (IsNoLower (now t (u ∷ j)).now.phase)
            (turns_now r jobs carry restarts t u j is.stays goes_now)
            (has_risen (known_of r) (tasks_for (known_of r) jobs) (middle r carry restarts t.sent (u ∷ j))) in
            let same = phase_now r jobs carry restarts t (u ∷ j) run.1 in inr (inr (omega (arith, low, same, at_zero))))
      ]
    ]

    ats_came : (k : ℕ) → among k → 3 ≤ (now u j).now.phase
        → ((now t (u ∷ j)).now.heard k ≡ true) ⊎ ((now u j).now.heard k ≡ true)
    ats_came k here late = elim (calm_or_not r carry restarts t (u ∷ j)) [
      | inr calm ↦ inl (ap (λ (f : ℕ → Bool). f k) (heard_mdt (known_of r) (behind_ats r jobs carry restarts t.sent (u ∷ j)))
          ∙ heard_then r jobs carry restarts opened t (u ∷ j) run clear k (within k here)
          ((whole calm k (within k here)).listens late_now (up_stood (view k t (u ∷ j)) (views k (u ∷ j)) (up_now calm k here) late_now)))
      | inl disturbed ↦ inr (ap (λ (f : ℕ → Bool). f k) (heard_mdt (known_of r) (behind_ats r jobs carry restarts u.sent j))
          ∙ heard_then r jobs carry restarts opened u j run.0 clear.0 k (within k here)
          ((whole_before (calm_before disturbed (omega (arith, late_now))) k (within k here)).listens late_before
          (up_stood (view k u j) (views k j) (is.up (calm_before disturbed (omega (arith, late_now))) k here) late_before)))
    ]
      where
        late_before : 3 ≤ u.phase
        late_before = let same = phase_now r jobs carry restarts u j run.0.1 in omega (arith, same, late)

        late_now : 3 ≤ t.phase
        late_now = elim (next k (within k here)) [ inl same ↦ omega (arith, same, late_before) | inr up ↦ omega (arith, up, late_before) ]

    pub stays_now : ((k : ℕ) → k < length r.drives → among k)
        → ((k : ℕ) → among k → IsYoung (busy_of k) 1 2 (staying (view k t (u ∷ j)) ∷ views k (u ∷ j)))
        → fall_of (known_of r) (now t (u ∷ j)) ≡ None
    stays_now every young =
        let turns = turns_now r jobs carry restarts t u j is.stays goes_now in
        none_falls (known_of r) (now t (u ∷ j)) (ap (λ (l : List Turn). has_lost_mst ((now t (u ∷ j)).now ∷ l)) turns
        ∙ mst_second (now t (u ∷ j)).now (now u j).now (now u j).turns own_came)
        (λ k below. ap (λ (l : List Turn). has_lost_at k ((now t (u ∷ j)).now ∷ l)) turns
        ∙ at_second k (now t (u ∷ j)).now (now u j).now (now u j).turns (ats_came k (every k (in_ring r k below))))
        (λ k below. limit_so (now t (u ∷ j)) k (λ one to. let few = (asked_now k (every k (in_ring r k below))).any one to in
        omega (arith, few)) (λ other. few_open k (every k (in_ring r k below)) (young k (every k (in_ring r k below)))))

    -- Up to the second cycle of phase 3 it falls for a step at its limit alone.
    pub stays_if : u.phase ≤ 2 → 2 ≤ t.phase → ((k : ℕ) → k < length r.drives → cycles_open ((now t (u ∷ j)).calls k) ≤ 63)
        → fall_of (known_of r) (now t (u ∷ j)) ≡ None
    stays_if low late few =
        let turns = turns_now r jobs carry restarts t u j is.stays goes_now in
        let was = phase_now r jobs carry restarts u j run.0.1 in
        let same = phase_now r jobs carry restarts t (u ∷ j) run.1 in
        none_falls (known_of r) (now t (u ∷ j)) (ap (λ (l : List Turn). has_lost_mst ((now t (u ∷ j)).now ∷ l)) turns
        ∙ mst_second (now t (u ∷ j)).now (now u j).now (now u j).turns own_came)
        (λ k below. ap (λ (l : List Turn). has_lost_at k ((now t (u ∷ j)).now ∷ l)) turns
        ∙ at_second k (now t (u ∷ j)).now (now u j).now (now u j).turns (λ high. absurd (omega (arith, was, low, high))))
        (λ k below. limit_so (now t (u ∷ j)) k (λ one to. absurd (omega (arith, same, one, late))) (λ other. few k (in_ring r k below)))

    -- .. so the next cycle is like it, if the ring doesn't fall.
    pub next_held : fall_of (known_of r) (now t (u ∷ j)) ≡ None → IsHeld among since t (u ∷ j)
    next_held stays = record {
      stays = stays;
      goes_on = goes_now;
      up = up_now;
      near = λ one k here. elim (calm_or_not r carry restarts t (u ∷ j)) [
        | inr calm ↦ inl (up_now calm k here)
        | inl disturbed ↦
            let before = calm_before disturbed one in
            let was = is.up before k here in
            lost_so (view k t (u ∷ j)) (view k u j) (views k j) (sparse.goes_on (k + 1) (omega (arith, (within k here))))
            (whole_before before k (within k here)).mst
            (took_mdt (view k u j) (views k j) (whole_before before k (within k here)) was.0) was (next k (within k here))
            (passed k (within k here))
      ];
      first = λ k here first done. never_first r jobs carry restarts opened t u j run clear is.stays goes_now is.goes_on first done k
          (within k here);
      aged = λ k here. aged_after since t (u ∷ j) k stays (aged_now k here);
      asked = asked_now;
      kept = λ calm before k here. kept_now k here calm before;
      rested_kept = λ calm k here none. rested_now k here calm none;
    }

    -- where phase 3 or 4 is commanded, no step that was open before is older than this
    pub late_age_then : 3 ≤ t.phase → (k : ℕ) → k < length r.drives → ((u.phase ≡ t.phase) × (3 ≤ u.phase))
        ⊎ (open_in (epoch_begun (views k (u ∷ j))) ≡ None)
    late_age_then late k below = elim (next k below) [
      | inl same ↦ inl (same, omega (arith, same, late))
      | inr up ↦ inr (rests_then k below up)
    ]

  -- ALL DRIVES
  abbrev every : (k : ℕ) → k < length r.drives → k < length r.drives
  every k below = below

  module _ (t u : CycleView) (j : List CycleView) (run : IsRun r jobs carry restarts (t ∷ u ∷ j)) (clear : IsClear (t ∷ u ∷ j))
      (is : IsBorne u j) (sparse : IsSparse r carry restarts t (u ∷ j)) where
    pub rests : (k : ℕ) → k < length r.drives → u.phase + 1 ≡ t.phase → open_in (epoch_begun (views k (u ∷ j))) ≡ None
    rests k below up = rests_then all_drives every 0 t u j run clear is sparse k below up

    pub late_age : 3 ≤ t.phase → (k : ℕ) → k < length r.drives → ((u.phase ≡ t.phase) × (3 ≤ u.phase))
        ⊎ (open_in (epoch_begun (views k (u ∷ j))) ≡ None)
    late_age late k below = late_age_then all_drives every 0 t u j run clear is sparse late k below

    pub before_lost : (k : ℕ) → k < length r.drives → IsDisturbed r carry restarts t (u ∷ j) → 2 ≤ t.phase
        → IsYoung (busy_of k) 0 0 (views k (u ∷ j))
    before_lost k below disturbed two = before_lost_then all_drives every 0 t u j run clear is sparse k below disturbed two

    pub next_borne : IsBorne t (u ∷ j)
    next_borne = next_held all_drives every 0 t u j run clear is sparse (stays_now all_drives every 0 t u j run clear is sparse every
        (λ k below. (aged_now all_drives every 0 t u j run clear is sparse k below).any))

  -- FROM WHERE ON IT IS SO: phase 0 is commanded next; or the newest cycle is so, and undisturbed.
  abbrev pub HasStood : List CycleView → Type 0
  HasStood [] = ⊥
  HasStood (f ∷ before) = IsBorne f before × IsUndisturbed r carry restarts f before

  abbrev pub IsBase : List CycleView → Type 0
  IsBase before = StartsEpoch r jobs carry restarts before ⊎ HasStood before

  -- SO IT IS in each cycle from there on.
  pub borne_on : (t : CycleView) (cycles before : List CycleView) → IsRun r jobs carry restarts (t ∷ (cycles ++ before))
      → IsClear (t ∷ (cycles ++ before)) → IsBase before
      → AreSparse r carry restarts (t ∷ cycles) before → IsBorne t (cycles ++ before)
  borne_on t [] before run clear (inl starts) sparse = first_borne t before run clear starts (sparse.1.goes_on 0 (omega arith))
  borne_on t [] [] run clear (inr none) sparse = absurd none
  borne_on t [] (f ∷ before) run clear (inr stood) sparse = next_borne t f before run clear stood.0 sparse.1
  borne_on t (u ∷ cycles) before run clear base sparse = next_borne t u (cycles ++ before) run clear
      (borne_on u cycles before run.0 clear.0 base sparse.0) sparse.1

  -- .. and in each cycle of an epoch.
  pub all_borne : (t : CycleView) (cycles before : List CycleView) → IsRun r jobs carry restarts (t ∷ (cycles ++ before))
      → IsClear (t ∷ (cycles ++ before)) → StartsEpoch r jobs carry restarts before
      → AreSparse r carry restarts (t ∷ cycles) before → IsBorne t (cycles ++ before)
  all_borne t cycles before run clear starts sparse = borne_on t cycles before run clear (inl starts) sparse
