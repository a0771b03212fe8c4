-- So the ring is back in time after the last disturbed cycle: by the numbers of its drives, and within the fixed bound.
use Rattle.sercos_law_run.proofs.Words.{stop_cycles, ◌≡◌, ◌⊎◌, inl, inr, ℕ, suc, ◌+◌, ◌*◌, ◌<◌, ◌≤◌, List, [], ◌∷◌, ◌++◌, length, Option, Some, sym, ap, ◌∙◌, subst, arith, length-append, slice_get, Job, startup_bound, RingView, CycleView, Carry, Restarts, IsClear, IsDisturbed, IsRun, IsOpened, HaveTold, left_after, request_cycles, fall_cycles, return_cycles, recovery_bound, TellsNoFall, AreUndisturbed, IsUndisturbed, drive_at, IsBack, IsRight, RecoversIn, start_costs}
use Rattle.sercos_law_run.proofs.Bounds.FallCycles.{fixed_room}
use Rattle.sercos_law_run.proofs.Undisturbed.Arriving.Small.{first_is, never_both}
use Rattle.sercos_law_run.proofs.Undisturbed.Cited.{never_stops_in_four}
use Rattle.sercos_law_run.proofs.Undisturbed.EpochCycles.{AreOn, IsCut, IsOn, cut, run_rest}
use Rattle.sercos_law_run.proofs.Undisturbed.GoingCycles.{AreAll}
use Rattle.sercos_law_run.proofs.Undisturbed.NeverFalls.{busy_low}
use Rattle.sercos_law_run.proofs.Undisturbed.OneRequest.{room}
use Rattle.sercos_law_run.proofs.Undisturbed.Stops.StopStays.{none_before}
use Rattle.sercos_law_run.proofs.Undisturbed.Stops.StopOnce.{same_start}
use Rattle.sercos_law_run.proofs.Undisturbed.ToldInTime.{beyond, left_in_time, one_more_time, told_if_left, told_since}
use Rattle.sercos_law_run.proofs.Recovery.AfterFalls.{after_fall}
use Rattle.sercos_law_run.proofs.Recovery.InTwo.{greatest_low}
use Rattle.sercos_law_run.proofs.Recovery.CausedStops.{right_in}
use Rattle.sercos_law_run.proofs.Recovery.Stretches.{whole_at}
use Rattle.sercos_law_run.proofs.Tolerance.Borne.{IsBase, borne_on, some_drive}
use Rattle.sercos_law_run.proofs.Tolerance.Calm.{are_sparse, calm_is_sparse, calm_of, each_calm, no_costs}
use Rattle.sercos_law_run.proofs.Tolerance.Ends.{ends_at}
use Rattle.sercos_law_run.proofs.Tolerance.Reported.{some_times}
use Rattle.sercos_law_run.proofs.Tolerance.Rises.{rises_sparse}
use Rattle.sercos_law_run.proofs.Tolerance.Since.{IsBorneSince, IsSoon, back_since, borne_or_soon, right_four, tells_since}
use Rattle.sercos_law_run.proofs.Undisturbed.ChannelsKept.{phase_now}

-- WHAT ENDS ALIKE: of two ways to write a list, the longer end goes on from the shorter one.
record IsSuffix (r : RingView) (carry : Carry) (restarts : Restarts) (base rest : List CycleView) : Type 0 where
  mid : List CycleView
  is : rest ≡ mid ++ base
  calm : AreUndisturbed r carry restarts mid base

suffix : (r : RingView) (carry : Carry) (restarts : Restarts) (xs base ys rest : List CycleView) → xs ++ base ≡ ys ++ rest → length base ≤ length rest → AreUndisturbed r carry restarts xs base → IsSuffix r carry restarts base rest
suffix r carry restarts xs base [] rest is long calm = record { mid = xs; is = sym is; calm = calm }
suffix r carry restarts [] base (y ∷ ys) rest is long calm = let all = ap (λ (l : List CycleView). length l) is in let parts = length-append ys rest in absurd (omega (arith, all, parts, long))
suffix r carry restarts (x ∷ xs) base (y ∷ ys) rest is long calm = suffix r carry restarts xs base ys rest (first_is x y (xs ++ base) (ys ++ rest) is).1 long calm.0

module _ (r : RingView) (jobs : List Job) (carry : Carry) (restarts : Restarts) (opened : IsOpened r jobs) where
  abbrev Calm : CycleView → List CycleView → Type 0
  Calm t j = IsUndisturbed r carry restarts t j

  at_most : 66 ≤ 66
  at_most = omega arith

  -- AFTER A CYCLE `lost`, if no later one is disturbed
  module _ (lost : CycleView) (before : List CycleView) (t : CycleView) (cycles : List CycleView)
      (run : IsRun r jobs carry restarts (t ∷ (cycles ++ lost ∷ before))) (clear : IsClear (t ∷ (cycles ++ lost ∷ before)))
      (calm : AreUndisturbed r carry restarts (t ∷ cycles) (lost ∷ before)) where
    none : start_costs r jobs carry restarts cycles (lost ∷ before) ≡ 0
    none = no_costs r jobs carry restarts opened cycles (lost ∷ before) run.0 calm.0

    those : AreAll Calm (t ∷ cycles) (lost ∷ before)
    those = each_calm r carry restarts (t ∷ cycles) (lost ∷ before) calm

    never : (second first : CycleView) → Calm second (first ∷ lost ∷ before)
        → IsDisturbed r carry restarts second (first ∷ lost ∷ before) → 1 ≤ second.phase → (3 ≤ second.phase) × (67 ≤ 66)
    never second first is on late = absurd (never_both _ on is)

    tells_after : length before + fall_cycles r ≤ length (cycles ++ lost ∷ before) → TellsNoFall t
    tells_after long = tells_since r jobs carry restarts opened Calm (calm_is_sparse r carry restarts) lost before 66 at_most
        (λ first is late. is) never t cycles run clear those (let free = none in omega (arith, free, long))

    back_after : length before + return_cycles r + stop_cycles r ≤ length (cycles ++ lost ∷ before)
        → IsBack r t (cycles ++ lost ∷ before)
    back_after long = back_since r jobs carry restarts opened Calm (calm_is_sparse r carry restarts) lost before 66 at_most
        (λ first is late. is) never t cycles run clear those (stop_cycles r) (ends_at r jobs carry restarts opened t)
        (let free = none in omega (arith, free, long))

    rises_after : IsRight r → length before + return_cycles r ≤ length (cycles ++ lost ∷ before) → t.phase ≡ 4
    rises_after right long = right_four r t (cycles ++ lost ∷ before) right (back_since r jobs carry restarts opened Calm
        (calm_is_sparse r carry restarts) lost before 66 at_most (λ first is late. is) never t cycles run clear those 0
        (λ newer rest run_is clear_is base sparse enough.
        let four = rises_sparse r jobs carry restarts opened t newer rest run_is clear_is base sparse (omega (arith, enough)) right in
        inl (four, never_stops_in_four r jobs carry restarts t (newer ++ rest) opened run_is clear_is four, right))
        (let free = none in omega (arith, free, long)))

    since : IsBorneSince r jobs carry restarts opened Calm (calm_is_sparse r carry restarts) lost before 66 at_most
        (λ first is late. is) never t cycles ⊎ IsSoon r jobs carry restarts opened 66 cycles (lost ∷ before)
    since = borne_or_soon r jobs carry restarts opened Calm (calm_is_sparse r carry restarts) lost before 66 at_most
        (λ first is late. is) never t cycles run clear those

    -- in phase 4 the ring doesn't fall soon any more
    not_soon : IsSoon r jobs carry restarts opened 66 cycles (lost ∷ before) → t.phase ≡ 4
        → length before + fall_cycles r ≤ length (cycles ++ lost ∷ before) → ⊥
    not_soon soon four long =
        let parts = length-append cycles (lost ∷ before) in
        let free = none in omega (
          arith,
          soon.none (none_before r jobs carry restarts t (cycles ++ lost ∷ before)
              (same_start r jobs carry restarts (cycles ++ lost ∷ before)
              ((calm_is_sparse r carry restarts t (cycles ++ lost ∷ before) calm.1).goes_on 0 (omega arith)))
              (never_stops_in_four r jobs carry restarts t (cycles ++ lost ∷ before) opened run clear four)),
          parts,
          free,
          long,
        )

  -- where the ring bears sparse faults, undisturbed cycles are as in an undisturbed epoch
  on_since : (newer rest : List CycleView) → IsRun r jobs carry restarts (newer ++ rest) → IsClear (newer ++ rest)
      → IsBase r jobs carry restarts opened rest → AreUndisturbed r carry restarts newer rest → AreOn r jobs carry restarts newer rest
  on_since [] rest run clear base calm = tt
  on_since (u ∷ newer) rest run clear base calm =
      let is = borne_on r jobs carry restarts opened u newer rest run clear base (are_sparse r carry restarts (u ∷ newer) rest calm) in (
        on_since newer rest run.0 clear.0 base calm.0,
        record {
          now = phase_now r jobs carry restarts u (newer ++ rest) run.1;
          stays = is.stays;
          quiet = is.goes_on;
          starts = same_start r jobs carry restarts (newer ++ rest) is.goes_on;
          whole = λ k below. whole_at r jobs carry restarts opened u (newer ++ rest) run clear calm.1 is.stays k below;
          up = λ k below. (is.up calm.1 k below).1;
        },
      )

  -- WHAT IS LEFT of the requests to a drive
  module _ (k : ℕ) (below : k < length r.drives) (n i : ℕ) where
    abbrev left_now : List CycleView → ℕ
    left_now j = length (left_after r jobs carry restarts j k)

    -- in phase 4, so long after such a cycle
    module _ (t : CycleView) (newer rest : List CycleView) (run : IsRun r jobs carry restarts (t ∷ (newer ++ rest)))
        (clear : IsClear (t ∷ (newer ++ rest))) (base : IsBase r jobs carry restarts opened rest)
        (calm : AreUndisturbed r carry restarts (t ∷ newer) rest) (four : t.phase ≡ 4)
        (long : startup_bound r + suc i * request_cycles r k ≤ length newer) where
      on : AreOn r jobs carry restarts (t ∷ newer) rest
      on = on_since (t ∷ newer) rest run clear base calm

      all : (d : ℕ) × (suc i * request_cycles r k ≡ 1 + d)
      all = beyond 1 (suc i * request_cycles r k)
          (let one = room (drive_at r k).busy (drive_at r k).command in let most = some_times i (request_cycles r k) in omega
          (arith, one, most))

      c : IsCut r jobs carry restarts all.0 newer rest
      c = cut r jobs carry restarts newer rest all.0 (let is = all.1 in omega (arith, is, long)) on.0 calm.0

      run_cut : IsRun r jobs carry restarts (t ∷ (c.newer ++ c.one ∷ (c.older ++ rest)))
      run_cut = subst (λ (l : List CycleView). IsRun r jobs carry restarts (t ∷ l)) c.is run

      clear_cut : IsClear (t ∷ (c.newer ++ c.one ∷ (c.older ++ rest)))
      clear_cut = subst (λ (l : List CycleView). IsClear (t ∷ l)) c.is clear

      one_run : IsRun r jobs carry restarts (c.one ∷ (c.older ++ rest)) × IsClear (c.one ∷ (c.older ++ rest))
      one_run = run_rest r jobs carry restarts (t ∷ c.newer) (c.one ∷ (c.older ++ rest)) run_cut clear_cut

      one_four : c.one.phase ≡ 4
      one_four = rises_sparse r jobs carry restarts opened c.one c.older rest one_run.0 one_run.1 base
          (are_sparse r carry restarts (c.one ∷ c.older) rest c.calm)
          (let free = no_costs r jobs carry restarts opened c.older rest one_run.0.0 c.calm.0 in
          let counted = c.rest in let is = all.1 in omega (arith, free, counted, is, long))
          (right_in r jobs carry restarts opened t (newer ++ rest) run clear four)

      left_since : (lost : CycleView) (before xs : List CycleView) → xs ++ lost ∷ before ≡ newer ++ rest
          → AreUndisturbed r carry restarts xs (lost ∷ before)
          → length before + suc i * request_cycles r k ≤ length (xs ++ lost ∷ before)
          → left_now (lost ∷ before) ≤ n + suc i → left_now (t ∷ (newer ++ rest)) ≤ n
      left_since lost before xs is calm_all enough most = subst (λ (l : List CycleView). left_now (t ∷ l) ≤ n) (sym c.is)
          (left_in_time r jobs carry restarts opened k below t c.newer c.one (c.older ++ rest) run_cut clear_cut
          (c.on, subst (IsOn r jobs carry restarts t) c.is on.1) c.calm_newer c.on_older.1 one_four four n i
          (let counted = c.long in let whole = all.1 in omega (arith, counted, whole)) (by (suffix r carry restarts xs (lost ∷ before)
          c.newer (c.one ∷ (c.older ++ rest)) (is ∙ c.is)
          (let same = ap length (is ∙ c.is) in let parts = length-append c.newer (c.one ∷ (c.older ++ rest)) in
          let counted = c.long in let whole = all.1 in omega (arith, same, parts, counted, whole, enough)) calm_all)))
        where
          by : IsSuffix r carry restarts (lost ∷ before) (c.one ∷ (c.older ++ rest)) → left_now (c.one ∷ (c.older ++ rest)) ≤ n + suc i
          by s =
              let few : left_now (s.mid ++ (lost ∷ before)) ≤ left_now (lost ∷ before) = let told = told_since r jobs carry restarts opened
              k below s.mid (lost ∷ before) (subst (IsRun r jobs carry restarts) s.is one_run.0) (subst IsClear s.is one_run.1)
              s.calm in
              let parts = length-append told.numbers (left_after r jobs carry restarts (s.mid ++ (lost ∷ before)) k) in
              omega (arith, ap (λ (l : List (Option ℕ)). length l) told.is, parts) in
              let same = ap (λ (l : List CycleView). left_now l) s.is in omega (arith, few, same, most)

    -- AFTER THE LAST DISTURBED CYCLE
    left_at_last : (lost : CycleView) (before : List CycleView) (t : CycleView) (cycles : List CycleView)
        → IsRun r jobs carry restarts (t ∷ (cycles ++ lost ∷ before)) → IsClear (t ∷ (cycles ++ lost ∷ before))
        → AreUndisturbed r carry restarts (t ∷ cycles) (lost ∷ before) → t.phase ≡ 4
        → length before + return_cycles r + suc i * request_cycles r k ≤ length (cycles ++ lost ∷ before)
        → left_now (lost ∷ before) ≤ n + suc i → left_now (t ∷ (cycles ++ lost ∷ before)) ≤ n
    left_at_last lost before t cycles run clear calm four long enough = elim (since lost before t cycles run clear calm) [
      | inr soon ↦ absurd (not_soon lost before t cycles run clear calm soon four (omega (arith, long)))
      | inl x ↦ subst (λ (l : List CycleView). left_now (t ∷ l) ≤ n) (sym x.is)
          (left_since t x.newer x.since_then (subst (λ (l : List CycleView). IsRun r jobs carry restarts (t ∷ l)) x.is run)
          (subst (λ (l : List CycleView). IsClear (t ∷ l)) x.is clear) x.base
          (calm_of r carry restarts (t ∷ x.newer) x.since_then x.those) four
          (let free = none lost before t cycles run clear calm in let few = x.few in
          let same = ap length x.is ∙ length-append x.newer x.since_then in omega (arith, free, few, same, long))
          lost before cycles x.is calm.0 (omega (arith, long)) enough)
    ]

  module _ (t : CycleView) (j : List CycleView) (run : IsRun r jobs carry restarts (t ∷ j)) (clear : IsClear (t ∷ j))
      (cycles before : List CycleView) (lost : CycleView) (is : j ≡ cycles ++ lost ∷ before)
      (calm : AreUndisturbed r carry restarts (t ∷ cycles) (lost ∷ before)) where
    run_is : IsRun r jobs carry restarts (t ∷ (cycles ++ lost ∷ before))
    run_is = subst (λ (l : List CycleView). IsRun r jobs carry restarts (t ∷ l)) is run

    clear_is : IsClear (t ∷ (cycles ++ lost ∷ before))
    clear_is = subst (λ (l : List CycleView). IsClear (t ∷ l)) is clear

    tells_now : length before + fall_cycles r ≤ length j → TellsNoFall t
    tells_now long = tells_after lost before t cycles run_is clear_is calm (let same = ap length is in omega (arith, same, long))

    back_now : length before + return_cycles r + stop_cycles r ≤ length j → IsBack r t j
    back_now long = subst (IsBack r t) (sym is) (back_after lost before t cycles run_is clear_is calm
        (let same = ap length is in omega (arith, same, long)))

    rises_now : length before + return_cycles r ≤ length j → IsRight r → t.phase ≡ 4
    rises_now long right = rises_after lost before t cycles run_is clear_is calm right
        (let same = ap length is in omega (arith, same, long))

    reports_now : t.phase ≡ 4 → (k i : ℕ) (x : Option ℕ) → k < length r.drives
        → slice_get (left_after r jobs carry restarts (lost ∷ before) k) i ≡ Some x
        → length before + return_cycles r + (i + 1) * request_cycles r k ≤ length j
        → (number : ℕ) × (x ≡ Some number) × HaveTold (t ∷ cycles) number
    reports_now four k i x below got long = told_if_left r jobs carry restarts opened k below (t ∷ cycles) (lost ∷ before)
        (told_since r jobs carry restarts opened k below (t ∷ cycles) (lost ∷ before) run_is clear_is calm) i x got
        (λ n most. left_at_last k below n i lost before t cycles run_is clear_is calm four
        (let same = ap length is in let times = one_more_time i (request_cycles r k) in omega (arith, same, times, long)) most)

  -- THE FIXED BOUND is longer.
  fixed : fall_cycles r + startup_bound r + stop_cycles r ≤ recovery_bound r
  fixed = fixed_room r (some_drive r jobs carry restarts opened)
      (greatest_low (λ x. x.busy) 20 r.drives (λ k low. busy_low r k opened.valid low))

  pub recovers_in : (t : CycleView) (j : List CycleView) → IsRun r jobs carry restarts (t ∷ j) → IsClear (t ∷ j)
      → RecoversIn r jobs carry restarts t j
  recovers_in t j run clear = record {
    after_fall = λ cycles before f x is calm told. after_fall r jobs carry restarts t f cycles before x opened
        (subst (λ (l : List CycleView). IsRun r jobs carry restarts (t ∷ l)) is run) (subst (λ (l : List CycleView). IsClear (t ∷ l)) is
        clear) calm told;
    back = λ cycles before lost is calm long. back_now t j run clear cycles before lost is calm
        (let least = fixed in omega (arith, least, long));
    tells = λ cycles before lost is calm long. tells_now t j run clear cycles before lost is calm
        (let least = fixed in omega (arith, least, long));
    reports = λ cycles before lost is calm four k i x below got long. reports_now t j run clear cycles before lost is calm four k i x below
        got (let least = fixed in omega (arith, least, long));
    sooner = record {
      tells = tells_now t j run clear;
      rises = rises_now t j run clear;
      back = back_now t j run clear;
      reports = reports_now t j run clear;
    };
  }
