-- How soon the ring falls while faults are sparse, if a drive is in phase 0.
use Rattle.sercos_law_run.proofs.Words.{◌≡◌, inl, inr, ℕ, zero, suc, ◌+◌, ◌<◌, ◌≤◌, Bool, true, false, ◌&&◌, List, [], ◌∷◌, ◌++◌, length, Option, Some, refl, sym, ap, ◌∙◌, arith, if◌then◌else◌, ◌⊎◌, None, length-append, ◌==◌, is_some, cases_eq, cases_lt, cond-false, cond-true, eqb-true, false≢true, false_from_ne_true, same_Some, Job, RingView, Begun, open_in, CycleView, Fall, known_of, in_turn, Past, fall_of, Carry, Restarts, begun_in, epoch_begun, standing, age_in, open_since, section_cycles, spared_cycles, sum_below, drive_at, is_disturbed_in, IsClear, IsRun, looks_back, master_calls, behind_mdt, view_of, views_of, IsOpened, AreInTwo, NoneFalls, StopsForTheCycleTime, StopsForThePlan, StopsForTheCheck, IsUndisturbed, views_since, IsDown, cycles_for, disturbances, loses_step, lost_since, start_cost, start_costs, AreSparse, IsSparse, cycles_open, Stop, cases_Bool, Request, Heard, View, steps_in, age_by, with_begun, with_heard, unless_restart, of_phase, is_none, is_idle, has_turn, next_task, settled, behind_ats, request_of}
use Rattle.std.proofs.Common.{eq-eqb}
use Rattle.sercos_law_run.proofs.Bounds.FallCycles.{least_at}
use Rattle.sercos_law_run.proofs.Headline.HeadlineRuns.{all_stand}
use Rattle.sercos_law_run.proofs.Undisturbed.JobsBegun.{begun_end}
use Rattle.sercos_law_run.proofs.Undisturbed.PhaseTwo.{sum_within}
use Rattle.sercos_law_run.proofs.Undisturbed.Sections.{none_idle, sum_most}
use Rattle.sercos_law_run.proofs.Recovery.DownSince.{NeverRestarts, in_two, never_open, open_at_most}
use Rattle.sercos_law_run.proofs.Recovery.InTwo.{down_on, in_two_on}
use Rattle.sercos_law_run.proofs.Recovery.LateDown.{falls_if_down, no_lower, phase_after}
use Rattle.sercos_law_run.proofs.Recovery.Limits.{ages_to_limit, not_old_yet, open_age}
use Rattle.sercos_law_run.proofs.Recovery.Stretches.{stays_down_in, ages_down_in}
use Rattle.sercos_law_run.proofs.Recovery.Turns.{opens_in_turn, works_in_turn}
use Rattle.sercos_law_run.proofs.Recovery.UpSections.{no_lower_on, section_most}
use Rattle.sercos_law_run.proofs.Tolerance.Borne.{IsHeld, rests_then, stays_if}
use Rattle.sercos_law_run.proofs.Tolerance.CostsShared.{all_lost, kept_lost, of_some, sum_both}
use Rattle.sercos_law_run.proofs.Tolerance.CostsSparse.{AreHeld, few_lost}
use Rattle.sercos_law_run.proofs.Tolerance.NotYet.{same_for}
use Rattle.sercos_law_run.proofs.Tolerance.Settles.{held_all, sparse_quiet}
use Rattle.sercos_law_run.proofs.Tolerance.ThreeLasts.{sum_split, without, without_mono}
use Rattle.sercos_law_run.proofs.Undisturbed.NeverFalls.{busy_low}
use Rattle.sercos_law_run.proofs.Undisturbed.Stops.StopStays.{stop_after, stop_kept}
use Rattle.sercos_law_run.proofs.Undisturbed.Stops.StopOnce.{same_start}
use Rattle.sercos_law_run.proofs.Tolerance.Steps.{never_some, oldest, young_at_last}
use Rattle.sercos_law_run.proofs.Views.ViewRuns.{views_count}
use Rattle.sercos_law_run.proofs.Undisturbed.Cited.{stops_in_three, stops_in_two}

-- no stop goes with the rise to phase 3
no_rise_with : {r : RingView} (x : Stop) → StopsForThePlan r x ⊎ StopsForTheCycleTime r x → (p : Past) → StopsForTheCheck r p x → ⊥
no_rise_with x (inl plan) p check = let both = sym plan.is ∙ check.is in cc
no_rise_with x (inr time) p check = let both = sym time.is ∙ check.is in cc

-- A STEP WITH AN AGE is open.
open_of_age : (past : List View) → 1 ≤ age_in past → is_some (open_in (epoch_begun past)) ≡ true
open_of_age [] old = absurd (omega (arith, old))
open_of_age (v ∷ past) old = by v.falls old
  where
    by : (falls : Bool) → 1 ≤ (if falls then 0 else age_by (is_some (open_in (begun_in v past)))
        (length (steps_in (begun_in v past)) == length (steps_in (unless_restart v (epoch_begun past)))) (age_in past))
        → is_some (open_in (if falls then [] else begun_in v past)) ≡ true
    by true old = absurd (omega (arith, old))
    by false old = elim (cases_Bool (is_some (open_in (begun_in v past)))) [
      | inl on ↦ rw on refl
      | inr off ↦ let old = rw off at old in absurd (omega (arith, old))
    ]

-- what a cycle leaves in which nothing is heard and nothing begins
nothing_new : (o : Option Heard) (n : Option Request) (b : Bool) (begun : List Begun) → o ≡ None → n ≡ None → b ≡ false
    → with_begun n (with_heard o (if b then [] else begun)) ≡ begun
nothing_new None None false begun quiet none on = refl
nothing_new (Some a) n b begun quiet none on = absurd (cc)
nothing_new None (Some q) b begun quiet none on = absurd (cc)
nothing_new None None true begun quiet none on = absurd (cc)

-- a number above a limit, or none
some_above : (f : ℕ → ℕ) (limit n : ℕ) → ((k : ℕ) × (k < n) × (limit < f k)) ⊎ ((k : ℕ) → k < n → f k ≤ limit)
some_above f limit zero = inr (λ k below. absurd (omega (arith, below)))
some_above f limit (suc n) = elim (cases_lt limit (f n)) [
  | inl above ↦ inl (n, omega arith, above)
  | inr low ↦ elim (some_above f limit n) [
    | inl found ↦ let inside = found.1 in inl (found.0, omega (arith, inside), found.2)
    | inr each ↦ inr (λ k below. elim (cases_eq k n) [
      | inl same ↦ let is = ap f same in omega (arith, is, low)
      | inr other ↦ each k (omega (arith, below, other))
    ])
  ]
]

-- A SUM with a number more at one place
but_one : (m p n : ℕ) (f g : ℕ → ℕ) → p < m → f p ≤ n + g p → ((k : ℕ) → k < m → (k ≡ p → ⊥) → f k ≤ g k)
    → sum_below m f ≤ n + sum_below m g
but_one m p n f g there here others =
    omega (
      arith,
      sum_split m p f there,
      sum_split m p g there,
      sum_most m (without p f) (without p g)
          (λ k low. elim (cases_eq k p) [
            | inl same ↦ rw (eq-eqb k p same) (omega arith)
            | inr other ↦ without_mono p k f g
                (others k low other)
          ]),
      here,
    )

-- the phase of the newest cycle
abbrev phase_of : List CycleView → ℕ
phase_of [] = 0
phase_of (t ∷ j) = t.phase

module _ (r : RingView) (jobs : List Job) (carry : Carry) (restarts : Restarts) (opened : IsOpened r jobs) where
  abbrev Held : (ℕ → Type 0) → ℕ → CycleView → List CycleView → Type 0
  Held among n t j = IsHeld r jobs carry restarts opened among n t j

  -- with a stop no request begins
  begins_none : (t : CycleView) (j : List CycleView) (k : ℕ) → is_some (behind_mdt r jobs carry restarts t.sent j).stop ≡ true
      → (view_of r jobs carry restarts k t j).begins ≡ None
  begins_none t j k some = ap (λ (b : Bool). request_of (if b && (is_idle q k && has_turn (known_of r) q k) then of_phase q.now.phase
      (next_task (known_of r) q k) else None)) (off q.stop some)
    where
      q : Past
      q = settled (known_of r) (behind_ats r jobs carry restarts t.sent j)

      off : (o : Option Stop) → is_some o ≡ true → is_none o ≡ false
      off (Some x) some = refl
      off None some = absurd (cc)

  -- the step at the end of a cycle without a fall
  ends_so : (t : CycleView) (j : List CycleView) → IsRun r jobs carry restarts (t ∷ j) → IsClear (t ∷ j)
      → fall_of (known_of r) (behind_mdt r jobs carry restarts t.sent j) ≡ None → (k : ℕ)
      → is_some (open_in (epoch_begun (views_of r jobs carry restarts k (t ∷ j))))
      ≡ is_some (open_in (begun_in (view_of r jobs carry restarts k t j) (views_of r jobs carry restarts k j)))
  ends_so t j run clear stays k =
      ap (λ (l : List Begun). is_some (open_in l)) (begun_end r jobs carry restarts opened t j run clear stays k)

  abbrev opens_of : List CycleView → List CycleView → ℕ → ℕ
  opens_of cycles before k = open_since (views_since r jobs carry restarts k cycles before) (views_of r jobs carry restarts k before)

  -- the drive at a place isn't in phase 0 at the end of these cycles
  abbrev pub IsUpAfter : List CycleView → ℕ → Type 0
  IsUpAfter j k = (k < length r.drives) × (IsDown r jobs carry restarts k j → ⊥)

  -- FROM AN UNDISTURBED CYCLE f ON, at whose end the drive at place d is in phase 0, and those that aren't keep up
  module _ (f : CycleView) (b : List CycleView) (calm : IsUndisturbed r carry restarts f b) (late : 2 ≤ f.phase) (d : ℕ)
      (there : d < length r.drives) (down : IsDown r jobs carry restarts d (f ∷ b))
      (first : Held (λ k. IsUpAfter (f ∷ b) k) (length (f ∷ b)) f b) where
    abbrev is_down : ℕ → Bool
    is_down k = (standing (views_of r jobs carry restarts k (f ∷ b))).ended == 0

    within : (k : ℕ) → IsUpAfter (f ∷ b) k → k < length r.drives
    within k here = here.0

    those : (k : ℕ) → k < length r.drives → is_down k ≡ false → IsUpAfter (f ∷ b) k
    those k low off = (low, λ is. false≢true (sym off ∙ eq-eqb (standing (views_of r jobs carry restarts k (f ∷ b))).ended 0 is))

    nothing_lost : (t : CycleView) → IsRun r jobs carry restarts (t ∷ f ∷ b) → IsClear (t ∷ f ∷ b)
        → Held (λ k. IsUpAfter (f ∷ b) k) (length (f ∷ b)) t (f ∷ b) → IsSparse r carry restarts t (f ∷ b)
        → IsUndisturbed r carry restarts t (f ∷ b) → (k : ℕ) → k < length r.drives → is_down k ≡ false
        → loses_step (view_of r jobs carry restarts k t (f ∷ b)) (views_of r jobs carry restarts k (f ∷ b)) ≡ false
    nothing_lost t run clear is sparse off k low up = is.kept off (inr (tt, calm)) k (those k low up)

    late_all : (t : CycleView) (cycles : List CycleView) → IsRun r jobs carry restarts (t ∷ (cycles ++ f ∷ b))
        → IsClear (t ∷ (cycles ++ f ∷ b)) → AreSparse r carry restarts (t ∷ cycles) (f ∷ b)
        → NoneFalls r jobs carry restarts cycles (f ∷ b) → 2 ≤ t.phase
    late_all t cycles run clear sparse stays =
        let least = no_lower_on r jobs carry restarts opened t cycles f b run clear first.stays stays
        (sparse_quiet r carry restarts (t ∷ cycles) (f ∷ b) sparse) d there in omega (arith, least, late)

    -- a drive in phase 0 stays there
    pub down_all : (cycles : List CycleView) → IsRun r jobs carry restarts (cycles ++ f ∷ b) → IsClear (cycles ++ f ∷ b)
        → AreSparse r carry restarts cycles (f ∷ b) → NoneFalls r jobs carry restarts cycles (f ∷ b) → (k : ℕ) → k < length r.drives
        → IsDown r jobs carry restarts k (f ∷ b) → IsDown r jobs carry restarts k (cycles ++ f ∷ b)
    down_all cycles run clear sparse stays = down_on r jobs carry restarts opened cycles f b run clear first.stays stays
        (sparse_quiet r carry restarts cycles (f ∷ b) sparse) late

    held_from : (cycles : List CycleView) → IsRun r jobs carry restarts (cycles ++ f ∷ b) → IsClear (cycles ++ f ∷ b)
        → AreSparse r carry restarts cycles (f ∷ b) → NoneFalls r jobs carry restarts cycles (f ∷ b)
        → AreHeld r jobs carry restarts opened (λ k. IsUpAfter (f ∷ b) k) (length (f ∷ b)) (f ∷ b) cycles
    held_from [] run clear sparse stays = tt
    held_from (t ∷ cycles) run clear sparse stays = (
      held_from cycles run.0 clear.0 sparse.0 stays.0,
      held_all r jobs carry restarts opened (λ k. IsUpAfter (f ∷ b) k) within (length (f ∷ b)) f b first (t ∷ cycles) run clear sparse
          stays,
    )

    -- THE CYCLES OF PHASE 2, while the master goes on with it, if an open step of a drive in phase 0 is no older than n
    module _ (t : CycleView) (cycles : List CycleView) (run : IsRun r jobs carry restarts (t ∷ (cycles ++ f ∷ b)))
        (clear : IsClear (t ∷ (cycles ++ f ∷ b))) (sparse : AreSparse r carry restarts (t ∷ cycles) (f ∷ b))
        (stays : NoneFalls r jobs carry restarts (t ∷ cycles) (f ∷ b))
        (goes_on : AreInTwo r jobs carry restarts (t ∷ cycles) (f ∷ b)) (n : ℕ)
        (aged : (k : ℕ) → k < length r.drives → IsDown r jobs carry restarts k (f ∷ b)
        → is_some (open_in (epoch_begun (views_of r jobs carry restarts k (t ∷ (cycles ++ f ∷ b))))) ≡ true
        → age_in (views_of r jobs carry restarts k (t ∷ (cycles ++ f ∷ b))) ≤ n) where
      at_two : t.phase ≡ 2
      at_two = in_two r jobs carry restarts opened t (cycles ++ f ∷ b) run goes_on.1

      its : (k : ℕ) × (k < length r.drives) × (in_turn (known_of r) (behind_mdt r jobs carry restarts t.sent (cycles ++ f ∷ b)) ≡ Some k)
          × (is_some (open_in (begun_in (view_of r jobs carry restarts k t (cycles ++ f ∷ b)) (views_of r jobs carry restarts k
          (cycles ++ f ∷ b)))) ≡ true)
      its = works_in_turn r jobs carry restarts opened t (cycles ++ f ∷ b) run clear goes_on.1

      quiet : NeverRestarts restarts (t ∷ cycles) (f ∷ b)
      quiet = sparse_quiet r carry restarts (t ∷ cycles) (f ∷ b) sparse

      -- a drive in phase 0 that doesn't have the turn had no open step
      none_of_others : (k : ℕ) → k < length r.drives → (k ≡ its.0 → ⊥) → IsDown r jobs carry restarts k (f ∷ b)
          → opens_of (t ∷ cycles) (f ∷ b) k ≡ 0
      none_of_others k below other is = never_open r jobs carry restarts opened (t ∷ cycles) (f ∷ b) run clear quiet stays goes_on k below
          is
          (ends_so t (cycles ++ f ∷ b) run clear stays.1 k ∙ false_from_ne_true (is_some
          (open_in (begun_in (view_of r jobs carry restarts k t (cycles ++ f ∷ b))
          (views_of r jobs carry restarts k (cycles ++ f ∷ b))))) (λ opens. other (same_Some k its.0
          (sym (opens_in_turn r jobs carry restarts opened t (cycles ++ f ∷ b) run clear at_two k below opens) ∙ its.2))))

      abbrev kept : ℕ → ℕ
      kept k = kept_lost r jobs carry restarts opened is_down (t ∷ cycles) (f ∷ b) k

      -- one section of each drive that isn't in phase 0
      abbrev sections : ℕ → ℕ
      sections k = if is_down k then 0 else section_cycles (drive_at r k)

      each : (m k : ℕ) → k < length r.drives → (IsDown r jobs carry restarts k (f ∷ b) → opens_of (t ∷ cycles) (f ∷ b) k ≤ m)
          → opens_of (t ∷ cycles) (f ∷ b) k ≤ m + (sections k + kept k)
      each m k below few = elim (cases_Bool (is_down k)) [
        | inl on ↦ (let most = few (eqb-true (standing (views_of r jobs carry restarts k (f ∷ b))).ended 0 on) in omega (arith, most))
        | inr off ↦
            let most = section_most r jobs carry restarts opened t cycles f b run clear first.stays stays quiet goes_on d there down k below
            ((those k below off).1) in
            let section : sections k ≡ section_cycles (drive_at r k) = cond-false (is_down k) 0 _ off in
            let same : kept k ≡
            lost_since (views_since r jobs carry restarts k (t ∷ cycles) (f ∷ b)) (views_of r jobs carry restarts k (f ∷ b)) =
            cond-false (is_down k) 0 _ off in
            omega (arith, most, section, same)
      ]

      -- the drive at place d has none
      few_sections : sum_below (length r.drives) sections ≤ spared_cycles r
      few_sections =
          let none : sections d ≡ 0 = cond-true (is_down d) 0 _ (eq-eqb (standing (views_of r jobs carry restarts d (f ∷ b))).ended 0 down) in
          let rest = sum_most (length r.drives) (without d sections) (without d (λ k. section_cycles (drive_at r k)))
          (λ k below. without_mono d k sections (λ i. section_cycles (drive_at r i)) (fewer k)) in
          let whole = sum_split (length r.drives) d (λ k. section_cycles (drive_at r k)) there in
          let sums = sum_within (λ k. section_cycles (drive_at r k)) section_cycles r.drives (λ k low. omega arith) in
          omega (arith, sum_split (length r.drives) d sections there, none, rest, whole, sums, least_at section_cycles r.drives d there)
        where
          fewer : (k : ℕ) → sections k ≤ section_cycles (drive_at r k)
          fewer k = elim (cases_Bool (is_down k)) [
            | inl on ↦ let none : sections k ≡ 0 = cond-true (is_down k) 0 _ on in omega (arith, none)
            | inr off ↦ let all : sections k ≡ section_cycles (drive_at r k) = cond-false (is_down k) 0 _ off in omega (arith, all)
          ]

      few_in_two : suc (length cycles) ≤ n + spared_cycles r + disturbances r carry restarts (t ∷ cycles) (f ∷ b)
      few_in_two =
          let counted = none_idle r jobs carry restarts opened (t ∷ cycles) (f ∷ b) run clear goes_on in
          let most = but_one (length r.drives) its.0 n (opens_of (t ∷ cycles) (f ∷ b)) (λ k. sections k + kept k) its.1
          (each n its.0 its.1 (λ is.
          let few = open_at_most r jobs carry restarts opened (t ∷ cycles) (f ∷ b) run clear quiet stays goes_on its.0 its.1 is in
          let old = aged its.0 its.1 is (ends_so t (cycles ++ f ∷ b) run clear stays.1 its.0 ∙ its.3) in omega (arith, few, old)))
          (λ k below other. let few = each 0 k below (λ is. let none = none_of_others k below other is in omega (arith, none)) in
          omega (arith, few)) in
          let sums = few_sections in
          let few = few_lost r jobs carry restarts opened (λ l. all_lost r jobs carry restarts opened is_down l (f ∷ b))
          (λ k. is_down k ≡ false) 2 (f ∷ b) (of_some r jobs carry restarts opened is_down (f ∷ b)) (λ k. IsUpAfter (f ∷ b) k) within
          (length (f ∷ b)) those nothing_lost t cycles run clear (held_from (t ∷ cycles) run clear sparse stays) sparse
          (omega (arith, at_two)) in
          omega (arith, counted, most, sum_both (length r.drives) sections kept, sums, few)

    -- up to a cycle of phase 2 without a stop the master goes on with it
    are_two : (u : CycleView) (cycles : List CycleView) → IsRun r jobs carry restarts (u ∷ (cycles ++ f ∷ b))
        → IsClear (u ∷ (cycles ++ f ∷ b)) → AreSparse r carry restarts (u ∷ cycles) (f ∷ b)
        → NoneFalls r jobs carry restarts cycles (f ∷ b) → u.phase ≡ 2
        → (behind_mdt r jobs carry restarts u.sent (cycles ++ f ∷ b)).stop ≡ None → AreInTwo r jobs carry restarts cycles (f ∷ b)
    are_two u cycles run clear sparse stays at_two none = in_two_on r jobs carry restarts opened u cycles f b run clear first.stays stays
        (sparse_quiet r carry restarts (u ∷ cycles) (f ∷ b) sparse) late at_two none d there

    -- what the disturbed cycles cost a start-up
    same_cost : (t : CycleView) (j : List CycleView) → t.phase ≤ 3
        → (if is_disturbed_in r carry restarts (length j) t.sent then cycles_for t.phase else 0)
        ≡ (if is_disturbed_in r carry restarts (length j) t.sent then (if t.phase == 2 then 2 else (if t.phase == 3 then 1 else 0)) else 0)
    same_cost t j low = ap (λ (n : ℕ). if is_disturbed_in r carry restarts (length j) t.sent then n else 0) (same_for t.phase low)

    costs_within : (t : CycleView) (cycles : List CycleView) → IsRun r jobs carry restarts (t ∷ (cycles ++ f ∷ b))
        → IsClear (t ∷ (cycles ++ f ∷ b)) → AreSparse r carry restarts (t ∷ cycles) (f ∷ b)
        → NoneFalls r jobs carry restarts cycles (f ∷ b) → t.phase ≤ 3
        → disturbances r carry restarts (t ∷ cycles) (f ∷ b) ≤ start_costs r jobs carry restarts (t ∷ cycles) (f ∷ b)
    costs_within t [] run clear sparse stays low = let same = same_cost t (f ∷ b) low in omega (arith, same)
    costs_within t (u ∷ cycles) run clear sparse stays low =
        let same = same_cost t (u ∷ (cycles ++ f ∷ b)) low in
        let least = no_lower r jobs carry restarts opened t u (cycles ++ f ∷ b) run clear stays.1 (sparse.1.goes_on 0 (omega arith)) d
        there in
        let rest = costs_within u cycles run.0 clear.0 sparse.0 stays.0 (omega (arith, least, low)) in omega (arith, same, rest)

    -- an open step of a drive in phase 0 gets older with each cycle
    ages_on : (u : CycleView) (l : List CycleView) → IsRun r jobs carry restarts (u ∷ (l ++ f ∷ b)) → IsClear (u ∷ (l ++ f ∷ b))
        → AreSparse r carry restarts (u ∷ l) (f ∷ b) → NoneFalls r jobs carry restarts (u ∷ l) (f ∷ b) → (k : ℕ) → k < length r.drives
        → IsDown r jobs carry restarts k (f ∷ b) → is_some (open_in (epoch_begun (views_of r jobs carry restarts k (l ++ f ∷ b)))) ≡ true
        → (age_in (views_of r jobs carry restarts k (u ∷ (l ++ f ∷ b))) ≡ age_in (views_of r jobs carry restarts k (l ++ f ∷ b)) + 1)
        × (is_some (open_in (epoch_begun (views_of r jobs carry restarts k (u ∷ (l ++ f ∷ b))))) ≡ true)
    ages_on u l run clear sparse stays k below is opens = ages_down_in r jobs carry restarts opened u (l ++ f ∷ b) run clear k below
        (down_all l run.0 clear.0 sparse.0 stays.0 k below is) (late_all u l run clear sparse stays.0) stays.1
        (sparse.1.goes_on 0 (omega arith)) opens

    few_all : (n : ℕ) (l : List CycleView) → IsRun r jobs carry restarts (l ++ f ∷ b) → IsClear (l ++ f ∷ b)
        → AreSparse r carry restarts l (f ∷ b) → NoneFalls r jobs carry restarts l (f ∷ b) → AreInTwo r jobs carry restarts l (f ∷ b)
        → ((k : ℕ) → k < length r.drives → IsDown r jobs carry restarts k (f ∷ b)
        → is_some (open_in (epoch_begun (views_of r jobs carry restarts k (l ++ f ∷ b)))) ≡ true
        → age_in (views_of r jobs carry restarts k (l ++ f ∷ b)) ≤ n)
        → length l ≤ n + spared_cycles r + start_costs r jobs carry restarts l (f ∷ b)
    few_all n [] run clear sparse stays two aged = omega arith
    few_all n (w ∷ l) run clear sparse stays two aged =
        let is = in_two r jobs carry restarts opened w (l ++ f ∷ b) run two.1 in
        let few = few_in_two w l run clear sparse stays two n aged in
        let cost = costs_within w l run clear sparse stays.0 (omega (arith, is)) in omega (arith, few, cost)

    -- before a cycle u of phase 2 without a stop
    few_before : (a : ℕ) (u : CycleView) (l : List CycleView) → IsRun r jobs carry restarts (u ∷ (l ++ f ∷ b))
        → IsClear (u ∷ (l ++ f ∷ b)) → AreSparse r carry restarts (u ∷ l) (f ∷ b) → NoneFalls r jobs carry restarts (u ∷ l) (f ∷ b)
        → u.phase ≤ 2 → (behind_mdt r jobs carry restarts u.sent (l ++ f ∷ b)).stop ≡ None
        → ((k : ℕ) → k < length r.drives → IsDown r jobs carry restarts k (f ∷ b)
        → is_some (open_in (epoch_begun (views_of r jobs carry restarts k (u ∷ (l ++ f ∷ b))))) ≡ true
        → age_in (views_of r jobs carry restarts k (u ∷ (l ++ f ∷ b))) ≤ suc a)
        → length l ≤ a + spared_cycles r + start_costs r jobs carry restarts l (f ∷ b)
    few_before a u l run clear sparse stays low none aged =
        let least = late_all u l run clear sparse stays.0 in
        few_all a l run.0 clear.0 sparse.0 stays.0 (are_two u l run clear sparse stays.0 (omega (arith, least, low)) none)
        (λ k below is opens.
        let grows = ages_on u l run clear sparse stays k below is opens in
        let one = grows.0 in let few = aged k below is grows.1 in omega (arith, one, few))

    -- before a cycle u of phase 3 or 4: it is the first one of phase 3, and no step was open when the phase rose
    few_risen : (u : CycleView) (l : List CycleView) → IsRun r jobs carry restarts (u ∷ (l ++ f ∷ b)) → IsClear (u ∷ (l ++ f ∷ b))
        → AreSparse r carry restarts (u ∷ l) (f ∷ b) → NoneFalls r jobs carry restarts (u ∷ l) (f ∷ b) → 3 ≤ u.phase
        → length l ≤ 1 + spared_cycles r + start_costs r jobs carry restarts l (f ∷ b)
    few_risen u [] run clear sparse stays high = omega arith
    few_risen u (t ∷ l) run clear sparse stays high = elim (cases_lt 2 t.phase) [
      | inl late_too ↦ absurd (false≢true (sym (ap (λ (o : Option Fall). is_some o) stays.1)
          ∙ falls_if_down r jobs carry restarts opened u t (l ++ f ∷ b) run clear stays.0.1 on (omega (arith, late_too)) d there
          (down_all l run.0.0 clear.0.0 sparse.0.0 stays.0.0 d there down)))
      | inr low ↦ (
          let up = risen (omega (arith, low)) in
          let two : t.phase ≡ 2 = omega (arith, up, low, high) in
          let few = few_all 0 l run.0.0 clear.0.0 sparse.0.0 stays.0.0
          (are_two t l run.0 clear.0 sparse.0 stays.0.0 two (none_at two up (behind_mdt r jobs carry restarts t.sent (l ++ f ∷ b)).stop
          refl))
          (λ k below is opens. absurd (never_some (open_in (epoch_begun (views_of r jobs carry restarts k (t ∷ (l ++ f ∷ b)))))
          (rests_then r jobs carry restarts opened (λ i. IsUpAfter (f ∷ b) i) within (length (f ∷ b)) u t (l ++ f ∷ b) run clear
          (held_all r jobs carry restarts opened (λ i. IsUpAfter (f ∷ b) i) within (length (f ∷ b)) f b first (t ∷ l) run.0 clear.0
          sparse.0 stays.0) sparse.1 k below up) (ages_on t l run.0 clear.0 sparse.0 stays.0 k below is opens).1)) in
          omega (arith, few))
    ]
      where
        on : restarts (length (t ∷ (l ++ f ∷ b))) 0 ≡ false
        on = sparse.1.goes_on 0 (omega arith)

        risen : t.phase ≤ 2 → t.phase + 1 ≡ u.phase
        risen low = elim (phase_after r jobs carry restarts opened u t (l ++ f ∷ b) run clear stays.0.1 on d there) [
          | inl same ↦ absurd (omega (arith, same, low, high))
          | inr up ↦ up
        ]

        none_at : t.phase ≡ 2 → t.phase + 1 ≡ u.phase → (o : Option Stop)
            → (behind_mdt r jobs carry restarts t.sent (l ++ f ∷ b)).stop ≡ o
            → (behind_mdt r jobs carry restarts t.sent (l ++ f ∷ b)).stop ≡ None
        none_at two up None none = none
        none_at two up (Some y) is =
            let after : (looks_back r jobs (master_calls r carry restarts (t ∷ (l ++ f ∷ b)))).stop ≡ Some y =
            stop_after r jobs carry restarts t (l ++ f ∷ b) stays.0.1 ∙ is in
            absurd (no_rise_with y (stops_in_two r jobs carry restarts t (l ++ f ∷ b) y opened run.0 clear.0 two is)
            (behind_mdt r jobs carry restarts u.sent (t ∷ (l ++ f ∷ b)))
            (stops_in_three r jobs carry restarts u (t ∷ (l ++ f ∷ b)) y opened run clear (omega (arith, two, up))
            (stop_kept r jobs carry restarts u (t ∷ (l ++ f ∷ b)) (same_start r jobs carry restarts (t ∷ (l ++ f ∷ b)) on)
            (ap (λ (o : Option Stop). is_some o) after) ∙ after)))

    -- WITHOUT A STOP the ring falls in time: without a fall the cycles are no more than this.
    pub falls_sparse : (cycles : List CycleView) → IsRun r jobs carry restarts (cycles ++ f ∷ b) → IsClear (cycles ++ f ∷ b)
        → AreSparse r carry restarts cycles (f ∷ b) → NoneFalls r jobs carry restarts cycles (f ∷ b)
        → (looks_back r jobs (master_calls r carry restarts (cycles ++ f ∷ b))).stop ≡ None
        → length cycles ≤ 64 + spared_cycles r + start_costs r jobs carry restarts cycles (f ∷ b)
    falls_sparse [] run clear sparse stays none = omega arith
    falls_sparse (u ∷ cycles) run clear sparse stays none = elim (cases_lt 2 u.phase) [
      | inl high ↦ (let few = few_risen u cycles run clear sparse stays (omega (arith, high)) in omega (arith, few))
      | inr low ↦ (
          let few = few_before 63 u cycles run clear sparse stays (omega (arith, low))
          (sym (stop_after r jobs carry restarts u (cycles ++ f ∷ b) stays.1) ∙ none)
          (λ k below is opens. ages_to_limit r jobs carry restarts opened (u ∷ (cycles ++ f ∷ b)) run clear k below) in omega (arith, few))
    ]

    -- the phase before a cycle of phase 2
    low_before : (u : CycleView) (l : List CycleView) → IsRun r jobs carry restarts (u ∷ (l ++ f ∷ b)) → IsClear (u ∷ (l ++ f ∷ b))
        → AreSparse r carry restarts (u ∷ l) (f ∷ b) → NoneFalls r jobs carry restarts (u ∷ l) (f ∷ b) → phase_of (l ++ f ∷ b) ≤ u.phase
    low_before u [] run clear sparse stays =
        no_lower r jobs carry restarts opened u f b run clear first.stays (sparse.1.goes_on 0 (omega arith)) d there
    low_before u (w ∷ l) run clear sparse stays =
        no_lower r jobs carry restarts opened u w (l ++ f ∷ b) run clear stays.0.1 (sparse.1.goes_on 0 (omega arith)) d there

    -- WITH A STOP no request begins, and an open step of a drive in phase 0 gets older with each cycle.
    aged_few : (a : ℕ) (cycles : List CycleView) → IsRun r jobs carry restarts (cycles ++ f ∷ b) → IsClear (cycles ++ f ∷ b)
        → AreSparse r carry restarts cycles (f ∷ b) → NoneFalls r jobs carry restarts cycles (f ∷ b) → phase_of (cycles ++ f ∷ b) ≤ 2
        → (k : ℕ) → k < length r.drives → IsDown r jobs carry restarts k (f ∷ b)
        → is_some (open_in (epoch_begun (views_of r jobs carry restarts k (cycles ++ f ∷ b)))) ≡ true
        → age_in (views_of r jobs carry restarts k (cycles ++ f ∷ b)) ≤ a
        → length cycles ≤ a + spared_cycles r + start_costs r jobs carry restarts cycles (f ∷ b)
    aged_few a [] run clear sparse stays low k below is opens old = omega arith
    aged_few zero (u ∷ cycles) run clear sparse stays low k below is opens old =
        let least = open_age (views_of r jobs carry restarts k (u ∷ (cycles ++ f ∷ b))) opens in absurd (omega (arith, least, old))
    aged_few (suc a) (u ∷ cycles) run clear sparse stays low k below is opens old =
        by (behind_mdt r jobs carry restarts u.sent (cycles ++ f ∷ b)).stop refl
        (λ was_open few. aged_few a cycles run.0 clear.0 sparse.0 stays.0
        (let least = low_before u cycles run clear sparse stays in omega (arith, least, low)) k below is was_open few)
      where
        turn : (i : ℕ) → i < length r.drives → is_some (open_in (epoch_begun (views_of r jobs carry restarts i (u ∷ (cycles ++ f ∷ b))))) ≡
            true
            → in_turn (known_of r) (behind_mdt r jobs carry restarts u.sent (cycles ++ f ∷ b)) ≡ Some i
        turn i inside its_open = opens_in_turn r jobs carry restarts opened u (cycles ++ f ∷ b) run clear
            (omega (arith, low, late_all u cycles run clear sparse stays.0)) i
            inside
            (sym (ends_so u (cycles ++ f ∷ b) run clear stays.1 i) ∙ its_open)

        by : (o : Option Stop) → (behind_mdt r jobs carry restarts u.sent (cycles ++ f ∷ b)).stop ≡ o
            → (is_some (open_in (epoch_begun (views_of r jobs carry restarts k (cycles ++ f ∷ b)))) ≡ true
            → age_in (views_of r jobs carry restarts k (cycles ++ f ∷ b)) ≤ a
            → length cycles ≤ a + spared_cycles r + start_costs r jobs carry restarts cycles (f ∷ b))
            → suc (length cycles) ≤ suc a + spared_cycles r + (start_costs r jobs carry restarts cycles (f ∷ b)
            + start_cost r jobs carry restarts u (cycles ++ f ∷ b))
        by None none next =
            let few = few_before a u cycles run clear sparse stays low none (λ i inside its_down its_open.
            let same : i ≡ k = same_Some i k (sym (turn i inside its_open) ∙ turn k below opens) in
            let age = ap (λ (n : ℕ). age_in (views_of r jobs carry restarts n (u ∷ (cycles ++ f ∷ b)))) same in omega (arith, age, old)) in
            omega (arith, few)
        by (Some x) stop next =
            let same = nothing_new (view_of r jobs carry restarts k u (cycles ++ f ∷ b)).heard
            (view_of r jobs carry restarts k u (cycles ++ f ∷ b)).begins (restarts (length (cycles ++ f ∷ b)) 0)
            (epoch_begun (views_of r jobs carry restarts k (cycles ++ f ∷ b)))
            (stays_down_in r jobs carry restarts opened u (cycles ++ f ∷ b) run clear k below
            (down_all cycles run.0 clear.0 sparse.0 stays.0 k below is) (late_all u cycles run clear sparse stays.0)).heard
            (begins_none u (cycles ++ f ∷ b) k (ap (λ (o : Option Stop). is_some o) stop))
            (sparse.1.goes_on 0 (omega arith)) in
            let was_open = sym (ends_so u (cycles ++ f ∷ b) run clear stays.1 k ∙ ap (λ (l : List Begun). is_some (open_in l)) same)
            ∙ opens in
            let grows = (ages_on u cycles run clear sparse stays k below is was_open).0 in
            let few = next was_open (omega (arith, grows, old)) in omega (arith, few)

    -- SO A FALL COMES IN TIME, with a stop or without.
    pub fall_sparse : (g : CycleView) (cycles : List CycleView) → IsRun r jobs carry restarts (g ∷ (cycles ++ f ∷ b))
        → IsClear (g ∷ (cycles ++ f ∷ b)) → AreSparse r carry restarts (g ∷ cycles) (f ∷ b)
        → NoneFalls r jobs carry restarts cycles (f ∷ b)
        → is_some (fall_of (known_of r) (behind_mdt r jobs carry restarts g.sent (cycles ++ f ∷ b))) ≡ true
        → length cycles ≤ 64 + spared_cycles r + start_costs r jobs carry restarts cycles (f ∷ b)
    fall_sparse g [] run clear sparse stays falls = omega arith
    fall_sparse g (u ∷ cycles) run clear sparse stays falls = elim (cases_lt 2 u.phase) [
      | inl high ↦ (let few = few_risen u cycles run.0 clear.0 sparse.0 stays (omega (arith, high)) in omega (arith, few))
      | inr low ↦ elim (some_above (λ k. cycles_open ((behind_mdt r jobs carry restarts g.sent (u ∷ (cycles ++ f ∷ b))).calls k)) 63
          (length r.drives)) [
            | inr each ↦ absurd (false≢true (sym (ap (λ (o : Option Fall). is_some o) (stays_if r jobs carry restarts opened
                (λ k. IsUpAfter (f ∷ b) k) within (length (f ∷ b)) g u (cycles ++ f ∷ b) run clear held_u sparse.1 (omega (arith, low))
                (late_all g (u ∷ cycles) run clear sparse stays) each)) ∙ falls))
            | inl found ↦ at_limit (omega (arith, low)) found.0 found.1 found.2
          ]
    ]
      where
        held_u : Held (λ k. IsUpAfter (f ∷ b) k) (length (f ∷ b)) u (cycles ++ f ∷ b)
        held_u = held_all r jobs carry restarts opened (λ k. IsUpAfter (f ∷ b) k) within (length (f ∷ b)) f b first (u ∷ cycles) run.0
            clear.0 sparse.0 stays

        at_limit : u.phase ≤ 2 → (k : ℕ) → k < length r.drives
            → 63 < cycles_open ((behind_mdt r jobs carry restarts g.sent (u ∷ (cycles ++ f ∷ b))).calls k)
            → suc (length cycles) ≤ 64 + spared_cycles r + start_costs r jobs carry restarts (u ∷ cycles) (f ∷ b)
        at_limit low k below above = elim (cases_lt 62 (age_in (views_of r jobs carry restarts k (u ∷ (cycles ++ f ∷ b))))) [
          | inr young ↦ absurd (let few = not_old_yet r jobs carry restarts opened g (u ∷ (cycles ++ f ∷ b)) run clear k below
              (omega (arith, young)) in omega (arith, few, above))
          | inl old ↦ elim (cases_eq (standing (views_of r jobs carry restarts k (f ∷ b))).ended 0) [
            | inl is ↦ aged_few 64 (u ∷ cycles) run.0 clear.0 sparse.0 stays low k below is
                (open_of_age (views_of r jobs carry restarts k (u ∷ (cycles ++ f ∷ b))) (omega (arith, old)))
                (ages_to_limit r jobs carry restarts opened (u ∷ (cycles ++ f ∷ b)) run.0 clear.0 k below)
            | inr up ↦ elim (cases_lt (suc (length cycles)) 24) [
              | inl short ↦ omega (arith, short)
              | inr long ↦ absurd (
                  let busy = busy_low r k opened.valid below in
                  let count = views_count r jobs carry restarts k (cycles ++ f ∷ b) in
                  let parts = length-append cycles (f ∷ b) in
                  let age = oldest (drive_at r k).busy 1 2 (views_of r jobs carry restarts k (u ∷ (cycles ++ f ∷ b)))
                  (all_stand r jobs carry restarts opened (u ∷ (cycles ++ f ∷ b)) run.0 clear.0 k below).sees.run (omega arith)
                  (young_at_last (length (f ∷ b)) (drive_at r k).busy 1 2 (views_of r jobs carry restarts k (u ∷ (cycles ++ f ∷ b)))
                  (omega (arith, busy, count, parts, long)) (held_u.aged k (below, up)).any) in omega (arith, age, busy, old))
            ]
          ]
        ]
