-- In how many cycles the ring falls after an undisturbed one, if it does: with a drive in phase 0, or without.
use Rattle.sercos_law_run.proofs.Words.{◌≡◌, inr, ℕ, suc, ◌+◌, ◌<◌, ◌≤◌, true, List, [], ◌∷◌, ◌++◌, length, None, refl, subst, arith, is_some, Job, RingView, CycleView, known_of, fall_of, Carry, Restarts, spared_cycles, IsClear, IsRun, behind_mdt, IsOpened, NoneFalls, AreUndisturbed, IsUndisturbed, IsSpared, IsDown, IsStretch, ◌⊎◌, inl, sym, ap, slowest, cases_eq, cases_lt, false≢true, Option, Fall, View, IsSparse, staying, drive_at, length-append, IsUp, view_of, views_of, ◌∙◌}
use Rattle.sercos_law_run.proofs.Bounds.FallCycles.{spared_so}
use Rattle.sercos_law_run.proofs.Undisturbed.GoingCycles.{AreAll, all_so}
use Rattle.sercos_law_run.proofs.Recovery.LateDown.{no_lower}
use Rattle.sercos_law_run.proofs.Recovery.Stretches.{rest_clear, rest_runs, stays_down_in, whole_at}
use Rattle.sercos_law_run.proofs.Tolerance.Borne.{some_drive, IsHeld, aged_now, stays_now}
use Rattle.sercos_law_run.proofs.Tolerance.Calm.{calm_is_sparse, calm_of, no_costs}
use Rattle.sercos_law_run.proofs.Tolerance.Since.{soon_if_down, up_at}
use Rattle.sercos_law_run.proofs.Recovery.DownSince.{calm_quiet}
use Rattle.sercos_law_run.proofs.Recovery.EarlyPhases.{up_in_one}
use Rattle.sercos_law_run.proofs.Recovery.FallsSoon.{busy_slowest}
use Rattle.sercos_law_run.proofs.Recovery.InTwo.{down_on}
use Rattle.sercos_law_run.proofs.Tolerance.Settles.{first_held, held_all, sparse_all}
use Rattle.sercos_law_run.proofs.Tolerance.Standing.{zero_up}
use Rattle.sercos_law_run.proofs.Tolerance.Steps.{IsYoung, older, young_at_last}
use Rattle.sercos_law_run.proofs.Views.ViewRuns.{views_count}

module _ (r : RingView) (jobs : List Job) (carry : Carry) (restarts : Restarts) (opened : IsOpened r jobs) where
  -- a cycle is undisturbed, and the ring doesn't fall at its end
  abbrev IsStill : CycleView → List CycleView → Type 0
  IsStill t j = IsUndisturbed r carry restarts t j × (fall_of (known_of r) (behind_mdt r jobs carry restarts t.sent j) ≡ None)

  each_still : (cycles rest : List CycleView) → AreUndisturbed r carry restarts cycles rest → NoneFalls r jobs carry restarts cycles rest
      → AreAll IsStill cycles rest
  each_still [] rest calm stays = tt
  each_still (t ∷ cycles) rest calm stays = (each_still cycles rest calm.0 stays.0, (calm.1, stays.1))

  none_fall : (cycles rest : List CycleView) → AreAll IsStill cycles rest → NoneFalls r jobs carry restarts cycles rest
  none_fall [] rest those = tt
  none_fall (t ∷ cycles) rest those = (none_fall cycles rest those.0, those.1.1)

  all_calm : (cycles rest : List CycleView) → AreAll IsStill cycles rest → AreUndisturbed r carry restarts cycles rest
  all_calm cycles rest those = calm_of r carry restarts cycles rest
      (all_so IsStill (IsUndisturbed r carry restarts) (λ t j so. so.0) cycles rest those)

  sparse_so : (t : CycleView) (j : List CycleView) → IsStill t j → IsSparse r carry restarts t j
  sparse_so t j so = calm_is_sparse r carry restarts t j so.0

  -- such cycles, cut after the oldest
  record HasSecond (cycles rest : List CycleView) : Type 0 where
    newer : List CycleView
    second : CycleView
    is : cycles ++ rest ≡ newer ++ second ∷ rest
    long : length cycles ≡ suc (length newer)
    those : AreAll IsStill newer (second ∷ rest)
    still : IsStill second rest

  second_of : (t : CycleView) (cycles rest : List CycleView) → AreUndisturbed r carry restarts (t ∷ cycles) rest
      → NoneFalls r jobs carry restarts (t ∷ cycles) rest → HasSecond (t ∷ cycles) rest
  second_of t [] rest calm stays =
      record { newer = []; second = t; is = refl; long = refl; those = tt; still = (calm.1, stays.1) }
  second_of t (u ∷ cycles) rest calm stays =
      let x = second_of u cycles rest calm.0 stays.0 in
      record {
        newer = t ∷ x.newer;
        second = x.second;
        is = ap (λ (l : List CycleView). t ∷ l) x.is;
        long = ap suc x.long;
        those = (x.those, subst (IsStill t) x.is (calm.1, stays.1));
        still = x.still;
      }

  none_or_second : (cycles rest : List CycleView) → AreUndisturbed r carry restarts cycles rest
      → NoneFalls r jobs carry restarts cycles rest → (length cycles ≡ 0) ⊎ HasSecond cycles rest
  none_or_second [] rest calm stays = inl refl
  none_or_second (t ∷ cycles) rest calm stays = inr (second_of t cycles rest calm stays)

  -- a drive that isn't in phase 0 at their end is in the commanded phase in each
  up_then : (newer : List CycleView) (w : CycleView) (j : List CycleView) → IsRun r jobs carry restarts (newer ++ w ∷ j)
      → IsClear (newer ++ w ∷ j) → AreAll IsStill newer (w ∷ j) → IsStill w j → (k : ℕ) → k < length r.drives
      → (IsDown r jobs carry restarts k (newer ++ w ∷ j) → ⊥)
      → IsUp (view_of r jobs carry restarts k w j) (views_of r jobs carry restarts k j)
  up_then newer w j run clear those still k below up =
      let run_w = rest_runs r jobs carry restarts newer (w ∷ j) run in
      let clear_w = rest_clear newer (w ∷ j) clear in
      elim (cases_eq w.phase 0) [
        | inl zero_is ↦ zero_up (view_of r jobs carry restarts k w j) (views_of r jobs carry restarts k j)
            (whole_at r jobs carry restarts opened w j run_w clear_w still.0 still.1 k below).mst zero_is
        | inr later ↦ up_at r jobs carry restarts opened w j run_w clear_w still.0 still.1 k below (λ down. elim (cases_eq w.phase 1) [
          | inl one ↦ (let is = up_in_one r jobs carry restarts opened w j run_w clear_w still.0 one k below in omega (arith, is, down))
          | inr other ↦ up (down_on r jobs carry restarts opened newer w j run clear still.1 (none_fall newer (w ∷ j) those)
              (calm_quiet r carry restarts newer (w ∷ j) (all_calm newer (w ∷ j) those)) (omega (arith, later, other)) k below down)
        ])
      ]

  module _ (f : CycleView) (cycles : List CycleView) (first : CycleView) (before : List CycleView)
      (run : IsRun r jobs carry restarts (f ∷ (cycles ++ first ∷ before))) (clear : IsClear (f ∷ (cycles ++ first ∷ before)))
      (stretch : IsStretch r jobs carry restarts cycles first before) (calm : IsUndisturbed r carry restarts f (cycles ++ first ∷ before))
      (falls : is_some (fall_of (known_of r) (behind_mdt r jobs carry restarts f.sent (cycles ++ first ∷ before))) ≡ true) where
    first_still : IsStill first before
    first_still = (stretch.first_calm, stretch.first_stays)

    -- FROM THE SECOND CYCLE ON, which comes after an undisturbed one
    module _ (x : HasSecond cycles (first ∷ before)) where
      run_is : IsRun r jobs carry restarts (f ∷ (x.newer ++ x.second ∷ first ∷ before))
      run_is = subst (λ (l : List CycleView). IsRun r jobs carry restarts (f ∷ l)) x.is run

      clear_is : IsClear (f ∷ (x.newer ++ x.second ∷ first ∷ before))
      clear_is = subst (λ (l : List CycleView). IsClear (f ∷ l)) x.is clear

      falls_is : is_some (fall_of (known_of r) (behind_mdt r jobs carry restarts f.sent (x.newer ++ x.second ∷ first ∷ before))) ≡ true
      falls_is = subst (λ (l : List CycleView). is_some (fall_of (known_of r) (behind_mdt r jobs carry restarts f.sent l)) ≡ true) x.is
          falls

      run_two : IsRun r jobs carry restarts (x.second ∷ first ∷ before)
      run_two = rest_runs r jobs carry restarts (f ∷ x.newer) (x.second ∷ first ∷ before) run_is

      clear_two : IsClear (x.second ∷ first ∷ before)
      clear_two = rest_clear (f ∷ x.newer) (x.second ∷ first ∷ before) clear_is

      -- with a drive in phase 0
      few_down : 2 ≤ first.phase → (d : ℕ) → d < length r.drives → IsDown r jobs carry restarts d (first ∷ before)
          → length x.newer ≤ 64 + spared_cycles r
      few_down late d there down =
          let few = (soon_if_down r jobs carry restarts opened IsStill sparse_so x.second first before (record {
            late = omega (arith, late, least);
            calm = x.still.0;
            stays_before = stretch.first_stays;
            still_before = (sparse_so first before first_still).goes_on 0 (omega arith);
            stays = x.still.1;
            known = inr (
              stretch.first_calm,
              λ k below up. up_at r jobs carry restarts opened first before run_two.0 clear_two.0
                  stretch.first_calm stretch.first_stays k below (λ is. up (down_then k below is)),
            );
          }) x.newer run_is.0 clear_is.0 x.those (none_fall x.newer (x.second ∷ first ∷ before) x.those) d there
          (down_then d there down)).falls f run_is clear_is
          (calm_is_sparse r carry restarts f _ (subst (IsUndisturbed r carry restarts f) x.is calm)) falls_is in
          let free = no_costs r jobs carry restarts opened x.newer (x.second ∷ first ∷ before) run_is.0
          (all_calm x.newer (x.second ∷ first ∷ before) x.those) in omega (arith, few, free)
        where
          least : first.phase ≤ x.second.phase
          least = no_lower r jobs carry restarts opened x.second first before run_two clear_two stretch.first_stays
              ((sparse_so x.second (first ∷ before) x.still).goes_on 0 (omega arith)) d there

          down_then : (k : ℕ) → k < length r.drives → IsDown r jobs carry restarts k (first ∷ before)
              → IsDown r jobs carry restarts k (x.second ∷ first ∷ before)
          down_then k below is_down = (stays_down_in r jobs carry restarts opened x.second (first ∷ before) run_two clear_two k below
              is_down
              (omega (arith, late, least))).ended

      -- with none: a step that was open in the first cycles has ended
      few_up : ((k : ℕ) → k < length r.drives → IsDown r jobs carry restarts k (cycles ++ first ∷ before) → ⊥)
          → length x.newer ≤ slowest r.drives
      few_up up = elim (cases_lt (slowest r.drives) (length x.newer)) [
        | inr few ↦ omega (arith, few)
        | inl many ↦ absurd (false≢true (sym (ap (λ (o : Option Fall). is_some o) (by x.newer run_is clear_is x.those
            (subst (IsUndisturbed r carry restarts f) x.is calm) (omega (arith, many)))) ∙ falls_is))
      ]
        where
          all_still : AreAll IsStill cycles (first ∷ before)
          all_still = each_still cycles (first ∷ before) stretch.calm stretch.stays

          first_two : IsHeld r jobs carry restarts opened (λ k. k < length r.drives) (length (x.second ∷ first ∷ before)) x.second
              (first ∷ before)
          first_two = first_held r jobs carry restarts opened (λ k. k < length r.drives) (λ k below. below) x.second first before run_two
              clear_two x.still.0 stretch.first_stays ((sparse_so first before first_still).goes_on 0 (omega arith)) x.still.1
              (λ k below. up_then x.newer x.second (first ∷ before) run_is.0 clear_is.0 x.those x.still k below
              (λ down. up k below (subst (IsDown r jobs carry restarts k) (sym x.is) down)))
              (inr (stretch.first_calm, λ k below. up_then cycles first before run.0 clear.0 all_still first_still k below (up k below)))

          by : (l : List CycleView) → IsRun r jobs carry restarts (f ∷ (l ++ x.second ∷ first ∷ before))
              → IsClear (f ∷ (l ++ x.second ∷ first ∷ before)) → AreAll IsStill l (x.second ∷ first ∷ before)
              → IsUndisturbed r carry restarts f (l ++ x.second ∷ first ∷ before) → slowest r.drives < length l
              → fall_of (known_of r) (behind_mdt r jobs carry restarts f.sent (l ++ x.second ∷ first ∷ before)) ≡ None
          by [] run clear those calm long = absurd (omega (arith, long))
          by (u ∷ l) run clear those calm long = stays_now r jobs carry restarts opened (λ k. k < length r.drives) (λ k below. below)
              (length (x.second ∷ first ∷ before)) f u (l ++ x.second ∷ first ∷ before) run clear held sparse (λ k below. below) young
            where
              held : IsHeld r jobs carry restarts opened (λ k. k < length r.drives) (length (x.second ∷ first ∷ before)) u
                  (l ++ x.second ∷ first ∷ before)
              held = held_all r jobs carry restarts opened (λ k. k < length r.drives) (λ k below. below)
                  (length (x.second ∷ first ∷ before)) x.second (first ∷ before) first_two (u ∷ l) run.0 clear.0
                  (sparse_all r carry restarts IsStill sparse_so (u ∷ l) (x.second ∷ first ∷ before) those)
                  (none_fall (u ∷ l) (x.second ∷ first ∷ before) those)

              sparse : IsSparse r carry restarts f (u ∷ (l ++ x.second ∷ first ∷ before))
              sparse = calm_is_sparse r carry restarts f (u ∷ (l ++ x.second ∷ first ∷ before)) calm

              young : (k : ℕ) → k < length r.drives → IsYoung (drive_at r k).busy 1 2
                  (staying (view_of r jobs carry restarts k f (u ∷ (l ++ x.second ∷ first ∷ before)))
                  ∷ views_of r jobs carry restarts k (u ∷ (l ++ x.second ∷ first ∷ before)))
              young k below =
                  let all : List View = staying (view_of r jobs carry restarts k f (u ∷ (l ++ x.second ∷ first ∷ before)))
                  ∷ views_of r jobs carry restarts k (u ∷ (l ++ x.second ∷ first ∷ before)) in
                  older 0 (drive_at r k).busy 0 0 1 2 all (omega arith) (omega arith)
                  (young_at_last (length (x.second ∷ first ∷ before)) (drive_at r k).busy 0 0 all
                  (let count = views_count r jobs carry restarts k (l ++ x.second ∷ first ∷ before) in
                  let parts = length-append l (x.second ∷ first ∷ before) in omega (arith, count, busy_slowest r k below, parts, long))
                  ((aged_now r jobs carry restarts opened (λ i. i < length r.drives) (λ i low. low)
                  (length (x.second ∷ first ∷ before)) f u (l ++ x.second ∷ first ∷ before) run clear held sparse k below).calm calm
                  (inr (tt, those.1.0))))

    -- IN TIME, if a drive is in phase 0 after the first cycle, with a stop or without
    pub falls_anyway : 2 ≤ first.phase → (d : ℕ) → d < length r.drives → IsDown r jobs carry restarts d (first ∷ before)
        → IsSpared r 65 (length cycles)
    falls_anyway late d there down = spared_so r 65 (length cycles) (some_drive r jobs carry restarts opened)
        (elim (none_or_second cycles (first ∷ before) stretch.calm stretch.stays) [
          | inl none ↦ omega (arith, none)
          | inr x ↦ (let few = few_down x late d there down in let long = x.long in omega (arith, few, long))
        ])

    -- SOON OR NOT AT ALL, if none is at the end
    pub falls_soon : ((k : ℕ) → k < length r.drives → IsDown r jobs carry restarts k (cycles ++ first ∷ before) → ⊥)
        → length cycles ≤ slowest r.drives + 1
    falls_soon up = elim (none_or_second cycles (first ∷ before) stretch.calm stretch.stays) [
      | inl none ↦ omega (arith, none)
      | inr x ↦ (let few = few_up x up in let long = x.long in omega (arith, few, long))
    ]
