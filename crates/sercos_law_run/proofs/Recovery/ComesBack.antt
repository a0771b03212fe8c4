-- If no drive is in phase 0 and the ring doesn't fall, the start-up ends in time.
use Rattle.sercos_law_run.proofs.Words.{◌≡◌, ◌⊎◌, inl, inr, ℕ, suc, ◌+◌, ◌<◌, ◌≤◌, true, false, not, List, [], ◌∷◌, ◌++◌, length, Option, Some, None, refl, sym, ap, ◌∙◌, subst, arith, if◌then◌else◌, is_some, sum_by, cases_eq, cases_lt, not-true, Job, PlanView, startup_bound, RingView, command_cycles, greatest, CycleView, Stop, is_ready, known_of, member, tasks_for, Past, all_ready, fall_of, is_done, is_done_in, outcomes, Carry, Restarts, drive_at, looks_back, master_calls, IsClear, IsRun, at_start, behind_mdt, IsOpened, AreInThree, GoesOnInThree, IsUndisturbed, IsDown, IsStretch, IsRing-is_ring}
use Rattle.sercos_law_run.proofs.Agenda.AtWork.{IsFound, found_some}
use Rattle.sercos_law_run.proofs.Typed.Mdts.{phase_low}
use Rattle.sercos_law_run.proofs.Views.Members.{members_count}
use Rattle.sercos_law_run.proofs.Held.Runs.{drive_got, holding}
use Rattle.sercos_law_run.proofs.Headline.HeadlineRuns.{all_stand, first_store, spelled_in, stored_in}
use Rattle.sercos_law_run.proofs.Undisturbed.Arriving.Comes.{calm_in}
use Rattle.sercos_law_run.proofs.Undisturbed.EpochCycles.{IsOn, outcomes_after, outcomes_extend}
use Rattle.sercos_law_run.proofs.Undisturbed.InTime.{within_bound}
use Rattle.sercos_law_run.proofs.Undisturbed.PhaseCounts.{end_kept}
use Rattle.sercos_law_run.proofs.Undisturbed.PhaseThree.{unready_before}
use Rattle.sercos_law_run.proofs.Undisturbed.PhaseTwo.{section_two}
use Rattle.sercos_law_run.proofs.Undisturbed.Stops.StopStays.{none_before, stop_after}
use Rattle.sercos_law_run.proofs.Undisturbed.Stops.StopOnce.{same_start}
use Rattle.sercos_law_run.proofs.Undisturbed.NoFalls.{no_less, stays_at}
use Rattle.sercos_law_run.proofs.Recovery.DownSince.{shorter, up_all}
use Rattle.sercos_law_run.proofs.Recovery.Stretches.{whole_at}
use Rattle.sercos_law_run.proofs.Recovery.UpInThree.{LastsInThree}
use Rattle.sercos_law_run.proofs.Recovery.UpInTwo.{up_in_two}
use Rattle.sercos_law_run.proofs.Recovery.UpSections.{no_lower_since}
use Rattle.sercos_law_run.proofs.Bounds.BoundSums.{is_below_greatest}
use Rattle.sercos_law_run.proofs.Undisturbed.ChannelsKept.{phase_now}

module _ (r : RingView) (jobs : List Job) (carry : Carry) (restarts : Restarts) (opened : IsOpened r jobs) where
  -- the cycles of phase 3, cut off: those before them are few
  record IsCut (k n : ℕ) (j : List CycleView) : Type 0 where
    newer : List CycleView
    one : CycleView
    older : List CycleView
    is : j ≡ newer ++ one ∷ older
    stretch : IsStretch r jobs carry restarts newer one older
    three : AreInThree r jobs carry restarts k newer (one ∷ older)
    up : IsDown r jobs carry restarts k (one ∷ older) → ⊥
    few : n ≤ length newer + sum_by section_two r.drives + 1

  one_more : (k n : ℕ) (t : CycleView) (j : List CycleView) → IsUndisturbed r carry restarts t j → fall_of (known_of r) (behind_mdt r jobs carry restarts t.sent j) ≡ None → GoesOnInThree r (behind_mdt r jobs carry restarts t.sent j) k
      → IsCut k n j → IsCut k (suc n) (t ∷ j)
  one_more k n t j calm stays goes f = record {
    newer = t ∷ f.newer;
    one = f.one;
    older = f.older;
    is = ap (λ (l : List CycleView). t ∷ l) f.is;
    stretch = record {
      calm = (f.stretch.calm, subst (λ (l : List CycleView). IsUndisturbed r carry restarts t l) f.is calm);
      stays = (f.stretch.stays, subst (λ (l : List CycleView). fall_of (known_of r) (behind_mdt r jobs carry restarts t.sent l) ≡ None) f.is stays);
      first_calm = f.stretch.first_calm;
      first_stays = f.stretch.first_stays;
    };
    three = (f.three, subst (λ (l : List CycleView). GoesOnInThree r (behind_mdt r jobs carry restarts t.sent l) k) f.is goes);
    up = f.up;
    few = let few = f.few in omega (arith, few);
  }

  module _ (first : CycleView) (before : List CycleView) (late : 2 ≤ first.phase)
      (up : (k : ℕ) → k < length r.drives → IsDown r jobs carry restarts k (first ∷ before) → ⊥) where
    module _ (t : CycleView) (cycles : List CycleView) (run : IsRun r jobs carry restarts (t ∷ (cycles ++ first ∷ before)))
        (clear : IsClear (t ∷ (cycles ++ first ∷ before))) (stretch : IsStretch r jobs carry restarts (t ∷ cycles) first before) where
      quiet : restarts (length (cycles ++ first ∷ before)) 0 ≡ false
      quiet = (calm_in r carry restarts t (cycles ++ first ∷ before) stretch.calm.1).stays 0 (omega arith)

      start : at_start r jobs carry restarts (cycles ++ first ∷ before) ≡ looks_back r jobs (master_calls r carry restarts (cycles ++ first ∷ before))
      start = same_start r jobs carry restarts (cycles ++ first ∷ before) quiet

      phase_before : (looks_back r jobs (master_calls r carry restarts (cycles ++ first ∷ before))).now.phase ≡ t.phase
      phase_before = sym (run.1.phase ∙ ap (λ (p : Past). p.now.phase) start)

      phase_after : (looks_back r jobs (master_calls r carry restarts (t ∷ (cycles ++ first ∷ before)))).now.phase
          ≡ (if is_done (known_of r) (behind_mdt r jobs carry restarts t.sent (cycles ++ first ∷ before)) then (behind_mdt r jobs carry restarts t.sent (cycles ++ first ∷ before)).now.phase + 1
          else (behind_mdt r jobs carry restarts t.sent (cycles ++ first ∷ before)).now.phase)
      phase_after = ap (λ (q : Past). q.now.phase) (end_kept (known_of r) (behind_mdt r jobs carry restarts t.sent (cycles ++ first ∷ before)) stretch.stays.1)

      phase_is : (behind_mdt r jobs carry restarts t.sent (cycles ++ first ∷ before)).now.phase ≡ t.phase
      phase_is = phase_now r jobs carry restarts t (cycles ++ first ∷ before) run.1

      late_too : 2 ≤ t.phase
      late_too =
          let some = (IsRing-is_ring r opened.valid).some in
          let least = no_lower_since r jobs carry restarts opened t cycles first before run clear stretch 0 (omega (arith, some)) in omega (arith, late, least)

      pub on_now : IsOn r jobs carry restarts t (cycles ++ first ∷ before)
      on_now = record {
        now = phase_is;
        stays = stretch.stays.1;
        quiet = quiet;
        starts = start;
        whole = λ k below. whole_at r jobs carry restarts opened t (cycles ++ first ∷ before) run clear stretch.calm.1 stretch.stays.1 k below;
        up = λ k below. (up_all r jobs carry restarts opened (t ∷ cycles) first before run clear stretch k below (up k below)).1;
      }

      up_then : (k : ℕ) → k < length r.drives → IsDown r jobs carry restarts k (t ∷ (cycles ++ first ∷ before)) → ⊥
      up_then k below down = let is : t.phase ≡ 0 = sym (on_now.up k below) ∙ down in let least = late_too in absurd (omega (arith, is, least))

      planned : (k : ℕ) → k < length r.drives → t.phase ≡ 3 → is_some (behind_mdt r jobs carry restarts t.sent (cycles ++ first ∷ before)).plan ≡ true
      planned k below is_three =
          let three : (at_start r jobs carry restarts (cycles ++ first ∷ before)).now.phase ≡ 3 = sym run.1.phase ∙ is_three in
          ap (λ (o : Option PlanView). is_some o) (holding r jobs carry restarts opened (first_store r jobs carry restarts opened) t
          (cycles ++ first ∷ before) run.1 clear.1 (spelled_in r jobs carry restarts opened t (cycles ++ first ∷ before) run.1)
          (stored_in r jobs carry restarts opened t (cycles ++ first ∷ before))
          (all_stand r jobs carry restarts opened (cycles ++ first ∷ before) run.0 clear.0) (omega (arith, three)) k below).1.now

      two_few : t.phase ≡ 2 → (looks_back r jobs (master_calls r carry restarts (t ∷ (cycles ++ first ∷ before)))).stop ≡ None → length cycles ≤ sum_by section_two r.drives
      two_few two none = up_in_two r jobs carry restarts opened t cycles first before run clear stretch late two none up

    cut_at : (k : ℕ) → k < length r.drives → (cycles : List CycleView) → IsRun r jobs carry restarts (cycles ++ first ∷ before) → IsClear (cycles ++ first ∷ before) → IsStretch r jobs carry restarts cycles first before
        → (looks_back r jobs (master_calls r carry restarts (cycles ++ first ∷ before))).stop ≡ None → (looks_back r jobs (master_calls r carry restarts (cycles ++ first ∷ before))).now.phase ≤ 3
        → is_ready (member (known_of r) k) (outcomes (looks_back r jobs (master_calls r carry restarts (cycles ++ first ∷ before))) k) ≡ false → IsCut k (length cycles) (cycles ++ first ∷ before)
    cut_at k below [] run clear stretch none low unready = record { newer = []; one = first; older = before; is = refl; stretch = stretch; three = tt; up = up k below; few = omega arith }
    cut_at k below (t ∷ cycles) run clear stretch none low unready = elim (cases_lt 2 t.phase) [
      | inr two ↦ record {
        newer = [];
        one = t;
        older = cycles ++ first ∷ before;
        is = refl;
        stretch = record { calm = tt; stays = tt; first_calm = stretch.calm.1; first_stays = stretch.stays.1 };
        three = tt;
        up = up_then t cycles run clear stretch k below;
        few = let least = late_too t cycles run clear stretch in let few = two_few t cycles run clear stretch (omega (arith, least, two)) none in omega (arith, few);
      }
      | inl high ↦ one_more k (length cycles) t (cycles ++ first ∷ before) stretch.calm.1 stretch.stays.1 (record {
        phase = phase_is t cycles run clear stretch ∙ three high;
        goes_on = none_now;
        planned = planned t cycles run clear stretch k below (three high);
        unready = unready_now;
      }) (cut_at k below cycles run.0 clear.0 (shorter r jobs carry restarts opened t cycles first before stretch)
          (none_before r jobs carry restarts t (cycles ++ first ∷ before) (start t cycles run clear stretch) none_now)
          (let same = phase_before t cycles run clear stretch in let is = three high in omega (arith, same, is))
          (unready_before (member (known_of r) k) _ _ (outcomes_extend r jobs carry restarts opened t (cycles ++ first ∷ before) run clear (on_now t cycles run clear stretch) k below) unready_now))
    ]
      where
        three : 2 < t.phase → t.phase ≡ 3
        three high =
            let least = no_less (is_done (known_of r) (behind_mdt r jobs carry restarts t.sent (cycles ++ first ∷ before))) (behind_mdt r jobs carry restarts t.sent (cycles ++ first ∷ before)).now.phase in
            omega (arith, high, phase_is t cycles run clear stretch, phase_after t cycles run clear stretch, least, low)

        none_now : (behind_mdt r jobs carry restarts t.sent (cycles ++ first ∷ before)).stop ≡ None
        none_now = sym (stop_after r jobs carry restarts t (cycles ++ first ∷ before) stretch.stays.1) ∙ none

        unready_now : is_ready (member (known_of r) k) (outcomes (behind_mdt r jobs carry restarts t.sent (cycles ++ first ∷ before)) k) ≡ false
        unready_now = sym (ap (is_ready (member (known_of r) k)) (outcomes_after r jobs carry restarts opened t (cycles ++ first ∷ before) (on_now t cycles run clear stretch) k)) ∙ unready

    -- Phase 3 may last for some cycles more than the check of a drive takes.
    module _ (tail : ℕ) (lasts : LastsInThree r jobs carry restarts tail) where
      -- the cycles of phase 3 and those before them
      both_few : (k : ℕ) → k < length r.drives → (n : ℕ) (j : List CycleView) → IsRun r jobs carry restarts j → IsClear j → IsCut k n j → n ≤ sum_by section_two r.drives + 1 + greatest command_cycles r.drives + tail
      both_few k below n j run clear f =
          let most = is_below_greatest command_cycles r.drives k (drive_at r k) (command_cycles (drive_at r k)) (drive_got r k below) (omega arith) in
          omega (
            arith,
            lasts k below f.newer f.one f.older (subst (λ (l : List CycleView). IsRun r jobs carry restarts l) f.is run)
                (subst (λ (l : List CycleView). IsClear l) f.is clear) f.stretch f.three f.up,
            f.few,
            most,
          )

      three_few : (t : CycleView) (cycles : List CycleView) → IsRun r jobs carry restarts (t ∷ (cycles ++ first ∷ before)) → IsClear (t ∷ (cycles ++ first ∷ before)) → IsStretch r jobs carry restarts (t ∷ cycles) first before → t.phase ≡ 3
          → (behind_mdt r jobs carry restarts t.sent (cycles ++ first ∷ before)).stop ≡ None → length cycles ≤ sum_by section_two r.drives + 1 + greatest command_cycles r.drives + tail
      three_few t [] run clear stretch is_three none = omega arith
      three_few t (u ∷ cycles) run clear stretch is_three none = elim (cases_lt 2 u.phase) [
        | inr low ↦ let least = late_too u cycles run.0 clear.0 earlier in let few = two_few u cycles run.0 clear.0 earlier (omega (arith, least, low)) none_then in omega (arith, few)
        | inl high ↦ in_three (let same = phase_is u cycles run.0 clear.0 earlier in let next = phase_after u cycles run.0 clear.0 earlier in
            let least = no_less (is_done (known_of r) newest) newest.now.phase in let after = phase_then in omega (arith, same, next, least, after, high))
      ]
        where
          newest : Past
          newest = behind_mdt r jobs carry restarts u.sent (cycles ++ first ∷ before)

          earlier : IsStretch r jobs carry restarts (u ∷ cycles) first before
          earlier = shorter r jobs carry restarts opened t (u ∷ cycles) first before stretch

          none_then : (looks_back r jobs (master_calls r carry restarts (u ∷ (cycles ++ first ∷ before)))).stop ≡ None
          none_then = none_before r jobs carry restarts t (u ∷ (cycles ++ first ∷ before)) (start t (u ∷ cycles) run clear stretch) none

          phase_then : (looks_back r jobs (master_calls r carry restarts (u ∷ (cycles ++ first ∷ before)))).now.phase ≡ 3
          phase_then = phase_before t (u ∷ cycles) run clear stretch ∙ is_three

          in_three : (behind_mdt r jobs carry restarts u.sent (cycles ++ first ∷ before)).now.phase ≡ 3 → suc (length cycles) ≤ sum_by section_two r.drives + 1 + greatest command_cycles r.drives + tail
          in_three now_three = both_few last.place low (suc (length cycles)) (u ∷ (cycles ++ first ∷ before)) run.0 clear.0
              (cut_at last.place low (u ∷ cycles) run.0 clear.0 earlier none_then (let is = phase_then in omega (arith, is))
              (ap (is_ready (member (known_of r) last.place)) (outcomes_after r jobs carry restarts opened u (cycles ++ first ∷ before) (on_now u cycles run.0 clear.0 earlier) last.place) ∙ not-true _ last.passes))
            where
              undone : all_ready (known_of r) (behind_mdt r jobs carry restarts u.sent (cycles ++ first ∷ before)) ≡ false
              undone = sym (ap (λ (m : ℕ). is_done_in m (known_of r) (behind_mdt r jobs carry restarts u.sent (cycles ++ first ∷ before))) now_three)
                  ∙ stays_at (is_done (known_of r) (behind_mdt r jobs carry restarts u.sent (cycles ++ first ∷ before))) (behind_mdt r jobs carry restarts u.sent (cycles ++ first ∷ before)).now.phase 3
                  now_three (sym (phase_after u cycles run.0 clear.0 earlier) ∙ phase_then)

              last : IsFound 0 (length (known_of r).drives) (λ k. not (is_ready (member (known_of r) k) (outcomes (behind_mdt r jobs carry restarts u.sent (cycles ++ first ∷ before)) k)))
              last = found_some 0 (length (known_of r).drives) (λ k. not (is_ready (member (known_of r) k) (outcomes (behind_mdt r jobs carry restarts u.sent (cycles ++ first ∷ before)) k))) undone

              low : last.place < length r.drives
              low = let below = last.below in let count = members_count r in omega (arith, below, count)

      -- PHASE 4 COMES, or a stop.
      pub comes_back : (t : CycleView) (cycles : List CycleView) → IsRun r jobs carry restarts (t ∷ (cycles ++ first ∷ before)) → IsClear (t ∷ (cycles ++ first ∷ before)) → IsStretch r jobs carry restarts (t ∷ cycles) first before
          → startup_bound r + tail ≤ length cycles + 1 → (t.phase ≡ 4) ⊎ (is_some (behind_mdt r jobs carry restarts t.sent (cycles ++ first ∷ before)).stop ≡ true)
      comes_back t cycles run clear stretch long = by (behind_mdt r jobs carry restarts t.sent (cycles ++ first ∷ before)).stop refl
        where
          by : (o : Option Stop) → (behind_mdt r jobs carry restarts t.sent (cycles ++ first ∷ before)).stop ≡ o → (t.phase ≡ 4) ⊎ (is_some (behind_mdt r jobs carry restarts t.sent (cycles ++ first ∷ before)).stop ≡ true)
          by (Some x) is = inr (ap (λ (o : Option Stop). is_some o) is)
          by None none =
              let bound = within_bound r in
              let most = phase_low (known_of r) (tasks_for (known_of r) jobs) (master_calls r carry restarts (cycles ++ first ∷ before)) in
              let same = phase_before t cycles run clear stretch in
              elim (cases_eq t.phase 2) [
                | inl two ↦ let few = two_few t cycles run clear stretch two (stop_after r jobs carry restarts t (cycles ++ first ∷ before) stretch.stays.1 ∙ none) in absurd (omega (arith, few, bound, long))
                | inr not_two ↦ elim (cases_eq t.phase 3) [
                  | inl three ↦ let few = three_few t cycles run clear stretch three none in absurd (omega (arith, few, bound, long))
                  | inr not_three ↦ inl (omega (arith, late_too t cycles run clear stretch, most, same, not_two, not_three))
                ]
              ]
