-- Phase 4 begins in time while disturbed cycles are sparse, if the ring is right; else there is a stop, or a check that has ended badly.
use Rattle.sercos_law_run.proofs.Words.{cases_Option, ◌≡◌, ◌⊎◌, inl, inr, suc, ◌+◌, ◌<◌, ◌≤◌, true, List, ◌∷◌, ◌++◌, length, Option, None, sym, ap, ◌∙◌, subst, arith, is_some, cases_lt, false≢true, Job, Outcome, startup_bound, RingView, Begun, begun_by, epoch_begun, CycleView, Stop, is_ready, reads_count, outcomes_in, known_of, member, Past, outcomes, Carry, Restarts, command_cycles, drive_at, looks_back, master_calls, IsClear, IsRun, behind_mdt, views_of, IsOpened, HasBadCheck, IsRight, early_costs, disturbances, start_costs, AreSparse}
use Rattle.sercos_law_run.proofs.Held.Runs.{drive_got}
use Rattle.sercos_law_run.proofs.Undisturbed.InTime.{within_bound}
use Rattle.sercos_law_run.proofs.Undisturbed.JobsBegun.{begun_now}
use Rattle.sercos_law_run.proofs.Undisturbed.PhaseCounts.{end_kept}
use Rattle.sercos_law_run.proofs.Recovery.CausedStops.{phase_most}
use Rattle.sercos_law_run.proofs.Tolerance.Borne.{IsBase, IsBorne, borne_on}
use Rattle.sercos_law_run.proofs.Tolerance.Ends.{end_at, never_late, right_ends}
use Rattle.sercos_law_run.proofs.Tolerance.NotYet.{IsEpoch, IsUnready}
use Rattle.sercos_law_run.proofs.Tolerance.ThreeLasts.{check_fit, three_sparse}
use Rattle.sercos_law_run.proofs.Bounds.BoundSums.{is_below_greatest}
use Rattle.sercos_law_run.proofs.Undisturbed.Cited.{is_ready_if_ended}
use Rattle.sercos_law_run.proofs.Undisturbed.PhaseTwo.{listed_all}

module _ (r : RingView) (jobs : List Job) (carry : Carry) (restarts : Restarts) (opened : IsOpened r jobs) where
  abbrev Base : List CycleView → Type 0
  Base before = IsBase r jobs carry restarts opened before

  abbrev back : List CycleView → Past
  back j = looks_back r jobs (master_calls r carry restarts j)

  -- THE CHECK OF A DRIVE that isn't ready has ended badly, or hasn't ended,
  module _ (u : CycleView) (j : List CycleView) (run : IsRun r jobs carry restarts (u ∷ j)) (clear : IsClear (u ∷ j))
      (is : IsBorne r jobs carry restarts opened u j) where
    bad_or_few : (n : IsUnready r jobs carry restarts opened u j)
        → HasBadCheck r (back (u ∷ j)) ⊎ (length (outcomes_in (epoch_begun (views_of r jobs carry restarts n.place (u ∷ j))))
        ≤ reads_count (member (known_of r) n.place) + 12)
    bad_or_few n = elim (cases_lt (reads_count (member (known_of r) n.place) + 12)
        (length (outcomes_in (epoch_begun (views_of r jobs carry restarts n.place (u ∷ j)))))) [
          | inl ended ↦ inl (record {
            place = n.place;
            there = n.there;
            ended = subst (λ (l : List Begun). reads_count (member (known_of r) n.place) + 12 < length (outcomes_in l)) (sym begun) ended;
            badly = ap (λ (l : List Begun). is_ready (member (known_of r) n.place) (outcomes_in l)) begun ∙ n.unready;
          })
          | inr few ↦ inr (omega (arith, few))
        ]
      where
        begun : begun_by ((back (u ∷ j)).calls n.place) ≡ epoch_begun (views_of r jobs carry restarts n.place (u ∷ j))
        begun = ap (λ (p : Past). begun_by (p.calls n.place)) (end_kept (known_of r) (behind_mdt r jobs carry restarts u.sent j) is.stays)
            ∙ begun_now r jobs carry restarts opened u j run clear is.stays n.place n.there

    -- and hasn't ended, if the ring is right.
    pub few_in : IsRight r → (n : IsUnready r jobs carry restarts opened u j)
        → length (outcomes_in (epoch_begun (views_of r jobs carry restarts n.place (u ∷ j)))) ≤ reads_count (member (known_of r) n.place) + 12
    few_in right n = elim (bad_or_few n) [ inl bad ↦ absurd (never_bad bad) | inr few ↦ few ]
      where
        never_bad : HasBadCheck r (back (u ∷ j)) → ⊥
        never_bad bad =
            let same = ap (λ (p : Past). outcomes p bad.place) (end_kept (known_of r) (behind_mdt r jobs carry restarts u.sent j) is.stays) in
            false≢true (sym bad.badly ∙ ap (is_ready (member (known_of r) bad.place)) same
            ∙ is_ready_if_ended r jobs carry restarts opened u j run clear bad.place bad.there (right.1 bad.place bad.there)
            (subst (λ (l : List Outcome). reads_count (member (known_of r) bad.place) + 12 < length l) same bad.ended))

  -- AFTER THE BOUND OF A START-UP, and what the cycles so far cost
  module _ (t : CycleView) (cycles before : List CycleView) (run : IsRun r jobs carry restarts (t ∷ (cycles ++ before)))
      (clear : IsClear (t ∷ (cycles ++ before))) (starts : Base before) (sparse : AreSparse r carry restarts (t ∷ cycles) before)
      (long : startup_bound r + start_costs r jobs carry restarts cycles before ≤ length cycles) where
    borne : (u : CycleView) (rest : List CycleView) → IsEpoch r jobs carry restarts opened (u ∷ rest) before
        → IsBorne r jobs carry restarts opened u (rest ++ before)
    borne u rest e = borne_on r jobs carry restarts opened u rest before e.run e.clear starts e.sparse

    -- phase 3 has had its time, where the check hasn't ended
    three_long : (u : CycleView) (rest : List CycleView) → IsEpoch r jobs carry restarts opened (u ∷ rest) before → u.phase ≡ 3
        → (back (u ∷ (rest ++ before))).now.phase ≡ 3 → (back (u ∷ (rest ++ before))).stop ≡ None
        → (n : IsUnready r jobs carry restarts opened u (rest ++ before))
        → startup_bound r + 0 + (early_costs r jobs carry restarts (u ∷ rest) before + disturbances r carry restarts (u ∷ rest) before)
        ≤ suc (length rest)
        → length (outcomes_in (epoch_begun (views_of r jobs carry restarts n.place (u ∷ (rest ++ before)))))
        ≤ reads_count (member (known_of r) n.place) + 12 → ⊥
    three_long u rest e was_three then_three none n enough few =
        let most = is_below_greatest command_cycles r.drives n.place (drive_at r n.place) (command_cycles (drive_at r n.place))
        (drive_got r n.place n.there) (omega arith) in
        let bound = within_bound r in omega (
          arith,
          three_sparse r jobs carry restarts opened u rest before e.run e.clear starts e.sparse
              then_three none n.place n.there n.unready (λ raw. 512) 0
              (listed_all (views_of r jobs carry restarts n.place (u ∷ (rest ++ before))))
              (check_fit r jobs carry restarts opened u (rest ++ before) e.run e.clear (borne u rest e) was_three n.place n.there few),
          most,
          bound,
          enough,
        )

    -- PHASE 4, A STOP, or a check that has ended badly
    pub comes_sparse : (t.phase ≡ 4) ⊎ ((is_some (behind_mdt r jobs carry restarts t.sent (cycles ++ before)).stop ≡ true)
        ⊎ HasBadCheck r (back (cycles ++ before)))
    comes_sparse = elim (cases_Option (behind_mdt r jobs carry restarts t.sent (cycles ++ before)).stop) [
      | inl none ↦ elim (cases_lt t.phase 4) [
        | inr high ↦ inl (let most = phase_most r jobs carry restarts opened t (cycles ++ before) run clear in
            omega (arith, high, most))
        | inl low ↦ inr (inr (never_late r jobs carry restarts opened 0 t cycles before run clear starts sparse (omega (arith, long))
            (HasBadCheck r (back (cycles ++ before)))
            (λ u rest is e was_three then_three stop_none n enough.
            subst (λ (l : List CycleView). HasBadCheck r (back (l ++ before))) (sym is)
            (elim (bad_or_few u (rest ++ before) e.run e.clear (borne u rest e) n) [
              | inl bad ↦ bad
              | inr few ↦ absurd (three_long u rest e was_three then_three stop_none n enough few)
            ])) (omega (arith, low)) none))
      ]
      | inr is ↦ inr (inl (ap (λ (o : Option Stop). is_some o) is.1))
    ]

    -- PHASE 4, if the ring is right
    pub rises_sparse : IsRight r → t.phase ≡ 4
    rises_sparse right = right_ends r jobs carry restarts opened t (cycles ++ before) (end_at r jobs carry restarts opened t (cycles ++ before)
        run clear (never_late r jobs carry restarts opened 0 t cycles before run clear starts sparse (omega (arith, long)) ⊥
        (λ u rest is e was_three then_three none n enough. three_long u rest e was_three then_three none n enough
        (few_in u (rest ++ before) e.run e.clear (borne u rest e) right n)))) right
