-- After the last faults that aren't sparse the ring returns in time, while sparse ones go on.
use Rattle.sercos_law_run.proofs.Words.{stop_cycles, ◌≡◌, inl, inr, ◌+◌, ◌*◌, ◌≤◌, List, [], ◌∷◌, ◌++◌, length, refl, sym, ap, ◌∙◌, subst, arith, cases_lt, Job, startup_bound, RingView, CycleView, Carry, Restarts, recovery_bound, spared_cycles, IsClear, IsDisturbed, IsRun, IsOpened, TellsNoFall, IsUndisturbed, BeginsAnew, HasFallen, ReturnsSparse, start_costs, AreSparse, IsSparse, IsBack}
use Rattle.sercos_law_run.proofs.Bounds.FallCycles.{spared_room}
use Rattle.sercos_law_run.proofs.Undisturbed.Arriving.Small.{never_both}
use Rattle.sercos_law_run.proofs.Undisturbed.GoingCycles.{AreAll}
use Rattle.sercos_law_run.proofs.Undisturbed.NeverFalls.{busy_low}
use Rattle.sercos_law_run.proofs.Recovery.InTwo.{greatest_low}
use Rattle.sercos_law_run.proofs.Tolerance.Borne.{calm_or_not, some_drive}
use Rattle.sercos_law_run.proofs.Tolerance.Ends.{ends_at}
use Rattle.sercos_law_run.proofs.Tolerance.Since.{back_since, right_four, tells_since}
use Rattle.sercos_law_run.proofs.Tolerance.Tolerates.{tolerates}

-- A journal cut at a cycle whose record has a fall
record HasCut (r : RingView) (carry : Carry) (restarts : Restarts) (t : CycleView) (cycles rest : List CycleView) : Type 0 where
  newer : List CycleView
  before : List CycleView
  is : cycles ++ rest ≡ newer ++ before
  anew : BeginsAnew before
  sparse : AreSparse r carry restarts (t ∷ newer) before

cut_at_fall : (r : RingView) (carry : Carry) (restarts : Restarts) (t : CycleView) (cycles rest : List CycleView)
    → AreSparse r carry restarts (t ∷ cycles) rest → HasFallen cycles → HasCut r carry restarts t cycles rest
cut_at_fall r carry restarts t [] rest sparse none = absurd none
cut_at_fall r carry restarts t (u ∷ cycles) rest sparse (inl told) = record {
  newer = [];
  before = u ∷ (cycles ++ rest);
  is = refl;
  anew = told;
  sparse = (tt, sparse.1);
}
cut_at_fall r carry restarts t (u ∷ cycles) rest sparse (inr earlier) =
    let x = cut_at_fall r carry restarts u cycles rest sparse.0 earlier in
    record {
      newer = u ∷ x.newer;
      before = x.before;
      is = ap (λ (l : List CycleView). u ∷ l) x.is;
      anew = x.anew;
      sparse = (x.sparse, subst (λ (l : List CycleView). IsSparse r carry restarts t (u ∷ l)) x.is sparse.1);
    }

-- sparse cycles, one by one
each_sparse : (r : RingView) (carry : Carry) (restarts : Restarts) (cycles before : List CycleView)
    → AreSparse r carry restarts cycles before → AreAll (IsSparse r carry restarts) cycles before
each_sparse r carry restarts [] before sparse = tt
each_sparse r carry restarts (t ∷ cycles) before sparse = (each_sparse r carry restarts cycles before sparse.0, sparse.1)

module _ (r : RingView) (jobs : List Job) (carry : Carry) (restarts : Restarts) (opened : IsOpened r jobs) where
  -- all of this has room in the bound
  room : spared_cycles r + 140 + startup_bound r + stop_cycles r ≤ recovery_bound r
  room = spared_room r (some_drive r jobs carry restarts opened) (greatest_low (λ x. x.busy) 20 r.drives (λ k low. busy_low r k opened.valid low))

  -- AFTER A DISTURBED CYCLE
  module _ (lost : CycleView) (before : List CycleView) (disturbed : IsDisturbed r carry restarts lost before) where
    first_calm : (first : CycleView) → IsSparse r carry restarts first (lost ∷ before) → 1 ≤ first.phase
        → IsUndisturbed r carry restarts first (lost ∷ before)
    first_calm first sparse late = elim (calm_or_not r carry restarts first (lost ∷ before)) [
      | inr calm ↦ calm
      | inl too ↦ elim (cases_lt first.phase 3) [
        | inl low ↦ absurd (never_both _ disturbed (sparse.early too late (omega (arith, low))).1)
        | inr high ↦ absurd (never_both _ disturbed (sparse.late too (omega (arith, high))).1)
      ]
    ]

    second_so : (second first : CycleView) → IsSparse r carry restarts second (first ∷ lost ∷ before)
        → IsDisturbed r carry restarts second (first ∷ lost ∷ before) → 1 ≤ second.phase → (3 ≤ second.phase) × (67 ≤ 67)
    second_so second first sparse on late = elim (cases_lt second.phase 3) [
      | inl low ↦ absurd (never_both _ disturbed (sparse.early on late (omega (arith, low))).0.1)
      | inr high ↦ (omega (arith, high), omega arith)
    ]

    module _ (t : CycleView) (cycles : List CycleView) (run : IsRun r jobs carry restarts (t ∷ (cycles ++ lost ∷ before)))
        (clear : IsClear (t ∷ (cycles ++ lost ∷ before))) (sparse : AreSparse r carry restarts (t ∷ cycles) (lost ∷ before))
        (long : length before + recovery_bound r + start_costs r jobs carry restarts cycles (lost ∷ before)
        ≤ length (cycles ++ lost ∷ before)) where
      pub back_again : IsBack r t (cycles ++ lost ∷ before)
      back_again = back_since r jobs carry restarts opened (IsSparse r carry restarts) (λ u j is. is) lost before 67 (omega arith)
          first_calm
          second_so t cycles run clear (each_sparse r carry restarts (t ∷ cycles) (lost ∷ before) sparse) (stop_cycles r)
          (ends_at r jobs carry restarts opened t) (let some_room = room in omega (arith, some_room, long))

      pub tells_again : TellsNoFall t
      tells_again = tells_since r jobs carry restarts opened (IsSparse r carry restarts) (λ u j is. is) lost before 67 (omega arith)
          first_calm second_so t cycles run clear (each_sparse r carry restarts (t ∷ cycles) (lost ∷ before) sparse)
          (let some_room = room in omega (arith, some_room, long))

  -- RECOVERY WHILE SPARSE FAULTS GO ON
  pub returns_sparse : (t : CycleView) (j : List CycleView) → IsRun r jobs carry restarts (t ∷ j) → IsClear (t ∷ j)
      → ReturnsSparse r jobs carry restarts t j
  returns_sparse t j run clear = record {
    once = λ cycles before lost is sparse fallen.
        let x = cut_at_fall r carry restarts t cycles (lost ∷ before) sparse fallen in
        (tolerates r jobs carry restarts t j opened run clear x.newer x.before (is ∙ x.is) x.anew x.sparse).tells;
    back = λ cycles before lost is sparse disturbed long. (now cycles before lost is sparse disturbed long).0;
    rises = λ cycles before lost is sparse disturbed right long. right_four r t j right (now cycles before lost is sparse disturbed long).0;
    tells = λ cycles before lost is sparse disturbed long. (now cycles before lost is sparse disturbed long).1;
  }
    where
      now : (cycles before : List CycleView) (lost : CycleView) → j ≡ cycles ++ lost ∷ before
          → AreSparse r carry restarts (t ∷ cycles) (lost ∷ before) → IsDisturbed r carry restarts lost before
          → length before + recovery_bound r + start_costs r jobs carry restarts cycles (lost ∷ before) ≤ length j
          → IsBack r t j × TellsNoFall t
      now cycles before lost is sparse disturbed long =
          let run_is = subst (λ (l : List CycleView). IsRun r jobs carry restarts (t ∷ l)) is run in
          let clear_is = subst (λ (l : List CycleView). IsClear (t ∷ l)) is clear in
          let same = ap length is in (
            subst (IsBack r t) (sym is) (back_again lost before disturbed t cycles run_is clear_is sparse (omega (arith, same, long))),
            tells_again lost before disturbed t cycles run_is clear_is sparse (omega (arith, same, long)),
          )
