-- As long as the ring doesn't fall, each stop of an epoch is told in a record of it; and if no master restarts, one is told at most.
use Rattle.sercos_law_run.proofs.Words.{◌≡◌, ◌⊎◌, inl, inr, Bool, true, List, [], ◌∷◌, ◌++◌, length, Option, Some, None, sym, ap, ◌∙◌, if◌then◌else◌, none-some, is_some, option_or, Job, RingView, CycleView, EventsView, Stop, known_of, Past, restart_told, Carry, Restarts, no_events, behind_ats, behind_mdt, begins, IsRun, ats_in, looks_back, master_calls, mst_in, own_mst, NoneFalls, StartsEpoch, HasTold}
use Rattle.sercos_law_run.proofs.Headline.WellRuns.{event_stop}
use Rattle.sercos_law_run.proofs.Undisturbed.PhaseZero.{in_zero}
use Rattle.sercos_law_run.proofs.Undisturbed.Stops.StopOnce.{at_stops, mdt_stops, none_new, same_start}
use Rattle.sercos_law_run.proofs.Undisturbed.Stops.StopsTold.{ats_kept, stop_at}
use Rattle.sercos_law_run.proofs.Undisturbed.Stops.StopStays.{ats_same, stop_after, stop_kept}
use Rattle.sercos_law_run.proofs.Recovery.DownSince.{NeverRestarts}

module _ (r : RingView) (jobs : List Job) (carry : Carry) (restarts : Restarts) where
  module _ (before : List CycleView) (starts : StartsEpoch r jobs carry restarts before) where
    told_before : (cycles : List CycleView) (x : Stop) → IsRun r jobs carry restarts (cycles ++ before)
        → NoneFalls r jobs carry restarts cycles before
        → (looks_back r jobs (master_calls r carry restarts (cycles ++ before))).stop ≡ Some x → HasTold x cycles
    told_before [] x run stays is = none-some x (sym (in_zero r jobs carry restarts before starts).stop ∙ is)
    told_before (t ∷ cycles) x run stays is = stop_at r jobs carry restarts t (cycles ++ before) x (HasTold x cycles) run.1
        (told_before cycles x run.0 stays.0) (sym (stop_after r jobs carry restarts t (cycles ++ before) stays.1) ∙ is)

    -- THE STOP after the MDT's place was told in this epoch.
    pub told_since : (t : CycleView) (cycles : List CycleView) (x : Stop) → IsRun r jobs carry restarts (t ∷ (cycles ++ before))
        → NoneFalls r jobs carry restarts cycles before → (behind_mdt r jobs carry restarts t.sent (cycles ++ before)).stop ≡ Some x
        → HasTold x (t ∷ cycles)
    told_since t cycles x run stays is =
        stop_at r jobs carry restarts t (cycles ++ before) x (HasTold x cycles) run.1 (told_before cycles x run.0 stays) is

  -- WHAT WAS TOLD stands.
  stands : (cycles before : List CycleView) (x : Stop) → IsRun r jobs carry restarts (cycles ++ before)
      → NeverRestarts restarts cycles before → NoneFalls r jobs carry restarts cycles before → HasTold x cycles
      → is_some (looks_back r jobs (master_calls r carry restarts (cycles ++ before))).stop ≡ true
  stands [] before x run on stays told = absurd told
  stands (t ∷ cycles) before x run on stays told =
      ap (λ (o : Option Stop). is_some o) (stop_after r jobs carry restarts t (cycles ++ before) stays.1) ∙ by told (stands cycles before x run.0 on.0 stays.0)
    where
      by : (t.events.stop ≡ Some x) ⊎ HasTold x cycles → (HasTold x cycles → is_some (looks_back r jobs (master_calls r carry restarts (cycles ++ before))).stop ≡ true)
          → is_some (behind_mdt r jobs carry restarts t.sent (cycles ++ before)).stop ≡ true
      by (inl here) rest = ap (λ (o : Option Stop). is_some o) (event_stop r jobs carry restarts t (cycles ++ before) x run.1 here)
      by (inr there) rest = let some = rest there in
          ap (λ (o : Option Stop). is_some o) (stop_kept r jobs carry restarts t (cycles ++ before) (same_start r jobs carry restarts (cycles ++ before) on.1) some) ∙ some

  -- SO NONE IS TOLD AFTER IT.
  pub once_since : (t : CycleView) (cycles before : List CycleView) (x y : Stop) → IsRun r jobs carry restarts (t ∷ (cycles ++ before))
      → NeverRestarts restarts (t ∷ cycles) before → NoneFalls r jobs carry restarts cycles before → HasTold x cycles
      → t.events.stop ≡ Some y → ⊥
  once_since t cycles before x y run on stays told more =
      let same = same_start r jobs carry restarts (cycles ++ before) on.1 in
      let says =
      ap (λ (b : Bool). if b then (behind_mdt r jobs carry restarts t.sent (cycles ++ before)).stop else None)
      (mdt_stops (known_of r) (behind_ats r jobs carry restarts t.sent (cycles ++ before))
      (ap (λ (o : Option Stop). is_some o) (ats_kept r jobs carry restarts t (cycles ++ before) ∙ ap (λ (p : Past). p.stop) same)
      ∙ stands cycles before x run.0 on.0 stays told)
      ∙ ats_same (λ (p : Past). p.now.stops) at_stops r jobs carry (length (cycles ++ before)) (ats_in t.sent)
      (own_mst carry (length (cycles ++ before)) (mst_in t.sent) (begins r carry restarts (cycles ++ before)))
      ∙ ap (λ (p : Past). p.now.stops) same ∙ none_new r jobs carry restarts (cycles ++ before)) in
      let none : t.events.stop ≡ None =
      ap (λ (e : EventsView). e.stop) run.1.events
      ∙ ap (λ (o : Option Stop). option_or o (if restarts (length (cycles ++ before)) 0 then restart_told (known_of r)
      (looks_back r jobs (master_calls r carry restarts (cycles ++ before))) no_events else no_events).stop) says
      ∙ ap (λ (b : Bool). (if b then restart_told (known_of r) (looks_back r jobs (master_calls r carry restarts (cycles ++ before)))
      no_events else no_events).stop) on.1 in
      none-some y (sym none ∙ more)
