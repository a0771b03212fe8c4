-- Where a stop stands: it comes from phase 2 on, is told in a record, and no later record tells a fall.
use Rattle.sercos_law_run.proofs.Words.{◌≡◌, ◌⊎◌, inl, inr, ℕ, ◌+◌, ◌<◌, ◌≤◌, Bool, true, false, List, [], ◌∷◌, length, Option, Some, None, refl, sym, ap, ◌∙◌, arith, if◌then◌else◌, ◌==◌, is_some, option_or, false≢true, nat_tests, Job, RingView, Begun, begun_by, CycleView, EventsView, Fall, Stop, last_outcome, trouble_by, Known, Task, known_of, member, tasks_for, Call, Past, after_mdt, fall_of, first_trouble, goes_on, is_plan_due, new_epoch, next_phase, past, planned_by, still_waiting, with_due_plan, with_stop, restart_told, past_keeps, Carry, Restarts, looks_back, master_calls, middle, no_events, IsNext, IsRun, AreWaiting, at_start, behind_mdt, StandsAt, cases_Bool, cases_Option}
use Rattle.sercos_law_run.proofs.Views.MasterSame.{begun_cycle, turn_mdt}
use Rattle.sercos_law_run.proofs.Views.ViewRuns.{started}
use Rattle.sercos_law_run.proofs.Undisturbed.PhaseZero.{none_first}
use Rattle.sercos_law_run.proofs.Undisturbed.Stops.StopsTold.{fresh}
use Rattle.sercos_law_run.proofs.Undisturbed.Stops.StopStays.{stop_after, stop_kept}
use Rattle.sercos_law_run.proofs.Undisturbed.Stops.StopOnce.{same_start}
use Rattle.sercos_law_run.proofs.Undisturbed.NoFalls.{no_less}
use Rattle.sercos_law_run.proofs.Agenda.Requests.{are_requests}
use Rattle.sercos_law_run.proofs.Cited.{begins_none}
use Rattle.sercos_law_run.proofs.Undisturbed.ChannelsKept.{phase_now}

-- NO STOP COMES in phases 0 and 1: no request is begun in them.
no_trouble : (address : ℕ) (tasks : List Task) → trouble_by address tasks None ≡ None
no_trouble address [] = refl
no_trouble address (t ∷ tasks) = refl

mdt_none : (s : Known) (p : Past) → p.stop ≡ None → p.now.phase ≤ 1 → ((k : ℕ) → k < length s.drives → begun_by (p.calls k) ≡ []) → (after_mdt s p).stop ≡ None
mdt_none s p none early empty = ap (λ (o : Option Stop). (with_due_plan s (with_stop o p)).stop) first ∙ due (is_plan_due s p) refl
  where
    first : first_trouble s p ≡ None
    first = none_first s p 0 (length s.drives) (λ i low. ap (λ (l : List Begun). trouble_by (member s i).address (p.tasks i) (last_outcome l)) (empty i (omega (arith, low))) ∙ no_trouble (member s i).address (p.tasks i))

    other : (p.now.phase == 2) ≡ false
    other = grind (arith, nat_tests, early)

    never : is_plan_due s p ≡ false
    never = rw other refl

    due : (b : Bool) → is_plan_due s p ≡ b → (if b then planned_by s p else p).stop ≡ None
    due true is = absurd (false≢true (sym never ∙ is))
    due false is = none

pub early_stop : (s : Known) (requests : ℕ → List Task) (h : List Call) → ((j : ℕ) → AreWaiting (requests j)) → (past s requests h).now.phase ≤ 1 → (past s requests h).stop ≡ None
early_stop s requests h wait = past_keeps (λ p. p.now.phase ≤ 1 → p.stop ≡ None) s requests (record {
  first = λ low. refl;
  mst = λ h whole before. before;
  taken = λ h k content there is before. before;
  mdt = λ h before low.
      let same = (turn_mdt s (past s requests h)).phase_is in
      let low_then : (past s requests h).now.phase ≤ 1 = omega (arith, low, same) in
      mdt_none s (past s requests h) (before low_then) low_then (λ k below. begins_none s requests h k wait below low_then);
  on = λ h done is before low. let least = no_less done (past s requests h).now.phase in before (omega (arith, low, least));
  new = λ h cycle before low. refl;
}) h

module _ (r : RingView) (jobs : List Job) (carry : Carry) (restarts : Restarts) where
  pub early_in : (h : List Call) → (looks_back r jobs h).now.phase ≤ 1 → (looks_back r jobs h).stop ≡ None
  early_in h low = early_stop (known_of r) (tasks_for (known_of r) jobs) h (λ k. (are_requests (known_of r) jobs k).0) low

  some_late : (h : List Call) (x : Stop) → (looks_back r jobs h).stop ≡ Some x → (looks_back r jobs h).now.phase ≤ 1 → ⊥
  some_late h x is low = let none = early_in h low in let both : None ≡ Some x = sym none ∙ is in absurd (cc)

  -- in a cycle in which the master restarts there is none
  goes_on_with : (t : CycleView) (j : List CycleView) (x : Stop) → IsNext r jobs carry restarts t j → (behind_mdt r jobs carry restarts t.sent j).stop ≡ Some x → restarts (length j) 0 ≡ false
  goes_on_with t j x next is = elim (cases_Bool (restarts (length j) 0)) [
    | inl on ↦
        let start : (at_start r jobs carry restarts j).now.phase ≡ 0 = ap (λ (p : Past). p.now.phase) (started r jobs (restarts (length j) 0) (master_calls r carry restarts j))
        ∙ ap (λ (b : Bool). (begun_cycle b (looks_back r jobs (master_calls r carry restarts j))).now.phase) on in
        let same : (behind_mdt r jobs carry restarts t.sent j).now.phase ≡ (at_start r jobs carry restarts j).now.phase = phase_now r jobs
        carry restarts t j next ∙ next.phase in absurd (some_late (middle r carry restarts t.sent j) x is (omega (arith, start, same)))
    | inr off ↦ off
  ]

  -- a cycle at whose end the ring doesn't fall, and in which the master doesn't restart, tells no fall
  pub tells_none : (t : CycleView) (j : List CycleView) → IsNext r jobs carry restarts t j → fall_of (known_of r) (behind_mdt r jobs carry restarts t.sent j) ≡ None → restarts (length j) 0 ≡ false → t.events.fall ≡ None
  tells_none t j next stays on =
      ap (λ (e : EventsView). e.fall) next.events
      ∙ ap (λ (o : Option Fall). option_or o (if restarts (length j) 0 then restart_told (known_of r) (looks_back r jobs (master_calls r carry restarts j)) no_events else no_events).fall) stays
      ∙ ap (λ (b : Bool). (if b then restart_told (known_of r) (looks_back r jobs (master_calls r carry restarts j)) no_events else no_events).fall) on

  first_none : (at_start r jobs carry restarts []).stop ≡ None
  first_none = ap (λ (p : Past). p.stop) (started r jobs (restarts 0 0) []) ∙ by (restarts 0 0)
    where
      by : (b : Bool) → (begun_cycle b (looks_back r jobs [])).stop ≡ None
      by true = refl
      by false = refl

  -- a stop that was there at the end of a cycle was there after its MDT's place, and the ring didn't fall
  stood_before : (u : CycleView) (j : List CycleView) (x : Stop) → (looks_back r jobs (master_calls r carry restarts (u ∷ j))).stop ≡ Some x
      → (fall_of (known_of r) (behind_mdt r jobs carry restarts u.sent j) ≡ None) × ((behind_mdt r jobs carry restarts u.sent j).stop ≡ Some x)
  stood_before u j x is = elim (cases_Option (fall_of (known_of r) (behind_mdt r jobs carry restarts u.sent j))) [
    | inl none ↦ (none, sym (stop_after r jobs carry restarts u j none) ∙ is)
    | inr (f, falls) ↦
        let none : (looks_back r jobs (master_calls r carry restarts (u ∷ j))).stop ≡ None =
        ap (λ (o : Option Fall). (if is_some o then new_epoch ((behind_mdt r jobs carry restarts u.sent j).cycle + 1) (still_waiting (behind_mdt r jobs carry restarts u.sent j))
        else goes_on (next_phase (known_of r) (behind_mdt r jobs carry restarts u.sent j)) (behind_mdt r jobs carry restarts u.sent j)).stop) falls in
        let both : None ≡ Some x = sym none ∙ is in absurd (cc)
  ]

  -- THE MASTER STANDS AT THE STOP that there is after the MDT's place.
  pub stands_at : (t : CycleView) (j : List CycleView) (x : Stop) → IsRun r jobs carry restarts (t ∷ j) → fall_of (known_of r) (behind_mdt r jobs carry restarts t.sent j) ≡ None → (behind_mdt r jobs carry restarts t.sent j).stop ≡ Some x
      → StandsAt x (t ∷ j)
  stands_at t [] x run stays is = (tells_none t [] run.1 stays (goes_on_with t [] x run.1 is), inl (fresh r jobs carry restarts t [] x run.1 first_none is))
  stands_at t (u ∷ j) x run stays is = (
    tells_none t (u ∷ j) run.1 stays (goes_on_with t (u ∷ j) x run.1 is),
    by (at_start r jobs carry restarts (u ∷ j)).stop refl
        (λ none there. stands_at u j x run.0 none there),
  )
    where
      same : at_start r jobs carry restarts (u ∷ j) ≡ looks_back r jobs (master_calls r carry restarts (u ∷ j))
      same = same_start r jobs carry restarts (u ∷ j) (goes_on_with t (u ∷ j) x run.1 is)

      by : (o : Option Stop) → (at_start r jobs carry restarts (u ∷ j)).stop ≡ o
          → (fall_of (known_of r) (behind_mdt r jobs carry restarts u.sent j) ≡ None → (behind_mdt r jobs carry restarts u.sent j).stop ≡ Some x → StandsAt x (u ∷ j)) → (t.events.stop ≡ Some x) ⊎ StandsAt x (u ∷ j)
      by None none before = inl (fresh r jobs carry restarts t (u ∷ j) x run.1 none is)
      by (Some y) had before =
          let there : (looks_back r jobs (master_calls r carry restarts (u ∷ j))).stop ≡ Some y = sym (ap (λ (p : Past). p.stop) same) ∙ had in
          let stood = stood_before u j x (sym (stop_kept r jobs carry restarts t (u ∷ j) same (ap (λ (o : Option Stop). is_some o) there)) ∙ is) in
          inr (before stood.0 stood.1)
