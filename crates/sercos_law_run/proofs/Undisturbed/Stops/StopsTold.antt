-- Each stop was told in the record of a cycle of the run, so it is there for its cause.
use Rattle.sercos_law_run.proofs.Words.{◌≡◌, ◌⊎◌, inl, inr, ◌+◌, Bool, true, List, [], ◌∷◌, length, Option, Some, None, refl, sym, ap, ◌∙◌, subst, if◌then◌else◌, is_some, option_or, false≢true, none-some, Job, RingView, CycleView, EventsView, Fall, Stop, Known, known_of, Past, fall_of, is_done, still_waiting, new_epoch, goes_on, after_end, restart_told, settled_keeps, Carry, Restarts, mst_in, ats_in, own_mst, begins, master_calls, looks_back, no_events, IsNext, IsRun, IsClear, at_start, behind_ats, behind_mdt, IsOpened, StopsRight, HasTold, cases_Option, cases_Bool}
use Rattle.sercos_law_run.proofs.Views.ViewRuns.{started}
use Rattle.sercos_law_run.proofs.Headline.HeadlineRuns.{keeps_all}
use Rattle.sercos_law_run.proofs.Undisturbed.Stops.StopStays.{ats_stop, mdt_stop, stop_after}

-- A STOP THAT COMES is told.
abbrev IsTold : Past → Type 0
IsTold p = is_some p.stop ≡ true → p.now.stops ≡ true

-- a ring that falls has no stop
fallen_stop : (s : Known) (p : Past) (f : Fall) → fall_of s p ≡ Some f → (after_end s p).stop ≡ None
fallen_stop s p f falls = ap (λ (o : Option Fall). (if is_some o then new_epoch (p.cycle + 1) (still_waiting p) else goes_on (if is_done s p then p.now.phase + 1 else p.now.phase) p).stop) falls

module _ (r : RingView) (jobs : List Job) (carry : Carry) (restarts : Restarts) where
  pub ats_kept : (t : CycleView) (j : List CycleView) → (behind_ats r jobs carry restarts t.sent j).stop ≡ (at_start r jobs carry restarts j).stop
  ats_kept t j = ats_stop r jobs carry (length j) (ats_in t.sent) (own_mst carry (length j) (mst_in t.sent) (begins r carry restarts j))

  begun_stop : (j : List CycleView) (x : Stop) → (at_start r jobs carry restarts j).stop ≡ Some x → (looks_back r jobs (master_calls r carry restarts j)).stop ≡ Some x
  begun_stop j x is =
      let begun = subst (λ (p : Past). p.stop ≡ Some x) (started r jobs (restarts (length j) 0) (master_calls r carry restarts j)) is in
      elim (cases_Bool (restarts (length j) 0)) [ inl on ↦ absurd (none-some x (rw on at begun)) | inr off ↦ rw off at begun ]

  -- a stop of this cycle
  pub fresh : (t : CycleView) (j : List CycleView) (x : Stop) → IsNext r jobs carry restarts t j → (at_start r jobs carry restarts j).stop ≡ None → (behind_mdt r jobs carry restarts t.sent j).stop ≡ Some x → t.events.stop ≡ Some x
  fresh t j x next none is =
      let stops = settled_keeps IsTold (known_of r) (behind_ats r jobs carry restarts t.sent j)
      (λ rests some. absurd (false≢true (sym (ap (λ (o : Option Stop). is_some o) (ats_kept t j ∙ none)) ∙ some)))
      (λ x free brings some. refl)
      (λ plan makes some. absurd (false≢true (sym (ap (λ (o : Option Stop). is_some o) (ats_kept t j ∙ none)) ∙ some)))
      (ap (λ (o : Option Stop). is_some o) is) in
      let says = ap (λ (b : Bool). if b then (behind_mdt r jobs carry restarts t.sent j).stop else None) stops ∙ is in
      ap (λ (e : EventsView). e.stop) next.events
      ∙ ap (λ (o : Option Stop). option_or o (if restarts (length j) 0 then restart_told (known_of r) (looks_back r jobs (master_calls r carry restarts j)) no_events else no_events).stop) says

  -- a stop that was there before, or one of this cycle
  pub stop_at : (t : CycleView) (j : List CycleView) (x : Stop) (Before : Type 0) → IsNext r jobs carry restarts t j
      → ((looks_back r jobs (master_calls r carry restarts j)).stop ≡ Some x → Before)
      → (behind_mdt r jobs carry restarts t.sent j).stop ≡ Some x → (t.events.stop ≡ Some x) ⊎ Before
  stop_at t j x Before next before is = elim (cases_Option (at_start r jobs carry restarts j).stop) [
    | inl none ↦ inl (fresh t j x next none is)
    | inr (y, had) ↦
        let there : is_some (behind_ats r jobs carry restarts t.sent j).stop ≡ true = ap (λ (o : Option Stop). is_some o) (ats_kept t j ∙ had) in
        inr (before (begun_stop j x (sym (ats_kept t j) ∙ sym (mdt_stop (known_of r) (behind_ats r jobs carry restarts t.sent j) there) ∙ is)))
  ]

  at_end : (j : List CycleView) (x : Stop) → IsRun r jobs carry restarts j → (looks_back r jobs (master_calls r carry restarts j)).stop ≡ Some x → HasTold x j
  at_end [] x run is = none-some x is
  at_end (t ∷ j) x run is = elim (cases_Option (fall_of (known_of r) (behind_mdt r jobs carry restarts t.sent j))) [
    | inl stays ↦ stop_at t j x (HasTold x j) run.1 (at_end j x run.0) (sym (stop_after r jobs carry restarts t j stays) ∙ is)
    | inr (f, falls) ↦ absurd (none-some x (sym (fallen_stop (known_of r) (behind_mdt r jobs carry restarts t.sent j) f falls) ∙ is))
  ]

  -- THE STOP after the MDT's place was told.
  pub stop_told_in : (t : CycleView) (j : List CycleView) (x : Stop) → IsRun r jobs carry restarts (t ∷ j) → (behind_mdt r jobs carry restarts t.sent j).stop ≡ Some x → HasTold x (t ∷ j)
  stop_told_in t j x run is = stop_at t j x (HasTold x j) run.1 (at_end j x run.0) is

-- What is told is right.
told_right : (r : RingView) (jobs : List Job) (carry : Carry) (restarts : Restarts) → IsOpened r jobs → (j : List CycleView) (x : Stop) → IsRun r jobs carry restarts j → IsClear j → HasTold x j → StopsRight r (Some x)
told_right r jobs carry restarts opened [] x run clear told = absurd told
told_right r jobs carry restarts opened (t ∷ j) x run clear told = elim told [
  | inl here ↦ subst (StopsRight r) here (keeps_all r jobs carry restarts opened t j run clear).stops
  | inr there ↦ told_right r jobs carry restarts opened j x run.0 clear.0 there
]

pub stops_right : (r : RingView) (jobs : List Job) (carry : Carry) (restarts : Restarts) → IsOpened r jobs
    → (t : CycleView) (j : List CycleView) (x : Stop) → IsRun r jobs carry restarts (t ∷ j) → IsClear (t ∷ j)
    → (behind_mdt r jobs carry restarts t.sent j).stop ≡ Some x → StopsRight r (Some x)
stops_right r jobs carry restarts opened t j x run clear is = told_right r jobs carry restarts opened (t ∷ j) x run clear (stop_told_in r jobs carry restarts t j x run is)
