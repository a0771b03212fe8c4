-- Each stop has its cause, in every run in which nothing was unseen; a ring that is right has none.
use Rattle.sercos_law_run.proofs.Words.{◌≡◌, ◌⊎◌, inl, inr, ◌≤◌, List, ◌∷◌, Some, None, sym, ap, ◌∙◌, arith, cases_eq, cases_lt, false≢true, none-some, ℕ, Idn, Job, RingView, CycleView, Stop, MemberView, known_of, tasks_for, Carry, Restarts, drive_at, IsRun, IsClear, behind_mdt, begins, middle, IsOpened, StopsForTheCycleTime, StopsForThePlan, IsRight, StopsForTheCheck, StopsForCause}
use Rattle.sercos_trace.specs.declared.events.Stop.TheVariants as stop
use Rattle.sercos_law_run.proofs.Views.Members.{member_is}
use Rattle.sercos_law_run.proofs.Typed.Mdts.{phase_low}
use Rattle.sercos_law_run.proofs.Recovery.EarlyStops.{early_in}
use Rattle.sercos_law_run.proofs.Undisturbed.Cited.{fits_in_three, never_stops_in_four, own_fits_in_four, stops_in_three, stops_in_two}
use Rattle.sercos_law_run.proofs.Undisturbed.ChannelsKept.{phase_now}

-- A RING THAT IS RIGHT has no cause for a stop.
pub never_right : (r : RingView) (x : Stop) → StopsForCause r x → IsRight r → ⊥
never_right r x (inl plan) right = plan.none right.0.plan right.0.fits
never_right r x (inr (inl time)) right = elim time.refuses.outside [
  | inl low ↦ (let less = low.0 in let least = right.0.low time.refuses.place time.refuses.there in omega (arith, less, least))
  | inr high ↦ (let more = high.0 in let most = right.0.high time.refuses.place time.refuses.there in omega (arith, more, most))
]
never_right r x (inr (inr check)) right = false≢true (sym (right.1 check.place check.there) ∙ check.outside)

module _ (r : RingView) (jobs : List Job) (carry : Carry) (restarts : Restarts) where
  -- the cause of a stop, with the check that has ended badly
  abbrev pub IsCause : CycleView → List CycleView → Stop → Type 0
  IsCause t j x = StopsForThePlan r x ⊎ (StopsForTheCycleTime r x ⊎ StopsForTheCheck r (behind_mdt r jobs carry restarts t.sent j) x)

  -- how a start-up ends: in phase 4, or at a stop for its cause
  abbrev pub IsAtEnd : CycleView → List CycleView → Type 0
  IsAtEnd t j = ((t.phase ≡ 4) × ((behind_mdt r jobs carry restarts t.sent j).stop ≡ None) × IsRight r)
      ⊎ ((x : Stop) × ((behind_mdt r jobs carry restarts t.sent j).stop ≡ Some x) × IsCause t j x)

  -- the cause by the ring alone
  pub caused : (t : CycleView) (j : List CycleView) (x : Stop) → IsCause t j x → StopsForCause r x
  caused t j x (inl plan) = inl plan
  caused t j x (inr (inl time)) = inr (inl time)
  caused t j x (inr (inr check)) = inr (inr (record {
    place = check.failed.place;
    there = check.there;
    is = check.is
        ∙ ap (λ (n : ℕ). stop.Check128 n (record { items = check.list })) (sym check.failed.address_is ∙ ap (λ (m : MemberView). m.address) (member_is r check.failed.place))
        ∙ ap (λ (l : List Idn). stop.Check128 (drive_at r check.failed.place).address (record { items = l })) check.lists;
    outside = check.outside;
    fits = check.fits;
  }))

  module _ (opened : IsOpened r jobs) (t : CycleView) (j : List CycleView) (run : IsRun r jobs carry restarts (t ∷ j))
      (clear : IsClear (t ∷ j)) where
    -- no phase above 4 is commanded
    pub phase_most : t.phase ≤ 4
    phase_most = let most = phase_low (known_of r) (tasks_for (known_of r) jobs) (begins r carry restarts j) in let same = run.1.phase in omega (arith, most, same)

    -- phase 4 says that the ring is right
    pub right_in : t.phase ≡ 4 → IsRight r
    right_in four = (fits_in_three r jobs carry restarts t j opened run clear (omega (arith, four)), λ k below. own_fits_in_four r jobs carry restarts t j k opened run clear below four)

    -- EACH STOP HAS ITS CAUSE: before phase 2 there is none, nor in phase 4.
    pub cause : (x : Stop) → (behind_mdt r jobs carry restarts t.sent j).stop ≡ Some x → IsCause t j x
    cause x is = elim (cases_lt t.phase 2) [
      | inl early ↦ absurd (none-some x (sym (early_in r jobs carry restarts (middle r carry restarts t.sent j)
          (let same = phase_now r jobs carry restarts t j run.1 in omega (arith, same, early))) ∙ is))
      | inr late ↦ elim (cases_eq t.phase 2) [
        | inl two ↦ elim (stops_in_two r jobs carry restarts t j x opened run clear two is) [ inl plan ↦ inl plan | inr time ↦ inr (inl time) ]
        | inr not_two ↦ elim (cases_eq t.phase 3) [
          | inl three ↦ inr (inr (stops_in_three r jobs carry restarts t j x opened run clear three is))
          | inr not_three ↦ absurd (none-some x (sym (never_stops_in_four r jobs carry restarts t j opened run clear
              (let most = phase_most in omega (arith, late, most, not_two, not_three))) ∙ is))
        ]
      ]
    ]
