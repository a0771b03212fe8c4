-- After a fall, if no later cycle is disturbed.
use Rattle.sercos_law_run.proofs.Words.{◌≡◌, ◌⊎◌, inl, inr, Bool, true, false, List, ◌∷◌, ◌++◌, length, Option, Some, None, refl, sym, ap, ◌∙◌, subst, if◌then◌else◌, is_some, option_or, Job, RingView, CycleView, EventsView, Fall, known_of, fall_of, restart_told, Carry, Restarts, looks_back, master_calls, no_events, IsClear, IsNext, IsRun, behind_mdt, IsOpened, StartsEpoch, NoneFalls, AreUndisturbed, AfterFall, StartsAgain}
use Rattle.sercos_law_run.proofs.Undisturbed.Answered.{ages_undisturbed, answers_undisturbed, tells_no_fall}
use Rattle.sercos_law_run.proofs.Undisturbed.InTime.{stays_at_end}
use Rattle.sercos_law_run.proofs.Undisturbed.NeverFalls.{never_falls}
use Rattle.sercos_law_run.proofs.Undisturbed.PhaseZero.{starts_at_fall, starts_at_restart}
use Rattle.sercos_law_run.proofs.Undisturbed.ToldInTime.{reports_in_time}
use Rattle.sercos_law_run.proofs.Recovery.DownSince.{calm_quiet}
use Rattle.sercos_law_run.proofs.Recovery.EpochStops.{once_since, told_since}
use Rattle.sercos_law_run.proofs.Recovery.CausedStops.{caused, right_in}
use Rattle.sercos_law_run.proofs.Recovery.Stretches.{rest_runs}
use Rattle.sercos_law_run.proofs.Tolerance.Calm.{ends_start_up, rises_if_right}
use Rattle.sercos_law_run.proofs.Undisturbed.Cited.{fits_in_three}

-- a fall that is told is one of the ring, or a restart
fell_so : (o : Option Fall) (b : Bool) (e f : EventsView) (x : Fall) → f.fall ≡ None → option_or o (if b then e else f).fall ≡ Some x → (is_some o ≡ true) ⊎ (b ≡ true)
fell_so (Some y) b e f x quiet told = inl refl
fell_so None true e f x quiet told = inr refl
fell_so None false e f x quiet told = let same : None ≡ Some x = sym quiet ∙ told in absurd (cc)

module _ (r : RingView) (jobs : List Job) (carry : Carry) (restarts : Restarts) where
  -- then an epoch begins
  pub epoch_begins : (f : CycleView) (before : List CycleView) (x : Fall) → IsNext r jobs carry restarts f before → f.events.fall ≡ Some x → StartsEpoch r jobs carry restarts (f ∷ before)
  epoch_begins f before x next told = elim (fell_so (fall_of (known_of r) (behind_mdt r jobs carry restarts f.sent before)) (restarts (length before) 0) (restart_told (known_of r) (looks_back r jobs (master_calls r carry restarts before)) no_events)
      no_events x refl (sym (ap (λ (e : EventsView). e.fall) next.events) ∙ told)) [
        | inl falls ↦ (starts_at_fall r jobs carry restarts f before falls).0
        | inr restarted ↦ (starts_at_restart r jobs carry restarts f before restarted).0
      ]

module _ (r : RingView) (jobs : List Job) (carry : Carry) (restarts : Restarts) (opened : IsOpened r jobs) where
  -- AN EPOCH in which nothing is disturbed, from phase 0 on
  pub starts_again : (t : CycleView) (cycles before : List CycleView) → IsRun r jobs carry restarts (t ∷ (cycles ++ before)) → IsClear (t ∷ (cycles ++ before)) → StartsEpoch r jobs carry restarts before
      → AreUndisturbed r carry restarts (t ∷ cycles) before → StartsAgain r jobs carry restarts t cycles before
  starts_again t cycles before run clear starts calm = record {
    tells = tells_no_fall r jobs carry restarts opened t cycles before run clear starts calm;
    rises = rises_if_right r jobs carry restarts t cycles before opened run clear starts calm;
    right = right_in r jobs carry restarts opened t (cycles ++ before) run clear;
    fit = λ late. fits_in_three r jobs carry restarts t (cycles ++ before) opened run clear late;
    stays = λ u older is four. (stays_at_end r jobs carry restarts opened t u older before (subst (λ (l : List CycleView). IsRun r jobs carry restarts (t ∷ (l ++ before))) is run) (subst (λ (l : List CycleView). IsClear (t ∷ (l ++ before))) is clear) starts
        (subst (λ (l : List CycleView). AreUndisturbed r carry restarts (t ∷ l) before) is calm)).0 four;
    ends = λ late. elim (ends_start_up r jobs carry restarts t cycles before opened run clear starts calm late) [
      | inl (four, none, right) ↦ inl (four, right)
      | inr (x, is, cause) ↦ inr (x, told_since r jobs carry restarts before starts t cycles x run stays is, caused r jobs carry restarts t (cycles ++ before) x cause)
    ];
    once = λ x y told more. once_since r jobs carry restarts t cycles before x y run (calm_quiet r carry restarts (t ∷ cycles) before calm) stays told more;
    ages = ages_undisturbed r jobs carry restarts opened (t ∷ cycles) before run clear starts calm;
    answers = answers_undisturbed r jobs carry restarts opened t cycles before run clear starts calm;
    reports = reports_in_time r jobs carry restarts opened t cycles before run clear starts calm;
  }
    where
      stays : NoneFalls r jobs carry restarts cycles before
      stays = (never_falls r jobs carry restarts opened cycles before run.0 clear.0 starts calm.0).stays

pub after_fall : AfterFall
after_fall r jobs carry restarts t f cycles before x opened run clear calm told =
    starts_again r jobs carry restarts opened t cycles (f ∷ before) run clear
    (epoch_begins r jobs carry restarts f before x (rest_runs r jobs carry restarts (t ∷ cycles) (f ∷ before) run).1 told) calm
