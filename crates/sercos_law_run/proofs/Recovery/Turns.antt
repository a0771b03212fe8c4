-- In phase 2 a step is open to the drive whose turn it is, and to no other.
use Rattle.sercos_law_run.proofs.Words.{◌≡◌, ℕ, ◌<◌, true, false, List, ◌∷◌, length, Some, sym, ap, ◌∙◌, arith, is_none, is_some, Job, RingView, Begun, open_in, CycleView, known_of, member, tasks_for, in_turn, is_idle, tasks_wait, none_of_some, Carry, Restarts, begun_in, ats_in, mst_in, at_calls, begin_calls, master_calls, middle, own_mst, IsClear, IsRun, behind_mdt, view_of, views_of, IsOpened, GoesOnInTwo}
use Rattle.sercos_law_run.proofs.Views.Members.{members_count}
use Rattle.sercos_law_run.proofs.Held.Runs.{s_known}
use Rattle.sercos_law_run.proofs.Headline.HeadlineRuns.{first_store, keeps_all}
use Rattle.sercos_law_run.proofs.Undisturbed.Sections.{some_open}
use Rattle.sercos_law_run.proofs.Agenda.Requests.{are_requests}
use Rattle.sercos_law_run.proofs.Cited.{work_in_turn, work_in_two}
use Rattle.sercos_law_run.proofs.Undisturbed.ChannelsKept.{phase_now}

module _ (r : RingView) (jobs : List Job) (carry : Carry) (restarts : Restarts) (opened : IsOpened r jobs) where
  -- what is open is the turn's
  pub opens_in_turn : (t : CycleView) (j : List CycleView) → IsRun r jobs carry restarts (t ∷ j) → IsClear (t ∷ j) → t.phase ≡ 2 → (k : ℕ) → k < length r.drives
      → is_some (open_in (begun_in (view_of r jobs carry restarts k t j) (views_of r jobs carry restarts k j))) ≡ true → in_turn (known_of r) (behind_mdt r jobs carry restarts t.sent j) ≡ Some k
  opens_in_turn t j run clear two k below opens =
      let count = members_count r in
      work_in_turn (known_of r) (tasks_for (known_of r) jobs) (middle r carry restarts t.sent j) k (λ q. tasks_wait (member (known_of r) q).address 1 jobs) (omega (arith, below, count)) (phase_now r jobs carry restarts t j run.1 ∙ two)
      (ap (λ (l : List Begun). is_none (open_in l)) (sym ((keeps_all r jobs carry restarts opened t j run clear).exact k below).begun_now) ∙ none_of_some (open_in (begun_in (view_of r jobs carry restarts k t j) (views_of r jobs carry restarts k j))) opens)

  -- and some drive has it
  pub works_in_turn : (t : CycleView) (j : List CycleView) → IsRun r jobs carry restarts (t ∷ j) → IsClear (t ∷ j) → GoesOnInTwo r (behind_mdt r jobs carry restarts t.sent j)
      → (k : ℕ) × (k < length r.drives) × (in_turn (known_of r) (behind_mdt r jobs carry restarts t.sent j) ≡ Some k) × (is_some (open_in (begun_in (view_of r jobs carry restarts k t j) (views_of r jobs carry restarts k j))) ≡ true)
  works_in_turn t j run clear goes = (at_work.0, low, opens_in_turn t j run clear (sym (phase_now r jobs carry restarts t j run.1) ∙ goes.phase) at_work.0 low is_open, is_open)
    where
      at_work : (k : ℕ) × (k < length (known_of r).drives) × (is_idle (behind_mdt r jobs carry restarts t.sent j) k ≡ false)
      at_work = work_in_two (known_of r) (tasks_for (known_of r) jobs) (at_calls r carry (length j) (ats_in t.sent) (own_mst carry (length j) (mst_in t.sent) (begin_calls restarts (length j) (master_calls r carry restarts j))))
          (λ k. (are_requests (known_of r) jobs k).0) (s_known r jobs carry restarts opened (first_store r jobs carry restarts opened)).lists goes.phase goes.goes_on goes.planned goes.unchecked

      low : at_work.0 < length r.drives
      low = let count = members_count r in let inside = at_work.1 in omega (arith, count, inside)

      is_open : is_some (open_in (begun_in (view_of r jobs carry restarts at_work.0 t j) (views_of r jobs carry restarts at_work.0 j))) ≡ true
      is_open = some_open _ (ap (λ (l : List Begun). is_none (open_in l)) ((keeps_all r jobs carry restarts opened t j run clear).exact at_work.0 low).begun_now ∙ at_work.2)
