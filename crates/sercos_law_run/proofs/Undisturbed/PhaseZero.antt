-- While phase 0 is commanded, at most nine MSTs in a row came back, no drive is identified, nothing was begun, and there is no stop.
use Rattle.sercos_law_run.proofs.Words.{◌≡◌, ℕ, zero, suc, ◌+◌, ◌<◌, ◌≤◌, ◌||◌, Bool, true, false, ◌&&◌, List, [], ◌∷◌, length, Option, None, refl, sym, ◌∙◌, ap, subst, arith, if◌then◌else◌, ◌==◌, nat_le, is_none, is_some, false≢true, nat_tests, Job, RingView, CycleView, Stop, is_place, last_outcome, of_phase, trouble_by, Known, Task, known_of, member, begun_by, Past, Turn, Restart, first_trouble, first_trouble_from, trouble, with_stop, with_due_plan, planned_by, all_read, settled, in_turn, is_idle, next_task, with_task, addressed_before, has_identified, whole_row, is_done, is_done_in, next_phase, goes_on, new_epoch, still_waiting, fall_of, after_mdt, Carry, Restarts, mst_in, ats_in, own_mst, master_calls, looks_back, at_start, behind_ats, behind_mdt, StartsEpoch, came_back, StartsAtFall, StartsAtOpening, StartsAtRestart, inl, inr, cases_Bool}
use Rattle.sercos_master.specs.Annals.{begins}
use Rattle.sercos_law_run.specs.Journal.Runs.{begins as begins_cycle}
use Rattle.sercos_law_run.proofs.Views.MasterSame.{turn_mdt}
use Rattle.sercos_law_run.proofs.Undisturbed.Arriving.AfterAt.{after_at_so}
use Rattle.sercos_law_run.proofs.Undisturbed.ChannelsKept.{ats_leave}
use Rattle.sercos_law_run.proofs.Undisturbed.PhaseCounts.{Waits, none_identified}
use Rattle.sercos_law_run.proofs.Undisturbed.Stops.StopStays.{ats_same, ats_stop}

pub record IsInZero (p : Past) : Type 0 where
  pub few : whole_row p.turns ≤ 9
  pub fresh : (k : ℕ) → has_identified k p.turns ≡ false
  pub silent : addressed_before p.turns ≡ None
  pub tasks : (k : ℕ) → p.tasks k ≡ []
  pub stop : p.stop ≡ None

new_zero : (cycle : ℕ) (waiting : ℕ → List Task) → IsInZero (new_epoch cycle waiting)
new_zero cycle waiting = record { few = omega arith; fresh = λ k. refl; silent = refl; tasks = λ k. refl; stop = refl }

pub none_addressed : (s : Known) (p : Past) → (after_mdt s p).now.phase ≡ 0 → (after_mdt s p).now.addressed ≡ None
none_addressed s p zero_is = rw ((ap (λ (n : ℕ). n == 1) zero_is), (ap (λ (n : ℕ). n == 2) zero_is)) refl

-- THE MDT changes nothing: where nothing was begun there is no trouble, no plan is due, and no request is begun.
pub none_first : (s : Known) (p : Past) (k n : ℕ) → ((i : ℕ) → i < k + n → trouble s p i ≡ None) → first_trouble_from s p k n ≡ None
none_first s p k zero each = refl
none_first s p k (suc n) each = let here : trouble s p k ≡ None = each k (omega arith) in rw here (none_first s p (k + 1) n (λ i low. each i (omega (arith, low))))

no_trouble : (s : Known) (p : Past) → ((k : ℕ) → p.tasks k ≡ []) → first_trouble s p ≡ None
no_trouble s p none = none_first s p 0 (length s.drives) (λ i low. ap (λ (l : List Task). trouble_by (member s i).address l (last_outcome (begun_by (p.calls i)))) (none i))

settled_zero : (s : Known) (p : Past) → p.now.phase ≡ 0 → ((k : ℕ) → p.tasks k ≡ []) → settled s p ≡ p
settled_zero s p zero_is none = ap (λ (o : Option Stop). with_due_plan s (with_stop o p)) (no_trouble s p none) ∙ by (p.now.phase == 2) (ap (λ (n : ℕ). n == 2) zero_is)
  where
    by : (two : Bool) → two ≡ false → (if two && (is_none p.stop && (is_none p.plan && all_read s p)) then planned_by s p else p) ≡ p
    by true off = absurd (false≢true (sym off))
    by false off = refl

begins_zero : (s : Known) (p : Past) (k : ℕ) → p.now.phase ≡ 0 → begins s p k ≡ None
begins_zero s p k zero_is = by (is_none p.stop) (is_idle p k) (nat_le 3 p.now.phase) (p.now.phase == 2) (ap (λ (n : ℕ). nat_le 3 n) zero_is) (ap (λ (n : ℕ). n == 2) zero_is)
  where
    by : (free idle late two : Bool) → late ≡ false → two ≡ false → (if free && (idle && (late || (two && is_place k (in_turn s p)))) then of_phase p.now.phase (next_task s p k) else None) ≡ None
    by true true late two a b = rw (a, b) refl
    by true false late two a b = refl
    by false idle late two a b = refl

-- the end of a cycle
pub stays_zero : (done : Bool) (n : ℕ) → (if done then n + 1 else n) ≡ 0 → (done ≡ false) × (n ≡ 0)
stays_zero true n is = absurd (omega (arith, is))
stays_zero false n is = (refl, is)

module _ (r : RingView) (jobs : List Job) (carry : Carry) (restarts : Restarts) where
  abbrev back : List CycleView → Past
  back j = looks_back r jobs (master_calls r carry restarts j)

  abbrev now_in : CycleView → List CycleView → Past
  now_in t j = behind_mdt r jobs carry restarts t.sent j

  -- within a cycle
  start_zero : (j : List CycleView) → ((back j).now.phase ≡ 0 → IsInZero (back j)) → (at_start r jobs carry restarts j).now.phase ≡ 0 → IsInZero (at_start r jobs carry restarts j)
  start_zero j before = by (restarts (length j) 0)
    where
      by : (b : Bool) → (looks_back r jobs (if b then Restart ∷ master_calls r carry restarts j else master_calls r carry restarts j)).now.phase ≡ 0
          → IsInZero (looks_back r jobs (if b then Restart ∷ master_calls r carry restarts j else master_calls r carry restarts j))
      by true zero_is = new_zero _ _
      by false zero_is = before zero_is

  phase_at_end : (t : CycleView) (j : List CycleView) → (now_in t j).now.phase ≡ (at_start r jobs carry restarts j).now.phase
  phase_at_end t j = (turn_mdt (known_of r) (behind_ats r jobs carry restarts t.sent j)).phase_is ∙ (ats_leave r jobs carry restarts t j 0).phase_is

  turns_at_end : (t : CycleView) (j : List CycleView) → (now_in t j).turns ≡ (at_start r jobs carry restarts j).turns
  turns_at_end t j = (turn_mdt (known_of r) (behind_ats r jobs carry restarts t.sent j)).turns_are ∙ (ats_leave r jobs carry restarts t j 0).turns_are

  module _ (t : CycleView) (j : List CycleView) (zero_is : (now_in t j).now.phase ≡ 0) (start : IsInZero (at_start r jobs carry restarts j)) where
    after_ats : (behind_ats r jobs carry restarts t.sent j).now.phase ≡ 0
    after_ats = sym (turn_mdt (known_of r) (behind_ats r jobs carry restarts t.sent j)).phase_is ∙ zero_is

    ats_tasks : (k : ℕ) → (behind_ats r jobs carry restarts t.sent j).tasks k ≡ []
    ats_tasks k = ats_same (λ (p : Past). p.tasks k) (λ s content p. after_at_so (λ q. q.tasks k ≡ p.tasks k) s content p refl (λ i. refl))
        r jobs carry (length j) (ats_in t.sent) (own_mst carry (length j) (mst_in t.sent) (begins_cycle r carry restarts j)) ∙ start.tasks k

    goes_zero : is_done (known_of r) (now_in t j) ≡ false → IsInZero (goes_on (next_phase (known_of r) (now_in t j)) (now_in t j))
    goes_zero off = record {
      few = let few : nat_le 10 (whole_row ((now_in t j).now ∷ (now_in t j).turns)) ≡ false = sym
          (ap (λ (n : ℕ). is_done_in n (known_of r) (now_in t j)) zero_is) ∙ off in (grind (arith, nat_tests, few));
      fresh = λ k. none_identified (now_in t j).now.phase ((now_in t j).now.heard k) (has_identified k (now_in t j).turns) zero_is (ap (has_identified k) (turns_at_end t j) ∙ start.fresh k);
      silent = none_addressed (known_of r) (behind_ats r jobs carry restarts t.sent j) zero_is;
      tasks = λ k. ap (λ (q : Past). with_task (begins (known_of r) q k) (q.tasks k))
          (settled_zero (known_of r) (behind_ats r jobs carry restarts t.sent j) after_ats ats_tasks)
          ∙ ap (λ (o : Option Task). with_task o ((behind_ats r jobs carry restarts t.sent j).tasks k))
          (begins_zero (known_of r) (behind_ats r jobs carry restarts t.sent j) k after_ats) ∙ ats_tasks k;
      stop = ap (λ (q : Past). q.stop) (settled_zero (known_of r) (behind_ats r jobs carry restarts t.sent j) after_ats ats_tasks)
          ∙ (ats_stop r jobs carry (length j) (ats_in t.sent) (own_mst carry (length j) (mst_in t.sent) (begins_cycle r carry restarts j))
          ∙ start.stop);
    }

  end_zero : (t : CycleView) (j : List CycleView) → ((back j).now.phase ≡ 0 → IsInZero (back j)) → (back (t ∷ j)).now.phase ≡ 0 → IsInZero (back (t ∷ j))
  end_zero t j before = by (is_some (fall_of (known_of r) (now_in t j)))
    where
      by : (falls : Bool) → (if falls then new_epoch ((now_in t j).cycle + 1) (still_waiting (now_in t j)) else goes_on (next_phase (known_of r) (now_in t j)) (now_in t j)).now.phase ≡ 0
          → IsInZero (if falls then new_epoch ((now_in t j).cycle + 1) (still_waiting (now_in t j)) else goes_on (next_phase (known_of r) (now_in t j)) (now_in t j))
      by true zero_is = new_zero _ _
      by false zero_is =
          let stays = stays_zero (is_done (known_of r) (now_in t j)) (now_in t j).now.phase zero_is in
          goes_zero t j stays.1 (start_zero j before (sym (phase_at_end t j) ∙ stays.1)) stays.0

  -- AT THE END OF EACH CYCLE of a run
  pub in_zero : (j : List CycleView) → StartsEpoch r jobs carry restarts j → IsInZero (back j)
  in_zero [] zero_is = new_zero _ _
  in_zero (t ∷ j) zero_is = end_zero t j (λ before. in_zero j before) zero_is

  pub few_back : (j : List CycleView) → StartsEpoch r jobs carry restarts j → came_back r jobs carry restarts j ≤ 9
  few_back j zero_is = (in_zero j zero_is).few

  pub zero_waits : (j : List CycleView) → StartsEpoch r jobs carry restarts j → Waits (came_back r jobs carry restarts j) (back j)
  zero_waits j zero_is = let is = in_zero j zero_is in record { phase_is = zero_is; row = refl; fresh = is.fresh; silent = is.silent }

  -- WHERE AN EPOCH BEGINS
  begins_new : (t : CycleView) (j : List CycleView) → restarts (length j) 0 ≡ true → ((at_start r jobs carry restarts j).now.phase ≡ 0) × ((at_start r jobs carry restarts j).turns ≡ [])
  begins_new t j on = elim (cases_Bool (restarts (length j) 0)) [
    | inl on_is ↦ rw on_is (refl, refl)
    | inr off ↦ let off = rw off at on in absurd (false≢true off)
  ]

  pub starts_anew : (t : CycleView) (j : List CycleView) → restarts (length j) 0 ≡ true → StartsEpoch r jobs carry restarts (t ∷ j) × (came_back r jobs carry restarts (t ∷ j) ≤ 1)
  starts_anew t j on = elim (cases_Bool (is_some (fall_of (known_of r) (now_in t j)))) [
    | inl on ↦ rw on (refl, omega arith)
    | inr off ↦ rw off (ap (λ (done : Bool). if done then (now_in t j).now.phase + 1 else (now_in t j).now.phase) not_done ∙ phase, one)
  ]
    where
      phase : (now_in t j).now.phase ≡ 0
      phase = phase_at_end t j ∙ (begins_new t j on).0

      one : whole_row ((now_in t j).now ∷ (now_in t j).turns) ≤ 1
      one = subst (λ (l : List Turn). whole_row ((now_in t j).now ∷ l) ≤ 1) (sym (turns_at_end t j ∙ (begins_new t j on).1))
          (elim (cases_Bool (now_in t j).now.whole) [ inl on ↦ rw on (omega arith) | inr off ↦ rw off (omega arith) ])

      not_done : is_done (known_of r) (now_in t j) ≡ false
      not_done = ap (λ (n : ℕ). is_done_in n (known_of r) (now_in t j)) phase ∙ (grind (arith, nat_tests, one))

  pub starts_fallen : (t : CycleView) (j : List CycleView) → is_some (fall_of (known_of r) (now_in t j)) ≡ true → StartsEpoch r jobs carry restarts (t ∷ j) × (came_back r jobs carry restarts (t ∷ j) ≡ 0)
  starts_fallen t j falls = elim (cases_Bool (is_some (fall_of (known_of r) (now_in t j)))) [
    | inl on ↦ rw on (refl, refl)
    | inr off ↦ let off = rw off at falls in absurd (false≢true off)
  ]

pub starts_at_opening : StartsAtOpening
starts_at_opening r jobs carry restarts = (refl, refl)

pub starts_at_fall : StartsAtFall
starts_at_fall r jobs carry restarts t j falls = starts_fallen r jobs carry restarts t j falls

pub starts_at_restart : StartsAtRestart
starts_at_restart r jobs carry restarts t j on = starts_anew r jobs carry restarts t j on
