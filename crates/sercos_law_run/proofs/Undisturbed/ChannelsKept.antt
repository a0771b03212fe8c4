-- The calls of a master's channel are those that the views of its cycles give.
use Rattle.sercos_law_run.proofs.Words.{◌≡◌, ℕ, ◌<◌, ◌≤◌, ◌||◌, Bool, true, false, ◌&&◌, List, [], ◌∷◌, length, Option, Some, None, refl, sym, ◌∙◌, ap, ap₂, subst, arith, if◌then◌else◌, ◌==◌, nat_le, is_some, nat_tests, Job, RingView, Send, EndCycle, PlanView, is_place, Known, Task, known_of, Past, settled, with_begin, addressed_in, ready_to_send, after_mdt, fall_of, leaves, CycleView, Carry, Restarts, unless_restart, calls_heard, calls_begun, calls_sent, calls_in, channel_calls, ats_in, master_calls, looks_back, IsRun, IsNext, IsClear, at_start, behind_mst, behind_ats, behind_mdt, heard_last, is_told, told_to, request_of, view_of, views_of, IsOpened, inl, inr, cases_Bool}
use Rattle.sercos_service_master.specs.Calls as channel
use Rattle.sercos_master.specs.Annals.{begins}
use Rattle.sercos_law_run.proofs.Views.MasterSame.{begun_cycle, HasHeard, Nothing, One, AfterAts, ats_none, turn_mdt, same_started}
use Rattle.sercos_law_run.proofs.Views.Members.{AreHeardAs}
use Rattle.sercos_law_run.proofs.Views.Coupled.{ats_heard}
use Rattle.sercos_law_run.proofs.Views.ViewRuns.{started}
use Rattle.sercos_law_run.proofs.Held.Runs.{holding}
use Rattle.sercos_law_run.proofs.Headline.HeadlineRuns.{first_store, stored_in, spelled_in, all_stand}

-- what is heard
heard_calls : (s : Known) (k : ℕ) (such : List ℕ → Type 0) (c : List channel.Call) (q : Past) → HasHeard s k such c q → heard_last c ≡ None → calls_heard (heard_last (q.calls k)) c ≡ q.calls k
heard_calls s k such c q (Nothing same) quiet = rw (same, quiet) refl
heard_calls s k such c q (One content is there calls heard) quiet = rw calls refl

-- what is begun
begun_calls : (o : Option Task) (c : List channel.Call) → calls_begun (request_of o) c ≡ with_begin o c
begun_calls None c = refl
begun_calls (Some t) c = refl

sends_same : (n : ℕ) (plan to : Bool) → (3 ≤ n → plan ≡ true) → (nat_le 2 n && ((nat_le 3 n && plan) || to)) ≡ (nat_le 3 n || ((n == 2) && to))
sends_same n plan to planned = by (nat_le 3 n) (n == 2) refl refl
  where
    by : (three two : Bool) → nat_le 3 n ≡ three → (n == 2) ≡ two → (nat_le 2 n && ((three && plan) || to)) ≡ (three || (two && to))
    by true two is other =
        let a : nat_le 2 n ≡ true = grind (arith, nat_tests, is) in
        rw (a, planned (grind (arith, nat_tests, is))) refl
    by false true is other = let a : nat_le 2 n ≡ true = grind (arith, nat_tests, other) in rw a refl
    by false false is other = let a : nat_le 2 n ≡ false = grind (arith, nat_tests, is, other) in rw a refl

-- what is begun and sent when the MDT goes
mdt_calls : (s : Known) (p : Past) (k phase : ℕ) → phase ≡ p.now.phase → (3 ≤ phase → is_some (after_mdt s p).plan ≡ true)
    → calls_sent (nat_le 2 phase && is_some (told_to (after_mdt s p) k)) (calls_begun (request_of (begins s (settled s p) k)) (p.calls k)) ≡ (after_mdt s p).calls k
mdt_calls s p k phase is planned =
    let same : (after_mdt s p).now.phase ≡ phase = (turn_mdt s p).phase_is ∙ sym is in
    ap₂ (λ (b : Bool) (c : List channel.Call). if b then Send ∷ c else c)
    (ap (λ (b : Bool). nat_le 2 phase && b) (elim (cases_Bool (is_told (after_mdt s p) k)) [ inl on ↦ rw on | inr off ↦ rw off ])
    ∙ subst (λ (n : ℕ). (nat_le 2 phase && ((nat_le 3 n && is_some (after_mdt s p).plan) || is_place k
    (addressed_in s (ready_to_send s p)))) ≡ (nat_le 3 n || ((n == 2) && is_place k (addressed_in s (ready_to_send s p)))))
    (sym same) (sends_same phase (is_some (after_mdt s p).plan) (is_place k (addressed_in s (ready_to_send s p))) planned))
    (begun_calls (begins s (settled s p) k) (p.calls k)
    ∙ ap (λ (c : ℕ → List channel.Call). with_begin (begins s (settled s p) k) (c k)) (sym (leaves s p).calls))

-- what any ATs leave
any_heard : (r : RingView) (carry : Carry) (cycle : ℕ) (ats : List (List ℕ)) → AreHeardAs (λ content. Unit {0}) r carry cycle ats
any_heard r carry cycle [] = tt
any_heard r carry cycle (at ∷ ats) = (λ content came. tt, any_heard r carry cycle ats)

pub ats_leave : (r : RingView) (jobs : List Job) (carry : Carry) (restarts : Restarts) (t : CycleView) (j : List CycleView) (k : ℕ)
    → AfterAts (known_of r) k (λ content. Unit {0}) (behind_mst r jobs carry restarts t.sent j) (behind_ats r jobs carry restarts t.sent j)
ats_leave r jobs carry restarts t j k = ats_heard r jobs carry (length j) k (λ content. Unit {0}) (behind_mst r jobs carry restarts t.sent j) (ats_in t.sent) _
    (ats_none (known_of r) k (λ content. Unit {0}) (behind_mst r jobs carry restarts t.sent j)) (any_heard r carry (length j) (ats_in t.sent))

-- the phase of a cycle is the one at its end
pub phase_now : (r : RingView) (jobs : List Job) (carry : Carry) (restarts : Restarts) (t : CycleView) (j : List CycleView)
    → IsNext r jobs carry restarts t j → (behind_mdt r jobs carry restarts t.sent j).now.phase ≡ t.phase
phase_now r jobs carry restarts t j next =
    (turn_mdt (known_of r) (behind_ats r jobs carry restarts t.sent j)).phase_is ∙ (ats_leave r jobs carry restarts t j 0).phase_is ∙ sym next.phase

module _ (r : RingView) (jobs : List Job) (carry : Carry) (restarts : Restarts) (opened : IsOpened r jobs) where
  -- a channel has heard nothing of a cycle at its start
  pub unheard_first : (j : List CycleView) → IsRun r jobs carry restarts j → IsClear j → (k : ℕ) → k < length r.drives → heard_last ((at_start r jobs carry restarts j).calls k) ≡ None
  unheard_first j run clear k below = subst (λ (p : Past). heard_last (p.calls k) ≡ None) (sym (started r jobs (restarts (length j) 0) (master_calls r carry restarts j)))
      (same_started (restarts (length j) 0) (looks_back r jobs (master_calls r carry restarts j)) k _ _ _ (all_stand r jobs carry restarts opened j run clear k below).sees.master).unheard

  -- a cycle up to its end, if it was so before the cycle
  calls_then : (t : CycleView) (j : List CycleView) → IsRun r jobs carry restarts (t ∷ j) → IsClear (t ∷ j) → (k : ℕ) → k < length r.drives
      → channel_calls (views_of r jobs carry restarts k j) ≡ (looks_back r jobs (master_calls r carry restarts j)).calls k
      → calls_in (view_of r jobs carry restarts k t j) (channel_calls (views_of r jobs carry restarts k j)) ≡ (behind_mdt r jobs carry restarts t.sent j).calls k
  calls_then t j (run, next) (before, clear) k below same =
      let passed = ats_leave r jobs carry restarts t j k in
      let phase_is : t.phase ≡ (behind_ats r jobs carry restarts t.sent j).now.phase = next.phase ∙ sym passed.phase_is in
      ap (λ (c : List channel.Call). calls_sent (nat_le 2 t.phase && is_some (told_to (behind_mdt r jobs carry restarts t.sent j) k)) (calls_begun (request_of (begins (known_of r) (settled (known_of r) (behind_ats r jobs carry restarts t.sent j)) k)) c))
      (ap (calls_heard (heard_last ((behind_ats r jobs carry restarts t.sent j).calls k))) kept
      ∙ heard_calls (known_of r) k (λ content. Unit {0}) ((at_start r jobs carry restarts j).calls k)
      (behind_ats r jobs carry restarts t.sent j) passed.has (unheard_first j run before k below))
      ∙ mdt_calls (known_of r) (behind_ats r jobs carry restarts t.sent j) k t.phase phase_is planned
    where
      kept : unless_restart (view_of r jobs carry restarts k t j) (channel_calls (views_of r jobs carry restarts k j)) ≡ (at_start r jobs carry restarts j).calls k
      kept = by (restarts (length j) 0) ∙ sym (ap (λ (p : Past). p.calls k)
          (started r jobs (restarts (length j) 0) (master_calls r carry restarts j)))
        where
          by : (b : Bool) → (if b then [] else channel_calls (views_of r jobs carry restarts k j)) ≡ (begun_cycle b (looks_back r jobs (master_calls r carry restarts j))).calls k
          by true = refl
          by false = same

      planned : 3 ≤ t.phase → is_some (behind_mdt r jobs carry restarts t.sent j).plan ≡ true
      planned late =
          let (plan, is, holds) = holding r jobs carry restarts opened (first_store r jobs carry restarts opened) t j next clear
          (spelled_in r jobs carry restarts opened t j next) (stored_in r jobs carry restarts opened t j)
          (all_stand r jobs carry restarts opened j run before) (subst (λ (n : ℕ). 3 ≤ n) next.phase late) k below in
          ap (λ (o : Option PlanView). is_some o) is.now

  -- at the end of each cycle the channel has been given these calls ..
  pub calls_are : (j : List CycleView) → IsRun r jobs carry restarts j → IsClear j → (k : ℕ) → k < length r.drives
      → channel_calls (views_of r jobs carry restarts k j) ≡ (looks_back r jobs (master_calls r carry restarts j)).calls k
  calls_are [] run clear k below = refl
  calls_are (t ∷ j) (run, next) (before, clear) k below = elim
      (cases_Bool (is_some (fall_of (known_of r) (behind_mdt r jobs carry restarts t.sent j)))) [
        | inl on ↦ rw on refl
        | inr off ↦ rw off (ap (λ (c : List channel.Call). EndCycle ∷ c)
            (calls_then t j (run, next) (before, clear) k below (calls_are j run before k below)))
      ]

  -- .. and up to the end of a cycle these
  pub calls_now : (t : CycleView) (j : List CycleView) → IsRun r jobs carry restarts (t ∷ j) → IsClear (t ∷ j) → (k : ℕ) → k < length r.drives
      → calls_in (view_of r jobs carry restarts k t j) (channel_calls (views_of r jobs carry restarts k j)) ≡ (behind_mdt r jobs carry restarts t.sent j).calls k
  calls_now t j (run, next) (before, clear) k below = calls_then t j (run, next) (before, clear) k below (calls_are j run before k below)
