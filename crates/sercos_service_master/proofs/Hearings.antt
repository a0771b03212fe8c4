-- A status that answers the open step.
use Rattle.std.proofs.Common.{◌≡◌, ℕ, Bool, true, false, ◌&&◌, not, List, [], ◌∷◌, ◌++◌, refl, sym, ◌∙◌, if◌then◌else◌}
use Rattle.std.specs.Prelude.{Option, Some, None, IfSome, is_some, is_none}
use Rattle.std.proofs.lemmas.Bool.{and_parts}
use mathlib.Core.Bool.{beq}
use Rattle.sercos_telegram.specs.declared.words.Status.{Status}
use Rattle.sercos_step.specs.declared.step.Step.{Step}
use Rattle.sercos_step.specs.declared.step.Answer.{Answer}
use Rattle.sercos_step.specs.declared.request.Request.{Request}
use Rattle.sercos_step.specs.declared.request.Outcome.{Outcome}
use Rattle.sercos_step.specs.Steps.{outcome_of, next_step}
use Rattle.sercos_service_master.specs.Begun.{Begun, step_at, with_step, steps_begun, steps_in, open_in, mhs_in, is_odd, answers_it, answer_in, with_answer, outcome_with}
use Rattle.sercos_service_master.specs.Calls.{Call, Hear, begun_by}
use Rattle.sercos_service_master.specs.Kept.{MasterView, IsAtWork, MasterStandsFor}

-- what a channel tests is whether its open step is answered
pub answers_open : (v : MasterView) (h : List Call) (status : Status) → MasterStandsFor v h → (is_some v.transfer && (beq status.ahs v.mhs && not status.busy)) ≡ true →
    answers_it (begun_by h) status ≡ true
answers_open v h status s e = rw (← s.open_is, ← s.mhs_is) e

with_step-odd : (o : Option Step) (ended : Bool) (steps more : List Step) → is_some o ≡ not ended →
    is_odd (with_step o steps ++ more) ≡ (if ended then is_odd (steps ++ more) else not (is_odd (steps ++ more)))
with_step-odd None true steps more e = refl
with_step-odd None false steps more e = cc
with_step-odd (Some s) true steps more e = cc
with_step-odd (Some s) false steps more e = refl

goes_on : (o : Option Outcome) (s : Option Step) → (is_some o ≡ false → is_some s ≡ true) → is_some (if is_some o then None else s) ≡ not (is_some o)
goes_on None s next = next refl
goes_on (Some x) s next = refl

-- a transfer that goes on has a next step
module _ (next : (r : Request) (answers : List Answer) → is_some (outcome_of r answers) ≡ false → is_some (next_step r answers) ≡ true) where
  opens : (r : Request) (answers : List Answer) → is_some (step_at r answers) ≡ not (is_some (outcome_of r answers))
  opens r answers = goes_on (outcome_of r answers) (next_step r answers) (next r answers)

  -- after an answer a step is open where the transfer goes on
  open_behind : (a : Answer) (past : List Begun) → is_some (open_in past) ≡ true → is_some (open_in (with_answer a past)) ≡ not (is_some (outcome_with a past))
  open_behind a [] e = cc
  open_behind a (b ∷ past) e = opens b.request (a ∷ b.answers)

  mhs_behind : (a : Answer) (past : List Begun) → is_some (open_in past) ≡ true → mhs_in (with_answer a past) ≡ (if is_some (outcome_with a past) then mhs_in past else not (mhs_in past))
  mhs_behind a [] e = cc
  mhs_behind a (b ∷ past) e =
      with_step-odd (step_at b.request (a ∷ b.answers)) (is_some (outcome_of b.request (a ∷ b.answers))) (steps_begun b.request b.answers) (steps_in past) (opens b.request (a ∷ b.answers))

  left : (work : Bool) (o : Option Outcome) → work ≡ true → (work && is_none o) ≡ not (is_some o)
  left work None e = rw e refl
  left work (Some x) e = rw e refl

  -- over one more status, which answers the open step
  pub answered : (v w : MasterView) (h : List Call) (status : Status) (word : ℕ) (result : Option Outcome) → MasterStandsFor v h → answers_it (begun_by h) status ≡ true →
      is_some w.transfer ≡ (is_some v.transfer && is_none result) → IfSome w.transfer (λ t. IsAtWork t (with_answer (answer_in status word) (begun_by h))) →
      result ≡ outcome_with (answer_in status word) (begun_by h) → w.mhs ≡ (if is_some result then v.mhs else not v.mhs) → w.age ≡ None →
      MasterStandsFor w (Hear status word ∷ h)
  answered v w h status word result s it going work out mhs age =
      let on = (and_parts (is_some (open_in (begun_by h))) _ it).0 in
      record {
        each_in_turn = s.each_in_turn;
        mhs_is = rw it (mhs ∙ rw (out, s.mhs_is) (sym (mhs_behind (answer_in status word) (begun_by h) on)));
        open_is = rw it (going ∙ left (is_some v.transfer) result (s.open_is ∙ on) ∙ rw out (sym (open_behind (answer_in status word) (begun_by h) on)));
        work_is = rw it work;
        age_is = rw it age;
      }
