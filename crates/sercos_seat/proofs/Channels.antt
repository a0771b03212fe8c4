-- What hearing a status does to the outcomes of a channel.
use Rattle.std.proofs.Common.{◌≡◌, ℕ, Bool, true, false, List, [], ◌∷◌, ◌++◌, Option, Some, None, refl, if◌then◌else◌}
use Rattle.std.specs.Prelude.{is_some, map, ◌&&◌, not}
use mathlib.Core.Bool.{beq}
use Rattle.std.proofs.lemmas.Bool.{false≢true}
use Rattle.std.proofs.lemmas.Option.{none-some}
use Rattle.sercos_telegram.specs.declared.words.Status.{Status}
use Rattle.sercos_step.specs.declared.step.Answer.{Answer}
use Rattle.sercos_step.specs.declared.step.Step.{Step}
use Rattle.sercos_step.specs.declared.request.Outcome.{Outcome}
use Rattle.sercos_step.specs.Steps.{outcome_of, next_step}
use Rattle.sercos_service_master.specs.Begun.{Begun, open_in, answers_it, answer_in, with_answer, outcome_with, mhs_in}
use Rattle.sercos_service_master.specs.Calls.{Call, Hear, begun_by, outcome_at}
use Rattle.sercos_seat.specs.Channel.{outcomes_in, with_outcome, last_outcome}

-- where a step is open, the transfer has no outcome yet
open_none : (o : Option Outcome) (s : Option Step) → is_some (if is_some o then None else s) ≡ true → o ≡ None
open_none None s e = refl
open_none (Some x) s e = absurd (false≢true e)

pub going_on : (b : Begun) (past : List Begun) → is_some (open_in (b ∷ past)) ≡ true → outcome_of b.request b.answers ≡ None
going_on b past e = open_none (outcome_of b.request b.answers) (next_step b.request b.answers) e

-- an answer that ends the transfer that is open is the next outcome, and the last
pub ended : (begun : List Begun) (a : Answer) (o : Outcome) → is_some (open_in begun) ≡ true → outcome_with a begun ≡ Some o →
    (outcomes_in (with_answer a begun) ≡ outcomes_in begun ++ o ∷ []) × (last_outcome (with_answer a begun) ≡ Some o)
ended [] a o e f = absurd (false≢true e)
ended (b ∷ past) a o e f = (rw (f, going_on b past e) refl, f)

-- one that doesn't end it leaves the outcomes
pub goes_on : (begun : List Begun) (a : Answer) → is_some (open_in begun) ≡ true → outcome_with a begun ≡ None →
    (outcomes_in (with_answer a begun) ≡ outcomes_in begun) × (last_outcome (with_answer a begun) ≡ last_outcome begun)
goes_on [] a e f = absurd (false≢true e)
goes_on (b ∷ past) a e f = (rw (f, going_on b past e) refl, rw (f, going_on b past e) refl)

pub same_requests : (begun : List Begun) (a : Answer) → map (λ b. b.request) (with_answer a begun) ≡ map (λ b. b.request) begun
same_requests [] a = refl
same_requests (b ∷ past) a = refl

-- the same of a status that is heard
pub record Heard (calls : List Call) (status : Status) (word : ℕ) (o : Option Outcome) : Type 0 where
  pub outcomes : outcomes_in (begun_by (Hear status word ∷ calls)) ≡ with_outcome o (outcomes_in (begun_by calls))
  pub last : last_outcome (begun_by (Hear status word ∷ calls)) ≡ (if is_some o then o else last_outcome (begun_by calls))
  pub requests : map (λ b. b.request) (begun_by (Hear status word ∷ calls)) ≡ map (λ b. b.request) (begun_by calls)

first_of_and : (a b : Bool) → (a && b) ≡ true → a ≡ true
first_of_and true b e = refl
first_of_and false b e = e

heard_by : (begun : List Begun) (status : Status) (word : ℕ) (answers : Bool) (o : Option Outcome) → (answers ≡ true → is_some (open_in begun) ≡ true) →
    (if answers then outcome_with (answer_in status word) begun else None) ≡ o →
    (outcomes_in (if answers then with_answer (answer_in status word) begun else begun) ≡ with_outcome o (outcomes_in begun))
    × (last_outcome (if answers then with_answer (answer_in status word) begun else begun) ≡ (if is_some o then o else last_outcome begun))
    × (map (λ b. b.request) (if answers then with_answer (answer_in status word) begun else begun) ≡ map (λ b. b.request) begun)
heard_by begun status word false None opened e = (refl, refl, refl)
heard_by begun status word false (Some o) opened e = absurd (none-some _ e)
heard_by begun status word true None opened e =
    let kept = goes_on begun (answer_in status word) (opened refl) e in (kept.0, kept.1, same_requests begun (answer_in status word))
heard_by begun status word true (Some o) opened e =
    let more = ended begun (answer_in status word) o (opened refl) e in (more.0, more.1, same_requests begun (answer_in status word))

pub heard : (calls : List Call) (status : Status) (word : ℕ) (o : Option Outcome) → outcome_at calls status word ≡ o → Heard calls status word o
heard calls status word o e =
    let all = heard_by (begun_by calls) status word (answers_it (begun_by calls) status) o
    (first_of_and (is_some (open_in (begun_by calls))) (beq status.ahs (mhs_in (begun_by calls)) && not status.busy)) e in
    record { outcomes = all.0; last = all.1; requests = all.2 }
