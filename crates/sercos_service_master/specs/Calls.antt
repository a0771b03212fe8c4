-- The calls on a channel since its reset, and their effect. The newest call is first.
use Rattle.std.specs.Prelude.{◌≡◌, ℕ, ◌+◌, if◌then◌else◌, List, [], ◌∷◌, min, Option, Some, None, is_some, option_map, unwrap_or}
use Rattle.sercos_telegram.specs.declared.words.Status.{Status}
use Rattle.sercos_step.specs.declared.request.Request.{Request}
use Rattle.sercos_step.specs.declared.request.Outcome.{Outcome}
use Rattle.sercos_service_master.specs.Begun.{Begun, open_in, answers_it, answer_in, with_answer, outcome_with}

-- a request is begun; the record is sent; a status is received, with the information word after it;
-- the cycle ends
pub data Call : Type 0 where
  Begin : Request → Call
  Send : Call
  Hear : (status : Status) → (word : ℕ) → Call
  EndCycle : Call

-- the requests that were begun, with the answers that were accepted
abbrev pub begun_by : List Call → List Begun
begun_by [] = []
begun_by (Begin r ∷ h) = record { request = r; answers = [] } ∷ begun_by h
begun_by (Send ∷ h) = begun_by h
begun_by (Hear status word ∷ h) = if answers_it (begun_by h) status then with_answer (answer_in status word) (begun_by h) else begun_by h
begun_by (EndCycle ∷ h) = begun_by h

-- the outcome of receiving a status, if it ends a transfer
abbrev pub outcome_at : List Call → Status → ℕ → Option Outcome
outcome_at h status word = if answers_it (begun_by h) status then outcome_with (answer_in status word) (begun_by h) else None

-- the number of cycles that ended since the open step was first sent; `None` if it wasn't
abbrev pub age_of : List Call → Option ℕ
age_of [] = None
age_of (Begin r ∷ h) = None
age_of (Send ∷ h) = if is_some (open_in (begun_by h)) then Some (unwrap_or (age_of h) 0) else None
age_of (Hear status word ∷ h) = if answers_it (begun_by h) status then None else age_of h
age_of (EndCycle ∷ h) = option_map (λ age. age + 1) (age_of h)

-- the same number, counted up to 64; 0 if no step that was sent is open
abbrev pub cycles_open : List Call → ℕ
cycles_open h = min (unwrap_or (age_of h) 0) 64

-- each request was begun when no step was open
abbrev pub AreCalls : List Call → Type 0
AreCalls [] = Unit {0}
AreCalls (Begin r ∷ h) = AreCalls h × (open_in (begun_by h) ≡ None)
AreCalls (Send ∷ h) = AreCalls h
AreCalls (Hear status word ∷ h) = AreCalls h
AreCalls (EndCycle ∷ h) = AreCalls h
