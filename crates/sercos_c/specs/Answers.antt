-- What a call over memory returns: a status, and the text at the front of an output.
use Rattle.std.specs.Prelude.{◌≡◌, ◌≤◌, ◌⊎◌, ◌++◌, ℕ, true, false, nat_le, if◌then◌else◌, List, [], length, take, Option, Some, None, IsTrue}
use Rattle.sercos_io.specs.declared.status.Status.{Status}
use Rattle.sercos_io.specs.declared.status.Status.TheVariants.{Done, No, BadWords, ReadFault, Memory, TooLong}
use Rattle.sercos_io.specs.Status.{status_code}
use Rattle.sercos_answer.specs.Answer.{Answer}
use Rattle.sercos_words.specs.Form.{form_of, reads_input}
use Rattle.sercos_words.specs.declared.form.Form.TheVariants.{Plan, Margin, Check, Run, Gen, Backup, Restore, Replay}
use Rattle.sercos_call.specs.TopCall.{fault_status, writes_nothing}
use Rattle.sercos_script.specs.Links.{carried_clean, never_restarts}
use Rattle.sercos_c.specs.Texts.{AreTexts}
use Rattle.sercos_app.specs.Answer.{answer_of}
use Rattle.sercos_app.specs.TopCall.{NonePlanned, LeastPlanned, MarginsTold, ChainTold, ViolationTold, CleanTold, PlaceTold, AgreementTold, BreachTold, RunTraced, RunSummed, BackupSaved, BackupFailed, RestoreTold}

-- the input that a command reads; none, if it reads nothing
abbrev pub input_of : List (List ℕ) → List ℕ → List ℕ
input_of words input = if reads_input (form_of words) then input else []

-- the answer to words and an input, over links that change nothing
abbrev pub answer_to : List (List ℕ) → List ℕ → Answer
answer_to words input = answer_of carried_clean never_restarts words (input_of words input)

-- An answer is returned over an output with this room: whole, with its status; or as much of it as there is room for, with the status of a
-- write that failed, which is that of the answer if it is a refusal.
pub record IsReturned (a : Answer) (room : ℕ) (status : Status) (text : List ℕ) : Type 0 where
  pub status_is : status ≡ (if nat_le (length a.output) room then a.status else fault_status a.status)
  pub text_is : text ≡ take room a.output

-- This holds of the input, read to its end, and of the text, appended to what a sink held.
abbrev pub Told : (Option (List ℕ) → Option (List ℕ) → Option (List ℕ) → Option (List ℕ) → Type 0) → List ℕ → List ℕ → Type 0
Told T input text = (left : Option (List ℕ)) × (held : List ℕ) × T (Some input) left (Some held) (Some (held ++ text))

-- What the answers of the commands promise, as the top call does.
pub record Promises (words : List (List ℕ)) (input : List ℕ) (status : Status) (text : List ℕ) : Type 0 where
  pub none_fits : status ≡ No → form_of words ≡ Some Plan → Told NonePlanned input text
  pub least : status ≡ Done → form_of words ≡ Some Plan → Told LeastPlanned input text
  pub margins : status ≡ Done → form_of words ≡ Some Margin → Told MarginsTold input text
  pub chain : status ≡ No → form_of words ≡ Some Margin → Told ChainTold input text
  pub violation : status ≡ No → form_of words ≡ Some Check → Told ViolationTold input text
  pub clean : status ≡ Done → form_of words ≡ Some Check → Told CleanTold input text
  pub differs : (address : ℕ) → status ≡ No → form_of words ≡ Some (Replay address)
      → Told (PlaceTold address) input text ⊎ Told (BreachTold address) input text
  pub agrees : (address : ℕ) → status ≡ Done → form_of words ≡ Some (Replay address) → Told (AgreementTold address) input text
  pub traced : status ≡ Done → form_of words ≡ Some Run → Told (RunTraced carried_clean never_restarts) input text
  pub summed : (n : ℕ) → status ≡ Done → form_of words ≡ Some (Gen n)
      → (held : List ℕ) × RunSummed carried_clean never_restarts n (Some held) (Some (held ++ text))
  pub saved : status ≡ Done → form_of words ≡ Some Backup → Told BackupSaved input text
  pub unsaved : status ≡ No → form_of words ≡ Some Backup → Told BackupFailed input text
  pub restored : status ≡ Done → form_of words ≡ Some Restore → Told (RestoreTold true) input text
  pub unrestored : status ≡ No → form_of words ≡ Some Restore → Told (RestoreTold false) input text

-- What is returned for words and an input over an output with this room. Memory alone is free: before anything is written, no memory was
-- found.
pub record IsCalled (words : List (List ℕ)) (input : List ℕ) (room : ℕ) (status : Status) (text : List ℕ) : Type 0 where
  pub no_form : form_of words ≡ None → (status ≡ Memory) ⊎ (status ≡ BadWords)
  pub too_long : (form_of words ≡ None → ⊥) → 1048577 ≤ length (input_of words input) → (status ≡ Memory) ⊎ (status ≡ TooLong)
  pub answered : (form_of words ≡ None → ⊥) → length (input_of words input) ≤ 1048576 →
      (status ≡ Memory) ⊎ IsReturned (answer_to words input) room status text
  pub nothing : IsTrue (writes_nothing status) → text ≡ []
  pub readable : status ≡ ReadFault → ⊥
  pub promises : Promises words input status text

-- The same by the status's number. If some word isn't UTF-8, the words are none of a command.
pub data IsCallOf (words : List (List ℕ)) (input : List ℕ) (room code : ℕ) (text : List ℕ) : Type 0 where
  called : {status : Status} → code ≡ status_code status → IsCalled words input room status text → IsCallOf words input room code text
  no_texts : (AreTexts words → ⊥) → code ≡ status_code BadWords → text ≡ [] → IsCallOf words input room code text
