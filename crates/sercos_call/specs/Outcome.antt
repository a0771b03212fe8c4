-- How a call of a top call went: each way in which it can end, with what is known then. Its clauses are read off this.
use Rattle.std.specs.Prelude.{◌≡◌, ℕ, ◌<◌, ◌≤◌, Bool, true, false, List, [], length, take, Option, Some, None}
use Rattle.std.specs.Io.KnownBytes.{Appends}
use Rattle.sercos_model.specs.Streams.{Rose}
use Rattle.sercos_io.specs.declared.status.Status.{Status}
use Rattle.sercos_io.specs.declared.status.Status.TheVariants.{BadWords, ReadFault, Memory, TooLong}
use Rattle.sercos_answer.specs.Answer.{Answer}
use Rattle.sercos_call.specs.TopCall.{fault_status, IsGiven, ReadsWhole, TakesAtMost, TakesTooMany}

-- a source before and after: the bytes that it has left, and its count of faults
pub record SourceChange : Type 0 where
  pub left : Option (List ℕ)
  pub left' : Option (List ℕ)
  pub faults : ℕ
  pub faults' : ℕ

-- a sink before and after: the bytes that it holds, its count of faults, and the room that it had
pub record SinkChange : Type 0 where
  pub held : Option (List ℕ)
  pub held' : Option (List ℕ)
  pub faults : ℕ
  pub faults' : ℕ
  pub room : ℕ

abbrev pub changed : {S : Type 0} → (S → Option (List ℕ)) → (S → ℕ) → (S → ℕ) → S → S → SinkChange
changed held faults room old new = record { held = held old; held' = held new; faults = faults old; faults' = faults new; room = room old }

-- how writing a text with its status ends: the whole text was appended, or a prefix of it, short of the whole
pub data Writes (status : Status) (text : List ℕ) (sink : SinkChange) : Status → Type 0 where
  whole : Appends sink.held sink.held' text → sink.faults' ≡ sink.faults → Writes status text sink status
  short : (count : ℕ) → count < length text → Appends sink.held sink.held' (take count text) → sink.faults ≤ sink.faults' →
      Rose sink.faults sink.faults' → (length text ≤ sink.room → ⊥) → Writes status text sink (fault_status status)

-- How answering an input ends: no memory was found, or the answer was written, with what it promises. Unwritten says that the sink is
-- as it was.
pub data Replies (answer : Answer) (Says : Type 0) (sink : SinkChange) (Unwritten : Type 0) : Status → Type 0 where
  none_found : Unwritten → Replies answer Says sink Unwritten Memory
  replied : (status : Status) → Says → Writes answer.status answer.output sink status → Replies answer Says sink Unwritten status

-- How the call ends before anything is written: the words are not a form, a read failed, the input is too long, or no memory was found.
-- Unread says that the source is as it was.
pub data Stops {F : Type 0} (form : Option F) (reads : Bool) (source : SourceChange) (Unread : Type 0) : Status → Type 0 where
  no_form : form ≡ None → Unread → source.left' ≡ source.left → source.faults' ≡ source.faults → Stops form reads source Unread BadWords
  unreadable : reads ≡ true → source.faults ≤ source.faults' → Rose source.faults source.faults' →
      TakesAtMost 1048576 source.left source.left' → Stops form reads source Unread ReadFault
  too_many : reads ≡ true → source.faults' ≡ source.faults → TakesTooMany source.left source.left' → Stops form reads source Unread TooLong
  no_memory : source.faults' ≡ source.faults → TakesAtMost 1048576 source.left source.left' → (reads ≡ false → Unread) →
      Stops form reads source Unread Memory

-- The bytes of the input: all those of the source, up to its end; none, if a command reads nothing.
abbrev pub TakesInput : Bool → SourceChange → Type 0 → List ℕ → Type 0
TakesInput true source Unread bytes = ReadsWhole source.left source.left' bytes
TakesInput false source Unread bytes = Unread × (source.left' ≡ source.left) × (bytes ≡ [])

-- How the call ends. Unwritten says that the sink is as it was. `Says` is what the answer promises beside its text.
pub data Outcome {F : Type 0} (form : Option F) (reads : Bool) (answer : List ℕ → Answer) (Says : List ℕ → Type 0) (source : SourceChange)
    (sink : SinkChange) (Unread Unwritten : Type 0) : Status → Type 0 where
  stopped : (status : Status) → Stops form reads source Unread status → Unwritten → sink.faults' ≡ sink.faults →
      Outcome form reads answer Says source sink Unread Unwritten status
  answered : (named : F) (bytes : List ℕ) (status : Status) → form ≡ Some named → Says bytes → source.faults' ≡ source.faults →
      TakesInput reads source Unread bytes → Writes (answer bytes).status (answer bytes).output sink status
      → Outcome form reads answer Says source sink Unread Unwritten status

-- Properties of the form, of whether it reads its source, and of its answers: a form that reads nothing has one answer, and answers are
-- done, no or refused.
pub record IsCommand {F : Type 0} (form : Option F) (reads : Bool) (answer : List ℕ → Answer) : Type 0 where
  pub none : form ≡ None → reads ≡ false
  pub one : (named : F) → form ≡ Some named → reads ≡ false → (a b : List ℕ) → answer a ≡ answer b
  pub given : (named : F) → form ≡ Some named → (bytes : List ℕ) → IsGiven (answer bytes).status
