-- What a top call does with its source and its sink, regardless of its answer. The bytes left in a source and those that a sink holds
-- are known if it exposes them. `answer` is the answer to an input, and `reads` is whether the words name a command that reads one.
use Rattle.std.specs.Prelude.{◌≡◌, ℕ, ◌<◌, ◌≤◌, Bool, true, false, List, [], length, take, Option, Some}
use Rattle.std.specs.Io.KnownBytes.{Appends, Consumes, IsAtEnd}
use Rattle.sercos_io.specs.declared.status.Status.{Status}
use Rattle.sercos_io.specs.declared.status.Status.TheVariants.{Done, No, BadWords, Refused, ReadFault, WriteFault, Memory, TooLong}
use Rattle.sercos_answer.specs.Answer.{Answer}

-- the statuses that are returned before anything is written
unfoldable pub writes_nothing : Status → Bool
writes_nothing BadWords = true
writes_nothing ReadFault = true
writes_nothing Memory = true
writes_nothing TooLong = true
writes_nothing _ = false

-- the status where writing an answer of this status fails: a refusal stays one
unfoldable pub fault_status : Status → Status
fault_status Refused = Refused
fault_status _ = WriteFault

-- a source was read to its end, and gave these bytes
pub record ReadsWhole (old new : Option (List ℕ)) (bytes : List ℕ) : Type 0 where
  pub consumed : Consumes old new bytes
  pub ended : IsAtEnd new
  pub fits : length bytes ≤ 1048576

-- The bytes of the input: all those of the source, up to its end; none, if a command reads nothing.
abbrev pub IsInput : Bool → Option (List ℕ) → Option (List ℕ) → List ℕ → Type 0
IsInput true old new bytes = ReadsWhole old new bytes
IsInput false old new bytes = (new ≡ old) × (bytes ≡ [])

-- the bytes that a source exposes to a command; any, if it reads nothing
abbrev pub HasInput : Bool → Option (List ℕ) → List ℕ → Type 0
HasInput true left bytes = left ≡ Some bytes
HasInput false left bytes = Unit {0}

-- at most this number of bytes were taken from a source, from the front of those that it had left
pub record TakesAtMost (most : ℕ) (old new : Option (List ℕ)) : Type 0 where
  pub taken : List ℕ
  pub few : length taken ≤ most
  pub consumed : Consumes old new taken

-- one byte more than an input may have was taken from a source
pub record TakesTooMany (old new : Option (List ℕ)) : Type 0 where
  pub taken : List ℕ
  pub many : length taken ≡ 1048577
  pub consumed : Consumes old new taken

-- the statuses of answers
pub data IsGiven : Status → Type 0 where
  done : IsGiven Done
  refused : IsGiven Refused
  declined : IsGiven No

-- the answer to the input has this status, and its whole output was appended
pub record IsAnswered (reads : Bool) (answer : List ℕ → Answer) (status : Status) (left left' held held' : Option (List ℕ)) : Type 0 where
  pub bytes : List ℕ
  pub read : IsInput reads left left' bytes
  pub status_is : (answer bytes).status ≡ status
  pub written : Appends held held' (answer bytes).output

-- the same, but that writing failed after a prefix of the output, short of the whole
pub record IsCutShort (reads : Bool) (answer : List ℕ → Answer) (status : Status) (left left' held held' : Option (List ℕ)) : Type 0 where
  pub bytes : List ℕ
  pub read : IsInput reads left left' bytes
  pub status_is : fault_status (answer bytes).status ≡ status
  pub count : ℕ
  pub short : count < length (answer bytes).output
  pub written : Appends held held' (take count (answer bytes).output)

-- this answer was returned: its status, and its whole output, which was appended
pub record IsAnswer (answer : Answer) (status : Status) (held held' : Option (List ℕ)) : Type 0 where
  pub status_is : status ≡ answer.status
  pub written : Appends held held' answer.output
