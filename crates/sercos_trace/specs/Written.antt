-- The effect on a sink of writing a text: one statement for each result.
use Rattle.std.specs.Prelude.{◌≡◌, ℕ, ◌+◌, ◌<◌, ◌≤◌, List, length, take, Option, Result, Ok, Err}
use Rattle.std.specs.Io.KnownBytes.{Appends}
use Rattle.sercos_model.specs.Streams.{Rose}

-- what contracts see of a sink: the bytes that it holds, if they are known, its count of faults,
-- and the room that it surely has
pub record Seen : Type 0 where
  pub held : Option (List ℕ)
  pub faults : ℕ
  pub room : ℕ

abbrev pub seen : {S : Type 0} → (S → Option (List ℕ)) → (S → ℕ) → (S → ℕ) → S → Seen
seen held faults room sink = record { held = held sink; faults = faults sink; room = room sink }

-- the sink has taken the text, without a fault
pub record HasTaken (old new : Seen) (text : List ℕ) : Type 0 where
  pub taken : Appends old.held new.held text
  pub faultless : new.faults ≡ old.faults
  pub room_left : old.room ≤ new.room + length text

-- a write failed: the sink has taken a proper prefix of the text, its count of faults has risen,
-- and it had no room for the whole
pub record HasFailed (old new : Seen) (text : List ℕ) : Type 0 where
  pub count : ℕ
  pub few : count < length text
  pub taken : Appends old.held new.held (take count text)
  pub cause : (old.faults ≤ new.faults) × Rose old.faults new.faults
  pub full : old.room < length text
  pub room_left : old.room ≤ new.room + length text

abbrev pub Writes : {T E : Type 0} → Seen → Seen → Result T E → List ℕ → Type 0
Writes old new (Ok x) text = HasTaken old new text
Writes old new (Err e) text = HasFailed old new text
