-- The effect on a sink of writing a text with a mark before each line: one statement for each
-- result.
use Rattle.std.specs.Prelude.{◌≡◌, ℕ, ◌+◌, ◌<◌, ◌≤◌, List, length, take, Option, Result, Ok, Err}
use Rattle.std.specs.Io.KnownBytes.{Appends}
use Rattle.sercos_model.specs.Streams.{Rose}
use Rattle.sercos_trace.specs.Marked.{marked, AreLines}

-- The mark, and what contracts see of a sink: the bytes that it holds, if they are known, its count
-- of faults, and the room that it surely has.
pub record Seen : Type 0 where
  pub mark : List ℕ
  pub held : Option (List ℕ)
  pub faults : ℕ
  pub room : ℕ

abbrev pub seen : List ℕ → {S : Type 0} → (S → Option (List ℕ)) → (S → ℕ) → (S → ℕ) → S → Seen
seen mark held faults room sink = record { mark = mark; held = held sink; faults = faults sink; room = room sink }

-- the sink has taken the text, which consists of whole lines, with the mark before each of them,
-- without a fault
pub record HasTaken (old new : Seen) (text : List ℕ) : Type 0 where
  pub mark_is : new.mark ≡ old.mark
  pub lines : AreLines text
  pub taken : Appends old.held new.held (marked old.mark text)
  pub faultless : new.faults ≡ old.faults
  pub room_left : old.room ≤ new.room + length (marked old.mark text)

-- A write failed: the sink has taken a proper prefix of the marked text, its count of faults has
-- risen, and it had no room for the whole.
pub record HasFailed (old new : Seen) (text : List ℕ) : Type 0 where
  pub mark_is : new.mark ≡ old.mark
  pub count : ℕ
  pub few : count < length (marked old.mark text)
  pub taken : Appends old.held new.held (take count (marked old.mark text))
  pub cause : (old.faults ≤ new.faults) × Rose old.faults new.faults
  pub full : old.room < length (marked old.mark text)
  pub room_left : old.room ≤ new.room + length (marked old.mark text)

abbrev pub Writes : {T E : Type 0} → Seen → Seen → Result T E → List ℕ → Type 0
Writes old new (Ok x) text = HasTaken old new text
Writes old new (Err e) text = HasFailed old new text
