-- The state of the drive's end of a channel, and the records that led to it. Used in proofs alone.
use Rattle.std.specs.Prelude.{◌≡◌, ℕ, ◌+◌, ◌<◌, ◌≤◌, ◌%◌, ◌==◌, Bool, true, false, ◌&&◌, ◌||◌, if◌then◌else◌, List, [], ◌∷◌, length, min, slice_index, Option, Some, None, IfSome, option_map}
use mathlib.Core.Bool.{beq}
use Rattle.sercos_idn.specs.declared.idn.Idn.{Idn}
use Rattle.sercos_idn.specs.Codes.{is_list, item_len}
use Rattle.sercos_idn.specs.Elements.{data_element}
use Rattle.sercos_step.specs.declared.step.Step.{Step}
use Rattle.sercos_step.specs.declared.step.Answer.{Answer}
use Rattle.sercos_step.specs.Words.{words_of, bytes_in}
use Rattle.sercos_block.specs.declared.block.Block.{Block}
use Rattle.sercos_block.specs.Blocks.{is_fixed}
use Rattle.sercos_block.specs.Stores.{find_block}
use Rattle.sercos_service_drive.specs.declared.session.Selection.{Selection}
use Rattle.sercos_service_drive.specs.declared.channel.Last.{Last}
use Rattle.sercos_service_drive.specs.Log.{Processed, Entry, ahs, opens, open_idn, run_before, selection, in_order}
use Rattle.sercos_service_drive.specs.Replies.{words_by, copy, read_cause, reply_of, log_of}
use Rattle.sercos_service_drive.specs.Writes.{AreAlike}

-- whether no run can continue after a step: an opening, a step of element 0, a last word or an
-- error
abbrev pub ends_run : Entry → Bool
ends_run e = (opens e.processed.step || (e.processed.step.element == 0)) || (e.processed.step.last || e.answer.error)

-- the run that the next step may continue, the newest step first
abbrev pub run_of : List Entry → List Processed
run_of [] = []
run_of (e ∷ log) = if ends_run e then [] else e.processed ∷ run_before e.processed.step.write e.processed.step.element log

-- the number of steps of a run, which stops at the largest word
abbrev pub place_of : List Processed → ℕ
place_of run = min (length run) 65535

-- the run as it is stored
abbrev pub selection_in : List Processed → Option Selection
selection_in [] = None
selection_in (t ∷ run) = Some (record { write = t.step.write; element = t.step.element; place = place_of (t ∷ run) })

-- the run, if a step with this write bit and element continues it; otherwise no steps
abbrev pub continued : Bool → ℕ → List Processed → List Processed
continued write element [] = []
continued write element (t ∷ run) = if beq t.step.write write && (t.step.element == element) then t ∷ run else []

-- the number of steps of the run that a step with this write bit and element continues
abbrev pub place_in : Option Selection → Bool → ℕ → ℕ
place_in None write element = 0
place_in (Some s) write element = if beq s.write write && (s.element == element) then s.place else 0

-- the run after a step at this index; `None` after its last word
abbrev pub selected : Bool → Step → ℕ → Option Selection
selected true step place = None
selected false step place = Some (record { write = step.write; element = step.element; place = min (place + 1) 65535 })

-- the identifier number that is open, the run, and its bytes
pub record SessionView : Type 0 where
  pub opened : Option Idn
  pub selection : Option Selection
  pub buffer : List ℕ

-- in a read run the buffer has the copy of the element, which could be read
pub record IsReading (raw : ℕ) (t : Processed) (run : List Processed) (buffer : List ℕ) : Type 0 where
  pub there : read_cause raw (selection t run) ≡ None
  pub words : words_of buffer ≡ copy raw (selection t run)

-- the words of operation data that were accepted are not all of them, and a list's length is one
-- that its block can have
pub record IsMidway (b : Block) (words : List ℕ) : Type 0 where
  pub writable : is_fixed b ≡ false
  pub more : length words < words_by b.attribute (slice_index words 0)
  pub fits : is_list b.attribute.length ≡ true → slice_index words 0 ≤ b.max_len
  pub even : is_list b.attribute.length ≡ true → (slice_index words 0 % item_len b.attribute.length == 0) ≡ true

-- in a write run the buffer has the bytes of its words
pub record IsWriting (raw : ℕ) (t : Processed) (run : List Processed) (buffer : List ℕ) : Type 0 where
  pub element : t.step.element ≡ data_element
  pub bytes : buffer ≡ bytes_in (in_order (t ∷ run) [])
  pub midway : IfSome (find_block raw t.blocks) (λ b. IsMidway b (in_order (t ∷ run) []))

-- the buffer is that of a run, by its write bit
abbrev pub IsKeptRun : Bool → ℕ → Processed → List Processed → List ℕ → Type 0
IsKeptRun true raw t run buffer = IsWriting raw t run buffer
IsKeptRun false raw t run buffer = IsReading raw t run buffer

-- the buffer is that of the run, if there is one; then an identifier number is open
abbrev pub HoldsRun : Option ℕ → List Processed → List ℕ → Type 0
HoldsRun o [] buffer = Unit {0}
HoldsRun None (t ∷ run) buffer = ⊥
HoldsRun (Some raw) (t ∷ run) buffer = IsKeptRun t.step.write raw t run buffer

-- the state is that after these entries
pub record SessionStandsFor (v : SessionView) (log : List Entry) : Type 0 where
  pub opened_is : option_map (λ idn. idn.raw) v.opened ≡ open_idn log
  pub selection_is : v.selection ≡ selection_in (run_of log)
  pub buffer_is : HoldsRun (open_idn log) (run_of log) v.buffer

-- except for their operation data, the blocks are those of the last step of the run
abbrev pub GoesWith : List Block → List Processed → Type 0
GoesWith blocks [] = Unit {0}
GoesWith blocks (t ∷ run) = AreAlike t.blocks blocks

-- a step was answered with the reply, and the state is that after it
pub record IsAnswered (v : SessionView) (t : Processed) (log : List Entry) (answer : Answer) : Type 0 where
  pub reply_is : answer ≡ reply_of t log
  pub stands : SessionStandsFor v (record { processed = t; answer = answer } ∷ log)

-- the cycle of the last accepted step, and the reply to it
abbrev pub last_of : List Entry → Option Last
last_of [] = None
last_of (e ∷ log) = Some (record { cycle = e.processed.cycle; answer = e.answer })

-- the busy time in cycles, the acknowledge bit AHS, the last accepted step, and the state between
-- the steps
pub record ChannelView : Type 0 where
  pub busy : ℕ
  pub ahs : Bool
  pub last : Option Last
  pub session : SessionView

-- the channel's state is that after these processed records
pub record ChannelStandsFor (v : ChannelView) (busy : ℕ) (h : List Processed) : Type 0 where
  pub busy_is : v.busy ≡ busy
  pub ahs_is : v.ahs ≡ ahs h
  pub last_is : v.last ≡ last_of (log_of h)
  pub session_is : SessionStandsFor v.session (log_of h)
