-- The steps that a drive accepted among the records that it processed, and their runs. Each list
-- has its newest item first.
use Rattle.std.specs.Prelude.{ℕ, ◌==◌, Bool, false, not, ◌&&◌, if◌then◌else◌, List, [], ◌∷◌, Option, Some, None}
use mathlib.Core.Bool.{beq}
use Rattle.sercos_telegram.specs.declared.words.Control.{Control}
use Rattle.sercos_idn.specs.Elements.{identifier_element}
use Rattle.sercos_step.specs.declared.step.Step.{Step}
use Rattle.sercos_step.specs.declared.step.Answer.{Answer}
use Rattle.sercos_block.specs.declared.block.Block.{Block}
use Rattle.sercos_command.specs.Calls.{CommandHistory}

-- A record that the drive processed in a cycle and a phase: its handshake bit and its step, with
-- the blocks and the procedure commands before it.
pub record Processed : Type 0 where
  pub cycle : ℕ
  pub phase : ℕ
  pub mhs : Bool
  pub step : Step
  pub blocks : List Block
  pub commands : CommandHistory

-- a record by its step
abbrev pub processed_step : ℕ → ℕ → Bool → Step → List Block → CommandHistory → Processed
processed_step cycle phase mhs step blocks commands = record {
  cycle = cycle;
  phase = phase;
  mhs = mhs;
  step = step;
  blocks = blocks;
  commands = commands;
}

-- a record by its control word and its information word
abbrev pub processed_record : ℕ → ℕ → Control → ℕ → List Block → CommandHistory → Processed
processed_record cycle phase control info blocks commands =
    processed_step cycle phase control.mhs (record { write = control.write; last = control.last; element = control.element; word = info })
    blocks commands

-- the acknowledge bit AHS: the handshake bit of the last record that was processed; 0 before the
-- first
abbrev pub ahs : List Processed → Bool
ahs [] = false
ahs (t ∷ h) = t.mhs

-- the steps that were accepted: a record is ignored if its handshake bit is that of the record
-- before it
abbrev pub accepted : List Processed → List Processed
accepted [] = []
accepted (t ∷ h) = if beq t.mhs (ahs h) then accepted h else t ∷ accepted h

-- an accepted step, and the reply to it
pub record Entry : Type 0 where
  pub processed : Processed
  pub answer : Answer

-- whether a step opens the identifier number that is its word: it writes element 1
abbrev pub opens : Step → Bool
opens s = s.write && (s.element == identifier_element)

-- the identifier number that is open: that of the last opening, if the drive has it and no step of
-- element 0 followed
abbrev pub open_idn : List Entry → Option ℕ
open_idn [] = None
open_idn (e ∷ log) =
    if opens e.processed.step then (if e.answer.error then None else Some e.processed.step.word)
    else (if e.processed.step.element == 0 then None else open_idn log)

-- The steps of a run before the next one, which has this write bit and this element, and neither
-- opens nor has element 0. A run is an unbroken row of steps with the same write bit and element,
-- which no last word and no error ended.
abbrev pub run_before : Bool → ℕ → List Entry → List Processed
run_before write element [] = []
run_before write element (e ∷ log) =
    if beq e.processed.step.write write && ((e.processed.step.element == element) && (not e.processed.step.last && not e.answer.error))
    then e.processed ∷ run_before write element log else []

-- the first step of the run: this one, if the run has no other before it
abbrev pub selection : Processed → List Processed → Processed
selection t [] = t
selection t (s ∷ run) = selection s run

-- the words of a run, the oldest first, and these after them
abbrev pub in_order : List Processed → List ℕ → List ℕ
in_order [] words = words
in_order (t ∷ run) words = in_order run (t.step.word ∷ words)
