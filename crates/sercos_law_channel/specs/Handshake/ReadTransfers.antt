-- The result of a complete read. Each list has its newest item first.
use Rattle.std.specs.Prelude.{◌≡◌, ℕ, ◌^◌, ◌<◌, ◌≤◌, ◌==◌, false, not, ◌&&◌, if◌then◌else◌, List, [], ◌∷◌, length, Option, Some, None, unwrap_or}
use Rattle.sercos_idn.specs.declared.idn.Idn.{Idn}
use Rattle.sercos_idn.specs.Elements.{identifier_element, data_element}
use Rattle.sercos_idn.specs.Codes.{is_list}
use Rattle.sercos_step.specs.declared.request.Request.TheVariants as request
use Rattle.sercos_step.specs.declared.request.Outcome.TheVariants as outcome
use Rattle.sercos_step.specs.Steps.{outcome_of, steps_before}
use Rattle.sercos_block.specs.declared.block.Block.{Block}
use Rattle.sercos_block.specs.Blocks.{element_of}
use Rattle.sercos_block.specs.Stores.{find_block, IsStore}
use Rattle.sercos_command.specs.Calls.{status_in}
use Rattle.sercos_service_drive.specs.Log.{Processed, Entry}
use Rattle.sercos_service_drive.specs.Replies.{data_in, read_cause}
use Rattle.sercos_service_drive.specs.Writes.{without_data}
use Rattle.sercos_law_channel.specs.Handshake.InStep.{replies_of}
use Rattle.sercos_law_channel.specs.Handshake.Transfers.{IsTransfer}

-- the entry with `count` older ones before it
abbrev pub entry_behind : ℕ → List Entry → Option Entry
entry_behind count [] = None
entry_behind count (e ∷ entries) = if length entries == count then Some e else entry_behind count entries

-- the bytes of an element from 2 to 7 of a block in a cycle
abbrev pub element_in : ℕ → ℕ → Block → List ℕ
element_in e cycle c = if (e == data_element) && not (is_list c.attribute.length) then data_in cycle c else unwrap_or (element_of c e) []

-- the bytes of an element when the drive accepts a step and has this block: the data status as two bytes, or those of the block
abbrev pub bytes_at : ℕ → ℕ → Block → Processed → List ℕ
bytes_at raw e c t = if e == identifier_element then status_in t.commands raw t.cycle ∷ 0 ∷ [] else element_in e t.cycle c

-- A step reads the element, the drive then has the block, alike but for its operation data, and the block has the element;
-- and these are its bytes then, if the drive's blocks keep the rules of a store. A data status doesn't need that.
pub record IsReadAt (raw e : ℕ) (b : Block) (bytes : List ℕ) (t : Processed) : Type 0 where
  pub reads : t.step.write ≡ false
  pub element : t.step.element ≡ e
  pub block : Block
  pub found : find_block raw t.blocks ≡ Some block
  pub alike : without_data block ≡ without_data b
  pub there : read_cause raw t ≡ None
  pub gives : (2 ≤ e → IsStore t.blocks) → bytes ≡ bytes_at raw e block t

-- A complete read returns the element's bytes at the moment when the drive accepted the selection, which is the first step
-- after the opening and, if the attribute is read, the two steps that read it.
abbrev pub ReadsOnce : Type 0
ReadsOnce = (idn : Idn) (e : ℕ) (bytes : List ℕ) (blocks : List Block) (b : Block) (s : Entry) (entries log : List Entry) → 1 ≤ e → e ≤ 7 →
    find_block idn.raw blocks ≡ Some b → b.attribute.factor < 2 ^ 16 → IsTransfer (request.Read idn e) blocks s entries log →
    outcome_of (request.Read idn e) (replies_of (s ∷ entries)) ≡ Some (outcome.Complete bytes) →
    (selection : Entry) × (entry_behind (steps_before e) (s ∷ entries) ≡ Some selection) × IsReadAt idn.raw e b bytes selection.processed
