-- What is exact in a run: each transfer, with what the drive accepted of it and what that wrote. Each list has its newest item
-- first.
use Rattle.std.specs.Prelude.{◌≡◌, ℕ, ◌==◌, if◌then◌else◌, List, [], ◌∷◌, ◌++◌, map, drop, Option, Some, None}
use Rattle.sercos_idn.specs.declared.code.Code.{Code}
use Rattle.sercos_idn.specs.declared.idn.Idn.{Idn}
use Rattle.sercos_idn.specs.Elements.{data_element}
use Rattle.sercos_idn.specs.Commands.{to_cancel, to_set}
use Rattle.sercos_step.specs.declared.request.Request.{Request}
use Rattle.sercos_step.specs.declared.request.Request.TheVariants as request
use Rattle.sercos_step.specs.declared.request.Outcome.TheVariants as outcome
use Rattle.sercos_step.specs.Steps.{outcome_of, steps_before}
use Rattle.sercos_block.specs.declared.block.Block.{Block}
use Rattle.sercos_block.specs.Stores.{find_block}
use Rattle.sercos_service_drive.specs.Log.{Entry}
use Rattle.sercos_service_drive.specs.Writes.{Write}
use Rattle.sercos_service_master.specs.Begun.{Begun}
use Rattle.sercos_law_channel.specs.Handshake.Parts.{IsPart}
use Rattle.sercos_law_channel.specs.Handshake.ReadTransfers.{entry_behind, IsReadAt}
use Rattle.sercos_law_channel.specs.Handshake.Transfers.{stored}
use Rattle.sercos_law_channel.specs.Handshake.CommandTransfers.{GivesStatus, idn_of}
use Rattle.sercos_law_channel.specs.Handshake.Views.{View}
use Rattle.sercos_law_channel.specs.Handshake.Runs.{IsRun}
use Rattle.sercos_law_channel.specs.Handshake.WholeRun.{all_entries, all_writes, all_begun, AreSound, AreSmall}

-- an identifier number, and bytes that are written to it
pub record Given : Type 0 where
  pub raw : ℕ
  pub bytes : List ℕ

abbrev pub given_of : Write → Given
given_of w = record { raw = w.raw; bytes = w.bytes }

abbrev pub gives : ℕ → List ℕ → Given
gives raw bytes = record { raw = raw; bytes = bytes }

-- The writes of a complete transfer: a write of operation data has its bytes, one that sets a procedure command has 3 and then 0,
-- and any other has none.
abbrev pub written_to : ℕ → List ℕ → Option Block → List Given
written_to raw bytes None = []
written_to raw bytes (Some b) = gives raw (stored b bytes) ∷ []

abbrev pub given_by : List Block → Request → List Given
given_by blocks (request.Read idn e) = []
given_by blocks (request.Write idn e bytes) = if e == data_element then written_to idn.raw bytes (find_block idn.raw blocks) else []
given_by blocks (request.Command idn) = gives idn.raw (to_cancel ∷ 0 ∷ []) ∷ gives idn.raw (to_set ∷ 0 ∷ []) ∷ []

-- the drive has the block that a request names
abbrev pub HasBlock : List Block → Request → Type 0
HasBlock blocks r = (block : Block) × (find_block (idn_of r).raw blocks ≡ Some block)

-- These are the writes of a transfer. A complete one has written everything, and the drive has its block; a refused one nothing. One
-- that is open or was broken has written the first of it: without these last ones, which come first.
pub data AreWrites (blocks : List Block) (b : Begun) (own : List Write) : Type 0 where
  Complete : (bytes : List ℕ) → outcome_of b.request b.answers ≡ Some (outcome.Complete bytes) → HasBlock blocks b.request →
      map given_of own ≡ given_by blocks b.request → AreWrites blocks b own
  Refused : (code : Code) → outcome_of b.request b.answers ≡ Some (outcome.Refused code) → own ≡ [] → AreWrites blocks b own
  Broken : (later : ℕ) → outcome_of b.request b.answers ≡ None → map given_of own ≡ drop later (given_by blocks b.request) →
      AreWrites blocks b own

-- A complete read returns the bytes of the element as the drive had them in the one cycle in which it accepted the selection. The
-- drive has the block.
abbrev pub ReadsExactly : List Block → Begun → List Entry → Type 0
ReadsExactly blocks b part = (idn : Idn) (e : ℕ) (bytes : List ℕ) → b.request ≡ request.Read idn e →
    outcome_of b.request b.answers ≡ Some (outcome.Complete bytes) →
    (block : Block) × (find_block idn.raw blocks ≡ Some block) × (selection : Entry) ×
    (entry_behind (steps_before e) part ≡ Some selection) × IsReadAt idn.raw e block bytes selection.processed

-- A complete setting of a procedure command returns the data status as the drive had it in the cycle in which it accepted the last
-- step that reads it.
abbrev pub EndsExactly : Begun → List Entry → Type 0
EndsExactly b part = (idn : Idn) (bytes : List ℕ) → b.request ≡ request.Command idn →
    outcome_of b.request b.answers ≡ Some (outcome.Complete bytes) → GivesStatus idn.raw bytes part

-- the entries of a transfer are all of one phase
abbrev pub AreInPhase : ℕ → List Entry → Type 0
AreInPhase phase [] = Unit {0}
AreInPhase phase (e ∷ entries) = AreInPhase phase entries × (e.processed.phase ≡ phase)

-- A transfer is exact with its part of what the drive accepted and of its writes.
pub record IsExact (blocks : List Block) (b : Begun) (part : List Entry) (own : List Write) : Type 0 where
  pub part_of : IsPart b part
  pub in_phase : (phase : ℕ) × AreInPhase phase part
  pub writes : AreWrites blocks b own
  pub reads : ReadsExactly blocks b part
  pub ends : EndsExactly b part

-- The requests in the order begun, the steps that the drive accepted and its writes go side by side: the last two are the parts of
-- all transfers, one after the other, and nothing else.
abbrev pub AreExact : List Block → List Begun → List Entry → List Write → Type 0
AreExact blocks [] entries writes = (entries ≡ []) × (writes ≡ [])
AreExact blocks (b ∷ past) entries writes =
    (part : List Entry) × (rest : List Entry) × (own : List Write) × (others : List Write) × (entries ≡ part ++ rest) ×
    (writes ≡ own ++ others)
    × IsExact blocks b part own × AreExact blocks past rest others

-- After every cycle of a run all transfers that were begun so far are exact, through all epochs.
abbrev pub RunsAreExact : ℕ → Type 0
RunsAreExact busy = (blocks : List Block) (past : List View) → AreSmall blocks → IsRun busy past → AreSound blocks past →
    AreExact blocks (all_begun past) (all_entries past) (all_writes past)
