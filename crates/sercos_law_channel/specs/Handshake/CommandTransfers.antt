-- What a transfer that sets a procedure command writes and returns, and what becomes of one to a data block that the drive
-- lacks. Each list has its newest item first.
use Rattle.std.specs.Prelude.{◌≡◌, ℕ, Bool, true, false, if◌then◌else◌, List, [], ◌∷◌, ◌++◌, Option, Some, None}
use Rattle.sercos_idn.specs.declared.attribute.Attribute.{Attribute}
use Rattle.sercos_idn.specs.declared.code.Code.{Code}
use Rattle.sercos_idn.specs.declared.idn.Idn.{Idn}
use Rattle.sercos_step.specs.declared.request.Request.{Request}
use Rattle.sercos_step.specs.declared.request.Request.TheVariants as request
use Rattle.sercos_step.specs.declared.request.Outcome.TheVariants as outcome
use Rattle.sercos_step.specs.Steps.{outcome_of}
use Rattle.sercos_block.specs.declared.block.Block.{Block}
use Rattle.sercos_block.specs.Blocks.{is_protected}
use Rattle.sercos_block.specs.Stores.{find_block}
use Rattle.sercos_command.specs.Calls.{status_in}
use Rattle.sercos_service_drive.specs.Log.{Entry}
use Rattle.sercos_service_drive.specs.Replies.{refused}
use Rattle.sercos_service_drive.specs.Writes.{Write, writes_of}
use Rattle.sercos_law_channel.specs.Handshake.InStep.{replies_of}
use Rattle.sercos_law_channel.specs.Handshake.Transfers.{IsTransfer, is_complete}

-- a setting of a procedure command, 3, or its cancel, 0, with an entry
abbrev pub setting : ℕ → ℕ → Entry → Write
setting raw value e = record { cycle = e.processed.cycle; raw = raw; bytes = value ∷ 0 ∷ [] }

-- the second of all entries, which sets the command: it adds the setting, if it isn't refused
abbrev pub second_of : List Entry → Option Entry
second_of [] = None
second_of (e ∷ []) = None
second_of (e ∷ d ∷ []) = Some e
second_of (e ∷ d ∷ c ∷ entries) = second_of (d ∷ c ∷ entries)

abbrev pub added_by_setting : ℕ → Option Entry → List Write
added_by_setting raw None = []
added_by_setting raw (Some e) = if e.answer.error then [] else setting raw 3 e ∷ []

-- the newest of them adds the cancel, if it completes the transfer
abbrev pub cancelled_by : ℕ → Bool → Entry → List Write
cancelled_by raw complete e = if complete then setting raw 0 e ∷ [] else []

-- A transfer that sets a procedure command adds the setting with its second step, the cancel with the step that completes
-- it, and nothing else.
abbrev pub SetsAndCancels : Type 0
SetsAndCancels = (idn : Idn) (blocks : List Block) (e : Entry) (entries log : List Entry) →
    IsTransfer (request.Command idn) blocks e entries log →
    writes_of ((e ∷ entries) ++ log) ≡
    cancelled_by idn.raw (is_complete (outcome_of (request.Command idn) (replies_of (e ∷ entries)))) e ++
    (added_by_setting idn.raw (second_of (e ∷ entries)) ++ writes_of log)

-- the operation data is write protected in the phase of each of these entries
abbrev pub AreProtected : Attribute → List Entry → Type 0
AreProtected a [] = Unit {0}
AreProtected a (e ∷ entries) = AreProtected a entries × (is_protected a e.processed.phase ≡ true)

-- Such a transfer that is refused adds no write, if the block is a procedure command, and isn't write protected at the
-- refusal, or was so at each step before. One of these holds if all steps come in one phase.
abbrev pub RefusedAddsNothing : Type 0
RefusedAddsNothing = (idn : Idn) (blocks : List Block) (b : Block) (e : Entry) (entries log : List Entry) (code : Code) →
    find_block idn.raw blocks ≡ Some b → b.attribute.command ≡ true →
    (is_protected b.attribute e.processed.phase ≡ true → AreProtected b.attribute entries) →
    IsTransfer (request.Command idn) blocks e entries log →
    outcome_of (request.Command idn) (replies_of (e ∷ entries)) ≡ Some (outcome.Refused code) →
    writes_of ((e ∷ entries) ++ log) ≡ writes_of log

-- These entries end with the cancel of a command and, before it, the step that reads its data status the last time. Its status
-- when the drive accepted that step is these bytes.
abbrev pub GivesStatus : ℕ → List ℕ → List Entry → Type 0
GivesStatus raw bytes part =
    (cancel : Entry) × (poll : Entry) × (before : List Entry) × (part ≡ cancel ∷ poll ∷ before) × (poll.processed.step.write ≡ false) ×
    (poll.processed.step.element ≡ 1)
    × (bytes ≡ status_in poll.processed.commands raw poll.processed.cycle ∷ 0 ∷ [])

-- Such a transfer that is complete returns the data status of the last step that reads it.
abbrev pub EndsWithStatus : Type 0
EndsWithStatus = (idn : Idn) (bytes : List ℕ) (blocks : List Block) (e : Entry) (entries log : List Entry) →
    IsTransfer (request.Command idn) blocks e entries log →
    outcome_of (request.Command idn) (replies_of (e ∷ entries)) ≡ Some (outcome.Complete bytes) → GivesStatus idn.raw bytes (e ∷ entries)

-- the identifier number of a request
abbrev pub idn_of : Request → Idn
idn_of (request.Read idn e) = idn
idn_of (request.Write idn e bytes) = idn
idn_of (request.Command idn) = idn

-- Where the drive hasn't the data block, a transfer is refused at its opening, with 0x1001, and adds no write.
abbrev pub RefusesUnknown : Type 0
RefusesUnknown = (r : Request) (blocks : List Block) (e : Entry) (entries log : List Entry) → find_block (idn_of r).raw blocks ≡ None →
    IsTransfer r blocks e entries log →
    (entries ≡ []) × (e.answer ≡ refused 0x1001)

abbrev pub WritesNowhere : Type 0
WritesNowhere = (r : Request) (blocks : List Block) (e : Entry) (entries log : List Entry) → find_block (idn_of r).raw blocks ≡ None →
    IsTransfer r blocks e entries log →
    writes_of ((e ∷ entries) ++ log) ≡ writes_of log
