-- In how many cycles the requests of an epoch have an open step, at most. Each list has its newest item first.
use Rattle.std.specs.Prelude.{◌≡◌, ◌⊎◌, true, ℕ, ◌+◌, ◌*◌, ◌<◌, ◌≤◌, ◌==◌, if◌then◌else◌, List, [], ◌∷◌, ◌++◌, length, Option, Some, None}
use Rattle.sercos_idn.specs.Codes.{is_list}
use Rattle.sercos_idn.specs.Elements.{attribute_element, data_element}
use Rattle.sercos_idn.specs.Commands.{running_status}
use Rattle.sercos_step.specs.declared.shape.Shape.{Shape}
use Rattle.sercos_step.specs.declared.shape.Shape.TheVariants as shape
use Rattle.sercos_step.specs.declared.request.Request.{Request}
use Rattle.sercos_step.specs.declared.request.Request.TheVariants as request
use Rattle.sercos_step.specs.Words.{shape_of, shape_by, words_told}
use Rattle.sercos_block.specs.declared.block.Block.{Block}
use Rattle.sercos_block.specs.Stores.{find_block}
use Rattle.sercos_command.specs.Calls.{status_in}
use Rattle.sercos_service_drive.specs.Log.{Entry}
use Rattle.sercos_service_drive.specs.Writes.{Write}
use Rattle.sercos_service_master.specs.Begun.{Begun, answers_in}
use Rattle.sercos_law_channel.specs.Handshake.Views.{View}
use Rattle.sercos_law_channel.specs.Handshake.Epochs.{epoch_begun, epoch_log}
use Rattle.sercos_law_channel.specs.Handshake.Runs.{IsRun}
use Rattle.sercos_law_channel.specs.Handshake.WholeRun.{all_writes, AreSound, AreSmall}
use Rattle.sercos_law_channel.specs.Pace.Stretches.{AreClean, open_since}

-- Steps that were accepted one after the other are busy time and one apart.
abbrev pub AreSpaced : ℕ → List Entry → Type 0
AreSpaced busy [] = Unit {0}
AreSpaced busy (e ∷ []) = Unit {0}
AreSpaced busy (e ∷ d ∷ log) = AreSpaced busy (d ∷ log) × (d.processed.cycle + (busy + 1) ≤ e.processed.cycle)

-- So are those of an epoch, in every run.
abbrev pub SpacesSteps : ℕ → Type 0
SpacesSteps busy = (past : List View) → IsRun busy past → AreSpaced busy (epoch_log past)

-- the cycle of the newest write to an identifier number
abbrev pub newest_at : ℕ → List Write → Option ℕ
newest_at raw [] = None
newest_at raw (w ∷ writes) = if w.raw == raw then Some w.cycle else newest_at raw writes

-- A procedure command that runs in a cycle, with the data status of a running command, was set by the newest write to it, and runs no
-- longer than `time` cycles.
abbrev pub IsTimed : ℕ → View → List View → Type 0
IsTimed time v past = (raw : ℕ) → status_in v.commands raw (length past) ≡ running_status →
    (set : ℕ) × (newest_at raw (all_writes past) ≡ Some set) × (length past < set + time)

abbrev pub AreTimed : ℕ → List View → Type 0
AreTimed time [] = Unit {0}
AreTimed time (v ∷ past) = AreTimed time past × IsTimed time v past

-- The most steps of a transfer, by the attribute of the block. To a block that the drive hasn't it ends with its opening. A read of
-- operation data takes four steps for one word, five for two, and for a list five and one for each word, of which there are at most
-- `longest`. A read of the attribute takes three, any other read no more than any read. A write takes one step for each of its words,
-- one to open it and, for operation data, two for the attribute.
abbrev pub value_steps : ℕ → Shape → ℕ
value_steps longest shape.One = 4
value_steps longest shape.Two = 5
value_steps longest shape.List = 5 + longest

abbrev pub read_steps : ℕ → ℕ → Option Block → ℕ
read_steps longest e None = 1
read_steps longest e (Some b) = if e == attribute_element then 3
    else (if e == data_element then value_steps longest (shape_by b.attribute.length) else 517)

abbrev pub write_steps : ℕ → List ℕ → Option Block → ℕ
write_steps e bytes None = 1
write_steps e bytes (Some b) = if e == data_element then 3 + length (words_told (shape_by b.attribute.length) bytes)
    else 1 + length (words_told (shape_of e 0) bytes)

-- Each list has at most as many words as `longest` allows for its identifier number, or `longest` allows as many as any list has.
abbrev pub IsListed : (ℕ → ℕ) → List Block → Type 0
IsListed longest blocks = (raw : ℕ) (b : Block) → find_block raw blocks ≡ Some b → is_list b.attribute.length ≡ true →
    (length b.value ≤ 2 * longest raw) ⊎ (512 ≤ longest raw)

abbrev pub AreListed : (ℕ → ℕ) → List View → Type 0
AreListed longest [] = Unit {0}
AreListed longest (v ∷ past) = AreListed longest past × IsListed longest v.blocks

-- The cost of a request: busy time and one for each of its steps. A command costs the time that it runs and four steps.
abbrev pub cost_of : ℕ → ℕ → (ℕ → ℕ) → List Block → Request → ℕ
cost_of busy time longest blocks (request.Read idn e) = (busy + 1) * read_steps (longest idn.raw) e (find_block idn.raw blocks)
cost_of busy time longest blocks (request.Write idn e bytes) = (busy + 1) * write_steps e bytes (find_block idn.raw blocks)
cost_of busy time longest blocks (request.Command idn) = time + 4 * (busy + 1)

-- the cost of all requests that were begun
abbrev pub cost_in : (Request → ℕ) → List Begun → ℕ
cost_in cost [] = 0
cost_in cost (b ∷ begun) = cost b.request + cost_in cost begun

-- The steps that the drive accepted in an epoch cost no more than its requests.
abbrev pub StaysInCost : ℕ → Type 0
StaysInCost busy = (time : ℕ) (longest : ℕ → ℕ) (blocks : List Block) (past : List View) → AreSmall blocks → IsRun busy past →
    AreSound blocks past → AreTimed time past → AreListed longest past →
    (busy + 1) * length (epoch_log past) ≤ cost_in (cost_of busy time longest blocks) (epoch_begun past)

-- So do the cycles with an open step of a stretch in which nothing is lost, together with busy time and one for each answer before the
-- stretch.
abbrev pub OpensInCost : ℕ → Type 0
OpensInCost busy = (time : ℕ) (longest : ℕ → ℕ) (blocks : List Block) (cycles past : List View) → AreSmall blocks →
    IsRun busy (cycles ++ past) → AreSound blocks (cycles ++ past) → AreTimed time (cycles ++ past) →
    AreListed longest (cycles ++ past) → AreClean cycles past →
    open_since cycles past + (busy + 1) * length (answers_in (epoch_begun past)) ≤
    cost_in (cost_of busy time longest blocks) (epoch_begun (cycles ++ past))
