-- What was begun, accepted and written in a whole run, through all epochs, resets and restarts, and the premises on the blocks
-- and the requests. Each list has its newest item first.
use Rattle.std.specs.Prelude.{◌≡◌, ℕ, ◌^◌, ◌<◌, ◌≤◌, Bool, true, if◌then◌else◌, List, [], ◌∷◌, ◌++◌, Option, Some, None, IfSome}
use mathlib.Core.Bool.{beq}
use Rattle.sercos_model.specs.Bits.{AreBytes}
use Rattle.sercos_step.specs.declared.request.Request.{Request}
use Rattle.sercos_step.specs.declared.request.Request.TheVariants as request
use Rattle.sercos_block.specs.declared.block.Block.{Block}
use Rattle.sercos_block.specs.Stores.{find_block}
use Rattle.sercos_service_drive.specs.Log.{Processed, Entry, ahs}
use Rattle.sercos_service_drive.specs.Replies.{reply_of, log_of}
use Rattle.sercos_service_drive.specs.Writes.{Write, AreAlike, with_added, added_on}
use Rattle.sercos_service_master.specs.Begun.{Begun}
use Rattle.sercos_law_channel.specs.Handshake.Views.{View, processed_in, kept_in}
use Rattle.sercos_law_channel.specs.Handshake.Epochs.{epoch_begun, begun_in}

-- The steps that the drive accepted, each with the reply to it. A record is dropped if its bit is that of the record before it
-- since the drive's reset.
abbrev pub accepted_of : Option Processed → List Processed → List Entry → List Entry
accepted_of None h entries = entries
accepted_of (Some t) h entries = if beq t.mhs (ahs h) then entries else (record { processed = t; answer = reply_of t (log_of h) }) ∷ entries

abbrev pub all_entries : List View → List Entry
all_entries [] = []
all_entries (v ∷ past) = accepted_of (processed_in v past) (kept_in v past) (all_entries past)

-- its writes
abbrev pub write_of : Option Processed → List Processed → Option Write
write_of None h = None
write_of (Some t) h = added_on t h

abbrev pub all_writes : List View → List Write
all_writes [] = []
all_writes (v ∷ past) = with_added (write_of (processed_in v past) (kept_in v past)) (all_writes past)

-- what an epoch leaves when it ends
abbrev pub leaving : {A : Type 0} → Bool → List A → List A → List A
leaving ends xs ago = if ends then xs ++ ago else ago

-- the requests of the epochs that have ended, and all that were begun, with the answers that the master took
abbrev pub begun_ago : List View → List Begun
begun_ago [] = []
begun_ago (v ∷ past) = leaving v.falls (begun_in v past) (leaving v.master_restarts (epoch_begun past) (begun_ago past))

abbrev pub all_begun : List View → List Begun
all_begun past = epoch_begun past ++ begun_ago past

-- What a ring keeps through the run.

-- A request reads one of the elements 1 to 7, or writes bytes to another than the first; or it sets a procedure command of the
-- drive, or a block that the drive hasn't.
abbrev pub IsSound : List Block → Request → Type 0
IsSound blocks (request.Read idn e) = (1 ≤ e) × (e ≤ 7)
IsSound blocks (request.Write idn e bytes) = (2 ≤ e) × AreBytes bytes
IsSound blocks (request.Command idn) = IfSome (find_block idn.raw blocks) (λ b. b.attribute.command ≡ true)

-- in each cycle the drive has these blocks, but for their operation data, and a request that is begun is sound
abbrev pub AreSound : List Block → List View → Type 0
AreSound blocks [] = Unit {0}
AreSound blocks (v ∷ past) = AreSound blocks past × (AreAlike v.blocks blocks × IfSome v.begins (λ r. IsSound blocks r))

-- the conversion factor of each block is a word
abbrev pub AreSmall : List Block → Type 0
AreSmall blocks = (raw : ℕ) (b : Block) → find_block raw blocks ≡ Some b → b.attribute.factor < 2 ^ 16
