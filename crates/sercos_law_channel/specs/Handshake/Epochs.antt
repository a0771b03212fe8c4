-- The epochs of the master, and what both ends have of them. An epoch begins with the first cycle, with each cycle after a fall,
-- and with each cycle in which the master restarts. Each list has its newest item first.
use Rattle.std.specs.Prelude.{ℕ, ◌+◌, ◌==◌, not, ◌&&◌, if◌then◌else◌, List, [], ◌∷◌, Option, Some, None}
use Rattle.sercos_step.specs.declared.request.Request.{Request}
use Rattle.sercos_service_drive.specs.Log.{Processed, Entry}
use Rattle.sercos_service_drive.specs.Replies.{log_of}
use Rattle.sercos_service_master.specs.Begun.{Begun}
use Rattle.sercos_law_channel.specs.Handshake.Moves.{with_status}
use Rattle.sercos_law_channel.specs.Handshake.Views.{Heard, View, processed_in, with_record}

-- the phase that is commanded in the next cycle, unless the master restarts in it
abbrev pub command : List View → ℕ
command [] = 0
command (v ∷ past) = if v.falls then 0 else (if v.rises then v.phase + 1 else v.phase)

-- the phase that is commanded in a cycle
abbrev pub command_in : View → List View → ℕ
command_in v past = if v.master_restarts then 0 else command past

-- how many MSTs in a row came back whole, up to now, in phase 0 of this epoch
abbrev pub whole_row : List View → ℕ
whole_row [] = 0
whole_row (v ∷ past) = if v.whole && ((v.phase == 0) && not v.falls) then (if v.master_restarts then 0 else whole_row past) + 1 else 0

-- the requests that were begun, with an AT that is received, and with a request that is begun
abbrev pub with_heard : Option Heard → List Begun → List Begun
with_heard None begun = begun
with_heard (Some a) begun = with_status a.status a.word begun

abbrev pub with_begun : Option Request → List Begun → List Begun
with_begun None begun = begun
with_begun (Some r) begun = (record { request = r; answers = [] }) ∷ begun

-- a restart of the master leaves nothing
abbrev pub unless_restart : {A : Type 0} → View → List A → List A
unless_restart v xs = if v.master_restarts then [] else xs

-- The requests that were begun in this epoch, with the answers that the master took: in a cycle, before it may fall, and at the
-- end of all cycles.
abbrev pub begun_by_then : View → List Begun → List Begun
begun_by_then v begun = with_begun v.begins (with_heard v.heard (unless_restart v begun))

abbrev pub epoch_begun : List View → List Begun
epoch_begun [] = []
epoch_begun (v ∷ past) = if v.falls then [] else begun_by_then v (epoch_begun past)

abbrev pub begun_in : View → List View → List Begun
begun_in v past = begun_by_then v (epoch_begun past)

-- The records that the drive processed in this epoch, also those before a reset of the drive, and what it accepted of them: again
-- in a cycle, before the master may fall, and at the end of all cycles.
abbrev pub epoch_records : List View → List Processed
epoch_records [] = []
epoch_records (v ∷ past) = if v.falls then [] else with_record (processed_in v past) (unless_restart v (epoch_records past))

abbrev pub records_in_views : View → List View → List Processed
records_in_views v past = with_record (processed_in v past) (unless_restart v (epoch_records past))

abbrev pub epoch_log : List View → List Entry
epoch_log past = log_of (epoch_records past)

abbrev pub log_in : View → List View → List Entry
log_in v past = log_of (records_in_views v past)
