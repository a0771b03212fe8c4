-- A master that is held, or none.
use Rattle.std.specs.Prelude.{◌≡◌, ◌⊎◌, Result, Ok, Err, ℕ, ◌+◌, Bool, true, false, List, [], ◌∷◌, Option, Some, None}
use Rattle.sercos_block.specs.Rings.{wishes_of}
use Rattle.sercos_config.specs.Views.{DocumentView}
use Rattle.sercos_config.specs.Document.{document_of}
use Rattle.sercos_trace.specs.Views.{EventsView}
use Rattle.sercos_seat.specs.Ring.{known_of, tasks_for}
use Rattle.sercos_master.specs.declared.master.AnyMaster.{AnyMaster}
use Rattle.sercos_master.specs.Annals.{Call, HearMst, HearAt, Mdt, End, Restart, Past, past}
use Rattle.sercos_master.specs.Any.{AnyStandsFor}
use Rattle.sercos_master.specs.Reports.{events_told, restart_told}
use Rattle.sercos_master.specs.Says.{Sent}
use Rattle.sercos_drive.specs.Kept.{counted}
use Rattle.sercos_c.specs.Records.{no_events, silent_record}
use Rattle.sercos_document.specs.declared.refusal.BadDocument.{BadDocument}
use Rattle.sercos_document.specs.declared.refusal.BadDocument.TheVariants as bad
use Rattle.sercos_c.specs.Statuses.{done, answer_no, refused}
use Rattle.sercos_c.specs.Documents.{document_status}
use Rattle.sercos_c.specs.Room.{IsPut, IsNothing}
use Rattle.sercos_c.specs.declared.master_station.MasterStation.{MasterStation}
use Rattle.sercos_c.specs.declared.station.Station.{Station}
use Rattle.sercos_c.specs.declared.station.Station.TheVariants as station

-- what the master has received, after these calls, the newest first
abbrev pub past_of : DocumentView → List Call → Past
past_of d h = past (known_of d.setup) (tasks_for (known_of d.setup) d.jobs) h

-- how many cycles have ended
abbrev pub ends : List Call → ℕ
ends [] = 0
ends (End ∷ h) = ends h + 1
ends (HearMst content ∷ h) = ends h
ends (HearAt content ∷ h) = ends h
ends (Mdt ∷ h) = ends h
ends (Restart ∷ h) = ends h

-- what the master reported in the cycle that ended last, or in a restart since; none before
abbrev pub reported : DocumentView → List Call → EventsView
reported d [] = no_events
reported d (End ∷ h) = events_told (known_of d.setup) (past_of d h) no_events
reported d (Restart ∷ h) = restart_told (known_of d.setup) (past_of d h) no_events
reported d (HearMst content ∷ h) = reported d h
reported d (HearAt content ∷ h) = reported d h
reported d (Mdt ∷ h) = reported d h

-- and the number of that cycle
abbrev pub reported_in : List Call → ℕ
reported_in [] = 0
reported_in (End ∷ h) = counted (ends h)
reported_in (Restart ∷ h) = counted (ends h)
reported_in (HearMst content ∷ h) = reported_in h
reported_in (HearAt content ∷ h) = reported_in h
reported_in (Mdt ∷ h) = reported_in h

abbrev pub StandsFor : Option AnyMaster → DocumentView → List Call → Type 0
StandsFor None d h = ⊥
StandsFor (Some m) d h = AnyStandsFor m (known_of d.setup) d.jobs h

-- A master stands for its calls since it was opened from a document, and holds what it reported.
pub record MasterStandsFor (m : MasterStation) (d : DocumentView) (h : List Call) : Type 0 where
  pub stands : StandsFor m.master d h
  pub wishes_is : m.wishes ≡ wishes_of d.setup
  pub record_is : m.record.value ≡ silent_record (reported_in h) (reported d h)
  pub ended_is : m.ended ≡ counted (ends h)

-- whether it is one
abbrev pub is_master : Option Station → Bool
is_master (Some (station.Master m)) = true
is_master _ = false

-- a master is held, and it stands for these calls
abbrev pub HoldsMaster : Option Station → DocumentView → List Call → Type 0
HoldsMaster (Some (station.Master m)) d h = MasterStandsFor m d h
HoldsMaster _ d h = ⊥

-- an MDT was written to the front of a room, and its start is reported; or none is sent, and nothing was written
abbrev pub IsSent : Option Sent → List ℕ → List ℕ → ℕ → ℕ → ℕ → ℕ → Type 0
IsSent None before after count at at' result = IsNothing answer_no before after count result × (at' ≡ at)
IsSent (Some s) before after count at at' result = IsPut s.content before after count result × (at' ≡ s.start)

-- the bytes are a document, and the master of its ring is held, before its first call
pub record OpensMaster (bytes : List ℕ) (held : Option Station) : Type 0 where
  pub document : DocumentView
  pub is : document_of bytes ≡ Ok document
  pub stands : HoldsMaster held document []

-- what opening it gives: the master, or why there is none
abbrev pub IsMasterOpening : List ℕ → Result MasterStation BadDocument → Type 0
IsMasterOpening bytes (Ok m) = (document_status (document_of bytes) ≡ done) × OpensMaster bytes (Some (station.Master m))
IsMasterOpening bytes (Err why) = (why ≡ bad.Memory) ⊎ (document_status (document_of bytes) ≡ refused)
