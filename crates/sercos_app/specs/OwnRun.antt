-- The replay of the trace that `run` writes.
use Rattle.std.specs.Prelude.{◌≡◌, ℕ, ◌≤◌, List, length, Option, Some, None, Ok}
use Rattle.std.specs.Io.KnownBytes.{Appends}
use Rattle.sercos_script.specs.Links.{Carry, Restarts}
use Rattle.sercos_law_run.specs.Held.Opened.{IsOpened}
use Rattle.sercos_law_run.specs.Journal.Runs.{IsClear}
use Rattle.sercos_config.specs.Views.{DocumentView}
use Rattle.sercos_config.specs.Document.{document_of}
use Rattle.sercos_checking.specs.declared.verdict.Verdict.TheVariants.{Clean}
use Rattle.sercos_checking.specs.Checking.{verdict_of}
use Rattle.sercos_answer.specs.Lines.{lines_of}
use Rattle.sercos_replay.specs.Captured.{NeverDisturbed}
use Rattle.sercos_replay.specs.Divided.{divided}
use Rattle.sercos_replay.specs.Places.{PlaceView}
use Rattle.sercos_replay.specs.Stations.{Station, station_of, station_differs}
use Rattle.sercos_replay.specs.Asking.{Replays, cycles_in}
use Rattle.sercos_replay.specs.Replaying.{late_start, place_answer, place_text, replay_answer}
use Rattle.sercos_replay.specs.Undisturbed.{IsNoEarlier}
use Rattle.sercos_opened.specs.Kept.{carry_under, restarts_under, document_run}
use Rattle.sercos_app.specs.Running.{run_answer}

-- An input is a document, which has a station with this address, and as its capture what `run` writes of this document over a link.
pub record IsOwnRun (carry : Carry) (restarts : Restarts) (address : ℕ) (input : List ℕ) (d : DocumentView) : Type 0 where
  pub document : List ℕ
  pub capture : List ℕ
  pub divides : divided input ≡ Some (document, capture)
  pub says : document_of document ≡ Ok d
  pub written : capture ≡ (run_answer carry restarts document).output
  pub station : Station
  pub has_station : station_of address d ≡ Some station

-- No cycle of the run of a document over a link is disturbed.
abbrev pub IsCalm : Carry → Restarts → DocumentView → Type 0
IsCalm carry restarts d = NeverDisturbed d.setup (carry_under d carry) (restarts_under d restarts) (document_run carry restarts d)

-- `check` finds a capture clean, it begins with cycle 0, and the replay of the station agrees in all its cycles.
pub record AgreesThroughout (address : ℕ) (input capture : List ℕ) : Type 0 where
  pub clean : verdict_of capture ≡ Clean (length (lines_of capture))
  pub starts : late_start capture ≡ None
  pub replays : replay_answer address input ≡ place_answer None (length (cycles_in capture))

-- This holds of what `run` writes of the document over any link, if no cycle of that run is disturbed.
abbrev pub OwnRunAgrees : ℕ → List ℕ → Type 0
OwnRunAgrees address input = (carry : Carry) (restarts : Restarts) (d : DocumentView) (own : IsOwnRun carry restarts address input d) →
    IsCalm carry restarts d → AgreesThroughout address input own.capture

-- And whatever is disturbed or undetected in that run, the first place that differs is in none of its cycles before the first disturbed
-- one.
abbrev pub OwnRunDiffers : ℕ → List ℕ → Type 0
OwnRunDiffers address input = (carry : Carry) (restarts : Restarts) (d : DocumentView) (own : IsOwnRun carry restarts address input d)
    (place : PlaceView) → station_differs own.station (cycles_in own.capture) ≡ Some place →
    IsNoEarlier d.setup (carry_under d carry) (restarts_under d restarts) (document_run carry restarts d) place

-- If nothing is undetected in it, `check` finds it clean.
abbrev pub OwnRunIsClean : ℕ → List ℕ → Type 0
OwnRunIsClean address input = (carry : Carry) (restarts : Restarts) (d : DocumentView) (own : IsOwnRun carry restarts address input d) →
    IsClear (document_run carry restarts d) → verdict_of own.capture ≡ Clean (length (lines_of own.capture))

pub record OwnRunHolds (address : ℕ) (input : List ℕ) : Type 0 where
  pub agrees : OwnRunAgrees address input
  pub differs : OwnRunDiffers address input
  pub clean : OwnRunIsClean address input

-- What was appended is the first place that differs in an own run. It is in no cycle before the first disturbed one.
pub record DiffersNoEarlier {carry : Carry} {restarts : Restarts} {address : ℕ} {input : List ℕ} {d : DocumentView}
    (own : IsOwnRun carry restarts address input d) (held held' : Option (List ℕ)) : Type 0 where
  pub place : PlaceView
  pub first : station_differs own.station (cycles_in own.capture) ≡ Some place
  pub no_earlier : IsNoEarlier d.setup (carry_under d carry) (restarts_under d restarts) (document_run carry restarts d) place
  pub written : Appends held held' (place_text place)

-- A document may be opened with its requests, which are at most 4,096. Each document that is read may.
pub record MayBeOpened (d : DocumentView) : Type 0 where
  pub opened : IsOpened d.setup d.jobs
  pub few : length d.jobs ≤ 4096

abbrev pub OpensIfRead : List ℕ → Type 0
OpensIfRead document = (d : DocumentView) → document_of document ≡ Ok d → MayBeOpened d

-- the same of the document of an input, if a line divides it
abbrev pub OpensItsRing : List ℕ → Type 0
OpensItsRing input = (document capture : List ℕ) → divided input ≡ Some (document, capture) → OpensIfRead document

-- The law: if the document of an input may be opened, all this holds of its own run.
abbrev pub OwnRunsHold : Type 0
OwnRunsHold = (address : ℕ) (input : List ℕ) → OpensItsRing input → OwnRunHolds address input

-- What the answer of `replay` promises beside its text: when each status is returned, and what holds of an own run.
pub record ReplaysItsRing (address : ℕ) (input : List ℕ) : Type 0 where
  pub replays : Replays address input
  pub own : OwnRunHolds address input
