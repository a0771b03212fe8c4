-- The promises of a replay's answer, in other words than the chain of its refusals.
use Rattle.std.specs.Prelude.{◌≡◌, ◌⊎◌, ℕ, List, length, Some, None, Ok}
use Rattle.sercos_io.specs.declared.status.Status.TheVariants.{Done, No}
use Rattle.sercos_config.specs.Views.{DocumentView}
use Rattle.sercos_config.specs.Document.{document_of}
use Rattle.sercos_checking.specs.declared.verdict.Verdict.TheVariants.{Clean, Violation}
use Rattle.sercos_checking.specs.Checking.{verdict_of}
use Rattle.sercos_replay.specs.Cycles.{Cycle, cycles_of}
use Rattle.sercos_replay.specs.Places.{PlaceView}
use Rattle.sercos_replay.specs.Divided.{divided}
use Rattle.sercos_replay.specs.Stations.{Station, station_of, station_differs, lines_read}
use Rattle.sercos_replay.specs.Replaying.{late_start, verdict_answer, place_answer, replay_answer}

-- An input is that of a replay of a station over a capture: its document has the station, and its capture is clean and begins with
-- cycle 0, if it has an MST.
pub record Asks (address : ℕ) (bytes : List ℕ) (s : Station) (capture : List ℕ) : Type 0 where
  pub document : List ℕ
  pub divides : divided bytes ≡ Some (document, capture)
  pub d : DocumentView
  pub says : document_of document ≡ Ok d
  pub has_station : station_of address d ≡ Some s
  pub count : ℕ
  pub clean : verdict_of capture ≡ Clean count
  pub starts : late_start capture ≡ None

abbrev pub cycles_in : List ℕ → List Cycle
cycles_in capture = cycles_of (lines_read capture)

-- It is that of a replay, and no place differs.
pub record Agrees (address : ℕ) (bytes : List ℕ) : Type 0 where
  pub s : Station
  pub capture : List ℕ
  pub asks : Asks address bytes s capture
  pub same : station_differs s (cycles_in capture) ≡ None

-- It is that of a replay, and a place differs: this is the first.
pub record Differs (address : ℕ) (bytes : List ℕ) : Type 0 where
  pub s : Station
  pub capture : List ℕ
  pub asks : Asks address bytes s capture
  pub place : PlaceView
  pub first : station_differs s (cycles_in capture) ≡ Some place

-- Its document has the station, and its capture begins with cycle 0, if it has an MST, and breaks a rule.
pub record Breaks (address : ℕ) (bytes : List ℕ) : Type 0 where
  pub document : List ℕ
  pub capture : List ℕ
  pub divides : divided bytes ≡ Some (document, capture)
  pub d : DocumentView
  pub says : document_of document ≡ Ok d
  pub s : Station
  pub has_station : station_of address d ≡ Some s
  pub line : ℕ
  pub rule : ℕ
  pub violation : verdict_of capture ≡ Violation line rule
  pub starts : late_start capture ≡ None

-- Done is returned iff the input is that of a replay and no place differs, and No iff one does, or the capture breaks a rule. Whenever
-- it is that of a replay, the answer is the first place that differs, or the number of cycles.
pub record Replays (address : ℕ) (bytes : List ℕ) : Type 0 where
  pub done : (replay_answer address bytes).status ≡ Done → Agrees address bytes
  pub agrees : Agrees address bytes → (replay_answer address bytes).status ≡ Done
  pub no : (replay_answer address bytes).status ≡ No → Differs address bytes ⊎ Breaks address bytes
  pub breaks : (b : Breaks address bytes) → replay_answer address bytes ≡ verdict_answer (Violation b.line b.rule)
  pub tells : (s : Station) (capture : List ℕ) → Asks address bytes s capture
      → replay_answer address bytes ≡ place_answer (station_differs s (cycles_in capture)) (length (cycles_in capture))
