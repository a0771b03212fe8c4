-- Where a station first deviated from its rules, given all that the capture has before that place.
use Rattle.std.specs.Prelude.{ℕ, ◌*◌, pos, ◌==◌, Bool, ◌||◌, if◌then◌else◌, List, [], ◌∷◌, Option, Some, None, is_some, option_map, slice_index}
use Rattle.std.specs.List.{find}
use Rattle.std.specs.Option.{option_or}
use Rattle.sercos_telegram.specs.declared.layout.Kind.TheVariants as telegram
use Rattle.sercos_step.specs.declared.request.Job.{Job}
use Rattle.sercos_block.specs.Views.{DriveView}
use Rattle.sercos_trace.specs.Views.{SentView}
use Rattle.sercos_drive.specs.Heard.{DriveCall, Mst, Mdt}
use Rattle.sercos_drive.specs.Says.{Said, drive_says}
use Rattle.sercos_seat.specs.Ring.{Known, tasks_for}
use Rattle.sercos_master.specs.Annals.{Past, Call, HearMst, HearAt, End, past}
use Rattle.sercos_master.specs.Annals as master
use Rattle.sercos_master.specs.Says.{Sent, mst_said, mdt_said}
use Rattle.sercos_law_run.specs.Journal.Runs.{sent_at, sent_mst}
use Rattle.sercos_replay.specs.Cycles.{Cycle}
use Rattle.sercos_replay.specs.Places.{PlaceView, if_differs, telegram_at}

abbrev pub content_of : SentView → List ℕ
content_of s = s.content

-- A DRIVE gets each MST and each MDT as the capture has it. It never restarts.
abbrev pub drive_calls : List Cycle → List DriveCall
drive_calls [] = []
drive_calls (t ∷ j) = Mdt (option_map content_of t.mdt) ∷ Mst t.cycle (Some t.mst.content) ∷ drive_calls j

-- up to the place of the ATs
abbrev pub mst_calls : Cycle → List Cycle → List DriveCall
mst_calls t j = Mst t.cycle (Some t.mst.content) ∷ drive_calls j

-- the AT with its address
abbrev pub is_of : ℕ → SentView → Bool
is_of address s = slice_index s.content 0 == address

abbrev pub at_found : DriveView → Cycle → Option SentView
at_found d t = find (is_of d.address) t.ats

abbrev pub at_place_of : ℕ → ℕ → Option Said → Option SentView → PlaceView
at_place_of rate cycle said found =
    record { cycle = cycle; kind = telegram.At; expected = option_map (λ (s : Said). sent_at rate s.start s.content) said; found = found }

abbrev pub at_place : DriveView → ℕ → Cycle → List Cycle → PlaceView
at_place d rate t j = at_place_of rate t.cycle (drive_says d rate (mst_calls t j)) (at_found d t)

-- the first of its places that differs
abbrev pub drive_differs : DriveView → ℕ → List Cycle → Option PlaceView
drive_differs d rate [] = None
drive_differs d rate (t ∷ j) = option_or (drive_differs d rate j) (if_differs (at_place d rate t j))

-- THE MASTER receives each MST as its own, come back whole, and each AT, in their order. It never restarts.
abbrev pub at_calls : List SentView → List Call → List Call
at_calls [] h = h
at_calls (s ∷ ats) h = at_calls ats (HearAt s.content ∷ h)

-- up to the place of the MDT, whose turn it is next, and with it
abbrev pub heard_calls : Cycle → List Call → List Call
heard_calls t h = at_calls t.ats (HearMst (Some t.mst.content) ∷ h)

abbrev pub mdt_calls : Cycle → List Call → List Call
mdt_calls t h = master.Mdt ∷ heard_calls t h

abbrev pub master_calls : List Cycle → List Call
master_calls [] = []
master_calls (t ∷ j) = End ∷ mdt_calls t (master_calls j)

abbrev pub looks_back : Known → List Job → List Call → Past
looks_back s jobs h = past s (tasks_for s jobs) h

abbrev pub mst_place_of : ℕ → Past → SentView → PlaceView
mst_place_of cycle p found = record { cycle = cycle; kind = telegram.Mst; expected = Some (sent_mst (mst_said p)); found = Some found }

abbrev pub mst_place : Known → List Job → Cycle → List Cycle → PlaceView
mst_place s jobs t j = mst_place_of t.cycle (looks_back s jobs (master_calls j)) t.mst

abbrev pub mdt_at : ℕ → Sent → SentView
mdt_at rate m = telegram_at telegram.Mdt m.content (pos (rate * m.start))

abbrev pub mdt_place_of : ℕ → ℕ → Option Sent → Option SentView → PlaceView
mdt_place_of rate cycle said found = record { cycle = cycle; kind = telegram.Mdt; expected = option_map (mdt_at rate) said; found = found }

abbrev pub mdt_place : Known → List Job → Cycle → List Cycle → PlaceView
mdt_place s jobs t j = mdt_place_of s.rate t.cycle (mdt_said s (looks_back s jobs (mdt_calls t (master_calls j)))) t.mdt

abbrev pub master_differs : Known → List Job → List Cycle → Option PlaceView
master_differs s jobs [] = None
master_differs s jobs (t ∷ j) =
    option_or (master_differs s jobs j) (option_or (if_differs (mst_place s jobs t j)) (if_differs (mdt_place s jobs t j)))

-- WHAT IS REPORTED while lines are added: the first place that differs, as soon as its telegram is there or the capture has one
-- of a later place. In the newest cycle the AT's place is passed with the MDT; the MDT's place is the last one.
abbrev pub if_passed : Bool → PlaceView → Option PlaceView
if_passed passed p = if passed then if_differs p else None

abbrev pub drive_tells : DriveView → ℕ → List Cycle → Option PlaceView
drive_tells d rate [] = None
drive_tells d rate (t ∷ j) = option_or (drive_differs d rate j) (if_passed (is_some (at_found d t) || is_some t.mdt) (at_place d rate t j))

abbrev pub master_tells : Known → List Job → List Cycle → Option PlaceView
master_tells s jobs [] = None
master_tells s jobs (t ∷ j) =
    option_or (master_differs s jobs j) (option_or (if_differs (mst_place s jobs t j)) (if_passed (is_some t.mdt) (mdt_place s jobs t j)))
