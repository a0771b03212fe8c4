-- What a cycle sends is spelled as its telegrams are: whole frames, and words and elements that fit into their fields.
use Rattle.std.specs.Prelude.{◌≡◌, ℕ, ◌<◌, List, length, Some}
use Rattle.sercos_hdlc.specs.Stuffed.{frame_of}
use Rattle.sercos_step.specs.declared.request.Job.{Job}
use Rattle.sercos_block.specs.Views.{DriveView, RingView}
use Rattle.sercos_service_drive.specs.Says.{channel_says}
use Rattle.sercos_drive.specs.Heard.{DriveCall}
use Rattle.sercos_drive.specs.Moments.{Moment, cycle_in, records_in, commands_in}
use Rattle.sercos_drive.specs.Says.{Said as SaidByDrive, drive_says}
use Rattle.sercos_service_master.specs.Begun.{Said}
use Rattle.sercos_trace.specs.Views.{CycleView}
use Rattle.sercos_seat.specs.Ring.{known_of}
use Rattle.sercos_master.specs.Says.{Sent, said_to, mdt_said}
use Rattle.sercos_script.specs.Links.{Carry, Restarts}
use Rattle.sercos_law_run.specs.Journal.Arrivals.{content_in}
use Rattle.sercos_law_run.specs.Journal.Records.{mst_in}
use Rattle.sercos_law_run.specs.Journal.Runs.{drive_at, given_mst}
use Rattle.sercos_law_run.specs.Views.RingViews.{behind_mdt, after_mst}

-- the frame of a content returns it
abbrev pub IsWhole : List ℕ → Type 0
IsWhole content = content_in (frame_of content) ≡ Some content

-- this content is what one of the drives sends
pub record IsSaid (n : ℕ) (d : ℕ → DriveView) (rate : ℕ) (h : ℕ → List DriveCall) (content : List ℕ) : Type 0 where
  pub place : ℕ
  pub says : SaidByDrive
  pub inside : place < n
  pub said : drive_says (d place) rate (h place) ≡ Some says
  pub content_is : content ≡ says.content

-- the element and the word of what is sent fit into a record
abbrev pub IsSayable : Said → Type 0
IsSayable said = (said.step.element < 8) × (said.step.word < 65536)

-- In a cycle each telegram is whole, and the words that drives and master send fit into sixteen bits.
pub record IsSpelled (r : RingView) (jobs : List Job) (carry : Carry) (restarts : Restarts) (t : CycleView)
    (j : List CycleView) : Type 0 where
  pub mst : IsWhole (mst_in t.sent)
  pub ats : (content : List ℕ) → IsSaid (length r.drives) (drive_at r) r.rate (given_mst carry restarts t.sent j) content → IsWhole content
  pub mdt : (m : Sent) → mdt_said (known_of r) (behind_mdt r jobs carry restarts t.sent j) ≡ Some m → IsWhole m.content
  pub shown : (i : ℕ) → i < length r.drives → let past : List Moment = after_mst r carry restarts t.sent j i in
      (channel_says (drive_at r i).busy (cycle_in past) (commands_in (drive_at r i) r.rate past) (records_in past)).word < 65536
  pub said : (i : ℕ) → IsSayable (said_to (behind_mdt r jobs carry restarts t.sent j) i)
