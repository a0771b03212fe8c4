-- What is free in each cycle, and the run that such choices make, so that the laws of runs are not empty. The newest cycle is
-- first.
use Rattle.std.specs.Prelude.{ℕ, nat_le, nat_lt, Bool, false, not, ◌&&◌, ◌||◌, if◌then◌else◌, List, [], ◌∷◌, length, Option, Some, None, IfSome, is_none}
use Rattle.sercos_telegram.specs.declared.words.Status.{Status}
use Rattle.sercos_step.specs.declared.request.Request.{Request}
use Rattle.sercos_block.specs.declared.block.Block.{Block}
use Rattle.sercos_command.specs.Calls.{CommandHistory}
use Rattle.sercos_service_drive.specs.Says.{Shown, channel_says}
use Rattle.sercos_service_drive.specs.Writes.{AreAlike}
use Rattle.sercos_service_master.specs.Begun.{Begun, Said, open_in, master_says}
use Rattle.sercos_law_channel.specs.Handshake.Views.{Heard, View, standing, stood_in, kept_in}
use Rattle.sercos_law_channel.specs.Handshake.Epochs.{command, whole_row, with_heard, with_begun, unless_restart, epoch_begun}
use Rattle.sercos_law_channel.specs.Handshake.WholeRun.{IsSound}

-- Which stations restart; which telegrams arrive; whether the drive's check is passed; its blocks and procedure commands; the bits
-- of the status word that don't belong to the channel; the request that is begun if one may be; whether a record is sent; and
-- whether the master falls, or rises if it may.
pub record Choice : Type 0 where
  pub master_restarts : Bool
  pub drive_restarts : Bool
  pub mst_comes : Bool
  pub whole : Bool
  pub checked : Bool
  pub showing : CommandHistory
  pub others : Status
  pub at_comes : Bool
  pub wants : Option Request
  pub sends : Bool
  pub mdt_comes : Bool
  pub blocks : List Block
  pub commands : CommandHistory
  pub falls : Bool
  pub rises : Bool

-- a status with the bits that the drive shows, and others
abbrev pub status_with : Shown → Status → Status
status_with s others = record others { ahs = s.ahs; busy = s.busy; error = s.error; change = s.change }

-- the cycle with nothing received, begun or sent, and no rise
abbrev pub silent_by : Choice → List View → View
silent_by c past = record {
  phase = if c.master_restarts then 0 else command past;
  master_restarts = c.master_restarts;
  drive_restarts = c.drive_restarts;
  mst_comes = c.mst_comes;
  whole = c.whole;
  checked = c.checked;
  showing = c.showing;
  heard = None;
  begins = None;
  sent = None;
  mdt_comes = c.mdt_comes;
  blocks = c.blocks;
  commands = c.commands;
  falls = c.falls;
  rises = false;
}

-- what the drive shows, and what is received of it
abbrev pub shown_at : ℕ → Choice → List View → Shown
shown_at busy c past = channel_says busy (length past) c.showing (kept_in (silent_by c past) past)

abbrev pub heard_at : ℕ → Choice → List View → Option Heard
heard_at busy c past =
    if c.mst_comes && (c.at_comes && nat_le 1 (stood_in (silent_by c past) (standing past)))
    then Some (record { status = status_with (shown_at busy c past) c.others; word = (shown_at busy c past).word }) else None

-- the requests before and with the one that is begun
abbrev pub begun_before : ℕ → Choice → List View → List Begun
begun_before busy c past = with_heard (heard_at busy c past) (unless_restart (silent_by c past) (epoch_begun past))

abbrev pub begins_at : ℕ → Choice → List View → Option Request
begins_at busy c past = if nat_le 2 (silent_by c past).phase && is_none (open_in (begun_before busy c past)) then c.wants else None

abbrev pub begun_at : ℕ → Choice → List View → List Begun
begun_at busy c past = with_begun (begins_at busy c past) (begun_before busy c past)

abbrev pub sent_at : ℕ → Choice → List View → Option Said
sent_at busy c past = if c.sends then Some (master_says (begun_at busy c past)) else None

-- ten MSTs in a row came back whole with this one
abbrev pub has_ten : Choice → List View → Bool
has_ten c past = (c.whole && not c.falls) && nat_le 9 (if c.master_restarts then 0 else whole_row past)

abbrev pub rises_at : ℕ → Choice → List View → Bool
rises_at busy c past =
    (c.rises && is_none (open_in (begun_at busy c past))) &&
    (nat_lt (silent_by c past).phase 4 && (nat_le 1 (silent_by c past).phase || has_ten c past))

-- the cycle after these
abbrev pub view_by : ℕ → Choice → List View → View
view_by busy c past = record {
  phase = if c.master_restarts then 0 else command past;
  master_restarts = c.master_restarts;
  drive_restarts = c.drive_restarts;
  mst_comes = c.mst_comes;
  whole = c.whole;
  checked = c.checked;
  showing = c.showing;
  heard = heard_at busy c past;
  begins = begins_at busy c past;
  sent = sent_at busy c past;
  mdt_comes = c.mdt_comes;
  blocks = c.blocks;
  commands = c.commands;
  falls = c.falls;
  rises = rises_at busy c past;
}

abbrev pub run_by : ℕ → List Choice → List View
run_by busy [] = []
run_by busy (c ∷ choices) = view_by busy c (run_by busy choices) ∷ run_by busy choices

-- in each cycle the drive has these blocks, but for their operation data, and a request that is wanted is sound
abbrev pub AreSoundChoices : List Block → List Choice → Type 0
AreSoundChoices blocks [] = Unit {0}
AreSoundChoices blocks (c ∷ choices) = AreSoundChoices blocks choices × (AreAlike c.blocks blocks × IfSome c.wants (λ r. IsSound blocks r))
