-- Which cycles may follow others. Whatever the master does of its own choice is left open. Each list has its newest item first.
use Rattle.std.specs.Prelude.{◌≡◌, ℕ, ◌≤◌, ◌<◌, true, List, [], ◌∷◌, length, None, IsSome, IfSome}
use Rattle.sercos_service_drive.specs.Says.{shown_by, channel_says}
use Rattle.sercos_service_master.specs.Begun.{open_in, master_says}
use Rattle.sercos_law_channel.specs.Handshake.Views.{Heard, View, standing, stood_in, kept_in}
use Rattle.sercos_law_channel.specs.Handshake.Epochs.{command_in, whole_row, with_heard, unless_restart, epoch_begun, begun_in}

-- The drive sent an AT that is received: it got the MST, isn't in phase 0, and shows what its channel answers.
pub record IsShown (busy : ℕ) (a : Heard) (v : View) (past : List View) : Type 0 where
  pub got_mst : v.mst_comes ≡ true
  pub stands : 1 ≤ stood_in v (standing past)
  pub says : shown_by a.status a.word ≡ channel_says busy (length past) v.showing (kept_in v past)

-- A cycle follows these, if the drive is busy with each step for `busy` cycles.
pub record IsNext (busy : ℕ) (v : View) (past : List View) : Type 0 where
  -- the commanded phase is that of the cycles before, and 0 if the master restarts
  pub commanded : v.phase ≡ command_in v past
  -- what is received was sent
  pub heard : IfSome v.heard (λ a. IsShown busy a v past)
  -- a request is begun in phases 2 to 4 alone, and only if no step is open
  pub late : IsSome v.begins → 2 ≤ v.phase
  pub begins : IsSome v.begins → open_in (with_heard v.heard (unless_restart v (epoch_begun past))) ≡ None
  -- a record that is sent is that of the master's channel: the open step, or zeros
  pub sent : IfSome v.sent (λ s. s ≡ master_says (begun_in v past))
  -- phase 0 lasts until ten MSTs in a row came back whole
  pub ten : v.rises ≡ true → v.phase ≡ 0 → 10 ≤ whole_row (v ∷ past)
  -- the master rises only if no step is open, and up to phase 4
  pub rests : v.rises ≡ true → open_in (begun_in v past) ≡ None
  pub top : v.rises ≡ true → v.phase < 4

abbrev pub IsRun : ℕ → List View → Type 0
IsRun busy [] = Unit {0}
IsRun busy (v ∷ past) = IsRun busy past × IsNext busy v past
