-- The telegrams of a cycle: their entries in the record, and their effect. Used in proofs only.
use Rattle.std.specs.Prelude.{◌≡◌, ℕ, ◌+◌, ◌<◌, length, slice_index, slice_index_or, List, [], ◌∷◌, ◌++◌, Option, Some, None}
use Rattle.sercos_step.specs.declared.request.Job.{Job}
use Rattle.sercos_block.specs.Views.{DriveView, RingView}
use Rattle.sercos_trace.specs.Views.{SentView}
use Rattle.sercos_drive.specs.Heard.{DriveCall}
use Rattle.sercos_drive.specs.Says.{Said, drive_says}
use Rattle.sercos_seat.specs.Ring.{Known}
use Rattle.sercos_master.specs.declared.master.AnyMaster.{AnyMaster}
use Rattle.sercos_master.specs.Annals.{Call}
use Rattle.sercos_master.specs.Any.{AnyStandsFor}
use Rattle.sercos_script.specs.Links.{Carry}
use Rattle.sercos_law_run.specs.Journal.Runs.{ats_said, at_calls, unseen_ats, contents, station_of}
use Rattle.sercos_ring.specs.declared.turns.AtTurn.{AtTurn}

-- what the drives at these turns send
abbrev pub with_first : Option Said → List Said → List Said
with_first None others = others
with_first (Some s) others = s ∷ others

abbrev pub said_by : (ℕ → DriveView) → ℕ → (ℕ → List DriveCall) → List AtTurn → List Said
said_by d rate h [] = []
said_by d rate h (t ∷ turns) = with_first (drive_says (d t.place) rate (h t.place)) (said_by d rate h turns)

-- the effect of ATs that were sent: they are in the record, the master has processed what arrived,
-- and the undetected ones are counted
pub record AreSent (r : RingView) (carry : Carry) (cycle rate : ℕ)
    (ats : List Said) (before after : List SentView) (old new : AnyMaster) (unseen : ℕ) : Type 0 where
  pub sent : after ≡ before ++ ats_said rate ats
  pub heard : (s : Known) (jobs : List Job) (h : List Call) → AnyStandsFor old s jobs h →
      AnyStandsFor new s jobs (at_calls r carry cycle (contents ats) h)
  pub count : unseen ≡ unseen_ats r carry cycle (contents ats)

-- the drive at each of these turns sends something, and its address is that of its station
pub record IsTurn (n : ℕ) (d : ℕ → DriveView) (rate : ℕ) (h : ℕ → List DriveCall) (r : RingView) (t : AtTurn) : Type 0 where
  pub says : Said
  pub inside : t.place < n
  pub start_is : says.start ≡ t.start
  pub said : drive_says (d t.place) rate (h t.place) ≡ Some says
  pub station : station_of r (slice_index says.content 0) ≡ t.place + 1

abbrev pub AreTurns : ℕ → (ℕ → DriveView) → ℕ → (ℕ → List DriveCall) → RingView → List AtTurn → Type 0
AreTurns n d rate h r turns = (i : ℕ) (t : AtTurn) → i < length turns → IsTurn n d rate h r (slice_index_or turns i t)
