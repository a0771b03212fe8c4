-- In which phase a drive is, and why, by what arrived at it. Each list of calls has its newest call first.
use Rattle.std.specs.Prelude.{◌≡◌, ◌⊎◌, ◌↔◌, ℕ, ◌+◌, ◌≤◌, nat_le, Bool, true, false, not, ◌&&◌, List, [], ◌∷◌, Option, Some, None, is_some}
use Rattle.sercos_block.specs.Views.{DriveView}
use Rattle.sercos_command.specs.Calls.{is_passed}
use Rattle.sercos_drive.specs.Heard.{DriveCall, Mst, Mdt, Restart, mst_got, mdt_got}
use Rattle.sercos_drive.specs.Moments.{calls_in}
use Rattle.sercos_drive.specs.Annals.{annals, phase_at, store_at}

-- the phase of the MST that was got at the newest MST's place; none if none was got there, or the drive restarted since
abbrev pub newest_got : List DriveCall → Option ℕ
newest_got [] = None
newest_got (Mst cycle content ∷ h) = mst_got content
newest_got (Mdt content ∷ h) = newest_got h
newest_got (Restart ∷ h) = None

-- the calls before the newest MST's place; none if the drive restarted since
abbrev pub before_newest : List DriveCall → List DriveCall
before_newest [] = []
before_newest (Mst cycle content ∷ h) = h
before_newest (Mdt content ∷ h) = before_newest h
before_newest (Restart ∷ h) = []

-- A phase is that of the MST that was got in this cycle; or of the one of the cycle before, if none was got in this one.
abbrev pub IsByMst : List DriveCall → ℕ → Type 0
IsByMst h phase = (newest_got h ≡ Some phase) ⊎ ((newest_got h ≡ None) × (newest_got (before_newest h) ≡ Some phase))

-- So is that of a drive that isn't in phase 0.
abbrev pub StandsByMst : Type 0
StandsByMst = (d : DriveView) (rate : ℕ) (h : List DriveCall) → 1 ≤ phase_at d rate h → IsByMst h (phase_at d rate h)

-- The check for a phase counts as passed in a cycle: that of S-0-0127 for phase 3, that of S-0-0128 for phase 4; none is needed for others.
abbrev pub HasPassed : DriveView → ℕ → ℕ → ℕ → List DriveCall → Type 0
HasPassed d rate cycle phase h =
    (phase ≡ 3 → is_passed rate d.command 127 (calls_in (annals d rate h)) cycle ≡ true)
    × (phase ≡ 4 → is_passed rate d.command 128 (calls_in (annals d rate h)) cycle ≡ true)

-- The drive rises: it gets an MST of the next phase, whose check is passed.
pub record Rises (d : DriveView) (rate : ℕ) (call : DriveCall) (h : List DriveCall) : Type 0 where
  pub cycle : ℕ
  pub content : Option (List ℕ)
  pub is_mst : call ≡ Mst cycle content
  pub got : mst_got content ≡ Some (phase_at d rate h + 1)
  pub passed : HasPassed d rate cycle (phase_at d rate h + 1) h
  pub next : phase_at d rate (call ∷ h) ≡ phase_at d rate h + 1

-- A call leaves the phase as it is, takes the drive to phase 0, or lets it rise by one.
abbrev pub RisesByOne : Type 0
RisesByOne = (d : DriveView) (rate : ℕ) (call : DriveCall) (h : List DriveCall) →
    (phase_at d rate (call ∷ h) ≡ phase_at d rate h) ⊎ ((phase_at d rate (call ∷ h) ≡ 0) ⊎ Rises d rate call h)

-- The drive is in phase 3 or 4 and takes no MDT: it got no MST in this cycle, or gets no MDT.
abbrev pub misses : DriveView → ℕ → Option (List ℕ) → List DriveCall → Bool
misses d rate content h =
    nat_le 3 (phase_at d rate h)
    && not (is_some (newest_got h) && is_some (mdt_got d.address (phase_at d rate h) (store_at d rate h) content))

-- so it was at the newest MDT's place, and the drive hasn't restarted since
abbrev pub missed_before : DriveView → ℕ → List DriveCall → Bool
missed_before d rate [] = false
missed_before d rate (Mst cycle content ∷ h) = missed_before d rate h
missed_before d rate (Mdt content ∷ h) = misses d rate content h
missed_before d rate (Restart ∷ h) = false

-- The causes for which a drive goes to phase 0: an MST of another phase than its own, unless that is the next one and its check is passed;
-- no MST for the second time in a row; in phases 3 and 4 no MDT taken for the second time in a row; a restart.
pub data Drops (d : DriveView) (rate : ℕ) (call : DriveCall) (h : List DriveCall) : Type 0 where
  ByPhase : (cycle phase : ℕ) → (content : Option (List ℕ)) → call ≡ Mst cycle content → mst_got content ≡ Some phase
      → (phase ≡ phase_at d rate h → ⊥)
      → (phase ≡ phase_at d rate h + 1 → HasPassed d rate cycle phase h → ⊥) → Drops d rate call h
  ByMst : (cycle : ℕ) → (content : Option (List ℕ)) → call ≡ Mst cycle content → mst_got content ≡ None → newest_got h ≡ None
      → Drops d rate call h
  ByMdt : (content : Option (List ℕ)) → call ≡ Mdt content → misses d rate content h ≡ true → missed_before d rate h ≡ true
      → Drops d rate call h
  ByRestart : call ≡ Restart → Drops d rate call h

-- It goes there for these causes, and for no other.
abbrev pub DropsByCause : Type 0
DropsByCause = (d : DriveView) (rate : ℕ) (call : DriveCall) (h : List DriveCall) → 1 ≤ phase_at d rate h
    → (phase_at d rate (call ∷ h) ≡ 0) ↔ Drops d rate call h
