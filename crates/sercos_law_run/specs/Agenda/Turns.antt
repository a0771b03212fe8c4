-- One drive after the other in phase 2, and all side by side in phases 3 and 4; none rests before its time.
use Rattle.std.specs.Prelude.{◌≡◌, ℕ, ◌<◌, true, false, List, [], ◌∷◌, length, Some, None, is_some}
use Rattle.std.specs.List.{All}
use Rattle.sercos_seat.specs.Ring.{Known, Task, HasLists, member}
use Rattle.sercos_seat.specs.Agenda.{is_ready}
use Rattle.sercos_seat.specs.Seats.{AreWaiting}
use Rattle.sercos_master.specs.Annals.{Call, Mdt, Past, outcomes, all_read, all_checked, is_idle, in_turn, still_waiting, past}
use Rattle.sercos_law_run.specs.Agenda.Reported.{AreNumbered}

-- In phase 2 a channel with an open transfer is that of the drive whose turn it is: so at most one has one.
abbrev pub HasTurn : Known → Past → ℕ → Type 0
HasTurn s p k = p.now.phase ≡ 2 → is_idle p k ≡ false → in_turn s p ≡ Some k

-- So it is after any calls, if the requests that wait are of phase 4.
abbrev pub WorkInTurn : Type 0
WorkInTurn = (s : Known) (requests : ℕ → List Task) (h : List Call) (k : ℕ) → ((j : ℕ) → AreWaiting (requests j)) → k < length s.drives →
    HasTurn s (past s requests h) k

-- In a cycle of phase 2, after the MDT's place, if there is no stop: each drive's check for phase 3 has ended well, or some channel has an
-- open transfer. If all reads have ended, the plan must have been made.
abbrev pub WorksInTwo : Type 0
WorksInTwo = (s : Known) (requests : ℕ → List Task) (h : List Call) → ((j : ℕ) → AreWaiting (requests j)) → All HasLists s.drives →
    let p : Past = past s requests (Mdt ∷ h) in
    p.now.phase ≡ 2 → p.stop ≡ None → (all_read s p ≡ true → is_some p.plan ≡ true) → all_checked s p ≡ false →
    (k : ℕ) × (k < length s.drives) × (is_idle p k ≡ false)

-- In a cycle of phase 3 each channel whose check for phase 4 hasn't ended well has one.
abbrev pub WorksInThree : Type 0
WorksInThree = (s : Known) (requests : ℕ → List Task) (h : List Call) (k : ℕ) → ((j : ℕ) → AreWaiting (requests j)) →
    All HasLists s.drives → k < length s.drives → let p : Past = past s requests (Mdt ∷ h) in
    p.now.phase ≡ 3 → p.stop ≡ None → is_some p.plan ≡ true → is_ready (member s k) (outcomes p k) ≡ false → is_idle p k ≡ false

-- In a cycle of phase 4 each channel with a request that still waits has one.
abbrev pub WorksInFour : Type 0
WorksInFour = (s : Known) (requests : ℕ → List Task) (h : List Call) (k : ℕ) → ((j : ℕ) → AreWaiting (requests j)) →
    ((j : ℕ) → AreNumbered (requests j)) → k < length s.drives → let p : Past = past s requests (Mdt ∷ h) in
    p.now.phase ≡ 4 → p.stop ≡ None → is_some p.plan ≡ true → is_idle p k ≡ true → still_waiting p k ≡ []
