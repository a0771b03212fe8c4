-- In phase 3 and later the checks for phase 3 have ended well, and in phase 4 those for phase 4.
use Rattle.sercos_law_run.proofs.Words.{◌≡◌, ℕ, ◌<◌, ◌≤◌, true, List, length, le-leb, is_checked, is_ready, Known, Task, member, Call, outcomes, past, configured, ready}

pub all_checked_in : (s : Known) (requests : ℕ → List Task) (h : List Call) → 3 ≤ (past s requests h).now.phase → (k : ℕ) → k < length s.drives → is_checked (member s k) (outcomes (past s requests h) k) ≡ true
all_checked_in s requests h high k low = configured s requests h k low (le-leb 3 (past s requests h).now.phase high)

pub all_ready_in : (s : Known) (requests : ℕ → List Task) (h : List Call) → 4 ≤ (past s requests h).now.phase → (k : ℕ) → k < length s.drives → is_ready (member s k) (outcomes (past s requests h) k) ≡ true
all_ready_in s requests h high k low = ready s requests h k low (le-leb 4 (past s requests h).now.phase high)
