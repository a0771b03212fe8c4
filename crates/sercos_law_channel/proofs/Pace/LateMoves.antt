-- In a stretch in which nothing is lost, whatever went before, the answers come in time.
use Rattle.sercos_law_channel.proofs.Words.{◌≡◌, ℕ, ◌+◌, ◌<◌, ◌≤◌, List, ◌∷◌, Some, arith, Status, CommandHistory, Processed, Entry, log_of, channel_says, shown_by, Begun, open_in, steps_in, answers_in, AreInStep, Idle, Sent, Kept, log_steps, with_status, time_for}
use Rattle.sercos_law_channel.proofs.Pace.OnTime.{Starts, StartsFree, StartsNew, StartsBusy, Works, heard_works}
pub use Rattle.sercos_law_channel.proofs.Pace.OnTime.{Free as FreeLate, New as NewLate, Busy as BusyLate}

abbrev pub InTime : ℕ → ℕ → Type 0
InTime spent time = spent ≤ time

abbrev pub WorksLate : ℕ → ℕ → ℕ → List Begun → List Entry → Type 0
WorksLate busy c spent begun log = Works InTime busy c spent begun log

-- any past is a start
pub any_start : (busy c spent : ℕ) (begun : List Begun) (log : List Entry) → spent ≡ time_for busy (answers_in begun) → AreInStep begun log
    → ((e : Entry) (past : List Entry) → log ≡ e ∷ past → e.processed.cycle < c) → Starts InTime busy c spent begun log
any_start busy c spent begun log is (Idle none s a) earlier = StartsFree none (omega arith)
any_start busy c spent begun log is (Sent step opened s a) earlier = StartsNew step opened s (omega arith)
any_start busy c spent begun log is (Kept e past opened those s a) earlier = let less = earlier e past those in
    StartsBusy e past those opened s less (λ due. omega arith) (omega arith)

pub heard_late : (busy c spent : ℕ) (showing : CommandHistory) (status : Status) (word : ℕ) (begun : List Begun) (taken : List Processed)
    → shown_by status word ≡ channel_says busy c showing taken → (e : Entry) (past : List Entry) → AreInStep begun (log_of taken)
    → AreInStep (with_status status word begun) (log_of taken) →
    log_of taken ≡ e ∷ past → open_in begun ≡ Some e.processed.step → steps_in begun ≡ log_steps (log_of taken) → e.processed.cycle < c
    → spent ≤ time_for busy (answers_in begun) + (busy + 1) → spent + e.processed.cycle ≤ time_for busy (answers_in begun) + c
    → WorksLate busy c spent (with_status status word begun) (log_of taken)
heard_late busy c spent showing status word begun taken says e past before after those opened all earlier soon sum =
    heard_works InTime busy c spent showing status word begun taken says e past before after those opened all earlier (λ due. soon) sum
