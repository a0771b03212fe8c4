-- For how many cycles a step is open. Each list has its newest item first.
use Rattle.std.specs.Prelude.{◌≡◌, ℕ, ◌+◌, ◌*◌, ◌≤◌, ◌==◌, Bool, true, false, if◌then◌else◌, List, [], ◌∷◌, ◌++◌, length, Some, None, is_some}
use Rattle.sercos_service_drive.specs.Log.{Entry}
use Rattle.sercos_service_master.specs.Begun.{open_in, steps_in, answers_in, answers_it}
use Rattle.sercos_law_channel.specs.Handshake.Views.{Heard, View, standing}
use Rattle.sercos_law_channel.specs.Handshake.Epochs.{unless_restart, epoch_begun, begun_in, epoch_log}
use Rattle.sercos_law_channel.specs.Handshake.Runs.{IsRun}
use Rattle.sercos_law_channel.specs.Pace.Times.{AreUndisturbed}
use Rattle.sercos_law_channel.specs.Pace.Stretches.{AreClean, open_since}
use Rattle.sercos_law_channel.specs.Pace.Passages.{BeginsEpoch}

-- The age of the open step: at how many ends of cycles it was open, that of the cycle in which it was begun among them. It is 0 if no
-- step is open.
abbrev pub age_by : Bool → Bool → ℕ → ℕ
age_by is_open same age = if is_open then (if same then age + 1 else 1) else 0

abbrev pub age_in : List View → ℕ
age_in [] = 0
age_in (v ∷ past) =
    if v.falls then 0
    else age_by (is_some (open_in (begun_in v past))) (length (steps_in (begun_in v past)) ==
    length (steps_in (unless_restart v (epoch_begun past)))) (age_in past)

-- In a stretch in which nothing is lost no step gets older than busy time and one cycle, but for one that was open before the stretch:
-- that adds its age then.
abbrev pub AgesInTime : ℕ → Type 0
AgesInTime busy = (v : View) (cycles past : List View) → IsRun busy (v ∷ (cycles ++ past)) → AreClean (v ∷ cycles) past →
    age_in (v ∷ (cycles ++ past)) ≤ age_in past + (busy + 1)

-- From phase 0 of an epoch on, while nothing is lost, an answer arrives exactly busy time and one cycle after the cycle in which its step
-- was begun, and first sent.
abbrev pub AnswersAtAge : ℕ → Type 0
AnswersAtAge busy = (v : View) (a : Heard) (cycles past : List View) → IsRun busy (v ∷ (cycles ++ past)) → BeginsEpoch past →
    AreClean cycles past → v.master_restarts ≡ false →
    v.heard ≡ Some a → answers_it (epoch_begun (cycles ++ past)) a.status ≡ true → age_in (cycles ++ past) ≡ busy + 1

-- The open step of a drive in phase 0 gets a cycle older with each cycle commanded 2 to 4.
abbrev pub AgesWhereDead : ℕ → Type 0
AgesWhereDead busy = (v : View) (past : List View) → IsRun busy (v ∷ past) → (standing past).ended ≡ 0 → 2 ≤ v.phase → v.falls ≡ false →
    v.master_restarts ≡ false → is_some (open_in (epoch_begun past)) ≡ true →
    (age_in (v ∷ past) ≡ age_in past + 1) × (is_some (open_in (epoch_begun (v ∷ past))) ≡ true)

-- The channel never idles: a step is open at the end of each cycle of the stretch.
abbrev pub AreAtWork : List View → List View → Type 0
AreAtWork [] past = Unit {0}
AreAtWork (v ∷ cycles) past = AreAtWork cycles past × (is_some (open_in (begun_in v (cycles ++ past))) ≡ true)

-- Then the cycles with an open step are all of the stretch.
abbrev pub OpensAlways : Type 0
OpensAlways = (cycles past : List View) → AreAtWork cycles past → open_since cycles past ≡ length cycles

-- Such a channel keeps time to the cycle, in an epoch in which nothing is lost, after a cycle at whose end no step is open: the cycles of
-- the stretch are busy time and one for each answer, and those since the open step was accepted.
abbrev pub KeepsTime : ℕ → Type 0
KeepsTime busy = (v : View) (cycles past : List View) → IsRun busy (v ∷ (cycles ++ past)) → AreClean (v ∷ cycles) past →
    AreUndisturbed past → open_in (epoch_begun past) ≡ None → AreAtWork (v ∷ cycles) past →
    (e : Entry) × (log : List Entry) × (epoch_log (v ∷ (cycles ++ past)) ≡ e ∷ log) × (e.processed.cycle ≤ length (cycles ++ past)) ×
    (length (cycles ++ past) ≤ e.processed.cycle + busy)
    × (length (v ∷ cycles) + (busy + 1) * length (answers_in (epoch_begun past)) + e.processed.cycle ≡
    (busy + 1) * length (answers_in (epoch_begun (v ∷ (cycles ++ past)))) + length (v ∷ (cycles ++ past)))
