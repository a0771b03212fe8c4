-- The calls of the master's channel in a run, and what it counts. Each list has its newest item first.
use Rattle.std.specs.Prelude.{◌≡◌, ℕ, ◌+◌, ◌≤◌, nat_le, ◌&&◌, Bool, true, false, if◌then◌else◌, List, [], ◌∷◌, ◌++◌, Option, Some, None, is_some, option_map}
use Rattle.sercos_step.specs.declared.request.Request.{Request}
use Rattle.sercos_service_master.specs.Begun.{open_in}
use Rattle.sercos_service_master.specs.Calls.{Call, Begin, Send, Hear, EndCycle, begun_by, age_of, cycles_open, AreCalls}
use Rattle.sercos_law_channel.specs.Handshake.Views.{Heard, View}
use Rattle.sercos_law_channel.specs.Handshake.Epochs.{unless_restart, epoch_begun, begun_in}
use Rattle.sercos_law_channel.specs.Handshake.Runs.{IsRun}
use Rattle.sercos_law_channel.specs.Pace.Passages.{IsWhole, AreWhole, IsPassed, ArePassed, BeginsEpoch}
use Rattle.sercos_law_channel.specs.Pace.Ages.{age_in}

-- a cycle as it would be if the master didn't fall at its end
abbrev pub staying : View → View
staying v = record v { falls = false }

-- In place of a run's newest cycle that one makes a run too. So what is proved of cycles without a fall holds of each cycle up to its
-- end.
abbrev pub StaysARun : ℕ → Type 0
StaysARun busy = (v : View) (past : List View) → IsRun busy (v ∷ past) → IsRun busy (staying v ∷ past)

-- The calls with what is received, begun and sent in a cycle. A record that is sent in phase 1 is not a call of the channel.
abbrev pub calls_heard : Option Heard → List Call → List Call
calls_heard None h = h
calls_heard (Some a) h = Hear a.status a.word ∷ h

abbrev pub calls_begun : Option Request → List Call → List Call
calls_begun None h = h
calls_begun (Some r) h = Begin r ∷ h

abbrev pub calls_sent : Bool → List Call → List Call
calls_sent sends h = if sends then Send ∷ h else h

-- the calls up to the end of a cycle, and all of the epoch
abbrev pub calls_in : View → List Call → List Call
calls_in v h = calls_sent (nat_le 2 v.phase && is_some v.sent) (calls_begun v.begins (calls_heard v.heard (unless_restart v h)))

abbrev pub channel_calls : List View → List Call
channel_calls [] = []
channel_calls (v ∷ past) = if v.falls then [] else EndCycle ∷ calls_in v (channel_calls past)

-- in a cycle, and in each cycle of the epoch, a record is sent if a step is open
abbrev pub IsSent : View → List View → Type 0
IsSent v past = is_some (open_in (begun_in v past)) ≡ true → is_some v.sent ≡ true

abbrev pub AreSent : List View → Type 0
AreSent [] = Unit {0}
AreSent (v ∷ past) = v.falls ≡ false → (v.master_restarts ≡ false → AreSent past) × IsSent v past

-- The calls are allowed, and yield the requests that were begun.
abbrev pub CallsBegin : ℕ → Type 0
CallsBegin busy = (past : List View) → IsRun busy past → (AreCalls (channel_calls past)) ×
    (begun_by (channel_calls past) ≡ epoch_begun past)

-- The channel counts the age of the open step at the end of a cycle ..
abbrev pub age_if_open : Bool → ℕ → Option ℕ
age_if_open is_open age = if is_open then Some age else None

abbrev pub AgesAreThose : ℕ → Type 0
AgesAreThose busy = (past : List View) → IsRun busy past → AreSent past →
    age_of (channel_calls past) ≡ age_if_open (is_some (open_in (epoch_begun past))) (age_in past)

-- .. and one less before it.
abbrev pub AgesBeforeEnd : ℕ → Type 0
AgesBeforeEnd busy = (v : View) (past : List View) → IsRun busy (v ∷ past) → AreSent past → IsSent v past →
    option_map (λ age. age + 1) (age_of (calls_in v (channel_calls past))) ≡
    age_if_open (is_some (open_in (begun_in v past))) (age_in (staying v ∷ past))

-- From phase 0 of an epoch on, while every telegram arrives and the checks are passed, in each cycle before its end: the channel has
-- counted no more than the busy time, and in phases 3 and 4 the drive is heard. So no fall is caused by this drive.
abbrev pub NoneLate : ℕ → Type 0
NoneLate busy = (v : View) (cycles past : List View) → IsRun busy (v ∷ (cycles ++ past)) → BeginsEpoch past → AreWhole cycles past →
    ArePassed cycles past → IsWhole (staying v) (cycles ++ past) → IsPassed v (cycles ++ past) →
    (cycles_open (calls_in v (channel_calls (cycles ++ past))) ≤ busy) × (3 ≤ v.phase → is_some v.heard ≡ true)
