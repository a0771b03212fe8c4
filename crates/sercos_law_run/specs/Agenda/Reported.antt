-- What the master reports of the requests to one drive. Reports have their newest item first.
use Rattle.std.specs.Prelude.{◌≡◌, ◌⊎◌, ℕ, ◌+◌, ◌≤◌, ◌<◌, Bool, true, if◌then◌else◌, List, [], ◌∷◌, map, length, drop, Option, Some, None, is_none, is_some, slice_get}
use Rattle.sercos_step.specs.declared.request.Job.{Job}
use Rattle.sercos_step.specs.Steps.{outcome_of}
use Rattle.sercos_service_master.specs.Begun.{Begun, open_in}
use Rattle.sercos_seat.specs.Ring.{Known, Task, tasks_for}
use Rattle.sercos_seat.specs.Channel.{Report, broken_number, count_requests, number_in}
use Rattle.sercos_seat.specs.Seats.{AreWaiting}
use Rattle.sercos_master.specs.Annals.{Call, HearMst, HearAt, Mdt, End, Restart, fall_of, past}
use Rattle.sercos_master.specs.Reports.{broken}
use Rattle.sercos_law_run.specs.Agenda.Channels.{Channel, channel_at}

-- each of these has a number
abbrev pub AreNumbered : List Task → Type 0
AreNumbered tasks = (i : ℕ) (t : Task) → slice_get tasks i ≡ Some t → is_some t.number ≡ true

-- the numbers are at least this one, and ascend
abbrev pub Ascend : ℕ → List Task → Type 0
Ascend i [] = Unit {0}
Ascend i (t ∷ tasks) = (n : ℕ) × (t.number ≡ Some n) × (i ≤ n) × Ascend (n + 1) tasks

-- THE REQUESTS TO A DRIVE are of phase 4 and have numbers, which ascend: so no number occurs twice.
abbrev pub AreRequests : Type 0
AreRequests = (s : Known) (jobs : List Job) (k : ℕ) → AreWaiting (tasks_for s jobs k) × AreNumbered (tasks_for s jobs k) ×
    Ascend 1 (tasks_for s jobs k)

-- reports, with one more if there is one
abbrev pub with_told : Option Report → List Report → List Report
with_told None reports = reports
with_told (Some r) reports = r ∷ reports

abbrev pub told_at_end : Bool → Option Report → Option Report → List Report → List Report
told_at_end falls ended broken reports = if falls then with_told broken (with_told ended reports) else with_told ended reports

-- What was reported of the requests to the drive at place k: at the end of each cycle the request that an AT ended in it, and after that,
-- at a fall, the broken one; at a restart the broken one.
abbrev pub told : Known → (ℕ → List Task) → ℕ → List Call → List Report
told s requests k [] = []
told s requests k (HearMst content ∷ h) = told s requests k h
told s requests k (HearAt content ∷ h) = told s requests k h
told s requests k (Mdt ∷ h) = told s requests k h
told s requests k (End ∷ h) = told_at_end (is_some (fall_of s (past s requests h))) ((past s requests h).now.report k)
    (broken (past s requests h) k) (told s requests k h)
told s requests k (Restart ∷ h) = with_told (broken (past s requests h) k) (told s requests k h)

-- numbers with that of a report before them, if there is one; and with those of all reports before them, the newest last
abbrev pub with_number : Option Report → List (Option ℕ) → List (Option ℕ)
with_number None numbers = numbers
with_number (Some r) numbers = Some r.number ∷ numbers

abbrev pub after_told : List Report → List (Option ℕ) → List (Option ℕ)
after_told [] numbers = numbers
after_told (r ∷ reports) numbers = after_told reports (Some r.number ∷ numbers)

abbrev pub task_numbers : List Task → List (Option ℕ)
task_numbers tasks = map (λ t. t.number) tasks

-- the request that is open on a channel, broken
abbrev pub broken_in : Channel → Option Report
broken_in c = if is_none (open_in c.begun) then None else broken_number (number_in c.tasks)

-- The numbers of the requests that a channel still has to report: of the one that ended in this cycle, of the open one, and of
-- those that wait.
abbrev pub still_to_tell : Channel → List (Option ℕ)
still_to_tell c = with_number c.report (with_number (broken_in c) (task_numbers (drop (count_requests c.tasks) c.waiting)))

-- in this cycle there was neither an AT nor the MDT yet
abbrev pub IsAtStart : List Call → Type 0
IsAtStart [] = Unit {0}
IsAtStart (HearMst content ∷ h) = IsAtStart h
IsAtStart (HearAt content ∷ h) = ⊥
IsAtStart (Mdt ∷ h) = ⊥
IsAtStart (End ∷ h) = Unit {0}
IsAtStart (Restart ∷ h) = Unit {0}

-- the master is restarted only at the start of a cycle
abbrev pub RestartsAtStart : List Call → Type 0
RestartsAtStart [] = Unit {0}
RestartsAtStart (HearMst content ∷ h) = RestartsAtStart h
RestartsAtStart (HearAt content ∷ h) = RestartsAtStart h
RestartsAtStart (Mdt ∷ h) = RestartsAtStart h
RestartsAtStart (End ∷ h) = RestartsAtStart h
RestartsAtStart (Restart ∷ h) = RestartsAtStart h × IsAtStart h

-- IN ORDER AND ONCE. After any calls, through all falls and restarts: the requests that were reported, in the order of their
-- reports, then the open one, then those that wait, are the requests to this drive in their order. So a request is reported at
-- most once, and what is broken isn't begun again.
abbrev pub TellsInOrder : Type 0
TellsInOrder = (s : Known) (requests : ℕ → List Task) (h : List Call) (k : ℕ) → AreNumbered (requests k) → k < length s.drives →
    RestartsAtStart h →
    after_told (told s requests k h) (still_to_tell (channel_at (past s requests h) k)) ≡ task_numbers (requests k)

-- the numbers of these reports rise from each to the newer one
abbrev pub Descend : List Report → Type 0
Descend [] = Unit {0}
Descend (r ∷ []) = Unit {0}
Descend (r ∷ q ∷ reports) = (q.number < r.number) × Descend (q ∷ reports)

-- So the numbers of what was reported to a drive rise, and no request is reported twice.
abbrev pub TellsOnce : Type 0
TellsOnce = (s : Known) (jobs : List Job) (h : List Call) (k : ℕ) → k < length s.drives → RestartsAtStart h →
    Descend (told s (tasks_for s jobs) k h)

-- One of the requests that were begun has the number of the report, and ended so. Requests and tasks have their newest item first.
abbrev pub IsReportOf : Report → List Begun → List Task → Type 0
IsReportOf r (b ∷ older) (t ∷ tasks) = ((t.number ≡ Some r.number) × (outcome_of b.request b.answers ≡ Some r.outcome)) ⊎
    IsReportOf r older tasks
IsReportOf r _ _ = ⊥

-- RIGHT REPORTS. A request that is reported as ended was begun in this epoch, and ended so.
abbrev pub TellsRight : Type 0
TellsRight = (s : Known) (requests : ℕ → List Task) (h : List Call) (k : ℕ) (r : Report) → k < length s.drives →
    (channel_at (past s requests h) k).report ≡ Some r →
    IsReportOf r (channel_at (past s requests h) k).begun (channel_at (past s requests h) k).tasks
