-- The bounds on the cycles of a start-up, of a refusal, of requests and of a recovery, as sums over the drives of a ring.
use Rattle.std.specs.Prelude.{◌≡◌, ℕ, ◌+◌, ◌*◌, ◌≤◌, ◌-◌, ◌⊎◌, List, [], ◌∷◌, ◌++◌, length, max, min, Some, slice_get}
use Rattle.std.specs.List.{sum_by, sum}
use Rattle.sercos_block.specs.Views.{DriveView, RingView}
use Rattle.sercos_block.specs.Startup.{attribute_steps, change_cycles, command_steps, early_cycles, identifying_cycles, read_steps, request_steps, startup_bound, stop_steps, write_steps}

-- how many identifier numbers the lists of a drive's two telegrams have together
abbrev pub listed : DriveView → ℕ
listed d = length d.at + length d.mdt

-- the largest of a number of each drive, and 0 without drives
abbrev pub greatest : (DriveView → ℕ) → List DriveView → ℕ
greatest f [] = 0
greatest f (d ∷ drives) = max (f d) (greatest f drives)

-- the longest busy time
abbrev pub slowest : List DriveView → ℕ
slowest drives = greatest (λ d. d.busy) drives

-- the cycles that this profile allows a recovery
abbrev pub recovery_bound : RingView → ℕ
recovery_bound r = 2 * startup_bound r + 200

-- In how many cycles a drive's channel has an open step, where each answer takes its busy time and one cycle more. In phase 2 it
-- reads six values of a word, with four answers each, and the attribute of each listed block, with three.
abbrev pub read_cycles : DriveView → ℕ
read_cycles d = (d.busy + 1) * (read_steps + attribute_steps * listed d)

-- Then it writes nine values of a word and the two lists, with five answers and one for each of their identifier numbers, and sets
-- the first check. In phase 3 it sets the second check.
abbrev pub write_cycles : DriveView → ℕ
write_cycles d = (d.busy + 1) * (write_steps + listed d) + d.command

abbrev pub command_cycles : DriveView → ℕ
command_cycles d = (d.busy + 1) * command_steps + d.command

-- A command reads its status as long as it runs, and once more. With `polls` such reads the writes of phase 2 have 49 answers, and one
-- for each identifier number and poll: they fit into their cycles. So does the command of phase 3, with three answers and the polls.
abbrev pub FewWrites : Type 0
FewWrites = (d : DriveView) (polls : ℕ) → (d.busy + 1) * polls ≤ d.command + (d.busy + 1) →
    (d.busy + 1) * (49 + listed d + polls) ≤ write_cycles d

abbrev pub FewStatuses : Type 0
FewStatuses = (d : DriveView) (polls : ℕ) → (d.busy + 1) * polls ≤ d.command + (d.busy + 1) → (d.busy + 1) * (3 + polls) ≤ command_cycles d

-- Phase 2 is commanded first in a cycle `two`, phase 3 in `three` and phase 4 in `four`. In phase 2 one drive is read or written after
-- the other; in phase 3 the commands of all drives run side by side. Then phase 4 begins within the bound of a start-up.
abbrev pub IsStarted : Type 0
IsStarted = (r : RingView) (two three four : ℕ) → two ≤ early_cycles + identifying_cycles * length r.drives →
    three ≤ two + sum_by read_cycles r.drives + sum_by write_cycles r.drives + change_cycles →
    four ≤ three + greatest command_cycles r.drives + change_cycles → four ≤ startup_bound r

-- A stop in phase 2, because no plan fits or a drive refuses a value, is within that bound too.
abbrev pub IsRefusedEarly : Type 0
IsRefusedEarly = (r : RingView) (two stop : ℕ) → two ≤ early_cycles + identifying_cycles * length r.drives →
    stop ≤ two + sum_by read_cycles r.drives + sum_by write_cycles r.drives + change_cycles → stop ≤ startup_bound r

-- One in phase 3 follows the read of the list of the blocks that the check refuses.
abbrev pub refusal_cycles : DriveView → ℕ
refusal_cycles d = command_cycles d + stop_steps * (d.busy + 1)

-- what this profile allows it after the bound of a start-up: the steps of that read, each with the longest busy time and two cycles more
abbrev pub stop_cycles : RingView → ℕ
stop_cycles r = stop_steps * (slowest r.drives + 2)

abbrev pub IsRefusedLate : Type 0
IsRefusedLate = (r : RingView) (two three stop : ℕ) → two ≤ early_cycles + identifying_cycles * length r.drives →
    three ≤ two + sum_by read_cycles r.drives + sum_by write_cycles r.drives + change_cycles →
    stop ≤ three + greatest refusal_cycles r.drives + change_cycles → stop ≤ startup_bound r + stop_cycles r

-- The requests to a drive, one after the other from phase 4 on, have these numbers of answers: each at most 517, or those of a command,
-- which reads its status while it runs.
abbrev pub AreShort : DriveView → List ℕ → Type 0
AreShort d [] = Unit {0}
AreShort d (n ∷ counts) = AreShort d counts × ((n ≤ 517) ⊎ ((d.busy + 1) * n ≤ d.command + 4 * (d.busy + 1)))

-- If phase 4 begins in a cycle `four` within a limit, each request adds the cycles that this profile allows it to the limit, up to the
-- cycle in which the last of them is reported.
abbrev pub IsReported : Type 0
IsReported = (d : DriveView) (counts : List ℕ) (limit four cycle : ℕ) → AreShort d counts → four ≤ limit →
    cycle ≤ four + (d.busy + 1) * sum counts →
    cycle ≤ limit + length counts * ((d.busy + 2) * (request_steps + d.command))

-- A recovery without a fall after the last disturbed cycle `lost`: what was left of the start-up took no longer than a whole one, or a
-- refusal.
abbrev pub IsBackAtOnce : Type 0
IsBackAtOnce = (r : RingView) (lost cycle : ℕ) → cycle ≤ lost + startup_bound r + stop_cycles r → 1 ≤ length r.drives →
    cycle ≤ lost + recovery_bound r

-- the longer of the two sections that a drive has in phase 2
abbrev pub section_cycles : DriveView → ℕ
section_cycles d = (d.busy + 1) * max (read_steps + attribute_steps * listed d) (write_steps + listed d) + d.command

-- the least of a number of each drive, and 0 without drives
abbrev pub least : (DriveView → ℕ) → List DriveView → ℕ
least f [] = 0
least f (d ∷ []) = f d
least f (d ∷ e ∷ drives) = min (f d) (least f (e ∷ drives))

-- a section of each drive but one, for which that of the drive with the least isn't counted
abbrev pub spared_cycles : RingView → ℕ
spared_cycles r = sum_by section_cycles r.drives - least section_cycles r.drives

-- In how many cycles after the last disturbed one a ring falls, if it falls at all: these, and 68 more.
abbrev pub fall_cycles : RingView → ℕ
fall_cycles r = 68 + spared_cycles r

-- .. and in how many phase 4 is commanded, if the ring is right: a whole start-up follows the fall
abbrev pub return_cycles : RingView → ℕ
return_cycles r = fall_cycles r + startup_bound r

abbrev pub AreSections : Type 0
AreSections = (d : DriveView) → (read_cycles d ≤ section_cycles d) × (write_cycles d ≤ section_cycles d)

-- A recovery with a fall, since drive `d` was in phase 0. Each other drive has had at most one of its sections before that was noticed;
-- then a whole start-up follows, or a refusal. A drive is busy for at most 20 cycles.
abbrev pub IsBackLater : Type 0
IsBackLater = (r : RingView) (before after : List DriveView) (d : DriveView) (lost fall cycle : ℕ) → r.drives ≡ before ++ d ∷ after →
    slowest r.drives ≤ 20 →
    fall ≤ lost + 67 + sum_by section_cycles (before ++ after) →
    cycle ≤ fall + 1 + startup_bound r + stop_cycles r → cycle ≤ lost + recovery_bound r

-- Side by side: a number of cycles within the bound of one drive is within the largest of the bounds.
abbrev pub IsBelowGreatest : Type 0
IsBelowGreatest = (bound : DriveView → ℕ) (drives : List DriveView) (k : ℕ) (d : DriveView) (cycles : ℕ) → slice_get drives k ≡ Some d →
    cycles ≤ bound d → cycles ≤ greatest bound drives
