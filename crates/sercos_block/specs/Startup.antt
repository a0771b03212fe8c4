-- The number of cycles that this profile allows for a start-up, and the steps of which it is made.
use Rattle.std.specs.Prelude.{ℕ, ◌+◌, ◌*◌, length}
use Rattle.std.specs.List.{sum_by}
use Rattle.sercos_block.specs.Views.{DriveView, RingView}

-- A read of an attribute opens the block, and reads two words. A read or a write of a value of one
-- word does that first, and takes one step for the word; one of a list takes two, and one for each of
-- its entries. A procedure command is opened and set, its status is read as long as it runs and once
-- more, and it is cancelled: four steps, and more while it runs.
abbrev pub attribute_steps : ℕ
attribute_steps = 3

abbrev pub word_steps : ℕ
word_steps = attribute_steps + 1

abbrev pub list_steps : ℕ
list_steps = attribute_steps + 2

abbrev pub command_steps : ℕ
command_steps = 4

-- Phase 2 reads six values of a word, and the attribute of each listed identifier number.
abbrev pub read_steps : ℕ
read_steps = 6 * word_steps

-- Then it writes nine values of a word and the two lists, each listed identifier number once, and sets
-- the check for phase 3.
abbrev pub write_steps : ℕ
write_steps = 9 * word_steps + 2 * list_steps + command_steps

-- With the check for phase 4, which phase 3 sets, and four to spare; and what each listed identifier
-- number adds.
abbrev pub start_steps : ℕ
start_steps = read_steps + write_steps + command_steps + 4

abbrev pub listed_steps : ℕ
listed_steps = attribute_steps + 1

-- After a check that failed the list of the blocks that it refuses is read: at most 36.
abbrev pub stop_steps : ℕ
stop_steps = list_steps + 36

-- A request takes at most the steps of a list of 512 words; three are to spare.
abbrev pub request_steps : ℕ
request_steps = list_steps + 512 + 3

-- For a drive: those steps, and two more for each cycle of its command time, since there are two
-- checks.
abbrev pub start_steps_of : DriveView → ℕ
start_steps_of d = start_steps + listed_steps * (length d.at + length d.mdt) + 2 * d.command

-- A step takes the drive's busy time and two more cycles.
abbrev pub startup_of : DriveView → ℕ
startup_of d = (d.busy + 2) * start_steps_of d

-- Phase 2 is commanded after at most twelve cycles, and two for each drive, in which it is identified;
-- at the end of phase 2 and of phase 3 there are at most four more.
abbrev pub early_cycles : ℕ
early_cycles = 12

abbrev pub identifying_cycles : ℕ
identifying_cycles = 2

abbrev pub change_cycles : ℕ
change_cycles = 4

-- for a ring: that, and all drives, one after the other
abbrev pub startup_bound : RingView → ℕ
startup_bound r = early_cycles + 2 * change_cycles + identifying_cycles * length r.drives + sum_by startup_of r.drives
