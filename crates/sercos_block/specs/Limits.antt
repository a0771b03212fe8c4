-- The limits of this profile for a drive's setup, its data blocks and a run.
use Rattle.std.specs.Prelude.{ℕ}

-- the most data blocks that a drive has beside the built-in ones
abbrev pub most_blocks : ℕ
most_blocks = 36

-- the most cycles for which a drive is busy with a step of the service channel
abbrev pub most_busy : ℕ
most_busy = 20

-- the most cycles for which a procedure command runs
abbrev pub most_command : ℕ
most_command = 200

-- the most identifier numbers that an AT, or a data record of the MDT, carries
abbrev pub most_carried : ℕ
most_carried = 16

-- the most cycles of a run; the least is 1
abbrev pub most_cycles : ℕ
most_cycles = 50000

-- the most bytes of a name
abbrev pub most_name : ℕ
most_name = 60

-- the most bytes of a unit
abbrev pub most_unit : ℕ
most_unit = 12

-- the most bytes of a list
abbrev pub most_data : ℕ
most_data = 1024
