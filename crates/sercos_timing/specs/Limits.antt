-- The limits of this profile for a ring, its drives and the times that they declare, and the starts
-- in phases 1 and 2, in which no plan applies yet. Times are in microseconds.
use Rattle.std.specs.Prelude.{ℕ}

-- the most drives of a ring; the least is 1
abbrev pub most_drives : ℕ
most_drives = 64

-- the greatest address of a drive or a slave; the least is 1
abbrev pub most_address : ℕ
most_address = 254

-- The most bytes of all data records of an MDT together: they and the address are the content of
-- one frame.
abbrev pub most_records : ℕ
most_records = 2047

-- the shortest cycle time, the unit of which all others are multiples, and the longest cycle time
abbrev pub least_cycle : ℕ
least_cycle = 125

abbrev pub cycle_unit : ℕ
cycle_unit = 250

abbrev pub most_cycle : ℕ
most_cycle = 64000

-- the longest gap between telegrams
abbrev pub most_gap : ℕ
most_gap = 1000

-- the greatest value of each time that a drive declares
abbrev pub most_t1min : ℕ
most_t1min = 300

abbrev pub most_tatmt : ℕ
most_tatmt = 300

abbrev pub most_t4min : ℕ
most_t4min = 64000

abbrev pub most_tatat : ℕ
most_tatat = 64000

abbrev pub most_tmtsy : ℕ
most_tmtsy = 250

abbrev pub most_tmtsg : ℕ
most_tmtsg = 64000

-- the starts of an AT and of an MDT in phases 1 and 2, after the end of the MST
abbrev pub early_at : ℕ
early_at = 300

abbrev pub early_mdt : ℕ
early_mdt = 650
