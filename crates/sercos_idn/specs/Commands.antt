-- The operation data of a procedure command, and its data status (IEC 61491:1995).
use Rattle.std.specs.Prelude.{ℕ}

-- the operation data that cancels a procedure command, and the operation data that sets it
abbrev pub to_cancel : ℕ
to_cancel = 0

abbrev pub to_set : ℕ
to_set = 3

-- the data status of a procedure command that was never set, or that was cancelled
abbrev pub not_set_status : ℕ
not_set_status = 0

-- the data status of a procedure command that has ended well
abbrev pub ended_well_status : ℕ
ended_well_status = 3

-- the data status of a procedure command that is running
abbrev pub running_status : ℕ
running_status = 7

-- the data status of a procedure command that has ended with an error
abbrev pub error_status : ℕ
error_status = 15
