-- What the call on the text of an identifier number returns.
use Rattle.std.specs.Prelude.{ℕ, Option, Some, None}
use Rattle.sercos_c.specs.Statuses.{done, answer_no}

-- done, if the text has no fault
abbrev pub parse_status : Option ℕ → ℕ
parse_status None = done
parse_status (Some place) = answer_no

-- the place of the fault; 0 if there is none
abbrev pub fault_place : Option ℕ → ℕ
fault_place None = 0
fault_place (Some place) = place
