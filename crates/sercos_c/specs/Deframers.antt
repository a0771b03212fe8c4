-- A deframer that is held.
use Rattle.std.specs.Prelude.{ℕ, ◌+◌, ◌*◌, ◌^◌, nat_le, if◌then◌else◌, Bool, true, false, List, Option, Some}
use Rattle.sercos_hdlc.specs.Fed.{IsFed}
use Rattle.sercos_c.specs.Statuses.{done, refused, too_long}
use Rattle.sercos_c.specs.declared.station.Station.{Station}
use Rattle.sercos_c.specs.declared.station.Station.TheVariants as station

-- whether it is one
abbrev pub is_deframer : Option Station → Bool
is_deframer (Some (station.Deframer d)) = true
is_deframer _ = false

-- a deframer is held, and these bits were taken since it began
abbrev pub HoldsFed : List Bool → Option Station → Type 0
HoldsFed bits (Some (station.Deframer d)) = IsFed bits d
HoldsFed bits _ = ⊥

-- the status of taking `count` bits of `len` bytes after `taken` bits
abbrev pub feed_status : ℕ → ℕ → ℕ → ℕ
feed_status taken len count =
    if nat_le count (8 * len) then (if nat_le (taken + count) (2 ^ 31) then done else too_long) else refused
