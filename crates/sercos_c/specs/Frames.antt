-- What the calls on frames return and write.
use Rattle.std.specs.Prelude.{◌≡◌, ℕ, ◌+◌, ◌-◌, ◌*◌, ◌/◌, nat_lt, nat_le, ◌&&◌, if◌then◌else◌, Bool, false, List, ◌++◌, length, replicate, Some}
use Rattle.sercos_model.specs.Frames.{IsFrame}
use Rattle.sercos_hdlc.specs.Stuffed.{frame_of}
use Rattle.sercos_hdlc.specs.Reason.{reason_of}
use Rattle.sercos_hdlc.specs.declared.bad_frame.BadFrame.{BadFrame}
use Rattle.sercos_hdlc.specs.declared.bad_frame.BadFrame.TheVariants.{NoOpen, NoClose, Abort, Ragged, Short, Long, Check, After}
use Rattle.sercos_c.specs.Statuses.{done, answer_no, refused, write_fault}
use Rattle.sercos_c.specs.Room.{IsPut, IsNothing}
use Rattle.sercos_c.specs.declared.bad_frame.SercosBadFrame.{SercosBadFrame}

-- the bytes that bits take
abbrev pub bytes_for : ℕ → ℕ
bytes_for bits = (bits + 7) / 8

-- bits and zeros up to a whole byte
abbrev pub padded : List Bool → List Bool
padded bits = bits ++ replicate (8 * bytes_for (length bits) - length bits) false

-- a content that has a frame: 1 to 2,048 bytes
abbrev pub is_content : List ℕ → Bool
is_content content = nat_lt 0 (length content) && nat_le (length content) 2048

-- the status of writing a content's frame to `room` bytes
abbrev pub frame_status : List ℕ → ℕ → ℕ
frame_status content room =
    if is_content content then (if nat_le (length (frame_of content)) (8 * room) then done else write_fault) else refused

-- why bits are not a frame, as it is handed over
abbrev pub bad_frame_of : BadFrame → SercosBadFrame
bad_frame_of NoOpen = record { kind = 1; found = 0; wanted = 0 }
bad_frame_of (NoClose bits) = record { kind = 2; found = bits; wanted = 0 }
bad_frame_of (Abort place) = record { kind = 3; found = place; wanted = 0 }
bad_frame_of (Ragged bits) = record { kind = 4; found = bits; wanted = 0 }
bad_frame_of (Short bytes) = record { kind = 5; found = bytes; wanted = 0 }
bad_frame_of (Long bytes) = record { kind = 6; found = bytes; wanted = 0 }
bad_frame_of (Check found wanted) = record { kind = 7; found = found; wanted = wanted }
bad_frame_of (After place) = record { kind = 8; found = place; wanted = 0 }

-- the same where the bits are a frame, or where none were read
abbrev pub no_bad_frame : SercosBadFrame
no_bad_frame = record { kind = 0; found = 0; wanted = 0 }

-- Bits were read as a frame: they are one, and its content was written, if it has room; or they are not a frame, and the reason was
-- written.
pub data IsUnframed (bits : List Bool) (before after : List ℕ) (written : ℕ) (why : SercosBadFrame) (status : ℕ) : Type 0 where
  a_frame : {content : List ℕ} → IsFrame content bits → IsPut content before after written status → why ≡ no_bad_frame
      → IsUnframed bits before after written why status
  not_a_frame : {reason : BadFrame} → reason_of bits ≡ Some reason → ((content : List ℕ) → IsFrame content bits → ⊥)
      → IsNothing answer_no before after written status → why ≡ bad_frame_of reason → IsUnframed bits before after written why status
