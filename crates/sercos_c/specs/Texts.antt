-- The words of a call, and the texts that are written to the front of a room.
use Rattle.std.specs.Prelude.{◌≡◌, ◌≤◌, ◌==◌, ◌&&◌, nat_le, if◌then◌else◌, ℕ, Bool, true, List, length, take, Option, Some, None}
use Rattle.std.specs.List.{All}
use Rattle.std.specs.Str.{IsUtf8}
use Rattle.sercos_timing.specs.Views.{WishesView, PlanView}
use Rattle.sercos_trace.specs.Views.{CycleView}
use Rattle.sercos_c.specs.Statuses.{done, write_fault}

-- each word is text
abbrev pub AreTexts : List (List ℕ) → Type 0
AreTexts words = All IsUtf8 words

-- the plan that is reported in a cycle, if one is, has a slot for each drive
abbrev pub has_each : ℕ → Option PlanView → Bool
has_each n None = true
has_each n (Some p) = (length p.t1 == n) && (length p.position == n)

abbrev pub has_slots : WishesView → CycleView → Bool
has_slots w made = has_each (length w.drives) made.events.plan

-- what lies in a sink is the text, which has no more bytes than the room; or the room is too small
pub record IsIn (text : List ℕ) (room : ℕ) (front : List ℕ) (fits : Bool) : Type 0 where
  pub fits_is : fits ≡ nat_le (length text) room
  pub front_is : fits ≡ true → front ≡ text

-- The text was written to the front of a room, and `count` is the number of its bytes; or the room is too small, and nothing is reported.
-- What comes after the text is not said.
pub record IsText (text before after : List ℕ) (count result : ℕ) : Type 0 where
  pub status : result ≡ (if nat_le (length text) (length before) then done else write_fault)
  pub written : count ≡ (if nat_le (length text) (length before) then length text else 0)
  pub out : length text ≤ length before → take count after ≡ text
