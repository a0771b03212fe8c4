-- The shape of a capture as a computed test: a line can follow those before it.
use Rattle.std.specs.Prelude.{◌≡◌, ◌↔◌, Bool, true, false, ◌&&◌, List, ◌∷◌}
use Rattle.sercos_timing.specs.Tests.{is_valid}
use Rattle.sercos_trace.specs.declared.reading.Line.{Line}
use Rattle.sercos_trace.specs.declared.reading.Line.TheVariants as line
use Rattle.sercos_check.specs.declared.awaited.Awaited.{Awaited}
use Rattle.sercos_check.specs.declared.awaited.Awaited.TheVariants as awaited
use Rattle.sercos_check.specs.Shape.{awaited_after, part_of, wishes_by, CanFollow}

-- two parts of a capture are the same
abbrev pub is_same_part : Awaited → Awaited → Bool
is_same_part awaited.Version awaited.Version = true
is_same_part awaited.Ring awaited.Ring = true
is_same_part awaited.Drive awaited.Drive = true
is_same_part awaited.Order awaited.Order = true
is_same_part awaited.Cycle awaited.Cycle = true
is_same_part awaited.Nothing awaited.Nothing = true
is_same_part _ _ = false

-- the order can follow only if the planner's input is valid with it
abbrev pub is_head_valid : List Line → Line → Bool
is_head_valid before (line.Order addresses) = is_valid (wishes_by (line.Order addresses ∷ before))
is_head_valid before _ = true

-- a line can follow those before it
unfoldable pub can_follow : List Line → Line → Bool
can_follow before line = is_same_part (awaited_after before) (part_of line) && is_head_valid before line

-- the test agrees with the relation
abbrev pub TellsFollowing : Type 0
TellsFollowing = (before : List Line) (line : Line) → ((can_follow before line ≡ true) ↔ CanFollow before line)
