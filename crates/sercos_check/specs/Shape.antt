-- The shape of a capture: which line can follow the lines so far, the newest first, and the
-- planner's input in its head.
use Rattle.std.specs.Prelude.{◌≡◌, ℕ, ◌-◌, ◌==◌, nat_le, Bool, true, false, if◌then◌else◌, List, [], ◌∷◌, ◌++◌, length, map}
use Rattle.std.specs.List.{position_or_len}
use Rattle.sercos_timing.specs.declared.wishes.Wish.{Wish}
use Rattle.sercos_timing.specs.Limits.{most_drives}
use Rattle.sercos_timing.specs.Views.{WishesView}
use Rattle.sercos_timing.specs.Valid.{IsValid}
use Rattle.sercos_trace.specs.declared.reading.Line.{Line}
use Rattle.sercos_trace.specs.declared.reading.Line.TheVariants as line
use Rattle.sercos_check.specs.declared.awaited.Awaited.{Awaited}
use Rattle.sercos_check.specs.declared.awaited.Awaited.TheVariants as awaited

-- how many lines of drives are missing: the number in the line of the ring, less the lines since
abbrev pub drives_left : List Line → ℕ
drives_left [] = 0
drives_left (line.Ring rate cycle control gap drives ∷ before) = drives
drives_left (line.Drive wish ∷ before) = drives_left before - 1
drives_left (_ ∷ before) = drives_left before

abbrev pub drive_or_order : ℕ → Awaited
drive_or_order left = if left == 0 then awaited.Order else awaited.Drive

-- Which line is next: first the version, then the numbers of the ring, then the lines of the
-- drives, then the order, and then lines of cycles, up to the totals.
abbrev pub awaited_after : List Line → Awaited
awaited_after [] = awaited.Version
awaited_after (line.Version ∷ before) = awaited.Ring
awaited_after (line.Ring rate cycle control gap drives ∷ before) = drive_or_order drives
awaited_after (line.Drive wish ∷ before) = drive_or_order (drives_left before - 1)
awaited_after (line.End ∷ before) = awaited.Nothing
awaited_after (_ ∷ before) = awaited.Cycle

-- the part of a capture to which a line belongs
abbrev pub part_of : Line → Awaited
part_of line.Version = awaited.Version
part_of (line.Ring rate cycle control gap drives) = awaited.Ring
part_of (line.Drive wish) = awaited.Drive
part_of (line.Order addresses) = awaited.Order
part_of _ = awaited.Cycle

-- the index of the drive with an address; the number of drives if there is none
abbrev pub drive_place : List Wish → ℕ → ℕ
drive_place drives address = position_or_len (λ (d : Wish). d.address == address) drives

abbrev pub places : List Wish → List ℕ → List ℕ
places drives addresses = map (drive_place drives) addresses

abbrev pub no_wishes : WishesView
no_wishes = record { rate = 0; cycle = 0; control = 0; gap = 0; order = []; drives = [] }

-- the planner's input in the lines of the ring, of the drives and of the order
abbrev pub wishes_by : List Line → WishesView
wishes_by [] = no_wishes
wishes_by (line.Ring rate cycle control gap drives ∷ before) =
    record {
      rate = rate;
      cycle = cycle;
      control = control;
      gap = gap;
      order = (wishes_by before).order;
      drives = (wishes_by before).drives;
    }
wishes_by (line.Drive wish ∷ before) = record (wishes_by before) { drives = (wishes_by before).drives ++ wish ∷ [] }
wishes_by (line.Order addresses ∷ before) = record (wishes_by before) { order = places (wishes_by before).drives addresses.items }
wishes_by (_ ∷ before) = wishes_by before

-- the order can follow only if the planner's input is valid with it
abbrev pub IsHeadValid : List Line → Line → Type 0
IsHeadValid before (line.Order addresses) = IsValid (wishes_by (line.Order addresses ∷ before))
IsHeadValid before _ = Unit {0}

-- a line can follow those before it
abbrev pub CanFollow : List Line → Line → Type 0
CanFollow before line = (awaited_after before ≡ part_of line) × IsHeadValid before line

-- each line can follow those before it
abbrev pub HasShape : List Line → Type 0
HasShape [] = Unit {0}
HasShape (line ∷ before) = CanFollow before line × HasShape before

-- the head is complete: its order was read
abbrev pub is_past_head : Awaited → Bool
is_past_head awaited.Cycle = true
is_past_head awaited.Nothing = true
is_past_head _ = false

abbrev pub has_head : List Line → Bool
has_head lines = is_past_head (awaited_after lines)

-- What is kept of the head. `fits` is whether the drives read so far fit into a ring; if so,
-- `wishes` is the planner's input in the lines.
pub record HeadView : Type 0 where
  pub awaited : Awaited
  pub left : ℕ
  pub fits : Bool
  pub wishes : WishesView

pub record HeadStandsFor (v : HeadView) (lines : List Line) : Type 0 where
  pub awaited_is : v.awaited ≡ awaited_after lines
  pub left_is : v.left ≡ drives_left lines
  pub fits_is : v.fits ≡ nat_le (length (wishes_by lines).drives) most_drives
  pub wishes_are : v.fits ≡ true → v.wishes ≡ wishes_by lines

-- once the order was read, the planner's input is valid
abbrev pub IsSound : HeadView → Type 0
IsSound v = v.awaited ≡ awaited.Cycle → (v.fits ≡ true) × IsValid v.wishes

-- a telegram is taken only after the head
abbrev pub IsReady : HeadView → Line → Type 0
IsReady v (line.Telegram cycle sent) = v.awaited ≡ awaited.Cycle
IsReady v _ = Unit {0}
