-- Functions of the telegrams of a capture so far, the newest first.
use Rattle.std.specs.Prelude.{ℕ, ℤ, pos, ◌+ℤ◌, ◌==◌, nat_lt, Bool, true, false, ◌&&◌, if◌then◌else◌, List, [], ◌∷◌, length, Option, Some, None, option_map, unwrap_or, slice_index}
use Rattle.std.specs.List.{find, list_any}
use Rattle.sercos_telegram.specs.declared.layout.Kind.{Kind}
use Rattle.sercos_telegram.specs.declared.layout.Kind.TheVariants as telegram
use Rattle.sercos_timing.specs.declared.wishes.Wish.{Wish}
use Rattle.sercos_timing.specs.Views.{WishesView}
use Rattle.sercos_timing.specs.Order.{no_wish}
use Rattle.sercos_trace.specs.Views.{SentView}
use Rattle.sercos_check.specs.declared.marks.Command.{Command}
use Rattle.sercos_check.specs.declared.marks.Mark.{Mark}
use Rattle.sercos_check.specs.declared.marks.Note.{Note}

-- a telegram of a capture, and its cycle
pub record Told : Type 0 where
  pub cycle : ℕ
  pub sent : SentView

abbrev pub is_mst : Kind → Bool
is_mst telegram.Mst = true
is_mst telegram.At = false
is_mst telegram.Mdt = false

abbrev pub is_at : Kind → Bool
is_at telegram.Mst = false
is_at telegram.At = true
is_at telegram.Mdt = false

abbrev pub is_mdt : Kind → Bool
is_mdt telegram.Mst = false
is_mdt telegram.At = false
is_mdt telegram.Mdt = true

-- the cycle of an MST and the phase that it commands
abbrev pub command_of : Told → Command
command_of t = record { cycle = t.cycle; phase = slice_index t.sent.content 1 }

-- the command of the newest MST
abbrev pub command_before : List Told → Option Command
command_before [] = None
command_before (t ∷ before) = if is_mst t.sent.kind then Some (command_of t) else command_before before

abbrev pub phase_of : Option Command → ℕ
phase_of None = 0
phase_of (Some c) = c.phase

abbrev pub phase_before : List Told → ℕ
phase_before before = phase_of (command_before before)

-- the telegrams from the newest MST on: those of the current cycle
abbrev pub in_cycle : List Told → List SentView
in_cycle [] = []
in_cycle (t ∷ before) = if is_mst t.sent.kind then t.sent ∷ [] else t.sent ∷ in_cycle before

abbrev pub newest_of : List SentView → Option SentView
newest_of [] = None
newest_of (s ∷ sent) = Some s

-- the first byte of the content is the address
abbrev pub address_of : SentView → ℕ
address_of s = slice_index s.content 0

-- the planner's input of the drive with an address, if there is one
abbrev pub drive_with : List Wish → ℕ → Option Wish
drive_with drives address = find (λ (d : Wish). d.address == address) drives

abbrev pub wish_for : WishesView → ℕ → Wish
wish_for w address = unwrap_or (drive_with w.drives address) no_wish

abbrev pub is_drive : WishesView → ℕ → Bool
is_drive w address = list_any (λ (d : Wish). d.address == address) w.drives

abbrev pub slave_of : WishesView → SentView → ℕ
slave_of w s = (wish_for w (address_of s)).slave

-- when a telegram is sent in its cycle
abbrev pub mark_of : SentView → Mark
mark_of s = record { start = s.start; bits = s.bits }

-- the bit time at which it ends
abbrev pub end_of : Mark → ℤ
end_of x = x.start +ℤ pos x.bits

-- the slave that sends an AT
abbrev pub sender_of : WishesView → SentView → Option ℕ
sender_of w s = if is_at s.kind then Some (slave_of w s) else None

-- what the rules for the next telegram need of a telegram
abbrev pub note_of : WishesView → SentView → Note
note_of w s = record { mark = mark_of s; sender = sender_of w s }

abbrev pub newest_in : WishesView → List Told → Option Note
newest_in w before = option_map (note_of w) (newest_of (in_cycle before))

abbrev pub has_mdt : List Told → Bool
has_mdt before = list_any (λ (s : SentView). is_mdt s.kind) (in_cycle before)

-- a telegram is an AT with this address byte
abbrev pub is_at_from : ℕ → SentView → Bool
is_at_from address s = is_at s.kind && (nat_lt 0 (length s.content) && (address_of s == address))

abbrev pub has_at_from : ℕ → List Told → Bool
has_at_from address before = list_any (is_at_from address) (in_cycle before)

-- a telegram is an AT of a slave
abbrev pub is_at_of : WishesView → ℕ → SentView → Bool
is_at_of w slave s = is_at s.kind && (slave_of w s == slave)

-- when the newest AT of a slave in the current cycle was sent
abbrev pub mark_before : WishesView → ℕ → List Told → Option Mark
mark_before w slave before = option_map mark_of (find (is_at_of w slave) (in_cycle before))
