-- Planner's input for which a plan may be requested.
use Rattle.std.specs.Prelude.{◌≡◌, ◌≢◌, ℕ, ◌<◌, ◌≤◌, ◌%◌, ◌⊎◌, Bool, ◌&&◌, ◌||◌, ◌==◌, nat_le, List, length, map, slice_index}
use Rattle.sercos_timing.specs.Views.{WishesView}
use Rattle.sercos_timing.specs.Limits.{most_drives, most_address, most_records, least_cycle, cycle_unit, most_cycle, most_gap}
use Rattle.sercos_timing.specs.Order.{wish, record_bytes}
use Rattle.sercos_timing.specs.declared.wishes.Wish.{Wish}

-- no number occurs twice
abbrev pub AreDistinct : List ℕ → Type 0
AreDistinct xs = (i j : ℕ) → i < j → j < length xs → slice_index xs i ≢ slice_index xs j

-- all numbers are below a limit
abbrev pub AreBelow : List ℕ → ℕ → Type 0
AreBelow xs limit = (i : ℕ) → i < length xs → slice_index xs i < limit

abbrev pub addresses : List Wish → List ℕ
addresses drives = map (λ d. d.address) drives

-- an address of a drive or a slave
abbrev pub is_address : ℕ → Bool
is_address n = nat_le 1 n && nat_le n most_address

abbrev pub IsAddress : ℕ → Type 0
IsAddress n = (1 ≤ n) × (n ≤ most_address)

-- The input of one drive. Its AT has the status word, the information word and at most 64 bytes of
-- feedback values after the address. Its data record has the control word, the information word and
-- at most 64 bytes of command values.
pub record IsWish (d : Wish) : Type 0 where
  pub address : IsAddress d.address
  pub at_len : (4 ≤ d.at_len) × (d.at_len ≤ 68)
  pub record_len : (4 ≤ d.record_len) × (d.record_len ≤ 68)

-- one drive or more, each with an address of its own, whose data records fit an MDT
pub record AreDrives (w : WishesView) : Type 0 where
  pub some : 1 ≤ length w.drives
  pub few : length w.drives ≤ most_drives
  pub wishes : (k : ℕ) → k < length w.drives → IsWish (wish w k)
  pub apart : AreDistinct (addresses w.drives)
  pub mdt_len : record_bytes w.drives ≤ most_records

-- the order lists the index of each of the drives once
pub record IsOrder (order : List ℕ) (drives : ℕ) : Type 0 where
  pub count : length order ≡ drives
  pub within : AreBelow order drives
  pub once : AreDistinct order

-- the rates of this profile, in bits per microsecond
unfoldable pub is_rate : ℕ → Bool
is_rate rate = (rate == 2) || ((rate == 4) || ((rate == 8) || (rate == 16)))

-- the cycle times of this profile, in microseconds: the shortest, and multiples of a unit up to the
-- longest
unfoldable pub is_cycle : ℕ → Bool
is_cycle cycle = (cycle == least_cycle) || (nat_le cycle_unit cycle && (nat_le cycle most_cycle && (cycle % cycle_unit == 0)))

abbrev pub IsCycle : ℕ → Type 0
IsCycle cycle = (cycle ≡ least_cycle) ⊎ ((cycle_unit ≤ cycle) × (cycle ≤ most_cycle) × (cycle % cycle_unit ≡ 0))

-- the control unit cycle time is a positive multiple of the cycle time
unfoldable pub is_control : ℕ → ℕ → Bool
is_control cycle control = nat_le 1 control && (control % cycle == 0)

-- rate, cycle time, control unit cycle time and gap are ones of this profile
pub record AreCycles (w : WishesView) : Type 0 where
  pub rate : (w.rate ≡ 2) ⊎ (w.rate ≡ 4) ⊎ (w.rate ≡ 8) ⊎ (w.rate ≡ 16)
  pub cycle : IsCycle w.cycle
  pub control : (1 ≤ w.control) × (w.control % w.cycle ≡ 0)
  pub gap : w.gap ≤ most_gap

-- planner's input for which a plan may be requested
pub record IsValid (w : WishesView) : Type 0 where
  pub drives : AreDrives w
  pub order : IsOrder w.order (length w.drives)
  pub cycles : AreCycles w
