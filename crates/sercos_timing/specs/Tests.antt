-- Valid planner's input, as a test that can be computed.
use Rattle.std.specs.Prelude.{◌≡◌, ◌↔◌, ℕ, ◌==◌, nat_lt, nat_le, Bool, true, not, ◌&&◌, List, [], ◌∷◌, length}
use Rattle.std.specs.List.{list_all, list_any}
use Rattle.sercos_timing.specs.Views.{WishesView}
use Rattle.sercos_timing.specs.Limits.{most_drives, most_records, most_gap}
use Rattle.sercos_timing.specs.Order.{record_bytes}
use Rattle.sercos_timing.specs.Valid.{addresses, is_address, is_rate, is_cycle, is_control, IsValid}
use Rattle.sercos_timing.specs.declared.wishes.Wish.{Wish}

-- no number occurs twice
abbrev pub are_distinct : List ℕ → Bool
are_distinct [] = true
are_distinct (x ∷ xs) = not (list_any (λ y. x == y) xs) && are_distinct xs

-- all numbers are below a limit
abbrev pub are_below : List ℕ → ℕ → Bool
are_below xs limit = list_all (λ x. nat_lt x limit) xs

-- an address of a drive, and 4 to 68 bytes in its AT and in its data record
abbrev pub is_wish : Wish → Bool
is_wish d = is_address d.address && ((nat_le 4 d.at_len && nat_le d.at_len 68) && (nat_le 4 d.record_len && nat_le d.record_len 68))

-- one drive or more, each with an address of its own, whose data records fit an MDT
abbrev pub are_drives : WishesView → Bool
are_drives w =
    (nat_le 1 (length w.drives) && nat_le (length w.drives) most_drives)
    && (list_all is_wish w.drives && (are_distinct (addresses w.drives) && nat_le (record_bytes w.drives) most_records))

-- the order lists the index of each of this number of drives once
abbrev pub is_order : List ℕ → ℕ → Bool
is_order order drives = (length order == drives) && (are_below order drives && are_distinct order)

-- rate, cycle time, control unit cycle time and gap are ones of this profile
abbrev pub are_cycles : WishesView → Bool
are_cycles w = is_rate w.rate && (is_cycle w.cycle && (is_control w.cycle w.control && nat_le w.gap most_gap))

-- planner's input for which a plan may be requested
unfoldable pub is_valid : WishesView → Bool
is_valid w = are_drives w && (is_order w.order (length w.drives) && are_cycles w)

-- the test agrees with the relation
abbrev pub TellsValid : Type 0
TellsValid = (w : WishesView) → ((is_valid w ≡ true) ↔ IsValid w)
