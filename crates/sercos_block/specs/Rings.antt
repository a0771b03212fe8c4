-- The rules for a ring and its drives, and the planner's input for a ring.
use Rattle.std.specs.Prelude.{ℕ, ◌+◌, ◌≤◌, ◌==◌, nat_lt, nat_le, Bool, true, false, not, ◌&&◌, if◌then◌else◌, List, [], ◌∷◌, ◌++◌, length, map, Option, Some, None, is_some, is_none, unwrap_or, option_map, option_and_then}
use Rattle.std.specs.List.{list_all, list_any, find, sum_by}
use Rattle.std.specs.Option.{option_or}
use Rattle.sercos_idn.specs.declared.idn.Idn.{Idn}
use Rattle.sercos_idn.specs.declared.attribute.Attribute.{Attribute}
use Rattle.sercos_idn.specs.Codes.{item_len, attribute_fault}
use Rattle.sercos_idn.specs.Attributes.{attribute_of}
use Rattle.sercos_timing.specs.declared.wishes.Times.{Times}
use Rattle.sercos_timing.specs.declared.wishes.Wish.{Wish}
use Rattle.sercos_timing.specs.Views.{WishesView}
use Rattle.sercos_timing.specs.Limits.{most_drives, most_records, most_cycle, most_gap, most_t1min, most_tatmt, most_t4min, most_tatat, most_tmtsy, most_tmtsg}
use Rattle.sercos_timing.specs.Valid.{is_address, is_rate, is_cycle, is_control}
use Rattle.sercos_block.specs.declared.block.Block.{Block}
use Rattle.sercos_block.specs.declared.built_in.BuiltIn.{BuiltIn}
use Rattle.sercos_block.specs.BuiltIns.{built_ins}
use Rattle.sercos_block.specs.Limits.{most_blocks, most_busy, most_command, most_cycles}
use Rattle.sercos_block.specs.Views.{DriveView, RingView}
use Rattle.sercos_block.specs.Blocks.{is_number}
use Rattle.sercos_block.specs.Rules.{blocks_fault}

-- the attribute that a word spells; `None` if it is no attribute
unfoldable pub attribute_in : ℕ → Option Attribute
attribute_in word = if is_none (attribute_fault word) then Some (attribute_of word) else None

-- the first of these rows of the table of built-in blocks with the identifier number
unfoldable pub row_in : List BuiltIn → ℕ → Option BuiltIn
row_in rows raw = find (λ row. row.idn.raw == raw) rows

-- the attribute of the built-in block with the identifier number
unfoldable pub built_in_attribute : ℕ → Option Attribute
built_in_attribute raw = option_and_then (λ row. attribute_in row.attribute) (row_in built_ins raw)

-- the attribute of the first of these blocks with the identifier number
unfoldable pub own_attribute : List Block → ℕ → Option Attribute
own_attribute blocks raw = option_map (λ b. b.attribute) (find (λ b. b.idn.raw == raw) blocks)

-- the attribute of a drive's block with the identifier number: a built-in one, otherwise one of its
-- own
unfoldable pub block_attribute : List Block → ℕ → Option Attribute
block_attribute blocks raw = option_or (built_in_attribute raw) (own_attribute blocks raw)

-- the number of bytes that operation data adds to a telegram: two or four if it is a number; a
-- telegram carries nothing else
abbrev pub number_len : Attribute → Option ℕ
number_len a = if is_number a then Some (item_len a.length) else None

-- the number of bytes that an identifier number adds to a telegram of a drive with these own blocks
unfoldable pub cyclic_len : List Block → ℕ → Option ℕ
cyclic_len blocks raw = option_and_then number_len (block_attribute blocks raw)

-- whether a telegram can carry the operation data with this identifier number
abbrev pub is_cyclic : List Block → ℕ → Bool
is_cyclic blocks raw = is_some (cyclic_len blocks raw)

-- the same number of bytes; 0 if no telegram can carry it
abbrev pub value_len : List Block → ℕ → ℕ
value_len blocks raw = unwrap_or (cyclic_len blocks raw) 0

-- the number of bytes of a telegram after its address, or of a data record: two words, and what each
-- of these values adds
abbrev pub telegram_len : {X : Type 0} → (X → Option ℕ) → List X → ℕ
telegram_len len_of values = 4 + sum_by (λ value. unwrap_or (len_of value) 0) values

-- the same for a list of identifier numbers
unfoldable pub listed_len : List Block → List Idn → ℕ
listed_len blocks idns = telegram_len (λ idn. cyclic_len blocks idn.raw) idns

-- the number of bytes of a drive's AT after its address
abbrev pub at_len : DriveView → ℕ
at_len d = listed_len d.blocks d.at

-- the number of bytes of a drive's data record in the MDT
abbrev pub record_len : DriveView → ℕ
record_len d = listed_len d.blocks d.mdt

-- the number of bytes of the MDT after its address
unfoldable pub mdt_len : List DriveView → ℕ
mdt_len drives = sum_by record_len drives

-- whether a ring's own numbers are in their ranges: the rate in bits per microsecond, the cycle
-- time, the control unit cycle time and the gap in microseconds, and the number of cycles
unfoldable pub are_ring_numbers : ℕ → ℕ → ℕ → ℕ → ℕ → Bool
are_ring_numbers rate cycle control gap cycles =
    is_rate rate && (is_cycle cycle && (is_control cycle control && (nat_le control most_cycle
    && (nat_le gap most_gap && (nat_le 1 cycles && nat_le cycles most_cycles)))))

-- whether the ring's own numbers are in their ranges
abbrev pub has_ring_numbers : RingView → Bool
has_ring_numbers r = are_ring_numbers r.rate r.cycle r.control r.gap r.cycles

-- whether a drive can declare these times, in microseconds
unfoldable pub are_times : Times → Bool
are_times t =
    nat_le t.t1min most_t1min && (nat_le t.tatmt most_tatmt && (nat_le t.t4min most_t4min && (nat_le t.tatat most_tatat
    && (nat_le t.tmtsy most_tmtsy && nat_le t.tmtsg most_tmtsg))))

-- whether a drive's own numbers are in their ranges; `busy` and `command` are cycles, `cycle_min`
-- and `cycle_max` microseconds
unfoldable pub are_drive_numbers : ℕ → ℕ → ℕ → ℕ → Times → ℕ → ℕ → Bool
are_drive_numbers address slave busy command times cycle_min cycle_max =
    is_address address && (is_address slave && (nat_le busy most_busy && (nat_le command most_command && (are_times times
    && (nat_le cycle_min most_cycle && nat_le cycle_max most_cycle)))))

-- whether the drive's own numbers are in their ranges
abbrev pub has_drive_numbers : DriveView → Bool
has_drive_numbers d = are_drive_numbers d.address d.slave d.busy d.command d.times d.cycle_min d.cycle_max

-- whether the drive has not too many data blocks of its own, and all keep the rules
unfoldable pub has_blocks : DriveView → Bool
has_blocks d = nat_le (length d.blocks) most_blocks && is_none (blocks_fault [] d.blocks)

-- whether telegrams can carry all identifier numbers of a list
unfoldable pub are_cyclic : List Block → List Idn → Bool
are_cyclic blocks idns = list_all (λ idn. is_cyclic blocks idn.raw) idns

-- whether one of the drives has the address
unfoldable pub has_address : ℕ → List DriveView → Bool
has_address address drives = list_any (λ d. d.address == address) drives

-- whether there is an attribute, and it isn't that of a procedure command
abbrev pub is_no_command : Option Attribute → Bool
is_no_command (Some a) = not a.command
is_no_command None = false

-- whether a drive with the address has a block with the identifier number that is no procedure
-- command
unfoldable pub has_other_data : ℕ → ℕ → List DriveView → Bool
has_other_data address raw drives =
    list_any (λ d. (d.address == address) && is_no_command (block_attribute d.blocks raw)) drives

-- whether a drive may follow these in the ring: its address isn't one of theirs, and it keeps its
-- own rules
unfoldable pub is_drive : List DriveView → DriveView → Bool
is_drive before d =
    not (has_address d.address before) && (has_drive_numbers d && (has_blocks d
    && (are_cyclic d.blocks d.at && are_cyclic d.blocks d.mdt)))

-- whether each drive may follow those before it, the first of them those in `before`
unfoldable pub are_drives : List DriveView → List DriveView → Bool
are_drives before [] = true
are_drives before (d ∷ drives) = is_drive before d && are_drives (before ++ d ∷ []) drives

-- whether an index is below the number of drives and not among those before it in the order
unfoldable pub is_turn : ℕ → List ℕ → ℕ → Bool
is_turn drives before place = nat_lt place drives && not (list_any (λ k. k == place) before)

-- whether the indices in the order are distinct and below the number of drives
unfoldable pub are_turns : ℕ → List ℕ → List ℕ → Bool
are_turns drives before [] = true
are_turns drives before (place ∷ order) = is_turn drives before place && are_turns drives (before ++ place ∷ []) order

-- whether the order lists the index of each drive once
unfoldable pub is_order : ℕ → List ℕ → Bool
is_order drives order = (length order == drives) && are_turns drives [] order

-- whether there are at least one drive and not too many, which keep the rules, and whose data
-- records fit into an MDT
unfoldable pub has_drives : RingView → Bool
has_drives r =
    nat_le 1 (length r.drives)
    && (nat_le (length r.drives) most_drives && (are_drives [] r.drives && nat_le (mdt_len r.drives) most_records))

-- whether the ring keeps all rules: it is valid
unfoldable pub is_ring : RingView → Bool
is_ring r = has_ring_numbers r && (has_drives r && is_order (length r.drives) r.order)

-- the planner's input for a drive: its addresses, the times that it declares, and the lengths of
-- its telegrams in bytes
abbrev pub wish_of : DriveView → Wish
wish_of d = record { address = d.address; slave = d.slave; times = d.times; at_len = at_len d; record_len = record_len d }

-- the lengths of a drive's telegrams: two words, and at most sixteen numbers of four bytes
abbrev pub HasLens : Wish → Type 0
HasLens w = (4 ≤ w.at_len) × (w.at_len ≤ 68) × (4 ≤ w.record_len) × (w.record_len ≤ 68)

-- the planner's input for a ring
unfoldable pub wishes_of : RingView → WishesView
wishes_of r = record {
  rate = r.rate;
  cycle = r.cycle;
  control = r.control;
  gap = r.gap;
  order = r.order;
  drives = map wish_of r.drives;
}
