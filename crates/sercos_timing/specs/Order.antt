-- The input of each drive, and the order in which the ATs are sent.
use Rattle.std.specs.Prelude.{ℕ, zero, suc, ◌+◌, ◌*◌, Bool, List, [], ◌∷◌, length, Option, Some, None, option_map, slice_index, slice_index_or, sum_by, ◌==◌, if◌then◌else◌}
use Rattle.sercos_model.specs.Frames.{wire_bits}
use Rattle.sercos_timing.specs.Views.{WishesView}
use Rattle.sercos_timing.specs.declared.wishes.Times.{Times}
use Rattle.sercos_timing.specs.declared.wishes.Wish.{Wish}

-- the input at an index that no drive has
abbrev pub no_wish : Wish
no_wish = record {
  address = 0;
  slave = 0;
  times = record { t1min = 0; tatmt = 0; t4min = 0; tatat = 0; tmtsy = 0; tmtsg = 0 };
  at_len = 0;
  record_len = 0;
}

-- the input of the drive at index k of the ring
abbrev pub wish : WishesView → ℕ → Wish
wish w k = slice_index_or w.drives k no_wish

abbrev pub times : WishesView → ℕ → Times
times w k = (wish w k).times

abbrev pub same_slave : WishesView → ℕ → ℕ → Bool
same_slave w j k = (wish w j).slave == (wish w k).slave

-- the indices of the drives that send the first n ATs of the order, the latest AT first
abbrev pub first_sent : List ℕ → ℕ → List ℕ
first_sent order zero = []
first_sent order (suc n) = slice_index order n ∷ first_sent order n

-- All of them, the last AT of the order first. From here on `before` is the rest of this list after
-- k: the ATs that are sent before that of the drive k, the nearest first.
abbrev pub sent : WishesView → List ℕ
sent w = first_sent w.order (length w.order)

-- the drive at an index of the order, if there is an index
abbrev pub place_at : WishesView → Option ℕ → Option ℕ
place_at w at = option_map (slice_index w.order) at

-- the AT that is sent directly before that of k, if another slave sends it
abbrev pub neighbor : WishesView → ℕ → List ℕ → Option ℕ
neighbor w k [] = None
neighbor w k (j ∷ before) = if same_slave w j k then None else Some j

-- the last AT before that of k that the same slave sends
abbrev pub previous : WishesView → ℕ → List ℕ → Option ℕ
previous w k [] = None
previous w k (j ∷ before) = if same_slave w j k then Some j else previous w k before

-- the most bits of a frame of the AT of k: its content is the address and `at_len` bytes
abbrev pub at_bits : WishesView → ℕ → ℕ
at_bits w k = wire_bits ((wish w k).at_len + 1)

-- the bytes of the MDT after the address: the data records of all drives
abbrev pub record_bytes : List Wish → ℕ
record_bytes drives = sum_by (λ d. d.record_len) drives

-- the most bits of a frame of the MDT
abbrev pub mdt_bits : WishesView → ℕ
mdt_bits w = wire_bits (record_bytes w.drives + 1)

-- the bit time at which the AT of the drive k starts
abbrev pub bits_of : WishesView → List ℕ → ℕ → ℕ
bits_of w t1 k = w.rate * slice_index t1 k
