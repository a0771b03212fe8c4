-- Rings whose plans are worked out by hand.
use Rattle.std.specs.Prelude.{ℕ, List, [], ◌∷◌}
use Rattle.sercos_timing.specs.Views.{WishesView}
use Rattle.sercos_timing.specs.declared.wishes.Wish.{Wish}

-- a drive with one feedback value and one command value of four bytes: status or control word,
-- information word and value
abbrev pub small_drive : ℕ → ℕ → ℕ → ℕ → ℕ → Wish
small_drive address slave t1min tatat tmtsy = record {
  address = address;
  slave = slave;
  times = record { t1min = t1min; tatmt = 6; t4min = 20; tatat = tatat; tmtsy = tmtsy; tmtsg = 20 };
  at_len = 8;
  record_len = 8;
}

-- a ring of such drives at 4 bits per microsecond, with a gap of 5 microseconds
abbrev pub small_ring : ℕ → List ℕ → List Wish → WishesView
small_ring cycle order drives = record { rate = 4; cycle = cycle; control = cycle; gap = 5; order = order; drives = drives }

-- two drives of two slaves, the TMTSY of the first as an argument
abbrev pub two_drives : ℕ → ℕ → WishesView
two_drives cycle tmtsy = small_ring cycle (0 ∷ 1 ∷ []) (small_drive 1 1 10 5 tmtsy ∷ small_drive 2 2 12 5 10 ∷ [])

-- and a third drive of the first slave, whose transmitter recovers for 60 microseconds
abbrev pub three_drives : WishesView
three_drives =
    small_ring 250 (0 ∷ 1 ∷ 2 ∷ []) (small_drive 1 1 10 5 10 ∷ small_drive 2 2 12 5 10 ∷ small_drive 3 1 10 60 10 ∷ [])

-- a drive of a slave of its own with two feedback values and two command values of four bytes each
abbrev pub large_drive : ℕ → Wish
large_drive address = record {
  address = address;
  slave = address;
  times = record { t1min = 20; tatmt = 15; t4min = 100; tatat = 20; tmtsy = 20; tmtsg = 50 };
  at_len = 12;
  record_len = 12;
}

-- three of them, in a cycle of a millisecond
abbrev pub large_drives : WishesView
large_drives = record {
  rate = 4;
  cycle = 1000;
  control = 1000;
  gap = 10;
  order = 0 ∷ 1 ∷ 2 ∷ [];
  drives = large_drive 1 ∷ large_drive 2 ∷ large_drive 3 ∷ [];
}
