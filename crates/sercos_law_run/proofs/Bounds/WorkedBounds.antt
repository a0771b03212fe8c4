-- The bounds of a ring of one drive, worked out: busy time 1, a procedure command that runs for one cycle, and two listed identifier
-- numbers.
use Rattle.sercos_law_run.proofs.Words.{◌≡◌, ℕ, ◌+◌, ◌*◌, [], ◌∷◌, refl, arith, Idn, startup_bound, DriveView, RingView, fall_cycles, recovery_bound, read_cycles, return_cycles, List}

abbrev idn : ℕ → Idn
idn raw = record { raw = raw }

abbrev one : DriveView
one = record {
  address = 1;
  slave = 1;
  busy = 1;
  command = 1;
  times = record { t1min = 0; tatmt = 0; t4min = 0; tatat = 0; tmtsy = 0; tmtsg = 0 };
  cycle_min = 0;
  cycle_max = 65000;
  at = idn 51 ∷ [];
  mdt = idn 47 ∷ [];
  blocks = [];
}

abbrev ring : RingView
ring = record { rate = 2; cycle = 2000; control = 2000; gap = 50; cycles = 400; order = 0 ∷ []; drives = one ∷ [] }

bounds : (startup_bound ring ≡ 298) × (recovery_bound ring ≡ 796)
bounds = (refl, refl)

-- Phase 2 comes in cycle 12. Its reads take 60 cycles, and its writes 104, if the status is asked for once. So phase 3 comes in cycle
-- 177, and with four answers more phase 4 in cycle 186.
phases : (read_cycles one ≡ 60) × (11 + 1 + read_cycles one + (1 + 1) * (49 + 2 + 1) + 1 ≡ 177) × (177 + (1 + 1) * (3 + 1) + 1 ≡ 186)
phases = (refl, refl, refl)

-- The ring falls at the latest 68 cycles after the last disturbed one, since it has no other drive, and phase 4 comes after a start-up.
falls : (fall_cycles ring ≡ 68) × (return_cycles ring ≡ 366)
falls = (refl, refl)

-- THE EXAMPLES. A drive without busy time and commands, and one that is busy for 20 cycles; each lists two identifier numbers.
abbrev quick : DriveView
quick = record one { busy = 0; command = 0 }

abbrev slow : DriveView
slow = record one { busy = 20; command = 0 }

abbrev ring_of : List DriveView → RingView
ring_of drives = record ring { drives = drives }

one_drive : (fall_cycles (ring_of (quick ∷ [])) ≡ 68) × (return_cycles (ring_of (quick ∷ [])) ≡ 270)
    × (recovery_bound (ring_of (quick ∷ [])) ≡ 604)
one_drive = (refl, refl, refl)

-- The section of the slow drive takes 1092 cycles; that of the quick one, which is the least, isn't counted, whichever comes first. Of two
-- slow drives one is counted.
two_drives : (fall_cycles (ring_of (slow ∷ quick ∷ [])) ≡ 1160)
    × (fall_cycles (ring_of (quick ∷ slow ∷ [])) ≡ 1160)
    × (return_cycles (ring_of (slow ∷ quick ∷ [])) ≡ 3344)
    × (recovery_bound (ring_of (slow ∷ quick ∷ [])) ≡ 4568)
    × (fall_cycles (ring_of (slow ∷ slow ∷ [])) ≡ 1160)
two_drives = (refl, refl, refl, refl, refl)

-- one cycle less is rejected
fewer_is_rejected : return_cycles (ring_of (slow ∷ quick ∷ [])) ≡ 3343 → ⊥
fewer_is_rejected is = omega (arith, is)
