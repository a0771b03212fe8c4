-- A typed ring with typed jobs: what the law asks can be met.
use Rattle.sercos_law_run.proofs.Words.{◌≡◌, zero, suc, true, false, List, [], ◌∷◌, None, refl, arith, All-from_recursion, Job, Block, DriveView, RingView, IsTypedRequest, AreTyped, AreTypedJobs, AreBytes, attribute_fault, attribute_of, is_rate, is_cycle, is_control, blocks_fault, block_fault, is_ring, are_ring_numbers, has_drives, are_drives, is_drive, has_address, are_drive_numbers, are_times, has_blocks, are_cyclic, block_attribute, built_in_attribute, row_in, own_attribute, attribute_in, mdt_len, listed_len, is_order, are_turns, is_turn, is_typed, Request, cyclic_len}

-- one drive, whose telegrams carry its one number
abbrev speed : Block
speed = record {
  idn = record { raw = 40 };
  attribute = attribute_of 0x00110001;
  name = None;
  unit = None;
  min = None;
  max = None;
  value = 1 ∷ 2 ∷ [];
  max_len = 0;
  fixed = false;
  step = 0;
  fails = false;
}

abbrev drive : DriveView
drive = record {
  address = 1;
  slave = 1;
  busy = 0;
  command = 2;
  times = record { t1min = 10; tatmt = 6; t4min = 20; tatat = 5; tmtsy = 10; tmtsg = 20 };
  cycle_min = 250;
  cycle_max = 1000;
  at = (record { raw = 40 }) ∷ [];
  mdt = (record { raw = 40 }) ∷ [];
  blocks = speed ∷ [];
}

abbrev ring : RingView
ring = record { rate = 4; cycle = 250; control = 250; gap = 5; cycles = 100; order = 0 ∷ []; drives = drive ∷ [] }

is_a_ring : is_ring ring ≡ true
unfolding is_ring are_ring_numbers is_rate is_cycle is_control has_drives are_drives is_drive has_address are_drive_numbers are_times has_blocks blocks_fault block_fault are_cyclic cyclic_len block_attribute built_in_attribute own_attribute row_in attribute_in attribute_fault attribute_of mdt_len listed_len is_order are_turns is_turn
is_a_ring = refl

are_typed : AreTyped ring
unfolding is_typed attribute_of
are_typed zero below = record { blocks = refl; at = omega arith; mdt = omega arith }
are_typed (suc k) below = absurd (omega (arith, below))

-- a write of the number, and a read of its attribute
abbrev jobs : List Job
jobs = (record { drive = 1; request = Request.Write (record { raw = 40 }) 7 (3 ∷ 0 ∷ []) }) ∷ (record { drive = 1; request = Request.Read (record { raw = 40 }) 3 }) ∷ []

write_typed : IsTypedRequest (Request.Write (record { raw = 40 }) 7 (3 ∷ 0 ∷ []))
unfolding AreBytes
write_typed = (omega arith, (omega arith, omega arith), (omega arith, (omega arith, tt)), omega arith)

read_typed : IsTypedRequest (Request.Read (record { raw = 40 }) 3)
read_typed = (omega arith, (omega arith, omega arith))

jobs_typed : AreTypedJobs jobs
jobs_typed = All-from_recursion (λ (job : Job). IsTypedRequest job.request) jobs (write_typed, (read_typed, tt))
