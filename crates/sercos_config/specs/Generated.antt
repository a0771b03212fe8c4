-- The document that this profile generates for a number of drives: each of them has a request, and loses an AT.
use Rattle.std.specs.Prelude.{ℕ, ◌+◌, ◌-◌, ◌*◌, ◌/◌, ◌%◌, [], ◌∷◌, map, None, false}
use Rattle.std.specs.List.{range_with_len}
use Rattle.sercos_idn.specs.declared.idn.Idn.{Idn}
use Rattle.sercos_idn.specs.Attributes.{attribute_of}
use Rattle.sercos_telegram.specs.declared.layout.Kind.TheVariants.{At}
use Rattle.sercos_timing.specs.Limits.{least_cycle, most_cycle}
use Rattle.sercos_timing.specs.declared.wishes.Times.{Times}
use Rattle.sercos_block.specs.declared.block.Block.{Block}
use Rattle.sercos_block.specs.Blocks.{bytes_for}
use Rattle.sercos_block.specs.Views.{DriveView, RingView}
use Rattle.sercos_block.specs.Startup.{startup_bound}
use Rattle.sercos_step.specs.declared.request.Request.TheVariants.{Read}
use Rattle.sercos_step.specs.declared.request.Job.{Job}
use Rattle.sercos_script.specs.declared.fault.Damage.TheVariants.{Lose}
use Rattle.sercos_script.specs.declared.fault.Fault.{Fault}
use Rattle.sercos_config.specs.Ring.{places_below}
use Rattle.sercos_config.specs.Views.{DocumentView}

-- S-0-0047 and S-0-0051
abbrev pub position_command : Idn
position_command = record { raw = 47 }

abbrev pub position_feedback : Idn
position_feedback = record { raw = 51 }

-- a number of four bytes with sign, which grows by a step in each cycle; it has no name, no unit and no limits
abbrev pub position_block : Idn → ℕ → ℕ → Block
position_block idn value step = record {
  idn = idn;
  attribute = attribute_of 0x00220001;
  name = None;
  unit = None;
  min = None;
  max = None;
  value = bytes_for (attribute_of 0x00220001) value;
  max_len = 0;
  fixed = false;
  step = step;
  fails = false;
}

-- the times that drive k declares, in microseconds
abbrev pub generated_times : ℕ → Times
generated_times k = record { t1min = 20 + k % 7; tatmt = 6; t4min = 20; tatat = 5; tmtsy = 10; tmtsg = 20 }

-- Drive k, from 1 on. Drives 1 and 2 belong to the first slave, 3 and 4 to the second, and so on. The AT carries the position
-- feedback, the data record in the MDT the position command.
unfoldable pub generated_drive : ℕ → DriveView
generated_drive k = record {
  address = k;
  slave = 1 + (k - 1) / 2;
  busy = k % 3;
  command = k % 4;
  times = generated_times k;
  cycle_min = least_cycle;
  cycle_max = most_cycle;
  at = position_feedback ∷ [];
  mdt = position_command ∷ [];
  blocks = position_block position_command 0 0 ∷ position_block position_feedback 64500 10 ∷ [];
}

-- the operation data of the position feedback of drive k is read
unfoldable pub generated_job : ℕ → Job
generated_job k = record { drive = k; request = Read position_feedback 7 }

-- the AT of drive k is lost on link n, the one to the master, in cycle 37k
unfoldable pub generated_fault : ℕ → ℕ → Fault
generated_fault n k = record { cycle = 37 * k; last = 37 * k; every = 1; kind = At; from = k; damage = Lose n }

-- the ring of drives 1 to n, in this order, for a number of cycles
unfoldable pub generated_ring : ℕ → ℕ → RingView
generated_ring n cycles = record {
  rate = 4;
  cycle = 4000;
  control = 4000;
  gap = 5;
  cycles = cycles;
  order = places_below n;
  drives = map generated_drive (range_with_len 1 n);
}

-- the bound of the ring's start-up, which doesn't depend on its number of cycles, and 100 cycles more
unfoldable pub generated_cycles : ℕ → ℕ
generated_cycles n = startup_bound (generated_ring n 0) + 100

-- the document of n drives: a request and a fault for each drive, in the order of the ring
unfoldable pub generated : ℕ → DocumentView
generated n = record {
  setup = generated_ring n (generated_cycles n);
  jobs = map generated_job (range_with_len 1 n);
  faults = map (generated_fault n) (range_with_len 1 n);
}
