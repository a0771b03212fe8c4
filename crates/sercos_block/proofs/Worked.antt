-- Worked examples, computed from the definitions: a drive with the blocks S-0-0047 and S-0-0051, and the steps of a start-up.
use Rattle.std.proofs.Common.{◌≡◌, ℕ, ◌+◌, ◌*◌, false, List, [], ◌∷◌, map, length, Option, Some, None, codes, refl}
use Rattle.std.specs.List.{sum_by}
use Rattle.sercos_idn.specs.Attributes.{attribute_of}
use Rattle.sercos_block.specs.declared.block.Block.{Block}
use Rattle.sercos_block.specs.declared.check.Field.TheVariants as fields
use Rattle.sercos_block.specs.Views.{DriveView, RingView}
use Rattle.sercos_block.specs.Blocks.{element_of}
use Rattle.sercos_block.specs.BuiltIns.{built_in}
use Rattle.sercos_block.specs.Rules.{block_fault, blocks_fault}
use Rattle.sercos_block.specs.Startup.{read_steps, write_steps, start_steps, listed_steps, stop_steps, request_steps, startup_of, startup_bound}
use Rattle.sercos_block.specs.Stores.{find_block, inserted, with_own, store_of, read_fault, data_fault, put_fault}

abbrev four : ℕ → Option (List ℕ) → List ℕ → ℕ → Block
four raw unit value step = record {
  idn = record { raw = raw };
  attribute = attribute_of 0x00220001;
  name = None;
  unit = unit;
  min = None;
  max = None;
  value = value;
  max_len = 0;
  fixed = false;
  step = step;
  fails = false;
}

abbrev own : Option (List ℕ) → List Block
own unit = four 47 unit (0 ∷ 0 ∷ 0 ∷ 0 ∷ []) 0 ∷ four 51 None (244 ∷ 251 ∷ 0 ∷ 0 ∷ []) 10 ∷ []

abbrev drive : DriveView
drive = record {
  address = 1;
  slave = 1;
  busy = 0;
  command = 0;
  times = record { t1min = 10; tatmt = 6; t4min = 20; tatat = 5; tmtsy = 10; tmtsg = 20 };
  cycle_min = 125;
  cycle_max = 64000;
  at = record { raw = 51 } ∷ [];
  mdt = record { raw = 47 } ∷ [];
  blocks = own None;
}

numbers : map (λ (b : Block). b.idn.raw) (store_of drive)
    ≡ 1 ∷ 2 ∷ 3 ∷ 4 ∷ 5 ∷ 6 ∷ 7 ∷ 8 ∷ 9 ∷ 10 ∷ 15 ∷ 16 ∷ 21 ∷ 22 ∷ 24 ∷ 47 ∷ 51 ∷ 87 ∷ 88 ∷ 89 ∷ 90 ∷ 127 ∷ 128 ∷ []
unfolding store_of with_own inserted built_in
numbers = refl

fault_of : ℕ → ℕ → List ℕ → Option ℕ
fault_of raw phase bytes = put_fault (find_block raw (store_of drive)) phase bytes

-- T1 is written in phase 2, and protected in phase 4; T1min is fixed
written : fault_of 6 2 (10 ∷ 0 ∷ []) ≡ None
unfolding fault_of store_of with_own inserted built_in attribute_of data_fault
written = refl

protected : fault_of 6 4 (10 ∷ 0 ∷ []) ≡ Some 0x7005
unfolding fault_of store_of with_own inserted built_in attribute_of data_fault
protected = refl

fixed : fault_of 3 2 (10 ∷ 0 ∷ []) ≡ Some 0x7004
unfolding fault_of store_of with_own inserted built_in attribute_of data_fault
fixed = refl

short : fault_of 6 2 (10 ∷ []) ≡ Some 0x7002
unfolding fault_of store_of with_own inserted built_in attribute_of data_fault
short = refl

long : fault_of 6 2 (10 ∷ 0 ∷ 0 ∷ []) ≡ Some 0x7003
unfolding fault_of store_of with_own inserted built_in attribute_of data_fault
long = refl

-- a cycle time outside the drive's limits
below : fault_of 2 2 (124 ∷ 0 ∷ []) ≡ Some 0x7006
unfolding fault_of store_of with_own inserted built_in attribute_of data_fault
below = refl

above : fault_of 2 2 (1 ∷ 250 ∷ []) ≡ Some 0x7007
unfolding fault_of store_of with_own inserted built_in attribute_of data_fault
above = refl

-- a procedure command is set or cancelled, and nothing else
no_command : fault_of 127 2 (1 ∷ 0 ∷ []) ≡ Some 0x7008
unfolding fault_of store_of with_own inserted built_in attribute_of data_fault
no_command = refl

-- T1 has no name, and there is no S-0-0099
no_name : read_fault (find_block 6 (store_of drive)) 2 ≡ Some 0x2001
unfolding store_of with_own inserted built_in attribute_of element_of
no_name = refl

no_block : read_fault (find_block 99 (store_of drive)) 7 ≡ Some 0x1001
unfolding store_of with_own inserted built_in
no_block = refl

-- the blocks can stand, but for a unit of thirteen letters
good : blocks_fault [] (own None) ≡ None
unfolding blocks_fault block_fault attribute_of
good = refl

long_unit : blocks_fault [] (own (Some (codes "increments of"))) ≡ Some (record { index = 0; field = fields.Unit })
unfolding blocks_fault block_fault attribute_of
long_unit = refl

-- the steps that a start-up, a stop and a request are allowed, each a sum
steps : (read_steps ≡ 24) × (write_steps ≡ 50) × (start_steps ≡ 82) × (listed_steps ≡ 4) × (stop_steps ≡ 41) × (request_steps ≡ 520)
steps = (refl, refl, refl, refl, refl, refl)

startup_steps : (d : DriveView) → startup_of d ≡ (d.busy + 2) * (82 + 4 * (length d.at + length d.mdt) + 2 * d.command)
startup_steps d = refl

startup_cycles : (r : RingView) → startup_bound r ≡ 20 + 2 * length r.drives + sum_by startup_of r.drives
startup_cycles r = refl
