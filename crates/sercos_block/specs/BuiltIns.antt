-- The data blocks that every drive has.
use Rattle.std.specs.Prelude.{ℕ, ◌==◌, Bool, true, false, List, [], ◌∷◌, map, Option, Some, None}
use Rattle.std.specs.Int.{w16, to_le_bytes}
use Rattle.std.specs.List.{list_any}
use Rattle.sercos_idn.specs.Attributes.{attribute_of}
use Rattle.sercos_block.specs.declared.block.Block.{Block}
use Rattle.sercos_block.specs.declared.built_in.BuiltIn.{BuiltIn}
use Rattle.sercos_block.specs.declared.built_in.Opening.{Opening}
use Rattle.sercos_block.specs.declared.built_in.Opening.TheVariants.{Zero, CycleTime, T1min, Tatmt, T4min, Tatat, Tmtsy, Tmtsg, Empty}
use Rattle.sercos_block.specs.Views.{DriveView}

-- a row of the table: the identifier number, the word of the attribute, whether the block is fixed,
-- and its operation data at opening
abbrev pub row : ℕ → ℕ → Bool → Opening → BuiltIn
row raw word fixed opening = record { idn = record { raw = raw }; attribute = word; fixed = fixed; opening = opening }

-- the built-in blocks, ascending by identifier number
abbrev pub built_ins : List BuiltIn
built_ins =
    row 1 0x60110001 false Zero
    ∷ row 2 0x60110001 false CycleTime
    ∷ row 3 0x70110001 true T1min
    ∷ row 4 0x70110001 true Tatmt
    ∷ row 5 0x70110001 true T4min
    ∷ row 6 0x60110001 false Zero
    ∷ row 7 0x60110001 false Zero
    ∷ row 8 0x60110001 false Zero
    ∷ row 9 0x60110001 false Zero
    ∷ row 10 0x60110001 false Zero
    ∷ row 15 0x60110001 false Zero
    ∷ row 16 0x60550001 false (Empty 32)
    ∷ row 21 0x70550001 true (Empty 128)
    ∷ row 22 0x70550001 true (Empty 128)
    ∷ row 24 0x60550001 false (Empty 32)
    ∷ row 87 0x70110001 true Tatat
    ∷ row 88 0x70110001 true Tmtsy
    ∷ row 89 0x60110001 false Zero
    ∷ row 90 0x70110001 true Tmtsg
    ∷ row 127 0x60090001 false Zero
    ∷ row 128 0x50090001 false Zero
    ∷ []

-- whether a built-in block has the identifier number
abbrev pub is_built_in : ℕ → Bool
is_built_in raw = list_any (λ (b : BuiltIn). b.idn.raw == raw) built_ins

-- the operation data at opening: a time that the drive declares, an empty list, or 0
abbrev pub opening_value : DriveView → Opening → List ℕ
opening_value d T1min = to_le_bytes w16 d.times.t1min
opening_value d Tatmt = to_le_bytes w16 d.times.tatmt
opening_value d T4min = to_le_bytes w16 d.times.t4min
opening_value d Tatat = to_le_bytes w16 d.times.tatat
opening_value d Tmtsy = to_le_bytes w16 d.times.tmtsy
opening_value d Tmtsg = to_le_bytes w16 d.times.tmtsg
opening_value d (Empty most) = []
opening_value d _ = 0 ∷ 0 ∷ []

-- the most bytes of a list; 0 if the operation data is not a list
abbrev pub opening_max_len : Opening → ℕ
opening_max_len (Empty most) = most
opening_max_len _ = 0

-- a limit of the block: only the cycle time has the limits that the drive declares
abbrev pub opening_limit : Opening → ℕ → Option ℕ
opening_limit CycleTime limit = Some limit
opening_limit _ limit = None

-- the built-in block of a row of the table: it has no name, no unit and no step, and never fails
abbrev pub built_in_block : DriveView → BuiltIn → Block
built_in_block d b = record {
  idn = b.idn;
  attribute = attribute_of b.attribute;
  name = None;
  unit = None;
  min = opening_limit b.opening d.cycle_min;
  max = opening_limit b.opening d.cycle_max;
  value = opening_value d b.opening;
  max_len = opening_max_len b.opening;
  fixed = b.fixed;
  step = 0;
  fails = false;
}

-- the built-in blocks of a drive
unfoldable pub built_in : DriveView → List Block
built_in d = map (built_in_block d) built_ins
