-- A drive of a document.
use Rattle.std.specs.Prelude.{ℕ, pos, ◌++◌, not, List, [], ◌∷◌, length, codes, Ok}
use Rattle.toml.specs.Data.{Members, Items, as_str}
use Rattle.sercos_idn.specs.declared.idn.Idn.{Idn}
use Rattle.sercos_timing.specs.declared.wishes.Times.{Times}
use Rattle.sercos_timing.specs.Limits.{most_address, least_cycle, most_cycle, most_t1min, most_tatmt, most_t4min, most_tatat, most_tmtsy, most_tmtsg}
use Rattle.sercos_block.specs.declared.block.Block.{Block}
use Rattle.sercos_block.specs.Limits.{most_blocks, most_busy, most_command, most_carried}
use Rattle.sercos_block.specs.Views.{DriveView}
use Rattle.sercos_block.specs.Rings.{is_cyclic, has_address}
use Rattle.sercos_document.specs.declared.path.Place.{Place}
use Rattle.sercos_document.specs.declared.path.Place.TheVariants as place
use Rattle.sercos_document.specs.declared.refusal.BadDocument.TheVariants as bad
use Rattle.sercos_document.specs.Paths.{path, item_path}
use Rattle.sercos_document.specs.Answers.{Answer, ◌>>=◌, ◌>>◌, demand}
use Rattle.sercos_document.specs.Tables.{Located, number, number_or, known}
use Rattle.sercos_document.specs.Lists.{tables, short_list, all_onto}
use Rattle.sercos_config.specs.declared.drive.DriveNumbers.{DriveNumbers}
use Rattle.sercos_config.specs.Block.{idn_in, blocks_onto}

-- the identifier number of an item, which a telegram of the drive can carry; otherwise Range with the raw number
unfoldable pub idn_at : List Block → Place → List ℕ → ℕ → List ℕ → Answer Idn
idn_at blocks place key item text = do
  idn ← idn_in (item_path place key item) text
  demand (is_cyclic blocks idn.raw) (bad.Range (item_path place key item) (pos idn.raw))
  Ok idn

-- the identifier numbers of these texts, after those
unfoldable pub idns_onto : List Block → Place → List ℕ → List Idn → List (List ℕ) → Answer (List Idn)
idns_onto blocks place key done [] = Ok done
idns_onto blocks place key done (text ∷ rest) =
    idn_at blocks place key (length done) text >>= (λ idn. idns_onto blocks place key (done ++ idn ∷ []) rest)

-- those of a list, whose items are all texts
unfoldable pub idns_of : List Block → Place → List ℕ → Items → Answer (List Idn)
idns_of blocks place key items = all_onto as_str place key [] items >>= idns_onto blocks place key []

-- the times that a drive declares, in microseconds
unfoldable pub times_of : Located → Answer Times
times_of t = do
  t1min ← number t (codes "t1min") 0 most_t1min
  tatmt ← number t (codes "tatmt") 0 most_tatmt
  t4min ← number t (codes "t4min") 0 most_t4min
  tatat ← number t (codes "tatat") 0 most_tatat
  tmtsy ← number t (codes "tmtsy") 0 most_tmtsy
  tmtsg ← number t (codes "tmtsg") 0 most_tmtsg
  Ok (record { t1min = t1min; tatmt = tatmt; t4min = t4min; tatat = tatat; tmtsy = tmtsy; tmtsg = tmtsg })

-- a drive with these numbers
abbrev pub with_lists : DriveNumbers → List Idn → List Idn → List Block → DriveView
with_lists n at mdt blocks =
    record {
      address = n.address;
      slave = n.slave;
      busy = n.busy;
      command = n.command;
      times = n.times;
      cycle_min = n.cycle_min;
      cycle_max = n.cycle_max;
      at = at;
      mdt = mdt;
      blocks = blocks;
    }

unfoldable pub drive_keys : List (List ℕ)
drive_keys =
    codes "address" ∷ codes "slave" ∷ codes "busy" ∷ codes "command" ∷ codes "t1min" ∷ codes "tatmt" ∷ codes "t4min" ∷ codes "tatat"
    ∷ codes "tmtsy" ∷ codes "tmtsg" ∷ codes "cycle_min" ∷ codes "cycle_max" ∷ codes "block" ∷ codes "at" ∷ codes "mdt" ∷ []

-- an address that none of these drives has
unfoldable pub new_address : List DriveView → Located → Answer ℕ
new_address before t = do
  address ← number t (codes "address") 1 most_address
  demand (not (has_address address before)) (bad.Twice (path t.place (codes "address")))
  Ok address

-- the numbers of a drive, after these drives
unfoldable pub drive_numbers_of : List DriveView → Located → Answer DriveNumbers
drive_numbers_of before t = do
  address ← new_address before t
  slave ← number_or t (codes "slave") 1 most_address address
  busy ← number_or t (codes "busy") 0 most_busy 0
  command ← number_or t (codes "command") 0 most_command 0
  times ← times_of t
  cycle_min ← number_or t (codes "cycle_min") 0 most_cycle least_cycle
  cycle_max ← number_or t (codes "cycle_max") 0 most_cycle most_cycle
  Ok (record {
    address = address;
    slave = slave;
    busy = busy;
    command = command;
    times = times;
    cycle_min = cycle_min;
    cycle_max = cycle_max;
  })

-- The drive of a table, after these drives. Its blocks follow its own keys, and the items of `at` and `mdt` the blocks, in
-- which they are looked up.
unfoldable pub drive_of : List DriveView → Located → Answer DriveView
drive_of before t = do
  known t drive_keys
  numbers ← drive_numbers_of before t
  tables ← tables t (codes "block") 0 most_blocks
  at_items ← short_list t (codes "at") most_carried
  mdt_items ← short_list t (codes "mdt") most_carried
  blocks ← blocks_onto (length before) [] tables
  at ← idns_of blocks t.place (codes "at") at_items
  mdt ← idns_of blocks t.place (codes "mdt") mdt_items
  Ok (with_lists numbers at mdt blocks)

-- the drives of these tables, after those
unfoldable pub drives_onto : List DriveView → List Members → Answer (List DriveView)
drives_onto done [] = Ok done
drives_onto done (t ∷ ts) =
    drive_of done (record { place = place.Drive (length done); members = t }) >>= (λ drive. drives_onto (done ++ drive ∷ []) ts)
