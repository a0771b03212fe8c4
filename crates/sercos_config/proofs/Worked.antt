-- Worked requests and faults in a ring of two drives with the addresses 1 and 7, which the checker computes.
use Rattle.std.proofs.Common.{◌≡◌, ℕ, [], ◌∷◌, List, refl}
use Rattle.std.specs.Prelude.{pos, codes, Ok, Err}
use Rattle.toml.specs.Data.{string, integer, Members, no_members, member}
use Rattle.sercos_telegram.specs.declared.layout.Kind.TheVariants as telegrams
use Rattle.sercos_block.specs.Views.{DriveView}
use Rattle.sercos_block.specs.Rings.{has_address}
use Rattle.sercos_step.specs.declared.request.Request.TheVariants as request
use Rattle.sercos_script.specs.declared.fault.Damage.TheVariants as damage
use Rattle.sercos_document.specs.declared.path.Place.TheVariants as place
use Rattle.sercos_document.specs.declared.refusal.BadDocument.TheVariants as bad
use Rattle.sercos_document.specs.Answers.{demand}
use Rattle.sercos_document.specs.Paths.{path}
use Rattle.sercos_document.specs.Tables.{Located, optional, required, between, number, number_or, is_among, least_unknown, known}
use Rattle.sercos_idn.specs.Idns.{head_fault, digits_fault, idn_fault}
use Rattle.sercos_config.specs.Block.{idn_of, idn_in, idn_under}
use Rattle.sercos_config.specs.Ring.{place_from}
use Rattle.sercos_config.specs.Words.{glimpse, word, key_if, address_under}
use Rattle.sercos_config.specs.Request.{request_kind, has_element, has_data, keys_if as request_keys_if, request_keys, asked_of, request_of}
use Rattle.sercos_config.specs.Fault.{fault_kind, telegram_kind, has_telegram, has_from, has_link, has_bit, has_station, keys_if, fault_keys, telegram_of, drive_station, any_station, from_of, hears, station_of, link_of, damage_of, fault_of}

abbrev drive : ℕ → DriveView
drive address = record {
  address = address;
  slave = address;
  busy = 0;
  command = 0;
  times = record { t1min = 10; tatmt = 6; t4min = 20; tatat = 5; tmtsy = 10; tmtsg = 20 };
  cycle_min = 125;
  cycle_max = 64000;
  at = [];
  mdt = [];
  blocks = [];
}

abbrev drives : List DriveView
drives = drive 1 ∷ drive 7 ∷ []

abbrev in_request : Members → Located
in_request members = record { place = place.Request 0; members = members }

abbrev in_fault : Members → Located
in_fault members = record { place = place.Fault 2; members = members }

-- an element that isn't named is 7, and a job has the drive's address
read_asked : request_of drives (in_request (member (codes "drive") (integer (pos 7)) (member (codes "idn") (string (codes "S-0-0051")) (member (codes "kind") (string (codes "read")) no_members))))
    ≡ Ok (record { drive = 7; request = request.Read (record { raw = 51 }) 7 })
unfolding request_of known least_unknown is_among request_keys request_keys_if key_if has_element has_data glimpse request_kind address_under number between has_address demand word required optional idn_under idn_in idn_of idn_fault head_fault digits_fault asked_of number_or
read_asked = refl

-- an AT of the drive with the address 7 comes from station 2
at_lost : fault_of drives (in_fault (member (codes "cycle") (integer (pos 5)) (member (codes "from") (integer (pos 7)) (member (codes "kind") (string (codes "lose")) (member (codes "link") (integer (pos 2)) (member (codes "telegram") (string (codes "at")) no_members))))))
    ≡ Ok (record { cycle = 5; last = 5; every = 1; kind = telegrams.At; from = 2; damage = damage.Lose 2 })
unfolding fault_of known least_unknown is_among fault_keys keys_if key_if has_telegram has_from has_link has_bit has_station glimpse fault_kind telegram_kind word required optional number between number_or telegram_of from_of drive_station place_from link_of damage_of
at_lost = refl

-- a restart has the kind of an MST
restarted : fault_of drives (in_fault (member (codes "cycle") (integer (pos 0)) (member (codes "every") (integer (pos 3)) (member (codes "kind") (string (codes "restart")) (member (codes "last") (integer (pos 9)) (member (codes "station") (integer (pos 1)) no_members))))))
    ≡ Ok (record { cycle = 0; last = 9; every = 3; kind = telegrams.Mst; from = 0; damage = damage.Restart 1 })
unfolding fault_of known least_unknown is_among fault_keys keys_if key_if has_telegram has_from has_link has_bit has_station glimpse fault_kind telegram_kind word required optional number between number_or telegram_of from_of drive_station place_from any_station station_of hears demand damage_of
restarted = refl

-- the master is deaf to an AT; an MDT doesn't come to it
master_deaf : fault_of drives (in_fault (member (codes "cycle") (integer (pos 5)) (member (codes "from") (integer (pos 1)) (member (codes "kind") (string (codes "deaf")) (member (codes "station") (integer (pos 0)) (member (codes "telegram") (string (codes "at")) no_members))))))
    ≡ Ok (record { cycle = 5; last = 5; every = 1; kind = telegrams.At; from = 1; damage = damage.Deaf 0 })
unfolding fault_of known least_unknown is_among fault_keys keys_if key_if has_telegram has_from has_link has_bit has_station glimpse fault_kind telegram_kind word required optional number between number_or telegram_of from_of drive_station place_from any_station station_of hears demand damage_of
master_deaf = refl

no_mdt_to_the_master : fault_of drives (in_fault (member (codes "cycle") (integer (pos 5)) (member (codes "kind") (string (codes "deaf")) (member (codes "station") (integer (pos 0)) (member (codes "telegram") (string (codes "mdt")) no_members)))))
    ≡ Err (bad.Range (path (place.Fault 2) (codes "station")) (pos 0))
unfolding fault_of known least_unknown is_among fault_keys keys_if key_if has_telegram has_from has_link has_bit has_station glimpse fault_kind telegram_kind word required optional number between number_or telegram_of from_of drive_station place_from any_station station_of hears demand damage_of
no_mdt_to_the_master = refl
