-- A fault of a document.
use Rattle.std.specs.Prelude.{ℕ, suc, ◌-◌, ℤ, pos, ◌==◌, ◌++◌, not, Bool, true, false, List, [], ◌∷◌, length, codes, if◌then◌else◌, Option, Some, None, option_map, Ok}
use Rattle.std.specs.Str.{bytes_eq}
use Rattle.std.specs.Ordering.{int_eq}
use Rattle.toml.specs.Data.{Members, as_integer}
use Rattle.sercos_telegram.specs.declared.layout.Kind.{Kind}
use Rattle.sercos_telegram.specs.declared.layout.Kind.TheVariants.{Mst, At, Mdt}
use Rattle.sercos_block.specs.Limits.{most_cycles}
use Rattle.sercos_block.specs.Views.{DriveView}
use Rattle.sercos_script.specs.declared.fault.Damage.{Damage}
use Rattle.sercos_script.specs.declared.fault.Damage.TheVariants as damage
use Rattle.sercos_script.specs.declared.fault.Fault.{Fault}
use Rattle.sercos_config.specs.declared.fault.FaultKind.{FaultKind}
use Rattle.sercos_config.specs.declared.fault.FaultKind.TheVariants.{Lose, Flip, Cut, Deaf, Restart}
use Rattle.sercos_document.specs.declared.path.Place.TheVariants as place
use Rattle.sercos_document.specs.declared.refusal.BadDocument.TheVariants as bad
use Rattle.sercos_document.specs.Paths.{path}
use Rattle.sercos_document.specs.Answers.{Answer, ◌>>=◌, ◌>>◌, demand, or_refused}
use Rattle.sercos_document.specs.Tables.{Located, required, number, number_or, known}
use Rattle.sercos_config.specs.Ring.{place_from}
use Rattle.sercos_config.specs.Words.{glimpse, word, key_if}

-- the last cycle of the longest run, and the last bit of the longest frame
abbrev pub last_cycle : ℕ
last_cycle = most_cycles - 1

abbrev pub last_bit : ℕ
last_bit = 19695

-- the words of `kind`, and those of `telegram`
unfoldable pub fault_kind : List ℕ → Option FaultKind
fault_kind text =
    if bytes_eq text (codes "lose") then Some Lose
    else (if bytes_eq text (codes "flip") then Some Flip
    else (if bytes_eq text (codes "cut") then Some Cut
    else (if bytes_eq text (codes "deaf") then Some Deaf
    else (if bytes_eq text (codes "restart") then Some Restart else None))))

unfoldable pub telegram_kind : List ℕ → Option Kind
telegram_kind text =
    if bytes_eq text (codes "mst") then Some Mst
    else (if bytes_eq text (codes "mdt") then Some Mdt
    else (if bytes_eq text (codes "at") then Some At else None))

-- Which keys count for a kind and a telegram. All of them count where `kind` is absent or none of its words. A restart has
-- no telegram. For the other kinds these keys count where `telegram` is absent or none of its words.
unfoldable pub has_telegram : Option FaultKind → Bool
has_telegram (Some Restart) = false
has_telegram _ = true

unfoldable pub has_from : Option FaultKind → Option Kind → Bool
has_from None telegram = true
has_from (Some Restart) telegram = false
has_from (Some kind) None = true
has_from (Some kind) (Some Mst) = false
has_from (Some kind) (Some Mdt) = false
has_from (Some kind) (Some At) = true

unfoldable pub has_link : Option FaultKind → Option Kind → Bool
has_link None telegram = true
has_link (Some Restart) telegram = false
has_link (Some kind) None = true
has_link (Some Lose) (Some telegram) = true
has_link (Some Flip) (Some telegram) = true
has_link (Some Cut) (Some telegram) = true
has_link (Some Deaf) (Some telegram) = false

unfoldable pub has_bit : Option FaultKind → Option Kind → Bool
has_bit None telegram = true
has_bit (Some Restart) telegram = false
has_bit (Some kind) None = true
has_bit (Some Lose) (Some telegram) = false
has_bit (Some Flip) (Some telegram) = true
has_bit (Some Cut) (Some telegram) = true
has_bit (Some Deaf) (Some telegram) = false

unfoldable pub has_station : Option FaultKind → Option Kind → Bool
has_station None telegram = true
has_station (Some Restart) telegram = true
has_station (Some kind) None = true
has_station (Some Lose) (Some telegram) = false
has_station (Some Flip) (Some telegram) = false
has_station (Some Cut) (Some telegram) = false
has_station (Some Deaf) (Some telegram) = true

unfoldable pub keys_if : Bool → Bool → Bool → Bool → Bool → List (List ℕ)
keys_if telegram from link bit station =
    codes "kind" ∷ codes "cycle" ∷ codes "last" ∷ codes "every" ∷ key_if telegram (codes "telegram") ∷ key_if from (codes "from")
    ∷ key_if link (codes "link") ∷ key_if bit (codes "bit") ∷ key_if station (codes "station") ∷ []

unfoldable pub fault_keys : Option FaultKind → Option Kind → List (List ℕ)
fault_keys kind telegram =
    keys_if (has_telegram kind) (has_from kind telegram) (has_link kind telegram) (has_bit kind telegram) (has_station kind telegram)

-- the kind of the telegrams: a restart counts as one of the MST
unfoldable pub telegram_of : FaultKind → Located → Answer Kind
telegram_of Restart t = Ok Mst
telegram_of Lose t = word telegram_kind t (codes "telegram")
telegram_of Flip t = word telegram_kind t (codes "telegram")
telegram_of Cut t = word telegram_kind t (codes "telegram")
telegram_of Deaf t = word telegram_kind t (codes "telegram")

-- the station of a drive with an address: drives are counted from 1 in the order of the ring
unfoldable pub drive_station : List DriveView → ℤ → Option ℕ
drive_station drives address = option_map suc (place_from 0 address drives)

-- the station with an address: 0 is the master's
unfoldable pub any_station : List DriveView → ℤ → Option ℕ
any_station drives address = if int_eq address (pos 0) then Some 0 else drive_station drives address

-- the station that sends the telegrams: a drive sends an AT, and the master the others
unfoldable pub from_of : List DriveView → Kind → Located → Answer ℕ
from_of drives Mst t = Ok 0
from_of drives Mdt t = Ok 0
from_of drives At t = do
  address ← required as_integer t (codes "from")
  or_refused (bad.Range (path t.place (codes "from")) address) (drive_station drives address)

-- the station receives such telegrams: the master alone an AT, drives alone an MDT
unfoldable pub hears : Kind → ℕ → Bool
hears Mst station = true
hears At station = station == 0
hears Mdt station = not (station == 0)

unfoldable pub station_of : List DriveView → Kind → Located → Answer ℕ
station_of drives telegram t = do
  address ← required as_integer t (codes "station")
  station ← or_refused (bad.Range (path t.place (codes "station")) address) (any_station drives address)
  demand (hears telegram station) (bad.Range (path t.place (codes "station")) address)
  Ok station

-- a link: 0 to the number of drives
unfoldable pub link_of : List DriveView → Located → Answer ℕ
link_of drives t = number t (codes "link") 0 (length drives)

-- what a fault of a kind does
unfoldable pub damage_of : List DriveView → FaultKind → Kind → Located → Answer Damage
damage_of drives Lose telegram t = do
  link ← link_of drives t
  Ok (damage.Lose link)
damage_of drives Flip telegram t = do
  link ← link_of drives t
  bit ← number t (codes "bit") 0 last_bit
  Ok (damage.Flip link bit)
damage_of drives Cut telegram t = do
  link ← link_of drives t
  bit ← number t (codes "bit") 0 last_bit
  Ok (damage.Cut link bit)
damage_of drives Deaf telegram t = do
  station ← station_of drives telegram t
  Ok (damage.Deaf station)
damage_of drives Restart telegram t = do
  station ← station_of drives telegram t
  Ok (damage.Restart station)

-- the fault of a table, in a ring of these drives
unfoldable pub fault_of : List DriveView → Located → Answer Fault
fault_of drives t = do
  known t (fault_keys (glimpse fault_kind t (codes "kind")) (glimpse telegram_kind t (codes "telegram")))
  kind ← word fault_kind t (codes "kind")
  cycle ← number t (codes "cycle") 0 last_cycle
  last ← number_or t (codes "last") cycle last_cycle cycle
  every ← number_or t (codes "every") 1 most_cycles 1
  telegram ← telegram_of kind t
  from ← from_of drives telegram t
  damage ← damage_of drives kind telegram t
  Ok (record { cycle = cycle; last = last; every = every; kind = telegram; from = from; damage = damage })

-- the faults of these tables, after those
unfoldable pub faults_onto : List DriveView → List Fault → List Members → Answer (List Fault)
faults_onto drives done [] = Ok done
faults_onto drives done (t ∷ ts) =
    fault_of drives (record { place = place.Fault (length done); members = t }) >>= (λ fault. faults_onto drives (done ++ fault ∷ []) ts)
