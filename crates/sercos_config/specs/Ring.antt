-- The ring's own keys, and the order of its drives.
use Rattle.std.specs.Prelude.{ℕ, zero, suc, ℤ, pos, ◌+◌, ◌%◌, ◌++◌, ◌==◌, not, List, [], ◌∷◌, length, codes, if◌then◌else◌, Option, Some, None, Ok}
use Rattle.std.specs.List.{list_any}
use Rattle.std.specs.Ordering.{int_eq}
use Rattle.toml.specs.Data.{Items, as_integer, as_array}
use Rattle.sercos_block.specs.Views.{DriveView}
use Rattle.sercos_timing.specs.Limits.{least_cycle, most_cycle, most_gap}
use Rattle.sercos_timing.specs.Valid.{is_rate, is_cycle}
use Rattle.sercos_block.specs.Limits.{most_cycles}
use Rattle.sercos_config.specs.declared.ring.Head.{Head}
use Rattle.sercos_document.specs.declared.path.Place.{Place}
use Rattle.sercos_document.specs.declared.refusal.BadDocument.TheVariants as bad
use Rattle.sercos_document.specs.Paths.{path, item_path}
use Rattle.sercos_document.specs.Answers.{Answer, ◌>>=◌, ◌>>◌, demand, or_refused}
use Rattle.sercos_document.specs.Tables.{Located, optional, number, number_or, known}
use Rattle.sercos_document.specs.Lists.{all_onto}

unfoldable pub ring_keys : List (List ℕ)
ring_keys = codes "rate" ∷ codes "cycle" ∷ codes "control" ∷ codes "gap" ∷ codes "cycles" ∷ codes "order" ∷ []

-- the numbers of a ring
unfoldable pub head_of : Located → Answer Head
head_of t = do
  known t ring_keys
  rate ← number t (codes "rate") 2 16
  demand (is_rate rate) (bad.Range (path t.place (codes "rate")) (pos rate))
  cycle ← number t (codes "cycle") least_cycle most_cycle
  demand (is_cycle cycle) (bad.Range (path t.place (codes "cycle")) (pos cycle))
  control ← number_or t (codes "control") 1 most_cycle cycle
  demand (control % cycle == 0) (bad.Range (path t.place (codes "control")) (pos control))
  gap ← number_or t (codes "gap") 0 most_gap 5
  cycles ← number t (codes "cycles") 1 most_cycles
  Ok (record { rate = rate; cycle = cycle; control = control; gap = gap; cycles = cycles })

-- the place of the first drive that has this address, the places being counted from here
unfoldable pub place_from : ℕ → ℤ → List DriveView → Option ℕ
place_from place address [] = None
place_from place address (d ∷ ds) = if int_eq (pos d.address) address then Some place else place_from (place + 1) address ds

-- the drive that an item names, which is in the order once
unfoldable pub turn_of : List DriveView → Place → List ℕ → List ℕ → ℤ → Answer ℕ
turn_of drives place key done address = do
  drive ← or_refused (bad.Range (item_path place key (length done)) address) (place_from 0 address drives)
  demand (not (list_any (λ k. k == drive) done)) (bad.Twice (item_path place key (length done)))
  Ok drive

-- the drives of these addresses, after those
unfoldable pub turns_onto : List DriveView → Place → List ℕ → List ℕ → List ℤ → Answer (List ℕ)
turns_onto drives place key done [] = Ok done
turns_onto drives place key done (address ∷ rest) =
    turn_of drives place key done address >>= (λ drive. turns_onto drives place key (done ++ drive ∷ []) rest)

-- the order of a list of addresses, as many as there are drives
unfoldable pub listed_order : List DriveView → Place → List ℕ → Items → Answer (List ℕ)
listed_order drives place key items = do
  addresses ← all_onto as_integer place key [] items
  demand (length addresses == length drives) (bad.Range (path place key) (pos (length addresses)))
  turns_onto drives place key [] addresses

-- the places below a number, ascending
unfoldable pub places_below : ℕ → List ℕ
places_below zero = []
places_below (suc n) = places_below n ++ n ∷ []

abbrev pub order_or_all : List DriveView → Place → List ℕ → Option Items → Answer (List ℕ)
order_or_all drives place key None = Ok (places_below (length drives))
order_or_all drives place key (Some items) = listed_order drives place key items

-- the order of the drives, by their places in the ring: that of the ring where the key is absent
unfoldable pub order_of : List DriveView → Located → Answer (List ℕ)
order_of drives t = optional as_array t (codes "order") >>= order_or_all drives t.place (codes "order")
