-- The lists under a table's keys. A list of tables is refused at its own path, other lists at their
-- items' paths.
use Rattle.std.specs.Prelude.{ℕ, pos, ◌+◌, ◌&&◌, ◌++◌, nat_le, List, [], ◌∷◌, length, Option, Some, None, Ok}
use Rattle.toml.specs.Data.{Data, Members, Items, no_items, item, as_array, as_table}
use Rattle.sercos_document.specs.declared.path.Place.{Place}
use Rattle.sercos_document.specs.declared.refusal.BadDocument.TheVariants as bad
use Rattle.sercos_document.specs.Paths.{path, item_path}
use Rattle.sercos_document.specs.Answers.{Answer, ◌>>=◌, ◌>>◌, demand, or_refused}
use Rattle.sercos_document.specs.Tables.{Located, optional, required}

-- these tables and then those of a list; Kind at the list if an item is not a table
unfoldable pub tables_onto : List ℕ → List Members → Items → Answer (List Members)
tables_onto p done no_items = Ok done
tables_onto p done (item d rest) = or_refused (bad.Kind p) (as_table d) >>= (λ t. tables_onto p (done ++ t ∷ []) rest)

-- the tables, if their number is in the range; otherwise Range with their number
abbrev pub counted : List ℕ → ℕ → ℕ → List Members → Answer (List Members)
counted p low high ts = demand (nat_le low (length ts) && nat_le (length ts) high) (bad.Range p (pos (length ts))) >> Ok ts

-- a required list of tables, their number in a range
unfoldable pub required_tables : Located → List ℕ → ℕ → ℕ → Answer (List Members)
required_tables t key low high = do
  items ← required as_array t key
  ts ← tables_onto (path t.place key) [] items
  counted (path t.place key) low high ts

-- a list of tables, their number in a range, or none if the key is absent
abbrev pub tables_in : List ℕ → ℕ → ℕ → Option Items → Answer (List Members)
tables_in p low high None = Ok []
tables_in p low high (Some items) = tables_onto p [] items >>= counted p low high

unfoldable pub tables : Located → List ℕ → ℕ → ℕ → Answer (List Members)
tables t key low high = optional as_array t key >>= tables_in (path t.place key) low high

-- these values and then those of a list, all of one type; Kind at the first item of another type
unfoldable pub all_onto : {A : Type 0} → (Data → Option A) → Place → List ℕ → List A → Items → Answer (List A)
all_onto kind place key done no_items = Ok done
all_onto kind place key done (item d rest) =
    or_refused (bad.Kind (item_path place key (length done))) (kind d) >>= (λ x. all_onto kind place key (done ++ x ∷ []) rest)

-- the number of items of a list
unfoldable pub count_of : Items → ℕ
count_of no_items = 0
count_of (item d rest) = 1 + count_of rest

-- a list of at most n values, or an empty one if the key is absent; otherwise Range with their
-- number
abbrev pub at_most : List ℕ → ℕ → Option Items → Answer Items
at_most p most None = Ok no_items
at_most p most (Some items) = demand (nat_le (count_of items) most) (bad.Range p (pos (count_of items))) >> Ok items

unfoldable pub short_list : Located → List ℕ → ℕ → Answer Items
short_list t key most = optional as_array t key >>= at_most (path t.place key) most
