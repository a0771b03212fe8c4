-- Keys whose values are words or addresses of drives.
use Rattle.std.specs.Prelude.{ℕ, pos, List, length, codes, if◌then◌else◌, Bool, Option, option_and_then, Ok}
use Rattle.toml.specs.Data.{get_member, as_str}
use Rattle.sercos_timing.specs.Limits.{most_address}
use Rattle.sercos_block.specs.Views.{DriveView}
use Rattle.sercos_block.specs.Rings.{has_address}
use Rattle.sercos_document.specs.declared.refusal.BadDocument.TheVariants as bad
use Rattle.sercos_document.specs.Paths.{path}
use Rattle.sercos_document.specs.Answers.{Answer, ◌>>=◌, ◌>>◌, demand, or_refused}
use Rattle.sercos_document.specs.Tables.{Located, required, number}

-- what the text under a key means, where the key has a text, and that is one of some words; nothing is refused
unfoldable pub glimpse : {A : Type 0} → (List ℕ → Option A) → Located → List ℕ → Option A
glimpse meaning t key = option_and_then meaning (option_and_then as_str (get_member key t.members))

-- one of some words; otherwise Range with the number of the text's bytes
unfoldable pub word : {A : Type 0} → (List ℕ → Option A) → Located → List ℕ → Answer A
word meaning t key = do
  text ← required as_str t key
  or_refused (bad.Range (path t.place key) (pos (length text))) (meaning text)

-- The key if it counts. One that doesn't is named by `kind`, which is a key of each table that has words, so that it adds
-- nothing to the keys that count.
unfoldable pub key_if : Bool → List ℕ → List ℕ
key_if counts key = if counts then key else codes "kind"

-- the address of one of the drives
unfoldable pub address_under : List DriveView → Located → List ℕ → Answer ℕ
address_under drives t key = do
  address ← number t key 1 most_address
  demand (has_address address drives) (bad.Range (path t.place key) (pos address))
  Ok address
