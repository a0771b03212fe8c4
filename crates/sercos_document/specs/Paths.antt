-- Where a table is in a document, and the paths of its keys: `ring.gap`, `drive[0].block[2].idn`,
-- `ring.order[1]`.
use Rattle.std.specs.Prelude.{ℕ, List, [], ◌++◌, codes}
use Rattle.std.specs.Fmt.{decimal}
use Rattle.sercos_document.specs.declared.path.Place.{Place}
use Rattle.sercos_document.specs.declared.path.Place.TheVariants.{Top, Ring, Drive, Block, Request, Fault}

-- the key of a list and an index in it, counted from 0
unfoldable pub listed : List ℕ → ℕ → List ℕ
listed key place = key ++ codes "[" ++ decimal place ++ codes "]"

-- the part of a path before the keys of a table
unfoldable pub before_keys : Place → List ℕ
before_keys Top = []
before_keys Ring = codes "ring."
before_keys (Drive drive) = listed (codes "drive") drive ++ codes "."
before_keys (Block drive block) = listed (codes "drive") drive ++ codes "." ++ listed (codes "block") block ++ codes "."
before_keys (Request request) = listed (codes "request") request ++ codes "."
before_keys (Fault fault) = listed (codes "fault") fault ++ codes "."

-- the path of a key, and the path of an item of its list
unfoldable pub path : Place → List ℕ → List ℕ
path place key = before_keys place ++ key

unfoldable pub item_path : Place → List ℕ → ℕ → List ℕ
item_path place key item = before_keys place ++ listed key item
