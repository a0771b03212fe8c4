-- A data block of a document.
use Rattle.std.specs.Prelude.{ℕ, pos, ◌++◌, ◌==◌, ◌&&◌, ◌||◌, not, Bool, false, List, [], ◌∷◌, length, codes, if◌then◌else◌, Option, Some, None, is_none, Ok}
use Rattle.toml.specs.Data.{Members, as_str}
use Rattle.sercos_idn.specs.declared.idn.Idn.{Idn}
use Rattle.sercos_idn.specs.declared.attribute.Attribute.{Attribute}
use Rattle.sercos_idn.specs.Idns.{idn_fault, spelled_raw}
use Rattle.sercos_block.specs.declared.block.Block.{Block}
use Rattle.sercos_block.specs.Limits.{most_name, most_unit}
use Rattle.sercos_block.specs.Blocks.{is_number}
use Rattle.sercos_block.specs.BuiltIns.{is_built_in}
use Rattle.sercos_block.specs.Rules.{has_block, is_text}
use Rattle.sercos_block.specs.Rings.{attribute_in}
use Rattle.sercos_document.specs.declared.path.Place.TheVariants as place
use Rattle.sercos_document.specs.declared.refusal.BadDocument.TheVariants as bad
use Rattle.sercos_document.specs.Paths.{path}
use Rattle.sercos_document.specs.Answers.{Answer, ◌>>=◌, ◌>>◌, demand, or_refused}
use Rattle.sercos_document.specs.Tables.{Located, optional, required, number, number_or, boolean_or, known}
use Rattle.sercos_config.specs.Numbers.{limit_of, max_len_of, data_of}

-- the identifier number that a text spells; otherwise Range with the number of its bytes
unfoldable pub idn_of : List ℕ → Option Idn
idn_of text = if is_none (idn_fault text) then Some (record { raw = spelled_raw text }) else None

unfoldable pub idn_in : List ℕ → List ℕ → Answer Idn
idn_in p text = or_refused (bad.Range p (pos (length text))) (idn_of text)

-- the identifier number of the text under a key
unfoldable pub idn_under : Located → List ℕ → Answer Idn
idn_under t key = do
  text ← required as_str t key
  idn_in (path t.place key) text

-- an attribute: its word is a number of 32 bits, and one that is an attribute's
unfoldable pub attribute_under : Located → Answer Attribute
attribute_under t = do
  word ← number t (codes "attribute") 0 4294967295
  or_refused (bad.Range (path t.place (codes "attribute")) (pos word)) (attribute_in word)

-- a name or a unit of at most n bytes, if the key is present; otherwise Range with the number of its
-- bytes
abbrev pub text_or_none : ℕ → List ℕ → Option (List ℕ) → Answer (Option (List ℕ))
text_or_none most p None = Ok None
text_or_none most p (Some text) = demand (is_text most (Some text)) (bad.Range p (pos (length text))) >> Ok (Some text)

unfoldable pub text_under : Located → List ℕ → ℕ → Answer (Option (List ℕ))
text_under t key most = optional as_str t key >>= text_or_none most (path t.place key)

-- a step: only a number without limits has one
unfoldable pub step_under : Attribute → Option ℕ → Option ℕ → Located → Answer ℕ
step_under a min max t = do
  step ← number_or t (codes "step") 0 4294967295 0
  demand ((step == 0) || (is_number a && (is_none min && is_none max))) (bad.Range (path t.place (codes "step")) (pos step))
  Ok step

-- whether the block fails: only a procedure command does
unfoldable pub fails_under : Attribute → Located → Answer Bool
fails_under a t = do
  fails ← boolean_or t (codes "fails") false
  demand (not (fails && not a.command)) (bad.Range (path t.place (codes "fails")) (pos 1))
  Ok fails

unfoldable pub block_keys : List (List ℕ)
block_keys =
    codes "idn" ∷ codes "attribute" ∷ codes "name" ∷ codes "unit" ∷ codes "min" ∷ codes "max" ∷ codes "max_len" ∷ codes "data"
    ∷ codes "fixed" ∷ codes "step" ∷ codes "fails" ∷ []

-- the data block of a table, after these blocks of its drive
unfoldable pub block_of : List Block → Located → Answer Block
block_of before t = do
  known t block_keys
  idn ← idn_under t (codes "idn")
  demand (not (is_built_in idn.raw || has_block idn.raw before)) (bad.Twice (path t.place (codes "idn")))
  attribute ← attribute_under t
  name ← text_under t (codes "name") most_name
  unit ← text_under t (codes "unit") most_unit
  min ← limit_of t (codes "min") attribute
  max ← limit_of t (codes "max") attribute
  max_len ← max_len_of attribute t
  value ← data_of max_len attribute t
  fixed ← boolean_or t (codes "fixed") false
  step ← step_under attribute min max t
  fails ← fails_under attribute t
  Ok (record {
    idn = idn;
    attribute = attribute;
    name = name;
    unit = unit;
    min = min;
    max = max;
    value = value;
    max_len = max_len;
    fixed = fixed;
    step = step;
    fails = fails;
  })

-- the data blocks of these tables, after those
unfoldable pub blocks_onto : ℕ → List Block → List Members → Answer (List Block)
blocks_onto drive done [] = Ok done
blocks_onto drive done (t ∷ ts) =
    block_of done (record { place = place.Block drive (length done); members = t }) >>= (λ block. blocks_onto drive (done ++ block ∷ []) ts)
