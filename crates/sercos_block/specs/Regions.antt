-- The region of bytes that holds the elements of a store's blocks, and its index.
use Rattle.std.specs.Prelude.{◌≡◌, ℕ, ◌+◌, ◌≤◌, if◌then◌else◌, List, [], ◌∷◌, length, map, take, drop, Option, Some, None, option_map, unwrap_or, IfSome}
use Rattle.std.specs.List.{sum_by}
use Rattle.std.specs.Int.{w32, to_le_bytes}
use Rattle.sercos_idn.specs.declared.attribute.Attribute.{Attribute}
use Rattle.sercos_idn.specs.Attributes.{attribute_word}
use Rattle.sercos_idn.specs.Codes.{is_list, item_len}
use Rattle.sercos_block.specs.declared.block.Block.{Block}
use Rattle.sercos_block.specs.declared.entry.Entry.{Entry}
use Rattle.sercos_block.specs.declared.entry.Limit.{Limit}
use Rattle.sercos_block.specs.declared.entry.Part.{Part}
use Rattle.sercos_block.specs.Blocks.{bytes_for}
use Rattle.sercos_block.specs.Stores.{IsStore}

-- the bytes of a part of the region
abbrev pub part_of : List ℕ → Part → List ℕ
part_of region p = take p.len (drop p.place region)

-- the bits of a minimum or a maximum
abbrev pub limit_bits : Limit → ℕ
limit_bits l = l.bits

-- the block of an entry
abbrev pub block_of : List ℕ → Entry → Block
block_of region e = record {
  idn = e.idn;
  attribute = e.attribute;
  name = option_map (part_of region) e.name;
  unit = option_map (part_of region) e.unit;
  min = option_map limit_bits e.min;
  max = option_map limit_bits e.max;
  value = part_of region e.value;
  max_len = e.max_len;
  fixed = e.fixed;
  step = e.step;
  fails = e.fails;
}

-- the blocks of entries
abbrev pub blocks_of : List ℕ → List Entry → List Block
blocks_of region entries = map (block_of region) entries

-- the four bytes of an attribute
abbrev pub word_bytes : Attribute → List ℕ
word_bytes a = to_le_bytes w32 (attribute_word a)

-- the bytes of a minimum or a maximum; no bytes if it is absent
abbrev pub limit_bytes : Attribute → Option ℕ → List ℕ
limit_bytes a None = []
limit_bytes a (Some bits) = bytes_for a bits

-- the part of these bytes if they begin at an index
abbrev pub part_at : ℕ → List ℕ → Part
part_at place bytes = record { place = place; len = length bytes }

-- a minimum or a maximum whose bytes begin at an index
abbrev pub limit_at : Attribute → ℕ → ℕ → Limit
limit_at a place bits = record { bits = bits; bytes = part_at place (bytes_for a bits) }

-- the most bytes of the operation data of an entry
abbrev pub most_value : Entry → ℕ
most_value e = if is_list e.attribute.length then e.max_len else item_len e.attribute.length

-- the index after the bytes of a block, the last of which are those of its operation data
abbrev pub end_of : Entry → ℕ
end_of e = e.value.place + most_value e

-- the number of bytes of the region that a block takes: those of its attribute, limits, name and
-- unit, and of its longest operation data
abbrev pub room_of : Block → ℕ
room_of b =
    4 + length (limit_bytes b.attribute b.min) + length (limit_bytes b.attribute b.max)
    + length (unwrap_or b.name []) + length (unwrap_or b.unit [])
    + (if is_list b.attribute.length then b.max_len else item_len b.attribute.length)

-- the part is between two indices, and has at most 1024 bytes
pub record IsBetween (low high : ℕ) (p : Part) : Type 0 where
  pub from : low ≤ p.place
  pub to : p.place + p.len ≤ high
  pub few : p.len ≤ 1024

-- All bytes of the block are at or after index `low`. Its operation data is after its other bytes,
-- with at most its most bytes.
pub record IsLaid (low : ℕ) (e : Entry) : Type 0 where
  pub word : IsBetween low e.value.place e.word
  pub name : IfSome e.name (IsBetween low e.value.place)
  pub unit : IfSome e.unit (IsBetween low e.value.place)
  pub min : IfSome e.min (λ l. IsBetween low e.value.place l.bytes)
  pub max : IfSome e.max (λ l. IsBetween low e.value.place l.bytes)
  pub from : low ≤ e.value.place
  pub value : e.value.len ≤ most_value e
  pub few : most_value e ≤ 1024

-- the bytes of the blocks are between two indices, one block after the other
unfoldable pub AreLaid : ℕ → ℕ → List Entry → Type 0
AreLaid low high [] = low ≤ high
AreLaid low high (e ∷ entries) = IsLaid low e × AreLaid (end_of e) high entries

-- the attribute and the limits of an entry are in the region as bytes too
pub record HasNumbers (region : List ℕ) (e : Entry) : Type 0 where
  pub word : part_of region e.word ≡ word_bytes e.attribute
  pub min : IfSome e.min (λ l. part_of region l.bytes ≡ bytes_for e.attribute l.bits)
  pub max : IfSome e.max (λ l. part_of region l.bytes ≡ bytes_for e.attribute l.bits)

-- the same for all entries
unfoldable pub HaveNumbers : List ℕ → List Entry → Type 0
HaveNumbers region [] = Unit {0}
HaveNumbers region (e ∷ entries) = HasNumbers region e × HaveNumbers region entries

-- all bytes of an entry are in the region
pub record IsWithin (region : List ℕ) (e : Entry) : Type 0 where
  pub laid : IsLaid 0 e
  pub end : end_of e ≤ length region
  pub numbers : HasNumbers region e

-- the region and the index of a store
pub record IsRegion (region : List ℕ) (entries : List Entry) : Type 0 where
  pub store : IsStore (blocks_of region entries)
  pub laid : AreLaid 0 (length region) entries
  pub numbers : HaveNumbers region entries

-- the region and the index of these blocks; the region has no more bytes than they may need
pub record HasPacked (blocks : List Block) (region : List ℕ) (entries : List Entry) : Type 0 where
  pub len : length region ≡ sum_by room_of blocks
  pub same : blocks_of region entries ≡ blocks
  pub laid : AreLaid 0 (length region) entries
  pub numbers : HaveNumbers region entries

-- the region after a block was appended: its bytes come after all others
pub record HasAppended (b : Block) (before after : List ℕ) (e : Entry) : Type 0 where
  pub kept : take (length before) after ≡ before
  pub len : length after ≡ length before + room_of b
  pub same : block_of after e ≡ b
  pub laid : IsLaid (length before) e
  pub end : end_of e ≡ length after
  pub numbers : HasNumbers after e
