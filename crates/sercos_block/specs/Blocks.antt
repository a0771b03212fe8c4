-- The operation data of data blocks, and their elements as bytes.
use Rattle.std.specs.Prelude.{ℕ, ◌^◌, ◌==◌, nat_lt, Bool, true, false, not, ◌&&◌, ◌||◌, if◌then◌else◌, List, Option, Some, option_map, ℤ, pos}
use Rattle.std.specs.Int.{Width, w16, w32, cast_signed, to_le_bytes, from_le_bytes}
use Rattle.sercos_idn.specs.declared.attribute.Attribute.{Attribute}
use Rattle.sercos_idn.specs.declared.kinds.Length.{Length}
use Rattle.sercos_idn.specs.declared.kinds.Length.TheVariants.{Two}
use Rattle.sercos_idn.specs.declared.kinds.Form.{Form}
use Rattle.sercos_idn.specs.declared.kinds.Form.TheVariants as forms
use Rattle.sercos_idn.specs.Codes.{is_list}
use Rattle.sercos_idn.specs.Attributes.{attribute_word}
use Rattle.sercos_block.specs.declared.block.Block.{Block}

-- whether the operation data is one number: two or four bytes, and no procedure command
abbrev pub is_number : Attribute → Bool
is_number a = not (is_list a.length) && not a.command

-- the width of a number of two or four bytes
abbrev pub width_of : Length → Width
width_of Two = w16
width_of _ = w32

-- the limit below which all numbers of a length are
abbrev pub number_end : Length → ℕ
number_end Two = 2 ^ 16
number_end _ = 2 ^ 32

-- the bits of the number that bytes spell, the low byte first
abbrev pub bits_in : Attribute → List ℕ → ℕ
bits_in a bytes = from_le_bytes (width_of a.length) bytes

-- the bytes that spell a number with these bits, the low byte first
abbrev pub bytes_for : Attribute → ℕ → List ℕ
bytes_for a bits = to_le_bytes (width_of a.length) bits

-- whether the display form is signed
abbrev pub is_signed : Form → Bool
is_signed forms.Signed = true
is_signed _ = false

-- the number that bits spell: in two's complement if the display form is signed
abbrev pub meant : Attribute → ℕ → ℤ
meant a bits = if is_signed a.form then cast_signed (width_of a.length) bits else pos bits

-- the bytes of an element from 2 to 7, if there is one: name, attribute, unit, minimum, maximum,
-- operation data
unfoldable pub element_of : Block → ℕ → Option (List ℕ)
element_of b e =
    if e == 2 then b.name
    else (if e == 3 then Some (to_le_bytes w32 (attribute_word b.attribute))
    else (if e == 4 then b.unit
    else (if e == 5 then option_map (bytes_for b.attribute) b.min
    else (if e == 6 then option_map (bytes_for b.attribute) b.max
    else Some b.value))))

-- whether the operation data can never be written: the block is fixed or has a step
abbrev pub is_fixed : Block → Bool
is_fixed b = b.fixed || nat_lt 0 b.step

-- whether the operation data is write protected in a phase from 2 to 4
abbrev pub is_protected : Attribute → ℕ → Bool
is_protected a phase = if phase == 2 then a.protect2 else (if phase == 3 then a.protect3 else a.protect4)
