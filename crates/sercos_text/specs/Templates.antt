-- Lines by templates. In a template some capital letters are fields, and every other byte is
-- itself.
use Rattle.std.specs.Prelude.{◌≡◌, ℕ, ℤ, pos, negsuc, ◌*◌, ◌==◌, ◌≤◌, nat_lt, nat_le, Bool, true, not, ◌&&◌, ◌||◌, if◌then◌else◌, List, [], ◌∷◌, ◌++◌, length, take, drop, slice_index, slice_index_or, codes, decimal, Option, Some, None, is_none}
use Rattle.std.specs.Fmt.{signed_decimal}
use Rattle.hex.specs.Hex.{encode_lower}
use Rattle.sercos_model.specs.Bits.{AreBytes}
use Rattle.std.specs.Bool.{then_some}
use Rattle.std.specs.Option.{option_or}
use Rattle.sercos_text.specs.declared.template.Field.{Field}
use Rattle.sercos_text.specs.declared.template.Field.TheVariants.{Number, Signed, Hex, Digits, Ident}
use Rattle.sercos_text.specs.declared.list.Item.TheVariants as item
use Rattle.sercos_text.specs.Lists.{item_fault, item_len, item_of, item_text, IsItem}
use Rattle.sercos_text.specs.declared.tail.Tail.{Tail}
use Rattle.sercos_text.specs.Tails.{tail_fault, tail_of, tail_text, IsTail}
use Rattle.sercos_text.specs.Fields.{behind, number_fault, number_len, number_of, signed_fault, signed_len, signed_of, hex_fault, hex_len, hex_of, digits_fault, low_pairs}

-- The field of a letter: B, W and D are numbers up to 255, 65535 and 2^32 - 1, S a signed number, H
-- and R at most 2048 and 1024 bytes, C and A exactly two and four bytes, and I an identifier
-- number.
unfoldable pub field_of : ℕ → Option Field
field_of letter =
    if letter == 66 then Some (Number 255)
    else if letter == 87 then Some (Number 65535)
    else if letter == 68 then Some (Number 4294967295)
    else if letter == 83 then Some Signed
    else if letter == 72 then Some (Hex 2048)
    else if letter == 82 then Some (Hex 1024)
    else if letter == 67 then Some (Digits 2)
    else if letter == 65 then Some (Digits 4)
    else if letter == 73 then Some Ident
    else None

-- whether the field has at most 2048 bytes, and a fixed number of them is at least 1
abbrev pub is_field : Field → Bool
is_field (Hex most) = nat_le most 2048
is_field (Digits count) = nat_le 1 count && nat_le count 2048
is_field _ = true

-- the first byte that doesn't fit a field
unfoldable pub field_fault : Field → List ℕ → Option ℕ
field_fault (Number most) text = number_fault most text
field_fault Signed text = signed_fault text
field_fault (Hex most) text = hex_fault most text
field_fault (Digits count) text = digits_fault count text
field_fault Ident text = item_fault item.Ident text

-- the number of bytes of a field
unfoldable pub field_len : Field → List ℕ → ℕ
field_len (Number most) text = number_len text
field_len Signed text = signed_len text
field_len (Hex most) text = hex_len text
field_len (Digits count) text = 2 * count
field_len Ident text = item_len item.Ident text

-- another byte than this, or no byte
unfoldable pub byte_fault : ℕ → List ℕ → Option ℕ
byte_fault byte text = then_some (not (nat_lt 0 (length text) && (slice_index text 0 == byte))) 0

-- the first byte that doesn't fit the part for a letter
unfoldable pub part_fault : Option Field → ℕ → List ℕ → Option ℕ
part_fault (Some field) letter text = field_fault field text
part_fault None letter text = byte_fault letter text

-- the number of bytes of that part
unfoldable pub part_len : Option Field → List ℕ → ℕ
part_len (Some field) text = field_len field text
part_len None text = 1

-- The first byte of a line that doesn't fit: in the part for the template's first letter, after it
-- in the parts for the other letters, or in the tail.
unfoldable pub line_fault : Tail → List ℕ → List ℕ → Option ℕ
line_fault tail [] text = tail_fault tail text
line_fault tail (letter ∷ template) text =
    option_or (part_fault (field_of letter) letter text)
    (behind (part_len (field_of letter) text) (line_fault tail template (drop (part_len (field_of letter) text) text)))

-- ---- the lines of a template

-- the value of a field
pub data Value : Type 0 where
  number : ℕ → Value
  signed : ℤ → Value
  bytes : List ℕ → Value
  ident : ℕ → Value

-- the text of bytes: two digits each, or `-` for no bytes
unfoldable pub hex_text : List ℕ → List ℕ
hex_text [] = codes "-"
hex_text (byte ∷ rest) = encode_lower (byte ∷ rest)

-- the text of a value
unfoldable pub value_text : Value → List ℕ
value_text (number n) = decimal n
value_text (signed z) = signed_decimal z
value_text (bytes list) = hex_text list
value_text (ident raw) = item_text item.Ident raw

-- a signed number of 32 bits
unfoldable pub IsSmall : ℤ → Type 0
IsSmall (pos n) = n ≤ 2147483647
IsSmall (negsuc n) = n ≤ 2147483647

-- the value is one of this field
unfoldable pub IsOf : Field → Value → Type 0
IsOf (Number most) (number n) = n ≤ most
IsOf Signed (signed z) = IsSmall z
IsOf (Hex most) (bytes list) = AreBytes list × (length list ≤ most)
IsOf (Digits count) (bytes list) = AreBytes list × (length list ≡ count)
IsOf Ident (ident raw) = IsItem item.Ident raw
IsOf _ _ = ⊥

-- The line is the template with the text of a value in place of each field's letter, and then the
-- tail with the items.
pub data IsLine : Tail → List ℕ → List Value → List ℕ → List ℕ → Type 0 where
  line_ends : {tail : Tail} {items : List ℕ} → IsTail tail items → IsLine tail [] [] items (tail_text tail items)
  byte_stands : {tail : Tail} {letter : ℕ} {template items text : List ℕ} {values : List Value} → field_of letter ≡ None →
      IsLine tail template values items text → IsLine tail (letter ∷ template) values items (letter ∷ text)
  field_stands : {tail : Tail} {letter : ℕ} {field : Field} {value : Value} {template items text : List ℕ} {values : List Value} →
      field_of letter ≡ Some field → IsOf field value → IsLine tail template values items text →
      IsLine tail (letter ∷ template) (value ∷ values) items (value_text value ++ text)

-- the value of a field
unfoldable pub field_value : Field → List ℕ → Value
field_value (Number most) text = number (number_of text)
field_value Signed text = signed (signed_of text)
field_value (Hex most) text = bytes (hex_of text)
field_value (Digits count) text = bytes (low_pairs (take (2 * count) text))
field_value Ident text = ident (item_of item.Ident text)

-- the values in the part for a letter: one for a field, otherwise none
unfoldable pub part_values : Option Field → List ℕ → List Value
part_values (Some field) text = field_value field text ∷ []
part_values None text = []

-- the values in a line without a fault
unfoldable pub values_of : List ℕ → List ℕ → List Value
values_of [] text = []
values_of (letter ∷ template) text =
    part_values (field_of letter) text ++ values_of template (drop (part_len (field_of letter) text) text)

-- the items of the tail of a line without a fault
unfoldable pub items_of : Tail → List ℕ → List ℕ → List ℕ
items_of tail [] text = tail_of tail text
items_of tail (letter ∷ template) text = items_of tail template (drop (part_len (field_of letter) text) text)

-- whether in the template a space or the end follows each field
unfoldable pub is_template : List ℕ → Bool
is_template [] = true
is_template (letter ∷ template) = (is_none (field_of letter) || (slice_index_or template 0 32 == 32)) && is_template template

-- the unsigned numbers among values
unfoldable pub numbers_in : List Value → List ℕ
numbers_in [] = []
numbers_in (number n ∷ values) = n ∷ numbers_in values
numbers_in (signed z ∷ values) = numbers_in values
numbers_in (bytes list ∷ values) = numbers_in values
numbers_in (ident raw ∷ values) = numbers_in values

-- the last signed number, or the one from before
unfoldable pub signed_by : ℤ → List Value → ℤ
signed_by kept [] = kept
signed_by kept (number n ∷ values) = signed_by kept values
signed_by kept (signed z ∷ values) = signed_by z values
signed_by kept (bytes list ∷ values) = signed_by kept values
signed_by kept (ident raw ∷ values) = signed_by kept values

-- the last bytes, or those from before
unfoldable pub bytes_by : List ℕ → List Value → List ℕ
bytes_by kept [] = kept
bytes_by kept (number n ∷ values) = bytes_by kept values
bytes_by kept (signed z ∷ values) = bytes_by kept values
bytes_by kept (bytes list ∷ values) = bytes_by list values
bytes_by kept (ident raw ∷ values) = bytes_by kept values

-- ---- what a writer writes

-- the text for a letter: itself, or the text of the next value
unfoldable pub part_text : Option Field → ℕ → List Value → List ℕ
part_text None letter values = letter ∷ []
part_text (Some field) letter [] = []
part_text (Some field) letter (value ∷ values) = value_text value

-- the values left after it
unfoldable pub part_left : Option Field → List Value → List Value
part_left None values = values
part_left (Some field) [] = []
part_left (Some field) (value ∷ values) = values

-- the template with the texts of the values in place of its fields
unfoldable pub line_text : List ℕ → List Value → List ℕ
line_text [] values = []
line_text (letter ∷ template) values =
    part_text (field_of letter) letter values ++ line_text template (part_left (field_of letter) values)

-- a field has a value of its own
unfoldable pub IsPart : Option Field → List Value → Type 0
IsPart None values = Unit {0}
IsPart (Some field) [] = ⊥
IsPart (Some field) (value ∷ values) = IsOf field value

-- each field of the template has a value of its own, and no value is left
unfoldable pub AreOf : List ℕ → List Value → Type 0
AreOf [] [] = Unit {0}
AreOf [] (value ∷ values) = ⊥
AreOf (letter ∷ template) values = IsPart (field_of letter) values × AreOf template (part_left (field_of letter) values)
