-- The codes and bits of a data block's attribute, after IEC 61491:1995.
use Rattle.std.specs.Prelude.{ℕ, ◌/◌, ◌%◌, ◌^◌, ◌==◌, nat_le, Bool, true, false, not, ◌||◌, ◌&&◌, Option}
use Rattle.std.specs.Bool.{then_some}
use Rattle.std.specs.Option.{option_or}
use Rattle.sercos_idn.specs.declared.kinds.Length.{Length}
use Rattle.sercos_idn.specs.declared.kinds.Length.TheVariants.{Two, Four, List1, List2, List4}
use Rattle.sercos_idn.specs.declared.kinds.Form.{Form}
use Rattle.sercos_idn.specs.declared.kinds.Form.TheVariants as forms

-- the codes of the lengths, bits 18 to 16; 0, 3 and 7 are not used
abbrev pub length_code : Length → ℕ
length_code Two = 1
length_code Four = 2
length_code List1 = 4
length_code List2 = 5
length_code List4 = 6

-- whether a code of three bits is that of a length
abbrev pub is_length : ℕ → Bool
is_length code = not ((code == 0) || (code == 3) || nat_le 7 code)

-- whether the operation data is a list of variable length
abbrev pub is_list : Length → Bool
is_list Two = false
is_list Four = false
is_list _ = true

-- the number of bytes of a value, or of an item of a list
abbrev pub item_len : Length → ℕ
item_len Two = 2
item_len Four = 4
item_len List1 = 1
item_len List2 = 2
item_len List4 = 4

-- the codes of the display forms, bits 22 to 20; 6 and 7 are not used
abbrev pub form_code : Form → ℕ
form_code forms.Binary = 0
form_code forms.Unsigned = 1
form_code forms.Signed = 2
form_code forms.Hexadecimal = 3
form_code forms.Text = 4
form_code forms.Idn = 5

-- whether a code is that of a display form
abbrev pub is_form : ℕ → Bool
is_form code = nat_le code 5

-- whether bit `place` of a word is 1
abbrev pub has_bit : ℕ → ℕ → Bool
has_bit word place = word / 2 ^ place % 2 == 1

-- the codes of the length and of the display form in a word
abbrev pub length_bits : ℕ → ℕ
length_bits word = word / 2 ^ 16 % 8

abbrev pub form_bits : ℕ → ℕ
form_bits word = word / 2 ^ 20 % 8

-- The first of the bits 16, 19, 20, 23 and 31 that is refused: 16 for an unused length, 19 for a
-- procedure command of another length than two bytes, 20 for an unused display form, and 23 and 31
-- if they aren't 0.
unfoldable pub attribute_fault : ℕ → Option ℕ
attribute_fault word =
    option_or (then_some (not (is_length (length_bits word))) 16)
    (option_or (then_some (has_bit word 19 && not (length_bits word == 1)) 19)
    (option_or (then_some (not (is_form (form_bits word))) 20)
    (option_or (then_some (has_bit word 23) 23)
    (then_some (has_bit word 31) 31))))
