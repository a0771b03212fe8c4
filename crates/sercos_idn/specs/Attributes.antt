-- The word of an attribute, which is the sum of its parts at their places; and the attribute of a
-- word.
use Rattle.std.specs.Prelude.{◌≡◌, ℕ, zero, suc, ◌+◌, ◌*◌, ◌/◌, ◌%◌, ◌^◌, ◌<◌, ◌==◌, Bool, true, ◌&&◌, if◌then◌else◌, refl}
use Rattle.std.proofs.Common.{arith}
use Rattle.std.proofs.lemmas.Bool.Decides.{nat_tests}
use Rattle.sercos_idn.specs.declared.attribute.Attribute.{Attribute}
use Rattle.sercos_idn.specs.declared.kinds.Length.{Length}
use Rattle.sercos_idn.specs.declared.kinds.Length.TheVariants.{Two, Four, List1, List2, List4}
use Rattle.sercos_idn.specs.declared.kinds.Form.{Form}
use Rattle.sercos_idn.specs.declared.kinds.Form.TheVariants as forms
use Rattle.sercos_idn.specs.Codes.{length_code, form_code, length_bits, form_bits, has_bit}

-- 1 if a bit is set, otherwise 0
abbrev pub bit_of : Bool → ℕ
bit_of set = if set then 1 else 0

-- bits 15 to 0 are the conversion factor, 18 to 16 the length, 19 the procedure command, 22 to 20
-- the display form, 27 to 24 the decimal places, and 28, 29 and 30 the write protection in the
-- phases 2, 3 and 4
abbrev pub attribute_word : Attribute → ℕ
attribute_word a =
    a.factor + length_code a.length * 2 ^ 16 + bit_of a.command * 2 ^ 19 + form_code a.form * 2 ^ 20 + a.decimals * 2 ^ 24
    + bit_of a.protect2 * 2 ^ 28 + bit_of a.protect3 * 2 ^ 29 + bit_of a.protect4 * 2 ^ 30

-- the length and the display form with a code; for an unused code, the last one
abbrev pub length_of : ℕ → Length
length_of code = if code == 1 then Two
    else (if code == 2 then Four else (if code == 4 then List1 else (if code == 5 then List2 else List4)))

abbrev pub form_of : ℕ → Form
form_of code =
    if code == 0 then forms.Binary
    else (if code == 1 then forms.Unsigned
    else (if code == 2 then forms.Signed
    else (if code == 3 then forms.Hexadecimal
    else (if code == 4 then forms.Text else forms.Idn))))

-- the decimal places of a word are below 16
pub decimals_fit : (word : ℕ) → word / 2 ^ 24 % 16 < 16
decimals_fit word = omega arith

-- a word that is read as a procedure command has the length of two bytes
pub command_of_two : (set : Bool) (code : ℕ) → (set && (code == 1)) ≡ true → length_of code ≡ Two
command_of_two set (suc zero) on = refl
command_of_two set code on = grind (arith, nat_tests)

-- the attribute of a word without a fault
unfoldable pub attribute_of : ℕ → Attribute
attribute_of word = record {
  factor = word % 2 ^ 16;
  length = length_of (length_bits word);
  command = has_bit word 19 && (length_bits word == 1);
  form = form_of (form_bits word);
  decimals = word / 2 ^ 24 % 16;
  protect2 = has_bit word 28;
  protect3 = has_bit word 29;
  protect4 = has_bit word 30;
  decimals_in_range = decimals_fit word;
  command_is_two = command_of_two (has_bit word 19) (length_bits word);
}
