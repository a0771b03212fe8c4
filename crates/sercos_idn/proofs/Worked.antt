-- Worked values of the definitions, which the checker computes.
use Rattle.std.proofs.Common.{◌≡◌, true, false, refl, codes, Some, None, arith}
use Rattle.sercos_idn.specs.Idns.{idn_text, four_digits, idn_fault, head_fault, digits_fault, spelled_raw}
use Rattle.sercos_idn.specs.declared.attribute.Attribute.{Attribute}
use Rattle.sercos_idn.specs.declared.kinds.Length.TheVariants.{Two, Four}
use Rattle.sercos_idn.specs.declared.kinds.Form.TheVariants.{Signed}
use Rattle.sercos_idn.specs.Codes.{attribute_fault}
use Rattle.sercos_idn.specs.Attributes.{attribute_word}

-- S-0-0127 is 127, and P-7-4095 the greatest raw number
standard_text : idn_text 127 ≡ codes "S-0-0127"
unfolding idn_text four_digits
standard_text = refl

standard_number : spelled_raw (codes "S-0-0127") ≡ 127
standard_number = refl

greatest_text : idn_text 65535 ≡ codes "P-7-4095"
unfolding idn_text four_digits
greatest_text = refl

greatest_number : spelled_raw (codes "P-7-4095") ≡ 65535
greatest_number = refl

no_fault : idn_fault (codes "P-7-4095") ≡ None
unfolding idn_fault head_fault digits_fault
no_fault = refl

-- texts that are no identifier numbers
number_too_large : idn_fault (codes "S-0-4096") ≡ Some 4
unfolding idn_fault head_fault digits_fault
number_too_large = refl

set_too_large : idn_fault (codes "S-8-0001") ≡ Some 2
unfolding idn_fault head_fault digits_fault
set_too_large = refl

byte_missing : idn_fault (codes "S-0-12") ≡ Some 6
unfolding idn_fault head_fault digits_fault
byte_missing = refl

text_too_long : idn_fault (codes "S-0-01270") ≡ Some 8
unfolding idn_fault head_fault digits_fault
text_too_long = refl

-- the number stands before what is too long, a byte that can't stand before a number that isn't whole
large_before_long : idn_fault (codes "S-0-40960") ≡ Some 4
unfolding idn_fault head_fault digits_fault
large_before_long = refl

nothing : idn_fault (codes "") ≡ Some 0
unfolding idn_fault head_fault digits_fault
nothing = refl

letter_small : idn_fault (codes "s-0-0001") ≡ Some 0
unfolding idn_fault head_fault digits_fault
letter_small = refl

no_digit : idn_fault (codes "S-0-99x9") ≡ Some 6
unfolding idn_fault head_fault digits_fault
no_digit = refl

no_command : false ≡ true → Four ≡ Two
no_command on = cc

-- an attribute: factor 1, four bytes, shown with a sign
abbrev signed : Attribute
signed = record {
  factor = 1;
  length = Four;
  command = false;
  form = Signed;
  decimals = 0;
  protect2 = false;
  protect3 = false;
  protect4 = false;
  decimals_in_range = omega arith;
  command_is_two = no_command;
}

signed_word : attribute_word signed ≡ 0x00220001
signed_word = refl

signed_read : attribute_fault 0x00220001 ≡ None
unfolding attribute_fault
signed_read = refl

-- words that are no attributes
no_length : attribute_fault 0x00000001 ≡ Some 16
unfolding attribute_fault
no_length = refl

long_command : attribute_fault 0x000a0001 ≡ Some 19
unfolding attribute_fault
long_command = refl

no_form : attribute_fault 0x00610001 ≡ Some 20
unfolding attribute_fault
no_form = refl

unused_bit : attribute_fault 0x00910001 ≡ Some 23
unfolding attribute_fault
unused_bit = refl

highest_bit : attribute_fault 0x80010001 ≡ Some 31
unfolding attribute_fault
highest_bit = refl
