-- A word without a fault is an attribute's, and the word of an attribute gives back its parts.
use Rattle.std.proofs.Common.{◌≡◌, ℕ, ◌+◌, ◌*◌, ◌/◌, ◌%◌, ◌<◌, ◌==◌, ◌&&◌, Bool, true, false, not, None, refl, sym, ◌∙◌, ap, subst, arith}
use Rattle.std.proofs.Props.{props}
use Rattle.std.specs.Bool.{then_some}
use Rattle.std.proofs.lemmas.Bool.Decides.{nat_tests}
use Rattle.sercos_idn.specs.declared.attribute.Attribute.{Attribute}
use Rattle.sercos_idn.specs.declared.kinds.Length.{Length}
use Rattle.sercos_idn.specs.declared.kinds.Length.TheVariants.{Two, Four, List1, List2, List4}
use Rattle.sercos_idn.specs.declared.kinds.Form.{Form}
use Rattle.sercos_idn.specs.declared.kinds.Form.TheVariants as forms
use Rattle.sercos_idn.specs.Codes.{length_code, form_code, is_length, is_form, has_bit, length_bits, form_bits, attribute_fault}
use Rattle.sercos_idn.specs.Attributes.{bit_of, attribute_word, length_of, form_of, attribute_of}
use Rattle.sercos_model.proofs.FaultLemmas.{none_of-or, none_of-then}

-- a word as the sum of its parts
abbrev whole_of : ℕ → ℕ → ℕ → ℕ → ℕ → ℕ → ℕ → ℕ → ℕ
whole_of f l c m d p q r = f + l * 65536 + c * 524288 + m * 1048576 + d * 16777216 + p * 268435456 + q * 536870912 + r * 1073741824

factor_part : (f l c m d p q r : ℕ) → f < 65536 → l < 8 → c < 2 → m < 8 → d < 16 → p < 2 → q < 2 → r < 2 → (whole_of f l c m d p q r) % 65536 ≡ f
factor_part f l c m d p q r fs ls cs ms ds ps qs rs = omega arith

length_part : (f l c m d p q r : ℕ) → f < 65536 → l < 8 → c < 2 → m < 8 → d < 16 → p < 2 → q < 2 → r < 2 → (whole_of f l c m d p q r) / 65536 % 8 ≡ l
length_part f l c m d p q r fs ls cs ms ds ps qs rs = omega arith

command_part : (f l c m d p q r : ℕ) → f < 65536 → l < 8 → c < 2 → m < 8 → d < 16 → p < 2 → q < 2 → r < 2 → (whole_of f l c m d p q r) / 524288 % 2 ≡ c
command_part f l c m d p q r fs ls cs ms ds ps qs rs = omega arith

form_part : (f l c m d p q r : ℕ) → f < 65536 → l < 8 → c < 2 → m < 8 → d < 16 → p < 2 → q < 2 → r < 2 → (whole_of f l c m d p q r) / 1048576 % 8 ≡ m
form_part f l c m d p q r fs ls cs ms ds ps qs rs = omega arith

unused_part : (f l c m d p q r : ℕ) → f < 65536 → l < 8 → c < 2 → m < 8 → d < 16 → p < 2 → q < 2 → r < 2 → (whole_of f l c m d p q r) / 8388608 % 2 ≡ 0
unused_part f l c m d p q r fs ls cs ms ds ps qs rs = omega arith

decimals_part : (f l c m d p q r : ℕ) → f < 65536 → l < 8 → c < 2 → m < 8 → d < 16 → p < 2 → q < 2 → r < 2 → (whole_of f l c m d p q r) / 16777216 % 16 ≡ d
decimals_part f l c m d p q r fs ls cs ms ds ps qs rs = omega arith

protect2_part : (f l c m d p q r : ℕ) → f < 65536 → l < 8 → c < 2 → m < 8 → d < 16 → p < 2 → q < 2 → r < 2 → (whole_of f l c m d p q r) / 268435456 % 2 ≡ p
protect2_part f l c m d p q r fs ls cs ms ds ps qs rs = omega arith

protect3_part : (f l c m d p q r : ℕ) → f < 65536 → l < 8 → c < 2 → m < 8 → d < 16 → p < 2 → q < 2 → r < 2 → (whole_of f l c m d p q r) / 536870912 % 2 ≡ q
protect3_part f l c m d p q r fs ls cs ms ds ps qs rs = omega arith

protect4_part : (f l c m d p q r : ℕ) → f < 65536 → l < 8 → c < 2 → m < 8 → d < 16 → p < 2 → q < 2 → r < 2 → (whole_of f l c m d p q r) / 1073741824 % 2 ≡ r
protect4_part f l c m d p q r fs ls cs ms ds ps qs rs = omega arith

highest_part : (f l c m d p q r : ℕ) → f < 65536 → l < 8 → c < 2 → m < 8 → d < 16 → p < 2 → q < 2 → r < 2 → (whole_of f l c m d p q r) / 2147483648 % 2 ≡ 0
highest_part f l c m d p q r fs ls cs ms ds ps qs rs = omega arith

-- a word without the bits 23 and 31 is the sum of its parts
joined : (w a b c d e f g h l t m n p q r s : ℕ) → b ≡ a + l → c ≡ b + t → d ≡ c + m → e ≡ d + 0 → f ≡ e + n → g ≡ f + p → h ≡ g + q → s ≡ h + r → w ≡ s + 0 → a + l + t + m + n + p + q + r ≡ w
joined w a b c d e f g h l t m n p q r s e1 e2 e3 e4 e5 e6 e7 e8 e9 = omega arith

whole : (word : ℕ) → word < 4294967296 → word / 8388608 % 2 ≡ 0 → word / 2147483648 % 2 ≡ 0
    → whole_of (word % 65536) (word / 65536 % 8) (word / 524288 % 2) (word / 1048576 % 8) (word / 16777216 % 16) (word / 268435456 % 2) (word / 536870912 % 2) (word / 1073741824 % 2) ≡ word
whole word small unused highest =
    joined word (word % 65536) (word % 524288) (word % 1048576) (word % 8388608) (word % 16777216) (word % 268435456) (word % 536870912) (word % 1073741824)
    (word / 65536 % 8 * 65536) (word / 524288 % 2 * 524288) (word / 1048576 % 8 * 1048576) (word / 16777216 % 16 * 16777216) (word / 268435456 % 2 * 268435456) (word / 536870912 % 2 * 536870912) (word / 1073741824 % 2 * 1073741824)
    (word % 2147483648)
    (at_length word) (at_command word) (at_form word) (at_unused word unused) (at_decimals word) (at_protect2 word) (at_protect3 word) (at_protect4 word) (at_highest word small highest)
  where
    at_length : (w : ℕ) → w % 524288 ≡ w % 65536 + w / 65536 % 8 * 65536
    at_length w = omega arith

    at_command : (w : ℕ) → w % 1048576 ≡ w % 524288 + w / 524288 % 2 * 524288
    at_command w = omega arith

    at_form : (w : ℕ) → w % 8388608 ≡ w % 1048576 + w / 1048576 % 8 * 1048576
    at_form w = omega arith

    at_unused : (w : ℕ) → w / 8388608 % 2 ≡ 0 → w % 16777216 ≡ w % 8388608 + 0
    at_unused w unused = omega arith

    at_decimals : (w : ℕ) → w % 268435456 ≡ w % 16777216 + w / 16777216 % 16 * 16777216
    at_decimals w = omega arith

    at_protect2 : (w : ℕ) → w % 536870912 ≡ w % 268435456 + w / 268435456 % 2 * 268435456
    at_protect2 w = omega arith

    at_protect3 : (w : ℕ) → w % 1073741824 ≡ w % 536870912 + w / 536870912 % 2 * 536870912
    at_protect3 w = omega arith

    at_protect4 : (w : ℕ) → w % 2147483648 ≡ w % 1073741824 + w / 1073741824 % 2 * 1073741824
    at_protect4 w = omega arith

    at_highest : (w : ℕ) → w < 4294967296 → w / 2147483648 % 2 ≡ 0 → w ≡ w % 2147483648 + 0
    at_highest w small highest = omega arith

-- what a word without a fault is
pub record IsSound (word : ℕ) : Type 0 where
  pub length : is_length (word / 65536 % 8) ≡ true
  pub command : (word / 524288 % 2 == 1) ≡ true → word / 65536 % 8 ≡ 1
  pub form : is_form (word / 1048576 % 8) ≡ true
  pub unused : word / 8388608 % 2 ≡ 0
  pub highest : word / 2147483648 % 2 ≡ 0

pub IsSound-attribute_fault : (word : ℕ) → attribute_fault word ≡ None → IsSound word
unfolding attribute_fault
IsSound-attribute_fault word none =
    let length = none_of-or (then_some (not (is_length (length_bits word))) 16) _ none in
    let command = none_of-or (then_some (has_bit word 19 && not (length_bits word == 1)) 19) _ length.1 in
    let form = none_of-or (then_some (not (is_form (form_bits word))) 20) _ command.1 in
    let last = none_of-or (then_some (has_bit word 23) 23) (then_some (has_bit word 31) 31) form.1 in
    record {
      length = is_not (is_length (length_bits word)) (none_of-then _ 16 length.0);
      command = is_two (has_bit word 19) (length_bits word) (none_of-then _ 19 command.0);
      form = is_not (is_form (form_bits word)) (none_of-then _ 20 form.0);
      unused = is_zero (word / 8388608) (none_of-then _ 23 last.0);
      highest = is_zero (word / 2147483648) (none_of-then _ 31 last.1);
    }
  where
    is_not : (b : Bool) → not b ≡ false → b ≡ true
    is_not true h = refl
    is_not false h = cc

    is_two : (command : Bool) (code : ℕ) → (command && not (code == 1)) ≡ false → command ≡ true → code ≡ 1
    is_two command code h on = grind (arith, nat_tests)

    is_zero : (n : ℕ) → (n % 2 == 1) ≡ false → n % 2 ≡ 0
    is_zero n h = grind (arith, nat_tests)

pub two_by_code : (length : Length) → length_code length ≡ 1 → length ≡ Two
two_by_code Two e = refl
two_by_code Four e = absurd (omega arith)
two_by_code List1 e = absurd (omega arith)
two_by_code List2 e = absurd (omega arith)
two_by_code List4 e = absurd (omega arith)

bit_by : (n : ℕ) → bit_of (n % 2 == 1) ≡ n % 2
bit_by n = grind (arith, nat_tests)

-- the word of the attribute that a word without a fault is
pub word_again : (word l m : ℕ) → word < 4294967296 → IsSound word → l ≡ word / 65536 % 8 → m ≡ word / 1048576 % 8
    → whole_of (word % 65536) l (bit_of (word / 524288 % 2 == 1)) m (word / 16777216 % 16) (bit_of (word / 268435456 % 2 == 1)) (bit_of (word / 536870912 % 2 == 1)) (bit_of (word / 1073741824 % 2 == 1)) ≡ word
word_again word l m small is el em =
    rw (el, em, bit_by (word / 524288), bit_by (word / 268435456), bit_by (word / 536870912), bit_by (word / 1073741824)) (whole word small is.unused is.highest)

-- the parts of the word of an attribute
record HasParts (word : ℕ) (a : Attribute) : Type 0 where
  factor : word % 65536 ≡ a.factor
  length : word / 65536 % 8 ≡ length_code a.length
  command : word / 524288 % 2 ≡ bit_of a.command
  form : word / 1048576 % 8 ≡ form_code a.form
  unused : word / 8388608 % 2 ≡ 0
  decimals : word / 16777216 % 16 ≡ a.decimals
  protect2 : word / 268435456 % 2 ≡ bit_of a.protect2
  protect3 : word / 536870912 % 2 ≡ bit_of a.protect3
  protect4 : word / 1073741824 % 2 ≡ bit_of a.protect4
  highest : word / 2147483648 % 2 ≡ 0

length_below : (length : Length) → length_code length < 8
length_below Two = omega arith
length_below Four = omega arith
length_below List1 = omega arith
length_below List2 = omega arith
length_below List4 = omega arith

form_below : (form : Form) → form_code form < 8
form_below forms.Binary = omega arith
form_below forms.Unsigned = omega arith
form_below forms.Signed = omega arith
form_below forms.Hexadecimal = omega arith
form_below forms.Text = omega arith
form_below forms.Idn = omega arith

bit_below : (set : Bool) → bit_of set < 2
bit_below true = omega arith
bit_below false = omega arith

HasParts-attribute_word : (a : Attribute) → a.factor < 65536 → HasParts (attribute_word a) a
HasParts-attribute_word a fits =
    let ls = length_below a.length in
    let cs = bit_below a.command in
    let ms = form_below a.form in
    let ds : a.decimals < 16 = a.decimals_in_range in
    let ps = bit_below a.protect2 in
    let qs = bit_below a.protect3 in
    let rs = bit_below a.protect4 in
    record {
      factor = factor_part a.factor (length_code a.length) (bit_of a.command) (form_code a.form) a.decimals (bit_of a.protect2) (bit_of a.protect3) (bit_of a.protect4) fits ls cs ms ds ps qs rs;
      length = length_part a.factor (length_code a.length) (bit_of a.command) (form_code a.form) a.decimals (bit_of a.protect2) (bit_of a.protect3) (bit_of a.protect4) fits ls cs ms ds ps qs rs;
      command = command_part a.factor (length_code a.length) (bit_of a.command) (form_code a.form) a.decimals (bit_of a.protect2) (bit_of a.protect3) (bit_of a.protect4) fits ls cs ms ds ps qs rs;
      form = form_part a.factor (length_code a.length) (bit_of a.command) (form_code a.form) a.decimals (bit_of a.protect2) (bit_of a.protect3) (bit_of a.protect4) fits ls cs ms ds ps qs rs;
      unused = unused_part a.factor (length_code a.length) (bit_of a.command) (form_code a.form) a.decimals (bit_of a.protect2) (bit_of a.protect3) (bit_of a.protect4) fits ls cs ms ds ps qs rs;
      decimals = decimals_part a.factor (length_code a.length) (bit_of a.command) (form_code a.form) a.decimals (bit_of a.protect2) (bit_of a.protect3) (bit_of a.protect4) fits ls cs ms ds ps qs rs;
      protect2 = protect2_part a.factor (length_code a.length) (bit_of a.command) (form_code a.form) a.decimals (bit_of a.protect2) (bit_of a.protect3) (bit_of a.protect4) fits ls cs ms ds ps qs rs;
      protect3 = protect3_part a.factor (length_code a.length) (bit_of a.command) (form_code a.form) a.decimals (bit_of a.protect2) (bit_of a.protect3) (bit_of a.protect4) fits ls cs ms ds ps qs rs;
      protect4 = protect4_part a.factor (length_code a.length) (bit_of a.command) (form_code a.form) a.decimals (bit_of a.protect2) (bit_of a.protect3) (bit_of a.protect4) fits ls cs ms ds ps qs rs;
      highest = highest_part a.factor (length_code a.length) (bit_of a.command) (form_code a.form) a.decimals (bit_of a.protect2) (bit_of a.protect3) (bit_of a.protect4) fits ls cs ms ds ps qs rs;
    }

-- the word of an attribute has no fault
length_good : (length : Length) → is_length (length_code length) ≡ true
length_good Two = refl
length_good Four = refl
length_good List1 = refl
length_good List2 = refl
length_good List4 = refl

form_good : (form : Form) → is_form (form_code form) ≡ true
form_good forms.Binary = refl
form_good forms.Unsigned = refl
form_good forms.Signed = refl
form_good forms.Hexadecimal = refl
form_good forms.Text = refl
form_good forms.Idn = refl

command_good : (command : Bool) (length : Length) → (command ≡ true → length ≡ Two) → (bit_of command == 1) && not (length_code length == 1) ≡ false
command_good true length two = rw (two refl) refl
command_good false length two = refl

pub attribute_fault-attribute_word : (a : Attribute) → a.factor < 65536 → attribute_fault (attribute_word a) ≡ None
unfolding attribute_fault
attribute_fault-attribute_word a fits = good (attribute_word a) (HasParts-attribute_word a fits)
  where
    good : (word : ℕ) → HasParts word a → attribute_fault word ≡ None
    good word parts = rw (parts.length, length_good a.length, parts.command, command_good a.command a.length a.command_is_two, parts.form, form_good a.form, parts.unused, parts.highest) refl

-- an attribute has one word
length_again : (length : Length) → length_of (length_code length) ≡ length
length_again Two = refl
length_again Four = refl
length_again List1 = refl
length_again List2 = refl
length_again List4 = refl

form_again : (form : Form) → form_of (form_code form) ≡ form
form_again forms.Binary = refl
form_again forms.Unsigned = refl
form_again forms.Signed = refl
form_again forms.Hexadecimal = refl
form_again forms.Text = refl
form_again forms.Idn = refl

bit_again : (set : Bool) → (bit_of set == 1) ≡ set
bit_again true = refl
bit_again false = refl

same_bit : (n : ℕ) (a b : Bool) → n ≡ bit_of a → n ≡ bit_of b → a ≡ b
same_bit n a b ea eb = sym (bit_again a) ∙ ap (λ m. m == 1) (sym ea ∙ eb) ∙ bit_again b

-- an attribute by its parts
abbrev Parts : Type 0
Parts = ℕ × Length × Bool × Form × ℕ × Bool × Bool × Bool

abbrev AreParts : Parts → Type 0
AreParts x = (x.4 < 16) × (x.2 ≡ true → x.1 ≡ Two)

abbrev parts_of : Attribute → Parts
parts_of a = (a.factor, a.length, a.command, a.form, a.decimals, a.protect2, a.protect3, a.protect4)

abbrev made_of : (x : Parts) → AreParts x → Attribute
made_of x are = record {
  factor = x.0;
  length = x.1;
  command = x.2;
  form = x.3;
  decimals = x.4;
  protect2 = x.5;
  protect3 = x.6;
  protect4 = x.7;
  decimals_in_range = are.0;
  command_is_two = are.1;
}

AreParts-prop : (x : Parts) → IsProp (AreParts x)
AreParts-prop x = hlevel props

same_parts : (x y : Parts) (ax : AreParts x) (ay : AreParts y) → x ≡ y → made_of x ax ≡ made_of y ay
same_parts x y ax ay e =
    subst (λ (z : Parts). (az : AreParts z) → made_of x ax ≡ made_of z az) e (λ az. ap (made_of x) (AreParts-prop x ax az)) ay

pub attribute_word-injective : (a b : Attribute) → a.factor < 65536 → b.factor < 65536 → attribute_word a ≡ attribute_word b → a ≡ b
attribute_word-injective a b fa fb e = same (attribute_word b) (rw e at (HasParts-attribute_word a fa)) (HasParts-attribute_word b fb)
  where
    same : (word : ℕ) → HasParts word a → HasParts word b → a ≡ b
    same word pa pb =
        let factor : a.factor ≡ b.factor = sym pa.factor ∙ pb.factor in
        let length : a.length ≡ b.length = sym (length_again a.length) ∙ ap length_of (sym pa.length ∙ pb.length) ∙ length_again b.length in
        let command : a.command ≡ b.command = same_bit _ a.command b.command pa.command pb.command in
        let form : a.form ≡ b.form = sym (form_again a.form) ∙ ap form_of (sym pa.form ∙ pb.form) ∙ form_again b.form in
        let decimals : a.decimals ≡ b.decimals = sym pa.decimals ∙ pb.decimals in
        let protect2 : a.protect2 ≡ b.protect2 = same_bit _ a.protect2 b.protect2 pa.protect2 pb.protect2 in
        let protect3 : a.protect3 ≡ b.protect3 = same_bit _ a.protect3 b.protect3 pa.protect3 pb.protect3 in
        let protect4 : a.protect4 ≡ b.protect4 = same_bit _ a.protect4 b.protect4 pa.protect4 pb.protect4 in
        let parts : parts_of a ≡ parts_of b = cc in
        same_parts (parts_of a) (parts_of b) (a.decimals_in_range, a.command_is_two) (b.decimals_in_range, b.command_is_two) parts

-- a word without a fault is that of the attribute that it is
length_code_again : (code : ℕ) → is_length code ≡ true → length_code (length_of code) ≡ code
length_code_again code h = grind (arith, nat_tests)

form_code_again : (code : ℕ) → is_form code ≡ true → form_code (form_of code) ≡ code
form_code_again code h = grind (arith, nat_tests)

command_again : (set : Bool) (code : ℕ) → (set ≡ true → code ≡ 1) → (set && (code == 1)) ≡ set
command_again true code one = rw (one refl) refl
command_again false code one = refl

pub attribute_word-attribute_of : (word : ℕ) → word < 4294967296 → IsSound word → attribute_word (attribute_of word) ≡ word
unfolding attribute_of
attribute_word-attribute_of word small is =
    rw (command_again (has_bit word 19) (length_bits word) is.command)
    (word_again word _ _ small is (length_code_again (length_bits word) is.length) (form_code_again (form_bits word) is.form))

pub attribute_of-factor : (word : ℕ) → (attribute_of word).factor < 65536
unfolding attribute_of
attribute_of-factor word = omega arith

-- the word of an attribute is a word, and gives back the attribute
pub attribute_word-below : (a : Attribute) → a.factor < 65536 → attribute_word a < 4294967296
attribute_word-below a fits =
    let ls = length_below a.length in
    let cs = bit_below a.command in
    let ms = form_below a.form in
    let ds : a.decimals < 16 = a.decimals_in_range in
    let ps = bit_below a.protect2 in
    let qs = bit_below a.protect3 in
    let rs = bit_below a.protect4 in omega arith

pub attribute_of-attribute_word : (a : Attribute) → a.factor < 65536 → attribute_of (attribute_word a) ≡ a
attribute_of-attribute_word a fits =
    let sound = IsSound-attribute_fault (attribute_word a) (attribute_fault-attribute_word a fits) in
    attribute_word-injective (attribute_of (attribute_word a)) a (attribute_of-factor (attribute_word a)) fits
    (attribute_word-attribute_of (attribute_word a) (attribute_word-below a fits) sound)
