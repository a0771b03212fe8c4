-- A text without a fault is the one spelling of its number, and each spelling has no fault.
use Rattle.std.proofs.Common.{◌≡◌, ℕ, zero, suc, ◌+◌, ◌-◌, ◌*◌, ◌/◌, ◌%◌, ◌^◌, ◌<◌, ◌≤◌, ◌⊎◌, ◌==◌, ◌&&◌, ◌||◌, inl, inr, nat_lt, nat_le, Bool, true, false, not, cond, List, [], ◌∷◌, length, get_or, Option, Some, None, refl, ◌∙◌, ap, arith}
use Rattle.std.specs.Bool.{then_some}
use Rattle.std.specs.Option.{option_or}
use Rattle.std.proofs.lemmas.Bool.{cases_eq, ltb-true}
use Rattle.std.proofs.lemmas.Bool.Decides.{nat_tests}
use Rattle.sercos_idn.specs.Idns.{idn_fault, head_fault, digits_fault, slot_fault, idn_text, four_digits, has_byte, can_stand, letter_of, set_of, number_of, digit_at, spelled_number, spelled_raw}
use Rattle.sercos_idn.specs.declared.idn.Slot.{Slot}
use Rattle.sercos_idn.specs.declared.idn.Slot.TheVariants.{Letter, Dash, Octal, Decimal}
use Rattle.sercos_model.proofs.FaultLemmas.{at_least, nat_lt-at_least}

-- eight bytes, each of which can be at its place
pub record HasForm (text : List ℕ) : Type 0 where
  pub all : length text ≡ 8
  pub letter : (get_or text 0 0 ≡ 83) ⊎ (get_or text 0 0 ≡ 80)
  pub first_dash : get_or text 1 0 ≡ 45
  pub set_low : 48 ≤ get_or text 2 0
  pub set_high : get_or text 2 0 ≤ 55
  pub second_dash : get_or text 3 0 ≡ 45
  pub thousands_low : 48 ≤ get_or text 4 0
  pub thousands_high : get_or text 4 0 ≤ 57
  pub hundreds_low : 48 ≤ get_or text 5 0
  pub hundreds_high : get_or text 5 0 ≤ 57
  pub tens_low : 48 ≤ get_or text 6 0
  pub tens_high : get_or text 6 0 ≤ 57
  pub ones_low : 48 ≤ get_or text 7 0
  pub ones_high : get_or text 7 0 ≤ 57

-- what a text without a fault is: such bytes, and a number that is small enough
pub record IsSpelled (text : List ℕ) : Type 0 where
  pub form : HasForm text
  pub small : spelled_number text ≤ 4095

-- the eight bytes, one by one
pub eight : (text : List ℕ) → length text ≡ 8
    → text ≡ get_or text 0 0 ∷ get_or text 1 0 ∷ get_or text 2 0 ∷ get_or text 3 0 ∷ get_or text 4 0 ∷ get_or text 5 0 ∷ get_or text 6 0 ∷ get_or text 7 0 ∷ []
eight (a ∷ b ∷ c ∷ d ∷ e ∷ f ∷ g ∷ h ∷ []) all = refl
eight (a ∷ b ∷ c ∷ d ∷ e ∷ f ∷ g ∷ h ∷ i ∷ text) all = absurd (omega arith)
eight (a ∷ b ∷ c ∷ d ∷ e ∷ f ∷ g ∷ []) all = absurd (omega arith)
eight (a ∷ b ∷ c ∷ d ∷ e ∷ f ∷ []) all = absurd (omega arith)
eight (a ∷ b ∷ c ∷ d ∷ e ∷ []) all = absurd (omega arith)
eight (a ∷ b ∷ c ∷ d ∷ []) all = absurd (omega arith)
eight (a ∷ b ∷ c ∷ []) all = absurd (omega arith)
eight (a ∷ b ∷ []) all = absurd (omega arith)
eight (a ∷ []) all = absurd (omega arith)
eight [] all = absurd (omega arith)

-- what a byte that can stand in a slot is
letter_stands : (text : List ℕ) (place : ℕ) → has_byte text place Letter ≡ true → (get_or text place 0 ≡ 83) ⊎ (get_or text place 0 ≡ 80)
letter_stands text place has = is_letter (get_or text place 0) (nat_lt place (length text)) has
  where
    is_letter : (byte : ℕ) (within : Bool) → within && ((byte == 83) || (byte == 80)) ≡ true → (byte ≡ 83) ⊎ (byte ≡ 80)
    is_letter byte within has = grind (arith, nat_tests)

dash_stands : (text : List ℕ) (place : ℕ) → has_byte text place Dash ≡ true → get_or text place 0 ≡ 45
dash_stands text place has = is_dash (get_or text place 0) (nat_lt place (length text)) has
  where
    is_dash : (byte : ℕ) (within : Bool) → within && (byte == 45) ≡ true → byte ≡ 45
    is_dash byte within has = grind (arith, nat_tests)

digit_stands : (most : ℕ) (text : List ℕ) (place : ℕ) → nat_lt place (length text) && (nat_le 48 (get_or text place 0) && nat_le (get_or text place 0) most) ≡ true → (48 ≤ get_or text place 0) × (get_or text place 0 ≤ most)
digit_stands most text place has = is_digit (get_or text place 0) (nat_lt place (length text)) has
  where
    is_digit : (byte : ℕ) (within : Bool) → within && (nat_le 48 byte && nat_le byte most) ≡ true → (48 ≤ byte) × (byte ≤ most)
    is_digit byte within has = (grind (arith, nat_tests), grind (arith, nat_tests))

-- the slots of the eight places
abbrev pub slot_at : ℕ → Slot
slot_at zero = Letter
slot_at (suc zero) = Dash
slot_at (suc (suc zero)) = Octal
slot_at (suc (suc (suc zero))) = Dash
slot_at (suc (suc (suc (suc place)))) = Decimal

-- each of the first `count` places has a byte that can be there
abbrev pub AreSlots : List ℕ → ℕ → Type 0
AreSlots text count = (place : ℕ) → place < count → has_byte text place (slot_at place) ≡ true

one_more : (text : List ℕ) (count : ℕ) → AreSlots text count → has_byte text count (slot_at count) ≡ true → AreSlots text (suc count)
one_more text count slots here place low = elim (cases_eq place count) [
  | inl same ↦ rw same here
  | inr other ↦ slots place (omega (arith, other))
]

-- how a text is refused, or taken
pub data Judged (text : List ℕ) : Option ℕ → Type 0 where
  no_byte : (place : ℕ) → place < 8 → AreSlots text place → has_byte text place (slot_at place) ≡ false → Judged text (Some place)
  too_large : AreSlots text 8 → 4095 < spelled_number text → Judged text (Some 4)
  too_long : AreSlots text 8 → spelled_number text ≤ 4095 → 8 < length text → Judged text (Some 8)
  taken : AreSlots text 8 → spelled_number text ≤ 4095 → length text ≤ 8 → Judged text None

four : (a b c d rest : Option ℕ) → option_or (option_or a (option_or b (option_or c d))) rest ≡ option_or a (option_or b (option_or c (option_or d rest)))
four (Some x) b c d rest = refl
four None (Some x) c d rest = refl
four None None (Some x) d rest = refl
four None None None d rest = refl

step : (text : List ℕ) (place : ℕ) (rest : Option ℕ) → place < 8 → AreSlots text place → (AreSlots text (suc place) → Judged text rest) → Judged text (option_or (slot_fault text place (slot_at place)) rest)
step text place rest low slots later = cases (has_byte text place (slot_at place)) refl
  where
    cases : (has : Bool) → has_byte text place (slot_at place) ≡ has → Judged text (option_or (then_some (not has) place) rest)
    cases true is = later (one_more text place slots is)
    cases false is = no_byte place low slots is

last : (text : List ℕ) → AreSlots text 8 → (large long : Bool) → nat_lt 4095 (spelled_number text) ≡ large → nat_lt 8 (length text) ≡ long
    → Judged text (option_or (then_some large 4) (then_some long 8))
last text slots true long above longer = too_large slots (ltb-true 4095 (spelled_number text) above)
last text slots false true above longer = too_long slots (at_least 4095 (spelled_number text) above) (ltb-true 8 (length text) longer)
last text slots false false above longer = taken slots (at_least 4095 (spelled_number text) above) (at_least 8 (length text) longer)

pub judged : (text : List ℕ) → Judged text (idn_fault text)
unfolding idn_fault head_fault digits_fault
judged text =
    rw (four (slot_fault text 0 Letter) (slot_fault text 1 Dash) (slot_fault text 2 Octal) (slot_fault text 3 Dash), four (slot_fault text 4 Decimal) (slot_fault text 5 Decimal) (slot_fault text 6 Decimal) (slot_fault text 7 Decimal))
    (step text 0 _ (omega arith) (λ place low. absurd (omega arith)) (λ slots. step text 1 _ (omega arith) slots (λ slots. step text 2 _ (omega arith) slots (λ slots. step text 3 _ (omega arith) slots
    (λ slots. step text 4 _ (omega arith) slots (λ slots. step text 5 _ (omega arith) slots (λ slots. step text 6 _ (omega arith) slots (λ slots. step text 7 _ (omega arith) slots
    (λ slots. last text slots (nat_lt 4095 (spelled_number text)) (nat_lt 8 (length text)) refl refl)))))))))

-- a text that has a byte at a place is longer than it
pub has_place : (text : List ℕ) (place : ℕ) (slot : Slot) → has_byte text place slot ≡ true → place < length text
has_place text place slot has = in_text (can_stand slot (get_or text place 0)) has
  where
    in_text : (stands : Bool) → nat_lt place (length text) && stands ≡ true → place < length text
    in_text stands has = grind (arith, nat_tests)

pub form_of : (text : List ℕ) → length text ≡ 8 → AreSlots text 8 → HasForm text
form_of text all slots =
    let set = digit_stands 55 text 2 (slots 2 (omega arith)) in
    let thousands = digit_stands 57 text 4 (slots 4 (omega arith)) in
    let hundreds = digit_stands 57 text 5 (slots 5 (omega arith)) in
    let tens = digit_stands 57 text 6 (slots 6 (omega arith)) in
    let ones = digit_stands 57 text 7 (slots 7 (omega arith)) in
    record {
      all = all;
      letter = letter_stands text 0 (slots 0 (omega arith));
      first_dash = dash_stands text 1 (slots 1 (omega arith));
      set_low = set.0;
      set_high = set.1;
      second_dash = dash_stands text 3 (slots 3 (omega arith));
      thousands_low = thousands.0;
      thousands_high = thousands.1;
      hundreds_low = hundreds.0;
      hundreds_high = hundreds.1;
      tens_low = tens.0;
      tens_high = tens.1;
      ones_low = ones.0;
      ones_high = ones.1;
    }

pub IsSpelled-idn_fault : (text : List ℕ) → idn_fault text ≡ None → IsSpelled text
IsSpelled-idn_fault text none = cases (idn_fault text) (judged text) none
  where
    cases : (o : Option ℕ) → Judged text o → o ≡ None → IsSpelled text
    cases None (taken slots small short) none =
        let long = has_place text 7 Decimal (slots 7 (omega arith)) in
        record { form = form_of text (omega (arith, long, short)) slots; small = small }
    cases (Some place) how none = cc

-- the letter, the set and the digits of the number that is made of them
letter_by : (letter raw rest : ℕ) → (letter ≡ 83) ⊎ (letter ≡ 80) → rest < 32768 → raw ≡ cond (letter == 80) 32768 0 + rest → letter_of raw ≡ letter
letter_by letter raw rest (inl e) small is = grind (arith, nat_tests)
letter_by letter raw rest (inr e) small is = grind (arith, nat_tests)

raw_below : (letter set number : ℕ) → set ≤ 7 → number ≤ 4095 → cond (letter == 80) 32768 0 + 4096 * set + number < 2 ^ 16
raw_below letter set number small most = grind (arith, nat_tests)

set_by : (letter set number : ℕ) → set ≤ 7 → number ≤ 4095 → (cond (letter == 80) 32768 0 + 4096 * set + number) / 4096 % 8 ≡ set
set_by letter set number small most = cases (letter == 80)
  where
    cases : (b : Bool) → (cond b 32768 0 + 4096 * set + number) / 4096 % 8 ≡ set
    cases true = omega arith
    cases false = omega arith

number_by : (letter set number : ℕ) → number ≤ 4095 → (cond (letter == 80) 32768 0 + 4096 * set + number) % 4096 ≡ number
number_by letter set number most = cases (letter == 80)
  where
    cases : (b : Bool) → (cond b 32768 0 + 4096 * set + number) % 4096 ≡ number
    cases true = omega arith
    cases false = omega arith

pub four_by : (a b c d number : ℕ) → 48 ≤ a → a ≤ 57 → 48 ≤ b → b ≤ 57 → 48 ≤ c → c ≤ 57 → 48 ≤ d → d ≤ 57 → number ≡ 1000 * (a - 48) + 100 * (b - 48) + 10 * (c - 48) + (d - 48) → four_digits number ≡ a ∷ b ∷ c ∷ d ∷ []
unfolding four_digits
four_by a b c d number al ah bl bh cl ch dl dh is =
    let ea : 48 + number / 1000 ≡ a = omega arith in
    let eb : 48 + number / 100 % 10 ≡ b = omega arith in
    let ec : 48 + number / 10 % 10 ≡ c = omega arith in
    let ed : 48 + number % 10 ≡ d = omega arith in
    rw (ea, eb, ec, ed) refl

pub spelled_raw-below : (text : List ℕ) → IsSpelled text → spelled_raw text < 2 ^ 16
spelled_raw-below text is = raw_below (get_or text 0 0) (digit_at text 2) (spelled_number text) (omega (arith, is.form.set_high)) is.small

pub idn_text-spelled_raw : (text : List ℕ) → IsSpelled text → text ≡ idn_text (spelled_raw text)
unfolding idn_text
idn_text-spelled_raw text is =
    let low : digit_at text 2 ≤ 7 = omega (arith, is.form.set_high) in
    let rest : 4096 * digit_at text 2 + spelled_number text < 32768 = omega (arith, is.small) in
    let letter : letter_of (spelled_raw text) ≡ get_or text 0 0 = letter_by (get_or text 0 0) (spelled_raw text) (4096 * digit_at text 2 + spelled_number text) is.form.letter rest (omega arith) in
    let set : set_of (spelled_raw text) ≡ digit_at text 2 = set_by (get_or text 0 0) (digit_at text 2) (spelled_number text) low is.small in
    let set_byte : 48 + digit_at text 2 ≡ get_or text 2 0 = omega (arith, is.form.set_low) in
    let number : number_of (spelled_raw text) ≡ spelled_number text = number_by (get_or text 0 0) (digit_at text 2) (spelled_number text) is.small in
    let four = four_by (get_or text 4 0) (get_or text 5 0) (get_or text 6 0) (get_or text 7 0) (spelled_number text) is.form.thousands_low is.form.thousands_high is.form.hundreds_low is.form.hundreds_high is.form.tens_low is.form.tens_high is.form.ones_low is.form.ones_high refl in
    eight text is.form.all ∙ join text (letter_of (spelled_raw text)) (48 + set_of (spelled_raw text)) (four_digits (number_of (spelled_raw text))) letter (ap (λ n. 48 + n) set ∙ set_byte) (ap four_digits number ∙ four) is.form.first_dash is.form.second_dash
  where
    join : (text : List ℕ) (letter set : ℕ) (four : List ℕ) → letter ≡ get_or text 0 0 → set ≡ get_or text 2 0 → four ≡ get_or text 4 0 ∷ get_or text 5 0 ∷ get_or text 6 0 ∷ get_or text 7 0 ∷ []
        → get_or text 1 0 ≡ 45 → get_or text 3 0 ≡ 45
        → get_or text 0 0 ∷ get_or text 1 0 ∷ get_or text 2 0 ∷ get_or text 3 0 ∷ get_or text 4 0 ∷ get_or text 5 0 ∷ get_or text 6 0 ∷ get_or text 7 0 ∷ [] ≡ letter ∷ 45 ∷ set ∷ 45 ∷ four
    join text letter set four el es ef first second = cc

-- the way back: a spelling has no fault, and spells its number
pub letter_good : (raw : ℕ) → (letter_of raw == 83) || (letter_of raw == 80) ≡ true
letter_good raw = cases (nat_lt raw 32768)
  where
    cases : (b : Bool) → ((cond b 83 80 == 83) || (cond b 83 80 == 80)) ≡ true
    cases true = refl
    cases false = refl

pub digit_good : (most digit : ℕ) → digit ≤ most → nat_le 48 (48 + digit) && nat_le (48 + digit) (48 + most) ≡ true
digit_good most digit small = grind (arith, nat_tests)

pub number_again : (n : ℕ) → n < 10000 → 1000 * ((48 + n / 1000) - 48) + 100 * ((48 + n / 100 % 10) - 48) + 10 * ((48 + n / 10 % 10) - 48) + ((48 + n % 10) - 48) ≡ n
number_again n small = omega arith

pub idn_fault-idn_text : (raw : ℕ) → raw < 2 ^ 16 → idn_fault (idn_text raw) ≡ None
unfolding idn_fault head_fault digits_fault idn_text four_digits
idn_fault-idn_text raw small =
    let n : ℕ = raw % 4096 in
    let letter = letter_good raw in
    let set = digit_good 7 (raw / 4096 % 8) (omega arith) in
    let a = digit_good 9 (raw % 4096 / 1000) (omega arith) in
    let b = digit_good 9 (raw % 4096 / 100 % 10) (omega arith) in
    let c = digit_good 9 (raw % 4096 / 10 % 10) (omega arith) in
    let d = digit_good 9 (raw % 4096 % 10) (omega arith) in
    let number = number_again (raw % 4096) (omega arith) in
    let fits = nat_lt-at_least 4095 (raw % 4096) (omega arith) in
    rw (letter, set, a, b, c, d, number, fits) refl

pub spelled_raw-idn_text : (raw : ℕ) → raw < 2 ^ 16 → spelled_raw (idn_text raw) ≡ raw
unfolding idn_text four_digits
spelled_raw-idn_text raw small = rw (number_again (raw % 4096) (omega arith), product raw small) (omega arith)
  where
    product : (raw : ℕ) → raw < 2 ^ 16 → cond (letter_of raw == 80) 32768 0 ≡ 32768 * (raw / 32768)
    product raw small = grind (arith, nat_tests)
