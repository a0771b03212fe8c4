-- A field without a fault spells its value, and the text of a value is read as it.
use Rattle.std.proofs.Common.{◌≡◌, ℕ, ◌*◌, ◌^◌, ◌<◌, ◌≤◌, Bool, true, false, ◌==◌, nat_lt, cond, lit<, List, ◌++◌, length, take, drop, Option, Some, None, refl, sym, ap, subst, ◌∙◌, arith, decimal}
use Rattle.std.proofs.lemmas.List.{take-append-drop, length-take-le, take_at}
use Rattle.std.proofs.lemmas.List.Sums.{prefix_len-le-length}
use Rattle.std.specs.List.{prefix_len}
use Rattle.hex.specs.Hex.{lower_digits, encode_with}
use Rattle.hex.proofs.HexLemmas.{length-encode_with}
use Rattle.sercos_model.specs.Bits.{AreBytes}
use Rattle.sercos_model.proofs.FaultLemmas.{none_of-then, at_least, nat_lt-at_least}
use Rattle.sercos_text.specs.Templates.{field_of, field_fault, field_len, Value, value_text, hex_text, IsOf, field_value}
use Rattle.sercos_text.specs.Templates.Value.{number, signed, bytes, ident}
use Rattle.sercos_text.specs.declared.template.Field.{Field}
use Rattle.sercos_text.specs.declared.template.Field.TheVariants.{Number, Signed, Hex, Digits, Ident}
use Rattle.sercos_text.specs.declared.list.Item.TheVariants as item
use Rattle.sercos_text.specs.Fields.{is_hex, digits_fault, low_pairs}
use Rattle.sercos_text.proofs.ListLaws.{ItemSpells, item_spells, ItemReads, item_reads}
use Rattle.sercos_text.proofs.ValueLaws.{IsRest, IsGood, IsGood-number_fault, number_fault-IsGood, number_spelled, reads_number, signed_spelled, signed_reads, hex_spelled, hex_reads, spells_pairs, text_of_some, hex_counted, encoded_are_hex, given_back, decodes, fewer_digits}

-- ---- bytes of a fixed number

record SpellsDigits (count : ℕ) (text : List ℕ) : Type 0 where
  are : AreBytes (low_pairs (take (2 * count) text))
  long : length (low_pairs (take (2 * count) text)) ≡ count
  text_is : text ≡ hex_text (low_pairs (take (2 * count) text)) ++ drop (2 * count) text

digits_spelled : (count : ℕ) (text : List ℕ) → 0 < count → digits_fault count text ≡ None → SpellsDigits count text
unfolding digits_fault
digits_spelled count text some none =
    let enough : 2 * count ≤ prefix_len is_hex text = at_least (prefix_len is_hex text) (2 * count) (none_of-then _ (prefix_len is_hex text) none) in
    let within = prefix_len-le-length is_hex text in
    let long = length-take-le (2 * count) text (omega (arith, enough, within)) in
    let pairs = spells_pairs (take (2 * count) text) (fewer_digits (2 * count) text enough) (omega (arith, long)) in
    record {
      are = pairs.are;
      long = omega (arith, pairs.twice, long);
      text_is = rw (text_of_some (low_pairs (take (2 * count) text)) (omega (arith, pairs.twice, long, some)), pairs.encoded) (sym (take-append-drop (2 * count) text));
    }

record ReadsDigits (count : ℕ) (text list : List ℕ) : Type 0 where
  none : digits_fault count text ≡ None
  long : 2 * count ≡ length (hex_text list)
  given : low_pairs (take (2 * count) text) ≡ list

digits_read : (count : ℕ) (list rest : List ℕ) → 0 < count → AreBytes list → length list ≡ count → IsRest rest → ReadsDigits count (hex_text list ++ rest) list
unfolding digits_fault
digits_read count list rest some are fits is =
    let digits : List ℕ = encode_with lower_digits list in
    let long = length-encode_with lower_digits list in
    let text_is = text_of_some list (omega (arith, fits, some)) in
    let counted = hex_counted digits rest (encoded_are_hex list are) is in
    let front : take (2 * count) (digits ++ rest) ≡ digits = take_at digits rest (2 * count) (omega (arith, long, fits)) in
    let pairs = spells_pairs digits (encoded_are_hex list are) (omega (arith, long)) in
    let enough : nat_lt (prefix_len is_hex (digits ++ rest)) (2 * count) ≡ false = nat_lt-at_least (prefix_len is_hex (digits ++ rest)) (2 * count) (omega (arith, counted, long, fits)) in
    rw text_is (record {
      none = rw enough refl;
      long = omega (arith, long, fits, ap length text_is);
      given = rw front (sym (decodes digits pairs) ∙ given_back list are);
    })

-- ---- fields

-- what a field without a fault spells
pub record FieldSpells (field : Field) (text : List ℕ) : Type 0 where
  pub fits : IsOf field (field_value field text)
  pub text_is : text ≡ value_text (field_value field text) ++ drop (field_len field text) text

-- the greatest number of a field has 32 bits; bytes of a fixed number are at least one
pub IsField : Field → Type 0
IsField (Number most) = most < 2 ^ 32
IsField (Digits count) = 0 < count
IsField _ = Unit {0}

pub field_spells : (field : Field) (text : List ℕ) → IsField field → field_fault field text ≡ None → FieldSpells field text
unfolding IsField field_fault field_len field_value value_text IsOf
field_spells (Number most) text below none =
    let good = IsGood-number_fault most text none in
    record { fits = good.most_is; text_is = number_spelled most text (omega (arith, below)) good }
field_spells Signed text below none = let is = signed_spelled text none in record { fits = is.small; text_is = is.text_is }
field_spells (Hex most) text below none = let is = hex_spelled most text none in record { fits = (is.are, is.fits); text_is = is.text_is }
field_spells (Digits count) text below none = let is = digits_spelled count text below none in record { fits = (is.are, is.long); text_is = is.text_is }
field_spells Ident text below none = let is : ItemSpells item.Ident text = item_spells item.Ident text none in record { fits = is.is; text_is = is.text_is }

-- what the text of a value is read as
pub record FieldReads (field : Field) (value : Value) (rest : List ℕ) : Type 0 where
  pub none : field_fault field (value_text value ++ rest) ≡ None
  pub len : field_len field (value_text value ++ rest) ≡ length (value_text value)
  pub given : field_value field (value_text value ++ rest) ≡ value

number_reads : (most n : ℕ) (rest : List ℕ) → most < 2 ^ 32 → n ≤ most → IsRest rest → FieldReads (Number most) (number n) rest
unfolding field_fault field_len field_value value_text
number_reads most n rest below fits is =
    let reads = reads_number n rest (omega arith) is in
    let good : IsGood most (decimal n ++ rest) = record { some = reads.some; lead = reads.lead; most_is = omega (arith, reads.number) } in
    record {
      none = number_fault-IsGood most (decimal n ++ rest) good;
      len = reads.len;
      given = ap number reads.number;
    }

pub field_reads : (field : Field) (value : Value) (rest : List ℕ) → IsField field → IsOf field value → IsRest rest → FieldReads field value rest
unfolding IsField field_fault field_len field_value value_text IsOf
field_reads (Number most) (number n) rest below fits is = number_reads most n rest below fits is
field_reads Signed (signed z) rest below fits is = let reads = signed_reads z rest fits is in record { none = reads.none; len = reads.long; given = ap signed reads.given }
field_reads (Hex most) (bytes list) rest below fits is = let reads = hex_reads most list rest fits.0 fits.1 is in record { none = reads.none; len = reads.long; given = ap bytes reads.given }
field_reads (Digits count) (bytes list) rest below fits is =
    let reads = digits_read count list rest below fits.0 fits.1 is in record { none = reads.none; len = reads.long; given = ap bytes reads.given }
field_reads Ident (ident raw) rest below fits is =
    let reads : ItemReads item.Ident raw rest = item_reads item.Ident raw rest fits is in record { none = reads.none; len = reads.len; given = ap ident reads.given }
field_reads _ _ rest below fits is = absurd fits

-- each letter stands for a field
by_test : {A : Type 0} (P : A → Type 0) (test : Bool) (x : A) (o : Option A) (y : A) → P x → (o ≡ Some y → P y) → cond test (Some x) o ≡ Some y → P y
by_test P true x o y here rest is = let e : x ≡ y = cc in subst P e here
by_test P false x o y here rest is = rest is

pub is_field-found : (letter : ℕ) (field : Field) → field_of letter ≡ Some field → IsField field
unfolding field_of IsField
is_field-found letter field is =
    by_test IsField (letter == 66) (Number 255) _ field (lit< tt)
    (by_test IsField (letter == 87) (Number 65535) _ field (lit< tt)
    (by_test IsField (letter == 68) (Number 4294967295) _ field (lit< tt)
    (by_test IsField (letter == 83) Signed _ field tt
    (by_test IsField (letter == 72) (Hex 2048) _ field tt
    (by_test IsField (letter == 82) (Hex 1024) _ field tt
    (by_test IsField (letter == 67) (Digits 2) _ field (lit< tt)
    (by_test IsField (letter == 65) (Digits 4) _ field (lit< tt)
    (by_test IsField (letter == 73) Ident None field tt (λ none. absurd (cc)))))))))) is
