-- A line without a fault is one of its template, and each line of a template is read as its values.
use Rattle.std.proofs.Common.{◌≡◌, ℕ, suc, true, false, not, ◌==◌, ◌&&◌, ◌||◌, nat_lt, List, [], ◌∷◌, ◌++◌, length, get_or, drop, Option, Some, None, is_none, refl, sym, ap, subst, arith, append_assoc}
use Rattle.std.proofs.lemmas.Bool.{and_parts}
use Rattle.std.proofs.lemmas.Bool.Decides.{nat_tests}
use Rattle.std.proofs.lemmas.List.{drop_at}
use Rattle.sercos_model.proofs.FaultLemmas.{none_of-or, none_of-then, none_of-map}
use Rattle.sercos_text.specs.Lists.{list_text}
use Rattle.sercos_text.specs.Tails.{tail_of, tail_text, idents_text, IsTail}
use Rattle.sercos_text.specs.declared.tail.Tail.{Tail}
use Rattle.sercos_text.specs.declared.tail.Tail.TheVariants.{End, Addresses, Idents}
use Rattle.sercos_text.proofs.TailLaws.{tail_spells, tail_reads}
use Rattle.sercos_text.specs.Templates.{field_of, field_len, byte_fault, part_fault, part_len, line_fault, Value, value_text, IsLine, field_value, part_values, values_of, items_of, is_template, part_text, part_left, line_text, IsPart, AreOf}
use Rattle.sercos_text.specs.Templates.IsLine.{line_ends, byte_stands, field_stands}
use Rattle.sercos_text.specs.declared.template.Field.{Field}
use Rattle.sercos_text.proofs.ValueLaws.{IsRest}
use Rattle.sercos_text.proofs.FieldLaws.{field_spells, FieldReads, field_reads, is_field-found}

same_byte : (byte : ℕ) → (byte == byte) ≡ true
same_byte byte = grind (arith, nat_tests)

byte_is : (letter : ℕ) (text : List ℕ) → byte_fault letter text ≡ None → text ≡ letter ∷ drop 1 text
unfolding byte_fault
byte_is letter [] none = cc
byte_is letter (c ∷ text) none =
    let e : c ≡ letter = same c letter (length text) (none_of-then (not (nat_lt 0 (suc (length text)) && (c == letter))) 0 none) in ap (λ b. b ∷ text) e
  where
    same : (c letter more : ℕ) → not (nat_lt 0 (suc more) && (c == letter)) ≡ false → c ≡ letter
    same c letter more fails = grind (arith, nat_tests)

byte_passes : (letter : ℕ) (text : List ℕ) → byte_fault letter (letter ∷ text) ≡ None
unfolding byte_fault
byte_passes letter text = let some : nat_lt 0 (suc (length text)) ≡ true = grind (arith, nat_tests) in rw (some, same_byte letter) refl

line_of_part : (tail : Tail) (letter : ℕ) (template items text : List ℕ) (found : Option Field) → field_of letter ≡ found → part_fault found letter text ≡ None → IsLine tail template (values_of template (drop (part_len found text) text)) items (drop (part_len found text) text) → IsLine tail (letter ∷ template) (part_values found text ++ values_of template (drop (part_len found text) text)) items text
unfolding part_fault part_len part_values
line_of_part tail letter template items text None is none rest =
    rw (byte_is letter text none) (byte_stands is rest)
line_of_part tail letter template items text (Some field) is none rest =
    let spells = field_spells field text (is_field-found letter field is) none in
    let whole : IsLine tail (letter ∷ template) (field_value field text ∷ values_of template (drop (field_len field text) text)) items (value_text (field_value field text) ++ drop (field_len field text) text) = field_stands is spells.fits rest in
    let P : List ℕ → Type 0 = λ t. IsLine tail (letter ∷ template) (field_value field text ∷ values_of template (drop (field_len field text) text)) items t in
    subst P (sym spells.text_is) whole

pub line_spelled : (tail : Tail) (template line : List ℕ) → line_fault tail template line ≡ None → IsLine tail template (values_of template line) (items_of tail template line) line
unfolding line_fault values_of items_of
line_spelled tail [] line none =
    let spells = tail_spells tail line none in
    let P : List ℕ → Type 0 = λ t. IsLine tail [] [] (tail_of tail line) t in
    subst P (sym spells.text_is) (line_ends spells.is)
line_spelled tail (letter ∷ template) line none =
    let found = field_of letter in
    let parts = none_of-or (part_fault found letter line) _ none in
    let behind_it = none_of-map _ (line_fault tail template (drop (part_len found line) line)) parts.1 in
    line_of_part tail letter template _ line found refl parts.0 (line_spelled tail template (drop (part_len found line) line) behind_it)

-- each value is one of its field
fields_of_part : (letter : ℕ) (template text : List ℕ) (found : Option Field) → field_of letter ≡ found → part_fault found letter text ≡ None → AreOf template (values_of template (drop (part_len found text) text))
    → IsPart found (part_values found text ++ values_of template (drop (part_len found text) text)) × AreOf template (part_left found (part_values found text ++ values_of template (drop (part_len found text) text)))
unfolding part_fault part_len part_values part_left IsPart
fields_of_part letter template text None is none rest = (tt, rest)
fields_of_part letter template text (Some field) is none rest = ((field_spells field text (is_field-found letter field is) none).fits, rest)

pub fields_are : (tail : Tail) (template line : List ℕ) → line_fault tail template line ≡ None → AreOf template (values_of template line)
unfolding line_fault values_of AreOf
fields_are tail [] line none = tt
fields_are tail (letter ∷ template) line none =
    let found = field_of letter in
    let parts = none_of-or (part_fault found letter line) _ none in
    let rest = none_of-map _ (line_fault tail template (drop (part_len found line) line)) parts.1 in
    fields_of_part letter template line found refl parts.0 (fields_are tail template (drop (part_len found line) line) rest)

-- ---- each line of a template is read as its values

pub record Reads (tail : Tail) (template line : List ℕ) (values : List Value) (items : List ℕ) : Type 0 where
  pub none : line_fault tail template line ≡ None
  pub given : values_of template line ≡ values
  pub listed : items_of tail template line ≡ items

tail_rest : (tail : Tail) (items : List ℕ) → IsRest (tail_text tail items)
unfolding tail_text idents_text list_text
tail_rest End items = refl
tail_rest Addresses [] = refl
tail_rest Addresses (item ∷ items) = refl
tail_rest Idents [] = refl
tail_rest Idents (item ∷ items) = refl

space_stands : field_of 32 ≡ None
unfolding field_of
space_stands = refl

-- after a field there is a space or nothing
rest_of : (tail : Tail) (template items text : List ℕ) (values : List Value) → get_or template 0 32 ≡ 32 → IsLine tail template values items text → IsRest text
rest_of tail [] items _ _ ends (line_ends is) = tail_rest tail items
rest_of tail (letter ∷ template) items (_ ∷ text) values ends (byte_stands is rest) = ends
rest_of tail (letter ∷ template) items _ _ ends (field_stands {field = field} is fits rest) =
    let none : field_of 32 ≡ None = space_stands in
    let some : field_of 32 ≡ Some field = rw ends at is in
    absurd (cc)

reads_byte : (tail : Tail) (letter : ℕ) (template text : List ℕ) (values : List Value) (items : List ℕ) → field_of letter ≡ None → Reads tail template text values items → Reads tail (letter ∷ template) (letter ∷ text) values items
unfolding line_fault values_of items_of part_fault part_len part_values
reads_byte tail letter template text values items is reads = record {
  none = rw (is, byte_passes letter text, reads.none) refl;
  given = rw is reads.given;
  listed = rw is reads.listed;
}

reads_field : (tail : Tail) (letter : ℕ) (template text : List ℕ) (field : Field) (value : Value) (values : List Value) (items : List ℕ) → field_of letter ≡ Some field → FieldReads field value text → Reads tail template text values items → Reads tail (letter ∷ template) (value_text value ++ text) (value ∷ values) items
unfolding line_fault values_of items_of part_fault part_len part_values
reads_field tail letter template text field value values items is field_reads reads =
    let rest : drop (length (value_text value)) (value_text value ++ text) ≡ text = drop_at (value_text value) text (length (value_text value)) refl in
    record {
      none = rw (is, field_reads.none, field_reads.len, rest, reads.none) refl;
      given = rw (is, field_reads.given, field_reads.len, rest, reads.given) refl;
      listed = rw (is, field_reads.len, rest) reads.listed;
    }

-- the tests of a template, letter by letter
ends_of : (letter : ℕ) (field : Field) (template : List ℕ) → field_of letter ≡ Some field → is_template (letter ∷ template) ≡ true → (get_or template 0 32 ≡ 32) × (is_template template ≡ true)
unfolding is_template
ends_of letter field template is holds =
    let parts = and_parts (is_none (field_of letter) || (get_or template 0 32 == 32)) (is_template template) holds in
    let first : (false || (get_or template 0 32 == 32)) ≡ true = rw is at parts.0 in
    (space (get_or template 0 32) first, parts.1)
  where
    space : (c : ℕ) → (false || (c == 32)) ≡ true → c ≡ 32
    space c holds = grind (arith, nat_tests)

tail_of_template : (letter : ℕ) (template : List ℕ) → is_template (letter ∷ template) ≡ true → is_template template ≡ true
unfolding is_template
tail_of_template letter template holds =
    (and_parts (is_none (field_of letter) || (get_or template 0 32 == 32)) (is_template template) holds).1

pub line_read : (tail : Tail) (template items line : List ℕ) (values : List Value) → is_template template ≡ true → IsLine tail template values items line → Reads tail template line values items
unfolding line_fault values_of items_of
line_read tail [] items _ _ is (line_ends listed) =
    let reads = tail_reads tail items listed in record { none = reads.none; given = refl; listed = reads.given }
line_read tail (letter ∷ template) items (_ ∷ text) values is (byte_stands plain rest) =
    reads_byte tail letter template text values items plain (line_read tail template items text values (tail_of_template letter template is) rest)
line_read tail (letter ∷ template) items _ _ is (field_stands {field = field} {value = value} {text = text} {values = values} at fits rest) =
    let ends = ends_of letter field template at is in
    reads_field tail letter template text field value values items at (field_reads field value text (is_field-found letter field at) fits (rest_of tail template items text values (ends.0) rest))
    (line_read tail template items text values (ends.1) rest)

-- ---- what is written

written_part : (tail : Tail) (letter : ℕ) (template items : List ℕ) (values : List Value) (found : Option Field) → field_of letter ≡ found → IsPart found values → IsLine tail template (part_left found values) items (line_text template (part_left found values) ++ tail_text tail items) → IsLine tail (letter ∷ template) values items (part_text found letter values ++ (line_text template (part_left found values) ++ tail_text tail items))
unfolding IsPart part_text part_left
written_part tail letter template items values None is part rest = byte_stands is rest
written_part tail letter template items [] (Some field) is part rest = absurd part
written_part tail letter template items (value ∷ values) (Some field) is part rest = field_stands is part rest

pub line_written : (tail : Tail) (template : List ℕ) (values : List Value) (items : List ℕ) → AreOf template values → IsTail tail items → IsLine tail template values items (line_text template values ++ tail_text tail items)
unfolding AreOf line_text
line_written tail [] [] items are listed = line_ends listed
line_written tail [] (value ∷ values) items are listed = absurd are
line_written tail (letter ∷ template) values items are listed =
    rw (append_assoc (part_text (field_of letter) letter values)) (written_part tail letter template items values (field_of letter) refl are.0 (line_written tail template (part_left (field_of letter) values) items are.1 listed))
