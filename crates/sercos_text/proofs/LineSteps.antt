-- Steps of the loop over a template.
use Rattle.std.proofs.Common.{◌≡◌, ℕ, ◌+◌, ◌<◌, ◌≤◌, List, [], ◌∷◌, ◌++◌, length, get_or, drop, Option, Some, None, refl, sym, ap, ◌∙◌, arith, length-append, append_assoc}
use Rattle.std.specs.Option.{option_or}
use Rattle.std.proofs.lemmas.List.{at_drop_more, at_drop_all, drop-drop, append-nil}
use Rattle.sercos_text.specs.declared.tail.Tail.{Tail}
use Rattle.sercos_text.specs.Tails.{tail_fault, tail_of}
use Rattle.sercos_text.specs.Fields.{behind}
use Rattle.sercos_text.specs.Templates.{field_of, part_fault, part_len, line_fault, Value, field_value, part_values, values_of, items_of, numbers_in, signed_by, bytes_by}
use Rattle.sercos_text.specs.Templates.Value.{number, signed, bytes, ident}
use Rattle.sercos_text.specs.declared.template.Field.{Field}
use Rattle.std.specs.Prelude.{ℤ}

pub behind-behind : (a b : ℕ) (o : Option ℕ) → behind a (behind b o) ≡ behind (a + b) o
behind-behind a b None = refl
behind-behind a b (Some place) = ap Some (omega arith)

-- the fault of what is left, by the next letter
next_part : (tail : Tail) (template text : List ℕ) (i : ℕ) → i < length template → line_fault tail (drop i template) text ≡ option_or (part_fault (field_of (get_or template i 0)) (get_or template i 0) text) (behind (part_len (field_of (get_or template i 0)) text) (line_fault tail (drop (i + 1) template) (drop (part_len (field_of (get_or template i 0)) text) text)))
unfolding line_fault
next_part tail template text i inside = at_drop_more (λ t. line_fault tail t text) template i 0 inside

-- the part was taken
pub part_taken : (tail : Tail) (template line text : List ℕ) (i at len : ℕ) (whole : Option ℕ) → i < length template → text ≡ drop at line → whole ≡ behind at (line_fault tail (drop i template) (drop at line)) → None ≡ part_fault (field_of (get_or template i 0)) (get_or template i 0) text → len ≡ part_len (field_of (get_or template i 0)) text → whole ≡ behind (at + len) (line_fault tail (drop (i + 1) template) (drop (at + len) line))
part_taken tail template line text i at len whole inside here is taken long =
    let none = rw here at taken in
    let size = rw here at long in
    is ∙ ap (behind at) (next_part tail template (drop at line) i inside ∙ rw (← none, ← size, drop-drop) refl)
    ∙ behind-behind at len (line_fault tail (drop (i + 1) template) (drop (at + len) line))

-- the part was refused
pub part_refused : (tail : Tail) (template line text : List ℕ) (i at place : ℕ) (whole : Option ℕ) → i < length template → text ≡ drop at line → whole ≡ behind at (line_fault tail (drop i template) (drop at line)) → Some place ≡ part_fault (field_of (get_or template i 0)) (get_or template i 0) text → Some (at + place) ≡ whole
part_refused tail template line text i at place whole inside here is refused =
    let some = rw here at refused in
    let left : line_fault tail (drop i template) (drop at line) ≡ Some place = next_part tail template (drop at line) i inside ∙ rw (← some) refl in
    sym (is ∙ ap (behind at) left)

-- the template has ended, and the tail was taken or refused
pub tail_taken : (tail : Tail) (template line text : List ℕ) (i at : ℕ) (whole : Option ℕ) → length template ≤ i → text ≡ drop at line → whole ≡ behind at (line_fault tail (drop i template) (drop at line)) → None ≡ tail_fault tail text → None ≡ whole
unfolding line_fault
tail_taken tail template line text i at whole ended here is taken =
    let none = rw here at taken in
    let left : line_fault tail (drop i template) (drop at line) ≡ None = at_drop_all (λ t. line_fault tail t (drop at line)) template i ended ∙ sym none in
    sym (is ∙ ap (behind at) left)

pub tail_refused : (tail : Tail) (template line text : List ℕ) (i at place : ℕ) (whole : Option ℕ) → length template ≤ i → text ≡ drop at line → whole ≡ behind at (line_fault tail (drop i template) (drop at line)) → Some place ≡ tail_fault tail text → Some (at + place) ≡ whole
unfolding line_fault
tail_refused tail template line text i at place whole ended here is refused =
    let some = rw here at refused in
    let left : line_fault tail (drop i template) (drop at line) ≡ Some place = at_drop_all (λ t. line_fault tail t (drop at line)) template i ended ∙ sym some in
    sym (is ∙ ap (behind at) left)

-- ---- what was told so far, and what is left

numbers_in-append : (xs ys : List Value) → numbers_in (xs ++ ys) ≡ numbers_in xs ++ numbers_in ys
unfolding numbers_in
numbers_in-append [] ys = refl
numbers_in-append (number n ∷ xs) ys = ap (λ zs. n ∷ zs) (numbers_in-append xs ys)
numbers_in-append (signed z ∷ xs) ys = numbers_in-append xs ys
numbers_in-append (bytes list ∷ xs) ys = numbers_in-append xs ys
numbers_in-append (ident raw ∷ xs) ys = numbers_in-append xs ys

bytes_by-append : (kept : List ℕ) (xs ys : List Value) → bytes_by kept (xs ++ ys) ≡ bytes_by (bytes_by kept xs) ys
unfolding bytes_by
bytes_by-append kept [] ys = refl
bytes_by-append kept (number n ∷ xs) ys = bytes_by-append kept xs ys
bytes_by-append kept (signed z ∷ xs) ys = bytes_by-append kept xs ys
bytes_by-append kept (bytes list ∷ xs) ys = bytes_by-append list xs ys
bytes_by-append kept (ident raw ∷ xs) ys = bytes_by-append kept xs ys

signed_by-append : (kept : ℤ) (xs ys : List Value) → signed_by kept (xs ++ ys) ≡ signed_by (signed_by kept xs) ys
unfolding signed_by
signed_by-append kept [] ys = refl
signed_by-append kept (number n ∷ xs) ys = signed_by-append kept xs ys
signed_by-append kept (signed z ∷ xs) ys = signed_by-append z xs ys
signed_by-append kept (bytes list ∷ xs) ys = signed_by-append kept xs ys
signed_by-append kept (ident raw ∷ xs) ys = signed_by-append kept xs ys

next_values : (template text : List ℕ) (i : ℕ) → i < length template → values_of (drop i template) text ≡ part_values (field_of (get_or template i 0)) text ++ values_of (drop (i + 1) template) (drop (part_len (field_of (get_or template i 0)) text) text)
unfolding values_of
next_values template text i inside = at_drop_more (λ t. values_of t text) template i 0 inside

pub numbers_told : (template line text : List ℕ) (i at len : ℕ) (told more all : List ℕ) → i < length template → text ≡ drop at line → len ≡ part_len (field_of (get_or template i 0)) text → more ≡ told ++ numbers_in (part_values (field_of (get_or template i 0)) text) → told ++ numbers_in (values_of (drop i template) (drop at line)) ≡ all → more ++ numbers_in (values_of (drop (i + 1) template) (drop (at + len) line)) ≡ all
numbers_told template line text i at len told more all inside here long grown before =
    let size = rw here at long in
    let new = rw here at grown in
    rw (new, append_assoc, ← numbers_in-append, size, ← drop-drop (part_len (field_of (get_or template i 0)) (drop at line)) at line, ← next_values template (drop at line) i inside) before

pub bytes_told : (template line text : List ℕ) (i at len : ℕ) (told more all : List ℕ) → i < length template → text ≡ drop at line → len ≡ part_len (field_of (get_or template i 0)) text → more ≡ bytes_by told (part_values (field_of (get_or template i 0)) text) → bytes_by told (values_of (drop i template) (drop at line)) ≡ all → bytes_by more (values_of (drop (i + 1) template) (drop (at + len) line)) ≡ all
bytes_told template line text i at len told more all inside here long grown before =
    let size = rw here at long in
    let new = rw here at grown in
    rw (new, ← bytes_by-append, size, ← drop-drop (part_len (field_of (get_or template i 0)) (drop at line)) at line, ← next_values template (drop at line) i inside) before

pub signed_told : (template line text : List ℕ) (i at len : ℕ) (told more all : ℤ) → i < length template → text ≡ drop at line → len ≡ part_len (field_of (get_or template i 0)) text → more ≡ signed_by told (part_values (field_of (get_or template i 0)) text) → signed_by told (values_of (drop i template) (drop at line)) ≡ all → signed_by more (values_of (drop (i + 1) template) (drop (at + len) line)) ≡ all
signed_told template line text i at len told more all inside here long grown before =
    let size = rw here at long in
    let new = rw here at grown in
    rw (new, ← signed_by-append, size, ← drop-drop (part_len (field_of (get_or template i 0)) (drop at line)) at line, ← next_values template (drop at line) i inside) before

pub numbers_end : (template line : List ℕ) (i at : ℕ) (told all : List ℕ) → length template ≤ i → told ++ numbers_in (values_of (drop i template) (drop at line)) ≡ all → told ≡ all
unfolding values_of numbers_in
numbers_end template line i at told all ended before =
    let none : values_of (drop i template) (drop at line) ≡ [] = at_drop_all (λ t. values_of t (drop at line)) template i ended in
    sym (append-nil told) ∙ (rw none at before)

pub bytes_end : (template line : List ℕ) (i at : ℕ) (told all : List ℕ) → length template ≤ i → bytes_by told (values_of (drop i template) (drop at line)) ≡ all → told ≡ all
unfolding values_of bytes_by
bytes_end template line i at told all ended before =
    let none : values_of (drop i template) (drop at line) ≡ [] = at_drop_all (λ t. values_of t (drop at line)) template i ended in
    rw none at before

pub signed_end : (template line : List ℕ) (i at : ℕ) (told all : ℤ) → length template ≤ i → signed_by told (values_of (drop i template) (drop at line)) ≡ all → told ≡ all
unfolding values_of signed_by
signed_end template line i at told all ended before =
    let none : values_of (drop i template) (drop at line) ≡ [] = at_drop_all (λ t. values_of t (drop at line)) template i ended in
    rw none at before

items_next : (tail : Tail) (template text : List ℕ) (i : ℕ) → i < length template → items_of tail (drop i template) text ≡ items_of tail (drop (i + 1) template) (drop (part_len (field_of (get_or template i 0)) text) text)
unfolding items_of
items_next tail template text i inside = at_drop_more (λ t. items_of tail t text) template i 0 inside

pub items_told : (tail : Tail) (template line text : List ℕ) (i at len : ℕ) (all : List ℕ) → i < length template → text ≡ drop at line → len ≡ part_len (field_of (get_or template i 0)) text
    → items_of tail (drop i template) (drop at line) ≡ all → items_of tail (drop (i + 1) template) (drop (at + len) line) ≡ all
items_told tail template line text i at len all inside rest long is =
    let here = rw rest at long in
    rw (← drop-drop len at line, here, ← items_next tail template (drop at line) i inside) is

-- at the template's end they are those of the tail
items_none : (tail : Tail) (template text : List ℕ) (i : ℕ) → length template ≤ i → items_of tail (drop i template) text ≡ tail_of tail text
unfolding items_of
items_none tail template text i ended = at_drop_all (λ t. items_of tail t text) template i ended

pub items_end : (tail : Tail) (template line text : List ℕ) (i at : ℕ) (all : List ℕ) → length template ≤ i → text ≡ drop at line → items_of tail (drop i template) (drop at line) ≡ all → tail_of tail text ≡ all
items_end tail template line text i at all ended rest is = rw rest (sym (items_none tail template (drop at line) i ended) ∙ is)

pub few_more : (field : Option Field) (text : List ℕ) (told more : List ℕ) → more ≡ told ++ numbers_in (part_values field text) → length more ≤ length told + 1
unfolding part_values numbers_in
few_more None text told more grown = omega (arith, ap length grown, length-append told [])
few_more (Some field) text told more grown = few_of (field_value field text) grown
  where
    few_of : (value : Value) → more ≡ told ++ numbers_in (value ∷ []) → length more ≤ length told + 1
    few_of (number n) grown = omega (arith, ap length grown, length-append told (n ∷ []))
    few_of (signed z) grown = omega (arith, ap length grown, length-append told [])
    few_of (bytes list) grown = omega (arith, ap length grown, length-append told [])
    few_of (ident raw) grown = omega (arith, ap length grown, length-append told [])
