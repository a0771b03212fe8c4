-- Steps of writing a text in parts.
use Rattle.std.proofs.Common.{◌≡◌, ℕ, ◌+◌, ◌-◌, ◌*◌, ◌/◌, ◌%◌, ◌<◌, ◌≤◌, inl, inr, List, [], ◌∷◌, ◌++◌, length, take, drop, get_or, refl, sym, ap, ◌∙◌, arith, append_assoc, length-append, map}
use Rattle.std.proofs.Math.Seq.{take-append_seam, drop-append-add}
use Rattle.std.specs.Int.{w16, to_le_bytes}
use Rattle.std.specs.List.{range_with_len}
use Rattle.std.proofs.lemmas.Bool.{cases_lt}
use Rattle.std.proofs.lemmas.Slice.{take-put_mid, drop-put_mid}
use borrow.Rule.Slice.PartMut.{put_mid}
use Rattle.std.proofs.lemmas.List.{get_or-map}
use Rattle.std.proofs.lemmas.List.FromFn.{get_or-map-range_with_len}
use Rattle.sercos_text.specs.declared.writer.TheConstants.{PAIRS}
use Rattle.std.proofs.lemmas.List.{at_drop_more, at_drop_all, append-nil, drop-drop, drop_all, length-take-le, take-append-drop, take_all, take_more}
use Rattle.hex.specs.Hex.{encode_lower, encode_with, lower_digits}
use Rattle.hex.proofs.HexLemmas.{length-encode_with}
use Rattle.sercos_text.specs.declared.list.Item.{Item}
use Rattle.sercos_text.specs.Lists.{item_text, list_text}
use Rattle.sercos_text.specs.Templates.{field_of, part_text, part_left, line_text, Value}

-- as many elements as there are, and no more than some
pub take_few : (xs : List ℕ) (n most : ℕ) → n ≤ most → (n < most → length xs ≤ n) → take n xs ≡ take most xs
take_few xs n most few all =
    elim (cases_lt n most) [
      | inl less ↦ take_all n xs (all less) ∙ sym (take_all most xs (omega (arith, all less)))
      | inr other ↦ let is : n ≡ most = omega arith in rw is refl
    ]

encode_with-append : (t xs ys : List ℕ) → encode_with t (xs ++ ys) ≡ encode_with t xs ++ encode_with t ys
unfolding encode_with
encode_with-append t [] ys = refl
encode_with-append t (x ∷ xs) ys = ap (λ text. get_or t (x / 16) 0 ∷ get_or t (x % 16) 0 ∷ text) (encode_with-append t xs ys)

-- the digits of one more piece
pub piece_more : (bytes : List ℕ) (turn : ℕ) (part before after all : List ℕ) → part ≡ take 32 (drop (32 * turn) bytes) → after ≡ before ++ encode_lower part
    → before ++ encode_lower (drop (32 * turn) bytes) ≡ all → after ++ encode_lower (drop (32 * (turn + 1)) bytes) ≡ all
piece_more bytes turn part before after all is grown so_far =
    let rest : List ℕ = drop (32 * turn) bytes in
    let place : 32 * turn + 32 ≡ 32 * (turn + 1) = omega arith in
    let next : drop 32 rest ≡ drop (32 * (turn + 1)) bytes = rw (drop-drop 32 (32 * turn) bytes, place) refl in
    let split : encode_lower rest ≡ encode_lower part ++ encode_lower (drop (32 * (turn + 1)) bytes) =
    ap encode_lower (sym (take-append-drop 32 rest)) ∙ encode_with-append lower_digits (take 32 rest) (drop 32 rest)
    ∙ ap (λ xs. encode_lower xs ++ encode_lower (drop 32 rest)) (sym is) ∙ ap (λ xs. encode_lower part ++ encode_lower xs) next in
    ap (λ xs. xs ++ encode_lower (drop (32 * (turn + 1)) bytes)) grown ∙ append_assoc before (encode_lower part) (encode_lower (drop (32 * (turn + 1)) bytes))
    ∙ ap (λ xs. before ++ xs) (sym split) ∙ so_far

pub pieces_end : (bytes : List ℕ) (place : ℕ) (before all : List ℕ) → length bytes ≤ place → before ++ encode_lower (drop place bytes) ≡ all → before ≡ all
unfolding encode_with
pieces_end bytes place before all ended so_far =
    let none : drop place bytes ≡ [] = drop_all place bytes ended in
    sym (append-nil before) ∙ (rw none at so_far)

-- each entry of the table has the digits of its byte
all_pairs : map (to_le_bytes w16) PAIRS ≡ map (λ byte. encode_lower (byte ∷ [])) (range_with_len 0 256)
unfolding encode_with
all_pairs = refl

pub pair_entry : (byte : ℕ) → byte < 256 → to_le_bytes w16 (get_or PAIRS byte 0) ≡ encode_lower (byte ∷ [])
pair_entry byte below =
    sym (get_or-map (to_le_bytes w16) PAIRS byte 0 [] below) ∙ ap (λ xs. get_or xs byte []) all_pairs ∙ get_or-map-range_with_len (λ b. encode_lower (b ∷ [])) 0 256 byte byte [] below (omega arith)

-- two bytes of a room are replaced
pub pair_put : (room pair : List ℕ) (at : ℕ) → at + 2 ≤ length room → length pair ≡ 2 → put_mid at (at + 2 - at) room pair ≡ take at room ++ pair ++ drop (at + 2) room
pair_put room pair at within two =
    let new : List ℕ = put_mid at (at + 2 - at) room pair in
    sym (take-append-drop (at + 2) new)
    ∙ ap (λ f. f ++ drop (at + 2) new) (take-put_mid at (at + 2 - at) room pair (at + 2) (omega (arith, two)) (omega arith))
    ∙ ap (λ t. take at room ++ pair ++ t) (drop-put_mid at (at + 2 - at) room pair (at + 2) (omega arith) (omega arith) (omega (arith, two)))

-- the digits of one more byte, put over two bytes of the room
pub pair_more : (bytes first room more : List ℕ) (place : ℕ) → place < length bytes → room ≡ encode_lower (take place bytes) ++ drop (2 * place) first
    → more ≡ take (2 * place) room ++ encode_lower (get_or bytes place 0 ∷ []) ++ drop (2 * place + 2) room
    → more ≡ encode_lower (take (place + 1) bytes) ++ drop (2 * (place + 1)) first
pair_more bytes first room more place inside so_far is =
    let done : List ℕ = encode_lower (take place bytes) in
    let rest : List ℕ = drop (2 * place) first in
    let pair : List ℕ = encode_lower (get_or bytes place 0 ∷ []) in
    let long : length done ≡ 2 * place = omega (arith, length-encode_with lower_digits (take place bytes), length-take-le place bytes (omega arith)) in
    let front : take (2 * place) (done ++ rest) ≡ done = ap (λ n. take n (done ++ rest)) (sym long) ∙ take-append_seam done rest in
    let next : 2 * place + 2 ≡ 2 * (place + 1) = omega arith in
    let behind : drop (2 * place + 2) (done ++ rest) ≡ drop (2 * (place + 1)) first =
    ap (λ n. drop (n + 2) (done ++ rest)) (sym long) ∙ drop-append-add done rest 2 ∙ drop-drop 2 (2 * place) first ∙ ap (λ n. drop n first) next in
    let grown : encode_lower (take (place + 1) bytes) ≡ done ++ pair = ap encode_lower (take_more bytes place 0 inside) ∙ encode_with-append lower_digits (take place bytes) (get_or bytes place 0 ∷ []) in
    is ∙ ap (λ r. take (2 * place) r ++ pair ++ drop (2 * place + 2) r) so_far ∙ ap (λ f. f ++ pair ++ drop (2 * place + 2) (done ++ rest)) front
    ∙ ap (λ t. done ++ pair ++ t) behind ∙ ap (λ f. f ++ drop (2 * (place + 1)) first) (sym grown)

pub no_pairs : (room : List ℕ) → room ≡ encode_lower [] ++ room
unfolding encode_with
no_pairs room = refl

-- nothing of the room is left
pub pairs_end : (bytes first room : List ℕ) (place : ℕ) → length bytes ≤ place → length first ≡ 2 * length bytes → room ≡ encode_lower (take place bytes) ++ drop (2 * place) first → room ≡ encode_lower bytes
pairs_end bytes first room place ended fits so_far =
    so_far ∙ ap (λ t. encode_lower (take place bytes) ++ t) (drop_all (2 * place) first (omega arith)) ∙ append-nil (encode_lower (take place bytes)) ∙ ap encode_lower (take_all place bytes ended)

-- how many bytes are left, and the next piece of them
pub left_count : (line rest old all : List ℕ) → line ++ encode_lower rest ≡ old ++ encode_lower all → length line + 2 * length rest ≡ length old + 2 * length all
left_count line rest old all is =
    omega (arith, ap length is, length-append line (encode_lower rest), length-append old (encode_lower all), length-encode_with lower_digits rest, length-encode_with lower_digits all)

pub part_within : (rest part : List ℕ) → part ≡ take 32 rest → length part ≤ length rest
part_within rest part is = rw is (omega (arith, ap length (take-append-drop 32 rest), length-append (take 32 rest) (drop 32 rest)))

-- the text of what is left, by the next letter
next_text : (template : List ℕ) (values : List Value) (i : ℕ) → i < length template
    → line_text (drop i template) values ≡ part_text (field_of (get_or template i 0)) (get_or template i 0) values ++ line_text (drop (i + 1) template) (part_left (field_of (get_or template i 0)) values)
unfolding line_text
next_text template values i inside = at_drop_more (λ t. line_text t values) template i 0 inside

no_text : (template : List ℕ) (values : List Value) (i : ℕ) → length template ≤ i → line_text (drop i template) values ≡ []
unfolding line_text
no_text template values i ended = at_drop_all (λ t. line_text t values) template i ended

-- one more letter was written
pub letter_written : (template : List ℕ) (values left : List Value) (i : ℕ) (line front whole : List ℕ) → i < length template → left ≡ part_left (field_of (get_or template i 0)) values
    → line ≡ front ++ part_text (field_of (get_or template i 0)) (get_or template i 0) values → front ++ line_text (drop i template) values ≡ whole
    → line ++ line_text (drop (i + 1) template) left ≡ whole
letter_written template values left i line front whole inside left_is line_is is =
    rw (line_is, left_is, append_assoc, ← next_text template values i inside) is

pub line_end : (template : List ℕ) (values : List Value) (i : ℕ) (line whole : List ℕ) → length template ≤ i → line ++ line_text (drop i template) values ≡ whole → line ≡ whole
line_end template values i line whole ended is = sym (append-nil line) ∙ ap (λ t. line ++ t) (sym (no_text template values i ended)) ∙ is

-- one more item of a list was written; the items are those that a function gives
pub item_written : {X : Type 0} (f : X → ℕ) (item : Item) (xs : List X) (i : ℕ) (d : X) (line next whole : List ℕ) → i < length xs → line ++ list_text item (map f (drop i xs)) ≡ whole
    → next ≡ line ++ 32 ∷ item_text item (f (get_or xs i d)) → next ++ list_text item (map f (drop (i + 1) xs)) ≡ whole
unfolding list_text
item_written f item xs i d line next whole inside is more =
    let here = at_drop_more (λ t. list_text item (map f t)) xs i d inside in
    rw (more, append_assoc) (rw here at is)

pub list_end : {X : Type 0} (f : X → ℕ) (item : Item) (xs : List X) (i : ℕ) (line whole : List ℕ) → length xs ≤ i → line ++ list_text item (map f (drop i xs)) ≡ whole → line ≡ whole
unfolding list_text
list_end f item xs i line whole ended is =
    let none : list_text item (map f (drop i xs)) ≡ [] = at_drop_all (λ t. list_text item (map f t)) xs i ended in
    sym (append-nil line) ∙ ap (λ t. line ++ t) (sym none) ∙ is

pub map_same : (xs : List ℕ) → map (λ x. x) xs ≡ xs
map_same [] = refl
map_same (x ∷ xs) = ap (λ t. x ∷ t) (map_same xs)
