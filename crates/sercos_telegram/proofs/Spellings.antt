-- Lemmas on spellings: what a content spells is one thing, and has no fault.
use Rattle.std.proofs.Common.{◌≡◌, ℕ, ◌+◌, ◌^◌, ◌<◌, List, [], ◌∷◌, ◌++◌, length, take, drop, get_or, Some, None, ◌-◌, refl, sym, ◌∙◌, ap, arith, append_assoc, length-append, length-drop, ◌≤◌}
use Rattle.std.specs.List.{slice_range}
use Rattle.std.proofs.lemmas.List.{get_or-take, get_or-drop, drop-take, drop-drop, length-take-le}
use Rattle.std.proofs.Math.Seq.{take-append_seam, drop-append_seam}
use Rattle.sercos_telegram.specs.declared.layout.Layout.{Layout}
use Rattle.sercos_telegram.specs.Faults.{head_fault}
use Rattle.sercos_telegram.specs.Spells.{word_bytes, word_at, fields, all_drives, at_content, record_bytes, SpellsAt, SpellsRecord}
use Rattle.sercos_telegram.specs.Words.{control_word}
use Rattle.sercos_telegram.specs.declared.words.Status.{Status}
use Rattle.sercos_telegram.specs.declared.words.Control.{Control}

-- two words and values that are spelled alike
pub record IsSame (word info word' info' : ℕ) (values values' : List ℕ) : Type 0 where
  pub words : word ≡ word'
  pub infos : info ≡ info'
  pub rests : values ≡ values'

cons_head : {A : Type 0} {x y : A} {xs ys : List A} → x ∷ xs ≡ y ∷ ys → x ≡ y
cons_head e = cc

cons_tail : {A : Type 0} {x y : A} {xs ys : List A} → x ∷ xs ≡ y ∷ ys → xs ≡ ys
cons_tail e = cc

pub fields-same : (word info word' info' : ℕ) (values values' : List ℕ) → word < 2 ^ 16 → info < 2 ^ 16 → word' < 2 ^ 16 → info' < 2 ^ 16 → fields word info values ≡ fields word' info' values' → IsSame word info word' info' values values'
unfolding fields word_bytes
fields-same word info word' info' values values' a b c d e =
    let low = cons_head e in
    let e1 = cons_tail e in
    let high = cons_head e1 in
    let e2 = cons_tail e1 in
    let info_low = cons_head e2 in
    let e3 = cons_tail e2 in
    let info_high = cons_head e3 in
    record { words = omega arith; infos = omega arith; rests = cons_tail e3 }

-- a content of the wanted length and address
pub head_fault-none : (wanted address : ℕ) (content : List ℕ) → length content ≡ wanted → get_or content 0 0 ≡ address → head_fault wanted address content ≡ None
unfolding head_fault
head_fault-none wanted address content long there = grind arith

head_fault-clash : (wanted address : ℕ) (content : List ℕ) (fault : Layout) → Some fault ≡ head_fault wanted address content → head_fault wanted address content ≡ None → ⊥
head_fault-clash wanted address content fault some none = cc

-- a fault of a content that spells a telegram
pub no_fault : (wanted address : ℕ) (content : List ℕ) (fault : Layout) → Some fault ≡ head_fault wanted address content → length content ≡ wanted → get_or content 0 0 ≡ address → ⊥
no_fault wanted address content fault some long there =
    head_fault-clash wanted address content fault some (head_fault-none wanted address content long there)

first_byte : (address : ℕ) (content : List ℕ) → 0 < length content → get_or content 0 0 ≡ address → content ≡ address ∷ drop 1 content
first_byte address [] some there = absurd (omega arith)
first_byte address (byte ∷ content) some there = rw there refl

-- a content of five bytes has no values
pub single-whole : (address word info : ℕ) (values content : List ℕ) → length content ≡ 5 → get_or content 0 0 ≡ address → drop 1 content ≡ fields word info values → content ≡ address ∷ fields word info []
unfolding fields word_bytes
single-whole address word info [] content five there rest =
    let whole = first_byte address content (omega arith) there in whole ∙ ap (λ xs. address ∷ xs) rest
single-whole address word info (value ∷ values) content five there rest =
    let whole = first_byte address content (omega arith) there in
    let lengths = ap length (whole ∙ ap (λ xs. address ∷ xs) rest) in
    absurd (omega (arith, lengths))

-- the words after an address
pub word_at-first : (content : List ℕ) → word_at (drop 1 content) 0 ≡ word_at content 1
unfolding word_at
word_at-first [] = refl
word_at-first (byte ∷ content) = refl

pub word_at-second : (content : List ℕ) → word_at (drop 1 content) 2 ≡ word_at content 3
unfolding word_at
word_at-second [] = refl
word_at-second (byte ∷ content) = refl

length-fields : (word info : ℕ) (values : List ℕ) → length (fields word info values) ≡ 4 + length values
unfolding fields word_bytes
length-fields word info values = omega arith

-- a part of a content
byte-part : (content : List ℕ) (position len k at : ℕ) → k < len → at ≡ position + k → get_or (take len (drop position content)) k 0 ≡ get_or content at 0
byte-part content position len k at within there =
    get_or-take len (drop position content) k 0 within ∙ get_or-drop position content k 0 ∙ ap (λ n. get_or content n 0) (sym there)

pub word_at-part : (content : List ℕ) (position len k at : ℕ) → k + 1 < len → at ≡ position + k → word_at (take len (drop position content)) k ≡ word_at content at
unfolding word_at
word_at-part content position len k at within there =
    let low = byte-part content position len k at (omega arith) there in
    let high = byte-part content position len (k + 1) (at + 1) within (omega arith) in
    omega (arith, low, high)

pub part-part : (content : List ℕ) (position len n : ℕ) → n ≤ len → drop n (take len (drop position content)) ≡ slice_range content (position + n) (position + len)
part-part content position len n within =
    let whole : n + (len - n) ≡ len = omega arith in
    let rest : position + len - (position + n) ≡ len - n = omega arith in
    ap (λ m. drop n (take m (drop position content))) (sym whole) ∙ drop-take n (len - n) (drop position content) ∙ ap (take (len - n)) (drop-drop n position content) ∙ ap (λ m. take m (drop (position + n) content)) (sym rest)

pub record-size : (position len word info : ℕ) (values content : List ℕ) → position + len ≤ length content → take len (drop position content) ≡ fields word info values → len ≡ 4 + length values
record-size position len word info values content within there =
    let room : len ≤ length (drop position content) = omega (arith, length-drop position content) in
    sym (length-take-le len (drop position content) room) ∙ ap length there ∙ length-fields word info values

pub at-spelled : (address : ℕ) (status : Status) (info : ℕ) (values content : List ℕ) → content ≡ at_content address status info values → SpellsAt address (4 + length values) status info values content
unfolding word_bytes fields
at-spelled address status info values content whole = record { long = rw whole (omega arith); whole = whole }

record-there : (before middle after : List ℕ) → take (length middle) (drop (length before) (before ++ middle ++ after)) ≡ middle
record-there before middle after =
    rw (append_assoc before middle after, drop-append_seam before (middle ++ after)) (take-append_seam middle after)

first-append : (before rest : List ℕ) → 0 < length before → get_or (before ++ rest) 0 0 ≡ get_or before 0 0
first-append [] rest some = absurd (omega arith)
first-append (byte ∷ before) rest some = refl

pub record-appended : (control : Control) (info : ℕ) (before values after : List ℕ) → 0 < length before → get_or before 0 0 ≡ all_drives → SpellsRecord (length (before ++ record_bytes control info values ++ after) - 1) (length before) (4 + length values) control info values (before ++ record_bytes control info values ++ after)
record-appended control info before values after some address =
    let middle = record_bytes control info values in
    let long : length (before ++ middle ++ after) ≡ length before + length middle + length after = length-append (before ++ middle) after ∙ ap (λ n. n + length after) (length-append before middle) in
    record {
      long = omega (arith, long);
      behind_address = omega arith;
      size = refl;
      address = ap (λ xs. get_or xs 0 0) (append_assoc before middle after) ∙ first-append before (middle ++ after) some ∙ address;
      there = ap (λ n. take n (drop (length before) (before ++ middle ++ after))) (sym (length-fields (control_word control) info values)) ∙ record-there before middle after;
    }
