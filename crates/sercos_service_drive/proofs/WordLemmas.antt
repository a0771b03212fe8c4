-- A word of operation data that is written: the causes against it, one by one and as the store has them.
use Rattle.std.proofs.Common.{◌≡◌, ℕ, ◌+◌, ◌*◌, ◌/◌, ◌%◌, ◌<◌, ◌≤◌, ◌==◌, nat_lt, nat_le, Bool, true, false, cond, not, ◌&&◌, ◌||◌, List, [], ◌∷◌, ◌++◌, length, take, drop, Option, Some, None, refl, sym, arith}
use Rattle.std.specs.Prelude.{slice_index}
use Rattle.std.specs.Bool.{then_some}
use Rattle.std.specs.Option.{option_or}
use Rattle.std.proofs.Common.{length-append}
use Rattle.std.proofs.lemmas.List.{length-take}
use Rattle.std.proofs.lemmas.Bool.Decides.{nat_tests}
use Rattle.sercos_model.proofs.FaultLemmas.{none_of-or, none_of-then}
use Rattle.sercos_idn.specs.declared.attribute.Attribute.{Attribute}
use Rattle.sercos_idn.specs.declared.kinds.Length.{Length}
use Rattle.sercos_idn.specs.declared.kinds.Length.TheVariants.{Two, Four, List1, List2, List4}
use Rattle.sercos_idn.specs.Codes.{is_list, item_len}
use Rattle.sercos_step.specs.Words.{words_of, bytes_in}
use Rattle.sercos_block.specs.declared.block.Block.{Block}
use Rattle.sercos_block.specs.Blocks.{bits_in, is_fixed, is_protected}
use Rattle.sercos_block.specs.Stores.{is_short, is_long, is_invalid, is_below, is_above, write_fault, data_fault, put_fault}
use Rattle.sercos_service_drive.specs.Replies.{words_by, bytes_written, is_first_word, ends_early, is_over, is_uneven, is_no_command_value, write_cause}
use Rattle.sercos_service_drive.specs.Kept.{IsMidway}
use Rattle.sercos_service_drive.specs.Partial.{length_cause, place_cause, IsStarted}

-- Words and their bytes.

pub words_of-bytes_in : (ws : List ℕ) → words_of (bytes_in ws) ≡ ws
words_of-bytes_in [] = refl
words_of-bytes_in (w ∷ ws) = let same : w % 256 + 256 * (w / 256) ≡ w = omega arith in rw (same, words_of-bytes_in ws) refl

pub length-bytes_in : (ws : List ℕ) → length (bytes_in ws) ≡ 2 * length ws
length-bytes_in [] = refl
length-bytes_in (w ∷ ws) = let more = length-bytes_in ws in omega (arith, more)

drop-bytes_in : (ws : List ℕ) → drop 4 (bytes_in ws) ≡ bytes_in (drop 2 ws)
drop-bytes_in [] = refl
drop-bytes_in (v ∷ []) = refl
drop-bytes_in (v ∷ w ∷ ws) = refl

-- what the code takes of the bytes of all words is what they write
pub written-is : (b : Block) (ws : List ℕ) (list : Bool) → list ≡ is_list b.attribute.length → cond list (take (slice_index ws 0) (drop 4 (bytes_in ws))) (bytes_in ws) ≡ bytes_written b ws
unfolding bytes_written
written-is b ws list is = rw (is, drop-bytes_in ws) refl

-- The causes.

fixed_at : (is_first_word fixed : Bool) → (is_first_word ≡ false → fixed ≡ false) → (is_first_word && fixed) ≡ fixed
fixed_at true fixed h = refl
fixed_at false fixed h = sym (h refl)

by_tests : (f p a o u last n e g : Bool) (whole : Option ℕ) → (last ≡ false → n ≡ false)
    → (last ≡ true → f ≡ false → p ≡ false → a ≡ false → o ≡ false → u ≡ false → whole ≡ option_or (then_some n 0x7008) (option_or (then_some e 0x7006) (then_some g 0x7007)))
    → option_or (then_some f 0x7004) (option_or (then_some p 0x7005) (option_or (then_some a 0x7002) (option_or (then_some o 0x7003)
    (option_or (then_some (u || n) 0x7008) (option_or (then_some (last && e) 0x7006) (then_some (last && g) 0x7007))))))
    ≡ option_or (option_or (option_or (then_some f 0x7004) (then_some p 0x7005)) (option_or (then_some a 0x7002) (option_or (then_some o 0x7003) (then_some u 0x7008))))
    (cond last whole None)
by_tests true p a o u last n e g whole quiet rest = refl
by_tests false true a o u last n e g whole quiet rest = refl
by_tests false false true o u last n e g whole quiet rest = refl
by_tests false false false true u last n e g whole quiet rest = refl
by_tests false false false false true last n e g whole quiet rest = refl
by_tests false false false false false true n e g whole quiet rest = sym (rest refl refl refl refl refl refl)
by_tests false false false false false false n e g whole quiet rest = rw (quiet refl) refl

-- what is known where there is no cause by place
pub record HasPassed (b : Block) (phase : ℕ) (last : Bool) (words : List ℕ) : Type 0 where
  pub writable : is_fixed b ≡ false
  pub allowed : is_protected b.attribute phase ≡ false
  pub late : ends_early b last words ≡ false
  pub within : is_over b last words ≡ false
  pub even : is_uneven b words ≡ false

pub has_passed : (b : Block) (phase : ℕ) (last : Bool) (words : List ℕ) → place_cause (Some b) phase last (length words) (slice_index words 0) ≡ None → HasPassed b phase last words
unfolding length_cause
has_passed b phase last words none =
    let (write, lengths) = none_of-or (write_fault (Some b) phase) (length_cause b.attribute b.max_len last (length words) (slice_index words 0)) none in
    let (fixed, protected) = none_of-or (then_some (is_fixed b) 0x7004) (then_some (is_protected b.attribute phase) 0x7005) write in
    let (early, rest) = none_of-or (then_some (ends_early b last words) 0x7002) _ lengths in
    let (over, uneven) = none_of-or (then_some (is_over b last words) 0x7003) (then_some (is_uneven b words) 0x7008) rest in
    record {
      writable = none_of-then _ 0x7004 fixed;
      allowed = none_of-then _ 0x7005 protected;
      late = none_of-then _ 0x7002 early;
      within = none_of-then _ 0x7003 over;
      even = none_of-then _ 0x7008 uneven;
    }

-- A list's length is one that its block can have: it was looked at when it came.
fits_by : (list sel : Bool) (most first : ℕ) (more : Bool) → list ≡ true → ((list && (sel && nat_lt most first)) || more) ≡ false → sel ≡ true → first ≤ most
fits_by true true most first more on h s = by (nat_lt most first) refl h
  where
    by : (over : Bool) → nat_lt most first ≡ over → (over || more) ≡ false → first ≤ most
    by true e h = cc
    by false e h = grind (arith, nat_tests)
fits_by true false most first more on h s = cc
fits_by false sel most first more on h s = cc

even_by : (list sel even : Bool) → list ≡ true → (list && (sel && not even)) ≡ false → sel ≡ true → even ≡ true
even_by true true true on h s = refl
even_by true true false on h s = cc
even_by true false even on h s = cc
even_by false sel even on h s = cc

one_is : (w : ℕ) → (length (w ∷ []) == 1) ≡ true
one_is w = refl

first_is : (b : Block) (v w : ℕ) (before : List ℕ) → slice_index ((v ∷ before) ++ w ∷ []) 0 ≡ v
first_is b v w before = refl

pub fits : (b : Block) (phase : ℕ) (last : Bool) (before : List ℕ) (w : ℕ) → IsStarted b before → HasPassed b phase last (before ++ w ∷ []) → is_list b.attribute.length ≡ true
    → slice_index (before ++ w ∷ []) 0 ≤ b.max_len
fits b phase last [] w started passed list = fits_by (is_list b.attribute.length) true b.max_len w _ list passed.within refl
fits b phase last (v ∷ before) w started passed list = started.fits list

pub even : (b : Block) (phase : ℕ) (last : Bool) (before : List ℕ) (w : ℕ) → IsStarted b before → HasPassed b phase last (before ++ w ∷ []) → is_list b.attribute.length ≡ true
    → (slice_index (before ++ w ∷ []) 0 % item_len b.attribute.length == 0) ≡ true
even b phase last [] w started passed list = even_by (is_list b.attribute.length) true _ list passed.even refl
even b phase last (v ∷ before) w started passed list = started.even list

-- at the last word there are as many as the operation data has
enough_by : (count wanted : ℕ) → (true && nat_lt count wanted) ≡ false → wanted ≤ count
enough_by count wanted h = grind (arith, nat_tests)

enough : (b : Block) (phase : ℕ) (words : List ℕ) → HasPassed b phase true words → words_by b.attribute (slice_index words 0) ≤ length words
enough b phase words passed = enough_by (length words) (words_by b.attribute (slice_index words 0)) passed.late

half : (l : Length) → is_list l ≡ false → (2 * (item_len l / 2) ≡ item_len l) × (1 ≤ item_len l / 2)
half Two h = (refl, omega arith)
half Four h = (refl, omega arith)
half List1 h = cc
half List2 h = cc
half List4 h = cc

value_words : (a : Attribute) (first : ℕ) → is_list a.length ≡ false → words_by a first ≡ item_len a.length / 2
value_words a first h = rw h refl

list_words : (a : Attribute) (first : ℕ) → is_list a.length ≡ true → words_by a first ≡ 2 + (first + 1) / 2
list_words a first h = rw h refl

no_more : (b : Block) (before : List ℕ) (w : ℕ) → is_list b.attribute.length ≡ false → IsStarted b before → length (before ++ w ∷ []) ≤ item_len b.attribute.length / 2
no_more b [] w value started = (half b.attribute.length value).1
no_more b (v ∷ before) w value started =
    let more = started.more in
    let wanted = value_words b.attribute v value in
    rw length-append (omega (arith, more, wanted))

-- the bytes that all words write
value_bytes : (b : Block) (words : List ℕ) → is_list b.attribute.length ≡ false → bytes_written b words ≡ bytes_in words
unfolding bytes_written
value_bytes b words h = rw h refl

list_bytes : (b : Block) (words : List ℕ) → is_list b.attribute.length ≡ true → bytes_written b words ≡ take (slice_index words 0) (bytes_in (drop 2 words))
unfolding bytes_written
list_bytes b words h = rw h refl

pub length-drop_two : (ws : List ℕ) → 2 ≤ length ws → length (drop 2 ws) + 2 ≡ length ws
length-drop_two [] h = absurd (omega arith)
length-drop_two (v ∷ []) h = absurd (omega arith)
length-drop_two (v ∷ w ∷ ws) h = omega arith

list_len : (ws : List ℕ) (first : ℕ) → 2 + (first + 1) / 2 ≤ length ws → length (take first (bytes_in (drop 2 ws))) ≡ first
list_len ws first h =
    let more = length-drop_two ws (omega arith) in
    let bytes = length-bytes_in (drop 2 ws) in
    rw length-take (omega (arith, more, bytes))

-- What the store says of the bytes is what the words say.
pub record IsWhole (b : Block) (words : List ℕ) : Type 0 where
  pub long_enough : is_short b (bytes_written b words) ≡ false
  pub short_enough : is_long b (bytes_written b words) ≡ false
  pub valid : is_invalid b (bytes_written b words) ≡ is_no_command_value b true words

not_command : (a : Attribute) → is_list a.length ≡ true → a.command ≡ false
not_command a list = by a.command refl
  where
    by : (c : Bool) → a.command ≡ c → a.command ≡ false
    by true e = let two = a.command_is_two e in let no = rw two at list in cc
    by false e = e

value_whole : (list command : Bool) (count item most : ℕ) (no_setting even : Bool) → list ≡ false → count ≡ item
    → ((not list && nat_lt count item) ≡ false) × (nat_lt (cond list most item) count ≡ false) × (cond list (not even) (command && no_setting) ≡ (command && (true && no_setting)))
value_whole true command count item most no_setting even off same = cc
value_whole false command count item most no_setting even off same = (grind (arith, nat_tests), grind (arith, nat_tests), refl)

list_whole : (list command : Bool) (count item most : ℕ) (no_setting even : Bool) → list ≡ true → count ≤ most → even ≡ true → command ≡ false
    → ((not list && nat_lt count item) ≡ false) × (nat_lt (cond list most item) count ≡ false) × (cond list (not even) (command && no_setting) ≡ (command && (true && no_setting)))
list_whole true command count item most no_setting even on few e none = (refl, grind (arith, nat_tests), rw (e, none) refl)
list_whole false command count item most no_setting even on few e none = cc

pub whole : (b : Block) (phase : ℕ) (before : List ℕ) (w : ℕ) → IsStarted b before → HasPassed b phase true (before ++ w ∷ []) → IsWhole b (before ++ w ∷ [])
whole b phase before w started passed = by (is_list b.attribute.length) refl
  where
    by : (list : Bool) → is_list b.attribute.length ≡ list → IsWhole b (before ++ w ∷ [])
    by false value =
        let words : List ℕ = before ++ w ∷ [] in
        let (twice, _) = half b.attribute.length value in
        let most = no_more b before w value started in
        let least : item_len b.attribute.length / 2 ≤ length words = rw (value_words b.attribute (slice_index words 0) value) at (enough b phase words passed) in
        let bytes = length-bytes_in words in
        let same : length (bytes_written b words) ≡ item_len b.attribute.length = rw (value_bytes b words value) (omega (arith, twice, most, least, bytes)) in
        let (short, long, valid) = value_whole (is_list b.attribute.length) b.attribute.command (length (bytes_written b words)) (item_len b.attribute.length) b.max_len
        (not ((bits_in b.attribute (bytes_written b words) == 0) || (bits_in b.attribute (bytes_written b words) == 3)))
        (length (bytes_written b words) % item_len b.attribute.length == 0) value same in
        record { long_enough = short; short_enough = long; valid = valid }
    by true list =
        let words : List ℕ = before ++ w ∷ [] in
        let least : 2 + (slice_index words 0 + 1) / 2 ≤ length words = rw (list_words b.attribute (slice_index words 0) list) at (enough b phase words passed) in
        let count : length (bytes_written b words) ≡ slice_index words 0 = rw (list_bytes b words list) (list_len words (slice_index words 0) least) in
        let most = fits b phase true before w started passed list in
        let (short, long, valid) = list_whole (is_list b.attribute.length) b.attribute.command (length (bytes_written b words)) (item_len b.attribute.length) b.max_len
        (not ((bits_in b.attribute (bytes_written b words) == 0) || (bits_in b.attribute (bytes_written b words) == 3)))
        (length (bytes_written b words) % item_len b.attribute.length == 0) list (rw count most) (rw count (even b phase true before w started passed list)) (not_command b.attribute list) in
        record { long_enough = short; short_enough = long; valid = valid }

started_fixed : (b : Block) (before : List ℕ) (w : ℕ) → IsStarted b before → is_first_word (before ++ w ∷ []) ≡ false → is_fixed b ≡ false
started_fixed b [] w started sel = cc
started_fixed b (v ∷ before) w started sel = started.writable

no_setting_at : (b : Block) (last : Bool) (words : List ℕ) → last ≡ false → is_no_command_value b last words ≡ false
no_setting_at b last words off = rw off (by b.attribute.command)
  where
    by : (c : Bool) → (c && false) ≡ false
    by true = refl
    by false = refl

put_whole : (b : Block) (phase : ℕ) (bytes : List ℕ) (n : Bool) → is_fixed b ≡ false → is_protected b.attribute phase ≡ false → is_short b bytes ≡ false → is_long b bytes ≡ false → is_invalid b bytes ≡ n
    → put_fault (Some b) phase bytes ≡ option_or (then_some n 0x7008) (option_or (then_some (is_below b bytes b.min) 0x7006) (then_some (is_above b bytes b.max) 0x7007))
unfolding data_fault
put_whole b phase bytes n fixed protected short long valid = rw (fixed, protected, short, long, valid) refl

-- The causes one by one are those by place, and those of the store for the last word.
pub cause_is : (b : Block) (phase : ℕ) (last : Bool) (before : List ℕ) (w : ℕ) → IsStarted b before →
    write_cause b phase last (before ++ w ∷ [])
    ≡ option_or (place_cause (Some b) phase last (length (before ++ w ∷ [])) (slice_index (before ++ w ∷ []) 0))
    (cond last (put_fault (Some b) phase (bytes_written b (before ++ w ∷ []))) None)
unfolding write_cause length_cause
cause_is b phase last before w started =
    let words : List ℕ = before ++ w ∷ [] in
    rw (fixed_at (is_first_word words) (is_fixed b) (started_fixed b before w started))
    (by_tests (is_fixed b) (is_protected b.attribute phase) (ends_early b last words) (is_over b last words) (is_uneven b words) last (is_no_command_value b last words)
    (is_below b (bytes_written b words) b.min) (is_above b (bytes_written b words) b.max) (put_fault (Some b) phase (bytes_written b words))
    (no_setting_at b last words)
    (λ on f p a o u.
    let passed : HasPassed b phase true words = record { writable = f; allowed = p; late = rw on at a; within = rw on at o; even = u } in
    let all = whole b phase before w started passed in
    put_whole b phase (bytes_written b words) (is_no_command_value b last words) f p all.long_enough all.short_enough (rw on all.valid)))

over_by : (list sel : Bool) (most first count wanted : ℕ) → ((list && (sel && nat_lt most first)) || (true && nat_le wanted count)) ≡ false → count < wanted
over_by true true most first count wanted h = by (nat_lt most first) h
  where
    by : (over : Bool) → (over || nat_le wanted count) ≡ false → count < wanted
    by true e = cc
    by false e = grind (arith, nat_tests)
over_by true false most first count wanted h = grind (arith, nat_tests)
over_by false sel most first count wanted h = grind (arith, nat_tests)

-- a word that isn't the last leaves the run midway
pub goes_on : (b : Block) (phase : ℕ) (before : List ℕ) (w : ℕ) → IsStarted b before → HasPassed b phase false (before ++ w ∷ []) → IsMidway b (before ++ w ∷ [])
goes_on b phase before w started passed = record {
  writable = passed.writable;
  more = over_by (is_list b.attribute.length) (is_first_word (before ++ w ∷ [])) b.max_len (slice_index (before ++ w ∷ []) 0) (length (before ++ w ∷ [])) (words_by b.attribute (slice_index (before ++ w ∷ []) 0)) passed.within;
  fits = fits b phase false before w started passed;
  even = even b phase false before w started passed;
}

-- words that were accepted leave room for one more
list_room : (list : Bool) (first count item most : ℕ) → count < cond list (2 + (first + 1) / 2) (item / 2) → item ≤ 4 → most ≤ 1024 → (list ≡ true → first ≤ most) → 2 * count ≤ 1026
list_room true first count item most more small few fit = let below = fit refl in omega arith
list_room false first count item most more small few fit = omega arith

item_small : (l : Length) → item_len l ≤ 4
item_small Two = omega arith
item_small Four = omega arith
item_small List1 = omega arith
item_small List2 = omega arith
item_small List4 = omega arith

pub room : (b : Block) (before : List ℕ) → b.max_len ≤ 1024 → IsStarted b before → length (bytes_in before) ≤ 1026
room b [] few started = omega arith
room b (v ∷ before) few started =
    let bytes = length-bytes_in (v ∷ before) in
    let count = list_room (is_list b.attribute.length) v (length (v ∷ before)) (item_len b.attribute.length) b.max_len started.more (item_small b.attribute.length) few started.fits in
    omega (arith, bytes, count)
