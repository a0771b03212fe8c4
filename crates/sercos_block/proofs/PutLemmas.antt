-- What a write of operation data does to the blocks of a store.
use Rattle.std.proofs.Common.{◌≡◌, ℕ, zero, suc, ◌<◌, ◌≤◌, ◌%◌, ◌==◌, nat_lt, nat_le, Bool, true, false, cond, ◌&&◌, not, List, [], ◌∷◌, length, Option, Some, None, IfSome, slice_get, slice_index_or, slice_set, ◌||◌, ◌⊎◌, inl, inr, refl, ◌∙◌, ap, arith}
use Rattle.std.specs.Bool.{then_some}
use Rattle.std.specs.List.{list_all, position, position_or_len, find}
use Rattle.std.proofs.lemmas.List.Folds.{find_at}
use Rattle.std.proofs.lemmas.List.Quantifiers.{position-Some}
use Rattle.std.proofs.lemmas.Bool.{and_parts, and_from}
use Rattle.std.proofs.lemmas.Bool.Decides.{nat_tests}
use Rattle.std.proofs.lemmas.List.Sums.{AllPass-from_list_all}
use Rattle.sercos_model.proofs.FaultLemmas.{none_of-or, none_of-then, at_least}
use Rattle.sercos_idn.specs.declared.kinds.Length.{Length}
use Rattle.sercos_idn.specs.declared.kinds.Length.TheVariants.{Two, Four, List1, List2, List4}
use Rattle.sercos_idn.specs.Codes.{is_list, item_len}
use Rattle.sercos_block.specs.declared.block.Block.{Block}
use Rattle.sercos_block.specs.Stores.{find_block, with_value, with_data, is_sound, is_len, is_short, is_long, write_fault, data_fault, put_fault, are_ascending, IsStore}
use Rattle.sercos_block.proofs.SoundLemmas.{SoundParts-is_sound, is_sound-written}
use Rattle.sercos_block.proofs.TypeLemmas.{typed_stays}

-- bytes that are neither too few nor too many
len_by : (list : Bool) (count most item : ℕ) → (not list && nat_lt count item) ≡ false → nat_lt (cond list (most) (item)) count ≡ false
    → (cond list (nat_le count most) (count == item)) ≡ true
len_by true count most item short long = grind (arith, nat_tests)
len_by false count most item short long = grind (arith, nat_tests)

pub is_len-data_fault : (b : Block) (bytes : List ℕ) → data_fault b bytes ≡ None → is_len b (length bytes) ≡ true
unfolding data_fault
is_len-data_fault b bytes none =
    let (short, rest) = none_of-or (then_some (is_short b bytes) 0x7002) _ none in
    let (long, _) = none_of-or (then_some (is_long b bytes) 0x7003) _ rest in
    len_by (is_list b.attribute.length) (length bytes) b.max_len (item_len b.attribute.length) (none_of-then _ 0x7002 short) (none_of-then _ 0x7003 long)

-- so many bytes are no more than a block has room for
most_by : (list : Bool) (count most item : ℕ) → item ≤ 4 → (cond list (nat_le 1 most && (nat_le most 1024 && (most % item == 0))) (most == 0)) ≡ true
    → (cond list (nat_le count most) (count == item)) ≡ true → count ≤ 1024
most_by true count most item small max len =
    let (_, rest) = and_parts (nat_le 1 most) (nat_le most 1024 && (most % item == 0)) max in
    let (fits, _) = and_parts (nat_le most 1024) (most % item == 0) rest in
    grind (arith, nat_tests)
most_by false count most item small max len = grind (arith, nat_tests)

item_small : (length : Length) → item_len length ≤ 4
item_small Two = omega arith
item_small Four = omega arith
item_small List1 = omega arith
item_small List2 = omega arith
item_small List4 = omega arith

pub fits-is_len : (b : Block) (count : ℕ) → is_sound b ≡ true → is_len b count ≡ true → count ≤ 1024
fits-is_len b count sound len =
    most_by (is_list b.attribute.length) count b.max_len (item_len b.attribute.length) (item_small b.attribute.length) (SoundParts-is_sound b sound).max_len len

-- a block without the identifier number stays
other_stays : (raw : ℕ) (bytes : List ℕ) (b : Block) → (b.idn.raw == raw) ≡ false → with_value raw bytes b ≡ b
other_stays raw bytes b other = rw other refl

others_stay : (raw low : ℕ) (bytes : List ℕ) (blocks : List Block) → raw ≤ low → list_all (λ c. nat_lt low c.idn.raw) blocks ≡ true → with_data raw bytes blocks ≡ blocks
others_stay raw low bytes [] under above = refl
others_stay raw low bytes (b ∷ blocks) under above =
    let (here, rest) = and_parts (nat_lt low b.idn.raw) (list_all (λ c. nat_lt low c.idn.raw) blocks) above in
    let other : (b.idn.raw == raw) ≡ false = grind (arith, nat_tests) in
    rw (other_stays raw bytes b other, others_stay raw low bytes blocks under rest) refl

-- the write of one place is that of the identifier number that stands there
pub with_data-at : (raw : ℕ) (bytes : List ℕ) (blocks : List Block) (place : ℕ) (d : Block) → are_ascending blocks ≡ true → place < length blocks
    → (slice_index_or blocks place d).idn.raw ≡ raw
    → slice_set blocks place (record (slice_index_or blocks place d) { value = bytes }) ≡ with_data raw bytes blocks
unfolding are_ascending
with_data-at raw bytes [] place d up in' is = absurd (omega arith)
with_data-at raw bytes (b ∷ blocks) zero d up in' is =
    let (above, _) = and_parts (list_all (λ c. nat_lt b.idn.raw c.idn.raw) blocks) (are_ascending blocks) up in
    let same : (b.idn.raw == raw) ≡ true = grind (arith, nat_tests) in
    let rest = others_stay raw b.idn.raw bytes blocks (omega arith) above in
    rw (same, rest) refl
with_data-at raw bytes (b ∷ blocks) (suc place) d up in' is =
    let (above, more) = and_parts (list_all (λ c. nat_lt b.idn.raw c.idn.raw) blocks) (are_ascending blocks) up in
    let in'' : place < length blocks = omega arith in
    let less = AllPass-from_list_all (λ c. nat_lt b.idn.raw c.idn.raw) blocks above place d in'' in
    let other : (b.idn.raw == raw) ≡ false = grind (arith, nat_tests) in
    rw (other_stays raw bytes b other, with_data-at raw bytes blocks place d more in'' is) refl

-- a write moves no block
idn_stays : (raw : ℕ) (bytes : List ℕ) (b : Block) → (with_value raw bytes b).idn ≡ b.idn
idn_stays raw bytes b = by (b.idn.raw == raw)
  where
    by : (same : Bool) → (cond same (record b { value = bytes }) b).idn ≡ b.idn
    by true = refl
    by false = refl

above_stays : (low raw : ℕ) (bytes : List ℕ) (blocks : List Block)
    → list_all (λ c. nat_lt low c.idn.raw) (with_data raw bytes blocks) ≡ list_all (λ c. nat_lt low c.idn.raw) blocks
above_stays low raw bytes [] = refl
above_stays low raw bytes (b ∷ blocks) = rw (idn_stays raw bytes b, above_stays low raw bytes blocks) refl

ascending_stays : (raw : ℕ) (bytes : List ℕ) (blocks : List Block) → are_ascending (with_data raw bytes blocks) ≡ are_ascending blocks
unfolding are_ascending
ascending_stays raw bytes [] = refl
ascending_stays raw bytes (b ∷ blocks) = rw (idn_stays raw bytes b, above_stays b.idn.raw raw bytes blocks, ascending_stays raw bytes blocks) refl

length_stays : (raw : ℕ) (bytes : List ℕ) (blocks : List Block) → length (with_data raw bytes blocks) ≡ length blocks
length_stays raw bytes [] = refl
length_stays raw bytes (b ∷ blocks) = rw (length_stays raw bytes blocks) refl

-- a write of as many bytes as the block may have leaves all blocks sound
sound_stays : (raw : ℕ) (bytes : List ℕ) (blocks : List Block) (place : ℕ) (d : Block) → are_ascending blocks ≡ true → list_all is_sound blocks ≡ true
    → place < length blocks → (slice_index_or blocks place d).idn.raw ≡ raw → is_len (slice_index_or blocks place d) (length bytes) ≡ true
    → list_all is_sound (with_data raw bytes blocks) ≡ true
unfolding are_ascending
sound_stays raw bytes [] place d up sound in' is len = refl
sound_stays raw bytes (b ∷ blocks) zero d up sound in' is len =
    let (above, _) = and_parts (list_all (λ c. nat_lt b.idn.raw c.idn.raw) blocks) (are_ascending blocks) up in
    let (here, rest) = and_parts (is_sound b) (list_all is_sound blocks) sound in
    let same : (b.idn.raw == raw) ≡ true = grind (arith, nat_tests) in
    rw (same, others_stay raw b.idn.raw bytes blocks (omega arith) above) (and_from _ _ (is_sound-written b bytes here len) rest)
sound_stays raw bytes (b ∷ blocks) (suc place) d up sound in' is len =
    let (above, more) = and_parts (list_all (λ c. nat_lt b.idn.raw c.idn.raw) blocks) (are_ascending blocks) up in
    let (here, rest) = and_parts (is_sound b) (list_all is_sound blocks) sound in
    let in'' : place < length blocks = omega arith in
    let less = AllPass-from_list_all (λ c. nat_lt b.idn.raw c.idn.raw) blocks above place d in'' in
    let other : (b.idn.raw == raw) ≡ false = grind (arith, nat_tests) in
    rw (other_stays raw bytes b other) (and_from _ _ here (sound_stays raw bytes blocks place d more rest in'' is len))

pub IsStore-written : (raw : ℕ) (bytes : List ℕ) (blocks : List Block) (place : ℕ) (d : Block) → IsStore blocks
    → place < length blocks → (slice_index_or blocks place d).idn.raw ≡ raw → is_len (slice_index_or blocks place d) (length bytes) ≡ true
    → list_all (λ byte. nat_lt byte 256) bytes ≡ true → IsStore (with_data raw bytes blocks)
IsStore-written raw bytes blocks place d is in' at len are = record {
  few = rw (length_stays raw bytes blocks) is.few;
  ascending = ascending_stays raw bytes blocks ∙ is.ascending;
  sound = sound_stays raw bytes blocks place d is.ascending is.sound in' at len;
  typed = typed_stays raw bytes blocks are is.typed;
}

-- what holds of the element at a place
pub at_place : (P : Block → Type 0) (blocks : List Block) (place : ℕ) (d : Block) → place < length blocks → IfSome (slice_get blocks place) P → P (slice_index_or blocks place d)
at_place P [] place d in' holds = absurd (omega arith)
at_place P (b ∷ blocks) zero d in' holds = holds
at_place P (b ∷ blocks) (suc place) d in' holds = at_place P blocks place d (omega arith) holds

-- all that a write at the place of an identifier number does
pub record IsWritten (raw : ℕ) (bytes : List ℕ) (blocks blocks' : List Block) : Type 0 where
  pub room : length bytes ≤ 1024
  pub store : IsStore blocks'
  pub same : blocks' ≡ with_data raw bytes blocks

pub IsWritten-at : (raw : ℕ) (bytes : List ℕ) (blocks : List Block) (place : ℕ) (d : Block) → IsStore blocks
    → position (λ b. b.idn.raw == raw) blocks ≡ Some place → IfSome (slice_get blocks place) (λ b. is_len b (length bytes) ≡ true)
    → list_all (λ byte. nat_lt byte 256) bytes ≡ true → IsWritten raw bytes blocks (slice_set blocks place (record (slice_index_or blocks place d) { value = bytes }))
IsWritten-at raw bytes blocks place d is at len are =
    let (in', here, _) = position-Some (λ b. b.idn.raw == raw) blocks place d at in
    let number : (slice_index_or blocks place d).idn.raw ≡ raw = grind (arith, nat_tests) in
    let len' = at_place (λ b. is_len b (length bytes) ≡ true) blocks place d in' len in
    let sound = AllPass-from_list_all is_sound blocks is.sound place d in' in
    let same = with_data-at raw bytes blocks place d is.ascending in' number in
    record {
      room = fits-is_len (slice_index_or blocks place d) (length bytes) sound len';
      store = rw same (IsStore-written raw bytes blocks place d is in' number len' are);
      same = same;
    }

-- bytes that have no fault are as many as the block may have
pub fits-put_fault : (block : Option Block) (phase : ℕ) (bytes : List ℕ) → put_fault block phase bytes ≡ None → IfSome block (λ b. is_len b (length bytes) ≡ true)
fits-put_fault None phase bytes none = cc
fits-put_fault (Some b) phase bytes none = let (_, none') = none_of-or (write_fault (Some b) phase) (data_fault b bytes) none in is_len-data_fault b bytes none'

-- the place of an identifier number is that of its block
place_is : (blocks : List Block) (raw place : ℕ) → position (λ b. b.idn.raw == raw) blocks ≡ Some place → position_or_len (λ b. b.idn.raw == raw) blocks ≡ place
place_is blocks raw place at = by (nat_lt (position_or_len (λ b. b.idn.raw == raw) blocks) (length blocks)) at
  where
    by : (in' : Bool) → cond in' (Some (position_or_len (λ b. b.idn.raw == raw) blocks)) None ≡ Some place → position_or_len (λ b. b.idn.raw == raw) blocks ≡ place
    by true e = cc
    by false e = cc

pub find_block-at : (blocks : List Block) (raw place : ℕ) → position (λ b. b.idn.raw == raw) blocks ≡ Some place → find_block raw blocks ≡ slice_get blocks place
find_block-at blocks raw place at = find_at (λ b. b.idn.raw == raw) blocks ∙ ap (slice_get blocks) (place_is blocks raw place at)

beyond : (blocks : List Block) (place : ℕ) → length blocks ≤ place → slice_get blocks place ≡ None
beyond [] place over = refl
beyond (b ∷ blocks) zero over = absurd (omega arith)
beyond (b ∷ blocks) (suc place) over = beyond blocks place (omega arith)

pub find_block-nowhere : (blocks : List Block) (raw : ℕ) → position (λ b. b.idn.raw == raw) blocks ≡ None → find_block raw blocks ≡ None
find_block-nowhere blocks raw none =
    find_at (λ b. b.idn.raw == raw) blocks ∙ beyond blocks _ (at_least _ _ (by (nat_lt (position_or_len (λ b. b.idn.raw == raw) blocks) (length blocks)) none))
  where
    by : (in' : Bool) → cond in' (Some (position_or_len (λ b. b.idn.raw == raw) blocks)) None ≡ None → in' ≡ false
    by true e = cc
    by false e = refl

-- where no block has the identifier number, all stay
pub with_data-nowhere : (blocks : List Block) (raw : ℕ) (bytes : List ℕ) → find_block raw blocks ≡ None → with_data raw bytes blocks ≡ blocks
with_data-nowhere [] raw bytes none = refl
with_data-nowhere (b ∷ blocks) raw bytes none = by (b.idn.raw == raw) refl none (with_data-nowhere blocks raw bytes)
  where
    by : (same : Bool) → (b.idn.raw == raw) ≡ same → cond same (Some b) (find_block raw blocks) ≡ None
        → (find_block raw blocks ≡ None → with_data raw bytes blocks ≡ blocks) → with_data raw bytes (b ∷ blocks) ≡ b ∷ blocks
    by true e h rest = cc
    by false e h rest = rw (other_stays raw bytes b e, rest h) refl

-- at most 128 bytes are as many as a list of invalid operation data may have
given_by : (given list : Bool) (count most item : ℕ) → given ≡ true → (not given || (list && (most == 128))) ≡ true → count ≤ 128
    → cond list (nat_le count most) (count == item) ≡ true
given_by true true count most item on is fits = grind (arith, nat_tests)
given_by true false count most item on is fits = cc
given_by false list count most item on is fits = cc

pub fits-given : (raw count : ℕ) (blocks : List Block) (place : ℕ) → IsStore blocks → position (λ b. b.idn.raw == raw) blocks ≡ Some place
    → ((raw ≡ 21) ⊎ (raw ≡ 22)) → count ≤ 128 → IfSome (slice_get blocks place) (λ b. is_len b count ≡ true)
fits-given raw count blocks place is at given fits =
    let holds : IfSome (find (λ b. b.idn.raw == raw) blocks) (λ b. is_len b count ≡ true) = found blocks is.sound in
    rw (find_block-at blocks raw place at) at holds
  where
    check : ((raw ≡ 21) ⊎ (raw ≡ 22)) → ((raw == 21) || (raw == 22)) ≡ true
    check (inl e) = rw e refl
    check (inr e) = rw e refl

    at_block : (b : Block) → is_sound b ≡ true → b.idn.raw ≡ raw → is_len b count ≡ true
    at_block b sound e =
        given_by _ (is_list b.attribute.length) count b.max_len (item_len b.attribute.length) (rw e (check given)) (SoundParts-is_sound b sound).given fits

    found : (blocks : List Block) → list_all is_sound blocks ≡ true → IfSome (find (λ b. b.idn.raw == raw) blocks) (λ b. is_len b count ≡ true)
    found [] sound = tt
    found (b ∷ blocks) sound = let (here, rest) = and_parts (is_sound b) (list_all is_sound blocks) sound in by (b.idn.raw == raw) refl here (found blocks rest)
      where
        by : (same : Bool) → (b.idn.raw == raw) ≡ same → is_sound b ≡ true → IfSome (find (λ b. b.idn.raw == raw) blocks) (λ b. is_len b count ≡ true)
            → IfSome (cond same (Some b) (find (λ b. b.idn.raw == raw) blocks)) (λ b. is_len b count ≡ true)
        by true e here rest = at_block b here (grind (arith, nat_tests))
        by false e here rest = rest
