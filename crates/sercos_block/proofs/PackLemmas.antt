-- The blocks of a store, packed one after another.
use Rattle.std.proofs.Common.{◌≡◌, ℕ, suc, ◌+◌, ◌*◌, ◌%◌, ◌-◌, ◌≤◌, ◌<◌, ◌==◌, Bool, true, false, cond, ◌&&◌, List, [], ◌∷◌, ◌++◌, length, take, drop, get_or, Option, Some, None, option_map, unwrap_or, IfSome, replicate, refl, sym, ◌∙◌, ap, arith, append_assoc, append-nil}
use Rattle.std.specs.Prelude.{nat_le}
use Rattle.std.specs.Int.{to_le_bytes}
use Rattle.std.specs.List.{sum_by}
use Rattle.std.proofs.Math.Seq.{take-append_seam, take-length, drop-cons}
use Rattle.std.proofs.lemmas.Bool.{and_parts}
use Rattle.std.proofs.lemmas.Bool.Decides.{nat_tests}
use Rattle.std.proofs.lemmas.List.{length-append, take-take, drop_all, length-replicate, map-append}
use Rattle.std.proofs.lemmas.List.Sums.{AllPass-from_list_all, sum_by-drop_more}
use Rattle.sercos_idn.specs.declared.attribute.Attribute.{Attribute}
use Rattle.sercos_idn.specs.declared.kinds.Length.{Length}
use Rattle.sercos_idn.specs.declared.kinds.Length.TheVariants.{Two, Four, List1, List2, List4}
use Rattle.sercos_idn.specs.Codes.{is_list, item_len}
use Rattle.sercos_block.specs.declared.block.Block.{Block}
use Rattle.sercos_block.specs.declared.entry.Entry.{Entry}
use Rattle.sercos_block.specs.declared.entry.Limit.{Limit}
use Rattle.sercos_block.specs.declared.entry.Part.{Part}
use Rattle.sercos_block.specs.Blocks.{bytes_for, width_of}
use Rattle.sercos_block.specs.Rules.{is_text}
use Rattle.sercos_block.specs.Stores.{is_sound, IsStore}
use Rattle.sercos_block.specs.Regions.{part_of, part_at, limit_at, limit_bits, word_bytes, limit_bytes, room_of, block_of, blocks_of, IsBetween, AreLaid, HaveNumbers, HasPacked, HasAppended}
use Rattle.sercos_block.proofs.SoundLemmas.{SoundParts-is_sound}
use Rattle.sercos_block.proofs.PartLemmas.{part_before, part_between}
use Rattle.sercos_block.proofs.RegionLemmas.{blocks_before, all_numbers_before, laid_more, numbers_more}

-- bytes with more after them
pub record IsStart (r s : List ℕ) : Type 0 where
  pub kept : take (length r) s ≡ r
  pub less : length r ≤ length s

IsStart-append : (r bytes : List ℕ) {s : List ℕ} → s ≡ r ++ bytes → IsStart r s
IsStart-append r bytes {s} is =
    let count = length-append r bytes in
    rw is (record { kept = take-append_seam r bytes; less = omega arith })

IsStart-trans : {r s t : List ℕ} → IsStart r s → IsStart s t → IsStart r t
IsStart-trans {r} {s} {t} first second =
    let less = first.less in
    let more = second.less in
    record { kept = sym (take-take (length r) (length s) t less) ∙ ap (take (length r)) second.kept ∙ first.kept; less = omega arith }

-- the bytes that were appended are read, whatever comes after them
part_kept : (r bytes : List ℕ) {s t : List ℕ} → s ≡ r ++ bytes → IsStart s t → part_of t (part_at (length r) bytes) ≡ bytes
part_kept r bytes {s} {t} is start =
    let count : length s ≡ length r + length bytes = ap length is ∙ length-append r bytes in
    let inside : length r + length bytes ≤ length s = omega arith in
    let same : take (length s) t ≡ take (length s) s = start.kept ∙ sym (take-length s) in
    let whole : s ≡ r ++ (bytes ++ []) = is ∙ ap (λ (b : List ℕ). r ++ b) (sym (append-nil bytes)) in
    part_before (length s) t s (part_at (length r) bytes) inside same ∙ ap (λ (u : List ℕ). part_of u (part_at (length r) bytes)) whole ∙ part_between r bytes []

text_kept : (r : List ℕ) (o : Option (List ℕ)) {s t : List ℕ} → s ≡ r ++ unwrap_or o [] → IsStart s t → option_map (part_of t) (option_map (part_at (length r)) o) ≡ o
text_kept r None is start = refl
text_kept r (Some bytes) is start = ap (λ (b : List ℕ). Some b) (part_kept r bytes is start)

limit_kept : (r : List ℕ) (a : Attribute) (o : Option ℕ) {s t : List ℕ} → s ≡ r ++ limit_bytes a o → IsStart s t
    → IfSome (option_map (limit_at a (length r)) o) (λ l. part_of t l.bytes ≡ bytes_for a l.bits)
limit_kept r a None is start = tt
limit_kept r a (Some bits) is start = part_kept r (bytes_for a bits) is start

bits_kept : (place : ℕ) (a : Attribute) (o : Option ℕ) → option_map limit_bits (option_map (limit_at a place) o) ≡ o
bits_kept place a None = refl
bits_kept place a (Some bits) = refl

-- where they are
between_by : (low high place : ℕ) (bytes : List ℕ) → low ≤ place → place + length bytes ≤ high → length bytes ≤ 1024 → IsBetween low high (part_at place bytes)
between_by low high place bytes from to few = record { from = from; to = to; few = few }

text_between : (low high place : ℕ) (o : Option (List ℕ)) → low ≤ place → place + length (unwrap_or o []) ≤ high → length (unwrap_or o []) ≤ 1024
    → IfSome (option_map (part_at place) o) (IsBetween low high)
text_between low high place None from to few = tt
text_between low high place (Some t) from to few = record { from = from; to = to; few = few }

limit_between : (low high place : ℕ) (a : Attribute) (o : Option ℕ) → low ≤ place → place + length (limit_bytes a o) ≤ high → length (limit_bytes a o) ≤ 1024
    → IfSome (option_map (limit_at a place) o) (λ l. IsBetween low high l.bytes)
limit_between low high place a None from to few = tt
limit_between low high place a (Some bits) from to few = record { from = from; to = to; few = few }

-- how many they are
pub text_few : (most : ℕ) (o : Option (List ℕ)) → is_text most o ≡ true → length (unwrap_or o []) ≤ most
text_few most None is = omega arith
text_few most (Some t) is =
    let (_, rest) = and_parts (nat_le 1 (length t)) _ is in
    let (few, _) = and_parts (nat_le (length t) most) _ rest in
    grind (arith, nat_tests)

pub limit_few : (a : Attribute) (o : Option ℕ) → length (limit_bytes a o) ≤ 4
limit_few a None = omega arith
limit_few a (Some bits) = by a.length
  where
    by : (l : Length) → length (to_le_bytes (width_of l) bits) ≤ 4
    by Two = omega arith
    by Four = omega arith
    by List1 = omega arith
    by List2 = omega arith
    by List4 = omega arith

pub word_few : (a : Attribute) → length (word_bytes a) ≡ 4
word_few a = refl

-- one part after another
pub record AreJoined (b : Block) (r r1 r2 r3 r4 r5 : List ℕ) : Type 0 where
  pub word : r1 ≡ r ++ word_bytes b.attribute
  pub min : r2 ≡ r1 ++ limit_bytes b.attribute b.min
  pub max : r3 ≡ r2 ++ limit_bytes b.attribute b.max
  pub name : r4 ≡ r3 ++ unwrap_or b.name []
  pub unit : r5 ≡ r4 ++ unwrap_or b.unit []

grown : (most : ℕ) (r bytes : List ℕ) {s : List ℕ} → s ≡ r ++ bytes → length bytes ≤ most → length s ≤ length r + most
grown most r bytes {s} is few = let count : length s ≡ length r + length bytes = ap length is ∙ length-append r bytes in omega arith

-- there is room for each
pub min_room : (a : Attribute) (r : List ℕ) {r1 : List ℕ} → length r ≤ 64000 → r1 ≡ r ++ word_bytes a → length r1 ≤ 64004
min_room a r {r1} few is = let four = word_few a in let more = grown 4 r (word_bytes a) is (omega arith) in omega arith

pub max_room : (a : Attribute) (min : Option ℕ) (r r1 : List ℕ) {r2 : List ℕ} → length r ≤ 64000 → r1 ≡ r ++ word_bytes a → r2 ≡ r1 ++ limit_bytes a min → length r2 ≤ 64008
max_room a min r r1 {r2} few one two =
    let most = min_room a r few one in
    let more = grown 4 r1 (limit_bytes a min) two (limit_few a min) in
    omega arith

pub text_room : (a : Attribute) (min max : Option ℕ) (r r1 r2 : List ℕ) {r3 : List ℕ} → length r ≤ 64000 → r1 ≡ r ++ word_bytes a → r2 ≡ r1 ++ limit_bytes a min
    → r3 ≡ r2 ++ limit_bytes a max → length r3 ≤ 64012
text_room a min max r r1 r2 {r3} few one two three =
    let most = max_room a min r r1 few one two in
    let more = grown 4 r2 (limit_bytes a max) three (limit_few a max) in
    omega arith

pub name_room : (b : Block) (r r1 r2 : List ℕ) {r3 : List ℕ} → is_sound b ≡ true → length r ≤ 64000 → r1 ≡ r ++ word_bytes b.attribute → r2 ≡ r1 ++ limit_bytes b.attribute b.min
    → r3 ≡ r2 ++ limit_bytes b.attribute b.max → length r3 + length (unwrap_or b.name []) < 65536
name_room b r r1 r2 {r3} sound few one two three =
    let most = text_room b.attribute b.min b.max r r1 r2 few one two three in
    let name = text_few 60 b.name (SoundParts-is_sound b sound).name in
    omega arith

pub unit_room : (b : Block) (r r1 r2 r3 : List ℕ) {r4 : List ℕ} → is_sound b ≡ true → length r ≤ 64000 → r1 ≡ r ++ word_bytes b.attribute → r2 ≡ r1 ++ limit_bytes b.attribute b.min
    → r3 ≡ r2 ++ limit_bytes b.attribute b.max → r4 ≡ r3 ++ unwrap_or b.name [] → length r4 + length (unwrap_or b.unit []) < 65536
unit_room b r r1 r2 r3 {r4} sound few one two three four =
    let most = text_room b.attribute b.min b.max r r1 r2 few one two three in
    let parts = SoundParts-is_sound b sound in
    let name = text_few 60 b.name parts.name in
    let unit = text_few 12 b.unit parts.unit in
    let more = grown 60 r3 (unwrap_or b.name []) four name in
    omega arith

pub value_room : (b : Block) (count : ℕ) (r r1 r2 r3 r4 : List ℕ) {r5 : List ℕ} → is_sound b ≡ true → length r ≤ 64000 → r1 ≡ r ++ word_bytes b.attribute → r2 ≡ r1 ++ limit_bytes b.attribute b.min
    → r3 ≡ r2 ++ limit_bytes b.attribute b.max → r4 ≡ r3 ++ unwrap_or b.name [] → r5 ≡ r4 ++ unwrap_or b.unit [] → count ≤ 1024 → length r5 + count < 65536
value_room b count r r1 r2 r3 r4 {r5} sound few one two three four five most_count =
    let most = text_room b.attribute b.min b.max r r1 r2 few one two three in
    let parts = SoundParts-is_sound b sound in
    let name = text_few 60 b.name parts.name in
    let unit = text_few 12 b.unit parts.unit in
    let more = grown 60 r3 (unwrap_or b.name []) four name in
    let more' = grown 12 r4 (unwrap_or b.unit []) five unit in
    omega arith

abbrev zeros : ℕ → List ℕ
zeros n = replicate n 0

length_zeros : (n : ℕ) → length (zeros n) ≡ n
length_zeros n = length-replicate n 0

-- the entry that is made of a block, from the places of its parts
abbrev pub made_of : Block → Part → Option Limit → Option Limit → Option Part → Option Part → Part → Entry
made_of b word min max name unit value = record {
  idn = b.idn;
  attribute = b.attribute;
  word = word;
  name = name;
  unit = unit;
  min = min;
  max = max;
  value = value;
  max_len = b.max_len;
  fixed = b.fixed;
  step = b.step;
  fails = b.fails;
}

abbrev made_at : Block → ℕ → ℕ → ℕ → ℕ → ℕ → ℕ → Entry
made_at b n n1 n2 n3 n4 n5 = made_of b (part_at n (word_bytes b.attribute)) (option_map (limit_at b.attribute n1) b.min) (option_map (limit_at b.attribute n2) b.max)
    (option_map (part_at n3) b.name) (option_map (part_at n4) b.unit) (part_at n5 b.value)

abbrev with_elements : Block → Option (List ℕ) → Option (List ℕ) → Option ℕ → Option ℕ → List ℕ → Block
with_elements b name unit min max value = record b { name = name; unit = unit; min = min; max = max; value = value }

same_elements : (b : Block) {name unit : Option (List ℕ)} {min max : Option ℕ} {value : List ℕ} → name ≡ b.name → unit ≡ b.unit → min ≡ b.min → max ≡ b.max → value ≡ b.value
    → with_elements b name unit min max value ≡ b
same_elements b {name} {unit} {min} {max} {value} e f g h i = rw (e, f, g, h, i) refl

appended : (b : Block) (r r1 r2 r3 r4 r5 r6 r7 filled : List ℕ) (most : ℕ) → is_sound b ≡ true → AreJoined b r r1 r2 r3 r4 r5
    → r6 ≡ r5 ++ b.value → r7 ≡ r6 ++ filled → length b.value + length filled ≡ most
    → most ≡ cond (is_list b.attribute.length) b.max_len (item_len b.attribute.length) → most ≤ 1024
    → HasAppended b r r7 (made_at b (length r) (length r1) (length r2) (length r3) (length r4) (length r5))
appended b r r1 r2 r3 r4 r5 r6 r7 filled most sound joined six seven fills is few =
    let parts = SoundParts-is_sound b sound in
    let name = text_few 60 b.name parts.name in
    let unit = text_few 12 b.unit parts.unit in
    let min = limit_few b.attribute b.min in
    let max = limit_few b.attribute b.max in
    let word = word_few b.attribute in
    let c1 : length r1 ≡ length r + length (word_bytes b.attribute) = ap length joined.word ∙ length-append r (word_bytes b.attribute) in
    let c2 : length r2 ≡ length r1 + length (limit_bytes b.attribute b.min) = ap length joined.min ∙ length-append r1 (limit_bytes b.attribute b.min) in
    let c3 : length r3 ≡ length r2 + length (limit_bytes b.attribute b.max) = ap length joined.max ∙ length-append r2 (limit_bytes b.attribute b.max) in
    let c4 : length r4 ≡ length r3 + length (unwrap_or b.name []) = ap length joined.name ∙ length-append r3 (unwrap_or b.name []) in
    let c5 : length r5 ≡ length r4 + length (unwrap_or b.unit []) = ap length joined.unit ∙ length-append r4 (unwrap_or b.unit []) in
    let c6 : length r6 ≡ length r5 + length b.value = ap length six ∙ length-append r5 b.value in
    let c7 : length r7 ≡ length r6 + length filled = ap length seven ∙ length-append r6 filled in
    let s6 = IsStart-append r6 filled seven in
    let s5 = IsStart-trans (IsStart-append r5 b.value six) s6 in
    let s4 = IsStart-trans (IsStart-append r4 (unwrap_or b.unit []) joined.unit) s5 in
    let s3 = IsStart-trans (IsStart-append r3 (unwrap_or b.name []) joined.name) s4 in
    let s2 = IsStart-trans (IsStart-append r2 (limit_bytes b.attribute b.max) joined.max) s3 in
    let s1 = IsStart-trans (IsStart-append r1 (limit_bytes b.attribute b.min) joined.min) s2 in
    let s0 = IsStart-trans (IsStart-append r (word_bytes b.attribute) joined.word) s1 in
    record {
      kept = s0.kept;
      len = omega arith;
      same = same_elements b (text_kept r3 b.name joined.name s4) (text_kept r4 b.unit joined.unit s5) (bits_kept (length r1) b.attribute b.min) (bits_kept (length r2) b.attribute b.max) (part_kept r5 b.value six s6);
      laid = record {
        word = between_by (length r) (length r5) (length r) (word_bytes b.attribute) (omega arith) (omega arith) (omega arith);
        name = text_between (length r) (length r5) (length r3) b.name (omega arith) (omega arith) (omega arith);
        unit = text_between (length r) (length r5) (length r4) b.unit (omega arith) (omega arith) (omega arith);
        min = limit_between (length r) (length r5) (length r1) b.attribute b.min (omega arith) (omega arith) (omega arith);
        max = limit_between (length r) (length r5) (length r2) b.attribute b.max (omega arith) (omega arith) (omega arith);
        from = omega arith;
        value = omega arith;
        few = omega arith;
      };
      end = omega arith;
      numbers = record {
        word = part_kept r (word_bytes b.attribute) joined.word s1;
        min = limit_kept r1 b.attribute b.min joined.min s2;
        max = limit_kept r2 b.attribute b.max joined.max s3;
      };
    }

pub appended_by : (b : Block) {r r1 r2 r3 r4 r5 r6 r7 bytes : List ℕ} {word : Part} {min max : Option Limit} {name unit : Option Part} {value : Part} {e : Entry} (end most : ℕ) → is_sound b ≡ true
    → AreJoined b r r1 r2 r3 r4 r5 → bytes ≡ b.value → r6 ≡ r5 ++ bytes → r7 ≡ r6 ++ zeros (end - length r6)
    → end ≡ length r5 + most → most ≡ cond (is_list b.attribute.length) b.max_len (item_len b.attribute.length) → most ≤ 1024 → length b.value ≤ most
    → word ≡ part_at (length r) (word_bytes b.attribute) → min ≡ option_map (limit_at b.attribute (length r1)) b.min → max ≡ option_map (limit_at b.attribute (length r2)) b.max
    → name ≡ option_map (part_at (length r3)) b.name → unit ≡ option_map (part_at (length r4)) b.unit → value ≡ part_at (length r5) bytes
    → e ≡ made_of b word min max name unit value → HasAppended b r r7 e
appended_by b {r} {r1} {r2} {r3} {r4} {r5} {r6} {r7} {bytes} {word} {min} {max} {name} {unit} {value} {e} end most sound joined seen six seven end_is is few fits word_is min_is max_is name_is unit_is value_is made =
    let six' : r6 ≡ r5 ++ b.value = six ∙ ap (λ (t : List ℕ). r5 ++ t) seen in
    let count : length r6 ≡ length r5 + length b.value = ap length six' ∙ length-append r5 b.value in
    let fill = length_zeros (end - length r6) in
    let all = appended b r r1 r2 r3 r4 r5 r6 r7 (zeros (end - length r6)) most sound joined six' seven (omega arith) is few in
    let same : e ≡ made_at b (length r) (length r1) (length r2) (length r3) (length r4) (length r5) =
    made ∙ same_entry word_is min_is max_is name_is unit_is (value_is ∙ ap (part_at (length r5)) seen) in
    rw same all
  where
    same_entry : {w w' : Part} {i i' j j' : Option Limit} {n n' u u' : Option Part} {v v' : Part} → w ≡ w' → i ≡ i' → j ≡ j' → n ≡ n' → u ≡ u' → v ≡ v' → made_of b w i j n u v ≡ made_of b w' i' j' n' u' v'
    same_entry e f g h i j = rw (e, f, g, h, i, j) refl

most_by : (list : Bool) (max item : ℕ) → cond list (nat_le 1 max && (nat_le max 1024 && (max % item == 0))) (max == 0) ≡ true → item ≤ 4 → cond list max item ≤ 1024
most_by true max item is few =
    let (_, rest) = and_parts (nat_le 1 max) (nat_le max 1024 && (max % item == 0)) is in
    let (fits, _) = and_parts (nat_le max 1024) (max % item == 0) rest in
    grind (arith, nat_tests)
most_by false max item is few = omega arith

item_few : (l : Length) → item_len l ≤ 4
item_few Two = omega arith
item_few Four = omega arith
item_few List1 = omega arith
item_few List2 = omega arith
item_few List4 = omega arith

room_few : (b : Block) → is_sound b ≡ true → room_of b ≤ 1108
room_few b sound =
    let parts = SoundParts-is_sound b sound in
    let name = text_few 60 b.name parts.name in
    let unit = text_few 12 b.unit parts.unit in
    let min = limit_few b.attribute b.min in
    let max = limit_few b.attribute b.max in
    let most = most_by (is_list b.attribute.length) b.max_len (item_len b.attribute.length) parts.max_len (item_few b.attribute.length) in
    omega arith

pub sound_in : (blocks : List Block) (i : ℕ) (b : Block) → IsStore blocks → i < length blocks → b ≡ get_or blocks i b → is_sound b ≡ true
sound_in blocks i b is inside at = rw at (AllPass-from_list_all is_sound blocks is.sound i b inside)

-- what is done and what is left are the whole
pub record IsPacking (blocks : List Block) (region : List ℕ) (entries : List Entry) (i : ℕ) : Type 0 where
  pub len : length region + sum_by room_of (drop i blocks) ≡ sum_by room_of blocks
  pub same : blocks_of region entries ++ drop i blocks ≡ blocks
  pub laid : AreLaid 0 (length region) entries
  pub numbers : HaveNumbers region entries
  pub few : length region ≤ 1108 * i

pub packed_none : (blocks : List Block) {region : List ℕ} {entries : List Entry} → region ≡ [] → entries ≡ [] → IsPacking blocks region entries 0
unfolding AreLaid HaveNumbers
packed_none blocks {region} {entries} none empty = rw (none, empty) (record { len = omega arith; same = refl; laid = omega arith; numbers = tt; few = omega arith })

pub packed_more : {blocks : List Block} {region region' : List ℕ} {entries entries' : List Entry} {i : ℕ} (b : Block) (e : Entry) → IsPacking blocks region entries i → IsStore blocks → i < length blocks
    → b ≡ get_or blocks i b → HasAppended b region region' e → entries' ≡ entries ++ e ∷ [] → IsPacking blocks region' entries' (i + 1)
packed_more {blocks} {region} {region'} {entries} {entries'} {i} b e so_far is inside at one more =
    let few = so_far.few in
    let room = room_few b (sound_in blocks i b is inside at) in
    let len = so_far.len in
    let len_more = one.len in
    let rest = sum_by-drop_more room_of blocks i b inside in
    let here : room_of b ≡ room_of (get_or blocks i b) = ap room_of at in
    let next : i + 1 ≡ suc i = omega arith in
    let kept : take (length region) region ≡ take (length region) region' = take-length region ∙ sym one.kept in
    let old : blocks_of region' entries ≡ blocks_of region entries = sym (blocks_before 0 (length region) region region' entries so_far.laid kept) in
    let new : blocks_of region' (entries ++ e ∷ []) ≡ blocks_of region entries ++ b ∷ [] =
    map-append (block_of region') entries (e ∷ []) ∙ ap (λ (t : List Block). t ++ block_of region' e ∷ []) old ∙ ap (λ (x : Block). blocks_of region entries ++ x ∷ []) one.same in
    let left : drop i blocks ≡ b ∷ drop (i + 1) blocks = drop-cons blocks i b inside ∙ ap (λ (x : Block). x ∷ drop (suc i) blocks) (sym at) ∙ ap (λ (n : ℕ). b ∷ drop n blocks) (sym next) in
    let whole : blocks_of region' (entries ++ e ∷ []) ++ drop (i + 1) blocks ≡ blocks =
    ap (λ (t : List Block). t ++ drop (i + 1) blocks) new ∙ append_assoc (blocks_of region entries) (b ∷ []) (drop (i + 1) blocks) ∙ ap (λ (t : List Block). blocks_of region entries ++ t) (sym left) ∙ so_far.same in
    let numbers = numbers_more region' entries e (all_numbers_before 0 (length region) region region' entries so_far.laid kept so_far.numbers) one.numbers in
    rw more (record { len = omega arith; same = whole; laid = laid_more 0 (length region) (length region') entries e so_far.laid one.laid one.end; numbers = numbers; few = omega arith })

pub packed_all : {blocks : List Block} {region : List ℕ} {entries : List Entry} {i : ℕ} → IsPacking blocks region entries i → length blocks ≤ i → HasPacked blocks region entries
packed_all {blocks} {region} {entries} {i} all end =
    let rest : drop i blocks ≡ [] = drop_all i blocks end in
    let none : sum_by room_of (drop i blocks) ≡ 0 = ap (sum_by room_of) rest in
    let len = all.len in
    record { len = omega arith; same = sym (append-nil (blocks_of region entries)) ∙ ap (λ (t : List Block). blocks_of region entries ++ t) (sym rest) ∙ all.same; laid = all.laid; numbers = all.numbers }

pub packing_room : {blocks : List Block} {region : List ℕ} {entries : List Entry} {i : ℕ} → IsPacking blocks region entries i → IsStore blocks → i < length blocks → length region ≤ 64000
packing_room {blocks} {region} {entries} {i} so_far is inside =
    let few = so_far.few in
    let most = is.few in
    omega arith
