-- The blocks of a region, where bytes are appended to it, or those of one block's operation data written.
use Rattle.std.proofs.Common.{◌≡◌, ℕ, zero, suc, ◌+◌, ◌≤◌, ◌<◌, ◌==◌, Bool, true, false, cond, List, [], ◌∷◌, ◌++◌, length, take, drop, get_or, slice_set, Option, Some, None, option_map, IfSome, refl, sym, ◌∙◌, ap, arith}
use Rattle.std.specs.Prelude.{nat_lt, nat_le, slice_get}
use Rattle.std.specs.List.{list_all, splice, position}
use Rattle.std.proofs.lemmas.Bool.Decides.{nat_tests}
use Rattle.std.proofs.lemmas.List.{length-map, get_or-map, take-take}
use Rattle.std.proofs.lemmas.Option.{slice_get-map, slice_get-get_or}
use Rattle.sercos_idn.specs.Codes.{is_list, item_len}
use Rattle.sercos_block.specs.declared.block.Block.{Block}
use Rattle.sercos_block.specs.declared.entry.Entry.{Entry}
use Rattle.sercos_block.specs.declared.entry.Limit.{Limit}
use Rattle.sercos_block.specs.declared.entry.Part.{Part}
use Rattle.sercos_idn.specs.declared.attribute.Attribute.{Attribute}
use Rattle.sercos_block.specs.Blocks.{bytes_for}
use Rattle.sercos_block.specs.Stores.{is_len, with_data, are_ascending}
use Rattle.sercos_block.specs.Regions.{part_of, limit_bits, block_of, blocks_of, most_value, end_of, IsBetween, IsLaid, AreLaid, HasNumbers, HaveNumbers, IsWithin, IsRegion}
use Rattle.std.proofs.lemmas.List.Quantifiers.{position-Some}
use Rattle.sercos_block.proofs.PutLemmas.{at_place, IsWritten-at}
use Rattle.sercos_block.proofs.FindLemmas.{ascending_any, position_blocks}
use Rattle.sercos_block.proofs.PartLemmas.{part_before, part_after, drop_more, take_spliced, drop_spliced, part_spliced, length_spliced}

-- a name or a unit stays where its bytes do
text_before : (low high : ℕ) (r s : List ℕ) (o : Option Part) → IfSome o (IsBetween low high) → take high r ≡ take high s → option_map (part_of r) o ≡ option_map (part_of s) o
text_before low high r s None between same = refl
text_before low high r s (Some p) between same = ap (λ (t : List ℕ). Some t) (part_before high r s p between.to same)

text_after : (low high : ℕ) (r s : List ℕ) (o : Option Part) → IfSome o (IsBetween low high) → drop low r ≡ drop low s → option_map (part_of r) o ≡ option_map (part_of s) o
text_after low high r s None between same = refl
text_after low high r s (Some p) between same = ap (λ (t : List ℕ). Some t) (part_after low r s p between.from same)

-- a block with other texts and other operation data
abbrev with_parts : Entry → Option (List ℕ) → Option (List ℕ) → List ℕ → Block
with_parts e name unit value = record {
  idn = e.idn;
  attribute = e.attribute;
  name = name;
  unit = unit;
  min = option_map limit_bits e.min;
  max = option_map limit_bits e.max;
  value = value;
  max_len = e.max_len;
  fixed = e.fixed;
  step = e.step;
  fails = e.fails;
}

same_parts : (e : Entry) {n n' u u' : Option (List ℕ)} {v v' : List ℕ} → n ≡ n' → u ≡ u' → v ≡ v' → with_parts e n u v ≡ with_parts e n' u' v'
same_parts e {n} {n'} {u} {u'} {v} {v'} name unit value = rw (name, unit, value) refl

take_less : (m n : ℕ) (r s : List ℕ) → m ≤ n → take n r ≡ take n s → take m r ≡ take m s
take_less m n r s le same = sym (take-take m n r le) ∙ ap (take m) same ∙ take-take m n s le

-- a block stays where its bytes do
block_before : (low n : ℕ) (r s : List ℕ) (e : Entry) → IsLaid low e → end_of e ≤ n → take n r ≡ take n s → block_of r e ≡ block_of s e
block_before low n r s e laid inside same =
    let value = laid.value in
    let up : take e.value.place r ≡ take e.value.place s = take_less e.value.place n r s (omega arith) same in
    same_parts e (text_before low e.value.place r s e.name laid.name up) (text_before low e.value.place r s e.unit laid.unit up)
    (part_before n r s e.value (omega arith) same)

block_after : (low : ℕ) (r s : List ℕ) (e : Entry) → IsLaid low e → drop low r ≡ drop low s → block_of r e ≡ block_of s e
block_after low r s e laid same =
    same_parts e (text_after low e.value.place r s e.name laid.name same) (text_after low e.value.place r s e.unit laid.unit same)
    (part_after low r s e.value laid.from same)

-- .. and so do the bytes of its numbers
limit_before : (low high : ℕ) (a : Attribute) (r s : List ℕ) (o : Option Limit) → IfSome o (λ l. IsBetween low high l.bytes) → take high r ≡ take high s
    → IfSome o (λ l. part_of r l.bytes ≡ bytes_for a l.bits) → IfSome o (λ l. part_of s l.bytes ≡ bytes_for a l.bits)
limit_before low high a r s None between same is = tt
limit_before low high a r s (Some l) between same is = sym (part_before high r s l.bytes between.to same) ∙ is

limit_after : (low high : ℕ) (a : Attribute) (r s : List ℕ) (o : Option Limit) → IfSome o (λ l. IsBetween low high l.bytes) → drop low r ≡ drop low s
    → IfSome o (λ l. part_of r l.bytes ≡ bytes_for a l.bits) → IfSome o (λ l. part_of s l.bytes ≡ bytes_for a l.bits)
limit_after low high a r s None between same is = tt
limit_after low high a r s (Some l) between same is = sym (part_after low r s l.bytes between.from same) ∙ is

numbers_before : (low : ℕ) (r s : List ℕ) (e : Entry) → IsLaid low e → take e.value.place r ≡ take e.value.place s → HasNumbers r e → HasNumbers s e
numbers_before low r s e laid same has = record {
  word = sym (part_before e.value.place r s e.word laid.word.to same) ∙ has.word;
  min = limit_before low e.value.place e.attribute r s e.min laid.min same has.min;
  max = limit_before low e.value.place e.attribute r s e.max laid.max same has.max;
}

numbers_after : (low : ℕ) (r s : List ℕ) (e : Entry) → IsLaid low e → drop low r ≡ drop low s → HasNumbers r e → HasNumbers s e
numbers_after low r s e laid same has = record {
  word = sym (part_after low r s e.word laid.word.from same) ∙ has.word;
  min = limit_after low e.value.place e.attribute r s e.min laid.min same has.min;
  max = limit_after low e.value.place e.attribute r s e.max laid.max same has.max;
}

laid_le : (low high : ℕ) (entries : List Entry) → AreLaid low high entries → low ≤ high
unfolding AreLaid
laid_le low high [] laid = laid
laid_le low high (e ∷ entries) laid =
    let from = laid.0.from in
    let rest = laid_le (end_of e) high entries laid.1 in
    omega arith

pub blocks_before : (low high : ℕ) (r s : List ℕ) (entries : List Entry) → AreLaid low high entries → take high r ≡ take high s → blocks_of r entries ≡ blocks_of s entries
unfolding AreLaid
blocks_before low high r s [] laid same = refl
blocks_before low high r s (e ∷ entries) laid same =
    rw (block_before low high r s e laid.0 (laid_le (end_of e) high entries laid.1) same, blocks_before (end_of e) high r s entries laid.1 same) refl

blocks_after : (low high : ℕ) (r s : List ℕ) (entries : List Entry) → AreLaid low high entries → drop low r ≡ drop low s → blocks_of r entries ≡ blocks_of s entries
unfolding AreLaid
blocks_after low high r s [] laid same = refl
blocks_after low high r s (e ∷ entries) laid same =
    let from = laid.0.from in
    let less : low ≤ end_of e = omega arith in
    rw (block_after low r s e laid.0 same, blocks_after (end_of e) high r s entries laid.1 (drop_more low (end_of e) r s less same)) refl

pub all_numbers_before : (low high : ℕ) (r s : List ℕ) (entries : List Entry) → AreLaid low high entries → take high r ≡ take high s → HaveNumbers r entries → HaveNumbers s entries
unfolding AreLaid HaveNumbers
all_numbers_before low high r s [] laid same have = tt
all_numbers_before low high r s (e ∷ entries) laid same have =
    let end = laid_le (end_of e) high entries laid.1 in
    (numbers_before low r s e laid.0 (take_less e.value.place high r s (omega arith) same) have.0, all_numbers_before (end_of e) high r s entries laid.1 same have.1)

all_numbers_after : (low high : ℕ) (r s : List ℕ) (entries : List Entry) → AreLaid low high entries → drop low r ≡ drop low s → HaveNumbers r entries → HaveNumbers s entries
unfolding AreLaid HaveNumbers
all_numbers_after low high r s [] laid same have = tt
all_numbers_after low high r s (e ∷ entries) laid same have =
    let from = laid.0.from in
    let less : low ≤ end_of e = omega arith in
    (numbers_after low r s e laid.0 same have.0, all_numbers_after (end_of e) high r s entries laid.1 (drop_more low (end_of e) r s less same) have.1)

-- the bytes of a block begin at an earlier place or after it too
lower : {low low' high : ℕ} {p : Part} → low ≤ low' → IsBetween low' high p → IsBetween low high p
lower {low} {low'} {high} {p} less between =
    let from = between.from in
    record { from = omega arith; to = between.to; few = between.few }

between_lower : (low low' high : ℕ) (o : Option Part) → low ≤ low' → IfSome o (IsBetween low' high) → IfSome o (IsBetween low high)
between_lower low low' high None less between = tt
between_lower low low' high (Some p) less between = lower less between

limit_lower : (low low' high : ℕ) (o : Option Limit) → low ≤ low' → IfSome o (λ l. IsBetween low' high l.bytes) → IfSome o (λ l. IsBetween low high l.bytes)
limit_lower low low' high None less between = tt
limit_lower low low' high (Some l) less between = lower less between

laid_lower : (low low' : ℕ) (e : Entry) → low ≤ low' → IsLaid low' e → IsLaid low e
laid_lower low low' e less laid =
    let from = laid.from in
    record {
      word = lower less laid.word;
      name = between_lower low low' e.value.place e.name less laid.name;
      unit = between_lower low low' e.value.place e.unit less laid.unit;
      min = limit_lower low low' e.value.place e.min less laid.min;
      max = limit_lower low low' e.value.place e.max less laid.max;
      from = omega arith;
      value = laid.value;
      few = laid.few;
    }

-- the block at a place
pub laid_at : (low high : ℕ) (entries : List Entry) (i : ℕ) (d : Entry) → AreLaid low high entries → i < length entries → IsLaid low (get_or entries i d) × (end_of (get_or entries i d) ≤ high)
unfolding AreLaid
laid_at low high [] i d laid inside = absurd (omega arith)
laid_at low high (e ∷ entries) zero d laid inside = (laid.0, laid_le (end_of e) high entries laid.1)
laid_at low high (e ∷ entries) (suc i) d laid inside =
    let from = laid.0.from in
    let less : low ≤ end_of e = omega arith in
    let (there, end) = laid_at (end_of e) high entries i d laid.1 (omega arith) in
    (laid_lower low (end_of e) (get_or entries i d) less there, end)

pub numbers_at : (r : List ℕ) (entries : List Entry) (i : ℕ) (d : Entry) → HaveNumbers r entries → i < length entries → HasNumbers r (get_or entries i d)
unfolding HaveNumbers
numbers_at r [] i d have inside = absurd (omega arith)
numbers_at r (e ∷ entries) zero d have inside = have.0
numbers_at r (e ∷ entries) (suc i) d have inside = numbers_at r entries i d have.1 (omega arith)

-- the entry of a block after its operation data was written
abbrev pub entry_with : Entry → ℕ → Entry
entry_with e len = record e { value = record e.value { len = len } }

-- all other bytes stay
pub record HasKept (r s : List ℕ) (e : Entry) : Type 0 where
  pub before : take e.value.place r ≡ take e.value.place s
  pub after : drop (end_of e) r ≡ drop (end_of e) s

pub blocks_written : (low high : ℕ) (r s bytes : List ℕ) (entries : List Entry) (i : ℕ) (d : Entry) → AreLaid low high entries → i < length entries
    → HasKept r s (get_or entries i d) → part_of s (record { place = (get_or entries i d).value.place; len = length bytes }) ≡ bytes
    → blocks_of s (slice_set entries i (entry_with (get_or entries i d) (length bytes))) ≡ slice_set (blocks_of r entries) i (record (block_of r (get_or entries i d)) { value = bytes })
unfolding AreLaid
blocks_written low high r s bytes [] i d laid inside kept wrote = absurd (omega arith)
blocks_written low high r s bytes (e ∷ entries) zero d laid inside kept wrote =
    let here : block_of s (entry_with e (length bytes)) ≡ record (block_of r e) { value = bytes } =
    same_parts e (sym (text_before low e.value.place r s e.name laid.0.name kept.before)) (sym (text_before low e.value.place r s e.unit laid.0.unit kept.before)) wrote in
    rw (here, blocks_after (end_of e) high r s entries laid.1 kept.after) refl
blocks_written low high r s bytes (e ∷ entries) (suc i) d laid inside kept wrote =
    let inside' : i < length entries = omega arith in
    let (there, _) = laid_at (end_of e) high entries i d laid.1 inside' in
    rw (← block_before low (get_or entries i d).value.place r s e laid.0 there.from kept.before)
    (ap (λ (rest : List Block). block_of r e ∷ rest) (blocks_written (end_of e) high r s bytes entries i d laid.1 inside' kept wrote))

pub numbers_written : (low high count : ℕ) (r s : List ℕ) (entries : List Entry) (i : ℕ) (d : Entry) → AreLaid low high entries → i < length entries → HasKept r s (get_or entries i d)
    → HaveNumbers r entries → HaveNumbers s (slice_set entries i (entry_with (get_or entries i d) count))
unfolding AreLaid HaveNumbers
numbers_written low high count r s [] i d laid inside kept have = absurd (omega arith)
numbers_written low high count r s (e ∷ entries) zero d laid inside kept have =
    let here = numbers_before low r s e laid.0 kept.before have.0 in
    (record { word = here.word; min = here.min; max = here.max }, all_numbers_after (end_of e) high r s entries laid.1 kept.after have.1)
numbers_written low high count r s (e ∷ entries) (suc i) d laid inside kept have =
    let inside' : i < length entries = omega arith in
    let (there, _) = laid_at (end_of e) high entries i d laid.1 inside' in
    let from = there.from in (
      numbers_before low r s e laid.0 (take_less e.value.place (get_or entries i d).value.place r s (omega arith) kept.before) have.0,
      numbers_written (end_of e) high count r s entries i d laid.1 inside' kept have.1,
    )

pub laid_written : (low high count : ℕ) (entries : List Entry) (i : ℕ) (d : Entry) → AreLaid low high entries → i < length entries → count ≤ most_value (get_or entries i d)
    → AreLaid low high (slice_set entries i (entry_with (get_or entries i d) count))
unfolding AreLaid
laid_written low high count [] i d laid inside fits = absurd (omega arith)
laid_written low high count (e ∷ entries) zero d laid inside fits =
    (record { word = laid.0.word; name = laid.0.name; unit = laid.0.unit; min = laid.0.min; max = laid.0.max; from = laid.0.from; value = fits; few = laid.0.few }, laid.1)
laid_written low high count (e ∷ entries) (suc i) d laid inside fits = (laid.0, laid_written (end_of e) high count entries i d laid.1 (omega arith) fits)

-- one block more after all others
pub laid_more : (low mid high : ℕ) (entries : List Entry) (e : Entry) → AreLaid low mid entries → IsLaid mid e → end_of e ≡ high → AreLaid low high (entries ++ e ∷ [])
unfolding AreLaid
laid_more low mid high [] e laid one end = (laid_lower low mid e laid one, omega arith)
laid_more low mid high (g ∷ entries) e laid one end = (laid.0, laid_more (end_of g) mid high entries e laid.1 one end)

pub numbers_more : (r : List ℕ) (entries : List Entry) (e : Entry) → HaveNumbers r entries → HasNumbers r e → HaveNumbers r (entries ++ e ∷ [])
unfolding HaveNumbers
numbers_more r [] e have one = (one, tt)
numbers_more r (g ∷ entries) e have one = (have.0, numbers_more r entries e have.1 one)

-- what a look-up meets
pub place_of-ascending : {region : List ℕ} {entries slice : List Entry} → slice ≡ entries → IsRegion region entries → are_ascending (blocks_of [] slice) ≡ true
place_of-ascending {region} {entries} {slice} seen is = rw seen (ascending_any [] region entries ∙ is.store.ascending)

pub place_of-blocks : (raw : ℕ) (region : List ℕ) {entries slice : List Entry} {blocks : List Block} → slice ≡ entries → blocks_of region entries ≡ blocks
    → position (λ e. e.idn.raw == raw) slice ≡ position (λ b. b.idn.raw == raw) blocks
place_of-blocks raw region {entries} {slice} {blocks} seen view = rw (seen, ← view) (position_blocks raw region entries)

pub at-within : (place : ℕ) (e : Entry) {region lent : List ℕ} {entries : List Entry} {blocks : List Block} → lent ≡ region → e ≡ get_or entries place e → blocks_of region entries ≡ blocks
    → IsRegion region entries → place < length blocks → IsWithin lent e
at-within place e {region} {lent} {entries} {blocks} seen at view is inside =
    let count = length-map entries (block_of region) in
    let inside' : place < length (blocks_of region entries) = rw view inside in
    let (laid, end) = laid_at 0 (length region) entries place e is.laid (omega arith) in
    let numbers = numbers_at region entries place e is.numbers (omega arith) in
    rw (seen, at) (record { laid = laid; end = end; numbers = numbers })

pub at-block : (place : ℕ) (e : Entry) (region : List ℕ) (entries : List Entry) {lent : List ℕ} {blocks : List Block} {b : Block} → lent ≡ region → e ≡ get_or entries place e
    → blocks_of region entries ≡ blocks → b ≡ block_of lent e → place < length blocks → slice_get blocks place ≡ Some b
at-block place e region entries {lent} {blocks} {b} seen at view made inside =
    let count = length-map entries (block_of region) in
    let inside' : place < length (blocks_of region entries) = rw view inside in
    let here = slice_get-get_or entries place e (omega arith) in
    rw (← view, made, seen)
    (slice_get-map (block_of region) entries place ∙ ap (option_map (block_of region)) here ∙ ap (λ (g : Entry). Some (block_of region g)) (sym at))

-- what a write of operation data needs ..
fits_by : (list : Bool) (count most item : ℕ) → cond list (nat_le count most) (count == item) ≡ true → count ≤ cond list most item
fits_by true count most item fits = grind (arith, nat_tests)
fits_by false count most item fits = grind (arith, nat_tests)

pub record HasRoom (region bytes : List ℕ) (entries : List Entry) (place : ℕ) (e : Entry) : Type 0 where
  pub inside : place < length entries
  pub laid : IsLaid 0 e
  pub end : end_of e ≤ length region
  pub fits : length bytes ≤ most_value e
  pub few : length bytes ≤ 1024
  pub here : e.value.place + length bytes ≤ length region

pub HasRoom-by : (raw place : ℕ) (bytes region : List ℕ) (entries : List Entry) {now : List Block} (e : Entry) → blocks_of region entries ≡ now → IsRegion region entries
    → position (λ b. b.idn.raw == raw) now ≡ Some place → IfSome (slice_get now place) (λ b. is_len b (length bytes) ≡ true) → e ≡ get_or entries place e
    → HasRoom region bytes entries place e
HasRoom-by raw place bytes region entries {now} e view is at len there =
    let (in', _, _) = position-Some (λ b. b.idn.raw == raw) now place (block_of region e) at in
    let count : length now ≡ length entries = ap length (sym view) ∙ length-map entries (block_of region) in
    let inside : place < length entries = omega arith in
    let len' = at_place (λ b. is_len b (length bytes) ≡ true) now place (block_of region e) in' len in
    let same : get_or now place (block_of region e) ≡ block_of region e =
    ap (λ (t : List Block). get_or t place (block_of region e)) (sym view) ∙ get_or-map (block_of region) entries place e (block_of region e) inside ∙ ap (block_of region) (sym there) in
    let len'' : is_len (block_of region e) (length bytes) ≡ true = ap (λ (b : Block). is_len b (length bytes)) (sym same) ∙ len' in
    let fits = fits_by (is_list e.attribute.length) (length bytes) e.max_len (item_len e.attribute.length) len'' in
    let (laid, end) = laid_at 0 (length region) entries place e is.laid inside in
    let laid' : IsLaid 0 e = rw there laid in
    let end' : end_of e ≤ length region = rw there end in
    let few = laid'.few in
    record { inside = inside; laid = laid'; end = end'; fits = fits; few = omega arith; here = omega arith }

-- .. and what it leaves
pub record HasPut (raw : ℕ) (bytes : List ℕ) (now : List Block) (after : List ℕ) (entries : List Entry) : Type 0 where
  pub region : IsRegion after entries
  pub same : blocks_of after entries ≡ with_data raw bytes now

pub HasPut-by : (raw place start count : ℕ) (bytes region after : List ℕ) (entries : List Entry) {now : List Block} (e e' : Entry) → blocks_of region entries ≡ now → IsRegion region entries
    → position (λ b. b.idn.raw == raw) now ≡ Some place → IfSome (slice_get now place) (λ b. is_len b (length bytes) ≡ true) → e ≡ get_or entries place e
    → list_all (λ byte. nat_lt byte 256) bytes ≡ true → start ≡ e.value.place → after ≡ splice region start (start + length bytes) bytes
    → count ≡ length bytes → e' ≡ entry_with e count → HasPut raw bytes now after (slice_set entries place e')
HasPut-by raw place start count bytes region after entries {now} e e' view is at len there are start_is after_is count_is h_is =
    let room = HasRoom-by raw place bytes region entries e view is at len there in
    let here = room.here in
    let fits = room.fits in
    let spliced : after ≡ splice region e.value.place (e.value.place + length bytes) bytes = after_is ∙ ap (λ (n : ℕ). splice region n (n + length bytes) bytes) start_is in
    let entry : e' ≡ entry_with (get_or entries place e) (length bytes) = h_is ∙ ap (entry_with e) count_is ∙ ap (λ (g : Entry). entry_with g (length bytes)) there in
    let kept : HasKept region (splice region e.value.place (e.value.place + length bytes) bytes) e =
    record { before = sym (take_spliced region bytes e.value.place e.value.place (omega arith) (omega arith)); after = sym (drop_spliced region bytes e.value.place (end_of e) (omega arith) (omega arith)) } in
    let kept' : HasKept region (splice region e.value.place (e.value.place + length bytes) bytes) (get_or entries place e) = rw (← there) kept in
    let wrote = part_spliced region bytes e.value.place (omega arith) in
    let wrote' : part_of (splice region e.value.place (e.value.place + length bytes) bytes) (record { place = (get_or entries place e).value.place; len = length bytes }) ≡ bytes = rw (← there) wrote in
    let written = blocks_written 0 (length region) region (splice region e.value.place (e.value.place + length bytes) bytes) bytes entries place e is.laid room.inside kept' wrote' in
    let store = IsWritten-at raw bytes (blocks_of region entries) place (block_of region e) is.store (rw view at) (rw view len) are in
    let old : get_or (blocks_of region entries) place (block_of region e) ≡ block_of region (get_or entries place e) = get_or-map (block_of region) entries place e (block_of region e) room.inside in
    let blocks : blocks_of (splice region e.value.place (e.value.place + length bytes) bytes) (slice_set entries place (entry_with (get_or entries place e) (length bytes)))
    ≡ slice_set (blocks_of region entries) place (record (get_or (blocks_of region entries) place (block_of region e)) { value = bytes }) =
    written ∙ ap (λ (b : Block). slice_set (blocks_of region entries) place (record b { value = bytes })) (sym old) in
    let same_len = length_spliced region bytes e.value.place here in
    let fits' : length bytes ≤ most_value (get_or entries place e) = rw (← there) fits in
    let laid = laid_written 0 (length region) (length bytes) entries place e is.laid room.inside fits' in
    let numbers = numbers_written 0 (length region) (length bytes) region (splice region e.value.place (e.value.place + length bytes) bytes) entries place e is.laid room.inside kept' is.numbers in
    rw (spliced, entry) (record {
      region = record { store = rw blocks store.store; laid = rw same_len laid; numbers = numbers };
      same = blocks ∙ store.same ∙ ap (with_data raw bytes) view;
    })
