-- The AT of a drive is whole: bytes, and no more than an AT has.
use Rattle.sercos_law_run.proofs.Words.{inl, ◌≡◌, ℕ, suc, ◌+◌, ◌*◌, ◌%◌, ◌<◌, ◌≤◌, ◌==◌, nat_le, true, false, not, List, [], ◌∷◌, length, Option, Some, None, option_map, unwrap_or, refl, sym, subst, arith, length-append, flat_map, flat_map-cons, and_parts, cond_both, not-true, to_le_bytes, AreBytes-append, Idn, Length, Two, Four, List1, List2, List4, is_list, Block, width_of, bytes_for, bits_in, number_end, is_number, find_block, is_sound, IsStore, DriveView, found_sound, found-carried, types, data_at, Shown, DriveCall, phase_in, cycle_in, blocks_in, annals, Said, shown_word, bytes_in_cycle, values_in, said, drive_says, fields_length, Keeps, two_bytes, AreBytes, word_bytes, fields, idns_at, data_in, value_in, cases_Option, inr, cases_Bool, idns_listed}
use Rattle.sercos_block.proofs.SoundLemmas.{value_len}
use Rattle.sercos_law_run.proofs.Typed.Replies.{data_bytes}
use Rattle.sercos_law_run.proofs.Start.WellLemmas.{item_small}
use Rattle.sercos_law_run.proofs.Journal.StationLemmas.{says_that}

-- a content that has a frame
pub record IsContent (content : List ℕ) : Type 0 where
  pub bytes : AreBytes content
  pub some : 0 < length content
  pub most : length content ≤ 2048

pub fields_bytes : (word info : ℕ) (values : List ℕ) → AreBytes values → AreBytes (fields word info values)
unfolding fields word_bytes
fields_bytes word info values are = AreBytes-append (word_bytes word) _ (two_bytes word) (AreBytes-append (word_bytes info) values (two_bytes info) are)

pub address_bytes : (address : ℕ) (bytes : List ℕ) → address < 256 → AreBytes bytes → AreBytes (address ∷ bytes)
unfolding AreBytes
address_bytes address bytes low are = (low, are)

no_bytes : AreBytes []
unfolding AreBytes
no_bytes = tt

-- A VALUE has at most four bytes
record IsValue (bytes : List ℕ) : Type 0 where
  are : AreBytes bytes
  few : length bytes ≤ 4

no_value : IsValue []
no_value = record { are = no_bytes; few = omega arith }

number_long : (l : Length) (n : ℕ) → length (to_le_bytes (width_of l) n) ≤ 4
number_long Two n = omega arith
number_long Four n = omega arith
number_long List1 n = omega arith
number_long List2 n = omega arith
number_long List4 n = omega arith

data_long : (cycle : ℕ) (b : Block) → is_list b.attribute.length ≡ false → is_sound b ≡ true → length (data_in cycle b) ≤ 4
unfolding data_in
data_long cycle b single sound = cond_both (b.step == 0) b.value
    (bytes_for b.attribute ((bits_in b.attribute b.value + b.step * cycle) % number_end b.attribute.length))
    (λ v. length v ≤ 4)
    (λ on. omega (arith, value_len b single sound, item_small b.attribute.length))
    (λ off. number_long b.attribute.length _)

block_value : (cycle : ℕ) (b : Block) → is_sound b ≡ true → AreBytes b.value → IsValue (unwrap_or (bytes_in_cycle cycle b) [])
block_value cycle b sound are = elim (cases_Bool (is_number b.attribute)) [
  | inl is ↦ rw is (record { are = data_bytes cycle b are; few = data_long cycle b (not-true _ (and_parts (not (is_list b.attribute.length)) (not b.attribute.command) is).0) sound })
  | inr is ↦ rw is no_value
]

value_so : (cycle : ℕ) (blocks : List Block) (idn : Idn) → IsStore blocks → IsValue (value_in cycle blocks idn)
unfolding value_in
value_so cycle blocks idn store = elim (cases_Option (find_block idn.raw blocks)) [
  | inl is ↦ rw is no_value
  | inr (b, is) ↦ rw is (block_value cycle b (found_sound idn.raw blocks b store.sound is) (types blocks idn.raw b store is).1)
]

-- ALL VALUES: at most sixteen
record AreValues (bytes : List ℕ) (n : ℕ) : Type 0 where
  are : AreBytes bytes
  few : length bytes ≤ 4 * n

all_values : (cycle : ℕ) (blocks : List Block) (idns : List Idn) → IsStore blocks → AreValues (flat_map (value_in cycle blocks) idns) (length idns)
all_values cycle blocks [] store = record { are = no_bytes; few = omega arith }
all_values cycle blocks (idn ∷ idns) store =
    let one = value_so cycle blocks idn store in
    let rest = all_values cycle blocks idns store in
    let both = length-append (value_in cycle blocks idn) (flat_map (value_in cycle blocks) idns) in
    subst (λ (bytes : List ℕ). AreValues bytes (suc (length idns))) (sym (flat_map-cons (value_in cycle blocks) idn idns))
    (record { are = AreBytes-append (value_in cycle blocks idn) _ one.are rest.are; few = omega (arith, one.few, rest.few, both) })

pairs : (bytes : List ℕ) → 2 * length (idns_listed bytes) ≤ length bytes
pairs [] = omega arith
pairs (low ∷ []) = omega arith
pairs (low ∷ high ∷ bytes) = omega (arith, pairs bytes)

listed_long : (blocks : List Block) (o : Option Block) → IsStore blocks → find_block 16 blocks ≡ o → length (unwrap_or (option_map (λ (b : Block). b.value) o) []) ≤ 32
listed_long blocks None store is = omega arith
listed_long blocks (Some b) store is = found-carried 16 blocks b b.value store is refl (inl refl)

values_so : (cycle phase : ℕ) (blocks : List Block) → IsStore blocks → AreValues (values_in cycle phase blocks) 16
unfolding idns_at
values_so cycle phase blocks store = elim (cases_Bool (nat_le 3 phase)) [
  | inl on ↦
      rw on (let all = all_values cycle blocks (idns_at blocks 16) store in let few = all.few in
      record { are = all.are; few = omega (arith, few, most) })
  | inr off ↦ rw off (record { are = no_bytes; few = omega arith })
]
  where
    most : length (idns_at blocks 16) ≤ 16
    most = omega (arith, listed_long blocks (find_block 16 blocks) store refl, (pairs (data_at blocks 16)))

said_content : (address cycle phase : ℕ) (blocks : List Block) (s : Shown) → address < 256 → IsStore blocks → IsContent (said address cycle phase blocks s).content
said_content address cycle phase blocks s low store =
    let v = values_so cycle phase blocks store in
    let few = v.few in
    let long = fields_length (shown_word s) s.word (values_in cycle phase blocks) in
    record { bytes = address_bytes address _ low (fields_bytes (shown_word s) s.word (values_in cycle phase blocks) v.are); some = omega arith; most = omega (arith, few, long) }

pub at_content : (d : DriveView) (rate : ℕ) (h : List DriveCall) (s : Said) → d.address < 256 → Keeps d (annals d rate h) → drive_says d rate h ≡ Some s → IsContent s.content
at_content d rate h s low keeps is = subst (λ (y : Said). IsContent y.content) (says_that d rate (annals d rate h) s is).1
    (said_content d.address (cycle_in (annals d rate h)) (phase_in (annals d rate h)) (blocks_in d (annals d rate h)) _ low keeps.store)
