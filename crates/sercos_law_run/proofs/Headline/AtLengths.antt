-- An AT is as long as the list in its drive's store says.
use Rattle.sercos_law_run.proofs.Words.{cases_Bool, ◌≡◌, ℕ, ◌+◌, ◌*◌, ◌%◌, Bool, true, false, not, List, [], ◌∷◌, length, refl, ◌∙◌, ap, arith, if◌then◌else◌, length-append, cond_both, ◌==◌, nat_le, unwrap_or, sum_by, flat_map, to_le_bytes, nat_tests, flat_map-cons, sum_by-cons, Idn, Length, Two, Four, List1, List2, List4, is_list, item_len, Block, is_number, width_of, bits_in, number_end, bytes_for, IsStore, find_block, is_len, SoundParts-is_sound, idns_at, values_in, found_sound, carried_len, data_in, value_in, cases_Option, inl, inr, not-true, and_parts}
use Rattle.sercos_command.specs.Checks.{cyclic_len}

number_length : (l : Length) (n : ℕ) → is_list l ≡ false → length (to_le_bytes (width_of l) n) ≡ item_len l
number_length Two n single = refl
number_length Four n single = refl
number_length List1 n single = cc
number_length List2 n single = cc
number_length List4 n single = cc

value_len : (count most item : ℕ) (list : Bool) → list ≡ false → (if list then nat_le count most else count == item) ≡ true → count ≡ item
value_len count most item true single is = cc
value_len count most item false single is = grind (arith, nat_tests, is)

data_length : (cycle : ℕ) (b : Block) → is_list b.attribute.length ≡ false → is_len b (length b.value) ≡ true → length (data_in cycle b) ≡ item_len b.attribute.length
unfolding data_in
data_length cycle b single is = cond_both (b.step == 0) b.value
    (bytes_for b.attribute ((bits_in b.attribute b.value + b.step * cycle) % number_end b.attribute.length))
    (λ v. length v ≡ item_len b.attribute.length)
    (λ on. value_len (length b.value) b.max_len (item_len b.attribute.length) (is_list b.attribute.length) single is)
    (λ off. number_length b.attribute.length _ single)

value_length : (cycle : ℕ) (blocks : List Block) (idn : Idn) → IsStore blocks → length (value_in cycle blocks idn) ≡ unwrap_or (cyclic_len blocks idn.raw) 0
unfolding value_in
value_length cycle blocks idn store = elim (cases_Option (find_block idn.raw blocks)) [
  | inl is ↦ rw is
  | inr (b, is) ↦ rw is (elim (cases_Bool (is_number b.attribute)) [
    | inl on ↦ rw on (data_length cycle b (not-true (is_list b.attribute.length) (and_parts (not (is_list b.attribute.length)) _ on).0)
        (SoundParts-is_sound b (found_sound idn.raw blocks b store.sound is)).len)
    | inr off ↦ rw off refl
  ])
]

values_length : (cycle : ℕ) (blocks : List Block) (idns : List Idn) → IsStore blocks → length (flat_map (value_in cycle blocks) idns) ≡ sum_by (λ (idn : Idn). unwrap_or (cyclic_len blocks idn.raw) 0) idns
values_length cycle blocks [] store = refl
values_length cycle blocks (idn ∷ idns) store =
    let one = value_length cycle blocks idn store in
    let rest = values_length cycle blocks idns store in
    let both = length-append (value_in cycle blocks idn) (flat_map (value_in cycle blocks) idns) in
    let sum = sum_by-cons (λ (i : Idn). unwrap_or (cyclic_len blocks i.raw) 0) idn idns in
    ap (λ (l : List ℕ). length l) (flat_map-cons (value_in cycle blocks) idn idns) ∙ omega (arith, one, rest, both, sum)

-- in phases 3 and 4, with the two words before the values
pub carried_length : (cycle phase : ℕ) (blocks : List Block) → IsStore blocks → nat_le 3 phase ≡ true → 4 + length (values_in cycle phase blocks) ≡ carried_len blocks 16
unfolding carried_len
carried_length cycle phase blocks store late = rw late (ap (λ (n : ℕ). 4 + n) (values_length cycle blocks (idns_at blocks 16) store))
