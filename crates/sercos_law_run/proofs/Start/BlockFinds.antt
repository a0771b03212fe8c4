-- Which block of a drive's store is found by an identifier number, and with which attribute.
use Rattle.sercos_law_run.proofs.Words.{◌≡◌, ℕ, ◌==◌, nat_lt, Bool, true, false, cond, not, ◌&&◌, ◌||◌, List, [], ◌∷◌, ◌++◌, map, length, Option, Some, None, is_none, option_map, option_and_then, refl, sym, ◌∙◌, ap, arith, list_all, option_or, and_parts, nat_tests, none_of-or, Block, BuiltIn, Field, BadBlock, DriveView, is_fixed, built_ins, is_built_in, built_in_block, has_block, block_fault, find_block, number_len, or_parts, IsNew, IsNew-block_fault, is_given, kept, IsStoreOf, CarryAlike, attribute_fault, built_in, blocks_fault, with_own, store_of, attribute_in, row_in, built_in_attribute, own_attribute, block_attribute, cases_Bool, cases_Option, inl, inr, cyclic_len, inserted}

-- if no block has the number, none is found
nowhere : (raw : ℕ) (blocks : List Block) → has_block raw blocks ≡ false → find_block raw blocks ≡ None
nowhere raw [] none = refl
nowhere raw (b ∷ blocks) none =
    let (here, rest) = or_parts (b.idn.raw == raw) (has_block raw blocks) none in rw here (nowhere raw blocks rest)

-- what is found with one more block, whose number is new
swap_found : (x y : Bool) (b c : Option Block) (o : Option Block) → (x ≡ true → y ≡ true → ⊥) → cond y c (cond x b o) ≡ cond x b (cond y c o)
swap_found true true b c o apart = absurd (apart refl refl)
swap_found true false b c o apart = refl
swap_found false y b c o apart = refl

find_inserted : (raw : ℕ) (b : Block) (blocks : List Block) → has_block b.idn.raw blocks ≡ false → find_block raw (inserted b blocks) ≡ cond (b.idn.raw == raw) (Some b) (find_block raw blocks)
unfolding inserted
find_inserted raw b [] new = refl
find_inserted raw b (c ∷ blocks) new =
    let (other, new') = or_parts (c.idn.raw == b.idn.raw) (has_block b.idn.raw blocks) new in
    elim (cases_Bool (nat_lt b.idn.raw c.idn.raw)) [
      | inl on ↦ rw on
      | inr off ↦
          rw off (rw (find_inserted raw b blocks new') (swap_found (b.idn.raw == raw) (c.idn.raw == raw) (Some b) (Some c)
          (find_block raw blocks) (λ is_b is_c. absurd (grind (arith, nat_tests)))))
    ]

-- a number that no block has stays so, if the block that is added has another
none_inserted : (n : ℕ) (b : Block) (blocks : List Block) → (b.idn.raw == n) ≡ false → has_block n blocks ≡ false → has_block n (inserted b blocks) ≡ false
unfolding inserted
none_inserted n b [] other none = rw other refl
none_inserted n b (c ∷ blocks) other none =
    let (here, rest) = or_parts (c.idn.raw == n) (has_block n blocks) none in
    (elim (cases_Bool (nat_lt b.idn.raw c.idn.raw)) [
      | inl on ↦ rw on (rw other none)
      | inr off ↦ rw off (rw (here, (none_inserted n b blocks other rest)) refl)
    ])

none_appended : (n : ℕ) (b : Block) (before : List Block) → has_block n (before ++ b ∷ []) ≡ false → ((b.idn.raw == n) ≡ false) × (has_block n before ≡ false)
none_appended n b [] none = ((or_parts (b.idn.raw == n) false none).0, refl)
none_appended n b (c ∷ before) none =
    let (here, rest) = or_parts (c.idn.raw == n) (has_block n (before ++ b ∷ [])) none in
    let (other, free) = none_appended n b before rest in (other, rw (here, free) refl)

-- With the drive's own blocks, the built-in ones are found first.
found_by : (x : Bool) (b : Block) (o p : Option Block) → (x ≡ true → o ≡ None) → option_or (cond x (Some b) o) p ≡ option_or o (cond x (Some b) p)
found_by true b o p none = rw (none refl) refl
found_by false b o p none = refl

or_none : (o : Option Block) → o ≡ option_or o None
or_none None = refl
or_none (Some b) = refl

new_at : (b : Block) (blocks : List Block) (n : ℕ) → (b.idn.raw == n) ≡ true → has_block b.idn.raw blocks ≡ false → has_block n blocks ≡ false
new_at b blocks n is new = let same : b.idn.raw ≡ n = grind (arith, nat_tests) in rw same at new

-- each of the drive's own blocks is new
pub first_is_new : (before : List Block) (b : Block) (own : List Block) → blocks_fault before (b ∷ own) ≡ None → IsNew before b × (blocks_fault (before ++ b ∷ []) own ≡ None)
unfolding blocks_fault
first_is_new before b own none =
    let (here, rest) = none_of-or (option_map {U = BadBlock} (λ (field : Field). record { index = length before; field = field }) (block_fault before b)) _ none in (
      IsNew-block_fault before b (elim (cases_Option (block_fault before b)) [
        | inl none ↦ rw none
        | inr (field, some) ↦ rw some (let e = rw some at here in cc)
      ]),
      rest,
    )

find_with_own : (raw : ℕ) (before own blocks : List Block) → blocks_fault before own ≡ None → ((n : ℕ) → (is_built_in n || has_block n before) ≡ false → has_block n blocks ≡ false)
    → find_block raw (with_own blocks own) ≡ option_or (find_block raw blocks) (find_block raw own)
unfolding with_own
find_with_own raw before [] blocks none has = or_none (find_block raw blocks)
find_with_own raw before (b ∷ own) blocks none has =
    let (new, rest) = first_is_new before b own none in
    let new' : has_block b.idn.raw blocks ≡ false = has b.idn.raw new.number in
    let more = find_with_own raw (before ++ b ∷ []) own (inserted b blocks) rest free in
    more ∙ rw (find_inserted raw b blocks new') (found_by (b.idn.raw == raw) b (find_block raw blocks) (find_block raw own) (λ is. nowhere raw blocks (new_at b blocks raw is new')))
  where
    free : (n : ℕ) → (is_built_in n || has_block n (before ++ b ∷ [])) ≡ false → has_block n (inserted b blocks) ≡ false
    free n none =
        let (built, rest) = or_parts (is_built_in n) (has_block n (before ++ b ∷ [])) none in
        let (other, before_none) = none_appended n b before rest in
        none_inserted n b blocks other (has n (rw (built, before_none) refl))

pub find_store_of : (raw : ℕ) (d : DriveView) → blocks_fault [] d.blocks ≡ None → find_block raw (store_of d) ≡ option_or (find_block raw (built_in d)) (find_block raw d.blocks)
unfolding store_of built_in
find_store_of raw d none = find_with_own raw [] d.blocks (built_in d) none (λ n free. (or_parts (is_built_in n) false free).0)

-- a built-in block is found by its row of the table, with the attribute of the row
find_rows : (d : DriveView) (raw : ℕ) (rows : List BuiltIn) → find_block raw (map (built_in_block d) rows) ≡ option_map (built_in_block d) (row_in rows raw)
unfolding row_in
find_rows d raw [] = refl
find_rows d raw (row ∷ rows) = elim (cases_Bool (row.idn.raw == raw)) [ inl on ↦ rw on | inr off ↦ rw off (find_rows d raw rows) ]

pub find_built_in : (d : DriveView) (raw : ℕ) → find_block raw (built_in d) ≡ option_map (built_in_block d) (row_in built_ins raw)
unfolding built_in
find_built_in d raw = find_rows d raw built_ins

row_attribute : (d : DriveView) (raw : ℕ) (rows : List BuiltIn) → list_all (λ (row : BuiltIn). is_none (attribute_fault row.attribute)) rows ≡ true
    → option_map (λ (b : Block). b.attribute) (option_map (built_in_block d) (row_in rows raw)) ≡ option_and_then (λ (row : BuiltIn). attribute_in row.attribute) (row_in rows raw)
unfolding row_in attribute_in
row_attribute d raw [] good = refl
row_attribute d raw (row ∷ rows) good =
    let (here, rest) = and_parts (is_none (attribute_fault row.attribute)) _ good in
    (elim (cases_Bool (row.idn.raw == raw)) [ inl on ↦ rw on (rw here refl) | inr off ↦ rw off (row_attribute d raw rows rest) ])

rows_good : list_all (λ (row : BuiltIn). is_none (attribute_fault row.attribute)) built_ins ≡ true
unfolding attribute_fault
rows_good = refl

map_or : (o p : Option Block) → option_map (λ (b : Block). b.attribute) (option_or o p) ≡ option_or (option_map (λ (b : Block). b.attribute) o) (option_map (λ (b : Block). b.attribute) p)
map_or None p = refl
map_or (Some b) p = refl

pub attribute_store_of : (raw : ℕ) (d : DriveView) → blocks_fault [] d.blocks ≡ None → option_map (λ (b : Block). b.attribute) (find_block raw (store_of d)) ≡ block_attribute d.blocks raw
unfolding block_attribute built_in_attribute own_attribute
attribute_store_of raw d none =
    ap (option_map (λ (b : Block). b.attribute)) (find_store_of raw d none)
    ∙ map_or (find_block raw (built_in d)) (find_block raw d.blocks)
    ∙ rw (find_built_in d raw, row_attribute d raw built_ins rows_good) refl

-- What no write changes: number, attribute, and which block is found.
pub kept_field : {X : Type 0} (f : Block → X) → ((b : Block) → f (record b { value = [] }) ≡ f b) → (b : Block) → f (kept b) ≡ f b
kept_field {X} f same b = elim (cases_Bool (is_fixed b && not (is_given b.idn.raw))) [ inl on ↦ rw on | inr off ↦ rw off (same b) ]

pub kept_idn : (b : Block) → (kept b).idn ≡ b.idn
kept_idn = kept_field (λ b. b.idn) (λ b. refl)

pub find_kept : (raw : ℕ) (blocks : List Block) → find_block raw (map kept blocks) ≡ option_map kept (find_block raw blocks)
find_kept raw [] = refl
find_kept raw (b ∷ blocks) = rw (kept_idn b) (elim (cases_Bool (b.idn.raw == raw)) [
  | inl on ↦ rw on
  | inr off ↦ rw off (find_kept raw blocks)
])

pub same_kept : (raw : ℕ) (d : DriveView) (blocks : List Block) → IsStoreOf d blocks → option_map kept (find_block raw blocks) ≡ option_map kept (find_block raw (store_of d))
same_kept raw d blocks is = sym (find_kept raw blocks) ∙ ap (find_block raw) is ∙ find_kept raw (store_of d)

attribute_kept : (o : Option Block) → option_map (λ (b : Block). b.attribute) (option_map kept o) ≡ option_map (λ (b : Block). b.attribute) o
attribute_kept None = refl
attribute_kept (Some b) = ap Some (kept_field (λ c. c.attribute) (λ c. refl) b)

pub same_attribute : (raw : ℕ) (d : DriveView) (blocks : List Block) → blocks_fault [] d.blocks ≡ None → IsStoreOf d blocks
    → option_map (λ (b : Block). b.attribute) (find_block raw blocks) ≡ block_attribute d.blocks raw
same_attribute raw d blocks none is =
    sym (attribute_kept (find_block raw blocks)) ∙ ap (option_map (λ (b : Block). b.attribute)) (same_kept raw d blocks is) ∙ attribute_kept (find_block raw (store_of d)) ∙ attribute_store_of raw d none

then_map : (o : Option Block) → option_and_then (λ (b : Block). number_len b.attribute) o ≡ option_and_then number_len (option_map (λ (b : Block). b.attribute) o)
then_map None = refl
then_map (Some b) = refl

pub carry_alike : CarryAlike
unfolding cyclic_len
carry_alike d blocks none is raw = then_map (find_block raw blocks) ∙ ap (option_and_then number_len) (same_attribute raw d blocks none is)
