-- Each block that the start-up writes is a built-in one, and write protected in phase 4.
use Rattle.sercos_law_trace.proofs.Words.{◌≡◌, ℕ, ◌==◌, Bool, true, false, ◌||◌, List, [], ◌∷◌, Option, Some, None, refl, sym, ap, ◌∙◌, option_map, list_all, list_any, option_or, and_parts, eqb-true, false≢true, Block, BuiltIn, is_protected, built_ins, built_in, built_in_block, blocks_fault, find_block, store_of, DriveView, start_numbers, find_store_of, find_built_in, row_in, same_Some}
use Rattle.sercos_idn.specs.Attributes.{attribute_of}

-- the blocks that the start-up writes or has written: the two lists, the two checks, and the values of the plan
abbrev pub all_start : List ℕ
all_start = 21 ∷ 22 ∷ 127 ∷ 128 ∷ start_numbers

-- whether the start-up writes to the block with this number
abbrev pub is_start : ℕ → Bool
is_start raw = list_any (λ (n : ℕ). n == raw) all_start

-- a row of the table, of a block that is write protected in phase 4
abbrev is_guarded : Option BuiltIn → Bool
is_guarded None = false
is_guarded (Some row) = is_protected (attribute_of row.attribute) 4

all_guarded : list_all (λ (n : ℕ). is_guarded (row_in built_ins n)) all_start ≡ true
unfolding row_in attribute_of
all_guarded = refl

in_all : (test : ℕ → Bool) (numbers : List ℕ) (raw : ℕ) → list_all test numbers ≡ true → list_any (λ (n : ℕ). n == raw) numbers ≡ true → test raw ≡ true
in_all test [] raw all any = absurd (false≢true any)
in_all test (n ∷ numbers) raw all any = let parts = and_parts (test n) _ all in by (n == raw) refl any parts.0 (in_all test numbers raw parts.1)
  where
    by : (b : Bool) → (n == raw) ≡ b → (b || list_any (λ (m : ℕ). m == raw) numbers) ≡ true → test n ≡ true → (list_any (λ (m : ℕ). m == raw) numbers ≡ true → test raw ≡ true) → test raw ≡ true
    by true is any here rest = ap test (sym (eqb-true n raw is)) ∙ here
    by false is any here rest = rest any

-- SO IT IS with the block of a drive's store.
pub start_guarded : (d : DriveView) → blocks_fault [] d.blocks ≡ None → (raw : ℕ) (b : Block) → is_start raw ≡ true → find_block raw (store_of d) ≡ Some b → is_protected b.attribute 4 ≡ true
start_guarded d rules raw b start found = by (row_in built_ins raw) (find_built_in d raw) (in_all (λ (n : ℕ). is_guarded (row_in built_ins n)) all_start raw all_guarded start)
  where
    by : (o : Option BuiltIn) → find_block raw (built_in d) ≡ option_map (built_in_block d) o → is_guarded o ≡ true → is_protected b.attribute 4 ≡ true
    by None built guard = absurd (false≢true guard)
    by (Some row) built guard =
        let same = same_Some (built_in_block d row) b (sym (find_store_of raw d rules ∙ ap (λ (o : Option Block). option_or o (find_block raw d.blocks)) built) ∙ found) in
        ap (λ (c : Block). is_protected c.attribute 4) (sym same) ∙ guard
