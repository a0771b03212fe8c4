-- Which blocks can be outside their limits, and which of the start-up values can be refused.
use Rattle.sercos_law_run.proofs.Words.{◌≡◌, ◌↔◌, ℕ, ◌+◌, ◌*◌, ◌/◌, ◌<◌, ◌≤◌, ◌%◌, ◌==◌, nat_lt, Bool, true, false, cond, not, ◌&&◌, ◌||◌, List, [], ◌∷◌, map, length, Option, Some, None, option_map, refl, sym, ◌∙◌, ap, arith, slice_index, then_some, w16, to_le_bytes, list_all, list_any, filter, option_or, and_parts, le-ltb, eq-eqb, eqb-true, or_from, nat_tests, Idn, Block, BuiltIn, Opening, CycleTime, built_ins, is_built_in, built_in_block, opening_limit, blocks_fault, find_block, put_fault, store_of, DriveView, data_at, is_outside, list_bytes, kept, IsStoreOf, RefusesCycle, TakesStartUp, is_own_outside, NamesOwn, PassesForPhase4, BuiltInIsSteady, attribute_of, built_in, data_fault, are_ascending, row_in, unfit_for_phase_4, data_in, cases_Bool, inl, inr}
use Rattle.sercos_law_run.proofs.Start.Nested.{◌&◌}
use Rattle.sercos_law_run.proofs.Start.BlockFinds.{find_store_of, find_built_in, kept_field, same_kept}
use Rattle.sercos_law_run.proofs.Start.KeptLemmas.{refuse_alike}

pub or_first : (o p : Option Block) (b : Block) → o ≡ Some b → option_or o p ≡ Some b
or_first o p b e = rw e refl

-- a write to a built-in block is refused as at opening
refused_as : (d : DriveView) (blocks : List Block) (raw : ℕ) (c : Block) (bytes : List ℕ) → blocks_fault [] d.blocks ≡ None → IsStoreOf d blocks → find_block raw (built_in d) ≡ Some c
    → put_fault (find_block raw blocks) 2 bytes ≡ put_fault (Some c) 2 bytes
refused_as d blocks raw c bytes none is there =
    refuse_alike d blocks is raw 2 bytes ∙ ap (λ (o : Option Block). put_fault o 2 bytes) (find_store_of raw d none ∙ or_first _ _ c there)

pub in_order : (a b : Bool) (x y : ℕ) → option_or (then_some a x) (then_some b y) ≡ cond a (Some x) (cond b (Some y) None)
in_order true b x y = refl
in_order false true x y = refl
in_order false false x y = refl

pub refuses_cycle : RefusesCycle
unfolding built_in data_fault attribute_of
refuses_cycle d blocks cycle none is small =
    let back : cycle % 256 + cycle / 256 % 256 * 256 ≡ cycle = omega arith in
    refused_as d blocks 2 _ (to_le_bytes w16 cycle) none is refl ∙ rw back (in_order (nat_lt cycle d.cycle_min) (nat_lt d.cycle_max cycle) 0x7006 0x7007)

-- the other values aren't refused
number_taken : (d : DriveView) (blocks : List Block) (raw n : ℕ) (c : Block) → blocks_fault [] d.blocks ≡ None → IsStoreOf d blocks → find_block raw (built_in d) ≡ Some c
    → put_fault (Some c) 2 (to_le_bytes w16 n) ≡ None → put_fault (find_block raw blocks) 2 (to_le_bytes w16 n) ≡ None
number_taken d blocks raw n c none is there taken = refused_as d blocks raw c (to_le_bytes w16 n) none is there ∙ taken

pub length_list : (idns : List Idn) → length (list_bytes idns) ≡ 2 * length idns
length_list [] = refl
length_list (idn ∷ idns) = let rest = length_list idns in omega arith

pub takes_start_up : TakesStartUp
unfolding built_in data_fault attribute_of
takes_start_up d blocks control cycle k p none is at mdt =
    let at_len = length_list d.at in
    let mdt_len = length_list d.mdt in
    let at_short : nat_lt 32 (length (list_bytes d.at)) ≡ false = le-ltb 32 (length (list_bytes d.at)) (omega arith) in
    let mdt_short : nat_lt 32 (length (list_bytes d.mdt)) ≡ false = le-ltb 32 (length (list_bytes d.mdt)) (omega arith) in
    let at_whole : (length (list_bytes d.at) % 2 == 0) ≡ true = eq-eqb (length (list_bytes d.at) % 2) 0 (omega arith) in
    let mdt_whole : (length (list_bytes d.mdt) % 2 == 0) ≡ true = eq-eqb (length (list_bytes d.mdt) % 2) 0 (omega arith) in
    (λ other. number_taken d blocks 1 control _ none is refl refl)
    & (λ other. absurd (cc))
    & (λ other. number_taken d blocks 6 (slice_index p.t1 k) _ none is refl refl)
    & (λ other. number_taken d blocks 7 p.t4 _ none is refl refl)
    & (λ other. number_taken d blocks 8 p.t3 _ none is refl refl)
    & (λ other. number_taken d blocks 9 (slice_index p.position k) _ none is refl refl)
    & (λ other. number_taken d blocks 10 p.mdt_len _ none is refl refl)
    & (λ other. number_taken d blocks 15 7 _ none is refl refl)
    & (λ other. refused_as d blocks 16 _ (list_bytes d.at) none is refl ∙ rw (at_short, at_whole) refl)
    & (λ other. refused_as d blocks 24 _ (list_bytes d.mdt) none is refl ∙ rw (mdt_short, mdt_whole) refl)
    & (λ other. number_taken d blocks 89 p.t2 _ none is refl refl)
    & tt

-- each block of a store is found by its number
abbrev EachFound : List Block → List Block → Type 0
EachFound all [] = Unit {0}
EachFound all (b ∷ blocks) = (find_block b.idn.raw all ≡ Some b) × EachFound all blocks

found_later : (c : Block) (all blocks : List Block) → list_all (λ b. nat_lt c.idn.raw b.idn.raw) blocks ≡ true → EachFound all blocks → EachFound (c ∷ all) blocks
found_later c all [] above found = tt
found_later c all (b ∷ blocks) above found =
    let (here, rest) = and_parts (nat_lt c.idn.raw b.idn.raw) (list_all (λ b. nat_lt c.idn.raw b.idn.raw) blocks) above in
    let other : (c.idn.raw == b.idn.raw) ≡ false = grind (arith, nat_tests) in (rw other found.0, found_later c all blocks rest found.1)

each_found : (blocks : List Block) → are_ascending blocks ≡ true → EachFound blocks blocks
unfolding are_ascending
each_found [] up = tt
each_found (b ∷ blocks) up =
    let (above, rest) = and_parts (list_all (λ c. nat_lt b.idn.raw c.idn.raw) blocks) (are_ascending blocks) up in
    (rw (eq-eqb b.idn.raw b.idn.raw refl) refl, found_later b blocks blocks above (each_found blocks rest))

-- the row of a built-in number has no limits, unless it is that of the cycle time
abbrev is_limited : Opening → Bool
is_limited CycleTime = true
is_limited _ = false

abbrev is_good : BuiltIn → Bool
is_good row = (row.idn.raw == 2) || not (is_limited row.opening)

record RowFound (raw : ℕ) (rows : List BuiltIn) : Type 0 where
  row : BuiltIn
  is : row_in rows raw ≡ Some row
  good : is_good row ≡ true
  number : row.idn.raw ≡ raw

row_found : (raw : ℕ) (rows : List BuiltIn) → list_any (λ (row : BuiltIn). row.idn.raw == raw) rows ≡ true → list_all is_good rows ≡ true → RowFound raw rows
unfolding row_in
row_found raw [] any good = cc
row_found raw (row ∷ rows) any good =
    let (here, rest) = and_parts (is_good row) (list_all is_good rows) good in
    elim (cases_Bool (row.idn.raw == raw)) [
      | inl e ↦ record { row = row; is = rw e refl; good = here; number = eqb-true row.idn.raw raw e }
      | inr e ↦
          let found = row_found raw rows (rw e at any) rest in
          record { row = found.row; is = rw e found.is; good = found.good; number = found.number }
    ]

-- Whether a block is outside its limits depends on what no write changes, and on its operation data.
outside_kept : (b : Block) → is_outside b ≡ is_outside (record (kept b) { value = b.value })
outside_kept b = sym (kept_field (λ c. is_outside (record c { value = b.value })) (λ c. refl) b)

unlimited : (o : Opening) (limit : ℕ) → is_limited o ≡ false → opening_limit o limit ≡ None
unlimited CycleTime limit none = cc
unlimited o limit none = refl

not_or : (x y : Bool) → (x || not y) ≡ true → x ≡ false → y ≡ false
not_or true y h e = cc
not_or false true h e = cc
not_or false false h e = refl

cycle_inside : (d : DriveView) (b : Block) (cycle : ℕ) (c : Block) → find_block 2 (built_in d) ≡ Some c → kept b ≡ kept c → b.value ≡ to_le_bytes w16 cycle
    → cycle < 65536 → d.cycle_min ≤ cycle → cycle ≤ d.cycle_max → is_outside b ≡ false
unfolding built_in attribute_of
cycle_inside d b cycle c there same value small low high =
    let at : built_in_block d (record { idn = record { raw = 2 }; attribute = 0x60110001; fixed = false; opening = CycleTime }) ≡ c = cc in
    let same' = same ∙ ap kept (sym at) in
    let back : cycle % 256 + cycle / 256 % 256 * 256 ≡ cycle = omega arith in
    outside_kept b ∙ ap (λ (k : Block). is_outside (record k { value = b.value })) same' ∙ rw (value, back) (or_from _ _ (le-ltb cycle d.cycle_min low) (le-ltb d.cycle_max cycle high))

option_same : (b : Block) (o : Option Block) (c : Block) → option_map kept (Some b) ≡ option_map kept o → o ≡ Some c → kept b ≡ kept c
option_same b None c e f = cc
option_same b (Some x) c e f = let here : kept b ≡ kept x = cc in let same : x ≡ c = cc in here ∙ ap kept same

built_in_inside : (d : DriveView) (blocks : List Block) (cycle : ℕ) (b : Block) → blocks_fault [] d.blocks ≡ None → IsStoreOf d blocks → find_block b.idn.raw blocks ≡ Some b
    → is_built_in b.idn.raw ≡ true → data_at blocks 2 ≡ to_le_bytes w16 cycle → cycle < 65536 → d.cycle_min ≤ cycle → cycle ≤ d.cycle_max → is_outside b ≡ false
built_in_inside d blocks cycle b none is found built value small low high =
    let row = row_found b.idn.raw built_ins built (refl) in
    let there : find_block b.idn.raw (built_in d) ≡ Some (built_in_block d row.row) = find_built_in d b.idn.raw ∙ ap (option_map (built_in_block d)) row.is in
    let first : find_block b.idn.raw (store_of d) ≡ Some (built_in_block d row.row) = find_store_of b.idn.raw d none ∙ or_first _ _ _ there in
    let same : kept b ≡ kept (built_in_block d row.row) = option_same b _ _ (ap (option_map kept) (sym found) ∙ same_kept b.idn.raw d blocks is) first in
    by row.row (row.row.idn.raw == 2) refl row.good row.number there same
  where
    by : (row : BuiltIn) (two : Bool) → (row.idn.raw == 2) ≡ two → is_good row ≡ true → row.idn.raw ≡ b.idn.raw → find_block b.idn.raw (built_in d) ≡ Some (built_in_block d row)
        → kept b ≡ kept (built_in_block d row) → is_outside b ≡ false
    by row true e good number there same =
        let raw : b.idn.raw ≡ 2 = grind (arith, nat_tests) in
        let there' = rw raw at there in
        let found' = rw raw at found in
        let value' : b.value ≡ to_le_bytes w16 cycle = rw found' at value in
        cycle_inside d b cycle (built_in_block d row) there' same value' small low high
    by row false e good number there same = let low = sym (kept_field (λ b. b.min) (λ b. refl) b) ∙ ap (λ (c : Block). c.min) same
        ∙ (kept_field (λ b. b.min) (λ b. refl)) (built_in_block d row)
        ∙ unlimited row.opening d.cycle_min (not_or (row.idn.raw == 2) (is_limited row.opening) good e) in
        let high =
        sym (kept_field (λ b. b.max) (λ b. refl) b) ∙ ap (λ (c : Block). c.max) same
        ∙ (kept_field (λ b. b.max) (λ b. refl)) (built_in_block d row)
        ∙ unlimited row.opening d.cycle_max (not_or (row.idn.raw == 2) (is_limited row.opening) good e) in
        rw (low, high) refl

own_by : (built outside : Bool) → (built ≡ true → outside ≡ false) → outside ≡ (not built && outside)
own_by true outside none = none refl
own_by false outside none = refl

outside_alike : (d : DriveView) (blocks : List Block) (cycle : ℕ) → blocks_fault [] d.blocks ≡ None → IsStoreOf d blocks → data_at blocks 2 ≡ to_le_bytes w16 cycle
    → cycle < 65536 → d.cycle_min ≤ cycle → cycle ≤ d.cycle_max → (some : List Block) → EachFound blocks some → filter is_outside some ≡ filter is_own_outside some
outside_alike d blocks cycle none is value small low high [] found = refl
outside_alike d blocks cycle none is value small low high (b ∷ some) found =
    let here : is_outside b ≡ is_own_outside b =
    own_by (is_built_in b.idn.raw) (is_outside b) (λ built. built_in_inside d blocks cycle b none is found.0 built value small low high) in
    both (is_outside b) (is_own_outside b) here (outside_alike d blocks cycle none is value small low high some found.1)
  where
    both : (x y : Bool) → x ≡ y → filter is_outside some ≡ filter is_own_outside some → cond x (b ∷ filter is_outside some) (filter is_outside some) ≡ cond y (b ∷ filter is_own_outside some) (filter is_own_outside some)
    both x y e f = rw (e, f) refl

pub names_own : NamesOwn
unfolding unfit_for_phase_4
names_own d blocks cycle store none is value small low high =
    ap (map (λ (b : Block). b.idn)) (outside_alike d blocks cycle none is value small low high blocks (each_found blocks store.ascending))

-- no block passes a test exactly if none is listed
none_passes : (p : Block → Bool) (blocks : List Block) → (map (λ (b : Block). b.idn) (filter p blocks) ≡ []) ↔ (list_any p blocks ≡ false)
none_passes p [] = ((λ e. refl), (λ e. refl))
none_passes p (b ∷ blocks) = elim (cases_Bool (p b)) [
  | inl on ↦ rw on (let same = none_passes p blocks in ((λ e. cc), (λ e. cc)))
  | inr off ↦ rw off (none_passes p blocks)
]

pub passes_for_phase_4 : PassesForPhase4
passes_for_phase_4 d blocks cycle store none is value small low high =
    rw (names_own d blocks cycle store none is value small low high) (none_passes is_own_outside blocks)

-- a built-in block has no step
pub kept_step : (b : Block) → (kept b).step ≡ b.step
kept_step = kept_field (λ b. b.step) (λ b. refl)

pub built_in_is_steady : BuiltInIsSteady
unfolding data_in
built_in_is_steady d blocks raw cycle b none is built found =
    let row = row_found raw built_ins built (refl) in
    let there : find_block raw (built_in d) ≡ Some (built_in_block d row.row) = find_built_in d raw ∙ ap (option_map (built_in_block d)) row.is in
    let first : find_block raw (store_of d) ≡ Some (built_in_block d row.row) = find_store_of raw d none ∙ or_first _ _ _ there in
    let same : kept b ≡ kept (built_in_block d row.row) = option_same b _ _ (ap (option_map kept) (sym found) ∙ same_kept raw d blocks is) first in
    rw (sym (kept_step b) ∙ ap (λ (c : Block). c.step) same ∙ kept_step (built_in_block d row.row)) refl
