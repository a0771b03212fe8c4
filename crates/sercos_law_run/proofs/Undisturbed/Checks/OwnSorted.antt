-- The own blocks of a drive in its store are those of its description, ascending by identifier number; and the master takes the list of those
-- that are outside from its bytes.
use Rattle.sercos_law_run.proofs.Words.{◌≡◌, ℕ, Bool, true, not, ◌&&◌, List, [], ◌∷◌, ◌++◌, None, refl, sym, ap, ◌∙◌, arith, ◌≤◌, nat_le, nat_lt, cond, length, map, take, filter, list_all, and_from, and_parts, nat_tests, take_all, length-filter_both, is_built_in, blocks_fault, has_block, DriveView, Block, all_inserted, or_parts, is_outside, list_bytes, idns_in, length_map, is_own_outside, built_in, with_own, store_of, cases_Bool, inl, inr, inserted}
use Rattle.sercos_law_run.proofs.Start.BlockFinds.{first_is_new}
use Rattle.sercos_law_run.proofs.Start.WellLemmas.{read_back}

abbrev is_own : Block → Bool
is_own b = not (is_built_in b.idn.raw)

-- ASCENDING, where two may have the same number
abbrev are_ordered : List Block → Bool
are_ordered [] = true
are_ordered (b ∷ blocks) = list_all (λ (c : Block). nat_le b.idn.raw c.idn.raw) blocks && are_ordered blocks

all_above : (p : Block → Bool) (low high : ℕ) (blocks : List Block) → nat_lt low high ≡ true → list_all (λ (c : Block). nat_le high c.idn.raw) blocks ≡ true → list_all (λ (c : Block). nat_lt low c.idn.raw) (filter p blocks) ≡ true
all_above p low high [] less all = refl
all_above p low high (c ∷ blocks) less all =
    let parts = and_parts (nat_le high c.idn.raw) (list_all (λ (d : Block). nat_le high d.idn.raw) blocks) all in
    let here : nat_lt low c.idn.raw ≡ true = grind (arith, nat_tests, less, parts.0) in
    let rest = all_above p low high blocks less parts.1 in elim (cases_Bool (p c)) [ inl on ↦ rw (on, here) rest | inr off ↦ rw off rest ]

all_more : (low high : ℕ) (blocks : List Block) → nat_lt low high ≡ true → list_all (λ (c : Block). nat_le high c.idn.raw) blocks ≡ true → list_all (λ (c : Block). nat_le low c.idn.raw) blocks ≡ true
all_more low high [] less all = refl
all_more low high (c ∷ blocks) less all =
    let parts = and_parts (nat_le high c.idn.raw) (list_all (λ (d : Block). nat_le high d.idn.raw) blocks) all in
    let here : nat_le low c.idn.raw ≡ true = grind (arith, nat_tests, less, parts.0) in rw here (all_more low high blocks less parts.1)

ordered_inserted : (b : Block) (blocks : List Block) → are_ordered blocks ≡ true → are_ordered (inserted b blocks) ≡ true
unfolding inserted
ordered_inserted b [] ordered = refl
ordered_inserted b (c ∷ blocks) ordered =
    let parts = and_parts (list_all (λ (d : Block). nat_le c.idn.raw d.idn.raw) blocks) (are_ordered blocks) ordered in
    elim (cases_Bool (nat_lt b.idn.raw c.idn.raw)) [
      | inl less ↦
          let here : nat_le b.idn.raw c.idn.raw ≡ true = grind (arith, nat_tests, less) in
          rw (less, here, all_more b.idn.raw c.idn.raw blocks less parts.0) ordered
      | inr less ↦
          let here : nat_le c.idn.raw b.idn.raw ≡ true = grind (arith, nat_tests, less) in
          rw (less, all_inserted (λ (d : Block). nat_le c.idn.raw d.idn.raw) b blocks here parts.0) (ordered_inserted b blocks parts.1)
    ]

-- A block that is less than all comes first.
inserted_first : (b : Block) (blocks : List Block) → list_all (λ (c : Block). nat_lt b.idn.raw c.idn.raw) blocks ≡ true → inserted b blocks ≡ b ∷ blocks
unfolding inserted
inserted_first b [] all = refl
inserted_first b (c ∷ blocks) all =
    ap (λ (v : Bool). cond v (b ∷ c ∷ blocks) (c ∷ inserted b blocks)) (and_parts (nat_lt b.idn.raw c.idn.raw) (list_all (λ (d : Block). nat_lt b.idn.raw d.idn.raw) blocks) all).0

filter_inserted : (p : Block → Bool) (b : Block) (blocks : List Block) → are_ordered blocks ≡ true → p b ≡ true → filter p (inserted b blocks) ≡ inserted b (filter p blocks)
unfolding inserted
filter_inserted p b [] ordered is = ap (λ (v : Bool). cond v (b ∷ []) []) is
filter_inserted p b (c ∷ blocks) ordered is =
    let parts = and_parts (list_all (λ (d : Block). nat_le c.idn.raw d.idn.raw) blocks) (are_ordered blocks) ordered in
    elim (cases_Bool (nat_lt b.idn.raw c.idn.raw)) [
      | inl less ↦ elim (cases_Bool (p c)) [
        | inl own ↦ rw (less, is, own, less)
        | inr own ↦ rw (less, is, own) (sym (inserted_first b (filter p blocks) (all_above p b.idn.raw c.idn.raw blocks less parts.0)))
      ]
      | inr less ↦ elim (cases_Bool (p c)) [
        | inl own ↦ rw (less, own, less, filter_inserted p b blocks parts.1 is)
        | inr own ↦ rw (less, own) (filter_inserted p b blocks parts.1 is)
      ]
    ]

filter_with_own : (p : Block → Bool) (own blocks : List Block) → are_ordered blocks ≡ true → list_all p own ≡ true → filter p (with_own blocks own) ≡ with_own (filter p blocks) own
unfolding with_own
filter_with_own p [] blocks ordered all = refl
filter_with_own p (b ∷ own) blocks ordered all =
    let parts = and_parts (p b) (list_all p own) all in
    filter_with_own p own (inserted b blocks) (ordered_inserted b blocks ordered) parts.1 ∙ ap (λ (l : List Block). with_own l own) (filter_inserted p b blocks ordered parts.0)

-- THE BLOCKS of a drive
ordered_built_in : (d : DriveView) → are_ordered (built_in d) ≡ true
unfolding built_in
ordered_built_in d = refl

none_own : (d : DriveView) → filter is_own (built_in d) ≡ []
unfolding built_in
none_own d = refl

all_own : (before own : List Block) → blocks_fault before own ≡ None → list_all is_own own ≡ true
all_own before [] none = refl
all_own before (b ∷ own) none =
    let (new, rest) = first_is_new before b own none in
    and_from (is_own b) (list_all is_own own) (ap not (or_parts (is_built_in b.idn.raw) (has_block b.idn.raw before) new.number).0) (all_own (before ++ b ∷ []) own rest)

both_tests : (blocks : List Block) → filter is_own_outside blocks ≡ filter is_outside (filter is_own blocks)
both_tests [] = refl
both_tests (b ∷ blocks) = elim (cases_Bool (is_built_in b.idn.raw)) [
  | inl on ↦ rw on (both_tests blocks)
  | inr off ↦ rw off (ap (λ (l : List Block). cond (is_outside b) (b ∷ l) l) (both_tests blocks))
]

own_sorted : (d : DriveView) → blocks_fault [] d.blocks ≡ None → filter is_own_outside (store_of d) ≡ filter is_outside (with_own [] d.blocks)
unfolding store_of
own_sorted d rules =
    both_tests (with_own (built_in d) d.blocks)
    ∙ ap (filter is_outside) (filter_with_own is_own d.blocks (built_in d) (ordered_built_in d) (all_own [] d.blocks rules) ∙ ap (λ (l : List Block). with_own l d.blocks) (none_own d))

-- THE LIST as the master takes it from its bytes
pub list_back : (d : DriveView) → blocks_fault [] d.blocks ≡ None → length (store_of d) ≤ 64
    → take 64 (idns_in (list_bytes (map (λ (b : Block). b.idn) (filter is_own_outside (store_of d))))) ≡ map (λ (b : Block). b.idn) (filter is_outside (with_own [] d.blocks))
list_back d rules few =
    let listed = length_map (λ (b : Block). b.idn) (filter is_own_outside (store_of d)) in
    let parts = length-filter_both is_own_outside (λ (b : Block). not (is_own_outside b)) (λ b. refl) (store_of d) in
    ap (take 64) (read_back (map (λ (b : Block). b.idn) (filter is_own_outside (store_of d))))
    ∙ take_all 64 (map (λ (b : Block). b.idn) (filter is_own_outside (store_of d))) (omega (arith, listed, parts, few))
    ∙ ap (map (λ (b : Block). b.idn)) (own_sorted d rules)
