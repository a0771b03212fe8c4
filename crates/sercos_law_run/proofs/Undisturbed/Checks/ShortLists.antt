-- The list of a check for phase 4 names at most 37 blocks: a drive's own ones, of which there are 36, and the cycle time.
use Rattle.sercos_law_run.proofs.Words.{◌≡◌, inl, inr, ℕ, zero, suc, ◌+◌, ◌<◌, ◌≤◌, Bool, true, ◌||◌, List, [], ◌∷◌, ◌++◌, length, map, Option, Some, None, refl, sym, ap, ◌∙◌, subst, arith, if◌then◌else◌, ◌==◌, nat_lt, nat_le, is_some, slice_index_or, cases_eq, false≢true, and_parts, leb-true, none-some, Job, is_ring, blocks_fault, find_block, is_below, is_above, put_fault, are_ascending, DriveView, RingView, Block, is_outside, list_bytes, blocks_in, annals, CycleView, Carry, Restarts, IsStoreOf, kept, AreListed, no_drive, drive_at, given_mst, views_of, built_in, is_drive, are_drives, has_blocks, with_own, store_of, unfit_for_phase_4, length_map, cases_Bool, same_Some, ne_eqb, filter, inserted}
use Rattle.sercos_law_run.proofs.Start.BlockFinds.{find_store_of, kept_field}
use Rattle.sercos_law_run.proofs.Start.KeptLemmas.{refuse_alike}
use Rattle.sercos_law_run.proofs.Journal.StationLemmas.{drives_so}
use Rattle.sercos_law_run.proofs.Undisturbed.Checks.BlockStays.{IsAt, stays_at}
use Rattle.sercos_law_run.proofs.Start.LimitLemmas.{length_list}

-- THE BLOCKS WITH LIMITS
abbrev is_limited : Block → Bool
is_limited b = is_some b.min || is_some b.max

abbrev limited : List Block → ℕ
limited blocks = length (filter is_limited blocks)

outside_limited : (b : Block) → is_outside b ≡ true → is_limited b ≡ true
outside_limited b = by b.min b.max
  where
    by : (low high : Option ℕ) → (is_below b b.value low || is_above b b.value high) ≡ true → (is_some low || is_some high) ≡ true
    by None None outside = absurd (false≢true outside)
    by (Some l) high outside = refl
    by None (Some h) outside = refl

fewer : (p q : Block → Bool) → ((b : Block) → p b ≡ true → q b ≡ true) → (blocks : List Block) → length (filter p blocks) ≤ length (filter q blocks)
fewer p q then_q [] = omega arith
fewer p q then_q (b ∷ blocks) = let more = fewer p q then_q blocks in elim (cases_Bool (p b)) [
  | inl on ↦ rw (on, then_q b on) (omega (arith, more))
  | inr off ↦ elim (cases_Bool (q b)) [ inl on ↦ rw (off, on) (omega (arith, more)) | inr none ↦ rw (off, none) more ]
]

-- no write changes the limits
limited_kept : (blocks : List Block) → limited (map kept blocks) ≡ limited blocks
limited_kept [] = refl
limited_kept (b ∷ blocks) = rw (kept_field is_limited (λ c. refl) b)
    (elim (cases_Bool (is_limited b)) [ inl on ↦ rw on (omega (arith, limited_kept blocks)) | inr off ↦ rw off (limited_kept blocks) ])

-- of the built-in blocks the cycle time alone has them
one_limited : (d : DriveView) → limited (built_in d) ≡ 1
unfolding built_in
one_limited d = refl

limited_inserted : (b : Block) (blocks : List Block) → limited (inserted b blocks) ≤ suc (limited blocks)
unfolding inserted
limited_inserted b [] = elim (cases_Bool (is_limited b)) [ inl on ↦ rw on (omega arith) | inr off ↦ rw off (omega arith) ]
limited_inserted b (c ∷ blocks) = let rest = limited_inserted b blocks in elim (cases_Bool (nat_lt b.idn.raw c.idn.raw)) [
  | inl less ↦ rw less (elim (cases_Bool (is_limited b)) [ inl on ↦ rw on (omega arith) | inr off ↦ rw off (omega arith) ])
  | inr more ↦ rw more (elim (cases_Bool (is_limited c)) [ inl on ↦ rw on (omega (arith, rest)) | inr off ↦ rw off rest ])
]

limited_own : (blocks own : List Block) → limited (with_own blocks own) ≤ limited blocks + length own
unfolding with_own
limited_own blocks [] = omega arith
limited_own blocks (b ∷ own) = omega (arith, limited_own (inserted b blocks) own, (limited_inserted b blocks))

limited_store : (d : DriveView) → limited (store_of d) ≤ suc (length d.blocks)
unfolding store_of
limited_store d = omega (arith, limited_own (built_in d) d.blocks, (one_limited d))

few_outside : (d : DriveView) (blocks : List Block) → IsStoreOf d blocks → length (filter is_outside blocks) ≤ suc (length d.blocks)
few_outside d blocks stored =
    let same = sym (limited_kept blocks) ∙ ap limited stored ∙ limited_kept (store_of d) in
    omega (arith, fewer is_outside is_limited outside_limited blocks, same, limited_store d)

short_outside : (d : DriveView) (blocks : List Block) → length d.blocks ≤ 36 → IsStoreOf d blocks → length (list_bytes (unfit_for_phase_4 blocks)) ≤ 74
unfolding unfit_for_phase_4
short_outside d blocks few stored =
    let long = length_list (map (λ (b : Block). b.idn) (filter is_outside blocks)) in
    omega (arith, long, length_map (λ (b : Block). b.idn) (filter is_outside blocks), (few_outside d blocks stored), few)

-- THE LIST of the check: the block is fixed, so no write to it is accepted
pub fixed_22 : (d : DriveView) (blocks : List Block) (phase : ℕ) (bytes : List ℕ) → blocks_fault [] d.blocks ≡ None → IsStoreOf d blocks → put_fault (find_block 22 blocks) phase bytes ≡ None → ⊥
unfolding built_in
fixed_22 d blocks phase bytes rules stored none =
    let refused : put_fault (find_block 22 (store_of d)) phase bytes ≡ Some 0x7004 = rw (find_store_of 22 d rules) refl in
    none-some (0x7004) (sym none ∙ refuse_alike d blocks stored 22 phase bytes ∙ refused)

-- at opening it is empty
first_22 : (d : DriveView) → blocks_fault [] d.blocks ≡ None → IsAt 22 (λ (b : Block). length b.value ≤ 74) (store_of d)
unfolding built_in
first_22 d rules c found =
    subst (λ (b : Block). length b.value ≤ 74) (same_Some _ c (sym (find_store_of 22 d rules) ∙ found)) (omega arith)

-- no drive has more than 36 blocks of its own
few_in : (before drives : List DriveView) (k : ℕ) → are_drives before drives ≡ true → k < length drives → nat_le (length (slice_index_or drives k no_drive).blocks) 36 ≡ true
unfolding are_drives is_drive has_blocks
few_in before [] k are below = absurd (omega arith)
few_in before (d ∷ drives) zero are below = (and_parts _ _ (and_parts _ _ (and_parts _ _ (and_parts _ _ (and_parts _ _ are).0).1).1).0).0
few_in before (d ∷ drives) (suc k) are below = few_in (before ++ d ∷ []) drives k (and_parts _ _ are).1 (omega arith)

pub few_blocks : (r : RingView) (k : ℕ) → is_ring r ≡ true → k < length r.drives → length (drive_at r k).blocks ≤ 36
few_blocks r k valid below = leb-true (length (drive_at r k).blocks) 36 (few_in [] r.drives k (drives_so r valid) below)

-- as the costs of a start-up ask for it
abbrev pub longest_list : ℕ → ℕ
longest_list raw = if raw == 22 then 37 else 512

pub lists_short : (r : RingView) (jobs : List Job) (carry : Carry) (restarts : Restarts) (k : ℕ)
    → blocks_fault [] (drive_at r k).blocks ≡ None → length (drive_at r k).blocks ≤ 36 → are_ascending (store_of (drive_at r k)) ≡ true
    → (j : List CycleView) → AreListed longest_list (views_of r jobs carry restarts k j)
lists_short r jobs carry restarts k rules few ascending [] = tt
lists_short r jobs carry restarts k rules few ascending (t ∷ j) = (
  lists_short r jobs carry restarts k rules few ascending j,
  λ raw b found list. elim (cases_eq raw 22) [
    | inl same ↦
        inl (omega (
          arith,
          ap longest_list same,
          stays_at (drive_at r k) 22 (λ (c : Block). length c.value ≤ 74)
              (record {
                first = first_22 (drive_at r k) rules;
                write = λ blocks phase bytes stored allowed b found. absurd
                    (fixed_22 (drive_at r k) blocks phase bytes rules stored allowed);
                list_3 = λ rate blocks stored same b found. absurd
                    (omega (arith, same));
                list_4 = λ blocks stored same b found. short_outside (drive_at r k) blocks few stored;
              }) r.rate
              (given_mst carry restarts t.sent j k) ascending b
              (subst (λ (n : ℕ). find_block n (blocks_in (drive_at r k) (annals (drive_at r k) r.rate (given_mst carry restarts t.sent j k)))
              ≡ Some b) same found),
        ))
    | inr other ↦
        let most : longest_list raw ≡ 512 = ap (λ (x : Bool). if x then 37 else 512) (ne_eqb raw 22 other) in inr (omega (arith, most))
  ],
)
