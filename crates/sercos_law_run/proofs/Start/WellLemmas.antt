-- A ring's wishes are valid, and how the checks end.
use Rattle.sercos_law_run.proofs.Words.{◌≡◌, ℕ, suc, ◌+◌, ◌*◌, ◌<◌, ◌≤◌, ◌==◌, Bool, true, false, List, [], ◌∷◌, map, take, length, Some, slice_get, refl, ap, arith, fold, All, eqb-true, take_all, All-cons, All-nil, Idn, Length, Two, Four, List1, List2, List4, item_len, Block, is_number, DriveView, HasLens, block_attribute, value_len, wish_of, IsValid-wishes_of, breaks_1, breaks_2, breaks_6, breaks_7, breaks_8, breaks_9, breaks_10, breaks_15, breaks_list, breaks_89, listed_if, list_bytes, is_outside, idns_in, RingIsValid, ChecksEndWell, StopsWithList, listed_len, unfit_for_phase_3, unfit_for_phase_4, ◌/◌, ◌%◌, cases_Bool, cases_Option, inl, inr, Stop, cyclic_len}
use Rattle.sercos_law_run.proofs.Start.CheckPasses.{plan_passes_check, ring_drive, fit_in_ring}
use Rattle.sercos_law_run.proofs.Start.LimitLemmas.{passes_for_phase_4}

pub item_small : (l : Length) → item_len l ≤ 4
item_small Two = omega arith
item_small Four = omega arith
item_small List1 = omega arith
item_small List2 = omega arith
item_small List4 = omega arith

value_small : (blocks : List Block) (raw : ℕ) → value_len blocks raw ≤ 4
unfolding cyclic_len
value_small blocks raw = elim (cases_Option (block_attribute blocks raw)) [
  | inl none ↦ rw none (omega arith)
  | inr (a, some) ↦ rw some (elim (cases_Bool (is_number a)) [ inl on ↦ rw on (item_small a.length) | inr off ↦ rw off (omega arith) ])
]

sum_small : (f : Idn → ℕ) → ((i : Idn) → f i ≤ 4) → (a : ℕ) (idns : List Idn)
    → (a ≤ fold (λ (n : ℕ) (i : Idn). n + f i) a idns) × (fold (λ (n : ℕ) (i : Idn). n + f i) a idns ≤ a + 4 * length idns)
sum_small f small a [] = (omega arith, omega arith)
sum_small f small a (i ∷ idns) =
    let here = small i in
    let (low, high) = sum_small f small (a + f i) idns in (omega arith, omega arith)

listed_bounds : (blocks : List Block) (idns : List Idn) → length idns ≤ 16 → (4 ≤ listed_len blocks idns) × (listed_len blocks idns ≤ 68)
unfolding listed_len
listed_bounds blocks idns few =
    let (low, high) = sum_small (λ (i : Idn). value_len blocks i.raw) (λ i. value_small blocks i.raw) 0 idns in
    (omega arith, omega arith)

has_lens : (drives : List DriveView) → ((k : ℕ) (d : DriveView) → slice_get drives k ≡ Some d → (length d.at ≤ 16) × (length d.mdt ≤ 16)) → All HasLens (map wish_of drives)
has_lens [] few = All-nil HasLens
has_lens (d ∷ drives) few =
    let here = few 0 d refl in
    let at = listed_bounds d.blocks d.at here.0 in
    let mdt = listed_bounds d.blocks d.mdt here.1 in
    All-cons HasLens (wish_of d) (map wish_of drives) (at.0, at.1, mdt.0, mdt.1) (has_lens drives (λ k e at. few (suc k) e at))

pub ring_is_valid : RingIsValid
ring_is_valid r ok few = IsValid-wishes_of r ok (has_lens r.drives few)

pub none_long : (xs : List Idn) → (length xs == 0) ≡ true → xs ≡ []
none_long [] e = refl
none_long (x ∷ xs) e = let zero' : length (x ∷ xs) ≡ 0 = eqb-true (length (x ∷ xs)) 0 e in absurd (omega arith)

pub checks_end_well : ChecksEndWell
checks_end_well r p k d blocks ok valid fits at store is holds =
    let most = (fit_in_ring r p k d valid fits at).cycle_end in
    let small : r.cycle < 65536 = omega arith in (
      rw (plan_passes_check r p k d blocks ok valid fits at is holds) refl,
      λ low high. let same = passes_for_phase_4 d blocks r.cycle store (ring_drive r k d ok at).blocks is holds.1.0 small low high in
          ((λ e. same.0 (none_long (unfit_for_phase_4 blocks) e)), (λ none. rw (same.1 none) refl)),
    )

-- the lists of the checks have at most 11 entries, and at most one for each block
named_short : (raw n : ℕ) (broken : Bool) (rest : List Idn) → length rest ≤ n → length (listed_if raw broken rest) ≤ suc n
named_short raw n true rest short = omega arith
named_short raw n false rest short = omega arith

unfit_short : (rate : ℕ) (blocks : List Block) → length (unfit_for_phase_3 rate blocks) ≤ 11
unfolding unfit_for_phase_3
unfit_short rate blocks =
    let from_89 = named_short 89 0 (breaks_89 rate blocks) [] (omega arith) in
    let from_16 = named_short 16 2 (breaks_list 16 blocks) _ (named_short 24 1 (breaks_list 24 blocks) _ from_89) in
    let from_10 = named_short 10 4 (breaks_10 blocks) _ (named_short 15 3 (breaks_15 blocks) _ from_16) in
    let from_8 = named_short 8 6 (breaks_8 blocks) _ (named_short 9 5 (breaks_9 blocks) _ from_10) in
    let from_6 = named_short 6 8 (breaks_6 blocks) _ (named_short 7 7 (breaks_7 blocks) _ from_8) in
    named_short 1 10 (breaks_1 blocks) _ (named_short 2 9 (breaks_2 blocks) _ from_6)

unfit_4_short : (blocks : List Block) → length (unfit_for_phase_4 blocks) ≤ length blocks
unfolding unfit_for_phase_4
unfit_4_short [] = omega arith
unfit_4_short (b ∷ blocks) = elim (cases_Bool (is_outside b)) [
  | inl on ↦ rw on (let h = unfit_4_short blocks in omega arith)
  | inr off ↦ rw off (let h = unfit_4_short blocks in omega arith)
]

pub read_back : (idns : List Idn) → idns_in (list_bytes idns) ≡ idns
read_back [] = refl
read_back (i ∷ idns) = let same : i.raw % 256 + 256 * (i.raw / 256) ≡ i.raw = omega arith in rw (same, read_back idns) refl

whole : (idns : List Idn) → length idns ≤ 64 → take 64 (idns_in (list_bytes idns)) ≡ idns
whole idns short = rw (read_back idns) (take_all 64 idns short)

pub stops_with_list : StopsWithList
stops_with_list address rate blocks store = (
  ap (λ (idns : List Idn). Some (Stop.Check127 address (record { items = idns }))) (whole _ (omega (arith, unfit_short rate blocks))),
  ap (λ (idns : List Idn). Some (Stop.Check128 address (record { items = idns })))
      (whole _ (omega (arith, unfit_4_short blocks, store.few))),
)
