-- Every drive of the ring has its turn in the order, and the data records are apart.
use Rattle.sercos_law_run.proofs.Words.{◌≡◌, ℕ, zero, suc, ◌+◌, ◌<◌, ◌≤◌, inl, inr, List, [], ◌∷◌, map, length, take, drop, slice_index, slice_index_or, refl, arith, fold, concat, take-append_seam, drop-append-add, cases_order, Wish, no_wish, record_bytes, positions, AreSeparate}
use Rattle.std.proofs.lemmas.List.{length-append}

-- each data record comes after those before it, and is within the sum of all
sum_above : (a : ℕ) (ds : List Wish) → fold (λ (n : ℕ) (d : Wish). n + d.record_len) a ds ≡ a + fold (λ (n : ℕ) (d : Wish). n + d.record_len) 0 ds
sum_above a [] = omega arith
sum_above a (d ∷ ds) =
    let more = sum_above (a + d.record_len) ds in
    let one = sum_above (0 + d.record_len) ds in omega arith

pub record_first : (d : Wish) (ds : List Wish) → record_bytes (d ∷ ds) ≡ d.record_len + record_bytes ds
record_first d ds = let one = sum_above (0 + d.record_len) ds in omega arith

pub place_from : (next : ℕ) (ds : List Wish) (k : ℕ) → k < length ds → next ≤ slice_index (positions next ds) k
place_from next [] k within = absurd (omega arith)
place_from next (d ∷ ds) zero within = omega arith
place_from next (d ∷ ds) (suc k) within = let there = place_from (next + d.record_len) ds k (omega arith) in omega arith

pub place_within : (next : ℕ) (ds : List Wish) (k : ℕ) → k < length ds → slice_index (positions next ds) k + (slice_index_or ds k no_wish).record_len ≤ next + record_bytes ds
place_within next [] k within = absurd (omega arith)
place_within next (d ∷ ds) zero within = let one = record_first d ds in omega arith
place_within next (d ∷ ds) (suc k) within =
    let there = place_within (next + d.record_len) ds k (omega arith) in
    let one = record_first d ds in omega arith

pub place_before : (next : ℕ) (ds : List Wish) (j k : ℕ) → j < k → k < length ds → slice_index (positions next ds) j + (slice_index_or ds j no_wish).record_len ≤ slice_index (positions next ds) k
place_before next [] j k less within = absurd (omega arith)
place_before next (d ∷ ds) j zero less within = absurd (omega arith)
place_before next (d ∷ ds) zero (suc k) less within = place_from (next + d.record_len) ds k (omega arith)
place_before next (d ∷ ds) (suc j) (suc k) less within = place_before (next + d.record_len) ds j k (omega arith) (omega arith)

pub places_apart : (next : ℕ) (ds : List Wish) (j k : ℕ) → j < length ds → k < length ds → (j ≡ k → ⊥)
    → AreSeparate (slice_index (positions next ds) k) (slice_index_or ds k no_wish).record_len (slice_index (positions next ds) j) (slice_index_or ds j no_wish).record_len
places_apart next ds j k hj hk other = elim (cases_order j k) [
  | inl same ↦ absurd (other same)
  | inr (inl less) ↦ inr (place_before next ds j k less hk)
  | inr (inr more) ↦ inl (place_before next ds k j more hj)
]

-- the data records of an MDT are at the positions of the plan
same_head : (a b : ℕ) (xs ys : List ℕ) → (a ∷ xs) ≡ (b ∷ ys) → (a ≡ b) × (xs ≡ ys)
same_head a b xs ys e = (cc, cc)

pub record_place_is : (next : ℕ) (records : List (List ℕ)) (ds : List Wish) (k : ℕ) → map length records ≡ map (λ (d : Wish). d.record_len) ds → k < length ds
    → next + length (concat (take k records)) ≡ slice_index (positions next ds) k
record_place_is next records [] k same within = absurd (omega arith)
record_place_is next [] (d ∷ ds) k same within = cc
record_place_is next (r ∷ records) (d ∷ ds) zero same within = omega arith
record_place_is next (r ∷ records) (d ∷ ds) (suc k) same within =
    let (here, rest) = same_head _ _ _ _ same in
    let there = record_place_is (next + d.record_len) records ds k rest (omega arith) in
    let both = length-append r (concat (take k records)) in omega arith

pub length_records : (records : List (List ℕ)) (ds : List Wish) → map length records ≡ map (λ (d : Wish). d.record_len) ds → length (concat records) ≡ record_bytes ds
length_records [] [] same = refl
length_records [] (d ∷ ds) same = cc
length_records (r ∷ records) [] same = cc
length_records (r ∷ records) (d ∷ ds) same =
    let (here, rest) = same_head _ _ _ _ same in
    let there = length_records records ds rest in
    let both = length-append r (concat records) in
    let first = record_first d ds in omega arith

pub length_record : (records : List (List ℕ)) (ds : List Wish) (k : ℕ) → map length records ≡ map (λ (d : Wish). d.record_len) ds → k < length ds
    → length (slice_index_or records k []) ≡ (slice_index_or ds k no_wish).record_len
length_record records [] k same within = absurd (omega arith)
length_record [] (d ∷ ds) k same within = cc
length_record (r ∷ records) (d ∷ ds) zero same within = (same_head _ _ _ _ same).0
length_record (r ∷ records) (d ∷ ds) (suc k) same within = length_record records ds k (same_head _ _ _ _ same).1 (omega arith)

pub record_there : (records : List (List ℕ)) (k : ℕ) → k < length records → take (length (slice_index_or records k [])) (drop (length (concat (take k records))) (concat records)) ≡ slice_index_or records k []
record_there [] k within = absurd (omega arith)
record_there (r ∷ records) zero within = take-append_seam r (concat records)
record_there (r ∷ records) (suc k) within =
    rw (length-append r (concat (take k records)), drop-append-add r (concat records) (length (concat (take k records)))) (record_there records k (omega arith))
