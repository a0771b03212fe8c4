-- Sums over the drives, and the cycles of the reads and the writes of a drive in phase 2.
use Rattle.sercos_law_run.proofs.Words.{◌≡◌, inr, ℕ, zero, suc, ◌+◌, ◌<◌, ◌≤◌, List, [], ◌∷◌, length, arith, slice_index_or, sum_by, sum_by-cons, DriveView, View, AreListed, read_cycles, write_cycles, sum_below, no_drive}

-- SUMS over the drives: by their places, and by the list
pub shifted : (n : ℕ) (f : ℕ → ℕ) → sum_below (suc n) f ≡ f 0 + sum_below n (λ i. f (suc i))
shifted zero f = omega arith
shifted (suc n) f = let more = shifted n f in omega (arith, more)

pub sum_within : (f : ℕ → ℕ) (bound : DriveView → ℕ) (drives : List DriveView) → ((k : ℕ) → k < length drives → f k ≤ bound (slice_index_or drives k no_drive)) → sum_below (length drives) f ≤ sum_by bound drives
sum_within f bound [] within = omega arith
sum_within f bound (d ∷ drives) within =
    let more = sum_within (λ i. f (suc i)) bound drives (λ k low. within (suc k) (omega (arith, low))) in
    let sum = sum_by-cons bound d drives in omega (arith, within 0 (omega arith), more, shifted (length drives) f, sum)

-- no list has more than 512 words
pub listed_all : (views : List View) → AreListed (λ raw. 512) views
listed_all [] = tt
listed_all (v ∷ views) = (listed_all views, λ raw b found list. inr (omega arith))

-- the cycles of the reads and the writes of a drive
abbrev pub section_two : DriveView → ℕ
section_two d = read_cycles d + write_cycles d
