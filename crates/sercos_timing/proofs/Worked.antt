-- Worked values of the definitions, which the checker computes.
use Rattle.std.proofs.Common.{◌≡◌, ℕ, zero, suc, ◌<◌, inl, inr, List, [], ◌∷◌, refl, arith, slice_index}
use Rattle.std.specs.Prelude.{Some, None, Option}
use Rattle.sercos_model.specs.Frames.{wire_bits}
use Rattle.sercos_timing.specs.Views.{PlanView}
use Rattle.sercos_timing.specs.Order.{wish}
use Rattle.sercos_timing.specs.Valid.{IsWish, IsValid, addresses}
use Rattle.sercos_timing.specs.FirstBroken.{first_broken, broken_by, broken_position}
use Rattle.sercos_timing.specs.Examples.{two_drives, three_drives, large_drives}
use Rattle.sercos_timing.specs.declared.fitting.Broken.{Broken}

-- the greatest frames of an MST, an AT with one or two values, and an MDT with two or six
mst_bits : wire_bits 2 ≡ 54
mst_bits = refl

small_at : wire_bits 9 ≡ 121
small_at = refl

small_mdt : wire_bits 17 ≡ 198
small_mdt = refl

large_at : wire_bits 13 ≡ 160
large_at = refl

large_mdt : wire_bits 37 ≡ 390
large_mdt = refl

-- a plan of these starting times and of records of equal length
abbrev plan : List ℕ → ℕ → ℕ → ℕ → List ℕ → ℕ → PlanView
plan t1 t2 t3 t4 position mdt_len = record { t1 = t1; t2 = t2; t3 = t3; t4 = t4; position = position; mdt_len = mdt_len }

abbrev broken : ℕ → ℕ → Option Broken
broken rule drive = Some (record { rule = rule; drive = drive })

-- plans that fit
two_fit : first_broken (two_drives 250 10) (plan (10 ∷ 46 ∷ []) 83 153 230 (1 ∷ 9 ∷ []) 16) ≡ None
unfolding first_broken broken_by broken_position
two_fit = refl

three_fit : first_broken three_drives (plan (10 ∷ 46 ∷ 101 ∷ []) 138 227 230 (1 ∷ 9 ∷ 17 ∷ []) 24) ≡ None
unfolding first_broken broken_by broken_position
three_fit = refl

large_fit : first_broken large_drives (plan (20 ∷ 70 ∷ 120 ∷ []) 175 323 900 (1 ∷ 13 ∷ 25 ∷ []) 36) ≡ None
unfolding first_broken broken_by broken_position
large_fit = refl

-- a microsecond less, or more at T4, breaks the inequality that asks for it
breaks_own : first_broken (two_drives 250 10) (plan (9 ∷ 46 ∷ []) 83 153 230 (1 ∷ 9 ∷ []) 16) ≡ broken 1 1
unfolding first_broken broken_by broken_position
breaks_own = refl

breaks_gap : first_broken (two_drives 250 10) (plan (10 ∷ 45 ∷ []) 83 153 230 (1 ∷ 9 ∷ []) 16) ≡ broken 3 2
unfolding first_broken broken_by broken_position
breaks_gap = refl

breaks_recovery : first_broken three_drives (plan (10 ∷ 46 ∷ 100 ∷ []) 138 227 230 (1 ∷ 9 ∷ 17 ∷ []) 24) ≡ broken 4 3
unfolding first_broken broken_by broken_position
breaks_recovery = refl

breaks_last : first_broken (two_drives 250 10) (plan (10 ∷ 46 ∷ []) 81 153 230 (1 ∷ 9 ∷ []) 16) ≡ broken 5 0
unfolding first_broken broken_by broken_position
breaks_last = refl

breaks_master : first_broken (two_drives 250 10) (plan (10 ∷ 46 ∷ []) 82 153 230 (1 ∷ 9 ∷ []) 16) ≡ broken 6 2
unfolding first_broken broken_by broken_position
breaks_master = refl

breaks_records : first_broken (two_drives 250 10) (plan (10 ∷ 46 ∷ []) 83 152 230 (1 ∷ 9 ∷ []) 16) ≡ broken 7 1
unfolding first_broken broken_by broken_position
breaks_records = refl

breaks_cycle : first_broken (two_drives 250 10) (plan (10 ∷ 46 ∷ []) 83 251 230 (1 ∷ 9 ∷ []) 16) ≡ broken 8 0
unfolding first_broken broken_by broken_position
breaks_cycle = refl

-- with a TMTSY of 104 microseconds the MST just keeps its time, with 105 it doesn't
keeps_next_mst : first_broken (two_drives 250 104) (plan (10 ∷ 46 ∷ []) 83 153 230 (1 ∷ 9 ∷ []) 16) ≡ None
unfolding first_broken broken_by broken_position
keeps_next_mst = refl

breaks_next_mst : first_broken (two_drives 250 105) (plan (10 ∷ 46 ∷ []) 83 153 230 (1 ∷ 9 ∷ []) 16) ≡ broken 9 0
unfolding first_broken broken_by broken_position
breaks_next_mst = refl

breaks_capture : first_broken (two_drives 250 10) (plan (10 ∷ 46 ∷ []) 83 153 231 (1 ∷ 9 ∷ []) 16) ≡ broken 10 1
unfolding first_broken broken_by broken_position
breaks_capture = refl

breaks_position : first_broken (two_drives 250 10) (plan (10 ∷ 46 ∷ []) 83 153 230 (1 ∷ 10 ∷ []) 16) ≡ broken 12 2
unfolding first_broken broken_by broken_position
breaks_position = refl

breaks_length : first_broken (two_drives 250 10) (plan (10 ∷ 46 ∷ []) 83 153 230 (1 ∷ 9 ∷ []) 17) ≡ broken 12 0
unfolding first_broken broken_by broken_position
breaks_length = refl

-- wishes are valid
below_two : (P : ℕ → Type 0) → P 0 → P 1 → (k : ℕ) → k < 2 → P k
below_two P first second zero below = first
below_two P first second (suc zero) below = second
below_two P first second (suc (suc k)) below = absurd (omega arith)

apart_two : (P : ℕ → ℕ → Type 0) → P 0 1 → (i j : ℕ) → i < j → j < 2 → P i j
apart_two P h zero zero less below = absurd (omega arith)
apart_two P h zero (suc zero) less below = h
apart_two P h (suc i) (suc zero) less below = absurd (omega arith)
apart_two P h (suc i) zero less below = absurd (omega arith)
apart_two P h i (suc (suc j)) less below = absurd (omega arith)

pub two_drives_valid : IsValid (two_drives 250 10)
two_drives_valid = record {
  drives = record {
    some = omega arith;
    few = omega arith;
    wishes = below_two (λ k. IsWish (wish (two_drives 250 10) k)) (record { address = (omega arith, omega arith); at_len = (omega arith, omega arith); record_len = (omega arith, omega arith) }) (record { address = (omega arith, omega arith); at_len = (omega arith, omega arith); record_len = (omega arith, omega arith) });
    apart = apart_two (λ i j. slice_index (addresses (two_drives 250 10).drives) i ≡ slice_index (addresses (two_drives 250 10).drives) j → ⊥) (λ e. omega arith);
    mdt_len = omega arith;
  };
  order = record {
    count = refl;
    within = below_two (λ i. slice_index (two_drives 250 10).order i < 2) (omega arith) (omega arith);
    once = apart_two (λ i j. slice_index (two_drives 250 10).order i ≡ slice_index (two_drives 250 10).order j → ⊥) (λ e. omega arith);
  };
  cycles = record { rate = inr (inl refl); cycle = inr (omega arith, omega arith, refl); control = (omega arith, refl); gap = omega arith };
}
