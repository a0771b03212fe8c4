-- Tests, and what they say of numbers.
use Rattle.std.proofs.Common.{◌≡◌, ℕ, suc, ◌-◌, ◌<◌, ◌≤◌, Bool, true, false, refl, arith, inl, inr}
use Rattle.std.specs.Prelude.{nat_le, nat_lt, ◌&&◌, ◌⊎◌}
use Rattle.std.proofs.lemmas.Bool.Decides.{nat_tests}

pub chosen : (b : Bool) → (b ≡ true) ⊎ (b ≡ false)
chosen true = inl refl
chosen false = inr refl

pub and_left : (a b : Bool) → (a && b) ≡ true → a ≡ true
and_left true b h = refl
and_left false b h = h

pub and_right : (a b : Bool) → (a && b) ≡ true → b ≡ true
and_right true b h = h
and_right false b h = cc

-- steps that stand before on both sides count for nothing
pub less_1 : (a b : ℕ) → nat_le (suc a) (suc b) ≡ false → b < a
less_1 a b h = grind (arith, nat_tests)

pub less_3 : (a b : ℕ) → nat_le (suc (suc (suc a))) (suc (suc (suc b))) ≡ false → b < a
less_3 a b h = grind (arith, nat_tests)

pub fewer : (a b : ℕ) → nat_le (suc a) (suc b) ≡ false → nat_le a b ≡ false
fewer a b h = grind (arith, nat_tests)

pub suc-false : (a b : ℕ) → nat_le a b ≡ false → nat_le (suc a) (suc b) ≡ false
suc-false a b h = grind (arith, nat_tests)

pub suc-true : (a b : ℕ) → nat_le a b ≡ true → nat_le (suc a) (suc b) ≡ true
suc-true a b h = grind (arith, nat_tests)

-- whether the word at a place is the last
pub last_by : (n k : ℕ) → k < n → nat_le (n - 1) k ≡ nat_le n (suc k)
last_by n k h = grind (arith, nat_tests)

pub last_by-behind : (n k : ℕ) → 1 ≤ k → (nat_lt 0 k && nat_le (n - 1) k) ≡ nat_le n (suc k)
last_by-behind n k h = grind (arith, nat_tests)

-- after the opening, and after the attribute, there are more steps
pub not_yet_1 : (n : ℕ) → 0 < n → false ≡ nat_le (suc n) 1
not_yet_1 n h = grind (arith, nat_tests)

pub not_yet_3 : (n : ℕ) → 0 < n → false ≡ nat_le (suc (suc (suc n))) 3
not_yet_3 n h = grind (arith, nat_tests)
