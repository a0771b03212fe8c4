-- Phases, by the test whether they are 3 or 4.
use Rattle.sercos_law_run.proofs.Words.{◌≡◌, ℕ, ◌+◌, ◌≤◌, Bool, true, false, arith, if◌then◌else◌, nat_le, leb-true, le-leb, nat_tests}

pub late_so : (n : ℕ) → nat_le 3 n ≡ true → 3 ≤ n
late_so n is = leb-true 3 n is

pub early_so : (n : ℕ) → nat_le 3 n ≡ false → n ≤ 2
early_so n is = grind (arith, nat_tests, is)

pub is_late : (n : ℕ) → 3 ≤ n → nat_le 3 n ≡ true
is_late n late = le-leb 3 n late

pub not_late : (n : ℕ) → n ≤ 2 → nat_le 3 n ≡ false
not_late n early = grind (arith, nat_tests, early)

pub is_up : (n : ℕ) → 1 ≤ n → nat_le 1 n ≡ true
is_up n up = le-leb 1 n up

pub one_two : (n : ℕ) → 2 ≤ n → 1 ≤ n
one_two n two = omega (arith, two)

pub not_up : (n : ℕ) → n ≡ 0 → 1 ≤ n → ⊥
not_up n none up = omega (arith, none, up)

pub up_at : (n m : ℕ) → (n ≡ 0 → ⊥) → n ≡ m → 1 ≤ m
up_at n m some same = omega (arith, some, same)

pub was_two : (rises : Bool) (n m : ℕ) → (if rises then n + 1 else n) ≡ m → m ≤ 2 → n ≤ 2
was_two true n m is early = omega (arith, is, early)
was_two false n m is early = omega (arith, is, early)
