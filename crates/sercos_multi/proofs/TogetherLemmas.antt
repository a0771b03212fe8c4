-- Moments that are multiples of the cycle time.
use Rattle.std.proofs.Common.{◌≡◌, ℕ, zero, suc, ◌+◌, ◌-◌, ◌*◌, ◌<◌, ◌≤◌, ◌==◌, ◌⊎◌, inl, inr, Bool, true, false, ◌||◌, if◌then◌else◌, List, [], ◌∷◌, refl, sym, ap, subst, arith}
use Rattle.std.specs.Prelude.{Some, nat_le, slice_get}
use Rattle.std.proofs.lemmas.Bool.{cases_lt}
use Rattle.std.proofs.lemmas.Bool.Decides.{nat_tests}
use Rattle.sercos_trace.specs.Views.{CycleView}
use Rattle.sercos_multi.specs.Asking.{is_common, voice_of, voices_from}
use Rattle.sercos_multi.specs.Merged.{Voice, begun, from_moment, is_cycle, is_timed, span}
use Rattle.sercos_config.specs.Views.{DocumentView}
use Rattle.sercos_multi.specs.RingRuns.{BeginTogether}

-- each moment at which a cycle begins is a multiple of the cycle time
record IsMultiple (time m : ℕ) : Type 0 where
  pub times : ℕ
  pub is : m ≡ times * time

record Divides (time : ℕ) : Type 0 where
  pub times : ℕ
  pub is : 1000 ≡ times * time
  pub some : 0 < time

divides : (time : ℕ) → is_common time ≡ true → Divides time
divides time is = elim (cases (time == 125) (time == 250) (time == 500) (time == 1000) is) [
  | inl a ↦ let e : time ≡ 125 = grind (arith, nat_tests, a) in record { times = 8; is = omega (arith, e); some = omega (arith, e) }
  | inr (inl b) ↦ let e : time ≡ 250 = grind (arith, nat_tests, b) in record { times = 4; is = omega (arith, e); some = omega (arith, e) }
  | inr (inr (inl c)) ↦ let e : time ≡ 500 = grind (arith, nat_tests, c) in record { times = 2; is = omega (arith, e); some = omega (arith, e) }
  | inr (inr (inr d)) ↦ let e : time ≡ 1000 = grind (arith, nat_tests, d) in record { times = 1; is = omega (arith, e); some = omega (arith, e) }
]
  where
    cases : (a b c d : Bool) → (a || b || c || d) ≡ true → (a ≡ true) ⊎ ((b ≡ true) ⊎ ((c ≡ true) ⊎ (d ≡ true)))
    cases true b c d is = inl refl
    cases false true c d is = inr (inl refl)
    cases false false true d is = inr (inr (inl refl))
    cases false false false d is = inr (inr (inr is))

plus_cycle : (q time at : ℕ) → at ≡ q * time → at + time ≡ (q + 1) * time
plus_cycle q time at is = grind (arith, is)

plus_times : (q k time at : ℕ) → at ≡ q * time → 1000 ≡ k * time → at + 1000 ≡ (q + k) * time
plus_times q k time at is whole = grind (arith, is, whole)

multiple : (time at : ℕ) (later : List CycleView) (m : ℕ) → Divides time → IsMultiple time at → is_cycle (from_moment time at later m) ≡ true → IsMultiple time m
unfolding from_moment is_cycle
multiple time at [] m d q begins = absurd (cc)
multiple time at (t ∷ later) m d q begins = by (at == m) refl begins (multiple time (at + span time t.phase) later m d (next (nat_le t.phase 2)))
  where
    next : (b : Bool) → IsMultiple time (at + (if b then 1000 else time))
    next true = record { times = q.times + d.times; is = plus_times q.times d.times time at q.is d.is }
    next false = record { times = q.times + 1; is = plus_cycle q.times time at q.is }

    by : (b : Bool) → (at == m) ≡ b → is_cycle (if b then t ∷ later else from_moment time (at + span time t.phase) later m) ≡ true
        → (is_cycle (from_moment time (at + span time t.phase) later m) ≡ true → IsMultiple time m) → IsMultiple time m
    by true same begins rest = let here : at ≡ m = grind (arith, nat_tests, same) in subst (IsMultiple time) here q
    by false other begins rest = rest begins

timed_cycle : (later : List CycleView) → is_timed later ≡ true → is_cycle later ≡ true
unfolding is_timed is_cycle
timed_cycle [] is = cc
timed_cycle (t ∷ later) is = refl

more_times : (q r time : ℕ) → (q + 1 + r) * time ≡ q * time + time + r * time
more_times q r time = grind arith

sum_times : (q s time : ℕ) → (q + s) * time ≡ q * time + s * time
sum_times q s time = grind arith

begins_then : (time : ℕ) (u v : Voice) (m b : ℕ) → is_common time ≡ true → u.at ≡ 0 → v.at ≡ 0 → is_cycle (begun time m u) ≡ true → is_timed (begun time b v) ≡ true → b ≤ m → m < b + time → b ≡ m
begins_then time u v m b common u_at v_at begins timed low high =
    let d = divides time common in
    let start : (a : ℕ) → a ≡ 0 → IsMultiple time a = λ a none. record { times = 0; is = omega (arith, none) } in
    let first = multiple time u.at u.later m d (start u.at u_at) begins in
    let second = multiple time v.at v.later b d (start v.at v_at) (timed_cycle (begun time b v) timed) in
    by first.times second.times first.is second.is
  where
    by : (p q : ℕ) → m ≡ p * time → b ≡ q * time → b ≡ m
    by p q m_is b_is = elim (cases_lt q p) [
      | inl below ↦
          let split : p ≡ q + 1 + (p - q - 1) = omega (arith, below) in
          let product = ap (λ n. n * time) split in
          let parts = more_times q (p - q - 1) time in
          absurd (omega (arith, m_is, b_is, product, parts, high))
      | inr above ↦
          let split : q ≡ p + (q - p) = omega (arith, above) in
          let product = ap (λ n. n * time) split in
          let parts = sum_times p (q - p) time in
          omega (arith, m_is, b_is, product, parts, low)
    ]

-- each ring begins its first cycle at 0
starts_at_0 : (n : ℕ) (documents : List DocumentView) (k : ℕ) (v : Voice) → slice_get (voices_from n documents) k ≡ Some v → v.at ≡ 0
unfolding voices_from
starts_at_0 n [] k v got = cc
starts_at_0 n (d ∷ documents) zero v got = let same : voice_of n d ≡ v = cc in sym (ap (λ (w : Voice). w.at) same)
starts_at_0 n (d ∷ documents) (suc k) v got = starts_at_0 (n + 1) documents k v got

pub together : (time : ℕ) (documents : List DocumentView) → is_common time ≡ true → BeginTogether time (voices_from 1 documents)
together time documents common i k u v moment other first second begins timed low high =
    begins_then time u v moment other common (starts_at_0 1 documents i u first) (starts_at_0 1 documents k v second) begins timed low high
