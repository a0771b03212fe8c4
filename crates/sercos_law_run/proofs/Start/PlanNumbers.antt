-- What the numbers of a plan that fits keep for one drive.
use Rattle.sercos_law_run.proofs.Words.{◌≡◌, ℕ, zero, suc, ◌+◌, ◌*◌, ◌<◌, ◌≤◌, inl, inr, List, length, slice_index, refl, ap, arith, le_of_mul-le-mul_left, WishesView, PlanView, wish, times, sent, at_bits, mdt_bits, bits_of, positions, Fits, IsValid, rate_some, plan_listed}
use Rattle.sercos_law_run.proofs.Slots.Spacing.{kept_at}
use Rattle.sercos_law_run.proofs.Slots.Places.{place_from, place_within}

pub record HasNumbers (w : WishesView) (p : PlanView) (k : ℕ) : Type 0 where
  pub t1 : (times w k).t1min ≤ slice_index p.t1 k
  pub t1_t2 : slice_index p.t1 k ≤ p.t2
  pub t2_t3 : p.t2 ≤ p.t3
  pub t3 : 1 ≤ p.t3
  pub t3_end : p.t3 ≤ w.cycle
  pub t4 : p.t4 + (times w k).t4min ≤ w.cycle
  pub receive : w.rate * slice_index p.t1 k + at_bits w k + w.rate * (times w k).tatmt ≤ w.rate * p.t2
  pub position : 1 ≤ slice_index p.position k
  pub record_end : slice_index p.position k + (wish w k).record_len ≤ p.mdt_len + 1
  pub record_some : 4 ≤ (wish w k).record_len
  pub mdt_len : p.mdt_len ≤ 2047
  pub cycle : w.cycle ≤ 64000

pub has_numbers : (w : WishesView) (p : PlanView) (k : ℕ) → IsValid w → Fits w p → k < length w.drives → HasNumbers w p k
has_numbers w p k valid fits within =
    let turn = plan_listed w valid k within in
    let some = rate_some w valid in
    let one : w.rate * (times w k).t1min ≤ w.rate * slice_index p.t1 k = kept_at _ (λ k. w.rate * (times w k).t1min) (bits_of w p.t1) (sent w) (λ k before. refl) fits.rule_1 k turn in
    let six : bits_of w p.t1 k + (at_bits w k + w.rate * (times w k).tatmt) ≤ w.rate * p.t2 =
    kept_at _ (λ k. bits_of w p.t1 k + (at_bits w k + w.rate * (times w k).tatmt)) (λ k. w.rate * p.t2) (sent w) (λ k before. refl) fits.rule_6 k turn in
    let seven : w.rate * p.t2 + (mdt_bits w + w.rate * (times w k).tmtsg) ≤ w.rate * p.t3 =
    kept_at _ (λ k. w.rate * p.t2 + (mdt_bits w + w.rate * (times w k).tmtsg)) (λ k. w.rate * p.t3) (sent w) (λ k before. refl) fits.rule_7 k turn in
    let ten : p.t4 + (times w k).t4min ≤ w.cycle = kept_at _ (λ k. p.t4 + (times w k).t4min) (λ k. w.cycle) (sent w) (λ k before. refl) fits.rule_10 k turn in
    let place : slice_index p.position k ≡ slice_index (positions 1 w.drives) k = ap (λ (ps : List ℕ). slice_index ps k) fits.rule_12.0 in
    let first = place_from 1 w.drives k within in
    let last = place_within 1 w.drives k within in
    let len = fits.rule_12.1 in
    let most = valid.drives.mdt_len in
    record {
      t1 = le_of_mul-le-mul_left {k = w.rate} one some;
      t1_t2 = le_of_mul-le-mul_left {k = w.rate} (omega arith) some;
      t2_t3 = le_of_mul-le-mul_left {k = w.rate} (omega arith) some;
      t3 = positive w.rate p.t3 _ _ _ seven (omega arith);
      t3_end = fits.rule_8;
      t4 = ten;
      receive = omega arith;
      position = omega arith;
      record_end = omega arith;
      record_some = (valid.drives.wishes k within).record_len.0;
      mdt_len = omega arith;
      cycle = elim valid.cycles.cycle [ inl e ↦ omega arith | inr h ↦ h.1 ];
    }
  where
    positive : (r t a m g : ℕ) → a + (m + g) ≤ r * t → 0 < m → 1 ≤ t
    positive r zero a m g h some = absurd (let none : r * 0 ≡ 0 = omega arith in omega (arith, none))
    positive r (suc t) a m g h some = omega arith
