-- A plan fits exactly where no inequality is the first that it breaks.
use Rattle.std.proofs.Common.{◌≡◌, ℕ, zero, suc, ◌+◌, ◌≤◌, ◌<◌, inl, inr, Bool, true, false, List, slice_index, [], ◌∷◌, length, refl, arith}
use Rattle.std.specs.Prelude.{Option, Some, None, option_map, ◌==◌, if◌then◌else◌}
use Rattle.std.specs.Option.{option_or}
use Rattle.std.proofs.lemmas.Bool.{leb-true, le-leb, eqb-true, eq-eqb, cases_eq}
pub use Rattle.sercos_model.proofs.OptionLemmas.{option_or-some}
pub use Rattle.sercos_model.proofs.FaultLemmas.{none_of-or}
use Rattle.sercos_timing.specs.Views.{WishesView, PlanView}
use Rattle.sercos_timing.specs.Order.{sent, first_sent}
use Rattle.sercos_timing.specs.Inequalities.{positions, Meets, Keeps, Fits}
use Rattle.sercos_timing.specs.FirstBroken.{asked_by, has_by, is_met, first_unmet, first_misplaced, broken_by, broken_position, first_broken}
use Rattle.sercos_timing.specs.Valid.{IsValid}
use Rattle.sercos_timing.specs.declared.wishes.Wish.{Wish}
use Rattle.sercos_timing.specs.declared.inequality.Inequality.{Inequality}
use Rattle.sercos_timing.specs.declared.inequality.Inequality.TheVariants.{Own, Gap, Neighbor, Slave, Master, Records, Capture}

pub meets-met : (o : Option ℕ) (has : ℕ) → is_met o has ≡ true → Meets o has
meets-met None has h = tt
meets-met (Some a) has h = leb-true a has h

pub met-meets : (o : Option ℕ) (has : ℕ) → Meets o has → is_met o has ≡ true
met-meets None has h = refl
met-meets (Some a) has h = le-leb a has h

pub either_none : {A : Type 0} (o p : Option A) → o ≡ None → p ≡ None → option_or o p ≡ None
either_none None p h g = g
either_none (Some x) p h g = cc

mapped_none : {A B : Type 0} (f : A → B) (o : Option A) → option_map f o ≡ None → o ≡ None
mapped_none f None h = refl
mapped_none f (Some x) h = cc

none_mapped : {A B : Type 0} (f : A → B) (o : Option A) → o ≡ None → option_map f o ≡ None
none_mapped f None h = refl
none_mapped f (Some x) h = cc

if_none : {A : Type 0} (b : Bool) (x : A) → (if b then None else Some x) ≡ None → b ≡ true
if_none true x h = refl
if_none false x h = cc

none_if : {A : Type 0} (b : Bool) (x : A) → b ≡ true → (if b then None else Some x) ≡ None
none_if true x h = refl
none_if false x h = cc

pub keeps-unmet : (asked : ℕ → List ℕ → Option ℕ) (has : ℕ → ℕ) (ats : List ℕ) → first_unmet asked has ats ≡ None → Keeps asked has ats
keeps-unmet asked has [] h = tt
keeps-unmet asked has (k ∷ before) h =
    let both = none_of-or (first_unmet asked has before) (if is_met (asked k before) (has k) then None else Some k) h in
    (meets-met (asked k before) (has k) (if_none (is_met (asked k before) (has k)) k both.1), keeps-unmet asked has before both.0)

pub unmet-keeps : (asked : ℕ → List ℕ → Option ℕ) (has : ℕ → ℕ) (ats : List ℕ) → Keeps asked has ats → first_unmet asked has ats ≡ None
unmet-keeps asked has [] h = refl
unmet-keeps asked has (k ∷ before) h =
    either_none (first_unmet asked has before) _ (unmet-keeps asked has before h.1) (none_if (is_met (asked k before) (has k)) k (met-meets (asked k before) (has k) h.0))

pub placed : (next : ℕ) (ds : List Wish) (places : List ℕ) → length places ≡ length ds → first_misplaced next ds places ≡ None → places ≡ positions next ds
placed next [] [] count h = refl
placed next [] (p ∷ ps) count h = absurd (omega arith)
placed next (d ∷ ds) [] count h = cc
placed next (d ∷ ds) (p ∷ ps) count h =
    let here = chosen (p == next) (first_misplaced (next + d.record_len) ds ps) d.address h in
    let rest = placed (next + d.record_len) ds ps (omega arith) here.1 in
    let same = eqb-true p next here.0 in
    rw (same, rest) refl
  where
    chosen : (b : Bool) (o : Option ℕ) (x : ℕ) → (if b then o else Some x) ≡ None → (b ≡ true) × (o ≡ None)
    chosen true o x h = (refl, h)
    chosen false o x h = cc

misplaced : (next : ℕ) (ds : List Wish) → first_misplaced next ds (positions next ds) ≡ None
misplaced next [] = refl
misplaced next (d ∷ ds) = rw (eq-eqb next next refl) (misplaced (next + d.record_len) ds)

by_none : (w : WishesView) (p : PlanView) (rule : Inequality) → broken_by w p rule ≡ None → Keeps (asked_by w p rule) (has_by w p rule) (sent w)
unfolding broken_by
by_none w p rule h = keeps-unmet (asked_by w p rule) (has_by w p rule) (sent w) (mapped_none _ _ h)

none_by : (w : WishesView) (p : PlanView) (rule : Inequality) → Keeps (asked_by w p rule) (has_by w p rule) (sent w) → broken_by w p rule ≡ None
unfolding broken_by
none_by w p rule h = none_mapped _ _ (unmet-keeps (asked_by w p rule) (has_by w p rule) (sent w) h)

pub fits_from : (w : WishesView) (p : PlanView) → IsValid w → length p.t1 ≡ length w.drives → length p.position ≡ length w.drives → first_broken w p ≡ None → Fits w p
unfolding first_broken broken_position
fits_from w p valid times places h =
    let r1 = none_of-or _ _ h in
    let r2 = none_of-or _ _ r1.1 in
    let r3 = none_of-or _ _ r2.1 in
    let r4 = none_of-or _ _ r3.1 in
    let r5 = none_of-or _ _ r4.1 in
    let r6 = none_of-or _ _ r5.1 in
    let r7 = none_of-or _ _ r6.1 in
    let r8 = none_of-or _ _ r7.1 in
    let r9 = none_of-or _ _ r8.1 in
    let r10 = none_of-or _ _ r9.1 in
    let r12 = none_of-or _ _ r10.1 in
    record {
      times = times;
      places = places;
      rule_1 = by_none w p Own r1.0;
      rule_2 = by_none w p Gap r2.0;
      rule_3 = by_none w p Neighbor r3.0;
      rule_4 = by_none w p Slave r4.0;
      rule_5 = meets-met _ _ (if_none _ _ r5.0);
      rule_6 = by_none w p Master r6.0;
      rule_7 = by_none w p Records r7.0;
      rule_8 = leb-true _ _ (if_none _ _ r8.0);
      rule_9 = leb-true _ _ (if_none _ _ r9.0);
      rule_10 = by_none w p Capture r10.0;
      rule_11 = valid.cycles.control;
      rule_12 = (placed 1 w.drives p.position places (mapped_none _ _ r12.0), eqb-true _ _ (if_none _ _ r12.1));
    }

pub from_fits : (w : WishesView) (p : PlanView) → Fits w p → first_broken w p ≡ None
unfolding first_broken broken_position
from_fits w p fits =
    either_none _ _ (none_by w p Own fits.rule_1) (either_none _ _ (none_by w p Gap fits.rule_2) (either_none _ _ (none_by w p Neighbor fits.rule_3) (either_none _ _ (none_by w p Slave fits.rule_4)
    (either_none _ _ (none_if _ _ (met-meets _ _ fits.rule_5)) (either_none _ _ (none_by w p Master fits.rule_6) (either_none _ _ (none_by w p Records fits.rule_7)
    (either_none _ _ (none_if _ _ (le-leb _ _ fits.rule_8)) (either_none _ _ (none_if _ _ (le-leb _ _ fits.rule_9))
    (either_none _ _ (none_by w p Capture fits.rule_10) (either_none _ _ (none_mapped _ _ (rw (fits.rule_12.0) (misplaced 1 w.drives))) (none_if _ _ (eq-eqb _ _ fits.rule_12.1))))))))))))

-- the first AT for which it isn't met stays the first in the whole order
unmet_stays : (asked : ℕ → List ℕ → Option ℕ) (has : ℕ → ℕ) (order : List ℕ) (m n x : ℕ) → first_unmet asked has (first_sent order m) ≡ Some x → m ≤ n → first_unmet asked has (first_sent order n) ≡ Some x
unmet_stays asked has order m zero x h below = let e : m ≡ 0 = omega arith in rw e at h
unmet_stays asked has order m (suc n) x h below = elim (cases_eq m (suc n)) [
  | inl same ↦ rw same at h
  | inr other ↦ option_or-some (first_unmet asked has (first_sent order n)) _ x (unmet_stays asked has order m n x h (omega (arith, other)))
]

pub unmet_at : (asked : ℕ → List ℕ → Option ℕ) (has : ℕ → ℕ) (order : List ℕ) (i n : ℕ) → first_unmet asked has (first_sent order i) ≡ None →
    is_met (asked (slice_index order i) (first_sent order i)) (has (slice_index order i)) ≡ false → i < n → first_unmet asked has (first_sent order n) ≡ Some (slice_index order i)
unmet_at asked has order i n none fails below =
    unmet_stays asked has order (suc i) n (slice_index order i) (rw (none, fails) refl) (omega arith)
