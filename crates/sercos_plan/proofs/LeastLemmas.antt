-- The least times keep the inequalities, and no plan has less.
use Rattle.std.proofs.Common.{◌≡◌, ℕ, ◌+◌, ◌-◌, ◌*◌, ◌/◌, ◌<◌, ◌≤◌, ◌⊎◌, inl, inr, max, Bool, true, false, List, [], ◌∷◌, refl, sym, ap, subst, arith}
use Rattle.std.specs.Prelude.{Option, Some, None, option_map, unwrap_or, ◌==◌, if◌then◌else◌}
use Rattle.std.proofs.Math.Nat.{mul-le-mul_left, div-lt_iff_lt-mul}
use Rattle.std.proofs.lemmas.Bool.{cases_Bool, cond_both, eqb-true, cond-true, cond-false, ne_eqb, eq-eqb}
use Rattle.sercos_timing.specs.Views.{WishesView}
use Rattle.sercos_timing.specs.Order.{times, neighbor, previous, same_slave, at_bits}
use Rattle.sercos_timing.specs.Inequalities.{asked_1, asked_2, asked_3, asked_4, asked_of_start, Meets, Keeps}
use Rattle.sercos_timing.specs.declared.inequality.Inequality.{Inequality}
use Rattle.sercos_timing.specs.declared.inequality.Inequality.TheVariants.{Own, Gap, Neighbor, Slave}
use Rattle.sercos_plan.specs.LeastTimes.{round_up, needed, least_t1, least_bits}

-- rounding up
pub round_up-covers : (r a : ℕ) → 0 < r → a ≤ r * round_up r a
round_up-covers r a some = omega arith

pub round_up-least : (r a t : ℕ) → 0 < r → a ≤ r * t → round_up r a ≤ t
round_up-least r a t some within =
    let below : (a + (r - 1)) / r < t + 1 = (div-lt_iff_lt-mul {k = r} {x = a + (r - 1)} {y = t + 1} some).1 (omega arith) in
    omega arith

-- what stands among the ATs
abbrev pub Among : ℕ → List ℕ → Type 0
Among j [] = ⊥
Among j (k ∷ ks) = (j ≡ k) ⊎ Among j ks

abbrev pub AreApart : List ℕ → Type 0
AreApart [] = Unit {0}
AreApart (k ∷ ks) = (Among k ks → ⊥) × AreApart ks

abbrev pub AgreeOn : List ℕ → (ℕ → ℕ) → (ℕ → ℕ) → Type 0
AgreeOn ks b c = (j : ℕ) → Among j ks → b j ≡ c j

abbrev pub IsFrom : Option ℕ → List ℕ → Type 0
IsFrom None ks = Unit {0}
IsFrom (Some j) ks = Among j ks

from_if : (c : Bool) (o : Option ℕ) (j : ℕ) (ks : List ℕ) → IsFrom o ks → IsFrom (if c then Some j else o) (j ∷ ks)
from_if true o j ks h = inl refl
from_if false None j ks h = tt
from_if false (Some i) j ks h = inr h

pub neighbor-from : (w : WishesView) (k : ℕ) (before : List ℕ) → IsFrom (neighbor w k before) before
neighbor-from w k [] = tt
neighbor-from w k (j ∷ before) = elim (cases_Bool (same_slave w j k)) [
  | inl same ↦ rw same tt
  | inr other ↦ rw other (inl refl)
]

pub previous-from : (w : WishesView) (k : ℕ) (before : List ℕ) → IsFrom (previous w k before) before
previous-from w k [] = tt
previous-from w k (j ∷ before) = from_if (same_slave w j k) (previous w k before) j before (previous-from w k before)

-- what is asked depends on the ATs before alone, and rises with their times
abbrev pub IsLocal : ((ℕ → ℕ) → ℕ → List ℕ → Option ℕ) → Type 0
IsLocal asked = (b c : ℕ → ℕ) (k : ℕ) (before : List ℕ) → AgreeOn before b c → asked b k before ≡ asked c k before

abbrev pub IsRising : ((ℕ → ℕ) → ℕ → List ℕ → Option ℕ) → Type 0
IsRising asked =
    (b c : ℕ → ℕ) (k : ℕ) (before : List ℕ) → ((j : ℕ) → b j ≤ c j) → unwrap_or (asked b k before) 0 ≤ unwrap_or (asked c k before) 0

mapped_same : (o : Option ℕ) (b c d : ℕ → ℕ) (ks : List ℕ) → IsFrom o ks → AgreeOn ks b c → option_map (λ j. b j + d j) o ≡ option_map (λ j. c j + d j) o
mapped_same None b c d ks from agree = refl
mapped_same (Some j) b c d ks from agree = ap (λ x. Some (x + d j)) (agree j from)

mapped_rises : (o : Option ℕ) (b c d : ℕ → ℕ) → ((j : ℕ) → b j ≤ c j) → unwrap_or (option_map (λ j. b j + d j) o) 0 ≤ unwrap_or (option_map (λ j. c j + d j) o) 0
mapped_rises None b c d less = omega arith
mapped_rises (Some j) b c d less = let here = less j in omega arith

pub local_1 : (w : WishesView) → IsLocal (asked_1 w)
local_1 w b c k before agree = refl

pub local_2 : (w : WishesView) → IsLocal (asked_2 w)
local_2 w b c k [] agree = refl
local_2 w b c k (j ∷ before) agree = refl

pub local_3 : (w : WishesView) → IsLocal (asked_3 w)
local_3 w b c k before agree = mapped_same (neighbor w k before) b c (λ j. at_bits w j + w.rate * w.gap) before (neighbor-from w k before) agree

pub local_4 : (w : WishesView) → IsLocal (asked_4 w)
local_4 w b c k before agree = mapped_same (previous w k before) b c (λ j. at_bits w j + w.rate * (times w k).tatat) before (previous-from w k before) agree

pub rising_1 : (w : WishesView) → IsRising (asked_1 w)
rising_1 w b c k before less = omega arith

pub rising_2 : (w : WishesView) → IsRising (asked_2 w)
rising_2 w b c k [] less = omega arith
rising_2 w b c k (j ∷ before) less = omega arith

pub rising_3 : (w : WishesView) → IsRising (asked_3 w)
rising_3 w b c k before less = mapped_rises (neighbor w k before) b c (λ j. at_bits w j + w.rate * w.gap) less

pub rising_4 : (w : WishesView) → IsRising (asked_4 w)
rising_4 w b c k before less = mapped_rises (previous w k before) b c (λ j. at_bits w j + w.rate * (times w k).tatat) less

-- what is met, as a number
pub met : (o : Option ℕ) (x : ℕ) → Meets o x → unwrap_or o 0 ≤ x
met None x h = omega arith
met (Some a) x h = h

pub meets : (o : Option ℕ) (x : ℕ) → unwrap_or o 0 ≤ x → Meets o x
meets None x h = tt
meets (Some a) x h = h

pub meets_same : (o p : Option ℕ) (x y : ℕ) → o ≡ p → x ≡ y → Meets o x → Meets p y
meets_same o p x y same_asked same h =
    let P : ℕ → Type 0 = λ z. Meets p z in
    let Q : Option ℕ → Type 0 = λ q. Meets q x in
    subst P same (subst Q same_asked h)

pub keeps_same : (asked : (ℕ → ℕ) → ℕ → List ℕ → Option ℕ) → IsLocal asked → (b c : ℕ → ℕ) (ats : List ℕ) → AgreeOn ats b c → Keeps (asked b) b ats → Keeps (asked c) c ats
keeps_same asked local b c [] agree h = tt
keeps_same asked local b c (k ∷ before) agree h =
    (meets_same (asked b k before) (asked c k before) (b k) (c k) (local b c k before (λ j i. agree j (inr i))) (agree k (inl refl)) h.0, keeps_same asked local b c before (λ j i. agree j (inr i)) h.1)

-- the inequalities 1 to 4 along the order
pub record KeepStarts (w : WishesView) (b : ℕ → ℕ) (ats : List ℕ) : Type 0 where
  pub rule_1 : Keeps (asked_1 w b) b ats
  pub rule_2 : Keeps (asked_2 w b) b ats
  pub rule_3 : Keeps (asked_3 w b) b ats
  pub rule_4 : Keeps (asked_4 w b) b ats

pub starts_same : (w : WishesView) (b c : ℕ → ℕ) (ats : List ℕ) → AgreeOn ats b c → KeepStarts w b ats → KeepStarts w c ats
starts_same w b c ats agree h =
    record {
      rule_1 = keeps_same (asked_1 w) (local_1 w) b c ats agree h.rule_1;
      rule_2 = keeps_same (asked_2 w) (local_2 w) b c ats agree h.rule_2;
      rule_3 = keeps_same (asked_3 w) (local_3 w) b c ats agree h.rule_3;
      rule_4 = keeps_same (asked_4 w) (local_4 w) b c ats agree h.rule_4;
    }

max_four : (a b c d z : ℕ) → a ≤ z → b ≤ z → c ≤ z → d ≤ z → max a (max b (max c d)) ≤ z
max_four a b c d z ha hb hc hd = omega arith

-- no times that keep them are less
pub least_below : (w : WishesView) (t : ℕ → ℕ) (ats : List ℕ) → 0 < w.rate → KeepStarts w (λ k. w.rate * t k) ats → (j : ℕ) → least_t1 w ats j ≤ t j
least_below w t [] some h j = omega arith
least_below w t (k ∷ before) some h j =
    let rest : KeepStarts w (λ i. w.rate * t i) before = record { rule_1 = h.rule_1.1; rule_2 = h.rule_2.1; rule_3 = h.rule_3.1; rule_4 = h.rule_4.1 } in
    let less : (i : ℕ) → w.rate * least_t1 w before i ≤ w.rate * t i = λ i. mul-le-mul_left w.rate (least_below w t before some rest i) in
    let b : ℕ → ℕ = λ i. w.rate * least_t1 w before i in
    let c : ℕ → ℕ = λ i. w.rate * t i in
    let up_1 : unwrap_or (asked_1 w b k before) 0 ≤ w.rate * t k = met (asked_1 w c k before) (w.rate * t k) h.rule_1.0 in
    let up_2 : unwrap_or (asked_2 w b k before) 0 ≤ w.rate * t k =
    let low = rising_2 w b c k before less in let high = met (asked_2 w c k before) (w.rate * t k) h.rule_2.0 in omega arith in
    let up_3 : unwrap_or (asked_3 w b k before) 0 ≤ w.rate * t k =
    let low = rising_3 w b c k before less in let high = met (asked_3 w c k before) (w.rate * t k) h.rule_3.0 in omega arith in
    let up_4 : unwrap_or (asked_4 w b k before) 0 ≤ w.rate * t k =
    let low = rising_4 w b c k before less in let high = met (asked_4 w c k before) (w.rate * t k) h.rule_4.0 in omega arith in
    let here : round_up w.rate (needed w b k before) ≤ t k = round_up-least w.rate (needed w b k before) (t k) some (max_four _ _ _ _ _ up_1 up_2 up_3 up_4) in
    let P : ℕ → Type 0 = λ x. x ≤ t j in
    let Q : ℕ → Type 0 = λ i. round_up w.rate (needed w b k before) ≤ t i in
    cond_both (j == k) (round_up w.rate (needed w b k before)) (least_t1 w before j) P (λ e. subst Q (sym (eqb-true j k e)) here) (λ e. least_below w t before some rest j)

-- the least times keep them
asked_below : (w : WishesView) (b : ℕ → ℕ) (k : ℕ) (before : List ℕ) →
    (unwrap_or (asked_1 w b k before) 0 ≤ needed w b k before) × (unwrap_or (asked_2 w b k before) 0 ≤ needed w b k before)
    × (unwrap_or (asked_3 w b k before) 0 ≤ needed w b k before) × (unwrap_or (asked_4 w b k before) 0 ≤ needed w b k before)
asked_below w b k before = (omega arith, omega arith, omega arith, omega arith)

pub least_here : (w : WishesView) (k : ℕ) (before : List ℕ) → least_t1 w (k ∷ before) k ≡ round_up w.rate (needed w (least_bits w before) k before)
least_here w k before = cond-true (k == k) _ _ (eq-eqb k k refl)

pub least_there : (w : WishesView) (k : ℕ) (before : List ℕ) → (Among k before → ⊥) → AgreeOn before (least_bits w before) (least_bits w (k ∷ before))
least_there w k before fresh j among =
    let other : j ≡ k → ⊥ = λ e. let P : ℕ → Type 0 = λ i. Among i before in fresh (subst P e among) in
    ap (λ x. w.rate * x) (sym (cond-false (j == k) _ _ (ne_eqb j k other)))

at_head : (w : WishesView) (asked : (ℕ → ℕ) → ℕ → List ℕ → Option ℕ) → IsLocal asked → (k : ℕ) (before : List ℕ) → 0 < w.rate → (Among k before → ⊥) →
    unwrap_or (asked (least_bits w before) k before) 0 ≤ needed w (least_bits w before) k before → Meets (asked (least_bits w (k ∷ before)) k before) (least_bits w (k ∷ before) k)
at_head w asked local k before some fresh below =
    let up = round_up-covers w.rate (needed w (least_bits w before) k before) some in
    let has : unwrap_or (asked (least_bits w before) k before) 0 ≤ w.rate * round_up w.rate (needed w (least_bits w before) k before) = omega arith in
    meets_same (asked (least_bits w before) k before) (asked (least_bits w (k ∷ before)) k before) _ _
    (local (least_bits w before) (least_bits w (k ∷ before)) k before (least_there w k before fresh)) (ap (λ x. w.rate * x) (sym (least_here w k before)))
    (meets (asked (least_bits w before) k before) _ has)

pub least_keeps : (w : WishesView) (ats : List ℕ) → 0 < w.rate → AreApart ats → KeepStarts w (least_bits w ats) ats
least_keeps w [] some distinct = record { rule_1 = tt; rule_2 = tt; rule_3 = tt; rule_4 = tt }
least_keeps w (k ∷ before) some distinct =
    let rest : KeepStarts w (least_bits w (k ∷ before)) before =
    starts_same w (least_bits w before) (least_bits w (k ∷ before)) before (least_there w k before distinct.0) (least_keeps w before some distinct.1) in
    let below = asked_below w (least_bits w before) k before in
    record {
      rule_1 = (at_head w (asked_1 w) (local_1 w) k before some distinct.0 below.0, rest.rule_1);
      rule_2 = (at_head w (asked_2 w) (local_2 w) k before some distinct.0 below.1, rest.rule_2);
      rule_3 = (at_head w (asked_3 w) (local_3 w) k before some distinct.0 below.2, rest.rule_3);
      rule_4 = (at_head w (asked_4 w) (local_4 w) k before some distinct.0 below.3, rest.rule_4);
    }

-- what is needed depends on the times of the ATs before alone
pub needed_local : (w : WishesView) (b c : ℕ → ℕ) (k : ℕ) (before : List ℕ) → AgreeOn before b c → needed w b k before ≡ needed w c k before
needed_local w b c k before agree =
    let two = local_2 w b c k before agree in
    let three = local_3 w b c k before agree in
    let four = local_4 w b c k before agree in
    rw (two, three, four) refl

pub needed_same : (w : WishesView) (b c : ℕ → ℕ) (k : ℕ) (before : List ℕ) → ((j : ℕ) → b j ≡ c j) → needed w b k before ≡ needed w c k before
needed_same w b c k before same = needed_local w b c k before (λ j among. same j)

-- what is asked of a start depends on the values of the times alone
pub asked_same : (w : WishesView) (rule : Inequality) (b c : ℕ → ℕ) (k : ℕ) (before : List ℕ) → ((j : ℕ) → b j ≡ c j) → asked_of_start w rule b k before ≡ asked_of_start w rule c k before
asked_same w Own b c k before same = refl
asked_same w Gap b c k before same = local_2 w b c k before (λ j among. same j)
asked_same w Neighbor b c k before same = local_3 w b c k before (λ j among. same j)
asked_same w Slave b c k before same = local_4 w b c k before (λ j among. same j)
asked_same w _ b c k before same = refl
