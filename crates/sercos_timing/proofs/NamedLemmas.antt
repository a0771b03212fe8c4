-- What is named first is broken, and what comes before it is kept.
use Rattle.std.proofs.Common.{◌≡◌, ℕ, suc, ◌+◌, ◌≤◌, ◌<◌, inl, inr, Bool, true, false, List, [], ◌∷◌, length, take, slice_index, refl, sym, ◌∙◌, ap, arith}
use Rattle.std.specs.Prelude.{◌≢◌, Option, Some, None, option_map, ◌==◌, nat_le, if◌then◌else◌, slice_index_or}
use Rattle.std.specs.Option.{option_or}
use Rattle.std.proofs.lemmas.Bool.{leb-true, eqb-true, eq-eqb, cases_eq, false≢true}
use Rattle.std.proofs.lemmas.Bool.Decides.{nat_tests}
use Rattle.sercos_timing.specs.Views.{WishesView, PlanView}
use Rattle.sercos_timing.specs.Order.{wish, no_wish, sent, record_bytes}
use Rattle.sercos_timing.specs.Inequalities.{number_of, positions, Meets, Keeps}
use Rattle.sercos_timing.specs.FirstBroken.{asked_by, has_by, is_met, first_unmet, first_misplaced, broken_by, broken_unless, broken_position, first_broken}
use Rattle.sercos_timing.specs.Named.{IsKept, FailsFirstAt, IsBroken, IsFirstBroken}
use Rattle.sercos_timing.specs.Named.IsKept.{kept_1, kept_2, kept_3, kept_4, kept_5, kept_6, kept_7, kept_8, kept_9, kept_10, kept_11}
use Rattle.sercos_timing.specs.Named.IsBroken.{broken_1, broken_2, broken_3, broken_4, broken_5, broken_6, broken_7, broken_8, broken_9, broken_10, misplaced, of_other_length}
use Rattle.sercos_timing.specs.Valid.{IsValid}
use Rattle.sercos_timing.specs.declared.wishes.Wish.{Wish}
use Rattle.sercos_timing.specs.declared.fitting.Broken.{Broken}
use Rattle.sercos_timing.specs.declared.inequality.Inequality.{Inequality}
use Rattle.sercos_timing.specs.declared.inequality.Inequality.TheVariants.{Own, Gap, Neighbor, Slave, Last, Master, Records, Cycle, NextMst, Capture, Positions}
use Rattle.sercos_timing.proofs.BreakLemmas.{meets-met, met-meets, keeps-unmet, placed}

-- the first AT for which what is asked isn't met
unmet_first : (asked : ℕ → List ℕ → Option ℕ) (has : ℕ → ℕ) (ats : List ℕ) (k : ℕ) → first_unmet asked has ats ≡ Some k → FailsFirstAt asked has ats k
unmet_first asked has [] k is = cc
unmet_first asked has (j ∷ before) k is =
    by_before (first_unmet asked has before) (is_met (asked j before) (has j)) refl refl is (λ same. unmet_first asked has before k same)
  where
    by_before : (o : Option ℕ) (met : Bool) → first_unmet asked has before ≡ o → is_met (asked j before) (has j) ≡ met → option_or o (if met then None else Some j) ≡ Some k
        → (first_unmet asked has before ≡ Some k → FailsFirstAt asked has before k) → FailsFirstAt asked has (j ∷ before) k
    by_before (Some x) met found tests is earlier =
        let first = earlier (found ∙ is) in
        record { later = j ∷ first.later; before = first.before; order = ap (λ ats. j ∷ ats) first.order; fails = first.fails; kept = first.kept }
    by_before None true found tests is earlier = cc
    by_before None false found tests is earlier =
        let same : j ≡ k = cc in
        rw (← same) (record { later = []; before = before; order = refl; fails = λ meets. absurd (false≢true (sym tests ∙ met-meets (asked j before) (has j) meets)); kept = keeps-unmet asked has before found })

-- the first drive whose position is wrong
record IsMisplaced (next : ℕ) (drives : List Wish) (places : List ℕ) (address : ℕ) : Type 0 where
  k : ℕ
  within : k < length drives
  same : take k places ≡ take k (positions next drives)
  differs : slice_index places k ≢ slice_index (positions next drives) k
  named : (slice_index_or drives k no_wish).address ≡ address

misplaced_first : (next : ℕ) (drives : List Wish) (places : List ℕ) (address : ℕ) → length places ≡ length drives → first_misplaced next drives places ≡ Some address → IsMisplaced next drives places address
misplaced_first next [] places address count is = cc
misplaced_first next (d ∷ drives) [] address count is = absurd (omega arith)
misplaced_first next (d ∷ drives) (place ∷ places) address count is =
    by_place (place == next) refl is (λ later. misplaced_first (next + d.record_len) drives places address (omega arith) later)
  where
    by_place : (right : Bool) → (place == next) ≡ right → (if right then first_misplaced (next + d.record_len) drives places else Some d.address) ≡ Some address
        → (first_misplaced (next + d.record_len) drives places ≡ Some address → IsMisplaced (next + d.record_len) drives places address) → IsMisplaced next (d ∷ drives) (place ∷ places) address
    by_place true tests is later =
        let first = later is in
        let here : place ≡ next = eqb-true place next tests in
        record { k = suc first.k; within = omega (arith, first.within); same = rw (here, first.same) refl; differs = first.differs; named = first.named }
    by_place false tests is later =
        record { k = 0; within = omega arith; same = refl; differs = λ e. absurd (false≢true (sym tests ∙ eq-eqb place next e)); named = cc }

-- the inequalities below a number are kept
abbrev AreKept : WishesView → PlanView → ℕ → Type 0
AreKept w p number = (n : ℕ) → 1 ≤ n → n < number → IsKept w p n

none_below : (w : WishesView) (p : PlanView) → AreKept w p 1
none_below w p n low high = absurd (omega arith)

one_more : (w : WishesView) (p : PlanView) (number : ℕ) → AreKept w p number → IsKept w p number → AreKept w p (suc number)
one_more w p number kept this n low high = elim (cases_eq n number) [
  | inl same ↦ rw same this
  | inr other ↦ kept n low (omega (arith, other))
]

first_is : (w : WishesView) (p : PlanView) (number drive : ℕ) (b : Broken) → AreKept w p number → IsBroken w p number drive → Some (record { rule = number; drive = drive }) ≡ Some b → IsFirstBroken w p b
first_is w p number drive b kept broken is = let same : record { rule = number; drive = drive } ≡ b = cc in rw (← same) (record { smaller = kept; broken = broken })

-- an inequality is the one that is named, or it is kept, and a later one is named
by_ats : (w : WishesView) (p : PlanView) (rule : Inequality) (rest : Option Broken) (b : Broken)
    → ((k : ℕ) → FailsFirstAt (asked_by w p rule) (has_by w p rule) (sent w) k → IsBroken w p (number_of rule) (wish w k).address)
    → (Keeps (asked_by w p rule) (has_by w p rule) (sent w) → IsKept w p (number_of rule))
    → AreKept w p (number_of rule) → option_or (broken_by w p rule) rest ≡ Some b
    → (AreKept w p (suc (number_of rule)) → rest ≡ Some b → IsFirstBroken w p b) → IsFirstBroken w p b
unfolding broken_by
by_ats w p rule rest b breaks keeps kept is later = cases (first_unmet (asked_by w p rule) (has_by w p rule) (sent w)) refl is
  where
    cases : (o : Option ℕ) → first_unmet (asked_by w p rule) (has_by w p rule) (sent w) ≡ o
        → option_or (option_map (λ k. record { rule = number_of rule; drive = (wish w k).address }) o) rest ≡ Some b → IsFirstBroken w p b
    cases None found is = later (one_more w p (number_of rule) kept (keeps (keeps-unmet (asked_by w p rule) (has_by w p rule) (sent w) found))) is
    cases (Some k) found is = first_is w p (number_of rule) (wish w k).address b kept (breaks k (unmet_first (asked_by w p rule) (has_by w p rule) (sent w) k found)) is

by_test : (w : WishesView) (p : PlanView) (rule : Inequality) (test : Bool) (rest : Option Broken) (b : Broken)
    → (test ≡ false → IsBroken w p (number_of rule) 0) → (test ≡ true → IsKept w p (number_of rule))
    → AreKept w p (number_of rule) → option_or (broken_unless rule test) rest ≡ Some b
    → (AreKept w p (suc (number_of rule)) → rest ≡ Some b → IsFirstBroken w p b) → IsFirstBroken w p b
by_test w p rule true rest b breaks keeps kept is later = later (one_more w p (number_of rule) kept (keeps refl)) is
by_test w p rule false rest b breaks keeps kept is later = first_is w p (number_of rule) 0 b kept (breaks refl) is

not_met : (asked : Option ℕ) (has : ℕ) → is_met asked has ≡ false → Meets asked has → ⊥
not_met asked has fails meets = absurd (false≢true (sym fails ∙ met-meets asked has meets))

above : (a b : ℕ) → nat_le a b ≡ false → b < a
above a b fails = grind (arith, nat_tests)

by_places : (w : WishesView) (p : PlanView) (b : Broken) → length p.position ≡ length w.drives → AreKept w p 12
    → option_or (broken_position w p) (broken_unless Positions (p.mdt_len == record_bytes w.drives)) ≡ Some b → IsFirstBroken w p b
unfolding broken_position
by_places w p b places kept is = cases (first_misplaced 1 w.drives p.position) (p.mdt_len == record_bytes w.drives) refl refl is
  where
    cases : (o : Option ℕ) (right : Bool) → first_misplaced 1 w.drives p.position ≡ o → (p.mdt_len == record_bytes w.drives) ≡ right
        → option_or (option_map (λ a. record { rule = 12; drive = a }) o) (broken_unless Positions right) ≡ Some b → IsFirstBroken w p b
    cases (Some address) right found tests is =
        let first = misplaced_first 1 w.drives p.position address places found in
        first_is w p 12 (wish w first.k).address b kept (misplaced first.k first.within first.same first.differs) (rw (first.named) is)
    cases None true found tests is = cc
    cases None false found tests is =
        first_is w p 12 0 b kept (of_other_length (placed 1 w.drives p.position places found) (λ e. absurd (false≢true (sym tests ∙ eq-eqb p.mdt_len (record_bytes w.drives) e)))) is

pub named_first : (w : WishesView) (p : PlanView) (b : Broken) → IsValid w → length p.t1 ≡ length w.drives → length p.position ≡ length w.drives → first_broken w p ≡ Some b → IsFirstBroken w p b
unfolding first_broken
named_first w p b valid times places is =
    by_ats w p Own _ b broken_1 kept_1 (none_below w p) is (λ kept is.
    by_ats w p Gap _ b broken_2 kept_2 kept is (λ kept is.
    by_ats w p Neighbor _ b broken_3 kept_3 kept is (λ kept is.
    by_ats w p Slave _ b broken_4 kept_4 kept is (λ kept is.
    by_test w p Last _ _ b (λ fails. broken_5 (not_met _ _ fails)) (λ met. kept_5 (meets-met _ _ met)) kept is (λ kept is.
    by_ats w p Master _ b broken_6 kept_6 kept is (λ kept is.
    by_ats w p Records _ b broken_7 kept_7 kept is (λ kept is.
    by_test w p Cycle _ _ b (λ fails. broken_8 (above _ _ fails)) (λ met. kept_8 (leb-true _ _ met)) kept is (λ kept is.
    by_test w p NextMst _ _ b (λ fails. broken_9 (above _ _ fails)) (λ met. kept_9 (leb-true _ _ met)) kept is (λ kept is.
    by_ats w p Capture _ b broken_10 kept_10 kept is (λ kept is.
    by_places w p b places (one_more w p 11 kept (kept_11 valid.cycles.control.0 valid.cycles.control.1)) is))))))))))
