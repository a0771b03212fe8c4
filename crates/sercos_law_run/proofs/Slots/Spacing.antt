-- In the order of a plan that fits, each AT starts after each one before it has ended, with the pause between them that it needs.
use Rattle.sercos_law_run.proofs.Words.{◌≡◌, ℕ, ◌+◌, ◌*◌, ◌≤◌, ◌⊎◌, inl, inr, true, false, List, [], ◌∷◌, refl, sym, ap, subst, ◌∙◌, arith, Option, Some, ◌==◌, cases_Bool, eqb-true, both_ways, WishesView, wish, times, previous, same_slave, at_bits, asked_2, asked_3, asked_4, asked_5, Meets, Among}
use Rattle.sercos_timing.specs.Inequalities.{Keeps}

-- the AT of k is sent after that of j
pub record IsSpaced (w : WishesView) (b : ℕ → ℕ) (j k : ℕ) : Type 0 where
  pub after : b j + at_bits w j ≤ b k
  pub gap : same_slave w j k ≡ false → b j + (at_bits w j + w.rate * w.gap) ≤ b k
  pub recovered : same_slave w j k ≡ true → b j + (at_bits w j + w.rate * (times w k).tatat) ≤ b k

abbrev pub AreSpaced : WishesView → (ℕ → ℕ) → List ℕ → Type 0
AreSpaced w b [] = Unit {0}
AreSpaced w b (k ∷ before) = ((j : ℕ) → Among j before → IsSpaced w b j k) × AreSpaced w b before

-- the previous AT of the same slave ends no earlier than any other before it
pub record IsLast (w : WishesView) (b : ℕ → ℕ) (j k : ℕ) (before : List ℕ) : Type 0 where
  pub last : ℕ
  pub is : previous w k before ≡ Some last
  pub later : b j + at_bits w j ≤ b last + at_bits w last

last_of_slave : (w : WishesView) (b : ℕ → ℕ) (j k : ℕ) (before : List ℕ) → AreSpaced w b before → Among j before → same_slave w j k ≡ true → IsLast w b j k before
last_of_slave w b j k [] spaced among same = absurd among
last_of_slave w b j k (i ∷ rest) spaced (inl e) same =
    let same' : same_slave w i k ≡ true = ap (λ l. same_slave w l k) (sym e) ∙ same in
    (record { last = i; is = rw same' refl; later = (rw e (omega arith)) })
last_of_slave w b j k (i ∷ rest) spaced (inr h) same = elim (cases_Bool (same_slave w i k)) [
  | inl same' ↦ let here = (spaced.0 j h).after in (record { last = i; is = rw same' refl; later = (omega arith) })
  | inr other ↦
      let found = last_of_slave w b j k rest spaced.1 h same in
      record { last = found.last; is = rw other found.is; later = found.later }
]

meets_some : (o : Option ℕ) (x has : ℕ) → o ≡ Some x → Meets o has → x ≤ has
meets_some o x has e h = let P : Option ℕ → Type 0 = λ q. Meets q has in subst P e h

asked_4_at : (w : WishesView) (b : ℕ → ℕ) (k p : ℕ) (before : List ℕ) → previous w k before ≡ Some p → asked_4 w b k before ≡ Some (b p + (at_bits w p + w.rate * (times w k).tatat))
asked_4_at w b k p before e = rw e refl

spaced_next : (w : WishesView) (b : ℕ → ℕ) (k : ℕ) (before : List ℕ) → AreSpaced w b before → Meets (asked_3 w b k before) (b k) → Meets (asked_4 w b k before) (b k)
    → (j : ℕ) → Among j before → IsSpaced w b j k
spaced_next w b k [] spaced three four j among = absurd among
spaced_next w b k (i ∷ rest) spaced three four j among = elim (cases_Bool (same_slave w i k)) [
  | inl same ↦
      let four' : b i + (at_bits w i + w.rate * (times w k).tatat) ≤ b k = meets_some _ _ _ (asked_4_at w b k i (i ∷ rest) (rw same refl)) four in
      of_same same four' among
  | inr other ↦
      let three' : b i + (at_bits w i + w.rate * w.gap) ≤ b k = meets_some _ _ _ (rw other refl) three in
      let P : Option ℕ → Type 0 = λ q. Meets q (b k) in
      let four' : Meets (asked_4 w b k rest) (b k) = subst P (rw other refl) four in of_other other three' four' among
]
  where
    of_same : same_slave w i k ≡ true → b i + (at_bits w i + w.rate * (times w k).tatat) ≤ b k → Among j (i ∷ rest) → IsSpaced w b j k
    of_same same four' (inl e) = rw e (record { after = omega arith; gap = λ other. absurd (both_ways _ other same); recovered = λ again. four' })
    of_same same four' (inr h) =
        let sp = spaced.0 j h in
        let end = sp.after in
        record {
          after = omega arith;
          gap = λ other. (let g = sp.gap (sym (ap (λ s. (wish w j).slave == s) (sym (eqb-true (wish w i).slave (wish w k).slave same)))
              ∙ other) in omega arith);
          recovered = λ again. omega arith;
        }

    of_other : same_slave w i k ≡ false → b i + (at_bits w i + w.rate * w.gap) ≤ b k → Meets (asked_4 w b k rest) (b k) → Among j (i ∷ rest) → IsSpaced w b j k
    of_other other three' four' (inl e) = rw e (record { after = omega arith; gap = λ again. three'; recovered = λ same. absurd (both_ways _ other same) })
    of_other other three' four' (inr h) =
        let end = (spaced.0 j h).after in
        record {
          after = omega arith;
          gap = λ again. omega arith;
          recovered = λ same.
              (let found = last_of_slave w b j k rest spaced.1 h same in
              let last : b found.last + (at_bits w found.last + w.rate * (times w k).tatat) ≤ b k = meets_some _ _ _ (asked_4_at w b k found.last rest found.is) four' in
              let later = found.later in omega arith);
        }

pub spaced : (w : WishesView) (b : ℕ → ℕ) (ats : List ℕ) → Keeps (asked_3 w b) b ats → Keeps (asked_4 w b) b ats → AreSpaced w b ats
spaced w b [] three four = tt
spaced w b (k ∷ before) three four = let rest = spaced w b before three.1 four.1 in (spaced_next w b k before rest three.0 four.0, rest)

-- of two different ATs, one is after the other
pub either_first : (w : WishesView) (b : ℕ → ℕ) (ats : List ℕ) → AreSpaced w b ats → (j k : ℕ) → Among j ats → Among k ats → (j ≡ k → ⊥) → IsSpaced w b j k ⊎ IsSpaced w b k j
either_first w b [] sp j k hj hk other = absurd hj
either_first w b (i ∷ rest) sp j k (inl ej) (inl ek) other = absurd (other (ej ∙ sym ek))
either_first w b (i ∷ rest) sp j k (inl ej) (inr hk) other = rw ej (inr (sp.0 k hk))
either_first w b (i ∷ rest) sp j k (inr hj) (inl ek) other = rw ek (inl (sp.0 j hj))
either_first w b (i ∷ rest) sp j k (inr hj) (inr hk) other = either_first w b rest sp.1 j k hj hk other

-- no AT starts sooner than the gap after the MST
pub after_mst : (w : WishesView) (b : ℕ → ℕ) (ats : List ℕ) → Keeps (asked_2 w b) b ats → AreSpaced w b ats → (k : ℕ) → Among k ats → w.rate * w.gap ≤ b k
after_mst w b [] two sp k h = absurd h
after_mst w b (i ∷ rest) two sp k (inr h) = after_mst w b rest two.1 sp.1 k h
after_mst w b (i ∷ []) two sp k (inl e) = rw e two.0
after_mst w b (i ∷ (j ∷ rest)) two sp k (inl e) =
    let before = after_mst w b (j ∷ rest) two.1 sp.1 j (inl refl) in
    let here = (sp.0 j (inl refl)).after in rw e (omega arith)

-- between the end of each AT and the MDT is the gap
pub before_mdt : (w : WishesView) (b : ℕ → ℕ) (ats : List ℕ) (t2 : ℕ) → Meets (asked_5 w b ats) t2 → AreSpaced w b ats → (k : ℕ) → Among k ats → b k + (at_bits w k + w.rate * w.gap) ≤ t2
before_mdt w b [] t2 five sp k h = absurd h
before_mdt w b (i ∷ rest) t2 five sp k (inl e) = rw e five
before_mdt w b (i ∷ rest) t2 five sp k (inr h) = let here = (sp.0 k h).after in let last : b i + (at_bits w i + w.rate * w.gap) ≤ t2 = five in omega arith

-- what an inequality asks of each AT, it asks of this one
pub kept_at : (asked : ℕ → List ℕ → Option ℕ) (f has : ℕ → ℕ) (ats : List ℕ) → ((k : ℕ) (before : List ℕ) → asked k before ≡ Some (f k)) → Keeps asked has ats → (k : ℕ) → Among k ats → f k ≤ has k
kept_at asked f has [] is h k among = absurd among
kept_at asked f has (i ∷ rest) is h k (inl e) = rw e (meets_some _ _ _ (is i rest) h.0)
kept_at asked f has (i ∷ rest) is h k (inr among) = kept_at asked f has rest is h.1 k among
