-- What a cycle of phase 0 or 1 brings in which every telegram comes: the tenth MST in a row, or one drive more that is identified.
use Rattle.sercos_law_run.proofs.Words.{◌≡◌, inl, inr, ℕ, zero, suc, ◌+◌, ◌<◌, ◌≤◌, ◌||◌, Bool, true, false, not, ◌&&◌, List, [], ◌∷◌, length, Option, Some, None, refl, sym, ◌∙◌, ap, subst, arith, if◌then◌else◌, ◌==◌, nat_le, nat_lt, is_some, is_none, cases_eq, nat_tests, Known, Past, Turn, first_from, first_place, addressed_before, has_identified, is_identified, whole_row, is_done, is_done_in, next_phase, goes_on, new_epoch, still_waiting, fall_of, after_end, cases_Bool}
use Rattle.sercos_law_run.proofs.Undisturbed.NoFalls.{none_from}

-- In phase 0, after n cycles: n MSTs in a row came back.
pub record Waits (n : ℕ) (p : Past) : Type 0 where
  pub phase_is : p.now.phase ≡ 0
  pub row : whole_row p.turns ≡ n
  pub fresh : (k : ℕ) → has_identified k p.turns ≡ false
  pub silent : addressed_before p.turns ≡ None

-- In phase 1, after m cycles of it: the drives at the places below m - 1 are identified, and the last MDT was to the one at m - 1.
abbrev pub LastTo : ℕ → List Turn → Type 0
LastTo zero turns = addressed_before turns ≡ None
LastTo (suc i) [] = ⊥
LastTo (suc i) (t ∷ turns) = (t.phase ≡ 1) × (t.addressed ≡ Some i)

pub record Identifies (m : ℕ) (p : Past) : Type 0 where
  pub phase_is : p.now.phase ≡ 1
  pub identified : (k : ℕ) → has_identified k p.turns ≡ nat_lt (k + 1) m
  pub last : LastTo m p.turns

-- the end of a cycle at which the ring doesn't fall
pub end_kept : (s : Known) (p : Past) → fall_of s p ≡ None → after_end s p ≡ goes_on (next_phase s p) p
end_kept s p none = ap (λ o. if is_some o then new_epoch (p.cycle + 1) (still_waiting p) else goes_on (next_phase s p) p) none

-- PHASE 0
pub none_identified : (phase : ℕ) (hears before : Bool) → phase ≡ 0 → before ≡ false → (((phase == 1) && hears) || before) ≡ false
none_identified phase hears before none off = rw (none, off) refl

closed_now : (s : Known) (p : Past) (n : ℕ) → p.now.phase ≡ 0 → p.now.whole ≡ true → whole_row p.turns ≡ n → is_done s p ≡ nat_le 10 (suc n)
closed_now s p n zero_is whole row = ap (λ (i : ℕ). is_done_in i s p) zero_is ∙ ap (λ (i : ℕ). nat_le 10 i) (rw whole (omega (arith, row)))

-- what is looked back on when the MDT of a cycle of phase 0 is sent
pub record IsZero (n : ℕ) (p : Past) : Type 0 where
  pub phase_is : p.now.phase ≡ 0
  pub whole : p.now.whole ≡ true
  pub row : whole_row p.turns ≡ n
  pub fresh : (k : ℕ) → has_identified k p.turns ≡ false
  pub addressed : p.now.addressed ≡ None

pub zero_next : (s : Known) (p : Past) (n : ℕ) → IsZero n p → fall_of s p ≡ None → n ≤ 8 → Waits (suc n) (after_end s p)
zero_next s p n is none few = subst (λ (q : Past). Waits (suc n) q) (sym (end_kept s p none)) (record {
  phase_is = let early : nat_le 10 (suc n) ≡ false = grind (arith, nat_tests, few) in
      ap (λ (b : Bool). if b then p.now.phase + 1 else p.now.phase) (closed_now s p n is.phase_is is.whole is.row ∙ early) ∙ is.phase_is;
  row = rw is.whole (omega (arith, is.row));
  fresh = λ k. none_identified p.now.phase (p.now.heard k) (has_identified k p.turns) is.phase_is (is.fresh k);
  silent = is.addressed;
})

pub tenth_next : (s : Known) (p : Past) → IsZero 9 p → fall_of s p ≡ None → Identifies 0 (after_end s p)
tenth_next s p is none = subst (λ (q : Past). Identifies 0 q) (sym (end_kept s p none)) (record {
  phase_is = ap (λ (b : Bool). if b then p.now.phase + 1 else p.now.phase) (closed_now s p 9 is.phase_is is.whole is.row) ∙ ap (λ (i : ℕ). i + 1) is.phase_is;
  identified = λ k. let no : nat_lt (k + 1) 0 ≡ false = grind (arith, nat_tests) in none_identified p.now.phase (p.now.heard k) (has_identified k p.turns) is.phase_is (is.fresh k) ∙ sym no;
  last = is.addressed;
})

found_at : (k n m : ℕ) (test : ℕ → Bool) → ((i : ℕ) → i < m → test i ≡ false) → k ≤ m → m < k + n → test m ≡ true → first_from k n test ≡ Some m
found_at k zero m test before low high passes = absurd (omega (arith, low, high))
found_at k (suc n) m test before low high passes = elim (cases_eq k m) [
  | inl same ↦ let here : test k ≡ true = ap test same ∙ passes in rw here (ap (λ (i : ℕ). Some i) same)
  | inr other ↦ let off : test k ≡ false = before k (omega (arith, low, other)) in rw off (found_at (k + 1) n m test before (omega (arith, low, other)) (omega (arith, high)) passes)
]

-- what is looked back on when the MDT of a cycle of phase 1 is sent
pub record IsOne (m : ℕ) (p : Past) : Type 0 where
  pub phase_is : p.now.phase ≡ 1
  pub whole : p.now.whole ≡ true
  pub identified : (k : ℕ) → has_identified k p.turns ≡ nat_lt (k + 1) m
  pub last : LastTo m p.turns
  pub hears : (k : ℕ) → p.now.heard k ≡ (k + 1 == m)

identified_by : (phase k m : ℕ) (hears before : Bool) → phase ≡ 1 → hears ≡ (k + 1 == m) → before ≡ nat_lt (k + 1) m → (((phase == 1) && hears) || before) ≡ nat_lt k m
identified_by phase k m hears before one a b = rw (one, a, b) (by (k + 1 == m) (nat_lt (k + 1) m) refl refl)
  where
    by : (x y : Bool) → (k + 1 == m) ≡ x → nat_lt (k + 1) m ≡ y → (x || y) ≡ nat_lt k m
    by true y is less = let yes : nat_lt k m ≡ true = grind (arith, nat_tests, is) in sym yes
    by false true is less = let yes : nat_lt k m ≡ true = grind (arith, nat_tests, less) in sym yes
    by false false is less = let no : nat_lt k m ≡ false = grind (arith, nat_tests, is, less) in sym no

identified_now : (m : ℕ) (p : Past) → IsOne m p → (k : ℕ) → is_identified p k ≡ nat_lt k m
identified_now m p is k = identified_by p.now.phase k m (p.now.heard k) (has_identified k p.turns) is.phase_is (is.hears k) (is.identified k)

-- the first that isn't identified
pub first_unknown : (n m : ℕ) (p : Past) → IsOne m p → m < n → first_from 0 n (λ k. not (is_identified p k)) ≡ Some m
first_unknown n m p is less = found_at 0 n m (λ k. not (is_identified p k))
    (λ i low. let yes : nat_lt i m ≡ true = grind (arith, nat_tests, low) in ap not (identified_now m p is i ∙ yes)) (omega arith) (omega (arith, less))
    (let no : nat_lt m m ≡ false = grind (arith, nat_tests) in ap not (identified_now m p is m ∙ no))

pub all_known : (n m : ℕ) (p : Past) → IsOne m p → m ≡ n → first_from 0 n (λ k. not (is_identified p k)) ≡ None
all_known n m p is same = none_from 0 n (λ k. not (is_identified p k))
    (λ i low high. let yes : nat_lt i m ≡ true = grind (arith, nat_tests, high, same) in ap not (identified_now m p is i ∙ yes))

done_now : (s : Known) (p : Past) (o : Option ℕ) → p.now.phase ≡ 1 → first_place s (λ k. not (is_identified p k)) ≡ o → is_done s p ≡ is_none o
done_now s p o one first = ap (λ (i : ℕ). is_done_in i s p) one ∙ ap (λ (x : Option ℕ). is_none x) first

pub one_next : (s : Known) (p : Past) (m : ℕ) → IsOne m p → m < length s.drives → p.now.addressed ≡ Some m → fall_of s p ≡ None → Identifies (suc m) (after_end s p)
one_next s p m is less to none = subst (λ (q : Past). Identifies (suc m) q) (sym (end_kept s p none)) (record {
  phase_is = ap (λ (b : Bool). if b then p.now.phase + 1 else p.now.phase) (done_now s p (Some m) is.phase_is (first_unknown (length s.drives) m p is less)) ∙ is.phase_is;
  identified = λ k. let same : nat_lt k m ≡ nat_lt (k + 1) (suc m) = elim (cases_Bool (nat_lt k m)) [
    | inl less ↦ let yes : nat_lt (k + 1) (suc m) ≡ true = grind (arith, nat_tests, less) in less ∙ sym yes
    | inr not_less ↦ let no : nat_lt (k + 1) (suc m) ≡ false = grind (arith, nat_tests, not_less) in not_less ∙ sym no
  ] in identified_now m p is k ∙ same;
  last = (is.phase_is, to);
})

pub one_done : (s : Known) (p : Past) (m : ℕ) → IsOne m p → m ≡ length s.drives → fall_of s p ≡ None → (after_end s p).now.phase ≡ 2
one_done s p m is all none = subst (λ (q : Past). q.now.phase ≡ 2) (sym (end_kept s p none))
    (ap (λ (b : Bool). if b then p.now.phase + 1 else p.now.phase) (done_now s p None is.phase_is (all_known (length s.drives) m p is all)) ∙ ap (λ (i : ℕ). i + 1) is.phase_is)
