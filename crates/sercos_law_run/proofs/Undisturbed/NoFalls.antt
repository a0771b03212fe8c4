-- Where the ring doesn't fall at the end of a cycle.
use Rattle.sercos_law_run.proofs.Words.{◌≡◌, ℕ, ◌+◌, ◌<◌, ◌≤◌, Bool, true, false, not, ◌&&◌, List, [], ◌∷◌, length, Option, Some, None, refl, sym, ◌∙◌, ap, arith, if◌then◌else◌, ◌==◌, nat_le, option_or, false≢true, nat_tests, cycles_open, is_place, Known, Task, Past, Turn, Call, past, first_from, first_place, after_mdt, has_lost_mst, has_lost_at, count_addressed, is_at_limit, fall_at, fall_of, leaves, past_keeps, inl, inr, cases_Bool}
use Rattle.std.proofs.lemmas.Bool.{and_right}
use Rattle.sercos_trace.specs.declared.events.Fall.TheVariants as fall
use Rattle.sercos_master.proofs.Rings.{none_from as none_first}

-- WHAT WAS HEARD stays when the answers are looked at and the MDT goes.
pub heard_mdt : (s : Known) (p : Past) → (after_mdt s p).now.heard ≡ p.now.heard
heard_mdt s p = (leaves s p).heard

-- THE PHASE never goes down within an epoch.
abbrev pub IsNoLower : ℕ → List Turn → Type 0
IsNoLower phase [] = Unit {0}
IsNoLower phase (t ∷ turns) = t.phase ≤ phase

abbrev pub HasRisen : Past → Type 0
HasRisen p = IsNoLower p.now.phase p.turns

pub no_less : (done : Bool) (n : ℕ) → n ≤ (if done then n + 1 else n)
no_less true n = omega arith
no_less false n = omega arith

pub was_low : (done : Bool) (n m : ℕ) → (if done then n + 1 else n) ≤ m → n ≤ m
was_low true n m le = omega (arith, le)
was_low false n m le = le

pub stays_at : (done : Bool) (n m : ℕ) → n ≡ m → (if done then n + 1 else n) ≡ m → done ≡ false
stays_at true n m same is = absurd (omega (arith, same, is))
stays_at false n m same is = refl

pub has_risen : (s : Known) (requests : ℕ → List Task) (h : List Call) → HasRisen (past s requests h)
has_risen s requests = past_keeps HasRisen s requests (record {
  first = tt;
  mst = λ h whole risen. risen;
  taken = λ h k content inside is risen. risen;
  mdt = λ h risen. let p = past s requests h in let l = leaves s p in (rw (l.phase, l.turns) risen);
  on = λ h done is risen. no_less done (past s requests h).now.phase;
  new = λ h cycle risen. tt;
})

-- NO PLACE passes a test that none passes.
pub none_from : (k n : ℕ) (test : ℕ → Bool) → ((i : ℕ) → k ≤ i → i < k + n → test i ≡ false) → first_from k n test ≡ None
none_from k n = none_first n k

-- The parts of a fall.
pub mst_kept : (now : Turn) (turns : List Turn) → now.whole ≡ true → has_lost_mst (now ∷ turns) ≡ false
mst_kept now [] whole = refl
mst_kept now (before ∷ turns) whole = rw whole (and_right (nat_le 1 before.phase) false refl)

at_kept : (k : ℕ) (now : Turn) (turns : List Turn) → IsNoLower now.phase turns → (3 ≤ now.phase → now.heard k ≡ true) → has_lost_at k (now ∷ turns) ≡ false
at_kept k now [] risen heard = refl
at_kept k now (before ∷ turns) risen heard = by (nat_le 3 before.phase) refl
  where
    by : (late : Bool) → nat_le 3 before.phase ≡ late → (late && (not (now.heard k) && not (before.heard k))) ≡ false
    by true late = let is : before.phase ≤ now.phase = risen in let hears : now.heard k ≡ true = heard (grind (arith, nat_tests, late, is)) in rw hears refl
    by false late = refl

-- No fall, if the MST came back whole, each drive was heard in phases 3 and 4, and no step and no identification is at its limit.
pub record IsKept (s : Known) (p : Past) : Type 0 where
  pub whole : p.now.whole ≡ true
  pub hears : 3 ≤ p.now.phase → (k : ℕ) → k < length s.drives → p.now.heard k ≡ true
  pub identifies : p.now.phase ≡ 1 → (k : ℕ) → k < length s.drives → is_place k p.now.addressed ≡ true → count_addressed k p.turns ≤ 63
  pub answers : (p.now.phase ≡ 1 → ⊥) → (k : ℕ) → k < length s.drives → cycles_open (p.calls k) ≤ 63

-- NO LIMIT is reached.
pub limit_so : (p : Past) (k : ℕ) → (p.now.phase ≡ 1 → is_place k p.now.addressed ≡ true → count_addressed k p.turns ≤ 63)
    → ((p.now.phase ≡ 1 → ⊥) → cycles_open (p.calls k) ≤ 63) → is_at_limit p k ≡ false
limit_so p k identifies answers = elim (cases_Bool (p.now.phase == 1)) [
  | inl one ↦ rw one (addressed (grind (arith, nat_tests, one)) (is_place k p.now.addressed) refl)
  | inr other ↦ rw other (grind (arith, nat_tests, (answers (not_one other))))
]
  where
    addressed : p.now.phase ≡ 1 → (b : Bool) → is_place k p.now.addressed ≡ b → (b && nat_le 64 (count_addressed k p.turns)) ≡ false
    addressed one true here = grind (arith, nat_tests, (identifies one here))
    addressed one false here = refl

    not_one : (p.now.phase == 1) ≡ false → p.now.phase ≡ 1 → ⊥
    not_one other one = let yes : (p.now.phase == 1) ≡ true = grind (arith, nat_tests, one) in false≢true (sym other ∙ yes)

pub none_falls : (s : Known) (p : Past) → has_lost_mst (p.now ∷ p.turns) ≡ false
    → ((k : ℕ) → k < length s.drives → has_lost_at k (p.now ∷ p.turns) ≡ false) → ((k : ℕ) → k < length s.drives → is_at_limit p k ≡ false)
    → fall_of s p ≡ None
none_falls s p mst ats limits =
    let at : first_place s (λ k. has_lost_at k (p.now ∷ p.turns)) ≡ None = none_from 0 (length s.drives)
    (λ k. has_lost_at k (p.now ∷ p.turns)) (λ k low high. ats k (omega (arith, high))) in
    let limit : first_place s (is_at_limit p) ≡ None = none_from 0 (length s.drives) (is_at_limit p)
    (λ k low high. limits k (omega (arith, high))) in
    ap (λ (b : Bool). option_or (if b then Some fall.MstLost else None)
    (option_or (fall_at fall.AtLost s (first_place s (λ k. has_lost_at k (p.now ∷ p.turns))))
    (fall_at fall.StepLimit s (first_place s (is_at_limit p))))) mst
    ∙ ap (λ (o : Option ℕ). option_or None (option_or (fall_at fall.AtLost s o) (fall_at fall.StepLimit s (first_place s (is_at_limit p)))))
    at
    ∙ ap (λ (o : Option ℕ). option_or None (option_or None (fall_at fall.StepLimit s o))) limit

pub no_fall : (s : Known) (p : Past) → HasRisen p → IsKept s p → fall_of s p ≡ None
no_fall s p risen is = none_falls s p (mst_kept p.now p.turns is.whole)
    (λ k below. at_kept k p.now p.turns risen (λ late. is.hears late k below))
    (λ k below. limit_so p k (λ one here. is.identifies one k below here) (λ other. is.answers other k below))
