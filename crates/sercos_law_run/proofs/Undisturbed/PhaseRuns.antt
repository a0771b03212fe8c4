-- How long phases 0 and 1 last in an undisturbed epoch.
use Rattle.sercos_law_run.proofs.Words.{◌≡◌, ℕ, zero, suc, ◌+◌, ◌<◌, ◌≤◌, Bool, true, false, List, [], ◌∷◌, ◌++◌, length, None, refl, sym, ◌∙◌, ap, subst, arith, ◌==◌, is_some, cond_both, false≢true, nat_tests, Job, RingView, CycleView, is_place, Known, known_of, Past, Turn, addressed_before, has_identified, whole_row, fall_of, next_phase, goes_on, new_epoch, still_waiting, after_end, Carry, Restarts, mst_in, ats_in, master_calls, begins, own_mst, looks_back, IsRun, IsClear, at_start, behind_mst, behind_ats, behind_mdt, IsOpened, IsUndisturbed, AreUndisturbed, StartsEpoch, came_back}
use Rattle.sercos_law_run.proofs.Views.MasterSame.{ats_none}
use Rattle.sercos_law_run.proofs.Views.Members.{members_count}
use Rattle.sercos_law_run.proofs.Undisturbed.NeverFalls.{never_falls}
use Rattle.sercos_law_run.proofs.Undisturbed.Arriving.Comes.{calm_in}
use Rattle.sercos_law_run.proofs.Undisturbed.Arriving.AtsTaken.{unheard_ats}
use Rattle.sercos_law_run.proofs.Undisturbed.Identified.{starts_so, goes_so, heard_next}
use Rattle.sercos_law_run.proofs.Undisturbed.NoFalls.{heard_mdt}
use Rattle.sercos_law_run.proofs.Undisturbed.StaysUp.{addressed_first, turns_now, whole_now, stands_so}
use Rattle.sercos_law_run.proofs.Undisturbed.PhaseZero.{none_addressed, few_back, zero_waits}
use Rattle.sercos_law_run.proofs.Undisturbed.PhaseCounts.{Waits, Identifies, LastTo, IsZero, IsOne, zero_next, tenth_next, first_unknown, one_next, one_done}
use Rattle.sercos_law_run.proofs.Undisturbed.ChannelsKept.{phase_now}

awaits_last : (m k : ℕ) (turns : List Turn) → LastTo m turns → (k + 1 == m) ≡ false → is_place k (addressed_before turns) ≡ false
awaits_last zero k turns last other = ap (is_place k) last
awaits_last (suc i) k [] last other = absurd last
awaits_last (suc i) k (t ∷ turns) (one, to) other = let off : (k == i) ≡ false = grind (arith, nat_tests, other) in ap (is_place k) to ∙ off

-- at the end of a cycle nothing is heard of the next
fresh_end : (s : Known) (k : ℕ) (p : Past) → (after_end s p).now.heard k ≡ false
fresh_end s k p = cond_both (is_some (fall_of s p)) (new_epoch (p.cycle + 1) (still_waiting p)) (goes_on (next_phase s p) p)
    (λ v. v.now.heard k ≡ false) (λ on. refl) (λ off. refl)

pub fresh_at : (r : RingView) (jobs : List Job) (carry : Carry) (restarts : Restarts) (k : ℕ) (j : List CycleView) → (looks_back r jobs (master_calls r carry restarts j)).now.heard k ≡ false
fresh_at r jobs carry restarts k [] = refl
fresh_at r jobs carry restarts k (t ∷ j) = fresh_end (known_of r) k (behind_mdt r jobs carry restarts t.sent j)

never_before : (k : ℕ) → (k + 1 == 0) ≡ true → ⊥
never_before k is = let no : (k + 1 == 0) ≡ false = grind (arith, nat_tests) in false≢true (sym no ∙ is)

-- the newest of these cycles is undisturbed
abbrev pub NewestUndisturbed : RingView → Carry → Restarts → List CycleView → Type 0
NewestUndisturbed r carry restarts [] = Unit {0}
NewestUndisturbed r carry restarts (t ∷ j) = IsUndisturbed r carry restarts t j

module _ (r : RingView) (jobs : List Job) (carry : Carry) (restarts : Restarts) (opened : IsOpened r jobs) where
  -- the next cycle is commanded the phase of what is looked back on
  pub next_phase_is : (t : CycleView) (j : List CycleView) → IsRun r jobs carry restarts (t ∷ j) → IsUndisturbed r carry restarts t j → t.phase ≡ (looks_back r jobs (master_calls r carry restarts j)).now.phase
  next_phase_is t j run calm = run.1.phase ∙ ap (λ (p : Past). p.now.phase) (starts_so r jobs carry restarts opened t j run.1 (calm_in r carry restarts t j calm))

  turns_are : (t : CycleView) (j : List CycleView) → IsRun r jobs carry restarts (t ∷ j) → IsUndisturbed r carry restarts t j → (behind_mdt r jobs carry restarts t.sent j).turns ≡ (looks_back r jobs (master_calls r carry restarts j)).turns
  turns_are t j run calm = turns_now r jobs carry restarts opened t j ∙ ap (λ (p : Past). p.turns) (starts_so r jobs carry restarts opened t j run.1 (calm_in r carry restarts t j calm))

  -- A CYCLE OF PHASE 0
  module _ (t : CycleView) (j : List CycleView) (run : IsRun r jobs carry restarts (t ∷ j)) (clear : IsClear (t ∷ j))
      (calm : IsUndisturbed r carry restarts t j) (stays : fall_of (known_of r) (behind_mdt r jobs carry restarts t.sent j) ≡ None) (n : ℕ)
      (waits : Waits n (looks_back r jobs (master_calls r carry restarts j))) where
    zero_is : (behind_mdt r jobs carry restarts t.sent j).now.phase ≡ 0
    zero_is = phase_now r jobs carry restarts t j run.1 ∙ next_phase_is t j run calm ∙ waits.phase_is

    in_zero : IsZero n (behind_mdt r jobs carry restarts t.sent j)
    in_zero = record {
      phase_is = zero_is;
      whole = whole_now r jobs carry restarts opened t j run.1 calm;
      row = ap whole_row (turns_are t j run calm) ∙ waits.row;
      fresh = λ k. ap (has_identified k) (turns_are t j run calm) ∙ waits.fresh k;
      addressed = none_addressed (known_of r) (behind_ats r jobs carry restarts t.sent j) zero_is;
    }

    zero_step : n ≤ 8 → Waits (suc n) (looks_back r jobs (master_calls r carry restarts (t ∷ j)))
    zero_step few = zero_next (known_of r) (behind_mdt r jobs carry restarts t.sent j) n in_zero stays few

    tenth_step : n ≡ 9 → Identifies 0 (looks_back r jobs (master_calls r carry restarts (t ∷ j)))
    tenth_step nine = tenth_next (known_of r) (behind_mdt r jobs carry restarts t.sent j) (subst (λ (i : ℕ). IsZero i (behind_mdt r jobs carry restarts t.sent j)) nine in_zero) stays

  -- A CYCLE OF PHASE 1
  module _ (t : CycleView) (j : List CycleView) (run : IsRun r jobs carry restarts (t ∷ j)) (clear : IsClear (t ∷ j))
      (calm : IsUndisturbed r carry restarts t j) (stays : fall_of (known_of r) (behind_mdt r jobs carry restarts t.sent j) ≡ None) (m : ℕ)
      (now : Identifies m (looks_back r jobs (master_calls r carry restarts j)))
      (hears : (k : ℕ) → (k + 1 == m) ≡ true → (behind_ats r jobs carry restarts t.sent j).now.heard k ≡ true) where
    one_is : (behind_mdt r jobs carry restarts t.sent j).now.phase ≡ 1
    one_is = phase_now r jobs carry restarts t j run.1 ∙ next_phase_is t j run calm ∙ now.phase_is

    start_is : at_start r jobs carry restarts j ≡ looks_back r jobs (master_calls r carry restarts j)
    start_is = starts_so r jobs carry restarts opened t j run.1 (calm_in r carry restarts t j calm)

    heard_so : (k : ℕ) → (behind_mdt r jobs carry restarts t.sent j).now.heard k ≡ (k + 1 == m)
    heard_so k = ap (λ (f : ℕ → Bool). f k) (heard_mdt (known_of r) (behind_ats r jobs carry restarts t.sent j)) ∙ by (k + 1 == m) refl
      where
        by : (b : Bool) → (k + 1 == m) ≡ b → (behind_ats r jobs carry restarts t.sent j).now.heard k ≡ (k + 1 == m)
        by true is = hears k is ∙ sym is
        by false is = unheard_ats r jobs carry (length j) k (behind_mst r jobs carry restarts t.sent j) (ats_in t.sent)
            (own_mst carry (length j) (mst_in t.sent) (begins r carry restarts j))
            (ats_none (known_of r) k (λ content. Unit {0}) (behind_mst r jobs carry restarts t.sent j))
            (rw (ap (λ (p : Past). p.now.phase) start_is ∙ now.phase_is) refl
            ∙ ap (λ (p : Past). is_place k (addressed_before p.turns)) start_is
            ∙ awaits_last m k (looks_back r jobs (master_calls r carry restarts j)).turns now.last is)
            (ap (λ (p : Past). p.now.heard k) start_is ∙ fresh_at r jobs carry restarts k j) ∙ sym is

    in_one : IsOne m (behind_mdt r jobs carry restarts t.sent j)
    in_one = record {
      phase_is = one_is;
      whole = whole_now r jobs carry restarts opened t j run.1 calm;
      identified = λ k. ap (has_identified k) (turns_are t j run calm) ∙ now.identified k;
      last = subst (λ (l : List Turn). LastTo m l) (sym (turns_are t j run calm)) now.last;
      hears = heard_so;
    }

    one_step : m < length (known_of r).drives → Identifies (suc m) (looks_back r jobs (master_calls r carry restarts (t ∷ j)))
    one_step less = one_next (known_of r) (behind_mdt r jobs carry restarts t.sent j) m in_one less
        (addressed_first (known_of r) (behind_ats r jobs carry restarts t.sent j) one_is
        ∙ first_unknown (length (known_of r).drives) m (behind_mdt r jobs carry restarts t.sent j) in_one less) stays

    last_step : m ≡ length (known_of r).drives → (looks_back r jobs (master_calls r carry restarts (t ∷ j))).now.phase ≡ 2
    last_step all = one_done (known_of r) (behind_mdt r jobs carry restarts t.sent j) m in_one all stays

  -- A drive that was addressed in the cycle before is heard.
  hears_in : (t : CycleView) (j : List CycleView) → IsRun r jobs carry restarts (t ∷ j) → IsClear (t ∷ j) → IsUndisturbed r carry restarts t j → NewestUndisturbed r carry restarts j → (m : ℕ)
      → Identifies m (looks_back r jobs (master_calls r carry restarts j)) → m ≤ length r.drives → (k : ℕ) → (k + 1 == m) ≡ true → (behind_ats r jobs carry restarts t.sent j).now.heard k ≡ true
  hears_in t j run clear calm before zero now most k is = absurd (never_before k is)
  hears_in t [] run clear calm before (suc i) now most k is = absurd now.last
  hears_in t (c ∷ j) run clear calm before (suc i) now most k is =
      let one : t.phase ≡ 1 = next_phase_is t (c ∷ j) run calm ∙ now.phase_is in
      let last =
      subst (λ (p : Past). LastTo (suc i) p.turns)
      (sym (starts_so r jobs carry restarts opened t (c ∷ j) run.1 (calm_in r carry restarts t (c ∷ j) calm))
      ∙ goes_so r jobs carry restarts opened t c j run calm before (omega (arith, one))) now.last in
      let first : c.phase ≡ 1 = sym (phase_now r jobs carry restarts c j run.0.1) ∙ last.0 in
      subst (λ (n : ℕ). (behind_ats r jobs carry restarts t.sent (c ∷ j)).now.heard n ≡ true) (grind (arith, nat_tests, is))
      (heard_next r jobs carry restarts opened t c j run calm before i (omega (arith, most)) one last.0 last.1
      (stands_so r jobs carry restarts opened c j run.0 clear.0 before (omega (arith, first)) i (omega (arith, most)) ∙ first))

  -- the ring doesn't fall
  stays_in : (t : CycleView) (cycles before : List CycleView) → IsRun r jobs carry restarts (t ∷ (cycles ++ before)) → IsClear (t ∷ (cycles ++ before)) → StartsEpoch r jobs carry restarts before
      → AreUndisturbed r carry restarts (t ∷ cycles) before → fall_of (known_of r) (behind_mdt r jobs carry restarts t.sent (cycles ++ before)) ≡ None
  stays_in t cycles before run clear starts calm = (never_falls r jobs carry restarts opened (t ∷ cycles) before run clear starts calm).stays.1

  -- HOW LONG THE PHASES LAST, from phase 0 of an epoch on: after n cycles, before which w MSTs in a row came back, n + w in a row did, if that
  -- is at most nine ..
  abbrev back_before : List CycleView → ℕ
  back_before before = came_back r jobs carry restarts before

  pub waits_in : (cycles before : List CycleView) → IsRun r jobs carry restarts (cycles ++ before) → IsClear (cycles ++ before) → StartsEpoch r jobs carry restarts before → AreUndisturbed r carry restarts cycles before
      → length cycles + back_before before ≤ 9 → Waits (length cycles + back_before before) (looks_back r jobs (master_calls r carry restarts (cycles ++ before)))
  waits_in [] before run clear starts calm few =
      let none : back_before before ≡ 0 + back_before before = omega arith in
      subst (λ (n : ℕ). Waits n (looks_back r jobs (master_calls r carry restarts before))) none (zero_waits r jobs carry restarts before starts)
  waits_in (t ∷ cycles) before run clear starts calm few =
      subst (λ (n : ℕ). Waits n (looks_back r jobs (master_calls r carry restarts (t ∷ (cycles ++ before))))) (omega arith)
      (zero_step t (cycles ++ before) run clear calm.1 (stays_in t cycles before run clear starts calm) (length cycles + back_before before) (waits_in cycles before run.0 clear.0 starts calm.0 (omega (arith, few))) (omega (arith, few)))

  newest_calm : (cycles before : List CycleView) → AreUndisturbed r carry restarts cycles before → 1 ≤ length cycles → NewestUndisturbed r carry restarts (cycles ++ before)
  newest_calm [] before calm some = absurd (omega (arith, some))
  newest_calm (t ∷ cycles) before calm some = calm.1

  -- .. and in the cycle before which ten came back no drive is identified ..
  identifies_first : (t : CycleView) (cycles before : List CycleView) → IsRun r jobs carry restarts (t ∷ (cycles ++ before)) → IsClear (t ∷ (cycles ++ before)) → StartsEpoch r jobs carry restarts before
      → AreUndisturbed r carry restarts (t ∷ cycles) before → length cycles + back_before before ≡ 9 → Identifies 0 (looks_back r jobs (master_calls r carry restarts (t ∷ (cycles ++ before))))
  identifies_first t cycles before run clear starts calm nine =
      tenth_step t (cycles ++ before) run clear calm.1 (stays_in t cycles before run clear starts calm) (length cycles + back_before before) (waits_in cycles before run.0 clear.0 starts calm.0 (omega (arith, nine))) nine

  -- .. m cycles later the drives at the places below m - 1 are ..
  pub identifies_in : (m : ℕ) (cycles before : List CycleView) → IsRun r jobs carry restarts (cycles ++ before) → IsClear (cycles ++ before) → StartsEpoch r jobs carry restarts before → AreUndisturbed r carry restarts cycles before
      → m ≤ length r.drives → length cycles + back_before before ≡ 10 + m → Identifies m (looks_back r jobs (master_calls r carry restarts (cycles ++ before)))
  identifies_in m [] before run clear starts calm most long = let few = few_back r jobs carry restarts before starts in absurd (omega (arith, long, few))
  identifies_in zero (t ∷ cycles) before run clear starts calm most long = identifies_first t cycles before run clear starts calm (omega (arith, long))
  identifies_in (suc i) (t ∷ cycles) before run clear starts calm most long =
      let few = few_back r jobs carry restarts before starts in
      let now : Identifies i (looks_back r jobs (master_calls r carry restarts (cycles ++ before))) = identifies_in i cycles before run.0 clear.0 starts calm.0 (omega (arith, most)) (omega (arith, long)) in
      let count = members_count r in
      one_step t (cycles ++ before) run clear calm.1 (stays_in t cycles before run clear starts calm) i now (hears_in t (cycles ++ before) run clear calm.1 (newest_calm cycles before calm.0 (omega (arith, long, few))) i now (omega (arith, most))) (omega (arith, most, count))

  -- .. and in the cycle after the one in which the last drive is identified phase 2 is commanded.
  pub second_in : (cycles before : List CycleView) → IsRun r jobs carry restarts (cycles ++ before) → IsClear (cycles ++ before) → StartsEpoch r jobs carry restarts before → AreUndisturbed r carry restarts cycles before
      → length cycles + back_before before ≡ 11 + length r.drives → (looks_back r jobs (master_calls r carry restarts (cycles ++ before))).now.phase ≡ 2
  second_in [] before run clear starts calm long = let few = few_back r jobs carry restarts before starts in absurd (omega (arith, long, few))
  second_in (t ∷ cycles) before run clear starts calm long =
      let few = few_back r jobs carry restarts before starts in
      let now : Identifies (length r.drives) (looks_back r jobs (master_calls r carry restarts (cycles ++ before))) = identifies_in (length r.drives) cycles before run.0 clear.0 starts calm.0 (omega arith) (omega (arith, long)) in
      let count = members_count r in
      last_step t (cycles ++ before) run clear calm.1 (stays_in t cycles before run clear starts calm) (length r.drives) now (hears_in t (cycles ++ before) run clear calm.1 (newest_calm cycles before calm.0 (omega (arith, long, few))) (length r.drives) now (omega arith)) (sym count)

  -- So it is told by the number of cycles before it which phase a cycle is commanded.
  pub phases_in : (t : CycleView) (cycles before : List CycleView) → IsRun r jobs carry restarts (t ∷ (cycles ++ before)) → IsClear (t ∷ (cycles ++ before)) → StartsEpoch r jobs carry restarts before
      → AreUndisturbed r carry restarts (t ∷ cycles) before
      → (back_before before ≤ 9) × (length cycles + back_before before ≤ 9 → t.phase ≡ 0)
      × ((m : ℕ) → m ≤ length r.drives → length cycles + back_before before ≡ 10 + m → t.phase ≡ 1) × (length cycles + back_before before ≡ 11 + length r.drives → t.phase ≡ 2)
  phases_in t cycles before run clear starts calm = (
    few_back r jobs carry restarts before starts,
    λ few. next_phase_is t (cycles ++ before) run calm.1 ∙ (waits_in cycles before run.0 clear.0 starts calm.0 few).phase_is,
    λ m most long. next_phase_is t (cycles ++ before) run calm.1 ∙ (identifies_in m cycles before run.0 clear.0 starts calm.0 most long).phase_is,
    λ long. next_phase_is t (cycles ++ before) run calm.1 ∙ second_in cycles before run.0 clear.0 starts calm.0 long,
  )
