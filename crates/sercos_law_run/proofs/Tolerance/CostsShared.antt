-- Up to phase 2 a disturbed cycle costs all channels together no more than one.
use Rattle.sercos_law_run.proofs.Words.{◌≡◌, inl, inr, ℕ, zero, suc, ◌+◌, ◌<◌, ◌≤◌, Bool, true, false, not, ◌&&◌, ◌||◌, List, ◌∷◌, ◌++◌, length, Option, Some, None, refl, sym, ap, ◌∙◌, arith, if◌then◌else◌, IsSome, is_some, false≢true, false_from_ne_true, same_Some, Job, Request, store_of, RingView, Begun, open_in, CycleView, known_of, in_turn, Carry, Restarts, begun_in, epoch_begun, unless_restart, with_begun, with_heard, Heard, View, processed_in, AreListed, cost_in, cost_of, open_since, one_more, sum_below, drive_at, is_disturbed_in, IsClear, IsRun, behind_mdt, view_of, views_of, IsOpened, views_since, cycles_for, disturbances, loses_step, lost_since, AreSparse, IsViewRun, cases_Bool}
use Rattle.sercos_law_run.proofs.Undisturbed.Sections.{sum_most}
use Rattle.sercos_law_run.proofs.Recovery.Turns.{opens_in_turn}
use Rattle.sercos_law_run.proofs.Tolerance.Borne.{IsBase, is_run}
use Rattle.sercos_law_run.proofs.Tolerance.CostsSparse.{opens_so, spare_for, IsLoss, few_from, lost_parts}
use Rattle.sercos_law_run.proofs.Tolerance.Losses.{same_if}

-- SUMS over the drives
sum_same : (n : ℕ) (f g : ℕ → ℕ) → ((k : ℕ) → k < n → f k ≡ g k) → sum_below n f ≡ sum_below n g
sum_same zero f g same = refl
sum_same (suc n) f g same =
    let last = same n (omega arith) in omega (arith, sum_same n f g (λ k low. same k (omega (arith, low))), last)

pub sum_both : (n : ℕ) (f g : ℕ → ℕ) → sum_below n (λ k. f k + g k) ≡ sum_below n f + sum_below n g
sum_both zero f g = refl
sum_both (suc n) f g = let rest = sum_both n f g in omega (arith, rest)

-- if the test holds at one place at most, the sum is one more at most
sum_one : (n : ℕ) (b : ℕ → Bool) (f : ℕ → ℕ) → ((i j : ℕ) → i < n → j < n → b i ≡ true → b j ≡ true → i ≡ j)
    → sum_below n (λ k. one_more (b k) (f k)) ≤ sum_below n f + 1
sum_one zero b f one = omega arith
sum_one (suc n) b f one = elim (cases_Bool (b n)) [
  | inl on ↦ let none = sum_same n (λ k. one_more (b k) (f k)) f (others on) in
      let last : one_more (b n) (f n) ≡ f n + 1 = ap (λ (x : Bool). one_more x (f n)) on in omega (arith, none, last)
  | inr off ↦ let last = same_if (b n) (f n) off in
      omega (arith, (sum_one n b f (λ i j low high. one i j (omega (arith, low)) (omega (arith, high)))), last)
]
  where
    others : b n ≡ true → (k : ℕ) → k < n → one_more (b k) (f k) ≡ f k
    others on k low = same_if (b k) (f k) (false_from_ne_true (b k) (λ too. let same = one k n (omega (arith, low)) (omega arith) too on in
        omega (arith, same, low)))

-- WHERE SOMETHING IS LOST, a step is open at the end.
first_part : (a h b p : Bool) → ((a && not h) || (b && not p)) ≡ true → b ≡ false → (a ≡ true) × (h ≡ false)
first_part a h true p on off = absurd (false≢true (sym off))
first_part true false false p on off = (refl, refl)
first_part true true false p on off = absurd (false≢true on)
first_part false h false p on off = absurd (false≢true on)

unheard_same : (o : Option Heard) (begun : List Begun) → is_some o ≡ false → with_heard o begun ≡ begun
unheard_same None begun off = refl
unheard_same (Some a) begun off = absurd (false≢true (sym off))

none_begun : (o : Option Request) (begun : List Begun) → (IsSome o → open_in begun ≡ None) → is_some (open_in begun) ≡ true
    → with_begun o begun ≡ begun
none_begun None begun shut some = refl
none_begun (Some q) begun shut some = absurd (false≢true (sym (ap (λ (o : Option _). is_some o) (shut refl)) ∙ some))

lost_opens : (busy : ℕ) (v : View) (past : List View) → IsViewRun busy (v ∷ past) → loses_step v past ≡ true
    → is_some (open_in (begun_in v past)) ≡ true
lost_opens busy v past run lost = elim (cases_Bool (is_some (open_in (begun_in v past)))) [
  | inl on ↦ on
  | inr off ↦
      let parts = first_part (is_some (open_in (unless_restart v (epoch_begun past)))) (is_some v.heard)
      (is_some (open_in (begun_in v past))) (is_some (processed_in v past)) lost off in
      let same : with_heard v.heard (unless_restart v (epoch_begun past)) ≡ unless_restart v (epoch_begun past) = unheard_same v.heard
      (unless_restart v (epoch_begun past)) parts.1 in
      let some : is_some (open_in (with_heard v.heard (unless_restart v (epoch_begun past)))) ≡ true = ap
      (λ (l : List Begun). is_some (open_in l)) same ∙ parts.0 in
      ap (λ (l : List Begun). is_some (open_in l)) (none_begun v.begins (with_heard v.heard (unless_restart v (epoch_begun past)))
      run.1.begins some) ∙ some
]
  where
    start : List Begun
    start = unless_restart v (epoch_begun past)

module _ (r : RingView) (jobs : List Job) (carry : Carry) (restarts : Restarts) (opened : IsOpened r jobs) where
  abbrev Base : List CycleView → Type 0
  Base before = IsBase r jobs carry restarts opened before

  abbrev spare : CycleView → List CycleView → ℕ
  spare t j = if is_disturbed_in r carry restarts (length j) t.sent then spare_for t.phase else 0

  abbrev costs : CycleView → List CycleView → ℕ
  costs t j = if is_disturbed_in r carry restarts (length j) t.sent then cycles_for t.phase else 0

  abbrev lost_at : ℕ → CycleView → List CycleView → Bool
  lost_at k t j = loses_step (view_of r jobs carry restarts k t j) (views_of r jobs carry restarts k j)

  abbrev lost_of : List CycleView → List CycleView → ℕ → ℕ
  lost_of cycles before k = lost_since (views_since r jobs carry restarts k cycles before) (views_of r jobs carry restarts k before)

  -- THE CHANNELS OF SOME DRIVES: all but those that are down
  module _ (down : ℕ → Bool) where
    abbrev pub kept_lost : List CycleView → List CycleView → ℕ → ℕ
    kept_lost cycles before k = if down k then 0 else lost_of cycles before k

    abbrev pub all_lost : List CycleView → List CycleView → ℕ
    all_lost cycles before = sum_below (length r.drives) (kept_lost cycles before)

    abbrev lost_too : ℕ → CycleView → List CycleView → Bool
    lost_too k t j = not (down k) && lost_at k t j

    lost_next : (t : CycleView) (cycles before : List CycleView) → all_lost (t ∷ cycles) before ≡ sum_below (length r.drives)
        (λ k. one_more (lost_too k t (cycles ++ before)) (kept_lost cycles before k))
    lost_next t cycles before = sum_same (length r.drives) (kept_lost (t ∷ cycles) before)
        (λ k. one_more (lost_too k t (cycles ++ before)) (kept_lost cycles before k))
        (λ k low. by (down k) (lost_of (t ∷ cycles) before k) (lost_of cycles before k) (lost_at k t (cycles ++ before))
        (lost_parts r jobs carry restarts opened k t cycles before))
      where
        by : (is_down : Bool) (new old : ℕ) (lost : Bool) → new ≡ one_more lost old
            → (let n : ℕ = if is_down then 0 else new in n) ≡ one_more (not is_down && lost) (let n : ℕ = if is_down then 0 else old in n)
        by true new old lost same = refl
        by false new old lost same = same

    one_lost : (t : CycleView) (cycles before : List CycleView) → IsRun r jobs carry restarts (t ∷ (cycles ++ before))
        → IsClear (t ∷ (cycles ++ before)) → 2 ≤ t.phase → t.phase ≤ 2 → all_lost (t ∷ cycles) before ≤ all_lost cycles before + 1
    one_lost t cycles before run clear two low =
        omega (
          arith,
          lost_next t cycles before,
          sum_one (length r.drives) (λ k. lost_too k t (cycles ++ before)) (kept_lost cycles before)
              (λ i j i_low j_low i_lost j_lost. same_Some i j
              (sym (in_turn_of two i i_low (too i i_lost)) ∙ in_turn_of two j j_low (too j j_lost))),
        )
      where
        too : (k : ℕ) → lost_too k t (cycles ++ before) ≡ true → lost_at k t (cycles ++ before) ≡ true
        too k on = elim (cases_Bool (down k)) [
          | inl on_is ↦ let on = rw on_is at on in absurd (false≢true on)
          | inr off ↦ let on = rw off at on in on
        ]

        in_turn_of : 2 ≤ t.phase → (k : ℕ) → k < length r.drives → lost_at k t (cycles ++ before) ≡ true
            → in_turn (known_of r) (behind_mdt r jobs carry restarts t.sent (cycles ++ before)) ≡ Some k
        in_turn_of two k below lost = opens_in_turn r jobs carry restarts opened t (cycles ++ before) run clear
            (omega (arith, two, low)) k below
            (lost_opens (drive_at r k).busy (view_of r jobs carry restarts k t (cycles ++ before))
            (views_of r jobs carry restarts k (cycles ++ before)) (is_run r jobs carry restarts opened (t ∷ (cycles ++ before)) run clear k below) lost)

    none_at_first : (n : ℕ) → sum_below n (λ k. if down k then 0 else 0) ≡ 0
    none_at_first zero = refl
    none_at_first (suc n) = let rest = none_at_first n in let last = by (down n) in omega (arith, rest, last)
      where
        by : (is_down : Bool) → (let m : ℕ = if is_down then 0 else 0 in m) ≡ 0
        by true = refl
        by false = refl

    -- WHAT IS LOST of these channels
    pub of_some : (before : List CycleView) → IsLoss r jobs carry restarts opened (λ l. all_lost l before) (λ k. down k ≡ false) 2 before
    of_some before = record {
      none = none_at_first (length r.drives);
      keeps = λ t cycles kept. lost_next t cycles before ∙ sum_same (length r.drives)
          (λ k. one_more (lost_too k t (cycles ++ before)) (kept_lost cycles before k)) (kept_lost cycles before)
          (λ k low. same_if (lost_too k t (cycles ++ before)) (kept_lost cycles before k) (elim (cases_Bool (down k)) [
            | inl on ↦ rw on refl
            | inr off ↦ let never = rw off at (kept k low) in rw off (never refl)
          ]));
      one = λ t cycles run clear two low. one_lost t cycles before run clear two low;
    }

  -- THOSE OF ALL DRIVES
  abbrev none_down : ℕ → Bool
  none_down k = false

  -- WHAT IS LOST of all channels
  pub all_few : (t : CycleView) (cycles before : List CycleView) → IsRun r jobs carry restarts (t ∷ (cycles ++ before))
      → IsClear (t ∷ (cycles ++ before)) → Base before → AreSparse r carry restarts (t ∷ cycles) before
      → t.phase ≤ 2
      → sum_below (length r.drives) (lost_of (t ∷ cycles) before) + spare t (cycles ++ before)
      ≤ disturbances r carry restarts (t ∷ cycles) before
  all_few t cycles before run clear base sparse low =
      few_from r jobs carry restarts opened (λ l. all_lost none_down l before) (λ k. none_down k ≡ false) 2 before
      (of_some none_down before)
      t cycles run clear base sparse low

  -- THE SUM OVER THE DRIVES
  pub costs_shared : (t : CycleView) (cycles before : List CycleView)
      → IsRun r jobs carry restarts (t ∷ (cycles ++ before)) → IsClear (t ∷ (cycles ++ before)) → Base before
      → AreSparse r carry restarts (t ∷ cycles) before → t.phase ≤ 2 → (longest : ℕ → ℕ)
      → ((k : ℕ) → k < length r.drives → AreListed longest (views_of r jobs carry restarts k (t ∷ (cycles ++ before))))
      → sum_below (length r.drives) (λ k. open_since (views_since r jobs carry restarts k (t ∷ cycles) before)
      (views_of r jobs carry restarts k before))
      ≤ sum_below (length r.drives) (λ k. cost_in (cost_of (drive_at r k).busy (drive_at r k).command longest (store_of (drive_at r k)))
      (epoch_begun (views_of r jobs carry restarts k (t ∷ (cycles ++ before)))))
      + disturbances r carry restarts (t ∷ cycles) before
  costs_shared t cycles before run clear starts sparse low longest listed =
      let each = sum_most (length r.drives) opens (λ k. cost k + lost_of (t ∷ cycles) before k)
      (λ k below. opens_so r jobs carry restarts opened (t ∷ cycles) before run clear starts sparse k longest below (listed k below)) in
      let both = sum_both (length r.drives) cost (lost_of (t ∷ cycles) before) in
      let few = all_few t cycles before run clear starts sparse low in omega (arith, each, both, few)
    where
      opens : ℕ → ℕ
      opens k = open_since (views_since r jobs carry restarts k (t ∷ cycles) before) (views_of r jobs carry restarts k before)

      cost : ℕ → ℕ
      cost k = cost_in (cost_of (drive_at r k).busy (drive_at r k).command longest (store_of (drive_at r k)))
          (epoch_begun (views_of r jobs carry restarts k (t ∷ (cycles ++ before))))
