-- No cycle of phases 2 and 3 is idle.
use Rattle.sercos_law_run.proofs.Words.{◌≡◌, inl, inr, ℕ, zero, suc, ◌+◌, ◌<◌, ◌≤◌, Bool, true, false, List, [], ◌∷◌, ◌++◌, length, Option, Some, None, refl, sym, ap, ◌∙◌, subst, arith, is_none, is_some, cases_eq, Job, Step, RingView, Begun, open_in, CycleView, known_of, tasks_for, is_idle, Carry, Restarts, View, begun_in, one_more, open_since, sum_below, ats_in, mst_in, at_calls, own_mst, begin_calls, master_calls, IsRun, IsClear, behind_mdt, view_of, views_of, IsOpened, GoesOnInTwo, AreInTwo, AreInThree, views_since}
use Rattle.sercos_law_run.proofs.Views.Members.{members_count}
use Rattle.sercos_law_run.proofs.Held.Runs.{s_known}
use Rattle.sercos_law_run.proofs.Headline.HeadlineRuns.{first_store, keeps_all}
use Rattle.sercos_law_run.proofs.Undisturbed.Checks.PassedCycles.{views_split}
use Rattle.sercos_law_run.proofs.Agenda.Requests.{are_requests}
use Rattle.sercos_law_run.proofs.Cited.{work_in_three, work_in_two}

-- a sum whose terms don't fall doesn't fall
pub sum_most : (n : ℕ) (f g : ℕ → ℕ) → ((k : ℕ) → k < n → f k ≤ g k) → sum_below n f ≤ sum_below n g
sum_most zero f g most = omega arith
sum_most (suc n) f g most =
    let last = most n (omega arith) in omega (arith, sum_most n f g (λ k low. most k (omega (arith, low))), last)

-- one of the numbers is larger by d
pub sum_more : (n k d : ℕ) (f g : ℕ → ℕ) → k < n → ((j : ℕ) → j < n → f j ≤ g j) → f k + d ≤ g k → sum_below n f + d ≤ sum_below n g
sum_more zero k d f g low most one = absurd (omega (arith, low))
sum_more (suc n) k d f g low most one = elim (cases_eq n k) [
  | inl same ↦ (
      let rest = sum_most n f g (λ j j_low. most j (omega (arith, j_low))) in
      let last : f n + d ≤ g n = subst (λ (m : ℕ). f m + d ≤ g m) (sym same) one in omega (arith, rest, last))
  | inr other ↦ (
      let rest = sum_more n k d f g (omega (arith, low, other)) (λ j j_low. most j (omega (arith, j_low))) one in
      let last = most n (omega arith) in omega (arith, rest, last))
]

pub more_or_same : (b : Bool) (n : ℕ) → n ≤ one_more b n
more_or_same true n = omega arith
more_or_same false n = omega arith

one_more_is : (b : Bool) (n : ℕ) → b ≡ true → n + 1 ≤ one_more b n
one_more_is true n is = omega arith
one_more_is false n is = absurd (cc)

pub some_open : (o : Option Step) → is_none o ≡ false → is_some o ≡ true
some_open None is = sym is
some_open (Some s) is = refl

module _ (r : RingView) (jobs : List Job) (carry : Carry) (restarts : Restarts) (opened : IsOpened r jobs) where
  -- whether a step to a drive is open at the end of the next cycle, and in how many it was so far
  abbrev opens : CycleView → List CycleView → List CycleView → ℕ → Bool
  opens t cycles before k = is_some (open_in (begun_in (view_of r jobs carry restarts k t (cycles ++ before)) (views_since r jobs carry restarts k cycles before ++ views_of r jobs carry restarts k before)))

  abbrev was : List CycleView → List CycleView → ℕ → ℕ
  was cycles before k = open_since (views_since r jobs carry restarts k cycles before) (views_of r jobs carry restarts k before)

  -- In a cycle of phase 2 some drive has an open step.
  pub opens_in_two : (t : CycleView) (j : List CycleView) → IsRun r jobs carry restarts (t ∷ j) → IsClear (t ∷ j)
      → GoesOnInTwo r (behind_mdt r jobs carry restarts t.sent j)
      → (k : ℕ) × (k < length r.drives) × (is_some (open_in (begun_in (view_of r jobs carry restarts k t j)
      (views_of r jobs carry restarts k j))) ≡ true)
  opens_in_two t j run clear goes =
      let at_work =
      work_in_two (known_of r) (tasks_for (known_of r) jobs) (at_calls r carry (length j) (ats_in t.sent) (own_mst carry (length j)
      (mst_in t.sent) (begin_calls restarts (length j) (master_calls r carry restarts j))))
      (λ k. (are_requests (known_of r) jobs k).0) (s_known r jobs carry restarts opened
      (first_store r jobs carry restarts opened)).lists goes.phase goes.goes_on goes.planned goes.unchecked in
      let low : at_work.0 < length r.drives = let count = members_count r in let inside = at_work.1 in omega (arith, count, inside) in (
        at_work.0,
        low,
        some_open _ (ap (λ (l : List Begun). is_none (open_in l)) ((keeps_all r jobs carry restarts opened t j run clear).exact
            at_work.0 low).begun_now ∙ at_work.2),
      )

  pub one_works : (t : CycleView) (cycles before : List CycleView) → IsRun r jobs carry restarts (t ∷ (cycles ++ before))
      → IsClear (t ∷ (cycles ++ before)) → GoesOnInTwo r (behind_mdt r jobs carry restarts t.sent (cycles ++ before))
      → sum_below (length r.drives) (was cycles before) + 1 ≤ sum_below (length r.drives) (was (t ∷ cycles) before)
  one_works t cycles before run clear goes =
      let at_work = opens_in_two t (cycles ++ before) run clear goes in
      sum_more (length r.drives) at_work.0 1 (was cycles before) (λ k. one_more (opens t cycles before k) (was cycles before k)) at_work.1
      (λ k low. more_or_same (opens t cycles before k) (was cycles before k)) (one_more_is (opens t cycles before at_work.0)
      (was cycles before at_work.0) (subst (λ (l : List View). is_some (open_in (begun_in (view_of r jobs carry restarts at_work.0 t
      (cycles ++ before)) l)) ≡ true) (views_split r jobs carry restarts at_work.0 cycles before) at_work.2))

  pub none_idle : (cycles before : List CycleView) → IsRun r jobs carry restarts (cycles ++ before) → IsClear (cycles ++ before) → AreInTwo r jobs carry restarts cycles before
      → length cycles ≤ sum_below (length r.drives) (λ k. open_since (views_since r jobs carry restarts k cycles before) (views_of r jobs carry restarts k before))
  none_idle [] before run clear goes = omega arith
  none_idle (t ∷ cycles) before run clear goes =
      let grows = one_works t cycles before run clear goes.1 in omega (arith, none_idle cycles before run.0 clear.0 goes.0, grows)

module _ (r : RingView) (jobs : List Job) (carry : Carry) (restarts : Restarts) (opened : IsOpened r jobs) (k : ℕ)
    (below : k < length r.drives) where
  -- In each cycle of phase 3 a drive whose check hasn't ended has one.
  pub never_idle : (cycles before : List CycleView) → IsRun r jobs carry restarts (cycles ++ before) → IsClear (cycles ++ before) → AreInThree r jobs carry restarts k cycles before
      → length cycles ≤ open_since (views_since r jobs carry restarts k cycles before) (views_of r jobs carry restarts k before)
  never_idle [] before run clear goes = omega arith
  never_idle (t ∷ cycles) before run clear goes = let grows = one_more_is _
      (open_since (views_since r jobs carry restarts k cycles before) (views_of r jobs carry restarts k before)) is_open in
      omega (arith, (never_idle cycles before run.0 clear.0 goes.0), grows)
    where
      at_work : is_idle (behind_mdt r jobs carry restarts t.sent (cycles ++ before)) k ≡ false
      at_work = let count = members_count r in
          work_in_three (known_of r) (tasks_for (known_of r) jobs) (at_calls r carry (length (cycles ++ before)) (ats_in t.sent) (own_mst carry (length (cycles ++ before)) (mst_in t.sent) (begin_calls restarts (length (cycles ++ before)) (master_calls r carry restarts (cycles ++ before))))) k
          (λ i. (are_requests (known_of r) jobs i).0) (s_known r jobs carry restarts opened (first_store r jobs carry restarts opened)).lists (omega (arith, count, below)) goes.1.phase goes.1.goes_on goes.1.planned goes.1.unready

      is_open : is_some (open_in (begun_in (view_of r jobs carry restarts k t (cycles ++ before)) (views_since r jobs carry restarts k cycles before ++ views_of r jobs carry restarts k before))) ≡ true
      is_open = subst (λ (l : List View). is_some (open_in (begun_in (view_of r jobs carry restarts k t (cycles ++ before)) l)) ≡ true) (views_split r jobs carry restarts k cycles before)
          (some_open _ (ap (λ (l : List Begun). is_none (open_in l)) ((keeps_all r jobs carry restarts opened t (cycles ++ before) run clear).exact k below).begun_now ∙ at_work))
