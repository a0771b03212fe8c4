-- How long phase 2 lasts while disturbed cycles are sparse, however many they are.
use Rattle.sercos_law_run.proofs.Words.{◌≡◌, inl, inr, ℕ, zero, suc, ◌+◌, ◌*◌, ◌<◌, ◌≤◌, true, false, List, [], ◌∷◌, ◌++◌, length, Option, None, refl, sym, ap, ◌∙◌, arith, is_some, cases_lt, Job, times_le, store_of, DriveView, RingView, Entry, Begun, answers_in, open_in, steps_in, CycleView, Fall, known_of, Past, is_done, Carry, Restarts, begun_in, epoch_begun, epoch_log, epoch_records, View, AreTimed, in_step, head_before, taken_before, listed, sum_below, drive_at, looks_back, master_calls, IsClear, IsDisturbed, IsRun, behind_mdt, view_of, views_of, IsOpened, StartsEpoch, IsUndisturbed, own_costs, AreSparse, IsSparse, in_cost, comes_timed}
use Rattle.sercos_law_run.proofs.Held.Runs.{small}
use Rattle.sercos_law_run.proofs.Headline.HeadlineRuns.{all_stand, first_store}
use Rattle.sercos_law_run.proofs.Undisturbed.Checks.Carried.{are_carried}
use Rattle.sercos_law_run.proofs.Undisturbed.Checks.CommandRuns.{first_commands}
use Rattle.sercos_law_run.proofs.Undisturbed.Checks.PassedRuns.{commands_so}
use Rattle.sercos_law_run.proofs.Undisturbed.PhaseTwo.{listed_all}
use Rattle.sercos_law_run.proofs.Undisturbed.JobsBegun.{goes_in_two}
use Rattle.sercos_law_run.proofs.Undisturbed.Sections.{opens_in_two, sum_most, sum_more}
use Rattle.sercos_law_run.proofs.Undisturbed.Stops.StopStays.{stop_after}
use Rattle.sercos_law_run.proofs.Recovery.Limits.{open_age}
use Rattle.sercos_law_run.proofs.Recovery.Stretches.{whole_at}
use Rattle.sercos_law_run.proofs.Tolerance.Borne.{IsBorne, all_borne, before_lost, calm_or_not, is_run}
use Rattle.sercos_law_run.proofs.Tolerance.EarlySparse.{phase_is, rose, none_earlier}
use Rattle.sercos_law_run.proofs.Tolerance.InARow.{NotTaken, NoneOpen, Counts, NotAnswered, grows_one, counts, waits_from}
use Rattle.sercos_law_run.proofs.Tolerance.ManyEarly.{early_many}
use Rattle.sercos_law_run.proofs.Tolerance.Standing.{takes_whole}
use Rattle.sercos_law_run.proofs.Tolerance.Steps.{IsYoung, begun_is, never_some, none_new}
use Rattle.sercos_law_run.proofs.Tolerance.TwoLasts.{each_fits}

-- SUMS
pub ones : (n : ℕ) → sum_below n (λ k. 1) ≡ n
ones zero = refl
ones (suc n) = let rest = ones n in omega (arith, rest)

-- steps that cost no more than c of them and a command time are no more than both
pub few_steps : (busy n c time : ℕ) → (busy + 1) * n ≤ (busy + 1) * c + time → n ≤ c + time
few_steps busy n c time cost = elim (cases_lt (c + time) n) [
  | inr few ↦ omega (arith, few)
  | inl many ↦ (let most = times_le (busy + 1) (suc (c + time)) n (omega (arith, many)) in absurd (omega (arith, most, cost)))
]

one_more_step : (busy n : ℕ) → (busy + 3) * suc n ≡ (busy + 3) * n + (busy + 3)
one_more_step busy n = grind arith

-- WHAT THE STEPS SO FAR ALLOW: busy time and three cycles for each, and a cycle for each drive
abbrev pub weigh_at : RingView → List Job → Carry → Restarts → List CycleView → ℕ → ℕ
weigh_at r jobs carry restarts j k = ((drive_at r k).busy + 3) * length (epoch_log (views_of r jobs carry restarts k j)) + 1

abbrev pub weight_at : RingView → List Job → Carry → Restarts → List CycleView → ℕ
weight_at r jobs carry restarts j = sum_below (length r.drives) (weigh_at r jobs carry restarts j)

-- the steps of phase 2 to a drive, at most
abbrev pub two_steps : DriveView → ℕ
two_steps d = 74 + 4 * listed d + d.command

module _ (r : RingView) (jobs : List Job) (carry : Carry) (restarts : Restarts) (opened : IsOpened r jobs) where
  abbrev back : List CycleView → Past
  back j = looks_back r jobs (master_calls r carry restarts j)

  abbrev Borne : CycleView → List CycleView → Type 0
  Borne t j = IsBorne r jobs carry restarts opened t j

  abbrev views : ℕ → List CycleView → List View
  views k j = views_of r jobs carry restarts k j

  abbrev busy_of : ℕ → ℕ
  busy_of k = (drive_at r k).busy

  abbrev weigh : List CycleView → ℕ → ℕ
  weigh j k = weigh_at r jobs carry restarts j k

  abbrev weight : List CycleView → ℕ
  weight j = weight_at r jobs carry restarts j

  pub some_weight : (j : List CycleView) → length r.drives ≤ weight j
  some_weight j =
      let most = sum_most (length r.drives) (λ k. 1) (weigh j) (λ k low. omega arith) in omega (arith, ones (length r.drives), most)

  -- one cycle more
  module _ (t : CycleView) (j : List CycleView) (run : IsRun r jobs carry restarts (t ∷ j)) (clear : IsClear (t ∷ j)) (is : Borne t j) where
    stays : (k : ℕ) → (view_of r jobs carry restarts k t j).falls ≡ false
    stays k = ap (λ (o : Option Fall). is_some o) is.stays

    each_grows : (k : ℕ) → k < length r.drives → weigh j k ≤ weigh (t ∷ j) k
    each_grows k below =
        let least = grows_one (busy_of k) (view_of r jobs carry restarts k t j) (views k j) (is_run r jobs carry restarts opened (t ∷ j) run clear k below) (stays k)
        is.goes_on in
        omega (arith, times_le (busy_of k + 3) (length (epoch_log (views k j))) (length (epoch_log (views k (t ∷ j)))) least)

    pub weight_grows : weight j ≤ weight (t ∷ j)
    weight_grows = sum_most (length r.drives) (weigh j) (weigh (t ∷ j)) each_grows

    weight_more : (k : ℕ) → k < length r.drives → length (epoch_log (views k (t ∷ j))) ≡ suc (length (epoch_log (views k j)))
        → weight j + (busy_of k + 3) ≤ weight (t ∷ j)
    weight_more k below long = sum_more (length r.drives) k (busy_of k + 3) (weigh j) (weigh (t ∷ j)) below each_grows
        (let product = ap (λ (n : ℕ). (busy_of k + 3) * n) long ∙ one_more_step (busy_of k) (length (epoch_log (views k j))) in
        omega (arith, product))

    open_now : (k : ℕ) → k < length r.drives → is_some (open_in (begun_in (view_of r jobs carry restarts k t j) (views k j))) ≡ true
        → is_some (open_in (epoch_begun (views k (t ∷ j)))) ≡ true
    open_now k below on = ap (λ (l : List Begun). is_some (open_in l)) (begun_is (busy_of k) (view_of r jobs carry restarts k t j)
        (views k j)
        (is_run r jobs carry restarts opened (t ∷ j) run clear k below) (stays k) is.goes_on) ∙ on

    -- a step that the drive hasn't accepted is there only if the cycle is disturbed
    new_lost : IsUndisturbed r carry restarts t j → (k : ℕ) → k < length r.drives
        → is_some (open_in (epoch_begun (views k (t ∷ j)))) ≡ true
        → length (steps_in (epoch_begun (views k (t ∷ j)))) ≡ suc (length (epoch_log (views k (t ∷ j)))) → ⊥
    new_lost calm k below on steps = none_new (busy_of k) (view_of r jobs carry restarts k t j) (views k j)
        (is_run r jobs carry restarts opened (t ∷ j) run clear k below) (stays k) is.goes_on
        (λ opens. takes_whole (busy_of k) (view_of r jobs carry restarts k t j) (views k j) (is_run r jobs carry restarts opened (t ∷ j) run clear k below)
        (whole_at r jobs carry restarts opened t j run clear calm is.stays k below) (is.up calm k below) opens) on steps

  -- PHASE 2 at the end of a cycle: the cycles spent, by what the steps so far allow; and where one waits for its answer, by the cycles
  -- since it was accepted.
  record IsTwo (j : List CycleView) (spent base : ℕ) : Type 0 where
    total : spent ≤ base + weight j + 1
    waits : (k : ℕ) → k < length r.drives → (e : Entry) (rest : List Entry) → epoch_log (views k j) ≡ e ∷ rest
        → suc (length (answers_in (epoch_begun (views k j)))) ≡ length (epoch_log (views k j))
        → spent + e.processed.cycle + (busy_of k + 3) ≤ base + weight j + length (views k j) + 1

  at_first : (j : List CycleView) (spent base : ℕ) → spent ≤ base + length r.drives → IsTwo j (suc spent) base
  at_first j spent base few = record {
    total = let some = some_weight j in omega (arith, few, some);
    waits = λ k below e rest those a.
        let long = ap (λ (l : List Entry). length l) those in
        let product = times_le (busy_of k + 3) 1 (length (epoch_log (views k j))) (omega (arith, long)) in
        let all = ones (length r.drives) in
        let most = sum_more (length r.drives) k (busy_of k + 3) (λ i. 1) (weigh j) below (λ i low. omega arith) (omega (arith, product)) in
        omega (arith, few, head_before (length (views k j)) (epoch_records (views k j)) (taken_before (views k j)) e rest those, all, most);
  }

  wider : (j : List CycleView) (spent base more_base : ℕ) → base ≤ more_base → IsTwo j spent base → IsTwo j spent more_base
  wider j spent base more_base le is = record {
    total = let before = is.total in omega (arith, before, le);
    waits = λ k below e rest those a. let before = is.waits k below e rest those a in omega (arith, before, le);
  }

  -- ONE CYCLE MORE, t after u, in both of which a step is open at the end
  module _ (t u : CycleView) (j : List CycleView) (run : IsRun r jobs carry restarts (t ∷ u ∷ j)) (clear : IsClear (t ∷ u ∷ j))
      (was : Borne u j) (is : Borne t (u ∷ j)) (sparse : IsSparse r carry restarts t (u ∷ j)) (t_two : t.phase ≡ 2) (d : ℕ)
      (d_low : d < length r.drives) (d_opens : is_some (open_in (epoch_begun (views d (u ∷ j)))) ≡ true) (k : ℕ)
      (below : k < length r.drives) (opens : is_some (open_in (epoch_begun (views k (t ∷ u ∷ j)))) ≡ true) (spent base : ℕ)
      (earlier : IsTwo (u ∷ j) spent base) where
    waits_next : (i : ℕ) → i < length r.drives → (e : Entry) (rest : List Entry) → epoch_log (views i (t ∷ u ∷ j)) ≡ e ∷ rest
        → suc (length (answers_in (epoch_begun (views i (t ∷ u ∷ j))))) ≡ length (epoch_log (views i (t ∷ u ∷ j)))
        → suc spent + e.processed.cycle + (busy_of i + 3) ≤ base + weight (t ∷ u ∷ j) + suc (length (views i (u ∷ j))) + 1
    waits_next i i_low e rest those a = elim (waits_from (busy_of i) (view_of r jobs carry restarts i t (u ∷ j)) (views i (u ∷ j))
        (is_run r jobs carry restarts opened (t ∷ u ∷ j) run clear i i_low) (stays t (u ∷ j) run clear is i) is.goes_on e rest those a) [
          | inl (long, same, waited) ↦ (
              let grows = weight_grows t (u ∷ j) run clear is in omega (arith, earlier.waits i i_low e rest same waited, grows))
          | inr (long, cycle) ↦ (
              let before = earlier.total in
              let grows = weight_more t (u ∷ j) run clear is i i_low long in omega (arith, before, grows, cycle))
        ]

    -- a step that the drive hasn't accepted: nothing was late at the end of the cycle before
    new_next : IsDisturbed r carry restarts t (u ∷ j) → suc spent ≤ base + weight (t ∷ u ∷ j)
    new_next disturbed = by (counts (epoch_begun (views d (u ∷ j))) (epoch_log (views d (u ∷ j)))
        (in_step (busy_of d) (views d (u ∷ j)) (is_run r jobs carry restarts opened (u ∷ j) run.0 clear.0 d d_low)))
      where
        young : IsYoung (busy_of d) 0 0 (views d (u ∷ j))
        young = before_lost r jobs carry restarts opened t u j run clear was sparse d d_low disturbed (omega (arith, t_two))

        by : Counts (epoch_begun (views d (u ∷ j))) (epoch_log (views d (u ∷ j))) → suc spent ≤ base + weight (t ∷ u ∷ j)
        by (NoneOpen none s a) = absurd (never_some (open_in (epoch_begun (views d (u ∷ j)))) none d_opens)
        by (NotTaken on s a) = let few = young.new on s in let old = open_age (views d (u ∷ j)) on in absurd (omega (arith, few, old))
        by (NotAnswered e rest those on s a) =
            let late = (young.old e rest those on s).1 in
            let grows = weight_grows t (u ∷ j) run clear is in omega (arith, late, earlier.waits d d_low e rest those a, grows)

    total_next : suc spent ≤ base + weight (t ∷ u ∷ j) + 1
    total_next = by (counts (epoch_begun (views k (t ∷ u ∷ j))) (epoch_log (views k (t ∷ u ∷ j)))
        (in_step (busy_of k) (views k (t ∷ u ∷ j)) (is_run r jobs carry restarts opened (t ∷ u ∷ j) run clear k below)))
      where
        by : Counts (epoch_begun (views k (t ∷ u ∷ j))) (epoch_log (views k (t ∷ u ∷ j))) → suc spent ≤ base + weight (t ∷ u ∷ j) + 1
        by (NoneOpen none s a) = absurd (never_some (open_in (epoch_begun (views k (t ∷ u ∷ j)))) none opens)
        by (NotTaken on s a) = elim (calm_or_not r carry restarts t (u ∷ j)) [
          | inl disturbed ↦ (let le = new_next disturbed in omega (arith, le))
          | inr calm ↦ absurd (new_lost t (u ∷ j) run clear is calm k below on s)
        ]
        by (NotAnswered e rest those on s a) =
            let late = ((is.aged k below).any.old e rest those on s).1 in omega (arith, waits_next k below e rest those a, late)

    two_next : IsTwo (t ∷ u ∷ j) (suc spent) base
    two_next = record { total = total_next; waits = waits_next }

  -- in a cycle of phase 2 that isn't its last, without a stop
  some_open : (t : CycleView) (j : List CycleView) → IsRun r jobs carry restarts (t ∷ j) → IsClear (t ∷ j) → Borne t j → t.phase ≡ 2
      → (back (t ∷ j)).now.phase ≡ 2 → (back (t ∷ j)).stop ≡ None
      → (k : ℕ) × (k < length r.drives) × (is_some (open_in (epoch_begun (views k (t ∷ j)))) ≡ true)
  some_open t j run clear is t_two is_two none =
      let o = opens_in_two r jobs carry restarts opened t j run clear
      (goes_in_two r jobs carry restarts opened t j run clear t_two (sym (stop_after r jobs carry restarts t j is.stays) ∙ none)
      unfinished) in
      (o.0, o.1, open_now t j run clear is o.0 o.1 o.2)
    where
      unfinished : is_done (known_of r) (behind_mdt r jobs carry restarts t.sent j) ≡ false
      unfinished = elim (rose r jobs carry restarts opened t j run is 1 is_two) [
        | inl first ↦ (let one = first.1 in absurd (omega (arith, one, t_two)))
        | inr later ↦ later.0
      ]

  two_many : (t : CycleView) (cycles before : List CycleView) → IsRun r jobs carry restarts (t ∷ (cycles ++ before))
      → IsClear (t ∷ (cycles ++ before)) → StartsEpoch r jobs carry restarts before → AreSparse r carry restarts (t ∷ cycles) before
      → (back (t ∷ (cycles ++ before))).now.phase ≡ 2 → (back (t ∷ (cycles ++ before))).stop ≡ None → t.phase ≡ 2
      → IsTwo (t ∷ (cycles ++ before)) (suc (length cycles)) (13 + 2 * length r.drives + own_costs r jobs carry restarts
      (t ∷ cycles) before)
  two_many t [] before run clear starts sparse is_two none t_two =
      let is = all_borne r jobs carry restarts opened t [] before run clear starts sparse in
      let zero : t.phase ≡ 0 = phase_is r jobs carry restarts opened t before run is ∙ starts in
      absurd (omega (arith, zero, t_two))
  two_many t (u ∷ cycles) before run clear starts sparse is_two none t_two =
      let was = all_borne r jobs carry restarts opened u cycles before run.0 clear.0 starts sparse.0 in
      let is = all_borne r jobs carry restarts opened t (u ∷ cycles) before run clear starts sparse in
      let back_two : (back (u ∷ (cycles ++ before))).now.phase ≡ 2 =
      sym (phase_is r jobs carry restarts opened t (u ∷ (cycles ++ before)) run is)
      ∙ t_two in
      let none_then =
      none_earlier r jobs carry restarts opened t (u ∷ (cycles ++ before)) run is
      (sym (stop_after r jobs carry restarts t (u ∷ (cycles ++ before)) is.stays) ∙ none) in
      elim (rose r jobs carry restarts opened u (cycles ++ before) run.0 was 1 back_two) [
        | inl first ↦ (
            let le = early_many r jobs carry restarts opened u cycles before run.0 clear.0 starts sparse.0 (omega (arith, first.1)) in
            at_first (t ∷ u ∷ (cycles ++ before)) (suc (length cycles))
            (13 + 2 * length r.drives + own_costs r jobs carry restarts (t ∷ u ∷ cycles) before) (omega (arith, le)))
        | inr later ↦ let o = some_open u (cycles ++ before) run.0 clear.0 was later.1 back_two none_then in
            let p = some_open t (u ∷ (cycles ++ before)) run clear is t_two is_two none in
            two_next t u (cycles ++ before) run clear was is sparse.1 t_two o.0 o.1 o.2 p.0 p.1 p.2 (suc (length cycles))
            (13 + 2 * length r.drives + own_costs r jobs carry restarts (t ∷ u ∷ cycles) before)
            (wider (u ∷ (cycles ++ before)) (suc (length cycles)) (13 + 2 * length r.drives + own_costs r jobs carry restarts (u ∷ cycles)
            before) (13 + 2 * length r.drives + own_costs r jobs carry restarts (t ∷ u ∷ cycles) before) (omega arith)
            (two_many u cycles before run.0 clear.0 starts sparse.0 back_two none_then later.1))
      ]

  -- THE CYCLES of an epoch up to one after which phase 2 is commanded
  pub two_spent : (t : CycleView) (cycles before : List CycleView) → IsRun r jobs carry restarts (t ∷ (cycles ++ before))
      → IsClear (t ∷ (cycles ++ before)) → StartsEpoch r jobs carry restarts before → AreSparse r carry restarts (t ∷ cycles) before
      → (back (t ∷ (cycles ++ before))).now.phase ≡ 2 → (back (t ∷ (cycles ++ before))).stop ≡ None
      → suc (length cycles) ≤ 13 + 2 * length r.drives + own_costs r jobs carry restarts (t ∷ cycles) before + weight
      (t ∷ (cycles ++ before)) + 1
  two_spent t cycles before run clear starts sparse is_two none =
      elim (rose r jobs carry restarts opened t (cycles ++ before) run
      (all_borne r jobs carry restarts opened t cycles before run clear starts sparse) 1 is_two) [
        | inl first ↦ (
            let le = early_many r jobs carry restarts opened t cycles before run clear starts sparse (omega (arith, first.1)) in
            let some = some_weight (t ∷ (cycles ++ before)) in omega (arith, le, some))
        | inr later ↦ (let le = (two_many t cycles before run clear starts sparse is_two none later.1).total in omega (arith, le))
      ]

  -- the steps accepted so far, by what they cost
  pub costs_in : (j : List CycleView) → IsRun r jobs carry restarts j → IsClear j → (k : ℕ) → k < length r.drives
      → AreTimed (drive_at r k).command (views_of r jobs carry restarts k j)
  costs_in j run clear k below = comes_timed (drive_at r k).command (views_of r jobs carry restarts k j)
      (are_carried (drive_at r k).command (first_commands r k) refl refl (views_of r jobs carry restarts k j)
      (commands_so r jobs carry restarts opened j run clear k below).follow)

  pub steps_in_two : (t : CycleView) (j : List CycleView) → IsRun r jobs carry restarts (t ∷ j) → IsClear (t ∷ j) → Borne t j → t.phase ≤ 2
      → (k : ℕ) → k < length r.drives → length (epoch_log (views_of r jobs carry restarts k (t ∷ j))) ≤ two_steps (drive_at r k)
  steps_in_two t j run clear is low k below =
      let stands = all_stand r jobs carry restarts opened (t ∷ j) run clear k below in
      let fits = each_fits r jobs carry restarts opened t j run clear is.stays low k below in
      few_steps (drive_at r k).busy (length (epoch_log (views_of r jobs carry restarts k (t ∷ j)))) (74 + 4 * listed (drive_at r k))
      (drive_at r k).command (omega (
        arith,
        in_cost (drive_at r k).busy (drive_at r k).command (λ raw. 512) (store_of (drive_at r k))
            (views_of r jobs carry restarts k (t ∷ j)) (small r jobs carry restarts opened (first_store r jobs carry restarts opened) k below)
            stands.sees.run stands.sound (costs_in (t ∷ j) run clear k below) (listed_all (views_of r jobs carry restarts k (t ∷ j))),
        fits,
      ))
