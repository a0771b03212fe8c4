-- How long phases 0 and 1 last while disturbed cycles are sparse.
use Rattle.sercos_law_run.proofs.Words.{cases_Option, cases_Bool, ◌≡◌, ◌⊎◌, inl, inr, ℕ, zero, suc, ◌+◌, ◌<◌, ◌≤◌, Bool, true, false, not, ◌&&◌, List, [], ◌∷◌, ◌++◌, length, Some, None, refl, sym, ap, ◌∙◌, arith, if◌then◌else◌, ◌==◌, cases_eq, false≢true, not-true, Job, RingView, CycleView, known_of, Past, Turn, first_place, has_identified, is_done, is_done_in, is_identified, whole_row, first_found, Carry, Restarts, is_disturbed_in, looks_back, master_calls, IsClear, IsDisturbed, IsRun, at_start, behind_ats, behind_mdt, behind_mst, IsOpened, came_back, IsUndisturbed, early_cost, early_costs, AreSparse, or_right}
use Rattle.sercos_law_run.proofs.Views.MasterSame.{turn_mdt}
use Rattle.sercos_law_run.proofs.Views.Members.{members_count}
use Rattle.sercos_law_run.proofs.Undisturbed.ChannelsKept.{ats_leave, phase_now}
use Rattle.sercos_law_run.proofs.Undisturbed.Identified.{heard_next}
use Rattle.sercos_law_run.proofs.Undisturbed.NoFalls.{heard_mdt}
use Rattle.sercos_law_run.proofs.Undisturbed.PhaseCounts.{end_kept}
use Rattle.sercos_law_run.proofs.Undisturbed.PhasesRise.{phase_after}
use Rattle.sercos_law_run.proofs.Undisturbed.PhaseZero.{few_back, stays_zero}
use Rattle.sercos_law_run.proofs.Undisturbed.StaysUp.{addressed_first, found_passes, stands_so, turns_now}
use Rattle.sercos_law_run.proofs.Tolerance.Borne.{IsBase, IsBorne, borne_on, calm_or_not}
use Rattle.sercos_law_run.proofs.Undisturbed.Stops.StopOnce.{same_start}
use Rattle.sercos_law_run.proofs.Undisturbed.Stops.StopStays.{none_before}

-- COUNTS of places that pass a test
abbrev pub one_if : Bool → ℕ
one_if true = 1
one_if false = 0

abbrev pub count : ℕ → (ℕ → Bool) → ℕ
count zero test = 0
count (suc n) test = count n test + one_if (test n)

no_less : (a b : Bool) → (a ≡ true → b ≡ true) → one_if a ≤ one_if b
no_less true b more = let on : one_if b ≡ 1 = ap one_if (more refl) in omega (arith, on)
no_less false b more = omega arith

pub count_most : (n : ℕ) (f g : ℕ → Bool) → ((k : ℕ) → f k ≡ true → g k ≡ true) → count n f ≤ count n g
count_most zero f g more = omega arith
count_most (suc n) f g more = let rest = count_most n f g more in let last = no_less (f n) (g n) (more n) in omega (arith, rest, last)

count_more : (n k : ℕ) (f g : ℕ → Bool) → ((i : ℕ) → f i ≡ true → g i ≡ true) → k < n → f k ≡ false → g k ≡ true → count n f + 1 ≤ count n g
count_more zero k f g more low off on = absurd (omega (arith, low))
count_more (suc n) k f g more low off on = elim (cases_eq k n) [
  | inl same ↦ (
      let none : one_if (f n) ≡ 0 = ap one_if (ap f (sym same) ∙ off) in
      let one : one_if (g n) ≡ 1 = ap one_if (ap g (sym same) ∙ on) in omega (arith, count_most n f g more, none, one))
  | inr other ↦ (let rest = count_more n k f g more (omega (arith, low, other)) off on in let last = no_less (f n) (g n) (more n) in
      omega (arith, rest, last))
]

pub count_all : (n : ℕ) → count n (λ k. true) ≡ n
count_all zero = refl
count_all (suc n) = let rest = count_all n in omega (arith, rest)

-- what tests of a phase choose
abbrev pub cost_by : ℕ → Bool → Bool → ℕ
cost_by n whole disturbed = if n == 0 then (if whole then 0 else 10) else (if n == 1 then (if disturbed then 2 else 0) else 0)

abbrev pub ten_unless : Bool → ℕ
ten_unless whole = if whole then 0 else 10

abbrev pub two_if : Bool → ℕ
two_if disturbed = if disturbed then 2 else 0

one_at_most : (b : Bool) → one_if b ≤ 1
one_at_most true = omega arith
one_at_most false = omega arith

pub zero_cost : (n : ℕ) (whole disturbed : Bool) → n ≡ 0 → cost_by n whole disturbed ≡ ten_unless whole
zero_cost n whole disturbed is = ap (λ (m : ℕ). cost_by m whole disturbed) is

-- one cycle of phase 0 more
row_next : (whole : Bool) (len row costs : ℕ) → len ≤ row + costs → row ≤ 9
    → suc len ≤ (if whole then row + 1 else 0) + (costs + (if whole then 0 else 10))
row_next true len row costs le few = omega (arith, le)
row_next false len row costs le few = omega (arith, le, few)

module _ (r : RingView) (jobs : List Job) (carry : Carry) (restarts : Restarts) (opened : IsOpened r jobs) where
  abbrev back : List CycleView → Past
  back j = looks_back r jobs (master_calls r carry restarts j)

  abbrev now : CycleView → List CycleView → Past
  now t j = behind_mdt r jobs carry restarts t.sent j

  abbrev Borne : CycleView → List CycleView → Type 0
  Borne t j = IsBorne r jobs carry restarts opened t j

  abbrev Base : List CycleView → Type 0
  Base before = IsBase r jobs carry restarts opened before

  abbrev pub known : List Turn → ℕ
  known turns = count (length (known_of r).drives) (λ k. has_identified k turns)

  abbrev spare : CycleView → List CycleView → ℕ
  spare t j = one_if (is_disturbed_in r carry restarts (length j) t.sent)

  -- A CYCLE that is borne
  module _ (t : CycleView) (j : List CycleView) (run : IsRun r jobs carry restarts (t ∷ j)) (is : Borne t j) where
    pub start_is : at_start r jobs carry restarts j ≡ back j
    start_is = same_start r jobs carry restarts j is.goes_on

    pub phase_is : t.phase ≡ (back j).now.phase
    phase_is = run.1.phase ∙ ap (λ (p : Past). p.now.phase) start_is

    pub none_earlier : (now t j).stop ≡ None → (back j).stop ≡ None
    none_earlier none = none_before r jobs carry restarts t j start_is none

    turns_before : (now t j).turns ≡ (back j).turns
    turns_before = turns_now r jobs carry restarts opened t j ∙ ap (λ (p : Past). p.turns) start_is

    turns_after : (back (t ∷ j)).turns ≡ (now t j).now ∷ (back j).turns
    turns_after = ap (λ (p : Past). p.turns) (end_kept (known_of r) (now t j) is.stays)
        ∙ ap (λ (l : List Turn). (now t j).now ∷ l) turns_before

    pub phase_next : (back (t ∷ j)).now.phase ≡ (if is_done (known_of r) (now t j) then t.phase + 1 else t.phase)
    phase_next = phase_after r jobs carry restarts opened t j run is.stays

    -- the phase after it rose with it, or it didn't
    pub rose : (m : ℕ) → (back (t ∷ j)).now.phase ≡ suc m
        → ((is_done (known_of r) (now t j) ≡ true) × (t.phase ≡ m)) ⊎ ((is_done (known_of r) (now t j) ≡ false) × (t.phase ≡ suc m))
    rose m after = elim (cases_Bool (is_done (known_of r) (now t j))) [
      | inl on ↦ let is = rw on at (sym phase_next ∙ after) in rw on (inl (refl, omega (arith, is)))
      | inr off ↦ let is = rw off at (sym phase_next ∙ after) in rw off (inr (refl, is))
    ]

    whole_is : (now t j).now.whole ≡ (behind_mst r jobs carry restarts t.sent j).now.whole
    whole_is = (turn_mdt (known_of r) (behind_ats r jobs carry restarts t.sent j)).whole_is
        ∙ (ats_leave r jobs carry restarts t j 0).whole_is

    row_after : came_back r jobs carry restarts (t ∷ j) ≡ (if (behind_mst r jobs carry restarts t.sent j).now.whole then came_back r jobs
        carry restarts j + 1 else 0)
    row_after = ap whole_row turns_after ∙ ap (λ (b : Bool). if b then whole_row (back j).turns + 1 else 0) whole_is

    -- the drives that are identified stay so
    pub known_after : known (back j).turns ≤ known (back (t ∷ j)).turns
    known_after = count_most (length (known_of r).drives) (λ k. has_identified k (back j).turns)
        (λ k. has_identified k (back (t ∷ j)).turns)
        (λ k on. ap (has_identified k) turns_after ∙ or_right (((now t j).now.phase == 1) && (now t j).now.heard k)
        (has_identified k (back j).turns) on)

  -- PHASE 0
  pub zero_lasts : (cycles before : List CycleView) → IsRun r jobs carry restarts (cycles ++ before) → IsClear (cycles ++ before)
      → Base before → AreSparse r carry restarts cycles before
      → (back (cycles ++ before)).now.phase ≡ 0 → length cycles ≤ came_back r jobs carry restarts (cycles ++ before) + early_costs r jobs
      carry restarts cycles before
  zero_lasts [] before run clear starts sparse at_zero = omega arith
  zero_lasts (t ∷ cycles) before run clear starts sparse at_zero =
      let is = borne_on r jobs carry restarts opened t cycles before run clear starts sparse in
      let t_zero : t.phase ≡ 0 =
      (stays_zero (is_done (known_of r) (now t (cycles ++ before))) t.phase (sym (phase_next t (cycles ++ before) run is) ∙ at_zero)).1 in
      let few = few_back r jobs carry restarts (cycles ++ before) (sym (phase_is t (cycles ++ before) run is) ∙ t_zero) in
      let cost = zero_cost t.phase (behind_mst r jobs carry restarts t.sent (cycles ++ before)).now.whole
      (is_disturbed_in r carry restarts (length (cycles ++ before)) t.sent) t_zero in
      let step = row_next (behind_mst r jobs carry restarts t.sent (cycles ++ before)).now.whole (length cycles)
      (came_back r jobs carry restarts (cycles ++ before)) (early_costs r jobs carry restarts cycles before)
      (zero_lasts cycles before run.0 clear.0 starts sparse.0 (sym (phase_is t (cycles ++ before) run is) ∙ t_zero)) few in
      omega (arith, row_after t (cycles ++ before) run is, cost, step)

  -- THE FIRST DRIVE that isn't identified after a cycle of phase 1 that isn't the last
  record IsUnknown (t : CycleView) (j : List CycleView) : Type 0 where
    place : ℕ
    first : first_place (known_of r) (λ k. not (is_identified (now t j) k)) ≡ Some place
    low : place < length (known_of r).drives
    off : has_identified place (back (t ∷ j)).turns ≡ false

  unknown : (t : CycleView) (j : List CycleView) → IsRun r jobs carry restarts (t ∷ j) → Borne t j → t.phase ≡ 1
      → is_done (known_of r) (now t j) ≡ false → IsUnknown t j
  unknown t j run is one unfinished = record {
    place = first.0;
    first = first.1;
    low = let less = (first_found 0 (length (known_of r).drives) first.0 (λ k. not (is_identified (now t j) k)) first.1).below in
        omega (arith, less);
    off = ap (has_identified first.0) (turns_after t j run is ∙ ap (λ (l : List Turn). (now t j).now ∷ l) (sym (turns_before t j run is)))
        ∙ not-true (is_identified (now t j) first.0) (found_passes 0 (length (known_of r).drives) first.0
        (λ k. not (is_identified (now t j) k)) first.1);
  }
    where
      first : (k : ℕ) × (first_place (known_of r) (λ k. not (is_identified (now t j) k)) ≡ Some k)
      first = elim (cases_Option (first_place (known_of r) (λ k. not (is_identified (now t j) k)))) [
        | inl none ↦ let off = rw none at (sym (ap (λ (n : ℕ). is_done_in n (known_of r) (now t j))
            (phase_now r jobs carry restarts t j run.1 ∙ one)) ∙ unfinished) in rw none (absurd (false≢true (sym off)))
        | inr some ↦ rw some.1 (some.0, refl)
      ]

  -- A DRIVE MORE is identified, if two cycles of phase 1 in a row are undisturbed.
  pub one_more : (t u : CycleView) (j : List CycleView) → IsRun r jobs carry restarts (t ∷ u ∷ j) → IsClear (t ∷ u ∷ j) → Borne t (u ∷ j)
      → Borne u j → IsUndisturbed r carry restarts t (u ∷ j) → IsUndisturbed r carry restarts u j
      → t.phase ≡ 1 → u.phase ≡ 1 → is_done (known_of r) (now u j) ≡ false → known (back (u ∷ j)).turns + 1 ≤ known (back (t ∷ u ∷ j)).turns
  one_more t u j run clear is was calm calm_before one was_one unfinished =
      let u_phase : (now u j).now.phase ≡ 1 = phase_now r jobs carry restarts u j run.0.1 ∙ was_one in
      let x = unknown u j run.0 was was_one unfinished in
      let inside : x.place < length r.drives = let all = members_count r in let less = x.low in omega (arith, all, less) in
      count_more (length (known_of r).drives) x.place (λ k. has_identified k (back (u ∷ j)).turns)
      (λ k. has_identified k (back (t ∷ u ∷ j)).turns) stay x.low x.off (ap (has_identified x.place) (turns_after t (u ∷ j) run is)
      ∙ (rw (
        (phase_now r jobs carry restarts t (u ∷ j) run.1 ∙ one),
        (ap (λ (f : ℕ → Bool). f x.place) (heard_mdt (known_of r) (behind_ats r jobs carry restarts t.sent (u ∷ j)))
            ∙ heard_next r jobs carry restarts opened t u j run calm calm_before x.place inside one u_phase
            (addressed_first (known_of r) (behind_ats r jobs carry restarts u.sent j) u_phase ∙ x.first)
            (stands_so r jobs carry restarts opened u j run.0 clear.0 calm_before (omega (arith, was_one)) x.place inside
            ∙ was_one)),
      ) refl))
    where
      stay : (k : ℕ) → has_identified k (back (u ∷ j)).turns ≡ true → has_identified k (back (t ∷ u ∷ j)).turns ≡ true
      stay k known_is = ap (has_identified k) (turns_after t (u ∷ j) run is)
          ∙ or_right (((now t (u ∷ j)).now.phase == 1) && (now t (u ∷ j)).now.heard k)
          (has_identified k (back (u ∷ j)).turns) known_is

  -- PHASE 1: at its start, and after each cycle of it
  pub risen : (t : CycleView) (cycles before : List CycleView) → IsRun r jobs carry restarts (t ∷ (cycles ++ before))
      → IsClear (t ∷ (cycles ++ before)) → Base before → AreSparse r carry restarts (t ∷ cycles) before
      → t.phase ≡ 0 → suc (length cycles) ≤ 10 + early_costs r jobs carry restarts (t ∷ cycles) before
  risen t cycles before run clear starts sparse t_zero =
      let is = borne_on r jobs carry restarts opened t cycles before run clear starts sparse in
      let at_zero = sym (phase_is t (cycles ++ before) run is) ∙ t_zero in
      let few = few_back r jobs carry restarts (cycles ++ before) at_zero in
      let le = zero_lasts cycles before run.0 clear.0 starts sparse.0 at_zero in omega (arith, few, le)

  one_lasts : (t : CycleView) (cycles before : List CycleView) → IsRun r jobs carry restarts (t ∷ (cycles ++ before))
      → IsClear (t ∷ (cycles ++ before)) → Base before → AreSparse r carry restarts (t ∷ cycles) before
      → t.phase ≡ 1 → suc (length cycles) + spare t (cycles ++ before) ≤ 11 + known (back (t ∷ (cycles ++ before))).turns + early_costs r
      jobs carry restarts (t ∷ cycles) before
  one_lasts t [] before run clear starts sparse one =
      let few = one_at_most (is_disturbed_in r carry restarts (length before) t.sent) in omega (arith, few)
  one_lasts t (u ∷ cycles) before run clear starts sparse one =
      let was = borne_on r jobs carry restarts opened u cycles before run.0 clear.0 starts sparse.0 in
      let is = borne_on r jobs carry restarts opened t (u ∷ cycles) before run clear starts sparse in
      elim (rose u (cycles ++ before) run.0 was 0 (sym (phase_is t (u ∷ (cycles ++ before)) run is) ∙ one)) [
        | inl first ↦ elim (calm_or_not r carry restarts t (u ∷ (cycles ++ before))) [
          | inl on ↦ (let (a, b) = lost_so on in omega (arith, a, b, (risen u cycles before run.0 clear.0 starts sparse.0 first.1)))
          | inr off ↦ (let a = ap one_if off in omega (arith, a, (risen u cycles before run.0 clear.0 starts sparse.0 first.1)))
        ]
        | inr later ↦ elim (calm_or_not r carry restarts t (u ∷ (cycles ++ before))) [
          | inl on ↦ (let (a, b) = lost_so on in let grows = known_after t (u ∷ (cycles ++ before)) run is in
              omega (arith, a, b, (one_lasts u cycles before run.0 clear.0 starts sparse.0 later.1), grows))
          | inr off ↦ elim (calm_or_not r carry restarts u (cycles ++ before)) [
            | inl disturbed ↦ (
                let grows = known_after t (u ∷ (cycles ++ before)) run is in
                omega (arith, ap one_if off, ap one_if disturbed, (one_lasts u cycles before run.0 clear.0 starts sparse.0 later.1), grows))
            | inr calm ↦ (
                let a = ap one_if off in
                let grows = one_more t u (cycles ++ before) run clear is was off calm one later.1 later.0 in
                omega (arith, a, (one_lasts u cycles before run.0 clear.0 starts sparse.0 later.1), grows))
          ]
        ]
      ]
    where
      lost_so : IsDisturbed r carry restarts t (u ∷ (cycles ++ before))
          → (early_cost r jobs carry restarts t (u ∷ (cycles ++ before)) ≡ 2) × (spare t (u ∷ (cycles ++ before)) ≡ 1)
      lost_so on = (
        ap (λ (m : ℕ). cost_by m (behind_mst r jobs carry restarts t.sent (u ∷ (cycles ++ before))).now.whole
            (is_disturbed_in r carry restarts (length (u ∷ (cycles ++ before))) t.sent)) one ∙ ap two_if on,
        ap one_if on,
      )

  -- not all drives are identified while phase 1 goes on
  pub known_few : (t : CycleView) (j : List CycleView) → IsRun r jobs carry restarts (t ∷ j) → Borne t j → t.phase ≡ 1
      → is_done (known_of r) (now t j) ≡ false → known (back (t ∷ j)).turns + 1 ≤ length r.drives
  known_few t j run is one unfinished =
      let x = unknown t j run is one unfinished in
      omega (
        arith,
        count_all (length (known_of r).drives),
        members_count r,
        count_more (length (known_of r).drives) x.place
            (λ k. has_identified k (back (t ∷ j)).turns) (λ k. true) (λ k on. refl) x.low x.off refl,
      )

  -- BOTH PHASES
  pub early_sparse : (t : CycleView) (cycles before : List CycleView) → IsRun r jobs carry restarts (t ∷ (cycles ++ before))
      → IsClear (t ∷ (cycles ++ before)) → Base before → AreSparse r carry restarts (t ∷ cycles) before
      → t.phase ≤ 1 → length cycles ≤ 10 + length r.drives + early_costs r jobs carry restarts cycles before
  early_sparse t [] before run clear starts sparse low = omega arith
  early_sparse t (u ∷ cycles) before run clear starts sparse low =
      let was = borne_on r jobs carry restarts opened u cycles before run.0 clear.0 starts sparse.0 in
      let is = borne_on r jobs carry restarts opened t (u ∷ cycles) before run clear starts sparse in
      elim (cases_eq t.phase 0) [
        | inl at_zero ↦ (
            let back_zero = sym (phase_is t (u ∷ (cycles ++ before)) run is) ∙ at_zero in
            let few = few_back r jobs carry restarts (u ∷ (cycles ++ before)) back_zero in
            let le = zero_lasts (u ∷ cycles) before run.0 clear.0 starts sparse.0 back_zero in omega (arith, few, le))
        | inr later ↦ elim (rose u (cycles ++ before) run.0 was 0 (sym (phase_is t (u ∷ (cycles ++ before)) run is)
            ∙ (omega (arith, low, later)))) [
              | inl first ↦ (let le = risen u cycles before run.0 clear.0 starts sparse.0 first.1 in omega (arith, le))
              | inr on ↦ (
                  let le = one_lasts u cycles before run.0 clear.0 starts sparse.0 on.1 in
                  let few = known_few u (cycles ++ before) run.0 was on.1 on.0 in omega (arith, le, few))
            ]
      ]
