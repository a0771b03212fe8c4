-- Where a start-up is that has come neither to phase 4 nor to a stop, while disturbed cycles are sparse.
use Rattle.sercos_law_run.proofs.Words.{◌≡◌, inl, inr, ℕ, ◌<◌, ◌≤◌, false, not, List, [], ◌∷◌, ◌++◌, length, None, refl, sym, ap, ◌∙◌, subst, arith, ◌+◌, true, if◌then◌else◌, cases_eq, cases_lt, cond-false, cond-true, not-true, ◌==◌, nat_le, nat_tests, Job, RingView, Begun, CycleView, is_ready, outcomes_in, known_of, member, Past, is_done, is_done_in, outcomes, Carry, Restarts, epoch_begun, looks_back, master_calls, IsClear, IsRun, is_disturbed_in, behind_mdt, views_of, IsOpened, AreSparse, early_costs, cycles_for, disturbances, start_costs}
use Rattle.sercos_law_run.proofs.Agenda.AtWork.{found_some}
use Rattle.sercos_law_run.proofs.Views.Members.{members_count}
use Rattle.sercos_law_run.proofs.Undisturbed.JobsBegun.{begun_now}
use Rattle.sercos_law_run.proofs.Undisturbed.Stops.StopStays.{stop_after}
use Rattle.sercos_law_run.proofs.Recovery.LateDown.{no_lower}
use Rattle.sercos_law_run.proofs.Tolerance.Borne.{IsBase, IsBorne, borne_on, some_drive}
use Rattle.sercos_law_run.proofs.Tolerance.EarlySparse.{phase_is, rose, none_earlier}
use Rattle.sercos_law_run.proofs.Undisturbed.ChannelsKept.{phase_now}

-- What a disturbed cycle costs a channel is what it costs a start-up, up to phase 3.
abbrev pub start_for : ℕ → ℕ
start_for phase = if phase == 2 then 2 else (if phase == 3 then 1 else 0)

pub same_for : (n : ℕ) → n ≤ 3 → cycles_for n ≡ start_for n
same_for n low = elim (cases_lt n 2) [
  | inl early ↦ (
      let is : nat_le n 1 ≡ true = grind (arith, nat_tests, early) in
      let two : (n == 2) ≡ false = grind (arith, nat_tests, early) in
      cond-true (nat_le n 1) 0 (if n == 2 then 2 else 1) is ∙ sym (cond-false (n == 2) 2 (if n == 3 then 1 else 0) two
      ∙ cond-false (n == 3) 1 0 (grind (arith, nat_tests, early))))
  | inr later ↦ elim (cases_eq n 2) [
    | inl two ↦ ap cycles_for two ∙ sym (ap start_for two)
    | inr other ↦ (let three : n ≡ 3 = omega (arith, low, later, other) in ap cycles_for three ∙ sym (ap start_for three))
  ]
]

module _ (r : RingView) (jobs : List Job) (carry : Carry) (restarts : Restarts) (opened : IsOpened r jobs) where
  abbrev now : CycleView → List CycleView → Past
  now t j = behind_mdt r jobs carry restarts t.sent j

  abbrev Borne : CycleView → List CycleView → Type 0
  Borne t j = IsBorne r jobs carry restarts opened t j

  abbrev Base : List CycleView → Type 0
  Base before = IsBase r jobs carry restarts opened before

  -- what the cycles cost, as long as phase 4 hasn't been commanded
  pub same_costs : (t : CycleView) (cycles before : List CycleView) → IsRun r jobs carry restarts (t ∷ (cycles ++ before))
      → IsClear (t ∷ (cycles ++ before)) → Base before → AreSparse r carry restarts (t ∷ cycles) before
      → t.phase ≤ 3
      → start_costs r jobs carry restarts cycles before ≡ early_costs r jobs carry restarts cycles before + disturbances r carry restarts
      cycles before
  same_costs t [] before run clear starts sparse low = refl
  same_costs t (u ∷ cycles) before run clear starts sparse low =
      let least = no_lower r jobs carry restarts opened t u (cycles ++ before) run clear
      (borne_on r jobs carry restarts opened u cycles before run.0 clear.0 starts sparse.0).stays (sparse.1.goes_on 0 (omega arith)) 0 (some_drive r jobs carry restarts opened) in
      let one = ap (λ (n : ℕ). if is_disturbed_in r carry restarts (length (cycles ++ before)) u.sent then n else 0)
      (same_for u.phase (omega (arith, least, low))) in
      omega (arith, same_costs u cycles before run.0 clear.0 starts sparse.0 (omega (arith, least, low)), one)

  -- the cycles of an epoch so far
  pub record IsEpoch (cycles before : List CycleView) : Type 0 where
    pub run : IsRun r jobs carry restarts (cycles ++ before)
    pub clear : IsClear (cycles ++ before)
    pub sparse : AreSparse r carry restarts cycles before

  -- a drive whose check for phase 4 hasn't ended well at the end of a cycle
  pub record IsUnready (u : CycleView) (j : List CycleView) : Type 0 where
    pub place : ℕ
    pub there : place < length r.drives
    pub unready : is_ready (member (known_of r) place) (outcomes_in (epoch_begun (views_of r jobs carry restarts place (u ∷ j)))) ≡ false

  unready_in : (u : CycleView) (j : List CycleView) → IsRun r jobs carry restarts (u ∷ j) → IsClear (u ∷ j) → Borne u j → u.phase ≡ 3
      → is_done (known_of r) (behind_mdt r jobs carry restarts u.sent j) ≡ false → IsUnready u j
  unready_in u j run clear is is_three unfinished =
      let found =
      found_some 0 (length (known_of r).drives) (λ k. not (is_ready (member (known_of r) k)
      (outcomes (behind_mdt r jobs carry restarts u.sent j) k)))
      (sym (ap (λ (n : ℕ). is_done_in n (known_of r) (behind_mdt r jobs carry restarts u.sent j))
      (phase_now r jobs carry restarts u j run.1 ∙ is_three)) ∙ unfinished) in
      let there : found.place < length r.drives = let low = found.below in let count = members_count r in omega (arith, low, count) in
      record {
        place = found.place;
        there = there;
        unready =
            ap (λ (l : List Begun). is_ready (member (known_of r) found.place) (outcomes_in l))
            (sym (begun_now r jobs carry restarts opened u j run clear is.stays found.place there))
            ∙ not-true (is_ready (member (known_of r) found.place) (outcomes (behind_mdt r jobs carry restarts u.sent j) found.place))
            found.passes;
      }

  -- NOT YET: phase 0, 1 or 2 is commanded; or 3, for the first time, or since at least one cycle more.
  pub data NotYet (t : CycleView) (cycles before : List CycleView) : Type 0 where
    InEarly : t.phase ≤ 1 → NotYet t cycles before
    InTwo : t.phase ≡ 2 → NotYet t cycles before
    AtRise : (u : CycleView) (rest : List CycleView) → cycles ≡ u ∷ rest → u.phase ≡ 2
        → (behind_mdt r jobs carry restarts u.sent (rest ++ before)).stop ≡ None → NotYet t cycles before
    InThree : (u : CycleView) (rest : List CycleView) → cycles ≡ u ∷ rest → u.phase ≡ 3
        → (looks_back r jobs (master_calls r carry restarts (u ∷ (rest ++ before)))).now.phase ≡ 3
        → (looks_back r jobs (master_calls r carry restarts (u ∷ (rest ++ before)))).stop ≡ None → IsUnready u (rest ++ before)
        → NotYet t cycles before

  in_three : (t : CycleView) (cycles before : List CycleView) → IsRun r jobs carry restarts (t ∷ (cycles ++ before))
      → IsClear (t ∷ (cycles ++ before)) → Base before → AreSparse r carry restarts (t ∷ cycles) before
      → 1 ≤ length cycles → t.phase ≡ 3 → (behind_mdt r jobs carry restarts t.sent (cycles ++ before)).stop ≡ None → NotYet t cycles before
  in_three t [] before run clear starts sparse some three none = absurd (omega (arith, some))
  in_three t (u ∷ rest) before run clear starts sparse some three none =
      let was = borne_on r jobs carry restarts opened u rest before run.0 clear.0 starts sparse.0 in
      let is = borne_on r jobs carry restarts opened t (u ∷ rest) before run clear starts sparse in
      let back_three : (looks_back r jobs (master_calls r carry restarts (u ∷ (rest ++ before)))).now.phase ≡ 3 =
      sym (phase_is r jobs carry restarts opened t (u ∷ (rest ++ before)) run is)
      ∙ three in
      let none_then = none_earlier r jobs carry restarts opened t (u ∷ (rest ++ before)) run is none in
      elim (rose r jobs carry restarts opened u (rest ++ before) run.0 was 2 back_three) [
        | inl rise ↦ AtRise u rest refl rise.1 (sym (stop_after r jobs carry restarts u (rest ++ before) was.stays) ∙ none_then)
        | inr later ↦ InThree u rest refl later.1 back_three none_then
            (unready_in u (rest ++ before) run.0 clear.0 was later.1 later.0)
      ]

  pub not_yet : (t : CycleView) (cycles before : List CycleView) → IsRun r jobs carry restarts (t ∷ (cycles ++ before))
      → IsClear (t ∷ (cycles ++ before)) → Base before → AreSparse r carry restarts (t ∷ cycles) before
      → 1 ≤ length cycles → t.phase ≤ 3 → (t.phase ≡ 3 → (behind_mdt r jobs carry restarts t.sent (cycles ++ before)).stop ≡ None)
      → NotYet t cycles before
  not_yet t cycles before run clear starts sparse some low none = elim (cases_lt t.phase 2) [
    | inl early ↦ InEarly (omega (arith, early))
    | inr later ↦ elim (cases_eq t.phase 2) [
      | inl two ↦ InTwo two
      | inr other ↦ (let three : t.phase ≡ 3 = omega (arith, low, later, other) in
          in_three t cycles before run clear starts sparse some three (none three))
    ]
  ]

  -- the cycles of an epoch before the newest, by their split
  pub epoch_before : (t : CycleView) (cycles before : List CycleView) → IsRun r jobs carry restarts (t ∷ (cycles ++ before))
      → IsClear (t ∷ (cycles ++ before)) → AreSparse r carry restarts (t ∷ cycles) before → (l : List CycleView) → cycles ≡ l
      → IsEpoch l before
  epoch_before t cycles before run clear sparse l is = subst (λ (m : List CycleView). IsEpoch m before) is (record {
    run = run.0;
    clear = clear.0;
    sparse = sparse.0;
  })
