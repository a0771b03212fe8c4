-- Before phase 3 the master hears a drive with an open step, if the drive took the MDT of the cycle before.
use Rattle.sercos_law_run.proofs.Words.{◌≡◌, inl, inr, ℕ, ◌+◌, ◌<◌, ◌≤◌, Bool, true, false, ◌&&◌, List, [], ◌∷◌, length, None, refl, sym, ◌∙◌, ap, subst, if◌then◌else◌, nat_le, is_some, cases_eq, and_from, and_parts, cond-false, false≢true, leb-true, Job, RingView, Begun, open_in, phase_in, has_mst, has_taken, annals, sends, CycleView, is_place, known_of, Past, is_awaited, addressed_before, next_phase, new_epoch, still_waiting, goes_on, Carry, Restarts, View, standing, stood_in, before_mst, moved, got_in, afresh, Standing, command, epoch_begun, begun_in, ends, comes_to, drive_at, with_restart, given_before, IsRun, IsClear, behind_mst, behind_mdt, after_mst, view_of, views_of, IsOpened, was_addressed, IsUndisturbed, begins_empty, arith, nat_tests, cases_Bool}
use Rattle.sercos_law_run.proofs.Undisturbed.Arriving.Addressed.{place_some, told_then, told_early}
use Rattle.sercos_law_run.proofs.Undisturbed.Arriving.Speaking.{sends_early}
use Rattle.sercos_law_run.proofs.Undisturbed.Arriving.Phases.{not_late, is_up, one_two, not_up, up_at, was_two}
use Rattle.sercos_law_run.proofs.Undisturbed.Arriving.Sending.{stood_is, mst_is, phase_then}
use Rattle.sercos_law_run.proofs.Undisturbed.Arriving.MdtComes.{drive_in, start_is, commanded_in, mst_came, stands_in}
use Rattle.sercos_law_run.proofs.Undisturbed.Arriving.AtsCome.{taken_if}
use Rattle.sercos_law_run.proofs.Headline.HeadlineRuns.{all_stand}

-- the parts of a record that came
got_parts : (v : View) → is_some (got_in v) ≡ true → (v.mdt_comes ≡ true) × (is_some v.sent ≡ true)
got_parts v = by v.mdt_comes
  where
    by : (b : Bool) → is_some (if b then v.sent else None) ≡ true → (b ≡ true) × (is_some v.sent ≡ true)
    by true some = (refl, some)
    by false some = cc

-- where a step is open, the master hasn't fallen
not_fallen : (b : Bool) (begun : List Begun) → is_some (open_in (if b then [] else begun)) ≡ true → b ≡ false
not_fallen true begun some = cc
not_fallen false begun some = refl

module _ (r : RingView) (jobs : List Job) (carry : Carry) (restarts : Restarts) (opened : IsOpened r jobs) where
  module _ (t u : CycleView) (j : List CycleView) (run : IsRun r jobs carry restarts (t ∷ u ∷ j)) (clear : IsClear (t ∷ u ∷ j))
      (undisturbed : IsUndisturbed r carry restarts t (u ∷ j)) (k : ℕ) (below : k < length r.drives)
      (opens : is_some (open_in (epoch_begun (views_of r jobs carry restarts k (u ∷ j)))) ≡ true)
      (addressed : was_addressed (views_of r jobs carry restarts k (u ∷ j)) ≡ true)
      (up : 1 ≤ stood_in (view_of r jobs carry restarts k t (u ∷ j)) (standing (views_of r jobs carry restarts k (u ∷ j)))) where
    commanded : t.phase ≡ command (views_of r jobs carry restarts k (u ∷ j))
    commanded = commanded_in r jobs carry restarts opened t (u ∷ j) run clear undisturbed k below

    stays : (view_of r jobs carry restarts k u j).falls ≡ false
    stays = not_fallen (view_of r jobs carry restarts k u j).falls (begun_in (view_of r jobs carry restarts k u j) (views_of r jobs carry restarts k j)) opens

    -- phase 2 or later is commanded, since a step is open
    two : 2 ≤ t.phase
    two = elim (cases_Bool (nat_le t.phase 1)) [
      | inl is ↦
          let early : command (views_of r jobs carry restarts k (u ∷ j)) ≤ 1 = subst (λ (n : ℕ). n ≤ 1) commanded (leb-true t.phase 1 is) in
          let none : epoch_begun (views_of r jobs carry restarts k (u ∷ j)) ≡ [] = (begins_empty (drive_at r k).busy (views_of r jobs carry restarts k (u ∷ j)) (all_stand r jobs carry restarts opened (u ∷ j) run.0 clear.0 k below).sees.run early).0 in
          let closed : false ≡ true = sym (ap (λ (l : List Begun). is_some (open_in l)) none) ∙ opens in
          absurd (false≢true closed)
      | inr is ↦ grind (arith, nat_tests, is)
    ]

    -- the phase of the cycle before
    before_two : t.phase ≤ 2 → u.phase ≤ 2
    before_two early = was_two (view_of r jobs carry restarts k u j).rises u.phase t.phase
        (sym (commanded ∙ cond-false (view_of r jobs carry restarts k u j).falls 0 (if (view_of r jobs carry restarts k u j).rises then u.phase + 1 else u.phase) stays)) early

    came : ((view_of r jobs carry restarts k u j).mst_comes ≡ true) × (is_some (got_in (view_of r jobs carry restarts k u j)) ≡ true)
    came = and_parts (view_of r jobs carry restarts k u j).mst_comes (is_some (got_in (view_of r jobs carry restarts k u j))) addressed

    -- the drive was in phase 1 or 2 then
    was_up : t.phase ≤ 2 → 1 ≤ stood_in (view_of r jobs carry restarts k u j) (standing (views_of r jobs carry restarts k j))
    was_up early = elim (cases_eq (standing (views_of r jobs carry restarts k (u ∷ j))).ended 0) [
      | inl none ↦
          let phase_two : t.phase ≡ 2 = omega (arith, two, early) in
          let still_drive : (before_mst (view_of r jobs carry restarts k t (u ∷ j)) (standing (views_of r jobs carry restarts k (u ∷ j)))).ended ≡ 0 =
          ap (λ (f : Standing). f.ended) (cond-false (restarts (length (u ∷ j)) (k + 1)) afresh (standing (views_of r jobs carry restarts k (u ∷ j))) (drive_in r jobs carry restarts opened t (u ∷ j) run clear undisturbed k below)) ∙ none in
          let down : stood_in (view_of r jobs carry restarts k t (u ∷ j)) (standing (views_of r jobs carry restarts k (u ∷ j))) ≡ 0 =
          comes_to (view_of r jobs carry restarts k t (u ∷ j)) (standing (views_of r jobs carry restarts k (u ∷ j))) 0 (mst_came r jobs carry restarts opened t (u ∷ j) run clear undisturbed k below) still_drive
          ∙ ap (λ (n : ℕ). moved (view_of r jobs carry restarts k t (u ∷ j)).checked n 0) phase_two in
          absurd (not_up _ down up)
      | inr later ↦ elim (ends (view_of r jobs carry restarts k u j) (views_of r jobs carry restarts k j)) [ inl none ↦ absurd (later none) | inr same ↦ up_at _ _ later same ]
    ]

    -- so it took its MDT
    took : t.phase ≤ 2 → has_taken (after_mst r carry restarts t.sent (u ∷ j) k) ≡ true
    took early =
        let some : nat_le 1 (phase_in (after_mst r carry restarts u.sent j k)) ≡ true = is_up _ (subst (λ (n : ℕ). 1 ≤ n) (sym (stood_is r jobs carry restarts opened u j run.0 clear.0 k below)) (was_up early)) in
        ap (λ (b : Bool). has_taken (annals (drive_at r k) r.rate (with_restart b (given_before carry restarts (u ∷ j) k)))) (drive_in r jobs carry restarts opened t (u ∷ j) run clear undisturbed k below)
        ∙ and_from (has_mst (after_mst r carry restarts u.sent j k)) _ (mst_is r jobs carry restarts opened u j run.0 clear.0 k below ∙ came.0)
        (and_from (nat_le 1 (phase_in (after_mst r carry restarts u.sent j k))) _ some
        (got_parts (view_of r jobs carry restarts k u j) came.1).0)

    -- and the master awaits its AT
    before_is : addressed_before (behind_mst r jobs carry restarts t.sent (u ∷ j)).turns ≡ (behind_mdt r jobs carry restarts u.sent j).now.addressed
    before_is =
        ap (λ (p : Past). addressed_before p.turns) (start_is r jobs carry restarts opened t (u ∷ j) run clear undisturbed)
        ∙ ap (λ (b : Bool). addressed_before (if b then new_epoch ((behind_mdt r jobs carry restarts u.sent j).cycle + 1) (still_waiting (behind_mdt r jobs carry restarts u.sent j))
        else goes_on (next_phase (known_of r) (behind_mdt r jobs carry restarts u.sent j)) (behind_mdt r jobs carry restarts u.sent j)).turns) stays

    awaited : t.phase ≤ 2 → is_awaited (behind_mst r jobs carry restarts t.sent (u ∷ j)) k ≡ true
    awaited early =
        let first : t.phase ≡ (behind_mst r jobs carry restarts t.sent (u ∷ j)).now.phase = run.1.phase in
        let three : nat_le 3 (behind_mst r jobs carry restarts t.sent (u ∷ j)).now.phase ≡ false = ap (nat_le 3) (sym first) ∙ not_late t.phase early in
        let one : nat_le 1 (behind_mst r jobs carry restarts t.sent (u ∷ j)).now.phase ≡ true = ap (nat_le 1) (sym first) ∙ is_up t.phase (one_two t.phase two) in
        let at_mdt : (behind_mdt r jobs carry restarts u.sent j).now.phase ≤ 2 = subst (λ (n : ℕ). n ≤ 2) (sym (phase_then r jobs carry restarts opened u j run.0 clear.0)) (before_two early) in
        ap (λ (b : Bool). if b then true else (nat_le 1 (behind_mst r jobs carry restarts t.sent (u ∷ j)).now.phase && is_place k (addressed_before (behind_mst r jobs carry restarts t.sent (u ∷ j)).turns))) three
        ∙ and_from (nat_le 1 (behind_mst r jobs carry restarts t.sent (u ∷ j)).now.phase) _ one
        (ap (is_place k) before_is ∙ place_some k (behind_mdt r jobs carry restarts u.sent j).now.addressed
        (told_early (behind_mdt r jobs carry restarts u.sent j) k at_mdt
        (told_then (behind_mdt r jobs carry restarts u.sent j) k (got_parts (view_of r jobs carry restarts k u j) came.1).1)))

    -- so the master hears it
    pub hears_early : t.phase ≤ 2 → is_some (view_of r jobs carry restarts k t (u ∷ j)).heard ≡ true
    hears_early early =
        let stands : phase_in (after_mst r carry restarts t.sent (u ∷ j) k) ≡ t.phase = stands_in r jobs carry restarts opened t (u ∷ j) run clear undisturbed k below up in
        let first : t.phase ≡ (behind_mst r jobs carry restarts t.sent (u ∷ j)).now.phase = run.1.phase in
        let here : 1 ≤ phase_in (after_mst r carry restarts t.sent (u ∷ j) k) = subst (λ (n : ℕ). 1 ≤ n) (sym stands) (one_two t.phase two) in
        let sent : sends (after_mst r carry restarts t.sent (u ∷ j) k) ≡ true = sends_early (after_mst r carry restarts t.sent (u ∷ j) k) (mst_is r jobs carry restarts opened t (u ∷ j) run clear k below ∙ mst_came r jobs carry restarts opened t (u ∷ j) run clear undisturbed k below) here (took early) in
        (taken_if r jobs carry restarts opened t (u ∷ j) run clear undisturbed k below stands (awaited early) sent).last (subst (λ (n : ℕ). 2 ≤ n) first two)
