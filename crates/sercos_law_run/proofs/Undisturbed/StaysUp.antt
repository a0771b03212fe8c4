-- In an undisturbed epoch the ring doesn't fall at the end of a cycle, if no step is open too long and each drive is heard in phases 3
-- and 4.
use Rattle.sercos_law_run.proofs.Words.{inr, inl, cases_Bool, ◌≡◌, ℕ, ◌+◌, ◌<◌, ◌≤◌, ◌||◌, Bool, true, false, not, ◌&&◌, List, [], ◌∷◌, ◌++◌, length, Option, Some, None, refl, sym, ◌∙◌, ap, subst, arith, if◌then◌else◌, ◌==◌, nat_le, is_some, option_map, unwrap_or, min, false≢true, eqb-true, leb-true, nat_tests, Job, Request, Answer, RingView, Begun, open_in, answers_it, answer_in, with_answer, Begin, Send, Hear, EndCycle, begun_by, age_of, cycles_open, phase_in, CycleView, is_place, Known, known_of, tasks_for, first_found, Past, Turn, first_from, first_place, has_identified, is_identified, count_addressed, is_idle, ready_to_send, after_mdt, fall_of, Carry, Restarts, Heard, View, with_heard, with_begun, unless_restart, epoch_begun, begun_in, BeginsEmpty, calls_in, channel_calls, drive_at, master_calls, middle, looks_back, IsNext, IsRun, IsClear, at_start, behind_ats, behind_mdt, after_mst, heard_last, view_of, views_of, IsOpened, IsUndisturbed, AreUndisturbed, StartsEpoch, begins_empty, comes_up, heard_none, IsViewRun}
use Rattle.sercos_service_master.specs.Calls.{Call}
use Rattle.sercos_law_run.proofs.Views.MasterSame.{HasHeard, Nothing, One, turn_mdt}
use Rattle.sercos_law_run.proofs.Views.Members.{in_ring}
use Rattle.sercos_law_run.proofs.Held.Runs.{kept_at_mst, begun_then}
use Rattle.sercos_law_run.proofs.Headline.HeadlineRuns.{first_store, stored_in, spelled_in, all_stand}
use Rattle.sercos_law_run.proofs.Undisturbed.ChannelsKept.{ats_leave, unheard_first, calls_now, phase_now}
use Rattle.sercos_law_run.proofs.Undisturbed.Arriving.Comes.{calm_in}
use Rattle.sercos_law_run.proofs.Undisturbed.Identified.{phase_comes, mst_whole, starts_so, goes_so, heard_next}
use Rattle.sercos_law_run.proofs.Undisturbed.NoFalls.{heard_mdt, has_risen, no_fall}
use Rattle.sercos_law_run.proofs.Views.ViewRuns.{no_request}
use Rattle.sercos_law_run.proofs.Undisturbed.Arriving.Addressed.{place_so}

-- what is heard on a channel is heard of the drive
heard_of : (s : Known) (k : ℕ) (such : List ℕ → Type 0) (c : List Call) (q : Past) → HasHeard s k such c q → heard_last c ≡ None → is_some (heard_last (q.calls k)) ≡ true → q.now.heard k ≡ true
heard_of s k such c q (Nothing same) quiet some = absurd (false≢true (sym (ap (λ (l : List Call). is_some (heard_last l)) same ∙ ap (λ (o : Option Heard). is_some o) quiet) ∙ some))
heard_of s k such c q (One content is there calls heard) quiet some = heard

-- NO STEP is open on a channel on which nothing was begun.
nothing_kept : (a : Answer) (begun : List Begun) → with_answer a begun ≡ [] → begun ≡ []
nothing_kept a [] none = refl
nothing_kept a (b ∷ begun) none = cc

none_heard : (b : Bool) (a : Answer) (begun : List Begun) → (if b then with_answer a begun else begun) ≡ [] → begun ≡ []
none_heard true a begun none = nothing_kept a begun none
none_heard false a begun none = none

no_age : (c : List Call) → begun_by c ≡ [] → age_of c ≡ None
no_age [] none = refl
no_age (Begin q ∷ c) none = cc
no_age (Send ∷ c) none = ap (λ (l : List Begun). if is_some (open_in l) then Some (unwrap_or (age_of c) 0) else None) none
no_age (Hear status word ∷ c) none =
    let empty : begun_by c ≡ [] = none_heard (answers_it (begun_by c) status) (answer_in status word) (begun_by c) none in
    ap (λ (l : List Begun). if answers_it l status then None else age_of c) empty ∙ no_age c empty
no_age (EndCycle ∷ c) none = ap (λ (o : Option ℕ). option_map (λ age. age + 1) o) (no_age c none)

pub begun_none : (busy : ℕ) → BeginsEmpty busy → (v : View) (past : List View) → IsViewRun busy (v ∷ past) → v.phase ≤ 1 → begun_in v past ≡ []
begun_none busy empty v past (run, next) early =
    let none = no_request v.begins (λ some. let two = next.late some in omega (arith, two, early)) in
    let ended : unless_restart v (epoch_begun past) ≡ [] =
    elim (cases_Bool v.master_restarts) [
      | inl on ↦ rw on refl
      | inr off ↦ let low = rw off at (subst (λ (n : ℕ). n ≤ 1) next.commanded early) in rw off ((empty past run low).0)
    ] in
    ap (λ (l : List Begun). with_begun v.begins (with_heard v.heard l)) ended ∙ ap (λ (l : List Begun). with_begun v.begins l) (heard_none v.heard) ∙ ap (λ (o : Option Request). with_begun o []) none

-- THE DRIVE THAT IS ADDRESSED in phase 1 isn't identified.
pub found_passes : (k n i : ℕ) (test : ℕ → Bool) → first_from k n test ≡ Some i → test i ≡ true
found_passes k n i test found = (first_found k n i test found).passes

pub addressed_first : (s : Known) (p : Past) → (after_mdt s p).now.phase ≡ 1 → (after_mdt s p).now.addressed ≡ first_place s (λ k. not (is_identified (after_mdt s p) k))
addressed_first s p one = let is : ((ready_to_send s p).now.phase == 1) ≡ true = grind (arith, nat_tests, one) in
    ap (λ (b : Bool). if b then first_place s (λ k. not (is_identified (ready_to_send s p) k)) else
    (if (ready_to_send s p).now.phase == 2 then first_place s (λ k. not (is_idle (ready_to_send s p) k)) else None)) is

not_heard : (phase : ℕ) (hears before : Bool) → phase ≡ 1 → not (((phase == 1) && hears) || before) ≡ true → hears ≡ false
not_heard phase true before one off = let is : (phase == 1) ≡ true = grind (arith, nat_tests, one) in absurd (false≢true (rw is at off))
not_heard phase false before one off = refl

unheard_addressed : (s : Known) (p : Past) (k : ℕ) → (after_mdt s p).now.phase ≡ 1 → is_place k (after_mdt s p).now.addressed ≡ true → p.now.heard k ≡ false
unheard_addressed s p k one to =
    let found : first_place s (λ i. not (is_identified (after_mdt s p) i)) ≡ Some k = sym (addressed_first s p one) ∙ place_so k (after_mdt s p).now.addressed to in
    sym (ap (λ (f : ℕ → Bool). f k) (heard_mdt s p))
    ∙ not_heard (after_mdt s p).now.phase ((after_mdt s p).now.heard k) (has_identified k (after_mdt s p).turns) one (found_passes 0 (length s.drives) k (λ i. not (is_identified (after_mdt s p) i)) found)

module _ (r : RingView) (jobs : List Job) (carry : Carry) (restarts : Restarts) (opened : IsOpened r jobs) where
  -- what a cycle's ATs and its MDT leave of the turn
  pub turns_now : (t : CycleView) (j : List CycleView) → (behind_mdt r jobs carry restarts t.sent j).turns ≡ (at_start r jobs carry restarts j).turns
  turns_now t j = (turn_mdt (known_of r) (behind_ats r jobs carry restarts t.sent j)).turns_are ∙ (ats_leave r jobs carry restarts t j 0).turns_are

  pub whole_now : (t : CycleView) (j : List CycleView) → IsNext r jobs carry restarts t j → IsUndisturbed r carry restarts t j → (behind_mdt r jobs carry restarts t.sent j).now.whole ≡ true
  whole_now t j next calm = (turn_mdt (known_of r) (behind_ats r jobs carry restarts t.sent j)).whole_is ∙ (ats_leave r jobs carry restarts t j 0).whole_is
      ∙ mst_whole r jobs carry restarts opened t j next (calm_in r carry restarts t j calm)

  -- what a channel heard in a cycle was heard of the drive
  pub heard_then : (t : CycleView) (j : List CycleView) → IsRun r jobs carry restarts (t ∷ j) → IsClear (t ∷ j) → (k : ℕ) → k < length r.drives → is_some (view_of r jobs carry restarts k t j).heard ≡ true
      → (behind_ats r jobs carry restarts t.sent j).now.heard k ≡ true
  heard_then t j run clear k below some = heard_of (known_of r) k (λ content. Unit {0}) ((at_start r jobs carry restarts j).calls k) (behind_ats r jobs carry restarts t.sent j)
      (ats_leave r jobs carry restarts t j k).has (unheard_first r jobs carry restarts opened j run.0 clear.0 k below) some

  -- in phases 0 and 1 a drive stands in the phase that is commanded
  pub stands_so : (t : CycleView) (j : List CycleView) → IsRun r jobs carry restarts (t ∷ j) → IsClear (t ∷ j) → IsUndisturbed r carry restarts t j → t.phase ≤ 1 → (k : ℕ) → k < length r.drives
      → phase_in (after_mst r carry restarts t.sent j k) ≡ t.phase
  stands_so t j (run, next) (before, clear) calm early k below =
      (kept_at_mst r jobs carry restarts opened (first_store r jobs carry restarts opened) t j next clear
      (spelled_in r jobs carry restarts opened t j next) (stored_in r jobs carry restarts opened t j)
      (all_stand r jobs carry restarts opened j run before) k below).ended
      ∙ comes_up (drive_at r k).busy (view_of r jobs carry restarts k t j) (views_of r jobs carry restarts k j) (all_stand r jobs carry restarts opened (t ∷ j) (run, next) (before, clear) k below).sees.run early
      (ap (λ (o : Option ℕ). is_some o) (phase_comes r jobs carry restarts opened t j next (calm_in r carry restarts t j calm) k below))

  -- nothing is begun in them
  pub idle_then : (t : CycleView) (j : List CycleView) → IsRun r jobs carry restarts (t ∷ j) → IsClear (t ∷ j) → t.phase ≤ 1 → (k : ℕ) → k < length r.drives → cycles_open ((behind_mdt r jobs carry restarts t.sent j).calls k) ≡ 0
  idle_then t j (run, next) (before, clear) early k below =
      let none : begun_by ((behind_mdt r jobs carry restarts t.sent j).calls k) ≡ [] =
      begun_then r jobs carry restarts opened (first_store r jobs carry restarts opened) t j next clear
      (spelled_in r jobs carry restarts opened t j next) (stored_in r jobs carry restarts opened t j)
      (all_stand r jobs carry restarts opened j run before) k below
      ∙ begun_none (drive_at r k).busy (begins_empty (drive_at r k).busy) (view_of r jobs carry restarts k t j) (views_of r jobs carry restarts k j) (all_stand r jobs carry restarts opened (t ∷ j) (run, next) (before, clear) k below).sees.run early in
      ap (λ (o : Option ℕ). min (unwrap_or o 0) 64) (no_age ((behind_mdt r jobs carry restarts t.sent j).calls k) none)

  -- a drive that is addressed in phase 1 was not addressed in the cycle before
  pub addressed_once : (t before : CycleView) (j : List CycleView) → IsRun r jobs carry restarts (t ∷ before ∷ j) → IsClear (t ∷ before ∷ j) → IsUndisturbed r carry restarts t (before ∷ j) → IsUndisturbed r carry restarts before j
      → t.phase ≡ 1 → (k : ℕ) → k < length r.drives → is_place k (behind_mdt r jobs carry restarts t.sent (before ∷ j)).now.addressed ≡ true → count_addressed k (behind_mdt r jobs carry restarts t.sent (before ∷ j)).turns ≡ 0
  addressed_once t before j run clear now_calm then_calm one k below to =
      ap (λ (l : List Turn). count_addressed k l) (turns_now t (before ∷ j) ∙ ap (λ (x : Past). x.turns) (goes_so r jobs carry restarts opened t before j run now_calm then_calm (omega (arith, one))))
      ∙ by ((behind_mdt r jobs carry restarts before.sent j).now.phase == 1) (is_place k (behind_mdt r jobs carry restarts before.sent j).now.addressed) refl refl
    where
      by : (was here : Bool) → ((behind_mdt r jobs carry restarts before.sent j).now.phase == 1) ≡ was → is_place k (behind_mdt r jobs carry restarts before.sent j).now.addressed ≡ here
          → (if was && here then count_addressed k (behind_mdt r jobs carry restarts before.sent j).turns + 1 else 0) ≡ 0
      by true true was here =
          let was_one : (behind_mdt r jobs carry restarts before.sent j).now.phase ≡ 1 = eqb-true (behind_mdt r jobs carry restarts before.sent j).now.phase 1 was in
          let first : before.phase ≡ 1 = sym (phase_now r jobs carry restarts before j run.0.1) ∙ was_one in
          absurd (false≢true (sym (unheard_addressed (known_of r) (behind_ats r jobs carry restarts t.sent (before ∷ j)) k
          (phase_now r jobs carry restarts t (before ∷ j) run.1 ∙ one) to) ∙ (heard_next r jobs carry restarts opened t before j run now_calm then_calm k below
          one was_one (place_so k (behind_mdt r jobs carry restarts before.sent j).now.addressed here)
          (stands_so before j run.0 clear.0 then_calm (omega (arith, first)) k below ∙ first))))
      by true false was here = refl
      by false here was is = refl

  -- NO FALL
  pub stays_up : (t : CycleView) (cycles before : List CycleView) → IsRun r jobs carry restarts (t ∷ (cycles ++ before)) → IsClear (t ∷ (cycles ++ before)) → StartsEpoch r jobs carry restarts before
      → AreUndisturbed r carry restarts (t ∷ cycles) before
      → (3 ≤ t.phase → (k : ℕ) → k < length r.drives → is_some (view_of r jobs carry restarts k t (cycles ++ before)).heard ≡ true)
      → (2 ≤ t.phase → (k : ℕ) → k < length r.drives → cycles_open (calls_in (view_of r jobs carry restarts k t (cycles ++ before)) (channel_calls (views_of r jobs carry restarts k (cycles ++ before)))) ≤ 63)
      → fall_of (known_of r) (behind_mdt r jobs carry restarts t.sent (cycles ++ before)) ≡ None
  stays_up t cycles before run clear starts (calm, now_calm) hears answers =
      no_fall (known_of r) (behind_mdt r jobs carry restarts t.sent (cycles ++ before)) (has_risen (known_of r) (tasks_for (known_of r) jobs) (middle r carry restarts t.sent (cycles ++ before))) (record {
        whole = whole_now t (cycles ++ before) run.1 now_calm;
        hears = λ late k below. ap (λ (f : ℕ → Bool). f k) (heard_mdt (known_of r) (behind_ats r jobs carry restarts t.sent (cycles ++ before)))
            ∙ heard_then t (cycles ++ before) run clear k (in_ring r k below) (hears (subst (λ (n : ℕ). 3 ≤ n) (phase_now r jobs carry restarts t (cycles ++ before) run.1) late) k (in_ring r k below));
        identifies = λ one k below to. let none : count_addressed k (behind_mdt r jobs carry restarts t.sent (cycles ++ before)).turns ≡ 0 = once cycles run clear calm now_calm (sym (phase_now r jobs carry restarts t (cycles ++ before) run.1) ∙ one) k (in_ring r k below) to in omega (arith, none);
        answers = λ other k below. short k (in_ring r k below) (nat_le 2 t.phase) refl;
      })
    where
      short : (k : ℕ) → k < length r.drives → (late : Bool) → nat_le 2 t.phase ≡ late → cycles_open ((behind_mdt r jobs carry restarts t.sent (cycles ++ before)).calls k) ≤ 63
      short k below true late = subst (λ (c : List Call). cycles_open c ≤ 63) (calls_now r jobs carry restarts opened t (cycles ++ before) run clear k below) (answers (leb-true 2 t.phase late) k below)
      short k below false late = let none = idle_then t (cycles ++ before) run clear (grind (arith, nat_tests, late)) k below in
          omega (arith, none)

      once : (cs : List CycleView) → IsRun r jobs carry restarts (t ∷ (cs ++ before)) → IsClear (t ∷ (cs ++ before)) → AreUndisturbed r carry restarts cs before → IsUndisturbed r carry restarts t (cs ++ before) → t.phase ≡ 1
          → (k : ℕ) → k < length r.drives → is_place k (behind_mdt r jobs carry restarts t.sent (cs ++ before)).now.addressed ≡ true → count_addressed k (behind_mdt r jobs carry restarts t.sent (cs ++ before)).turns ≡ 0
      once [] runs clears calms calm_now one k below to =
          let same : at_start r jobs carry restarts before ≡ looks_back r jobs (master_calls r carry restarts before) = starts_so r jobs carry restarts opened t before runs.1 (calm_in r carry restarts t before calm_now) in
          let zero_is : t.phase ≡ 0 = runs.1.phase ∙ ap (λ (x : Past). x.now.phase) same ∙ starts in
          absurd (omega (arith, zero_is, one))
      once (c ∷ cs) runs clears calms calm_now one k below to = addressed_once t c (cs ++ before) runs clears calm_now calms.1 one k below to
