-- A drive in phase 0 isn't heard, so the ring falls in phases 3 and 4.
use Rattle.sercos_law_run.proofs.Words.{◌≡◌, ◌⊎◌, inl, inr, ℕ, ◌+◌, ◌<◌, ◌≤◌, Bool, true, false, List, [], ◌∷◌, ◌++◌, length, Option, Some, None, refl, sym, ap, ◌∙◌, arith, if◌then◌else◌, ◌==◌, nat_le, is_some, slice_index, option_or, false≢true, false_from_ne_true, nat_tests, Job, RingView, CycleView, Fall, Known, known_of, Call, Past, Turn, after_taken, fall_at, fall_of, first_place, has_lost_at, has_lost_mst, is_at_limit, hearing, Carry, Restarts, Heard, staying, IsUp, heard, passage, ats_in, mst_in, at_calls, begins, drive_at, looks_back, master_calls, own_mst, station_of, with_at, IsClear, IsNext, IsRun, at_start, behind_ats, behind_mdt, behind_mst, heard_last, view_of, views_of, IsOpened, IsUndisturbed, IsDown, IsStretch, IsUpNow}
use Rattle.sercos_telegram.specs.declared.layout.Kind.TheVariants as kinds
use Rattle.sercos_trace.specs.declared.events.Fall.TheVariants as fall
use Rattle.sercos_law_run.proofs.Views.MasterSame.{begun_cycle, turn_mdt}
use Rattle.sercos_law_run.proofs.Views.Members.{members_count}
use Rattle.sercos_law_run.proofs.Views.ViewRuns.{started}
use Rattle.sercos_law_run.proofs.Headline.HeadlineRuns.{all_stand}
use Rattle.sercos_law_run.specs.Undisturbed.EpochStarts.{Falls}
use Rattle.sercos_law_run.proofs.Undisturbed.Arriving.AfterAt.{after_at_so}
use Rattle.sercos_law_run.proofs.Undisturbed.Arriving.Addressed.{finds}
use Rattle.sercos_law_run.proofs.Undisturbed.ChannelsKept.{ats_leave, phase_now}
use Rattle.sercos_law_run.proofs.Undisturbed.Arriving.Comes.{calm_in}
use Rattle.sercos_law_run.proofs.Undisturbed.NoFalls.{heard_mdt}
use Rattle.sercos_law_run.proofs.Undisturbed.Checks.PassedCycles.{passed_undisturbed}
use Rattle.sercos_law_run.proofs.Undisturbed.PhaseCounts.{end_kept}
use Rattle.sercos_law_run.proofs.Undisturbed.Arriving.WholeIn.{whole_in}
use Rattle.sercos_law_run.proofs.Recovery.Stretches.{stays_down_in}
use Rattle.sercos_law_run.proofs.Recovery.UpNext.{phase_next, up_next}
use Rattle.sercos_law_run.proofs.Undisturbed.PhaseRuns.{fresh_at}

-- WHAT IS HEARD of a drive is heard on its channel, but in phase 1.
record IsHeardOn (k : ℕ) (p : Past) : Type 0 where
  pub not_one : (p.now.phase == 1) ≡ false
  pub hears : p.now.heard k ≡ true → is_some (heard_last (p.calls k)) ≡ true

taken_hears : (k i : ℕ) (content : List ℕ) (p : Past) → IsHeardOn k p → IsHeardOn k (after_taken i content p)
taken_hears k i content p on = record { not_one = on.not_one; hears = by (k == i) (p.now.phase == 1) on.not_one }
  where
    by : (same one : Bool) → one ≡ false → (if same then true else p.now.heard k) ≡ true
        → is_some (heard_last (if same then (hearing one i content p).calls else p.calls k)) ≡ true
    by true true off is = absurd (false≢true (sym off))
    by true false off is = refl
    by false one off is = on.hears is

ats_hear : (r : RingView) (jobs : List Job) (carry : Carry) (cycle k : ℕ) (ats : List (List ℕ)) (h : List Call) → IsHeardOn k (looks_back r jobs h) → IsHeardOn k (looks_back r jobs (at_calls r carry cycle ats h))
ats_hear r jobs carry cycle k [] h on = on
ats_hear r jobs carry cycle k (at ∷ ats) h on = ats_hear r jobs carry cycle k ats (with_at (heard carry (passage cycle kinds.At (station_of r (slice_index at 0)) 0) at) h) (by (heard carry (passage cycle kinds.At (station_of r (slice_index at 0)) 0) at))
  where
    by : (o : Option (List ℕ)) → IsHeardOn k (looks_back r jobs (with_at o h))
    by None = on
    by (Some content) = after_at_so (IsHeardOn k) (known_of r) content (looks_back r jobs h) on (λ i. taken_hears k i content (looks_back r jobs h) on)

-- THE RING FALLS if a drive was heard neither in a cycle nor in the one before, in phases 3 and 4.
one_of : (f : ℕ → Fall) (s : Known) (a c : Option Fall) (o : Option ℕ) → is_some o ≡ true → is_some (option_or a (option_or (fall_at f s o) c)) ≡ true
one_of f s (Some x) c o some = refl
one_of f s None c (Some i) some = refl
one_of f s None c None some = absurd (false≢true some)

falls_so : (s : Known) (p : Past) (k : ℕ) → k < length s.drives → has_lost_at k (p.now ∷ p.turns) ≡ true → is_some (fall_of s p) ≡ true
falls_so s p k below lost = one_of fall.AtLost s (if has_lost_mst (p.now ∷ p.turns) then Some fall.MstLost else None) (fall_at fall.StepLimit s (first_place s (is_at_limit p))) (first_place s (λ i. has_lost_at i (p.now ∷ p.turns)))
    (ap (λ (o : Option ℕ). is_some o) (finds 0 (length s.drives) k (λ i. has_lost_at i (p.now ∷ p.turns)) (omega arith) (omega (arith, below)) lost).found)

lost_so : (k : ℕ) (now before : Turn) (turns all : List Turn) → all ≡ before ∷ turns → 3 ≤ before.phase → now.heard k ≡ false → before.heard k ≡ false → has_lost_at k (now ∷ all) ≡ true
lost_so k now before turns all are late unheard unheard_before =
    let is : nat_le 3 before.phase ≡ true = grind (arith, nat_tests, late) in
    ap (λ (l : List Turn). has_lost_at k (now ∷ l)) are ∙ rw (is, unheard, unheard_before) refl

pub not_one : (n : ℕ) → 2 ≤ n → (n == 1) ≡ false
not_one n late = grind (arith, nat_tests, late)

module _ (r : RingView) (jobs : List Job) (carry : Carry) (restarts : Restarts) where
  -- at the start of a cycle nothing is heard
  start_quiet : (j : List CycleView) (k : ℕ) → (at_start r jobs carry restarts j).now.heard k ≡ false
  start_quiet j k = ap (λ (p : Past). p.now.heard k) (started r jobs (restarts (length j) 0) (master_calls r carry restarts j)) ∙ by (restarts (length j) 0)
    where
      by : (b : Bool) → (begun_cycle b (looks_back r jobs (master_calls r carry restarts j))).now.heard k ≡ false
      by true = refl
      by false = fresh_at r jobs carry restarts k j

  -- a drive of which the channel hears nothing isn't heard
  unheard : (t : CycleView) (j : List CycleView) (k : ℕ) → IsNext r jobs carry restarts t j → 2 ≤ t.phase → (view_of r jobs carry restarts k t j).heard ≡ None → (behind_mdt r jobs carry restarts t.sent j).now.heard k ≡ false
  unheard t j k next late none =
      let first : IsHeardOn k (behind_mst r jobs carry restarts t.sent j) =
      record {
        not_one = ap (λ (n : ℕ). n == 1) (sym next.phase) ∙ not_one t.phase late;
        hears = λ is. absurd (false≢true (sym (start_quiet j k) ∙ is));
      } in
      let on =
      ats_hear r jobs carry (length j) k (ats_in t.sent) (own_mst carry (length j) (mst_in t.sent) (begins r carry restarts j)) first in
      ap (λ (f : ℕ → Bool). f k) (heard_mdt (known_of r) (behind_ats r jobs carry restarts t.sent j))
      ∙ false_from_ne_true ((behind_ats r jobs carry restarts t.sent j).now.heard k) (λ is. false≢true (sym (ap (λ (o : Option Heard). is_some o) none) ∙ on.hears is))

  pub turns_now : (t u : CycleView) (j : List CycleView) → fall_of (known_of r) (behind_mdt r jobs carry restarts u.sent j) ≡ None → restarts (length (u ∷ j)) 0 ≡ false
      → (behind_mdt r jobs carry restarts t.sent (u ∷ j)).turns ≡ (behind_mdt r jobs carry restarts u.sent j).now ∷ (behind_mdt r jobs carry restarts u.sent j).turns
  turns_now t u j none stays = (turn_mdt (known_of r) (behind_ats r jobs carry restarts t.sent (u ∷ j))).turns_are ∙ (ats_leave r jobs carry restarts t (u ∷ j) 0).turns_are
      ∙ ap (λ (p : Past). p.turns) (started r jobs (restarts (length (u ∷ j)) 0) (master_calls r carry restarts (u ∷ j)))
      ∙ ap (λ (b : Bool). (begun_cycle b (looks_back r jobs (master_calls r carry restarts (u ∷ j)))).turns) stays
      ∙ ap (λ (p : Past). p.turns) (end_kept (known_of r) (behind_mdt r jobs carry restarts u.sent j) none)

module _ (r : RingView) (jobs : List Job) (carry : Carry) (restarts : Restarts) (opened : IsOpened r jobs) where
  -- a phase stays, or rises by one
  pub phase_after : (t u : CycleView) (j : List CycleView) → IsRun r jobs carry restarts (t ∷ u ∷ j) → IsClear (t ∷ u ∷ j) → fall_of (known_of r) (behind_mdt r jobs carry restarts u.sent j) ≡ None → restarts (length (u ∷ j)) 0 ≡ false
      → (k : ℕ) → k < length r.drives → (u.phase ≡ t.phase) ⊎ (u.phase + 1 ≡ t.phase)
  phase_after t u j run clear none stays k below =
      phase_next (drive_at r k).busy (view_of r jobs carry restarts k t (u ∷ j)) (view_of r jobs carry restarts k u j) (views_of r jobs carry restarts k j) (all_stand r jobs carry restarts opened (t ∷ u ∷ j) run clear k below).sees.run
      (ap (λ (o : Option Fall). is_some o) none) stays

  pub no_lower : (t u : CycleView) (j : List CycleView) → IsRun r jobs carry restarts (t ∷ u ∷ j) → IsClear (t ∷ u ∷ j) → fall_of (known_of r) (behind_mdt r jobs carry restarts u.sent j) ≡ None → restarts (length (u ∷ j)) 0 ≡ false
      → (k : ℕ) → k < length r.drives → u.phase ≤ t.phase
  no_lower t u j run clear none stays k below = elim (phase_after t u j run clear none stays k below) [ inl same ↦ omega (arith, same) | inr up ↦ omega (arith, up) ]

  -- A DRIVE IN PHASE 0 makes the ring fall.
  pub falls_if_down : (t u : CycleView) (j : List CycleView) → IsRun r jobs carry restarts (t ∷ u ∷ j) → IsClear (t ∷ u ∷ j)
      → fall_of (known_of r) (behind_mdt r jobs carry restarts u.sent j) ≡ None → restarts (length (u ∷ j)) 0 ≡ false → 3 ≤ u.phase
      → (k : ℕ) → k < length r.drives → IsDown r jobs carry restarts k j → Falls r jobs carry restarts t (u ∷ j)
  falls_if_down t u j run clear none stays late k below down =
      let later : 2 ≤ t.phase = let least = no_lower t u j run clear none stays k below in omega (arith, late, least) in
      let first = stays_down_in r jobs carry restarts opened u j run.0 clear.0 k below down (omega (arith, late)) in
      falls_so (known_of r) (behind_mdt r jobs carry restarts t.sent (u ∷ j)) k (let count = members_count r in omega (arith, below, count))
      (lost_so k (behind_mdt r jobs carry restarts t.sent (u ∷ j)).now (behind_mdt r jobs carry restarts u.sent j).now (behind_mdt r jobs carry restarts u.sent j).turns (behind_mdt r jobs carry restarts t.sent (u ∷ j)).turns
      (turns_now r jobs carry restarts t u j none stays) (let is = phase_now r jobs carry restarts u j run.0.1 in omega (arith, late, is))
      (unheard r jobs carry restarts t (u ∷ j) k run.1 later (stays_down_in r jobs carry restarts opened t (u ∷ j) run clear k below first.ended later).heard)
      (unheard r jobs carry restarts u j k run.0.1 (omega (arith, late)) first.heard))

  -- ONE THAT IS UP stays so.
  pub stays_up_next : (t u : CycleView) (j : List CycleView) → IsRun r jobs carry restarts (t ∷ u ∷ j) → IsClear (t ∷ u ∷ j) → IsUndisturbed r carry restarts t (u ∷ j) → fall_of (known_of r) (behind_mdt r jobs carry restarts u.sent j) ≡ None
      → (k : ℕ) → k < length r.drives → IsUp (view_of r jobs carry restarts k u j) (views_of r jobs carry restarts k j) → IsUp (view_of r jobs carry restarts k t (u ∷ j)) (views_of r jobs carry restarts k (u ∷ j))
  stays_up_next t u j run clear calm none k below up =
      up_next (staying (view_of r jobs carry restarts k t (u ∷ j))) (view_of r jobs carry restarts k u j) (views_of r jobs carry restarts k j)
      (whole_in r jobs carry restarts opened t (u ∷ j) run clear calm k below) (passed_undisturbed r jobs carry restarts opened t (u ∷ j) run clear k below calm)
      (phase_after t u j run clear none ((calm_in r carry restarts t (u ∷ j) calm).stays 0 (omega arith)) k below) up

  pub next_up : (u : CycleView) (cycles : List CycleView) (first : CycleView) (before : List CycleView) → IsRun r jobs carry restarts (u ∷ (cycles ++ first ∷ before)) → IsClear (u ∷ (cycles ++ first ∷ before))
      → IsUndisturbed r carry restarts u (cycles ++ first ∷ before) → IsStretch r jobs carry restarts cycles first before → (k : ℕ) → k < length r.drives → IsUpNow (views_of r jobs carry restarts k (cycles ++ first ∷ before))
      → IsUp (view_of r jobs carry restarts k u (cycles ++ first ∷ before)) (views_of r jobs carry restarts k (cycles ++ first ∷ before))
  next_up u [] first before run clear calm stretch k below up = stays_up_next u first before run clear calm stretch.first_stays k below up
  next_up u (w ∷ cycles) first before run clear calm stretch k below up = stays_up_next u w (cycles ++ first ∷ before) run clear calm stretch.stays.1 k below up
