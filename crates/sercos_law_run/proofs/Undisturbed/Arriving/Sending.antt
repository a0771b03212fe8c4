-- What the master sends in a cycle of a clear run.
use Rattle.sercos_law_run.proofs.Words.{◌≡◌, ℕ, ◌<◌, ◌≤◌, Bool, true, false, List, ◌∷◌, length, refl, sym, ◌∙◌, ap, subst, nat_le, is_some, Job, RingView, Begun, open_in, begun_by, phase_in, has_mst, blocks_in, CycleView, member, known_of, tasks_for, tasks_wait, Carry, Restarts, standing, stood_in, begun_in, drive_at, middle, IsRun, IsClear, HasTurn, at_start, behind_ats, behind_mdt, told_to, after_mst, view_of, views_of, IsSpelled, IsOpened, IsStored, open_late, none_of_some, arith}
use Rattle.sercos_law_run.proofs.Views.Members.{members_count}
use Rattle.sercos_law_run.proofs.Held.Runs.{AllStand, phase_same, holding, kept_at_mst, begun_then}
use Rattle.sercos_law_run.proofs.Headline.HeadlineRuns.{first_store, stored_in, spelled_in, all_stand}
use Rattle.sercos_law_run.proofs.Undisturbed.Arriving.Addressed.{addressed_open, told_if, told_late, told_one}
use Rattle.sercos_law_run.proofs.Undisturbed.Arriving.Phases.{late_so, early_so}
use Rattle.sercos_law_run.proofs.Cited.{work_in_turn}

module _ (r : RingView) (jobs : List Job) (carry : Carry) (restarts : Restarts) (opened : IsOpened r jobs) where
  -- A CYCLE of a clear run
  module _ (t : CycleView) (j : List CycleView) (run : IsRun r jobs carry restarts (t ∷ j)) (clear : IsClear (t ∷ j)) where
    pub spelled : IsSpelled r jobs carry restarts t j
    spelled = spelled_in r jobs carry restarts opened t j run.1

    pub stored : (k : ℕ) → k < length r.drives → IsStored (drive_at r k) (blocks_in (drive_at r k) (after_mst r carry restarts t.sent j k))
    stored = stored_in r jobs carry restarts opened t j

    pub all : AllStand r jobs carry restarts j
    all = all_stand r jobs carry restarts opened j run.0 clear.0

    -- at the MST's place
    pub stood_is : (k : ℕ) → k < length r.drives → phase_in (after_mst r carry restarts t.sent j k) ≡ stood_in (view_of r jobs carry restarts k t j) (standing (views_of r jobs carry restarts k j))
    stood_is k below = (kept_at_mst r jobs carry restarts opened (first_store r jobs carry restarts opened) t j run.1 clear.1 spelled stored all k below).ended

    pub mst_is : (k : ℕ) → k < length r.drives → has_mst (after_mst r carry restarts t.sent j k) ≡ (view_of r jobs carry restarts k t j).mst_comes
    mst_is k below = (kept_at_mst r jobs carry restarts opened (first_store r jobs carry restarts opened) t j run.1 clear.1 spelled stored all k below).got

    -- the phase commanded
    pub phase_then : (behind_mdt r jobs carry restarts t.sent j).now.phase ≡ t.phase
    phase_then = phase_same r jobs carry restarts opened (first_store r jobs carry restarts opened) t j run.1 clear.1 spelled stored all ∙ sym run.1.phase

    pub started_late : 3 ≤ t.phase → 3 ≤ (at_start r jobs carry restarts j).now.phase
    started_late late = subst (λ (n : ℕ). 3 ≤ n) run.1.phase late

    -- WHAT THE MASTER SENDS: in phases 3 and 4 each drive is told something, and before that one with an open step
    pub joint_in : (k : ℕ) → k < length r.drives → 3 ≤ t.phase → is_some (told_to (behind_mdt r jobs carry restarts t.sent j) k) ≡ true
    joint_in k below late =
        let (plan, planned, holds) = holding r jobs carry restarts opened (first_store r jobs carry restarts opened) t j run.1 clear.1 spelled stored all (started_late late) k below in
        told_if (behind_mdt r jobs carry restarts t.sent j) k (told_late (behind_mdt r jobs carry restarts t.sent j) k plan (subst (λ (n : ℕ). 3 ≤ n) (sym phase_then) late) planned.now)

    pub sends_in : (k : ℕ) → k < length r.drives → is_some (open_in (begun_in (view_of r jobs carry restarts k t j) (views_of r jobs carry restarts k j))) ≡ true → is_some (told_to (behind_mdt r jobs carry restarts t.sent j) k) ≡ true
    sends_in k below opens = by (nat_le 3 t.phase) refl (open_late (drive_at r k).busy (view_of r jobs carry restarts k t j) (views_of r jobs carry restarts k j) (all_stand r jobs carry restarts opened (t ∷ j) run clear k below).sees.run opens)
      where
        turns : (i : ℕ) → i < length (known_of r).drives → HasTurn (known_of r) (behind_mdt r jobs carry restarts t.sent j) i
        turns i low = work_in_turn (known_of r) (tasks_for (known_of r) jobs) (middle r carry restarts t.sent j) i (λ q. tasks_wait (member (known_of r) q).address 1 jobs) low

        by : (late : Bool) → nat_le 3 t.phase ≡ late → 2 ≤ t.phase → is_some (told_to (behind_mdt r jobs carry restarts t.sent j) k) ≡ true
        by true is two = joint_in k below (late_so t.phase is)
        by false is two =
            told_if (behind_mdt r jobs carry restarts t.sent j) k (told_one (behind_mdt r jobs carry restarts t.sent j) k
            (addressed_open (known_of r) (behind_ats r jobs carry restarts t.sent j) k
            (subst (λ (n : ℕ). k < n) (sym (members_count r)) below) turns
            (phase_then ∙ (let early = early_so t.phase is in omega (arith, early, two)))
            (none_of_some (open_in (begun_by ((behind_mdt r jobs carry restarts t.sent j).calls k)))
            (ap (λ (l : List Begun). is_some (open_in l))
            (begun_then r jobs carry restarts opened (first_store r jobs carry restarts opened) t j run.1 clear.1 spelled stored all k
            below) ∙ opens))))
