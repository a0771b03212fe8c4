-- The phase rises only where no step is open.
use Rattle.sercos_law_run.proofs.Words.{◌≡◌, inl, inr, ℕ, ◌+◌, ◌<◌, ◌≤◌, true, List, [], ◌∷◌, length, Option, None, refl, subst, arith, and_parts, cases_eq, Outcome, outcome_of, Begun, open_in, begun_by, PlanView, given, ended_well, reads_count, is_checked, is_ready, outcomes_in, Known, Task, member, AreWaiting, ended_there, Past, outcomes, is_done, is_done_in, each_passes, IsTask, AreBegunTasks, cases_Option}
use Rattle.sercos_law_run.proofs.Views.MasterSame.{done_below}
use Rattle.sercos_law_run.proofs.Agenda.AgendaTasks.{late_waits, task_phase}

-- No request is open if the drive's part of the phase is done.
pub record IsDoneAt (s : Known) (k phase : ℕ) (outs : List Outcome) : Type 0 where
  pub below : phase < 4
  pub checked : phase ≡ 2 → is_checked (member s k) outs ≡ true
  pub ready : phase ≡ 3 → is_ready (member s k) outs ≡ true

closed_task : (s : Known) (k phase : ℕ) (plan : Option PlanView) (waiting : List Task) (outs : List Outcome) (t : Task) → AreWaiting waiting → IsDoneAt s k phase outs → t.phase ≤ phase → IsTask s k plan waiting outs t → ⊥
closed_task s k phase plan waiting outs t waits done early task =
    let (begins, later) = task_phase s k plan waiting outs t waits task in
    elim (cases_eq phase 2) [
      | inl two ↦
          omega (arith, early, two, later (ended_there outs (reads_count (member s k) + 11) (done.checked two)) (done.checked two))
      | inr other ↦ elim (cases_eq phase 3) [
        | inl three ↦
            let parts = and_parts (is_checked (member s k) outs) (ended_well (given outs (reads_count (member s k) + 12))) (done.ready three) in
            let many = ended_there outs (reads_count (member s k) + 12) parts.1 in
            let (j, got) = late_waits s k plan waiting outs t many (done.ready three) task in
            omega (arith, early, three, waits j t got)
        | inr neither ↦ omega (arith, other, neither, done.below, begins, early)
      ]
    ]

open_none : (s : Known) (k phase : ℕ) (plan : Option PlanView) (waiting : List Task) (begun : List Begun) (tasks : List Task) → AreWaiting waiting → AreBegunTasks s k plan waiting phase begun tasks → IsDoneAt s k phase (outcomes_in begun) → open_in begun ≡ None
open_none s k phase plan waiting [] tasks waits are done = refl
open_none s k phase plan waiting (b ∷ older) [] waits are done = absurd are
open_none s k phase plan waiting (b ∷ older) (t ∷ tasks) waits are done = elim (cases_Option (outcome_of b.request b.answers)) [
  | inl ended ↦ absurd (closed_task s k phase are.1.by_then waiting (outcomes_in older) t waits (rw ended at done) are.1.early are.1.task)
  | inr (o, ended) ↦ rw ended refl
]

pub rests_so : (s : Known) (p : Past) (k : ℕ) → k < length s.drives → AreWaiting (p.waiting k) → AreBegunTasks s k p.plan (p.waiting k) p.now.phase (begun_by (p.calls k)) (p.tasks k) → is_done s p ≡ true → open_in (begun_by (p.calls k)) ≡ None
rests_so s p k below waits are done = open_none s k p.now.phase p.plan (p.waiting k) (begun_by (p.calls k)) (p.tasks k) waits are (record {
  below = done_below p.now.phase s p done;
  checked = λ two. each_passes (length s.drives) 0 (λ j. is_checked (member s j) (outcomes p j)) (subst (λ (n : ℕ). is_done_in n s p ≡ true) two done) k (omega arith) (omega (arith, below));
  ready = λ three. each_passes (length s.drives) 0 (λ j. is_ready (member s j) (outcomes p j)) (subst (λ (n : ℕ). is_done_in n s p ≡ true) three done) k (omega arith) (omega (arith, below));
})
