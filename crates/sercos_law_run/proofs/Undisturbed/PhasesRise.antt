-- In an undisturbed epoch in which the ring doesn't fall the phase only rises, by one at a time.
use Rattle.sercos_law_run.proofs.Words.{◌≡◌, ℕ, ◌+◌, List, ◌∷◌, None, ◌∙◌, ap, if◌then◌else◌, Job, RingView, CycleView, known_of, Past, fall_of, is_done, Carry, Restarts, master_calls, looks_back, IsRun, behind_mdt, IsOpened}
use Rattle.sercos_law_run.proofs.Undisturbed.PhaseCounts.{end_kept}
use Rattle.sercos_law_run.proofs.Undisturbed.ChannelsKept.{phase_now}

module _ (r : RingView) (jobs : List Job) (carry : Carry) (restarts : Restarts) (opened : IsOpened r jobs) where
  -- the phase after a cycle
  pub phase_after : (t : CycleView) (j : List CycleView) → IsRun r jobs carry restarts (t ∷ j) → fall_of (known_of r) (behind_mdt r jobs carry restarts t.sent j) ≡ None
      → (looks_back r jobs (master_calls r carry restarts (t ∷ j))).now.phase ≡ (if is_done (known_of r) (behind_mdt r jobs carry restarts t.sent j) then t.phase + 1 else t.phase)
  phase_after t j run none = ap (λ (q : Past). q.now.phase) (end_kept (known_of r) (behind_mdt r jobs carry restarts t.sent j) none)
      ∙ ap (λ (n : ℕ). if is_done (known_of r) (behind_mdt r jobs carry restarts t.sent j) then n + 1 else n) (phase_now r jobs carry restarts t j run.1)
