use Rattle.std.proofs.Common.{◌≡◌, ℕ, List, ◌++◌, take}
use Rattle.sercos_step.specs.declared.request.Job.{Job}
use Rattle.sercos_step.specs.declared.request.Outcome.{Outcome}
use Rattle.sercos_backup.specs.Tracking.{tracked}
use Rattle.sercos_backup.proofs.tracked.note.Given as goal

abbrev pub invariant-loop-told : goal.invariant-loop-told
invariant-loop-told l = (told : List (ℕ × Outcome)) (jobs : List Job) → l.initial.list ≡ tracked told jobs → l.list ≡ tracked (told ++ take l.told-index l.outcomes) jobs
