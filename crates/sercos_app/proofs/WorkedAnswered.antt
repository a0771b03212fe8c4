-- Requests that were answered, altered lists in which one is open or broken, and how many cycles are enough, computed from the definitions.
use Rattle.std.proofs.Common.{◌≡◌, ℕ, zero, suc, ◌+◌, ◌*◌, ◌<◌, false, List, [], ◌∷◌, ◌++◌, length, None, refl, sym, ◌∙◌, subst, arith}
use Rattle.std.specs.List.{All, flat_map}
use Rattle.sercos_step.specs.declared.request.Job.{Job}
use Rattle.sercos_step.specs.declared.request.Outcome.{Outcome}
use Rattle.sercos_step.specs.declared.request.Outcome.TheVariants as outcome
use Rattle.sercos_block.specs.Startup.{startup_bound}
use Rattle.sercos_block.specs.Views.{RingView}
use Rattle.sercos_law_run.specs.Journal.Runs.{drive_at}
use Rattle.sercos_law_run.specs.Undisturbed.Reports.{request_cycles}
use Rattle.sercos_config.specs.Generated.{generated_drive, generated_ring}
use Rattle.sercos_backup.specs.declared.tracked.Tracked.{Tracked}
use Rattle.sercos_backup.specs.Jobs.{list_jobs, reads_data}
use Rattle.sercos_backup.specs.Texts.{failed_lines, failed_text, refused_text}
use Rattle.sercos_backup.specs.Tracking.{tracked, tracked_from, with_outcome}
use Rattle.sercos_app.specs.EndsWell.{AreAnswered, IsAnswered, IsLongEnough, refused_line, requests_to}
use Rattle.sercos_app.proofs.EndsWellLemmas.{are_answered}

-- Three reads of two drives. The second one is refused, and ends before the first.
abbrev jobs : List Job
jobs = reads_data 1 47 ∷ reads_data 2 92 ∷ reads_data 2 95 ∷ []

abbrev told : List (ℕ × Outcome)
told = (2, outcome.Refused (record { raw = 0x7004 })) ∷ (1, outcome.Complete (150 ∷ 0 ∷ [])) ∷ (3, outcome.Complete []) ∷ []

one_drive : requests_to 1 jobs ≡ 1
one_drive = refl

other_drive : requests_to 2 jobs ≡ 2
other_drive = refl

no_drive : requests_to 3 jobs ≡ 0
no_drive = refl

each : All (λ (t : Tracked). IsAnswered t.outcome) (tracked told jobs)
unfolding tracked_from
each zero d within = tt
each (suc zero) d within = tt
each (suc (suc zero)) d within = tt
each (suc (suc (suc n))) d within = absurd (omega (arith, within))

answered : AreAnswered (tracked told jobs)
answered = are_answered (tracked told jobs) each

-- the line of the one that failed
line : failed_lines false (tracked told jobs) ≡ refused_text 2 92 0x7004 ++ []
unfolding tracked_from failed_text
line = refl

-- the same line by the definition of an answered list
refusal : flat_map (refused_line false) (tracked told jobs) ≡ refused_text 2 92 0x7004 ++ []
refusal = sym (answered.failed false) ∙ line

abbrev any : Tracked
any = with_outcome None (reads_data 1 47)

-- The third request is open in the end; the first is broken.
abbrev open_told : List (ℕ × Outcome)
open_told = (2, outcome.Refused (record { raw = 0x7004 })) ∷ (1, outcome.Complete (150 ∷ 0 ∷ [])) ∷ []

abbrev broken_told : List (ℕ × Outcome)
broken_told = (2, outcome.Refused (record { raw = 0x7004 })) ∷ (1, outcome.Broken) ∷ (3, outcome.Complete []) ∷ []

open_is_rejected : AreAnswered (tracked open_told jobs) → ⊥
unfolding tracked_from
open_is_rejected list = list.each 2 any (omega arith)

broken_is_rejected : AreAnswered (tracked broken_told jobs) → ⊥
unfolding tracked_from
broken_is_rejected list = list.each 0 any (omega arith)

-- Two drives: 676 cycles for a start-up, and 1563 and 2088 for a request. To read their lists 2765 cycles are enough, and one less isn't.
abbrev ring : ℕ → RingView
ring cycles = generated_ring 2 cycles

abbrev needed : ℕ → ℕ → ℕ
needed cycles k = startup_bound (ring cycles) + requests_to (drive_at (ring cycles) k).address (list_jobs (ring cycles)) * request_cycles (ring cycles) k

two_drives : (cycles : ℕ) → length (ring cycles).drives ≡ 2
unfolding generated_ring
two_drives cycles = refl

first_needs : (cycles : ℕ) → needed cycles 0 ≡ 2239
unfolding generated_ring generated_drive
first_needs cycles = refl

second_needs : (cycles : ℕ) → needed cycles 1 ≡ 2764
unfolding generated_ring generated_drive
second_needs cycles = refl

long : IsLongEnough (ring 2765) (list_jobs (ring 2765))
unfolding generated_ring
long zero below = subst (λ (n : ℕ). n < 2765) (sym (first_needs 2765)) (omega arith)
long (suc zero) below = subst (λ (n : ℕ). n < 2765) (sym (second_needs 2765)) (omega arith)
long (suc (suc k)) below = let two = two_drives 2765 in absurd (omega (arith, below, two))

short_is_rejected : IsLongEnough (ring 2764) (list_jobs (ring 2764)) → ⊥
unfolding generated_ring
short_is_rejected long_so =
    let there : 1 < length (ring 2764).drives = subst (λ (n : ℕ). 1 < n) (sym (two_drives 2764)) (omega arith) in
    let short : 2764 < 2764 = subst (λ (n : ℕ). n < 2764) (second_needs 2764) (long_so 1 there) in
    omega (arith, short)
