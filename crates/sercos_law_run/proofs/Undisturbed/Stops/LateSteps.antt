-- The newest step of a request that is begun in phase 3 or later was accepted in such a phase.
use Rattle.sercos_law_run.proofs.Words.{cases_Bool, ◌≡◌, inl, inr, ℕ, ◌+◌, ◌<◌, ◌≤◌, Bool, true, false, List, [], ◌∷◌, length, Option, Some, None, sym, ap, ◌∙◌, subst, arith, if◌then◌else◌, length-append, none-some, cases_lt, beq, Job, Request, Idn, Answer, Step, RingView, Processed, Entry, ahs, accepted, answered, log_of, Begun, steps_begun, steps_in, step_at, answers_it, answer_in, with_answer, CycleView, reads_count, known_of, member, fall_of, Carry, Restarts, epoch_begun, begun_in, epoch_records, epoch_log, log_in, unless_restart, with_heard, with_begun, AreInStep, Idle, Kept, Heard, View, processed_in, IsRun, IsClear, behind_mdt, view_of, views_of, IsOpened, drive_at, length-steps_of, processes_in_phase, cases_Option}
use Rattle.sercos_law_channel.specs.Handshake.InStep.{Sent}
use Rattle.sercos_law_run.proofs.Headline.HeadlineRuns.{all_stand}
use Rattle.sercos_law_run.proofs.Undisturbed.JobsBegun.{few_then}
use Rattle.sercos_law_run.proofs.Undisturbed.Arriving.Small.{first_is, nothing_there}
use Rattle.sercos_law_channel.proofs.Handshake.EpochRuns.{in_step}
use Rattle.sercos_law_run.proofs.Undisturbed.ChannelsKept.{phase_now}

-- STEPS: an answer leaves those that were begun
more_steps : (r : Request) (a : Answer) (h : List Answer) → length (steps_begun r h) ≤ length (steps_begun r (a ∷ h))
more_steps r a h = elim (cases_Option (step_at r (a ∷ h))) [ inl none ↦ rw none (omega arith) | inr (s, some) ↦ rw some (omega arith) ]

heard_steps : (o : Option Heard) (begun : List Begun) → length (steps_in begun) ≤ length (steps_in (with_heard o begun))
heard_steps None begun = omega arith
heard_steps (Some a) begun = by (answers_it begun a.status) begun
  where
    by : (on : Bool) (l : List Begun) → length (steps_in l) ≤ length (steps_in (if on then with_answer (answer_in a.status a.word) l else l))
    by false l = omega arith
    by true [] = omega arith
    by true (b ∷ older) =
        let few = more_steps b.request (answer_in a.status a.word) b.answers in
        let here = length-append (steps_begun b.request b.answers) (steps_in older) in
        omega (arith, few, here, length-append (steps_begun b.request (answer_in a.status a.word ∷ b.answers)) (steps_in older))

-- the request that goes on has the same ones before it
record HasHead (begun older : List Begun) : Type 0 where
  first : Begun
  split : begun ≡ first ∷ older

heard_head : (o : Option Heard) (begun : List Begun) (one : Begun) (older : List Begun) → with_heard o begun ≡ one ∷ older → HasHead begun older
heard_head None begun one older is = record { first = one; split = is }
heard_head (Some a) begun one older is = by (answers_it begun a.status) begun is
  where
    by : (on : Bool) (l : List Begun) → (if on then with_answer (answer_in a.status a.word) l else l) ≡ one ∷ older → HasHead l older
    by false l is = record { first = one; split = is }
    by true [] is = absurd (nothing_there one older is)
    by true (b ∷ rest) is = record { first = b; split = ap (λ (l : List Begun). b ∷ l) (first_is _ one rest older is).1 }

-- the drive has accepted no more steps than were begun
pub few_accepted : (begun : List Begun) (log : List Entry) → AreInStep begun log → length log ≤ length (steps_in begun)
few_accepted begun log (Idle none steps answers) = omega (arith, ap (λ (l : List Step). length l) steps, (length-steps_of log))
few_accepted begun log (Sent s some steps answers) = omega (arith, ap (λ (l : List Step). length l) steps, (length-steps_of log))
few_accepted begun log (Kept e before some is steps answers) = omega (arith, ap (λ (l : List Step). length l) steps, (length-steps_of log))

-- a request for a procedure command has a first step
pub first_step : (i : Idn) (h : List Answer) → 1 ≤ length (steps_begun (Request.Command i) h)
first_step i [] = omega arith
first_step i (a ∷ h) = omega (arith, first_step i h, more_steps (Request.Command i) a h)

-- where no step is open, all were accepted, so those of the older requests are fewer
pub older_fewer : (one : Begun) (older : List Begun) (log rest : List Entry) (e : Entry) → AreInStep (one ∷ older) log → step_at one.request one.answers ≡ None → 1 ≤ length (steps_begun one.request one.answers) → log ≡ e ∷ rest
    → length (steps_in older) ≤ length rest
older_fewer one older log rest e (Idle none steps answers) ended some is =
    let parts = length-append (steps_begun one.request one.answers) (steps_in older) in
    omega (arith, ap (λ (l : List Step). length l) steps, parts, (length-steps_of log), (ap (λ (l : List Entry). length l) is), some)
older_fewer one older log rest e (Sent s open_is steps answers) ended some is = absurd (none-some s (sym ended ∙ open_is))
older_fewer one older log rest e (Kept x before open_is split steps answers) ended some is = absurd (none-some x.processed.step (sym ended ∙ open_is))

-- The newest accepted step is one of the newest request, if the log is longer than the steps of the others. Then it was accepted in this
-- phase or a later one, if n requests or more came before it.
abbrev pub IsLate : ℕ → ℕ → List Begun → List Entry → Type 0
IsLate n phase begun log = (one : Begun) (older : List Begun) (e : Entry) (rest : List Entry) → begun ≡ one ∷ older → n ≤ length older → log ≡ e ∷ rest → length (steps_in older) ≤ length rest → phase ≤ e.processed.phase

cycle_late : (n phase : ℕ) (v : View) (past : List View) → AreInStep (epoch_begun past) (epoch_log past) → (n < length (begun_in v past)
    → phase ≤ v.phase) → IsLate n phase (epoch_begun past) (epoch_log past) → IsLate n phase (begun_in v past) (log_in v past)
cycle_late n phase v past in_step is_late late one older e rest begun many log steps = elim (cases_Option (processed_in v past)) [
  | inl none ↦ let same = rw none at log in dropped same
  | inr some ↦ let same = rw some.1 at log in elim (cases_Bool (beq some.0.mhs (ahs (unless_restart v (epoch_records past))))) [
    | inl again ↦ dropped (rw again at same)
    | inr new ↦
        let first = first_is _ e (answered (accepted (unless_restart v (epoch_records past)))) rest (rw new at same) in
        subst (λ (x : Processed). phase ≤ x.phase) (ap (λ (x : Entry). x.processed) first.0)
        (omega (
          arith,
          is_late (omega (arith, ap (λ (l : List Begun). length l) begun, many)),
          (processes_in_phase v past some.0 some.1).0,
        ))
  ]
]
  where
    -- nothing was accepted in this cycle
    kept : log_of (epoch_records past) ≡ e ∷ rest → (o : Option Request)
        → with_begun o (with_heard v.heard (epoch_begun past)) ≡ one ∷ older → phase ≤ e.processed.phase
    kept same None is =
        let head = heard_head v.heard (epoch_begun past) one older is in late head.first older e rest head.split many same steps
    kept same (Some r) is =
        let behind = ap (λ (l : List Begun). length (steps_in l)) (first_is _ one (with_heard v.heard (epoch_begun past)) older is).1 in
        let few = few_accepted (epoch_begun past) (epoch_log past) in_step in
        absurd (omega (arith, behind, few, heard_steps v.heard (epoch_begun past), ap (λ (l : List Entry). length l) same, steps))

    dropped : log_of (unless_restart v (epoch_records past)) ≡ e ∷ rest → phase ≤ e.processed.phase
    dropped same = elim (cases_Bool v.master_restarts) [
      | inl on ↦ absurd (nothing_there e rest (rw on at same))
      | inr off ↦ kept (rw off at same) v.begins (rw off at begun)
    ]

module _ (r : RingView) (jobs : List Job) (carry : Carry) (restarts : Restarts) (opened : IsOpened r jobs) (k : ℕ)
    (below : k < length r.drives) where
  -- the check for phase 4 comes 12 requests after the reads
  abbrev pub ChecksLate : List Begun → List Entry → Type 0
  ChecksLate = IsLate (reads_count (member (known_of r) k) + 12) 3

  -- in a cycle
  late_in_cycle : (t : CycleView) (j : List CycleView) → IsRun r jobs carry restarts (t ∷ j) → IsClear (t ∷ j)
      → ChecksLate (epoch_begun (views_of r jobs carry restarts k j)) (epoch_log (views_of r jobs carry restarts k j)) → ChecksLate (begun_in (view_of r jobs carry restarts k t j) (views_of r jobs carry restarts k j)) (log_in (view_of r jobs carry restarts k t j) (views_of r jobs carry restarts k j))
  late_in_cycle t j run clear before = cycle_late (reads_count (member (known_of r) k) + 12) 3 (view_of r jobs carry restarts k t j)
      (views_of r jobs carry restarts k j)
      (in_step (drive_at r k).busy (views_of r jobs carry restarts k j) (all_stand r jobs carry restarts opened j run.0 clear.0 k below).sees.run)
      high before
    where
      high : reads_count (member (known_of r) k) + 12 < length (begun_in (view_of r jobs carry restarts k t j) (views_of r jobs carry restarts k j)) → 3 ≤ t.phase
      high many = elim (cases_lt t.phase 3) [
        | inl low ↦
            let same = phase_now r jobs carry restarts t j run.1 in
            let few = few_then r jobs carry restarts opened t j run clear k below (omega (arith, same, low)) in absurd (omega (arith, few, many))
        | inr there ↦ omega (arith, there)
      ]

  late_at : (j : List CycleView) → IsRun r jobs carry restarts j → IsClear j → ChecksLate (epoch_begun (views_of r jobs carry restarts k j)) (epoch_log (views_of r jobs carry restarts k j))
  late_at [] run clear = λ one older e rest begun many log steps. absurd (nothing_there one older begun)
  late_at (t ∷ j) run clear = elim (cases_Option (fall_of (known_of r) (behind_mdt r jobs carry restarts t.sent j))) [
    | inl stays ↦ rw stays (late_in_cycle t j run clear (late_at j run.0 clear.0))
    | inr (f, falls) ↦ rw falls (λ one older e rest begun many log steps. absurd (nothing_there one older begun))
  ]

  pub late_now : (t : CycleView) (j : List CycleView) → IsRun r jobs carry restarts (t ∷ j) → IsClear (t ∷ j)
      → ChecksLate (begun_in (view_of r jobs carry restarts k t j) (views_of r jobs carry restarts k j)) (log_in (view_of r jobs carry restarts k t j) (views_of r jobs carry restarts k j))
  late_now t j run clear = late_in_cycle t j run clear (late_at j run.0 clear.0)
