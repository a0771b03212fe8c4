-- The calls on the procedure commands of a drive are in order, through all cycles of a run. So what is kept of a check tells whether it
-- counts as passed.
use Rattle.sercos_law_run.proofs.Words.{◌≡◌, ℕ, suc, ◌+◌, ◌≤◌, ◌==◌, Bool, true, false, List, [], ◌∷◌, length, Option, Some, None, refl, ◌∙◌, arith, ap, sym, IfSome, le-leb, beq, Block, DriveView, RingView, is_command, CommandCall, newest_cycle, AreInOrder, is_from, first_passed_in, Processed, ahs, reply_of, log_of, Write, adds, added_on, calls_with, Told, DriveCall, mdt_got, Moment, phase_in, cycle_in, records_in, blocks_in, calls_after, commands_in, with_reset, annals, ends_in, CycleView, Carry, Restarts, mdt_in, drive_at, with_restart, mdt_heard, given_before, given_mst, passes_by_first, cases_Bool, cases_Option, inl, inr, is_passed, command_calls, processed_at}
use Rattle.sercos_law_run.proofs.Held.Processed.{processed_keeps, taken_at}
use Rattle.sercos_law_run.proofs.Undisturbed.Checks.LogLeaves.{added_cycle}

-- Calls in order, of which none was for a later cycle than this.
pub record StandBy (h : List CommandCall) (cycle : ℕ) : Type 0 where
  pub in_order : AreInOrder h
  pub order : newest_cycle h ≤ cycle

with_phase : (phase : ℕ) (h : List CommandCall) (cycle : ℕ) → StandBy h cycle → StandBy (with_reset phase h) cycle
with_phase phase h cycle s = elim (cases_Bool (phase == 0)) [
  | inl on ↦ rw on (record { in_order = (s.in_order, omega arith); order = s.order })
  | inr off ↦ rw off s
]

with_one : (o : Option Write) (blocks : List Block) (h : List CommandCall) (cycle : ℕ) → IfSome o (λ w. w.cycle ≡ cycle) → StandBy h cycle → StandBy (calls_with o blocks h) cycle
with_one None blocks h cycle at s = s
with_one (Some w) blocks h cycle at s =
    let order : newest_cycle h ≤ w.cycle = omega (arith, s.order, at) in
    let late : w.cycle ≤ cycle = omega (arith, at) in
    elim (cases_Bool (is_command blocks w.raw)) [
      | inl on ↦ rw on (record { in_order = (s.in_order, order); order = late })
      | inr off ↦ rw off (record { in_order = (s.in_order, order); order = late })
    ]

-- the write of a record is in its cycle
record_cycle : (t : Processed) (h : List Processed) → IfSome (added_on t h) (λ w. w.cycle ≡ t.cycle)
record_cycle t h = elim (cases_Bool (beq t.mhs (ahs h))) [
  | inl on ↦ rw on tt
  | inr off ↦ rw off (elim (cases_Option (adds t (log_of h))) [
    | inl is ↦ rw is tt
    | inr (w, is) ↦ rw is (added_cycle (record { processed = t; answer = reply_of t (log_of h) }) (log_of h) w is)
  ])
]

-- THE DRIVE after some moments
abbrev pub Keeps : List Moment → ℕ → Type 0
Keeps past cycle = StandBy (command_calls past) cycle

keeps_record : (d : DriveView) (rate : ℕ) (told : Option Told) (past : List Moment) (cycle : ℕ) → cycle_in past ≡ cycle → Keeps past cycle
    → StandBy (calls_after (processed_at d rate told past) (records_in past) (command_calls past)) cycle
keeps_record d rate told past cycle now s = processed_keeps
    (λ o. StandBy (calls_after o (records_in past) (command_calls past)) cycle) d rate told past s (λ t.
    let one = taken_at d rate past t in
    with_one (added_on one (records_in past)) (blocks_in d past) (command_calls past) cycle
    (elim (cases_Option (added_on one (records_in past))) [
      | inl none ↦ rw none tt
      | inr (w, some) ↦ rw some (let is = rw some at (record_cycle one (records_in past)) in is ∙ now)
    ]) s)

keeps_restart : (d : DriveView) (rate : ℕ) (restarts : Bool) (calls : List DriveCall) (cycle : ℕ) → Keeps (annals d rate calls) cycle → Keeps (annals d rate (with_restart restarts calls)) cycle
keeps_restart d rate true calls cycle s = record { in_order = (s.in_order, omega arith); order = s.order }
keeps_restart d rate false calls cycle s = s

later : (h : List CommandCall) (cycle : ℕ) → StandBy h cycle → StandBy h (suc cycle)
later h cycle s = record { in_order = s.in_order; order = omega (arith, s.order) }

-- BEFORE EACH CYCLE
pub keeps_before : (r : RingView) (carry : Carry) (restarts : Restarts) (k : ℕ) (j : List CycleView) → Keeps (annals (drive_at r k) r.rate (given_before carry restarts j k)) (length j)
keeps_before r carry restarts k [] = record { in_order = tt; order = omega arith }
keeps_before r carry restarts k (t ∷ j) =
    let d : DriveView = drive_at r k in
    let first : List Moment = annals d r.rate (with_restart (restarts (length j) (k + 1)) (given_before carry restarts j k)) in
    let behind : List Moment = annals d r.rate (given_mst carry restarts t.sent j k) in
    let told : Option Told = mdt_got d.address (phase_in behind) (blocks_in d behind) (mdt_heard carry (length j) (k + 1) (mdt_in t.sent)) in
    let at_mst : Keeps behind (length j) = with_phase (phase_in behind) (command_calls first) (length j)
    (keeps_restart d r.rate (restarts (length j) (k + 1)) (given_before carry restarts j k) (length j) (keeps_before r carry restarts k j)) in
    let at_mdt = with_phase (ends_in told behind) (calls_after (processed_at d r.rate told behind) (records_in behind) (command_calls behind)) (length j)
    (keeps_record d r.rate told behind (length j) refl at_mst) in
    later _ (length j) at_mdt

-- THE CHECKS in a cycle before which the drive doesn't restart
pub check_passed : (raw : ℕ) (d : DriveView) (rate cycle first : ℕ) (past : List Moment) → Keeps past cycle
    → first_passed_in raw (commands_in d rate past) ≡ Some first → first ≤ cycle
    → is_passed rate d.command raw (command_calls past) cycle ≡ true
check_passed raw d rate cycle first past s is le = sym (passes_by_first raw (commands_in d rate past) cycle s.in_order s.order)
    ∙ ap (λ (o : Option ℕ). is_from o cycle) is ∙ le-leb first cycle le
