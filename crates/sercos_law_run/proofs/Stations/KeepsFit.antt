-- What a check found of a drive's store stays true in the phases that need the check, whatever the drive is handed.
use Rattle.sercos_law_run.proofs.Words.{◌≡◌, ℕ, ◌+◌, ◌≤◌, ◌==◌, Bool, true, false, not, ◌&&◌, ◌||◌, List, [], ◌∷◌, Option, Some, None, IfSome, sym, ◌∙◌, arith, if◌then◌else◌, nat_le, is_none, min, and_parts, false≢true, to_cancel, Block, find_block, with_data, put_fault, are_ascending, store_of, DriveView, is_command, ends_well, CommandCall, Wrote, Reset, CommandHistory, with_check_list, find_set, settings, passed_so_far, Write, AreThose, added_on, command_value, blocks_with, calls_with, allowed, Told, DriveCall, Mst, Mdt, mst_got, mdt_got, Moment, phase_in, has_missed, records_in, blocks_in, blocks_after, commands_in, calls_after, with_reset, annals, may_rise, stands_in, ends_in, takes, phase_below, cases_Bool, inl, inr, DriveRestart, command_calls, processed_at, cases_lt, subst}
use Rattle.sercos_law_run.proofs.Start.LaterLemmas.{after_check, still_ascending}
use Rattle.sercos_law_run.proofs.Start.KeptLemmas.{writes_keep}
use Rattle.sercos_law_run.proofs.Held.Processed.{processed_keeps, taken_at}
use Rattle.sercos_law_run.proofs.Held.StoreOf.{IsOf, store_of_so}
use Rattle.sercos_law_run.proofs.Cited.{handed_those}
use Rattle.sercos_law_run.proofs.Stations.Phases.{GotNext, GotNone, GotOther, GotOwn, MissesTwo, stands_by}

-- This is what a check found: it is so where the check finds nothing when it is set; the lists of the checks and writes to procedure
-- commands leave it so, and in the phases from `top` on each accepted write does.
pub record IsFound (d : DriveView) (rate check top : ℕ) (P : List Block → Type 0) : Type 0 where
  pub above : 3 ≤ top
  pub set : (blocks : List Block) → ends_well rate check blocks ≡ true → P blocks
  pub listed : (blocks : List Block) (bytes : List ℕ) → IsOf d blocks → P blocks
      → P (with_data 21 bytes blocks) × P (with_data 22 bytes blocks)
  pub command : (blocks : List Block) (raw phase : ℕ) (bytes : List ℕ) → IsOf d blocks
      → put_fault (find_block raw blocks) phase bytes ≡ None → is_command blocks raw ≡ true → P blocks → P (with_data raw bytes blocks)
  pub later : (blocks : List Block) (raw phase : ℕ) (bytes : List ℕ) → IsOf d blocks
      → put_fault (find_block raw blocks) phase bytes ≡ None → top ≤ phase → phase ≤ 4 → P blocks → P (with_data raw bytes blocks)
  pub rise : (cycle phase : ℕ) (past : List Moment) → top ≤ phase → phase ≤ top → may_rise d rate cycle phase past ≡ true
      → passed_so_far rate d.command check (command_calls past) cycle ≡ true

-- It holds where the check counts as passed, and where the drive is in such a phase.
pub record Holds (d : DriveView) (rate check top : ℕ) (P : List Block → Type 0) (calls : List CommandCall) (phase : ℕ) (blocks : List Block) : Type 0 where
  pub passed : (cycle : ℕ) → passed_so_far rate d.command check calls cycle ≡ true → P blocks
  pub stands : top ≤ phase → P blocks

module _ (d : DriveView) (rate check top : ℕ) (P : List Block → Type 0) (found : IsFound d rate check top P) where
  -- phase 0 forgets what was passed
  left : (phase after : ℕ) (calls : List CommandCall) (blocks : List Block) → after ≤ phase → Holds d rate check top P calls phase blocks
      → Holds d rate check top P (with_reset after calls) after blocks
  left phase after calls blocks down holds = record { passed = by (after == 0); stands = λ high. holds.stands (omega (arith, down, high)) }
    where
      by : (zero : Bool) (cycle : ℕ) → passed_so_far rate d.command check (if zero then Reset ∷ calls else calls) cycle ≡ true → P blocks
      by true cycle is = absurd (false≢true is)
      by false cycle is = holds.passed cycle is

  -- a write to a procedure command
  commanded : (blocks : List Block) (calls : List CommandCall) (phase : ℕ) (w : Write) (c : CommandHistory) → IsOf d blocks
      → put_fault (find_block w.raw blocks) phase w.bytes ≡ None → is_command blocks w.raw ≡ true
      → Holds d rate check top P calls phase blocks
      → Holds d rate check top P (Wrote w.raw (command_value w) w.cycle (with_data w.raw w.bytes blocks) ∷ calls) phase (with_check_list c w.raw (command_value w) (with_data w.raw w.bytes blocks))
  commanded blocks calls phase w c is fine command holds = record {
    passed = λ cycle so. lists (passed_by cycle (w.raw == check) (command_value w == to_cancel) so);
    stands = λ high. lists (written (holds.stands high));
  }
    where
      after : List Block
      after = with_data w.raw w.bytes blocks

      written : P blocks → P after
      written so = found.command blocks w.raw phase w.bytes is fine command so

      after_is : IsOf d after
      after_is = let stored = (writes_keep d blocks w.raw phase w.bytes is.1 is.0).0 fine in (stored, still_ascending blocks after (stored ∙ sym is.0) is.1)

      lists : P after → P (with_check_list c w.raw (command_value w) after)
      lists so =
          after_check c after w.raw (command_value w) P so (found.listed after _ after_is so).0
          (λ two. (found.listed after _ after_is so).1)

      passed_by : (cycle : ℕ) (same cancels : Bool)
          → (if same then (if cancels then passed_so_far rate d.command check calls (min cycle w.cycle)
          else ((is_none (find_set check (settings rate calls)) && (ends_well rate check after && nat_le (w.cycle + d.command) cycle))
          || passed_so_far rate d.command check calls cycle))
          else passed_so_far rate d.command check calls cycle) ≡ true → P after
      passed_by cycle false cancels so = written (holds.passed cycle so)
      passed_by cycle true true so = written (holds.passed (min cycle w.cycle) so)
      passed_by cycle true false so =
          (elim (cases_Bool (is_none (find_set check (settings rate calls)) &&
          (ends_well rate check after && nat_le (w.cycle + d.command) cycle))) [
            | inl now ↦
                let well = (and_parts (is_none (find_set check (settings rate calls)))
                (ends_well rate check after && nat_le (w.cycle + d.command) cycle) now).1 in
                found.set after (and_parts (ends_well rate check after) (nat_le (w.cycle + d.command) cycle) well).0
            | inr now ↦ written (holds.passed cycle (rw now at so))
          ])

  -- what a record makes of it
  recorded : (blocks : List Block) (calls : List CommandCall) (phase : ℕ) (o : Option Write) (c : CommandHistory) → IsOf d blocks → phase ≤ 4
      → IfSome o (λ (w : Write). put_fault (find_block w.raw blocks) phase w.bytes ≡ None)
      → Holds d rate check top P calls phase blocks → Holds d rate check top P (calls_with o blocks calls) phase (blocks_with o c blocks)
  recorded blocks calls phase None c is below fine holds = holds
  recorded blocks calls phase (Some w) c is below fine holds = elim (cases_Bool (is_command blocks w.raw)) [
    | inl command ↦ rw command (commanded blocks calls phase w c is fine command holds)
    | inr command ↦ rw command (record {
      passed = λ cycle so. absurd (false≢true so);
      stands = λ high. found.later blocks w.raw phase w.bytes is fine high below (holds.stands high);
    })
  ]

  -- what the MST's place makes of it
  at_mst : (past : List Moment) (cycle : ℕ) (o : Option ℕ)
      → Holds d rate check top P (command_calls past) (phase_in past) (blocks_in d past)
      → Holds d rate check top P (with_reset (stands_in d rate cycle o past) (command_calls past)) (stands_in d rate cycle o past) (blocks_in d past)
  at_mst past cycle o before =
      let so = λ (n : ℕ). Holds d rate check top P (with_reset n (command_calls past)) n (blocks_in d past) in
      elim (stands_by d rate cycle past o) [
        | GotNone none some is ↦ subst so (sym is) (same (phase_in past) before.stands)
        | MissesTwo none missed is ↦ subst so (sym is) zero
        | GotOwn phase had own is ↦ subst so (sym is) (same phase (λ high. before.stands (omega (arith, own, high))))
        | GotNext phase had next may is ↦ subst so (sym is) (same phase (λ high. elim (cases_lt (phase_in past) top) [
          | inl below ↦ before.passed cycle (found.rise cycle phase past high (omega (arith, below, next)) may)
          | inr there ↦ before.stands there
        ]))
        | GotOther phase had apart never is ↦ subst so (sym is) zero
      ]
    where
      same : (after : ℕ) → (top ≤ after → P (blocks_in d past))
          → Holds d rate check top P (with_reset after (command_calls past)) after (blocks_in d past)
      same after stands = record { passed = by (after == 0); stands = stands }
        where
          by : (zero : Bool) (cycle : ℕ)
              → passed_so_far rate d.command check (if zero then Reset ∷ command_calls past else command_calls past) cycle ≡ true
              → P (blocks_in d past)
          by true cycle is = absurd (false≢true is)
          by false cycle is = before.passed cycle is

      zero : Holds d rate check top P (with_reset 0 (command_calls past)) 0 (blocks_in d past)
      zero = same 0 (λ low. absurd (omega (arith, low, found.above)))

  -- and what the MDT's place does
  at_mdt : (past : List Moment) (told : Option Told) → phase_in past ≤ 4 → IsOf d (blocks_in d past)
      → AreThose (blocks_in d past) (records_in past)
      → Holds d rate check top P (command_calls past) (phase_in past) (blocks_in d past)
      → Holds d rate check top P (with_reset (ends_in told past) (calls_after (processed_at d rate told past) (records_in past) (command_calls past))) (ends_in told past)
      (blocks_after (processed_at d rate told past) (records_in past) (blocks_in d past))
  at_mdt past told below is are before = left (phase_in past) (ends_in told past) _ _
      (elim (cases_Bool (nat_le 3 (phase_in past) && (not (takes told past) && has_missed past))) [
        | inl on ↦ rw on (omega arith)
        | inr off ↦ rw off (omega arith)
      ]) at
    where
      at : Holds d rate check top P (calls_after (processed_at d rate told past) (records_in past) (command_calls past)) (phase_in past)
          (blocks_after (processed_at d rate told past) (records_in past) (blocks_in d past))
      at = processed_keeps (λ o. Holds d rate check top P (calls_after o (records_in past) (command_calls past)) (phase_in past)
          (blocks_after o (records_in past) (blocks_in d past))) d rate told past before (λ t.
          let one = taken_at d rate past t in
          recorded (blocks_in d past) (command_calls past) (phase_in past) (added_on one (records_in past)) (commands_in d rate past) is below (allowed one (records_in past) are) before)

  -- SO IT IS whatever the drive is given.
  pub holds_at : (h : List DriveCall) → are_ascending (store_of d) ≡ true
      → Holds d rate check top P (command_calls (annals d rate h)) (phase_in (annals d rate h)) (blocks_in d (annals d rate h))
  holds_at [] ascending = record { passed = λ cycle so. absurd (false≢true so); stands = λ low. absurd (omega (arith, low, found.above)) }
  holds_at (DriveRestart ∷ h) ascending =
      record { passed = λ cycle so. absurd (false≢true so); stands = λ low. absurd (omega (arith, low, found.above)) }
  holds_at (Mst cycle content ∷ h) ascending = at_mst (annals d rate h) cycle (mst_got content) (holds_at h ascending)
  holds_at (Mdt content ∷ h) ascending =
      at_mdt (annals d rate h) (mdt_got d.address (phase_in (annals d rate h)) (blocks_in d (annals d rate h)) content) (phase_below d rate h) (store_of_so d rate h ascending) (handed_those d rate h) (holds_at h ascending)
