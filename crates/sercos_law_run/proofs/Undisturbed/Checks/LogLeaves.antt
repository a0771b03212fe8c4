-- What the steps that a drive accepted since its reset leave of its procedure commands. Each list has its newest item first.
use Rattle.sercos_law_run.proofs.Words.{◌≡◌, Bool, true, false, not, ◌&&◌, List, [], ◌∷◌, length, refl, sym, ap, subst, if◌then◌else◌, ◌==◌, Option, Some, None, IfSome, option_and_then, beq, find_block, Reset, CommandHistory, with_call, set_in, Processed, Entry, ahs, open_idn, run_before, log_of, Write, takes_effect, written_by, added_by, commands_with, View, standing, stood_in, record_in, processed_in, with_record, since_reset, kept_in, write_of, Processes, Nothing, Record, processes, commands_left, commands_ended, CommandsFollow, LogLeaves, cases_Bool, inl, inr, cases_Option}
use Rattle.sercos_law_run.proofs.Settings.Histories.{reset_if}

-- The cycle of a write is that of its step.
pub added_cycle : (e : Entry) (log : List Entry) (w : Write) → added_by e log ≡ Some w → w.cycle ≡ e.processed.cycle
added_cycle e log w is = subst (λ (o : Option Write). IfSome o (λ x. x.cycle ≡ e.processed.cycle)) is (elim (cases_Bool (takes_effect e)) [
  | inl on ↦ rw on (elim (cases_Option (open_idn log)) [
    | inl none ↦ rw none tt
    | inr (raw, some) ↦ rw some (elim (cases_Option (find_block raw e.processed.blocks)) [
      | inl none ↦ rw none tt
      | inr some ↦ rw some.1 refl
    ])
  ])
  | inr off ↦ rw off tt
])

-- A step that reads adds none.
pub read_adds_none : (e : Entry) (log : List Entry) → e.processed.step.write ≡ false → added_by e log ≡ None
read_adds_none e log reads =
    ap (λ (v : Bool). if v && ((e.processed.step.element == 7) && (e.processed.step.last && not e.answer.error)) then option_and_then (written_by e.processed (run_before true 7 log)) (open_idn log) else None) reads

-- at the MST's place of a cycle
leaves_kept : (c : CommandHistory) (v : View) (past : List View) → CommandsFollow c (v ∷ past) → LogLeaves (log_of (since_reset past)) (commands_ended c past) → LogLeaves (log_of (kept_in v past)) v.commands
leaves_kept c v past follow before = by (stood_in v (standing past) == 0) v.drive_restarts follow.1
  where
    by : (zero restarts : Bool)
        → v.commands ≡ reset_if zero (if restarts then with_call Reset (commands_ended c past) else commands_ended c past)
        → LogLeaves (log_of (if zero then [] else (if restarts then [] else since_reset past))) v.commands
    by true true is = ap (λ (x : CommandHistory). set_in x) is
    by true false is = ap (λ (x : CommandHistory). set_in x) is
    by false true is = ap (λ (x : CommandHistory). set_in x) is
    by false false is = subst (LogLeaves (log_of (since_reset past))) (sym is) before

-- AT THE END of all cycles
pub leaves_since : (c : CommandHistory) → set_in c ≡ [] → (past : List View) → CommandsFollow c past → LogLeaves (log_of (since_reset past)) (commands_ended c past)
leaves_since c none [] follow = none
leaves_since c none (v ∷ past) follow = elim (cases_Bool ((standing (v ∷ past)).ended == 0)) [
  | inl on ↦ rw on
  | inr off ↦ rw off (taken (processes v past) (leaves_kept c v past follow (leaves_since c none past follow.0)))
]
  where
    taken : Processes v past → LogLeaves (log_of (kept_in v past)) v.commands → LogLeaves (log_of (with_record (processed_in v past) (kept_in v past))) (commands_left v past)
    taken (Nothing none) at = subst (λ (o : Option Processed). LogLeaves (log_of (with_record o (kept_in v past))) (commands_with (write_of o (kept_in v past)) v.blocks v.commands)) (sym none) at
    taken (Record s got came two some) at =
        subst (λ (o : Option Processed). LogLeaves (log_of (with_record o (kept_in v past))) (commands_with (write_of o (kept_in v past)) v.blocks v.commands)) (sym some)
        (elim (cases_Bool (beq (record_in v (length past) (stood_in v (standing past)) s).mhs (ahs (kept_in v past))))
        [ inl on ↦ rw on at | inr off ↦ rw off (at, refl) ])
