-- Runs of worked rings, computed from the definitions, down to the bits of each telegram.
use Rattle.sercos_law_run.proofs.Words.{◌≡◌, ℕ, ◌+◌, ◌==◌, Bool, false, List, [], ◌∷◌, length, Option, Some, None, if◌then◌else◌, refl, ap, arith, take, drop, pos, negsuc, slice_index_or, true≢false, attribute_of, DriveView, RingView, Job, Carry, carried_clean, never_restarts, unflipped_only_cuts, Damage, Lose, Flip, Cut, Deaf, Fault, Kind, Outcome, Fall, SentView, CycleView, frame_of, IsHarmless, IsHarmlessAfterCuts, IsClear, run_of, Move, drive, carried, restarts_at, acts, Request, content_in, is_unseen, head_fault, mst_fault, fields, word_at, word_bytes, control_of, status_of, attribute_fault, element_of, built_in, is_cycle, attribute_in, with_check_list, bytes_written, data_in, element_words, write_cause, value_in}
use Rattle.sercos_script.specs.declared.fault.Damage.TheVariants.{Restart}
use Rattle.sercos_law_run.proofs.Journal.HarmlessLemmas.{cuts_are_harmless, quiet_is_harmless}
use Rattle.sercos_model.specs.Bits as Bits
use Rattle.sercos_model.specs.CheckSequence as CheckSequence
use Rattle.sercos_hdlc.specs.Reason as Reason
use Rattle.sercos_hdlc.specs.Stuffed as Stuffed
use Rattle.sercos_block.specs.Stores as Stores
use Rattle.sercos_command.specs.Checks as Checks
use Rattle.sercos_plan.specs.ChainOf as ChainOf
use Rattle.sercos_plan.specs.LeastTimes as LeastTimes
use Rattle.sercos_drive.specs.Heard as Heard

-- a ring of one drive, which sends S-0-0051 and is sent S-0-0047; S-0-0051 grows by 10 in each cycle
abbrev pub ring : RingView
ring = record { rate = 4; cycle = 250; control = 250; gap = 5; cycles = 300; order = 0 ∷ []; drives = drive ∷ [] }

-- What happened in the cycles of a run, the newest first: the cycles in which drives moved, with their addresses and phases; the
-- falls; the outcomes of requests; and how many arrivals were unseen.
record Happened : Type 0 where
  moves : List (ℕ × List (ℕ × ℕ))
  falls : List (ℕ × Fall)
  outcomes : List (ℕ × ℕ × Outcome)
  unseen : ℕ

abbrev pairs : List Move → List (ℕ × ℕ)
pairs [] = []
pairs (m ∷ moves) = (m.drive, m.phase) ∷ pairs moves

abbrev with_moves : ℕ → List Move → List (ℕ × List (ℕ × ℕ)) → List (ℕ × List (ℕ × ℕ))
with_moves cycle [] others = others
with_moves cycle (m ∷ moves) others = (cycle, pairs (m ∷ moves)) ∷ others

abbrev with_fall : ℕ → Option Fall → List (ℕ × Fall) → List (ℕ × Fall)
with_fall cycle None others = others
with_fall cycle (Some f) others = (cycle, f) ∷ others

abbrev with_outcomes : ℕ → List (ℕ × Outcome) → List (ℕ × ℕ × Outcome) → List (ℕ × ℕ × Outcome)
with_outcomes cycle [] others = others
with_outcomes cycle (o ∷ outcomes) others = (cycle, o.0, o.1) ∷ with_outcomes cycle outcomes others

abbrev happened : List CycleView → Happened
happened [] = record { moves = []; falls = []; outcomes = []; unseen = 0 }
happened (t ∷ j) = record {
  moves = with_moves t.cycle t.moves (happened j).moves;
  falls = with_fall t.cycle t.events.fall (happened j).falls;
  outcomes = with_outcomes t.cycle t.events.outcomes (happened j).outcomes;
  unseen = (happened j).unseen + t.unseen;
}

-- the first n cycles under a script
abbrev under : List Job → List Fault → ℕ → Happened
under jobs faults n = happened (run_of ring jobs (carried 1 faults) (restarts_at faults) n)

abbrev pub fault : ℕ → ℕ → Kind → ℕ → Damage → Fault
fault cycle last kind from damage = record { cycle = cycle; last = last; every = 1; kind = kind; from = from; damage = damage }

-- S-0-0047 is written, and read
abbrev pub write : Job
write = record { drive = 1; request = Request.Write (record { raw = 47 }) 7 (1 ∷ 0 ∷ 0 ∷ 0 ∷ []) }

abbrev pub read : Job
read = record { drive = 1; request = Request.Read (record { raw = 47 }) 7 }

-- the moves of the start-up
abbrev started : List (ℕ × List (ℕ × ℕ))
started = (100, (1, 4) ∷ []) ∷ (95, (1, 3) ∷ []) ∷ (12, (1, 2) ∷ []) ∷ (10, (1, 1) ∷ []) ∷ []

-- Six bits of the MST are flipped in cycle 5, which makes it one of phase 1, and no check sequence tells: the drive moves.
abbrev flip : ℕ → Fault
flip bit = fault 5 5 Kind.Mst 0 (Flip 0 bit)

abbrev flips : List Fault
flips = flip 17 ∷ flip 25 ∷ flip 28 ∷ flip 32 ∷ flip 33 ∷ flip 37 ∷ []

-- the drive and the master each got it
flipped : under [] flips 18
    ≡ record { moves = (16, (1, 1) ∷ []) ∷ (6, (1, 0) ∷ []) ∷ (5, (1, 1) ∷ []) ∷ []; falls = []; outcomes = []; unseen = 2 }
unfolding carried restarts_at acts Bits.bits_of Bits.low_bits Bits.is_odd Bits.number_of Bits.bytes_of CheckSequence.fcs_of CheckSequence.divided CheckSequence.added CheckSequence.sum_of content_in is_unseen Reason.begins_with_six Reason.is_five Reason.ends_in_five Reason.six_place Reason.unstuffed Reason.given Reason.unclosed Reason.unreadable Reason.reason_of Stuffed.stuffed Stuffed.frame_of mst_fault head_fault word_bytes word_at fields control_of status_of attribute_fault attribute_of element_of built_in attribute_in is_cycle Stores.inserted Stores.with_own Stores.store_of Checks.number_at Checks.idns_at Checks.carried_len Checks.breaks_1 Checks.breaks_2 Checks.breaks_6 Checks.breaks_7 Checks.breaks_8 Checks.breaks_9 Checks.breaks_10 Checks.breaks_15 Checks.breaks_list Checks.breaks_89 Checks.unfit_for_phase_3 Checks.unfit_for_phase_4 with_check_list data_in element_words bytes_written write_cause ChainOf.chain_of LeastTimes.least_plan LeastTimes.least_t2 LeastTimes.least_t3 Heard.mst_in Heard.single_in Heard.joint_in value_in
flipped = refl

-- The AT of one cycle is lost: the request is complete all the same. Those of two cycles in a row: the ring falls, the request is broken,
-- and after a new start-up the next one runs. If these two ATs are cut to 60 bits, it is as if they were lost: they are not frames, and
-- nothing is unseen.
abbrev cuts : List Fault
cuts = fault 105 106 Kind.At 1 (Cut 1 60) ∷ []

abbrev fallen : Happened
fallen = record {
  moves = (207, (1, 4) ∷ []) ∷ (202, (1, 3) ∷ []) ∷ (119, (1, 2) ∷ []) ∷ (117, (1, 1) ∷ []) ∷ (107, (1, 0) ∷ []) ∷ started;
  falls = (106, Fall.AtLost 1) ∷ [];
  outcomes = (212, 2, Outcome.Complete (1 ∷ 0 ∷ 0 ∷ 0 ∷ [])) ∷ (106, 1, Outcome.Broken) ∷ [];
  unseen = 0;
}

written : under (write ∷ []) (fault 105 105 Kind.At 1 (Lose 1) ∷ []) 110
    ≡ record { moves = started; falls = []; outcomes = (106, 1, Outcome.Complete []) ∷ []; unseen = 0 }
unfolding carried restarts_at acts Bits.bits_of Bits.low_bits Bits.is_odd Bits.number_of Bits.bytes_of CheckSequence.fcs_of CheckSequence.divided CheckSequence.added CheckSequence.sum_of content_in is_unseen Reason.begins_with_six Reason.is_five Reason.ends_in_five Reason.six_place Reason.unstuffed Reason.given Reason.unclosed Reason.unreadable Reason.reason_of Stuffed.stuffed Stuffed.frame_of mst_fault head_fault word_bytes word_at fields control_of status_of attribute_fault attribute_of element_of built_in attribute_in is_cycle Stores.inserted Stores.with_own Stores.store_of Checks.number_at Checks.idns_at Checks.carried_len Checks.breaks_1 Checks.breaks_2 Checks.breaks_6 Checks.breaks_7 Checks.breaks_8 Checks.breaks_9 Checks.breaks_10 Checks.breaks_15 Checks.breaks_list Checks.breaks_89 Checks.unfit_for_phase_3 Checks.unfit_for_phase_4 with_check_list data_in element_words bytes_written write_cause ChainOf.chain_of LeastTimes.least_plan LeastTimes.least_t2 LeastTimes.least_t3 Heard.mst_in Heard.single_in Heard.joint_in value_in
written = refl

ats_lost : (under (write ∷ read ∷ []) (fault 105 106 Kind.At 1 (Lose 1) ∷ []) 213 ≡ fallen) × (under (write ∷ read ∷ []) cuts 213 ≡ fallen)
unfolding carried restarts_at acts Bits.bits_of Bits.low_bits Bits.is_odd Bits.number_of Bits.bytes_of CheckSequence.fcs_of CheckSequence.divided CheckSequence.added CheckSequence.sum_of content_in is_unseen Reason.begins_with_six Reason.is_five Reason.ends_in_five Reason.six_place Reason.unstuffed Reason.given Reason.unclosed Reason.unreadable Reason.reason_of Stuffed.stuffed Stuffed.frame_of mst_fault head_fault word_bytes word_at fields control_of status_of attribute_fault attribute_of element_of built_in attribute_in is_cycle Stores.inserted Stores.with_own Stores.store_of Checks.number_at Checks.idns_at Checks.carried_len Checks.breaks_1 Checks.breaks_2 Checks.breaks_6 Checks.breaks_7 Checks.breaks_8 Checks.breaks_9 Checks.breaks_10 Checks.breaks_15 Checks.breaks_list Checks.breaks_89 Checks.unfit_for_phase_3 Checks.unfit_for_phase_4 with_check_list data_in element_words bytes_written write_cause ChainOf.chain_of LeastTimes.least_plan LeastTimes.least_t2 LeastTimes.least_t3 Heard.mst_in Heard.single_in Heard.joint_in value_in
ats_lost = (refl, refl)

cuts_do_no_harm : IsHarmless (carried 1 cuts)
cuts_do_no_harm = (cuts_are_harmless (carried 1 cuts) (unflipped_only_cuts 1 cuts refl)).0

-- The run under the flips isn't clear.
all_seen : (j : List CycleView) → IsClear j → (happened j).unseen ≡ 0
all_seen [] clear = refl
all_seen (t ∷ j) (before, clear) = omega (arith, all_seen j before, clear)

flipped_is_not_clear : IsClear (run_of ring [] (carried 1 flips) (restarts_at flips) 18) → ⊥
flipped_is_not_clear clear =
    omega (arith, ap (λ (h : Happened). h.unseen) flipped, all_seen (run_of ring [] (carried 1 flips) (restarts_at flips) 18) clear)

-- The flips make the frame of an MST of phase 1 out of one of phase 0, so this script isn't harmless.
mst_frame : ℕ → List Bool
mst_frame phase = frame_of (255 ∷ phase ∷ [])

other_frame : carried 1 flips (record { cycle = 5; kind = Kind.Mst; from = 0; to = 1 }) (mst_frame 0) ≡ Some (mst_frame 1)
unfolding mst_frame carried acts Bits.bits_of Bits.low_bits Bits.is_odd Bits.number_of Bits.bytes_of CheckSequence.fcs_of CheckSequence.divided CheckSequence.added CheckSequence.sum_of Stuffed.stuffed Stuffed.frame_of
other_frame = refl

flips_do_harm : IsHarmless (carried 1 flips) → ⊥
unfolding mst_frame carried acts Bits.bits_of Bits.low_bits Bits.is_odd Bits.number_of Bits.bytes_of CheckSequence.fcs_of CheckSequence.divided CheckSequence.added CheckSequence.sum_of Reason.begins_with_six Reason.is_five Reason.ends_in_five Reason.six_place Reason.unstuffed Reason.given Reason.unclosed Reason.unreadable Reason.reason_of Stuffed.stuffed Stuffed.frame_of
flips_do_harm harmless = true≢false (ap (λ (l : List Bool). slice_index_or l 17 false) (harmless (record { cycle = 5; kind = Kind.Mst; from = 0; to = 1 }) (mst_frame 0) refl refl))

clean_does_no_harm : IsHarmlessAfterCuts carried_clean
clean_does_no_harm = quiet_is_harmless carried_clean (λ cycle kind from p bits in_cycle of_kind sent_by. refl)

-- A link that makes a frame out of the first 30 bits of another one does harm after cuts.
mended : Carry
mended p bits = if length bits == 30 then Some (mst_frame 1) else Some bits

mended_does_harm : IsHarmlessAfterCuts mended → ⊥
unfolding mended mst_frame Bits.bits_of Bits.low_bits Bits.is_odd Bits.number_of Bits.bytes_of CheckSequence.fcs_of CheckSequence.divided CheckSequence.added CheckSequence.sum_of Reason.begins_with_six Reason.is_five Reason.ends_in_five Reason.six_place Reason.unstuffed Reason.given Reason.unclosed Reason.unreadable Reason.reason_of Stuffed.stuffed Stuffed.frame_of
mended_does_harm harmless = let longer : 49 ≡ 30 = ap length (harmless (record { cycle = 5; kind = Kind.Mst; from = 0; to = 1 }) (take 30 (mst_frame 0)) (drop 30 (mst_frame 0)) refl refl) in omega (arith, longer)

-- The ring falls, and the drive doesn't get the two MSTs after it: in the first of these cycles it still stands in phase 4. And the drive
-- restarts.
abbrev down_at : ℕ → Happened
down_at cycle = record {
  moves = (222, (1, 4) ∷ []) ∷ (217, (1, 3) ∷ []) ∷ (134, (1, 2) ∷ []) ∷ (132, (1, 1) ∷ []) ∷ (cycle, (1, 0) ∷ []) ∷ started;
  falls = (121, Fall.AtLost 1) ∷ [];
  outcomes = [];
  unseen = 0;
}

drive_down : (under [] (fault 120 121 Kind.At 1 (Lose 1) ∷ fault 122 123 Kind.Mst 0 (Deaf 1) ∷ []) 223 ≡ down_at 123)
    × (under [] (fault 120 120 Kind.Mst 0 (Restart 1) ∷ []) 223 ≡ down_at 120)
unfolding carried restarts_at acts Bits.bits_of Bits.low_bits Bits.is_odd Bits.number_of Bits.bytes_of CheckSequence.fcs_of CheckSequence.divided CheckSequence.added CheckSequence.sum_of content_in is_unseen Reason.begins_with_six Reason.is_five Reason.ends_in_five Reason.six_place Reason.unstuffed Reason.given Reason.unclosed Reason.unreadable Reason.reason_of Stuffed.stuffed Stuffed.frame_of mst_fault head_fault word_bytes word_at fields control_of status_of attribute_fault attribute_of element_of built_in attribute_in is_cycle Stores.inserted Stores.with_own Stores.store_of Checks.number_at Checks.idns_at Checks.carried_len Checks.breaks_1 Checks.breaks_2 Checks.breaks_6 Checks.breaks_7 Checks.breaks_8 Checks.breaks_9 Checks.breaks_10 Checks.breaks_15 Checks.breaks_list Checks.breaks_89 Checks.unfit_for_phase_3 Checks.unfit_for_phase_4 with_check_list data_in element_words bytes_written write_cause ChainOf.chain_of LeastTimes.least_plan LeastTimes.least_t2 LeastTimes.least_t3 Heard.mst_in Heard.single_in Heard.joint_in value_in
drive_down = (refl, refl)

-- The master restarts while a request is open.
master_restarts : under (write ∷ read ∷ []) (fault 105 106 Kind.At 1 (Lose 1) ∷ fault 105 105 Kind.Mst 0 (Restart 0) ∷ []) 211
    ≡ record {
      moves = (205, (1, 4) ∷ []) ∷ (200, (1, 3) ∷ []) ∷ (117, (1, 2) ∷ []) ∷ (115, (1, 1) ∷ []) ∷ (105, (1, 0) ∷ []) ∷ started;
      falls = (105, Fall.Restart) ∷ [];
      outcomes = (210, 2, Outcome.Complete (1 ∷ 0 ∷ 0 ∷ 0 ∷ [])) ∷ (105, 1, Outcome.Broken) ∷ [];
      unseen = 0;
    }
unfolding carried restarts_at acts Bits.bits_of Bits.low_bits Bits.is_odd Bits.number_of Bits.bytes_of CheckSequence.fcs_of CheckSequence.divided CheckSequence.added CheckSequence.sum_of content_in is_unseen Reason.begins_with_six Reason.is_five Reason.ends_in_five Reason.six_place Reason.unstuffed Reason.given Reason.unclosed Reason.unreadable Reason.reason_of Stuffed.stuffed Stuffed.frame_of mst_fault head_fault word_bytes word_at fields control_of status_of attribute_fault attribute_of element_of built_in attribute_in is_cycle Stores.inserted Stores.with_own Stores.store_of Checks.number_at Checks.idns_at Checks.carried_len Checks.breaks_1 Checks.breaks_2 Checks.breaks_6 Checks.breaks_7 Checks.breaks_8 Checks.breaks_9 Checks.breaks_10 Checks.breaks_15 Checks.breaks_list Checks.breaks_89 Checks.unfit_for_phase_3 Checks.unfit_for_phase_4 with_check_list data_in element_words bytes_written write_cause ChainOf.chain_of LeastTimes.least_plan LeastTimes.least_t2 LeastTimes.least_t3 Heard.mst_in Heard.single_in Heard.joint_in value_in
master_restarts = refl

-- A ring of two drives: what is sent in the first cycles commanded phase 3, the newest first.
abbrev second : DriveView
second = record drive { address = 2; slave = 2; times = record { t1min = 12; tatmt = 6; t4min = 20; tatat = 5; tmtsy = 10; tmtsg = 20 } }

abbrev ring_2 : RingView
ring_2 = record ring { order = 0 ∷ 1 ∷ []; drives = drive ∷ second ∷ [] }

abbrev all_sent : List CycleView → List (List SentView)
all_sent [] = []
all_sent (t ∷ j) = t.sent ∷ all_sent j

two_sent : take 3 (all_sent (run_of ring_2 [] carried_clean never_restarts 181)) ≡
    ((record { kind = Kind.Mst; start = negsuc 49; bits = 50; content = 255 ∷ 3 ∷ [] }) ∷ (record { kind = Kind.At; start = pos 40; bits = 105; content = 1 ∷ 32 ∷ 0 ∷ 0 ∷ 0 ∷ 252 ∷ 2 ∷ 1 ∷ 0 ∷ [] }) ∷ (record { kind = Kind.At; start = pos 184; bits = 105; content = 2 ∷ 32 ∷ 0 ∷ 0 ∷ 0 ∷ 252 ∷ 2 ∷ 1 ∷ 0 ∷ [] }) ∷ (record { kind = Kind.Mdt; start = pos 332; bits = 169; content = 255 ∷ 13 ∷ 0 ∷ 0 ∷ 0 ∷ 180 ∷ 0 ∷ 0 ∷ 0 ∷ 13 ∷ 0 ∷ 0 ∷ 0 ∷ 180 ∷ 0 ∷ 0 ∷ 0 ∷ [] }) ∷ [])
    ∷ ((record { kind = Kind.Mst; start = negsuc 49; bits = 50; content = 255 ∷ 3 ∷ [] }) ∷ (record { kind = Kind.At; start = pos 40; bits = 105; content = 1 ∷ 1 ∷ 0 ∷ 0 ∷ 0 ∷ 242 ∷ 2 ∷ 1 ∷ 0 ∷ [] }) ∷ (record { kind = Kind.At; start = pos 184; bits = 105; content = 2 ∷ 1 ∷ 0 ∷ 0 ∷ 0 ∷ 242 ∷ 2 ∷ 1 ∷ 0 ∷ [] }) ∷ (record { kind = Kind.Mdt; start = pos 332; bits = 171; content = 255 ∷ 62 ∷ 0 ∷ 3 ∷ 0 ∷ 179 ∷ 0 ∷ 0 ∷ 0 ∷ 62 ∷ 0 ∷ 3 ∷ 0 ∷ 179 ∷ 0 ∷ 0 ∷ 0 ∷ [] }) ∷ [])
    ∷ ((record { kind = Kind.Mst; start = negsuc 49; bits = 50; content = 255 ∷ 3 ∷ [] }) ∷ (record { kind = Kind.At; start = pos 40; bits = 104; content = 1 ∷ 0 ∷ 0 ∷ 0 ∷ 0 ∷ 232 ∷ 2 ∷ 1 ∷ 0 ∷ [] }) ∷ (record { kind = Kind.At; start = pos 184; bits = 104; content = 2 ∷ 0 ∷ 0 ∷ 0 ∷ 0 ∷ 232 ∷ 2 ∷ 1 ∷ 0 ∷ [] }) ∷ (record { kind = Kind.Mdt; start = pos 332; bits = 171; content = 255 ∷ 15 ∷ 0 ∷ 128 ∷ 0 ∷ 178 ∷ 0 ∷ 0 ∷ 0 ∷ 15 ∷ 0 ∷ 128 ∷ 0 ∷ 178 ∷ 0 ∷ 0 ∷ 0 ∷ [] }) ∷ []) ∷ []
unfolding carried restarts_at acts Bits.bits_of Bits.low_bits Bits.is_odd Bits.number_of Bits.bytes_of CheckSequence.fcs_of CheckSequence.divided CheckSequence.added CheckSequence.sum_of content_in is_unseen Reason.begins_with_six Reason.is_five Reason.ends_in_five Reason.six_place Reason.unstuffed Reason.given Reason.unclosed Reason.unreadable Reason.reason_of Stuffed.stuffed Stuffed.frame_of mst_fault head_fault word_bytes word_at fields control_of status_of attribute_fault attribute_of element_of built_in attribute_in is_cycle Stores.inserted Stores.with_own Stores.store_of Checks.number_at Checks.idns_at Checks.carried_len Checks.breaks_1 Checks.breaks_2 Checks.breaks_6 Checks.breaks_7 Checks.breaks_8 Checks.breaks_9 Checks.breaks_10 Checks.breaks_15 Checks.breaks_list Checks.breaks_89 Checks.unfit_for_phase_3 Checks.unfit_for_phase_4 with_check_list data_in element_words bytes_written write_cause ChainOf.chain_of LeastTimes.least_plan LeastTimes.least_t2 LeastTimes.least_t3 Heard.mst_in Heard.single_in Heard.joint_in value_in
two_sent = refl
