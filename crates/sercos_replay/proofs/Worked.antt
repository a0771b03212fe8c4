-- Captures of a ring of one drive and what the replays of the drive and of the master find in them, computed from the definitions. Each list
-- of lines has its newest line first.
use Rattle.std.proofs.Common.{◌≡◌, ℕ, zero, suc, List, [], ◌∷◌, Some, None, refl}
use Rattle.std.specs.Prelude.{pos}
use Rattle.sercos_telegram.specs.declared.layout.Kind.TheVariants as telegram
use Rattle.sercos_seat.specs.Ring.{Known, known_of}
use Rattle.sercos_trace.specs.declared.reading.Line.{Line}
use Rattle.sercos_trace.specs.declared.reading.Line.TheVariants as line
use Rattle.sercos_drive.proofs.Worked.{drive}
use Rattle.sercos_law_run.specs.Journal.Runs.{sent_at, sent_mst}
use Rattle.sercos_replay.specs.Cycles.{cycles_of}
use Rattle.sercos_replay.specs.Places.{PlaceView, telegram_at}
use Rattle.sercos_replay.specs.Differences.{drive_differs, drive_tells, master_differs, master_tells}
use Rattle.sercos_model.specs.Bits as Bits
use Rattle.sercos_model.specs.CheckSequence as CheckSequence
use Rattle.sercos_hdlc.specs.Stuffed as Stuffed
use Rattle.sercos_telegram.specs.Faults as Faults
use Rattle.sercos_telegram.specs.Spells as Spells
use Rattle.sercos_telegram.specs.Words as Words
use Rattle.sercos_idn.specs.Codes as Codes
use Rattle.sercos_idn.specs.Attributes as Attributes
use Rattle.sercos_block.specs.Blocks as Blocks
use Rattle.sercos_block.specs.BuiltIns as BuiltIns
use Rattle.sercos_timing.specs.Valid as Valid
use Rattle.sercos_block.specs.Rings as Rings
use Rattle.sercos_block.specs.Stores as Stores
use Rattle.sercos_command.specs.Checks as Checks
use Rattle.sercos_command.specs.Calls as Calls
use Rattle.sercos_service_drive.specs.Replies as Replies
use Rattle.sercos_plan.specs.ChainOf as ChainOf
use Rattle.sercos_plan.specs.LeastTimes as LeastTimes
use Rattle.sercos_drive.specs.Heard as Heard
use Rattle.sercos_drive.specs.Says as Says

-- a ring of 4 Mbit/s
abbrev ring : Known
ring = known_of (record { rate = 4; cycle = 250; control = 250; gap = 5; cycles = 300; order = 0 ∷ []; drives = drive ∷ [] })

-- what is said to the drive of address 1, or what it says: a control or status word below 256, and an information word below 256
abbrev content : ℕ → ℕ → List ℕ
content word info = 1 ∷ word ∷ 0 ∷ info ∷ 0 ∷ []

abbrev m : ℕ → ℕ → Line
m cycle phase = line.Telegram cycle (sent_mst (255 ∷ phase ∷ []))

abbrev a : ℕ → List ℕ → Line
a cycle bytes = line.Telegram cycle (sent_at 4 300 bytes)

abbrev d : ℕ → List ℕ → Line
d cycle bytes = line.Telegram cycle (telegram_at telegram.Mdt bytes (pos 2600))

abbrev closing : ℕ → List Line
closing zero = []
closing (suc n) = m n 0 ∷ closing n

-- Ten cycles of phase 0; in cycle 10 the drive is addressed, and it answers in 11; in 12 the master opens S-0-0003.
abbrev addressed : List Line
addressed = d 10 (content 0 0) ∷ m 10 1 ∷ closing 10

abbrev opened : List Line
opened = d 12 (content 15 3) ∷ m 12 2 ∷ a 11 (content 0 0) ∷ m 11 1 ∷ addressed

-- in 13 the drive answers, and the master goes on; and the same with an answer that doesn't count
abbrev answered : List Line
answered = d 13 (content 24 0) ∷ a 13 (content 1 0) ∷ m 13 2 ∷ opened

abbrev unanswered : List Line
unanswered = d 13 (content 24 0) ∷ a 13 (content 0 0) ∷ m 13 2 ∷ opened

abbrev place_13 : PlaceView
place_13 = record { cycle = 13; kind = telegram.At; expected = Some (sent_at 4 300 (content 1 0)); found = Some (sent_at 4 300 (content 0 0)) }

drive_agrees : drive_differs drive 4 (cycles_of answered) ≡ None
unfolding Bits.bits_of Bits.low_bits Bits.is_odd Bits.number_of Bits.bytes_of CheckSequence.fcs_of CheckSequence.divided CheckSequence.added CheckSequence.sum_of Stuffed.stuffed Stuffed.frame_of Faults.mst_fault Faults.head_fault Spells.word_bytes Spells.word_at Spells.fields Words.control_of Words.status_of Codes.attribute_fault Attributes.attribute_of Blocks.element_of BuiltIns.built_in Rings.attribute_in Valid.is_cycle Stores.inserted Stores.with_own Stores.store_of Checks.number_at Checks.idns_at Checks.carried_len Checks.breaks_1 Checks.breaks_2 Checks.breaks_6 Checks.breaks_7 Checks.breaks_8 Checks.breaks_9 Checks.breaks_10 Checks.breaks_15 Checks.breaks_list Checks.breaks_89 Checks.unfit_for_phase_3 Checks.unfit_for_phase_4 Calls.with_check_list Replies.data_in Replies.element_words Replies.bytes_written Replies.write_cause ChainOf.chain_of LeastTimes.least_plan LeastTimes.least_t2 LeastTimes.least_t3 Heard.mst_in Heard.single_in Heard.joint_in Says.value_in
drive_agrees = refl

-- the drive was to say that it took the step; the master had no answer, and was to ask the same again
drive_says_another : drive_differs drive 4 (cycles_of unanswered) ≡ Some place_13
unfolding Bits.bits_of Bits.low_bits Bits.is_odd Bits.number_of Bits.bytes_of CheckSequence.fcs_of CheckSequence.divided CheckSequence.added CheckSequence.sum_of Stuffed.stuffed Stuffed.frame_of Faults.mst_fault Faults.head_fault Spells.word_bytes Spells.word_at Spells.fields Words.control_of Words.status_of Codes.attribute_fault Attributes.attribute_of Blocks.element_of BuiltIns.built_in Rings.attribute_in Valid.is_cycle Stores.inserted Stores.with_own Stores.store_of Checks.number_at Checks.idns_at Checks.carried_len Checks.breaks_1 Checks.breaks_2 Checks.breaks_6 Checks.breaks_7 Checks.breaks_8 Checks.breaks_9 Checks.breaks_10 Checks.breaks_15 Checks.breaks_list Checks.breaks_89 Checks.unfit_for_phase_3 Checks.unfit_for_phase_4 Calls.with_check_list Replies.data_in Replies.element_words Replies.bytes_written Replies.write_cause ChainOf.chain_of LeastTimes.least_plan LeastTimes.least_t2 LeastTimes.least_t3 Heard.mst_in Heard.single_in Heard.joint_in Says.value_in
drive_says_another = refl

master_agrees : master_differs ring [] (cycles_of answered) ≡ None
unfolding Bits.bits_of Bits.low_bits Bits.is_odd Bits.number_of Bits.bytes_of CheckSequence.fcs_of CheckSequence.divided CheckSequence.added CheckSequence.sum_of Stuffed.stuffed Stuffed.frame_of Faults.mst_fault Faults.head_fault Spells.word_bytes Spells.word_at Spells.fields Words.control_of Words.status_of Codes.attribute_fault Attributes.attribute_of Blocks.element_of BuiltIns.built_in Rings.attribute_in Valid.is_cycle Stores.inserted Stores.with_own Stores.store_of Checks.number_at Checks.idns_at Checks.carried_len Checks.breaks_1 Checks.breaks_2 Checks.breaks_6 Checks.breaks_7 Checks.breaks_8 Checks.breaks_9 Checks.breaks_10 Checks.breaks_15 Checks.breaks_list Checks.breaks_89 Checks.unfit_for_phase_3 Checks.unfit_for_phase_4 Calls.with_check_list Replies.data_in Replies.element_words Replies.bytes_written Replies.write_cause ChainOf.chain_of LeastTimes.least_plan LeastTimes.least_t2 LeastTimes.least_t3 Heard.mst_in Heard.single_in Heard.joint_in Says.value_in
master_agrees = refl

master_says_another : master_differs ring [] (cycles_of unanswered) ≡ Some (record { cycle = 13; kind = telegram.Mdt; expected = Some (telegram_at telegram.Mdt (content 15 3) (pos 2600)); found = Some (telegram_at telegram.Mdt (content 24 0) (pos 2600)) })
unfolding Bits.bits_of Bits.low_bits Bits.is_odd Bits.number_of Bits.bytes_of CheckSequence.fcs_of CheckSequence.divided CheckSequence.added CheckSequence.sum_of Stuffed.stuffed Stuffed.frame_of Faults.mst_fault Faults.head_fault Spells.word_bytes Spells.word_at Spells.fields Words.control_of Words.status_of Codes.attribute_fault Attributes.attribute_of Blocks.element_of BuiltIns.built_in Rings.attribute_in Valid.is_cycle Stores.inserted Stores.with_own Stores.store_of Checks.number_at Checks.idns_at Checks.carried_len Checks.breaks_1 Checks.breaks_2 Checks.breaks_6 Checks.breaks_7 Checks.breaks_8 Checks.breaks_9 Checks.breaks_10 Checks.breaks_15 Checks.breaks_list Checks.breaks_89 Checks.unfit_for_phase_3 Checks.unfit_for_phase_4 Calls.with_check_list Replies.data_in Replies.element_words Replies.bytes_written Replies.write_cause ChainOf.chain_of LeastTimes.least_plan LeastTimes.least_t2 LeastTimes.least_t3 Heard.mst_in Heard.single_in Heard.joint_in Says.value_in
master_says_another = refl

-- An AT that isn't sent: it is missing at the end; while lines still come, it is told with the next MST or MDT.
missing_at_the_end : drive_differs drive 4 (cycles_of (m 11 1 ∷ addressed)) ≡ Some (record { cycle = 11; kind = telegram.At; expected = Some (sent_at 4 300 (content 0 0)); found = None })
unfolding Bits.bits_of Bits.low_bits Bits.is_odd Bits.number_of Bits.bytes_of CheckSequence.fcs_of CheckSequence.divided CheckSequence.added CheckSequence.sum_of Stuffed.stuffed Stuffed.frame_of Faults.mst_fault Faults.head_fault Spells.word_bytes Spells.word_at Spells.fields Words.control_of Words.status_of Codes.attribute_fault Attributes.attribute_of Blocks.element_of BuiltIns.built_in Rings.attribute_in Valid.is_cycle Stores.inserted Stores.with_own Stores.store_of Checks.number_at Checks.idns_at Checks.carried_len Checks.breaks_1 Checks.breaks_2 Checks.breaks_6 Checks.breaks_7 Checks.breaks_8 Checks.breaks_9 Checks.breaks_10 Checks.breaks_15 Checks.breaks_list Checks.breaks_89 Checks.unfit_for_phase_3 Checks.unfit_for_phase_4 Calls.with_check_list Replies.data_in Replies.element_words Replies.bytes_written Replies.write_cause ChainOf.chain_of LeastTimes.least_plan LeastTimes.least_t2 LeastTimes.least_t3 Heard.mst_in Heard.single_in Heard.joint_in Says.value_in
missing_at_the_end = refl

missing_not_yet : drive_tells drive 4 (cycles_of (m 11 1 ∷ addressed)) ≡ None
unfolding Bits.bits_of Bits.low_bits Bits.is_odd Bits.number_of Bits.bytes_of CheckSequence.fcs_of CheckSequence.divided CheckSequence.added CheckSequence.sum_of Stuffed.stuffed Stuffed.frame_of Faults.mst_fault Faults.head_fault Spells.word_bytes Spells.word_at Spells.fields Words.control_of Words.status_of Codes.attribute_fault Attributes.attribute_of Blocks.element_of BuiltIns.built_in Rings.attribute_in Valid.is_cycle Stores.inserted Stores.with_own Stores.store_of Checks.number_at Checks.idns_at Checks.carried_len Checks.breaks_1 Checks.breaks_2 Checks.breaks_6 Checks.breaks_7 Checks.breaks_8 Checks.breaks_9 Checks.breaks_10 Checks.breaks_15 Checks.breaks_list Checks.breaks_89 Checks.unfit_for_phase_3 Checks.unfit_for_phase_4 Calls.with_check_list Replies.data_in Replies.element_words Replies.bytes_written Replies.write_cause ChainOf.chain_of LeastTimes.least_plan LeastTimes.least_t2 LeastTimes.least_t3 Heard.mst_in Heard.single_in Heard.joint_in Says.value_in
missing_not_yet = refl

missing_with_the_next : drive_tells drive 4 (cycles_of (m 12 2 ∷ m 11 1 ∷ addressed)) ≡ Some (record { cycle = 11; kind = telegram.At; expected = Some (sent_at 4 300 (content 0 0)); found = None })
unfolding Bits.bits_of Bits.low_bits Bits.is_odd Bits.number_of Bits.bytes_of CheckSequence.fcs_of CheckSequence.divided CheckSequence.added CheckSequence.sum_of Stuffed.stuffed Stuffed.frame_of Faults.mst_fault Faults.head_fault Spells.word_bytes Spells.word_at Spells.fields Words.control_of Words.status_of Codes.attribute_fault Attributes.attribute_of Blocks.element_of BuiltIns.built_in Rings.attribute_in Valid.is_cycle Stores.inserted Stores.with_own Stores.store_of Checks.number_at Checks.idns_at Checks.carried_len Checks.breaks_1 Checks.breaks_2 Checks.breaks_6 Checks.breaks_7 Checks.breaks_8 Checks.breaks_9 Checks.breaks_10 Checks.breaks_15 Checks.breaks_list Checks.breaks_89 Checks.unfit_for_phase_3 Checks.unfit_for_phase_4 Calls.with_check_list Replies.data_in Replies.element_words Replies.bytes_written Replies.write_cause ChainOf.chain_of LeastTimes.least_plan LeastTimes.least_t2 LeastTimes.least_t3 Heard.mst_in Heard.single_in Heard.joint_in Says.value_in
missing_with_the_next = refl

-- in phase 0 no drive sends
too_many : drive_tells drive 4 (cycles_of (a 0 (content 0 0) ∷ m 0 0 ∷ [])) ≡ Some (record { cycle = 0; kind = telegram.At; expected = None; found = Some (sent_at 4 300 (content 0 0)) })
unfolding Bits.bits_of Bits.low_bits Bits.is_odd Bits.number_of Bits.bytes_of CheckSequence.fcs_of CheckSequence.divided CheckSequence.added CheckSequence.sum_of Stuffed.stuffed Stuffed.frame_of Faults.mst_fault Faults.head_fault Spells.word_bytes Spells.word_at Spells.fields Words.control_of Words.status_of Codes.attribute_fault Attributes.attribute_of Blocks.element_of BuiltIns.built_in Rings.attribute_in Valid.is_cycle Stores.inserted Stores.with_own Stores.store_of Checks.number_at Checks.idns_at Checks.carried_len Checks.breaks_1 Checks.breaks_2 Checks.breaks_6 Checks.breaks_7 Checks.breaks_8 Checks.breaks_9 Checks.breaks_10 Checks.breaks_15 Checks.breaks_list Checks.breaks_89 Checks.unfit_for_phase_3 Checks.unfit_for_phase_4 Calls.with_check_list Replies.data_in Replies.element_words Replies.bytes_written Replies.write_cause ChainOf.chain_of LeastTimes.least_plan LeastTimes.least_t2 LeastTimes.least_t3 Heard.mst_in Heard.single_in Heard.joint_in Says.value_in
too_many = refl

-- the start counts too
too_late : drive_tells drive 4 (cycles_of (line.Telegram 11 (sent_at 4 301 (content 0 0)) ∷ m 11 1 ∷ addressed)) ≡ Some (record { cycle = 11; kind = telegram.At; expected = Some (sent_at 4 300 (content 0 0)); found = Some (sent_at 4 301 (content 0 0)) })
unfolding Bits.bits_of Bits.low_bits Bits.is_odd Bits.number_of Bits.bytes_of CheckSequence.fcs_of CheckSequence.divided CheckSequence.added CheckSequence.sum_of Stuffed.stuffed Stuffed.frame_of Faults.mst_fault Faults.head_fault Spells.word_bytes Spells.word_at Spells.fields Words.control_of Words.status_of Codes.attribute_fault Attributes.attribute_of Blocks.element_of BuiltIns.built_in Rings.attribute_in Valid.is_cycle Stores.inserted Stores.with_own Stores.store_of Checks.number_at Checks.idns_at Checks.carried_len Checks.breaks_1 Checks.breaks_2 Checks.breaks_6 Checks.breaks_7 Checks.breaks_8 Checks.breaks_9 Checks.breaks_10 Checks.breaks_15 Checks.breaks_list Checks.breaks_89 Checks.unfit_for_phase_3 Checks.unfit_for_phase_4 Calls.with_check_list Replies.data_in Replies.element_words Replies.bytes_written Replies.write_cause ChainOf.chain_of LeastTimes.least_plan LeastTimes.least_t2 LeastTimes.least_t3 Heard.mst_in Heard.single_in Heard.joint_in Says.value_in
too_late = refl

-- an MST of another phase, and an MDT that isn't sent
another_phase : master_tells ring [] (cycles_of (m 1 1 ∷ m 0 0 ∷ [])) ≡ Some (record { cycle = 1; kind = telegram.Mst; expected = Some (sent_mst (255 ∷ 0 ∷ [])); found = Some (sent_mst (255 ∷ 1 ∷ [])) })
unfolding Bits.bits_of Bits.low_bits Bits.is_odd Bits.number_of Bits.bytes_of CheckSequence.fcs_of CheckSequence.divided CheckSequence.added CheckSequence.sum_of Stuffed.stuffed Stuffed.frame_of Faults.mst_fault Faults.head_fault Spells.word_bytes Spells.word_at Spells.fields Words.control_of Words.status_of Codes.attribute_fault Attributes.attribute_of Blocks.element_of BuiltIns.built_in Rings.attribute_in Valid.is_cycle Stores.inserted Stores.with_own Stores.store_of Checks.number_at Checks.idns_at Checks.carried_len Checks.breaks_1 Checks.breaks_2 Checks.breaks_6 Checks.breaks_7 Checks.breaks_8 Checks.breaks_9 Checks.breaks_10 Checks.breaks_15 Checks.breaks_list Checks.breaks_89 Checks.unfit_for_phase_3 Checks.unfit_for_phase_4 Calls.with_check_list Replies.data_in Replies.element_words Replies.bytes_written Replies.write_cause ChainOf.chain_of LeastTimes.least_plan LeastTimes.least_t2 LeastTimes.least_t3 Heard.mst_in Heard.single_in Heard.joint_in Says.value_in
another_phase = refl

no_mdt_yet : master_tells ring [] (cycles_of (m 10 1 ∷ closing 10)) ≡ None
unfolding Bits.bits_of Bits.low_bits Bits.is_odd Bits.number_of Bits.bytes_of CheckSequence.fcs_of CheckSequence.divided CheckSequence.added CheckSequence.sum_of Stuffed.stuffed Stuffed.frame_of Faults.mst_fault Faults.head_fault Spells.word_bytes Spells.word_at Spells.fields Words.control_of Words.status_of Codes.attribute_fault Attributes.attribute_of Blocks.element_of BuiltIns.built_in Rings.attribute_in Valid.is_cycle Stores.inserted Stores.with_own Stores.store_of Checks.number_at Checks.idns_at Checks.carried_len Checks.breaks_1 Checks.breaks_2 Checks.breaks_6 Checks.breaks_7 Checks.breaks_8 Checks.breaks_9 Checks.breaks_10 Checks.breaks_15 Checks.breaks_list Checks.breaks_89 Checks.unfit_for_phase_3 Checks.unfit_for_phase_4 Calls.with_check_list Replies.data_in Replies.element_words Replies.bytes_written Replies.write_cause ChainOf.chain_of LeastTimes.least_plan LeastTimes.least_t2 LeastTimes.least_t3 Heard.mst_in Heard.single_in Heard.joint_in Says.value_in
no_mdt_yet = refl

no_mdt : master_tells ring [] (cycles_of (m 11 1 ∷ m 10 1 ∷ closing 10)) ≡ Some (record { cycle = 10; kind = telegram.Mdt; expected = Some (telegram_at telegram.Mdt (content 0 0) (pos 2600)); found = None })
unfolding Bits.bits_of Bits.low_bits Bits.is_odd Bits.number_of Bits.bytes_of CheckSequence.fcs_of CheckSequence.divided CheckSequence.added CheckSequence.sum_of Stuffed.stuffed Stuffed.frame_of Faults.mst_fault Faults.head_fault Spells.word_bytes Spells.word_at Spells.fields Words.control_of Words.status_of Codes.attribute_fault Attributes.attribute_of Blocks.element_of BuiltIns.built_in Rings.attribute_in Valid.is_cycle Stores.inserted Stores.with_own Stores.store_of Checks.number_at Checks.idns_at Checks.carried_len Checks.breaks_1 Checks.breaks_2 Checks.breaks_6 Checks.breaks_7 Checks.breaks_8 Checks.breaks_9 Checks.breaks_10 Checks.breaks_15 Checks.breaks_list Checks.breaks_89 Checks.unfit_for_phase_3 Checks.unfit_for_phase_4 Calls.with_check_list Replies.data_in Replies.element_words Replies.bytes_written Replies.write_cause ChainOf.chain_of LeastTimes.least_plan LeastTimes.least_t2 LeastTimes.least_t3 Heard.mst_in Heard.single_in Heard.joint_in Says.value_in
no_mdt = refl
