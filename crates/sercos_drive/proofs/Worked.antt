-- A drive over worked cycles, computed from the definitions: its phase, what it says, what it writes. The ring has 4 Mbit/s and a
-- cycle of 250 microseconds; the drive has S-0-0051, which grows by 10 in each cycle, as feedback value and S-0-0047 as command
-- value. Each list of calls has its newest call first.
use Rattle.std.proofs.Common.{◌≡◌, ℕ, ◌+◌, ◌-◌, ◌/◌, ◌%◌, zero, suc, List, [], ◌∷◌, ◌++◌, false, true, Option, Some, None, refl, map}
use Rattle.std.specs.Prelude.{replicate}
use Rattle.std.specs.Int.{to_le_bytes, w32}
use Rattle.sercos_idn.specs.Attributes.{attribute_of}
use Rattle.sercos_block.specs.declared.block.Block.{Block}
use Rattle.sercos_block.specs.Blocks.{element_of}
use Rattle.sercos_block.specs.BuiltIns.{built_in}
use Rattle.sercos_timing.specs.Valid.{is_cycle}
use Rattle.sercos_block.specs.Stores.{inserted, with_own, store_of}
use Rattle.sercos_block.specs.Views.{DriveView}
use Rattle.sercos_command.specs.Checks.{number_at, idns_at, carried_len, data_at, breaks_1, breaks_2, breaks_6, breaks_7, breaks_8, breaks_9, breaks_10, breaks_15, breaks_list, breaks_89, unfit_for_phase_3, unfit_for_phase_4}
use Rattle.sercos_command.specs.Calls.{with_check_list}
use Rattle.sercos_service_drive.specs.Replies.{data_in, element_words, bytes_written, write_cause}
use Rattle.sercos_service_drive.specs.Writes.{Write}
use Rattle.sercos_telegram.specs.Faults.{head_fault, mst_fault}
use Rattle.sercos_telegram.specs.Spells.{word_bytes, word_at, fields}
use Rattle.sercos_telegram.specs.Words.{control_of}
use Rattle.sercos_drive.specs.Heard.{DriveCall, Mst, Mdt, Restart, mst_in, single_in, joint_in}
use Rattle.sercos_drive.specs.Moments.{Moment, AtMst, AtMdt, AtRestart}
use Rattle.sercos_drive.specs.Annals.{stands_in, annals, phase_at, store_at, writes_at}
use Rattle.sercos_drive.specs.Says.{Said, said_in, value_in, drive_says}

abbrev pub own : ℕ → List ℕ → ℕ → Block
own raw value step = record {
  idn = record { raw = raw };
  attribute = attribute_of 0x00220001;
  name = None;
  unit = None;
  min = None;
  max = None;
  value = value;
  max_len = 0;
  fixed = false;
  step = step;
  fails = false;
}

abbrev pub drive : DriveView
drive = record {
  address = 1;
  slave = 1;
  busy = 0;
  command = 0;
  times = record { t1min = 10; tatmt = 6; t4min = 20; tatat = 5; tmtsy = 10; tmtsg = 20 };
  cycle_min = 125;
  cycle_max = 64000;
  at = (record { raw = 51 }) ∷ [];
  mdt = (record { raw = 47 }) ∷ [];
  blocks = own 47 (0 ∷ 0 ∷ 0 ∷ 0 ∷ []) 0 ∷ own 51 (244 ∷ 251 ∷ 0 ∷ 0 ∷ []) 10 ∷ [];
}

-- What the master asks in a step: the control word without the handshake bit, and the information word.
record Asked : Type 0 where
  control : ℕ
  info : ℕ

abbrev ask : ℕ → ℕ → Asked
ask control info = record { control = control; info = info }

-- the opening of an identifier number, and the two words of its attribute
abbrev opens : ℕ → List Asked
opens raw = ask 14 raw ∷ ask 24 0 ∷ ask 28 0 ∷ []

abbrev reads : ℕ → List Asked
reads raw = opens raw ++ ask 60 0 ∷ []

abbrev writes : ℕ → ℕ → List Asked
writes raw value = opens raw ++ ask 62 value ∷ []

-- a list of one identifier number: its two bytes, the greatest length as 0, the number
abbrev lists : ℕ → ℕ → List Asked
lists raw item = opens raw ++ ask 58 2 ∷ ask 58 0 ∷ ask 62 item ∷ []

abbrev commands : ℕ → List Asked
commands raw = ask 14 raw ∷ ask 62 3 ∷ ask 12 0 ∷ ask 62 0 ∷ []

-- the jobs of phase 2: six times, two attributes, the plan and the lists, and check 127
abbrev agenda : List Asked
agenda =
    reads 3 ++ reads 4 ++ reads 5 ++ reads 87 ++ reads 88 ++ reads 90 ++ opens 51 ++ opens 47
    ++ writes 1 250 ++ writes 2 250 ++ writes 6 10 ++ writes 7 230 ++ writes 8 98 ++ writes 9 1 ++ writes 10 8 ++ writes 15 7
    ++ lists 16 51 ++ lists 24 47 ++ writes 89 47 ++ commands 127

-- a cycle with its MST and what arrives at the MDT's place
abbrev in_cycle : ℕ → ℕ → Option (List ℕ) → List DriveCall → List DriveCall
in_cycle cycle phase mdt h = Mdt mdt ∷ Mst cycle (Some (255 ∷ phase ∷ [])) ∷ h

abbrev low_high : ℕ → List ℕ
low_high word = word % 256 ∷ word / 256 ∷ []

-- an MDT to the drive alone, and one to all drives with the number of the cycle as command value
abbrev single : ℕ → Asked → List ℕ
single mhs a = 1 ∷ low_high (a.control + mhs) ++ low_high a.info

abbrev joint : ℕ → ℕ → Asked → List ℕ
joint cycle mhs a = 255 ∷ low_high (a.control + mhs) ++ low_high a.info ++ to_le_bytes w32 cycle

-- steps from a cycle on, one in each cycle, the first with this handshake bit
abbrev asked_2 : ℕ → ℕ → List Asked → List DriveCall → List DriveCall
asked_2 cycle mhs [] h = h
asked_2 cycle mhs (a ∷ asked) h = asked_2 (cycle + 1) (1 - mhs) asked (in_cycle cycle 2 (Some (single mhs a)) h)

abbrev asked_in : ℕ → ℕ → ℕ → List Asked → List DriveCall → List DriveCall
asked_in phase cycle mhs [] h = h
asked_in phase cycle mhs (a ∷ asked) h = asked_in phase (cycle + 1) (1 - mhs) asked (in_cycle cycle phase (Some (joint cycle mhs a)) h)

-- cycles without a new step, and with no MDT
abbrev idle : ℕ → ℕ → ℕ → ℕ → List DriveCall → List DriveCall
idle phase mhs zero cycle h = h
idle phase mhs (suc n) cycle h = idle phase mhs n (cycle + 1) (in_cycle cycle phase (Some (joint cycle mhs (ask 0 0))) h)

abbrev quiet : ℕ → ℕ → ℕ → List DriveCall → List DriveCall
quiet phase zero cycle h = h
quiet phase (suc n) cycle h = quiet phase n (cycle + 1) (in_cycle cycle phase None h)

-- The start: phase 0 in ten cycles, phase 1 in 10 and 11 with the identification, the agenda of phase 2 in 12 to 93; then no
-- MDT, as the last answer is there. Phase 3 from 95 on with check 128, phase 4 from 100 on.
abbrev addressed : List DriveCall
addressed = in_cycle 11 1 None (in_cycle 10 1 (Some (1 ∷ 0 ∷ 0 ∷ 0 ∷ 0 ∷ [])) (quiet 0 10 0 []))

abbrev configured : List DriveCall
configured = in_cycle 94 2 None (asked_2 12 1 agenda addressed)

abbrev checked : List DriveCall
checked = idle 3 0 1 99 (asked_in 3 95 1 (commands 128) configured)

-- a read of S-0-0051, and a cycle without a new step
abbrev running : List DriveCall
running = idle 4 1 1 105 (asked_in 4 100 1 (opens 51 ++ ask 56 0 ∷ ask 60 0 ∷ []) checked)

-- two writes of S-0-0047: of 1, and of 2
abbrev written : List DriveCall
written = asked_in 4 100 1 (opens 47 ++ ask 58 1 ∷ ask 62 0 ∷ opens 47 ++ ask 58 2 ∷ ask 62 0 ∷ []) checked

-- in which phase the drive stands in each cycle, the newest first
abbrev all_phases : List Moment → List ℕ
all_phases [] = []
all_phases (AtMst cycle got phase ∷ past) = phase ∷ all_phases past
all_phases (AtMdt took processed phase ∷ past) = all_phases past
all_phases (AtRestart ∷ past) = all_phases past

-- the information words of all ATs, the oldest first
abbrev word_of : Option Said → List ℕ → List ℕ
word_of None words = words
word_of (Some s) words = word_at s.content 3 ∷ words

abbrev words_said : List Moment → List ℕ → List ℕ
words_said [] words = words
words_said (AtMst cycle got phase ∷ past) words = words_said past (word_of (said_in drive 4 (AtMst cycle got phase ∷ past)) words)
words_said (AtMdt took processed phase ∷ past) words = words_said past words
words_said (AtRestart ∷ past) words = words_said past words

-- ten cycles of phase 0, two of phase 1, 83 of phase 2, five of phase 3, and phase 4 from cycle 100 on
phases : all_phases (annals drive 4 running) ≡ replicate 6 4 ++ replicate 5 3 ++ replicate 83 2 ++ replicate 2 1 ++ replicate 10 0
unfolding element_of built_in is_cycle inserted with_own store_of number_at idns_at carried_len breaks_1 breaks_2 breaks_6 breaks_7 breaks_8 breaks_9 breaks_10 breaks_15 breaks_list breaks_89 unfit_for_phase_3 unfit_for_phase_4 with_check_list data_in element_words bytes_written write_cause head_fault mst_fault word_bytes word_at fields control_of attribute_of mst_in single_in joint_in value_in
phases = refl

-- addressed in cycle 10, the drive sends in 11; the opening of cycle 12 is answered in 13; in 10 and 12 it sends nothing
silent_in_10 : drive_says drive 4 (Mst 10 (Some (255 ∷ 1 ∷ [])) ∷ quiet 0 10 0 []) ≡ None
unfolding element_of built_in is_cycle inserted with_own store_of number_at idns_at carried_len breaks_1 breaks_2 breaks_6 breaks_7 breaks_8 breaks_9 breaks_10 breaks_15 breaks_list breaks_89 unfit_for_phase_3 unfit_for_phase_4 with_check_list data_in element_words bytes_written write_cause head_fault mst_fault word_bytes word_at fields control_of attribute_of mst_in single_in joint_in value_in
silent_in_10 = refl

says_in_11 : drive_says drive 4 (Mst 11 (Some (255 ∷ 1 ∷ [])) ∷ in_cycle 10 1 (Some (1 ∷ 0 ∷ 0 ∷ 0 ∷ 0 ∷ [])) (quiet 0 10 0 [])) ≡ Some (record { start = 300; content = 1 ∷ 0 ∷ 0 ∷ 0 ∷ 0 ∷ [] })
unfolding element_of built_in is_cycle inserted with_own store_of number_at idns_at carried_len breaks_1 breaks_2 breaks_6 breaks_7 breaks_8 breaks_9 breaks_10 breaks_15 breaks_list breaks_89 unfit_for_phase_3 unfit_for_phase_4 with_check_list data_in element_words bytes_written write_cause head_fault mst_fault word_bytes word_at fields control_of attribute_of mst_in single_in joint_in value_in
says_in_11 = refl

silent_in_12 : drive_says drive 4 (Mst 12 (Some (255 ∷ 2 ∷ [])) ∷ addressed) ≡ None
unfolding element_of built_in is_cycle inserted with_own store_of number_at idns_at carried_len breaks_1 breaks_2 breaks_6 breaks_7 breaks_8 breaks_9 breaks_10 breaks_15 breaks_list breaks_89 unfit_for_phase_3 unfit_for_phase_4 with_check_list data_in element_words bytes_written write_cause head_fault mst_fault word_bytes word_at fields control_of attribute_of mst_in single_in joint_in value_in
silent_in_12 = refl

says_in_13 : drive_says drive 4 (Mst 13 (Some (255 ∷ 2 ∷ [])) ∷ in_cycle 12 2 (Some (1 ∷ 15 ∷ 0 ∷ 3 ∷ 0 ∷ [])) addressed) ≡ Some (record { start = 300; content = 1 ∷ 1 ∷ 0 ∷ 0 ∷ 0 ∷ [] })
unfolding element_of built_in is_cycle inserted with_own store_of number_at idns_at carried_len breaks_1 breaks_2 breaks_6 breaks_7 breaks_8 breaks_9 breaks_10 breaks_15 breaks_list breaks_89 unfit_for_phase_3 unfit_for_phase_4 with_check_list data_in element_words bytes_written write_cause head_fault mst_fault word_bytes word_at fields control_of attribute_of mst_in single_in joint_in value_in
says_in_13 = refl

-- the replies to a read and a write of a number of two bytes, and to a write of a list
abbrev read_back : ℕ → List ℕ
read_back value = 0 ∷ 1 ∷ 0x7011 ∷ value ∷ []

abbrev taken_up : List ℕ
taken_up = 0 ∷ 1 ∷ 0x6011 ∷ 0 ∷ []

abbrev listed : List ℕ
listed = 0 ∷ 1 ∷ 0x6055 ∷ 0 ∷ 0 ∷ 0 ∷ []

-- the replies up to cycle 94: to the identification, to the agenda job by job, and at the end the status of check 127
words_of_start : words_said (annals drive 4 configured) [] ≡
    0 ∷ read_back 10 ++ read_back 6 ++ read_back 20 ++ read_back 5 ++ read_back 10 ++ read_back 20
    ++ (0 ∷ 1 ∷ 0x22 ∷ 0 ∷ 1 ∷ 0x22 ∷ [])
    ++ taken_up ++ taken_up ++ taken_up ++ taken_up ++ taken_up ++ taken_up ++ taken_up ++ taken_up
    ++ listed ++ listed ++ taken_up ++ (0 ∷ 0 ∷ 3 ∷ 0 ∷ [])
unfolding element_of built_in is_cycle inserted with_own store_of number_at idns_at carried_len breaks_1 breaks_2 breaks_6 breaks_7 breaks_8 breaks_9 breaks_10 breaks_15 breaks_list breaks_89 unfit_for_phase_3 unfit_for_phase_4 with_check_list data_in element_words bytes_written write_cause head_fault mst_fault word_bytes word_at fields control_of attribute_of mst_in single_in joint_in value_in
words_of_start = refl

-- The data of S-0-0051 is selected in cycle 103, and both words are of that cycle, 65530; the feedback values are of their own
-- cycle: 65540 in 104, 65550 in 105.
says_in_104 : drive_says drive 4 (Mst 104 (Some (255 ∷ 4 ∷ [])) ∷ asked_in 4 100 1 (opens 51 ++ ask 56 0 ∷ []) checked) ≡ Some (record { start = 10; content = 1 ∷ 0 ∷ 0 ∷ 0xfa ∷ 0xff ∷ 4 ∷ 0 ∷ 1 ∷ 0 ∷ [] })
unfolding element_of built_in is_cycle inserted with_own store_of number_at idns_at carried_len breaks_1 breaks_2 breaks_6 breaks_7 breaks_8 breaks_9 breaks_10 breaks_15 breaks_list breaks_89 unfit_for_phase_3 unfit_for_phase_4 with_check_list data_in element_words bytes_written write_cause head_fault mst_fault word_bytes word_at fields control_of attribute_of mst_in single_in joint_in value_in
says_in_104 = refl

says_in_105 : drive_says drive 4 (Mst 105 (Some (255 ∷ 4 ∷ [])) ∷ asked_in 4 100 1 (opens 51 ++ ask 56 0 ∷ ask 60 0 ∷ []) checked) ≡ Some (record { start = 10; content = 1 ∷ 1 ∷ 0 ∷ 0 ∷ 0 ∷ 14 ∷ 0 ∷ 1 ∷ 0 ∷ [] })
unfolding element_of built_in is_cycle inserted with_own store_of number_at idns_at carried_len breaks_1 breaks_2 breaks_6 breaks_7 breaks_8 breaks_9 breaks_10 breaks_15 breaks_list breaks_89 unfit_for_phase_3 unfit_for_phase_4 with_check_list data_in element_words bytes_written write_cause head_fault mst_fault word_bytes word_at fields control_of attribute_of mst_in single_in joint_in value_in
says_in_105 = refl

-- the phases to which the drive goes at an MST of each phase from 0 to 4
abbrev moves : ℕ → List Moment → List ℕ
moves cycle past = map (λ phase. stands_in drive 4 cycle (Some phase) past) (0 ∷ 1 ∷ 2 ∷ 3 ∷ 4 ∷ [])

-- from each phase from 0 to 4, where no check is passed
moves_unchecked : map (λ phase. moves 8 (AtMst 7 true phase ∷ [])) (0 ∷ 1 ∷ 2 ∷ 3 ∷ 4 ∷ []) ≡
    (0 ∷ 1 ∷ 0 ∷ 0 ∷ 0 ∷ []) ∷ (0 ∷ 1 ∷ 2 ∷ 0 ∷ 0 ∷ []) ∷ (0 ∷ 0 ∷ 2 ∷ 0 ∷ 0 ∷ []) ∷ (0 ∷ 0 ∷ 0 ∷ 3 ∷ 0 ∷ []) ∷ (0 ∷ 0 ∷ 0 ∷ 0 ∷ 4 ∷ []) ∷ []
unfolding element_of built_in is_cycle inserted with_own store_of number_at idns_at carried_len breaks_1 breaks_2 breaks_6 breaks_7 breaks_8 breaks_9 breaks_10 breaks_15 breaks_list breaks_89 unfit_for_phase_3 unfit_for_phase_4 with_check_list data_in element_words bytes_written write_cause head_fault mst_fault word_bytes word_at fields control_of attribute_of mst_in single_in joint_in value_in
moves_unchecked = refl

-- from phase 2 with check 127 passed, and from phase 3 with check 128 passed
moves_from_2 : moves 95 (annals drive 4 configured) ≡ 0 ∷ 0 ∷ 2 ∷ 3 ∷ 0 ∷ []
unfolding element_of built_in is_cycle inserted with_own store_of number_at idns_at carried_len breaks_1 breaks_2 breaks_6 breaks_7 breaks_8 breaks_9 breaks_10 breaks_15 breaks_list breaks_89 unfit_for_phase_3 unfit_for_phase_4 with_check_list data_in element_words bytes_written write_cause head_fault mst_fault word_bytes word_at fields control_of attribute_of mst_in single_in joint_in value_in
moves_from_2 = refl

moves_from_3 : moves 100 (annals drive 4 checked) ≡ 0 ∷ 0 ∷ 0 ∷ 3 ∷ 4 ∷ []
unfolding element_of built_in is_cycle inserted with_own store_of number_at idns_at carried_len breaks_1 breaks_2 breaks_6 breaks_7 breaks_8 breaks_9 breaks_10 breaks_15 breaks_list breaks_89 unfit_for_phase_3 unfit_for_phase_4 with_check_list data_in element_words bytes_written write_cause head_fault mst_fault word_bytes word_at fields control_of attribute_of mst_in single_in joint_in value_in
moves_from_3 = refl

-- without an MST in 122 and 123 the drive still stands in phase 4 in 122, and in 0 in 123, before the MDT's place
misses_one : phase_at drive 4 (Mst 122 None ∷ idle 4 0 22 100 checked) ≡ 4
unfolding element_of built_in is_cycle inserted with_own store_of number_at idns_at carried_len breaks_1 breaks_2 breaks_6 breaks_7 breaks_8 breaks_9 breaks_10 breaks_15 breaks_list breaks_89 unfit_for_phase_3 unfit_for_phase_4 with_check_list data_in element_words bytes_written write_cause head_fault mst_fault word_bytes word_at fields control_of attribute_of mst_in single_in joint_in value_in
misses_one = refl

misses_two : phase_at drive 4 (Mst 123 None ∷ Mdt None ∷ Mst 122 None ∷ idle 4 0 22 100 checked) ≡ 0
unfolding element_of built_in is_cycle inserted with_own store_of number_at idns_at carried_len breaks_1 breaks_2 breaks_6 breaks_7 breaks_8 breaks_9 breaks_10 breaks_15 breaks_list breaks_89 unfit_for_phase_3 unfit_for_phase_4 with_check_list data_in element_words bytes_written write_cause head_fault mst_fault word_bytes word_at fields control_of attribute_of mst_in single_in joint_in value_in
misses_two = refl

-- without an MDT in 100 it stays in phase 4, and without one in 101 too it ends that cycle in 0
lacks_one : phase_at drive 4 (quiet 4 1 100 checked) ≡ 4
unfolding element_of built_in is_cycle inserted with_own store_of number_at idns_at carried_len breaks_1 breaks_2 breaks_6 breaks_7 breaks_8 breaks_9 breaks_10 breaks_15 breaks_list breaks_89 unfit_for_phase_3 unfit_for_phase_4 with_check_list data_in element_words bytes_written write_cause head_fault mst_fault word_bytes word_at fields control_of attribute_of mst_in single_in joint_in value_in
lacks_one = refl

lacks_two : phase_at drive 4 (quiet 4 2 100 checked) ≡ 0
unfolding element_of built_in is_cycle inserted with_own store_of number_at idns_at carried_len breaks_1 breaks_2 breaks_6 breaks_7 breaks_8 breaks_9 breaks_10 breaks_15 breaks_list breaks_89 unfit_for_phase_3 unfit_for_phase_4 with_check_list data_in element_words bytes_written write_cause head_fault mst_fault word_bytes word_at fields control_of attribute_of mst_in single_in joint_in value_in
lacks_two = refl

-- A write of S-0-0024 is opened in phase 2, and its first word is accepted; the next word comes in phase 3, in an MDT to all
-- drives. It is refused with 0x7005, and the list stays.
refused_in_98 : drive_says drive 4 (Mst 98 (Some (255 ∷ 3 ∷ [])) ∷ asked_in 3 97 1 (ask 58 0 ∷ []) (asked_2 95 1 (ask 14 24 ∷ ask 58 2 ∷ []) configured)) ≡
    Some (record { start = 10; content = 1 ∷ 5 ∷ 0 ∷ 0x05 ∷ 0x70 ∷ 200 ∷ 255 ∷ 0 ∷ 0 ∷ [] })
unfolding element_of built_in is_cycle inserted with_own store_of number_at idns_at carried_len breaks_1 breaks_2 breaks_6 breaks_7 breaks_8 breaks_9 breaks_10 breaks_15 breaks_list breaks_89 unfit_for_phase_3 unfit_for_phase_4 with_check_list data_in element_words bytes_written write_cause head_fault mst_fault word_bytes word_at fields control_of attribute_of mst_in single_in joint_in value_in
refused_in_98 = refl

list_stays : data_at (store_at drive 4 (asked_in 3 97 1 (ask 58 0 ∷ []) (asked_2 95 1 (ask 14 24 ∷ ask 58 2 ∷ []) configured))) 24 ≡ 47 ∷ 0 ∷ []
unfolding element_of built_in is_cycle inserted with_own store_of number_at idns_at carried_len breaks_1 breaks_2 breaks_6 breaks_7 breaks_8 breaks_9 breaks_10 breaks_15 breaks_list breaks_89 unfit_for_phase_3 unfit_for_phase_4 with_check_list data_in element_words bytes_written write_cause head_fault mst_fault word_bytes word_at fields control_of attribute_of mst_in single_in joint_in value_in
list_stays = refl

-- The writes: the plan, the settings and cancels of the two checks, and the two of S-0-0047. After a restart the drive is in
-- phase 0 and sends nothing, and the writes and the data blocks stay.
all_writes : map (λ (w : Write). w.raw) (writes_at drive 4 written) ≡ 47 ∷ 47 ∷ 128 ∷ 128 ∷ 127 ∷ 127 ∷ 89 ∷ 24 ∷ 16 ∷ 15 ∷ 10 ∷ 9 ∷ 8 ∷ 7 ∷ 6 ∷ 2 ∷ 1 ∷ []
unfolding element_of built_in is_cycle inserted with_own store_of number_at idns_at carried_len breaks_1 breaks_2 breaks_6 breaks_7 breaks_8 breaks_9 breaks_10 breaks_15 breaks_list breaks_89 unfit_for_phase_3 unfit_for_phase_4 with_check_list data_in element_words bytes_written write_cause head_fault mst_fault word_bytes word_at fields control_of attribute_of mst_in single_in joint_in value_in
all_writes = refl

restarted : phase_at drive 4 (Restart ∷ written) ≡ 0
unfolding element_of built_in is_cycle inserted with_own store_of number_at idns_at carried_len breaks_1 breaks_2 breaks_6 breaks_7 breaks_8 breaks_9 breaks_10 breaks_15 breaks_list breaks_89 unfit_for_phase_3 unfit_for_phase_4 with_check_list data_in element_words bytes_written write_cause head_fault mst_fault word_bytes word_at fields control_of attribute_of mst_in single_in joint_in value_in
restarted = refl

silent_after_restart : drive_says drive 4 (Mst 110 (Some (255 ∷ 4 ∷ [])) ∷ Restart ∷ written) ≡ None
unfolding element_of built_in is_cycle inserted with_own store_of number_at idns_at carried_len breaks_1 breaks_2 breaks_6 breaks_7 breaks_8 breaks_9 breaks_10 breaks_15 breaks_list breaks_89 unfit_for_phase_3 unfit_for_phase_4 with_check_list data_in element_words bytes_written write_cause head_fault mst_fault word_bytes word_at fields control_of attribute_of mst_in single_in joint_in value_in
silent_after_restart = refl

writes_stay : map (λ (w : Write). w.bytes) (writes_at drive 4 (Restart ∷ written)) ≡ (2 ∷ 0 ∷ 0 ∷ 0 ∷ []) ∷ (1 ∷ 0 ∷ 0 ∷ 0 ∷ []) ∷ map (λ (w : Write). w.bytes) (writes_at drive 4 checked)
unfolding element_of built_in is_cycle inserted with_own store_of number_at idns_at carried_len breaks_1 breaks_2 breaks_6 breaks_7 breaks_8 breaks_9 breaks_10 breaks_15 breaks_list breaks_89 unfit_for_phase_3 unfit_for_phase_4 with_check_list data_in element_words bytes_written write_cause head_fault mst_fault word_bytes word_at fields control_of attribute_of mst_in single_in joint_in value_in
writes_stay = refl

data_stays : data_at (store_at drive 4 (Restart ∷ written)) 47 ≡ 2 ∷ 0 ∷ 0 ∷ 0 ∷ []
unfolding element_of built_in is_cycle inserted with_own store_of number_at idns_at carried_len breaks_1 breaks_2 breaks_6 breaks_7 breaks_8 breaks_9 breaks_10 breaks_15 breaks_list breaks_89 unfit_for_phase_3 unfit_for_phase_4 with_check_list data_in element_words bytes_written write_cause head_fault mst_fault word_bytes word_at fields control_of attribute_of mst_in single_in joint_in value_in
data_stays = refl
