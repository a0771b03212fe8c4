-- Worked examples, computed from the definitions: a drive with the blocks S-0-0047 and S-0-0051, in a ring of 4 Mbit/s.
use Rattle.std.proofs.Common.{◌≡◌, ℕ, true, false, Bool, List, [], ◌∷◌, map, Option, Some, None, refl}
use Rattle.sercos_idn.specs.declared.idn.Idn.{Idn}
use Rattle.sercos_idn.specs.Attributes.{attribute_of}
use Rattle.sercos_block.specs.declared.block.Block.{Block}
use Rattle.sercos_block.specs.Views.{DriveView}
use Rattle.sercos_block.specs.BuiltIns.{built_in}
use Rattle.sercos_timing.specs.Valid.{is_cycle}
use Rattle.sercos_block.specs.Stores.{inserted, with_own, store_of, with_data}
use Rattle.sercos_command.specs.Checks.{number_at, idns_at, carried_len, breaks_1, breaks_2, breaks_6, breaks_7, breaks_8, breaks_9, breaks_10, breaks_15, breaks_list, breaks_89, unfit_for_phase_3, unfit_for_phase_4, list_bytes}
use Rattle.sercos_command.specs.Calls.{CommandCall, Wrote, Other, Reset, CommandHistory, setting_of, status_in, change_in, with_check_list, is_passed}

abbrev idn : ℕ → Idn
idn raw = record { raw = raw }

abbrev block : ℕ → ℕ → Option ℕ → Option ℕ → List ℕ → Block
block raw attribute min max value = record {
  idn = idn raw;
  attribute = attribute_of attribute;
  name = None;
  unit = None;
  min = min;
  max = max;
  value = value;
  max_len = 0;
  fixed = false;
  step = 0;
  fails = false;
}

abbrev drive : DriveView
drive = record {
  address = 1;
  slave = 1;
  busy = 0;
  command = 5;
  times = record { t1min = 10; tatmt = 6; t4min = 20; tatat = 5; tmtsy = 10; tmtsg = 20 };
  cycle_min = 125;
  cycle_max = 64000;
  at = idn 51 ∷ [];
  mdt = idn 47 ∷ [];
  blocks = block 47 0x00220001 None None (0 ∷ 0 ∷ 0 ∷ 0 ∷ []) ∷ block 51 0x00220001 None None (0 ∷ 0 ∷ 0 ∷ 0 ∷ []) ∷ [];
}

-- the drive's store with all that the master writes before it sets the check for phase 3, for a T1 and a list of the AT
abbrev planned : ℕ → List ℕ → List Block
planned t1 at =
    with_data 1 (250 ∷ 0 ∷ [])
    (with_data 2 (250 ∷ 0 ∷ [])
    (with_data 6 (t1 ∷ 0 ∷ [])
    (with_data 7 (230 ∷ 0 ∷ [])
    (with_data 8 (98 ∷ 0 ∷ [])
    (with_data 9 (1 ∷ 0 ∷ [])
    (with_data 10 (8 ∷ 0 ∷ [])
    (with_data 15 (7 ∷ 0 ∷ [])
    (with_data 16 at
    (with_data 24 (47 ∷ 0 ∷ [])
    (with_data 89 (47 ∷ 0 ∷ []) (store_of drive)))))))))))

abbrev unfit : ℕ → List ℕ → List Idn
unfit t1 at = unfit_for_phase_3 4 (planned t1 at)

-- With a T1 of 10 all is fit. With 9 the drive can't send at T1; with 11 its AT ends one bit time too late for T2.
by_t1 : map (λ t1. unfit t1 (51 ∷ 0 ∷ [])) (9 ∷ 10 ∷ 11 ∷ []) ≡ (idn 6 ∷ []) ∷ [] ∷ (idn 89 ∷ []) ∷ []
unfolding store_of with_own inserted built_in attribute_of is_cycle number_at idns_at carried_len breaks_1 breaks_2 breaks_6 breaks_7 breaks_8 breaks_9 breaks_10 breaks_15 breaks_list breaks_89 unfit_for_phase_3
by_t1 = refl

-- a list can't stand in a telegram
list_in_telegram : unfit 10 (16 ∷ 0 ∷ []) ≡ idn 16 ∷ []
unfolding store_of with_own inserted built_in attribute_of is_cycle number_at idns_at carried_len breaks_1 breaks_2 breaks_6 breaks_7 breaks_8 breaks_9 breaks_10 breaks_15 breaks_list breaks_89 unfit_for_phase_3
list_in_telegram = refl

-- at its opening hardly any operation data of a drive is fit for phase 3
opened : unfit_for_phase_3 4 (store_of drive) ≡ idn 1 ∷ idn 2 ∷ idn 6 ∷ idn 7 ∷ idn 8 ∷ idn 9 ∷ idn 10 ∷ idn 15 ∷ idn 89 ∷ []
unfolding store_of with_own inserted built_in attribute_of is_cycle number_at idns_at carried_len breaks_1 breaks_2 breaks_6 breaks_7 breaks_8 breaks_9 breaks_10 breaks_15 breaks_list breaks_89 unfit_for_phase_3
opened = refl

-- a number above its maximum, one at its minimum, and a negative one below its minimum of -10
outside : unfit_for_phase_4 (block 101 0x00110001 (Some 10) (Some 100) (200 ∷ 0 ∷ []) ∷ block 102 0x00110001 (Some 10) (Some 100) (10 ∷ 0 ∷ [])
    ∷ block 103 0x00210001 (Some 0xfff6) (Some 100) (0xf5 ∷ 0xff ∷ []) ∷ []) ≡ idn 101 ∷ idn 103 ∷ []
unfolding attribute_of unfit_for_phase_4
outside = refl

-- what the check for phase 4 writes
abbrev three : List Idn → List Block
three found = block 22 0x70550001 None None (list_bytes found) ∷ block 101 0x00110001 (Some 10) (Some 100) (200 ∷ 0 ∷ []) ∷ block 128 0x50090001 None None (0 ∷ 0 ∷ []) ∷ []

-- the commands of a drive of which each runs for five cycles
abbrev after : List CommandCall → CommandHistory
after calls = record { rate = 4; time = 5; calls = calls }

listed : with_check_list (after []) 128 3 (three []) ≡ three (idn 101 ∷ [])
unfolding with_check_list unfit_for_phase_4 attribute_of
listed = refl

-- a command that runs for five cycles is set in cycle 109, again in cycle 112, and cancelled in cycle 116
abbrev set : List CommandCall
set = Wrote 401 3 112 [] ∷ Wrote 401 3 109 [] ∷ []

abbrev cancelled : List CommandCall
cancelled = Wrote 401 0 116 [] ∷ set

runs : status_in (after set) 401 113 ≡ 7
runs = refl

ends : status_in (after set) 401 114 ≡ 3
ends = refl

stands : change_in (after set) 113 ≡ false
stands = refl

changes : change_in (after set) 114 ≡ true
changes = refl

cancels : change_in (after cancelled) 116 ≡ false
cancels = refl

unset : status_in (after cancelled) 401 116 ≡ 0
unset = refl

-- set in cycle 118 and again in cycle 120 after that, it has been set since cycle 118
set_anew : setting_of 4 401 (Wrote 401 3 120 [] ∷ Wrote 401 3 118 [] ∷ cancelled) ≡ Some
    (record { idn = idn 401; cycle = 118; well = true })
set_anew = refl

set_no_more : setting_of 4 401 (Reset ∷ set) ≡ None
set_no_more = refl

-- the check for phase 3 is set in cycle 95, and cancelled in a later one
abbrev checked : ℕ → List CommandCall
checked cycle = Wrote 127 0 cycle [] ∷ Wrote 127 3 95 (planned 10 (51 ∷ 0 ∷ [])) ∷ []

abbrev is_checked : List CommandCall → ℕ → Bool
is_checked h cycle = is_passed 4 5 127 h cycle

passes : map (λ cycle. is_checked (checked 100) cycle) (98 ∷ 99 ∷ 100 ∷ []) ≡ false ∷ false ∷ true ∷ []
unfolding store_of with_own inserted built_in attribute_of is_cycle number_at idns_at carried_len breaks_1 breaks_2 breaks_6 breaks_7 breaks_8 breaks_9 breaks_10 breaks_15 breaks_list breaks_89 unfit_for_phase_3
passes = refl

-- .. before its end
undone : is_checked (checked 99) 100 ≡ false
unfolding store_of with_own inserted built_in attribute_of is_cycle number_at idns_at carried_len breaks_1 breaks_2 breaks_6 breaks_7 breaks_8 breaks_9 breaks_10 breaks_15 breaks_list breaks_89 unfit_for_phase_3
undone = refl

-- other operation data is written, or phase 0 entered
overwritten : is_checked (Other 101 ∷ checked 100) 101 ≡ false
overwritten = refl

restarted : is_checked (Reset ∷ checked 100) 101 ≡ false
restarted = refl

-- a check that finds something ends with an error, and doesn't pass
abbrev failed : List CommandCall
failed = Wrote 127 3 95 (planned 9 (51 ∷ 0 ∷ [])) ∷ []

ends_badly : (status_in (after failed) 127 100 ≡ 15) × (is_checked failed 100 ≡ false)
unfolding store_of with_own inserted built_in attribute_of is_cycle number_at idns_at carried_len breaks_1 breaks_2 breaks_6 breaks_7 breaks_8 breaks_9 breaks_10 breaks_15 breaks_list breaks_89 unfit_for_phase_3
ends_badly = (refl, refl)
