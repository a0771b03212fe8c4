-- What the calls on a drive's procedure commands come to.
use Rattle.std.proofs.Common.{◌≡◌, ℕ, ◌+◌, ◌≤◌, ◌==◌, nat_le, Bool, true, false, cond, ◌&&◌, ◌||◌, not, List, [], ◌∷◌, min, Option, Some, None, is_none, refl, sym, ◌∙◌, arith}
use Rattle.std.specs.List.{list_all}
use Rattle.std.proofs.lemmas.Bool.Decides.{nat_tests}
use Rattle.sercos_block.specs.declared.block.Block.{Block}
use Rattle.sercos_block.specs.Stores.{with_data}
use Rattle.sercos_command.specs.declared.commands.SetCommand.{SetCommand}
use Rattle.sercos_command.specs.Checks.{unfit_for_phase_3, unfit_for_phase_4, list_bytes}
use Rattle.sercos_command.specs.Settings.{is_command, ends_well}
use Rattle.sercos_command.specs.Calls.{CommandCall, Wrote, Other, Reset, CommandHistory, with_call, is_passed, status_in, change_in, with_check_list}
use Rattle.sercos_command.specs.Kept.{newest_cycle, AreInOrder, CommandsView, find_set, without, with_set, status_kept, change_kept, is_from, from_setting, from_cancel, with_write, without_checks, without_settings, with_check_list_kept, are_commands_of, settings, first_passed, passed_so_far, first_passed_in, CommandsStandFor}
use Rattle.sercos_command.proofs.SetLemmas.{commands-with_data, all_without, all_with_set}
use Rattle.sercos_command.proofs.History.{find-settings, is_none-settings, change-settings, is_passed-kept}

pub from_cancel_is : (first : Option ℕ) (at cycle : ℕ) → cycle ≤ at → is_from (from_cancel cycle first) at ≡ is_from first (min at cycle)
from_cancel_is None at cycle late = refl
from_cancel_is (Some first) at cycle late = by (nat_le first cycle) refl
  where
    by : (ended : Bool) → nat_le first cycle ≡ ended → is_from (cond ended (Some first) None) at ≡ nat_le first (min at cycle)
    by true e = grind (arith, nat_tests)
    by false e = grind (arith, nat_tests)

or_false : (b : Bool) → b ≡ (b || false)
or_false true = refl
or_false false = refl

pub from_setting_is : (first : Option ℕ) (at end : ℕ) → is_from (from_setting end first) at ≡ (nat_le end at || is_from first at)
from_setting_is None at end = or_false (nat_le end at)
from_setting_is (Some first) at end = grind (arith, nat_tests)

-- a write to a command, by whether it is this check, whether it is a cancel, whether the check was not set, and whether it ends well
pub by_write : (same cancels new well : Bool) (at cycle time : ℕ) (first : Option ℕ) (now before : Bool) → cycle ≤ at → is_from first at
    ≡ now → is_from first (min at cycle) ≡ before
    → is_from (cond (cancels && same) (from_cancel cycle first) (cond (not cancels && (same && (new && well)))
    (from_setting (cycle + time) first) first)) at
    ≡ cond same (cond cancels before ((new && (well && nat_le (cycle + time) at)) || now)) now
by_write true true new well at cycle time first now before late n b = from_cancel_is first at cycle late ∙ b
by_write true false true true at cycle time first now before late n b = from_setting_is first at (cycle + time) ∙ rw n refl
by_write true false true false at cycle time first now before late n b = n
by_write true false false well at cycle time first now before late n b = n
by_write false true new well at cycle time first now before late n b = n
by_write false false new well at cycle time first now before late n b = n

-- THE CHECKS. The first cycle that is kept decides each cycle from that of the newest call on.
first_passes : (rate time check : ℕ) (h : List CommandCall) → AreInOrder h → (at : ℕ) → newest_cycle h ≤ at
    → is_from (first_passed rate time check h) at ≡ passed_so_far rate time check h at
first_passes rate time check [] order at late = refl
first_passes rate time check (Reset ∷ h) order at late = refl
first_passes rate time check (Other cycle ∷ h) order at late = refl
first_passes rate time check (Wrote raw value cycle blocks ∷ h) order at late = by (first_passes rate time check h order.0) (raw == check) refl
  where
    first : Option ℕ
    first = first_passed rate time check h

    before : newest_cycle h ≤ cycle
    before = order.1

    by : ((c : ℕ) → newest_cycle h ≤ c → is_from first c ≡ passed_so_far rate time check h c) → (same : Bool) → (raw == check) ≡ same
        → is_from (cond ((value == 0) && (raw == check)) (from_cancel cycle first)
        (cond (not (value == 0) && ((raw == check) && (is_none (find_set raw (settings rate h)) && ends_well rate raw blocks)))
        (from_setting (cycle + time) first) first)) at
        ≡ cond (raw == check) (cond (value == 0) (passed_so_far rate time check h (min at cycle))
        ((is_none (find_set check (settings rate h)) && (ends_well rate check blocks && nat_le (cycle + time) at))
        || passed_so_far rate time check h at)) (passed_so_far rate time check h at)
    by so_far true e =
        let same : raw ≡ check = grind (arith, nat_tests) in
        rw same (by_write (check == check) (value == 0) (is_none (find_set check (settings rate h)))
        (ends_well rate check blocks) at cycle time first _ _ late (so_far at (omega (arith, before, late))) (so_far (min at cycle) (omega (arith, before, late))))
    by so_far false e = rw e (by_write false (value == 0) (is_none (find_set raw (settings rate h))) (ends_well rate raw blocks) at cycle time first _
        (is_from first (min at cycle)) late (so_far at (omega (arith, before, late))) refl)

pub passes_by_first : (check : ℕ) (c : CommandHistory) (at : ℕ) → AreInOrder c.calls → newest_cycle c.calls ≤ at
    → is_from (first_passed_in check c) at ≡ is_passed c.rate c.time check c.calls at
passes_by_first check c at order late =
    first_passes c.rate c.time check c.calls order at late ∙ sym (is_passed-kept c.rate c.time check c.calls at)

pub passed_127_stands : (v : CommandsView) (c : CommandHistory) (at : ℕ) → CommandsStandFor v c → AreInOrder c.calls → newest_cycle c.calls ≤ at
    → is_from v.passed_127 at ≡ is_passed c.rate c.time 127 c.calls at
passed_127_stands v c at s order late = rw s.passed_127_is (passes_by_first 127 c at order late)

pub passed_128_stands : (v : CommandsView) (c : CommandHistory) (at : ℕ) → CommandsStandFor v c → AreInOrder c.calls → newest_cycle c.calls ≤ at
    → is_from v.passed_128 at ≡ is_passed c.rate c.time 128 c.calls at
passed_128_stands v c at s order late = rw s.passed_128_is (passes_by_first 128 c at order late)

-- THE CALLS
pub stands_written : {v v' : CommandsView} (raw value cycle : ℕ) (blocks : List Block) → v' ≡ with_write raw value cycle blocks v
    → (c : CommandHistory) → CommandsStandFor v c → CommandsStandFor v' (with_call (Wrote raw value cycle blocks) c)
unfolding with_write
stands_written {v} {v'} raw value cycle blocks is c s = rw is (record {
  rate_is = s.rate_is;
  time_is = s.time_is;
  set_is = rw (s.set_is, s.rate_is) refl;
  passed_127_is = rw (s.passed_127_is, s.set_is, s.rate_is, s.time_is) refl;
  passed_128_is = rw (s.passed_128_is, s.set_is, s.rate_is, s.time_is) refl;
})

pub stands_other : {v v' : CommandsView} (cycle : ℕ) → v' ≡ without_checks v
    → (c : CommandHistory) → CommandsStandFor v c → CommandsStandFor v' (with_call (Other cycle) c)
stands_other {v} {v'} cycle is c s = rw is (record {
  rate_is = s.rate_is;
  time_is = s.time_is;
  set_is = s.set_is;
  passed_127_is = refl;
  passed_128_is = refl;
})

pub stands_reset : {v v' : CommandsView} → v' ≡ without_settings v
    → (c : CommandHistory) → CommandsStandFor v c → CommandsStandFor v' (with_call Reset c)
stands_reset {v} {v'} is c s = rw is (record {
  rate_is = s.rate_is;
  time_is = s.time_is;
  set_is = refl;
  passed_127_is = refl;
  passed_128_is = refl;
})

-- the data status, the change bit and the lists
pub status_stands : (v : CommandsView) (c : CommandHistory) (raw cycle : ℕ) → CommandsStandFor v c → status_kept v raw cycle ≡ status_in c raw cycle
status_stands v c raw cycle s = rw (s.time_is, s.set_is, find-settings c.rate raw c.calls) refl

pub change_stands : (v : CommandsView) (c : CommandHistory) (cycle : ℕ) → CommandsStandFor v c → change_kept v cycle ≡ change_in c cycle
change_stands v c cycle s = rw (s.time_is, s.set_is) (change-settings c cycle)

pub lists_stand : (v : CommandsView) (c : CommandHistory) (raw value : ℕ) (blocks : List Block) → CommandsStandFor v c
    → with_check_list_kept v raw value blocks ≡ with_check_list c raw value blocks
unfolding with_check_list with_check_list_kept
lists_stand v c raw value blocks s = rw (s.rate_is, s.set_is, is_none-settings c.rate raw c.calls) refl

-- the settings after a write are commands of the store after it
commands_stay : (c : CommandsView) (raw value : ℕ) (blocks : List Block) (set : List SetCommand)
    → list_all (λ s. is_command (with_check_list_kept c raw value blocks) s.idn.raw) set ≡ list_all (λ s. is_command blocks s.idn.raw) set
unfolding with_check_list_kept
commands_stay c raw value blocks set = by (not (value == 0) && is_none (find_set raw c.set)) (raw == 127) (raw == 128)
  where
    by : (sets is_127 is_128 : Bool)
        → list_all (λ s. is_command (cond sets (cond is_127 (with_data 21 (list_bytes (unfit_for_phase_3 c.rate blocks)) blocks)
        (cond is_128 (with_data 22 (list_bytes (unfit_for_phase_4 blocks)) blocks) blocks)) blocks) s.idn.raw) set
        ≡ list_all (λ s. is_command blocks s.idn.raw) set
    by true true is_128 = commands-with_data 21 _ blocks set
    by true false true = commands-with_data 22 _ blocks set
    by true false false = refl
    by false is_127 is_128 = refl

pub commands_written : (v : CommandsView) {v' : CommandsView} (blocks : List Block) {blocks' : List Block} (raw value cycle : ℕ) → v' ≡ with_write raw value cycle blocks v
    → blocks' ≡ with_check_list_kept v raw value blocks → is_command blocks raw ≡ true → are_commands_of blocks v ≡ true → are_commands_of blocks' v' ≡ true
unfolding with_write
commands_written v {v'} blocks {blocks'} raw value cycle is lists one all =
    rw (is, lists) (commands_stay v raw value blocks _ ∙ by (value == 0))
  where
    by : (cancels : Bool) → list_all (λ s. is_command blocks s.idn.raw)
        (cond cancels (without raw v.set) (with_set (record { idn = record { raw = raw }; cycle = cycle; well = ends_well v.rate raw blocks }) v.set)) ≡ true
    by true = all_without (λ s. is_command blocks s.idn.raw) raw v.set all
    by false = all_with_set (λ s. is_command blocks s.idn.raw) _ v.set one all
