-- The writes of operation data that took effect, and their effect on the blocks and the procedure
-- commands.
use Rattle.std.specs.Prelude.{◌≡◌, ℕ, ◌==◌, Bool, true, not, ◌&&◌, if◌then◌else◌, List, [], ◌∷◌, map, Option, Some, None, option_map, option_and_then}
use Rattle.std.specs.Int.{w16, from_le_bytes}
use mathlib.Core.Bool.{beq}
use Rattle.sercos_idn.specs.Elements.{data_element}
use Rattle.sercos_block.specs.declared.block.Block.{Block}
use Rattle.sercos_block.specs.Stores.{find_block, with_data}
use Rattle.sercos_command.specs.Settings.{is_command}
use Rattle.sercos_command.specs.Calls.{CommandCall, Wrote, Other, CommandHistory, with_check_list}
use Rattle.sercos_service_drive.specs.Log.{Processed, Entry, ahs, open_idn, run_before, in_order}
use Rattle.sercos_service_drive.specs.Replies.{bytes_written, reply_of, log_of}

-- a write of operation data that took effect: its cycle, the identifier number, and the bytes
pub record Write : Type 0 where
  pub cycle : ℕ
  pub raw : ℕ
  pub bytes : List ℕ

-- whether a step completes a write: it writes the last word of operation data and isn't refused
abbrev pub takes_effect : Entry → Bool
takes_effect e = e.processed.step.write && ((e.processed.step.element == data_element) && (e.processed.step.last && not e.answer.error))

-- the write of the words of a run
abbrev pub written_by : Processed → List Processed → ℕ → Option Write
written_by t run raw =
    option_map (λ (b : Block). record { cycle = t.cycle; raw = raw; bytes = bytes_written b (in_order run (t.step.word ∷ [])) })
    (find_block raw t.blocks)

-- the write that an entry adds after these
abbrev pub added_by : Entry → List Entry → Option Write
added_by e log = if takes_effect e then option_and_then (written_by e.processed (run_before true data_element log)) (open_idn log) else None

-- the writes with one more, if there is one
abbrev pub with_added : Option Write → List Write → List Write
with_added None writes = writes
with_added (Some w) writes = w ∷ writes

-- the writes of a log, the newest first
abbrev pub writes_of : List Entry → List Write
writes_of [] = []
writes_of (e ∷ log) = with_added (added_by e log) (writes_of log)

-- the write that a step adds after these entries
abbrev pub adds : Processed → List Entry → Option Write
adds t log = added_by (record { processed = t; answer = reply_of t log }) log

-- the value that is written to a procedure command
abbrev pub command_value : Write → ℕ
command_value w = from_le_bytes w16 w.bytes

-- The blocks after a write: its block has the bytes as operation data, and a check that is newly
-- set writes its list.
abbrev pub blocks_with : Option Write → CommandHistory → List Block → List Block
blocks_with None c blocks = blocks
blocks_with (Some w) c blocks =
    if is_command blocks w.raw then with_check_list c w.raw (command_value w) (with_data w.raw w.bytes blocks)
    else with_data w.raw w.bytes blocks

-- the call that a write is for the procedure commands, with the blocks before it
abbrev pub call_of : Write → List Block → CommandCall
call_of w blocks = if is_command blocks w.raw then Wrote w.raw (command_value w) w.cycle (with_data w.raw w.bytes blocks) else Other w.cycle

-- the calls on the procedure commands after a write
abbrev pub calls_with : Option Write → List Block → List CommandCall → List CommandCall
calls_with None blocks h = h
calls_with (Some w) blocks h = call_of w blocks ∷ h

-- the procedure commands after a write
abbrev pub commands_with : Option Write → List Block → CommandHistory → CommandHistory
commands_with w blocks c = record { rate = c.rate; time = c.time; calls = calls_with w blocks c.calls }

-- the block without its operation data
abbrev pub without_data : Block → Block
without_data b = record b { value = [] }

-- except for their operation data, two stores have the same blocks
abbrev pub AreAlike : List Block → List Block → Type 0
AreAlike blocks others = map without_data blocks ≡ map without_data others

-- except for their operation data, the blocks are those of each of these records
abbrev pub AreThose : List Block → List Processed → Type 0
AreThose blocks [] = Unit {0}
AreThose blocks (t ∷ h) = AreAlike t.blocks blocks × AreThose blocks h

-- the write, unless there is a code against it
abbrev pub unless : Option ℕ → Write → Option Write
unless None w = Some w
unless (Some code) w = None

-- the write that a record adds after these; `None` if it isn't accepted
abbrev pub added_on : Processed → List Processed → Option Write
added_on t h = if beq t.mhs (ahs h) then None else adds t (log_of h)
