-- Replies worked out from the definitions.
use Rattle.std.proofs.Common.{◌≡◌, ℕ, List, [], ◌∷◌, Bool, true, false, map, Option, Some, None, refl, codes}
use Rattle.sercos_idn.specs.Attributes.{attribute_of}
use Rattle.sercos_step.specs.declared.step.Step.{Step}
use Rattle.sercos_step.specs.Steps.{a_step}
use Rattle.sercos_block.specs.declared.block.Block.{Block}
use Rattle.sercos_block.specs.Blocks.{element_of}
use Rattle.sercos_command.specs.Calls.{CommandHistory, Wrote}
use Rattle.sercos_service_drive.specs.Log.{Processed, Entry}
use Rattle.sercos_service_drive.specs.Replies.{answered, log_of, data_in, element_words, write_cause, bytes_written}
use Rattle.sercos_service_drive.specs.Writes.{writes_of}
use Rattle.sercos_service_drive.specs.Says.{channel_says}

abbrev pub a_block : ℕ → ℕ → Option ℕ → Option ℕ → List ℕ → ℕ → Bool → ℕ → Block
a_block raw word low high value max_len fixed step = record {
  idn = record { raw = raw };
  attribute = attribute_of word;
  name = None;
  unit = None;
  min = low;
  max = high;
  value = value;
  max_len = max_len;
  fixed = fixed;
  step = step;
  fails = false;
}

-- S-0-0006, S-0-0047, S-0-0051 (64500, growing by 10), S-0-0127, P-0-0016 (10 to 100), P-0-0017 (a list of at most 8 bytes), P-0-0018 (a command)
abbrev pub blocks : List Block
blocks =
    a_block 6 0x60110001 None None (10 ∷ 0 ∷ []) 0 false 0
    ∷ a_block 47 0x00220001 None None (0 ∷ 0 ∷ 0 ∷ 0 ∷ []) 0 false 0
    ∷ a_block 51 0x00220001 None None (244 ∷ 251 ∷ 0 ∷ 0 ∷ []) 0 false 10
    ∷ a_block 127 0x60090001 None None (0 ∷ 0 ∷ []) 0 false 0
    ∷ a_block 32784 0x00110001 (Some 10) (Some 100) (50 ∷ 0 ∷ []) 0 false 0
    ∷ a_block 32785 0x00150001 None None [] 8 false 0
    ∷ a_block 32786 0x00090001 None None (0 ∷ 0 ∷ []) 0 false 0
    ∷ []

abbrev pub commands : CommandHistory
commands = record { rate = 4; time = 5; calls = Wrote 32786 3 100 [] ∷ [] }

abbrev processed : ℕ → ℕ → Bool → Step → Processed
processed cycle phase mhs step = record { cycle = cycle; phase = phase; mhs = mhs; step = step; blocks = blocks; commands = commands }

abbrev opens : ℕ → ℕ → Processed
opens cycle raw = processed cycle 4 true (a_step true true 1 raw)

abbrev reads : ℕ → ℕ → Bool → Processed
reads cycle e last = processed cycle 4 true (a_step false last e 0)

abbrev writes : ℕ → Bool → ℕ → Processed
writes cycle last word = processed cycle 4 true (a_step true last 7 word)

-- the words of the replies, the newest first
abbrev words : List Processed → List ℕ
words h = map (λ (e : Entry). e.answer.word) (answered h)

-- The value of cycle 103, both words of it, though the second is read in 104; after them there is 0.
rising : words (reads 105 7 true ∷ reads 104 7 false ∷ reads 103 7 false ∷ reads 102 3 true ∷ reads 101 3 false ∷ opens 100 51 ∷ [])
    ≡ 0 ∷ 0 ∷ 65530 ∷ 34 ∷ 1 ∷ 0 ∷ []
unfolding attribute_of element_words data_in element_of
rising = refl

-- selected anew in 104
anew : words (reads 105 7 true ∷ reads 104 7 false ∷ reads 103 7 true ∷ opens 100 51 ∷ []) ≡ 1 ∷ 4 ∷ 65530 ∷ 0 ∷ []
unfolding attribute_of element_words data_in element_of
anew = refl

protected : words (writes 103 true 10 ∷ opens 100 6 ∷ []) ≡ 0x7005 ∷ 0 ∷ []
unfolding attribute_of write_cause bytes_written
protected = refl

too_low : words (writes 103 true 5 ∷ opens 100 32784 ∷ []) ≡ 0x7006 ∷ 0 ∷ []
unfolding attribute_of write_cause bytes_written
too_low = refl

too_high : words (writes 103 true 101 ∷ opens 100 32784 ∷ []) ≡ 0x7007 ∷ 0 ∷ []
unfolding attribute_of write_cause bytes_written
too_high = refl

too_long : words (writes 103 false 10 ∷ opens 100 32785 ∷ []) ≡ 0x7003 ∷ 0 ∷ []
unfolding attribute_of write_cause bytes_written
too_long = refl

uneven : words (writes 103 false 3 ∷ opens 100 32785 ∷ []) ≡ 0x7008 ∷ 0 ∷ []
unfolding attribute_of write_cause bytes_written
uneven = refl

too_few : words (writes 103 true 5 ∷ opens 100 47 ∷ []) ≡ 0x7002 ∷ 0 ∷ []
unfolding attribute_of write_cause bytes_written
too_few = refl

too_many : words (writes 104 false 0 ∷ writes 103 false 5 ∷ opens 100 47 ∷ []) ≡ 0x7003 ∷ 0 ∷ 0 ∷ []
unfolding attribute_of write_cause bytes_written
too_many = refl

stepping : words (writes 103 true 5 ∷ opens 100 51 ∷ []) ≡ 0x7004 ∷ 0 ∷ []
unfolding attribute_of write_cause bytes_written
stepping = refl

no_setting : words (processed 101 2 true (a_step true true 7 1) ∷ opens 100 127 ∷ []) ≡ 0x7008 ∷ 0 ∷ []
unfolding attribute_of write_cause bytes_written
no_setting = refl

no_block : words (reads 101 7 true ∷ opens 100 99 ∷ []) ≡ 1 ∷ 0x1001 ∷ []
no_block = refl

no_name : words (reads 101 2 false ∷ opens 100 51 ∷ []) ≡ 0x2001 ∷ 0 ∷ []
unfolding attribute_of element_words element_of
no_name = refl

no_unit : words (reads 101 4 false ∷ opens 100 51 ∷ []) ≡ 0x4001 ∷ 0 ∷ []
unfolding attribute_of element_words element_of
no_unit = refl

no_minimum : words (reads 101 5 false ∷ opens 100 51 ∷ []) ≡ 0x5001 ∷ 0 ∷ []
unfolding attribute_of element_words element_of
no_minimum = refl

no_maximum : words (reads 101 6 false ∷ opens 100 51 ∷ []) ≡ 0x6001 ∷ 0 ∷ []
unfolding attribute_of element_words element_of
no_maximum = refl

-- A name is a list of at most 60 bytes, a unit one of at most 12: its length, the greatest length, and its bytes two by two.
-- The last odd byte is alone in its word.
abbrev speed : Block
speed = record (a_block 36 0x00220001 None None (0 ∷ 0 ∷ 0 ∷ 0 ∷ []) 0 false 0) { name = Some (codes "Speed"); unit = Some (codes "mm") }

name_words : element_words 2 100 speed ≡ 5 ∷ 60 ∷ 0x7053 ∷ 0x6565 ∷ 0x64 ∷ []
unfolding attribute_of element_words element_of
name_words = refl

unit_words : element_words 4 100 speed ≡ 2 ∷ 12 ∷ 0x6d6d ∷ []
unfolding attribute_of element_words element_of
unit_words = refl

minimum : words (reads 101 5 true ∷ opens 100 32784 ∷ []) ≡ 10 ∷ 0 ∷ []
unfolding attribute_of element_words element_of
minimum = refl

to_name : words (processed 101 4 true (a_step true false 2 0) ∷ opens 100 51 ∷ []) ≡ 0x2004 ∷ 0 ∷ []
to_name = refl

to_maximum : words (processed 101 4 true (a_step true false 6 0) ∷ opens 100 51 ∷ []) ≡ 0x6004 ∷ 0 ∷ []
to_maximum = refl

-- a step of element 0 closes the identifier number
closed : words (reads 102 7 true ∷ reads 101 0 true ∷ opens 100 51 ∷ []) ≡ 1 ∷ 0 ∷ 0 ∷ []
closed = refl

-- the data status while a command runs, and when it has ended well
status : words (reads 105 1 true ∷ reads 104 1 true ∷ opens 100 32786 ∷ []) ≡ 3 ∷ 7 ∷ 0 ∷ []
status = refl

-- a list of two items is written at its last word, and not before
list : writes_of (answered (writes 105 true 8 ∷ writes 104 false 7 ∷ writes 103 false 0 ∷ writes 102 false 4 ∷ opens 100 32785 ∷ []))
    ≡ (record { cycle = 105; raw = 32785; bytes = 7 ∷ 0 ∷ 8 ∷ 0 ∷ [] }) ∷ []
unfolding attribute_of write_cause bytes_written
list = refl

no_list : writes_of (answered (writes 104 false 7 ∷ writes 103 false 0 ∷ writes 102 false 4 ∷ opens 100 32785 ∷ [])) ≡ []
unfolding attribute_of write_cause bytes_written
no_list = refl

-- A record that comes again is dropped: the copy goes on where it was.
repeated : map (λ (e : Entry). e.answer.word)
    (log_of (processed 105 4 true (a_step false true 7 0) ∷ processed 104 4 false (a_step false false 7 0) ∷ processed 103 4 false (a_step false false 7 0) ∷ processed 100 4 true (a_step true true 1 51) ∷ []))
    ≡ 0 ∷ 65530 ∷ 0 ∷ []
unfolding attribute_of element_words data_in element_of
repeated = refl

-- with a busy time of 2 a step of cycle 100 is busy up to cycle 102
busy : map (λ cycle. (channel_says 2 cycle commands (processed 100 4 true (a_step true true 1 99) ∷ [])).busy) (101 ∷ 102 ∷ 103 ∷ []) ≡ true ∷ true ∷ false ∷ []
busy = refl

shown : channel_says 2 103 commands (processed 100 4 true (a_step true true 1 99) ∷ []) ≡ record { ahs = true; busy = false; error = true; change = false; word = 0x1001 }
shown = refl
