-- The reply of a drive to each step that it accepted. Error codes are those of IEC 61491:1995.
use Rattle.std.specs.Prelude.{ℕ, ◌+◌, ◌*◌, ◌/◌, ◌%◌, ◌==◌, nat_lt, nat_le, Bool, true, false, not, ◌&&◌, ◌||◌, if◌then◌else◌, List, [], ◌∷◌, length, take, drop, slice_index, Option, Some, None, is_some, option_map, unwrap_or}
use Rattle.std.specs.Bool.{then_some}
use Rattle.std.specs.Option.{option_or}
use Rattle.sercos_idn.specs.declared.attribute.Attribute.{Attribute}
use Rattle.sercos_idn.specs.Codes.{is_list, item_len}
use Rattle.sercos_idn.specs.Elements.{identifier_element, name_element, unit_element, data_element}
use Rattle.sercos_idn.specs.Commands.{to_cancel, to_set}
use Rattle.sercos_step.specs.declared.step.Answer.{Answer}
use Rattle.sercos_step.specs.Words.{words_of, bytes_in}
use Rattle.sercos_block.specs.declared.block.Block.{Block}
use Rattle.sercos_block.specs.Blocks.{number_end, bits_in, bytes_for, element_of, is_fixed, is_protected}
use Rattle.sercos_block.specs.Stores.{find_block, read_fault, is_below, is_above}
use Rattle.sercos_command.specs.Calls.{CommandHistory, status_in}
use Rattle.sercos_service_drive.specs.Log.{Processed, Entry, accepted, opens, open_idn, run_before, selection, in_order}

-- the reply with a word
abbrev pub good : ℕ → Answer
good word = record { error = false; word = word }

-- the reply with the code of an error
abbrev pub refused : ℕ → Answer
refused code = record { error = true; word = code }

-- the reply with the code, if there is one, otherwise with the word
abbrev pub answer_by : Option ℕ → ℕ → Answer
answer_by None word = good word
answer_by (Some code) word = refused code

-- Reading.

-- The operation data in a cycle: a number with a step grows by it in each cycle, modulo 2 to the
-- power of its bits.
unfoldable pub data_in : ℕ → Block → List ℕ
data_in cycle b =
    if b.step == 0 then b.value
    else bytes_for b.attribute ((bits_in b.attribute b.value + b.step * cycle) % number_end b.attribute.length)

-- a list as words: its length and the greatest length, in bytes, and its bytes two by two
abbrev pub list_words : ℕ → List ℕ → List ℕ
list_words longest bytes = length bytes ∷ longest ∷ words_of bytes

-- the words of an element from 2 to 7 of a block in a cycle: name and unit are lists of at most 60
-- and 12 bytes
unfoldable pub element_words : ℕ → ℕ → Block → List ℕ
element_words e cycle b =
    if e == name_element then list_words 60 (unwrap_or (element_of b e) [])
    else (if e == unit_element then list_words 12 (unwrap_or (element_of b e) [])
    else (if e == data_element then (if is_list b.attribute.length then list_words b.max_len b.value else words_of (data_in cycle b))
    else words_of (unwrap_or (element_of b e) [])))

-- the words that the selection of an element copies in a cycle: the data status for element 1,
-- otherwise those of the element at that moment
abbrev pub words_at : ℕ → ℕ → ℕ → List Block → CommandHistory → List ℕ
words_at raw e cycle blocks commands =
    if e == identifier_element then status_in commands raw cycle ∷ []
    else unwrap_or (option_map (element_words e cycle) (find_block raw blocks)) []

-- the words that this selection copies
abbrev pub copy : ℕ → Processed → List ℕ
copy raw t = words_at raw t.step.element t.cycle t.blocks t.commands

-- the code for which an element can't be read: it is missing
abbrev pub missing : ℕ → ℕ → List Block → Option ℕ
missing raw e blocks = if e == identifier_element then None else read_fault (find_block raw blocks) e

-- the code for which this selection can't be read
abbrev pub read_cause : ℕ → Processed → Option ℕ
read_cause raw t = missing raw t.step.element t.blocks

-- Writing of operation data. The words are those of the run, this step's among them.

-- whether this step's word is the first of the run
abbrev pub is_first_word : List ℕ → Bool
is_first_word words = length words == 1

-- the number of words of a whole write, by its attribute and its first word
abbrev pub words_by : Attribute → ℕ → ℕ
words_by a first = if is_list a.length then 2 + (first + 1) / 2 else item_len a.length / 2

-- the bytes that the words write
unfoldable pub bytes_written : Block → List ℕ → List ℕ
bytes_written b words = if is_list b.attribute.length then take (slice_index words 0) (bytes_in (drop 2 words)) else bytes_in words

-- whether the last word is too early
abbrev pub ends_early : Block → Bool → List ℕ → Bool
ends_early b last words = last && nat_lt (length words) (words_by b.attribute (slice_index words 0))

-- whether a list's length is above the greatest, at its first word; or the word that must be the
-- last isn't
abbrev pub is_over : Block → Bool → List ℕ → Bool
is_over b last words =
    (is_list b.attribute.length && (is_first_word words && nat_lt b.max_len (slice_index words 0)))
    || (not last && nat_le (words_by b.attribute (slice_index words 0)) (length words))

-- whether a list's length is not a number of whole items, at its first word
abbrev pub is_uneven : Block → List ℕ → Bool
is_uneven b words = is_list b.attribute.length && (is_first_word words && not (slice_index words 0 % item_len b.attribute.length == 0))

-- whether a procedure command is written with a number that neither cancels nor sets it, at the
-- last word
abbrev pub is_no_command_value : Block → Bool → List ℕ → Bool
is_no_command_value b last words =
    b.attribute.command &&
    (last && not ((bits_in b.attribute (bytes_written b words) == to_cancel) || (bits_in b.attribute (bytes_written b words) == to_set)))

-- The first code for which a word of operation data is refused: the block is fixed (0x7004), at the
-- first word; it is write protected in the phase of the step (0x7005), at any word; the last word
-- is too early (0x7002); the list or the number is too long (0x7003); the list's length is not a
-- number of whole items, or the number doesn't set or cancel the command (0x7008); the number is
-- below the minimum (0x7006) or above the maximum (0x7007), at the last word.
unfoldable pub write_cause : Block → ℕ → Bool → List ℕ → Option ℕ
write_cause b phase last words =
    option_or (then_some (is_first_word words && is_fixed b) 0x7004)
    (option_or (then_some (is_protected b.attribute phase) 0x7005)
    (option_or (then_some (ends_early b last words) 0x7002)
    (option_or (then_some (is_over b last words) 0x7003)
    (option_or (then_some (is_uneven b words || is_no_command_value b last words) 0x7008)
    (option_or (then_some (last && is_below b (bytes_written b words) b.min) 0x7006)
    (then_some (last && is_above b (bytes_written b words) b.max) 0x7007))))))

-- the same; 0x1001 without the block
abbrev pub write_cause_in : Option Block → ℕ → Bool → List ℕ → Option ℕ
write_cause_in None phase last words = Some 0x1001
write_cause_in (Some b) phase last words = write_cause b phase last words

-- The replies.

-- The reply to a step on the open identifier number, after these steps of its run. A read step
-- returns the next word of the copy that the selection made, and 0 after its end. An element from 2
-- to 6 can't be written (0x2004 to 0x6004).
abbrev pub reply_on : ℕ → Processed → List Processed → Answer
reply_on raw t run =
    if t.step.write
    then answer_by (if t.step.element == data_element
    then write_cause_in (find_block raw t.blocks) t.phase t.step.last (in_order run (t.step.word ∷ []))
    else Some (0x1000 * t.step.element + 4)) 0
    else answer_by (read_cause raw (selection t run)) (slice_index (copy raw (selection t run)) (length run))

-- the reply to a step; if no identifier number is open, it is the error 1
abbrev pub reply_at : Option ℕ → Processed → List Processed → Answer
reply_at None t run = refused 1
reply_at (Some raw) t run = reply_on raw t run

-- The reply to a step after these entries. An opening is refused if the drive doesn't have the
-- identifier number (0x1001). A step of element 0 closes it.
abbrev pub reply_of : Processed → List Entry → Answer
reply_of t log =
    if opens t.step then (if is_some (find_block t.step.word t.blocks) then good 0 else refused 0x1001)
    else (if t.step.element == 0 then good 0
    else reply_at (open_idn log) t (run_before t.step.write t.step.element log))

-- the steps, each with the reply to it
abbrev pub answered : List Processed → List Entry
answered [] = []
answered (t ∷ h) = record { processed = t; answer = reply_of t (answered h) } ∷ answered h

-- the steps that a drive accepted among the records that it processed, with the replies
abbrev pub log_of : List Processed → List Entry
log_of h = answered (accepted h)
