-- What `show` answers to its lines.
use Rattle.std.specs.Prelude.{ℕ, ◌+◌, ◌-◌, nat_lt, max, ◌&&◌, if◌then◌else◌, drop, slice_index, Bool, cond, List, [], ◌∷◌, ◌++◌, codes, decimal, Option, Some, None, length}
use Rattle.std.specs.List.{flat_map}
use Rattle.std.specs.Option.{option_or, option_map}
use Rattle.std.specs.Int.{to_be_bytes, w16}
use Rattle.hex.specs.Hex.{encode_lower}
use Rattle.sercos_hdlc.specs.declared.bad_frame.BadFrame.{BadFrame}
use Rattle.sercos_hdlc.specs.declared.bad_frame.BadFrame.TheVariants.{NoOpen, Abort, NoClose, Ragged, Short, Check, After, Long}
use Rattle.sercos_hdlc.specs.Reason.{reason_of, content_of, plain}
use Rattle.sercos_telegram.specs.declared.layout.Layout.{Layout}
use Rattle.sercos_telegram.specs.declared.layout.Layout.TheVariants.{Length, Address, BadField}
use Rattle.sercos_telegram.specs.declared.words.Control.{Control}
use Rattle.sercos_telegram.specs.declared.words.Status as telegram
use Rattle.sercos_telegram.specs.Faults.{mst_fault, single_fault, at_fault}
use Rattle.sercos_telegram.specs.Spells.{word_at}
use Rattle.sercos_telegram.specs.Words.{control_of, status_of}
use Rattle.sercos_show.specs.declared.line.LineKind.{LineKind}
use Rattle.sercos_show.specs.declared.line.LineKind.TheVariants.{Raw, Mst, Single, At}
use Rattle.sercos_answer.specs.Answer.{Answer, line_feed, two_numbers, refused_text}
use Rattle.sercos_answer.specs.Lines.{lines_of}
use Rattle.sercos_io.specs.declared.status.Status.{Status}
use Rattle.sercos_io.specs.declared.status.Status.TheVariants.{Done, Refused}
use Rattle.sercos_show.specs.Line.{kind_of, line_fault, line_bits}

-- a word of sixteen bits: `0x` and four digits
unfoldable pub word_text : ℕ → List ℕ
word_text word = codes "0x" ++ encode_lower (to_be_bytes w16 word)

-- the texts of two bits, of a bit and a number, and of two words, each after its name
abbrev pub bit_text : Bool → List ℕ
bit_text bit = cond bit (codes "1") (codes "0")

unfoldable pub two_bits : List ℕ → Bool → List ℕ → Bool → List ℕ
two_bits first a second b = first ++ bit_text a ++ second ++ bit_text b

unfoldable pub bit_and_number : List ℕ → Bool → List ℕ → ℕ → List ℕ
bit_and_number first bit second number = first ++ bit_text bit ++ second ++ decimal number

unfoldable pub two_words : List ℕ → ℕ → List ℕ → ℕ → List ℕ
two_words first a second b = first ++ word_text a ++ second ++ word_text b

-- bytes in hexadecimal digits, or `-` for none
unfoldable pub data_text : List ℕ → List ℕ
data_text [] = codes "-"
data_text (byte ∷ bytes) = encode_lower (byte ∷ bytes)

-- number, name and places of a refusal
unfoldable pub refusal_text : BadFrame → List ℕ
refusal_text NoOpen = codes "1 no open"
refusal_text (Abort place) = codes "2 abort " ++ decimal place
refusal_text (NoClose bits) = codes "3 no close " ++ decimal bits
refusal_text (Ragged bits) = codes "4 ragged " ++ decimal bits
refusal_text (Short bytes) = codes "5 short " ++ decimal bytes
refusal_text (Check found wanted) = two_words (codes "6 check found ") found (codes " wanted ") wanted
refusal_text (After place) = codes "7 after " ++ decimal place
refusal_text (Long bytes) = codes "8 long " ++ decimal bytes

-- number, name and values of a fault of layout
unfoldable pub layout_text : Layout → List ℕ
layout_text (Length found wanted) = two_numbers (codes "1 length found ") found (codes " wanted ") wanted
layout_text (Address found wanted) = two_numbers (codes "2 address found ") found (codes " wanted ") wanted
layout_text (BadField place) = codes "3 field " ++ decimal place

-- a text, or the fault in its place
unfoldable pub layout_or : Option Layout → List ℕ → List ℕ
layout_or None text = text
layout_or (Some fault) text = codes "layout " ++ layout_text fault

unfoldable pub mst_text : ℕ → List ℕ
mst_text phase = codes "mst phase " ++ decimal phase

unfoldable pub single_text : ℕ → Control → ℕ → List ℕ
single_text address control info =
    codes "single " ++ decimal address ++ two_bits (codes " mhs ") control.mhs (codes " write ") control.write
    ++ bit_and_number (codes " last ") control.last (codes " element ") control.element
    ++ two_words (codes " info ") info (codes " cyclic ") control.cyclic

unfoldable pub at_text : ℕ → telegram.Status → ℕ → List ℕ → List ℕ
at_text address status info values =
    codes "at " ++ decimal address ++ two_bits (codes " ahs ") status.ahs (codes " busy ") status.busy
    ++ two_bits (codes " error ") status.error (codes " change ") status.change
    ++ two_words (codes " info ") info (codes " cyclic ") status.cyclic
    ++ codes " data " ++ data_text values

-- the address that is wanted: the one found, if it is a drive's, otherwise 1
unfoldable pub wanted_address : List ℕ → ℕ
wanted_address content = let found = slice_index content 0 in if nat_lt 0 found && nat_lt found 255 then found else 1

-- how many bytes an AT should have after its address: as many as were found, but at least four
unfoldable pub wanted_len : List ℕ → ℕ
wanted_len content = max (length content - 1) 4

-- the text of a content, read as its line requires
unfoldable pub content_text : LineKind → List ℕ → List ℕ
content_text Raw content = codes "ok " ++ encode_lower content
content_text Mst content = layout_or (mst_fault content) (mst_text (slice_index content 1))
content_text Single content =
    layout_or (single_fault (wanted_address content) content)
    (single_text (wanted_address content) (control_of (word_at content 1)) (word_at content 3))
content_text At content =
    layout_or (at_fault (wanted_address content) (wanted_len content) content)
    (at_text (wanted_address content) (status_of (word_at content 1)) (word_at content 3) (drop 5 content))

-- the text of the content of a frame, or `error` and the refusal
unfoldable pub frame_text : LineKind → List Bool → Option BadFrame → List ℕ
frame_text kind bits None = content_text kind (content_of (plain bits)) ++ line_feed
frame_text kind bits (Some reason) = codes "error " ++ refusal_text reason ++ line_feed

unfoldable pub answer_by : Option LineKind → List Bool → List ℕ
answer_by None bits = []
answer_by (Some kind) bits = frame_text kind bits (reason_of bits)

-- the answer to a line without a fault
unfoldable pub line_answer : List ℕ → List ℕ
line_answer line = answer_by (kind_of line) (line_bits line)

-- the first line with a fault: its number, the lines being counted from this one on, and the fault's column, from 1 on
unfoldable pub first_fault : ℕ → List (List ℕ) → Option (ℕ × ℕ)
first_fault number [] = None
first_fault number (line ∷ lines) = option_or (option_map (λ place. (number, place + 1)) (line_fault line)) (first_fault (number + 1) lines)

-- the refusal of the first line that has a fault; otherwise the answer to each line, in order
unfoldable pub show_text : List ℕ → Option (ℕ × ℕ) → List ℕ
show_text bytes None = flat_map line_answer (lines_of bytes)
show_text bytes (Some fault) = refused_text fault.0 fault.1

unfoldable pub show_status : Option (ℕ × ℕ) → Status
show_status None = Done
show_status (Some fault) = Refused

unfoldable pub show_answer : List ℕ → Answer
show_answer bytes = let fault = first_fault 1 (lines_of bytes) in record { status = show_status fault; output = show_text bytes fault }
