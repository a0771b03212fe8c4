-- What `replay A` answers to a document and a capture.
use Rattle.std.specs.Prelude.{◌≡◌, ℕ, ◌==◌, not, List, [], ◌∷◌, ◌++◌, codes, decimal, length, Option, Some, None, option_and_then, Result, Ok, Err}
use Rattle.std.specs.Bool.{then_some}
use Rattle.std.specs.Fmt.{signed_decimal}
use Rattle.std.specs.Option.{option_or}
use Rattle.hex.specs.Hex.{encode_lower}
use Rattle.sercos_io.specs.declared.status.Status.TheVariants.{Done, No, Refused}
use Rattle.sercos_telegram.specs.declared.layout.Kind.{Kind}
use Rattle.sercos_telegram.specs.declared.layout.Kind.TheVariants as telegram
use Rattle.sercos_trace.specs.Views.{SentView}
use Rattle.sercos_trace.specs.declared.reading.Line.{Line}
use Rattle.sercos_document.specs.declared.refusal.BadDocument.{BadDocument}
use Rattle.sercos_document.specs.Lines as documents
use Rattle.sercos_config.specs.Views.{DocumentView}
use Rattle.sercos_config.specs.Document.{document_of}
use Rattle.sercos_answer.specs.declared.reply.Reply.{Reply}
use Rattle.sercos_answer.specs.Answer.{Answer, line_feed}
use Rattle.sercos_answer.specs.Lines.{lines_of}
use Rattle.sercos_checking.specs.declared.verdict.Verdict.{Verdict}
use Rattle.sercos_checking.specs.declared.verdict.Verdict.TheVariants as verdict
use Rattle.sercos_checking.specs.Checking.{read_as, verdict_of, verdict_status, verdict_text}
use Rattle.sercos_replay.specs.Cycles.{cycles_of}
use Rattle.sercos_replay.specs.Places.{PlaceView}
use Rattle.sercos_replay.specs.Divided.{divided}
use Rattle.sercos_replay.specs.Stations.{Station, station_of, station_differs, lines_read, mst_cycle}

-- the reply has the status and the text of the answer
abbrev pub Says : Reply → Answer → Type 0
Says reply answer = (reply.status ≡ answer.status) × (reply.text.items ≡ answer.output)

-- TEXTS
unfoldable pub kind_name : Kind → List ℕ
kind_name telegram.Mst = codes "mst"
kind_name telegram.At = codes "at"
kind_name telegram.Mdt = codes "mdt"

unfoldable pub place_line : ℕ → Kind → List ℕ
place_line cycle kind = codes "differs cycle " ++ decimal cycle ++ codes " " ++ kind_name kind ++ line_feed

-- start and content of a telegram
unfoldable pub sent_text : Option SentView → List ℕ
sent_text None = codes "none"
sent_text (Some s) = signed_decimal s.start ++ codes " " ++ encode_lower s.content

unfoldable pub sent_line : List ℕ → Option SentView → List ℕ
sent_line name sent = name ++ sent_text sent ++ line_feed

unfoldable pub place_text : PlaceView → List ℕ
place_text p = place_line p.cycle p.kind ++ sent_line (codes "expected ") p.expected ++ sent_line (codes "found ") p.found

-- a line with a text and a number
unfoldable pub number_line : List ℕ → ℕ → List ℕ
number_line name number = name ++ decimal number ++ line_feed

-- ANSWERS
abbrev pub refused : List ℕ → Answer
refused text = record { status = Refused; output = text }

-- the first place that differs, or the number of cycles if there is none
unfoldable pub place_answer : Option PlaceView → ℕ → Answer
place_answer None cycles = record { status = Done; output = number_line (codes "agrees ") cycles }
place_answer (Some p) cycles = record { status = No; output = place_text p }

-- the answer of a station's replay for the lines of a clean capture
unfoldable pub station_answer : Station → List Line → Answer
station_answer s lines = place_answer (station_differs s (cycles_of lines)) (length (cycles_of lines))

-- what `check` answers
unfoldable pub verdict_answer : Verdict → Answer
verdict_answer v = record { status = verdict_status v; output = verdict_text v }

-- the cycle of the first MST; and that cycle, if it isn't 0
unfoldable pub first_cycle : List (List ℕ) → Option ℕ
first_cycle [] = None
first_cycle (text ∷ texts) = option_or (mst_cycle (read_as text)) (first_cycle texts)

unfoldable pub late : ℕ → Option ℕ
late cycle = then_some (not (cycle == 0)) cycle

unfoldable pub late_start : List ℕ → Option ℕ
late_start text = option_and_then late (first_cycle (lines_of text))

-- A capture of lines of the right shape that begins with a late cycle is refused. Otherwise a violation comes before the replay.
unfoldable pub ruled_answer : Verdict → Station → List Line → Answer
ruled_answer (verdict.Clean count) s lines = station_answer s lines
ruled_answer v s lines = verdict_answer v

unfoldable pub started_answer : Option ℕ → Verdict → Station → List Line → Answer
started_answer (Some cycle) v s lines = refused (number_line (codes "refused 13 cycle ") cycle)
started_answer None v s lines = ruled_answer v s lines

-- the answer to a capture, by its verdict: a fault of grammar or shape comes first
unfoldable pub judged_answer : Verdict → Option ℕ → Station → List Line → Answer
judged_answer (verdict.Refused number column) start s lines = verdict_answer (verdict.Refused number column)
judged_answer v start s lines = started_answer start v s lines

unfoldable pub capture_answer : Station → List ℕ → Answer
capture_answer s capture = judged_answer (verdict_of capture) (late_start capture) s (lines_read capture)

-- the station with an address, if the document has one
unfoldable pub found_answer : Option Station → ℕ → List ℕ → Answer
found_answer None address capture = refused (number_line (codes "refused 10 drive ") address)
found_answer (Some s) address capture = capture_answer s capture

-- a document, or its first refusal
unfoldable pub document_answer : Result DocumentView BadDocument → ℕ → List ℕ → Answer
document_answer (Ok d) address capture = found_answer (station_of address d) address capture
document_answer (Err bad) address capture = refused (documents.line_of bad)

-- the two parts of an input, if a line divides it
unfoldable pub parts_answer : Option (List ℕ × List ℕ) → ℕ → Answer
parts_answer None address = refused (codes "refused 9 capture" ++ line_feed)
parts_answer (Some parts) address = document_answer (document_of parts.0) address parts.1

-- The answer to an input: where the station with an address first deviated from its rules, given all that the capture has before that
-- place.
unfoldable pub replay_answer : ℕ → List ℕ → Answer
replay_answer address bytes = parts_answer (divided bytes) address
