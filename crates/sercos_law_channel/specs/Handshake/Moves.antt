-- The moves of the two ends, each of which keeps them in step. Each list has its newest item first.
use Rattle.std.specs.Prelude.{◌≡◌, ℕ, Bool, if◌then◌else◌, List, [], ◌∷◌, None}
use mathlib.Core.Bool.{beq}
use Rattle.sercos_telegram.specs.declared.words.Status.{Status}
use Rattle.sercos_step.specs.declared.step.Answer.{Answer}
use Rattle.sercos_step.specs.declared.request.Request.{Request}
use Rattle.sercos_service_drive.specs.Log.{Processed, Entry}
use Rattle.sercos_service_drive.specs.Says.{shown, shown_by}
use Rattle.sercos_service_master.specs.Begun.{Begun, Said, open_in, is_odd, answers_it, answer_in, with_answer, master_says}
use Rattle.sercos_law_channel.specs.Handshake.InStep.{AreInStep}

-- The master receives a status and a word that show what the drive shows of a log, whose AHS is the parity of the log.
abbrev pub with_status : Status → ℕ → List Begun → List Begun
with_status status word begun = if answers_it begun status then with_answer (answer_in status word) begun else begun

abbrev pub Hears : Type 0
Hears = (begun : List Begun) (log : List Entry) (busy cycle : ℕ) (change : Bool) (status : Status) (word : ℕ) →
    AreInStep begun log → shown_by status word ≡ shown busy cycle (is_odd log) change log → AreInStep (with_status status word begun) log

-- The master begins a request, where no step is open.
abbrev pub Begins : Type 0
Begins = (begun : List Begun) (log : List Entry) (r : Request) →
    AreInStep begun log → open_in begun ≡ None → AreInStep (record { request = r; answers = [] } ∷ begun) log

-- The drive takes a record that says what the master says: it is dropped where its bit is the parity of the log, and joins
-- the log else, whatever the answer is.
abbrev pub said_in : Processed → Said
said_in t = record { mhs = t.mhs; step = t.step }

abbrev pub with_processed : Processed → Answer → List Entry → List Entry
with_processed t answer log = if beq t.mhs (is_odd log) then log else (record { processed = t; answer = answer }) ∷ log

abbrev pub Takes : Type 0
Takes = (begun : List Begun) (log : List Entry) (t : Processed) (answer : Answer) →
    AreInStep begun log → said_in t ≡ master_says begun → AreInStep begun (with_processed t answer log)
