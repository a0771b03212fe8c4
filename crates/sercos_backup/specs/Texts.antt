-- The answers of a backup and a restore. In a template `D` is a number, `I` an identifier number, `H` bytes as hexadecimal digits,
-- `-` for none, and `C` the two bytes of a code.
use Rattle.std.specs.Prelude.{ℕ, ◌+◌, ◌/◌, ◌%◌, Bool, false, if◌then◌else◌, List, [], ◌∷◌, codes, Option, Some, None}
use Rattle.std.specs.List.{flat_map}
use Rattle.sercos_step.specs.declared.request.Outcome.{Outcome}
use Rattle.sercos_step.specs.declared.request.Outcome.TheVariants as outcome
use Rattle.sercos_io.specs.declared.status.Status.TheVariants.{Done, No, Refused}
use Rattle.sercos_text.specs.Templates.{line_text}
use Rattle.sercos_text.specs.Templates.Value.{number, bytes, ident}
use Rattle.sercos_answer.specs.Answer.{Answer}
use Rattle.sercos_backup.specs.declared.tracked.Tracked.{Tracked}
use Rattle.sercos_backup.specs.Tracking.{is_well, are_well, bytes_told}

-- the five lines of a ring document that request a write of a block's operation data
unfoldable pub saved_text : ℕ → ℕ → List ℕ → List ℕ
saved_text address raw [] = line_text (codes "[[request]]\ndrive = D\nkind = \"write\"\nidn = \"I\"\ndata = \"\"\n")
    (number address ∷ ident raw ∷ [])
saved_text address raw (byte ∷ content) = line_text (codes "[[request]]\ndrive = D\nkind = \"write\"\nidn = \"I\"\ndata = \"H\"\n")
    (number address ∷ ident raw ∷ bytes (byte ∷ content) ∷ [])

abbrev pub saved_line : Tracked → List ℕ
saved_line t = saved_text t.drive t.idn.raw (bytes_told t.outcome)

abbrev pub saved_lines : List Tracked → List ℕ
saved_lines list = flat_map saved_line list

abbrev pub refused_text : ℕ → ℕ → ℕ → List ℕ
refused_text address raw code = line_text (codes "failed D I refused 0xC\n") (number address ∷ ident raw ∷
    bytes ((code / 256) ∷ (code % 256) ∷ []) ∷ [])

-- how a request failed: it was refused with a code, the ring fell before its end, or it has no outcome
unfoldable pub failed_text : ℕ → ℕ → Option Outcome → List ℕ
failed_text address raw (Some (outcome.Complete content)) = []
failed_text address raw (Some (outcome.Refused code)) = refused_text address raw code.raw
failed_text address raw (Some outcome.Broken) = line_text (codes "failed D I broken\n") (number address ∷ ident raw ∷ [])
failed_text address raw None = line_text (codes "failed D I open\n") (number address ∷ ident raw ∷ [])

-- the lines of those that failed
abbrev pub failed_line : Bool → Tracked → List ℕ
failed_line absent t = if is_well absent t.outcome then [] else failed_text t.drive t.idn.raw t.outcome

abbrev pub failed_lines : Bool → List Tracked → List ℕ
failed_lines absent list = flat_map (failed_line absent) list

-- the line of a write that was complete, with the operation data that the drive has in the end, by its address and the block's number
abbrev pub restored_text : ℕ → ℕ → List ℕ → List ℕ
restored_text address raw content = line_text (codes "restored D I H\n") (number address ∷ ident raw ∷ bytes content ∷ [])

abbrev pub restored_by : List ℕ → Tracked → List ℕ
restored_by content t = if is_well false t.outcome then restored_text t.drive t.idn.raw content else failed_text t.drive t.idn.raw t.outcome

abbrev pub restored_line : (ℕ → ℕ → List ℕ) → Tracked → List ℕ
restored_line found t = restored_by (found t.drive t.idn.raw) t

-- The answers. If a drive's list couldn't be read, or there are too many blocks, nothing is read of them; if one of these couldn't be
-- read, nothing is saved.
abbrev pub failed_answer : Bool → List Tracked → Answer
failed_answer absent list = record { status = No; output = failed_lines absent list }

abbrev pub many_answer : ℕ → Answer
many_answer count = record { status = No; output = line_text (codes "too many D\n") (number count ∷ []) }

abbrev pub saved_answer : List Tracked → Answer
saved_answer list = if are_well false list then (record { status = Done; output = saved_lines list }) else failed_answer false list

abbrev pub restored_answer : (ℕ → ℕ → List ℕ) → List Tracked → Answer
restored_answer found list = record { status = if are_well false list then Done else No; output = flat_map (restored_line found) list }

-- a request that writes no operation data, by its place
abbrev pub other_answer : ℕ → Answer
other_answer place = record { status = Refused; output = line_text (codes "refused 8 request D\n") (number (place + 1) ∷ []) }
