-- What is answered to several ring documents.
use Rattle.std.specs.Prelude.{ℕ, ◌+◌, ◌==◌, nat_le, Bool, true, false, ◌&&◌, ◌||◌, if◌then◌else◌, List, [], ◌∷◌, ◌++◌, length, map, reverse, codes, Option, Some, None, Result, Ok, Err}
use Rattle.sercos_io.specs.declared.status.Status.TheVariants.{Done, Refused}
use Rattle.sercos_step.specs.declared.request.Job.{Job}
use Rattle.sercos_block.specs.Views.{RingView}
use Rattle.sercos_block.specs.Rings.{wishes_of}
use Rattle.sercos_script.specs.Links.{Carry, Restarts}
use Rattle.sercos_script.specs.Scripts.{carried, restarts_at}
use Rattle.sercos_text.specs.Templates.{line_text}
use Rattle.sercos_text.specs.Templates.Value.{number}
use Rattle.sercos_law_run.specs.Journal.Runs.{run_of}
use Rattle.sercos_law_run.specs.Totals.Totals.{totals_of}
use Rattle.sercos_document.specs.declared.refusal.BadDocument.{BadDocument}
use Rattle.sercos_document.specs.Lines.{line_of}
use Rattle.sercos_config.specs.Views.{DocumentView}
use Rattle.sercos_config.specs.Document.{document_of}
use Rattle.sercos_answer.specs.Answer.{Answer, line_feed}
use Rattle.sercos_multi.specs.Merged.{Voice, merged}
use Rattle.sercos_multi.specs.Divided.{parts_of}

-- the ring of a setup over a link, before its first cycle, with its whole run
abbrev pub voice_under : ℕ → RingView → List Job → Carry → Restarts → Voice
voice_under n r jobs carry restarts = record {
  number = n;
  wishes = wishes_of r;
  totals = totals_of (reverse (run_of r jobs carry restarts r.cycles));
  at = 0;
  later = reverse (run_of r jobs carry restarts r.cycles);
}

-- the link of a document's ring is its script
abbrev pub voice_of : ℕ → DocumentView → Voice
voice_of n d = voice_under n d.setup d.jobs (carried (length d.setup.drives) d.faults) (restarts_at d.faults)

unfoldable pub voices_from : ℕ → List DocumentView → List Voice
voices_from n [] = []
voices_from n (d ∷ documents) = voice_of n d ∷ voices_from (n + 1) documents

-- the contents of all parts, or the first refusal with the number of its part; the first number is n
unfoldable pub with_document : ℕ → Result DocumentView BadDocument → Result (List DocumentView) (ℕ × BadDocument) → Result (List DocumentView) (ℕ × BadDocument)
with_document n (Err bad) others = Err (n, bad)
with_document n (Ok d) (Err refusal) = Err refusal
with_document n (Ok d) (Ok documents) = Ok (d ∷ documents)

unfoldable pub documents_from : ℕ → List (List ℕ) → Result (List DocumentView) (ℕ × BadDocument)
documents_from n [] = Ok []
documents_from n (part ∷ parts) = with_document n (document_of part) (documents_from (n + 1) parts)

-- The first document whose cycle time, in microseconds, isn't the first one's, or the first one if its own doesn't divide 1000:
-- its number, and its cycle time.
unfoldable pub other_cycle : ℕ → ℕ → List ℕ → Option (ℕ × ℕ)
other_cycle time n [] = None
other_cycle time n (cycle ∷ cycles) = if cycle == time then other_cycle time (n + 1) cycles else Some (n, cycle)

abbrev pub is_common : ℕ → Bool
is_common cycle = (cycle == 125) || (cycle == 250) || (cycle == 500) || (cycle == 1000)

unfoldable pub cycle_fault : List ℕ → Option (ℕ × ℕ)
cycle_fault [] = None
cycle_fault (cycle ∷ cycles) = if is_common cycle then other_cycle cycle 2 cycles else Some (1, cycle)

unfoldable pub first_cycle : List ℕ → ℕ
first_cycle [] = 0
first_cycle (cycle ∷ cycles) = cycle

-- the lines of refusals, each `D` standing for a number
abbrev pub count_line : ℕ → List ℕ
count_line n = line_text (codes "refused 11 documents D") (number n ∷ []) ++ line_feed

abbrev pub document_line : ℕ → BadDocument → List ℕ
document_line n bad = line_text (codes "document D ") (number n ∷ []) ++ line_of bad

abbrev pub cycle_line : ℕ → ℕ → List ℕ
cycle_line n cycle = line_text (codes "document D refused 12 cycle D") (number n ∷ number cycle ∷ []) ++ line_feed

abbrev pub cycles_of : List DocumentView → List ℕ
cycles_of documents = map (λ d. d.setup.cycle) documents

unfoldable pub cycles_answer : Option (ℕ × ℕ) → List DocumentView → Answer
cycles_answer (Some fault) documents = record { status = Refused; output = cycle_line fault.0 fault.1 }
cycles_answer None documents = record { status = Done; output = merged (first_cycle (cycles_of documents)) (voices_from 1 documents) }

unfoldable pub documents_answer : Result (List DocumentView) (ℕ × BadDocument) → Answer
documents_answer (Err refusal) = record { status = Refused; output = document_line refusal.0 refusal.1 }
documents_answer (Ok documents) = cycles_answer (cycle_fault (cycles_of documents)) documents

-- 2 to 8 documents
unfoldable pub counted_answer : Bool → List (List ℕ) → Answer
counted_answer true parts = documents_answer (documents_from 1 parts)
counted_answer false parts = record { status = Refused; output = count_line (length parts) }

unfoldable pub rings_answer : List ℕ → Answer
rings_answer bytes = counted_answer (nat_le 2 (length (parts_of bytes)) && nat_le (length (parts_of bytes)) 8) (parts_of bytes)
