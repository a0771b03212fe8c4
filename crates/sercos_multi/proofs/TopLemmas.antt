-- What is so of the one form, and of its answers.
use Rattle.std.proofs.Common.{◌≡◌, ◌≢◌, ℕ, ◌≤◌, subst, arith, Bool, true, false, List, length, Option, Some, None, Result, Ok, Err, refl, sym, ◌∙◌, ap}
use Rattle.std.specs.Prelude.{◌&&◌, nat_le}
use Rattle.std.proofs.lemmas.Bool.{false≢true}
use Rattle.std.proofs.lemmas.Bool.Decides.{nat_tests}
use Rattle.std.specs.Io.KnownBytes.{Appends}
use Rattle.sercos_answer.specs.Answer.{Answer}
use Rattle.sercos_io.specs.declared.status.Status.{Status}
use Rattle.sercos_io.specs.declared.status.Status.TheVariants as statuses
use Rattle.sercos_document.specs.declared.refusal.BadDocument.{BadDocument}
use Rattle.sercos_config.specs.Views.{DocumentView}
use Rattle.sercos_call.specs.TopCall.{IsGiven}
use Rattle.sercos_call.specs.TopCall.IsGiven.{done, refused}
use Rattle.sercos_call.specs.Outcome.{IsCommand, Outcome, SinkChange, SourceChange}
use Rattle.sercos_call.proofs.Outcomes.{at_no, at_told}
use Rattle.sercos_call.specs.TopCall.{IsInput, ReadsWhole}
use Rattle.sercos_multi.specs.declared.words.Form.{Form}
use Rattle.sercos_multi.specs.declared.words.Form.TheVariants.{Run}
use Rattle.sercos_multi.specs.Words.{reads_input}
use Rattle.sercos_multi.specs.Asking.{counted_answer, cycles_answer, cycle_fault, cycles_of, documents_answer, documents_from, first_cycle, rings_answer, voices_from}
use Rattle.sercos_multi.specs.Divided.{parts_of}
use Rattle.sercos_multi.specs.Merged.{merged}
use Rattle.sercos_multi.specs.RingRuns.{RingsMerged, RunsItsRings}
use Rattle.std.proofs.lemmas.List.{length-map}
use Rattle.sercos_multi.proofs.OwnRuns.{lines_are_traces}
use Rattle.sercos_multi.proofs.RunLemmas.{common_is, documents_count, time_is}
use Rattle.sercos_multi.proofs.TogetherLemmas.{together}

-- answers are done or refused
data IsEnded : Status → Type 0 where
  ended_done : IsEnded statuses.Done
  ended_refused : IsEnded statuses.Refused

ended_cycles : (fault : Option (ℕ × ℕ)) (documents : List DocumentView) → IsEnded (cycles_answer fault documents).status
unfolding cycles_answer
ended_cycles (Some fault) documents = ended_refused
ended_cycles None documents = ended_done

ended_documents : (r : Result (List DocumentView) (ℕ × BadDocument)) → IsEnded (documents_answer r).status
unfolding documents_answer
ended_documents (Err refusal) = ended_refused
ended_documents (Ok documents) = ended_cycles (cycle_fault (cycles_of documents)) documents

ended_counted : (b : Bool) (parts : List (List ℕ)) → IsEnded (counted_answer b parts).status
unfolding counted_answer
ended_counted true parts = ended_documents (documents_from 1 parts)
ended_counted false parts = ended_refused

ended_rings : (bytes : List ℕ) → IsEnded (rings_answer bytes).status
unfolding rings_answer
ended_rings bytes = ended_counted (nat_le 2 (length (parts_of bytes)) && nat_le (length (parts_of bytes)) 8) (parts_of bytes)

ended_given : {status : Status} → IsEnded status → IsGiven status
ended_given ended_done = done
ended_given ended_refused = refused

ended_not : {status : Status} → IsEnded status → status ≢ statuses.No
ended_not ended_done e = cc
ended_not ended_refused e = cc

reads_form : (form : Option Form) → form ≡ None → reads_input form ≡ false
unfolding reads_input
reads_form form none = ap reads_input none

pub reads_none : (form : Option Form) (named : Form) → form ≡ Some named → reads_input form ≡ true
unfolding reads_input
reads_none form Run is = ap reads_input is

-- a form reads its source: only words in no form read nothing, and then there is no answer
pub form_reads : (form : Option Form) (none : form ≢ None) → reads_input form ≡ true
unfolding reads_input
form_reads None none = absurd (none refl)
form_reads (Some Run) none = refl

pub never : {form : Option Form} {source : SourceChange} {sink : SinkChange} {Unread Unwritten : Type 0} {status : Status} → IsCommand form (reads_input form) rings_answer
    → Outcome form (reads_input form) rings_answer RunsItsRings source sink Unread Unwritten status → status ≢ statuses.No
never law out e = let no = at_no law out e in ended_not (ended_rings no.bytes) no.status_is

pub command : (form : Option Form) → IsCommand form (reads_input form) rings_answer
command form = record {
  none = reads_form form;
  one = λ named is reads a b. absurd (false≢true (sym reads ∙ reads_none form named is));
  given = λ named is bytes. ended_given (ended_rings bytes);
}

-- an answer that is done
record IsMerged (bytes : List ℕ) : Type 0 where
  documents : List DocumentView
  said : documents_from 1 (parts_of bytes) ≡ Ok documents
  two : 2 ≤ length (parts_of bytes)
  eight : length (parts_of bytes) ≤ 8
  common : cycle_fault (cycles_of documents) ≡ None
  output : (rings_answer bytes).output ≡ merged (first_cycle (cycles_of documents)) (voices_from 1 documents)

record IsRight (parts : List (List ℕ)) (answer : Answer) : Type 0 where
  documents : List DocumentView
  said : documents_from 1 parts ≡ Ok documents
  common : cycle_fault (cycles_of documents) ≡ None
  output : answer.output ≡ merged (first_cycle (cycles_of documents)) (voices_from 1 documents)

right_documents : (parts : List (List ℕ)) (r : Result (List DocumentView) (ℕ × BadDocument)) → documents_from 1 parts ≡ r → (documents_answer r).status ≡ statuses.Done → IsRight parts (documents_answer r)
unfolding documents_answer cycles_answer
right_documents parts (Err refusal) is given = absurd (cc)
right_documents parts (Ok documents) is given = by (cycle_fault (cycles_of documents)) refl given
  where
    by : (fault : Option (ℕ × ℕ)) → cycle_fault (cycles_of documents) ≡ fault → (cycles_answer fault documents).status ≡ statuses.Done → IsRight parts (cycles_answer fault documents)
    by None none so = record { documents = documents; said = is; common = none; output = refl }
    by (Some fault) some so = absurd (cc)

few_of : (n : ℕ) (a b : Bool) → nat_le 2 n ≡ a → nat_le n 8 ≡ b → (a && b) ≡ true → (2 ≤ n) × (n ≤ 8)
few_of n true true two eight both = (grind (arith, nat_tests, two), grind (arith, nat_tests, eight))
few_of n true false two eight both = absurd (cc)
few_of n false b two eight both = absurd (cc)

is_merged : (bytes : List ℕ) → (rings_answer bytes).status ≡ statuses.Done → IsMerged bytes
unfolding rings_answer counted_answer
is_merged bytes given = by (nat_le 2 (length (parts_of bytes)) && nat_le (length (parts_of bytes)) 8) refl given
  where
    by : (b : Bool) → (nat_le 2 (length (parts_of bytes)) && nat_le (length (parts_of bytes)) 8) ≡ b → (counted_answer b (parts_of bytes)).status ≡ statuses.Done → IsMerged bytes
    by true e so =
        let few = few_of (length (parts_of bytes)) (nat_le 2 (length (parts_of bytes))) (nat_le (length (parts_of bytes)) 8) refl refl e in
        let right = right_documents (parts_of bytes) (documents_from 1 (parts_of bytes)) refl so in
        record {
          documents = right.documents;
          said = right.said;
          two = few.0;
          eight = few.1;
          common = right.common;
          output = ap (λ (a : Answer). a.output) (ap (λ b. counted_answer b (parts_of bytes)) e) ∙ right.output;
        }
    by false e so = absurd (cc)

read_whole : (reads : Bool) (left left' : Option (List ℕ)) (bytes : List ℕ) → reads ≡ true → IsInput reads left left' bytes → ReadsWhole left left' bytes
read_whole true left left' bytes is read = read
read_whole false left left' bytes is read = absurd (false≢true is)

pub at_merged : {form : Option Form} {source : SourceChange} {sink : SinkChange} {Unread Unwritten : Type 0} {status : Status} → IsCommand form (reads_input form) rings_answer
    → Outcome form (reads_input form) rings_answer RunsItsRings source sink Unread Unwritten status → status ≡ statuses.Done → RingsMerged source.left source.left' sink.held sink.held'
at_merged {form = form} {source = source} {sink = sink} law out e =
    let told = at_told law out e in
    let is = is_merged told.bytes told.status_is in
    let count = documents_count 1 (parts_of told.bytes) is.documents is.said in
    let two = is.two in
    let eight = is.eight in
    let cycles = length-map is.documents (λ (d : DocumentView). d.setup.cycle) in
    record {
      bytes = told.bytes;
      read = read_whole (reads_input form) source.left source.left' told.bytes (reads_none form told.named told.is) told.read;
      says = is.documents;
      documents = is.said;
      some = omega (arith, count, two);
      few = omega (arith, count, eight);
      common = is.common;
      runs = told.says is.two is.eight is.documents is.said;
      traces = lines_are_traces (first_cycle (cycles_of is.documents)) is.documents (time_is (cycles_of is.documents) (omega (arith, cycles, count, two)) is.common).some (omega (arith, count, eight))
          (λ k d within. (told.says is.two is.eight is.documents is.said k d within).some);
      together = together (first_cycle (cycles_of is.documents)) is.documents (common_is (cycles_of is.documents) (omega (arith, cycles, count, two)) is.common);
      written = subst (λ text. Appends sink.held sink.held' text) is.output told.written;
    }
