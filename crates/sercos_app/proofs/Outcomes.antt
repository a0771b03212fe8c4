-- What each way in which the top call can end says for its clauses.
use Rattle.std.proofs.Common.{◌≡◌, ◌≢◌, ℕ, ◌≤◌, ◌⊎◌, inl, inr, Bool, true, false, List, [], ◌∷◌, map, length, Option, Some, None, Result, Ok, Err, refl, sym, ◌∙◌, ap, subst}
use Rattle.std.specs.List.{range_with_len}
use Rattle.std.specs.Io.KnownBytes.{Appends}
use Rattle.sercos_model.specs.Streams.{Rose}
use Rattle.sercos_io.specs.declared.status.Status.{Status}
use Rattle.sercos_io.specs.declared.status.Status.TheVariants.{Done, No, Refused, Memory}
use Rattle.sercos_words.specs.declared.form.Form.{Form}
use Rattle.sercos_words.specs.declared.form.Form.TheVariants.{Show, Plan, Margin, Run, Check, Backup, Restore, Gen, Replay}
use Rattle.sercos_script.specs.Links.{Carry, Restarts}
use Rattle.sercos_app.specs.Answer.{command_answer, form_answer, answer_of, SaysOf, SaysWell}
use Rattle.sercos_words.specs.Form.{form_of, reads_input}
use Rattle.sercos_answer.specs.Lines.{lines_of}
use Rattle.sercos_show.specs.Show.{show_answer, show_status, first_fault}
use Rattle.sercos_planning.specs.Planning.{wishes_answer, document_answer, plan_answer, PlansItsRing}
use Rattle.sercos_planning.specs.Margins.{wishes_margins, document_margins, margin_answer, MeasuresItsRing}
use Rattle.sercos_app.specs.Journals.{journal_text}
use Rattle.sercos_opened.specs.Kept.{carry_under, restarts_under, script_carry, script_restarts, document_run}
use Rattle.sercos_app.specs.Running.{traced_answer, run_answer, RunsItsRing}
use Rattle.sercos_checking.specs.declared.verdict.Verdict.{Verdict}
use Rattle.sercos_checking.specs.declared.verdict.Verdict.TheVariants as verdict
use Rattle.sercos_checking.specs.Checking.{capture_fault, first_violation, verdict_by, verdict_of, verdict_status, verdict_text, check_answer}
use Rattle.sercos_trace.specs.declared.reading.Line.{Line}
use Rattle.sercos_replay.specs.Cycles.{cycles_of}
use Rattle.sercos_replay.specs.Places.{PlaceView}
use Rattle.sercos_replay.specs.Divided.{divided}
use Rattle.sercos_replay.specs.Stations.{Station, station_of, station_differs, lines_read}
use Rattle.sercos_replay.specs.Replaying.{place_answer, station_answer, verdict_answer, ruled_answer, started_answer, judged_answer, capture_answer, found_answer, document_answer as captured_answer, parts_answer, replay_answer, late_start}
use Rattle.std.specs.Prelude.{nat_le, if◌then◌else◌}
use Rattle.sercos_step.specs.declared.request.Job.{Job}
use Rattle.sercos_block.specs.Views.{RingView}
use Rattle.sercos_answer.specs.Answer.{Answer}
use Rattle.sercos_backup.specs.Jobs.{list_jobs, place_of_other}
use Rattle.sercos_backup.specs.Tracking.{are_well}
use Rattle.sercos_app.specs.Saving.{run_tracked, data_answer, lists_answer, ring_saved, writes_answer, ring_restored, answer_by, backup_answer, restore_answer}
use Rattle.sercos_app.specs.Saved.{second_jobs}
use Rattle.sercos_config.specs.Generated.{generated, generated_fault}
use Rattle.sercos_script.specs.Cuts.{has_flip}
use Rattle.sercos_opened.proofs.KeptLemmas.{document_clear}
use Rattle.sercos_app.specs.Generating.{gen_answer, RunsGenerated}
use Rattle.sercos_timing.specs.Views.{WishesView, PlanView}
use Rattle.sercos_plan.specs.Views.{ChainView}
use Rattle.sercos_plan.specs.ChainOf.{planned}
use Rattle.sercos_block.specs.Rings.{wishes_of}
use Rattle.sercos_document.specs.declared.refusal.BadDocument.{BadDocument}
use Rattle.sercos_config.specs.Views.{DocumentView}
use Rattle.sercos_config.specs.Document.{document_of}
use Rattle.sercos_call.specs.Outcome.{SourceChange, SinkChange, Writes, Replies, TakesInput, IsCommand, Outcome}
use Rattle.sercos_call.specs.Outcome.Outcome.{stopped, answered}
use Rattle.sercos_call.specs.TopCall.{writes_nothing, HasInput, IsAnswer, IsGiven, ReadsWhole}
use Rattle.sercos_call.specs.TopCall.IsGiven.{done, refused, declined}
use Rattle.sercos_call.proofs.Outcomes.{at_no, not_stopped, stops-few, told_whole, whole_or_short, fault-done, fault-no}
use Rattle.sercos_call.proofs.ReplyLemmas.{answer_ends as answered_ends}
use Rattle.sercos_app.specs.Outcome.{Ends}
use Rattle.sercos_app.specs.TopCall.{NonePlanned, LeastPlanned, MarginsTold, ChainTold, ViolationTold, CleanTold, RunTraced, RunSummed}
use Rattle.sercos_law_run.proofs.Theorems.{length-run_of}

IsGiven-fault : (fault : Option (ℕ × ℕ)) → IsGiven (show_status fault)
unfolding show_status
IsGiven-fault None = done
IsGiven-fault (Some place) = refused

IsGiven-wishes : (w : WishesView) (made : Result PlanView ChainView) → IsGiven (wishes_answer w made).status
unfolding wishes_answer
IsGiven-wishes w (Ok p) = done
IsGiven-wishes w (Err c) = declined

IsGiven-document : (document : Result DocumentView BadDocument) → IsGiven (document_answer document).status
unfolding document_answer
IsGiven-document (Ok d) = IsGiven-wishes (wishes_of d.setup) (planned (wishes_of d.setup))
IsGiven-document (Err bad) = refused

IsGiven-wishes_margins : (w : WishesView) (made : Result PlanView ChainView) → IsGiven (wishes_margins w made).status
unfolding wishes_margins
IsGiven-wishes_margins w (Ok p) = done
IsGiven-wishes_margins w (Err c) = declined

IsGiven-margins : (document : Result DocumentView BadDocument) → IsGiven (document_margins document).status
unfolding document_margins
IsGiven-margins (Ok d) = IsGiven-wishes_margins (wishes_of d.setup) (planned (wishes_of d.setup))
IsGiven-margins (Err bad) = refused

IsGiven-traced : (carry : Carry) (restarts : Restarts) (document : Result DocumentView BadDocument) → IsGiven (traced_answer carry restarts document).status
unfolding traced_answer
IsGiven-traced carry restarts (Ok d) = done
IsGiven-traced carry restarts (Err bad) = refused

IsGiven-verdict : (v : Verdict) → IsGiven (verdict_status v)
unfolding verdict_status
IsGiven-verdict (verdict.Refused line column) = refused
IsGiven-verdict (verdict.Violation line rule) = declined
IsGiven-verdict (verdict.Clean lines) = done

IsGiven-place : (place : Option PlaceView) (cycles : ℕ) → IsGiven (place_answer place cycles).status
unfolding place_answer
IsGiven-place None cycles = done
IsGiven-place (Some place) cycles = declined

IsGiven-judged : (v : Verdict) (start : Option ℕ) (s : Station) (lines : List Line) → IsGiven (judged_answer v start s lines).status
unfolding judged_answer started_answer ruled_answer station_answer verdict_answer
IsGiven-judged (verdict.Refused line column) start s lines = IsGiven-verdict (verdict.Refused line column)
IsGiven-judged (verdict.Violation line rule) (Some cycle) s lines = refused
IsGiven-judged (verdict.Violation line rule) None s lines = IsGiven-verdict (verdict.Violation line rule)
IsGiven-judged (verdict.Clean count) (Some cycle) s lines = refused
IsGiven-judged (verdict.Clean count) None s lines = IsGiven-place (station_differs s (cycles_of lines)) (length (cycles_of lines))

IsGiven-found : (found : Option Station) (address : ℕ) (capture : List ℕ) → IsGiven (found_answer found address capture).status
unfolding found_answer capture_answer
IsGiven-found None address capture = refused
IsGiven-found (Some s) address capture = IsGiven-judged (verdict_of capture) (late_start capture) s (lines_read capture)

IsGiven-captured : (document : Result DocumentView BadDocument) (address : ℕ) (capture : List ℕ) → IsGiven (captured_answer document address capture).status
unfolding captured_answer
IsGiven-captured (Ok d) address capture = IsGiven-found (station_of address d) address capture
IsGiven-captured (Err bad) address capture = refused

IsGiven-parts : (parts : Option (List ℕ × List ℕ)) (address : ℕ) → IsGiven (parts_answer parts address).status
unfolding parts_answer
IsGiven-parts None address = refused
IsGiven-parts (Some parts) address = IsGiven-captured (document_of parts.0) address parts.1

IsGiven-replay : (address : ℕ) (bytes : List ℕ) → IsGiven (replay_answer address bytes).status
unfolding replay_answer
IsGiven-replay address bytes = IsGiven-parts (divided bytes) address

IsGiven-if : (b : Bool) (x y : Answer) → IsGiven x.status → IsGiven y.status → IsGiven (if b then x else y).status
IsGiven-if true x y first second = first
IsGiven-if false x y first second = second

IsGiven-saved : (r : RingView) (jobs : List Job) (carry : Carry) (restarts : Restarts) → IsGiven (ring_saved r jobs carry restarts).status
unfolding lists_answer data_answer
IsGiven-saved r jobs carry restarts =
    IsGiven-if (are_well true (run_tracked r (list_jobs r) carry restarts)) _ _
    (IsGiven-if (nat_le (length (second_jobs r carry restarts)) 4096) _ _ (IsGiven-if (are_well false (run_tracked r (second_jobs r carry restarts) carry restarts)) _ _ done declined) declined)
    declined

IsGiven-whole : (b : Bool) → IsGiven (if b then Done else No)
IsGiven-whole true = done
IsGiven-whole false = declined

IsGiven-writes : (r : RingView) (jobs : List Job) (carry : Carry) (restarts : Restarts) (other : Option ℕ) → IsGiven (writes_answer r jobs carry restarts other).status
unfolding writes_answer
IsGiven-writes r jobs carry restarts None = IsGiven-whole (are_well false (run_tracked r jobs carry restarts))
IsGiven-writes r jobs carry restarts (Some place) = refused

IsGiven-by : (answer : RingView → List Job → Carry → Restarts → Answer) → ((r : RingView) (jobs : List Job) (carry : Carry) (restarts : Restarts) → IsGiven (answer r jobs carry restarts).status)
    → (document : Result DocumentView BadDocument) → IsGiven (answer_by answer document).status
unfolding answer_by
IsGiven-by answer given (Ok d) = given d.setup d.jobs (script_carry d) (script_restarts d)
IsGiven-by answer given (Err bad) = refused

IsGiven-answer : (carry : Carry) (restarts : Restarts) (form : Form) (bytes : List ℕ) → IsGiven (command_answer carry restarts form bytes).status
unfolding command_answer show_answer plan_answer margin_answer run_answer check_answer backup_answer restore_answer gen_answer
IsGiven-answer carry restarts Show bytes = IsGiven-fault (first_fault 1 (lines_of bytes))
IsGiven-answer carry restarts Plan bytes = IsGiven-document (document_of bytes)
IsGiven-answer carry restarts Run bytes = IsGiven-traced carry restarts (document_of bytes)
IsGiven-answer carry restarts Check bytes = IsGiven-verdict (verdict_of bytes)
IsGiven-answer carry restarts Margin bytes = IsGiven-margins (document_of bytes)
IsGiven-answer carry restarts Backup bytes = IsGiven-by ring_saved IsGiven-saved (document_of bytes)
IsGiven-answer carry restarts Restore bytes = IsGiven-by ring_restored (λ r jobs c rs. IsGiven-writes r jobs c rs (place_of_other jobs)) (document_of bytes)
IsGiven-answer carry restarts (Gen n) bytes = done
IsGiven-answer carry restarts (Replay address) bytes = IsGiven-replay address bytes

answer_of-form : (carry : Carry) (restarts : Restarts) (words : List (List ℕ)) (bytes : List ℕ) (form : Form) → form_of words ≡ Some form → answer_of carry restarts words bytes ≡ command_answer carry restarts form bytes
unfolding answer_of form_answer
answer_of-form carry restarts words bytes form e = rw e refl

-- what a form reads, and that it has an answer
form_none : (form : Option Form) → form ≡ None → reads_input form ≡ false
unfolding reads_input
form_none form none = ap reads_input none

same_answer : (carry : Carry) (restarts : Restarts) (form : Form) → reads_input (Some form) ≡ false → (a b : List ℕ) → command_answer carry restarts form a ≡ command_answer carry restarts form b
unfolding reads_input command_answer
same_answer carry restarts Show reads a b = absurd (cc)
same_answer carry restarts Plan reads a b = absurd (cc)
same_answer carry restarts Run reads a b = absurd (cc)
same_answer carry restarts Check reads a b = absurd (cc)
same_answer carry restarts Margin reads a b = absurd (cc)
same_answer carry restarts Backup reads a b = absurd (cc)
same_answer carry restarts Restore reads a b = absurd (cc)
same_answer carry restarts (Gen n) reads a b = refl
same_answer carry restarts (Replay address) reads a b = absurd (cc)

command : (carry : Carry) (restarts : Restarts) (words : List (List ℕ)) → IsCommand (form_of words) (reads_input (form_of words)) (answer_of carry restarts words)
command carry restarts words = record {
  none = form_none (form_of words);
  one = λ form is reads a b. answer_of-form carry restarts words a form is ∙ same_answer carry restarts form (sym (ap reads_input is) ∙ reads) a b ∙ sym (answer_of-form carry restarts words b form is);
  given = λ form is bytes. subst (λ (a : Answer). IsGiven a.status) (sym (answer_of-form carry restarts words bytes form is)) (IsGiven-answer carry restarts form bytes);
}

pub law_of : {carry : Carry} {restarts : Restarts} {words : List (List ℕ)} {source : SourceChange} {sink : SinkChange} {Unread Unwritten : Type 0} {status : Status} → Ends carry restarts words source sink Unread Unwritten status
    → IsCommand (form_of words) (reads_input (form_of words)) (answer_of carry restarts words)
law_of {carry = carry} {restarts = restarts} {words = words} out = command carry restarts words

-- how the call ends, from how answering by the command of a form does
pub answer_ends : (carry : Carry) (restarts : Restarts) (words : List (List ℕ)) (form : Form) (bytes : List ℕ) (source : SourceChange) (sink : SinkChange) (Unread Unwritten : Type 0) (status : Status)
    → form_of words ≡ Some form → source.faults' ≡ source.faults → TakesInput (reads_input (Some form)) source Unread bytes → (Unwritten → sink.faults' ≡ sink.faults)
    → Replies (command_answer carry restarts form bytes) (SaysWell carry restarts form bytes) sink Unwritten status → Ends carry restarts words source sink Unread Unwritten status
unfolding answer_of form_answer
answer_ends carry restarts words form bytes source sink Unread Unwritten status is well input same replies = record {
  how = answered_ends (form_of words) (reads_input (form_of words)) (answer_of carry restarts words) (SaysOf carry restarts (form_of words)) form bytes source sink Unread Unwritten status is well
      (subst (λ (o : Option Form). TakesInput (reads_input o) source Unread bytes) (sym is) input) same
      (subst (λ (o : Option Form). Replies (form_answer carry restarts o bytes) (SaysOf carry restarts o bytes) sink Unwritten status) (sym is) replies);
}

-- What a command answered: the input, what its answer says beside its text, and how writing it ended.
pub record Answered (carry : Carry) (restarts : Restarts) (form : Form) (source : SourceChange) (sink : SinkChange) (Unread : Type 0) (status : Status) : Type 0 where
  pub bytes : List ℕ
  pub says : SaysWell carry restarts form bytes
  pub input : TakesInput (reads_input (Some form)) source Unread bytes
  pub ends : Writes (command_answer carry restarts form bytes).status (command_answer carry restarts form bytes).output sink status

pub answered_by : {carry : Carry} {restarts : Restarts} {words : List (List ℕ)} {source : SourceChange} {sink : SinkChange} {Unread Unwritten : Type 0} {status : Status} → Ends carry restarts words source sink Unread Unwritten status → (form : Form) → form_of words ≡ Some form → writes_nothing status ≡ false → Answered carry restarts form source sink Unread status
answered_by {carry = carry} {restarts = restarts} {words = words} {source = source} {sink = sink} {Unread = Unread} {Unwritten = Unwritten} out form is after = by out.how after
  where
    by : {status : Status} → Outcome (form_of words) (reads_input (form_of words)) (answer_of carry restarts words) (SaysOf carry restarts (form_of words)) source sink Unread Unwritten status → writes_nothing status ≡ false → Answered carry restarts form source sink Unread status
    by (stopped status why sink_same writes) after = absurd (not_stopped why after refl)
    by (answered named bytes status found says reads input ends) after = record {
      bytes = bytes;
      says = subst (λ (o : Option Form). SaysOf carry restarts o bytes) is says;
      input = subst (λ (o : Option Form). TakesInput (reads_input o) source Unread bytes) is input;
      ends = subst (λ (a : Answer). Writes a.status a.output sink status) (answer_of-form carry restarts words bytes form is) ends;
    }

-- the answer of a command to an input that its source tells
pub answers_told : {carry : Carry} {restarts : Restarts} {words : List (List ℕ)} {source : SourceChange} {sink : SinkChange} {Unread Unwritten : Type 0} {status : Status} → Ends carry restarts words source sink Unread Unwritten status
    → (form : Form) (all : List ℕ) → form_of words ≡ Some form → reads_input (Some form) ≡ true → source.left ≡ Some all → length all ≤ 1048576
    → (Rose source.faults source.faults' → ⊥) → (Rose sink.faults sink.faults' → ⊥) → (status ≡ Memory) ⊎ (SaysWell carry restarts form all × IsAnswer (command_answer carry restarts form all) status sink.held sink.held')
answers_told {carry = carry} {restarts = restarts} {words = words} {source = source} {sink = sink} {Unread = Unread} {Unwritten = Unwritten} out form all is reads told fits well taken = by out.how
  where
    by : {status : Status} → Outcome (form_of words) (reads_input (form_of words)) (answer_of carry restarts words) (SaysOf carry restarts (form_of words)) source sink Unread Unwritten status
        → (status ≡ Memory) ⊎ (SaysWell carry restarts form all × IsAnswer (command_answer carry restarts form all) status sink.held sink.held')
    by (stopped status why sink_same writes) =
        inl (stops-few why all (subst (λ (b : Bool). HasInput b source.left all) (sym (ap reads_input is ∙ reads)) told) fits (λ none. let bad : None ≡ Some form = sym none ∙ is in cc) well)
    by (answered named bytes status found says read input ends) =
        let whole : ReadsWhole source.left source.left' bytes = subst (λ (b : Bool). TakesInput b source Unread bytes) (ap reads_input is ∙ reads) input in
        let same : bytes ≡ all = told_whole all bytes source.left source.left' told whole in
        let own = subst (λ (o : Option Form). SaysOf carry restarts o bytes) is says in
        let written = subst (λ (a : Answer). Writes a.status a.output sink status) (answer_of-form carry restarts words bytes form is ∙ ap (command_answer carry restarts form) same) ends in
        elim (whole_or_short written) [
          | inl w ↦ inr (subst (SaysWell carry restarts form) same own, record { status_is = sym w.status_is; written = w.written })
          | inr w ↦ absurd (taken w.rose)
        ]

-- writing it ended with a status of answers, so that it was written whole
pub done_whole : (carry : Carry) (restarts : Restarts) (form : Form) (bytes : List ℕ) (sink : SinkChange) (status : Status) → Writes (command_answer carry restarts form bytes).status (command_answer carry restarts form bytes).output sink status → status ≡ Done
    → ((command_answer carry restarts form bytes).status ≡ Done) × Appends sink.held sink.held' (command_answer carry restarts form bytes).output
done_whole carry restarts form bytes sink status ends e = elim (whole_or_short ends) [ inl w ↦ (w.status_is ∙ e, w.written) | inr w ↦ absurd (fault-done (IsGiven-answer _ _ form bytes) (w.status_is ∙ e)) ]

pub no_whole : (carry : Carry) (restarts : Restarts) (form : Form) (bytes : List ℕ) (sink : SinkChange) (status : Status) → Writes (command_answer carry restarts form bytes).status (command_answer carry restarts form bytes).output sink status → status ≡ No
    → ((command_answer carry restarts form bytes).status ≡ No) × Appends sink.held sink.held' (command_answer carry restarts form bytes).output
no_whole carry restarts form bytes sink status ends e = elim (whole_or_short ends) [ inl w ↦ (w.status_is ∙ e, w.written) | inr w ↦ absurd (fault-no (IsGiven-answer _ _ form bytes) (w.status_is ∙ e)) ]

-- what a document says that isn't refused
document_read : (document : Result DocumentView BadDocument) → (document_answer document).status ≢ Refused → (d : DocumentView) × (document ≡ Ok d)
unfolding document_answer
document_read (Ok d) given = (d, refl)
document_read (Err bad) given = absurd (given refl)

-- what the answers of `plan` say
none-plan : (carry : Carry) (restarts : Restarts) (bytes : List ℕ) (left left' held held' : Option (List ℕ)) → PlansItsRing bytes → (command_answer carry restarts Plan bytes).status ≡ No → ReadsWhole left left' bytes
    → Appends held held' (command_answer carry restarts Plan bytes).output → NonePlanned left left' held held'
unfolding command_answer plan_answer
none-plan carry restarts bytes left left' held held' says at input written =
    let (d, read) = document_read (document_of bytes) (λ e. absurd (cc)) in
    let (chain, made, is, least, text) = (says d read).chain at in
    record { bytes = bytes; read = input; says = d; document = read; none = (says d read).no at; chain = chain; made = made; is_chain = is; is_least = least; written = rw text at written }

least-plan : (carry : Carry) (restarts : Restarts) (bytes : List ℕ) (left left' held held' : Option (List ℕ)) → PlansItsRing bytes → (command_answer carry restarts Plan bytes).status ≡ Done → ReadsWhole left left' bytes
    → Appends held held' (command_answer carry restarts Plan bytes).output → LeastPlanned left left' held held'
unfolding command_answer plan_answer
least-plan carry restarts bytes left left' held held' says at input written =
    let (d, read) = document_read (document_of bytes) (λ e. absurd (cc)) in
    let (plan, made, least, text) = (says d read).done at in
    record { bytes = bytes; read = input; says = d; document = read; plan = plan; made = made; least = least; written = rw text at written }

pub at_none_fits : {carry : Carry} {restarts : Restarts} {words : List (List ℕ)} {source : SourceChange} {sink : SinkChange} {Unread Unwritten : Type 0} {status : Status} → Ends carry restarts words source sink Unread Unwritten status → status ≡ No → form_of words ≡ Some Plan → NonePlanned source.left source.left' sink.held sink.held'
unfolding writes_nothing reads_input
at_none_fits out e f =
    let a = answered_by out Plan f (ap writes_nothing e) in
    let whole = no_whole _ _ Plan a.bytes _ _ a.ends e in
    none-plan _ _ a.bytes _ _ _ _ a.says whole.0 a.input whole.1

pub at_least_plan : {carry : Carry} {restarts : Restarts} {words : List (List ℕ)} {source : SourceChange} {sink : SinkChange} {Unread Unwritten : Type 0} {status : Status} → Ends carry restarts words source sink Unread Unwritten status → status ≡ Done → form_of words ≡ Some Plan → LeastPlanned source.left source.left' sink.held sink.held'
unfolding writes_nothing reads_input
at_least_plan out e f =
    let a = answered_by out Plan f (ap writes_nothing e) in
    let whole = done_whole _ _ Plan a.bytes _ _ a.ends e in
    least-plan _ _ a.bytes _ _ _ _ a.says whole.0 a.input whole.1

-- what the answers of `margin` say
margins_read : (document : Result DocumentView BadDocument) → (document_margins document).status ≢ Refused → (d : DocumentView) × (document ≡ Ok d)
unfolding document_margins
margins_read (Ok d) given = (d, refl)
margins_read (Err bad) given = absurd (given refl)

told-margins : (carry : Carry) (restarts : Restarts) (bytes : List ℕ) (left left' held held' : Option (List ℕ)) → MeasuresItsRing bytes → (command_answer carry restarts Margin bytes).status ≡ Done → ReadsWhole left left' bytes
    → Appends held held' (command_answer carry restarts Margin bytes).output → MarginsTold left left' held held'
unfolding command_answer margin_answer
told-margins carry restarts bytes left left' held held' says at input written =
    let (d, read) = margins_read (document_of bytes) (λ e. absurd (cc)) in
    record { bytes = bytes; read = input; says = d; document = read; text = (document_margins (document_of bytes)).output; tells = (says d read).done at; written = written }

told-chain : (carry : Carry) (restarts : Restarts) (bytes : List ℕ) (left left' held held' : Option (List ℕ)) → MeasuresItsRing bytes → (command_answer carry restarts Margin bytes).status ≡ No → ReadsWhole left left' bytes
    → Appends held held' (command_answer carry restarts Margin bytes).output → ChainTold left left' held held'
unfolding command_answer margin_answer
told-chain carry restarts bytes left left' held held' says at input written =
    let (d, read) = margins_read (document_of bytes) (λ e. absurd (cc)) in
    record { bytes = bytes; read = input; says = d; document = read; text = (document_margins (document_of bytes)).output; tells = (says d read).no at; written = written }

pub at_margins : {carry : Carry} {restarts : Restarts} {words : List (List ℕ)} {source : SourceChange} {sink : SinkChange} {Unread Unwritten : Type 0} {status : Status} → Ends carry restarts words source sink Unread Unwritten status → status ≡ Done → form_of words ≡ Some Margin → MarginsTold source.left source.left' sink.held sink.held'
unfolding writes_nothing reads_input
at_margins out e f =
    let a = answered_by out Margin f (ap writes_nothing e) in
    let whole = done_whole _ _ Margin a.bytes _ _ a.ends e in
    told-margins _ _ a.bytes _ _ _ _ a.says whole.0 a.input whole.1

pub at_chain : {carry : Carry} {restarts : Restarts} {words : List (List ℕ)} {source : SourceChange} {sink : SinkChange} {Unread Unwritten : Type 0} {status : Status} → Ends carry restarts words source sink Unread Unwritten status → status ≡ No → form_of words ≡ Some Margin → ChainTold source.left source.left' sink.held sink.held'
unfolding writes_nothing reads_input
at_chain out e f =
    let a = answered_by out Margin f (ap writes_nothing e) in
    let whole = no_whole _ _ Margin a.bytes _ _ a.ends e in
    told-chain _ _ a.bytes _ _ _ _ a.says whole.0 a.input whole.1

-- what the answers of `check` say
verdict_violation : (fault broken : Option (ℕ × ℕ)) (lines : ℕ) → verdict_status (verdict_by fault broken lines) ≡ No
    → (fault ≡ None) × (first : ℕ × ℕ) × (broken ≡ Some first) × (verdict_by fault broken lines ≡ verdict.Violation first.0 first.1)
unfolding verdict_by verdict_status
verdict_violation (Some fault) broken lines e = absurd (cc)
verdict_violation None (Some first) lines e = (refl, first, refl, refl)
verdict_violation None None lines e = absurd (cc)

verdict_clean : (fault broken : Option (ℕ × ℕ)) (lines : ℕ) → verdict_status (verdict_by fault broken lines) ≡ Done
    → (fault ≡ None) × (broken ≡ None) × (verdict_by fault broken lines ≡ verdict.Clean lines)
unfolding verdict_by verdict_status
verdict_clean (Some fault) broken lines e = absurd (cc)
verdict_clean None (Some first) lines e = absurd (cc)
verdict_clean None None lines e = (refl, refl, refl)

told-violation : (carry : Carry) (restarts : Restarts) (bytes : List ℕ) (left left' held held' : Option (List ℕ)) → (command_answer carry restarts Check bytes).status ≡ No → ReadsWhole left left' bytes
    → Appends held held' (command_answer carry restarts Check bytes).output → ViolationTold left left' held held'
unfolding command_answer check_answer verdict_of verdict_text
told-violation carry restarts bytes left left' held held' at input written =
    let (shaped, first, is, verdict_is) = verdict_violation (capture_fault [] (lines_of bytes)) (first_violation [] (lines_of bytes)) (length (lines_of bytes)) at in
    record { bytes = bytes; read = input; shaped = shaped; line = first.0; rule = first.1; first = is; written = subst (Appends held held') (ap verdict_text verdict_is) written }

told-clean : (carry : Carry) (restarts : Restarts) (bytes : List ℕ) (left left' held held' : Option (List ℕ)) → (command_answer carry restarts Check bytes).status ≡ Done → ReadsWhole left left' bytes
    → Appends held held' (command_answer carry restarts Check bytes).output → CleanTold left left' held held'
unfolding command_answer check_answer verdict_of verdict_text
told-clean carry restarts bytes left left' held held' at input written =
    let (shaped, none, verdict_is) = verdict_clean (capture_fault [] (lines_of bytes)) (first_violation [] (lines_of bytes)) (length (lines_of bytes)) at in
    record { bytes = bytes; read = input; shaped = shaped; none = none; written = subst (Appends held held') (ap verdict_text verdict_is) written }

pub at_violation : {carry : Carry} {restarts : Restarts} {words : List (List ℕ)} {source : SourceChange} {sink : SinkChange} {Unread Unwritten : Type 0} {status : Status} → Ends carry restarts words source sink Unread Unwritten status → status ≡ No → form_of words ≡ Some Check → ViolationTold source.left source.left' sink.held sink.held'
unfolding writes_nothing reads_input
at_violation out e f =
    let a = answered_by out Check f (ap writes_nothing e) in
    let whole = no_whole _ _ Check a.bytes _ _ a.ends e in
    told-violation _ _ a.bytes _ _ _ _ whole.0 a.input whole.1

pub at_clean : {carry : Carry} {restarts : Restarts} {words : List (List ℕ)} {source : SourceChange} {sink : SinkChange} {Unread Unwritten : Type 0} {status : Status} → Ends carry restarts words source sink Unread Unwritten status → status ≡ Done → form_of words ≡ Some Check → CleanTold source.left source.left' sink.held sink.held'
unfolding writes_nothing reads_input
at_clean out e f =
    let a = answered_by out Check f (ap writes_nothing e) in
    let whole = done_whole _ _ Check a.bytes _ _ a.ends e in
    told-clean _ _ a.bytes _ _ _ _ whole.0 a.input whole.1

traced-read : (carry : Carry) (restarts : Restarts) (document : Result DocumentView BadDocument) → (traced_answer carry restarts document).status ≢ Refused
    → (d : DocumentView) × (document ≡ Ok d) × ((traced_answer carry restarts document).output ≡ journal_text (wishes_of d.setup) (document_run carry restarts d))
unfolding traced_answer
traced-read carry restarts (Ok d) given = (d, refl, refl)
traced-read carry restarts (Err bad) given = absurd (given refl)

traced-run : (carry : Carry) (restarts : Restarts) (bytes : List ℕ) (left left' held held' : Option (List ℕ)) → RunsItsRing carry restarts bytes
    → (command_answer carry restarts Run bytes).status ≡ Done → ReadsWhole left left' bytes → Appends held held' (command_answer carry restarts Run bytes).output
    → RunTraced carry restarts left left' held held'
unfolding command_answer run_answer
traced-run carry restarts bytes left left' held held' says at input written =
    let (d, read, text) = traced-read carry restarts (document_of bytes) (λ e. absurd (cc)) in
    record {
      bytes = bytes;
      read = input;
      says = d;
      document = read;
      journal = document_run carry restarts d;
      kept = (says d read).kept;
      clear = document_clear carry restarts d (says d read).kept;
      clean = (says d read).clean;
      count = length-run_of d.setup d.jobs (carry_under d carry) (restarts_under d restarts) d.setup.cycles;
      written = rw text at written;
    }

pub at_traced : {carry : Carry} {restarts : Restarts} {words : List (List ℕ)} {source : SourceChange} {sink : SinkChange} {Unread Unwritten : Type 0} {status : Status} → Ends carry restarts words source sink Unread Unwritten status → status ≡ Done → form_of words ≡ Some Run → RunTraced carry restarts source.left source.left' sink.held sink.held'
unfolding writes_nothing reads_input
at_traced out e f =
    let a = answered_by out Run f (ap writes_nothing e) in
    let whole = done_whole _ _ Run a.bytes _ _ a.ends e in
    traced-run _ _ a.bytes _ _ _ _ a.says whole.0 a.input whole.1

-- no fault of a generated document is a flip
none_flipped : (n : ℕ) → has_flip (generated n).faults ≡ false
unfolding generated generated_fault
none_flipped n = by (range_with_len 1 n)
  where
    by : (drives : List ℕ) → has_flip (map (generated_fault n) drives) ≡ false
    by [] = refl
    by (k ∷ drives) = by drives

-- what the answer of `gen` says
summed-run : (carry : Carry) (restarts : Restarts) (n : ℕ) (bytes : List ℕ) (held held' : Option (List ℕ)) → RunsGenerated carry restarts n
    → Appends held held' (command_answer carry restarts (Gen n) bytes).output → RunSummed carry restarts n held held'
unfolding command_answer gen_answer
summed-run carry restarts n bytes held held' says written =
    record {
      journal = document_run carry restarts (generated n);
      kept = says;
      clear = document_clear carry restarts (generated n) says (none_flipped n);
      count = length-run_of (generated n).setup (generated n).jobs (carry_under (generated n) carry) (restarts_under (generated n) restarts) (generated n).setup.cycles;
      written = written;
    }

pub at_summed : {carry : Carry} {restarts : Restarts} {words : List (List ℕ)} {source : SourceChange} {sink : SinkChange} {Unread Unwritten : Type 0} {status : Status} → Ends carry restarts words source sink Unread Unwritten status → (n : ℕ) → status ≡ Done → form_of words ≡ Some (Gen n) → RunSummed carry restarts n sink.held sink.held'
unfolding writes_nothing
at_summed out n e f =
    let a = answered_by out (Gen n) f (ap writes_nothing e) in
    summed-run _ _ n a.bytes _ _ a.says (done_whole _ _ (Gen n) a.bytes _ _ a.ends e).1

-- which commands answer No
traced-done : (carry : Carry) (restarts : Restarts) (document : Result DocumentView BadDocument) → (traced_answer carry restarts document).status ≢ No
unfolding traced_answer
traced-done carry restarts (Ok d) e = cc
traced-done carry restarts (Err bad) e = cc

shown-done : (fault : Option (ℕ × ℕ)) → show_status fault ≢ No
unfolding show_status
shown-done None e = cc
shown-done (Some place) e = cc

no_of : (carry : Carry) (restarts : Restarts) (form : Form) (bytes : List ℕ) → (command_answer carry restarts form bytes).status ≡ No → (form ≡ Plan) ⊎ (form ≡ Margin) ⊎ (form ≡ Check) ⊎ (form ≡ Backup) ⊎ (form ≡ Restore) ⊎ ((address : ℕ) × (form ≡ Replay address))
unfolding command_answer show_answer run_answer gen_answer
no_of carry restarts Show bytes e = absurd (shown-done (first_fault 1 (lines_of bytes)) e)
no_of carry restarts Plan bytes e = inl refl
no_of carry restarts Run bytes e = absurd (traced-done carry restarts (document_of bytes) e)
no_of carry restarts Margin bytes e = inr (inl refl)
no_of carry restarts Check bytes e = inr (inr (inl refl))
no_of carry restarts Backup bytes e = inr (inr (inr (inl refl)))
no_of carry restarts Restore bytes e = inr (inr (inr (inr (inl refl))))
no_of carry restarts (Replay address) bytes e = inr (inr (inr (inr (inr (address, refl)))))
no_of carry restarts (Gen n) bytes e = absurd (cc)

pub at_no_of : {carry : Carry} {restarts : Restarts} {words : List (List ℕ)} {source : SourceChange} {sink : SinkChange} {Unread Unwritten : Type 0} {status : Status} → Ends carry restarts words source sink Unread Unwritten status → status ≡ No → (form_of words ≡ Some Plan) ⊎ (form_of words ≡ Some Margin) ⊎ (form_of words ≡ Some Check) ⊎ (form_of words ≡ Some Backup) ⊎ (form_of words ≡ Some Restore) ⊎ ((address : ℕ) × (form_of words ≡ Some (Replay address)))
unfolding answer_of form_answer
at_no_of {carry = carry} {restarts = restarts} {words = words} out e = let no = at_no (law_of out) out.how e in by (form_of words) no.bytes no.status_is
  where
    by : (o : Option Form) (bytes : List ℕ) → (form_answer carry restarts o bytes).status ≡ No → (o ≡ Some Plan) ⊎ (o ≡ Some Margin) ⊎ (o ≡ Some Check) ⊎ (o ≡ Some Backup) ⊎ (o ≡ Some Restore) ⊎ ((address : ℕ) × (o ≡ Some (Replay address)))
    by None bytes e = cc
    by (Some form) bytes e =
        elim (no_of carry restarts form bytes e) [
          | inl plan ↦ inl (ap Some plan)
          | inr (inl margin) ↦ inr (inl (ap Some margin))
          | inr (inr (inl check)) ↦ inr (inr (inl (ap Some check)))
          | inr (inr (inr (inl backup))) ↦ inr (inr (inr (inl (ap Some backup))))
          | inr (inr (inr (inr (inl restore)))) ↦ inr (inr (inr (inr (inl (ap Some restore)))))
          | inr (inr (inr (inr (inr (address, replay))))) ↦ inr (inr (inr (inr (inr (address, ap Some replay)))))
        ]
