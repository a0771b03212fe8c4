-- What each way in which a top call can end says for its clauses.
use Rattle.std.proofs.Common.{◌≡◌, ◌≢◌, ℕ, ◌<◌, ◌≤◌, ◌⊎◌, inl, inr, Bool, true, false, IsTrue, List, [], ◌++◌, length, take, Option, Some, None, refl, sym, ◌∙◌, ap, subst, arith, ◌+◌, append-nil, length-append}
use Rattle.std.proofs.lemmas.Bool.{false≢true}
use Rattle.std.specs.Io.KnownBytes.{Appends, Consumes}
use Rattle.std.proofs.lemmas.Option.{same_Some}
use Rattle.sercos_model.specs.Streams.{Rose}
use Rattle.sercos_io.specs.declared.status.Status.{Status}
use Rattle.sercos_io.specs.declared.status.Status.TheVariants.{Done, No, BadWords, Refused, ReadFault, WriteFault, Memory, TooLong}
use Rattle.sercos_answer.specs.Answer.{Answer}
use Rattle.sercos_call.specs.Outcome.{SourceChange, SinkChange, Writes, Stops, TakesInput, Outcome, IsCommand}
use Rattle.sercos_call.specs.Outcome.Writes.{whole, short}
use Rattle.sercos_call.specs.Outcome.Stops.{no_form, unreadable, too_many, no_memory}
use Rattle.sercos_call.specs.Outcome.Outcome.{stopped, answered}
use Rattle.sercos_call.specs.TopCall.{writes_nothing, fault_status, ReadsWhole, IsInput, HasInput, TakesAtMost, TakesTooMany, IsAnswered, IsCutShort, IsAnswer, IsGiven}
use Rattle.sercos_call.specs.TopCall.IsGiven.{done, refused, declined}

-- no status that is written is one of those that come before
IsGiven-writes_nothing : {status : Status} → IsGiven status → writes_nothing status ≡ false
unfolding writes_nothing
IsGiven-writes_nothing done = refl
IsGiven-writes_nothing refused = refl
IsGiven-writes_nothing declined = refl

IsGiven-fault_writes : {status : Status} → IsGiven status → writes_nothing (fault_status status) ≡ false
unfolding writes_nothing fault_status
IsGiven-fault_writes done = refl
IsGiven-fault_writes refused = refl
IsGiven-fault_writes declined = refl

-- a status that writing an answer ends with
writes_nothing-Writes : {first status : Status} {text : List ℕ} {sink : SinkChange} → IsGiven first → Writes first text sink status → writes_nothing status ≡ false
writes_nothing-Writes given (whole appends same) = IsGiven-writes_nothing given
writes_nothing-Writes given (short count below appends kept rose full) = IsGiven-fault_writes given

-- a status that comes after writing is none of those that come before
not_before : {status other : Status} → writes_nothing status ≡ false → writes_nothing other ≡ true → status ≡ other → ⊥
not_before after before same = false≢true (sym after ∙ ap writes_nothing same ∙ before)

-- what was read from a source that told its bytes
pub told_whole : (bytes read : List ℕ) (left left' : Option (List ℕ)) → left ≡ Some bytes → ReadsWhole left left' read → read ≡ bytes
told_whole bytes read None left' told reads = absurd (cc)
told_whole bytes read (Some xs) None told reads = absurd reads.consumed
told_whole bytes read (Some xs) (Some ys) told reads =
    let all : xs ≡ bytes = same_Some _ _ told in
    let none : ys ≡ [] = reads.ended in
    let front : xs ≡ read ++ ys = reads.consumed in
    sym (append-nil read) ∙ ap (λ zs. read ++ zs) (sym none) ∙ sym front ∙ all

-- a source that told its bytes gave them all
many_told : (bytes : List ℕ) (left left' : Option (List ℕ)) → left ≡ Some bytes → TakesTooMany left left' → 1048577 ≤ length bytes
many_told bytes None left' told takes = absurd (cc)
many_told bytes (Some xs) None told takes = absurd takes.consumed
many_told bytes (Some xs) (Some ys) told takes =
    let all : xs ≡ bytes = same_Some _ _ told in
    let front : xs ≡ takes.taken ++ ys = takes.consumed in
    let lengths : length xs ≡ length takes.taken + length ys = ap length front ∙ length-append takes.taken ys in
    omega (arith, takes.many, lengths, ap length all)

too_many_told : (reads : Bool) (bytes : List ℕ) (left left' : Option (List ℕ)) → reads ≡ true → HasInput reads left bytes → TakesTooMany left left' → 1048577 ≤ length bytes
too_many_told true bytes left left' is told takes = many_told bytes left left' told takes
too_many_told false bytes left left' is told takes = absurd (false≢true is)

-- a source that told more bytes than an input may have
few_told : (reads : Bool) (bytes all : List ℕ) (source : SourceChange) (Unread : Type 0) → reads ≡ true → source.left ≡ Some all → TakesInput reads source Unread bytes → length all ≤ 1048576
few_told true bytes all source Unread is told input = let same = ap length (told_whole all bytes source.left source.left' told input) in let fits = input.fits in omega (arith, same, fits)
few_told false bytes all source Unread is told input = absurd (false≢true is)

-- what is known of it when the call is done
input_of : (reads : Bool) (bytes : List ℕ) (source : SourceChange) (Unread : Type 0) → TakesInput reads source Unread bytes → IsInput reads source.left source.left' bytes
input_of true bytes source Unread input = input
input_of false bytes source Unread input = (input.1, input.2)

pub unread_input : (reads : Bool) (bytes : List ℕ) (source : SourceChange) (Unread : Type 0) → TakesInput reads source Unread bytes → reads ≡ false → Unread
unread_input true bytes source Unread input is = absurd (false≢true (sym is))
unread_input false bytes source Unread input is = input.0

-- what is taken from a source that is left as it was
taken_none : (left : Option (List ℕ)) → Consumes left left []
taken_none None = tt
taken_none (Some bytes) = refl

pub takes_none : (most : ℕ) (left left' : Option (List ℕ)) → left' ≡ left → TakesAtMost most left left'
takes_none most left left' same =
    record { taken = []; few = omega arith; consumed = subst (λ after. Consumes left after []) (sym same) (taken_none left) }

takes_more : {less most : ℕ} {left left' : Option (List ℕ)} → less ≤ most → TakesAtMost less left left' → TakesAtMost most left left'
takes_more above t = record { taken = t.taken; few = omega (arith, t.few); consumed = t.consumed }

pub takes_input : (reads : Bool) (bytes : List ℕ) (source : SourceChange) (Unread : Type 0) → TakesInput reads source Unread bytes → TakesAtMost 1048576 source.left source.left'
takes_input true bytes source Unread input = record { taken = bytes; few = input.fits; consumed = input.consumed }
takes_input false bytes source Unread input = takes_none 1048576 source.left source.left' input.1

-- What is known of a call that stopped before anything was written.

-- a command that reads isn't one that doesn't
pub stays_read : (Unread : Type 0) (reads : Bool) (same : reads ≡ true) → reads ≡ false → Unread
stays_read Unread reads same e = absurd (false≢true (sym e ∙ same))

stops_before : {F : Type 0} {form : Option F} {reads : Bool} {source : SourceChange} {Unread : Type 0} {status : Status} → Stops form reads source Unread status → writes_nothing status ≡ true
unfolding writes_nothing
stops_before (no_form nothing unread same reads) = refl
stops_before (unreadable is falls rose takes) = refl
stops_before (too_many is reads takes) = refl
stops_before (no_memory reads takes unread) = refl

-- it ended with no status of an answer
pub not_stopped : {F : Type 0} {form : Option F} {reads : Bool} {source : SourceChange} {Unread : Type 0} {status wanted : Status} → Stops form reads source Unread status → writes_nothing wanted ≡ false → status ≡ wanted → ⊥
not_stopped why after same = false≢true (sym after ∙ sym (ap writes_nothing same) ∙ stops_before why)

stops-bad_words : {F : Type 0} {form : Option F} {reads : Bool} {source : SourceChange} {Unread : Type 0} {status : Status} → Stops form reads source Unread status → status ≡ BadWords → form ≡ None
stops-bad_words (no_form nothing unread same reads) e = nothing
stops-bad_words (unreadable is falls rose takes) e = absurd (cc)
stops-bad_words (too_many is reads takes) e = absurd (cc)
stops-bad_words (no_memory reads takes unread) e = absurd (cc)

stops-no_form : {F : Type 0} {form : Option F} {reads : Bool} {source : SourceChange} {Unread : Type 0} {status : Status} → (form ≡ None → reads ≡ false) → Stops form reads source Unread status → form ≡ None → (status ≡ Memory) ⊎ (status ≡ BadWords)
stops-no_form law (no_form nothing unread same reads) none = inr refl
stops-no_form law (unreadable is falls rose takes) none = absurd (false≢true (sym (law none) ∙ is))
stops-no_form law (too_many is reads takes) none = absurd (false≢true (sym (law none) ∙ is))
stops-no_form law (no_memory reads takes unread) none = inl refl

stops-unread : {F : Type 0} {form : Option F} {reads : Bool} {source : SourceChange} {Unread : Type 0} {status : Status} → Stops form reads source Unread status → reads ≡ false → Unread
stops-unread (no_form nothing unread same reads) e = unread
stops-unread (unreadable is falls rose takes) e = absurd (false≢true (sym e ∙ is))
stops-unread (too_many is reads takes) e = absurd (false≢true (sym e ∙ is))
stops-unread (no_memory reads takes unread) e = unread e

stops-read_fault : {F : Type 0} {form : Option F} {reads : Bool} {source : SourceChange} {Unread : Type 0} {status : Status} → Stops form reads source Unread status → status ≡ ReadFault → Rose source.faults source.faults'
stops-read_fault (no_form nothing unread same reads) e = absurd (cc)
stops-read_fault (unreadable is falls rose takes) e = rose
stops-read_fault (too_many is reads takes) e = absurd (cc)
stops-read_fault (no_memory reads takes unread) e = absurd (cc)

stops-read_count : {F : Type 0} {form : Option F} {reads : Bool} {source : SourceChange} {Unread : Type 0} {status : Status} → Stops form reads source Unread status → source.faults ≤ source.faults'
stops-read_count (no_form nothing unread same reads) = omega arith
stops-read_count (unreadable is falls rose takes) = falls
stops-read_count (too_many is reads takes) = omega arith
stops-read_count (no_memory reads takes unread) = omega arith

stops-read_well : {F : Type 0} {form : Option F} {reads : Bool} {source : SourceChange} {Unread : Type 0} {status : Status} → Stops form reads source Unread status → status ≢ ReadFault → source.faults' ≡ source.faults
stops-read_well (no_form nothing unread same reads) e = reads
stops-read_well (unreadable is falls rose takes) e = absurd (e refl)
stops-read_well (too_many is reads takes) e = reads
stops-read_well (no_memory reads takes unread) e = reads

stops-taken : {F : Type 0} {form : Option F} {reads : Bool} {source : SourceChange} {Unread : Type 0} {status : Status} → Stops form reads source Unread status → TakesAtMost 1048577 source.left source.left'
stops-taken (no_form nothing unread same reads) = takes_none _ _ _ same
stops-taken (unreadable is falls rose takes) = takes_more (omega arith) takes
stops-taken (too_many is reads takes) = record { taken = takes.taken; few = omega (arith, takes.many); consumed = takes.consumed }
stops-taken (no_memory reads takes unread) = takes_more (omega arith) takes

stops-taken_few : {F : Type 0} {form : Option F} {reads : Bool} {source : SourceChange} {Unread : Type 0} {status : Status} → Stops form reads source Unread status → status ≢ TooLong → TakesAtMost 1048576 source.left source.left'
stops-taken_few (no_form nothing unread same reads) other = takes_none _ _ _ same
stops-taken_few (unreadable is falls rose takes) other = takes
stops-taken_few (too_many is reads takes) other = absurd (other refl)
stops-taken_few (no_memory reads takes unread) other = takes

stops-too_long : {F : Type 0} {form : Option F} {reads : Bool} {source : SourceChange} {Unread : Type 0} {status : Status} → Stops form reads source Unread status → status ≡ TooLong → TakesTooMany source.left source.left'
stops-too_long (no_form nothing unread same reads) e = absurd (cc)
stops-too_long (unreadable is falls rose takes) e = absurd (cc)
stops-too_long (too_many is reads takes) e = takes
stops-too_long (no_memory reads takes unread) e = absurd (cc)

-- with words in a form and no failed read, there was too much input or no memory
stops-well : {F : Type 0} {form : Option F} {reads : Bool} {source : SourceChange} {Unread : Type 0} {status : Status} → Stops form reads source Unread status → form ≢ None → (Rose source.faults source.faults' → ⊥) → (status ≡ Memory) ⊎ ((status ≡ TooLong) × (reads ≡ true) × TakesTooMany source.left source.left')
stops-well (no_form nothing unread same reads) some well = absurd (some nothing)
stops-well (unreadable is falls rose takes) some well = absurd (well rose)
stops-well (too_many is reads takes) some well = inr (refl, is, takes)
stops-well (no_memory reads takes unread) some well = inl refl

-- with an input that isn't too long there was no memory
pub stops-few : {F : Type 0} {form : Option F} {reads : Bool} {source : SourceChange} {Unread : Type 0} {status : Status} → Stops form reads source Unread status → (bytes : List ℕ) → HasInput reads source.left bytes → length bytes ≤ 1048576 → form ≢ None → (Rose source.faults source.faults' → ⊥) → status ≡ Memory
stops-few why bytes told fits some well = elim (stops-well why some well) [ inl memory ↦ memory | inr many ↦ absurd (omega (arith, fits, too_many_told _ bytes _ _ many.1 told many.2)) ]

-- The clauses of the top call, each from how the call ended.

pub at_bad_words : {F : Type 0} {form : Option F} {reads : Bool} {answer : List ℕ → Answer} {Says : List ℕ → Type 0} {source : SourceChange} {sink : SinkChange} {Unread Unwritten : Type 0} {status : Status} → IsCommand form reads answer → Outcome form reads answer Says source sink Unread Unwritten status → status ≡ BadWords → form ≡ None
unfolding writes_nothing
at_bad_words law (stopped status why sink_same writes) e = stops-bad_words why e
at_bad_words law (answered named bytes status is says reads input ends) e = absurd (not_before (writes_nothing-Writes (law.given named is bytes) ends) refl e)

pub at_no_form : {F : Type 0} {form : Option F} {reads : Bool} {answer : List ℕ → Answer} {Says : List ℕ → Type 0} {source : SourceChange} {sink : SinkChange} {Unread Unwritten : Type 0} {status : Status} → IsCommand form reads answer → Outcome form reads answer Says source sink Unread Unwritten status → form ≡ None → (status ≡ Memory) ⊎ (status ≡ BadWords)
at_no_form law (stopped status why sink_same writes) none = stops-no_form law.none why none
at_no_form law (answered named bytes status is says reads input ends) none = absurd (cc)

pub at_unread : {F : Type 0} {form : Option F} {reads : Bool} {answer : List ℕ → Answer} {Says : List ℕ → Type 0} {source : SourceChange} {sink : SinkChange} {Unread Unwritten : Type 0} {status : Status} → IsCommand form reads answer → Outcome form reads answer Says source sink Unread Unwritten status → reads ≡ false → Unread
at_unread law (stopped status why sink_same writes) e = stops-unread why e
at_unread law (answered named bytes status is says reads input ends) e = unread_input _ _ _ _ input e

pub at_unwritten : {F : Type 0} {form : Option F} {reads : Bool} {answer : List ℕ → Answer} {Says : List ℕ → Type 0} {source : SourceChange} {sink : SinkChange} {Unread Unwritten : Type 0} {status : Status} → IsCommand form reads answer → Outcome form reads answer Says source sink Unread Unwritten status → IsTrue (writes_nothing status) → Unwritten
at_unwritten law (stopped status why sink_same writes) e = sink_same
at_unwritten law (answered named bytes status is says reads input ends) e = absurd (false≢true (sym (writes_nothing-Writes (law.given named is bytes) ends) ∙ e))

pub at_read_fault : {F : Type 0} {form : Option F} {reads : Bool} {answer : List ℕ → Answer} {Says : List ℕ → Type 0} {source : SourceChange} {sink : SinkChange} {Unread Unwritten : Type 0} {status : Status} → IsCommand form reads answer → Outcome form reads answer Says source sink Unread Unwritten status → status ≡ ReadFault → Rose source.faults source.faults'
unfolding writes_nothing
at_read_fault law (stopped status why sink_same writes) e = stops-read_fault why e
at_read_fault law (answered named bytes status is says reads input ends) e = absurd (not_before (writes_nothing-Writes (law.given named is bytes) ends) refl e)

pub at_read_count : {F : Type 0} {form : Option F} {reads : Bool} {answer : List ℕ → Answer} {Says : List ℕ → Type 0} {source : SourceChange} {sink : SinkChange} {Unread Unwritten : Type 0} {status : Status} → IsCommand form reads answer → Outcome form reads answer Says source sink Unread Unwritten status → source.faults ≤ source.faults'
at_read_count law (stopped status why sink_same writes) = stops-read_count why
at_read_count law (answered named bytes status is says reads input ends) = omega arith

pub at_read_well : {F : Type 0} {form : Option F} {reads : Bool} {answer : List ℕ → Answer} {Says : List ℕ → Type 0} {source : SourceChange} {sink : SinkChange} {Unread Unwritten : Type 0} {status : Status} → IsCommand form reads answer → Outcome form reads answer Says source sink Unread Unwritten status → status ≢ ReadFault → source.faults' ≡ source.faults
at_read_well law (stopped status why sink_same writes) e = stops-read_well why e
at_read_well law (answered named bytes status is says reads input ends) e = reads

pub at_taken : {F : Type 0} {form : Option F} {reads : Bool} {answer : List ℕ → Answer} {Says : List ℕ → Type 0} {source : SourceChange} {sink : SinkChange} {Unread Unwritten : Type 0} {status : Status} → IsCommand form reads answer → Outcome form reads answer Says source sink Unread Unwritten status → TakesAtMost 1048577 source.left source.left'
at_taken law (stopped status why sink_same writes) = stops-taken why
at_taken law (answered named bytes status is says reads input ends) = takes_more (omega arith) (takes_input _ _ _ _ input)

pub at_taken_few : {F : Type 0} {form : Option F} {reads : Bool} {answer : List ℕ → Answer} {Says : List ℕ → Type 0} {source : SourceChange} {sink : SinkChange} {Unread Unwritten : Type 0} {status : Status} → IsCommand form reads answer → Outcome form reads answer Says source sink Unread Unwritten status → status ≢ TooLong → TakesAtMost 1048576 source.left source.left'
at_taken_few law (stopped status why sink_same writes) other = stops-taken_few why other
at_taken_few law (answered named bytes status is says reads input ends) other = takes_input _ _ _ _ input

pub at_too_long : {F : Type 0} {form : Option F} {reads : Bool} {answer : List ℕ → Answer} {Says : List ℕ → Type 0} {source : SourceChange} {sink : SinkChange} {Unread Unwritten : Type 0} {status : Status} → IsCommand form reads answer → Outcome form reads answer Says source sink Unread Unwritten status → status ≡ TooLong → TakesTooMany source.left source.left'
unfolding writes_nothing
at_too_long law (stopped status why sink_same writes) e = stops-too_long why e
at_too_long law (answered named bytes status is says reads input ends) e = absurd (not_before (writes_nothing-Writes (law.given named is bytes) ends) refl e)

-- a failed write's status is no other answer's
pub fault-done : {status : Status} → IsGiven status → fault_status status ≢ Done
unfolding fault_status
fault-done done e = absurd (cc)
fault-done refused e = absurd (cc)
fault-done declined e = absurd (cc)

pub fault-no : {status : Status} → IsGiven status → fault_status status ≢ No
unfolding fault_status
fault-no done e = absurd (cc)
fault-no refused e = absurd (cc)
fault-no declined e = absurd (cc)

not_write_fault : {status : Status} → IsGiven status → status ≢ WriteFault
not_write_fault done e = absurd (cc)
not_write_fault refused e = absurd (cc)
not_write_fault declined e = absurd (cc)

-- an answer that was written as a whole
pub record IsWhole (first status : Status) (text : List ℕ) (sink : SinkChange) : Type 0 where
  pub status_is : first ≡ status
  pub written : Appends sink.held sink.held' text
  pub same : sink.faults' ≡ sink.faults

-- one whose writing failed
pub record IsShort (first status : Status) (text : List ℕ) (sink : SinkChange) : Type 0 where
  pub status_is : fault_status first ≡ status
  pub count : ℕ
  pub short : count < length text
  pub written : Appends sink.held sink.held' (take count text)
  pub falls : sink.faults ≤ sink.faults'
  pub rose : Rose sink.faults sink.faults'
  pub full : length text ≤ sink.room → ⊥

pub whole_or_short : {first status : Status} {text : List ℕ} {sink : SinkChange} → Writes first text sink status → IsWhole first status text sink ⊎ IsShort first status text sink
whole_or_short (whole appends same) = inl (record { status_is = refl; written = appends; same = same })
whole_or_short (short count below appends falls rose full) =
    inr (record { status_is = refl; count = count; short = below; written = appends; falls = falls; rose = rose; full = full })

answered-whole : (reads : Bool) (answer : List ℕ → Answer) (bytes : List ℕ) (status wanted : Status) (left left' : Option (List ℕ)) (sink : SinkChange) → IsInput reads left left' bytes → IsWhole (answer bytes).status status (answer bytes).output sink → status ≡ wanted
    → IsAnswered reads answer wanted left left' sink.held sink.held'
answered-whole reads answer bytes status wanted left left' sink input w e = record { bytes = bytes; read = input; status_is = w.status_is ∙ e; written = w.written }

answered-short : (reads : Bool) (answer : List ℕ → Answer) (bytes : List ℕ) (status wanted : Status) (left left' : Option (List ℕ)) (sink : SinkChange) → IsInput reads left left' bytes → IsShort (answer bytes).status status (answer bytes).output sink → status ≡ wanted
    → IsCutShort reads answer wanted left left' sink.held sink.held'
answered-short reads answer bytes status wanted left left' sink input w e = record { bytes = bytes; read = input; status_is = w.status_is ∙ e; count = w.count; short = w.short; written = w.written }

-- the answer to the bytes that a source told
told_answer : (reads : Bool) (answer : List ℕ → Answer) → (reads ≡ false → (a b : List ℕ) → answer a ≡ answer b) → (all bytes : List ℕ) (source : SourceChange) (Unread : Type 0) → HasInput reads source.left all → TakesInput reads source Unread bytes
    → answer bytes ≡ answer all
told_answer true answer one all bytes source Unread told input = ap answer (told_whole all bytes source.left source.left' told input)
told_answer false answer one all bytes source Unread told input = one refl bytes all

-- and those on what was answered

pub at_done : {F : Type 0} {form : Option F} {reads : Bool} {answer : List ℕ → Answer} {Says : List ℕ → Type 0} {source : SourceChange} {sink : SinkChange} {Unread Unwritten : Type 0} {status : Status} → IsCommand form reads answer → Outcome form reads answer Says source sink Unread Unwritten status → status ≡ Done → IsAnswered reads answer Done source.left source.left' sink.held sink.held'
unfolding writes_nothing
at_done law (stopped status why sink_same writes) e = absurd (not_stopped why refl e)
at_done law (answered named bytes status is says reads input ends) e = elim (whole_or_short ends) [ inl w ↦ answered-whole _ _ bytes _ Done _ _ _ (input_of _ _ _ _ input) w e | inr w ↦ absurd (fault-done (law.given named is bytes) (w.status_is ∙ e)) ]

-- an answer that is done, with what it says beside its text
pub record IsTold {F : Type 0} (form : Option F) (reads : Bool) (answer : List ℕ → Answer) (Says : List ℕ → Type 0) (left left' held held' : Option (List ℕ)) : Type 0 where
  pub named : F
  pub is : form ≡ Some named
  pub bytes : List ℕ
  pub read : IsInput reads left left' bytes
  pub says : Says bytes
  pub status_is : (answer bytes).status ≡ Done
  pub written : Appends held held' (answer bytes).output

pub at_told : {F : Type 0} {form : Option F} {reads : Bool} {answer : List ℕ → Answer} {Says : List ℕ → Type 0} {source : SourceChange} {sink : SinkChange} {Unread Unwritten : Type 0} {status : Status} → IsCommand form reads answer → Outcome form reads answer Says source sink Unread Unwritten status → status ≡ Done → IsTold form reads answer Says source.left source.left' sink.held sink.held'
unfolding writes_nothing
at_told law (stopped status why sink_same writes) e = absurd (not_stopped why refl e)
at_told law (answered named bytes status is says reads input ends) e = elim (whole_or_short ends) [ inl w ↦ record { named = named; is = is; bytes = bytes; read = input_of _ _ _ _ input; says = says; status_is = w.status_is ∙ e; written = w.written } | inr w ↦ absurd (fault-done (law.given named is bytes) (w.status_is ∙ e)) ]

pub at_no : {F : Type 0} {form : Option F} {reads : Bool} {answer : List ℕ → Answer} {Says : List ℕ → Type 0} {source : SourceChange} {sink : SinkChange} {Unread Unwritten : Type 0} {status : Status} → IsCommand form reads answer → Outcome form reads answer Says source sink Unread Unwritten status → status ≡ No → IsAnswered reads answer No source.left source.left' sink.held sink.held'
unfolding writes_nothing
at_no law (stopped status why sink_same writes) e = absurd (not_stopped why refl e)
at_no law (answered named bytes status is says reads input ends) e = elim (whole_or_short ends) [ inl w ↦ answered-whole _ _ bytes _ No _ _ _ (input_of _ _ _ _ input) w e | inr w ↦ absurd (fault-no (law.given named is bytes) (w.status_is ∙ e)) ]

pub at_refused : {F : Type 0} {form : Option F} {reads : Bool} {answer : List ℕ → Answer} {Says : List ℕ → Type 0} {source : SourceChange} {sink : SinkChange} {Unread Unwritten : Type 0} {status : Status} → IsCommand form reads answer → Outcome form reads answer Says source sink Unread Unwritten status → status ≡ Refused → ((sink.faults' ≡ sink.faults) × IsAnswered reads answer Refused source.left source.left' sink.held sink.held') ⊎ (Rose sink.faults sink.faults' × IsCutShort reads answer Refused source.left source.left' sink.held sink.held')
unfolding writes_nothing
at_refused law (stopped status why sink_same writes) e = absurd (not_stopped why refl e)
at_refused law (answered named bytes status is says reads input ends) e = elim (whole_or_short ends) [ inl w ↦ inl (w.same, answered-whole _ _ bytes _ Refused _ _ _ (input_of _ _ _ _ input) w e) | inr w ↦ inr (w.rose, answered-short _ _ bytes _ Refused _ _ _ (input_of _ _ _ _ input) w e) ]

pub at_write_fault : {F : Type 0} {form : Option F} {reads : Bool} {answer : List ℕ → Answer} {Says : List ℕ → Type 0} {source : SourceChange} {sink : SinkChange} {Unread Unwritten : Type 0} {status : Status} → IsCommand form reads answer → Outcome form reads answer Says source sink Unread Unwritten status → status ≡ WriteFault → Rose sink.faults sink.faults' × IsCutShort reads answer WriteFault source.left source.left' sink.held sink.held'
unfolding writes_nothing
at_write_fault law (stopped status why sink_same writes) e = absurd (not_stopped why refl e)
at_write_fault law (answered named bytes status is says reads input ends) e = elim (whole_or_short ends) [ inl w ↦ absurd (not_write_fault (law.given named is bytes) (w.status_is ∙ e)) | inr w ↦ (w.rose, answered-short _ _ bytes _ WriteFault _ _ _ (input_of _ _ _ _ input) w e) ]

pub at_write_count : {F : Type 0} {form : Option F} {reads : Bool} {answer : List ℕ → Answer} {Says : List ℕ → Type 0} {source : SourceChange} {sink : SinkChange} {Unread Unwritten : Type 0} {status : Status} → IsCommand form reads answer → Outcome form reads answer Says source sink Unread Unwritten status → sink.faults ≤ sink.faults'
at_write_count law (stopped status why sink_same writes) = omega arith
at_write_count law (answered named bytes status is says reads input ends) = elim (whole_or_short ends) [ inl w ↦ omega (arith, w.same) | inr w ↦ w.falls ]

fault_is : {status : Status} → IsGiven status → fault_status status ≢ WriteFault → fault_status status ≡ Refused
unfolding fault_status
fault_is done e = absurd (e refl)
fault_is refused e = refl
fault_is declined e = absurd (e refl)

pub at_write_well : {F : Type 0} {form : Option F} {reads : Bool} {answer : List ℕ → Answer} {Says : List ℕ → Type 0} {source : SourceChange} {sink : SinkChange} {Unread Unwritten : Type 0} {status : Status} → IsCommand form reads answer → Outcome form reads answer Says source sink Unread Unwritten status → status ≢ WriteFault → status ≢ Refused → sink.faults' ≡ sink.faults
at_write_well law (stopped status why sink_same writes) e f = writes
at_write_well law (answered named bytes status is says reads input ends) e f = elim (whole_or_short ends) [ inl w ↦ w.same | inr w ↦ absurd (f (sym w.status_is ∙ fault_is (law.given named is bytes) (λ same. e (sym w.status_is ∙ same)))) ]

pub at_answers : {F : Type 0} {form : Option F} {reads : Bool} {answer : List ℕ → Answer} {Says : List ℕ → Type 0} {source : SourceChange} {sink : SinkChange} {Unread Unwritten : Type 0} {status : Status} → IsCommand form reads answer → Outcome form reads answer Says source sink Unread Unwritten status → (bytes : List ℕ) → HasInput reads source.left bytes → length bytes ≤ 1048576 → form ≢ None → (Rose source.faults source.faults' → ⊥) → (Rose sink.faults sink.faults' → ⊥) → (status ≡ Memory) ⊎ IsAnswer (answer bytes) status sink.held sink.held'
at_answers law (stopped status why sink_same writes) all told fits some well taken = inl (stops-few why all told fits some well)
at_answers law (answered named bytes status is says reads input ends) all told fits some well taken = let same = told_answer _ _ (law.one named is) all bytes _ _ told input in elim (whole_or_short ends) [ inl w ↦ inr (record { status_is = sym w.status_is ∙ ap (λ a. a.status) same; written = rw (← same) w.written }) | inr w ↦ absurd (taken w.rose) ]

fault-refused : {status : Status} → status ≡ Refused → fault_status status ≡ Refused
unfolding fault_status
fault-refused e = rw e refl

pub at_refuses : {F : Type 0} {form : Option F} {reads : Bool} {answer : List ℕ → Answer} {Says : List ℕ → Type 0} {source : SourceChange} {sink : SinkChange} {Unread Unwritten : Type 0} {status : Status} → IsCommand form reads answer → Outcome form reads answer Says source sink Unread Unwritten status → (bytes : List ℕ) → HasInput reads source.left bytes → length bytes ≤ 1048576 → form ≢ None → (Rose source.faults source.faults' → ⊥) → (answer bytes).status ≡ Refused → (status ≡ Memory) ⊎ (status ≡ Refused)
at_refuses law (stopped status why sink_same writes) all told fits some well refusal = inl (stops-few why all told fits some well)
at_refuses {answer = answer} law (answered named bytes status is says reads input ends) all told fits some well refusal = let first : (answer bytes).status ≡ Refused = ap (λ a. a.status) (told_answer _ _ (law.one named is) all bytes _ _ told input) ∙ refusal in elim (whole_or_short ends) [ inl w ↦ inr (sym w.status_is ∙ first) | inr w ↦ inr (sym w.status_is ∙ fault-refused first) ]

pub at_exceeds : {F : Type 0} {form : Option F} {reads : Bool} {answer : List ℕ → Answer} {Says : List ℕ → Type 0} {source : SourceChange} {sink : SinkChange} {Unread Unwritten : Type 0} {status : Status} → IsCommand form reads answer → Outcome form reads answer Says source sink Unread Unwritten status → (bytes : List ℕ) → source.left ≡ Some bytes → 1048577 ≤ length bytes → reads ≡ true → (Rose source.faults source.faults' → ⊥) → (status ≡ Memory) ⊎ (status ≡ TooLong)
at_exceeds law (stopped status why sink_same writes) all told many some well = elim (stops-well why (λ none. false≢true (sym (law.none none) ∙ some)) well) [ inl memory ↦ inl memory | inr long ↦ inr long.0 ]
at_exceeds law (answered named bytes status is says reads input ends) all told many some well = let fits = few_told _ bytes all _ _ some told input in absurd (omega (arith, many, fits))

pub at_room : {F : Type 0} {form : Option F} {reads : Bool} {answer : List ℕ → Answer} {Says : List ℕ → Type 0} {source : SourceChange} {sink : SinkChange} {Unread Unwritten : Type 0} {status : Status} → IsCommand form reads answer → Outcome form reads answer Says source sink Unread Unwritten status → (bytes : List ℕ) → HasInput reads source.left bytes → length (answer bytes).output ≤ sink.room → sink.faults' ≡ sink.faults
at_room law (stopped status why sink_same writes) all told fits = writes
at_room law (answered named bytes status is says reads input ends) all told fits = let same = told_answer _ _ (law.one named is) all bytes _ _ told input in elim (whole_or_short ends) [ inl w ↦ w.same | inr w ↦ absurd (w.full (rw same fits)) ]
