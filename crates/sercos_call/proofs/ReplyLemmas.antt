-- From what a command made to its reply, and from the reply to how the call ended.
use Rattle.std.proofs.Common.{◌≡◌, ◌⊎◌, inl, inr, ℕ, Bool, true, false, List, [], Option, Some, Result, Ok, Err, refl, sym, subst}
use Rattle.std.specs.Prelude.{MatchResult}
use Rattle.std.proofs.lemmas.Bool.{false≢true}
use Rattle.sercos_io.specs.declared.status.Status.{Status}
use Rattle.sercos_io.specs.declared.status.Status.TheVariants.{Memory, Refused}
use Rattle.sercos_document.specs.declared.refusal.BadDocument.{BadDocument}
use Rattle.sercos_document.specs.declared.refusal.BadDocument.TheVariants as bads
use Rattle.sercos_document.specs.Lines.{line_of}
use Rattle.sercos_answer.specs.Answer.{Answer}
use Rattle.sercos_answer.specs.declared.reply.Reply.{Reply}
use Rattle.sercos_call.specs.TopCall.{ReadsWhole}
use Rattle.sercos_call.specs.Giving.{GivesOrRefuses}
use Rattle.sercos_call.specs.Outcome.{SourceChange, SinkChange, Replies, TakesInput, Outcome}
use Rattle.sercos_call.specs.Outcome.Replies.{none_found, replied}
use Rattle.sercos_call.specs.Outcome.Stops.{no_memory}
use Rattle.sercos_call.specs.Outcome.Outcome.{stopped, answered}
use Rattle.sercos_call.proofs.Outcomes.{takes_input, unread_input}

-- a reply, or the refusal of a document, with what is promised beside
pub made_replies : (made : Result Reply BadDocument) (answer : Answer) (Says : Type 0) (sink : SinkChange) (Unwritten : Type 0) (status : Status)
    → MatchResult made (λ reply. (reply.status ≡ answer.status) × (reply.text.items ≡ answer.output))
    (λ bad. (bad ≡ bads.Memory) ⊎ ((answer.status ≡ Refused) × (answer.output ≡ line_of bad)))
    → MatchResult made (λ _. Says) (λ bad. (bad ≡ bads.Memory) ⊎ Says)
    → GivesOrRefuses made sink Unwritten status → Replies answer Says sink Unwritten status
made_replies (Ok reply) answer Says sink Unwritten status is says written = replied status says (rw (← is.0, ← is.1) written)
made_replies (Err bad) answer Says sink Unwritten status is says (inl ended) =
    subst (λ s. Replies answer Says sink Unwritten s) (sym ended.1) (none_found ended.2)
made_replies (Err bad) answer Says sink Unwritten status (inl none) says (inr written) = absurd (written.0 none)
made_replies (Err bad) answer Says sink Unwritten status (inr is) (inl none) (inr written) = absurd (written.0 none)
made_replies (Err bad) answer Says sink Unwritten status (inr is) (inr says) (inr written) = replied status says (rw (is.0, is.1) written.1)

-- what a command takes that reads nothing, and one that reads
pub reads_nothing : (reads : Bool) (source : SourceChange) (Unread : Type 0) → false ≡ reads → source.left' ≡ source.left → Unread → TakesInput reads source Unread []
reads_nothing true source Unread e same unread = absurd (false≢true e)
reads_nothing false source Unread e same unread = (unread, same, refl)

pub reads_all : (reads : Bool) (source : SourceChange) (Unread : Type 0) (bytes : List ℕ) → true ≡ reads → ReadsWhole source.left source.left' bytes → TakesInput reads source Unread bytes
reads_all true source Unread bytes e read = read
reads_all false source Unread bytes e read = absurd (false≢true (sym e))

pub answer_ends : {F : Type 0} (form : Option F) (reads : Bool) (answer : List ℕ → Answer) (Says : List ℕ → Type 0) (named : F) (bytes : List ℕ) (source : SourceChange) (sink : SinkChange) (Unread Unwritten : Type 0) (status : Status)
    → form ≡ Some named → source.faults' ≡ source.faults → TakesInput reads source Unread bytes → (Unwritten → sink.faults' ≡ sink.faults)
    → Replies (answer bytes) (Says bytes) sink Unwritten status → Outcome form reads answer Says source sink Unread Unwritten status
answer_ends form reads answer Says named bytes source sink Unread Unwritten status is well input same (none_found unwritten) =
    stopped Memory (no_memory well (takes_input reads bytes source Unread input) (λ e. unread_input reads bytes source Unread input e)) unwritten (same unwritten)
answer_ends form reads answer Says named bytes source sink Unread Unwritten status is well input same (replied ended says writes) = answered named bytes ended is says well input writes
