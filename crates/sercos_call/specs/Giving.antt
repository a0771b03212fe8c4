-- What is written of a reply that was made in memory, or of the refusal of a document.
use Rattle.std.specs.Prelude.{◌≡◌, ◌≢◌, ◌⊎◌, Result, Ok, Err}
use Rattle.sercos_io.specs.declared.status.Status.{Status}
use Rattle.sercos_io.specs.declared.status.Status.TheVariants.{Memory, Refused}
use Rattle.sercos_document.specs.declared.refusal.BadDocument.{BadDocument}
use Rattle.sercos_document.specs.declared.refusal.BadDocument.TheVariants as bads
use Rattle.sercos_document.specs.Lines.{line_of}
use Rattle.sercos_answer.specs.Answer.{Answer}
use Rattle.sercos_answer.specs.declared.reply.Reply.{Reply}
use Rattle.sercos_call.specs.Outcome.{SinkChange, Writes}

-- a reply is this answer
pub record IsReply (reply : Reply) (answer : Answer) : Type 0 where
  pub status : reply.status ≡ answer.status
  pub text : reply.text.items ≡ answer.output

-- how giving a reply ends, if memory was found for it
abbrev pub GivesReply : {E : Type 0} → Result Reply E → SinkChange → Type 0 → Status → Type 0
GivesReply (Ok reply) sink Unwritten status = Writes reply.status reply.text.items sink status
GivesReply (Err error) sink Unwritten status = (status ≡ Memory) × Unwritten

-- how giving a reply ends, or the refusal of the document that it was to be made of
abbrev pub GivesOrRefuses : Result Reply BadDocument → SinkChange → Type 0 → Status → Type 0
GivesOrRefuses (Ok reply) sink Unwritten status = Writes reply.status reply.text.items sink status
GivesOrRefuses (Err bad) sink Unwritten status =
    ((bad ≡ bads.Memory) × (status ≡ Memory) × Unwritten) ⊎ ((bad ≢ bads.Memory) × Writes Refused (line_of bad) sink status)
