-- What a transfer writes. Each list has its newest item first.
use Rattle.std.specs.Prelude.{◌≡◌, ℕ, ◌^◌, ◌<◌, ◌==◌, if◌then◌else◌, Bool, true, false, not, List, [], ◌∷◌, ◌++◌, Option, Some, None}
use Rattle.sercos_model.specs.Bits.{AreBytes}
use Rattle.sercos_idn.specs.declared.idn.Idn.{Idn}
use Rattle.sercos_idn.specs.Elements.{data_element}
use Rattle.sercos_idn.specs.Codes.{is_list}
use Rattle.sercos_step.specs.declared.request.Request.{Request}
use Rattle.sercos_step.specs.declared.request.Request.TheVariants as request
use Rattle.sercos_step.specs.declared.request.Outcome.{Outcome}
use Rattle.sercos_step.specs.declared.request.Outcome.TheVariants as outcome
use Rattle.sercos_step.specs.Words.{words_of, bytes_in, at_least_one}
use Rattle.sercos_step.specs.Steps.{outcome_of, AreAnswers}
use Rattle.sercos_service_master.specs.Begun.{steps_begun}
use Rattle.sercos_block.specs.declared.block.Block.{Block}
use Rattle.sercos_block.specs.Stores.{find_block}
use Rattle.sercos_service_drive.specs.Log.{Entry}
use Rattle.sercos_service_drive.specs.Replies.{reply_of}
use Rattle.sercos_service_drive.specs.Writes.{AreAlike, writes_of}
use Rattle.sercos_law_channel.specs.Handshake.InStep.{log_steps, replies_of}

-- each of these entries has the reply to its step, after those before it and the log
abbrev pub AreReplies : List Entry → List Entry → Type 0
AreReplies [] log = Unit {0}
AreReplies (e ∷ entries) log = AreReplies entries log × (e.answer ≡ reply_of e.processed (entries ++ log))

-- the drive has these blocks at each of the entries, but for their operation data
abbrev pub HaveBlocks : List Block → List Entry → Type 0
HaveBlocks blocks [] = Unit {0}
HaveBlocks blocks (e ∷ entries) = HaveBlocks blocks entries × AreAlike e.processed.blocks blocks

-- These entries are those of the first steps of a request, up to one that is the newest: each other one was answered, and
-- the transfer went on.
pub record IsTransfer (r : Request) (blocks : List Block) (e : Entry) (entries log : List Entry) : Type 0 where
  pub steps : log_steps (e ∷ entries) ≡ steps_begun r (replies_of entries)
  pub in_turn : AreAnswers r (replies_of entries)
  pub goes_on : outcome_of r (replies_of entries) ≡ None
  pub replies : AreReplies (e ∷ entries) log
  pub alike : HaveBlocks blocks (e ∷ entries)

-- What a write leaves as operation data of a block: a list is the bytes themselves; the bytes of a number are filled up with
-- zeros to whole words, at least one.
abbrev pub stored : Block → List ℕ → List ℕ
stored b bytes = if is_list b.attribute.length then bytes else bytes_in (at_least_one (words_of bytes))

-- whether the replies complete the request
abbrev pub is_complete : Option Outcome → Bool
is_complete (Some (outcome.Complete bytes)) = true
is_complete _ = false

-- A write of operation data adds one entry to the writes, with its bytes, at its last word: with the step that completes it.
-- Up to that step, and where it is refused, it adds none.
abbrev pub WritesOnce : Type 0
WritesOnce = (idn : Idn) (bytes : List ℕ) (blocks : List Block) (b : Block) (e : Entry) (entries log : List Entry) →
    AreBytes bytes → find_block idn.raw blocks ≡ Some b → b.attribute.factor < 2 ^ 16 →
    IsTransfer (request.Write idn data_element bytes) blocks e entries log →
    writes_of ((e ∷ entries) ++ log) ≡
    (if is_complete (outcome_of (request.Write idn data_element bytes) (replies_of (e ∷ entries)))
    then (record { cycle = e.processed.cycle; raw = idn.raw; bytes = stored b bytes }) ∷ writes_of log else writes_of log)

-- A read, and a write of another element, adds none.
abbrev pub is_silent : Request → Bool
is_silent (request.Read idn e) = true
is_silent (request.Write idn e bytes) = not (e == data_element)
is_silent (request.Command idn) = false

abbrev pub WritesNothing : Type 0
WritesNothing = (r : Request) (blocks : List Block) (e : Entry) (entries log : List Entry) → is_silent r ≡ true →
    IsTransfer r blocks e entries log →
    writes_of ((e ∷ entries) ++ log) ≡ writes_of log
