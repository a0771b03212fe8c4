-- The log of a drive in the parts that its requests make. Each list has its newest item first.
use Rattle.std.specs.Prelude.{◌≡◌, List, [], ◌∷◌, ◌++◌, None}
use Rattle.sercos_step.specs.Steps.{outcome_of, AreAnswers}
use Rattle.sercos_block.specs.declared.block.Block.{Block}
use Rattle.sercos_service_master.specs.Begun.{Begun, open_in, steps_begun}
use Rattle.sercos_service_master.specs.Calls.{Call, AreCalls, begun_by}
use Rattle.sercos_service_drive.specs.Log.{Processed, Entry}
use Rattle.sercos_service_drive.specs.Replies.{answered}
use Rattle.sercos_law_channel.specs.Handshake.InStep.{AreInStep, log_steps, replies_of}
use Rattle.sercos_law_channel.specs.Handshake.Transfers.{AreReplies, HaveBlocks, IsTransfer}

-- each request was begun when no step of those before it was open, and each of its answers came while it went on
abbrev pub AreInTurn : List Begun → Type 0
AreInTurn [] = Unit {0}
AreInTurn (b ∷ past) = AreInTurn past × ((open_in past ≡ None) × AreAnswers b.request b.answers)

-- So it is where the calls were allowed.
abbrev pub ComeInTurn : Type 0
ComeInTurn = (h : List Call) → AreCalls h → AreInTurn (begun_by h)

-- These entries are those of the first steps of a request, as in a transfer.
pub record IsRow (b : Begun) (e : Entry) (entries : List Entry) : Type 0 where
  pub steps : log_steps (e ∷ entries) ≡ steps_begun b.request (replies_of entries)
  pub in_turn : AreAnswers b.request (replies_of entries)
  pub goes_on : outcome_of b.request (replies_of entries) ≡ None

-- what the drive has accepted of a request: nothing yet; or a row, whose answers were all taken, or all but the newest
pub data IsPart (b : Begun) (part : List Entry) : Type 0 where
  Unsent : (part ≡ []) → (b.answers ≡ []) → IsPart b part
  Heard : (e : Entry) (entries : List Entry) → (part ≡ e ∷ entries) → IsRow b e entries → (b.answers ≡ replies_of (e ∷ entries)) →
      IsPart b part
  Unheard : (e : Entry) (entries : List Entry) → (part ≡ e ∷ entries) → IsRow b e entries → (b.answers ≡ replies_of entries) → IsPart b part

-- the log is the parts of all requests, one after the other
abbrev pub AreParts : List Begun → List Entry → Type 0
AreParts [] log = log ≡ []
AreParts (b ∷ past) log = (part : List Entry) × (rest : List Entry) × (log ≡ part ++ rest) × IsPart b part × AreParts past rest

-- Where both ends are in step, the log falls into the parts of the requests.
abbrev pub FallIntoParts : Type 0
FallIntoParts = (begun : List Begun) (log : List Entry) → AreInTurn begun → AreInStep begun log → AreParts begun log

-- Each entry of a part of the log has the reply to its step, after those before it.
abbrev pub HaveReplies : Type 0
HaveReplies = (h : List Processed) (part rest : List Entry) → answered h ≡ part ++ rest → AreReplies part rest

-- A row whose entries have the replies, on blocks that stay but for their operation data, is a transfer.
abbrev pub MakeTransfers : Type 0
MakeTransfers = (b : Begun) (blocks : List Block) (e : Entry) (entries log : List Entry) →
    IsRow b e entries → AreReplies (e ∷ entries) log → HaveBlocks blocks (e ∷ entries) → IsTransfer b.request blocks e entries log
