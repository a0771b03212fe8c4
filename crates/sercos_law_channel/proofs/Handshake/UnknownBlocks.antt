-- A transfer to a data block that the drive hasn't comes no further than its opening.
use Rattle.sercos_law_channel.proofs.Words.{◌≡◌, ℕ, true, false, List, [], ◌∷◌, ◌++◌, refl, ap, sym, ◌∙◌, Option, Some, None, option_map, is_some, slice_get, cond-true, cond-false, Idn, Step, Answer, Request, opening, steps_of, Block, find_block, Processed, Entry, opens, good, refused, reply_of, AreAlike, without_data, writes_of, replies_of, IsTransfer, RefusesUnknown, WritesNowhere, idn_of}
use Rattle.sercos_step.specs.declared.request.Request.TheVariants as request
use Rattle.sercos_law_channel.proofs.Handshake.AttributeReplies.{find-without_data}
use Rattle.sercos_law_channel.proofs.Handshake.TransferSteps.{newest_step, without_newest, goes_on-outcome_of, adds_none, effect_by}

pub first_step : (r : Request) (s : Step) → slice_get (steps_of r []) 0 ≡ Some s → s ≡ opening (idn_of r)
first_step (request.Read idn e) s is = cc
first_step (request.Write idn e bytes) s is = cc
first_step (request.Command idn) s is = cc

none_alike : (raw : ℕ) (others blocks : List Block) → AreAlike others blocks → find_block raw blocks ≡ None → is_some (find_block raw others) ≡ false
none_alike raw others blocks alike none =
    by (find_block raw others) (find-without_data raw others ∙ ap (find_block raw) alike ∙ sym (find-without_data raw blocks) ∙ ap (option_map without_data) none)
  where
    by : (o : Option Block) → option_map without_data o ≡ None → is_some o ≡ false
    by None is = refl
    by (Some b) is = absurd (cc)

-- an opening is refused there
pub refused_opening : (idn : Idn) (t : Processed) (all : List Entry) (blocks : List Block) → t.step ≡ opening idn → AreAlike t.blocks blocks → find_block idn.raw blocks ≡ None → reply_of t all ≡ refused 0x1001
refused_opening idn t all blocks is alike none =
    let no_block : is_some (find_block t.step.word t.blocks) ≡ false = ap (λ (s : Step). is_some (find_block s.word t.blocks)) is ∙ none_alike idn.raw t.blocks blocks alike none in
    cond-true (opens t.step) _ _ (ap opens is) ∙ cond-false (is_some (find_block t.step.word t.blocks)) (good 0) (refused 0x1001) no_block

-- such a transfer has one entry
pub only_opening : (r : Request) (blocks : List Block) (e : Entry) (entries log : List Entry) → find_block (idn_of r).raw blocks ≡ None → IsTransfer r blocks e entries log → (entries ≡ []) × (e.processed.step ≡ opening (idn_of r))
only_opening r blocks e [] log none is = (refl, first_step r e.processed.step (newest_step r blocks log e [] is))
only_opening r blocks e (d ∷ entries) log none is =
    let was = without_newest r blocks log e d entries is in
    let before = only_opening r blocks d entries log none was in
    let well = (goes_on-outcome_of r d.answer (replies_of entries) is.goes_on).0 in
    let off : d.answer.error ≡ true = ap (λ (a : Answer). a.error) (was.replies.1 ∙ refused_opening (idn_of r) d.processed (entries ++ log) blocks before.1 was.alike.1 none) in
    absurd (cc)

pub refuses_unknown : RefusesUnknown
refuses_unknown r blocks e entries log none is =
    let only = only_opening r blocks e entries log none is in (only.0, is.replies.1 ∙ refused_opening (idn_of r) e.processed (entries ++ log) blocks only.1 is.alike.1 none)

pub writes_nowhere : WritesNowhere
writes_nowhere r blocks e entries log none is =
    let only = only_opening r blocks e entries log none is in
    adds_none e (entries ++ log) (effect_by (opening (idn_of r)) e only.1) ∙ ap (λ (l : List Entry). writes_of (l ++ log)) only.0
