-- A complete setting of a procedure command gives the data status of the last poll, the step that reads it.
use Rattle.sercos_law_channel.proofs.Words.{◌≡◌, ℕ, suc, ◌-◌, ◌≤◌, Bool, true, false, List, [], ◌∷◌, ◌++◌, length, drop, refl, ap, ◌∙◌, arith, length-append, ◌==◌, Option, Some, None, slice_get, slice_index, cond-true, leb-true, Idn, Step, Answer, Request, bytes_in, a_step, polling, steps_of, outcome_of, answer_words, is_whole, result_of, Block, find_block, setting_of, status_in, Processed, Entry, open_idn, run_before, answer_by, copy, read_cause, reply_of, replies_of, IsTransfer, GivesStatus, EndsWithStatus, idn_of, length-answer_words, cond_both, length-drop_two, and_right, not_from_true, inl, inr, cases_Option}
use Rattle.sercos_step.specs.declared.request.Request.TheVariants as request
use Rattle.sercos_step.specs.declared.request.Outcome.TheVariants as outcome
use Rattle.sercos_law_channel.proofs.Handshake.AttributeReplies.{reply-read}
use Rattle.sercos_law_channel.proofs.Options.{all_at}
use Rattle.sercos_law_channel.proofs.Handshake.TransferSteps.{newest_step, without_newest, length-replies_of, goes_on-outcome_of, complete_is}
use Rattle.sercos_law_channel.proofs.Handshake.UnknownBlocks.{refuses_unknown}
use Rattle.sercos_law_channel.proofs.Handshake.ElementReads.{status_small, small_word}
use Rattle.sercos_law_channel.proofs.Handshake.CommandStages.{Poll, Reads, Cancels, Stage, AtOpening, AtSetting, AtPoll, next_poll, whole_cancels, stage_before}
use Rattle.sercos_law_channel.proofs.Handshake.StepTests.{polling_passes}
use Rattle.sercos_law_channel.proofs.Handshake.WriteRuns.{run_starts}

pub last_ends : (write : Bool) (element : ℕ) (e : Entry) (log : List Entry) → e.processed.step.last ≡ true → run_before write element (e ∷ log) ≡ []
last_ends write element e log last =
    run_starts e.processed.step write element e log refl (and_right _ _ (and_right _ _ (not_from_true e.processed.step.last last)))

-- the reply to a poll
pub poll_word : (raw : ℕ) (t : Processed) (all : List Entry) → t.step ≡ a_step false true 1 0 → open_idn all ≡ Some raw → run_before false 1 all ≡ [] → (reply_of t all).word ≡ status_in t.commands raw t.cycle
poll_word raw t all is opened free =
    let one : (t.step.element == 1) ≡ true = ap (λ (s : Step). s.element == 1) is in
    let there : read_cause raw t ≡ None = cond-true (t.step.element == 1) None _ one in
    ap (λ (a : Answer). a.word) (reply-read raw 1 0 true t all [] refl is opened free ∙ ap (λ (o : Option ℕ). answer_by o (slice_index (copy raw t) 0)) there)
    ∙ ap (λ (l : List ℕ). slice_index l 0) (cond-true (t.step.element == 1) (status_in t.commands raw t.cycle ∷ []) _ one)

pub one_long : (words : List ℕ) → 1 ≤ length (polling words)
one_long [] = omega arith
one_long (status ∷ words) = omega arith

two_long : (words : List ℕ) → 1 ≤ length words → 2 ≤ length (polling words)
two_long [] long = absurd (omega arith)
two_long (status ∷ words) long =
    cond_both (status == 7) (polling words) (a_step true true 7 0 ∷ []) (λ l. 2 ≤ suc (length l))
    (λ on. let at = one_long words in omega (arith, at)) (λ off. omega arith)

-- the last word but one
index_two : (words : List ℕ) (a b : ℕ) → slice_index ((words ++ a ∷ []) ++ b ∷ []) (length words) ≡ a
index_two [] a b = refl
index_two (w ∷ words) a b = index_two words a b

-- at least an opening, a setting and a poll come before the cancel
pub three_before : (idn : Idn) (e : Entry) (entries : List Entry) → is_whole (request.Command idn) (answer_words (replies_of entries) ++ e.answer.word ∷ []) ≡ true → 3 ≤ length entries
three_before idn e entries whole =
    let words = answer_words (replies_of entries) ++ e.answer.word ∷ [] in
    let many : length (steps_of (request.Command idn) words) ≤ length words = leb-true (length (steps_of (request.Command idn) words)) (length words) whole in
    let first = one_long (drop 2 words) in
    let three : 3 ≤ length words = omega arith in
    let second = two_long (drop 2 words) (let two = length-drop_two words (omega arith) in omega (arith, two, three)) in
    let count = length-append (answer_words (replies_of entries)) (e.answer.word ∷ []) in
    let same = length-answer_words (replies_of entries) in
    let as_many = length-replies_of entries in
    omega arith

module _ (idn : Idn) (blocks : List Block) (b : Block) (found : find_block idn.raw blocks ≡ Some b) where
  pub command_last : (e : Entry) (entries log : List Entry) → IsTransfer (request.Command idn) blocks e entries log → e.processed.step.last ≡ true
  command_last e entries log is =
      let words = answer_words (replies_of entries) in
      all_at (λ (s : Step). s.last) (steps_of (request.Command idn) words) (length words) e.processed.step (polling_passes (λ (s : Step). s.last) (drop 2 words) refl refl) (newest_step (request.Command idn) blocks log e entries is)

  -- the entry before the cancel is a poll
  pub is_poll : (d o : Entry) (past log : List Entry) → 2 ≤ length (o ∷ past) → IsTransfer (request.Command idn) blocks d (o ∷ past) log → is_whole (request.Command idn) (answer_words (replies_of (o ∷ past)) ++ d.answer.word ∷ []) ≡ false →
      (d.processed.step ≡ a_step false true 1 0) × (open_idn ((o ∷ past) ++ log) ≡ Some idn.raw)
  is_poll d o past log long is on = by (newest_step (request.Command idn) blocks log d (o ∷ past) is) (stage_before idn b blocks found d (o ∷ past) log is).0
    where
      by : slice_get (steps_of (request.Command idn) (answer_words (replies_of (o ∷ past)))) (length (answer_words (replies_of (o ∷ past)))) ≡ Some d.processed.step →
          Stage idn b (answer_words (replies_of (o ∷ past))) (o ∷ past) ((o ∷ past) ++ log) → (d.processed.step ≡ a_step false true 1 0) × (open_idn ((o ∷ past) ++ log) ≡ Some idn.raw)
      by next (AtOpening those words) = absurd (cc)
      by next (AtSetting p w those words opened free) = let short : length (o ∷ past) ≡ 1 = ap length those in absurd (omega arith)
      by next (AtPoll p q before w v polled those words opened free two) = which (next_poll idn b (answer_words (replies_of (o ∷ past))) d.processed.step w v polled words next)
        where
          which : Poll polled d.processed.step → (d.processed.step ≡ a_step false true 1 0) × (open_idn ((o ∷ past) ++ log) ≡ Some idn.raw)
          which (Reads step many) = (step, opened)
          which (Cancels step many) = let whole = whole_cancels idn b (answer_words (replies_of (o ∷ past))) w v polled d.answer.word words (many d.answer.word) in absurd (cc)

  status_given : (e d : Entry) (entries : List Entry) → result_of (request.Command idn) (answer_words (replies_of (d ∷ entries)) ++ e.answer.word ∷ []) ≡ bytes_in (d.answer.word ∷ [])
  status_given e d entries =
      let words = answer_words (replies_of entries) in
      let one = length-append words (d.answer.word ∷ []) in
      let two = length-append (words ++ d.answer.word ∷ []) (e.answer.word ∷ []) in
      let at : length ((words ++ d.answer.word ∷ []) ++ e.answer.word ∷ []) - 2 ≡ length words = omega arith in
      ap (λ (n : ℕ). bytes_in (n ∷ [])) (ap (slice_index ((words ++ d.answer.word ∷ []) ++ e.answer.word ∷ [])) at ∙ index_two words d.answer.word e.answer.word)

  command_ends : (e : Entry) (entries log : List Entry) (bytes : List ℕ) → IsTransfer (request.Command idn) blocks e entries log → outcome_of (request.Command idn) (replies_of (e ∷ entries)) ≡ Some (outcome.Complete bytes) → GivesStatus idn.raw bytes (e ∷ entries)
  command_ends e entries log bytes is complete =
      let done = complete_is (request.Command idn) e.answer (replies_of entries) bytes complete in by entries is (done.1, done.2)
    where
      by : (entries : List Entry) → IsTransfer (request.Command idn) blocks e entries log →
          (is_whole (request.Command idn) (answer_words (replies_of entries) ++ e.answer.word ∷ []) ≡ true) × (bytes ≡ result_of (request.Command idn) (answer_words (replies_of entries) ++ e.answer.word ∷ [])) →
          GivesStatus idn.raw bytes (e ∷ entries)
      by [] is (whole, gives) = let long = three_before idn e [] whole in absurd (omega arith)
      by (d ∷ []) is (whole, gives) = let long = three_before idn e (d ∷ []) whole in absurd (omega arith)
      by (d ∷ o ∷ past) is (whole, gives) =
          let long = three_before idn e (d ∷ o ∷ past) whole in
          let was = without_newest (request.Command idn) blocks log e d (o ∷ past) is in
          let on = goes_on-outcome_of (request.Command idn) d.answer (replies_of (o ∷ past)) is.goes_on in
          let poll = is_poll d o past log (omega arith) was on.1 in
          let free = last_ends false 1 o (past ++ log) (command_last o past log (without_newest (request.Command idn) blocks log d o past was)) in
          let word : d.answer.word ≡ status_in d.processed.commands idn.raw d.processed.cycle = ap (λ (a : Answer). a.word) was.replies.1 ∙ poll_word idn.raw d.processed ((o ∷ past) ++ log) poll.0 poll.1 free in
          let small = status_small d.processed.commands.time d.processed.cycle (setting_of d.processed.commands.rate idn.raw d.processed.commands.calls) in (
            e,
            d,
            o ∷ past,
            refl,
            ap (λ (s : Step). s.write) poll.0,
            ap (λ (s : Step). s.element) poll.0,
            gives ∙ status_given e d (o ∷ past) ∙ ap (λ (n : ℕ). bytes_in (n ∷ [])) word ∙ small_word (status_in d.processed.commands idn.raw d.processed.cycle) small,
          )

-- a transfer that is refused at its opening isn't complete
pub unknown_incomplete : (r : Request) (blocks : List Block) (e : Entry) (entries log : List Entry) (bytes : List ℕ) → find_block (idn_of r).raw blocks ≡ None → IsTransfer r blocks e entries log →
    outcome_of r (replies_of (e ∷ entries)) ≡ Some (outcome.Complete bytes) → ⊥
unknown_incomplete r blocks e entries log bytes none is complete =
    let well = (complete_is r e.answer (replies_of entries) bytes complete).0 in
    let refused = ap (λ (a : Answer). a.error) (refuses_unknown r blocks e entries log none is).1 in cc

pub ends_with_status : EndsWithStatus
ends_with_status idn bytes blocks e entries log is complete = elim (cases_Option (find_block idn.raw blocks)) [
  | inl none ↦ absurd (unknown_incomplete (request.Command idn) blocks e entries log bytes none is complete)
  | inr (b, found) ↦ command_ends idn blocks b found e entries log bytes is complete
]
