-- A transfer that sets a procedure command and is refused adds no write.
use Rattle.sercos_law_channel.proofs.Words.{◌≡◌, ℕ, Bool, true, false, not, ◌&&◌, List, [], ◌∷◌, ◌++◌, length, refl, ap, ap₂, sym, ◌∙◌, subst, if◌then◌else◌, ◌==◌, Option, Some, None, slice_get, slice_index, cond-true, beq, Code, Idn, Step, Answer, Request, a_step, steps_of, outcome_of, answer_words, is_whole, result_of, Block, is_protected, find_block, read_fault, Processed, Entry, open_idn, run_before, selection, answer_by, copy, reply_of, Write, AreAlike, writes_of, replies_of, IsTransfer, is_complete, RefusedAddsNothing, AreProtected, second_of, added_by_setting, cancelled_by}
use Rattle.sercos_step.specs.declared.request.Request.TheVariants as request
use Rattle.sercos_step.specs.declared.request.Outcome.TheVariants as outcome
use Rattle.sercos_law_channel.proofs.Handshake.AttributeReplies.{reply-read}
use Rattle.sercos_law_channel.proofs.Handshake.TransferSteps.{newest_step, without_newest, goes_on-outcome_of}
use Rattle.sercos_law_channel.proofs.Handshake.SettingReplies.{Allows, set_allows, cancels_well}
use Rattle.sercos_law_channel.proofs.Handshake.CommandStages.{Poll, Reads, Cancels, Stage, AtOpening, AtSetting, AtPoll, next_setting, next_poll, stage_before, sets_and_cancels}

refused_error : (r : Request) (a : Answer) (h : List Answer) (code : Code) → outcome_of r (a ∷ h) ≡ Some (outcome.Refused code) → a.error ≡ true
refused_error r a h code is = by a.error (is_whole r (answer_words h ++ a.word ∷ [])) (result_of r (answer_words h ++ a.word ∷ [])) is
  where
    by : (error whole : Bool) (bytes : List ℕ) → (if error then Some (outcome.Refused (record { raw = a.word })) else (if whole then Some (outcome.Complete bytes) else None)) ≡ Some (outcome.Refused code) → error ≡ true
    by true whole bytes is = refl
    by false true bytes is = absurd (cc)
    by false false bytes is = absurd (cc)

-- a read of the data status isn't refused while a number is open
pub selects_status : (t : Processed) (all : List Entry) → (t.step.element == 1) ≡ true → ((selection t (run_before false 1 all)).step.element == 1) ≡ true
selects_status t [] first = first
selects_status t (e ∷ all) first =
    by (beq e.processed.step.write false) (e.processed.step.element == 1) (not e.processed.step.last && not e.answer.error) refl (selects_status e.processed all)
  where
    by : (u v w : Bool) → (e.processed.step.element == 1) ≡ v → ((e.processed.step.element == 1) ≡ true → ((selection e.processed (run_before false 1 all)).step.element == 1) ≡ true) →
        ((selection t (if u && (v && w) then e.processed ∷ run_before false 1 all else [])).step.element == 1) ≡ true
    by true true true is behind = behind is
    by true true false is behind = first
    by true false w is behind = first
    by false v w is behind = first

pub reads_well : (raw : ℕ) (t : Processed) (all : List Entry) → t.step ≡ a_step false true 1 0 → open_idn all ≡ Some raw → (reply_of t all).error ≡ false
reads_well raw t all is opened =
    let first = selects_status t all (ap (λ (s : Step). s.element == 1) is) in
    let s : Processed = selection t (run_before false 1 all) in
    let there = cond-true (s.step.element == 1) None (read_fault (find_block raw s.blocks) s.step.element) first in
    let copied = slice_index (copy raw s) (length (run_before false 1 all)) in
    ap (λ (a : Answer). a.error) (reply-read raw 1 0 true t all (run_before false 1 all) refl is opened refl ∙ ap (λ (o : Option ℕ). answer_by o copied) there)

module _ (idn : Idn) (blocks : List Block) (b : Block) (found : find_block idn.raw blocks ≡ Some b) where
  abbrev asked : Request
  asked = request.Command idn

  -- the second entry sets the command
  second_allows : (e d o : Entry) (log : List Entry) → IsTransfer asked blocks e (d ∷ o ∷ []) log → Allows b d.processed.phase
  second_allows e d o log is =
      let was = without_newest asked blocks log e d (o ∷ []) is in
      let on = goes_on-outcome_of asked d.answer (replies_of (o ∷ [])) is.goes_on in
      by (answer_words (replies_of (o ∷ []))) (newest_step asked blocks log d (o ∷ []) was) (ap (λ (a : Answer). a.error) (sym was.replies.1) ∙ on.0) was.alike.1 (stage_before idn b blocks found d (o ∷ []) log was).0
    where
      by : (words : List ℕ) → slice_get (steps_of asked words) (length words) ≡ Some d.processed.step → (reply_of d.processed ((o ∷ []) ++ log)).error ≡ false → AreAlike d.processed.blocks blocks →
          Stage idn b words (o ∷ []) ((o ∷ []) ++ log) → Allows b d.processed.phase
      by words next well alike (AtOpening those is) = absurd (cc)
      by words next well alike (AtSetting p w those is opened before) =
          set_allows idn.raw d.processed ((o ∷ []) ++ log) blocks b (next_setting idn b words d.processed.step w is next) opened before alike found well
      by words next well alike (AtPoll d o past w v polled those is opened before two) = absurd (cc)

  -- so after it: the phase is that of the second entry
  set_before : (e d o : Entry) (past log : List Entry) → IsTransfer asked blocks e (d ∷ o ∷ past) log → (phase : ℕ) × Allows b phase × (AreProtected b.attribute (d ∷ o ∷ past) → is_protected b.attribute phase ≡ true)
  set_before e d o [] log is = (d.processed.phase, second_allows e d o log is, λ all. all.1)
  set_before e d o (p ∷ past) log is =
      let before = set_before d o p past log (without_newest asked blocks log e d (o ∷ p ∷ past) is) in
      (before.0, before.1, λ all. before.2 all.0)

  -- the command can be cancelled then
  allows_cancel : (phase later : ℕ) (entries : List Entry) → Allows b phase → (AreProtected b.attribute entries → is_protected b.attribute phase ≡ true) →
      (is_protected b.attribute later ≡ true → AreProtected b.attribute entries) → Allows b later
  allows_cancel phase later entries a before stays = record { two = a.two; loose = a.loose; bare = by (is_protected b.attribute later) refl }
    where
      by : (v : Bool) → is_protected b.attribute later ≡ v → v ≡ false
      by true on = let on_before = before (stays on) in let off = a.bare in absurd (cc)
      by false off = refl

  module _ (command : b.attribute.command ≡ true) where
    poll_well : (e d o : Entry) (past entries log : List Entry) (polled : List ℕ) → entries ≡ d ∷ o ∷ past → IsTransfer asked blocks e entries log → open_idn (entries ++ log) ≡ Some idn.raw → run_before true 7 (entries ++ log) ≡ [] →
        (is_protected b.attribute e.processed.phase ≡ true → AreProtected b.attribute entries) → Poll polled e.processed.step → e.answer.error ≡ false
    poll_well e d o past entries log polled those is opened free stays (Reads step long) = ap (λ (a : Answer). a.error) is.replies.1 ∙ reads_well idn.raw e.processed (entries ++ log) step opened
    poll_well e d o past entries log polled those is opened free stays (Cancels step long) =
        let set = set_before e d o past log (subst (λ (l : List Entry). IsTransfer asked blocks e l log) those is) in
        let bare = allows_cancel set.0 e.processed.phase (d ∷ o ∷ past) set.1 set.2 (λ on. subst (AreProtected b.attribute) those (stays on)) in
        ap (λ (a : Answer). a.error) is.replies.1 ∙ cancels_well idn.raw e.processed (entries ++ log) blocks b step opened free is.alike.1 found command bare

    -- where the newest is refused, nothing is set
    none_set : (e : Entry) (entries log : List Entry) → IsTransfer asked blocks e entries log → (is_protected b.attribute e.processed.phase ≡ true → AreProtected b.attribute entries) → e.answer.error ≡ true →
        added_by_setting idn.raw (second_of (e ∷ entries)) ≡ []
    none_set e entries log is stays off = by (newest_step asked blocks log e entries is) (stage_before idn b blocks found e entries log is).0
      where
        by : slice_get (steps_of asked (answer_words (replies_of entries))) (length (answer_words (replies_of entries))) ≡ Some e.processed.step →
            Stage idn b (answer_words (replies_of entries)) entries (entries ++ log) → added_by_setting idn.raw (second_of (e ∷ entries)) ≡ []
        by next (AtOpening those words) = ap (λ (l : List Entry). added_by_setting idn.raw (second_of (e ∷ l))) those
        by next (AtSetting o w those words opened free) = ap (λ (l : List Entry). added_by_setting idn.raw (second_of (e ∷ l))) those ∙ cond-true e.answer.error [] _ off
        by next (AtPoll d o past w v polled those words opened free two) =
            let well = poll_well e d o past entries log polled those is opened free stays (next_poll idn b (answer_words (replies_of entries)) e.processed.step w v polled words next) in absurd (cc)

pub refused_adds_nothing : RefusedAddsNothing
refused_adds_nothing idn blocks b e entries log code found command stays is refused =
    sets_and_cancels idn blocks e entries log is
    ∙ ap₂ (λ (v : Bool) (l : List Write). cancelled_by idn.raw v e ++ (l ++ writes_of log)) (ap is_complete refused)
    (none_set idn blocks b found command e entries log is stays (refused_error (request.Command idn) e.answer (replies_of entries) code refused))
