-- How far a transfer that sets a procedure command has come, and what it adds to the writes.
use Rattle.sercos_law_channel.proofs.Words.{cases_Bool, ◌≡◌, ℕ, suc, ◌<◌, Bool, true, false, not, ◌&&◌, List, [], ◌∷◌, ◌++◌, length, refl, ap, ap₂, sym, ◌∙◌, arith, if◌then◌else◌, length-append, cond_both, ◌==◌, Option, Some, slice_get, nat_tests, Idn, Step, Answer, Request, a_step, opening, polling, steps_of, outcome_of, answer_words, is_whole, Block, find_block, Entry, open_idn, run_before, reply_of, Write, AreAlike, writes_of, replies_of, IsTransfer, is_complete, SetsAndCancels, setting, second_of, added_by_setting, cancelled_by, and-false, and_right, inl, inr, cases_Option}
use Rattle.sercos_idn.specs.declared.kinds.Length.TheVariants as len
use Rattle.sercos_step.specs.declared.request.Request.TheVariants as request
use Rattle.sercos_law_channel.proofs.Handshake.TransferSteps.{newest_step, without_newest, complete-outcome_of, goes_on-outcome_of, adds_none, effect_by}
use Rattle.sercos_law_channel.proofs.Handshake.SettingReplies.{two_bytes, set_allows}
use Rattle.sercos_law_channel.proofs.Handshake.UnknownBlocks.{writes_nowhere, only_opening}
use Rattle.sercos_law_channel.proofs.Handshake.ReadRows.{some_same}
use Rattle.sercos_law_channel.proofs.Handshake.WriteRuns.{run_starts, open_by, last_word}

-- The next step after these data statuses reads one more, or cancels the command and is the last.
pub data Poll (polled : List ℕ) (s : Step) : Type 0 where
  Reads : s ≡ a_step false true 1 0 → ((x : ℕ) → length (polling (polled ++ x ∷ [])) ≡ suc (suc (length polled))) → Poll polled s
  Cancels : s ≡ a_step true true 7 0 → ((x : ℕ) → length (polling (polled ++ x ∷ [])) ≡ suc (length polled)) → Poll polled s

poll_more : (status : ℕ) (polled : List ℕ) (s : Step) → (status == 7) ≡ true → Poll polled s → Poll (status ∷ polled) s
poll_more status polled s seven (Reads is long) = Reads is (λ x. ap (λ (v : Bool). suc (length (if v then polling (polled ++ x ∷ []) else a_step true true 7 0 ∷ []))) seven ∙ ap suc (long x))
poll_more status polled s seven (Cancels is long) = Cancels is (λ x. ap (λ (v : Bool). suc (length (if v then polling (polled ++ x ∷ []) else a_step true true 7 0 ∷ []))) seven ∙ ap suc (long x))

poll_last : (status : ℕ) (polled : List ℕ) (s : Step) → (status == 7) ≡ false → slice_get (a_step true true 7 0 ∷ []) (length polled) ≡ Some s → Poll (status ∷ polled) s
poll_last status [] s other next =
    Cancels (some_same (a_step true true 7 0) s next) (λ x. ap (λ (v : Bool). suc (length (if v then polling (x ∷ []) else a_step true true 7 0 ∷ []))) other)
poll_last status (v ∷ polled) s other next = absurd (cc)

polls : (polled : List ℕ) (s : Step) → slice_get (polling polled) (length polled) ≡ Some s → Poll polled s
polls [] s next = Reads (some_same (a_step false true 1 0) s next)
    (λ x. cond_both (x == 7) (a_step false true 1 0 ∷ []) (a_step true true 7 0 ∷ []) (λ v. suc (length v) ≡ 2) (λ on. refl) (λ off. refl))
polls (status ∷ polled) s next = elim (cases_Bool (status == 7)) [
  | inl seven ↦ poll_more status polled s seven (polls polled s (rw seven at next))
  | inr other ↦ poll_last status polled s other (rw other at next)
]

-- After these entries, with these words answered: the next step is the opening, the setting, or one of those after it.
pub data Stage (idn : Idn) (b : Block) (words : List ℕ) (entries all : List Entry) : Type 0 where
  AtOpening : entries ≡ [] → words ≡ [] → Stage idn b words entries all
  AtSetting : (o : Entry) (w : ℕ) → entries ≡ o ∷ [] → words ≡ w ∷ [] → open_idn all ≡ Some idn.raw → run_before true 7 all ≡ [] → Stage idn b words entries all
  AtPoll : (d o : Entry) (past : List Entry) (w v : ℕ) (polled : List ℕ) → entries ≡ d ∷ o ∷ past → words ≡ w ∷ v ∷ polled → open_idn all ≡ Some idn.raw → run_before true 7 all ≡ [] → b.attribute.length ≡ len.Two →
      Stage idn b words entries all

module _ (idn : Idn) (b : Block) where
  abbrev asked : Request
  asked = request.Command idn

  -- the next step
  pub next_setting : (words : List ℕ) (s : Step) (w : ℕ) → words ≡ w ∷ [] → slice_get (steps_of asked words) (length words) ≡ Some s → s ≡ a_step true true 7 3
  next_setting words s w is next = some_same (a_step true true 7 3) s (rw is at next)

  pub next_poll : (words : List ℕ) (s : Step) (w v : ℕ) (polled : List ℕ) → words ≡ w ∷ v ∷ polled → slice_get (steps_of asked words) (length words) ≡ Some s → Poll polled s
  next_poll words s w v polled is next = polls polled s (rw is at next)

  -- whether the answer is the last
  whole_reads : (words : List ℕ) (w v : ℕ) (polled : List ℕ) (x : ℕ) → words ≡ w ∷ v ∷ polled → length (polling (polled ++ x ∷ [])) ≡ suc (suc (length polled)) → is_whole asked (words ++ x ∷ []) ≡ false
  whole_reads words w v polled x is long =
      let more = length-append polled (x ∷ []) in
      rw is (grind (arith, nat_tests))

  pub whole_cancels : (words : List ℕ) (w v : ℕ) (polled : List ℕ) (x : ℕ) → words ≡ w ∷ v ∷ polled → length (polling (polled ++ x ∷ [])) ≡ suc (length polled) → is_whole asked (words ++ x ∷ []) ≡ true
  whole_cancels words w v polled x is long =
      let more = length-append polled (x ∷ []) in
      rw is (grind (arith, nat_tests))

  module _ (blocks : List Block) (found : find_block idn.raw blocks ≡ Some b) where
    -- one entry more
    grows_poll : (words : List ℕ) (e : Entry) (entries all : List Entry) (d o : Entry) (past : List Entry) (w v : ℕ) (polled : List ℕ) →
        entries ≡ d ∷ o ∷ past → words ≡ w ∷ v ∷ polled → open_idn all ≡ Some idn.raw → run_before true 7 all ≡ [] → b.attribute.length ≡ len.Two →
        Poll polled e.processed.step → e.answer.error ≡ false → is_whole asked (words ++ e.answer.word ∷ []) ≡ false → Stage idn b (words ++ e.answer.word ∷ []) (e ∷ entries) (e ∷ all)
    grows_poll words e entries all d o past w v polled those is opened before two (Reads step long) well goes_on =
        AtPoll e d (o ∷ past) w v (polled ++ e.answer.word ∷ []) (ap (λ (l : List Entry). e ∷ l) those) (ap (λ (ws : List ℕ). ws ++ e.answer.word ∷ []) is)
        (open_by (a_step false true 1 0) e all step well ∙ opened) (run_starts (a_step false true 1 0) true 7 e all step refl) two
    grows_poll words e entries all d o past w v polled those is opened before two (Cancels step long) well goes_on =
        let whole = whole_cancels words w v polled e.answer.word is (long e.answer.word) in absurd (cc)

    grows : (words : List ℕ) (e : Entry) (entries all : List Entry) → Stage idn b words entries all → slice_get (steps_of asked words) (length words) ≡ Some e.processed.step →
        e.answer ≡ reply_of e.processed all → AreAlike e.processed.blocks blocks → e.answer.error ≡ false → is_whole asked (words ++ e.answer.word ∷ []) ≡ false →
        Stage idn b (words ++ e.answer.word ∷ []) (e ∷ entries) (e ∷ all)
    grows words e entries all (AtOpening those is) next reply alike well goes_on =
        let step = some_same (opening idn) e.processed.step (rw is at next) in
        AtSetting e e.answer.word (ap (λ (l : List Entry). e ∷ l) those) (ap (λ (ws : List ℕ). ws ++ e.answer.word ∷ []) is) (open_by (opening idn) e all step well) (run_starts (opening idn) true 7 e all step refl)
    grows words e entries all (AtSetting o w those is opened before) next reply alike well goes_on =
        let step = next_setting words e.processed.step w is next in
        let two = (set_allows idn.raw e.processed all blocks b step opened before alike found (ap (λ (a : Answer). a.error) (sym reply) ∙ well)).two in
        AtPoll e o [] w e.answer.word [] (ap (λ (l : List Entry). e ∷ l) those) (ap (λ (ws : List ℕ). ws ++ e.answer.word ∷ []) is)
        (open_by (a_step true true 7 3) e all step well ∙ opened) (run_starts (a_step true true 7 3) true 7 e all step refl) two
    grows words e entries all (AtPoll d o past w v polled those is opened before two) next reply alike well goes_on =
        grows_poll words e entries all d o past w v polled those is opened before two (next_poll words e.processed.step w v polled is next) well goes_on

    -- what it adds to the writes
    abbrev AddsBy : List ℕ → Entry → List Entry → List Entry → List Write → Type 0
    AddsBy words e entries all before = writes_of (e ∷ all) ≡ cancelled_by idn.raw (not e.answer.error && is_whole asked (words ++ e.answer.word ∷ [])) e ++ (added_by_setting idn.raw (second_of (e ∷ entries)) ++ before)

    not_cancelled : (error whole : Bool) (e : Entry) (writes : List Write) → whole ≡ false → cancelled_by idn.raw (not error && whole) e ++ writes ≡ writes
    not_cancelled error whole e writes off = ap (λ (v : Bool). cancelled_by idn.raw v e ++ writes) (and_right (not error) whole off)

    -- a word that isn't refused is written
    adds_value : (value : ℕ) (e : Entry) (all : List Entry) → value < 256 → e.processed.step ≡ a_step true true 7 value → e.answer.error ≡ false → open_idn all ≡ Some idn.raw → run_before true 7 all ≡ [] → AreAlike e.processed.blocks blocks →
        b.attribute.length ≡ len.Two → writes_of (e ∷ all) ≡ setting idn.raw value e ∷ writes_of all
    adds_value value e all small step well opened before alike two =
        last_word value e all [] idn.raw blocks b (value ∷ []) step well opened before refl alike found
        ∙ ap (λ (bytes : List ℕ). (let w : Write = record { cycle = e.processed.cycle; raw = idn.raw; bytes = bytes } in w ∷ writes_of all)) (two_bytes b value small two)

    adds_setting : (words : List ℕ) (e : Entry) (entries all : List Entry) (o : Entry) (w : ℕ) → entries ≡ o ∷ [] → words ≡ w ∷ [] → open_idn all ≡ Some idn.raw → run_before true 7 all ≡ [] → e.processed.step ≡ a_step true true 7 3 →
        e.answer ≡ reply_of e.processed all → AreAlike e.processed.blocks blocks → AddsBy words e entries all (writes_of all)
    adds_setting words e entries all o w those is opened before step reply alike =
        by e.answer.error refl
        ∙ ap (λ (l : List Entry). added_by_setting idn.raw (second_of (e ∷ l)) ++ writes_of all) (sym those)
        ∙ sym (not_cancelled e.answer.error (is_whole asked (words ++ e.answer.word ∷ [])) e (added_by_setting idn.raw (second_of (e ∷ entries)) ++ writes_of all) (rw is refl))
      where
        by : (v : Bool) → e.answer.error ≡ v → writes_of (e ∷ all) ≡ added_by_setting idn.raw (Some e) ++ writes_of all
        by true off =
            adds_none e all (effect_by (a_step true true 7 3) e step ∙ ap not off)
            ∙ ap (λ (v : Bool). (if v then [] else setting idn.raw 3 e ∷ []) ++ writes_of all) (sym off)
        by false well =
            adds_value 3 e all (omega arith) step well opened before alike (set_allows idn.raw e.processed all blocks b step opened before alike found (ap (λ (a : Answer). a.error) (sym reply) ∙ well)).two
            ∙ ap (λ (v : Bool). (if v then [] else setting idn.raw 3 e ∷ []) ++ writes_of all) (sym well)

    adds_poll : (words : List ℕ) (e : Entry) (all : List Entry) (w v : ℕ) (polled : List ℕ) → words ≡ w ∷ v ∷ polled → open_idn all ≡ Some idn.raw → run_before true 7 all ≡ [] → b.attribute.length ≡ len.Two → Poll polled e.processed.step →
        AreAlike e.processed.blocks blocks → writes_of (e ∷ all) ≡ cancelled_by idn.raw (not e.answer.error && is_whole asked (words ++ e.answer.word ∷ [])) e ++ writes_of all
    adds_poll words e all w v polled is opened before two (Reads step long) alike =
        adds_none e all (effect_by (a_step false true 1 0) e step) ∙ sym (not_cancelled e.answer.error (is_whole asked (words ++ e.answer.word ∷ [])) e (writes_of all) (whole_reads words w v polled e.answer.word is (long e.answer.word)))
    adds_poll words e all w v polled is opened before two (Cancels step long) alike = elim (cases_Bool e.answer.error) [
      | inl off ↦ adds_none e all (effect_by (a_step true true 7 0) e step ∙ ap not off) ∙
          ap (λ (v : Bool). cancelled_by idn.raw (not v && is_whole asked (words ++ e.answer.word ∷ [])) e ++ writes_of all) (sym off)
      | inr well ↦ adds_value 0 e all (omega arith) step well opened before alike two ∙ ap₂
          (λ (v whole : Bool). cancelled_by idn.raw (not v && whole) e ++ writes_of all) (sym well)
          (sym (whole_cancels words w v polled e.answer.word is (long e.answer.word)))
    ]

    adds : (words : List ℕ) (e : Entry) (entries all : List Entry) (before : List Write) → Stage idn b words entries all → slice_get (steps_of asked words) (length words) ≡ Some e.processed.step →
        e.answer ≡ reply_of e.processed all → AreAlike e.processed.blocks blocks → writes_of all ≡ added_by_setting idn.raw (second_of entries) ++ before → AddsBy words e entries all before
    adds words e entries all before (AtOpening those is) next reply alike same =
        adds_none e all (effect_by (opening idn) e (some_same (opening idn) e.processed.step (rw is at next)))
        ∙ same ∙ ap (λ (l : List Entry). added_by_setting idn.raw (second_of l) ++ before) those ∙ ap (λ (l : List Entry). added_by_setting idn.raw (second_of (e ∷ l)) ++ before) (sym those)
        ∙ sym (not_cancelled e.answer.error (is_whole asked (words ++ e.answer.word ∷ [])) e (added_by_setting idn.raw (second_of (e ∷ entries)) ++ before) (rw is refl))
    adds words e entries all before (AtSetting o w those is opened free) next reply alike same =
        adds_setting words e entries all o w those is opened free (next_setting words e.processed.step w is next) reply alike
        ∙ ap (λ (l : List Write). cancelled_by idn.raw (not e.answer.error && is_whole asked (words ++ e.answer.word ∷ [])) e ++ (added_by_setting idn.raw (second_of (e ∷ entries)) ++ l))
        (same ∙ ap (λ (l : List Entry). added_by_setting idn.raw (second_of l) ++ before) those)
    adds words e entries all before (AtPoll d o past w v polled those is opened free two) next reply alike same =
        adds_poll words e all w v polled is opened free two (next_poll words e.processed.step w v polled is next) alike
        ∙ ap (λ (l : List Write). cancelled_by idn.raw (not e.answer.error && is_whole asked (words ++ e.answer.word ∷ [])) e ++ l)
        (same ∙ ap (λ (x : Option Entry). added_by_setting idn.raw x ++ before)
        (ap second_of those ∙ ap (λ (l : List Entry). second_of (e ∷ l)) (sym those)))

    -- the entries before the newest
    pub stage_before : (e : Entry) (entries log : List Entry) → IsTransfer asked blocks e entries log →
        Stage idn b (answer_words (replies_of entries)) entries (entries ++ log) × (writes_of (entries ++ log) ≡ added_by_setting idn.raw (second_of entries) ++ writes_of log)
    stage_before e [] log is = (AtOpening refl refl, refl)
    stage_before e (d ∷ entries) log is =
        let was = without_newest asked blocks log e d entries is in
        let before = stage_before d entries log was in
        let next = newest_step asked blocks log d entries was in
        let on = goes_on-outcome_of asked d.answer (replies_of entries) is.goes_on in (
          grows (answer_words (replies_of entries)) d entries (entries ++ log) before.0 next was.replies.1 was.alike.1 on.0 on.1,
          adds (answer_words (replies_of entries)) d entries (entries ++ log) (writes_of log) before.0 next was.replies.1 was.alike.1 before.1
              ∙ not_cancelled d.answer.error (is_whole asked (answer_words (replies_of entries) ++ d.answer.word ∷ [])) d (added_by_setting idn.raw (second_of (d ∷ entries)) ++ writes_of log) on.1,
        )

    sets_found : (e : Entry) (entries log : List Entry) → IsTransfer asked blocks e entries log →
        writes_of ((e ∷ entries) ++ log) ≡ cancelled_by idn.raw (is_complete (outcome_of asked (replies_of (e ∷ entries)))) e ++ (added_by_setting idn.raw (second_of (e ∷ entries)) ++ writes_of log)
    sets_found e entries log is =
        let before = stage_before e entries log is in
        let next = newest_step asked blocks log e entries is in
        adds (answer_words (replies_of entries)) e entries (entries ++ log) (writes_of log) before.0 next is.replies.1 is.alike.1 before.1
        ∙ ap (λ (v : Bool). cancelled_by idn.raw v e ++ (added_by_setting idn.raw (second_of (e ∷ entries)) ++ writes_of log)) (sym (complete-outcome_of asked e.answer (replies_of entries)))

pub sets_and_cancels : SetsAndCancels
sets_and_cancels idn blocks e entries log is = elim (cases_Option (find_block idn.raw blocks)) [
  | inl none ↦ let only = only_opening (request.Command idn) blocks e entries log none is in
      let incomplete : is_complete (outcome_of (request.Command idn) (replies_of (e ∷ entries))) ≡ false =
      ap (λ (l : List Entry). is_complete (outcome_of (request.Command idn) (replies_of (e ∷ l)))) only.0
      ∙ complete-outcome_of (request.Command idn) e.answer [] ∙ and-false (not e.answer.error) in
      writes_nowhere (request.Command idn) blocks e entries log none is
      ∙ ap₂ (λ (v : Bool) (l : List Entry). cancelled_by idn.raw v e ++ (added_by_setting idn.raw (second_of (e ∷ l)) ++ writes_of log))
      (sym incomplete) (sym only.0)
  | inr (b, found) ↦ sets_found idn b blocks found e entries log is
]
