-- How far a write of operation data has come, and what it adds to the writes.
use Rattle.sercos_law_channel.proofs.Words.{◌≡◌, ℕ, suc, ◌+◌, ◌*◌, Bool, true, false, not, ◌&&◌, List, [], ◌∷◌, ◌++◌, length, drop, refl, ap, ap₂, sym, ◌∙◌, arith, if◌then◌else◌, length-append, ◌==◌, nat_le, Some, slice_get, slice_index, nat_tests, AreBytes, Idn, Step, Answer, Shape, Request, words_of, at_least_one, words_told, shape_of, shape_by, a_step, opening, run, steps_of, outcome_of, answer_words, is_whole, Block, find_block, Processed, Entry, open_idn, run_before, in_order, reply_of, bytes_written, Write, AreAlike, writes_of, replies_of, IsTransfer, is_complete, stored, length-run, length-in_order, and_right, cond-true, cond-false, inl, inr, cases_Bool}
use Rattle.sercos_step.specs.declared.shape.Shape.TheVariants as shape
use Rattle.sercos_step.specs.declared.request.Request.TheVariants as request
use Rattle.sercos_law_channel.proofs.Handshake.TransferSteps.{newest_step, without_newest, complete-outcome_of, goes_on-outcome_of, adds_none, effect_by}
use Rattle.sercos_law_channel.proofs.Handshake.StoredBytes.{bytes_written-told}
use Rattle.sercos_law_channel.proofs.Handshake.AttributeReplies.{attribute_words, IsRead, IsRead-alike, reply_low, reply_high}
use Rattle.sercos_law_channel.proofs.Handshake.ReadRows.{some_same}
use Rattle.sercos_law_channel.proofs.Handshake.WriteRuns.{run_next, run_grows, run_starts, open_by, last_word}

abbrev pub low_of : Block → ℕ
low_of b = slice_index (attribute_words b.attribute) 0

abbrev pub high_of : Block → ℕ
high_of b = slice_index (attribute_words b.attribute) 1

-- the words that write bytes to a block
abbrev pub told : Block → List ℕ → List ℕ
told b bytes = words_told (shape_by b.attribute.length) bytes

parts : (words : List ℕ) → slice_index (at_least_one words) 0 ∷ drop 1 (at_least_one words) ≡ at_least_one words
parts [] = refl
parts (w ∷ words) = refl

told_parts : (s : Shape) (bytes : List ℕ) → slice_index (words_told s bytes) 0 ∷ drop 1 (words_told s bytes) ≡ words_told s bytes
told_parts shape.One bytes = parts (words_of bytes)
told_parts shape.Two bytes = parts (words_of bytes)
told_parts shape.List bytes = refl

-- After these entries, with these words answered: the next step is the opening, one of the two that read the attribute, or
-- the one that writes a word, with others after it.
pub data Stage (idn : Idn) (bytes : List ℕ) (b : Block) (words : List ℕ) (all : List Entry) : Type 0 where
  AtOpening : words ≡ [] → Stage idn bytes b words all
  AtLow : (w : ℕ) → words ≡ w ∷ [] → open_idn all ≡ Some idn.raw → run_before false 3 all ≡ [] → Stage idn bytes b words all
  AtHigh : (w : ℕ) (t : Processed) → words ≡ w ∷ low_of b ∷ [] → open_idn all ≡ Some idn.raw → run_before false 3 all ≡ t ∷ [] → IsRead idn.raw t b.attribute → Stage idn bytes b words all
  AtWord : (w : ℕ) (more : List ℕ) (taken : List Processed) (word : ℕ) (rest : List ℕ) → words ≡ w ∷ low_of b ∷ high_of b ∷ more → length more ≡ length taken → open_idn all ≡ Some idn.raw →
      run_before true 7 all ≡ taken → in_order taken (word ∷ rest) ≡ told b bytes → Stage idn bytes b words all

abbrev pub is_nil : List ℕ → Bool
is_nil [] = true
is_nil (w ∷ ws) = false

module _ (idn : Idn) (bytes : List ℕ) (b : Block) (said : shape_of 7 (low_of b + 65536 * high_of b) ≡ shape_by b.attribute.length) where
  abbrev asked : Request
  asked = request.Write idn 7 bytes

  -- the next step
  pub next_opening : (words : List ℕ) (s : Step) → words ≡ [] → slice_get (steps_of asked words) (length words) ≡ Some s → s ≡ opening idn
  next_opening words s is next = some_same (opening idn) s (rw is at next)

  pub next_low : (words : List ℕ) (s : Step) (w : ℕ) → words ≡ w ∷ [] → slice_get (steps_of asked words) (length words) ≡ Some s → s ≡ a_step false false 3 0
  next_low words s w is next = some_same (a_step false false 3 0) s (rw is at next)

  pub next_high : (words : List ℕ) (s : Step) (w x : ℕ) → words ≡ w ∷ x ∷ [] → slice_get (steps_of asked words) (length words) ≡ Some s → s ≡ a_step false true 3 0
  next_high words s w x is next = some_same (a_step false true 3 0) s (rw is at next)

  steps_known : (w : ℕ) (more : List ℕ) → steps_of asked (w ∷ low_of b ∷ high_of b ∷ more) ≡ opening idn ∷ a_step false false 3 0 ∷ a_step false true 3 0 ∷ run true 7 (told b bytes)
  steps_known w more = ap (λ (s : Shape). opening idn ∷ a_step false false 3 0 ∷ a_step false true 3 0 ∷ run true 7 (words_told s bytes)) said

  first_of : (word : ℕ) (rest : List ℕ) → slice_get (run true 7 (word ∷ rest)) 0 ≡ Some (a_step true (is_nil rest) 7 word)
  first_of word [] = refl
  first_of word (v ∷ rest) = refl

  pub next_word : (words : List ℕ) (s : Step) (w : ℕ) (more : List ℕ) (taken : List Processed) (word : ℕ) (rest : List ℕ) → words ≡ w ∷ low_of b ∷ high_of b ∷ more → length more ≡ length taken →
      in_order taken (word ∷ rest) ≡ told b bytes → slice_get (steps_of asked words) (length words) ≡ Some s → s ≡ a_step true (is_nil rest) 7 word
  next_word words s w more taken word rest is count ordered next =
      let at : slice_get (steps_of asked words) (length words) ≡ slice_get (run true 7 (told b bytes)) (length more) =
      ap (λ (ws : List ℕ). slice_get (steps_of asked ws) (length ws)) is ∙ ap (λ (steps : List Step). slice_get steps (suc (suc (suc (length more))))) (steps_known w more) in
      let there : slice_get (run true 7 (told b bytes)) (length more) ≡ Some (a_step true (is_nil rest) 7 word) =
      ap₂ (λ (ws : List ℕ) (k : ℕ). slice_get (run true 7 ws) k) (sym ordered) count ∙ run_next taken word rest ∙ first_of word rest in
      some_same (a_step true (is_nil rest) 7 word) s (sym there ∙ sym at ∙ next)

  -- whether the answer is the last
  whole_three : (words : List ℕ) (w v x : ℕ) → words ≡ w ∷ v ∷ [] → is_whole asked (words ++ x ∷ []) ≡ false
  whole_three words w v x is =
      let some : suc (length (drop 1 (words_told (shape_of 7 (v + 65536 * x)) bytes))) ≡ length (words_told (shape_of 7 (v + 65536 * x)) bytes) = ap length (told_parts (shape_of 7 (v + 65536 * x)) bytes) in
      let same : length (run true 7 (words_told (shape_of 7 (v + 65536 * x)) bytes)) ≡ length (words_told (shape_of 7 (v + 65536 * x)) bytes) = length-run true 7 (words_told (shape_of 7 (v + 65536 * x)) bytes) in
      rw is (grind (arith, nat_tests))

  whole_by : (w : ℕ) (more : List ℕ) (taken : List Processed) (word : ℕ) (rest : List ℕ) → length more ≡ suc (length taken) → in_order taken (word ∷ rest) ≡ told b bytes →
      is_whole asked (w ∷ low_of b ∷ high_of b ∷ more) ≡ is_nil rest
  whole_by w more taken word rest count ordered =
      let long : length (steps_of asked (w ∷ low_of b ∷ high_of b ∷ more)) ≡ suc (suc (suc (length (run true 7 (told b bytes))))) = ap length (steps_known w more) in
      let same : length (run true 7 (told b bytes)) ≡ length (told b bytes) = length-run true 7 (told b bytes) in
      let known : length (told b bytes) ≡ length taken + suc (length rest) = ap length (sym ordered) ∙ length-in_order taken (word ∷ rest) in
      by rest (length (steps_of asked (w ∷ low_of b ∷ high_of b ∷ more))) (length more) (omega arith)
    where
      by : (rest : List ℕ) (n k : ℕ) → n ≡ suc (suc (k + suc (length rest))) → nat_le n (suc (suc (suc k))) ≡ is_nil rest
      by [] n k is = grind (arith, nat_tests)
      by (v ∷ rest) n k is = grind (arith, nat_tests)

  whole_word : (words : List ℕ) (w : ℕ) (more : List ℕ) (taken : List Processed) (word : ℕ) (rest : List ℕ) (x : ℕ) → words ≡ w ∷ low_of b ∷ high_of b ∷ more → length more ≡ length taken → in_order taken (word ∷ rest) ≡ told b bytes →
      is_whole asked (words ++ x ∷ []) ≡ is_nil rest
  whole_word words w more taken word rest x is count ordered =
      let longer : length (more ++ x ∷ []) ≡ suc (length taken) = omega (arith, length-append more (x ∷ [])) in
      ap (λ (ws : List ℕ). is_whole asked (ws ++ x ∷ [])) is ∙ whole_by w (more ++ x ∷ []) taken word rest longer ordered

  -- one entry more
  module _ (blocks : List Block) (found : find_block idn.raw blocks ≡ Some b) where
    grows_word : (words : List ℕ) (e : Entry) (all : List Entry) (w : ℕ) (more : List ℕ) (taken : List Processed) (word : ℕ) (rest : List ℕ) →
        words ≡ w ∷ low_of b ∷ high_of b ∷ more → length more ≡ length taken → open_idn all ≡ Some idn.raw → run_before true 7 all ≡ taken → in_order taken (word ∷ rest) ≡ told b bytes →
        e.processed.step ≡ a_step true (is_nil rest) 7 word → e.answer.error ≡ false → is_nil rest ≡ false → Stage idn bytes b (words ++ e.answer.word ∷ []) (e ∷ all)
    grows_word words e all w more taken word [] is count opened before ordered step well not_last = absurd (cc)
    grows_word words e all w more taken word (v ∷ rest) is count opened before ordered step well not_last =
        AtWord w (more ++ e.answer.word ∷ []) (e.processed ∷ taken) v rest
        (ap (λ (ws : List ℕ). ws ++ e.answer.word ∷ []) is)
        (omega (arith, length-append more (e.answer.word ∷ [])))
        (open_by (a_step true false 7 word) e all step well ∙ opened)
        (run_grows (a_step true false 7 word) true 7 e all taken step well before refl)
        (ap (λ (s : Step). in_order taken (s.word ∷ v ∷ rest)) step ∙ ordered)

    grows : (words : List ℕ) (e : Entry) (all : List Entry) → Stage idn bytes b words all → slice_get (steps_of asked words) (length words) ≡ Some e.processed.step →
        e.answer ≡ reply_of e.processed all → AreAlike e.processed.blocks blocks → e.answer.error ≡ false → is_whole asked (words ++ e.answer.word ∷ []) ≡ false → Stage idn bytes b (words ++ e.answer.word ∷ []) (e ∷ all)
    grows words e all (AtOpening is) next reply alike well goes_on =
        let step = next_opening words e.processed.step is next in
        AtLow e.answer.word (ap (λ (ws : List ℕ). ws ++ e.answer.word ∷ []) is) (open_by (opening idn) e all step well) (run_starts (opening idn) false 3 e all step refl)
    grows words e all (AtLow w is opened before) next reply alike well goes_on =
        let step = next_low words e.processed.step w is next in
        let read = IsRead-alike idn.raw e.processed blocks b (ap (λ (s : Step). s.element) step) alike found in
        let word : e.answer.word ≡ low_of b = ap (λ (a : Answer). a.word) (reply ∙ reply_low idn.raw 0 false e.processed all b.attribute step opened before read) in
        AtHigh w e.processed (ap₂ (λ (ws : List ℕ) (x : ℕ). ws ++ x ∷ []) is word) (open_by (a_step false false 3 0) e all step well ∙ opened)
        (run_grows (a_step false false 3 0) false 3 e all [] step well before refl) read
    grows words e all (AtHigh w t is opened before read) next reply alike well goes_on =
        let step = next_high words e.processed.step w (low_of b) is next in
        let word : e.answer.word ≡ high_of b = ap (λ (a : Answer). a.word) (reply ∙ reply_high idn.raw 0 true e.processed t all b.attribute step opened before read) in
        AtWord w [] [] (slice_index (told b bytes) 0) (drop 1 (told b bytes)) (ap₂ (λ (ws : List ℕ) (x : ℕ). ws ++ x ∷ []) is word) refl
        (open_by (a_step false true 3 0) e all step well ∙ opened) (run_starts (a_step false true 3 0) true 7 e all step refl) (told_parts (shape_by b.attribute.length) bytes)
    grows words e all (AtWord w more taken word rest is count opened before ordered) next reply alike well goes_on =
        let step = next_word words e.processed.step w more taken word rest is count ordered next in
        let not_last : is_nil rest ≡ false = sym (whole_word words w more taken word rest e.answer.word is count ordered) ∙ goes_on in
        grows_word words e all w more taken word rest is count opened before ordered step well not_last

    -- what it adds to the writes
    abbrev AddsBy : List ℕ → Entry → List Entry → Type 0
    AddsBy words e all = writes_of (e ∷ all) ≡
        (if not e.answer.error && is_whole asked (words ++ e.answer.word ∷ []) then (record { cycle = e.processed.cycle; raw = idn.raw; bytes = bytes_written b (told b bytes) }) ∷ writes_of all else writes_of all)

    adds_early : (words : List ℕ) (e : Entry) (all : List Entry) (s : Step) → e.processed.step ≡ s → (s.write && ((s.element == 7) && (s.last && not e.answer.error))) ≡ false → is_whole asked (words ++ e.answer.word ∷ []) ≡ false → AddsBy words e all
    adds_early words e all s step off open_still =
        adds_none e all (effect_by s e step ∙ off) ∙ sym (cond-false _ _ _ (and_right (not e.answer.error) (is_whole asked (words ++ e.answer.word ∷ [])) open_still))

    adds_word : (words : List ℕ) (e : Entry) (all : List Entry) (taken : List Processed) (word : ℕ) (rest : List ℕ) → open_idn all ≡ Some idn.raw → run_before true 7 all ≡ taken → in_order taken (word ∷ rest) ≡ told b bytes →
        e.processed.step ≡ a_step true (is_nil rest) 7 word → AreAlike e.processed.blocks blocks → is_whole asked (words ++ e.answer.word ∷ []) ≡ is_nil rest → AddsBy words e all
    adds_word words e all taken word (v ∷ rest) opened before ordered step alike whole = adds_early words e all (a_step true false 7 word) step refl whole
    adds_word words e all taken word [] opened before ordered step alike whole = elim (cases_Bool e.answer.error) [
      | inl refused ↦
          adds_none e all (effect_by (a_step true true 7 word) e step ∙ ap not refused)
          ∙ sym (cond-false _ _ _ (ap (λ (v : Bool). not v && is_whole asked (words ++ e.answer.word ∷ [])) refused))
      | inr well ↦
          last_word word e all taken idn.raw blocks b (told b bytes) step well opened before ordered alike found
          ∙ sym (cond-true _ _ _ (ap₂ (λ (v w : Bool). not v && w) well whole))
    ]

    adds : (words : List ℕ) (e : Entry) (all : List Entry) → Stage idn bytes b words all → slice_get (steps_of asked words) (length words) ≡ Some e.processed.step → AreAlike e.processed.blocks blocks → AddsBy words e all
    adds words e all (AtOpening is) next alike = adds_early words e all (opening idn) (next_opening words e.processed.step is next) refl (rw is refl)
    adds words e all (AtLow w is opened before) next alike = adds_early words e all (a_step false false 3 0) (next_low words e.processed.step w is next) refl (rw is refl)
    adds words e all (AtHigh w t is opened before read) next alike = adds_early words e all (a_step false true 3 0) (next_high words e.processed.step w (low_of b) is next) refl (whole_three words w (low_of b) e.answer.word is)
    adds words e all (AtWord w more taken word rest is count opened before ordered) next alike =
        adds_word words e all taken word rest opened before ordered (next_word words e.processed.step w more taken word rest is count ordered next) alike (whole_word words w more taken word rest e.answer.word is count ordered)

    -- the entries before the newest
    pub stage_before : (e : Entry) (entries log : List Entry) → IsTransfer asked blocks e entries log → Stage idn bytes b (answer_words (replies_of entries)) (entries ++ log) × (writes_of (entries ++ log) ≡ writes_of log)
    stage_before e [] log is = (AtOpening refl, refl)
    stage_before e (d ∷ entries) log is =
        let was = without_newest asked blocks log e d entries is in
        let before = stage_before d entries log was in
        let next = newest_step asked blocks log d entries was in
        let on = goes_on-outcome_of asked d.answer (replies_of entries) is.goes_on in (
          grows (answer_words (replies_of entries)) d (entries ++ log) before.0 next was.replies.1 was.alike.1 on.0 on.1,
          adds (answer_words (replies_of entries)) d (entries ++ log) before.0 next was.alike.1 ∙ cond-false _ _ _ (and_right (not d.answer.error) (is_whole asked (answer_words (replies_of entries) ++ d.answer.word ∷ [])) on.1) ∙ before.1,
        )

    pub writes_once_by : (e : Entry) (entries log : List Entry) → AreBytes bytes → IsTransfer asked blocks e entries log →
        writes_of ((e ∷ entries) ++ log) ≡ (if is_complete (outcome_of asked (replies_of (e ∷ entries))) then (record { cycle = e.processed.cycle; raw = idn.raw; bytes = stored b bytes }) ∷ writes_of log else writes_of log)
    writes_once_by e entries log are is =
        let before = stage_before e entries log is in
        adds (answer_words (replies_of entries)) e (entries ++ log) before.0 (newest_step asked blocks log e entries is) is.alike.1
        ∙ same_choice _ _ _ _ _ _ (sym (complete-outcome_of asked e.answer (replies_of entries))) (bytes_written-told b bytes are) before.1
      where
        same_choice : (u v : Bool) (x y : List ℕ) (past writes : List Write) → u ≡ v → x ≡ y → past ≡ writes →
            (if u then (record { cycle = e.processed.cycle; raw = idn.raw; bytes = x }) ∷ past else past) ≡ (if v then (record { cycle = e.processed.cycle; raw = idn.raw; bytes = y }) ∷ writes else writes)
        same_choice u v x y past writes of_test of_bytes of_past =
            ap₂ (λ (c : Bool) (z : List ℕ). if c then (record { cycle = e.processed.cycle; raw = idn.raw; bytes = z }) ∷ past else past) of_test of_bytes
            ∙ ap (λ (l : List Write). if v then (record { cycle = e.processed.cycle; raw = idn.raw; bytes = y }) ∷ l else l) of_past
