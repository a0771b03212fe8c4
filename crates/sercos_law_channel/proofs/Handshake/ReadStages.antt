-- How far a read has come, and what it gives.
use Rattle.sercos_law_channel.proofs.Words.{◌≡◌, ℕ, suc, ◌+◌, ◌*◌, Bool, true, false, List, [], ◌∷◌, ◌++◌, length, drop, refl, ap, ap₂, sym, ◌∙◌, arith, if◌then◌else◌, length-append, ◌==◌, nat_le, Option, Some, None, slice_get, slice_index, cond-true, cond-false, nat_tests, Idn, Step, Answer, Shape, Request, shape_of, words_in, bytes_read, a_step, opening, reading, attribute_then, asks_attribute, steps_of, steps_before, result_of, outcome_of, answer_words, is_whole, Block, find_block, Processed, Entry, open_idn, run_before, selection, answer_by, copy, read_cause, reply_of, AreAlike, replies_of, IsTransfer, entry_behind, length-answer_words, and-false, no_cause, eq-eqb, ne_eqb, and_from}
use Rattle.sercos_step.specs.declared.request.Request.TheVariants as request
use Rattle.sercos_step.specs.declared.request.Outcome.TheVariants as outcome
use Rattle.sercos_law_channel.proofs.Handshake.TransferSteps.{newest_step, without_newest, goes_on-outcome_of, length-replies_of, complete_is}
use Rattle.sercos_law_channel.proofs.Handshake.AttributeReplies.{IsRead, IsRead-alike, reply-read, reply_low, reply_high}
use Rattle.sercos_law_channel.proofs.Handshake.ReadRows.{some_same, row, row-more, reading_next, reading_full, some_reading, both_more}
use Rattle.sercos_law_channel.proofs.Handshake.WriteRuns.{run_grows, run_starts, open_by}
pub use Rattle.sercos_law_channel.proofs.Handshake.WriteStages.{high_of, low_of}

-- the layout that the master reads by
abbrev pub shape_asked : ℕ → Bool → Block → Shape
shape_asked e v b = shape_of e (if v then low_of b + 65536 * high_of b else 0)

abbrev pub shape_read : ℕ → Block → Shape
shape_read e b = shape_asked e (asks_attribute e) b

-- The words of the element stand after the word that answered the opening, and after the two of the attribute where it is read.
pub data Behind (b : Block) (asks : Bool) (words own : List ℕ) : Type 0 where
  Short : (asks ≡ false) → (w : ℕ) → (words ≡ w ∷ own) → Behind b asks words own
  Long : (asks ≡ true) → (w : ℕ) → (words ≡ w ∷ low_of b ∷ high_of b ∷ own) → Behind b asks words own

behind_more : (b : Block) (asks : Bool) (words own : List ℕ) (x : ℕ) → Behind b asks words own → Behind b asks (words ++ x ∷ []) (own ++ x ∷ [])
behind_more b asks words own x (Short off w is) = Short off w (ap (λ (ws : List ℕ). ws ++ x ∷ []) is)
behind_more b asks words own x (Long on w is) = Long on w (ap (λ (ws : List ℕ). ws ++ x ∷ []) is)

-- steps and result, by whether the attribute is read
abbrev steps_by : Idn → ℕ → Bool → List ℕ → List Step
steps_by idn e v words = opening idn ∷ (if v then attribute_then (λ (attribute : ℕ) (after : List ℕ). reading (shape_of e attribute) e after) (drop 1 words) else reading (shape_of e 0) e (drop 1 words))

abbrev result_by : ℕ → Bool → List ℕ → List ℕ
result_by e v words = bytes_read (shape_of e (if v then slice_index words 1 + 65536 * slice_index words 2 else 0)) (drop (if v then 3 else 1) words)

abbrev before_by : Bool → ℕ
before_by v = if v then 3 else 1

record IsPlaced (idn : Idn) (e : ℕ) (b : Block) (asks : Bool) (words own : List ℕ) : Type 0 where
  next : slice_get (steps_by idn e asks words) (length words) ≡ slice_get (reading (shape_asked e asks b) e own) (length own)
  whole : nat_le (length (steps_by idn e asks words)) (length words) ≡ nat_le (length (reading (shape_asked e asks b) e own)) (length own)
  result : result_by e asks words ≡ bytes_read (shape_asked e asks b) own
  count : length words ≡ before_by asks + length own

placed : (idn : Idn) (e : ℕ) (b : Block) (asks : Bool) (words own : List ℕ) → Behind b asks words own → IsPlaced idn e b asks words own
placed idn e b false words own (Short off w is) = rw is
    (record {
      next = refl;
      whole = sym (both_more (length (reading (shape_of e 0) e own)) (length own));
      result = refl;
      count = omega arith;
    })
placed idn e b true words own (Short off w is) = absurd (cc)
placed idn e b true words own (Long on w is) = rw is (record {
  next = refl;
  whole = grind (arith, nat_tests);
  result = refl;
  count = omega arith;
})
placed idn e b false words own (Long on w is) = absurd (cc)

module _ (idn : Idn) (e : ℕ) (b : Block) (blocks : List Block) (found : find_block idn.raw blocks ≡ Some b) (some : (e == 0) ≡ false) where
  abbrev asked : Request
  asked = request.Read idn e

  -- the selection of the run that a further entry goes on, and the words that it copied so far
  pub record Chosen (own : List ℕ) (taken : List Processed) (entries : List Entry) (x : Entry) : Type 0 where
    pub entry : Entry
    pub at : entry_behind (steps_before e) (x ∷ entries) ≡ Some entry
    pub is : entry.processed ≡ selection x.processed taken
    pub copied : own ≡ row (length taken) (copy idn.raw entry.processed)
    pub reads : x.processed.step.write ≡ false → entry.processed.step.write ≡ false
    pub element : x.processed.step.element ≡ e → entry.processed.step.element ≡ e
    pub alike : AreAlike x.processed.blocks blocks → AreAlike entry.processed.blocks blocks

  -- After these entries, with these words answered: the next step is the opening, one of the two that read the attribute, or
  -- the one that reads a word.
  pub data Stage (words : List ℕ) (entries log : List Entry) : Type 0 where
    AtOpening : (words ≡ []) → Stage words entries log
    AtLow : (asks_attribute e ≡ true) → (w : ℕ) → (words ≡ w ∷ []) → (open_idn (entries ++ log) ≡ Some idn.raw) → (run_before false 3 (entries ++ log) ≡ []) → Stage words entries log
    AtHigh : (asks_attribute e ≡ true) → (w : ℕ) (t : Processed) → (words ≡ w ∷ low_of b ∷ []) → (open_idn (entries ++ log) ≡ Some idn.raw) → (run_before false 3 (entries ++ log) ≡ t ∷ []) →
        IsRead idn.raw t b.attribute → Stage words entries log
    AtWord : (own : List ℕ) (taken : List Processed) → Behind b (asks_attribute e) words own → (length own ≡ length taken) → (open_idn (entries ++ log) ≡ Some idn.raw) →
        (run_before false e (entries ++ log) ≡ taken) → ((x : Entry) → Chosen own taken entries x) → Stage words entries log

  -- the next step, by whether the attribute is read
  by_asked : (v : Bool) (words : List ℕ) (s : Step) → asks_attribute e ≡ v → slice_get (steps_of asked words) (length words) ≡ Some s → slice_get (steps_by idn e v words) (length words) ≡ Some s
  by_asked v words s asks next = ap (λ (x : Bool). slice_get (steps_by idn e x words) (length words)) (sym asks) ∙ next

  pub next_word : (words own : List ℕ) (s : Step) (x : ℕ) → Behind b (asks_attribute e) words own → slice_get (steps_of asked words) (length words) ≡ Some s → s ≡ a_step false (is_whole asked (words ++ x ∷ [])) e 0
  next_word words own s x behind next =
      reading_next (shape_read e b) e own s x (sym (placed idn e b (asks_attribute e) words own behind).next ∙ next)
      ∙ ap (λ (v : Bool). a_step false v e 0) (sym (placed idn e b (asks_attribute e) (words ++ x ∷ []) (own ++ x ∷ []) (behind_more b (asks_attribute e) words own x behind)).whole)

  -- no entry stands after itself
  first_chosen : (entries : List Entry) (x : Entry) → length entries ≡ steps_before e → Chosen [] [] entries x
  first_chosen entries x count = record {
    entry = x;
    at = cond-true (length entries == steps_before e) (Some x) (entry_behind (steps_before e) entries) (eq-eqb (length entries) (steps_before e) count);
    is = refl;
    copied = refl;
    reads = λ is. is;
    element = λ is. is;
    alike = λ is. is;
  }

  next_chosen : (own : List ℕ) (taken : List Processed) (entries : List Entry) (d x : Entry) (last : Bool) → length entries ≡ steps_before e + length own → d.processed.step ≡ a_step false last e 0 → AreAlike d.processed.blocks blocks →
      (c : Chosen own taken entries d) → d.answer.word ≡ slice_index (copy idn.raw c.entry.processed) (length taken) → Chosen (own ++ d.answer.word ∷ []) (d.processed ∷ taken) (d ∷ entries) x
  next_chosen own taken entries d x last count step alike c word = record {
    entry = c.entry;
    at = cond-false (length (d ∷ entries) == steps_before e) (Some x) (entry_behind (steps_before e) (d ∷ entries)) (ne_eqb (suc (length entries)) (steps_before e) (λ same. omega (arith, same, count))) ∙ c.at;
    is = c.is;
    copied = ap₂ (λ (l : List ℕ) (w : ℕ). l ++ w ∷ []) c.copied word ∙ row-more (length taken) (copy idn.raw c.entry.processed);
    reads = λ is. c.reads (ap (λ (s : Step). s.write) step);
    element = λ is. c.element (ap (λ (s : Step). s.element) step);
    alike = λ is. c.alike alike;
  }

  -- what an answer to a step of the run is
  word_answered : (own : List ℕ) (taken : List Processed) (entries log : List Entry) (d : Entry) (last : Bool) → d.processed.step ≡ a_step false last e 0 → open_idn (entries ++ log) ≡ Some idn.raw → run_before false e (entries ++ log) ≡ taken →
      d.answer ≡ reply_of d.processed (entries ++ log) → d.answer.error ≡ false → (c : Chosen own taken entries d) → (read_cause idn.raw c.entry.processed ≡ None) × (d.answer.word ≡ slice_index (copy idn.raw c.entry.processed) (length taken))
  word_answered own taken entries log d last step opened before reply well c =
      let word = slice_index (copy idn.raw c.entry.processed) (length taken) in
      let is : d.answer ≡ answer_by (read_cause idn.raw c.entry.processed) word =
      reply ∙ reply-read idn.raw e 0 last d.processed (entries ++ log) taken some step opened before
      ∙ ap (λ (t : Processed). answer_by (read_cause idn.raw t) (slice_index (copy idn.raw t) (length taken))) (sym c.is) in
      let none = no_cause (read_cause idn.raw c.entry.processed) word (ap (λ (a : Answer). a.error) (sym is) ∙ well) in
      (none, ap (λ (a : Answer). a.word) (is ∙ ap (λ (o : Option ℕ). answer_by o word) none))

  -- one entry more
  starts : (words : List ℕ) (d : Entry) (entries log : List Entry) (v : Bool) → asks_attribute e ≡ v → words ≡ [] → length words ≡ length entries → d.processed.step ≡ opening idn → d.answer.error ≡ false →
      Stage (words ++ d.answer.word ∷ []) (d ∷ entries) log
  starts words d entries log true asks is count step well =
      AtLow asks d.answer.word (ap (λ (ws : List ℕ). ws ++ d.answer.word ∷ []) is) (open_by (opening idn) d (entries ++ log) step well) (run_starts (opening idn) false 3 d (entries ++ log) step refl)
  starts words d entries log false asks is count step well =
      AtWord [] [] (Short asks d.answer.word (ap (λ (ws : List ℕ). ws ++ d.answer.word ∷ []) is)) refl (open_by (opening idn) d (entries ++ log) step well) (run_starts (opening idn) false e d (entries ++ log) step refl)
      (λ x. first_chosen (d ∷ entries) x (let none : length words ≡ 0 = ap length is in let one : 1 ≡ steps_before e = ap before_by (sym asks) in omega arith))

  grows : (words : List ℕ) (d : Entry) (entries log : List Entry) → Stage words entries log → length words ≡ length entries → slice_get (steps_of asked words) (length words) ≡ Some d.processed.step →
      d.answer ≡ reply_of d.processed (entries ++ log) → AreAlike d.processed.blocks blocks → d.answer.error ≡ false → is_whole asked (words ++ d.answer.word ∷ []) ≡ false → Stage (words ++ d.answer.word ∷ []) (d ∷ entries) log
  grows words d entries log (AtOpening is) count next reply alike well goes_on =
      starts words d entries log (asks_attribute e) refl is count (some_same (opening idn) d.processed.step (rw is at next)) well
  grows words d entries log (AtLow asks w is opened before) count next reply alike well goes_on =
      let step = some_same (a_step false false 3 0) d.processed.step (rw is at (by_asked true words d.processed.step asks next)) in
      let read = IsRead-alike idn.raw d.processed blocks b (ap (λ (s : Step). s.element) step) alike found in
      let word : d.answer.word ≡ low_of b = ap (λ (a : Answer). a.word) (reply ∙ reply_low idn.raw 0 false d.processed (entries ++ log) b.attribute step opened before read) in
      AtHigh asks w d.processed (ap₂ (λ (ws : List ℕ) (x : ℕ). ws ++ x ∷ []) is word) (open_by (a_step false false 3 0) d (entries ++ log) step well ∙ opened)
      (run_grows (a_step false false 3 0) false 3 d (entries ++ log) [] step well before refl) read
  grows words d entries log (AtHigh asks w t is opened before read) count next reply alike well goes_on =
      let step = some_same (a_step false true 3 0) d.processed.step (rw is at (by_asked true words d.processed.step asks next)) in
      let word : d.answer.word ≡ high_of b = ap (λ (a : Answer). a.word) (reply ∙ reply_high idn.raw 0 true d.processed t (entries ++ log) b.attribute step opened before read) in
      let two : length words ≡ 2 = ap length is in
      let three : 3 ≡ steps_before e = ap before_by (sym asks) in
      AtWord [] [] (Long asks w (ap₂ (λ (ws : List ℕ) (x : ℕ). ws ++ x ∷ []) is word)) refl
      (open_by (a_step false true 3 0) d (entries ++ log) step well ∙ opened) (run_starts (a_step false true 3 0) false e d (entries ++ log) step (and-false (3 == e)))
      (λ x. first_chosen (d ∷ entries) x (omega arith))
  grows words d entries log (AtWord own taken behind long opened before chosen) count next reply alike well goes_on =
      let step : d.processed.step ≡ a_step false false e 0 = next_word words own d.processed.step d.answer.word behind next ∙ ap (λ (v : Bool). a_step false v e 0) goes_on in
      let answered = word_answered own taken entries log d false step opened before reply well (chosen d) in
      let there : length words ≡ steps_before e + length own = (placed idn e b (asks_attribute e) words own behind).count in
      AtWord (own ++ d.answer.word ∷ []) (d.processed ∷ taken) (behind_more b (asks_attribute e) words own d.answer.word behind)
      (omega (arith, length-append own (d.answer.word ∷ [])))
      (open_by (a_step false false e 0) d (entries ++ log) step well ∙ cond-false (e == 0) None (open_idn (entries ++ log)) some ∙ opened)
      (run_grows (a_step false false e 0) false e d (entries ++ log) taken step well before (and_from (e == e) true (eq-eqb e e refl) refl))
      (λ x. next_chosen own taken entries d x false (omega arith) step alike (chosen d) answered.1)

  -- the entries before the newest
  pub stage_before : (d : Entry) (entries log : List Entry) → IsTransfer asked blocks d entries log → Stage (answer_words (replies_of entries)) entries log
  stage_before d [] log is = AtOpening refl
  stage_before d (c ∷ entries) log is =
      let was = without_newest asked blocks log d c entries is in
      let on = goes_on-outcome_of asked c.answer (replies_of entries) is.goes_on in
      grows (answer_words (replies_of entries)) c entries log (stage_before c entries log was) (length-answer_words (replies_of entries) ∙ length-replies_of entries)
      (newest_step asked blocks log c entries was) was.replies.1 was.alike.1 on.0 on.1

  -- a complete read has a selection, and gives the words that it copied
  pub record IsGiven (bytes : List ℕ) (entries : List Entry) (s : Entry) : Type 0 where
    pub entry : Entry
    pub at : entry_behind (steps_before e) (s ∷ entries) ≡ Some entry
    pub reads : entry.processed.step.write ≡ false
    pub element : entry.processed.step.element ≡ e
    pub alike : AreAlike entry.processed.blocks blocks
    pub there : read_cause idn.raw entry.processed ≡ None
    pub gives : bytes ≡ bytes_read (shape_read e b) (row (words_in (shape_read e b) (slice_index (copy idn.raw entry.processed) 0)) (copy idn.raw entry.processed))

  gives_word : (words own : List ℕ) (taken : List Processed) (entries log : List Entry) (s : Entry) → Behind b (asks_attribute e) words own → length own ≡ length taken → open_idn (entries ++ log) ≡ Some idn.raw →
      run_before false e (entries ++ log) ≡ taken → Chosen own taken entries s → slice_get (steps_of asked words) (length words) ≡ Some s.processed.step → s.answer ≡ reply_of s.processed (entries ++ log) → AreAlike s.processed.blocks blocks →
      s.answer.error ≡ false → is_whole asked (words ++ s.answer.word ∷ []) ≡ true → IsGiven (result_of asked (words ++ s.answer.word ∷ [])) entries s
  gives_word words own taken entries log s behind long opened before c next reply alike well whole =
      let step = next_word words own s.processed.step s.answer.word behind next in
      let answered = word_answered own taken entries log s (is_whole asked (words ++ s.answer.word ∷ [])) step opened before reply well c in
      let here = placed idn e b (asks_attribute e) words own behind in
      let more = placed idn e b (asks_attribute e) (words ++ s.answer.word ∷ []) (own ++ s.answer.word ∷ []) (behind_more b (asks_attribute e) words own s.answer.word behind) in
      let full = reading_full (shape_read e b) e own s.processed.step s.answer.word (sym here.next ∙ next) (sym more.whole ∙ whole) in
      let same : own ++ s.answer.word ∷ [] ≡ row (suc (length taken)) (copy idn.raw c.entry.processed) =
      ap₂ (λ (l : List ℕ) (w : ℕ). l ++ w ∷ []) c.copied answered.1 ∙ row-more (length taken) (copy idn.raw c.entry.processed) in
      let count : suc (length taken) ≡ length (own ++ s.answer.word ∷ []) = omega (arith, length-append own (s.answer.word ∷ [])) in
      let many : suc (length taken) ≡ words_in (shape_read e b) (slice_index (copy idn.raw c.entry.processed) 0) =
      count ∙ full ∙ ap (λ (l : List ℕ). words_in (shape_read e b) (slice_index l 0)) same in record {
        entry = c.entry;
        at = c.at;
        reads = c.reads (ap (λ (x : Step). x.write) step);
        element = c.element (ap (λ (x : Step). x.element) step);
        alike = c.alike alike;
        there = answered.0;
        gives = more.result ∙ ap (bytes_read (shape_read e b)) (same ∙ ap (λ (n : ℕ). row n (copy idn.raw c.entry.processed)) many);
      }

  open_one : (v : Bool) (x : ℕ) → nat_le (length (steps_by idn e v (x ∷ []))) 1 ≡ false
  open_one true x = refl
  open_one false x = let many = some_reading (shape_of e 0) e [] in (grind (arith, nat_tests))

  not_one : (words : List ℕ) (x : ℕ) → words ≡ [] → is_whole asked (words ++ x ∷ []) ≡ false
  not_one words x is = ap (λ (ws : List ℕ). is_whole asked (ws ++ x ∷ [])) is ∙ open_one (asks_attribute e) x

  whole_asked : (v : Bool) (words : List ℕ) → asks_attribute e ≡ v → is_whole asked words ≡ nat_le (length (steps_by idn e v words)) (length words)
  whole_asked v words asks = ap (λ (x : Bool). nat_le (length (steps_by idn e x words)) (length words)) asks

  not_two : (words : List ℕ) (w x : ℕ) → asks_attribute e ≡ true → words ≡ w ∷ [] → is_whole asked (words ++ x ∷ []) ≡ false
  not_two words w x asks is = ap (λ (ws : List ℕ). is_whole asked (ws ++ x ∷ [])) is ∙ whole_asked true (w ∷ x ∷ []) asks

  not_three : (words : List ℕ) (w v x : ℕ) → asks_attribute e ≡ true → words ≡ w ∷ v ∷ [] → is_whole asked (words ++ x ∷ []) ≡ false
  not_three words w v x asks is =
      let many = some_reading (shape_of e (v + 65536 * x)) e [] in
      ap (λ (ws : List ℕ). is_whole asked (ws ++ x ∷ [])) is ∙ whole_asked true (w ∷ v ∷ x ∷ []) asks
      ∙ (grind (arith, nat_tests))

  gives : (words : List ℕ) (entries log : List Entry) (s : Entry) → Stage words entries log → slice_get (steps_of asked words) (length words) ≡ Some s.processed.step → s.answer ≡ reply_of s.processed (entries ++ log) → AreAlike s.processed.blocks blocks →
      s.answer.error ≡ false → is_whole asked (words ++ s.answer.word ∷ []) ≡ true → IsGiven (result_of asked (words ++ s.answer.word ∷ [])) entries s
  gives words entries log s (AtOpening is) next reply alike well whole = let off = sym (not_one words s.answer.word is) ∙ whole in absurd (cc)
  gives words entries log s (AtLow asks w is opened before) next reply alike well whole = let off = sym (not_two words w s.answer.word asks is) ∙ whole in absurd (cc)
  gives words entries log s (AtHigh asks w t is opened before read) next reply alike well whole = let off = sym (not_three words w (low_of b) s.answer.word asks is) ∙ whole in absurd (cc)
  gives words entries log s (AtWord own taken behind long opened before chosen) next reply alike well whole =
      gives_word words own taken entries log s behind long opened before (chosen s) next reply alike well whole

  pub given_by : (bytes : List ℕ) (s : Entry) (entries log : List Entry) → IsTransfer asked blocks s entries log → outcome_of asked (replies_of (s ∷ entries)) ≡ Some (outcome.Complete bytes) → IsGiven bytes entries s
  given_by bytes s entries log is complete =
      let done = complete_is asked s.answer (replies_of entries) bytes complete in
      let given = gives (answer_words (replies_of entries)) entries log s (stage_before s entries log is) (newest_step asked blocks log s entries is) is.replies.1 is.alike.1 done.0 done.1 in record {
        entry = given.entry;
        at = given.at;
        reads = given.reads;
        element = given.element;
        alike = given.alike;
        there = given.there;
        gives = done.2 ∙ given.gives;
      }
