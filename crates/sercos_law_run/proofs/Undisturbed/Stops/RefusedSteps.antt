-- Which step of a transfer can be refused. Of a write of operation data it is one that writes a word, by that word's cause; of a read of the
-- attribute or of operation data none is; and of a procedure command it is the setting alone.
use Rattle.sercos_law_run.proofs.Words.{◌≡◌, ℕ, ◌+◌, ◌*◌, Bool, true, false, ◌&&◌, List, [], ◌∷◌, ◌++◌, length, Option, Some, None, refl, sym, ap, ap₂, ◌∙◌, if◌then◌else◌, ◌==◌, is_some, is_none, option_map, slice_get, slice_index, then_some, cond-false, cond-true, cond_both, Idn, Request, Answer, Step, a_step, opening, run, steps_of, answer_words, asks_attribute, shape_of, shape_by, find_block, read_fault, Block, Processed, Entry, open_idn, run_before, in_order, selection, good, refused, answer_by, copy, missing, read_cause, write_cause_in, reply_at, reply_of, without_data, AreAlike, replies_of, IsTransfer, find-alike, IsRead-alike, reply-read, reply_low, reply_high, Poll, Reads, Cancels, next_setting, next_poll, Allows, cancels_well, newest_step, low_of, high_of, is_nil, some_same, element_of, told_of}
use Rattle.sercos_law_channel.proofs.Handshake.CommandStages as command
use Rattle.sercos_law_channel.proofs.Handshake.ReadStages as read
use Rattle.sercos_law_channel.proofs.Handshake.WriteStages as write
use Rattle.sercos_law_run.proofs.Undisturbed.Arriving.Small.{never_both}
use Rattle.sercos_law_channel.proofs.Handshake.CommandRefusals as refusals

good_answer : (a : Answer) (word : ℕ) → a ≡ good word → a.error ≡ false
good_answer a word is = ap (λ (x : Answer). x.error) is

-- an answer that is refused by a cause has one
caused : (o : Option ℕ) (word : ℕ) (a : Answer) → a ≡ answer_by o word → a.error ≡ true → o ≡ Some a.word
caused None word a is refused = absurd (never_both a.error refused (ap (λ (x : Answer). x.error) is))
caused (Some code) word a is refused = ap (λ (x : Answer). Some x.word) (sym is)

some_alike : (o : Option Block) (b : Block) → option_map without_data o ≡ Some (without_data b) → is_some o ≡ true
some_alike None b is = absurd (cc)
some_alike (Some c) b is = refl

-- the opening of a block that the drive has
opening_good : (t : Processed) (all : List Entry) (idn : Idn) (blocks : List Block) (b : Block) → t.step ≡ opening idn → AreAlike t.blocks blocks → find_block idn.raw blocks ≡ Some b → reply_of t all ≡ good 0
opening_good t all idn blocks b is alike found =
    cond-true _ _ _ (ap (λ (s : Step). s.write && (s.element == 1)) is)
    ∙ cond-true _ _ _ (ap (λ (s : Step). is_some (find_block s.word t.blocks)) is ∙ some_alike (find_block idn.raw t.blocks) b (find-alike idn.raw t.blocks blocks b alike found))

-- the reply to a word of operation data
pub reply_word : (raw word : ℕ) (last : Bool) (t : Processed) (all : List Entry) (run : List Processed) → t.step ≡ a_step true last 7 word → open_idn all ≡ Some raw → run_before true 7 all ≡ run →
    reply_of t all ≡ answer_by (write_cause_in (find_block raw t.blocks) t.phase last (in_order run (word ∷ []))) 0
reply_word raw word last t all run is opened before =
    let closed : (t.step.write && (t.step.element == 1)) ≡ false = ap (λ (s : Step). s.write && (s.element == 1)) is in
    let some : (t.step.element == 0) ≡ false = ap (λ (s : Step). s.element == 0) is in
    let seven : (t.step.element == 7) ≡ true = ap (λ (s : Step). s.element == 7) is in
    let runs : run_before t.step.write t.step.element all ≡ run = ap (λ (s : Step). run_before s.write s.element all) is ∙ before in
    cond-false _ _ _ closed ∙ cond-false _ _ _ some ∙ ap₂ (λ (x : Option ℕ) (y : List Processed). reply_at x t y) opened runs
    ∙ cond-true _ _ _ (ap (λ (s : Step). s.write) is)
    ∙ ap (λ (o : Option ℕ). answer_by o 0) (cond-true _ _ _ seven ∙ ap (λ (s : Step). write_cause_in (find_block raw t.blocks) t.phase s.last (in_order run (s.word ∷ []))) is)

-- A WRITE
pub record IsCaused (idn : Idn) (bytes : List ℕ) (b : Block) (e : Entry) : Type 0 where
  pub before : List Processed
  pub word : ℕ
  pub rest : List ℕ
  pub words : in_order before (word ∷ rest) ≡ told_of b bytes
  pub cause : write_cause_in (find_block idn.raw e.processed.blocks) e.processed.phase (is_nil rest) (in_order before (word ∷ [])) ≡ Some e.answer.word

module _ (idn : Idn) (bytes : List ℕ) (b : Block) (said : shape_of 7 (low_of b + 65536 * high_of b) ≡ shape_by b.attribute.length) (blocks : List Block) (found : find_block idn.raw blocks ≡ Some b) where
  pub write_caused : (e : Entry) (entries log : List Entry) → IsTransfer (Request.Write idn 7 bytes) blocks e entries log → e.answer.error ≡ true → IsCaused idn bytes b e
  write_caused e entries log is error =
      let next = newest_step (Request.Write idn 7 bytes) blocks log e entries is in
      elim (write.stage_before idn bytes b said blocks found e entries log is).0 [
        | write.AtOpening at ↦ never 0 (opening_good e.processed (entries ++ log) idn blocks b (write.next_opening idn bytes b said (answer_words (replies_of entries)) e.processed.step at next) is.alike.1 found)
        | write.AtLow w at opened before ↦
            let step = write.next_low idn bytes b said (answer_words (replies_of entries)) e.processed.step w at next in
            never _ (reply_low idn.raw 0 false e.processed (entries ++ log) b.attribute step opened before (IsRead-alike idn.raw e.processed blocks b (ap (λ (s : Step). s.element) step) is.alike.1 found))
        | write.AtHigh w t at opened before reads ↦ never _ (reply_high idn.raw 0 true e.processed t (entries ++ log) b.attribute (write.next_high idn bytes b said (answer_words (replies_of entries)) e.processed.step w (low_of b) at next) opened before reads)
        | write.AtWord w more taken word rest at count opened before ordered ↦
            let step = write.next_word idn bytes b said (answer_words (replies_of entries)) e.processed.step w more taken word rest at count ordered next in
            record {
              before = taken;
              word = word;
              rest = rest;
              words = ordered;
              cause = caused _ 0 e.answer (is.replies.1 ∙ reply_word idn.raw word (is_nil rest) e.processed (entries ++ log) taken step opened before) error;
            }
      ]
    where
      never : (word : ℕ) → reply_of e.processed (entries ++ log) ≡ good word → IsCaused idn bytes b e
      never word well = absurd (never_both e.answer.error error (good_answer e.answer word (is.replies.1 ∙ well)))

-- A READ of the attribute or of operation data
read_free : (o : Option Block) (b : Block) (e : ℕ) → ((c : Block) → is_none (element_of c e) ≡ false) → option_map without_data o ≡ Some (without_data b) → (if e == 1 then None else read_fault o e) ≡ None
read_free None b e there same = absurd (cc)
read_free (Some c) b e there same = cond_both (e == 1) None (then_some (is_none (element_of c e)) (0x1000 * e + 1))
    (λ v. v ≡ None) (λ on. refl) (λ off. rw (there c) refl)

pub always_3 : (c : Block) → is_none (element_of c 3) ≡ false
unfolding element_of
always_3 c = refl

always_7 : (c : Block) → is_none (element_of c 7) ≡ false
unfolding element_of
always_7 c = refl

module _ (idn : Idn) (element : ℕ) (b : Block) (blocks : List Block) (found : find_block idn.raw blocks ≡ Some b) (some : (element == 0) ≡ false) (there : (c : Block) → is_none (element_of c element) ≡ false) where
  pub reads_well : (e : Entry) (entries log : List Entry) → IsTransfer (Request.Read idn element) blocks e entries log
      → e.answer.error ≡ false
  reads_well e entries log is = elim (read.stage_before idn element b blocks found some e entries log is) [
    | read.AtOpening at ↦ good_answer e.answer 0 (is.replies.1 ∙ opening_good e.processed (entries ++ log) idn blocks b (next_is [] (opening idn) at refl) is.alike.1 found)
    | read.AtLow asks w at opened before ↦
        let step = next_is (w ∷ []) (a_step false false 3 0) at (second (asks_attribute element) w refl asks) in
        good_answer e.answer _ (is.replies.1 ∙ reply_low idn.raw 0 false e.processed (entries ++ log) b.attribute step opened before (IsRead-alike idn.raw e.processed blocks b (ap (λ (s : Step). s.element) step) is.alike.1 found))
    | read.AtHigh asks w t at opened before reads ↦ good_answer e.answer _ (is.replies.1 ∙ reply_high idn.raw 0 true e.processed t (entries ++ log) b.attribute (next_is (w ∷ low_of b ∷ []) (a_step false true 3 0) at (third (asks_attribute element) w (low_of b) refl asks)) opened before reads)
    | read.AtWord own taken behind count opened before chosen ↦
        let step = read.next_word idn element b blocks found some (answer_words (replies_of entries)) own e.processed.step 0 behind
        (newest_step (Request.Read idn element) blocks log e entries is) in
        let c = chosen e in
        let named : c.entry.processed.step.element ≡ element = c.element (ap (λ (s : Step). s.element) step) in
        let free : read_cause idn.raw (selection e.processed taken) ≡ None =
        ap (read_cause idn.raw) (sym c.is) ∙ ap (λ (n : ℕ). missing idn.raw n c.entry.processed.blocks) named ∙ read_free (find_block idn.raw c.entry.processed.blocks) b element there (find-alike idn.raw c.entry.processed.blocks blocks b (c.alike is.alike.1) found) in
        ap (λ (a : Answer). a.error) (is.replies.1 ∙ reply-read idn.raw element 0 _ e.processed (entries ++ log) taken some step opened before ∙ ap (λ (o : Option ℕ). answer_by o (slice_index (copy idn.raw (selection e.processed taken)) (length taken))) free)
  ]
    where
      next_is : (w : List ℕ) (s : Step) → (answer_words (replies_of entries)) ≡ w → slice_get (steps_of (Request.Read idn element) w) (length w) ≡ Some s → e.processed.step ≡ s
      next_is w s same at = some_same s e.processed.step (sym at ∙ ap (λ (ws : List ℕ). slice_get (steps_of (Request.Read idn element) ws) (length ws)) (sym same) ∙ (newest_step (Request.Read idn element) blocks log e entries is))

      second : (asks : Bool) (w : ℕ) → asks_attribute element ≡ asks → asks ≡ true → slice_get (steps_of (Request.Read idn element) (w ∷ [])) 1 ≡ Some (a_step false false 3 0)
      second true w is on = rw is refl
      second false w is on = absurd (cc)

      third : (asks : Bool) (w v : ℕ) → asks_attribute element ≡ asks → asks ≡ true → slice_get (steps_of (Request.Read idn element) (w ∷ v ∷ [])) 2 ≡ Some (a_step false true 3 0)
      third true w v is on = rw is refl
      third false w v is on = absurd (cc)

pub data_reads_well : (idn : Idn) (b : Block) (blocks : List Block) → find_block idn.raw blocks ≡ Some b → (e : Entry) (entries log : List Entry) → IsTransfer (Request.Read idn 7) blocks e entries log → e.answer.error ≡ false
data_reads_well idn b blocks found = reads_well idn 7 b blocks found refl always_7

-- so it isn't refused at all, if its setting isn't
pub command_well : (idn : Idn) (b : Block) (blocks : List Block) → find_block idn.raw blocks ≡ Some b → b.attribute.command ≡ true → (e : Entry) (entries log : List Entry) → IsTransfer (Request.Command idn) blocks e entries log → Allows b e.processed.phase
    → write_cause_in (find_block idn.raw e.processed.blocks) e.processed.phase true (3 ∷ []) ≡ None → e.answer.error ≡ false
command_well idn b blocks found command_is e entries log is allows none =
    elim (command.stage_before idn b blocks found e entries log is).0 [
      | command.AtOpening those same ↦ good_answer e.answer 0 (is.replies.1 ∙ opening_good e.processed (entries ++ log) idn blocks b (first same) is.alike.1 found)
      | command.AtSetting o w those same opened free ↦
          good_answer e.answer 0 (is.replies.1 ∙ reply_word idn.raw 3 true e.processed (entries ++ log) []
          (next_setting idn b (answer_words (replies_of entries)) e.processed.step w same
          (newest_step (Request.Command idn) blocks log e entries is)) opened free ∙ ap (λ (x : Option ℕ). answer_by x 0) none)
      | command.AtPoll d o past w v polled those same opened free two ↦
          polls opened free polled (next_poll idn b (answer_words (replies_of entries)) e.processed.step w v polled same
          (newest_step (Request.Command idn) blocks log e entries is))
    ]
  where
    first : answer_words (replies_of entries) ≡ [] → e.processed.step ≡ opening idn
    first same = some_same (opening idn) e.processed.step (sym (ap (λ (ws : List ℕ). slice_get (steps_of (Request.Command idn) ws) (length ws)) same) ∙ (newest_step (Request.Command idn) blocks log e entries is))

    polls : open_idn (entries ++ log) ≡ Some idn.raw → run_before true 7 (entries ++ log) ≡ [] → (polled : List ℕ) → Poll polled e.processed.step → e.answer.error ≡ false
    polls opened free polled (Reads step long) = ap (λ (a : Answer). a.error) is.replies.1 ∙ refusals.reads_well idn.raw e.processed (entries ++ log) step opened
    polls opened free polled (Cancels step long) = ap (λ (a : Answer). a.error) is.replies.1 ∙ cancels_well idn.raw e.processed (entries ++ log) blocks b step opened free is.alike.1 found command_is allows
