-- What a selection of an element copies is read as the element's bytes.
use Rattle.sercos_law_channel.proofs.Words.{◌≡◌, ℕ, zero, suc, ◌+◌, ◌*◌, ◌/◌, ◌%◌, ◌≤◌, ◌<◌, Bool, true, false, List, [], ◌∷◌, refl, ap, sym, ◌∙◌, arith, if◌then◌else◌, ◌==◌, Option, Some, None, is_none, option_map, unwrap_or, cond-false, nat_tests, AreBytes, none_of-then, Idn, attribute_word, Shape, shape_of, shape_by, as_value, outcome_of, steps_before, Block, bits_in, number_end, find_block, read_fault, IsStore, SetCommand, has_ended, status_by, setting_of, status_in, Processed, Entry, words_at, missing, without_data, replies_of, IsTransfer, entry_behind, element_in, bytes_at, IsReadAt, found_sound, element_of, data_in, element_words, SoundParts, SoundParts-is_sound, bytes_in}
use Rattle.sercos_step.specs.declared.request.Request.TheVariants as request
use Rattle.sercos_step.specs.declared.request.Outcome.TheVariants as outcome
use Rattle.sercos_law_channel.proofs.Handshake.AttributeReplies.{alike_there}
use Rattle.sercos_law_channel.proofs.Handshake.ElementWords.{read_from, text_read, word_read, bound_read, data_read}
use Rattle.sercos_law_channel.proofs.Handshake.ReadStages.{low_of, high_of, shape_read, given_by}

-- what the master reads of an element of a block is the element
found_read : (e cycle : ℕ) (b c : Block) → 2 ≤ e → e ≤ 7 → shape_of 7 (low_of b + 65536 * high_of b) ≡ shape_by c.attribute.length →
    SoundParts c → is_none (element_of c e) ≡ false → (e ≡ 7 → AreBytes c.value) →
    read_from (shape_read e b) (element_words e cycle c) ≡ element_in e cycle c
unfolding element_words element_of data_in
found_read zero cycle b c low high said rules there are = absurd (omega arith)
found_read (suc zero) cycle b c low high said rules there are = absurd (omega arith)
found_read (suc (suc zero)) cycle b c low high said rules there are = text_read 60 c.name (omega arith) rules.name
found_read (suc (suc (suc zero))) cycle b c low high said rules there are = word_read (attribute_word c.attribute)
found_read (suc (suc (suc (suc zero)))) cycle b c low high said rules there are = text_read 12 c.unit (omega arith) rules.unit
found_read (suc (suc (suc (suc (suc zero))))) cycle b c low high said rules there are =
    ap (λ (s : Shape). read_from (as_value s) (element_words 5 cycle c)) said ∙ bound_read c.attribute c.min rules.min there
found_read (suc (suc (suc (suc (suc (suc zero)))))) cycle b c low high said rules there are =
    ap (λ (s : Shape). read_from (as_value s) (element_words 6 cycle c)) said ∙ bound_read c.attribute c.max rules.max there
found_read (suc (suc (suc (suc (suc (suc (suc zero))))))) cycle b c low high said rules there are =
    ap (λ (s : Shape). read_from s (element_words 7 cycle c)) said
    ∙ data_read c.attribute.length (c.step == 0) c.value ((bits_in c.attribute c.value + c.step * cycle) % number_end c.attribute.length) c.max_len _
    rules.len rules.max_len (are refl)
found_read (suc (suc (suc (suc (suc (suc (suc (suc e)))))))) cycle b c low high said rules there are = absurd (omega arith)

-- a data status is one byte
pub status_small : (time cycle : ℕ) (o : Option SetCommand) → status_by time o cycle < 256
status_small time cycle None = omega arith
status_small time cycle (Some s) = by (has_ended time cycle s) s.well
  where
    by : (u v : Bool) → (if u then (if v then 3 else 15) else 7) < 256
    by true true = omega arith
    by true false = omega arith
    by false v = omega arith

pub small_word : (n : ℕ) → n < 256 → bytes_in (n ∷ []) ≡ n ∷ 0 ∷ []
small_word n small = let low : n % 256 ≡ n = omega arith in let high : n / 256 ≡ 0 = omega arith in rw (low, high) refl

-- an element that was copied
abbrev words_of_it : ℕ → ℕ → Processed → List ℕ
words_of_it raw e t = words_at raw e t.cycle t.blocks t.commands

module _ (typed : (blocks : List Block) (raw : ℕ) (b : Block) → IsStore blocks → find_block raw blocks ≡ Some b → AreBytes b.value) where
  copied_read : (raw e : ℕ) (b c : Block) (t : Processed) → 1 ≤ e → e ≤ 7 → shape_of 7 (low_of b + 65536 * high_of b) ≡ shape_by b.attribute.length → find_block raw t.blocks ≡ Some c → without_data c ≡ without_data b →
      missing raw e t.blocks ≡ None → (2 ≤ e → IsStore t.blocks) → read_from (shape_read e b) (words_of_it raw e t) ≡ bytes_at raw e c t
  copied_read raw zero b c t low high said found alike there store = absurd (omega arith)
  copied_read raw (suc zero) b c t low high said found alike there store = small_word (status_in t.commands raw t.cycle) (status_small t.commands.time t.cycle (setting_of t.commands.rate raw t.commands.calls))
  copied_read raw (suc (suc n)) b c t low high said found alike there store =
      let more : 2 ≤ suc (suc n) = omega arith in
      let other : ((suc (suc n)) == 1) ≡ false = grind (arith, nat_tests) in
      let words : words_of_it raw (suc (suc n)) t ≡ element_words (suc (suc n)) t.cycle c = cond-false (suc (suc n) == 1) _ _ other ∙ ap (λ (o : Option Block). unwrap_or (option_map (element_words (suc (suc n)) t.cycle) o) []) found in
      let fault : missing raw (suc (suc n)) t.blocks ≡ read_fault (Some c) (suc (suc n)) = cond-false (suc (suc n) == 1) _ _ other ∙ ap (λ (o : Option Block). read_fault o (suc (suc n))) found in
      let rules = SoundParts-is_sound c (found_sound raw t.blocks c (store more).sound found) in
      let some = none_of-then (is_none (element_of c (suc (suc n)))) (0x1000 * suc (suc n) + 1) (sym fault ∙ there) in
      ap (read_from (shape_read (suc (suc n)) b)) words
      ∙ found_read (suc (suc n)) t.cycle b c more high (said ∙ ap (λ (x : Block). shape_by x.attribute.length) (sym alike)) rules some
      (λ seven. typed t.blocks raw c (store more) found) ∙ sym (cond-false (suc (suc n) == 1) _ _ other)

  pub reads_once_by : (idn : Idn) (e : ℕ) (bytes : List ℕ) (blocks : List Block) (b : Block) (s : Entry) (entries log : List Entry) → shape_of 7 (low_of b + 65536 * high_of b) ≡ shape_by b.attribute.length → 1 ≤ e → e ≤ 7 →
      find_block idn.raw blocks ≡ Some b → IsTransfer (request.Read idn e) blocks s entries log → outcome_of (request.Read idn e) (replies_of (s ∷ entries)) ≡ Some (outcome.Complete bytes) →
      (selection : Entry) × (entry_behind (steps_before e) (s ∷ entries) ≡ Some selection) × IsReadAt idn.raw e b bytes selection.processed
  reads_once_by idn e bytes blocks b s entries log said low high found is complete =
      let given = given_by idn e b blocks found (grind (arith, nat_tests)) bytes s entries log is complete in
      let stands = alike_there idn.raw given.entry.processed.blocks blocks b given.alike found in
      let there = ap (λ (n : ℕ). missing idn.raw n given.entry.processed.blocks) (sym given.element) ∙ given.there in
      let copied = ap (λ (n : ℕ). words_of_it idn.raw n given.entry.processed) given.element in (
        given.entry,
        given.at,
        record {
          reads = given.reads;
          element = given.element;
          block = stands.0;
          found = stands.1;
          alike = stands.2;
          there = given.there;
          gives = λ store. given.gives ∙ ap (read_from (shape_read e b)) copied ∙ copied_read idn.raw e b stands.0 given.entry.processed low high said stands.1 stands.2 there store;
        },
      )
