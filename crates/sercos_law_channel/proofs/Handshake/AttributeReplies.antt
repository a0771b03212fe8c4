-- What the two replies to the reads of a block's attribute are.
use Rattle.sercos_law_channel.proofs.Words.{inr, inl, cases_Bool, ◌≡◌, ℕ, ◌+◌, ◌*◌, ◌^◌, ◌<◌, Bool, true, false, ◌&&◌, List, [], ◌∷◌, map, length, refl, ap, ap₂, sym, ◌∙◌, arith, if◌then◌else◌, ◌==◌, Option, Some, None, option_map, unwrap_or, slice_index, w32, to_le_bytes, cond-false, Attribute, attribute_fault, attribute_word, attribute_of, Step, words_of, shape_of, shape_by, a_step, Block, find_block, read_fault, status_in, Processed, Entry, open_idn, run_before, selection, good, answer_by, copy, read_cause, reply_at, reply_of, AreAlike, without_data, element_of, element_words, in_order, eqb-true, and_right, opens, cond-true, write_cause_in}

pub find-without_data : (raw : ℕ) (blocks : List Block) → option_map without_data (find_block raw blocks) ≡ find_block raw (map without_data blocks)
find-without_data raw [] = refl
find-without_data raw (b ∷ blocks) = elim (cases_Bool (b.idn.raw == raw)) [
  | inl on ↦ rw on refl
  | inr off ↦ rw off (find-without_data raw blocks)
]

pub find-alike : (raw : ℕ) (others blocks : List Block) (b : Block) → AreAlike others blocks → find_block raw blocks ≡ Some b → option_map without_data (find_block raw others) ≡ Some (without_data b)
find-alike raw others blocks b alike found =
    find-without_data raw others ∙ ap (find_block raw) alike ∙ sym (find-without_data raw blocks) ∙ ap (option_map without_data) found

-- so it is there
pub alike_there : (raw : ℕ) (others blocks : List Block) (b : Block) → AreAlike others blocks → find_block raw blocks ≡ Some b →
    (c : Block) × (find_block raw others ≡ Some c) × (without_data c ≡ without_data b)
alike_there raw others blocks b alike found = by (find_block raw others) (find-alike raw others blocks b alike found)
  where
    by : (o : Option Block) → option_map without_data o ≡ Some (without_data b) → (c : Block) × (o ≡ Some c) × (without_data c ≡ without_data b)
    by None same = absurd (cc)
    by (Some c) same = (c, refl, cc)

-- the words of a block's attribute
abbrev pub attribute_words : Attribute → List ℕ
attribute_words a = words_of (to_le_bytes w32 (attribute_word a))

copy_words : (c : Block) (cycle : ℕ) → element_words 3 cycle c ≡ attribute_words c.attribute
unfolding element_words element_of
copy_words c cycle = refl

-- what is read of the attribute
pub record IsRead (raw : ℕ) (t : Processed) (a : Attribute) : Type 0 where
  pub free : read_cause raw t ≡ None
  pub words : copy raw t ≡ attribute_words a

fault_of_found : (c : Block) → read_fault (Some c) 3 ≡ None
unfolding element_of
fault_of_found c = refl

pub IsRead-alike : (raw : ℕ) (t : Processed) (blocks : List Block) (b : Block) → t.step.element ≡ 3 → AreAlike t.blocks blocks → find_block raw blocks ≡ Some b → IsRead raw t b.attribute
IsRead-alike raw t blocks b third alike found =
    let (c, there, same) = alike_there raw t.blocks blocks b alike found in record {
      free = ap₂ (λ (o : Option Block) (e : ℕ). if e == 1 then None else read_fault o e) there third ∙ fault_of_found c;
      words =
          ap₂ (λ (o : Option Block) (e : ℕ). if e == 1 then status_in t.commands raw t.cycle ∷ [] else unwrap_or
          (option_map (element_words e t.cycle) o) []) there third
          ∙ copy_words c t.cycle ∙ ap (λ (d : Block). attribute_words d.attribute) same;
    }

-- the reply to a step that reads a word of an element
pub reply-read : (raw e word : ℕ) (last : Bool) (t : Processed) (all : List Entry) (run : List Processed) → (e == 0) ≡ false → t.step ≡ a_step false last e word → open_idn all ≡ Some raw → run_before false e all ≡ run →
    reply_of t all ≡ answer_by (read_cause raw (selection t run)) (slice_index (copy raw (selection t run)) (length run))
reply-read raw e word last t all run none is opened before =
    let closed : (t.step.write && (t.step.element == 1)) ≡ false = ap (λ (s : Step). s.write && (s.element == 1)) is in
    let some : (t.step.element == 0) ≡ false = ap (λ (s : Step). s.element == 0) is ∙ none in
    let reads : t.step.write ≡ false = ap (λ (s : Step). s.write) is in
    let runs : run_before t.step.write t.step.element all ≡ run = ap (λ (s : Step). run_before s.write s.element all) is ∙ before in
    cond-false _ _ _ closed ∙ cond-false _ _ _ some ∙ ap₂ (λ (x : Option ℕ) (y : List Processed). reply_at x t y) opened runs ∙ cond-false _ _ _ reads

-- the reply to a word of operation data
pub reply-data : (t : Processed) (log : List Entry) (raw : ℕ) → t.step.write ≡ true → (t.step.element == 7) ≡ true →
    open_idn log ≡ Some raw →
    reply_of t log ≡ answer_by (write_cause_in (find_block raw t.blocks) t.phase t.step.last (in_order (run_before t.step.write t.step.element log) (t.step.word ∷ []))) 0
reply-data t log raw write seven opened =
    let e = eqb-true t.step.element 7 seven in
    let not_zero : (t.step.element == 0) ≡ false = ap (λ (n : ℕ). n == 0) e in
    let shut : opens t.step ≡ false = and_right t.step.write (t.step.element == 1) (ap (λ (n : ℕ). n == 1) e) in
    cond-false (opens t.step) _ _ shut ∙ cond-false (t.step.element == 0) _ _ not_zero ∙ ap (λ (o : Option ℕ). reply_at o t (run_before t.step.write t.step.element log)) opened
    ∙ cond-true t.step.write _ _ write ∙ ap (λ (o : Option ℕ). answer_by o 0) (cond-true (t.step.element == 7) _ _ seven)

pub reply_low : (raw word : ℕ) (last : Bool) (t : Processed) (all : List Entry) (a : Attribute) → t.step ≡ a_step false last 3 word → open_idn all ≡ Some raw → run_before false 3 all ≡ [] → IsRead raw t a →
    reply_of t all ≡ good (slice_index (attribute_words a) 0)
reply_low raw word last t all a is opened before read =
    reply-read raw 3 word last t all [] refl is opened before ∙ ap₂ (λ (o : Option ℕ) (words : List ℕ). answer_by o (slice_index words 0)) read.free read.words

pub reply_high : (raw word : ℕ) (last : Bool) (t s : Processed) (all : List Entry) (a : Attribute) → t.step ≡ a_step false last 3 word → open_idn all ≡ Some raw → run_before false 3 all ≡ s ∷ [] → IsRead raw s a →
    reply_of t all ≡ good (slice_index (attribute_words a) 1)
reply_high raw word last t s all a is opened before read =
    reply-read raw 3 word last t all (s ∷ []) refl is opened before ∙ ap₂ (λ (o : Option ℕ) (words : List ℕ). answer_by o (slice_index words 1)) read.free read.words

pub shape-attribute : (a : Attribute) → attribute_word a < 2 ^ 32 → attribute_fault (attribute_word a) ≡ None → attribute_of (attribute_word a) ≡ a →
    shape_of 7 (slice_index (attribute_words a) 0 + 65536 * slice_index (attribute_words a) 1) ≡ shape_by a.length
shape-attribute a small sound back =
    let said : shape_of 7 (attribute_word a) ≡ shape_by a.length = rw (sound, back) refl in
    ap (shape_of 7) (omega arith) ∙ said
