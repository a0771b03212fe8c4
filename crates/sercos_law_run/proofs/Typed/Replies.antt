-- What a drive replies, and so what it shows, are words.
use Rattle.sercos_law_run.proofs.Words.{cases_Option, sym, ◌≡◌, ℕ, ◌+◌, ◌*◌, ◌%◌, ◌<◌, ◌≤◌, ◌==◌, nat_le, Bool, true, false, ◌&&◌, ◌||◌, List, [], ◌∷◌, length, Option, Some, None, IfSome, is_none, is_some, option_map, unwrap_or, refl, arith, if◌then◌else◌, ◌-◌, w32, to_le_bytes, then_some, option_or, list_all, and_parts, cond_both, nat_tests, attribute_word, Length, Two, Four, List1, List2, List4, Attribute, is_list, words_of, Block, width_of, bytes_for, bits_in, number_end, is_fixed, is_protected, is_text, is_printable, find_block, read_fault, is_below, is_above, IsStore, is_sound, SoundParts, SoundParts-is_sound, found_sound, max_len_bound, fits-is_len, types, SetCommand, has_ended, status_by, setting_of, CommandHistory, change_in, Processed, Entry, accepted, ahs, opens, open_idn, run_before, selection, in_order, good, refused, answer_by, list_words, copy, read_cause, write_cause_in, is_first_word, ends_early, is_over, is_uneven, is_no_command_value, bytes_written, reply_on, reply_at, reply_of, answered, Shown, shown, channel_says, IsRecord, AreRecords, two_bytes, four_bytes, printable_bytes, AreBytes, element_of, data_in, element_words, write_cause, cases_Bool, inl, inr, slice_index}
use Rattle.sercos_law_run.proofs.Typed.Words.{AreWords, word_of, words_of_bytes}
use Rattle.sercos_law_run.proofs.Typed.Records.{AreEntries, accepted_so, answered_so, run_so, selection_so}

-- a code is a word, if there is one
abbrev pub IsCode : Option ℕ → Type 0
IsCode code = IfSome code (λ c. c < 65536)

first_code : (a b : Option ℕ) → IsCode a → IsCode b → IsCode (option_or a b)
first_code None b is other = other
first_code (Some x) b is other = is

code_if : (test : Bool) (code : ℕ) → code < 65536 → IsCode (then_some test code)
code_if true code low = low
code_if false code low = tt

answer_word : (code : Option ℕ) (word : ℕ) → IsCode code → word < 65536 → (answer_by code word).word < 65536
answer_word None word is low = low
answer_word (Some code) word is low = is

-- WRITING
write_code : (b : Block) (phase : ℕ) (last : Bool) (words : List ℕ) → IsCode (write_cause b phase last words)
unfolding write_cause
write_code b phase last words =
    first_code _ _ (code_if (is_first_word words && is_fixed b) 0x7004 (omega arith)) (first_code _ _ (code_if (is_protected b.attribute phase) 0x7005 (omega arith))
    (first_code _ _ (code_if (ends_early b last words) 0x7002 (omega arith)) (first_code _ _ (code_if (is_over b last words) 0x7003 (omega arith))
    (first_code _ _ (code_if (is_uneven b words || is_no_command_value b last words) 0x7008 (omega arith))
    (first_code _ _ (code_if (last && is_below b (bytes_written b words) b.min) 0x7006 (omega arith)) (code_if (last && is_above b (bytes_written b words) b.max) 0x7007 (omega arith)))))))

-- READING
list_so : (longest : ℕ) (bytes : List ℕ) → longest < 65536 → length bytes < 65536 → AreBytes bytes → AreWords (list_words longest bytes)
list_so longest bytes top fits are = (fits, (top, words_of_bytes bytes are))

text_words : (most : ℕ) (text : Option (List ℕ)) → most < 65536 → is_text most text ≡ true → AreWords (list_words most (unwrap_or text []))
unfolding AreBytes
text_words most None low is = list_so most [] low (omega arith) tt
text_words most (Some text) low is =
    let parts = and_parts (nat_le (length text) most) (list_all is_printable text) ((and_parts (nat_le 1 (length text)) _ is).1) in
    list_so most text low (grind (arith, nat_tests, parts.0, low)) (printable_bytes text parts.1)

number_bytes : (a : Attribute) (n : ℕ) → AreBytes (bytes_for a n)
number_bytes a n = by a.length
  where
    by : (l : Length) → AreBytes (to_le_bytes (width_of l) n)
    by Two = two_bytes n
    by Four = four_bytes n
    by List1 = four_bytes n
    by List2 = four_bytes n
    by List4 = four_bytes n

pub data_bytes : (cycle : ℕ) (b : Block) → AreBytes b.value → AreBytes (data_in cycle b)
unfolding data_in
data_bytes cycle b are = cond_both (b.step == 0) b.value
    (bytes_for b.attribute ((bits_in b.attribute b.value + b.step * cycle) % number_end b.attribute.length))
    AreBytes (λ on. are) (λ off. number_bytes b.attribute _)

limit_words : (a : Attribute) (o : Option ℕ) → AreBytes (unwrap_or (option_map (bytes_for a) o) [])
unfolding AreBytes
limit_words a None = tt
limit_words a (Some n) = number_bytes a n

-- the bytes of an element, by what it is
abbrev element_by : Block → Bool → Bool → Bool → Bool → Bool → Option (List ℕ)
element_by b two three four five six =
    if two then b.name
    else (if three then Some (to_le_bytes w32 (attribute_word b.attribute))
    else (if four then b.unit
    else (if five then option_map (bytes_for b.attribute) b.min
    else (if six then option_map (bytes_for b.attribute) b.max
    else Some b.value))))

element_so : (e cycle : ℕ) (b : Block) → is_sound b ≡ true → b.max_len ≤ 1024 → AreBytes b.value → AreWords (element_words e cycle b)
unfolding element_words element_of
element_so e cycle b sound most are = by (e == 2) (e == 3) (e == 4) (e == 5) (e == 6) (e == 7)
  where
    parts : SoundParts b
    parts = SoundParts-is_sound b sound

    by : (two three four five six seven : Bool) → AreWords (
        if two then list_words 60 (unwrap_or (element_by b two three four five six) [])
        else (if four then list_words 12 (unwrap_or (element_by b two three four five six) [])
        else (if seven then (if is_list b.attribute.length then list_words b.max_len b.value else words_of (data_in cycle b))
        else words_of (unwrap_or (element_by b two three four five six) []))))
    by true three four five six seven = text_words 60 b.name (omega arith) parts.name
    by false false true five six seven = text_words 12 b.unit (omega arith) parts.unit
    by false true true five six seven = list_so 12 _ (omega arith) (omega arith) (four_bytes (attribute_word b.attribute))
    by false three false five six true = elim (cases_Bool (is_list b.attribute.length)) [
      | inl on ↦ rw on (list_so b.max_len b.value (omega (arith, most))
          (omega (arith, fits-is_len b (length b.value) sound parts.len)) are)
      | inr off ↦ rw off (words_of_bytes (data_in cycle b) (data_bytes cycle b are))
    ]
    by false true false five six false = words_of_bytes _ (four_bytes (attribute_word b.attribute))
    by false false false true six false = words_of_bytes _ (limit_words b.attribute b.min)
    by false false false false true false = words_of_bytes _ (limit_words b.attribute b.max)
    by false false false false false false = words_of_bytes b.value are

found_so : (raw e cycle : ℕ) (blocks : List Block) (o : Option Block) → IsStore blocks → find_block raw blocks ≡ o → AreWords (unwrap_or (option_map (element_words e cycle) o) [])
found_so raw e cycle blocks None store is = tt
found_so raw e cycle blocks (Some b) store is = element_so e cycle b (found_sound raw blocks b store.sound is) (max_len_bound raw blocks b store (sym is)) (types blocks raw b store is).1

status_small : (time : ℕ) (o : Option SetCommand) (cycle : ℕ) → status_by time o cycle < 65536
status_small time None cycle = omega arith
status_small time (Some s) cycle = elim (cases_Bool (has_ended time cycle s)) [
  | inl on ↦ elim (cases_Bool s.well) [ inl well ↦ rw (on, well) (omega arith) | inr off ↦ rw (on, off) (omega arith) ]
  | inr off ↦ rw off (omega arith)
]

copy_so : (raw : ℕ) (t : Processed) → IsRecord t → AreWords (copy raw t)
copy_so raw t is = elim (cases_Bool (t.step.element == 1)) [
  | inl on ↦ rw on (status_small t.commands.time (setting_of t.commands.rate raw t.commands.calls) t.cycle, tt)
  | inr off ↦ rw off (found_so raw t.step.element t.cycle t.blocks (find_block raw t.blocks) is.blocks refl)
]

missing_so : (e : ℕ) (o : Option Block) → e < 8 → IsCode (read_fault o e)
missing_so e None low = omega arith
missing_so e (Some b) low = code_if (is_none (element_of b e)) (0x1000 * e + 1) (omega (arith, low))

read_code : (raw : ℕ) (t : Processed) → IsRecord t → IsCode (read_cause raw t)
read_code raw t is = cond_both (t.step.element == 1) None (read_fault (find_block raw t.blocks) t.step.element)
    IsCode (λ on. tt) (λ off. missing_so t.step.element (find_block raw t.blocks) is.element)

-- THE REPLY
reply_so : (raw : ℕ) (t : Processed) (run : List Processed) → IsRecord t → AreRecords run → (reply_on raw t run).word < 65536
reply_so raw t run is are = by t.step.write
  where
    to_write : (seven : Bool) → IsCode (if seven then write_cause_in (find_block raw t.blocks) t.phase t.step.last (in_order run (t.step.word ∷ [])) else Some (0x1000 * t.step.element + 4))
    to_write true = elim (cases_Option (find_block raw t.blocks)) [
      | inl none ↦ rw none (omega arith)
      | inr some ↦ rw some.1 (write_code some.0 t.phase t.step.last (in_order run (t.step.word ∷ [])))
    ]
    to_write false = omega (arith, is.element)

    by : (write : Bool) → (if write then answer_by (if t.step.element == 7 then write_cause_in (find_block raw t.blocks) t.phase t.step.last (in_order run (t.step.word ∷ [])) else Some (0x1000 * t.step.element + 4)) 0
        else answer_by (read_cause raw (selection t run)) (slice_index (copy raw (selection t run)) (length run))).word < 65536
    by true = answer_word _ 0 (to_write (t.step.element == 7)) (omega arith)
    by false =
        let one = selection_so t run is are in
        answer_word (read_cause raw (selection t run)) _ (read_code raw (selection t run) one) (word_of (copy raw (selection t run)) (length run) (copy_so raw (selection t run) one))

reply_word : (t : Processed) (log : List Entry) → IsRecord t → AreEntries log → (reply_of t log).word < 65536
reply_word t log is are = by (opens t.step) (is_some (find_block t.step.word t.blocks)) (t.step.element == 0)
  where
    on : (o : Option ℕ) → (reply_at o t (run_before t.step.write t.step.element log)).word < 65536
    on None = omega arith
    on (Some raw) = reply_so raw t (run_before t.step.write t.step.element log) is (run_so t.step.write t.step.element log are)

    by : (opening there closes : Bool) → (if opening then (if there then good 0 else refused 0x1001) else (if closes then good 0 else reply_at (open_idn log) t (run_before t.step.write t.step.element log))).word < 65536
    by true true closes = omega arith
    by true false closes = omega arith
    by false there true = omega arith
    by false there false = on (open_idn log)

-- WHAT IS SHOWN
pub shows_word : (busy cycle : ℕ) (commands : CommandHistory) (h : List Processed) → AreRecords h → (channel_says busy cycle commands h).word < 65536
shows_word busy cycle commands h are = by (accepted h) (accepted_so h are)
  where
    by : (a : List Processed) → AreRecords a → (shown busy cycle (ahs h) (change_in commands cycle) (answered a)).word < 65536
    by [] are = omega arith
    by (t ∷ a) are = cond_both (nat_le (cycle - t.cycle) busy) _ _ (λ (s : Shown). s.word < 65536) (λ on. omega arith)
        (λ off. reply_word t (answered a) are.0 (answered_so a are.1))
