-- A write of more than 1,024 bytes ends early: no block has room for them, and a drive refuses the word that says so.
use Rattle.sercos_law_run.proofs.Words.{◌≡◌, inl, inr, ℕ, suc, ◌+◌, ◌*◌, ◌/◌, ◌<◌, ◌≤◌, Bool, true, false, ◌&&◌, ◌||◌, List, [], ◌∷◌, ◌++◌, length, Option, Some, None, refl, sym, ap, ap₂, ◌∙◌, subst, arith, if◌then◌else◌, ◌==◌, nat_le, nat_lt, option_map, slice_get, then_some, cases_eq, cond-true, cond-false, eqb-true, false≢true, nat_tests, same_Some, none_of-or, none_of-then, is_list, item_len, Attribute, Idn, Length, Request, Answer, Step, run, writing, answer_words, words_of, at_least_one, words_told, shape_of, shape_by, length-words_of, length-at_least_one, is_fixed, is_protected, IsStore, find_block, Block, max_len_bound, Processed, Entry, open_idn, run_before, in_order, answer_by, is_first_word, ends_early, is_over, write_cause_in, reply_of, without_data, replies_of, IsTransfer, AreSmall, find-alike, goes_on-outcome_of, newest_step, without_newest, only_opening, low_of, high_of, is_nil, long_words, length-in_order, says_shape, write_cause, cases_Bool, cases_Option, told_of}
use Rattle.sercos_law_channel.proofs.Handshake.WriteStages as write
use Rattle.sercos_law_run.proofs.Undisturbed.Stops.RefusedSteps.{reply_word}
use Rattle.sercos_law_run.proofs.Undisturbed.Arriving.Small.{first_is, never_both}

-- THE CAUSE: an answer that is no error has none
no_cause : (o : Option ℕ) (word : ℕ) (a : Answer) → a ≡ answer_by o word → a.error ≡ false → o ≡ None
no_cause None word a is good = refl
no_cause (Some code) word a is good = absurd (never_both a.error (ap (λ (x : Answer). x.error) is) good)

not_over : (c : Block) (phase : ℕ) (last : Bool) (words : List ℕ) → write_cause c phase last words ≡ None → is_over c last words ≡ false
unfolding write_cause
not_over c phase last words none =
    let first = none_of-or (then_some (is_first_word words && is_fixed c) 0x7004) _ none in
    let second = none_of-or (then_some (is_protected c.attribute phase) 0x7005) _ first.1 in
    let third = none_of-or (then_some (ends_early c last words) 0x7002) _ second.1 in
    none_of-then (is_over c last words) 0x7003 (none_of-or (then_some (is_over c last words) 0x7003) _ third.1).0

over_list : (c : Block) (word : ℕ) → is_list c.attribute.length ≡ true → c.max_len < word → is_over c false (word ∷ []) ≡ true
over_list c word list high = let above : nat_lt c.max_len word ≡ true = grind (arith, nat_tests, high) in rw (list, above) refl

over_value : (c : Block) (a d : ℕ) → is_list c.attribute.length ≡ false → is_over c false (a ∷ d ∷ []) ≡ true
over_value c a d off = by c.attribute.length off
  where
    by : (l : Length) → is_list l ≡ false → ((is_list l && (is_first_word (a ∷ d ∷ []) && nat_lt c.max_len a)) || (true && nat_le (if is_list l then 2 + (a + 1) / 2 else item_len l / 2) 2)) ≡ true
    by Length.Two off = refl
    by Length.Four off = refl
    by Length.List1 off = absurd (false≢true (sym off))
    by Length.List2 off = absurd (false≢true (sym off))
    by Length.List4 off = absurd (false≢true (sym off))

-- THE WORDS of n bytes
told_list : (l : Length) (bytes : List ℕ) → is_list l ≡ true → words_told (shape_by l) bytes ≡ length bytes ∷ 0 ∷ words_of bytes
told_list Length.Two bytes list = absurd (false≢true list)
told_list Length.Four bytes list = absurd (false≢true list)
told_list Length.List1 bytes list = refl
told_list Length.List2 bytes list = refl
told_list Length.List4 bytes list = refl

many_told : (l : Length) (bytes : List ℕ) → 1024 < length bytes → 3 ≤ length (words_told (shape_by l) bytes)
many_told l bytes long = by l
  where
    many : 512 ≤ length (words_of bytes)
    many = omega (arith, length-words_of bytes, long)

    value : 3 ≤ length (at_least_one (words_of bytes))
    value = omega (arith, length-at_least_one (words_of bytes), many)

    by : (l : Length) → 3 ≤ length (words_told (shape_by l) bytes)
    by Length.Two = value
    by Length.Four = value
    by Length.List1 = omega (arith, many)
    by Length.List2 = omega (arith, many)
    by Length.List4 = omega (arith, many)

not_nil : (rest : List ℕ) → 1 ≤ length rest → is_nil rest ≡ false
not_nil [] some = absurd (omega (arith, some))
not_nil (w ∷ rest) some = refl

-- the block as the drive has it
record IsThere (o : Option Block) (b : Block) : Type 0 where
  block : Block
  is : o ≡ Some block
  attribute : block.attribute ≡ b.attribute
  max_len : block.max_len ≡ b.max_len

is_there : (o : Option Block) (b : Block) → option_map without_data o ≡ Some (without_data b) → IsThere o b
is_there None b is = absurd (cc)
is_there (Some c) b is = let same = same_Some (without_data c) (without_data b) is in record { block = c; is = refl; attribute = ap (λ (x : Block). x.attribute) same; max_len = ap (λ (x : Block). x.max_len) same }

module _ (idn : Idn) (bytes : List ℕ) (long : 1024 < length bytes) (b : Block)
    (said : shape_of 7 (low_of b + 65536 * high_of b) ≡ shape_by b.attribute.length) (blocks : List Block)
    (found : find_block idn.raw blocks ≡ Some b) (store : IsStore blocks) where
  abbrev asked : Request
  asked = Request.Write idn 7 bytes

  -- a block like this one, to which these words and more can't be written
  abbrev IsNever : ℕ → Type 0
  IsNever m = (c : Block) (taken : List Processed) (word : ℕ) (rest : List ℕ) → c.attribute ≡ b.attribute → c.max_len ≡ b.max_len → length taken ≡ m → in_order taken (word ∷ rest) ≡ told_of b bytes →
      is_over c false (in_order taken (word ∷ [])) ≡ false → ⊥

  never_word : (m : ℕ) → m ≤ 1 → IsNever m → (d : Entry) (past log : List Entry) → IsTransfer asked blocks d past log → d.answer.error ≡ false → (w : ℕ) (more : List ℕ) (taken : List Processed) (word : ℕ) (rest : List ℕ)
      → answer_words (replies_of past) ≡ w ∷ low_of b ∷ high_of b ∷ more → length more ≡ length taken → open_idn (past ++ log) ≡ Some idn.raw → run_before true 7 (past ++ log) ≡ taken → in_order taken (word ∷ rest) ≡ told_of b bytes → length taken ≡ m → ⊥
  never_word m low never d past log is good w more taken word rest those count opened before ordered at =
      let known = ap (λ (l : List ℕ). length l) (sym ordered) ∙ length-in_order taken (word ∷ rest) in
      let there = is_there (find_block idn.raw d.processed.blocks) b (find-alike idn.raw d.processed.blocks blocks b is.alike.1 found) in
      let none = no_cause _ 0 d.answer (is.replies.1 ∙ reply_word idn.raw word (is_nil rest) d.processed (past ++ log) taken
      (write.next_word idn bytes b said (answer_words (replies_of past)) d.processed.step w more taken word rest those count ordered
      (newest_step asked blocks log d past is)) opened before) good in
      let free = ap₂ (λ (o : Option Block) (last : Bool). write_cause_in o d.processed.phase last (in_order taken (word ∷ [])))
      (sym there.is) (sym (not_nil rest (omega (arith, known, many_told b.attribute.length bytes long, at, low)))) ∙ none in
      never there.block taken word rest there.attribute there.max_len at ordered (not_over there.block d.processed.phase false (in_order taken (word ∷ [])) free)

  few : (m : ℕ) → m ≤ 1 → IsNever m → (e : Entry) (entries log : List Entry) → IsTransfer asked blocks e entries log → length entries ≤ 3 + m
  few m low never e [] log is = omega arith
  few m low never e (d ∷ past) log is = by (few m low never d past log (without_newest asked blocks log e d past is)) (write.stage_before idn bytes b said blocks found d past log (without_newest asked blocks log e d past is)).0
    where
      early : (n : ℕ) → n ≤ 2 → length (answer_words (replies_of past)) ≡ n → suc (length past) ≤ 3 + m
      early n le at = omega (arith, long_words past, at, le)

      by : length past ≤ 3 + m → write.Stage idn bytes b (answer_words (replies_of past)) (past ++ log) → suc (length past) ≤ 3 + m
      by before (write.AtOpening those) = early 0 (omega arith) (ap (λ (l : List ℕ). length l) those)
      by before (write.AtLow w those opened ran) = early 1 (omega arith) (ap (λ (l : List ℕ). length l) those)
      by before (write.AtHigh w t those opened ran got) = early 2 (omega arith) (ap (λ (l : List ℕ). length l) those)
      by before (write.AtWord w more taken word rest those count opened ran ordered) =
          elim (cases_eq (length taken) m) [
            | inl at ↦ absurd (never_word m low never d past log (without_newest asked blocks log e d past is) (goes_on-outcome_of asked d.answer (replies_of past) is.goes_on).0 w more taken word rest those count opened ran ordered at)
            | inr other ↦ omega (arith, long_words past, ap (λ (l : List ℕ). length l) those, count, before, other)
          ]

  list_never : is_list b.attribute.length ≡ true → IsNever 0
  list_never list c (t ∷ taken) word rest attribute max_len at ordered free = absurd (omega (arith, at))
  list_never list c [] word rest attribute max_len at ordered free =
      let first : word ≡ length bytes = (first_is word (length bytes) rest (0 ∷ words_of bytes) (ordered ∙ told_list b.attribute.length bytes list)).0 in
      let room = max_len_bound idn.raw blocks b store (sym found) in
      never_both (is_over c false (word ∷ [])) (over_list c word (ap (λ (a : Attribute). is_list a.length) attribute ∙ list) (omega (arith, first, room, max_len, long))) free

  value_never : is_list b.attribute.length ≡ false → IsNever 1
  value_never value c [] word rest attribute max_len at ordered free = absurd (omega (arith, at))
  value_never value c (t ∷ s ∷ taken) word rest attribute max_len at ordered free = absurd (omega (arith, at))
  value_never value c (t ∷ []) word rest attribute max_len at ordered free =
      never_both (is_over c false (t.step.word ∷ word ∷ [])) (over_value c t.step.word word (ap (λ (a : Attribute). is_list a.length) attribute ∙ value)) free

  data_few : (e : Entry) (entries log : List Entry) → IsTransfer asked blocks e entries log → length entries ≤ 4
  data_few e entries log is = elim (cases_Bool (is_list b.attribute.length)) [
    | inl list ↦ let most = few 0 (omega arith) (list_never list) e entries log is in omega (arith, most)
    | inr value ↦ few 1 (omega arith) (value_never value) e entries log is
  ]

-- ANOTHER ELEMENT can't be written at all.
second_of : (first : Step) (seven : Bool) (some others : List Step) (n : ℕ) (s : Step) → n ≡ 1 → seven ≡ false → slice_get (first ∷ (if seven then some else others)) n ≡ Some s → slice_get others 0 ≡ Some s
second_of first true some others n s one off got = absurd (false≢true (sym off))
second_of first false some others n s one off got = ap (slice_get (first ∷ others)) (sym one) ∙ got

first_run : (e : ℕ) (words : List ℕ) (s : Step) → slice_get (run true e words) 0 ≡ Some s → (s.write ≡ true) × (s.element ≡ e)
first_run e [] s got = absurd (cc)
first_run e (w ∷ []) s got = let same = same_Some _ s got in (ap (λ (x : Step). x.write) (sym same), ap (λ (x : Step). x.element) (sym same))
first_run e (w ∷ v ∷ words) s got = let same = same_Some _ s got in (ap (λ (x : Step). x.write) (sym same), ap (λ (x : Step). x.element) (sym same))

other_refused : (t : Processed) (all : List Entry) → t.step.write ≡ true → (t.step.element == 1) ≡ false → (t.step.element == 0) ≡ false → (t.step.element == 7) ≡ false → (reply_of t all).error ≡ true
other_refused t all writes not_one not_zero not_seven =
    ap (λ (a : Answer). a.error) (cond-false (t.step.write && (t.step.element == 1)) _ _ (ap₂ (λ (x y : Bool). x && y) writes not_one) ∙ cond-false (t.step.element == 0) _ _ not_zero) ∙ elim (cases_Option (open_idn all)) [
      | inl none ↦ rw none
      | inr (raw, some) ↦ rw some (ap (λ (a : Answer). a.error) (cond-true t.step.write _ _ writes ∙ ap (λ (o : Option ℕ). answer_by o 0) (cond-false (t.step.element == 7) _ _ not_seven)))
    ]

other_few : (idn : Idn) (e : ℕ) (bytes : List ℕ) (blocks : List Block) → 2 ≤ e → (e == 7) ≡ false → (x : Entry) (entries log : List Entry) → IsTransfer (Request.Write idn e bytes) blocks x entries log → length entries ≤ 1
other_few idn e bytes blocks low off x [] log is = omega arith
other_few idn e bytes blocks low off x (d ∷ []) log is = omega arith
other_few idn e bytes blocks low off x (d ∷ o ∷ past) log is =
    let was = without_newest (Request.Write idn e bytes) blocks log x d (o ∷ past) is in
    let few = other_few idn e bytes blocks low off d (o ∷ past) log was in
    let first = first_run e (words_told (shape_of e 0) bytes) d.processed.step
    (second_of _ (e == 7) _ (writing (shape_of e 0) e bytes) (length (answer_words (replies_of (o ∷ past)))) d.processed.step
    (omega (arith, long_words (o ∷ past), few)) off (newest_step (Request.Write idn e bytes) blocks log d (o ∷ past) was)) in
    let named = first.1 in
    absurd (never_both d.answer.error (ap (λ (a : Answer). a.error) was.replies.1 ∙ other_refused d.processed ((o ∷ past) ++ log) first.0
    (grind (arith, nat_tests, named, low)) (grind (arith, nat_tests, named, low)) (ap (λ (n : ℕ). n == 7) named ∙ off))
    (goes_on-outcome_of (Request.Write idn e bytes) d.answer (replies_of (o ∷ past)) is.goes_on).0)

-- SO A LONG WRITE has few steps.
pub ends_soon : (blocks : List Block) → AreSmall blocks → IsStore blocks → (idn : Idn) (e : ℕ) (bytes : List ℕ) → 2 ≤ e
    → 1024 < length bytes → (x : Entry) (entries log : List Entry) → IsTransfer (Request.Write idn e bytes) blocks x entries log
    → length entries ≤ 4
ends_soon blocks small store idn e bytes low long x entries log is = by (find_block idn.raw blocks) refl
  where
    by : (o : Option Block) → find_block idn.raw blocks ≡ o → length entries ≤ 4
    by None none = omega (arith, ap (λ (l : List Entry). length l) (only_opening (Request.Write idn e bytes) blocks x entries log none is).0)
    by (Some b) found = elim (cases_Bool (e == 7)) [
      | inl seven ↦ data_few idn bytes long b (says_shape b (small idn.raw b found)) blocks found store x entries log (subst (λ (n : ℕ). IsTransfer (Request.Write idn n bytes) blocks x entries log) (eqb-true e 7 seven) is)
      | inr other ↦ omega (arith, other_few idn e bytes blocks low other x entries log is)
    ]
