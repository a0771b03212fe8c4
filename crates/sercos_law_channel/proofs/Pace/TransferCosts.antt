-- How many steps a transfer has, and how long one that sets a procedure command takes.
use Rattle.sercos_law_channel.proofs.Words.{cases_Bool, ◌≡◌, ◌⊎◌, inl, inr, ℕ, zero, suc, ◌+◌, ◌*◌, ◌<◌, ◌≤◌, true, false, List, [], ◌∷◌, ◌++◌, length, drop, refl, sym, ap, ◌∙◌, subst, arith, if◌then◌else◌, ◌==◌, Option, Some, None, is_some, slice_index, option_map, unwrap_or, nat_tests, cases_eq, cond-true, cond-false, eq-eqb, Idn, Length, is_list, Step, Answer, Shape, Request, shape_of, shape_by, words_in, words_told, steps_of, answer_words, polls, count_of, length-drop_two, read_ends, length-answer_words, steps_most, get_below, polls_by, times_le, times_more, Block, find_block, status_in, Processed, Entry, copy, Write, writes_of, AreAlike, replies_of, IsTransfer, entry_behind, idn_of, setting, second_of, added_by_setting, AreSpaced, IsListed, newest_at, value_steps, read_steps, write_steps, element_words, ap₂}
use Rattle.sercos_idn.specs.declared.kinds.Length.TheVariants as len
use Rattle.sercos_step.specs.declared.shape.Shape.TheVariants as shape
use Rattle.sercos_step.specs.declared.request.Request.TheVariants as request
use Rattle.sercos_law_channel.proofs.Handshake.AttributeReplies.{alike_there}
use Rattle.sercos_law_channel.proofs.Handshake.ReadRows.{row}
use Rattle.sercos_law_channel.proofs.Handshake.TransferSteps.{newest_step, without_newest, goes_on-outcome_of, length-replies_of}
use Rattle.sercos_law_channel.proofs.Handshake.UnknownBlocks.{only_opening}
use Rattle.sercos_law_channel.proofs.Handshake.ReadStages.{low_of, high_of, Short, Long}
use Rattle.sercos_law_channel.proofs.Handshake.ReadStages as read
use Rattle.sercos_law_channel.proofs.Handshake.WriteStages as write
use Rattle.sercos_law_channel.proofs.Handshake.CommandStages as command
use Rattle.sercos_law_channel.proofs.Handshake.CommandEnds.{poll_word, last_ends, is_poll, command_last}

-- the steps so far are at most those that are known from the words before the newest
pub long_words : (entries : List Entry) → length (answer_words (replies_of entries)) ≡ length entries
long_words entries = length-answer_words (replies_of entries) ∙ length-replies_of entries

pub known_steps : (r : Request) (blocks : List Block) (e : Entry) (entries log : List Entry) → IsTransfer r blocks e entries log → suc (length entries) ≤ count_of r (answer_words (replies_of entries))
known_steps r blocks e entries log is =
    let words = answer_words (replies_of entries) in
    let below = get_below (steps_of r words) (length words) (ap is_some (newest_step r blocks log e entries is)) in
    omega (arith, below, steps_most r words, long_words entries)

-- A block that the drive hasn't.
pub unknown_one : (r : Request) (blocks : List Block) (e : Entry) (entries log : List Entry) → find_block (idn_of r).raw blocks ≡ None → IsTransfer r blocks e entries log → suc (length entries) ≤ 1
unknown_one r blocks e entries log none is = let only = ap length (only_opening r blocks e entries log none is).0 in omega (arith, only)

-- A read of operation data.

words_most : (k : ℕ) (s : Shape) (first : ℕ) → (s ≡ shape.List → (first ≤ 2 * k) ⊎ (512 ≤ k)) → 3 + words_in s first ≤ value_steps k s
words_most k shape.One first short = omega arith
words_most k shape.Two first short = omega arith
words_most k shape.List first short = elim (short refl) [ inl le ↦ omega (arith, le) | inr le ↦ omega (arith, le) ]

value_most : (k : ℕ) (s : Shape) → 3 ≤ value_steps k s
value_most k shape.One = omega arith
value_most k shape.Two = omega arith
value_most k shape.List = omega arith

-- at each entry the lists are short enough
abbrev pub LogListed : (ℕ → ℕ) → List Entry → Type 0
LogListed longest [] = Unit {0}
LogListed longest (e ∷ log) = LogListed longest log × IsListed longest e.processed.blocks

behind_listed : (longest : ℕ → ℕ) (count : ℕ) (entries : List Entry) (p : Entry) → LogListed longest entries → entry_behind count entries ≡ Some p → IsListed longest p.processed.blocks
behind_listed longest count [] p are is = absurd (cc)
behind_listed longest count (e ∷ entries) p are is = elim (cases_Bool (length entries == count)) [
  | inl on ↦ let same : e ≡ p = cc in subst (λ (x : Entry). IsListed longest x.processed.blocks) same are.1
  | inr off ↦ let is = rw off at is in behind_listed longest count entries p are.0 is
]

-- the first word of a list is its length
list_shape : (l : Length) → shape_by l ≡ shape.List → is_list l ≡ true
list_shape len.Two is = absurd (cc)
list_shape len.Four is = absurd (cc)
list_shape len.List1 is = refl
list_shape len.List2 is = refl
list_shape len.List4 is = refl

first_word : (cycle : ℕ) (c : Block) → is_list c.attribute.length ≡ true → slice_index (element_words 7 cycle c) 0 ≡ length c.value
unfolding element_words
first_word cycle c is = ap (λ (l : List ℕ). slice_index l 0) (cond-true (is_list c.attribute.length) _ _ is)

first_copied : (longest : ℕ → ℕ) (raw : ℕ) (blocks : List Block) (b : Block) (t : Processed) → find_block raw blocks ≡ Some b → AreAlike t.blocks blocks → is_list b.attribute.length ≡ true → IsListed longest t.blocks → t.step.element ≡ 7 →
    (slice_index (copy raw t) 0 ≤ 2 * longest raw) ⊎ (512 ≤ longest raw)
first_copied longest raw blocks b t found alike is listed seven =
    let (c, there, same) = alike_there raw t.blocks blocks b alike found in
    let words = ap₂ (λ (n : ℕ) (o : Option Block). if n == 1 then status_in t.commands raw t.cycle ∷ [] else unwrap_or
    (option_map (element_words n t.cycle) o) []) seven there in
    let list = ap (λ (d : Block). is_list d.attribute.length) same ∙ is in
    let copied = ap (λ (l : List ℕ). slice_index l 0) words ∙ first_word t.cycle c list in
    elim (listed raw c there list) [ inl le ↦ inl (omega (arith, le, copied)) | inr le ↦ inr le ]

first_of_row : (n : ℕ) (words : List ℕ) → slice_index (row n words) 0 ≤ slice_index words 0
first_of_row zero words = omega arith
first_of_row (suc n) words = omega arith

module _ (idn : Idn) (blocks : List Block) (b : Block) (found : find_block idn.raw blocks ≡ Some b) (said : shape_of 7 (low_of b + 65536 * high_of b) ≡ shape_by b.attribute.length) where
  value_read : (longest : ℕ → ℕ) (e : Entry) (entries log : List Entry) → IsTransfer (request.Read idn 7) blocks e entries log → LogListed longest (e ∷ entries) → suc (length entries) ≤ value_steps (longest idn.raw) (shape_by b.attribute.length)
  value_read longest e entries log is listed = by (read.stage_before idn 7 b blocks found refl e entries log is) (known_steps (request.Read idn 7) blocks e entries log is)
    where
      few : (k : ℕ) → k ≤ 2 → length (answer_words (replies_of entries)) ≡ k → suc (length entries) ≤ value_steps (longest idn.raw) (shape_by b.attribute.length)
      few k le is = let long = long_words entries in let most = value_most (longest idn.raw) (shape_by b.attribute.length) in omega (arith, long, most)

      by : read.Stage idn 7 b blocks found refl (answer_words (replies_of entries)) entries log → suc (length entries) ≤ count_of (request.Read idn 7) (answer_words (replies_of entries)) → suc (length entries) ≤ value_steps (longest idn.raw) (shape_by b.attribute.length)
      by (read.AtOpening those) known = few 0 (omega arith) (ap length those)
      by (read.AtLow asks w those opened before) known = few 1 (omega arith) (ap length those)
      by (read.AtHigh asks w t those opened before got) known = few 2 (omega arith) (ap length those)
      by (read.AtWord own taken (Short off w those) long opened before chosen) known = absurd (cc)
      by (read.AtWord own taken (Long on w those) long opened before chosen) known =
          let c = chosen e in
          let step = read.next_word idn 7 b blocks found refl (answer_words (replies_of entries)) own e.processed.step 0 (Long on w those) (newest_step (request.Read idn 7) blocks log e entries is) in
          let seven : c.entry.processed.step.element ≡ 7 = c.element (ap (λ (s : Step). s.element) step) in
          let own_first : slice_index own 0 ≡ slice_index (row (length taken) (copy idn.raw c.entry.processed)) 0 = ap (λ (l : List ℕ). slice_index l 0) c.copied in
          let short : shape_by b.attribute.length ≡ shape.List → (slice_index own 0 ≤ 2 * longest idn.raw) ⊎ (512 ≤ longest idn.raw) = λ list.
          elim (first_copied longest idn.raw blocks b c.entry.processed found (c.alike is.alike.1) (list_shape b.attribute.length list) (behind_listed longest 3 (e ∷ entries) c.entry listed c.at) seven) [
            | inl le ↦ inl (omega (arith, le, first_of_row (length taken) (copy idn.raw c.entry.processed), own_first))
            | inr le ↦ inr le
          ] in
          let count : count_of (request.Read idn 7) (answer_words (replies_of entries)) ≡ 3 + words_in (shape_by b.attribute.length) (slice_index own 0) =
          ap (count_of (request.Read idn 7)) those ∙ ap (λ (s : Shape). 3 + words_in s (slice_index own 0)) said in
          omega (arith, count, words_most (longest idn.raw) (shape_by b.attribute.length) (slice_index own 0) short)

  data_written : (bytes : List ℕ) (e : Entry) (entries log : List Entry) → IsTransfer (request.Write idn 7 bytes) blocks e entries log → suc (length entries) ≤ 3 + length (words_told (shape_by b.attribute.length) bytes)
  data_written bytes e entries log is = by (write.stage_before idn bytes b said blocks found e entries log is).0 (known_steps (request.Write idn 7 bytes) blocks e entries log is)
    where
      few : (k : ℕ) → k ≤ 2 → length (answer_words (replies_of entries)) ≡ k → suc (length entries) ≤ 3 + length (words_told (shape_by b.attribute.length) bytes)
      few k le is = let long = long_words entries in omega (arith, long)

      by : write.Stage idn bytes b (answer_words (replies_of entries)) (entries ++ log) → suc (length entries) ≤ count_of (request.Write idn 7 bytes) (answer_words (replies_of entries)) → suc (length entries) ≤ 3 + length (words_told (shape_by b.attribute.length) bytes)
      by (write.AtOpening those) known = few 0 (omega arith) (ap length those)
      by (write.AtLow w those opened before) known = few 1 (omega arith) (ap length those)
      by (write.AtHigh w t those opened before got) known = few 2 (omega arith) (ap length those)
      by (write.AtWord w more taken word rest those count opened before ordered) known =
          omega (arith, ap (count_of (request.Write idn 7 bytes)) those ∙ ap (λ (s : Shape). 3 + length (words_told s bytes)) said)

  pub read_found : (longest : ℕ → ℕ) (e : ℕ) (x : Entry) (entries log : List Entry) → IsTransfer (request.Read idn e) blocks x entries log → LogListed longest (x ∷ entries) → suc (length entries) ≤ read_steps (longest idn.raw) e (Some b)
  read_found longest e x entries log is listed = elim (cases_eq e 3) [
    | inl three ↦
        let same : read_steps (longest idn.raw) e (Some b) ≡ 3 = cond-true (e == 3) 3 _ (eq-eqb e 3 three) in
        let known = known_steps (request.Read idn 3) blocks x entries log (subst (λ (n : ℕ). IsTransfer (request.Read idn n) blocks x entries log) three is) in omega (arith, same, known)
    | inr other ↦ elim (cases_eq e 7) [
      | inl seven ↦
          let same : read_steps (longest idn.raw) e (Some b) ≡ value_steps (longest idn.raw) (shape_by b.attribute.length) = ap (λ (n : ℕ). read_steps (longest idn.raw) n (Some b)) seven in
          let few = value_read longest x entries log (subst (λ (n : ℕ). IsTransfer (request.Read idn n) blocks x entries log) seven is) listed in omega (arith, same, few)
      | inr more ↦
          let same : read_steps (longest idn.raw) e (Some b) ≡ 517 = grind (arith, nat_tests) in
          omega (arith, same, read_ends idn e (replies_of (x ∷ entries)) (is.in_turn, is.goes_on), length-replies_of (x ∷ entries))
    ]
  ]

  pub write_found : (e : ℕ) (bytes : List ℕ) (x : Entry) (entries log : List Entry) → IsTransfer (request.Write idn e bytes) blocks x entries log → suc (length entries) ≤ write_steps e bytes (Some b)
  write_found e bytes x entries log is = elim (cases_eq e 7) [
    | inl seven ↦
        let same : write_steps e bytes (Some b) ≡ 3 + length (words_told (shape_by b.attribute.length) bytes) = ap (λ (n : ℕ). write_steps n bytes (Some b)) seven in
        let few = data_written bytes x entries log (subst (λ (n : ℕ). IsTransfer (request.Write idn n bytes) blocks x entries log) seven is) in omega (arith, same, few)
    | inr other ↦
        let off : (e == 7) ≡ false = grind (arith, nat_tests) in
        let same : write_steps e bytes (Some b) ≡ 1 + length (words_told (shape_of e 0) bytes) = cond-false (e == 7) _ _ off in
        let count : count_of (request.Write idn e bytes) (answer_words (replies_of entries)) ≡ 1 + length (words_told (shape_of e 0) bytes) = cond-false (e == 7) _ _ off in
        let known = known_steps (request.Write idn e bytes) blocks x entries log is in omega (arith, same, count, known)
  ]

-- A procedure command.

second_some : (d o : Entry) (past : List Entry) → (x : Entry) × (second_of (d ∷ o ∷ past) ≡ Some x)
second_some d o [] = (d, refl)
second_some d o (p ∷ past) = second_some o p past

pub times_suc : (k n : ℕ) → suc k * n ≡ k * n + n
times_suc k n = grind arith

-- the second of all entries was accepted as long ago as the others take
spaced_second : (busy k : ℕ) (d x : Entry) (entries : List Entry) → AreSpaced busy (d ∷ entries) → second_of (d ∷ entries) ≡ Some x → length entries ≡ k + 1 → x.processed.cycle + k * (busy + 1) ≤ d.processed.cycle
spaced_second busy k d x [] are is long = absurd (cc)
spaced_second busy zero d x (o ∷ []) are is long = let same : d ≡ x = cc in let c = ap (λ (y : Entry). y.processed.cycle) same in omega (arith, c)
spaced_second busy (suc k) d x (o ∷ []) are is long = absurd (omega (arith, long))
spaced_second busy zero d x (o ∷ p ∷ past) are is long = absurd (omega (arith, long))
spaced_second busy (suc k) d x (o ∷ p ∷ past) are is long =
    omega (arith, spaced_second busy k o x (p ∷ past) are.0 is (omega (arith, long)), are.1, times_suc k (busy + 1))

drop_two : (words : List ℕ) (x : ℕ) → 2 ≤ length words → drop 2 (words ++ x ∷ []) ≡ drop 2 words ++ x ∷ []
drop_two [] x le = absurd (omega arith)
drop_two (a ∷ []) x le = absurd (omega arith)
drop_two (a ∷ b ∷ words) x le = refl

-- a word 7 at a place is the last one, or one of those before it
seven_at : (words : List ℕ) (x k : ℕ) → slice_index (words ++ x ∷ []) k ≡ 7 → (slice_index words k ≡ 7) ⊎ ((k ≡ length words) × (x ≡ 7))
seven_at [] x zero is = inr (refl, is)
seven_at [] x (suc k) is = absurd (cc)
seven_at (w ∷ words) x zero is = inl is
seven_at (w ∷ words) x (suc k) is = elim (seven_at words x k is) [ inl e ↦ inl e | inr e ↦ inr (ap suc e.0, e.1) ]

none_there : (k : ℕ) → slice_index (let none : List ℕ = [] in none) k ≡ 7 → ⊥
none_there zero seven = cc
none_there (suc k) seven = cc

module _ (idn : Idn) (blocks : List Block) (b : Block) (found : find_block idn.raw blocks ≡ Some b) (busy time : ℕ) (log : List Entry) (ago : List Write) where
  abbrev asked : Request
  asked = request.Command idn

  second_good : (e x : Entry) (entries : List Entry) → IsTransfer asked blocks e entries log → second_of entries ≡ Some x → x.answer.error ≡ false
  second_good e x [] is those = absurd (cc)
  second_good e x (d ∷ []) is those = absurd (cc)
  second_good e x (d ∷ o ∷ []) is those = let same : d ≡ x = cc in ap (λ (y : Entry). y.answer.error) (sym same) ∙ (goes_on-outcome_of asked d.answer (replies_of (o ∷ [])) is.goes_on).0
  second_good e x (d ∷ o ∷ p ∷ past) is those = second_good d x (o ∷ p ∷ past) (without_newest asked blocks log e d (o ∷ p ∷ past) is) those

  -- after its setting, that is the newest write to the command
  set_at : (e x : Entry) (entries : List Entry) → IsTransfer asked blocks e entries log → second_of entries ≡ Some x → newest_at idn.raw (writes_of (entries ++ log) ++ ago) ≡ Some x.processed.cycle
  set_at e x entries is those =
      let adds : writes_of (entries ++ log) ≡ added_by_setting idn.raw (second_of entries) ++ writes_of log = (command.stage_before idn b blocks found e entries log is).1 in
      let set : added_by_setting idn.raw (second_of entries) ≡ setting idn.raw 3 x ∷ [] = ap (added_by_setting idn.raw) those ∙ cond-false x.answer.error [] (setting idn.raw 3 x ∷ []) (second_good e x entries is those) in
      ap (λ (l : List Write). newest_at idn.raw (l ++ ago)) (adds ∙ ap (λ (l : List Write). l ++ writes_of log) set)
      ∙ cond-true (idn.raw == idn.raw) (Some x.processed.cycle) (newest_at idn.raw (writes_of log ++ ago)) (eq-eqb idn.raw idn.raw refl)

  -- a command that runs was set by the newest write
  abbrev pub HasTime : Entry → List Entry → Type 0
  HasTime p rest = status_in p.processed.commands idn.raw p.processed.cycle ≡ 7 → (at : ℕ) × (newest_at idn.raw (writes_of rest ++ ago) ≡ Some at) × (p.processed.cycle < at + time)

  abbrev pub HaveTime : List Entry → Type 0
  HaveTime [] = Unit {0}
  HaveTime (p ∷ entries) = HaveTime entries × HasTime p (entries ++ log)

  statuses : (e : Entry) (entries : List Entry) → IsTransfer asked blocks e entries log → AreSpaced busy entries → HaveTime entries → (k : ℕ) → slice_index (drop 2 (answer_words (replies_of entries))) k ≡ 7 → 0 + (k + 1) * (busy + 1) < time
  statuses e [] is spaced timed k seven = absurd (none_there k seven)
  statuses e (d ∷ []) is spaced timed k seven = absurd (none_there k seven)
  statuses e (d ∷ o ∷ []) is spaced timed k seven = absurd (none_there k seven)
  statuses e (d ∷ o ∷ p ∷ past) is spaced timed k seven =
      let was = without_newest asked blocks log e d (o ∷ p ∷ past) is in
      let words = answer_words (replies_of (o ∷ p ∷ past)) in
      let long = long_words (o ∷ p ∷ past) in
      let two : 2 ≤ length words = omega (arith, long) in
      let split : slice_index (drop 2 words ++ d.answer.word ∷ []) k ≡ 7 = ap (λ (l : List ℕ). slice_index l k) (sym (drop_two words d.answer.word two)) ∙ seven in
      elim (seven_at (drop 2 words) d.answer.word k split) [
        | inl before ↦ statuses d (o ∷ p ∷ past) was spaced.0 timed.0 k before
        | inr here ↦
            let on = goes_on-outcome_of asked d.answer (replies_of (o ∷ p ∷ past)) is.goes_on in
            let polled = is_poll idn blocks b found d o (p ∷ past) log (omega arith) was on.1 in
            let free = last_ends false 1 o ((p ∷ past) ++ log) (command_last idn blocks b found o (p ∷ past) log (without_newest asked blocks log d o (p ∷ past) was)) in
            let word : d.answer.word ≡ status_in d.processed.commands idn.raw d.processed.cycle = ap (λ (a : Answer). a.word) was.replies.1 ∙ poll_word idn.raw d.processed ((o ∷ p ∷ past) ++ log) polled.0 polled.1 free in
            let x = second_some o p past in
            let at = timed.1 (sym word ∙ here.1) in
            let same : Some at.0 ≡ Some x.0.processed.cycle = sym at.1 ∙ set_at d x.0 (o ∷ p ∷ past) was x.1 in
            let cycle : at.0 ≡ x.0.processed.cycle = cc in
            let first : length (o ∷ p ∷ past) ≡ (k + 1) + 1 = (omega (arith, here.0, length-drop_two words two, long)) in
            omega (arith, spaced_second busy (k + 1) d x.0 (o ∷ p ∷ past) spaced x.1 first, at.2, cycle)
      ]

  pub command_found : (e : Entry) (entries : List Entry) → IsTransfer asked blocks e entries log → AreSpaced busy entries → HaveTime entries → (busy + 1) * suc (length entries) ≤ time + 4 * (busy + 1)
  command_found e entries is spaced timed =
      let words = drop 2 (answer_words (replies_of entries)) in
      let all = polls_by (busy + 1) time 0 words (omega arith) (statuses e entries is spaced timed) in
      let le = times_le (busy + 1) (suc (length entries)) (3 + polls words) (known_steps asked blocks e entries log is) in
      omega (arith, all, le, times_more (busy + 1) (polls words))

-- A command that the drive hasn't.
pub command_unknown : (busy time n : ℕ) → n ≤ 1 → (busy + 1) * n ≤ time + 4 * (busy + 1)
command_unknown busy time n le = let few = times_le (busy + 1) n 1 le in omega (arith, few)
