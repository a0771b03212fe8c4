-- Of what the start-up writes, sets and reads, a drive can refuse the cycle time alone, and it refuses that by its limits.
use Rattle.sercos_law_run.proofs.Words.{◌≡◌, ◌⊎◌, inl, inr, ℕ, ◌+◌, ◌*◌, ◌/◌, ◌%◌, ◌<◌, ◌≤◌, Bool, true, false, List, [], ◌∷◌, ◌++◌, length, map, Some, None, refl, sym, ap, ap₂, ◌∙◌, arith, if◌then◌else◌, length-append, ◌==◌, nat_lt, nat_tests, same_Some, none-some, is_list, Idn, Length, bytes_in, words_of, shape_by, words_told, built_in_block, row, blocks_fault, find_block, store_of, DriveView, Block, Empty, Zero, Processed, Entry, in_order, write_cause_in, length-bytes_in, idn, length_map, is_start_number, IsStoreOf, Allows, is_nil, list_shape, length-in_order, in_order-append, attribute_of, built_in, bytes_written, write_cause, told_of}
use Rattle.sercos_law_run.proofs.Start.BlockFinds.{find_store_of}
use Rattle.sercos_law_run.proofs.Start.CauseLemmas.{causes_alike, cycle_cause, number_has_no_cause, list_has_no_cause}
use Rattle.sercos_law_run.proofs.Undisturbed.Stops.RefusedSteps.{IsCaused}
use Rattle.sercos_law_run.proofs.Undisturbed.Arriving.Small.{first_is}
use Rattle.sercos_service_drive.proofs.WordLemmas.{words_of-bytes_in}

-- WORDS
-- the one word of a number
one_word : (before : List Processed) (word v : ℕ) (rest : List ℕ) → in_order before (word ∷ rest) ≡ v ∷ [] → (rest ≡ []) × (in_order before (word ∷ []) ≡ v ∷ [])
one_word before word v [] same = (refl, same)
one_word before word v (x ∷ rest) same =
    absurd (omega (arith, length-in_order before (word ∷ x ∷ rest), (ap (λ (l : List ℕ). length l) same)))

-- the first word of several
record StartsSo (x : ℕ) (l : List ℕ) : Type 0 where
  others : List ℕ
  is : l ≡ x ∷ others

starts_so : (x : ℕ) (l rest ys : List ℕ) → 1 ≤ length l → l ++ rest ≡ x ∷ ys → StartsSo x l
starts_so x [] rest ys some same = absurd (omega (arith, some))
starts_so x (y ∷ l) rest ys some same = record { others = l; is = ap (λ (n : ℕ). n ∷ l) (first_is _ _ _ _ same).0 }

-- so this is the cause of a number's word
abbrev word_of : ℕ → ℕ
word_of value = value % 256 + 256 * (value / 256)

module _ (d : DriveView) (rules : blocks_fault [] d.blocks ≡ None) (e : Entry) (stored : IsStoreOf d e.processed.blocks) where
  number_cause : (raw value : ℕ) (b : Block) → e.processed.phase ≡ 2 → b.attribute.length ≡ Length.Two → IsCaused (idn raw) (bytes_in (value ∷ [])) b e → write_cause_in (find_block raw e.processed.blocks) 2 true (word_of value ∷ []) ≡ Some e.answer.word
  number_cause raw value b two one c =
      let told_is : told_of b (bytes_in (value ∷ [])) ≡ word_of value ∷ [] = ap (λ (l : Length). words_told (shape_by l) (bytes_in (value ∷ []))) one in
      let w = one_word c.before c.word (word_of value) c.rest (c.words ∙ told_is) in
      ap (λ (p : ℕ). write_cause_in (find_block raw e.processed.blocks) p true (word_of value ∷ [])) (sym two)
      ∙ ap₂ (λ (l : Bool) (ws : List ℕ). write_cause_in (find_block raw e.processed.blocks) e.processed.phase l ws) (sym (ap is_nil w.0)) (sym w.1) ∙ c.cause

  pub number_free : (raw value : ℕ) (b : Block) → e.processed.phase ≡ 2 → b.attribute.length ≡ Length.Two → is_start_number raw ≡ true → IsCaused (idn raw) (bytes_in (value ∷ [])) b e → ⊥
  number_free raw value b two one start c =
      none-some e.answer.word (sym (number_has_no_cause d e.processed.blocks raw (word_of value) rules stored start) ∙ number_cause raw value b two one c)

  -- THE CYCLE TIME
  pub cycle_refused : (cycle : ℕ) (b : Block) → cycle < 65536 → e.processed.phase ≡ 2 → b.attribute.length ≡ Length.Two → IsCaused (idn 2) (bytes_in (cycle ∷ [])) b e
      → ((cycle < d.cycle_min) × (e.answer.word ≡ 0x7006)) ⊎ ((d.cycle_max < cycle) × (e.answer.word ≡ 0x7007))
  cycle_refused cycle b small two one c =
      let back : cycle ≡ word_of cycle = omega arith in
      by (nat_lt cycle d.cycle_min) (nat_lt d.cycle_max cycle) refl refl
      (sym (cycle_cause d e.processed.blocks cycle rules stored small) ∙ ap (λ (w : ℕ). write_cause_in (find_block 2 e.processed.blocks) 2 true (w ∷ [])) back ∙ number_cause 2 cycle b two one c)
    where
      by : (low high : Bool) → nat_lt cycle d.cycle_min ≡ low → nat_lt d.cycle_max cycle ≡ high → (if low then Some 0x7006 else (if high then Some 0x7007 else None)) ≡ Some e.answer.word
          → ((cycle < d.cycle_min) × (e.answer.word ≡ 0x7006)) ⊎ ((d.cycle_max < cycle) × (e.answer.word ≡ 0x7007))
      by true high is other same = inl (grind (arith, nat_tests, is), sym (same_Some 0x7006 e.answer.word same))
      by false true is other same = inr (grind (arith, nat_tests, other), sym (same_Some 0x7007 e.answer.word same))
      by false false is other same = absurd (none-some e.answer.word same)

  -- A LIST
  pub list_free : (raw : ℕ) (idns : List Idn) (b : Block) → e.processed.phase ≡ 2 → is_list b.attribute.length ≡ true → ((raw == 16) ≡ true) ⊎ ((raw == 24) ≡ true) → length idns ≤ 16 → IsCaused (idn raw) (bytes_in (map (λ i. i.raw) idns)) b e → ⊥
  list_free raw idns b two list which few c =
      let bytes = bytes_in (map (λ (i : Idn). i.raw) idns) in
      let many = length_map (λ (i : Idn). i.raw) idns in
      let long : length bytes ≡ 2 * length idns = omega (arith, length-bytes_in (map (λ (i : Idn). i.raw) idns), many) in
      let joined = sym (in_order-append c.before (c.word ∷ []) c.rest) ∙ c.words ∙ ap (λ s. words_told s bytes)
      (list_shape b.attribute.length list) in
      let first = starts_so (length bytes) (in_order c.before (c.word ∷ [])) c.rest (0 ∷ words_of bytes)
      (omega (arith, length-in_order c.before (c.word ∷ []))) joined in
      let all = ap (λ (l : List ℕ). length l) joined in
      let parts = length-append (in_order c.before (c.word ∷ [])) c.rest in
      let words = ap (λ (l : List ℕ). length l) (words_of-bytes_in (map (λ (i : Idn). i.raw) idns)) in
      let one = ap (λ (l : List ℕ). length l) first.is in
      let count : length first.others + length c.rest ≡ 1 + length idns = omega (arith, all, parts, one, words, many) in
      let same_cause = ap (λ (p : ℕ). write_cause_in (find_block raw e.processed.blocks) p (length first.others == 1 + length idns)
      (2 * length idns ∷ first.others)) (sym two) ∙ ap₂ (λ (l : Bool) (ws : List ℕ). write_cause_in (find_block raw e.processed.blocks)
      e.processed.phase l ws) (sym (last c.rest (length first.others) (length idns) count))
      (ap (λ (n : ℕ). n ∷ first.others) (sym long) ∙ sym first.is) ∙ c.cause in
      none-some e.answer.word (sym (list_has_no_cause d e.processed.blocks raw (length idns) (length first.others) first.others rules stored
      which few refl (omega (arith, count))) ∙ same_cause)
    where
      last : (rest : List ℕ) (n m : ℕ) → n + length rest ≡ 1 + m → is_nil rest ≡ (n == 1 + m)
      last [] n m is = let same : (n == 1 + m) ≡ true = grind (arith, nat_tests, is) in sym same
      last (x ∷ rest) n m is = let other : (n == 1 + m) ≡ false = grind (arith, nat_tests, is) in sym other

  -- THE CHECKS
  pub check_free_3 : write_cause_in (find_block 127 e.processed.blocks) 2 true (3 ∷ []) ≡ None
  unfolding built_in attribute_of write_cause bytes_written
  check_free_3 = causes_alike d e.processed.blocks stored 127 2 true (3 ∷ []) ∙ rw (find_store_of 127 d rules) refl

  pub check_free_4 : write_cause_in (find_block 128 e.processed.blocks) 3 true (3 ∷ []) ≡ None
  unfolding built_in attribute_of write_cause bytes_written
  check_free_4 = causes_alike d e.processed.blocks stored 128 3 true (3 ∷ []) ∙ rw (find_store_of 128 d rules) refl

abbrev pub check_3 : DriveView → Block
check_3 d = built_in_block d (row 127 0x60090001 false Zero)

abbrev pub check_4 : DriveView → Block
check_4 d = built_in_block d (row 128 0x50090001 false Zero)

pub allows_3 : (d : DriveView) → Allows (check_3 d) 2
unfolding attribute_of
allows_3 d = record { two = refl; loose = refl; bare = refl }

pub allows_4 : (d : DriveView) → Allows (check_4 d) 3
unfolding attribute_of
allows_4 d = record { two = refl; loose = refl; bare = refl }

pub found_3 : (d : DriveView) → blocks_fault [] d.blocks ≡ None → find_block 127 (store_of d) ≡ Some (check_3 d)
unfolding built_in
found_3 d rules = find_store_of 127 d rules

pub found_4 : (d : DriveView) → blocks_fault [] d.blocks ≡ None → find_block 128 (store_of d) ≡ Some (check_4 d)
unfolding built_in
found_4 d rules = find_store_of 128 d rules

-- the list of the check for phase 4
abbrev pub list_4 : DriveView → Block
list_4 d = built_in_block d (row 22 0x70550001 true (Empty 128))

pub found_list : (d : DriveView) → blocks_fault [] d.blocks ≡ None → find_block 22 (store_of d) ≡ Some (list_4 d)
unfolding built_in
found_list d rules = find_store_of 22 d rules
