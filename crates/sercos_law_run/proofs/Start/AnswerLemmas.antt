-- From the answers of its drives the master asks of the plan what the ring asks.
use Rattle.sercos_law_run.proofs.Words.{◌≡◌, ℕ, suc, ◌+◌, ◌<◌, ◌^◌, ◌==◌, nat_lt, true, List, [], ◌∷◌, ◌++◌, map, length, take, drop, Option, Some, None, IfSome, is_none, is_some, inl, inr, slice_get, option_map, option_and_then, unwrap_or, refl, sym, ◌∙◌, ap, append_assoc, arith, w16, w32, to_le_bytes, All, fold, find, list_all, list_any, and_parts, or_cases, eqb-true, ltb-true, take-append_seam, drop-append_seam, length-map, map-append, list_any-append, All-nil, All-cons, All-tail, All-head, Attribute, Idn, attribute_word, attribute_word-below, attribute_fault-attribute_word, attribute_of-attribute_word, Outcome, Block, BuiltIn, built_ins, blocks_fault, find_block, row_in, number_len, value_len, wish_of, DriveView, data_at, IsStoreOf, member_of, bytes_of, short_in, long_in, reads, words_given, len_said, len_or_none, wish_given, wishes_from, attribute_stop, IsAnswer, AreAnswers, HaveFactors, TypedHaveFactors, AsksAsRing, SaysLength, NoAttributeStops, attribute_fault, attribute_of, element_of, is_typed, attribute_in, built_in_attribute, own_attribute, block_attribute, listed_len, are_cyclic, wishes_of, cases_Bool, cases_Option, Request, cyclic_len}
use Rattle.sercos_law_run.proofs.Start.BlockFinds.{same_attribute}
use Rattle.sercos_law_run.proofs.Start.Lengths.{declares_times}
use Rattle.sercos_law_run.proofs.Start.CheckPasses.{ring_drive, KeepsRules}

-- the bytes of an attribute that is read
abbrev attribute_bytes : DriveView → ℕ → List ℕ
attribute_bytes d raw = unwrap_or (option_map (λ (a : Attribute). to_le_bytes w32 (attribute_word a)) (block_attribute d.blocks raw)) []

third : (o : Option Block) → unwrap_or (option_and_then (λ b. element_of b 3) o) [] ≡ unwrap_or (option_map (λ (a : Attribute). to_le_bytes w32 (attribute_word a)) (option_map (λ (b : Block). b.attribute) o)) []
unfolding element_of
third None = refl
third (Some b) = refl

seventh : (o : Option Block) → unwrap_or (option_and_then (λ b. element_of b 7) o) [] ≡ unwrap_or (option_map (λ (b : Block). b.value) o) []
unfolding element_of
seventh None = refl
seventh (Some b) = refl

-- What its word says: the factor has 16 bits, and the length is the block's.
factor_of_word : (word : ℕ) → IfSome (attribute_in word) (λ (a : Attribute). a.factor < 65536)
unfolding attribute_in attribute_of
factor_of_word word = elim (cases_Bool (is_none (attribute_fault word))) [ inl on ↦ rw on (omega arith) | inr off ↦ rw off tt ]

factor_of_row : (o : Option BuiltIn) → IfSome (option_and_then (λ (row : BuiltIn). attribute_in row.attribute) o) (λ (a : Attribute). a.factor < 65536)
factor_of_row None = tt
factor_of_row (Some row) = factor_of_word row.attribute

factor_of_own : (raw : ℕ) (blocks : List Block) → All (λ (b : Block). b.attribute.factor < 65536) blocks → IfSome (option_map (λ (b : Block). b.attribute) (find (λ (b : Block). b.idn.raw == raw) blocks)) (λ (a : Attribute). a.factor < 65536)
factor_of_own raw [] small = tt
factor_of_own raw (b ∷ blocks) small =
    (elim (cases_Bool (b.idn.raw == raw)) [
      | inl on ↦ rw on (All-head (λ (c : Block). c.attribute.factor < 65536) b blocks small)
      | inr off ↦ rw off (factor_of_own raw blocks (All-tail (λ (c : Block). c.attribute.factor < 65536) b blocks small))
    ])

factor_small : (d : DriveView) (raw : ℕ) → HaveFactors d → IfSome (block_attribute d.blocks raw) (λ (a : Attribute). a.factor < 65536)
unfolding block_attribute built_in_attribute own_attribute
factor_small d raw small = elim (cases_Option (option_and_then (λ (row : BuiltIn). attribute_in row.attribute) (row_in built_ins raw))) [
  | inl none ↦ rw none (factor_of_own raw d.blocks small)
  | inr (a, some) ↦ rw some (let here = rw some at (factor_of_row (row_in built_ins raw)) in here)
]

long_back : (n : ℕ) → n < 4294967296 → long_in (to_le_bytes w32 n) ≡ n
long_back n small = omega arith

len_of_word : (word : ℕ) (a : Attribute) → attribute_fault word ≡ None → attribute_of word ≡ a → len_said word ≡ number_len a
unfolding attribute_in
len_of_word word a sound back = rw (sound, back) refl

none_said : len_said 0 ≡ None
unfolding attribute_in attribute_fault
none_said = refl

len_by : (o : Option Attribute) → IfSome o (λ (a : Attribute). a.factor < 65536)
    → len_said (long_in (unwrap_or (option_map (λ (a : Attribute). to_le_bytes w32 (attribute_word a)) o) [])) ≡ option_and_then number_len o
len_by None small = none_said
len_by (Some a) small =
    rw (long_back (attribute_word a) (attribute_word-below a small))
    (len_of_word (attribute_word a) a (attribute_fault-attribute_word a small) (attribute_of-attribute_word a small))

len_read : (d : DriveView) (raw : ℕ) → HaveFactors d → len_said (long_in (attribute_bytes d raw)) ≡ cyclic_len d.blocks raw
unfolding cyclic_len
len_read d raw small = len_by (block_attribute d.blocks raw) (factor_small d raw small)

-- the bytes of an answer to a read of an attribute, and the number of one to a read of a time
attribute_answer : (d : DriveView) (i : Idn) (o : Outcome) → blocks_fault [] d.blocks ≡ None → IsAnswer d (Request.Read i 3) o → bytes_of o ≡ attribute_bytes d i.raw
attribute_answer d i o none h = ap bytes_of h.2 ∙ (third (find_block i.raw h.0)
    ∙ ap (λ (o : Option Attribute). unwrap_or (option_map (λ (a : Attribute). to_le_bytes w32 (attribute_word a)) o) [])
    (same_attribute i.raw d h.0 none h.1))

time_answer : (d : DriveView) (i : Idn) (n : ℕ) (o : Outcome) → ((blocks : List Block) → IsStoreOf d blocks → data_at blocks i.raw ≡ to_le_bytes w16 n) → n < 65536 → IsAnswer d (Request.Read i 7) o → short_in (bytes_of o) ≡ n
time_answer d i n o declared small h =
    ap (λ (x : Outcome). short_in (bytes_of x)) h.2 ∙ ap short_in (seventh (find_block i.raw h.0)) ∙ ap short_in (declared h.0 h.1) ∙ (omega arith)

-- the words of the attributes that were read, which come first
record ReadWords (d : DriveView) (idns : List Idn) (outcomes : List Outcome) : Type 0 where
  rest : List ℕ
  are : words_given outcomes ≡ map (λ (i : Idn). long_in (attribute_bytes d i.raw)) idns ++ rest

read_words : (d : DriveView) (idns : List Idn) (outcomes : List Outcome) → blocks_fault [] d.blocks ≡ None → AreAnswers d (map (λ (i : Idn). Request.Read i 3) idns) outcomes → ReadWords d idns outcomes
read_words d [] outcomes none h = record { rest = words_given outcomes; are = refl }
read_words d (i ∷ idns) [] none h = absurd h
read_words d (i ∷ idns) (o ∷ outcomes) none h =
    let more = read_words d idns outcomes none h.1 in
    record { rest = more.rest; are = rw (attribute_answer d i o none h.0, more.are) refl }

-- the first of two lists, and the second
take_mapped : (f : Idn → ℕ) (xs : List Idn) (rest : List ℕ) → take (length xs) (map f xs ++ rest) ≡ map f xs
take_mapped f xs rest = rw (length-map xs f) at (take-append_seam (map f xs) rest)

drop_mapped : (f : Idn → ℕ) (xs : List Idn) (rest : List ℕ) → drop (length xs) (map f xs ++ rest) ≡ rest
drop_mapped f xs rest = rw (length-map xs f) at (drop-append_seam (map f xs) rest)

drop_six : (n a b c d e f : ℕ) (xs : List ℕ) → drop (6 + n) (a ∷ b ∷ c ∷ d ∷ e ∷ f ∷ xs) ≡ drop n xs
drop_six n a b c d e f xs = let six : 6 + n ≡ suc (suc (suc (suc (suc (suc n))))) = omega arith in rw six refl

sum_mapped : (len : ℕ → ℕ) (said f : Idn → ℕ) → ((i : Idn) → len (said i) ≡ f i) → (a : ℕ) (idns : List Idn)
    → fold (λ (n : ℕ) (word : ℕ). n + len word) a (map said idns) ≡ fold (λ (n : ℕ) (i : Idn). n + f i) a idns
sum_mapped len said f same a [] = refl
sum_mapped len said f same a (i ∷ idns) =
    ap (λ x. fold (λ (n : ℕ) (word : ℕ). n + len word) (a + x) (map said idns)) (same i) ∙ sum_mapped len said f same (a + f i) idns

lens_same : (d : DriveView) → HaveFactors d → (a : ℕ) (idns : List Idn)
    → fold (λ (n : ℕ) (word : ℕ). n + len_or_none word) a (map (λ (i : Idn). long_in (attribute_bytes d i.raw)) idns) ≡ fold (λ (n : ℕ) (i : Idn). n + value_len d.blocks i.raw) a idns
lens_same d small a idns = sum_mapped len_or_none (λ i. long_in (attribute_bytes d i.raw)) (λ i. value_len d.blocks i.raw) (λ i. ap (λ (o : Option ℕ). unwrap_or o 0) (len_read d i.raw small)) a idns

-- what the master asks of the plan for a drive
pub wish_by_answers : (d : DriveView) (outcomes : List Outcome) → KeepsRules d → HaveFactors d → AreAnswers d (reads (member_of d)) outcomes → wish_given (member_of d) outcomes ≡ wish_of d
unfolding listed_len
wish_by_answers d (a ∷ b ∷ c ∷ e ∷ f ∷ g ∷ outcomes) rules factors h =
    let small = rules.times in
    let words = read_words d (d.at ++ d.mdt) outcomes rules.blocks h.1.1.1.1.1.1 in
    let said : Idn → ℕ = λ i. long_in (attribute_bytes d i.raw) in
    let all : words_given outcomes ≡ map said d.at ++ (map said d.mdt ++ words.rest) = words.are ∙ ap (λ xs. xs ++ words.rest) (map-append said d.at d.mdt) ∙ append_assoc (map said d.at) (map said d.mdt) words.rest in
    let at_words : take (length d.at) (words_given outcomes) ≡ map said d.at = rw all (take_mapped said d.at (map said d.mdt ++ words.rest)) in
    let mdt_words : take (length d.mdt) (drop (length d.at) (words_given outcomes)) ≡ map said d.mdt = rw (all, drop_mapped said d.at (map said d.mdt ++ words.rest)) (take_mapped said d.mdt words.rest) in
    rw (
      time_answer d _ d.times.t1min a (λ blocks is. (declares_times d blocks rules.blocks is).t1min) (omega (arith, small.t1min)) h.0,
      time_answer d _ d.times.tatmt b (λ blocks is. (declares_times d blocks rules.blocks is).tatmt) (omega (arith, small.tatmt)) h.1.0,
      time_answer d _ d.times.t4min c (λ blocks is. (declares_times d blocks rules.blocks is).t4min) (omega (arith, small.t4min)) h.1.1.0,
      time_answer d _ d.times.tatat e (λ blocks is. (declares_times d blocks rules.blocks is).tatat) (omega (arith, small.tatat)) h.1.1.1.0,
      time_answer d _ d.times.tmtsy f (λ blocks is. (declares_times d blocks rules.blocks is).tmtsy)
          (omega (arith, small.tmtsy)) h.1.1.1.1.0,
      time_answer d _ d.times.tmtsg g (λ blocks is. (declares_times d blocks rules.blocks is).tmtsg)
          (omega (arith, small.tmtsg)) h.1.1.1.1.1.0,
      drop_six (length d.at) _ _ _ _ _ _ (words_given outcomes),
      at_words,
      mdt_words,
      lens_same d factors 0 d.at,
      lens_same d factors 0 d.mdt,
    ) refl
wish_by_answers d [] rules factors h = absurd h
wish_by_answers d (a ∷ []) rules factors h = absurd h.1
wish_by_answers d (a ∷ b ∷ []) rules factors h = absurd h.1.1
wish_by_answers d (a ∷ b ∷ c ∷ []) rules factors h = absurd h.1.1.1
wish_by_answers d (a ∷ b ∷ c ∷ e ∷ []) rules factors h = absurd h.1.1.1.1
wish_by_answers d (a ∷ b ∷ c ∷ e ∷ f ∷ []) rules factors h = absurd h.1.1.1.1.1

-- for all drives
wishes_by : (drives : List DriveView) (k : ℕ) (outcomes : ℕ → List Outcome)
    → ((i : ℕ) (d : DriveView) → slice_get drives i ≡ Some d → wish_given (member_of d) (outcomes (k + i)) ≡ wish_of d)
    → wishes_from (map member_of drives) k outcomes ≡ map wish_of drives
wishes_by [] k outcomes same = refl
wishes_by (d ∷ drives) k outcomes same =
    let zero_more : k + 0 ≡ k = omega arith in
    let rest = wishes_by drives (k + 1) outcomes (λ i e at. (let next : k + suc i ≡ k + 1 + i = omega arith in rw next at (same (suc i) e at))) in
    rw (rw zero_more at (same 0 d refl), rest) refl

pub asks_as_ring : AsksAsRing
unfolding wishes_of
asks_as_ring r outcomes ok answered =
    rw (wishes_by r.drives 0 outcomes (λ i d at. (let same : 0 + i ≡ i = omega arith in let h = answered i d at in
    rw same (wish_by_answers d (outcomes i) (ring_drive r i d ok at) h.0 h.1)))) refl

pub says_length : SaysLength
says_length d i o none small h = ap (λ (bytes : List ℕ). len_said (long_in bytes)) (attribute_answer d i o none h) ∙ len_read d i.raw small

factors_of : (blocks : List Block) → list_all is_typed blocks ≡ true → All (λ (b : Block). b.attribute.factor < 65536) blocks
unfolding is_typed
factors_of [] typed = All-nil (λ (b : Block). b.attribute.factor < 65536)
factors_of (b ∷ blocks) typed =
    let (here, rest) = and_parts (is_typed b) (list_all is_typed blocks) typed in
    let (_, after_number) = and_parts (nat_lt b.idn.raw (2 ^ 16)) _ here in
    let (factor, _) = and_parts (nat_lt b.attribute.factor (2 ^ 16)) _ after_number in
    All-cons (λ (b : Block). b.attribute.factor < 65536) b blocks (ltb-true b.attribute.factor 65536 factor) (factors_of blocks rest)

pub typed_have_factors : TypedHaveFactors
typed_have_factors d typed = factors_of d.blocks typed

-- a configured number has a length
listed_cyclic : (blocks : List Block) (raw : ℕ) (idns : List Idn) → are_cyclic blocks idns ≡ true → list_any (λ (j : Idn). j.raw == raw) idns ≡ true → is_some (cyclic_len blocks raw) ≡ true
unfolding are_cyclic
listed_cyclic blocks raw [] all listed = cc
listed_cyclic blocks raw (j ∷ idns) all listed =
    let (here, rest) = and_parts (is_some (cyclic_len blocks j.raw)) _ all in
    elim (or_cases (j.raw == raw) (list_any (λ (j : Idn). j.raw == raw) idns) listed) [
      | inl same ↦ ap (λ n. is_some (cyclic_len blocks n)) (sym (eqb-true j.raw raw same)) ∙ here
      | inr more ↦ listed_cyclic blocks raw idns rest more
    ]

either_listed : (d : DriveView) (raw : ℕ) → KeepsRules d → list_any (λ (j : Idn). j.raw == raw) (d.at ++ d.mdt) ≡ true → is_some (cyclic_len d.blocks raw) ≡ true
either_listed d raw rules listed =
    elim (or_cases (list_any (λ (j : Idn). j.raw == raw) d.at) (list_any (λ (j : Idn). j.raw == raw) d.mdt) (sym (list_any-append (λ (j : Idn). j.raw == raw) d.at d.mdt) ∙ listed)) [
      | inl at ↦ listed_cyclic d.blocks raw d.at rules.at at
      | inr mdt ↦ listed_cyclic d.blocks raw d.mdt rules.mdt mdt
    ]

no_stop : (address : ℕ) (i : Idn) (word : ℕ) (len : Option ℕ) → len_said word ≡ len → is_some len ≡ true → attribute_stop address i word ≡ None
no_stop address i word None e some = cc
no_stop address i word (Some n) e some = rw e refl

pub no_attribute_stops : NoAttributeStops
no_attribute_stops r k d address i o ok at small listed answer =
    let rules = ring_drive r k d ok at in
    no_stop address i (long_in (bytes_of o)) (cyclic_len d.blocks i.raw) (says_length d i o rules.blocks small answer) (either_listed d i.raw rules listed)
