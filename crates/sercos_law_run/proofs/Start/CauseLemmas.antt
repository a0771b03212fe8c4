-- Which words of the master's writes in phase 2 are refused.
use Rattle.sercos_law_run.proofs.Words.{◌≡◌, inl, inr, ℕ, suc, ◌+◌, ◌*◌, ◌<◌, ◌≤◌, ◌/◌, ◌%◌, ◌==◌, nat_lt, nat_le, Bool, true, false, not, ◌&&◌, ◌||◌, List, [], ◌∷◌, length, Option, Some, None, option_map, refl, sym, ◌∙◌, ap, arith, then_some, option_or, le-ltb, lt-leb, eq-eqb, eqb-true, eqb-false, Block, blocks_fault, find_block, store_of, DriveView, write_cause_in, kept, IsStoreOf, CausesAlike, CycleCause, NumberHasNoCause, ListHasNoCause, attribute_of, built_in, bytes_written, write_cause, cases_Bool}
use Rattle.std.proofs.lemmas.Bool.{and_right}
use Rattle.sercos_law_run.proofs.Start.BlockFinds.{find_store_of, kept_field, same_kept}
use Rattle.sercos_law_run.proofs.Start.LimitLemmas.{or_first, in_order}

cause_kept : (o : Option Block) (phase : ℕ) (last : Bool) (words : List ℕ) → write_cause_in (option_map kept o) phase last words ≡ write_cause_in o phase last words
unfolding write_cause bytes_written
cause_kept None phase last words = refl
cause_kept (Some b) phase last words = kept_field (λ b. write_cause b phase last words) (λ b. refl) b

pub causes_alike : CausesAlike
causes_alike d blocks is raw phase last words =
    sym (cause_kept (find_block raw blocks) phase last words) ∙ ap (λ (o : Option Block). write_cause_in o phase last words) (same_kept raw d blocks is) ∙ cause_kept (find_block raw (store_of d)) phase last words

-- a write to a built-in block is refused as at opening
cause_as : (d : DriveView) (blocks : List Block) (raw : ℕ) (c : Block) (last : Bool) (words : List ℕ) → blocks_fault [] d.blocks ≡ None → IsStoreOf d blocks → find_block raw (built_in d) ≡ Some c
    → write_cause_in (find_block raw blocks) 2 last words ≡ write_cause c 2 last words
cause_as d blocks raw c last words none is there =
    causes_alike d blocks is raw 2 last words ∙ ap (λ (o : Option Block). write_cause_in o 2 last words) (find_store_of raw d none ∙ or_first _ _ c there)

pub cycle_cause : CycleCause
unfolding built_in write_cause bytes_written attribute_of
cycle_cause d blocks cycle none is small =
    let back : cycle % 256 + cycle / 256 * 256 ≡ cycle = omega arith in
    cause_as d blocks 2 _ true (cycle ∷ []) none is refl ∙ rw back (in_order (nat_lt cycle d.cycle_min) (nat_lt d.cycle_max cycle) 0x7006 0x7007)

number_cause : (d : DriveView) (blocks : List Block) (raw word : ℕ) (c : Block) → blocks_fault [] d.blocks ≡ None → IsStoreOf d blocks → find_block raw (built_in d) ≡ Some c
    → write_cause c 2 true (word ∷ []) ≡ None → write_cause_in (find_block raw blocks) 2 true (word ∷ []) ≡ None
number_cause d blocks raw word c none is there free = cause_as d blocks raw c true (word ∷ []) none is there ∙ free

pub number_has_no_cause : NumberHasNoCause
unfolding built_in write_cause bytes_written attribute_of
number_has_no_cause d blocks raw word none is start = at (1 == raw) refl (6 == raw) refl (7 == raw) refl (8 == raw) refl (9 == raw) refl (10 == raw) refl (15 == raw) refl (89 == raw) refl start
  where
    at_number : (n : ℕ) → (n == raw) ≡ true → write_cause_in (find_block n blocks) 2 true (word ∷ []) ≡ None → write_cause_in (find_block raw blocks) 2 true (word ∷ []) ≡ None
    at_number n e free = let same : n ≡ raw = eqb-true n raw e in rw same at free

    at : (a : Bool) → (1 == raw) ≡ a → (b : Bool) → (6 == raw) ≡ b → (c : Bool) → (7 == raw) ≡ c → (e : Bool) → (8 == raw) ≡ e → (f : Bool) → (9 == raw) ≡ f → (g : Bool) → (10 == raw) ≡ g
        → (h : Bool) → (15 == raw) ≡ h → (i : Bool) → (89 == raw) ≡ i → (a || (b || (c || (e || (f || (g || (h || (i || false)))))))) ≡ true
        → write_cause_in (find_block raw blocks) 2 true (word ∷ []) ≡ None
    at true ea b eb c ec e ee f ef g eg h eh i ei start = at_number 1 ea (number_cause d blocks 1 word _ none is refl refl)
    at false ea true eb c ec e ee f ef g eg h eh i ei start = at_number 6 eb (number_cause d blocks 6 word _ none is refl refl)
    at false ea false eb true ec e ee f ef g eg h eh i ei start = at_number 7 ec (number_cause d blocks 7 word _ none is refl refl)
    at false ea false eb false ec true ee f ef g eg h eh i ei start = at_number 8 ee (number_cause d blocks 8 word _ none is refl refl)
    at false ea false eb false ec false ee true ef g eg h eh i ei start = at_number 9 ef (number_cause d blocks 9 word _ none is refl refl)
    at false ea false eb false ec false ee false ef true eg h eh i ei start = at_number 10 eg (number_cause d blocks 10 word _ none is refl refl)
    at false ea false eb false ec false ee false ef false eg true eh i ei start = at_number 15 eh (number_cause d blocks 15 word _ none is refl refl)
    at false ea false eb false ec false ee false ef false eg false eh true ei start = at_number 89 ei (number_cause d blocks 89 word _ none is refl refl)
    at false ea false eb false ec false ee false ef false eg false eh false ei start = cc

-- none of the tests refuses a word of a list
no_cause : (a c d e f g : Bool) → a ≡ false → c ≡ false → d ≡ false → e ≡ false → f ≡ false → g ≡ false
    → option_or {T = ℕ} (then_some a 0x7004) (option_or (then_some c 0x7002) (option_or (then_some d 0x7003) (option_or (then_some e 0x7008) (option_or (then_some f 0x7006) (then_some g 0x7007))))) ≡ None
no_cause a c d e f g ea ec ed ee ef eg = rw (ea, ec, ed, ee, ef, eg) refl

early : (n m : ℕ) → ((n == 1 + m) && nat_lt (suc n) (2 + (2 * m + 1) / 2)) ≡ false
early n m = elim (cases_Bool (n == 1 + m)) [
  | inl e ↦ rw e (let same : n ≡ 1 + m = eqb-true n (1 + m) e in le-ltb (suc n) (2 + (2 * m + 1) / 2) (omega arith))
  | inr e ↦ rw e
]

over : (n m : ℕ) → n < 2 + m → m ≤ 16 → (((suc n == 1) && nat_lt 32 (2 * m)) || (not (n == 1 + m) && nat_le (2 + (2 * m + 1) / 2) (suc n))) ≡ false
over n m less small =
    rw (le-ltb 32 (2 * m) (omega arith), and_right (suc n == 1) false refl) (elim (cases_Bool (n == 1 + m)) [
      | inl e ↦ rw e
      | inr e ↦ rw e (lt-leb (2 + (2 * m + 1) / 2) (suc n) (omega (arith, eqb-false n (1 + m) e)))
    ])

even : (n m : ℕ) → (((suc n == 1) && not (2 * m % 2 == 0)) || false) ≡ false
even n m = let whole : (2 * m % 2 == 0) ≡ true = eq-eqb (2 * m % 2) 0 (omega arith) in rw (whole, and_right (suc n == 1) false refl) refl

list_free : (m : ℕ) (words : List ℕ) → m ≤ 16 → length words < 2 + m
    → option_or {T = ℕ} (then_some ((suc (length words) == 1) && false) 0x7004) (option_or (then_some ((length words == 1 + m) && nat_lt (suc (length words)) (2 + (2 * m + 1) / 2)) 0x7002)
    (option_or (then_some (((suc (length words) == 1) && nat_lt 32 (2 * m)) || (not (length words == 1 + m) && nat_le (2 + (2 * m + 1) / 2) (suc (length words)))) 0x7003)
    (option_or (then_some (((suc (length words) == 1) && not (2 * m % 2 == 0)) || false) 0x7008)
    (option_or (then_some ((length words == 1 + m) && false) 0x7006) (then_some ((length words == 1 + m) && false) 0x7007))))) ≡ None
list_free m words small less =
    no_cause _ _ _ _ _ _ (and_right (suc (length words) == 1) false refl) (early (length words) m) (over (length words) m less small) (even (length words) m) (and_right (length words == 1 + m) false refl) (and_right (length words == 1 + m) false refl)

pub list_has_no_cause : ListHasNoCause
unfolding built_in write_cause bytes_written attribute_of
list_has_no_cause d blocks raw m n words none is (inl at) small count less =
    let same : raw ≡ 16 = eqb-true raw 16 at in
    rw (same, ← count) (cause_as d blocks 16 _ (length words == 1 + m) (2 * m ∷ words) none is refl ∙ list_free m words small (omega arith))
list_has_no_cause d blocks raw m n words none is (inr at) small count less =
    let same : raw ≡ 24 = eqb-true raw 24 at in
    rw (same, ← count) (cause_as d blocks 24 _ (length words == 1 + m) (2 * m ∷ words) none is refl ∙ list_free m words small (omega arith))
