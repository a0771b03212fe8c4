-- The steps that read an element's words, and the words that they answer.
use Rattle.sercos_law_channel.proofs.Words.{◌≡◌, ℕ, zero, suc, ◌≤◌, Bool, true, false, List, [], ◌∷◌, ◌++◌, length, drop, replicate, refl, ap, ap₂, sym, ◌∙◌, arith, length-append, nat_le, Some, slice_get, slice_index, nat_tests, Step, Shape, words_in, words_in_list, a_step, run, reading, length-run, slice_get_within, length-replicate, leb-true}
use Rattle.sercos_step.specs.declared.shape.Shape.TheVariants as shape

-- the first words of a list, filled up with zeros
abbrev pub row : ℕ → List ℕ → List ℕ
row zero words = []
row (suc n) words = slice_index words 0 ∷ row n (drop 1 words)

index_behind : (words : List ℕ) (n : ℕ) → slice_index words (suc n) ≡ slice_index (drop 1 words) n
index_behind [] n = refl
index_behind (word ∷ words) n = refl

pub row-more : (n : ℕ) (words : List ℕ) → row n words ++ slice_index words n ∷ [] ≡ row (suc n) words
row-more zero words = refl
row-more (suc n) words =
    ap (λ (x : ℕ). slice_index words 0 ∷ (row n (drop 1 words) ++ x ∷ [])) (index_behind words n) ∙ ap (λ (l : List ℕ). slice_index words 0 ∷ l) (row-more n (drop 1 words))

pub row-all : (words : List ℕ) → row (length words) words ≡ words
row-all [] = refl
row-all (word ∷ words) = ap (λ (l : List ℕ). word ∷ l) (row-all words)

pub some_same : {A : Type 0} (x y : A) → Some x ≡ Some y → y ≡ x
some_same x y is = cc

pub both_more : (n k : ℕ) → nat_le n k ≡ nat_le (suc n) (suc k)
both_more n k = grind (arith, nat_tests)

-- the steps of a run of reads are alike, but for the last
run_zeros : (e n k : ℕ) (s : Step) → slice_get (run false e (replicate n 0)) k ≡ Some s → s ≡ a_step false (nat_le n (suc k)) e 0
run_zeros e zero k s got = absurd (cc)
run_zeros e (suc zero) zero s got = some_same (a_step false true e 0) s got
run_zeros e (suc zero) (suc k) s got = absurd (cc)
run_zeros e (suc (suc n)) zero s got = some_same (a_step false false e 0) s got
    ∙ ap (λ (v : Bool). a_step false v e 0) (sym (grind (arith, nat_tests)))
run_zeros e (suc (suc n)) (suc k) s got = run_zeros e (suc n) k s got ∙ ap (λ (v : Bool). a_step false v e 0) (both_more (suc n) (suc k))

length-run_zeros : (e n : ℕ) → length (run false e (replicate n 0)) ≡ n
length-run_zeros e n = length-run false e (replicate n 0) ∙ length-replicate n 0

next_zeros : (e n : ℕ) (own : List ℕ) (s : Step) (x : ℕ) → slice_get (run false e (replicate n 0)) (length own) ≡ Some s →
    s ≡ a_step false (nat_le (length (run false e (replicate n 0))) (length (own ++ x ∷ []))) e 0
next_zeros e n own s x got =
    let longer : suc (length own) ≡ length (own ++ x ∷ []) = omega (arith, length-append own (x ∷ [])) in
    run_zeros e n (length own) s got ∙ ap₂ (λ (m k : ℕ). a_step false (nat_le m k) e 0) (sym (length-run_zeros e n)) longer

list_first : (e x : ℕ) → nat_le (length (run false e (replicate (words_in_list x) 0))) 1 ≡ false
list_first e x = ap (λ (n : ℕ). nat_le n 1) (length-run_zeros e (words_in_list x)) ∙ (grind (arith, nat_tests))

-- the next step of a read, which is marked as the last where the words are whole with its answer
pub reading_next : (s : Shape) (e : ℕ) (own : List ℕ) (step : Step) (x : ℕ) → slice_get (reading s e own) (length own) ≡ Some step →
    step ≡ a_step false (nat_le (length (reading s e (own ++ x ∷ []))) (length (own ++ x ∷ []))) e 0
reading_next shape.One e own step x got = next_zeros e 1 own step x got
reading_next shape.Two e own step x got = next_zeros e 2 own step x got
reading_next shape.List e [] step x got = some_same (a_step false false e 0) step got ∙ ap (λ (v : Bool). a_step false v e 0) (sym (list_first e x))
reading_next shape.List e (actual ∷ own) step x got = next_zeros e (words_in_list actual) (actual ∷ own) step x got

full_zeros : (e n : ℕ) (own : List ℕ) (s : Step) (x : ℕ) → slice_get (run false e (replicate n 0)) (length own) ≡ Some s →
    nat_le (length (run false e (replicate n 0))) (length (own ++ x ∷ [])) ≡ true → length (own ++ x ∷ []) ≡ n
full_zeros e n own s x got whole =
    let less = slice_get_within (run false e (replicate n 0)) (length own) s got in
    let long = length-run_zeros e n in
    let most = leb-true (length (run false e (replicate n 0))) (length (own ++ x ∷ [])) whole in
    omega (arith, length-append own (x ∷ []))

-- where they are whole, they are as many as the first of them says
pub reading_full : (s : Shape) (e : ℕ) (own : List ℕ) (step : Step) (x : ℕ) → slice_get (reading s e own) (length own) ≡ Some step →
    nat_le (length (reading s e (own ++ x ∷ []))) (length (own ++ x ∷ [])) ≡ true → length (own ++ x ∷ []) ≡ words_in s (slice_index (own ++ x ∷ []) 0)
reading_full shape.One e own step x got whole = full_zeros e 1 own step x got whole
reading_full shape.Two e own step x got whole = full_zeros e 2 own step x got whole
reading_full shape.List e [] step x got whole = let off = sym (list_first e x) ∙ whole in absurd (cc)
reading_full shape.List e (actual ∷ own) step x got whole = full_zeros e (words_in_list actual) (actual ∷ own) step x got whole

-- there is always a step
pub some_reading : (s : Shape) (e : ℕ) (own : List ℕ) → 1 ≤ length (reading s e own)
some_reading shape.One e own = omega arith
some_reading shape.Two e own = omega arith
some_reading shape.List e [] = omega arith
some_reading shape.List e (actual ∷ own) = let long = length-run_zeros e (words_in_list actual) in (omega arith)
