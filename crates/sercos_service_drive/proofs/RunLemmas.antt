-- The run that a step goes on, from what is kept of the steps before it.
use Rattle.std.proofs.Common.{◌≡◌, ℕ, ◌+◌, ◌≤◌, ◌<◌, ◌==◌, nat_le, Bool, true, false, cond, not, ◌&&◌, ◌||◌, List, [], ◌∷◌, length, min, Some, refl, sym, ◌∙◌, arith}
use Rattle.std.specs.Prelude.{slice_index}
use Rattle.std.proofs.lemmas.List.{get_or_past}
use Rattle.std.proofs.lemmas.Bool.{and_parts}
use Rattle.std.proofs.lemmas.Bool.Decides.{nat_tests}
use mathlib.Core.Bool.{beq}
use Rattle.sercos_service_drive.specs.Log.{Processed, Entry, opens, run_before}
use Rattle.sercos_service_drive.specs.Kept.{run_of, place_of, selection_in, continued, place_in, HoldsRun}

pub same_bits : (a b : Bool) → beq a b ≡ true → a ≡ b
same_bits true true h = refl
same_bits false false h = refl
same_bits true false h = cc
same_bits false true h = cc

-- The tests' values as variables: the step has the bit and element of the run, which the last word or an error ends, or an
-- opening or a step of element 0.
by_tests : (bit element last error closes : Bool) (x y : List Processed) (go : List Processed → List Processed)
    → ((bit && element) ≡ true → closes ≡ false) → ((bit && element) ≡ true → x ≡ y) → go [] ≡ [] → go y ≡ cond (bit && element) y []
    → cond (bit && (element && (not last && not error))) x [] ≡ go (cond (closes || (last || error)) [] y)
by_tests true true last error true x y go free same none all = let f : true ≡ false = free refl in cc
by_tests true true true error false x y go free same none all = sym none
by_tests true true false true false x y go free same none all = sym none
by_tests true true false false false x y go free same none all = same refl ∙ sym all
by_tests true false last error true x y go free same none all = sym none
by_tests true false true error false x y go free same none all = sym none
by_tests true false false true false x y go free same none all = sym none
by_tests true false false false false x y go free same none all = sym all
by_tests false element last error true x y go free same none all = sym none
by_tests false element true error false x y go free same none all = sym none
by_tests false element false true false x y go free same none all = sym none
by_tests false element false false false x y go free same none all = sym all

-- a step of operation data or of another element that is no opening goes on the run that is kept
pub run_before-run_of : (write : Bool) (element : ℕ) (log : List Entry) → (write && (element == 1)) ≡ false → (element == 0) ≡ false
    → run_before write element log ≡ continued write element (run_of log)
run_before-run_of write element [] opens_none closes_none = refl
run_before-run_of write element (e ∷ log) opens_none closes_none =
    by_tests (beq e.processed.step.write write) (e.processed.step.element == element) e.processed.step.last e.answer.error (opens e.processed.step || (e.processed.step.element == 0))
    (e.processed ∷ run_before write element log) (e.processed ∷ run_before e.processed.step.write e.processed.step.element log) (continued write element)
    (λ same. rw (bit same, number same, opens_none, closes_none) refl) (λ same. rw (bit same, number same) refl) refl refl
  where
    bit : (beq e.processed.step.write write && (e.processed.step.element == element)) ≡ true → e.processed.step.write ≡ write
    bit same = let (b, _) = and_parts (beq e.processed.step.write write) (e.processed.step.element == element) same in same_bits _ _ b

    number : (beq e.processed.step.write write && (e.processed.step.element == element)) ≡ true → e.processed.step.element ≡ element
    number same = let (_, n) = and_parts (beq e.processed.step.write write) (e.processed.step.element == element) same in grind (arith, nat_tests)

-- how many steps it has
pub place_is : (write : Bool) (element : ℕ) (run : List Processed) → place_in (selection_in run) write element ≡ place_of (continued write element run)
place_is write element [] = refl
place_is write element (t ∷ run) = by (beq t.step.write write && (t.step.element == element))
  where
    by : (same : Bool) → cond same (place_of (t ∷ run)) 0 ≡ place_of (cond same (t ∷ run) [])
    by true = refl
    by false = refl

-- what is kept of a run is kept of the part that a step goes on
pub holds_continued : (write : Bool) (element raw : ℕ) (run : List Processed) (buffer : List ℕ) → HoldsRun (Some raw) run buffer → HoldsRun (Some raw) (continued write element run) buffer
holds_continued write element raw [] buffer holds = tt
holds_continued write element raw (t ∷ run) buffer holds = by (beq t.step.write write && (t.step.element == element))
  where
    by : (same : Bool) → HoldsRun (Some raw) (cond same (t ∷ run) []) buffer
    by true = holds
    by false = tt

-- and it has the bit and the element
pub continued_bit : (write : Bool) (element : ℕ) (run : List Processed) (t : Processed) (rest : List Processed) → continued write element run ≡ t ∷ rest → t.step.write ≡ write
continued_bit write element [] t rest is = cc
continued_bit write element (s ∷ run) t rest is = by (beq s.step.write write) (s.step.element == element) refl is
  where
    by : (bit number : Bool) → beq s.step.write write ≡ bit → cond (bit && number) (s ∷ run) [] ≡ t ∷ rest → t.step.write ≡ write
    by true true b e = let same : s ≡ t = cc in rw (← same) (same_bits _ _ b)
    by true false b e = cc
    by false number b e = cc

-- the place of a run of which no more than a word can count
pub place_none : (run : List Processed) → place_of run ≡ 0 → run ≡ []
place_none [] h = refl
place_none (t ∷ run) h = absurd (omega arith)

pub place_some : (t : Processed) (run : List Processed) → (place_of (t ∷ run) == 0) ≡ false
place_some t run = by (length (t ∷ run)) (omega arith)
  where
    by : (n : ℕ) → 0 < n → (min n 65535 == 0) ≡ false
    by n h = grind (arith, nat_tests)

pub place_more : (t : Processed) (run : List Processed) (place : ℕ) → place ≡ place_of run → min (place + 1) 65535 ≡ place_of (t ∷ run)
place_more t run place h = omega arith

-- a word after the copy is 0, at whichever place
pub word_within : (words : List ℕ) (count : ℕ) → length words ≤ 65535 → slice_index words (min count 65535) ≡ slice_index words count
word_within words count few = by (nat_le count 65535) refl
  where
    by : (short : Bool) → nat_le count 65535 ≡ short → slice_index words (min count 65535) ≡ slice_index words count
    by true e = let same : min count 65535 ≡ count = grind (arith, nat_tests) in rw same refl
    by false e =
        let over : 65535 ≤ count = grind (arith, nat_tests) in
        let most : min count 65535 ≡ 65535 = omega arith in
        let low : slice_index words 65535 ≡ 0 = get_or_past words 65535 0 few in
        let high : slice_index words count ≡ 0 = get_or_past words count 0 (omega arith) in
        rw (most, low, high) refl
