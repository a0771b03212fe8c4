-- The next step of a write, and one more answer to it.
use Rattle.std.proofs.Common.{◌≡◌, ℕ, suc, ◌+◌, ◌-◌, ◌*◌, ◌<◌, ◌≤◌, Bool, true, false, List, [], ◌∷◌, ◌++◌, length, refl, sym, ◌∙◌, arith, min, drop, subst, if◌then◌else◌, length-append}
use Rattle.std.specs.Prelude.{Some, slice_get, slice_index, nat_le, ◌==◌, ◌&&◌}
use Rattle.std.proofs.lemmas.Bool.Decides.{nat_tests}
use Rattle.sercos_idn.specs.declared.idn.Idn.{Idn}
use Rattle.sercos_step.specs.declared.step.Step.{Step}
use Rattle.sercos_step.specs.declared.shape.Shape.{Shape}
use Rattle.sercos_step.specs.declared.request.Request.TheVariants as request
use Rattle.sercos_step.specs.Words.{shape_of, words_told}
use Rattle.sercos_step.specs.Steps.{opening, run, writing, attribute_then, steps_of, is_whole}
use Rattle.sercos_step.specs.Kept.{ProgressView, IsAtWrite, with_attribute, ends_write}
use Rattle.sercos_step.proofs.Flags.{less_1, less_3, not_yet_3}
use Rattle.sercos_step.proofs.Runs.{length-run}
use Rattle.sercos_step.proofs.WrittenWords.{few_told, some_told}

short : (e : ℕ) (words rest : List ℕ) → nat_le (suc (length (run true e words))) (suc (length rest)) ≡ false → length rest < length words
short e words rest h = less_1 (length words) (length rest) (rw (length-run true e words) at h)

-- the next step, from the one that the element's own words give
module _ (idn : Idn) (e : ℕ) (bytes : List ℕ) (count : ℕ) (s : Shape) (b : List ℕ) (r : Step) where
  pub other_next : (words : List ℕ) → (e ≡ 7 → ⊥) → s ≡ shape_of e 0 → b ≡ bytes → count ≡ length words → (count ≡ 0 → ⊥) → is_whole (request.Write idn e bytes) words ≡ false →
      (count - 1 < length (words_told s b) → Some r ≡ slice_get (writing s e b) (count - 1)) → Some r ≡ slice_get (steps_of (request.Write idn e bytes) words) (length words)
  other_next [] n li bi c z w f = absurd (z c)
  other_next (opened ∷ rest) n li bi c z w f =
      let seven : (e == 7) ≡ false = grind (arith, nat_tests) in
      let w' = subst (λ x. nat_le (length (opening idn ∷ (if x then attribute_then (λ attribute after. writing (shape_of 7 attribute) 7 bytes) rest else writing (shape_of e 0) e bytes))) (suc (length rest)) ≡ false) seven w in
      let less = short e (words_told (shape_of e 0) bytes) rest w' in
      let place : count - 1 ≡ length rest = omega arith in
      let f' = rw (place, li, bi) at f in
      subst (λ x. Some r ≡ slice_get (opening idn ∷ (if x then attribute_then (λ attribute after. writing (shape_of 7 attribute) 7 bytes) rest else writing (shape_of e 0) e bytes)) (suc (length rest))) (sym seven) (f' less)

  pub seven_next : (words : List ℕ) → e ≡ 7 → s ≡ shape_of 7 (slice_index words 1 + 65536 * slice_index words 2) → b ≡ bytes → count ≡ length words → 3 ≤ count → is_whole (request.Write idn e bytes) words ≡ false →
      (count - 3 < length (words_told s b) → Some r ≡ slice_get (writing s 7 b) (count - 3)) → Some r ≡ slice_get (steps_of (request.Write idn e bytes) words) (length words)
  seven_next [] n li bi c z w f = absurd (omega arith)
  seven_next (opened ∷ []) n li bi c z w f = absurd (omega arith)
  seven_next (opened ∷ low ∷ []) n li bi c z w f = absurd (omega arith)
  seven_next (opened ∷ low ∷ high ∷ rest) n li bi c z w f =
      let w' = rw (n, length-run true 7 (words_told (shape_of 7 (low + 65536 * high)) bytes)) at w in
      let less : length rest < length (words_told (shape_of 7 (low + 65536 * high)) bytes) = less_3 _ _ w' in
      let place : count - 3 ≡ length rest = omega arith in
      let f' = rw (place, li, bi) at f in
      rw n (f' less)

flag_one : (n k : ℕ) → nat_le n k ≡ nat_le (suc n) (k + 1)
flag_one n k = grind (arith, nat_tests)

flag_three : (n k : ℕ) → 3 ≤ k → (nat_le 3 k && nat_le n (k - 2)) ≡ nat_le (suc (suc (suc n))) (k + 1)
flag_three n k h = grind (arith, nat_tests)

module _ (word : ℕ) (p : ProgressView) where
  low_after : (words : List ℕ) → IsAtWrite p words → (if p.count == 1 then word else p.low) ≡ slice_index (words ++ word ∷ []) 1
  low_after [] at = rw at.count_is at.low_is
  low_after (o ∷ []) at = rw at.count_is refl
  low_after (o ∷ a ∷ rest) at = let n : (p.count == 1) ≡ false = grind (arith, nat_tests, at.count_is) in rw n at.low_is

  high_after : (words : List ℕ) → IsAtWrite p words → (if p.count == 2 then word else p.high) ≡ slice_index (words ++ word ∷ []) 2
  high_after [] at = rw at.count_is at.high_is
  high_after (o ∷ []) at = rw at.count_is at.high_is
  high_after (o ∷ a ∷ []) at = rw at.count_is refl
  high_after (o ∷ a ∷ b ∷ rest) at = let n : (p.count == 2) ≡ false = grind (arith, nat_tests, at.count_is) in rw n at.high_is

  at_after : (words : List ℕ) (count : ℕ) → IsAtWrite p words → length words < 600 → count ≡ min (p.count + 1) 65535 →
      IsAtWrite (record (with_attribute p word) { count = count }) (words ++ word ∷ [])
  at_after words count at few c = record {
    count_is = rw length-append (omega (arith, at.count_is, c));
    low_is = low_after words at;
    high_is = high_after words at;
  }

-- with the test of element 7 as a variable, since rewriting by it would also hit the shape of the element
module _ (idn : Idn) (e : ℕ) (bytes : List ℕ) (word : ℕ) (fits : length bytes ≤ 1024) where
  abbrev whole_by : Bool → List ℕ → Bool
  whole_by x words = nat_le (length (opening idn ∷ (if x then attribute_then (λ attribute after. writing (shape_of 7 attribute) 7 bytes) (drop 1 words) else writing (shape_of e 0) e bytes))) (length words)

  abbrev ends_by : Bool → ℕ → ℕ → Bool
  ends_by x attribute count = if x then nat_le 3 count && nat_le (length (words_told (shape_of 7 attribute) bytes)) (count - 2) else nat_le (length (words_told (shape_of e 0) bytes)) count

  room : (x : Bool) (words : List ℕ) → whole_by x words ≡ false → length words < 600
  room x [] w = omega arith
  room true (o ∷ []) w = omega arith
  room true (o ∷ a ∷ []) w = omega arith
  room true (o ∷ a ∷ b ∷ rest) w = let f = few_told (shape_of 7 (a + 65536 * b)) bytes fits in let n = less_3 _ _ (rw (length-run true 7 (words_told (shape_of 7 (a + 65536 * b)) bytes)) at w) in omega (arith, f, n)
  room false (o ∷ rest) w = let f = few_told (shape_of e 0) bytes fits in let n = short e (words_told (shape_of e 0) bytes) rest w in omega (arith, f, n)

  ends : (x : Bool) (words : List ℕ) (low high count : ℕ) → low ≡ slice_index words 1 → high ≡ slice_index words 2 → count ≡ length words →
      ends_by x (low + 65536 * high) count ≡ whole_by x (words ++ word ∷ [])
  ends false [] low high count l h c = rw (c, length-run true e (words_told (shape_of e 0) bytes)) (flag_one _ 0)
  ends false (o ∷ rest) low high count l h c = rw (c, length-run true e (words_told (shape_of e 0) bytes), length-append) (flag_one _ (suc (length rest)))
  ends true [] low high count l h c = rw c refl
  ends true (o ∷ []) low high count l h c = rw c refl
  ends true (o ∷ a ∷ []) low high count l h c =
      let some = some_told (shape_of 7 (a + 65536 * word)) bytes in
      rw (c, length-run true 7 (words_told (shape_of 7 (a + 65536 * word)) bytes)) (not_yet_3 _ some)
  ends true (o ∷ a ∷ b ∷ rest) low high count l h c =
      rw (l, h, c, length-run true 7 (words_told (shape_of 7 (a + 65536 * b)) bytes), length-append) (flag_three _ (suc (suc (suc (length rest)))) (omega arith))

  pub write_more : (p p2 : ProgressView) (count attribute : ℕ) (whole : Bool) (words : List ℕ) → p2 ≡ with_attribute p word → count ≡ min (p.count + 1) 65535 → attribute ≡ p.low + 65536 * p.high → whole ≡ ends_write e attribute bytes p.count →
      IsAtWrite p words → is_whole (request.Write idn e bytes) words ≡ false →
      IsAtWrite (record p2 { count = count }) (words ++ word ∷ []) × (whole ≡ is_whole (request.Write idn e bytes) (words ++ word ∷ []))
  write_more p p2 count attribute whole words q c a w at h =
      let few = room (e == 7) words h in
      let n : whole ≡ is_whole (request.Write idn e bytes) (words ++ word ∷ []) = w ∙ rw a (ends (e == 7) words p.low p.high p.count at.low_is at.high_is at.count_is) in
      (rw q (at_after word p words count at few c), n)
