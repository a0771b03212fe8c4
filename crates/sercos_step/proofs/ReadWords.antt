-- One more word of an element that is read.
use Rattle.std.proofs.Common.{◌≡◌, ℕ, zero, suc, ◌-◌, ◌%◌, ◌/◌, ◌<◌, ◌≤◌, true, false, List, [], ◌∷◌, ◌++◌, length, refl, ap, sym, ◌∙◌, arith, min, if◌then◌else◌, length-append}
use Rattle.std.specs.Prelude.{Some, slice_get, slice_index, nat_le, take, ◌==◌}
use Rattle.std.proofs.lemmas.Bool.Decides.{nat_tests}
use Rattle.std.proofs.lemmas.List.{length-take}
use Rattle.sercos_step.specs.declared.shape.Shape.{Shape}
use Rattle.sercos_step.specs.declared.shape.Shape.TheVariants as shape
use Rattle.sercos_step.specs.Words.{words_in, words_in_list, bytes_in, bytes_read}
use Rattle.sercos_step.specs.Steps.{a_step, reading}
use Rattle.sercos_step.specs.Kept.{is_last_read, most_kept, kept_with, IsAfterWord}
use Rattle.sercos_step.proofs.Flags.{last_by-behind}
use Rattle.sercos_step.proofs.Runs.{length-run, zeros, length-zeros, zeros_at}

pub length-reading : (s : Shape) (e first : ℕ) (words : List ℕ) → length (reading s e (first ∷ words)) ≡ words_in s first
length-reading shape.One e first words = refl
length-reading shape.Two e first words = refl
length-reading shape.List e first words = unfold zeros in rw (length-run false e (zeros (words_in_list first)), length-zeros) refl

pub few_read : (s : Shape) (e : ℕ) (words : List ℕ) → length (reading s e words) ≤ 514
few_read shape.One e words = omega arith
few_read shape.Two e words = omega arith
few_read shape.List e [] = omega arith
few_read shape.List e (first ∷ words) = rw (length-reading shape.List e first words) (omega arith)

pub reading_at : (s : Shape) (e place first : ℕ) (words : List ℕ) → place ≡ length words → first ≡ slice_index words 0 → length words < length (reading s e words) →
    Some (a_step false (is_last_read s place first) e 0) ≡ slice_get (reading s e words) (length words)
reading_at shape.One e place first [] p f h = refl
reading_at shape.One e place first (x ∷ words) p f h = absurd (omega arith)
reading_at shape.Two e place first [] p f h = rw p refl
reading_at shape.Two e place first (x ∷ []) p f h = rw p refl
reading_at shape.Two e place first (x ∷ y ∷ words) p f h = absurd (omega arith)
reading_at shape.List e place first [] p f h = rw p refl
reading_at shape.List e place first (x ∷ words) p f h = unfold zeros in
    let n : ℕ = words_in_list x in
    let below : suc (length words) < n = rw (length-run, length-zeros) at h in
    let z = zeros_at e n (suc (length words)) below in
    rw (p, f, last_by-behind n (suc (length words)) (omega arith)) (sym z)

take-take_append : (n : ℕ) (xs ys : List ℕ) → take n (take n xs ++ ys) ≡ take n (xs ++ ys)
take-take_append zero xs ys = refl
take-take_append (suc n) [] ys = refl
take-take_append (suc n) (x ∷ xs) ys = ap (λ (l : List ℕ). x ∷ l) (take-take_append n xs ys)

take_nil : (n : ℕ) → [] ≡ take {A = ℕ} n []
take_nil zero = refl
take_nil (suc n) = refl

pub bytes_in-append : (words : List ℕ) (w : ℕ) → bytes_in (words ++ w ∷ []) ≡ bytes_in words ++ (w % 256) ∷ (w / 256) ∷ []
bytes_in-append [] w = refl
bytes_in-append (x ∷ words) w = ap (λ (l : List ℕ). (x % 256) ∷ (x / 256) ∷ l) (bytes_in-append words w)

kept_fits : (s : Shape) (e word : ℕ) (words : List ℕ) → length words < length (reading s e words) → length (bytes_read s words) ≤ most_kept s (slice_index (words ++ word ∷ []) 0)
kept_fits shape.One e word [] h = omega arith
kept_fits shape.One e word (x ∷ words) h = absurd (omega arith)
kept_fits shape.Two e word [] h = omega arith
kept_fits shape.Two e word (x ∷ []) h = omega arith
kept_fits shape.Two e word (x ∷ y ∷ words) h = absurd (omega arith)
kept_fits shape.List e word [] h = omega arith
kept_fits shape.List e word (x ∷ []) h = omega arith
kept_fits shape.List e word (x ∷ y ∷ words) h = grind (arith, length-take)

module _ (e place word : ℕ) where
  kept_after : (s : Shape) (words : List ℕ) → place ≡ length words → length words < length (reading s e words) →
      kept_with s place (slice_index (words ++ word ∷ []) 0) word (bytes_read s words) ≡ bytes_read s (words ++ word ∷ [])
  kept_after shape.One [] p h = refl
  kept_after shape.One (x ∷ words) p h = absurd (omega arith)
  kept_after shape.Two [] p h = refl
  kept_after shape.Two (x ∷ []) p h = refl
  kept_after shape.Two (x ∷ y ∷ words) p h = absurd (omega arith)
  kept_after shape.List [] p h = rw p refl
  kept_after shape.List (x ∷ []) p h = rw p (take_nil (min x 1024))
  kept_after shape.List (x ∷ y ∷ words) p h =
      let two : nat_le 2 place ≡ true = grind (arith, nat_tests) in
      rw (two, take-take_append) (ap (take (min x 1024)) (sym (bytes_in-append words word)))

  pub first_after : (words : List ℕ) → place ≡ length words → (if place == 0 then word else slice_index words 0) ≡ slice_index (words ++ word ∷ []) 0
  first_after [] p = rw p refl
  first_after (x ∷ words) p = let no : (place == 0) ≡ false = grind (arith, nat_tests) in rw no refl

  whole_after : (s : Shape) (words : List ℕ) → place ≡ length words →
      nat_le (words_in s (slice_index (words ++ word ∷ []) 0) - 1) place ≡ nat_le (length (reading s e (words ++ word ∷ []))) (length (words ++ word ∷ []))
  whole_after s [] p = rw (length-reading s e word [], p) (grind (arith, nat_tests))
  whole_after s (x ∷ words) p = rw (length-reading s e x (words ++ word ∷ []), length-append, p) (grind (arith, nat_tests))

  pub after_word : (s : Shape) (words : List ℕ) (first : ℕ) (bytes now : List ℕ) → place ≡ length words → first ≡ slice_index (words ++ word ∷ []) 0 → bytes ≡ bytes_read s words → length words < length (reading s e words) →
      (length bytes ≤ most_kept s first → now ≡ kept_with s place first word bytes) →
      IsAfterWord s e (words ++ word ∷ []) first now (nat_le (words_in s first - 1) place)
  after_word s words first bytes now p f b h kept = record {
    first_is = f;
    bytes_is = (let fits : length bytes ≤ most_kept s first = rw (b, f) (kept_fits s e word words h) in kept fits) ∙ rw (b, f) (kept_after s words p h);
    whole_is = rw f (whole_after s words p);
  }

pub some_read : (s : Shape) (e : ℕ) → 0 < length (reading s e [])
some_read shape.One e = omega arith
some_read shape.Two e = omega arith
some_read shape.List e = omega arith

pub none_kept : (s : Shape) → bytes_read s [] ≡ []
none_kept shape.One = refl
none_kept shape.Two = refl
none_kept shape.List = refl
