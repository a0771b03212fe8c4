-- The next step of a read, and one more answer to it.
use Rattle.std.proofs.Common.{◌≡◌, ℕ, ◌+◌, ◌-◌, ◌*◌, ◌<◌, ◌≤◌, Bool, true, false, List, [], ◌∷◌, ◌++◌, length, refl, sym, ◌∙◌, arith, min, inl, inr, length-append}
use Rattle.std.specs.Prelude.{Some, slice_get, slice_index}
use Rattle.std.proofs.Math.Dec.{leb-suc-suc}
use Rattle.sercos_idn.specs.declared.idn.Idn.{Idn}
use Rattle.sercos_step.specs.declared.step.Step.{Step}
use Rattle.sercos_step.specs.declared.shape.Shape.{Shape}
use Rattle.sercos_step.specs.declared.request.Request.TheVariants as request
use Rattle.sercos_step.specs.Words.{shape_of, bytes_read}
use Rattle.sercos_step.specs.Steps.{reading, asks_attribute, steps_before, steps_of, is_whole}
use Rattle.sercos_step.specs.Kept.{ProgressView, IsAtRead, with_attribute, IsAfterWord}
use Rattle.sercos_step.proofs.Flags.{chosen, less_1, less_3, not_yet_1, not_yet_3}
use Rattle.sercos_step.proofs.ReadWords.{few_read, some_read, none_kept}

-- the next step, from the one that the element's own words give
module _ (idn : Idn) (e : ℕ) (p : ProgressView) (s : Shape) (r : Step) (laid : s ≡ shape_of e (p.low + 65536 * p.high)) where
  -- the step is the next of the element's own, after `before` others
  abbrev IsNextBehind : ℕ → Type 0
  IsNextBehind before = (ws : List ℕ) → p.count - before ≡ length ws → p.first ≡ slice_index ws 0 → length ws < length (reading s e ws) → Some r ≡ slice_get (reading s e ws) (length ws)

  flat_next : asks_attribute e ≡ false → (words : List ℕ) → IsAtRead p e words → is_whole (request.Read idn e) words ≡ false → 1 ≤ p.count →
      IsNextBehind 1 →
      Some r ≡ slice_get (steps_of (request.Read idn e) words) (length words)
  flat_next asks [] at w n next = absurd (omega (arith, at.count_is))
  flat_next asks (opened ∷ rest) at w n next =
      let laid0 : s ≡ shape_of e 0 = laid ∙ rw (rw asks at at.low_is, rw asks at at.high_is) refl in
      let less : length rest < length (reading s e rest) = rw laid0 (less_1 _ _ (rw asks at w)) in
      let g = next rest (omega (arith, at.count_is)) (rw asks at at.first_is) less in
      rw asks (rw laid0 at g)

  deep_next : asks_attribute e ≡ true → (words : List ℕ) → IsAtRead p e words → is_whole (request.Read idn e) words ≡ false → 3 ≤ p.count →
      IsNextBehind 3 →
      Some r ≡ slice_get (steps_of (request.Read idn e) words) (length words)
  deep_next asks [] at w n next = absurd (omega (arith, at.count_is))
  deep_next asks (opened ∷ []) at w n next = absurd (omega (arith, at.count_is))
  deep_next asks (opened ∷ low ∷ []) at w n next = absurd (omega (arith, at.count_is))
  deep_next asks (opened ∷ low ∷ high ∷ rest) at w n next =
      let low_here : p.low ≡ low = rw asks at at.low_is in
      let high_here : p.high ≡ high = rw asks at at.high_is in
      let laid_here : s ≡ shape_of e (low + 65536 * high) = laid ∙ rw (low_here, high_here) refl in
      let less : length rest < length (reading s e rest) = rw laid_here (less_3 _ _ (rw asks at w)) in
      let g = next rest (omega (arith, at.count_is)) (rw asks at at.first_is) less in
      rw asks (rw laid_here at g)

  pub read_next : (words : List ℕ) → IsAtRead p e words → is_whole (request.Read idn e) words ≡ false → steps_before e ≤ p.count →
      IsNextBehind (steps_before e) →
      Some r ≡ slice_get (steps_of (request.Read idn e) words) (length words)
  read_next words at w n next = elim (chosen (asks_attribute e)) [
    | inl asks ↦ deep_next asks words at w (rw asks at n) (rw asks at next)
    | inr asks ↦ flat_next asks words at w (rw asks at n) (rw asks at next)
  ]

module _ (idn : Idn) (e word : ℕ) (p : ProgressView) (s : Shape) (first : ℕ) (bytes : List ℕ) (whole : Bool) (count : ℕ) (counted : count ≡ min (p.count + 1) 65535) (laid : s ≡ shape_of e (p.low + 65536 * p.high)) where
  -- one more of the element's own words is kept, after `before` others
  abbrev IsAfterBehind : ℕ → Type 0
  IsAfterBehind before = (ws : List ℕ) → p.count - before ≡ length ws → p.first ≡ slice_index ws 0 → p.bytes ≡ bytes_read s ws → length ws < length (reading s e ws) → IsAfterWord s e (ws ++ word ∷ []) first bytes whole

  abbrev next : ProgressView
  next = record { count = count; low = p.low; high = p.high; first = first; bytes = bytes; status = p.status }

  -- without an attribute
  flat : asks_attribute e ≡ false → (words : List ℕ) → IsAtRead p e words → is_whole (request.Read idn e) words ≡ false → 1 ≤ p.count →
      IsAfterBehind 1 →
      IsAtRead next e (words ++ word ∷ []) × (whole ≡ is_whole (request.Read idn e) (words ++ word ∷ []))
  flat asks [] at w n after = absurd (omega (arith, at.count_is))
  flat asks (opened ∷ rest) at w n after =
      let low0 : p.low ≡ 0 = rw asks at at.low_is in
      let high0 : p.high ≡ 0 = rw asks at at.high_is in
      let laid0 : s ≡ shape_of e 0 = laid ∙ rw (low0, high0) refl in
      let c : p.count - 1 ≡ length rest = omega (arith, at.count_is) in
      let f : p.first ≡ slice_index rest 0 = rw asks at at.first_is in
      let b : p.bytes ≡ bytes_read s rest = rw laid0 (rw asks at at.bytes_is) in
      let less : length rest < length (reading s e rest) = rw laid0 (less_1 _ _ (rw asks at w)) in
      let a = after rest c f b less in
      let few = few_read s e rest in (
        record {
          count_is = rw length-append (omega (arith, at.count_is, counted));
          low_is = rw asks low0;
          high_is = rw asks high0;
          first_is = rw asks a.first_is;
          bytes_is = rw asks (rw laid0 at a.bytes_is);
        },
        rw (asks, leb-suc-suc, ← laid0) a.whole_is,
      )

  -- after an attribute
  deep : asks_attribute e ≡ true → (words : List ℕ) → IsAtRead p e words → is_whole (request.Read idn e) words ≡ false → 3 ≤ p.count →
      IsAfterBehind 3 →
      IsAtRead next e (words ++ word ∷ []) × (whole ≡ is_whole (request.Read idn e) (words ++ word ∷ []))
  deep asks [] at w n after = absurd (omega (arith, at.count_is))
  deep asks (opened ∷ []) at w n after = absurd (omega (arith, at.count_is))
  deep asks (opened ∷ a ∷ []) at w n after = absurd (omega (arith, at.count_is))
  deep asks (opened ∷ low ∷ high ∷ rest) at w n after =
      let low_here : p.low ≡ low = rw asks at at.low_is in
      let high_here : p.high ≡ high = rw asks at at.high_is in
      let laid_here : s ≡ shape_of e (low + 65536 * high) = laid ∙ rw (low_here, high_here) refl in
      let c : p.count - 3 ≡ length rest = omega (arith, at.count_is) in
      let f : p.first ≡ slice_index rest 0 = rw asks at at.first_is in
      let b : p.bytes ≡ bytes_read s rest = rw laid_here (rw asks at at.bytes_is) in
      let less : length rest < length (reading s e rest) = rw laid_here (less_3 _ _ (rw asks at w)) in
      let a = after rest c f b less in
      let few = few_read s e rest in (
        record {
          count_is = rw length-append (omega (arith, at.count_is, counted));
          low_is = rw asks low_here;
          high_is = rw asks high_here;
          first_is = rw asks a.first_is;
          bytes_is = rw asks (rw laid_here at a.bytes_is);
        },
        rw (asks, leb-suc-suc, leb-suc-suc, leb-suc-suc, ← laid_here) a.whole_is,
      )

  pub read_more : (words : List ℕ) → IsAtRead p e words → is_whole (request.Read idn e) words ≡ false → steps_before e ≤ p.count →
      IsAfterBehind (steps_before e) →
      IsAtRead next e (words ++ word ∷ []) × (whole ≡ is_whole (request.Read idn e) (words ++ word ∷ []))
  read_more words at w n after = elim (chosen (asks_attribute e)) [
    | inl asks ↦ deep asks words at w (rw asks at n) (rw asks at after)
    | inr asks ↦ flat asks words at w (rw asks at n) (rw asks at after)
  ]

-- an answer before the element's own words
module _ (idn : Idn) (e word : ℕ) (p : ProgressView) where
  opened : asks_attribute e ≡ false → (words : List ℕ) → IsAtRead p e words → p.count < 1 →
      IsAtRead (record (with_attribute p word) { count = p.count + 1 }) e (words ++ word ∷ []) × (false ≡ is_whole (request.Read idn e) (words ++ word ∷ []))
  opened asks [] at n = (
    record {
      count_is = rw at.count_is refl;
      low_is = rw (asks, at.count_is) (rw asks at at.low_is);
      high_is = rw (asks, at.count_is) (rw asks at at.high_is);
      first_is = rw asks at.first_is;
      bytes_is = rw asks (rw asks at at.bytes_is);
    },
    rw asks (not_yet_1 _ (some_read (shape_of e 0) e)),
  )
  opened asks (o ∷ words) at n = absurd (omega (arith, at.count_is))

  attribute_heard : asks_attribute e ≡ true → (words : List ℕ) → IsAtRead p e words → p.count < 3 →
      IsAtRead (record (with_attribute p word) { count = p.count + 1 }) e (words ++ word ∷ []) × (false ≡ is_whole (request.Read idn e) (words ++ word ∷ []))
  attribute_heard asks [] at n = (
    record {
      count_is = rw at.count_is refl;
      low_is = rw (asks, at.count_is) (rw asks at at.low_is);
      high_is = rw (asks, at.count_is) (rw asks at at.high_is);
      first_is = rw asks at.first_is;
      bytes_is = rw asks (rw (asks, none_kept) at at.bytes_is ∙ sym (none_kept _));
    },
    rw asks refl,
  )
  attribute_heard asks (o ∷ []) at n = (
    record {
      count_is = rw at.count_is refl;
      low_is = rw (asks, at.count_is) refl;
      high_is = rw (asks, at.count_is) (rw asks at at.high_is);
      first_is = rw asks (rw asks at at.first_is);
      bytes_is = rw asks (rw (asks, none_kept) at at.bytes_is ∙ sym (none_kept _));
    },
    rw asks refl,
  )
  attribute_heard asks (o ∷ low ∷ []) at n = (
    record {
      count_is = rw at.count_is refl;
      low_is = rw (asks, at.count_is) (rw asks at at.low_is);
      high_is = rw (asks, at.count_is) refl;
      first_is = rw asks (rw asks at at.first_is);
      bytes_is = rw asks (rw (asks, none_kept) at at.bytes_is ∙ sym (none_kept _));
    },
    rw asks (not_yet_3 _ (some_read (shape_of e (low + 65536 * word)) e)),
  )
  attribute_heard asks (o ∷ low ∷ high ∷ words) at n = absurd (omega (arith, at.count_is))

  pub read_before : (p2 : ProgressView) → p2 ≡ with_attribute p word → (words : List ℕ) → IsAtRead p e words → p.count < steps_before e →
      IsAtRead (record p2 { count = p.count + 1 }) e (words ++ word ∷ []) × (false ≡ is_whole (request.Read idn e) (words ++ word ∷ []))
  read_before p2 q words at n = rw q (elim (chosen (asks_attribute e)) [
    | inl asks ↦ attribute_heard asks words at (rw asks at n)
    | inr asks ↦ opened asks words at (rw asks at n)
  ])
