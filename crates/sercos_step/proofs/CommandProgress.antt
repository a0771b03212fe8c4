-- The data statuses of a command: its next step, and one more answer.
use Rattle.std.proofs.Common.{◌≡◌, ℕ, suc, ◌+◌, ◌-◌, ◌<◌, ◌≤◌, true, false, List, [], ◌∷◌, ◌++◌, length, refl, sym, ◌∙◌, arith, inl, inr, if◌then◌else◌, length-append}
use Rattle.std.specs.Prelude.{Some, slice_get, slice_index, nat_le, ◌==◌}
use Rattle.std.proofs.Math.Seq.{get_or-append_seam}
use Rattle.std.proofs.Math.ListN.{get_or-append}
use Rattle.std.proofs.lemmas.Bool.Decides.{nat_tests}
use Rattle.sercos_idn.specs.declared.idn.Idn.{Idn}
use Rattle.sercos_step.specs.declared.request.Request.TheVariants as request
use Rattle.sercos_step.specs.Steps.{a_step, polling, opening, steps_of, is_whole}
use Rattle.sercos_step.specs.Kept.{ProgressView, is_running, command_count, count_with, IsAtCommand, IsAfterCommand}
use Rattle.sercos_step.proofs.Flags.{chosen, and_left, and_right, fewer, suc-false, suc-true}

two_behind : (n : ℕ) → nat_le 2 (suc (suc n)) ≡ false → ⊥
two_behind n h = grind (arith, nat_tests)

polling_at : (words : List ℕ) → nat_le (length (polling words)) (length words) ≡ false →
    slice_get (polling words) (length words) ≡ Some (if is_running words then a_step false true 1 0 else a_step true true 7 0)
polling_at [] h = refl
polling_at (s ∷ []) h = elim (chosen (s == 7)) [
  | inl e ↦ rw e refl
  | inr e ↦ rw e refl
]
polling_at (s ∷ t ∷ words) h = elim (chosen (s == 7)) [
  | inl e ↦ (let g : nat_le (length (polling (t ∷ words))) (length (t ∷ words)) ≡ false = fewer _ _ (rw e at h) in rw e (polling_at (t ∷ words) g))
  | inr e ↦ (let g = rw e at h in absurd (two_behind _ g))
]

-- an answer while the command is running, and one to its cancelling
runs_on : (words : List ℕ) (w : ℕ) → is_running words ≡ true → nat_le (length (polling (words ++ w ∷ []))) (length (words ++ w ∷ [])) ≡ false
runs_on [] w h = elim (chosen (w == 7)) [
  | inl e ↦ rw e refl
  | inr e ↦ rw e refl
]
runs_on (s ∷ words) w h = let e = and_left (s == 7) (is_running words) h in rw e (suc-false _ _ (runs_on words w (and_right (s == 7) (is_running words) h)))

is_running-append : (words : List ℕ) (w : ℕ) → is_running words ≡ true → is_running (words ++ w ∷ []) ≡ (w == 7)
is_running-append [] w h = elim (chosen (w == 7)) [
  | inl e ↦ rw e refl
  | inr e ↦ rw e refl
]
is_running-append (s ∷ words) w h = let e = and_left (s == 7) (is_running words) h in rw e (is_running-append words w (and_right (s == 7) (is_running words) h))

ends_after : (words : List ℕ) (w : ℕ) → nat_le (length (polling words)) (length words) ≡ false → is_running words ≡ false → nat_le (length (polling (words ++ w ∷ []))) (length (words ++ w ∷ [])) ≡ true
ends_after [] w h g = cc
ends_after (s ∷ []) w h g = elim (chosen (s == 7)) [
  | inl e ↦ (let g' : true ≡ false = rw e at g in cc)
  | inr e ↦ rw e refl
]
ends_after (s ∷ t ∷ words) w h g = elim (chosen (s == 7)) [
  | inl e ↦ (let h' : nat_le (length (polling (t ∷ words))) (length (t ∷ words)) ≡ false = fewer _ _ (rw e at h) in
      let g' : is_running (t ∷ words) ≡ false = rw e at g in rw e (suc-true _ _ (ends_after (t ∷ words) w h' g')))
  | inr e ↦ (let h' = rw e at h in absurd (two_behind _ h'))
]

module _ (idn : Idn) (p : ProgressView) where
  command_next : (words : List ℕ) → IsAtCommand p words → is_whole (request.Command idn) words ≡ false →
      slice_get (steps_of (request.Command idn) words) (length words) ≡ Some (if p.count == 0 then opening idn else (if p.count == 2 then a_step false true 1 0 else a_step true true 7 (if p.count == 1 then 3 else 0)))
  command_next [] at w = rw at.count_is refl
  command_next (o ∷ []) at w = rw at.count_is refl
  command_next (o ∷ s ∷ statuses) at w =
      let w' = fewer _ _ (fewer _ _ w) in
      elim (chosen (is_running statuses)) [
        | inl e ↦ (let n : p.count ≡ 2 = rw e at at.count_is in rw (n, polling_at statuses w', e) refl)
        | inr e ↦ (let n : p.count ≡ 3 = rw e at at.count_is in rw (n, polling_at statuses w', e) refl)
      ]

  -- the step that reads the data status, and the one that cancels
  pub command_reads : (words : List ℕ) → IsAtCommand p words → is_whole (request.Command idn) words ≡ false → p.count ≡ 2 →
      Some (a_step false true 1 0) ≡ slice_get (steps_of (request.Command idn) words) (length words)
  command_reads words at w n = let g = command_next words at w in sym (rw n at g)

  pub command_cancels : (words : List ℕ) → IsAtCommand p words → is_whole (request.Command idn) words ≡ false → (p.count ≡ 0 → ⊥) → (p.count ≡ 1 → ⊥) → (p.count ≡ 2 → ⊥) →
      Some (a_step true true 7 0) ≡ slice_get (steps_of (request.Command idn) words) (length words)
  command_cancels words at w n0 n1 n2 =
      let g = command_next words at w in
      let e0 : (p.count == 0) ≡ false = grind (arith, nat_tests) in
      let e1 : (p.count == 1) ≡ false = grind (arith, nat_tests) in
      let e2 : (p.count == 2) ≡ false = grind (arith, nat_tests) in
      sym (rw (e0, e1, e2) at g)

add_sub : (n : ℕ) → n + 1 - 1 ≡ n
add_sub n = omega arith

newest : (words : List ℕ) (w : ℕ) → w ≡ slice_index (words ++ w ∷ []) (length (words ++ w ∷ []) - 1)
newest words w = sym (rw (length-append, add_sub) (get_or-append_seam words w [] 0))

newest_before : (words : List ℕ) (w : ℕ) → 0 < length words → slice_index words (length words - 1) ≡ slice_index (words ++ w ∷ []) (length (words ++ w ∷ []) - 2)
newest_before words w h =
    let e : length words + 1 - 2 ≡ length words - 1 = omega arith in
    let less : length words - 1 < length words = omega arith in
    rw (length-append, e) (sym (get_or-append words (w ∷ []) 0 (length words - 1) less))

module _ (idn : Idn) (p : ProgressView) (w : ℕ) where
  count_after : (words : List ℕ) → IsAtCommand p words → is_whole (request.Command idn) words ≡ false → p.count ≤ 2 →
      (count_with p.count w ≡ command_count (words ++ w ∷ [])) × (false ≡ is_whole (request.Command idn) (words ++ w ∷ []))
  count_after [] at g n = (rw at.count_is refl, refl)
  count_after (o ∷ []) at g n = (rw at.count_is refl, refl)
  count_after (o ∷ s ∷ statuses) at g n = elim (chosen (is_running statuses)) [
    | inl e ↦ (let m : p.count ≡ 2 = rw e at at.count_is in
        (rw (m, is_running-append statuses w e) refl, sym (suc-false _ _ (suc-false _ _ (runs_on statuses w e)))))
    | inr e ↦ (let m : p.count ≡ 3 = rw e at at.count_is in absurd (omega arith))
  ]

  -- an answer to a command that goes on, and the last one
  pub command_goes_on : (words : List ℕ) → IsAtCommand p words → is_whole (request.Command idn) words ≡ false → p.count ≤ 2 →
      IsAfterCommand idn (record p { status = w; count = count_with p.count w }) (words ++ w ∷ []) false
  command_goes_on words at g n =
      let m = count_after words at g n in
      record { whole_is = m.1; goes_on = λ h. record { count_is = m.0; status_is = newest words w }; ended = λ h. cc }

  pub command_ends : (words : List ℕ) → IsAtCommand p words → is_whole (request.Command idn) words ≡ false → 3 ≤ p.count →
      IsAfterCommand idn p (words ++ w ∷ []) true
  command_ends [] at g n = absurd (omega (arith, at.count_is))
  command_ends (o ∷ []) at g n = absurd (omega (arith, at.count_is))
  command_ends (o ∷ s ∷ statuses) at g n = elim (chosen (is_running statuses)) [
    | inl e ↦ (let m : p.count ≡ 2 = rw e at at.count_is in absurd (omega arith))
    | inr e ↦ record {
      whole_is = sym (suc-true _ _ (suc-true _ _ (ends_after statuses w (fewer _ _ (fewer _ _ g)) e)));
      goes_on = λ h. cc;
      ended = λ h. at.status_is ∙ newest_before (o ∷ s ∷ statuses) w (omega arith);
    }
  ]
