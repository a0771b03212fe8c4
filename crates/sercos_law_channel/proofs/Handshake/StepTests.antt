-- A test that each step of a part of a transfer passes, by the element that it reads or writes.
use Rattle.sercos_law_channel.proofs.Words.{◌≡◌, ℕ, ◌+◌, ◌*◌, Bool, true, false, List, [], ◌∷◌, replicate, refl, list_all, Step, Shape, words_in_list, a_step, run, reading, attribute_then, polling, cond_both, ◌==◌}
use Rattle.sercos_step.specs.declared.shape.Shape.TheVariants as shape

module _ (test : Step → Bool) where
  -- each step of an element passes
  abbrev pub PassesAt : Bool → ℕ → Type 0
  PassesAt write e = (last : Bool) (word : ℕ) → test (a_step write last e word) ≡ true

  pub run_passes : (write : Bool) (e : ℕ) (words : List ℕ) → PassesAt write e → list_all test (run write e words) ≡ true
  run_passes write e [] each = refl
  run_passes write e (word ∷ []) each = rw (each true word) refl
  run_passes write e (word ∷ next ∷ words) each = rw (each false word) (run_passes write e (next ∷ words) each)

  pub reading_passes : (s : Shape) (e : ℕ) (words : List ℕ) → PassesAt false e → list_all test (reading s e words) ≡ true
  reading_passes shape.One e words each = run_passes false e (0 ∷ []) each
  reading_passes shape.Two e words each = run_passes false e (0 ∷ 0 ∷ []) each
  reading_passes shape.List e [] each = rw (each false 0) refl
  reading_passes shape.List e (actual ∷ words) each = run_passes false e (replicate (words_in_list actual) 0) each

  pub attribute_passes : (rest : ℕ → List ℕ → List Step) (words : List ℕ) → PassesAt false 3
      → ((word : ℕ) (after : List ℕ) → list_all test (rest word after) ≡ true)
      → list_all test (attribute_then rest words) ≡ true
  attribute_passes rest [] each all = rw (each false 0, each true 0) refl
  attribute_passes rest (low ∷ []) each all = rw (each false 0, each true 0) refl
  attribute_passes rest (low ∷ high ∷ words) each all = rw (each false 0, each true 0) (all (low + 65536 * high) words)

  pub polling_passes : (words : List ℕ) → test (a_step false true 1 0) ≡ true → test (a_step true true 7 0) ≡ true →
      list_all test (polling words) ≡ true
  polling_passes [] poll cancel = rw poll refl
  polling_passes (status ∷ words) poll cancel =
      rw poll (cond_both (status == 7) (polling words) (a_step true true 7 0 ∷ []) (λ l. list_all test l ≡ true)
      (λ on. polling_passes words poll cancel) (λ off. rw cancel refl))
