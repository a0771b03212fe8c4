-- A step that was known stays as it was.
use Rattle.std.proofs.Common.{◌≡◌, ℕ, zero, suc, ◌+◌, ◌*◌, ◌<◌, ◌≤◌, Bool, true, false, List, [], ◌∷◌, ◌++◌, length, refl, arith, inl, inr, if◌then◌else◌}
use Rattle.std.specs.Prelude.{slice_get, nat_le, ◌==◌}
use Rattle.std.proofs.lemmas.Bool.Decides.{nat_tests}
use Rattle.sercos_step.specs.declared.shape.Shape.{Shape}
use Rattle.sercos_step.specs.declared.shape.Shape.TheVariants as shape
use Rattle.sercos_step.specs.declared.request.Request.{Request}
use Rattle.sercos_step.specs.declared.request.Request.TheVariants as request
use Rattle.sercos_step.specs.Words.{shape_of, words_in_list}
use Rattle.sercos_step.specs.Steps.{reading, writing, attribute_then, polling, asks_attribute, steps_of}
use Rattle.sercos_step.proofs.Flags.{chosen}
use Rattle.sercos_step.proofs.Runs.{zeros, zeros_at}

not_last : (n : ℕ) → 2 ≤ n → nat_le n 1 ≡ false
not_last n h = grind (arith, nat_tests)

reading_known : (s : Shape) (e w : ℕ) (words : List ℕ) (k : ℕ) → k ≤ length words → slice_get (reading s e (words ++ w ∷ [])) k ≡ slice_get (reading s e words) k
reading_known shape.One e w words k h = refl
reading_known shape.Two e w words k h = refl
reading_known shape.List e w [] zero h = unfold zeros in
    let two : 2 ≤ words_in_list w = omega arith in
    let more : 0 < words_in_list w = omega arith in
    let z = zeros_at e (words_in_list w) 0 more in
    rw (not_last (words_in_list w) two) at z
reading_known shape.List e w [] (suc k) h = absurd (omega arith)
reading_known shape.List e w (x ∷ words) k h = refl

-- with the tests as variables, since rewriting by them would also hit the shape of the element
read_known : (asks : Bool) (e : ℕ) (words : List ℕ) (w k : ℕ) → k ≤ length words →
    slice_get (if asks then attribute_then (λ attribute after. reading (shape_of e attribute) e after) (words ++ w ∷ []) else reading (shape_of e 0) e (words ++ w ∷ [])) k
    ≡ slice_get (if asks then attribute_then (λ attribute after. reading (shape_of e attribute) e after) words else reading (shape_of e 0) e words) k
read_known false e words w k h = reading_known (shape_of e 0) e w words k h
read_known true e [] w k h = refl
read_known true e (a ∷ []) w zero h = refl
read_known true e (a ∷ []) w (suc zero) h = refl
read_known true e (a ∷ []) w (suc (suc k)) h = absurd (omega arith)
read_known true e (a ∷ b ∷ words) w zero h = refl
read_known true e (a ∷ b ∷ words) w (suc zero) h = refl
read_known true e (a ∷ b ∷ words) w (suc (suc k)) h = reading_known (shape_of e (a + 65536 * b)) e w words k (omega arith)

write_known : (seven : Bool) (e : ℕ) (bytes words : List ℕ) (w k : ℕ) → k ≤ length words →
    slice_get (if seven then attribute_then (λ attribute after. writing (shape_of 7 attribute) 7 bytes) (words ++ w ∷ []) else writing (shape_of e 0) e bytes) k
    ≡ slice_get (if seven then attribute_then (λ attribute after. writing (shape_of 7 attribute) 7 bytes) words else writing (shape_of e 0) e bytes) k
write_known false e bytes words w k h = refl
write_known true e bytes [] w k h = refl
write_known true e bytes (a ∷ []) w zero h = refl
write_known true e bytes (a ∷ []) w (suc zero) h = refl
write_known true e bytes (a ∷ []) w (suc (suc k)) h = absurd (omega arith)
write_known true e bytes (a ∷ b ∷ words) w k h = refl

polling_known : (words : List ℕ) (w k : ℕ) → k ≤ length words → slice_get (polling (words ++ w ∷ [])) k ≡ slice_get (polling words) k
polling_known [] w zero h = refl
polling_known [] w (suc k) h = absurd (omega arith)
polling_known (s ∷ words) w zero h = refl
polling_known (s ∷ words) w (suc k) h = elim (chosen (s == 7)) [
  | inl e ↦ rw e (polling_known words w k (omega arith))
  | inr e ↦ rw e refl
]

pub steps_known : (r : Request) (words : List ℕ) (w k : ℕ) → k ≤ length words → slice_get (steps_of r (words ++ w ∷ [])) k ≡ slice_get (steps_of r words) k
steps_known (request.Read idn e) words w zero h = refl
steps_known (request.Read idn e) [] w (suc k) h = absurd (omega arith)
steps_known (request.Read idn e) (o ∷ words) w (suc k) h = read_known (asks_attribute e) e words w k (omega arith)
steps_known (request.Write idn e bytes) words w zero h = refl
steps_known (request.Write idn e bytes) [] w (suc k) h = absurd (omega arith)
steps_known (request.Write idn e bytes) (o ∷ words) w (suc k) h = write_known (e == 7) e bytes words w k (omega arith)
steps_known (request.Command idn) words w zero h = refl
steps_known (request.Command idn) words w (suc zero) h = refl
steps_known (request.Command idn) [] w (suc (suc k)) h = absurd (omega arith)
steps_known (request.Command idn) (o ∷ []) w (suc (suc k)) h = absurd (omega arith)
steps_known (request.Command idn) (o ∷ s ∷ words) w (suc (suc k)) h = polling_known words w k (omega arith)
