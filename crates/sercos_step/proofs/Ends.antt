-- A transfer that goes on has a next step, and a read or a write goes on for a bounded number of answers.
use Rattle.std.proofs.Common.{◌≡◌, ℕ, zero, suc, ◌+◌, ◌*◌, ◌<◌, ◌≤◌, Bool, true, false, List, [], ◌∷◌, length, refl, arith, drop, if◌then◌else◌, length-append}
use Rattle.std.specs.Prelude.{Option, None, is_some, slice_get, nat_le, ◌==◌}
use Rattle.std.proofs.lemmas.Bool.Decides.{nat_tests}
use Rattle.sercos_idn.specs.declared.idn.Idn.{Idn}
use Rattle.sercos_step.specs.declared.step.Step.{Step}
use Rattle.sercos_step.specs.declared.step.Answer.{Answer}
use Rattle.sercos_step.specs.declared.request.Request.{Request}
use Rattle.sercos_step.specs.declared.request.Request.TheVariants as request
use Rattle.sercos_step.specs.declared.request.Outcome.{Outcome}
use Rattle.sercos_step.specs.Words.{shape_of, words_told}
use Rattle.sercos_step.specs.Steps.{reading, writing, attribute_then, asks_attribute, steps_of, answer_words, next_step, outcome_of, AreAnswers}
use Rattle.sercos_step.proofs.Runs.{length-run}
use Rattle.sercos_step.proofs.ReadWords.{few_read}
use Rattle.sercos_step.proofs.WrittenWords.{few_told}
use Rattle.sercos_step.proofs.Answered.{not_whole}

less : (a b : ℕ) → nat_le a b ≡ false → b < a
less a b h = grind (arith, nat_tests)

pub slice_get-some : (steps : List Step) (k : ℕ) → k < length steps → is_some (slice_get steps k) ≡ true
slice_get-some [] k h = absurd (omega arith)
slice_get-some (x ∷ steps) zero h = refl
slice_get-some (x ∷ steps) (suc k) h = slice_get-some steps k (omega arith)

-- a transfer that goes on has more steps than answers
pub more_steps : (r : Request) (h : List Answer) → is_some (outcome_of r h) ≡ false → length (answer_words h) < length (steps_of r (answer_words h))
more_steps r h e = less _ _ (not_whole r h e)

pub has_next : (r : Request) (h : List Answer) → is_some (outcome_of r h) ≡ false → is_some (next_step r h) ≡ true
has_next r h e = slice_get-some (steps_of r (answer_words h)) (length (answer_words h)) (more_steps r h e)

pub length-answer_words : (h : List Answer) → length (answer_words h) ≡ length h
length-answer_words [] = refl
length-answer_words (a ∷ h) = let i = length-answer_words h in rw length-append (omega (arith, i))

few_by_read : (asks : Bool) (e : ℕ) (words : List ℕ) →
    length (if asks then attribute_then (λ attribute after. reading (shape_of e attribute) e after) words else reading (shape_of e 0) e words) ≤ 516
few_by_read false e words = let f = few_read (shape_of e 0) e words in omega (arith, f)
few_by_read true e [] = omega arith
few_by_read true e (a ∷ []) = omega arith
few_by_read true e (a ∷ b ∷ words) = let f = few_read (shape_of e (a + 65536 * b)) e words in omega (arith, f)

few_by_write : (seven : Bool) (e : ℕ) (bytes words : List ℕ) → length bytes ≤ 1024 →
    length (if seven then attribute_then (λ attribute after. writing (shape_of 7 attribute) 7 bytes) words else writing (shape_of e 0) e bytes) ≤ 516
few_by_write false e bytes words fits = let f = few_told (shape_of e 0) bytes fits in rw (length-run true e (words_told (shape_of e 0) bytes)) (omega (arith, f))
few_by_write true e bytes [] fits = omega arith
few_by_write true e bytes (a ∷ []) fits = omega arith
few_by_write true e bytes (a ∷ b ∷ words) fits =
    let f = few_told (shape_of 7 (a + 65536 * b)) bytes fits in rw (length-run true 7 (words_told (shape_of 7 (a + 65536 * b)) bytes)) (omega (arith, f))

pub none_is : (o : Option Outcome) → o ≡ None → is_some o ≡ false
none_is o e = rw e refl

-- one answer more than those after which the transfer went on
module _ (r : Request) (few : (words : List ℕ) → length (steps_of r words) ≤ 517) where
  pub ends : (h : List Answer) → AreAnswers r h → length h ≤ 517
  ends [] a = omega arith
  ends (a ∷ h) answers =
      let m = more_steps r h (none_is (outcome_of r h) answers.1) in
      let l = length-answer_words h in
      let f = few (answer_words h) in
      omega (arith, m, l, f)

pub read_ends : (idn : Idn) (e : ℕ) (h : List Answer) → AreAnswers (request.Read idn e) h → length h ≤ 517
read_ends idn e h a = ends (request.Read idn e) (λ words. let f = few_by_read (asks_attribute e) e (drop 1 words) in omega (arith, f)) h a

pub write_ends : (idn : Idn) (e : ℕ) (bytes : List ℕ) (h : List Answer) → length bytes ≤ 1024 → AreAnswers (request.Write idn e bytes) h → length h ≤ 517
write_ends idn e bytes h fits a = ends (request.Write idn e bytes) (λ words. let f = few_by_write (e == 7) e bytes (drop 1 words) fits in omega (arith, f)) h a
