-- A transfer that goes on, over one more answer.
use Rattle.std.proofs.Common.{◌≡◌, ℕ, suc, Bool, true, false, List, [], ◌∷◌, ◌++◌, refl, sym, ◌∙◌, arith, if◌then◌else◌}
use Rattle.std.specs.Prelude.{Option, Some, None, is_some, nat_le}
use Rattle.std.proofs.lemmas.Bool.Decides.{nat_tests}
use Rattle.sercos_step.specs.declared.step.Answer.{Answer}
use Rattle.sercos_step.specs.declared.request.Request.{Request}
use Rattle.sercos_step.specs.declared.request.Request.TheVariants as request
use Rattle.sercos_step.specs.declared.request.Outcome.{Outcome}
use Rattle.sercos_step.specs.declared.request.Outcome.TheVariants as outcome
use Rattle.sercos_step.specs.Steps.{is_whole, answer_words, outcome_of, result_of}
use Rattle.sercos_step.specs.Kept.{ProgressView, IsAfterAnswer, TransferView, TransferStandsFor}

never : (n : ℕ) → nat_le (suc n) 0 ≡ false
never n = grind (arith, nat_tests)

begins : (r : Request) → is_whole r [] ≡ false
begins (request.Read idn e) = never _
begins (request.Write idn e bytes) = never _
begins (request.Command idn) = refl

second_test : (error whole : Bool) (x y : Outcome) → is_some (if error then Some x else (if whole then Some y else None)) ≡ false → whole ≡ false
second_test true w x y h = cc
second_test false true x y h = cc
second_test false false x y h = refl

-- a transfer that goes on isn't whole
pub not_whole : (r : Request) (h : List Answer) → is_some (outcome_of r h) ≡ false → is_whole r (answer_words h) ≡ false
not_whole r [] e = begins r
not_whole r (a ∷ h) e = second_test a.error _ _ _ e

goes_on : (error whole : Bool) (x y : Outcome) → error ≡ false → whole ≡ false → (if error then Some x else (if whole then Some y else None)) ≡ None
goes_on error whole x y f g = rw (f, g) refl

some_none : (o : Option Outcome) → is_some o ≡ false → o ≡ None
some_none None h = refl
some_none (Some x) h = cc

pub complete : (r : Request) (h : List Answer) (a : Answer) (bytes : List ℕ) → a.error ≡ false → is_whole r (answer_words h ++ a.word ∷ []) ≡ true → bytes ≡ result_of r (answer_words h ++ a.word ∷ []) →
    Some (outcome.Complete bytes) ≡ outcome_of r (a ∷ h)
complete r h a bytes e w b = rw (e, w, b) refl

pub stands_on : (v : TransferView) (progress : ProgressView) (r : Request) (h : List Answer) (a : Answer) → TransferStandsFor v r h → v.done ≡ false → a.error ≡ false → IsAfterAnswer r progress (answer_words h ++ a.word ∷ []) false →
    TransferStandsFor (record { request = v.request; progress = progress; done = v.done }) r (a ∷ h)
stands_on v progress r h a s d e after = record {
  request_is = s.request_is;
  in_turn = (s.in_turn, some_none (outcome_of r h) (sym s.done_is ∙ d));
  done_is = d ∙ rw (goes_on a.error (is_whole r (answer_words h ++ a.word ∷ [])) _ _ e (sym after.whole_is)) refl;
  at_work = λ _. after.goes_on refl;
}
