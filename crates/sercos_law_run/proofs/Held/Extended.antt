-- Within a cycle outcomes only come to those that are there.
use Rattle.sercos_law_run.proofs.Words.{◌≡◌, true, false, List, [], ◌∷◌, ◌++◌, Option, Some, None, refl, sym, ap, ◌∙◌, subst, is_some, and_parts, cond_both, Request, Outcome, Answer, outcome_of, DriveView, Begun, open_in, step_at, answers_it, answer_in, with_answer, outcomes_in, with_outcome, AreAnswers, Heard, with_heard, with_begun, inl, inr, cases_Option}

-- one outcome more, or none
abbrev pub Extends : List Outcome → List Outcome → Type 0
Extends old new = (o : Option Outcome) × (new ≡ with_outcome o old)

answered_more : (a : Answer) (begun : List Begun) → is_some (open_in begun) ≡ true → Extends (outcomes_in begun) (outcomes_in (with_answer a begun))
answered_more a [] waits = cc
answered_more a (b ∷ older) waits =
    let none : outcome_of b.request b.answers ≡ None = elim (cases_Option (outcome_of b.request b.answers)) [
      | inl is ↦ is
      | inr (o, is) ↦ let closed : step_at b.request b.answers ≡ None = rw is refl in
          let f : false ≡ true = sym (ap is_some closed) ∙ waits in absurd (cc)
    ] in
    (outcome_of b.request (a ∷ b.answers), sym (ap (λ (o : Option Outcome). with_outcome (outcome_of b.request (a ∷ b.answers)) (with_outcome o (outcomes_in older))) none))

pub heard_more : (o : Option Heard) (begun : List Begun) → Extends (outcomes_in begun) (outcomes_in (with_heard o begun))
heard_more None begun = (None, refl)
heard_more (Some a) begun = cond_both (answers_it begun a.status) (with_answer (answer_in a.status a.word) begun) begun
    (λ v. Extends (outcomes_in begun) (outcomes_in v))
    (λ is. answered_more (answer_in a.status a.word) begun (and_parts (is_some (open_in begun)) _ is).0) (λ is. (None, refl))

pub begun_same : (o : Option Request) (begun : List Begun) → outcomes_in (with_begun o begun) ≡ outcomes_in begun
begun_same None begun = refl
begun_same (Some r) begun = refl

-- so answers stay
answers_longer : (d : DriveView) (requests : List Request) (all more : List Outcome) → AreAnswers d requests all → AreAnswers d requests (all ++ more)
answers_longer d [] all more are = tt
answers_longer d (r ∷ requests) [] more are = absurd are
answers_longer d (r ∷ requests) (o ∷ all) more are = (are.0, answers_longer d requests all more are.1)

pub answers_stay : (d : DriveView) (requests : List Request) (old new : List Outcome) → Extends old new → AreAnswers d requests old → AreAnswers d requests new
answers_stay d requests old new (None, is) are = subst (λ (l : List Outcome). AreAnswers d requests l) (sym is) are
answers_stay d requests old new (Some o, is) are = subst (λ (l : List Outcome). AreAnswers d requests l) (sym is) (answers_longer d requests old (o ∷ []) are)
