-- The steps of the entries of a transfer, one by one.
use Rattle.sercos_law_channel.proofs.Words.{inr, inl, cases_Bool, ◌≡◌, ℕ, suc, ◌≤◌, Bool, true, false, not, ◌&&◌, List, [], ◌∷◌, ◌++◌, length, refl, ap, arith, if◌then◌else◌, ◌==◌, Option, Some, None, is_some, cond-false, Step, Answer, Request, outcome_of, next_step, answer_words, is_whole, result_of, step_at, with_step, steps_begun, Block, Entry, Write, with_added, writes_of, takes_effect, log_steps, replies_of, IsTransfer, is_complete}
use Rattle.sercos_step.specs.declared.request.Outcome.TheVariants as outcome

pub length-steps_of : (entries : List Entry) → length (log_steps entries) ≡ length entries
length-steps_of [] = refl
length-steps_of (e ∷ entries) = ap suc (length-steps_of entries)

pub length-replies_of : (entries : List Entry) → length (replies_of entries) ≡ length entries
length-replies_of [] = refl
length-replies_of (e ∷ entries) = ap suc (length-replies_of entries)

length-with_step : (o : Option Step) (steps : List Step) → length (with_step o steps) ≤ suc (length steps)
length-with_step None steps = omega arith
length-with_step (Some s) steps = omega arith

pub length-steps_begun : (r : Request) (h : List Answer) → length (steps_begun r h) ≤ suc (length h)
length-steps_begun r [] = length-with_step (step_at r []) []
length-steps_begun r (a ∷ h) =
    let before = length-steps_begun r h in
    let more = length-with_step (step_at r (a ∷ h)) (steps_begun r h) in omega arith

-- where one step more was begun, it was begun last
begun_last : (o : Option Step) (s : Step) (steps more : List Step) → s ∷ steps ≡ with_step o more → length more ≤ length steps → (o ≡ Some s) × (steps ≡ more)
begun_last None s steps more is few = let long : suc (length steps) ≡ length more = ap length is in absurd (omega arith)
begun_last (Some x) s steps more is few = (cc, cc)

next-step_at : (r : Request) (h : List Answer) (s : Step) → step_at r h ≡ Some s → next_step r h ≡ Some s
next-step_at r h s at = elim (cases_Bool (is_some (outcome_of r h))) [
  | inl on ↦ let at = rw on at at in absurd (cc)
  | inr off ↦ let at = rw off at at in at
]

module _ (r : Request) (blocks : List Block) (log : List Entry) where
  -- the newest step is the next one after the others
  pub newest_step : (e : Entry) (entries : List Entry) → IsTransfer r blocks e entries log → next_step r (replies_of entries) ≡ Some e.processed.step
  newest_step e [] is = next-step_at r [] e.processed.step (begun_last (step_at r []) e.processed.step [] [] is.steps (omega arith)).0
  newest_step e (d ∷ entries) is =
      let few = length-steps_begun r (replies_of entries) in
      let long = length-steps_of entries in
      let many = length-replies_of entries in
      next-step_at r (replies_of (d ∷ entries)) e.processed.step
      (begun_last (step_at r (replies_of (d ∷ entries))) e.processed.step (log_steps (d ∷ entries)) (steps_begun r (replies_of entries)) is.steps (omega arith)).0

  -- the entries without the newest are a transfer's
  pub without_newest : (e d : Entry) (entries : List Entry) → IsTransfer r blocks e (d ∷ entries) log → IsTransfer r blocks d entries log
  without_newest e d entries is =
      let few = length-steps_begun r (replies_of entries) in
      let long = length-steps_of entries in
      let many = length-replies_of entries in record {
        steps = (begun_last (step_at r (replies_of (d ∷ entries))) e.processed.step (log_steps (d ∷ entries)) (steps_begun r (replies_of entries)) is.steps (omega arith)).1;
        in_turn = is.in_turn.0;
        goes_on = is.in_turn.1;
        replies = is.replies.0;
        alike = is.alike.0;
      }

-- an answer completes a transfer where it is no error, and the last
pub complete-outcome_of : (r : Request) (a : Answer) (h : List Answer) → is_complete (outcome_of r (a ∷ h)) ≡ (not a.error && is_whole r (answer_words h ++ a.word ∷ []))
complete-outcome_of r a h = by a.error (is_whole r (answer_words h ++ a.word ∷ [])) a.word (result_of r (answer_words h ++ a.word ∷ []))
  where
    by : (error whole : Bool) (code : ℕ) (bytes : List ℕ) → is_complete (if error then Some (outcome.Refused (record { raw = code })) else (if whole then Some (outcome.Complete bytes) else None)) ≡ (not error && whole)
    by true whole code bytes = refl
    by false true code bytes = refl
    by false false code bytes = refl

-- what an answer that completes a transfer shows
pub complete_is : (r : Request) (a : Answer) (h : List Answer) (bytes : List ℕ) → outcome_of r (a ∷ h) ≡ Some (outcome.Complete bytes) →
    (a.error ≡ false) × (is_whole r (answer_words h ++ a.word ∷ []) ≡ true) × (bytes ≡ result_of r (answer_words h ++ a.word ∷ []))
complete_is r a h bytes is = by a.error (is_whole r (answer_words h ++ a.word ∷ [])) a.word (result_of r (answer_words h ++ a.word ∷ [])) is
  where
    by : (error whole : Bool) (code : ℕ) (given : List ℕ) → (if error then Some (outcome.Refused (record { raw = code })) else (if whole then Some (outcome.Complete given) else None)) ≡ Some (outcome.Complete bytes) →
        (error ≡ false) × (whole ≡ true) × (bytes ≡ given)
    by true whole code given is = absurd (cc)
    by false true code given is = (refl, refl, cc)
    by false false code given is = absurd (cc)

pub goes_on-outcome_of : (r : Request) (a : Answer) (h : List Answer) → outcome_of r (a ∷ h) ≡ None → (a.error ≡ false) × (is_whole r (answer_words h ++ a.word ∷ []) ≡ false)
goes_on-outcome_of r a h on = by a.error (is_whole r (answer_words h ++ a.word ∷ [])) a.word (result_of r (answer_words h ++ a.word ∷ [])) on
  where
    by : (error whole : Bool) (code : ℕ) (bytes : List ℕ) → (if error then Some (outcome.Refused (record { raw = code })) else (if whole then Some (outcome.Complete bytes) else None)) ≡ None → (error ≡ false) × (whole ≡ false)
    by true whole code bytes on = absurd (cc)
    by false true code bytes on = absurd (cc)
    by false false code bytes on = (refl, refl)

-- what takes no effect adds no write
pub adds_none : (e : Entry) (all : List Entry) → takes_effect e ≡ false → writes_of (e ∷ all) ≡ writes_of all
adds_none e all off = ap (λ (o : Option Write). with_added o (writes_of all)) (cond-false (takes_effect e) _ None off)

-- as it does by its step and its answer
pub effect_by : (s : Step) (e : Entry) → e.processed.step ≡ s → takes_effect e ≡ (s.write && ((s.element == 7) && (s.last && not e.answer.error)))
effect_by s e is = ap (λ (x : Step). x.write && ((x.element == 7) && (x.last && not e.answer.error))) is
