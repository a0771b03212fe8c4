-- The log of a drive falls into the parts of the requests.
use Rattle.sercos_law_channel.proofs.Words.{inr, inl, cases_Option, ◌≡◌, ℕ, suc, ◌≤◌, Bool, true, false, ◌&&◌, List, [], ◌∷◌, ◌++◌, length, take, drop, refl, ap, ap₂, sym, ◌∙◌, arith, if◌then◌else◌, length-append, take-append-drop, Option, Some, None, is_some, Step, Answer, Request, outcome_of, AreAnswers, Processed, Entry, reply_of, answered, Begun, step_at, with_step, steps_begun, steps_in, answers_in, open_in, answer_in, with_answer, Begin, Send, Hear, EndCycle, begun_by, Idle, Sent, Kept, AreInStep, log_steps, replies_of, AreInTurn, ComeInTurn, IsRow, IsPart, Unsent, Unheard, FallIntoParts, HaveReplies, MakeTransfers}
use Rattle.sercos_law_channel.specs.Handshake.Parts.{Heard}
use Rattle.sercos_law_channel.proofs.Handshake.TransferSteps.{length-steps_of, length-replies_of, length-steps_begun}

-- a step is open only where the transfer goes on
pub goes_on_at : (r : Request) (h : List Answer) → is_some (step_at r h) ≡ true → outcome_of r h ≡ None
goes_on_at r h some = elim (cases_Option (outcome_of r h)) [
  | inl none ↦ rw none refl
  | inr some_is ↦ let some = rw some_is.1 at some in absurd (cc)
]

-- one call more
pub answered_in_turn : (a : Answer) (begun : List Begun) → is_some (open_in begun) ≡ true → AreInTurn begun → AreInTurn (with_answer a begun)
answered_in_turn a [] some are = tt
answered_in_turn a (b ∷ past) some are = (are.0, (are.1.0, (are.1.1, goes_on_at b.request b.answers some)))

pub heard_in_turn : (v rest : Bool) (a : Answer) (begun : List Begun) → v ≡ is_some (open_in begun) → AreInTurn begun → AreInTurn (if v && rest then with_answer a begun else begun)
heard_in_turn true true a begun some are = answered_in_turn a begun (sym some) are
heard_in_turn true false a begun some are = are
heard_in_turn false rest a begun some are = are

pub come_in_turn : ComeInTurn
come_in_turn [] are = tt
come_in_turn (Begin r ∷ h) are = (come_in_turn h are.0, (are.1, tt))
come_in_turn (Send ∷ h) are = come_in_turn h are
come_in_turn (Hear status word ∷ h) are = heard_in_turn (is_some (open_in (begun_by h))) _ (answer_in status word) (begun_by h) refl (come_in_turn h are)
come_in_turn (EndCycle ∷ h) are = come_in_turn h are

-- requests that ended have no more steps than answers
ended_steps : (r : Request) (h : List Answer) → step_at r h ≡ None → length (steps_begun r h) ≤ length h
ended_steps r [] none = rw none (omega arith)
ended_steps r (a ∷ h) none = let few = length-steps_begun r h in rw none few

pub few_steps : (past : List Begun) → AreInTurn past → open_in past ≡ None → length (steps_in past) ≤ length (answers_in past)
few_steps [] are none = omega arith
few_steps (b ∷ past) are none =
    let these = ended_steps b.request b.answers none in
    let others = few_steps past are.0 are.1.0 in
    let steps = length-append (steps_begun b.request b.answers) (steps_in past) in
    let answers = length-append b.answers (answers_in past) in omega arith

-- a list of steps in two parts, and the log with it
steps_split : (steps more : List Step) (log : List Entry) → steps ++ more ≡ log_steps log → (log_steps (take (length steps) log) ≡ steps) × (log_steps (drop (length steps) log) ≡ more)
steps_split [] more log is = (refl, sym is)
steps_split (s ∷ steps) more [] is = absurd (cc)
steps_split (s ∷ steps) more (e ∷ log) is =
    let head : s ≡ e.processed.step = cc in
    let split = steps_split steps more log cc in
    (ap₂ (λ (x : Step) (l : List Step). x ∷ l) (sym head) split.0, split.1)

answers_split : (answers more : List Answer) (log : List Entry) → answers ++ more ≡ replies_of log → (replies_of (take (length answers) log) ≡ answers) × (replies_of (drop (length answers) log) ≡ more)
answers_split [] more log is = (refl, sym is)
answers_split (a ∷ answers) more [] is = absurd (cc)
answers_split (a ∷ answers) more (e ∷ log) is =
    let head : a ≡ e.answer = cc in
    let split = answers_split answers more log cc in
    (ap₂ (λ (x : Answer) (l : List Answer). x ∷ l) (sym head) split.0, split.1)

-- a front of the log has these steps and these answers, and what is after it the others
record IsFront (some more : List Step) (answers others : List Answer) (part rest : List Entry) : Type 0 where
  steps : log_steps part ≡ some
  replies : replies_of part ≡ answers
  steps_behind : log_steps rest ≡ more
  replies_behind : replies_of rest ≡ others

front : (r : Request) (a : Answer) (h : List Answer) (more : List Step) (others : List Answer) (log : List Entry) → length more ≤ length others → steps_begun r h ++ more ≡ log_steps log → (a ∷ h) ++ others ≡ replies_of log →
    IsFront (steps_begun r h) more (a ∷ h) others (take (suc (length h)) log) (drop (suc (length h)) log)
front r a h more others log few s t =
    let few_first = length-steps_begun r h in
    let all_steps : length (steps_begun r h ++ more) ≡ length log = ap length s ∙ length-steps_of log in
    let all_answers : length ((a ∷ h) ++ others) ≡ length log = ap length t ∙ length-replies_of log in
    let both_steps = length-append (steps_begun r h) more in
    let both_answers = length-append (a ∷ h) others in
    let count : length (steps_begun r h) ≡ suc (length h) = omega arith in
    let of_steps = steps_split (steps_begun r h) more log s in
    let of_answers = answers_split (a ∷ h) others log t in
    record {
      steps = ap (λ (n : ℕ). log_steps (take n log)) (sym count) ∙ of_steps.0;
      replies = of_answers.0;
      steps_behind = ap (λ (n : ℕ). log_steps (drop n log)) (sym count) ∙ of_steps.1;
      replies_behind = of_answers.1;
    }

abbrev begun_with : Request → List Answer → Begun
begun_with r answers = record { request = r; answers = answers }

-- a part whose answers were all taken
heard_part : (r : Request) (a : Answer) (h : List Answer) (part : List Entry) → AreAnswers r (a ∷ h) → log_steps part ≡ steps_begun r h → replies_of part ≡ a ∷ h → IsPart (begun_with r (a ∷ h)) part
heard_part r a h [] are s t = absurd (cc)
heard_part r a h (e ∷ entries) are s t =
    let rest : replies_of entries ≡ h = cc in
    Heard e entries refl (record {
      steps = s ∙ ap (steps_begun r) (sym rest);
      in_turn = rw rest are.0;
      goes_on = ap (outcome_of r) rest ∙ are.1;
    }) (sym t)

abbrev SplitsOff : Request → List Answer → List Begun → List Entry → Type 0
SplitsOff r answers past log = (part : List Entry) × (rest : List Entry) × (log ≡ part ++ rest) × IsPart (begun_with r answers) part × AreInStep past rest

module _ (r : Request) (past : List Begun) (shut : open_in past ≡ None) where
  off_unsent : (log : List Entry) → steps_in past ≡ log_steps log → answers_in past ≡ replies_of log → SplitsOff r [] past log
  off_unsent log s t = ([], log, refl, Unsent refl refl, Idle shut s t)

  off_heard : (a : Answer) (h : List Answer) (log : List Entry) → AreAnswers r (a ∷ h) → length (steps_in past) ≤ length (answers_in past) → steps_begun r h ++ steps_in past ≡ log_steps log → (a ∷ h) ++ answers_in past ≡ replies_of log →
      SplitsOff r (a ∷ h) past log
  off_heard a h log are few s t =
      let is = front r a h (steps_in past) (answers_in past) log few s t in (
        take (suc (length h)) log,
        drop (suc (length h)) log,
        sym (take-append-drop (suc (length h)) log),
        heard_part r a h (take (suc (length h)) log) are is.steps is.replies,
        Idle shut (sym is.steps_behind) (sym is.replies_behind),
      )

  off_unheard : (a : Answer) (h : List Answer) (log : List Entry) (e : Entry) (entries : List Entry) → log ≡ e ∷ entries → AreAnswers r (a ∷ h) → length (steps_in past) ≤ length (answers_in past) → step_at r (a ∷ h) ≡ Some e.processed.step →
      steps_begun r h ++ steps_in past ≡ log_steps entries → (a ∷ h) ++ answers_in past ≡ replies_of entries → SplitsOff r (a ∷ h) past log
  off_unheard a h log e entries those are few opened s t =
      let is = front r a h (steps_in past) (answers_in past) entries few s t in (
        e ∷ take (suc (length h)) entries,
        drop (suc (length h)) entries,
        those ∙ ap (λ (l : List Entry). e ∷ l) (sym (take-append-drop (suc (length h)) entries)),
        Unheard e (take (suc (length h)) entries) refl (record {
          steps = ap (λ (l : List Step). e.processed.step ∷ l) is.steps
              ∙ ap (λ (o : Option Step). with_step o (steps_begun r h)) (sym opened) ∙ ap (steps_begun r) (sym is.replies);
          in_turn = rw is.replies are;
          goes_on = ap (outcome_of r) is.replies ∙ goes_on_at r (a ∷ h) (ap is_some opened);
        }) (sym is.replies),
        Idle shut (sym is.steps_behind) (sym is.replies_behind),
      )

  -- the part of the request that was begun last
  splits_off : (answers : List Answer) (log : List Entry) → AreAnswers r answers → length (steps_in past) ≤ length (answers_in past) → AreInStep (begun_with r answers ∷ past) log → SplitsOff r answers past log
  splits_off [] log are few (Idle none s t) = off_unsent log (rw none at s) t
  splits_off [] log are few (Sent x opened s t) = let same : x ∷ steps_in past ≡ x ∷ log_steps log = rw opened at s in let tail : steps_in past ≡ log_steps log = cc in off_unsent log tail t
  splits_off [] log are few (Kept e entries opened is s t) =
      let same : e.processed.step ∷ steps_in past ≡ e.processed.step ∷ log_steps entries = ap (λ (o : Option Step). with_step o [] ++ steps_in past) (sym opened) ∙ s ∙ ap log_steps is in
      let tail : steps_in past ≡ log_steps entries = cc in
      (let row : IsRow (begun_with r []) e [] = record
      { steps = ap (λ (o : Option Step). with_step o []) (sym opened); in_turn = tt; goes_on = refl } in
      (e ∷ [], entries, is, Unheard e [] refl row refl, Idle shut tail t))
  splits_off (a ∷ h) log are few (Idle none s t) = off_heard a h log are few (ap (λ (o : Option Step). with_step o (steps_begun r h) ++ steps_in past) (sym none) ∙ s) t
  splits_off (a ∷ h) log are few (Sent x opened s t) =
      let same : x ∷ (steps_begun r h ++ steps_in past) ≡ x ∷ log_steps log = ap (λ (o : Option Step). with_step o (steps_begun r h) ++ steps_in past) (sym opened) ∙ s in
      let tail : steps_begun r h ++ steps_in past ≡ log_steps log = cc in off_heard a h log are few tail t
  splits_off (a ∷ h) log are few (Kept e entries opened is s t) =
      let same : e.processed.step ∷ (steps_begun r h ++ steps_in past) ≡ e.processed.step ∷ log_steps entries = ap (λ (o : Option Step). with_step o (steps_begun r h) ++ steps_in past) (sym opened) ∙ s ∙ ap log_steps is in
      let tail : steps_begun r h ++ steps_in past ≡ log_steps entries = cc in off_unheard a h log e entries is are few opened tail t

nothing_left : (log : List Entry) → AreInStep [] log → log ≡ []
nothing_left [] is = refl
nothing_left (e ∷ log) (Idle none s t) = absurd (cc)
nothing_left (e ∷ log) (Sent x opened s t) = absurd (cc)
nothing_left (e ∷ log) (Kept x entries opened is s t) = absurd (cc)

pub fall_into_parts : FallIntoParts
fall_into_parts [] log are is = nothing_left log is
fall_into_parts (b ∷ past) log are is =
    let off = splits_off b.request past are.1.0 b.answers log are.1.1 (few_steps past are.0 are.1.0) is in
    (off.0, off.1, off.2, off.3, fall_into_parts past off.1 are.0 off.4)

-- the entries of a part of the log have their replies
pub have_replies : HaveReplies
have_replies h [] rest is = tt
have_replies [] (e ∷ part) rest is = absurd (cc)
have_replies (t ∷ h) (e ∷ part) rest is =
    let tail : answered h ≡ part ++ rest = cc in
    (have_replies h part rest tail, (replied t (answered h) e cc) ∙ ap (reply_of e.processed) tail)
  where
    replied : (s : Processed) (log : List Entry) (x : Entry) → record { processed = s; answer = reply_of s log } ≡ x → x.answer ≡ reply_of x.processed log
    replied s log x is = ap (λ (y : Entry). y.answer) (sym is) ∙ ap (λ (y : Entry). reply_of y.processed log) is

-- and its row is a transfer
pub make_transfers : MakeTransfers
make_transfers b blocks e entries log row replies alike =
    record { steps = row.steps; in_turn = row.in_turn; goes_on = row.goes_on; replies = replies; alike = alike }
