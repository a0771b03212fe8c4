-- The entries of a transfer are of one phase, since the master doesn't rise while a step is open.
use Rattle.sercos_law_channel.proofs.Words.{◌≡◌, ◌⊎◌, inl, inr, ⊎_elim, ℕ, suc, ◌≤◌, Bool, true, false, not, ◌&&◌, List, [], ◌∷◌, ◌++◌, length, drop, refl, sym, ap, ◌∙◌, subst, arith, length-append, ◌==◌, Option, Some, None, is_some, slice_get, list_all, cond_both, not-true, nat_tests, beq, Status, Step, Answer, Request, shape_of, words_told, reading, writing, asks_attribute, steps_of, answer_words, next_step, Processed, Entry, opens, Begun, step_at, with_step, steps_in, open_in, is_odd, mhs_in, answers_it, answer_in, with_answer, step_or_none, master_says, Block, Idle, Sent, Kept, AreInStep, replies_of, log_steps, IsTransfer, with_status, said_in, with_processed, AreInPhase, cases_Bool}
use Rattle.sercos_step.specs.declared.request.Request.TheVariants as request
use Rattle.sercos_law_channel.proofs.Handshake.StepTests.{attribute_passes, reading_passes, run_passes, polling_passes}
use Rattle.sercos_law_channel.proofs.Options.{all_at}
use Rattle.sercos_law_channel.proofs.Handshake.TransferSteps.{newest_step, without_newest}
use Rattle.sercos_law_channel.proofs.Handshake.HandshakeMoves.{parity, quiet_bit, said_bit, said_step, beq-self, idle_all}
use Rattle.sercos_law_channel.proofs.Handshake.UnknownBlocks.{first_step}

-- The steps of a request after the first open no identifier number.

abbrev is_inner : Step → Bool
is_inner s = not (opens s)

abbrev are_inner : List Step → Bool
are_inner steps = list_all is_inner steps

-- a write names an element from 2 on
abbrev pub IsNamed : Request → Type 0
IsNamed (request.Read idn e) = Unit {0}
IsNamed (request.Write idn e bytes) = 2 ≤ e
IsNamed (request.Command idn) = Unit {0}

rest_inner : (r : Request) (words : List ℕ) → IsNamed r → are_inner (drop 1 (steps_of r words)) ≡ true
rest_inner (request.Read idn e) words named = cond_both (asks_attribute e) _ _ (λ l. are_inner l ≡ true)
    (λ on. attribute_passes is_inner (λ attribute after. reading (shape_of e attribute) e after) (drop 1 words) (λ last word. refl)
    (λ word after. reading_passes is_inner (shape_of e word) e after (λ last word. refl)))
    (λ off. reading_passes is_inner (shape_of e 0) e (drop 1 words) (λ last word. refl))
rest_inner (request.Write idn e bytes) words named = cond_both (e == 7) _ _ (λ l. are_inner l ≡ true)
    (λ on. attribute_passes is_inner (λ attribute after. writing (shape_of 7 attribute) 7 bytes) (drop 1 words) (λ last word. refl)
    (λ word after. run_passes is_inner true 7 (words_told (shape_of 7 word) bytes) (λ last word. refl)))
    (λ off. run_passes is_inner true e (words_told (shape_of e 0) bytes) (λ last word. grind (arith, nat_tests)))
rest_inner (request.Command idn) words named = polling_passes is_inner (drop 2 words) refl refl

get_drop : {A : Type 0} (xs : List A) (k : ℕ) (x : A) → slice_get xs (suc k) ≡ Some x → slice_get (drop 1 xs) k ≡ Some x
get_drop [] k x got = absurd (cc)
get_drop (y ∷ xs) k x got = got

-- the next step after an answer opens none
pub later_step : (r : Request) (a : Answer) (h : List Answer) (s : Step) → IsNamed r → next_step r (a ∷ h) ≡ Some s → opens s ≡ false
later_step r a h s named next =
    let words = answer_words h ++ a.word ∷ [] in
    let long : length words ≡ suc (length (answer_words h)) = (let n = length-append (answer_words h) (a.word ∷ []) in omega (arith, n)) in
    let got : slice_get (steps_of r words) (suc (length (answer_words h))) ≡ Some s = ap (slice_get (steps_of r words)) (sym long) ∙ next in
    not-true (opens s) (all_at is_inner (drop 1 (steps_of r words)) (length (answer_words h)) s (rest_inner r words named) (get_drop (steps_of r words) (length (answer_words h)) s got))

-- A log whose steps come in the phase of the step before, but for openings.

abbrev pub HeadIn : ℕ → List Entry → Type 0
HeadIn phase [] = Unit {0}
HeadIn phase (e ∷ log) = e.processed.phase ≡ phase

abbrev pub IsSteady : List Entry → Type 0
IsSteady [] = Unit {0}
IsSteady (e ∷ log) = IsSteady log × (opens e.processed.step ≡ false → HeadIn e.processed.phase log)

-- the request that was begun last has no answer yet
abbrev is_unanswered : List Answer → Bool
is_unanswered [] = true
is_unanswered (a ∷ answers) = false

abbrev pub is_fresh : List Begun → Bool
is_fresh [] = true
is_fresh (b ∷ past) = is_unanswered b.answers

-- While a step is open, the newest step that was accepted of its request came in the phase that is commanded.
pub record IsLevel (phase : ℕ) (begun : List Begun) (log : List Entry) : Type 0 where
  pub steady : IsSteady log
  pub level : is_some (open_in begun) ≡ true → (is_fresh begun ≡ false) ⊎ (steps_in begun ≡ log_steps log) → HeadIn phase log

-- where an answer is taken, all that was begun was accepted
all_accepted : (begun : List Begun) (log : List Entry) (status : Status) → AreInStep begun log → status.ahs ≡ is_odd log → answers_it begun status ≡ true → (is_some (open_in begun) ≡ true) × (steps_in begun ≡ log_steps log)
all_accepted begun log status (Idle none s a) bit takes = let off : answers_it begun status ≡ false = ap (λ (o : Option Step). is_some o && (beq status.ahs (mhs_in begun) && not status.busy)) none in absurd (cc)
all_accepted begun log status (Sent step opened s a) bit takes = let off = quiet_bit begun log step status s bit opened in absurd (cc)
all_accepted begun log status (Kept e past opened is s a) bit takes = (ap is_some opened, s)

pub heard_level : (phase : ℕ) (begun : List Begun) (log : List Entry) (status : Status) (word : ℕ) → AreInStep begun log → status.ahs ≡ is_odd log → IsLevel phase begun log → IsLevel phase (with_status status word begun) log
heard_level phase begun log status word h bit l = cond_both (answers_it begun status) (with_answer (answer_in status word) begun) begun
    (λ v. IsLevel phase v log)
    (λ takes. let all = all_accepted begun log status h bit takes in record { steady = l.steady; level = λ some which. l.level all.0 (inr all.1) })
    (λ off. l)

pub no_longer : {A : Type 0} (x : A) (xs : List A) → x ∷ xs ≡ xs → ⊥
no_longer x xs is = let long : suc (length xs) ≡ length xs = ap length is in omega arith

pub begun_level : (phase : ℕ) (begun : List Begun) (log : List Entry) (r : Request) → AreInStep begun log → open_in begun ≡ None → IsLevel phase begun log → IsLevel phase ((record { request = r; answers = [] }) ∷ begun) log
begun_level phase begun log r h shut l = record { steady = l.steady; level = λ some which. absurd (⊎_elim (λ fresh. cc) (λ same. by (step_at r []) some same) which) }
  where
    by : (o : Option Step) → is_some o ≡ true → with_step o [] ++ steps_in begun ≡ log_steps log → ⊥
    by None some same = cc
    by (Some s) some same = no_longer s (log_steps log) (ap (λ (l : List Step). s ∷ l) (sym (idle_all begun log h shut).0) ∙ same)

-- a fresh request's open step opens its identifier number
fresh_opens : (begun : List Begun) (s : Step) → open_in begun ≡ Some s → is_fresh begun ≡ true → opens s ≡ true
fresh_opens [] s opened fresh = absurd (cc)
fresh_opens (b ∷ past) s opened fresh = by b.answers opened fresh
  where
    by : (answers : List Answer) → step_at b.request answers ≡ Some s → is_unanswered answers ≡ true → opens s ≡ true
    by [] opened fresh = ap opens (first_step b.request s opened)
    by (a ∷ answers) opened fresh = absurd (cc)

pub taken_level : (phase : ℕ) (begun : List Begun) (log : List Entry) (t : Processed) (answer : Answer) → AreInStep begun log → said_in t ≡ master_says begun → t.phase ≡ phase → IsLevel phase begun log → IsLevel phase begun (with_processed t answer log)
taken_level phase begun log t answer h says at l = elim (cases_Bool (beq t.mhs (is_odd log))) [
  | inl on ↦ rw on l
  | inr off ↦ rw off (record { steady = (l.steady, steady off); level = λ some which. at })
]
  where
    is_last : AreInStep begun log → beq t.mhs (is_odd log) ≡ false → (is_some (open_in begun) ≡ true) × (open_in begun ≡ Some t.step)
    is_last (Idle none s a) off = let on : beq t.mhs (is_odd log) ≡ true = ap (λ (b : Bool). beq b (is_odd log)) (said_bit t begun says ∙ parity (steps_in begun) log s) ∙ beq-self (is_odd log) in absurd (cc)
    is_last (Sent step opened s a) off = (ap is_some opened, opened ∙ ap (λ (x : Step). Some x) (sym (said_step t begun says ∙ ap step_or_none opened)))
    is_last (Kept e past opened is s a) off = let on : beq t.mhs (is_odd log) ≡ true = ap (λ (b : Bool). beq b (is_odd log)) (said_bit t begun says ∙ parity (steps_in begun) log s) ∙ beq-self (is_odd log) in absurd (cc)

    steady : beq t.mhs (is_odd log) ≡ false → opens t.step ≡ false → HeadIn t.phase log
    steady off shut = subst (λ (p : ℕ). HeadIn p log) (sym at) (l.level (is_last h off).0 (inl (elim (cases_Bool (is_fresh begun)) [
      | inl is ↦ let opened = fresh_opens begun t.step (is_last h off).1 is in absurd (cc)
      | inr is ↦ is
    ])))

-- So the entries of a transfer are of one phase.
pub in_one_phase : (r : Request) (blocks : List Block) (e : Entry) (entries log : List Entry) → IsNamed r → IsSteady ((e ∷ entries) ++ log) → IsTransfer r blocks e entries log → AreInPhase e.processed.phase (e ∷ entries)
in_one_phase r blocks e [] log named steady is = (tt, refl)
in_one_phase r blocks e (d ∷ entries) log named steady is =
    let later : opens e.processed.step ≡ false = later_step r d.answer (replies_of entries) e.processed.step named (newest_step r blocks log e (d ∷ entries) is) in
    let same : d.processed.phase ≡ e.processed.phase = steady.1 later in
    (subst (λ (p : ℕ). AreInPhase p (d ∷ entries)) same (in_one_phase r blocks d entries log named steady.0 (without_newest r blocks log e d entries is)), refl)
