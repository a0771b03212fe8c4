-- If nothing is lost, each answer comes busy time and one cycle after its step, and in time if nothing is lost from some cycle on.
use Rattle.sercos_law_channel.proofs.Words.{inr, inl, cases_Bool, ◌≡◌, ℕ, ◌+◌, ◌-◌, ◌<◌, ◌≤◌, Bool, true, false, not, ◌&&◌, List, [], ◌∷◌, refl, sym, ap, ◌∙◌, subst, arith, if◌then◌else◌, nat_le, Option, Some, None, IsSome, is_some, and_right, both_ways, cond-true, cond-false, leb-true, nat_tests, beq, Status, Step, Answer, Request, CommandHistory, change_in, Processed, Entry, ahs, log_of, Shown, shown, channel_says, shown_by, Begun, open_in, steps_in, answers_in, is_odd, answers_it, answer_in, with_answer, master_says, step_or_none, AreInStep, Idle, Sent, Kept, log_steps, replies_of, with_status, said_in, with_processed, with_begun, time_for, and-false}
use Rattle.sercos_law_channel.proofs.Handshake.HandshakeMoves.{ahs-shown, quiet_bit, said_bit, said_step, parity, parity_sent, ahs-log, beq-self, beq-not_left, idle_all}
use Rattle.sercos_law_channel.proofs.Handshake.OnePhase.{no_longer}

-- At a place in cycle c, with `spent` cycles before it that `Fits` compares with the time for the answers: no step is open; or one that
-- the drive hasn't accepted; or one that it has accepted and shows as busy.
pub data Works (Fits : ℕ → ℕ → Type 0) (busy c spent : ℕ) (begun : List Begun) (log : List Entry) : Type 0 where
  Free : open_in begun ≡ None → Fits spent (time_for busy (answers_in begun)) → Works Fits busy c spent begun log
  New : (s : Step) → open_in begun ≡ Some s → steps_in begun ≡ s ∷ log_steps log → Fits spent (time_for busy (answers_in begun))
      → Works Fits busy c spent begun log
  Busy : (e : Entry) (past : List Entry) → log ≡ e ∷ past → open_in begun ≡ Some e.processed.step → steps_in begun ≡ log_steps log
      → e.processed.cycle ≤ c → c ≤ e.processed.cycle + busy
      → Fits (spent + e.processed.cycle) (time_for busy (answers_in begun) + c) → Works Fits busy c spent begun log

-- at the end of the cycle
pub data Ends (Fits : ℕ → ℕ → Type 0) (busy c spent : ℕ) (begun : List Begun) (after : List Entry) : Type 0 where
  AtRest : open_in begun ≡ None → Fits spent (time_for busy (answers_in begun)) → Ends Fits busy c spent begun after
  Waiting : (e : Entry) (past : List Entry) → after ≡ e ∷ past → open_in begun ≡ Some e.processed.step → steps_in begun ≡ log_steps after
      → e.processed.cycle ≤ c → c ≤ e.processed.cycle + busy
      → Fits (spent + e.processed.cycle) (time_for busy (answers_in begun) + c) → Ends Fits busy c spent begun after

-- and at the start of one: the answer to a step that was accepted is in time, if the drive shows it now
pub data Starts (Fits : ℕ → ℕ → Type 0) (busy c spent : ℕ) (begun : List Begun) (log : List Entry) : Type 0 where
  StartsFree : open_in begun ≡ None → Fits spent (time_for busy (answers_in begun)) → Starts Fits busy c spent begun log
  StartsNew : (s : Step) → open_in begun ≡ Some s → steps_in begun ≡ s ∷ log_steps log → Fits spent (time_for busy (answers_in begun))
      → Starts Fits busy c spent begun log
  StartsBusy : (e : Entry) (past : List Entry) → log ≡ e ∷ past → open_in begun ≡ Some e.processed.step → steps_in begun ≡ log_steps log
      → e.processed.cycle < c
      → (e.processed.cycle + (busy + 1) ≤ c → Fits spent (time_for busy (answers_in begun) + (busy + 1)))
      → Fits (spent + e.processed.cycle) (time_for busy (answers_in begun) + c) → Starts Fits busy c spent begun log

-- if every accepted step has its answer, none is busy
settled : (Fits : ℕ → ℕ → Type 0) (busy c spent : ℕ) (begun : List Begun) (log : List Entry) → AreInStep begun log
    → answers_in begun ≡ replies_of log → Fits spent (time_for busy (answers_in begun)) → Works Fits busy c spent begun log
settled Fits busy c spent begun log (Idle none s a) all is = Free none is
settled Fits busy c spent begun log (Sent step opened s a) all is = New step opened s is
settled Fits busy c spent begun log (Kept e past opened those s a) all is = absurd (no_longer e.answer (replies_of past)
    (ap replies_of (sym those) ∙ sym all ∙ a))

pub answered-answers : (a : Answer) (begun : List Begun) (s : Step) → open_in begun ≡ Some s → answers_in (with_answer a begun) ≡ a ∷ answers_in begun
answered-answers a [] s opened = absurd (cc)
answered-answers a (b ∷ past) s opened = refl

-- the master hears what the drive shows of an accepted step
pub shown_busy : (busy c cycle : ℕ) → nat_le (c - cycle) busy ≡ true → c ≤ cycle + busy
shown_busy busy c cycle is = let le = leb-true (c - cycle) busy is in omega arith

-- a step that is open and accepted has no answer yet
pub one_waits : (begun : List Begun) (log : List Entry) → AreInStep begun log → (e : Entry) (past : List Entry) → log ≡ e ∷ past
    → open_in begun ≡ Some e.processed.step → steps_in begun ≡ log_steps log → answers_in begun ≡ replies_of past
one_waits begun log (Idle none s a) e past those opened all = absurd (cc)
one_waits begun log (Sent step at s a) e past those opened all = absurd (no_longer step (log_steps log) (sym s ∙ all))
one_waits begun log (Kept x rest at is s a) e past those opened all = let same : x ∷ rest ≡ e ∷ past = sym is ∙ those in
    let tail : rest ≡ past = cc in a ∙ ap replies_of tail

quiet : (status : Status) (word : ℕ) (begun : List Begun) → answers_it begun status ≡ false → with_status status word begun ≡ begun
quiet status word begun off = cond-false (answers_it begun status) (with_answer (answer_in status word) begun) begun off

-- a drive that shows that it is busy answers nothing
busy_quiet : (status : Status) (begun : List Begun) → status.busy ≡ true → answers_it begun status ≡ false
busy_quiet status begun on = ap (λ (b : Bool). is_some (open_in begun) && (beq status.ahs (is_odd (steps_in begun)) && not b)) on
    ∙ and_right (is_some (open_in begun)) _ (and-false (beq status.ahs (is_odd (steps_in begun))))

module _ (Fits : ℕ → ℕ → Type 0) (busy c spent : ℕ) (showing : CommandHistory) (status : Status) (word : ℕ) (begun : List Begun)
    (taken : List Processed) (says : shown_by status word ≡ channel_says busy c showing taken) where
  bit : status.ahs ≡ is_odd (log_of taken)
  bit = ap (λ (s : Shown). s.ahs) says ∙ ahs-shown busy c (ahs taken) (change_in showing c) (log_of taken) ∙ ahs-log taken

  -- a step that the drive hasn't accepted stays open
  pub new_works : (s : Step) → open_in begun ≡ Some s → steps_in begun ≡ s ∷ log_steps (log_of taken)
      → Fits spent (time_for busy (answers_in begun)) → Works Fits busy c spent (with_status status word begun) (log_of taken)
  new_works s opened more is =
      let off : answers_it begun status ≡ false = quiet_bit begun (log_of taken) s status more bit opened in
      subst (λ (l : List Begun). Works Fits busy c spent l (log_of taken)) (sym (quiet status word begun off)) (New s opened more is)

  -- the master hears what the drive shows of an accepted step
  pub heard_works : (e : Entry) (past : List Entry) → AreInStep begun (log_of taken)
      → AreInStep (with_status status word begun) (log_of taken) → log_of taken ≡ e ∷ past → open_in begun ≡ Some e.processed.step
      → steps_in begun ≡ log_steps (log_of taken) → e.processed.cycle < c →
      (e.processed.cycle + (busy + 1) ≤ c → Fits spent (time_for busy (answers_in begun) + (busy + 1))) → Fits (spent + e.processed.cycle)
      (time_for busy (answers_in begun) + c) → Works Fits busy c spent (with_status status word begun) (log_of taken)
  heard_works e past before after those opened all earlier soon sum =
      by (nat_le (c - e.processed.cycle) busy) refl (says ∙ ap (shown busy c (ahs taken) (change_in showing c)) those)
    where
      by : (v : Bool) → nat_le (c - e.processed.cycle) busy ≡ v →
          shown_by status word ≡ (if v then record { ahs = ahs taken; busy = true; error = false; change = change_in showing c; word = 0 } else record { ahs = ahs taken; busy = false; error = e.answer.error; change = change_in showing c; word = e.answer.word }) →
          Works Fits busy c spent (with_status status word begun) (log_of taken)
      by true is shows =
          subst (λ (l : List Begun). Works Fits busy c spent l (log_of taken))
          (sym (quiet status word begun (busy_quiet status begun (ap (λ (s : Shown). s.busy) shows))))
          (Busy e past those opened all (omega arith) (shown_busy busy c e.processed.cycle is) sum)
      by false is shows =
          let same : answer_in status word ≡ e.answer = ap (λ (s : Shown). (let a : Answer = record { error = s.error; word = s.word } in a)) shows in
          let odd = parity (steps_in begun) (log_of taken) all in
          let same_bit = beq-self (is_odd (log_of taken)) in
          let takes : answers_it begun status ≡ true = rw (opened, bit, odd, ap (λ (s : Shown). s.busy) shows, same_bit) refl in
          let with_one : with_status status word begun ≡ with_answer e.answer begun = cond-true (answers_it begun status) _ _ takes ∙ ap (λ (a : Answer). with_answer a begun) same in
          let answers : answers_in (with_status status word begun) ≡ e.answer ∷ answers_in begun = ap answers_in with_one ∙ answered-answers e.answer begun e.processed.step opened in
          let whole : answers_in (with_status status word begun) ≡ replies_of (log_of taken) = answers
          ∙ ap (λ (l : List Answer). e.answer ∷ l) (one_waits begun (log_of taken) before e past those opened all) ∙ ap replies_of
          (sym those) in
          settled Fits busy c spent (with_status status word begun) (log_of taken) after whole
          (subst (Fits spent) (ap (time_for busy) (sym answers)) (soon (grind (arith, nat_tests))))

module _ (begun : List Begun) (log : List Entry) where
  -- a record that was sent before is dropped
  pub dropped : (t : Processed) (answer : Answer) → said_in t ≡ master_says begun → steps_in begun ≡ log_steps log → with_processed t answer log ≡ log
  dropped t answer says all = cond-true (beq t.mhs (is_odd log)) log _ (ap (λ (b : Bool). beq b (is_odd log)) (said_bit t begun says ∙ parity (steps_in begun) log all) ∙ beq-self (is_odd log))

pub joins : (busy c spent : ℕ) (begun : List Begun) (log : List Entry) (t : Processed) (answer : Answer) (s : Step)
    → said_in t ≡ master_says begun → steps_in begun ≡ s ∷ log_steps log
    → with_processed t answer log ≡ (record { processed = t; answer = answer }) ∷ log
joins busy c spent begun log t answer s says more = cond-false (beq t.mhs (is_odd log)) log _
    (ap (λ (b : Bool). beq b (is_odd log)) (said_bit t begun says ∙ parity_sent (steps_in begun) s log more) ∙ beq-not_left (is_odd log))

module _ (Fits : ℕ → ℕ → Type 0) (busy c spent : ℕ) (begun : List Begun) (log : List Entry) where
  pub taken_works : ((a b n : ℕ) → Fits a b → Fits (a + n) (b + n)) → (t : Processed) (answer : Answer) → said_in t ≡ master_says begun
      → t.cycle ≡ c → Works Fits busy c spent begun log → Ends Fits busy c spent begun (with_processed t answer log)
  taken_works add t answer says at (Free none is) = AtRest none is
  taken_works add t answer says at (New s opened more is) =
      let grown = joins busy c spent begun log t answer s says more in
      let step : t.step ≡ s = said_step t begun says ∙ ap step_or_none opened in
      Waiting (record { processed = t; answer = answer }) log grown (opened ∙ ap (λ (x : Step). Some x) (sym step))
      (more ∙ ap (λ (x : Step). x ∷ log_steps log) (sym step) ∙ ap log_steps (sym grown)) (omega arith) (omega arith)
      (subst (λ (n : ℕ). Fits (spent + t.cycle) (time_for busy (answers_in begun) + n)) at
      (add spent (time_for busy (answers_in begun)) t.cycle is))
  taken_works add t answer says at (Busy e past those opened all earlier late sum) =
      let same = dropped begun log t answer says all in
      Waiting e past (same ∙ those) opened (all ∙ ap log_steps (sym same)) earlier late sum

  pub silent_works : open_in begun ≡ None → Works Fits busy c spent begun log → Ends Fits busy c spent begun log
  silent_works none (Free x is) = AtRest none is
  silent_works none (New s opened more is) = absurd (cc)
  silent_works none (Busy e past those opened all earlier late sum) = absurd (cc)

  pub begun_works : (o : Option Request) → (IsSome o → open_in begun ≡ None) → AreInStep begun log → AreInStep (with_begun o begun) log
      → Works Fits busy c spent begun log → Works Fits busy c spent (with_begun o begun) log
  begun_works None shut h after w = w
  begun_works (Some r) shut h after w = settled Fits busy c spent ((record { request = r; answers = [] }) ∷ begun) log after
      (idle_all begun log h (shut refl)).1 (rests w)
    where
      rests : Works Fits busy c spent begun log → Fits spent (time_for busy (answers_in begun))
      rests (Free none is) = is
      rests (New s opened more is) = is
      rests (Busy e past those opened all earlier late sum) = let off = shut refl in absurd (cc)

-- a status that is an answer shows that the drive is no longer busy
pub late_answer : (busy c : ℕ) (showing : CommandHistory) (status : Status) (word : ℕ) (begun : List Begun) (taken : List Processed) (e : Entry) (past : List Entry) → shown_by status word ≡ channel_says busy c showing taken → log_of taken ≡ e ∷ past →
    answers_it begun status ≡ true → e.processed.cycle < c → e.processed.cycle + (busy + 1) ≤ c
late_answer busy c showing status word begun taken e past says those takes earlier = elim (cases_Bool (nat_le (c - e.processed.cycle) busy)) [
  | inl is ↦ let shows = rw is at (says ∙ ap (shown busy c (ahs taken) (change_in showing c)) those) in
      absurd (both_ways (answers_it begun status) (busy_quiet status begun (ap (λ (s : Shown). s.busy) shows)) takes)
  | inr is ↦ grind (arith, nat_tests)
]
