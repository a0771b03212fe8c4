-- Each move of the two ends keeps them in step.
use Rattle.sercos_law_channel.proofs.Words.{inr, inl, cases_Bool, ◌≡◌, ℕ, ◌-◌, Bool, true, false, not, List, [], ◌∷◌, ◌++◌, refl, sym, ap, ◌∙◌, if◌then◌else◌, nat_le, Option, Some, None, beq, Status, Step, Answer, Processed, Entry, ahs, accepted, reply_of, answered, log_of, Shown, shown, shown_by, Begun, Said, open_in, steps_in, answers_in, steps_begun, step_at, with_step, is_odd, mhs_in, answers_it, answer_in, with_answer, step_or_none, master_says, InStep, Idle, Sent, Kept, AreInStep, log_steps, replies_of, Hears, Begins, Takes, with_status, said_in, with_processed}

pub beq-self : (b : Bool) → beq b b ≡ true
beq-self true = refl
beq-self false = refl

beq-not : (b : Bool) → beq b (not b) ≡ false
beq-not true = refl
beq-not false = refl

pub beq-not_left : (b : Bool) → beq (not b) b ≡ false
beq-not_left true = refl
beq-not_left false = refl

bit_step : (m a : Bool) (t : Processed) (h : List Processed) → a ≡ is_odd h → m ≡ is_odd (if beq m a then h else t ∷ h)
bit_step true true t h e = e
bit_step true false t h e = ap not e
bit_step false true t h e = ap not e
bit_step false false t h e = e

-- AHS is the parity of the accepted steps
ahs-is_odd : (h : List Processed) → ahs h ≡ is_odd (accepted h)
ahs-is_odd [] = refl
ahs-is_odd (t ∷ h) = bit_step t.mhs (ahs h) t (accepted h) (ahs-is_odd h)

is_odd-answered : (h : List Processed) → is_odd (answered h) ≡ is_odd h
is_odd-answered [] = refl
is_odd-answered (t ∷ h) = ap not (is_odd-answered h)

pub ahs-log : (h : List Processed) → ahs h ≡ is_odd (log_of h)
ahs-log h = ahs-is_odd h ∙ sym (is_odd-answered (accepted h))

-- the log with one more record
pub log-taken : (t : Processed) (h : List Processed) → log_of (t ∷ h) ≡ with_processed t (reply_of t (log_of h)) (log_of h)
log-taken t h = joined (beq t.mhs (ahs h)) ∙ ap (λ (a : Bool). if beq t.mhs a then log_of h else (record { processed = t; answer = reply_of t (log_of h) }) ∷ log_of h) (ahs-log h)
  where
    joined : (v : Bool) → answered (if v then accepted h else t ∷ accepted h) ≡ (if v then log_of h else (record { processed = t; answer = reply_of t (log_of h) }) ∷ log_of h)
    joined true = refl
    joined false = refl

is_odd-steps_of : (log : List Entry) → is_odd (log_steps log) ≡ is_odd log
is_odd-steps_of [] = refl
is_odd-steps_of (e ∷ log) = ap not (is_odd-steps_of log)

-- a status that answers nothing
quiet : (begun : List Begun) (log : List Entry) (status : Status) (word : ℕ) → answers_it begun status ≡ false → AreInStep begun log → AreInStep (with_status status word begun) log
quiet begun log status word off h = rw off h

-- what the drive shows of an accepted step, busy or not
abbrev shown_so : Bool → Bool → Entry → Bool → Shown
shown_so bit change e v =
    if v then (record { ahs = bit; busy = true; error = false; change = change; word = 0 })
    else (record { ahs = bit; busy = false; error = e.answer.error; change = change; word = e.answer.word })

pub ahs-shown : (busy cycle : ℕ) (bit change : Bool) (log : List Entry) → (shown busy cycle bit change log).ahs ≡ bit
ahs-shown busy cycle bit change [] = refl
ahs-shown busy cycle bit change (e ∷ log) = elim (cases_Bool (nat_le (cycle - e.processed.cycle) busy)) [
  | inl on ↦ rw on refl
  | inr off ↦ rw off refl
]

-- a status with the other bit answers nothing, and where no step is open none does
pub quiet_none : (begun : List Begun) (status : Status) → open_in begun ≡ None → answers_it begun status ≡ false
quiet_none begun status none = rw none refl

pub quiet_bit : (begun : List Begun) (log : List Entry) (s : Step) (status : Status) → steps_in begun ≡ s ∷ log_steps log → status.ahs ≡ is_odd log → open_in begun ≡ Some s → answers_it begun status ≡ false
quiet_bit begun log s status steps bit opened = rw (opened, steps, bit, is_odd-steps_of log, beq-not (is_odd log)) refl

-- the open step has the answer, and with it the next one is open or none
next_open : (o : Option Step) (steps : List Step) (answers : List Answer) (log : List Entry) → steps ≡ log_steps log → answers ≡ replies_of log → InStep o (with_step o steps) answers log
next_open None steps answers log s a = Idle refl s a
next_open (Some step) steps answers log s a = Sent step refl (ap (λ (l : List Step). step ∷ l) s) a

with_step-append : (o : Option Step) (steps more : List Step) → with_step o steps ++ more ≡ with_step o (steps ++ more)
with_step-append None steps more = refl
with_step-append (Some s) steps more = refl

takes_answer : (begun : List Begun) (e : Entry) (past : List Entry) → open_in begun ≡ Some e.processed.step → steps_in begun ≡ log_steps (e ∷ past) → answers_in begun ≡ replies_of past → AreInStep (with_answer e.answer begun) (e ∷ past)
takes_answer [] e past opened steps answers = absurd (cc)
takes_answer (b ∷ begun) e past opened steps answers =
    rw (with_step-append (step_at b.request (e.answer ∷ b.answers)) (steps_begun b.request b.answers) (steps_in begun))
    (next_open (step_at b.request (e.answer ∷ b.answers)) (steps_in (b ∷ begun)) (e.answer ∷ answers_in (b ∷ begun)) (e ∷ past) steps (ap (λ (l : List Answer). e.answer ∷ l) answers))

hears_kept : (begun : List Begun) (e : Entry) (past : List Entry) (change : Bool) (status : Status) (word : ℕ) (v : Bool) →
    open_in begun ≡ Some e.processed.step → steps_in begun ≡ log_steps (e ∷ past) → answers_in begun ≡ replies_of past →
    shown_by status word ≡ shown_so (is_odd (e ∷ past)) change e v → AreInStep (with_status status word begun) (e ∷ past)
hears_kept begun e past change status word true opened steps answers shows =
    let bit : status.ahs ≡ not (is_odd past) = ap (λ (s : Shown). s.ahs) shows in
    let busy : status.busy ≡ true = ap (λ (s : Shown). s.busy) shows in
    quiet begun (e ∷ past) status word (rw (opened, steps, bit, is_odd-steps_of past, beq-self (not (is_odd past)), busy) refl) (Kept e past opened refl steps answers)
hears_kept begun e past change status word false opened steps answers shows =
    let bit : status.ahs ≡ not (is_odd past) = ap (λ (s : Shown). s.ahs) shows in
    let free : status.busy ≡ false = ap (λ (s : Shown). s.busy) shows in
    let same : answer_in status word ≡ e.answer = ap (λ (s : Shown). (let a : Answer = record { error = s.error; word = s.word } in a)) shows in
    let takes : answers_it begun status ≡ true = rw (opened, steps, bit, is_odd-steps_of past, beq-self (not (is_odd past)), free) refl in
    rw (takes, same) (takes_answer begun e past opened steps answers)

-- the master hears what the drive shows
pub hears : Hears
hears begun log busy cycle change status word (Idle none s a) shows = quiet begun log status word (quiet_none begun status none) (Idle none s a)
hears begun log busy cycle change status word (Sent step opened s a) shows =
    let bit : status.ahs ≡ is_odd log = ap (λ (s : Shown). s.ahs) shows ∙ ahs-shown busy cycle (is_odd log) change log in
    quiet begun log status word (quiet_bit begun log step status s bit opened) (Sent step opened s a)
hears begun log busy cycle change status word (Kept e past opened is s a) shows =
    let kept = hears_kept begun e past change status word (nat_le (cycle - e.processed.cycle) busy) opened (rw is at s) a (rw is at shows) in rw is kept

-- the master begins a request where no step is open
pub begins : Begins
begins begun log r (Idle none s a) shut =
    rw (with_step-append (step_at r []) [] (steps_in begun)) (next_open (step_at r []) (steps_in begun) (answers_in begun) log s a)
begins begun log r (Sent step opened s a) shut = absurd (cc)
begins begun log r (Kept e past opened is s a) shut = absurd (cc)

-- where no step is open, all that was begun is accepted and answered
pub idle_all : (begun : List Begun) (log : List Entry) → AreInStep begun log → open_in begun ≡ None →
    (steps_in begun ≡ log_steps log) × (answers_in begun ≡ replies_of log)
idle_all begun log (Idle none s a) shut = (s, a)
idle_all begun log (Sent step opened s a) shut = absurd (cc)
idle_all begun log (Kept e past opened is s a) shut = absurd (cc)

-- the drive takes what the master says
takes_same : (begun : List Begun) (log : List Entry) (t : Processed) (answer : Answer) → t.mhs ≡ is_odd log → AreInStep begun log → AreInStep begun (with_processed t answer log)
takes_same begun log t answer bit h = rw (bit, beq-self (is_odd log)) h

takes_new : (begun : List Begun) (log : List Entry) (t : Processed) (answer : Answer) → t.mhs ≡ not (is_odd log) →
    open_in begun ≡ Some t.step → steps_in begun ≡ t.step ∷ log_steps log → answers_in begun ≡ replies_of log → AreInStep begun (with_processed t answer log)
takes_new begun log t answer bit opened s a =
    joins (beq t.mhs (is_odd log)) (rw (bit, beq-not_left (is_odd log)) refl)
  where
    joins : (v : Bool) → v ≡ false → AreInStep begun (if v then log else (record { processed = t; answer = answer }) ∷ log)
    joins true off = absurd (cc)
    joins false off = Kept (record { processed = t; answer = answer }) log opened refl s a

-- a record's parts
pub said_bit : (t : Processed) (begun : List Begun) → said_in t ≡ master_says begun → t.mhs ≡ mhs_in begun
said_bit t begun says = ap (λ (s : Said). s.mhs) says

pub said_step : (t : Processed) (begun : List Begun) → said_in t ≡ master_says begun → t.step ≡ step_or_none (open_in begun)
said_step t begun says = ap (λ (s : Said). s.step) says

pub parity : (steps : List Step) (log : List Entry) → steps ≡ log_steps log → is_odd steps ≡ is_odd log
parity steps log s = ap (λ (l : List Step). is_odd l) s ∙ is_odd-steps_of log

pub parity_sent : (steps : List Step) (s : Step) (log : List Entry) → steps ≡ s ∷ log_steps log → is_odd steps ≡ not (is_odd log)
parity_sent steps s log e = ap (λ (l : List Step). is_odd l) e ∙ ap not (is_odd-steps_of log)

pub takes : Takes
takes begun log t answer (Idle none s a) says = takes_same begun log t answer (said_bit t begun says ∙ parity (steps_in begun) log s) (Idle none s a)
takes begun log t answer (Sent step opened s a) says =
    let is : t.step ≡ step = said_step t begun says ∙ ap step_or_none opened in
    takes_new begun log t answer (said_bit t begun says ∙ parity_sent (steps_in begun) step log s) (opened ∙ ap (λ (x : Step). Some x) (sym is)) (s ∙ ap (λ (x : Step). x ∷ log_steps log) (sym is)) a
takes begun log t answer (Kept e past opened is s a) says = takes_same begun log t answer (said_bit t begun says ∙ parity (steps_in begun) log s) (Kept e past opened is s a)
