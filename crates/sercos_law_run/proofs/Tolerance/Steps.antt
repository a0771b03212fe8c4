-- How old a step gets on a channel, if few cycles in a row lose its record or its answer.
use Rattle.sercos_law_run.proofs.Words.{cases_Option, cases_Bool, ◌≡◌, ◌⊎◌, inl, inr, ℕ, suc, ◌+◌, ◌<◌, ◌≤◌, Bool, true, false, List, [], ◌∷◌, length, Option, Some, None, refl, sym, ap, ◌∙◌, arith, if◌then◌else◌, ◌==◌, IfSome, is_some, cond-false, cond-true, eqb-true, false≢true, Status, Step, Entry, Processed, log_of, reply_of, Begun, answer_in, answers_in, answers_it, open_in, steps_in, with_answer, begun_in, epoch_begun, epoch_log, epoch_records, log_in, records_in_views, unless_restart, with_heard, AreInStep, Idle, Kept, log_steps, IsShown, Heard, View, processed_in, record_in, standing, stood_in, with_record, age_by, age_in, Nothing, Processes, Record, in_step, length-replies_of, length-steps_of, processes, said_of, begun_of, heard_of, joined, restarted, shown_of, log-taken, log_grows, BusyLate, FreeLate, NewLate, WorksLate, heard_late, head_before, taken_before, joins}
use Rattle.sercos_law_channel.specs.Handshake.InStep.{Sent}
use Rattle.sercos_law_channel.specs.Handshake.Runs.{IsRun}

-- WHERE A STEP IS, by the numbers of steps begun, answers taken and steps accepted: none is open; one is, which the drive hasn't accepted;
-- or one that it has accepted, and that has no answer.
pub data Counts (begun : List Begun) (log : List Entry) : Type 0 where
  NoneOpen : open_in begun ≡ None → length (steps_in begun) ≡ length log → length (answers_in begun) ≡ length log → Counts begun log
  NotTaken : is_some (open_in begun) ≡ true → length (steps_in begun) ≡ suc (length log) → length (answers_in begun) ≡ length log
      → Counts begun log
  NotAnswered : (e : Entry) (rest : List Entry) → log ≡ e ∷ rest → is_some (open_in begun) ≡ true
      → length (steps_in begun) ≡ length log → suc (length (answers_in begun)) ≡ length log → Counts begun log

pub counts : (begun : List Begun) (log : List Entry) → AreInStep begun log → Counts begun log
counts begun log (Idle none s a) = NoneOpen none (ap length s ∙ length-steps_of log) (ap length a ∙ length-replies_of log)
counts begun log (Sent step opened s a) = NotTaken (ap (λ (o : Option Step). is_some o) opened)
    (ap length s ∙ ap (λ (n : ℕ). suc n) (length-steps_of log)) (ap length a ∙ length-replies_of log)
counts begun log (Kept e past opened those s a) = NotAnswered e past those (ap (λ (o : Option Step). is_some o) opened)
    (ap length s ∙ length-steps_of log) (ap (λ (n : ℕ). suc n) (ap length a ∙ length-replies_of past) ∙ sym (ap length those))

-- ANSWERS only come to those that are there.
more_answers : (b : Bool) (status : Status) (word : ℕ) (begun : List Begun)
    → length (answers_in begun) ≤ length (answers_in (if b then with_answer (answer_in status word) begun else begun))
more_answers true status word [] = omega arith
more_answers true status word (b ∷ begun) = omega arith
more_answers false status word begun = omega arith

heard_more : (o : Option Heard) (begun : List Begun) → length (answers_in begun) ≤ length (answers_in (with_heard o begun))
heard_more None begun = omega arith
heard_more (Some a) begun = more_answers (answers_it begun a.status) a.status a.word begun

-- if no step is open, its age is 0
pub closed_age : (all : List View) → open_in (epoch_begun all) ≡ None → age_in all ≡ 0
closed_age [] none = refl
closed_age (v ∷ past) none = elim (cases_Bool v.falls) [
  | inl on ↦ rw on refl
  | inr off ↦ rw off (let none = rw off at none in ap
      (λ (o : Option Step). age_by (is_some o) (length (steps_in (begun_in v past)) == length
      (steps_in (unless_restart v (epoch_begun past)))) (age_in past)) none)
]

-- An open step that the drive hasn't accepted is at most `fresh` cycles old. One that it has accepted was begun at most a cycle before,
-- unless it was accepted before the cycle `since`; and it is open for at most busy time and `late` cycles since it was accepted.
pub record IsYoungSince (since busy fresh late : ℕ) (all : List View) : Type 0 where
  pub new : is_some (open_in (epoch_begun all)) ≡ true → length (steps_in (epoch_begun all)) ≡ suc (length (epoch_log all))
      → age_in all ≤ fresh
  pub old : (e : Entry) (log : List Entry) → epoch_log all ≡ e ∷ log → is_some (open_in (epoch_begun all)) ≡ true
      → length (steps_in (epoch_begun all)) ≡ length (epoch_log all)
      → ((age_in all + e.processed.cycle ≤ length all + 1) ⊎ (e.processed.cycle < since)) × (length all ≤ e.processed.cycle + (busy + 1) + late)

abbrev pub IsYoung : ℕ → ℕ → ℕ → List View → Type 0
IsYoung busy fresh late all = IsYoungSince 0 busy fresh late all

pub older : (since busy f l fresh late : ℕ) (all : List View) → f ≤ fresh → l ≤ late → IsYoungSince since busy f l all
    → IsYoungSince since busy fresh late all
older since busy f l fresh late all more longer y = record {
  new = λ some is. let young = y.new some is in omega (arith, young, more);
  old = λ e log those some is. let (a, b) = y.old e log those some is in (a, omega (arith, b, longer));
}

pub never_some : {A : Type 0} (o : Option A) → o ≡ None → is_some o ≡ true → ⊥
never_some o none some = false≢true (sym (ap (λ (x : Option _). is_some x) none) ∙ some)

-- Once that long has passed, no such step is open.
pub young_at_last : (since busy fresh late : ℕ) (all : List View) → since + (busy + 1) + late ≤ length all
    → IsYoungSince since busy fresh late all → IsYoung busy fresh late all
young_at_last since busy fresh late all long y = record {
  new = y.new;
  old = λ e log those some is.
      let (a, b) = y.old e log those some is in (elim a [ inl begun ↦ inl begun | inr early ↦ absurd (omega (arith, early, b, long)) ], b);
}

pub rested : (since busy : ℕ) (all : List View) → open_in (epoch_begun all) ≡ None → IsYoungSince since busy 0 0 all
rested since busy all none = record {
  new = λ some is. absurd (never_some (open_in (epoch_begun all)) none some);
  old = λ e log those some is. absurd (never_some (open_in (epoch_begun all)) none some);
}

-- so it is no older than this
pub oldest : (busy fresh late : ℕ) (all : List View) → IsRun busy all → fresh ≤ 1 → IsYoung busy fresh late all
    → age_in all ≤ busy + 2 + late
oldest busy fresh late all run few y = which (counts (epoch_begun all) (epoch_log all) (in_step busy all run))
  where
    which : Counts (epoch_begun all) (epoch_log all) → age_in all ≤ busy + 2 + late
    which (NoneOpen none s a) = let zero = closed_age all none in omega (arith, zero)
    which (NotTaken opens s a) = let young = y.new opens s in omega (arith, young, few)
    which (NotAnswered e log those opens s a) =
        let (when, until) = y.old e log those opens s in
        elim when [ inl begun ↦ omega (arith, begun, until) | inr early ↦ absurd (omega (arith, early)) ]

-- ONE CYCLE, without a fall or a restart of the master
module _ (busy : ℕ) (v : View) (past : List View) (run : IsRun busy (v ∷ past)) (stays : v.falls ≡ false)
    (goes_on : v.master_restarts ≡ false) where
  pub begun_is : epoch_begun (v ∷ past) ≡ begun_in v past
  begun_is = cond-false v.falls [] (begun_in v past) stays

  log_is : epoch_log (v ∷ past) ≡ log_in v past
  log_is = ap log_of (cond-false v.falls [] (records_in_views v past) stays)

  start_is : unless_restart v (epoch_begun past) ≡ epoch_begun past
  start_is = cond-false v.master_restarts [] (epoch_begun past) goes_on

  log_start : log_of (unless_restart v (epoch_records past)) ≡ epoch_log past
  log_start = ap log_of (cond-false v.master_restarts [] (epoch_records past) goes_on)

  then_ : Counts (epoch_begun past) (epoch_log past)
  then_ = counts (epoch_begun past) (epoch_log past) (in_step busy past run.0)

  steps_are : length (steps_in (epoch_begun (v ∷ past))) ≡ length (steps_in (begun_in v past))
  steps_are = ap (λ (l : List Begun). length (steps_in l)) begun_is

  answers_are : length (answers_in (epoch_begun (v ∷ past))) ≡ length
      (answers_in (with_heard v.heard (unless_restart v (epoch_begun past))))
  answers_are = ap (λ (l : List Begun). length (answers_in l)) begun_is
      ∙ ap length (elim (cases_Option v.begins) [ inl none ↦ rw none refl | inr some ↦ rw some.1 refl ])

  pub answers_more : length (answers_in (epoch_begun past)) ≤ length (answers_in (epoch_begun (v ∷ past)))
  answers_more =
      let first = ap (λ (l : List Begun). length (answers_in l)) start_is in
      let last = answers_are in omega (arith, heard_more v.heard (unless_restart v (epoch_begun past)), first, last)

  -- the log stays, or has one entry more, of this cycle
  pub grows : (epoch_log (v ∷ past) ≡ epoch_log past) ⊎ ((x : Entry) × (epoch_log (v ∷ past) ≡ x ∷ epoch_log past)
      × (x.processed.cycle ≡ length past))
  grows = elim (log_grows v past goes_on) [ inl same ↦ inl (log_is ∙ same) | inr (x, is, at) ↦ inr (x, log_is ∙ is, at) ]

  -- the open step is the one of before, a cycle older, or a new one
  aged : is_some (open_in (epoch_begun (v ∷ past))) ≡ true
      → ((length (steps_in (epoch_begun (v ∷ past))) ≡ length (steps_in (epoch_begun past))) × (age_in (v ∷ past) ≡ age_in past + 1))
      ⊎ (age_in (v ∷ past) ≡ 1)
  aged some = elim (cases_Bool (length (steps_in (begun_in v past)) == length (steps_in (unless_restart v (epoch_begun past))))) [
    | inl is ↦ inl (
      steps_are ∙ eqb-true _ _ is ∙ ap (λ (l : List Begun). length (steps_in l)) start_is,
      age
          ∙ cond-true _ (age_in past + 1) 1 is,
    )
    | inr is ↦ inr (age ∙ cond-false _ (age_in past + 1) 1 is)
  ]
    where
      age : age_in (v ∷ past) ≡ (if length (steps_in (begun_in v past)) == length (steps_in (unless_restart v (epoch_begun past))) then
          age_in past + 1 else 1)
      age = cond-false v.falls 0 _ stays ∙ cond-true (is_some (open_in (begun_in v past))) _ 0
          (ap (λ (l : List Begun). is_some (open_in l)) (sym begun_is) ∙ some)

  pub soon : (e : Entry) (log : List Entry) → epoch_log (v ∷ past) ≡ e ∷ log → e.processed.cycle < length (v ∷ past)
  soon e log those = head_before (length (v ∷ past)) (epoch_records (v ∷ past)) (taken_before (v ∷ past)) e log those

  pub same_head : (e f : Entry) (log rest : List Entry) → e ∷ log ≡ f ∷ rest → e.processed.cycle ≡ f.processed.cycle
  same_head e f log rest same = let one : e ≡ f = cc in ap (λ (x : Entry). x.processed.cycle) one

  -- A STEP THAT THE DRIVE HAS ACCEPTED: since when it is open,
  begun_by : (since fresh late : ℕ) → fresh ≤ 1 → IsYoungSince since busy fresh late past → (e : Entry) (log : List Entry)
      → epoch_log (v ∷ past) ≡ e ∷ log
      → is_some (open_in (epoch_begun (v ∷ past))) ≡ true
      → length (steps_in (epoch_begun (v ∷ past))) ≡ length (epoch_log (v ∷ past))
      → (age_in (v ∷ past) + e.processed.cycle ≤ length (v ∷ past) + 1) ⊎ (e.processed.cycle < since)
  begun_by since fresh late few y e log those some steps = elim (aged some) [
    | inr one ↦ let less = soon e log those in inl (omega (arith, one, less))
    | inl (same, age) ↦ elim grows [
      | inl stayed ↦ old same age stayed then_
      | inr (x, is, at) ↦ new same age x is at then_
    ]
  ]
    where
      old : length (steps_in (epoch_begun (v ∷ past))) ≡ length (steps_in (epoch_begun past)) → age_in (v ∷ past) ≡ age_in past + 1
          → epoch_log (v ∷ past) ≡ epoch_log past
          → Counts (epoch_begun past) (epoch_log past) → (age_in (v ∷ past) + e.processed.cycle ≤ length (v ∷ past) + 1)
          ⊎ (e.processed.cycle < since)
      old same age stayed (NoneOpen none s a) = let zero = closed_age past none in let less = soon e log those in
          inl (omega (arith, age, zero, less))
      old same age stayed (NotTaken opens s a) = let long = ap length stayed in absurd (omega (arith, same, steps, s, long))
      old same age stayed (NotAnswered head tail split opens s a) = elim (y.old e log (sym stayed ∙ those) opens s).0 [
        | inl was ↦ inl (omega (arith, age, was))
        | inr early ↦ inr early
      ]

      new : length (steps_in (epoch_begun (v ∷ past))) ≡ length (steps_in (epoch_begun past)) → age_in (v ∷ past) ≡ age_in past + 1
          → (x : Entry) → epoch_log (v ∷ past) ≡ x ∷ epoch_log past → x.processed.cycle ≡ length past
          → Counts (epoch_begun past) (epoch_log past) → (age_in (v ∷ past) + e.processed.cycle ≤ length (v ∷ past) + 1)
          ⊎ (e.processed.cycle < since)
      new same age x is at (NoneOpen none s a) = let long = ap length is in absurd (omega (arith, same, steps, s, long))
      new same age x is at (NotAnswered head tail split opens s a) = let long = ap length is in absurd (omega (arith, same, steps, s, long))
      new same age x is at (NotTaken opens s a) =
          let cycle : e.processed.cycle ≡ length past = same_head e x log (epoch_log past) (sym those ∙ is) ∙ at in
          let young = y.new opens s in inl (omega (arith, age, young, few, cycle))

  -- and until when
  unanswered : (e : Entry) (log : List Entry) → epoch_log (v ∷ past) ≡ e ∷ log
      → length (steps_in (epoch_begun (v ∷ past))) ≡ length (epoch_log (v ∷ past)) → is_some (open_in (epoch_begun (v ∷ past))) ≡ true
      → suc (length (answers_in (epoch_begun (v ∷ past)))) ≡ length (epoch_log (v ∷ past))
  unanswered e log those steps some = by (counts (epoch_begun (v ∷ past)) (epoch_log (v ∷ past)) (in_step busy (v ∷ past) run))
    where
      by : Counts (epoch_begun (v ∷ past)) (epoch_log (v ∷ past)) → suc (length (answers_in (epoch_begun (v ∷ past)))) ≡ length
          (epoch_log (v ∷ past))
      by (NoneOpen none s a) = absurd (never_some (open_in (epoch_begun (v ∷ past))) none some)
      by (NotTaken opens s a) = absurd (omega (arith, s, steps))
      by (NotAnswered head tail split opens s a) = a

  -- A step that waits for its answer waited in the cycle before, or was accepted in this one.
  pub waits_from : (e : Entry) (rest : List Entry) → epoch_log (v ∷ past) ≡ e ∷ rest
      → suc (length (answers_in (epoch_begun (v ∷ past)))) ≡ length (epoch_log (v ∷ past))
      → ((length (epoch_log (v ∷ past)) ≡ length (epoch_log past)) × (epoch_log past ≡ e ∷ rest)
      × (suc (length (answers_in (epoch_begun past))) ≡ length (epoch_log past)))
      ⊎ ((length (epoch_log (v ∷ past)) ≡ suc (length (epoch_log past))) × (e.processed.cycle ≡ length past))
  waits_from e rest those last = elim grows [
    | inl same ↦ inl (ap length same, sym same ∙ those, by same then_)
    | inr (x, is, cycle) ↦ inr (ap length is, same_head e x rest (epoch_log past) (sym those ∙ is) ∙ cycle)
  ]
    where
      by : epoch_log (v ∷ past) ≡ epoch_log past → Counts (epoch_begun past) (epoch_log past)
          → suc (length (answers_in (epoch_begun past))) ≡ length (epoch_log past)
      by same (NoneOpen none s a) = let long = ap length same in let more = answers_more in absurd (omega (arith, last, a, long, more))
      by same (NotTaken opens s a) = let long = ap length same in let more = answers_more in absurd (omega (arith, last, a, long, more))
      by same (NotAnswered head tail split opens s a) = a

  open_late_by : (since fresh late : ℕ) → IsYoungSince since busy fresh late past → (e : Entry) (log : List Entry) → epoch_log (v ∷ past)
      ≡ e ∷ log
      → is_some (open_in (epoch_begun (v ∷ past))) ≡ true
      → length (steps_in (epoch_begun (v ∷ past))) ≡ length (epoch_log (v ∷ past))
      → length (v ∷ past) ≤ e.processed.cycle + (busy + 1) + (late + 1)
  open_late_by since fresh late y e log those some steps = elim (waits_from e log those (unanswered e log those steps some)) [
    | inl (long, same, waited) ↦ by same waited then_
    | inr (long, cycle) ↦ omega (arith, cycle)
  ]
    where
      by : epoch_log past ≡ e ∷ log → suc (length (answers_in (epoch_begun past))) ≡ length (epoch_log past)
          → Counts (epoch_begun past) (epoch_log past) → length (v ∷ past) ≤ e.processed.cycle + (busy + 1) + (late + 1)
      by same waited (NoneOpen none s a) = absurd (omega (arith, waited, a))
      by same waited (NotTaken opens s a) = absurd (omega (arith, waited, a))
      by same waited (NotAnswered head tail split opens s a) = let was = (y.old e log same opens s).1 in omega (arith, was)

  -- WHAT IS HEARD
  started : AreInStep (unless_restart v (epoch_begun past)) (log_of (unless_restart v (epoch_records past)))
  started = restarted busy v (epoch_begun past) (epoch_records past) (in_step busy past run.0)

  heard_then : AreInStep (with_heard v.heard (unless_restart v (epoch_begun past))) (log_of (unless_restart v (epoch_records past)))
  heard_then = heard_of busy v past run (joined busy past run.0) v.heard run.1.heard started

  works : (o : Option Heard) → IfSome o (λ a. IsShown busy a v past)
      → AreInStep (with_heard o (unless_restart v (epoch_begun past))) (log_of (unless_restart v (epoch_records past))) → is_some o ≡ true
      → (e : Entry) (rest : List Entry) → log_of (unless_restart v (epoch_records past)) ≡ e ∷ rest
      → open_in (unless_restart v (epoch_begun past)) ≡ Some e.processed.step
      → steps_in (unless_restart v (epoch_begun past)) ≡ log_steps (log_of (unless_restart v (epoch_records past)))
      → e.processed.cycle < length past
      → WorksLate busy (length past) 0 (with_heard o (unless_restart v (epoch_begun past))) (log_of (unless_restart v (epoch_records past)))
  works None shown after some e rest those opened steps earlier = absurd (false≢true some)
  works (Some a) shown after some e rest those opened steps earlier = elim (shown_of busy v past run (joined busy past run.0) a shown) [
    | inl none ↦ let free : open_in (unless_restart v (epoch_begun past)) ≡ None = ap open_in none in absurd (cc)
    | inr says ↦ heard_late busy (length past) 0 v.showing a.status a.word (unless_restart v (epoch_begun past))
        (unless_restart v (epoch_records past)) says e rest started after those opened steps earlier (omega arith) (omega (arith, earlier))
  ]

  -- one that is open though the drive is heard is busy
  pub busy_still : (is_some (open_in (epoch_begun past)) ≡ true → is_some v.heard ≡ true) → (e : Entry) (log : List Entry)
      → epoch_log (v ∷ past) ≡ e ∷ log → is_some (open_in (epoch_begun (v ∷ past))) ≡ true
      → length (steps_in (epoch_begun (v ∷ past))) ≡ length (epoch_log (v ∷ past)) → length (v ∷ past) ≤ e.processed.cycle + (busy + 1) + 0
  busy_still hears e log those some steps = elim grows [
    | inl stayed ↦ by stayed started
    | inr (x, is, at) ↦ let cycle = same_head e x log (epoch_log past) (sym those ∙ is) in omega (arith, cycle, at)
  ]
    where
      -- not all answers were taken
      not_all : epoch_log (v ∷ past) ≡ epoch_log past → length (answers_in (with_heard v.heard (unless_restart v (epoch_begun past)))) ≡
          length (log_of (unless_restart v (epoch_records past))) → ⊥
      not_all stayed all = let same = ap length stayed in let is = answers_are in
          omega (arith, unanswered e log those steps some, ap length log_start, same, is, all)

      before_all : length (answers_in (unless_restart v (epoch_begun past))) ≡ length (log_of (unless_restart v (epoch_records past)))
          → epoch_log (v ∷ past) ≡ epoch_log past → ⊥
      before_all all stayed = let same = ap length stayed in let is = answers_are in
          let more = heard_more v.heard (unless_restart v (epoch_begun past)) in
          omega (arith, unanswered e log those steps some, ap length log_start, same, is, all, more)

      after_so : epoch_log (v ∷ past) ≡ epoch_log past → open_in (with_heard v.heard (unless_restart v (epoch_begun past))) ≡ None
          → AreInStep (with_heard v.heard (unless_restart v (epoch_begun past))) (log_of (unless_restart v (epoch_records past))) → ⊥
      after_so stayed none (Idle off s a) = not_all stayed (ap length a ∙ length-replies_of (log_of (unless_restart v (epoch_records past))))
      after_so stayed none (Sent step opened s a) = cc
      after_so stayed none (Kept f rest opened at s a) = cc

      new_so : epoch_log (v ∷ past) ≡ epoch_log past → length (steps_in (with_heard v.heard (unless_restart v (epoch_begun past)))) ≡ suc
          (length (log_of (unless_restart v (epoch_records past))))
          → Counts (with_heard v.heard (unless_restart v (epoch_begun past))) (log_of (unless_restart v (epoch_records past))) → ⊥
      new_so stayed more (NoneOpen none s a) = not_all stayed a
      new_so stayed more (NotTaken opens s a) = not_all stayed a
      new_so stayed more (NotAnswered head tail split opens s a) = omega (arith, more, s)

      which : epoch_log (v ∷ past) ≡ epoch_log past → WorksLate busy (length past) 0
          (with_heard v.heard (unless_restart v (epoch_begun past))) (log_of (unless_restart v (epoch_records past)))
          → length (v ∷ past) ≤ e.processed.cycle + (busy + 1) + 0
      which stayed (FreeLate none is) = absurd (after_so stayed none heard_then)
      which stayed (NewLate s opened more is) = absurd (new_so stayed
          (ap length more ∙ ap (λ (n : ℕ). suc n) (length-steps_of (log_of (unless_restart v (epoch_records past)))))
          (counts (with_heard v.heard (unless_restart v (epoch_begun past))) (log_of (unless_restart v (epoch_records past))) heard_then))
      which stayed (BusyLate g rest at opened all earlier late sum) =
          let cycle = same_head e g log rest (sym those ∙ stayed ∙ sym log_start ∙ at) in omega (arith, cycle, late)

      by : epoch_log (v ∷ past) ≡ epoch_log past → AreInStep (unless_restart v (epoch_begun past))
          (log_of (unless_restart v (epoch_records past))) → length (v ∷ past) ≤ e.processed.cycle + (busy + 1) + 0
      by stayed (Idle none s a) = absurd (before_all (ap length a ∙ length-replies_of (log_of (unless_restart v (epoch_records past))))
          stayed)
      by stayed (Sent step opened s a) = absurd (before_all (ap length a ∙ length-replies_of (log_of (unless_restart v (epoch_records past))))
          stayed)
      by stayed (Kept f rest opened at s a) = which stayed (works v.heard run.1.heard heard_then
          (hears (ap (λ (l : List Begun). is_some (open_in l)) (sym start_is) ∙ ap (λ (o : Option Step). is_some o) opened))
          f rest at opened s (head_before (length past) (epoch_records past) (taken_before past) f rest (sym log_start ∙ at)))

  -- A STEP THAT THE DRIVE HASN'T ACCEPTED isn't there if it processes the record;
  pub none_new : (is_some (open_in (begun_in v past)) ≡ true → is_some (processed_in v past) ≡ true)
      → is_some (open_in (epoch_begun (v ∷ past))) ≡ true
      → length (steps_in (epoch_begun (v ∷ past))) ≡ suc (length (epoch_log (v ∷ past))) → ⊥
  none_new takes some steps = by (processes v past)
    where
      by : Processes v past → ⊥
      by (Nothing none) = never_some (processed_in v past) none (takes (ap (λ (l : List Begun). is_some (open_in l)) (sym begun_is) ∙ some))
      by (Record s got came two processed) = which (begun_of busy v.begins (with_heard v.heard (unless_restart v (epoch_begun past)))
          (unless_restart v (epoch_records past)) run.1.begins heard_then)
        where
          log : List Entry
          log = log_of (unless_restart v (epoch_records past))

          t : Processed
          t = record_in v (length past) (stood_in v (standing past)) s

          least : length log ≤ length (epoch_log (v ∷ past))
          least = let start = ap length log_start in elim grows [
            | inl stayed ↦ (let same = ap length stayed in omega (arith, same, start))
            | inr (x, is, cycle) ↦ (let same = ap length is in omega (arith, same, start))
          ]

          which : AreInStep (begun_in v past) log → ⊥
          which (Idle none e a) = let count = ap length e ∙ length-steps_of log in let same = steps_are in
              omega (arith, count, same, steps, least)
          which (Kept f rest opened those e a) = let count = ap length e ∙ length-steps_of log in let same = steps_are in
              omega (arith, count, same, steps, least)
          which (Sent step opened e a) =
              let count = ap length e ∙ ap (λ (n : ℕ). suc n) (length-steps_of log) in
              omega (
                arith,
                count,
                steps_are,
                steps,
                ap length
                    ((log_is ∙ ap (λ (o : Option Processed). log_of (with_record o (unless_restart v (epoch_records past)))) processed
                    ∙ log-taken t (unless_restart v (epoch_records past)))
                    ∙ joins busy (length past) 0 (begun_in v past) log t (reply_of t log) step (said_of busy v past run.1.sent s got) e),
              )

  -- else it is a cycle old, if it wasn't there before.
  young_new : (since late : ℕ) → IsYoungSince since busy 0 late past → is_some (open_in (epoch_begun (v ∷ past))) ≡ true
      → length (steps_in (epoch_begun (v ∷ past))) ≡ suc (length (epoch_log (v ∷ past))) → age_in (v ∷ past) ≤ 1
  young_new since late y some steps = elim (aged some) [
    | inr one ↦ omega (arith, one)
    | inl (same, age) ↦ elim grows [
      | inl stayed ↦ (let long = ap length stayed in by same age long then_)
      | inr (x, is, cycle) ↦ (let long = ap length is in absurd (never same long then_))
    ]
  ]
    where
      by : length (steps_in (epoch_begun (v ∷ past))) ≡ length (steps_in (epoch_begun past)) → age_in (v ∷ past) ≡ age_in past + 1
          → length (epoch_log (v ∷ past)) ≡ length (epoch_log past)
          → Counts (epoch_begun past) (epoch_log past) → age_in (v ∷ past) ≤ 1
      by same age long (NoneOpen none s a) = absurd (omega (arith, same, steps, long, s))
      by same age long (NotTaken opens s a) = let young = y.new opens s in omega (arith, age, young)
      by same age long (NotAnswered head tail split opens s a) = absurd (omega (arith, same, steps, long, s))

      never : length (steps_in (epoch_begun (v ∷ past))) ≡ length (steps_in (epoch_begun past))
          → length (epoch_log (v ∷ past)) ≡ suc (length (epoch_log past)) → Counts (epoch_begun past) (epoch_log past) → ⊥
      never same long (NoneOpen none s a) = omega (arith, same, steps, long, s)
      never same long (NotTaken opens s a) = omega (arith, same, steps, long, s)
      never same long (NotAnswered head tail split opens s a) = omega (arith, same, steps, long, s)

  -- AFTER A CYCLE that is heard and processed; that is processed; and any other.
  pub young_both : (since late : ℕ) → IsYoungSince since busy 1 late past → (is_some (open_in (begun_in v past)) ≡ true
      → is_some (processed_in v past) ≡ true) → (is_some (open_in (epoch_begun past)) ≡ true → is_some v.heard ≡ true)
      → IsYoungSince since busy 0 0 (v ∷ past)
  young_both since late y takes hears = record {
    new = λ some steps. absurd (none_new takes some steps);
    old = λ e log those some steps. (begun_by since 1 late (omega arith) y e log those some steps, busy_still hears e log those some steps);
  }

  pub young_taken : (since late : ℕ) → IsYoungSince since busy 1 late past → (is_some (open_in (begun_in v past)) ≡ true
      → is_some (processed_in v past) ≡ true) → IsYoungSince since busy 0 (late + 1) (v ∷ past)
  young_taken since late y takes = record {
    new = λ some steps. absurd (none_new takes some steps);
    old = λ e log those some steps. (
      begun_by since 1 late (omega arith) y e log those some steps,
      open_late_by since 1 late y e log those
          some steps,
    );
  }

  pub young_lost : (since late : ℕ) → IsYoungSince since busy 0 late past → IsYoungSince since busy 1 (late + 1) (v ∷ past)
  young_lost since late y = record {
    new = λ some steps. young_new since late y some steps;
    old = λ e log those some steps. (
      begun_by since 0 late (omega arith) y e log those some steps,
      open_late_by since 0 late y e log those
          some steps,
    );
  }

  -- And where a step is that was begun at any time, after a cycle that is heard and processed: it was accepted up to this one.
  pub young_first : (is_some (open_in (begun_in v past)) ≡ true → is_some (processed_in v past) ≡ true)
      → (is_some (open_in (epoch_begun past)) ≡ true → is_some v.heard ≡ true) → IsYoungSince (length (v ∷ past)) busy 0 0 (v ∷ past)
  young_first takes hears = record {
    new = λ some steps. absurd (none_new takes some steps);
    old = λ e log those some steps. (inr (soon e log those), busy_still hears e log those some steps);
  }

-- the answers are at most the accepted steps, and these at most those begun
pub few_answers : (begun : List Begun) (log : List Entry) → Counts begun log → length (answers_in begun) ≤ length log
few_answers begun log (NoneOpen none s a) = omega (arith, a)
few_answers begun log (NotTaken on s a) = omega (arith, a)
few_answers begun log (NotAnswered e rest those on s a) = omega (arith, a)

-- the log grows by one entry at most
pub grows_one : (busy : ℕ) (v : View) (past : List View) → IsRun busy (v ∷ past) → v.falls ≡ false → v.master_restarts ≡ false
    → length (epoch_log past) ≤ length (epoch_log (v ∷ past))
grows_one busy v past run stays goes_on = elim (grows busy v past run stays goes_on) [
  | inl same ↦ (let long = ap length same in omega (arith, long))
  | inr (x, more, cycle) ↦ (let long = ap length more in omega (arith, long))
]
