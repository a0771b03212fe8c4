-- In an epoch in which nothing is lost a channel is on time.
use Rattle.sercos_law_channel.proofs.Words.{cases_Bool, ◌≡◌, inl, inr, ℕ, ◌+◌, ◌*◌, ◌≤◌, false, List, [], ◌∷◌, length, refl, sym, ap, ◌∙◌, subst, arith, if◌then◌else◌, Option, Some, None, IfSome, is_some, cond-true, cond-false, Step, Answer, Entry, log_of, Begun, open_in, steps_in, answers_in, answers_it, AreInStep, Idle, Sent, Kept, log_steps, Heard, View, unless_restart, epoch_begun, begun_in, epoch_records, epoch_log, log_in, IsShown, time_for, one_more, open_cycles, IsOnTime, Rests, Waits, AreOnTime, AnswersOnTime, TakesTime, times_le, both_ways}
use Rattle.sercos_law_channel.proofs.Handshake.TransferSteps.{length-steps_of, length-replies_of}
use Rattle.sercos_law_channel.proofs.Handshake.EpochRuns.{joined, shown_of, in_step, begun_on, log_on}
use Rattle.sercos_law_channel.proofs.Handshake.HandshakeMoves.{quiet_none}
use Rattle.sercos_law_channel.proofs.Pace.InCycle.{in_cycle}
use Rattle.sercos_law_channel.proofs.Pace.OnTime.{one_waits, Starts, StartsFree, StartsBusy, Ends, AtRest, Waiting, late_answer}

-- there are as many steps as answers or more, and one more if one waits
pub in_step_counts : (begun : List Begun) (log : List Entry) → AreInStep begun log → length (answers_in begun) ≤ length (steps_in begun)
in_step_counts begun log (Idle none s a) = let x = ap length s in let y = ap length a in let n = length-steps_of log in let m = length-replies_of log in omega arith
in_step_counts begun log (Sent step opened s a) = let x = ap length s in let y = ap length a in let n = length-steps_of log in let m = length-replies_of log in omega arith
in_step_counts begun log (Kept e past opened is s a) = let x = ap length s in let y = ap length a in let z = ap length is in let n = length-steps_of log in let m = length-replies_of past in omega arith

pub waiting_counts : (begun : List Begun) (log : List Entry) → AreInStep begun log → (e : Entry) (past : List Entry) → log ≡ e ∷ past → open_in begun ≡ Some e.processed.step → steps_in begun ≡ log_steps log → length (answers_in begun) + 1 ≤ length (steps_in begun)
waiting_counts begun log h e past those opened all =
    let a = ap length (one_waits begun log h e past those opened all) in let s = ap length all in let z = ap length those in
    let n = length-steps_of log in let m = length-replies_of past in omega arith

abbrev Exactly : ℕ → ℕ → Type 0
Exactly spent time = spent ≡ time

abbrev spent_before : View → List View → ℕ
spent_before v past = if v.master_restarts then 0 else open_cycles past

module _ (busy : ℕ) where
  starts : (v : View) (past : List View) → (v.master_restarts ≡ false → IsOnTime busy past) → Starts Exactly busy (length past) (spent_before v past) (unless_restart v (epoch_begun past)) (log_of (unless_restart v (epoch_records past)))
  starts v past before = elim (cases_Bool v.master_restarts) [
    | inl on ↦ rw on (StartsFree refl refl)
    | inr off ↦ let before = rw off at before in rw off (going (before refl))
  ]
    where
      going : IsOnTime busy past → Starts Exactly busy (length past) (open_cycles past) (epoch_begun past) (epoch_log past)
      going (Rests none is) = StartsFree none is
      going (Waits e log those opened all earlier late sum) = StartsBusy e log those opened all earlier (λ due. omega arith) sum

  after_cycle : (v : View) (past : List View) → v.falls ≡ false → Ends Exactly busy (length past) (spent_before v past) (begun_in v past) (log_in v past) → IsOnTime busy (v ∷ past)
  after_cycle v past on is = by is
    where
      spent : open_cycles (v ∷ past) ≡ one_more (is_some (open_in (begun_in v past))) (spent_before v past)
      spent = cond-false v.falls 0 _ on

      by : Ends Exactly busy (length past) (spent_before v past) (begun_in v past) (log_in v past) → IsOnTime busy (v ∷ past)
      by (AtRest none is) =
          Rests (ap open_in (begun_on v past on) ∙ none) (spent ∙ ap (λ (o : Option Step). one_more (is_some o) (spent_before v past)) none ∙ is ∙ ap (λ (l : List Begun). time_for busy (answers_in l)) (sym (begun_on v past on)))
      by (Waiting e log those opened all earlier late sum) =
          let open_one : open_cycles (v ∷ past) ≡ spent_before v past + 1 = spent ∙ ap (λ (o : Option Step). one_more (is_some o) (spent_before v past)) opened in
          let same : time_for busy (answers_in (epoch_begun (v ∷ past))) ≡ time_for busy (answers_in (begun_in v past)) = ap (λ (l : List Begun). time_for busy (answers_in l)) (begun_on v past on) in
          Waits e log (log_on v past on ∙ those) (ap open_in (begun_on v past on) ∙ opened) (ap steps_in (begun_on v past on) ∙ all ∙ ap log_steps (sym (log_on v past on))) (omega arith) (omega arith) (omega arith)

  pub on_time : AreOnTime busy
  on_time [] run whole = Rests refl refl
  on_time (v ∷ past) run whole = elim (cases_Bool v.falls) [
    | inl fell ↦
        let none = cond-true v.falls [] (begun_in v past) fell in
        let spent = cond-true v.falls 0 (one_more (is_some (open_in (begun_in v past))) (spent_before v past)) fell in
        Rests (ap open_in none) (spent ∙ ap (λ (l : List Begun). time_for busy (answers_in l)) (sym none))
    | inr on ↦ after_cycle v past on (in_cycle Exactly (λ a b n same. ap (λ (m : ℕ). m + n) same) busy v past (spent_before v past)
        run (whole on).0 (starts v past (λ still. on_time past run.0 ((whole on).1 still))))
  ]

  -- and an answer comes when it is due
  pub answers_on_time : AnswersOnTime busy
  answers_on_time v past a run whole hears takes = by (on_time past run.0 whole)
    where
      still : v.master_restarts ≡ false
      still = elim (cases_Bool v.master_restarts) [ inl on ↦ let on = rw on at takes in absurd (cc) | inr off ↦ rw off refl ]

      begun : unless_restart v (epoch_begun past) ≡ epoch_begun past
      begun = cond-false v.master_restarts [] (epoch_begun past) still

      by : IsOnTime busy past → (e : Entry) × (log : List Entry) × (epoch_log past ≡ e ∷ log) × (length past ≡ e.processed.cycle + (busy + 1))
      by (Rests none is) = absurd (both_ways (answers_it (unless_restart v (epoch_begun past)) a.status) (quiet_none (unless_restart v (epoch_begun past)) a.status (ap open_in begun ∙ none)) takes)
      by (Waits e log those opened all earlier late sum) = elim (shown_of busy v past run (joined busy past run.0) a
          (subst (λ (o : Option Heard). IfSome o (λ x. IsShown busy x v past)) hears run.1.heard)) [
            | inl none ↦ let free : open_in (epoch_begun past) ≡ None = ap open_in (sym begun) ∙ ap open_in none in absurd (cc)
            | inr says ↦
                let due = late_answer busy (length past) v.showing a.status a.word (unless_restart v (epoch_begun past))
                (unless_restart v (epoch_records past)) e log says
                (ap log_of (cond-false v.master_restarts [] (epoch_records past) still) ∙ those) takes earlier in
                (e, log, those, omega arith)
          ]

pub time_of : (busy : ℕ) (answers : List Answer) → time_for busy answers ≡ (busy + 1) * length answers
time_of busy [] = omega arith
time_of busy (a ∷ answers) = let before = time_of busy answers in grind arith

pub one_more_time : (busy n : ℕ) → (busy + 1) * (n + 1) ≡ (busy + 1) * n + (busy + 1)
one_more_time busy n = grind arith

pub takes_time : (busy : ℕ) → TakesTime busy
takes_time busy past run whole = elim (on_time busy past run whole) [
  | Rests none is ↦
      let count = in_step_counts (epoch_begun past) (epoch_log past) (in_step busy past run) in
      let time = time_of busy (answers_in (epoch_begun past)) in
      let le = times_le (busy + 1) (length (answers_in (epoch_begun past))) (length (steps_in (epoch_begun past))) count in omega arith
  | Waits e log those opened all earlier late sum ↦
      let count = waiting_counts (epoch_begun past) (epoch_log past) (in_step busy past run) e log those opened all in
      let time = time_of busy (answers_in (epoch_begun past)) in
      let one : (busy + 1) * (length (answers_in (epoch_begun past)) + 1) ≡ (busy + 1) * length (answers_in (epoch_begun past)) + (busy + 1) = one_more_time busy (length (answers_in (epoch_begun past))) in
      let le = times_le (busy + 1) (length (answers_in (epoch_begun past)) + 1) (length (steps_in (epoch_begun past))) count in omega arith
]
