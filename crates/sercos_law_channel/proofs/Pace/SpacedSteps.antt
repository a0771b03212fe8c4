-- The steps that a drive accepts are busy time and one apart.
use Rattle.sercos_law_channel.proofs.Words.{cases_Bool, ◌≡◌, inl, inr, ℕ, suc, ◌+◌, ◌<◌, ◌≤◌, Bool, true, false, List, [], ◌∷◌, length, refl, sym, ap, ◌∙◌, subst, arith, if◌then◌else◌, Option, Some, None, IfSome, beq, Answer, Request, Processed, Entry, reply_of, log_of, channel_says, shown_by, Begun, steps_in, answers_in, is_odd, answers_it, answer_in, with_answer, master_says, AreInStep, Idle, Sent, Kept, replies_of, said_in, with_processed, Heard, View, standing, stood_in, record_in, with_record, with_heard, with_begun, unless_restart, epoch_begun, begun_in, epoch_records, records_in_views, epoch_log, log_in, IsShown, IsRun, AreSpaced, SpacesSteps}
use Rattle.sercos_law_channel.proofs.Handshake.HandshakeMoves.{said_bit, parity, log-taken, beq-self}
use Rattle.sercos_law_channel.proofs.Handshake.PhaseMoves.{uncut, of_processed}
use Rattle.sercos_law_channel.proofs.Handshake.EpochRuns.{joined, restarted, shown_of, heard_of, begun_of, said_of, in_step}
use Rattle.sercos_law_channel.proofs.Handshake.OnePhase.{no_longer}
use Rattle.sercos_law_channel.proofs.Pace.OnTime.{late_answer}
use Rattle.sercos_law_channel.proofs.Pace.LateRuns.{head_before, taken_before}

-- These steps are apart; and if all answers were taken, the last step is as long ago.
record IsSpaced (busy c : ℕ) (begun : List Begun) (log : List Entry) : Type 0 where
  spaced : AreSpaced busy log
  due : answers_in begun ≡ replies_of log → (e : Entry) (past : List Entry) → log ≡ e ∷ past → e.processed.cycle + (busy + 1) ≤ c

nothing_spaced : (busy c : ℕ) (begun : List Begun) → IsSpaced busy c begun []
nothing_spaced busy c begun = record { spaced = tt; due = λ all e past those. absurd (cc) }

with_one : (busy : ℕ) (x : Entry) (log : List Entry) → AreSpaced busy log → ((e : Entry) (past : List Entry) → log ≡ e ∷ past → e.processed.cycle + (busy + 1) ≤ x.processed.cycle) → AreSpaced busy (x ∷ log)
with_one busy x [] are due = tt
with_one busy x (e ∷ log) are due = (are, due e log refl)

never_all : (begun : List Begun) (log : List Entry) (x : Entry) → AreInStep begun log → answers_in begun ≡ replies_of (x ∷ log) → ⊥
never_all begun log x (Idle none s a) all = no_longer x.answer (replies_of log) (sym all ∙ a)
never_all begun log x (Sent step opened s a) all = no_longer x.answer (replies_of log) (sym all ∙ a)
never_all begun log x (Kept e past opened those s a) all =
    let shorter : x.answer ∷ e.answer ∷ replies_of past ≡ replies_of past = ap (λ (l : List Entry). x.answer ∷ replies_of l) (sym those) ∙ sym all ∙ a in
    let long : suc (suc (length (replies_of past))) ≡ length (replies_of past) = ap length shorter in absurd (omega arith)

taken_spaced : (busy c : ℕ) (begun : List Begun) (log : List Entry) (t : Processed) (answer : Answer) → AreInStep begun log → said_in t ≡ master_says begun → t.cycle ≡ c → IsSpaced busy c begun log → IsSpaced busy c begun (with_processed t answer log)
taken_spaced busy c begun log t answer h says at is = elim (cases_Bool (beq t.mhs (is_odd log))) [
  | inl same ↦ rw same is
  | inr other ↦ rw other (let x : Entry = record { processed = t; answer = answer } in record {
    spaced = with_one busy x log is.spaced (λ e past those. let d = is.due (answered h other) e past those in omega (arith, at));
    due = λ all. absurd (never_all begun log x h all);
  })
]
  where
    answered : AreInStep begun log → beq t.mhs (is_odd log) ≡ false → answers_in begun ≡ replies_of log
    answered (Idle none s a) other = a
    answered (Sent step opened s a) other = a
    answered (Kept e past opened those s a) other =
        let same : beq t.mhs (is_odd log) ≡ true = ap (λ (b : Bool). beq b (is_odd log)) (said_bit t begun says ∙ parity (steps_in begun) log s) ∙ beq-self (is_odd log) in absurd (cc)

module _ (busy : ℕ) where
  heard_spaced : (v : View) (past : List View) → IsRun busy (v ∷ past) → (o : Option Heard) → IfSome o (λ a. IsShown busy a v past) → ((e : Entry) (log : List Entry) → log_of (unless_restart v (epoch_records past)) ≡ e ∷ log → e.processed.cycle < length past) →
      IsSpaced busy (length past) (unless_restart v (epoch_begun past)) (log_of (unless_restart v (epoch_records past))) → IsSpaced busy (length past) (with_heard o (unless_restart v (epoch_begun past))) (log_of (unless_restart v (epoch_records past)))
  heard_spaced v past run None shown earlier is = is
  heard_spaced v past run (Some a) shown earlier is = elim (shown_of busy v past run (joined busy past run.0) a shown) [
    | inl none ↦ subst (λ (b : List Begun). IsSpaced busy (length past) b (log_of (unless_restart v (epoch_records past)))) (sym (ap (with_heard (Some a)) none ∙ sym none)) is
    | inr says ↦ record {
      spaced = is.spaced;
      due = λ all e log those. by (answers_it (unless_restart v (epoch_begun past)) a.status) refl all e log those says;
    }
  ]
    where
      by : (b : Bool) → answers_it (unless_restart v (epoch_begun past)) a.status ≡ b → answers_in (if b then with_answer (answer_in a.status a.word) (unless_restart v (epoch_begun past)) else unless_restart v (epoch_begun past)) ≡ replies_of (log_of (unless_restart v (epoch_records past))) →
          (e : Entry) (log : List Entry) → log_of (unless_restart v (epoch_records past)) ≡ e ∷ log → shown_by a.status a.word ≡ channel_says busy (length past) v.showing (unless_restart v (epoch_records past)) → e.processed.cycle + (busy + 1) ≤ length past
      by true takes all e log those says = late_answer busy (length past) v.showing a.status a.word (unless_restart v (epoch_begun past)) (unless_restart v (epoch_records past)) e log says those takes (earlier e log those)
      by false off all e log those says = is.due all e log those

  begun_spaced : (o : Option Request) (c : ℕ) (begun : List Begun) (log : List Entry) → IsSpaced busy c begun log → IsSpaced busy c (with_begun o begun) log
  begun_spaced None c begun log is = is
  begun_spaced (Some r) c begun log is = record { spaced = is.spaced; due = is.due }

  in_cycle : (v : View) (past : List View) → IsRun busy (v ∷ past) → IsSpaced busy (length past) (epoch_begun past) (epoch_log past) → IsSpaced busy (length past) (begun_in v past) (log_in v past)
  in_cycle v past run before =
      let taken = unless_restart v (epoch_records past) in
      let h0 = restarted busy v (epoch_begun past) (epoch_records past) (in_step busy past run.0) in
      let h1 = heard_of busy v past run (joined busy past run.0) v.heard run.1.heard h0 in
      let h2 = begun_of busy v.begins (with_heard v.heard (unless_restart v (epoch_begun past))) taken run.1.begins h1 in
      let start = uncut (λ b t. IsSpaced busy (length past) b (log_of t)) v.master_restarts (epoch_begun past) (epoch_records past)
      (nothing_spaced busy (length past) []) (λ still. before) in
      let first = heard_spaced v past run v.heard run.1.heard (earlier v.master_restarts) start in
      let second = begun_spaced v.begins (length past) (with_heard v.heard (unless_restart v (epoch_begun past))) (log_of taken) first in
      of_processed v past (λ o. IsSpaced busy (length past) (begun_in v past) (log_of (with_record o taken))) second (λ s got came two.
      let t : Processed = record_in v (length past) (stood_in v (standing past)) s in
      subst (IsSpaced busy (length past) (begun_in v past)) (sym (log-taken t taken))
      (taken_spaced busy (length past) (begun_in v past) (log_of taken) t (reply_of t (log_of taken)) h2
      (said_of busy v past run.1.sent s got) refl second))
    where
      earlier : (r : Bool) (e : Entry) (log : List Entry) → log_of (if r then [] else epoch_records past) ≡ e ∷ log → e.processed.cycle < length past
      earlier true e log those = absurd (cc)
      earlier false e log those = head_before (length past) (epoch_records past) (taken_before past) e log those

  spaced_in : (past : List View) → IsRun busy past → IsSpaced busy (length past) (epoch_begun past) (epoch_log past)
  spaced_in [] run = nothing_spaced busy 0 []
  spaced_in (v ∷ past) run =
      uncut (λ b t. IsSpaced busy (suc (length past)) b (log_of t)) v.falls (begun_in v past) (records_in_views v past)
      (nothing_spaced busy (suc (length past)) [])
      (λ on. let is = in_cycle v past run (spaced_in past run.0) in
      record { spaced = is.spaced; due = λ all e log those. let due = is.due all e log those in omega (arith, due) })

  pub spaces_steps : SpacesSteps busy
  spaces_steps past run = (spaced_in past run).spaced
