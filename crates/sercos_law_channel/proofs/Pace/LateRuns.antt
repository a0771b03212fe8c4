-- In a stretch in which nothing is lost a channel is in time.
use Rattle.sercos_law_channel.proofs.Words.{inr, inl, cases_Bool, ◌≡◌, ℕ, suc, ◌+◌, ◌*◌, ◌<◌, ◌≤◌, Bool, true, false, List, [], ◌∷◌, ◌++◌, length, refl, sym, ap, ◌∙◌, arith, if◌then◌else◌, Option, is_some, beq, Step, Processed, Entry, reply_of, log_of, Begun, open_in, steps_in, answers_in, is_odd, log_steps, View, with_record, epoch_begun, begun_in, epoch_records, records_in_views, epoch_log, log_in, IsRun, time_for, one_more, IsClean, open_since, spent_since, IsInTime, RestsNow, WaitsNow, ComesInTime, TakesTimeSince, cond_both, times_le, unless_restart}
use Rattle.sercos_law_channel.proofs.Handshake.HandshakeMoves.{log-taken}
use Rattle.sercos_law_channel.proofs.Handshake.PhaseMoves.{of_processed}
use Rattle.sercos_law_channel.proofs.Handshake.EpochRuns.{in_step, begun_on, log_on}
use Rattle.sercos_law_channel.proofs.Pace.OnTimeRuns.{in_step_counts, waiting_counts, time_of, one_more_time}
use Rattle.sercos_law_channel.proofs.Pace.LateMoves.{InTime, any_start}
use Rattle.sercos_law_channel.proofs.Pace.InCycle.{in_cycle}
use Rattle.sercos_law_channel.proofs.Pace.OnTime.{Starts, StartsFree, StartsBusy, Ends, AtRest, Waiting}

-- the records of the epoch came before now
abbrev pub AreBefore : ℕ → List Processed → Type 0
AreBefore cycle [] = Unit {0}
AreBefore cycle (t ∷ h) = AreBefore cycle h × (t.cycle < cycle)

later : (n k : ℕ) (h : List Processed) → n ≤ k → AreBefore n h → AreBefore k h
later n k [] le are = tt
later n k (t ∷ h) le are = (later n k h le are.0, (let less = are.1 in omega arith))

pub taken_before : (past : List View) → AreBefore (length past) (epoch_records past)
taken_before [] = tt
taken_before (v ∷ past) =
    let old = cond_both v.master_restarts [] (epoch_records past) (AreBefore (suc (length past))) (λ on. tt)
    (λ off. later (length past) (suc (length past)) (epoch_records past) (omega arith) (taken_before past)) in
    cond_both v.falls [] (records_in_views v past) (AreBefore (suc (length past))) (λ fell. tt)
    (λ on. of_processed v past (λ o. AreBefore (suc (length past)) (with_record o (unless_restart v (epoch_records past)))) old
    (λ s got came two. (old, omega arith)))

pub head_before : (n : ℕ) (h : List Processed) → AreBefore n h → (e : Entry) (past : List Entry) → log_of h ≡ e ∷ past → e.processed.cycle < n
head_before n [] are e past those = absurd (cc)
head_before n (t ∷ h) are e past those = by (beq t.mhs (is_odd (log_of h))) refl (sym (log-taken t h) ∙ those) (head_before n h are.0 e past)
  where
    by : (v : Bool) → beq t.mhs (is_odd (log_of h)) ≡ v → (if v then log_of h else (record { processed = t; answer = reply_of t (log_of h) }) ∷ log_of h) ≡ e ∷ past → (log_of h ≡ e ∷ past → e.processed.cycle < n) → e.processed.cycle < n
    by true is same before = before same
    by false is same before = let first : t ≡ e.processed = cc in let less = are.1 in let c = ap (λ (x : Processed). x.cycle) first in omega arith

module _ (busy : ℕ) where
  -- one cycle
  in_one : (v : View) (past : List View) (spent : ℕ) → IsRun busy (v ∷ past) → IsClean v past → Starts InTime busy (length past) spent (epoch_begun past) (epoch_log past) → Ends InTime busy (length past) spent (begun_in v past) (log_in v past)
  in_one v past spent run clean before = in_cycle InTime (λ a b n less. omega (arith, less)) busy v past spent run clean.undisturbed
      (elim (cases_Bool v.master_restarts) [ inl on ↦ let on = rw on at clean.goes_on in absurd (cc) | inr off ↦ rw off before ])

  after_cycle : (v : View) (cycles past : List View) → v.falls ≡ false → Ends InTime busy (length (cycles ++ past)) (spent_since busy cycles past) (begun_in v (cycles ++ past)) (log_in v (cycles ++ past)) → IsInTime busy (v ∷ cycles) past
  after_cycle v cycles past on is = by is
    where
      same : time_for busy (answers_in (epoch_begun (v ∷ (cycles ++ past)))) ≡ time_for busy (answers_in (begun_in v (cycles ++ past)))
      same = ap (λ (l : List Begun). time_for busy (answers_in l)) (begun_on v (cycles ++ past) on)

      by : Ends InTime busy (length (cycles ++ past)) (spent_since busy cycles past) (begun_in v (cycles ++ past)) (log_in v (cycles ++ past)) → IsInTime busy (v ∷ cycles) past
      by (AtRest none is) =
          let spent : open_since (v ∷ cycles) past ≡ open_since cycles past = ap (λ (o : Option Step). one_more (is_some o) (open_since cycles past)) none in
          RestsNow (ap open_in (begun_on v (cycles ++ past) on) ∙ none) (omega (arith, same))
      by (Waiting e log those opened all earlier late sum) =
          let spent : open_since (v ∷ cycles) past ≡ open_since cycles past + 1 = ap (λ (o : Option Step). one_more (is_some o) (open_since cycles past)) opened in
          WaitsNow e log (log_on v (cycles ++ past) on ∙ those) (ap open_in (begun_on v (cycles ++ past) on) ∙ opened) (ap steps_in
          (begun_on v (cycles ++ past) on) ∙ all ∙ ap log_steps (sym (log_on v (cycles ++ past) on))) (omega arith) (omega arith)
          (omega (arith, same))

  start_of : (cycles past : List View) → IsInTime busy cycles past → Starts InTime busy (length (cycles ++ past)) (spent_since busy cycles past) (epoch_begun (cycles ++ past)) (epoch_log (cycles ++ past))
  start_of cycles past (RestsNow none is) = StartsFree none is
  start_of cycles past (WaitsNow e log those opened all earlier late sum) = StartsBusy e log those opened all earlier (λ due. omega arith) sum

  pub comes_in_time : ComesInTime busy
  comes_in_time v [] past run clean =
      let start = any_start busy (length past) (spent_since busy [] past) (epoch_begun past) (epoch_log past) (omega arith) (in_step busy past run.0) (head_before (length past) (epoch_records past) (taken_before past)) in
      after_cycle v [] past clean.1.stays (in_one v past (spent_since busy [] past) run clean.1 start)
  comes_in_time v (u ∷ cycles) past run clean =
      after_cycle v (u ∷ cycles) past clean.1.stays (in_one v (u ∷ (cycles ++ past)) (spent_since busy (u ∷ cycles) past) run clean.1 (start_of (u ∷ cycles) past (comes_in_time u cycles past run.0 clean.0)))

  pub takes_time_since : TakesTimeSince busy
  takes_time_since [] past run clean = let le = times_le (busy + 1) (length (answers_in (epoch_begun past))) (length (steps_in (epoch_begun past))) (in_step_counts (epoch_begun past) (epoch_log past) (in_step busy past run)) in omega arith
  takes_time_since (v ∷ cycles) past run clean = by (comes_in_time v cycles past run clean)
    where
      then_ : time_for busy (answers_in (epoch_begun past)) ≡ (busy + 1) * length (answers_in (epoch_begun past))
      then_ = time_of busy (answers_in (epoch_begun past))

      by : IsInTime busy (v ∷ cycles) past → open_since (v ∷ cycles) past + (busy + 1) * length (answers_in (epoch_begun past)) ≤ (busy + 1) * length (steps_in (epoch_begun (v ∷ (cycles ++ past))))
      by (RestsNow none is) =
          let count = in_step_counts (epoch_begun (v ∷ (cycles ++ past))) (epoch_log (v ∷ (cycles ++ past))) (in_step busy (v ∷ (cycles ++ past)) run) in
          let time = time_of busy (answers_in (epoch_begun (v ∷ (cycles ++ past)))) in
          let le = times_le (busy + 1) (length (answers_in (epoch_begun (v ∷ (cycles ++ past))))) (length (steps_in (epoch_begun (v ∷ (cycles ++ past))))) count in omega (arith, then_)
      by (WaitsNow e log those opened all earlier late sum) =
          let count = waiting_counts (epoch_begun (v ∷ (cycles ++ past))) (epoch_log (v ∷ (cycles ++ past))) (in_step busy (v ∷ (cycles ++ past)) run) e log those opened all in
          let time = time_of busy (answers_in (epoch_begun (v ∷ (cycles ++ past)))) in
          let one = one_more_time busy (length (answers_in (epoch_begun (v ∷ (cycles ++ past))))) in
          let le = times_le (busy + 1) (length (answers_in (epoch_begun (v ∷ (cycles ++ past)))) + 1) (length (steps_in (epoch_begun (v ∷ (cycles ++ past))))) count in omega (arith, then_)
