-- If nothing is lost, an open step is exactly as old as its entry.
use Rattle.sercos_law_channel.proofs.Words.{◌≡◌, inl, inr, ℕ, suc, ◌+◌, Bool, true, false, List, [], ◌∷◌, ◌++◌, length, sym, ap, ◌∙◌, arith, if◌then◌else◌, ◌==◌, None, is_some, cond-true, cond-false, eq-eqb, ne_eqb, Entry, Begun, open_in, steps_in, answers_in, answers_it, log_steps, replies_of, View, unless_restart, epoch_begun, begun_in, epoch_log, log_in, IsRun, one_more, time_for, open_cycles, AreUndisturbed, IsOnTime, Rests, Waits, IsClean, AreClean, BeginsEpoch, age_in, AnswersAtAge, and_left, both_ways}
use Rattle.sercos_law_channel.proofs.Handshake.TransferSteps.{length-steps_of}
use Rattle.sercos_law_channel.proofs.Handshake.EpochRuns.{in_step, begun_on, log_on, unless_restart-on}
use Rattle.sercos_law_channel.proofs.Pace.OnTime.{one_waits}
use Rattle.sercos_law_channel.proofs.Pace.OnTimeRuns.{on_time, answers_on_time}
use Rattle.sercos_law_channel.proofs.Pace.EpochBegins.{run_after, none_begun, Early, early_in}
use Rattle.sercos_law_channel.proofs.Pace.AgeRuns.{log_grows, aged_open, undisturbed_on}
use Rattle.sercos_law_channel.proofs.Handshake.HandshakeMoves.{idle_all}

-- in an epoch that is on time all steps that were begun are accepted
all_accepted : (busy : ℕ) (past : List View) → IsRun busy past → IsOnTime busy past → steps_in (epoch_begun past) ≡ log_steps (epoch_log past)
all_accepted busy past run (Waits e log those opened all earlier late sum) = all
all_accepted busy past run (Rests none is) = (idle_all (epoch_begun past) (epoch_log past) (in_step busy past run) none).0

module _ (busy : ℕ) where
  abbrev IsOld : List View → Type 0
  IsOld all = (e : Entry) (log : List Entry) → epoch_log all ≡ e ∷ log → is_some (open_in (epoch_begun all)) ≡ true → age_in all + e.processed.cycle ≡ length all

  -- one cycle more
  old_by : (v : View) (all : List View) → IsRun busy (v ∷ all) → IsClean v all → IsOnTime busy (v ∷ all) → IsOnTime busy all → (is_some (open_in (epoch_begun all)) ≡ true → IsOld all) → IsOld (v ∷ all)
  old_by v all run clean now then_ old e log those some = elim (log_grows v all clean.goes_on) [
    | inl stays ↦ stayed stays then_
    | inr (x, grows, at) ↦
        let entry : x ≡ e = (let one : x ∷ epoch_log all ≡ e ∷ log = sym grows ∙ sym (log_on v all clean.stays) ∙ those in cc) in
        let more : length (epoch_log (v ∷ all)) ≡ suc (length (epoch_log all)) = ap length (log_on v all clean.stays ∙ grows) in
        let off : (length (steps_in (begun_in v all)) == length (steps_in (unless_restart v (epoch_begun all)))) ≡ false = ne_eqb _ _ (λ is. omega (arith, is, more, count_now, count_then)) in
        let age : age_in (v ∷ all) ≡ 1 = aged_open busy v all all clean some ∙ cond-false _ (age_in all + 1) 1 off in
        omega (arith, ap (λ (y : Entry). y.processed.cycle) entry, at, age)
  ]
    where
      count_now : length (steps_in (begun_in v all)) ≡ length (epoch_log (v ∷ all))
      count_now = ap (λ (l : List Begun). length (steps_in l)) (sym (begun_on v all clean.stays)) ∙ ap length (all_accepted busy (v ∷ all) run now) ∙ length-steps_of (epoch_log (v ∷ all))

      count_then : length (steps_in (unless_restart v (epoch_begun all))) ≡ length (epoch_log all)
      count_then = ap (λ (l : List Begun). length (steps_in l)) (unless_restart-on v (epoch_begun all) clean.goes_on) ∙ ap length (all_accepted busy all run.0 then_) ∙ length-steps_of (epoch_log all)

      stayed : log_in v all ≡ epoch_log all → IsOnTime busy all → age_in (v ∷ all) + e.processed.cycle ≡ length (v ∷ all)
      stayed stays (Waits f rest were opened steps earlier late sum) =
          let entry : f ≡ e = (let one : f ∷ rest ≡ e ∷ log = sym were ∙ sym stays ∙ sym (log_on v all clean.stays) ∙ those in cc) in
          let long : length (epoch_log (v ∷ all)) ≡ length (epoch_log all) = ap length (log_on v all clean.stays ∙ stays) in
          let on : (length (steps_in (begun_in v all)) == length (steps_in (unless_restart v (epoch_begun all)))) ≡ true = eq-eqb _ _ (count_now ∙ long ∙ sym count_then) in
          let age : age_in (v ∷ all) ≡ age_in all + 1 = aged_open busy v all all clean some ∙ cond-true _ (age_in all + 1) 1 on in
          omega (arith, ap (λ (y : Entry). y.processed.cycle) entry, age, old (ap is_some opened) f rest were (ap is_some opened))
      stayed stays (Rests none is) = absurd (never now)
        where
          never : IsOnTime busy (v ∷ all) → ⊥
          never (Rests off more) = both_ways _ (ap is_some off) some
          never (Waits g rest were opened steps earlier late sum) =
              let here : epoch_log all ≡ g ∷ rest = sym stays ∙ sym (log_on v all clean.stays) ∙ were in
              let waiting : answers_in (epoch_begun (v ∷ all)) ≡ replies_of rest = one_waits (epoch_begun (v ∷ all)) (epoch_log (v ∷ all)) (in_step busy (v ∷ all) run) g rest were opened steps in
              let done : answers_in (epoch_begun all) ≡ g.answer ∷ replies_of rest = (idle_all (epoch_begun all) (epoch_log all) (in_step busy all run.0) none).1 ∙ ap replies_of here in
              let at : is_some (open_in (begun_in v all)) ≡ true = ap (λ (l : List Begun). is_some (open_in l)) (sym (begun_on v all clean.stays)) ∙ some in
              let spent : open_cycles (v ∷ all) ≡ open_cycles all + 1 =
              cond-false v.falls 0 _ clean.stays ∙ ap (λ (b : Bool). one_more b (if v.master_restarts then 0 else open_cycles all)) at ∙ ap (λ (n : ℕ). n + 1) (cond-false v.master_restarts 0 (open_cycles all) clean.goes_on) in
              omega (arith, sum, is, ap (time_for busy) waiting, ap (time_for busy) done, spent, late)

  olds : (cycles past : List View) → IsRun busy (cycles ++ past) → BeginsEpoch past → AreClean cycles past → AreUndisturbed past → IsOld (cycles ++ past)
  olds [] past run begins clean still = λ e log those some. let none : open_in (epoch_begun past) ≡ None = ap open_in (none_begun busy past run begins) in absurd (cc)
  olds (v ∷ cycles) past run begins clean still =
      old_by v (cycles ++ past) run clean.1 (on_time busy (v ∷ (cycles ++ past)) run (undisturbed_on busy (v ∷ cycles) past clean still)) (on_time busy (cycles ++ past) run.0 (undisturbed_on busy cycles past clean.0 still))
      (λ some. olds cycles past run.0 begins clean.0 still)

  -- nothing is lost before phase 1
  begins_whole : (past : List View) → IsRun busy past → BeginsEpoch past → AreUndisturbed past
  begins_whole [] run begins = tt
  begins_whole (u ∷ past) run begins = λ on.
      let early : Early u past = early_in busy u past run begins on in (
        record {
          hears = λ some. let none : open_in (unless_restart u (epoch_begun past)) ≡ None = ap open_in early.kept in absurd (cc);
          takes = λ some. let none : open_in (begun_in u past) ≡ None = ap open_in early.begun in absurd (cc);
        },
        λ goes_on. begins_whole past run.0 (early.before goes_on),
      )

  pub answers_at_age : AnswersAtAge busy
  answers_at_age v a cycles past run begins clean goes_on hears takes =
      let still = begins_whole past (run_after busy cycles past run.0) begins in
      let same : unless_restart v (epoch_begun (cycles ++ past)) ≡ epoch_begun (cycles ++ past) = cond-false v.master_restarts [] (epoch_begun (cycles ++ past)) goes_on in
      let got = answers_on_time busy v (cycles ++ past) a run (undisturbed_on busy cycles past clean still) hears (ap (λ (l : List Begun). answers_it l a.status) same ∙ takes) in
      let old = olds cycles past run.0 begins clean still got.0 got.1 got.2 (and_left (is_some (open_in (epoch_begun (cycles ++ past)))) _ takes) in
      let late = got.3 in omega (arith, old, late)
