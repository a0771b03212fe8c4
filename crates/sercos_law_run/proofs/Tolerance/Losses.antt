-- How long a channel is at work in a stretch of which something is lost.
use Rattle.sercos_law_run.proofs.Words.{◌≡◌, inl, inr, ℕ, suc, ◌+◌, ◌*◌, ◌≤◌, Bool, true, false, not, ◌&&◌, ◌||◌, List, [], ◌∷◌, ◌++◌, length, Option, refl, sym, ap, ◌∙◌, arith, is_some, cond-false, false≢true, Step, times_le, Entry, Begun, answers_in, open_in, begun_in, epoch_begun, epoch_log, epoch_records, unless_restart, View, processed_in, open_since, one_more, in_step, start, start_begun, head_before, taken_before, GoesOn, TakesTimeAndLosses, loses_step, lost_since, cases_Bool, AreClean, ap₂}
use Rattle.sercos_law_channel.specs.Handshake.Runs.{IsRun}
use Rattle.sercos_law_run.proofs.Tolerance.Steps.{Counts, NoneOpen, NotAnswered, NotTaken, begun_is, busy_still, counts, grows, none_new, grows_one, waits_from}
use Rattle.sercos_law_run.proofs.Undisturbed.Sections.{more_or_same}

-- If nothing is lost, an open step is heard, and processed.
heard_if : (a h b p : Bool) → ((a && not h) || (b && not p)) ≡ false → a ≡ true → h ≡ true
heard_if true true b p off on = refl
heard_if true false b p off on = absurd (false≢true (sym off))
heard_if false h b p off on = absurd (false≢true on)

taken_if : (a h b p : Bool) → ((a && not h) || (b && not p)) ≡ false → b ≡ true → p ≡ true
taken_if a h b true off on = refl
taken_if true true true false off on = absurd (false≢true (sym off))
taken_if true false true false off on = absurd (false≢true (sym off))
taken_if false h true false off on = absurd (false≢true (sym off))
taken_if a h false false off on = absurd (false≢true on)

pub more_if : (b : Bool) (n : ℕ) → b ≡ true → one_more b n ≡ n + 1
more_if true n on = refl
more_if false n on = absurd (false≢true on)

pub same_if : (b : Bool) (n : ℕ) → b ≡ false → one_more b n ≡ n
same_if true n off = absurd (false≢true (sym off))
same_if false n off = refl

-- A cycle of which nothing is lost
kept_by : (a h b p : Bool) → (a ≡ true → h ≡ true) → (b ≡ true → p ≡ true) → ((a && not h) || (b && not p)) ≡ false
kept_by true true true true hears takes = refl
kept_by true true true false hears takes = absurd (false≢true (takes refl))
kept_by true true false p hears takes = refl
kept_by true false b p hears takes = absurd (false≢true (hears refl))
kept_by false h true true hears takes = refl
kept_by false h true false hears takes = absurd (false≢true (takes refl))
kept_by false h false p hears takes = refl

pub none_lost_in : (v : View) (past : List View) → v.master_restarts ≡ false
    → (is_some (open_in (epoch_begun past)) ≡ true → is_some v.heard ≡ true)
    → (is_some (open_in (begun_in v past)) ≡ true → is_some (processed_in v past) ≡ true) → loses_step v past ≡ false
none_lost_in v past goes_on hears takes =
    kept_by (is_some (open_in (unless_restart v (epoch_begun past)))) (is_some v.heard) (is_some (open_in (begun_in v past)))
    (is_some (processed_in v past))
    (λ on. hears (ap (λ (l : List Begun). is_some (open_in l)) (sym (cond-false v.master_restarts [] (epoch_begun past) goes_on)) ∙ on))
    takes

-- in clean cycles nothing is
pub none_lost_since : (cycles past : List View) → AreClean cycles past → lost_since cycles past ≡ 0
none_lost_since [] past clean = refl
none_lost_since (v ∷ cycles) past clean =
    ap₂ one_more (kept_by (is_some (open_in (unless_restart v (epoch_begun (cycles ++ past))))) (is_some v.heard)
    (is_some (open_in (begun_in v (cycles ++ past)))) (is_some (processed_in v (cycles ++ past))) clean.1.undisturbed.hears
    clean.1.undisturbed.takes) (none_lost_since cycles past clean.0)

pub early_kept : (busy : ℕ) (v : View) (past : List View) → IsRun busy (v ∷ past) → v.phase ≤ 1 → loses_step v past ≡ false
early_kept busy v past run early =
    let none = (start busy v past run early).0 in
    kept_by (is_some (open_in (unless_restart v (epoch_begun past)))) (is_some v.heard) (is_some (open_in (begun_in v past)))
    (is_some (processed_in v past)) (λ on. absurd (false≢true (sym (ap (λ (l : List Begun). is_some (open_in l)) none) ∙ on)))
    (λ on. absurd (false≢true (sym (ap (λ (l : List Begun). is_some (open_in l)) (start_begun busy v past run.1 early none)) ∙ on)))

module _ (busy : ℕ) where
  more : (n : ℕ) → (busy + 1) * suc n ≡ (busy + 1) * n + (busy + 1)
  more n = grind arith

  -- The cycles with an open step, by the steps accepted; and where one waits for its answer, by the cycles since it was accepted.
  record IsPaced (cycles past : List View) : Type 0 where
    total : open_since cycles past + (busy + 1) * length (answers_in (epoch_begun past)) ≤ (busy + 1) * length
        (epoch_log (cycles ++ past)) + lost_since cycles past
    waits : (e : Entry) (log : List Entry) → epoch_log (cycles ++ past) ≡ e ∷ log
        → suc (length (answers_in (epoch_begun (cycles ++ past)))) ≡ length (epoch_log (cycles ++ past))
        → open_since cycles past + (busy + 1) * length (answers_in (epoch_begun past)) + e.processed.cycle
        ≤ (busy + 1) * length (answers_in (epoch_begun (cycles ++ past))) + length (cycles ++ past) + lost_since cycles past

  at_first : (past : List View) → IsRun busy past → IsPaced [] past
  at_first past run = record {
    total = let le = by (counts (epoch_begun past) (epoch_log past) (in_step busy past run)) in omega (arith, le);
    waits = λ e log those waits. let less = head_before (length past) (epoch_records past) (taken_before past) e log those in
        omega (arith, less);
  }
    where
      by : Counts (epoch_begun past) (epoch_log past) → (busy + 1) * length (answers_in (epoch_begun past)) ≤ (busy + 1) * length
          (epoch_log past)
      by (NoneOpen none s a) = times_le (busy + 1) (length (answers_in (epoch_begun past))) (length (epoch_log past)) (omega (arith, a))
      by (NotTaken opens s a) = times_le (busy + 1) (length (answers_in (epoch_begun past))) (length (epoch_log past)) (omega (arith, a))
      by (NotAnswered head tail split opens s a) = times_le (busy + 1) (length (answers_in (epoch_begun past))) (length (epoch_log past))
          (omega (arith, a))

  -- ONE CYCLE MORE
  module _ (v : View) (cycles past : List View) (run : IsRun busy (v ∷ (cycles ++ past))) (stays : v.falls ≡ false)
      (goes_on : v.master_restarts ≡ false) (is : IsPaced cycles past) where
    heard_by : loses_step v (cycles ++ past) ≡ false → is_some (open_in (epoch_begun (cycles ++ past))) ≡ true → is_some v.heard ≡ true
    heard_by off some = heard_if (is_some (open_in (unless_restart v (epoch_begun (cycles ++ past))))) (is_some v.heard)
        (is_some (open_in (begun_in v (cycles ++ past)))) (is_some (processed_in v (cycles ++ past))) off
        (ap (λ (l : List Begun). is_some (open_in l)) (cond-false v.master_restarts [] (epoch_begun (cycles ++ past)) goes_on) ∙ some)

    waits_next : (e : Entry) (log : List Entry) → epoch_log (v ∷ (cycles ++ past)) ≡ e ∷ log
        → suc (length (answers_in (epoch_begun (v ∷ (cycles ++ past))))) ≡ length (epoch_log (v ∷ (cycles ++ past)))
        → open_since (v ∷ cycles) past + (busy + 1) * length (answers_in (epoch_begun past)) + e.processed.cycle
        ≤ (busy + 1) * length (answers_in (epoch_begun (v ∷ (cycles ++ past)))) + length (v ∷ (cycles ++ past)) + lost_since (v ∷ cycles)
        past
    waits_next e log those waits = elim (waits_from busy v (cycles ++ past) run stays goes_on e log those waits) [
      | inl (long, same, waited) ↦ (
          let count : length (answers_in (epoch_begun (v ∷ (cycles ++ past)))) ≡ length (answers_in (epoch_begun (cycles ++ past))) =
          omega (arith, waits, long, waited) in
          let product = ap (λ (n : ℕ). (busy + 1) * n) count in
          omega (arith, is.waits e log same waited, product, opens, more_or_same (loses_step v (cycles ++ past)) (lost_since cycles past)))
      | inr (long, cycle) ↦ (
          let count : length (answers_in (epoch_begun (v ∷ (cycles ++ past)))) ≡ length (epoch_log (cycles ++ past)) =
          omega (arith, waits, long) in
          let before = is.total in omega (
            arith,
            before,
            ap (λ (n : ℕ). (busy + 1) * n) count,
            opens,
            more_or_same (loses_step v (cycles ++ past))
                (lost_since cycles past),
            cycle,
          ))
    ]
      where
        opens : open_since (v ∷ cycles) past ≤ open_since cycles past + 1
        opens = elim (cases_Bool (is_some (open_in (begun_in v (cycles ++ past))))) [
          | inl on ↦ rw on (omega arith)
          | inr off ↦ rw off (omega arith)
        ]

    total_next : open_since (v ∷ cycles) past + (busy + 1) * length (answers_in (epoch_begun past)) ≤ (busy + 1) * length
        (epoch_log (v ∷ (cycles ++ past))) + lost_since (v ∷ cycles) past
    total_next = elim (cases_Bool (is_some (open_in (begun_in v (cycles ++ past))))) [
      | inl on ↦ which on (loses_step v (cycles ++ past)) refl
          (counts (epoch_begun (v ∷ (cycles ++ past))) (epoch_log (v ∷ (cycles ++ past))) (in_step busy (v ∷ (cycles ++ past)) run))
      | inr off ↦ let same = same_if (is_some (open_in (begun_in v (cycles ++ past)))) (open_since cycles past) off in
          let up = product in omega (arith, same, more_or_same (loses_step v (cycles ++ past)) (lost_since cycles past), is.total, up)
    ]
      where
        some_now : is_some (open_in (begun_in v (cycles ++ past))) ≡ true → is_some (open_in (epoch_begun (v ∷ (cycles ++ past)))) ≡ true
        some_now on = ap (λ (l : List Begun). is_some (open_in l)) (begun_is busy v (cycles ++ past) run stays goes_on) ∙ on

        product : (busy + 1) * length (epoch_log (cycles ++ past)) ≤ (busy + 1) * length (epoch_log (v ∷ (cycles ++ past)))
        product = times_le (busy + 1) (length (epoch_log (cycles ++ past))) (length (epoch_log (v ∷ (cycles ++ past))))
            (grows_one busy v (cycles ++ past) run stays goes_on)

        -- one more lost makes up for one more open
        lost_one : loses_step v (cycles ++ past) ≡ true → open_since (v ∷ cycles) past ≡ open_since cycles past + 1
            → open_since (v ∷ cycles) past + (busy + 1) * length (answers_in (epoch_begun past)) ≤ (busy + 1) * length
            (epoch_log (v ∷ (cycles ++ past))) + lost_since (v ∷ cycles) past
        lost_one on opened = let lost = more_if (loses_step v (cycles ++ past)) (lost_since cycles past) on in let before = is.total in
            let least = product in omega (arith, opened, lost, before, least)

        which : is_some (open_in (begun_in v (cycles ++ past))) ≡ true → (b : Bool) → loses_step v (cycles ++ past) ≡ b
            → Counts (epoch_begun (v ∷ (cycles ++ past))) (epoch_log (v ∷ (cycles ++ past)))
            → open_since (v ∷ cycles) past + (busy + 1) * length (answers_in (epoch_begun past)) ≤ (busy + 1) * length
            (epoch_log (v ∷ (cycles ++ past))) + lost_since (v ∷ cycles) past
        which on true lost those = lost_one lost (more_if (is_some (open_in (begun_in v (cycles ++ past)))) (open_since cycles past) on)
        which on false off (NoneOpen none s a) = absurd (false≢true (sym (ap (λ (o : Option Step). is_some o) none) ∙ some_now on))
        which on false off (NotTaken opens s a) = absurd
            (none_new busy v (cycles ++ past) run stays goes_on
            (λ some. taken_if (is_some (open_in (unless_restart v (epoch_begun (cycles ++ past))))) (is_some v.heard)
            (is_some (open_in (begun_in v (cycles ++ past)))) (is_some (processed_in v (cycles ++ past))) off some) (some_now on) s)
        which on false off (NotAnswered e log those opens s a) = elim (grows busy v (cycles ++ past) run stays goes_on) [
          | inr (x, more_is, cycle) ↦ (
              let before = is.total in omega (
                arith,
                same_if (loses_step v (cycles ++ past)) (lost_since cycles past) off,
                ap (λ (n : ℕ). (busy + 1) * n) (ap length more_is),
                more (length (epoch_log (cycles ++ past))),
                before,
                (more_if (is_some (open_in (begun_in v (cycles ++ past)))) (open_since cycles past) on),
              ))
          | inl same ↦ (
              let lost = same_if (loses_step v (cycles ++ past)) (lost_since cycles past) off in
              let late = busy_still busy v (cycles ++ past) run stays goes_on (heard_by off) e log those opens s in
              let up = more (length (answers_in (epoch_begun (v ∷ (cycles ++ past))))) in
              let long = ap (λ (n : ℕ). (busy + 1) * n) a in omega (arith, lost, late, waits_next e log those a, up, long))
        ]

    paced_next : IsPaced (v ∷ cycles) past
    paced_next = record { total = total_next; waits = waits_next }

  are_paced : (cycles past : List View) → IsRun busy (cycles ++ past) → GoesOn cycles → IsPaced cycles past
  are_paced [] past run on = at_first past run
  are_paced (v ∷ cycles) past run on = paced_next v cycles past run on.1 on.2 (are_paced cycles past run.0 on.0)

  pub takes_time_and_losses : TakesTimeAndLosses busy
  takes_time_and_losses cycles past run on = (are_paced cycles past run on).total
