-- For how many cycles a step is open, and channels that never idle.
use Rattle.sercos_law_channel.proofs.Words.{◌≡◌, ◌⊎◌, inl, inr, ℕ, ◌+◌, ◌*◌, ◌<◌, ◌≤◌, Bool, true, false, List, [], ◌∷◌, ◌++◌, length, refl, sym, ap, ◌∙◌, arith, if◌then◌else◌, ◌==◌, Option, None, is_some, cond-true, cond-false, eqb-true, eq-eqb, beq, Step, Processed, Entry, reply_of, log_of, Begun, open_in, steps_in, answers_in, is_odd, log_steps, View, standing, stood_in, record_in, with_record, unless_restart, epoch_begun, begun_in, epoch_records, epoch_log, log_in, IsRun, one_more, open_cycles, AreUndisturbed, IsOnTime, Rests, Waits, IsClean, AreClean, open_since, IsInTime, RestsNow, WaitsNow, BeginsEpoch, age_by, age_in, AgesInTime, AgesWhereDead, OpensAlways, KeepsTime, cases_Bool, both_ways}
use Rattle.sercos_law_channel.proofs.Handshake.HandshakeMoves.{log-taken}
use Rattle.sercos_law_channel.proofs.Handshake.TransferSteps.{length-steps_of}
use Rattle.sercos_law_channel.proofs.Handshake.PhaseMoves.{of_processed, chosen}
use Rattle.sercos_law_channel.proofs.Pace.OnTimeRuns.{on_time, time_of}
use Rattle.sercos_law_channel.proofs.Pace.LateRuns.{comes_in_time}
use Rattle.sercos_law_channel.proofs.Pace.WholeCycles.{stays_dead}
use Rattle.sercos_law_channel.proofs.Pace.EpochBegins.{none_begun, run_after}
use Rattle.sercos_law_channel.proofs.Handshake.EpochRuns.{begun_on, log_on, unless_restart-on}

-- a cycle adds no entry to the log, or one of this cycle
pub log_grows : (v : View) (past : List View) → v.master_restarts ≡ false → (log_in v past ≡ epoch_log past) ⊎ ((x : Entry) × (log_in v past ≡ x ∷ epoch_log past) × (x.processed.cycle ≡ length past))
log_grows v past on =
    let same = ap log_of (cond-false v.master_restarts [] (epoch_records past) on) in
    of_processed v past
    (λ o. (log_of (with_record o (unless_restart v (epoch_records past))) ≡ epoch_log past)
    ⊎ ((x : Entry) × (log_of (with_record o (unless_restart v (epoch_records past))) ≡ x ∷ epoch_log past) ×
    (x.processed.cycle ≡ length past)))
    (inl same) (λ s got came two.
    let t : Processed = record_in v (length past) (stood_in v (standing past)) s in
    let log : List Entry = log_of (unless_restart v (epoch_records past)) in
    let x : Entry = record { processed = t; answer = reply_of t log } in
    elim (chosen (beq t.mhs (is_odd log)) log (x ∷ log)) [
      | inl old ↦ inl (log-taken t (unless_restart v (epoch_records past)) ∙ old.1 ∙ same)
      | inr new ↦ inr (x, log-taken t (unless_restart v (epoch_records past)) ∙ new.1 ∙ ap (λ (l : List Entry). x ∷ l) same, refl)
    ])

-- where nothing was begun, no step is open
none_old : (past : List View) → epoch_begun past ≡ [] → age_in past ≡ 0
none_old [] none = refl
none_old (v ∷ past) none = elim (cases_Bool v.falls) [
  | inl fell ↦ cond-true v.falls 0 _ fell
  | inr on ↦ cond-false v.falls 0 _ on
      ∙ ap (λ (l : List Begun). age_by (is_some (open_in l)) (length (steps_in (begun_in v past)) == length (steps_in (unless_restart v (epoch_begun past)))) (age_in past))
      (sym (cond-false v.falls [] (begun_in v past) on) ∙ none)
]

-- so it is while phase 0 is commanded
pub nothing_old : (busy : ℕ) (past : List View) → IsRun busy past → BeginsEpoch past → age_in past ≡ 0
nothing_old busy past run begins = none_old past (none_begun busy past run begins)

-- a channel that never idles
pub opens_always : OpensAlways
opens_always [] past work = refl
opens_always (v ∷ cycles) past work =
    ap (λ (b : Bool). one_more b (open_since cycles past)) work.1 ∙ omega (arith, opens_always cycles past work.0)

module _ (busy : ℕ) where
  -- an open step is no older than its entry, but for its age before the stretch
  abbrev AgesSo : List View → List View → Type 0
  AgesSo all past = (e : Entry) (log : List Entry) → epoch_log all ≡ e ∷ log → is_some (open_in (epoch_begun all)) ≡ true → age_in all + e.processed.cycle ≤ length all + age_in past

  -- one cycle more
  module _ (v : View) (all past : List View) (clean : IsClean v all) where
    pub aged : age_in (v ∷ all) ≡ age_by (is_some (open_in (begun_in v all))) (length (steps_in (begun_in v all)) == length (steps_in (unless_restart v (epoch_begun all)))) (age_in all)
    aged = cond-false v.falls 0 _ clean.stays

    pub aged_open : is_some (open_in (epoch_begun (v ∷ all))) ≡ true → age_in (v ∷ all) ≡ (if length (steps_in (begun_in v all)) == length (steps_in (unless_restart v (epoch_begun all))) then age_in all + 1 else 1)
    aged_open some =
        let at : is_some (open_in (begun_in v all)) ≡ true = ap (λ (l : List Begun). is_some (open_in l)) (sym (begun_on v all clean.stays)) ∙ some in
        aged ∙ cond-true (is_some (open_in (begun_in v all))) _ 0 at

    aged_none : open_in (epoch_begun (v ∷ all)) ≡ None → age_in (v ∷ all) ≡ 0
    aged_none none = aged ∙ ap (λ (o : Option Step). age_by (is_some o) (length (steps_in (begun_in v all)) ==
        length (steps_in (unless_restart v (epoch_begun all)))) (age_in all))
        (ap open_in (sym (begun_on v all clean.stays)) ∙ none)

    -- the step that was open is open still
    old_age : (e f : Entry) (log rest : List Entry) → epoch_log (v ∷ all) ≡ e ∷ log → epoch_log all ≡ f ∷ rest → e.processed.cycle < length (v ∷ all) → is_some (open_in (epoch_begun (v ∷ all))) ≡ true →
        steps_in (epoch_begun (v ∷ all)) ≡ log_steps (epoch_log (v ∷ all)) → steps_in (epoch_begun all) ≡ log_steps (epoch_log all) → age_in all + f.processed.cycle ≤ length all + age_in past → age_in (v ∷ all) + e.processed.cycle ≤ length (v ∷ all) + age_in past
    old_age e f log rest those were earlier some now then_ old = by (length (steps_in (begun_in v all)) == length (steps_in (unless_restart v (epoch_begun all)))) refl (aged_open some)
      where
        by : (same : Bool) → (length (steps_in (begun_in v all)) == length (steps_in (unless_restart v (epoch_begun all)))) ≡ same → age_in (v ∷ all) ≡ (if same then age_in all + 1 else 1) → age_in (v ∷ all) + e.processed.cycle ≤ length (v ∷ all) + age_in past
        by false is age = omega arith
        by true is age = elim (log_grows v all clean.goes_on) [
          | inl stays ↦
              let one : e ∷ log ≡ f ∷ rest = sym those ∙ log_on v all clean.stays ∙ stays ∙ were in
              let entry : e ≡ f = cc in
              let cycle = ap (λ (x : Entry). x.processed.cycle) entry in omega (arith, age, cycle, old)
          | inr (x, grows, at) ↦
              let left : length (steps_in (begun_in v all)) ≡ length (log_steps (epoch_log (v ∷ all))) = ap (λ (l : List Begun). length (steps_in l)) (sym (begun_on v all clean.stays)) ∙ ap length now in
              let right : length (steps_in (unless_restart v (epoch_begun all))) ≡ length (log_steps (epoch_log all)) = ap (λ (l : List Begun). length (steps_in l)) (unless_restart-on v (epoch_begun all) clean.goes_on) ∙ ap length then_ in
              let long = length-steps_of (epoch_log (v ∷ all)) in
              let short = length-steps_of (epoch_log all) in
              absurd (omega (arith, eqb-true _ _ is, left, right, long, short, ap length (log_on v all clean.stays ∙ grows)))
        ]

  age_choice : (b : Bool) (n : ℕ) → (if b then n + 1 else 1) ≤ n + 1
  age_choice true n = omega arith
  age_choice false n = omega arith

  ages_so : (v : View) (cycles past : List View) → IsRun busy (v ∷ (cycles ++ past)) → AreClean (v ∷ cycles) past → IsInTime busy (v ∷ cycles) past → AgesSo (v ∷ (cycles ++ past)) past
  ages_so v cycles past run clean (RestsNow none is) e log those some = absurd (cc)
  ages_so v [] past run clean (WaitsNow x rest at opened all earlier late sum) e log those some =
      let same : x ≡ e = (let one : x ∷ rest ≡ e ∷ log = sym at ∙ those in cc) in
      let cycle = ap (λ (y : Entry). y.processed.cycle) same in
      let age = aged_open v past past clean.1 some in
      let le = age_choice (length (steps_in (begun_in v past)) == length (steps_in (unless_restart v (epoch_begun past)))) (age_in past) in omega (arith, cycle, age, le, earlier)
  ages_so v (u ∷ cycles) past run clean (WaitsNow x rest at opened all earlier late sum) e log those some =
      let same : x ≡ e = (let one : x ∷ rest ≡ e ∷ log = sym at ∙ those in cc) in
      let cycle = ap (λ (y : Entry). y.processed.cycle) same in
      let soon : e.processed.cycle < length (v ∷ u ∷ (cycles ++ past)) = omega (arith, cycle, earlier) in
      behind (comes_in_time busy u cycles past run.0 clean.0) (ages_so u cycles past run.0 clean.0 (comes_in_time busy u cycles past run.0 clean.0)) soon
    where
      before_all : List View
      before_all = u ∷ (cycles ++ past)

      behind : IsInTime busy (u ∷ cycles) past → AgesSo (u ∷ (cycles ++ past)) past → e.processed.cycle < length (v ∷ u ∷ (cycles ++ past)) → age_in (v ∷ u ∷ (cycles ++ past)) + e.processed.cycle ≤ length (v ∷ u ∷ (cycles ++ past)) + age_in past
      behind (WaitsNow f more were was steps before_ late_ sum_) old soon =
          old_age v before_all past clean.1 e f log more those were soon some all steps (old f more were (ap is_some was))
      behind (RestsNow none is) old soon =
          let le = age_choice (length (steps_in (begun_in v before_all)) == length (steps_in (unless_restart v (epoch_begun before_all)))) (age_in before_all) in
          omega (arith, aged_open v before_all past clean.1 some, le, aged_none u (cycles ++ past) past clean.0.1 none, soon)

  pub ages_in_time : AgesInTime busy
  ages_in_time v cycles past run clean = by (comes_in_time busy v cycles past run clean) (ages_so v cycles past run clean (comes_in_time busy v cycles past run clean))
    where
      by : IsInTime busy (v ∷ cycles) past → AgesSo (v ∷ (cycles ++ past)) past → age_in (v ∷ (cycles ++ past)) ≤ age_in past + (busy + 1)
      by (RestsNow none is) so = omega (arith, aged_none v (cycles ++ past) past clean.1 none)
      by (WaitsNow e log those opened all earlier late sum) so = let le = so e log those (ap is_some opened) in omega (arith, le, late)

  pub ages_where_dead : AgesWhereDead busy
  ages_where_dead v past run zero two stays goes_on some =
      let same : unless_restart v (epoch_begun past) ≡ epoch_begun past = cond-false v.master_restarts [] (epoch_begun past) goes_on in
      let still : begun_in v past ≡ unless_restart v (epoch_begun past) = (stays_dead busy v past run zero two).waits (ap (λ (l : List Begun). is_some (open_in l)) same ∙ some) in
      let open_now : is_some (open_in (begun_in v past)) ≡ true = ap (λ (l : List Begun). is_some (open_in l)) (still ∙ same) ∙ some in
      let count : (length (steps_in (begun_in v past)) == length (steps_in (unless_restart v (epoch_begun past)))) ≡ true = eq-eqb _ _ (ap (λ (l : List Begun). length (steps_in l)) still) in (
        cond-false v.falls 0 _ stays ∙ cond-true (is_some (open_in (begun_in v past))) _ 0 open_now ∙ cond-true _ (age_in past + 1) 1 count,
        ap (λ (l : List Begun). is_some (open_in l)) (cond-false v.falls [] (begun_in v past) stays) ∙ open_now,
      )

  -- A channel that never idles.

  -- a stretch in which nothing is lost continues such an epoch
  pub undisturbed_on : (cycles past : List View) → AreClean cycles past → AreUndisturbed past → AreUndisturbed (cycles ++ past)
  undisturbed_on [] past clean are = are
  undisturbed_on (v ∷ cycles) past clean are = λ on. (clean.1.undisturbed, λ still. undisturbed_on cycles past clean.0 are)

  -- the epoch's cycles with an open step are those of the stretch and those before
  open_in_all : (cycles past : List View) → AreClean cycles past → open_cycles (cycles ++ past) ≡ open_since cycles past + open_cycles past
  open_in_all [] past clean = omega arith
  open_in_all (v ∷ cycles) past clean =
      cond-false v.falls 0 _ clean.1.stays
      ∙ ap (one_more (is_some (open_in (begun_in v (cycles ++ past))))) (cond-false v.master_restarts 0 (open_cycles (cycles ++ past)) clean.1.goes_on ∙ open_in_all cycles past clean.0)
      ∙ more (is_some (open_in (begun_in v (cycles ++ past)))) (open_since cycles past) (open_cycles past)
    where
      more : (b : Bool) (n k : ℕ) → one_more b (n + k) ≡ one_more b n + k
      more true n k = omega arith
      more false n k = refl

  pub keeps_time : KeepsTime busy
  keeps_time v cycles past run clean undisturbed rests work =
      by (on_time busy (v ∷ (cycles ++ past)) run (undisturbed_on (v ∷ cycles) past clean undisturbed)) (on_time busy past (run_after busy (v ∷ cycles) past run) undisturbed)
    where
      spent : open_cycles (v ∷ (cycles ++ past)) ≡ length (v ∷ cycles) + open_cycles past
      spent = open_in_all (v ∷ cycles) past clean ∙ ap (λ (n : ℕ). n + open_cycles past) (opens_always (v ∷ cycles) past work)

      by : IsOnTime busy (v ∷ (cycles ++ past)) → IsOnTime busy past →
          (e : Entry) × (log : List Entry) × (epoch_log (v ∷ (cycles ++ past)) ≡ e ∷ log) × (e.processed.cycle ≤ length (cycles ++ past)) × (length (cycles ++ past) ≤ e.processed.cycle + busy)
          × (length (v ∷ cycles) + (busy + 1) * length (answers_in (epoch_begun past)) + e.processed.cycle ≡ (busy + 1) * length (answers_in (epoch_begun (v ∷ (cycles ++ past)))) + length (v ∷ (cycles ++ past)))
      by (Rests none is) then_ = let off : is_some (open_in (epoch_begun (v ∷ (cycles ++ past)))) ≡ false = ap is_some none in absurd
          (both_ways _ off (ap (λ (l : List Begun). is_some (open_in l)) (begun_on v (cycles ++ past) clean.1.stays) ∙ work.1))
      by (Waits e log those opened all earlier late sum) (Waits f more were was steps before_ late_ sum_) = absurd (cc)
      by (Waits e log those opened all earlier late sum) (Rests none is) =
          let now = time_of busy (answers_in (epoch_begun (v ∷ (cycles ++ past)))) in
          let past_time = time_of busy (answers_in (epoch_begun past)) in
          (e, log, those, omega (arith, earlier), omega (arith, late), omega (arith, sum, is, now, past_time, spent))
