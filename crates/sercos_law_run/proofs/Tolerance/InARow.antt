-- How long steps in a row take on a channel, if no two cycles in a row lose a record or an answer.
use Rattle.sercos_law_run.proofs.Words.{◌≡◌, ◌⊎◌, inl, inr, ℕ, suc, ◌+◌, ◌*◌, ◌<◌, ◌≤◌, true, false, List, [], ◌∷◌, ◌++◌, length, None, sym, ap, ◌∙◌, subst, arith, is_some, cases_lt, Request, times_le, IsStore, Block, Entry, Begun, answers_in, open_in, steps_in, begun_in, epoch_begun, epoch_log, epoch_records, View, AreSmall, AreSound, AreListed, AreTimed, cost_of, in_step, stays_in_cost_since, head_before, taken_before, says_shape}
use Rattle.sercos_law_channel.specs.Handshake.Runs.{IsRun}
use Rattle.sercos_law_run.proofs.Undisturbed.OneRequest.{room, steps_few}
use Rattle.sercos_law_run.proofs.Undisturbed.ToldInTime.{beyond}
use Rattle.sercos_law_run.proofs.Undisturbed.Stops.LateSteps.{few_accepted}
use Rattle.sercos_law_run.proofs.Tolerance.Steps.{IsYoung, begun_is, never_some}
use Rattle.sercos_law_run.proofs.Recovery.Limits.{open_age}
use Rattle.sercos_law_run.proofs.Bounds.BoundSums.{times_sum}
pub use Rattle.sercos_law_run.proofs.Tolerance.Steps.{Counts, NoneOpen, NotAnswered, NotTaken, counts, few_answers, grows_one, waits_from}

module _ (busy : ℕ) where
  -- A CYCLE OF A ROW: the master neither falls nor restarts, a step is open at the end, and nothing is late; or something is, and nothing
  -- was at the end of the cycle before.
  pub record IsInARow (v : View) (past : List View) : Type 0 where
    pub stays : v.falls ≡ false
    pub goes_on : v.master_restarts ≡ false
    pub opens : is_some (open_in (begun_in v past)) ≡ true
    pub spared : IsYoung busy 0 0 (v ∷ past) ⊎ (IsYoung busy 1 1 (v ∷ past) × IsYoung busy 0 0 past)

  abbrev pub AreInARow : List View → List View → Type 0
  AreInARow [] past = Unit {0}
  AreInARow (v ∷ cycles) past = AreInARow cycles past × IsInARow v (cycles ++ past)

  more : (n : ℕ) → (busy + 2) * suc n ≡ (busy + 2) * n + (busy + 2)
  more n = grind arith

  -- The cycles spent, by the steps accepted; where none is open; and where one waits for its answer, by the cycles since it was accepted.
  pub record IsPaced (spent base : ℕ) (all : List View) : Type 0 where
    pub total : spent ≤ base + (busy + 2) * length (epoch_log all) + 1
    pub rests : open_in (epoch_begun all) ≡ None → spent ≤ base + (busy + 2) * length (epoch_log all)
    pub waits : (e : Entry) (rest : List Entry) → epoch_log all ≡ e ∷ rest → suc (length (answers_in (epoch_begun all))) ≡ length
        (epoch_log all)
        → spent + e.processed.cycle + (busy + 2) ≤ base + (busy + 2) * length (epoch_log all) + length all + 1

  -- ONE CYCLE MORE
  module _ (spent base : ℕ) (v : View) (past : List View) (run : IsRun busy (v ∷ past)) (row : IsInARow v past)
      (is : IsPaced spent base past) where
    opens_now : is_some (open_in (epoch_begun (v ∷ past))) ≡ true
    opens_now = ap (λ (l : List Begun). is_some (open_in l)) (begun_is busy v past run row.stays row.goes_on) ∙ row.opens

    product : (busy + 2) * length (epoch_log past) ≤ (busy + 2) * length (epoch_log (v ∷ past))
    product = times_le (busy + 2) (length (epoch_log past)) (length (epoch_log (v ∷ past))) (grows_one busy v past run row.stays row.goes_on)

    -- a step that the drive hasn't accepted: nothing was late at the end of the cycle before
    new_next : length (steps_in (epoch_begun (v ∷ past))) ≡ suc (length (epoch_log (v ∷ past)))
        → suc spent ≤ base + (busy + 2) * length (epoch_log (v ∷ past)) + 1
    new_next steps = elim row.spared [
      | inl y ↦ (let young = y.new opens_now steps in let old = open_age (v ∷ past) opens_now in absurd (omega (arith, young, old)))
      | inr both ↦ by both.1 (counts (epoch_begun past) (epoch_log past) (in_step busy past run.0))
    ]
      where
        by : IsYoung busy 0 0 past → Counts (epoch_begun past) (epoch_log past)
            → suc spent ≤ base + (busy + 2) * length (epoch_log (v ∷ past)) + 1
        by y (NoneOpen none s a) = let before = is.rests none in let least = product in omega (arith, before, least)
        by y (NotTaken on s a) = let young = y.new on s in let old = open_age past on in absurd (omega (arith, young, old))
        by y (NotAnswered e rest those on s a) =
            let late = (y.old e rest those on s).1 in
            let least = product in omega (arith, late, is.waits e rest those a, least)

    waits_next : (e : Entry) (rest : List Entry) → epoch_log (v ∷ past) ≡ e ∷ rest
        → suc (length (answers_in (epoch_begun (v ∷ past)))) ≡ length (epoch_log (v ∷ past))
        → suc spent + e.processed.cycle + (busy + 2) ≤ base + (busy + 2) * length (epoch_log (v ∷ past)) + suc (length past) + 1
    waits_next e rest those a = elim (waits_from busy v past run row.stays row.goes_on e rest those a) [
      | inl (long, same, waited) ↦ (
          let product_is = ap (λ (n : ℕ). (busy + 2) * n) long in omega (arith, is.waits e rest same waited, product_is))
      | inr (long, cycle) ↦ (
          let before = is.total in
          let up = more (length (epoch_log past)) in omega (arith, before, ap (λ (n : ℕ). (busy + 2) * n) long, up, cycle))
    ]

    total_next : suc spent ≤ base + (busy + 2) * length (epoch_log (v ∷ past)) + 1
    total_next = by (counts (epoch_begun (v ∷ past)) (epoch_log (v ∷ past)) (in_step busy (v ∷ past) run))
      where
        by : Counts (epoch_begun (v ∷ past)) (epoch_log (v ∷ past)) → suc spent ≤ base + (busy + 2) * length (epoch_log (v ∷ past)) + 1
        by (NoneOpen none s a) = absurd (never_some (open_in (epoch_begun (v ∷ past))) none opens_now)
        by (NotTaken on s a) = new_next s
        by (NotAnswered e rest those on s a) = let waits = waits_next e rest those a in
            let late : suc (length past) ≤ e.processed.cycle + (busy + 1) + 1 = elim row.spared [
              | inl y ↦ (let late = (y.old e rest those opens_now s).1 in omega (arith, late))
              | inr both ↦ (let late = (both.0.old e rest those opens_now s).1 in omega (arith, late))
            ] in
            omega (arith, waits, late)

    pub paced_next : IsPaced (suc spent) base (v ∷ past)
    paced_next = record {
      total = total_next;
      rests = λ none. absurd (never_some (open_in (epoch_begun (v ∷ past))) none opens_now);
      waits = waits_next;
    }

  -- a row from its start on
  at_first : (past : List View) → IsRun busy past → IsPaced (0 + (busy + 2) * length (answers_in (epoch_begun past))) 0 past
  at_first past run = record {
    total = let le = all in omega (arith, le);
    rests = λ none. let le = all in omega (arith, le);
    waits = λ e rest those a.
        let less = head_before (length past) (epoch_records past) (taken_before past) e rest those in
        let up = more (length (answers_in (epoch_begun past))) in omega (arith, less, ap (λ (n : ℕ). (busy + 2) * n) (sym a), up);
  }
    where
      all : (busy + 2) * length (answers_in (epoch_begun past)) ≤ (busy + 2) * length (epoch_log past)
      all = times_le (busy + 2) (length (answers_in (epoch_begun past))) (length (epoch_log past))
          (few_answers (epoch_begun past) (epoch_log past) (counts (epoch_begun past) (epoch_log past) (in_step busy past run)))

  are_paced : (cycles past : List View) → IsRun busy (cycles ++ past) → AreInARow cycles past
      → IsPaced (length cycles + (busy + 2) * length (answers_in (epoch_begun past))) 0 (cycles ++ past)
  are_paced [] past run row = at_first past run
  are_paced (v ∷ cycles) past run row =
      subst (λ (n : ℕ). IsPaced n 0 (v ∷ (cycles ++ past))) (omega arith)
      (paced_next (length cycles + (busy + 2) * length (answers_in (epoch_begun past))) 0 v (cycles ++ past) run row.1
      (are_paced cycles past run.0 row.0))

-- ONE REQUEST, which was begun after all others had ended: a row in which they have had all their answers before has fewer cycles than this
-- profile gives a request.
half : (busy d time : ℕ) → (busy + 1) * d ≤ time + 4 * (busy + 1) + 0 → (busy + 2) * d + 1 < (busy + 2) * (520 + time)
half busy d time cost = omega (arith, cost)

pub row_lasts : (busy time : ℕ) (blocks : List Block) → AreSmall blocks → IsStore blocks
    → (cycles past : List View) (b : Begun) (old : List Begun) → IsRun busy (cycles ++ past) → AreSound blocks (cycles ++ past)
    → AreTimed time (cycles ++ past) → AreListed (λ raw. 512) (cycles ++ past) → AreInARow busy cycles past
    → epoch_begun (cycles ++ past) ≡ b ∷ old → open_in old ≡ None → length (answers_in old) ≤ length (answers_in (epoch_begun past))
    → length cycles < (busy + 2) * (520 + time)
row_lasts busy time blocks small store cycles past b old run sound timed listed row split shut few_old = elim (steps_few busy time blocks
    small store (cycles ++ past) run sound b old split shut) [
      | inl steps ↦ by_steps steps
      | inr (idn, asks) ↦ by_cost (ap (λ (q : Request). cost_of busy time (λ raw. 512) blocks q + 0) asks)
    ]
  where
    total : length cycles + (busy + 2) * length (answers_in (epoch_begun past)) ≤ (busy + 2) * length (epoch_log (cycles ++ past)) + 1
    total = let is = (are_paced busy cycles past run row).total in omega (arith, is)

    by_steps : length (steps_in (epoch_begun (cycles ++ past))) ≤ 518 + length (answers_in old) → length cycles < (busy + 2) * (520 + time)
    by_steps steps =
        let accepted = few_accepted (epoch_begun (cycles ++ past)) (epoch_log (cycles ++ past)) (in_step busy (cycles ++ past) run) in
        let sum = times_sum (busy + 2) 518 (length (answers_in (epoch_begun past))) in
        let is = total in omega (
          arith,
          times_le (busy + 2) (length (epoch_log (cycles ++ past)))
              (518 + length (answers_in (epoch_begun past))) (omega (arith, accepted, steps, few_old)),
          sum,
          room busy time,
          is,
        )

    by_cost : cost_of busy time (λ raw. 512) blocks b.request + 0 ≡ time + 4 * (busy + 1) + 0 → length cycles < (busy + 2) * (520 + time)
    by_cost cost_is = elim (cases_lt (length (epoch_log (cycles ++ past))) (length (answers_in old))) [
      | inl less ↦ (
          let most = times_le (busy + 2) (length (epoch_log (cycles ++ past))) (length (answers_in (epoch_begun past))) (omega
          (arith, less, few_old)) in
          let all = room busy time in
          let is = total in omega (arith, most, all, is))
      | inr enough ↦ by_more (beyond (length (answers_in old)) (length (epoch_log (cycles ++ past))) enough)
    ]
      where
        by_more : (d : ℕ) × (length (epoch_log (cycles ++ past)) ≡ length (answers_in old) + d) → length cycles < (busy + 2) * (520 + time)
        by_more (d, is) =
            let one = ap (λ (n : ℕ). (busy + 1) * n) is ∙ times_sum (busy + 1) (length (answers_in old)) d in
            let two = ap (λ (n : ℕ). (busy + 2) * n) is ∙ times_sum (busy + 2) (length (answers_in old)) d in
            let older = times_le (busy + 2) (length (answers_in old)) (length (answers_in (epoch_begun past))) few_old in
            let fits = half busy d time (omega (
              arith,
              stays_in_cost_since says_shape busy time (λ raw. 512) blocks small (cycles ++ past)
                  (b ∷ []) old run sound timed listed split shut,
              one,
              cost_is,
            )) in
            let all = total in omega (arith, two, older, fits, all)
