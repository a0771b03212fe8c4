-- How many cycles one request takes: those in which its steps are open are fewer than this profile gives a request.
use Rattle.sercos_law_run.proofs.Words.{◌≡◌, ◌⊎◌, inl, inr, ℕ, ◌+◌, ◌*◌, ◌<◌, ◌≤◌, List, [], ◌∷◌, ◌++◌, length, None, refl, ap, ◌∙◌, subst, arith, length-append, cases_lt, Idn, Request, Answer, read_ends, write_ends, times_le, IsStore, Block, Entry, accepted, Begun, open_in, steps_begun, steps_in, answers_in, command, epoch_begun, epoch_records, epoch_log, AreInStep, IsRow, IsPart, Unsent, Unheard, AreParts, AreReplies, HaveBlocks, IsTransfer, View, standing, IsSound, AreSound, AreSmall, in_step, IsEpoch, epoch, split_replies, split_blocks, fall_into_parts, length-replies_of, length-steps_begun, HasReplies, answered_replies, AreTimed, AreListed, cost_of, cost_in, IsWhole, AreWhole, RecoversInTime, RecoversSince, open_since, few_steps, IsViewRun}
use Rattle.sercos_step.specs.declared.request.Request.TheVariants as request
use Rattle.sercos_step.specs.Steps.{AreAnswers}
use Rattle.sercos_law_channel.specs.Handshake.Parts.{Heard}
use Rattle.sercos_law_run.proofs.Undisturbed.Stops.LongWrites.{ends_soon}
use Rattle.sercos_law_run.proofs.Bounds.BoundSums.{times_sum}

-- NUMBERS
pub room : (busy time : ℕ) → (busy + 2) * (520 + time) ≡ 520 * busy + 1040 + busy * time + 2 * time
room busy time = grind arith

-- STEPS: requests that have ended have no more steps than answers
module _ (busy time : ℕ) (blocks : List Block) (small : AreSmall blocks) (store : IsStore blocks) where
  -- A LONG WRITE has few answers.
  module _ (all : List View) (run : IsViewRun busy all) (sound : AreSound blocks all) (b : Begun) (old : List Begun)
      (split : epoch_begun all ≡ b ∷ old) where
    is_epoch : IsEpoch blocks (command all) (b ∷ old) (epoch_records all)
    is_epoch = subst (λ (l : List Begun). IsEpoch blocks (command all) l (epoch_records all)) split (epoch blocks busy all run sound)

    long_write : (idn : Idn) (e : ℕ) (bytes : List ℕ) → b.request ≡ request.Write idn e bytes → 2 ≤ e → 1024 < length bytes → length b.answers ≤ 5
    long_write idn e bytes asks low long = by (fall_into_parts (b ∷ old) (epoch_log all) is_epoch.in_turn
        (subst (λ (l : List Begun). AreInStep l (epoch_log all)) split (in_step busy all run)))
      where
        by : AreParts (b ∷ old) (epoch_log all) → length b.answers ≤ 5
        by (part, rest, those, of, others) = which of
          where
            alike : HaveBlocks blocks part
            alike = (split_blocks blocks part rest (subst (HaveBlocks blocks) those is_epoch.alike)).0

            few : (x : Entry) (entries : List Entry) → part ≡ x ∷ entries → IsRow b x entries → length entries ≤ 4
            few x entries is row = ends_soon blocks small store idn e bytes low long x entries rest (subst (λ (r : Request). IsTransfer r blocks x entries rest) asks (record {
              steps = row.steps;
              in_turn = row.in_turn;
              goes_on = row.goes_on;
              replies = subst (λ (l : List Entry). AreReplies l rest) is
                  ((split_replies part rest (subst HasReplies those (answered_replies (accepted (epoch_records all))))).0);
              alike = subst (HaveBlocks blocks) is alike;
            }))

            which : IsPart b part → length b.answers ≤ 5
            which (Unsent none unheard) = let empty = ap (λ (l : List Answer). length l) unheard in omega (arith, empty)
            which (Heard x entries is row answers) =
                let same = ap (λ (l : List Answer). length l) answers in
                let count = length-replies_of (x ∷ entries) in omega (arith, few x entries is row, same, count)
            which (Unheard x entries is row answers) =
                let same = ap (λ (l : List Answer). length l) answers in
                let count = length-replies_of entries in omega (arith, few x entries is row, same, count)

    -- any write
    write_few : (idn : Idn) (e : ℕ) (bytes : List ℕ) → b.request ≡ request.Write idn e bytes → length b.answers ≤ 517
    write_few idn e bytes asks = elim (cases_lt 1024 (length bytes)) [
      | inl long ↦ let most = long_write idn e bytes asks (subst (IsSound blocks) asks is_epoch.sound.1).0 long in omega (arith, most)
      | inr short ↦ write_ends idn e bytes b.answers (omega (arith, short))
          (subst (λ (r : Request). AreAnswers r b.answers) asks is_epoch.in_turn.1.1)
    ]

    -- The steps that were begun are at most 518 more than the answers to the older requests, if these have ended; or it is a command.
    pub steps_few : open_in old ≡ None → (length (steps_in (epoch_begun all)) ≤ 518 + length (answers_in old)) ⊎ ((idn : Idn)
        × (b.request ≡ request.Command idn))
    steps_few shut = by b.request refl
      where
        few : length b.answers ≤ 517 → length (steps_in (epoch_begun all)) ≤ 518 + length (answers_in old)
        few answers =
            let long : length (steps_in (epoch_begun all)) ≡ length (steps_begun b.request b.answers) + length (steps_in old) =
            ap (λ (l : List Begun). length (steps_in l)) split ∙ length-append (steps_begun b.request b.answers) (steps_in old) in
            omega (arith, length-steps_begun b.request b.answers, answers, few_steps old is_epoch.in_turn.0 shut, long)

        by : (r : Request) → b.request ≡ r → (length (steps_in (epoch_begun all)) ≤ 518 + length (answers_in old)) ⊎ ((idn : Idn)
            × (b.request ≡ request.Command idn))
        by (request.Read idn e) asks = inl (few (read_ends idn e b.answers
            (subst (λ (r : Request). AreAnswers r b.answers) asks is_epoch.in_turn.1.1)))
        by (request.Write idn e bytes) asks = inl (few (write_few idn e bytes asks))
        by (request.Command idn) asks = inr (idn, asks)

  -- ONE REQUEST, which was begun after all others had ended: after a first cycle, in which they had all their answers, the cycles with an
  -- open step are fewer than this profile gives a request, as long as the drive isn't in phase 0.
  pub one_lasts : RecoversInTime busy → RecoversSince busy → (cycles : List View) (first : View) (past : List View) (b : Begun) (old : List Begun) → IsViewRun busy (cycles ++ first ∷ past) → AreSound blocks (cycles ++ first ∷ past) → AreTimed time (cycles ++ first ∷ past)
      → AreListed (λ raw. 512) (cycles ++ first ∷ past) → IsWhole first past → AreWhole cycles (first ∷ past) → ((standing (cycles ++ first ∷ past)).ended ≡ 0 → ⊥) → epoch_begun (cycles ++ first ∷ past) ≡ b ∷ old → open_in old ≡ None
      → length (answers_in old) ≤ length (answers_in (epoch_begun (first ∷ past))) → open_since cycles (first ∷ past) < (busy + 2) * (520 + time)
  one_lasts recovers since cycles first past b old run sound timed listed whole wholes stands split shut few = elim (steps_few
      (cycles ++ first ∷ past) run sound b old split shut) [
        | inl steps ↦ by_steps steps (recovers cycles first past run whole wholes)
        | inr (idn, asks) ↦ which idn asks (since time (λ raw. 512) blocks cycles first past
            (b ∷ []) old small run sound timed listed whole wholes split shut few)
      ]
    where
      by_steps : length (steps_in (epoch_begun (cycles ++ first ∷ past))) ≤ 518 + length (answers_in old)
          → ((standing (cycles ++ first ∷ past)).ended ≡ 0)
          ⊎ (open_since cycles (first ∷ past) + (busy + 1) * length (answers_in (epoch_begun (first ∷ past)))
          ≤ (busy + 1) * length (steps_in (epoch_begun (cycles ++ first ∷ past))))
          → open_since cycles (first ∷ past) < (busy + 2) * (520 + time)
      by_steps steps (inl down) = absurd (stands down)
      by_steps steps (inr le) =
          let most = times_le (busy + 1) (length (steps_in (epoch_begun (cycles ++ first ∷ past)))) (518 + length (answers_in
          (epoch_begun (first ∷ past)))) (omega (arith, steps, few)) in
          let fits : (busy + 1) * 518 < (busy + 2) * (520 + time) = let most = times_le (busy + 1) 518 518 (omega arith) in
          let all = room busy time in omega (arith, most, all) in
          omega (arith, le, most, times_sum (busy + 1) 518 (length (answers_in (epoch_begun (first ∷ past)))), fits)

      which : (idn : Idn) → b.request ≡ request.Command idn → ((standing (cycles ++ first ∷ past)).ended ≡ 0)
          ⊎ (open_since cycles (first ∷ past) ≤ cost_in (cost_of busy time (λ raw. 512) blocks) (b ∷ []))
          → open_since cycles (first ∷ past) < (busy + 2) * (520 + time)
      which idn asks (inl down) = absurd (stands down)
      which idn asks (inr le) =
          let fits : time + 4 * (busy + 1) + 0 < (busy + 2) * (520 + time) = let all = room busy time in omega (arith, all) in
          omega (arith, le, ap (λ (r : Request). cost_of busy time (λ raw. 512) blocks r + 0) asks, fits)
