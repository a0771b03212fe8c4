-- What a whole start-up costs, and what is left of one after losses.
use Rattle.sercos_law_channel.proofs.Words.{inl, inr, ℕ, ◌+◌, ◌≤◌, List, [], ◌∷◌, ◌++◌, arith, View, IsRun, AreClean, age_in, StartsInCost, RecoversInCost, RecoversSince}
use Rattle.sercos_law_channel.proofs.Handshake.Once.{says_shape}
use Rattle.sercos_law_channel.proofs.Pace.WholeCycles.{stays_clean, is_clean_or_down}
use Rattle.sercos_law_channel.proofs.Pace.EpochBegins.{run_after}
use Rattle.sercos_law_channel.proofs.Pace.AgeRuns.{nothing_old, ages_in_time}
use Rattle.sercos_law_channel.proofs.Pace.CostRuns.{opens_in_cost, opens_since_cost}

module _ (busy : ℕ) where
  age_within : (cycles past : List View) → IsRun busy (cycles ++ past) → AreClean cycles past → age_in (cycles ++ past) ≤ age_in past + (busy + 1)
  age_within [] past run clean = omega arith
  age_within (v ∷ cycles) past run clean = ages_in_time busy v cycles past run clean

  pub start_in_cost : StartsInCost busy
  start_in_cost time longest blocks cycles past small run sound timed listed begins whole passed =
      let clean = stays_clean busy cycles past run begins whole passed in
      let cost = opens_in_cost says_shape busy time longest blocks small cycles past run sound timed listed clean in
      (omega (arith, cost), omega (arith, age_within cycles past run clean, nothing_old busy past (run_after busy cycles past run) begins))

  pub rest_in_cost : RecoversInCost busy
  rest_in_cost time longest blocks cycles first past small run sound timed listed one whole = elim (is_clean_or_down busy cycles first past run one whole) [
    | inl down ↦ inl down
    | inr clean ↦ let cost = opens_in_cost says_shape busy time longest blocks small cycles (first ∷ past) run sound timed listed clean in inr (omega (arith, cost), age_within cycles (first ∷ past) run clean)
  ]

  pub rest_since : RecoversSince busy
  rest_since time longest blocks cycles first past recent old small run sound timed listed one whole split shut few = elim (is_clean_or_down busy cycles first past run one whole) [
    | inl down ↦ inl down
    | inr clean ↦ inr (opens_since_cost says_shape busy time longest blocks small cycles (first ∷ past) recent old run sound timed listed clean split shut few)
  ]
