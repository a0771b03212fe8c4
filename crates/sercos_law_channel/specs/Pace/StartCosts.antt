-- What a whole start-up costs, and what is left of one after losses. Each list has its newest item first.
use Rattle.std.specs.Prelude.{◌≡◌, ◌⊎◌, ℕ, ◌+◌, ◌≤◌, List, ◌∷◌, ◌++◌, length, None}
use Rattle.sercos_block.specs.declared.block.Block.{Block}
use Rattle.sercos_service_master.specs.Begun.{Begun, open_in, answers_in}
use Rattle.sercos_law_channel.specs.Handshake.Views.{View, standing}
use Rattle.sercos_law_channel.specs.Handshake.Epochs.{epoch_begun}
use Rattle.sercos_law_channel.specs.Handshake.Runs.{IsRun}
use Rattle.sercos_law_channel.specs.Handshake.WholeRun.{AreSound, AreSmall}
use Rattle.sercos_law_channel.specs.Pace.Stretches.{open_since}
use Rattle.sercos_law_channel.specs.Pace.Passages.{IsWhole, AreWhole, ArePassed, BeginsEpoch}
use Rattle.sercos_law_channel.specs.Pace.Costs.{AreTimed, AreListed, cost_of, cost_in}
use Rattle.sercos_law_channel.specs.Pace.Ages.{age_in}

-- A start-up in which every telegram arrives: from phase 0 of an epoch on, regardless of the cycles before, the cycles with an open step
-- are at most the cost of the requests, and no step gets older than busy time and one cycle.
abbrev pub StartsInCost : ℕ → Type 0
StartsInCost busy = (time : ℕ) (longest : ℕ → ℕ) (blocks : List Block) (cycles past : List View) → AreSmall blocks →
    IsRun busy (cycles ++ past) → AreSound blocks (cycles ++ past) → AreTimed time (cycles ++ past) → AreListed longest (cycles ++ past) →
    BeginsEpoch past → AreWhole cycles past → ArePassed cycles past →
    (open_since cycles past ≤ cost_in (cost_of busy time longest blocks) (epoch_begun (cycles ++ past))) ×
    (age_in (cycles ++ past) ≤ busy + 1)

-- The rest of a start-up, regardless of losses before a first whole cycle: if the drive isn't in phase 0 by now, the same holds since
-- that cycle, except for a step that was open at its end, which adds its age then.
abbrev pub RecoversInCost : ℕ → Type 0
RecoversInCost busy = (time : ℕ) (longest : ℕ → ℕ) (blocks : List Block) (cycles : List View) (first : View) (past : List View) →
    AreSmall blocks → IsRun busy (cycles ++ first ∷ past) → AreSound blocks (cycles ++ first ∷ past) →
    AreTimed time (cycles ++ first ∷ past) → AreListed longest (cycles ++ first ∷ past) →
    IsWhole first past → AreWhole cycles (first ∷ past) →
    ((standing (cycles ++ first ∷ past)).ended ≡ 0)
    ⊎ ((open_since cycles (first ∷ past) ≤ cost_in (cost_of busy time longest blocks) (epoch_begun (cycles ++ first ∷ past))) ×
    (age_in (cycles ++ first ∷ past) ≤ age_in (first ∷ past) + (busy + 1)))

-- Then the cost of the recent requests is enough, if those before them had all their answers in the first whole cycle.
abbrev pub RecoversSince : ℕ → Type 0
RecoversSince busy = (time : ℕ) (longest : ℕ → ℕ) (blocks : List Block) (cycles : List View) (first : View) (past : List View)
    (recent old : List Begun) → AreSmall blocks → IsRun busy (cycles ++ first ∷ past) →
    AreSound blocks (cycles ++ first ∷ past) → AreTimed time (cycles ++ first ∷ past) → AreListed longest (cycles ++ first ∷ past) →
    IsWhole first past → AreWhole cycles (first ∷ past) →
    epoch_begun (cycles ++ first ∷ past) ≡ recent ++ old → open_in old ≡ None →
    length (answers_in old) ≤ length (answers_in (epoch_begun (first ∷ past))) →
    ((standing (cycles ++ first ∷ past)).ended ≡ 0) ⊎ (open_since cycles (first ∷ past) ≤ cost_in (cost_of busy time longest blocks) recent)
