-- The effect of faults on a passage, one after the other. It doesn't depend on their order.
use Rattle.std.specs.Prelude.{ℕ, ◌+◌, ◌==◌, nat_lt, nat_le, Bool, ◌&&◌, if◌then◌else◌, List, [], ◌∷◌, take, Option, Some, None, option_and_then}
use Rattle.sercos_script.specs.declared.link.Passage.{Passage}
use Rattle.sercos_script.specs.declared.effect.Way.{Way}
use Rattle.sercos_script.specs.declared.fault.Damage.{Damage}
use Rattle.sercos_script.specs.declared.fault.Damage.TheVariants.{Lose, Flip, Cut, Deaf, Restart}
use Rattle.sercos_script.specs.declared.fault.Fault.{Fault}
use Rattle.sercos_script.specs.Scripts.{concerns, flipped}

-- Whether a link is part of a way.
abbrev pub has_link : Way → ℕ → Bool
has_link way at = nat_le way.link at && nat_lt at (way.link + way.count)

-- What arrives of the bits sent over a way if one damage is applied to them.
abbrev pub over_way : Damage → Way → List Bool → Option (List Bool)
over_way (Lose at) way bits = if has_link way at then None else Some bits
over_way (Flip at bit) way bits = if has_link way at then Some (flipped bit bits) else Some bits
over_way (Cut at bit) way bits = if has_link way at then Some (take bit bits) else Some bits
over_way (Deaf station) way bits = if station == way.to then None else Some bits
over_way (Restart station) way bits = Some bits

-- The effect of a fault on a passage, if it concerns the passage.
abbrev pub over_passage : Passage → Way → Fault → List Bool → Option (List Bool)
over_passage p way f bits = if concerns p f then over_way f.damage way bits else Some bits

-- The effect of faults one after the other, each by a step.
abbrev pub over_all : (Fault → List Bool → Option (List Bool)) → List Fault → List Bool → Option (List Bool)
over_all step [] bits = Some bits
over_all step (f ∷ faults) bits = option_and_then (over_all step faults) (step f bits)
