-- Links that cut and lose telegrams, but change none of their bits, such as a script without a
-- flip.
use Rattle.std.specs.Prelude.{◌≡◌, ℕ, Bool, true, false, List, ◌++◌, Option, IfSome}
use Rattle.std.specs.List.{list_any}
use Rattle.sercos_script.specs.declared.link.Passage.{Passage}
use Rattle.sercos_script.specs.declared.fault.Damage.{Damage}
use Rattle.sercos_script.specs.declared.fault.Damage.TheVariants.{Flip}
use Rattle.sercos_script.specs.declared.fault.Fault.{Fault}
use Rattle.sercos_script.specs.Links.{Carry}
use Rattle.sercos_script.specs.Scripts.{carried}

-- whether a damage complements a bit
abbrev pub is_flip : Damage → Bool
is_flip (Flip at bit) = true
is_flip _ = false

-- whether one of these faults complements a bit
abbrev pub has_flip : List Fault → Bool
has_flip faults = list_any (λ (f : Fault). is_flip f.damage) faults

-- the bits that arrive, if any do, are the beginning of the bits sent, or all of them
abbrev pub IsCut : List Bool → Option (List Bool) → Type 0
IsCut bits came = IfSome came (λ begun. (rest : List Bool) × (bits ≡ begun ++ rest))

-- a link only cuts and loses telegrams
abbrev pub OnlyCuts : Carry → Type 0
OnlyCuts carry = (p : Passage) (bits : List Bool) → IsCut bits (carry p bits)

-- a script without a flip only cuts and loses telegrams
abbrev pub UnflippedOnlyCuts : Type 0
UnflippedOnlyCuts = (stations : ℕ) (faults : List Fault) → has_flip faults ≡ false → OnlyCuts (carried stations faults)
