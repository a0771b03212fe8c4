-- What a link is: its effect on the bits of each telegram on the way to each station, and which
-- stations restart in which cycles. Station 0 is the master, and stations 1 to n are the drives in
-- the order of the ring. Cycles are counted from 0.
use Rattle.std.specs.Prelude.{◌≡◌, ℕ, Bool, true, false, ◌||◌, List, Option, Some, None, option_and_then}
use Rattle.sercos_telegram.specs.declared.layout.Kind.{Kind}
use Rattle.sercos_script.specs.declared.link.Passage.{Passage}

-- For a passage and the bits sent, the bits that arrive, or nothing.
abbrev pub Carry : Type 0
Carry = Passage → List Bool → Option (List Bool)

-- For a cycle and a station, whether the station restarts before the MST of the cycle.
abbrev pub Restarts : Type 0
Restarts = ℕ → ℕ → Bool

-- Links that change nothing.
abbrev pub carried_clean : Carry
carried_clean p bits = Some bits

-- No station restarts.
abbrev pub never_restarts : Restarts
never_restarts cycle station = false

-- In a cycle a link doesn't change the telegram of a kind that a station sends: it arrives at each
-- station as it was sent.
abbrev pub IsQuiet : Carry → ℕ → Kind → ℕ → Type 0
IsQuiet carry cycle kind from = (p : Passage) (bits : List Bool) → p.cycle ≡ cycle → p.kind ≡ kind → p.from ≡ from →
    carry p bits ≡ Some bits

-- One link after another: the second receives what the first lets through. If the first lets
-- nothing through, nothing arrives.
abbrev pub carried_by_both : Carry → Carry → Carry
carried_by_both first second p bits = option_and_then (λ came. second p came) (first p bits)

-- A station restarts if it restarts in one of the two.
abbrev pub restarts_in_either : Restarts → Restarts → Restarts
restarts_in_either first second cycle station = first cycle station || second cycle station

-- What a call of a link returns, as one value: the bits that arrived, or nothing.
abbrev pub arrived : Bool → List Bool → Option (List Bool)
arrived true bits = Some bits
arrived false bits = None
