-- Links over which no damage passes for a frame.
use Rattle.std.specs.Prelude.{◌≡◌, ℕ, List, Bool, ◌++◌, None, IfSome}
use Rattle.sercos_hdlc.specs.Reason.{reason_of}
use Rattle.sercos_telegram.specs.declared.layout.Kind.{Kind}
use Rattle.sercos_script.specs.declared.link.Passage.{Passage}
use Rattle.sercos_script.specs.Links.{Carry, IsQuiet, carried_by_both}
use Rattle.sercos_script.specs.Cuts.{OnlyCuts}

-- A link is harmless if what arrives of a frame is this frame, nothing, or bits that are not a frame.
abbrev pub IsHarmless : Carry → Type 0
IsHarmless carry = (p : Passage) (bits : List Bool) → reason_of bits ≡ None →
    IfSome (carry p bits) (λ came. reason_of came ≡ None → came ≡ bits)

-- It is harmless after cuts if the same holds of the beginning of a frame, which is what a link before it may leave of one: it makes no
-- frame of this. A whole frame is such a beginning too.
abbrev pub IsHarmlessAfterCuts : Carry → Type 0
IsHarmlessAfterCuts carry = (p : Passage) (bits rest : List Bool) → reason_of (bits ++ rest) ≡ None →
    IfSome (carry p bits) (λ came. reason_of came ≡ None → came ≡ bits)

-- A link that changes nothing is harmless after cuts.
abbrev pub QuietIsHarmless : Type 0
QuietIsHarmless = (carry : Carry) → ((cycle : ℕ) (kind : Kind) (from : ℕ) → IsQuiet carry cycle kind from) → IsHarmlessAfterCuts carry

-- A link that only cuts is harmless, and also after cuts, since no frame begins another one.
abbrev pub CutsAreHarmless : Type 0
CutsAreHarmless = (carry : Carry) → OnlyCuts carry → IsHarmless carry × IsHarmlessAfterCuts carry

-- Two links are harmless if the first only cuts, and the second is harmless after cuts.
abbrev pub BothAreHarmless : Type 0
BothAreHarmless = (first second : Carry) → OnlyCuts first → IsHarmlessAfterCuts second → IsHarmless (carried_by_both first second)
