-- What is stated of sources and sinks beside the known bytes of the standard library: their counts of faults,
-- and the room of a sink.
use Rattle.std.specs.Prelude.{◌≡◌, ℕ, ◌+◌, ◌<◌, ◌≤◌, ◌⊎◌, Result, MatchResult, IsOkAnd}

-- the last value of a count of faults: 2^64 - 1
abbrev pub last_count : ℕ
last_count = 18446744073709551615

-- a count rose: it is greater than before, or it is at its last value, where a count stops
abbrev pub Rose : ℕ → ℕ → Type 0
Rose old new = (old < new) ⊎ (new ≡ last_count)

-- a call that answers leaves the count of faults as it was; one that fails has raised it
abbrev pub HasCause : {T E : Type 0} → ℕ → ℕ → Result T E → Type 0
HasCause old new r = MatchResult r (λ _. new ≡ old) (λ _. (old ≤ new) × Rose old new)

-- A write to a sink that has room answers, and takes no more of the room than the bytes that it took.
abbrev pub HasRoom : {E : Type 0} → ℕ → ℕ → Result ℕ E → Type 0
HasRoom old new r = 0 < old → IsOkAnd r (λ count. old ≤ new + count)
