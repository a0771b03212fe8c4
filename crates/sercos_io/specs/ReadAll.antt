-- Why a source could not be read to its end.
use Rattle.std.specs.Prelude.{◌≡◌, ℕ, ◌≤◌, List, length, Result, MatchResult}
use Rattle.sercos_model.specs.Streams.{Rose}
use Rattle.sercos_io.specs.declared.whole.ReadAll.{ReadAll}
use Rattle.sercos_io.specs.declared.whole.ReadAll.TheVariants.{ReadFault, TooLong, Memory}

-- what an error implies for the count of faults: a read fault has raised it, and no other error
-- changes it
abbrev pub FaultsBy : ReadAll → ℕ → ℕ → Type 0
FaultsBy ReadFault old new = (old ≤ new) × Rose old new
FaultsBy TooLong old new = new ≡ old
FaultsBy Memory old new = new ≡ old

-- the count of faults has risen if the error is a read fault, and is otherwise unchanged
abbrev pub ReadAllHasCause : {T : Type 0} → ℕ → ℕ → Result T ReadAll → Type 0
ReadAllHasCause old new r = MatchResult r (λ _. new ≡ old) (λ why. FaultsBy why old new)

-- what was taken from the source before an error: if the input is too long, one byte more than an
-- input may have, and otherwise at most as many bytes as it may have
abbrev pub HasTaken : ReadAll → List ℕ → Type 0
HasTaken ReadFault taken = length taken ≤ 1048576
HasTaken TooLong taken = length taken ≡ 1048577
HasTaken Memory taken = length taken ≤ 1048576
