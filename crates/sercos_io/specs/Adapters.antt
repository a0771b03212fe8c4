-- What contracts see of an adapter over a reader or a writer of std.
use Rattle.std.specs.Prelude.{ℕ, List, Option}

-- the bytes of the reader or the writer, if they are known, and the number of calls that failed
pub record AdapterState : Type 0 where
  pub bytes : Option (List ℕ)
  pub faults : ℕ
