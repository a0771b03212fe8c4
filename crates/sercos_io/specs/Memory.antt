-- What contracts see of a source and a sink in memory.
use Rattle.std.specs.Prelude.{ℕ, ◌+◌, ◌==◌, ◌&&◌, min, nat_lt, List, length, if◌then◌else◌}
use Rattle.sercos_model.specs.Streams.{last_count}

-- the count plus 1, but at most the last value of a count
abbrev pub raised : ℕ → ℕ
raised count = min (count + 1) last_count

-- the bytes not read yet, the most bytes of a call, the numbers of the calls that fail, counted
-- from 1, the number of calls so far, and the number of calls that failed
pub record SourceState : Type 0 where
  pub left : List ℕ
  pub piece : ℕ
  pub failing : List ℕ
  pub calls : ℕ
  pub faults : ℕ

-- the bytes accepted, the number of bytes that still fit, the most bytes of a call, the numbers of
-- the calls that fail, counted from 1, the number of calls so far, and the number of calls that
-- failed
pub record SinkState : Type 0 where
  pub held : List ℕ
  pub spare : ℕ
  pub piece : ℕ
  pub failing : List ℕ
  pub calls : ℕ
  pub faults : ℕ

-- the number of bytes that the sink is sure to accept without a failure
abbrev pub room_of : SinkState → ℕ
room_of s = if (length s.failing == 0) && nat_lt s.faults last_count then s.spare else 0
