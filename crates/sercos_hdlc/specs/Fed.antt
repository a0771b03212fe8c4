-- A reader of a frame's pieces, and the bits that it has taken.
use Rattle.std.specs.Prelude.{ℕ, Bool, List}
use Rattle.sercos_hdlc.specs.declared.deframer.Deframer.{Deframer}
use Rattle.sercos_hdlc.specs.Scanned.{IsScan}
use Rattle.sercos_hdlc.specs.Held.{IsKept}

-- how many bits it has taken since it began
abbrev pub taken_of : Deframer → ℕ
taken_of reader = reader.scan.taken

-- the reader has taken these bits since it was made or last started over
pub record IsFed (bits : List Bool) (reader : Deframer) : Type 0 where
  pub plain : List Bool
  pub scan : IsScan bits plain reader.scan
  pub kept : IsKept plain reader.kept
