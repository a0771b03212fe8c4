-- The state of a reader after the bits that it has taken.
use Rattle.std.specs.Prelude.{◌≡◌, ◌⊎◌, Bool, List, length, drop}
use Rattle.sercos_model.specs.Frames.{flag}
use Rattle.sercos_hdlc.specs.declared.scan.Scan.{Scan}
use Rattle.sercos_hdlc.specs.Sought.{agree, IsSought, IsFound}

-- the state is that after the bits, of which those from the ninth on spell these plain bits
pub record IsScan (bits plain : List Bool) (scan : Scan) : Type 0 where
  pub taken_all : scan.taken ≡ length bits
  pub flag_first : scan.agrees ≡ agree bits flag
  pub plain_all : scan.plain_len ≡ length plain
  pub way : IsSought (drop 8 bits) scan.ones scan.dropped plain ⊎
      IsFound (drop 8 bits) scan.ones scan.closing scan.seventh scan.dropped plain
