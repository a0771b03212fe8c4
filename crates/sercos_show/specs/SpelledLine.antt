-- What the line `KIND COUNT HEX` of some bits is, apart from the rules that find a line's faults.
use Rattle.std.specs.Prelude.{◌≡◌, ℕ, ◌<◌, ◌≤◌, Bool, false, List, [], ◌∷◌, ◌++◌, length, replicate, codes, Ok, decimal}
use Rattle.hex.specs.Hex.{decode_of}
use Rattle.sercos_model.specs.Bits.{bits_of}
use Rattle.sercos_show.specs.declared.line.LineKind.{LineKind}
use Rattle.sercos_show.specs.Line.{kind_text}

-- Hexadecimal digits of either case spell bits: two digits a byte, the bytes' bits from the least significant one of
-- the first byte on, and fewer than eight zeros after the last bit
pub record AreDigitsOf (digits : List ℕ) (bits : List Bool) : Type 0 where
  pub bytes : List ℕ
  pub decoded : decode_of digits ≡ Ok bytes
  pub spare : ℕ
  pub few : spare < 8
  pub filled : bits_of bytes ≡ bits ++ replicate spare false

-- the HEX of bits: `-` for no bits, and digits for others
unfoldable pub IsHexOf : List ℕ → List Bool → Type 0
IsHexOf text [] = text ≡ codes "-"
IsHexOf text (bit ∷ bits) = AreDigitsOf text (bit ∷ bits)

-- the line `KIND COUNT HEX` of at most 19696 bits, COUNT being how many in decimal digits without leading zeros
pub record IsLine (kind : LineKind) (line : List ℕ) (bits : List Bool) : Type 0 where
  pub fits : length bits ≤ 19696
  pub hex : List ℕ
  pub spelled : IsHexOf hex bits
  pub whole : line ≡ kind_text kind ++ decimal (length bits) ++ codes " " ++ hex
