-- Frames: a content and its check sequence between two flags, with a zero inserted after each five ones in a row
-- (ISO/IEC 3309).
use Rattle.std.specs.Prelude.{◌≡◌, ℕ, suc, ◌+◌, ◌*◌, ◌/◌, ◌<◌, ◌≤◌, Bool, true, false, List, [], ◌∷◌, ◌++◌, length}
use Rattle.sercos_model.specs.Bits.{low_bits, bits_of, AreBytes}
use Rattle.sercos_model.specs.CheckSequence.{fcs_of}

-- 01111110
abbrev pub flag : List Bool
flag = false ∷ true ∷ true ∷ true ∷ true ∷ true ∷ true ∷ false ∷ []

-- `IsStuffed k plain out`: after k ones in a row, the plain bits are sent as out. In out a zero follows each five ones
-- in a row, also if the five ones end the plain bits.
pub data IsStuffed : ℕ → List Bool → List Bool → Type 0 where
  both_end : {k : ℕ} → k < 5 → IsStuffed k [] []
  zero_kept : {k : ℕ} {plain out : List Bool} → k < 5 → IsStuffed 0 plain out → IsStuffed k (false ∷ plain) (false ∷ out)
  one_kept : {k : ℕ} {plain out : List Bool} → k < 5 → IsStuffed (suc k) plain out → IsStuffed k (true ∷ plain) (true ∷ out)
  zero_inserted : {plain out : List Bool} → IsStuffed 0 plain out → IsStuffed 5 plain (false ∷ out)

-- The bits between the flags before zeros are inserted: those of the content, and then those of its check sequence, low
-- byte first, each byte from its least significant bit on.
abbrev pub plain_of : List ℕ → List Bool
plain_of content = bits_of content ++ low_bits 16 (fcs_of content)

-- the bits are the frame of the content, which has 1 to 2048 bytes
pub record IsFrame (content : List ℕ) (bits : List Bool) : Type 0 where
  pub bytes : AreBytes content
  pub some : 0 < length content
  pub fits : length content ≤ 2048
  pub out : List Bool
  pub stuffed : IsStuffed 0 (plain_of content) out
  pub whole : bits ≡ flag ++ out ++ flag

-- the most bits of a frame with n bytes of content: those of two flags, of the content and the check sequence, and an
-- inserted zero for each five of these
abbrev pub wire_bits : ℕ → ℕ
wire_bits bytes = 16 + 8 * (bytes + 2) + (8 * (bytes + 2)) / 5
