-- Bits and bytes. The bits of a number are listed from the least significant one on.
use Rattle.std.specs.Prelude.{ℕ, zero, suc, ◌+◌, ◌*◌, ◌/◌, ◌%◌, ◌<◌, ◌==◌, Bool, true, false, List, [], ◌∷◌, ◌++◌}

-- whether a number's least significant bit is a one
unfoldable pub is_odd : ℕ → Bool
is_odd n = n % 2 == 1

-- the k lowest bits of a number
unfoldable pub low_bits : ℕ → ℕ → List Bool
low_bits zero n = []
low_bits (suc k) n = is_odd n ∷ low_bits k (n / 2)

-- the number that bits spell
unfoldable pub number_of : List Bool → ℕ
number_of [] = 0
number_of (true ∷ bits) = 1 + 2 * number_of bits
number_of (false ∷ bits) = 2 * number_of bits

-- the bits of bytes: eight of each byte, in the bytes' order
unfoldable pub bits_of : List ℕ → List Bool
bits_of [] = []
bits_of (byte ∷ bytes) = low_bits 8 byte ++ bits_of bytes

-- the bytes that bits spell, eight bits each; bits past the last whole byte are left out
unfoldable pub bytes_of : List Bool → List ℕ
bytes_of (a ∷ b ∷ c ∷ d ∷ e ∷ f ∷ g ∷ h ∷ bits) = number_of (a ∷ b ∷ c ∷ d ∷ e ∷ f ∷ g ∷ h ∷ []) ∷ bytes_of bits
bytes_of _ = []

-- each number of the list is a byte
unfoldable pub AreBytes : List ℕ → Type 0
AreBytes [] = Unit {0}
AreBytes (byte ∷ bytes) = (byte < 256) × AreBytes bytes
