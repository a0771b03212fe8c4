-- What the index means at which a text is refused: how far the text is that of an identifier
-- number.
use Rattle.std.specs.Prelude.{◌≡◌, ◌≢◌, ℕ, suc, ◌^◌, ◌<◌, List, ◌++◌, length, take}
use Rattle.sercos_idn.specs.Idns.{idn_text, four_digits}

-- the text of an identifier number with its number replaced by one from 4096 to 9999, which is too
-- large
pub record IsLarge (text : List ℕ) : Type 0 where
  pub raw : ℕ
  pub number : ℕ
  pub small : raw < 2 ^ 16
  pub above : 4095 < number
  pub below : number < 10000
  pub whole : text ≡ take 4 (idn_text raw) ++ four_digits number

-- bytes that begin the text of an identifier number, or of one whose number is too large
pub data Begins (bytes : List ℕ) : Type 0 where
  begins : (raw : ℕ) (rest : List ℕ) → raw < 2 ^ 16 → idn_text raw ≡ bytes ++ rest → Begins bytes
  begins_large : (rest : List ℕ) → IsLarge (bytes ++ rest) → Begins bytes

-- Why a text is refused at an index. A number is checked once it has four digits. So one that is
-- too large is refused at its first digit, index 4, regardless of what follows it, and the bytes
-- before another index may begin a number that is too large, as `S-0-9` does. Otherwise the bytes
-- before the index begin the text of an identifier number, and with the byte at the index they
-- don't; or the text ends at the index and is incomplete.
pub data IsRefusedAt (text : List ℕ) : ℕ → Type 0 where
  large : IsLarge (take 8 text) → IsRefusedAt text 4
  at_byte : (place : ℕ) → (IsLarge (take 8 text) → ⊥) → place < length text → Begins (take place text) →
      (Begins (take (suc place) text) → ⊥) → IsRefusedAt text place
  at_end : (IsLarge (take 8 text) → ⊥) → Begins text → ((raw : ℕ) → idn_text raw ≢ text) → IsRefusedAt text (length text)
