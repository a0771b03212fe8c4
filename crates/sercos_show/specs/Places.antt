-- What the place of a refused line of `show` means: how far the line is one.
use Rattle.std.specs.Prelude.{◌≡◌, ℕ, suc, ◌<◌, Bool, true, List, ◌++◌, length, take, slice_index}
use Rattle.std.specs.Char.{is_ascii_hexdigit}
use Rattle.sercos_text.specs.Fields.{number_of}
use Rattle.sercos_show.specs.declared.line.LineKind.{LineKind}
use Rattle.sercos_show.specs.Line.{kind_text}
use Rattle.sercos_show.specs.SpelledLine.{IsLine}

-- bytes with which a line begins
pub record BeginsLine (bytes : List ℕ) : Type 0 where
  pub rest : List ℕ
  pub kind : LineKind
  pub bits : List Bool
  pub is : IsLine kind (bytes ++ rest) bits

-- COUNT is a number above 19696
pub record IsLarge (kind : LineKind) (line : List ℕ) : Type 0 where
  pub rest : List ℕ
  pub above : 19696 < number_of rest
  pub whole : line ≡ kind_text kind ++ rest

-- a line has a digit of HEX at a place
abbrev pub HasDigit : List ℕ → ℕ → Type 0
HasDigit line place = is_ascii_hexdigit (slice_index line place) ≡ true

-- Why a line is refused at a place. The bytes before the place begin a line, and with the byte at the place they don't; or the
-- line ends at the place, and is incomplete. There are two exceptions. A COUNT that is too large is refused at its first digit.
-- A pair of digits is refused at its first digit if only its second one shows that bits after the last one aren't zeros.
pub data IsRefusedAt (line : List ℕ) : ℕ → Type 0 where
  at_byte : (place : ℕ) → place < length line → BeginsLine (take place line) → (BeginsLine (take (suc place) line) → ⊥) →
      IsRefusedAt line place
  at_end : BeginsLine line → ((kind : LineKind) (bits : List Bool) → IsLine kind line bits → ⊥) → IsRefusedAt line (length line)
  too_large : (kind : LineKind) → IsLarge kind line → BeginsLine (kind_text kind) → IsRefusedAt line (length (kind_text kind))
  in_pair : (place : ℕ) → HasDigit line place → HasDigit line (suc place) → BeginsLine (take (suc place) line) →
      (BeginsLine (take (suc (suc place)) line) → ⊥) → IsRefusedAt line place
