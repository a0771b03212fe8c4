-- Hexadecimal digits of either case.
use Rattle.std.specs.Prelude.{◌≡◌, ℕ, ◌%◌, List, length}
use Rattle.std.specs.Char.{is_ascii_hexdigit}
use Rattle.std.specs.List.{prefix_len}

-- digits alone, two for each byte
pub record AreDigitPairs (text : List ℕ) : Type 0 where
  pub all : prefix_len is_ascii_hexdigit text ≡ length text
  pub even : length text % 2 ≡ 0
