-- What a command answers, and the texts that several answers share.
use Rattle.std.specs.Prelude.{ℕ, List, [], ◌∷◌, ◌++◌, codes, decimal}
use Rattle.sercos_io.specs.declared.status.Status.{Status}

-- a status, and the bytes that are written
pub record Answer : Type 0 where
  pub status : Status
  pub output : List ℕ

-- a line feed
abbrev pub line_feed : List ℕ
line_feed = 10 ∷ []

-- two texts, each followed by its number in decimal digits
unfoldable pub two_numbers : List ℕ → ℕ → List ℕ → ℕ → List ℕ
two_numbers first a second b = first ++ decimal a ++ second ++ decimal b

-- the line that refuses an input at a line and a column
abbrev pub refused_text : ℕ → ℕ → List ℕ
refused_text line column = codes "refused line " ++ decimal line ++ codes " column " ++ decimal column ++ line_feed
