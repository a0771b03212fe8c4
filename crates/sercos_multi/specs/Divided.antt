-- An input with several documents, which lines that are exactly `next` divide.
use Rattle.std.specs.Prelude.{ℕ, ◌==◌, Bool, ◌||◌, if◌then◌else◌, List, [], ◌∷◌, ◌++◌, codes}
use Rattle.std.specs.Str.{bytes_eq}
use Rattle.sercos_answer.specs.Lines.{with_front}

-- the lines of a text, each with its line feed, which the last may lack
unfoldable pub lines_in : List ℕ → List (List ℕ)
lines_in [] = []
lines_in (byte ∷ bytes) = if byte == 10 then (byte ∷ []) ∷ lines_in bytes else with_front byte (lines_in bytes)

-- a line that divides, with its line feed or without
abbrev pub is_next : List ℕ → Bool
is_next line = bytes_eq line (codes "next") || bytes_eq line (codes "next\n")

-- a text put before the first part
unfoldable pub onto : List ℕ → List (List ℕ) → List (List ℕ)
onto front [] = front ∷ []
onto front (part ∷ parts) = (front ++ part) ∷ parts

-- the parts between lines that divide: one more than there are such lines
unfoldable pub parts_in : List (List ℕ) → List (List ℕ)
parts_in [] = [] ∷ []
parts_in (line ∷ lines) = if is_next line then [] ∷ parts_in lines else onto line (parts_in lines)

unfoldable pub parts_of : List ℕ → List (List ℕ)
parts_of text = parts_in (lines_in text)

-- the parts after a line that divides, if there is one
abbrev pub parts_after : Bool → List ℕ → List (List ℕ)
parts_after more rest = if more then parts_of rest else []
