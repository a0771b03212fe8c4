-- A text with a mark before each of its lines.
use Rattle.std.specs.Prelude.{◌≡◌, ℕ, ◌==◌, Bool, true, false, if◌then◌else◌, List, [], ◌∷◌, ◌++◌}

abbrev pub is_feed : ℕ → Bool
is_feed byte = byte == 10

-- a text without a line feed
abbrev pub NoFeed : List ℕ → Type 0
NoFeed [] = Unit {0}
NoFeed (byte ∷ text) = (is_feed byte ≡ false) × NoFeed text

-- the first argument is whether a line begins at the start of the text
unfoldable pub marked_from : Bool → List ℕ → List ℕ → List ℕ
marked_from begins mark [] = []
marked_from begins mark (byte ∷ bytes) = (if begins then mark else []) ++ byte ∷ marked_from (is_feed byte) mark bytes

unfoldable pub marked : List ℕ → List ℕ → List ℕ
marked mark text = marked_from true mark text

-- whether a line begins after a text; the first argument is whether one begins at its start
unfoldable pub begins_after : Bool → List ℕ → Bool
begins_after begins [] = begins
begins_after begins (byte ∷ bytes) = begins_after (is_feed byte) bytes

-- a text of whole lines, each with its line feed
abbrev pub AreLines : List ℕ → Type 0
AreLines text = begins_after true text ≡ true
