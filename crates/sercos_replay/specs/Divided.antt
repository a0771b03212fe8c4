-- An input with a document and a capture, which a line divides.
use Rattle.std.specs.Prelude.{ℕ, suc, ◌==◌, Bool, true, ◌&&◌, if◌then◌else◌, List, [], ◌∷◌, codes, take, drop, Option, Some, None, option_map}
use Rattle.std.specs.List.{before_first, after_first}
use Rattle.std.specs.Str.{bytes_eq}

abbrev pub is_feed : ℕ → Bool
is_feed byte = byte == 10

-- the first line of a text is exactly `capture`
abbrev pub begins_capture : List ℕ → Bool
begins_capture text = bytes_eq (before_first is_feed text) (codes "capture")

-- The place of the first line that is exactly `capture`. The first argument says whether a line begins where the text does.
unfoldable pub capture_place : Bool → List ℕ → Option ℕ
capture_place begins [] = None
capture_place begins (byte ∷ bytes) =
    if begins && begins_capture (byte ∷ bytes) then Some 0 else option_map suc (capture_place (is_feed byte) bytes)

-- what is before that line, the document, and what is after it, the capture
abbrev pub document_part : List ℕ → ℕ → List ℕ
document_part bytes place = take place bytes

abbrev pub capture_part : List ℕ → ℕ → List ℕ
capture_part bytes place = after_first is_feed (drop place bytes)

unfoldable pub divided : List ℕ → Option (List ℕ × List ℕ)
divided bytes = option_map (λ place. (document_part bytes place, capture_part bytes place)) (capture_place true bytes)
