-- What is sent between the flags: the plain bits, and a zero after each five ones in a row.
use Rattle.sercos_model.specs.Frames.{flag, plain_of}
use Rattle.std.specs.Prelude.{ℕ, suc, ◌==◌, Bool, false, not, ◌&&◌, cond, List, [], ◌∷◌, ◌++◌}

-- whether a bit after `ones` ones in a row is the fifth of them
abbrev pub is_fifth : ℕ → Bool → Bool
is_fifth ones bit = bit && (ones == 4)

-- what is sent for a bit after `ones` ones in a row: the bit, and a zero after a fifth one
abbrev pub sent_for : ℕ → Bool → List Bool
sent_for ones bit = cond (is_fifth ones bit) (bit ∷ false ∷ []) (bit ∷ [])

-- the number of ones in a row at the end of what was sent for the bit; 0 after an inserted zero
abbrev pub ones_behind : ℕ → Bool → ℕ
ones_behind ones bit = cond (bit && not (is_fifth ones bit)) (suc ones) 0

-- what is sent for bits after `ones` ones in a row
unfoldable pub stuffed : ℕ → List Bool → List Bool
stuffed ones [] = []
stuffed ones (bit ∷ bits) = sent_for ones bit ++ stuffed (ones_behind ones bit) bits

-- the one frame of a content of 1 to 2048 bytes
unfoldable pub frame_of : List ℕ → List Bool
frame_of content = flag ++ stuffed 0 (plain_of content) ++ flag
