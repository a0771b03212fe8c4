-- A read that copies the next bytes of a list to the front of a piece.
use Rattle.std.proofs.Common.{◌≡◌, ℕ, ◌+◌, ◌-◌, ◌<◌, ◌≤◌, min, List, [], ◌++◌, length, take, drop, sym, ap, ◌∙◌, arith, length-append, length-take, length-drop}
use Rattle.std.proofs.lemmas.List.{take-append-drop, take-append-le, take-take, drop-drop, take_rest, nil_from_length}

-- what was copied is the front of the bytes, and nothing only where no byte is left or the piece is empty
copies_front : (left piece into : List ℕ) (most n : ℕ) → (0 < length piece → 0 < most) → n ≡ min most (min (length piece) (length left))
    → into ≡ take n left ++ drop n piece → (left ≡ take n into ++ drop n left) × (n ≡ 0 → 0 < length into → drop n left ≡ [])
copies_front left piece into most n some count copied =
    let within : n ≤ length (take n left) = rw length-take (omega (arith, count)) in
    let front : take n into ≡ take n left =
    ap (take n) copied ∙ take-append-le n (take n left) (drop n piece) within ∙ take-take n n left (omega arith) in
    let size : length into ≡ length (take n left) + length (drop n piece) = ap length copied ∙ length-append (take n left) (drop n piece) in (
      sym (ap (λ l. l ++ drop n left) front ∙ take-append-drop n left),
      λ none filled. nil_from_length (drop n left) (omega (arith, some, count, size, length-take n left, length-drop n piece, length-drop n left)),
    )

-- the same for the bytes of a list from a place on
pub reads_front : (bytes piece into : List ℕ) (place most n : ℕ) → (0 < length piece → 0 < most)
    → n ≡ min most (min (length piece) (length (take (length bytes - place) (drop place bytes))))
    → into ≡ take n (take (length bytes - place) (drop place bytes)) ++ drop n piece
    → (drop place bytes ≡ take n into ++ drop (place + n) bytes) × (n ≡ 0 → 0 < length into → drop (place + n) bytes ≡ [])
reads_front bytes piece into place most n some count copied =
    let rest = take_rest bytes place in
    rw (← drop-drop n place bytes) (copies_front (drop place bytes) piece into most n some (rw rest at count) (rw rest at copied))
