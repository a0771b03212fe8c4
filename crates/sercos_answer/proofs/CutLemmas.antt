-- Lemmas on the lines of a text, cut off one after the other.
use Rattle.std.proofs.Common.{◌≡◌, ℕ, ◌+◌, ◌<◌, ◌==◌, Bool, true, false, List, [], ◌∷◌, length, suc, refl, ◌∙◌, ap, arith}
use Rattle.std.specs.List.{before_first, after_first, position_or_len}
use Rattle.sercos_answer.specs.Lines.{lines_of, with_front}

abbrev pub is_feed : ℕ → Bool
is_feed byte = byte == 10

before_first-more : (byte : ℕ) (bytes : List ℕ) → is_feed byte ≡ false → before_first is_feed (byte ∷ bytes) ≡ byte ∷ before_first is_feed bytes
before_first-more byte bytes e =
    let next : 1 + position_or_len is_feed bytes ≡ suc (position_or_len is_feed bytes) = omega arith in rw (e, next) refl

pub after_first-more : (byte : ℕ) (bytes : List ℕ) → is_feed byte ≡ false → after_first is_feed (byte ∷ bytes) ≡ after_first is_feed bytes
after_first-more byte bytes e =
    let next : 1 + position_or_len is_feed bytes + 1 ≡ suc (position_or_len is_feed bytes + 1) = omega arith in rw (e, next) refl

lines_of-feed : (byte : ℕ) (bytes : List ℕ) → is_feed byte ≡ true → lines_of (byte ∷ bytes) ≡ before_first is_feed (byte ∷ bytes) ∷ lines_of (after_first is_feed (byte ∷ bytes))
unfolding lines_of
lines_of-feed byte bytes e = rw e refl

lines_of-more : (byte : ℕ) (bytes : List ℕ) → is_feed byte ≡ false → lines_of (byte ∷ bytes) ≡ with_front byte (lines_of bytes)
unfolding lines_of
lines_of-more byte bytes e = rw e refl

lines_of-empty : lines_of [] ≡ []
unfolding lines_of
lines_of-empty = refl

rest_line-cases : (byte c : ℕ) (bytes : List ℕ) (feed : Bool) → is_feed c ≡ feed → with_front c (lines_of bytes) ≡ (c ∷ before_first is_feed bytes) ∷ lines_of (after_first is_feed bytes) → with_front byte (lines_of (c ∷ bytes)) ≡ (byte ∷ before_first is_feed (c ∷ bytes)) ∷ lines_of (after_first is_feed (c ∷ bytes))
rest_line-cases byte c bytes true e rest = ap (with_front byte) (lines_of-feed c bytes e)
rest_line-cases byte c bytes false e rest =
    ap (with_front byte) (lines_of-more c bytes e ∙ rest) ∙ rw (before_first-more c bytes e, after_first-more c bytes e) refl

rest_line : (byte : ℕ) (bytes : List ℕ) → with_front byte (lines_of bytes) ≡ (byte ∷ before_first is_feed bytes) ∷ lines_of (after_first is_feed bytes)
unfolding lines_of
rest_line byte [] = refl
rest_line byte (c ∷ bytes) = rest_line-cases byte c bytes (is_feed c) refl (rest_line c bytes)

first_line-cases : (byte : ℕ) (bytes : List ℕ) (feed : Bool) → is_feed byte ≡ feed → lines_of (byte ∷ bytes) ≡ before_first is_feed (byte ∷ bytes) ∷ lines_of (after_first is_feed (byte ∷ bytes))
first_line-cases byte bytes true e = lines_of-feed byte bytes e
first_line-cases byte bytes false e =
    lines_of-more byte bytes e ∙ rest_line byte bytes ∙ rw (before_first-more byte bytes e, after_first-more byte bytes e) refl

-- the first line of a text that isn't empty, and the lines after it
pub lines_of-first : (bytes : List ℕ) → 0 < length bytes → lines_of bytes ≡ before_first is_feed bytes ∷ lines_of (after_first is_feed bytes)
lines_of-first [] some = absurd (omega arith)
lines_of-first (byte ∷ bytes) some = first_line-cases byte bytes (is_feed byte) refl

-- what is left of a text, its first line cut off
pub record Cut (rest line others : List ℕ) : Type 0 where
  pub some : 0 < length rest
  pub line_is : line ≡ before_first is_feed rest
  pub others_are : others ≡ after_first is_feed rest

pub lines_of-cut : (rest line others : List ℕ) → Cut rest line others → lines_of rest ≡ line ∷ lines_of others
lines_of-cut rest line others cut = rw (cut.line_is, cut.others_are) (lines_of-first rest cut.some)
