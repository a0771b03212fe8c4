-- What the bits of a byte add to a reader.
use Rattle.std.specs.Prelude.{◌≡◌, ℕ, ◌+◌, ◌-◌, ◌/◌, ◌%◌, ◌==◌, Bool, true, false, cond, List, length, take}
use Rattle.sercos_model.specs.Bits.{low_bits, number_of}
use Rattle.sercos_hdlc.specs.declared.given.Given.{Given}
use Rattle.sercos_hdlc.specs.Reason.{unstuffed}
use Rattle.sercos_hdlc.specs.Sought.{ones_after, has_six, sixth_at, dropped_after}

-- after k ones in a row the bits contain no sixth one, and add these plain bits and this state
pub record IsGiven (k : ℕ) (bits : List Bool) (given : Given) : Type 0 where
  pub no_six : has_six k bits ≡ false
  pub plain : low_bits given.count given.bits ≡ unstuffed k bits
  pub all : given.count ≡ length (unstuffed k bits)
  pub behind : given.ones ≡ ones_after k bits
  pub last_zero : (before : Bool) → given.dropped ≡ dropped_after k before bits

-- the bits before the sixth one
abbrev pub before_sixth : ℕ → List Bool → List Bool
before_sixth k bits = take (sixth_at k bits) bits

-- after k ones in a row the bits contain a sixth one, and those before it add these plain bits and
-- this state
pub record IsEnd (k : ℕ) (bits : List Bool) (given : Given) : Type 0 where
  pub six : has_six k bits ≡ true
  pub plain : low_bits given.count given.bits ≡ unstuffed k (before_sixth k bits)
  pub all : given.count ≡ length (unstuffed k (before_sixth k bits))
  pub place : given.count + given.ones ≡ 6 + sixth_at k bits
  pub last_zero : (before : Bool) → cond (sixth_at k bits + k == 5) before given.dropped ≡ dropped_after k before (before_sixth k bits)

-- the parts of a table's entry: the plain bits, their number, the ones at the end, and whether the
-- last zero is an inserted one
abbrev pub parts_of : ℕ → ℕ × ℕ × ℕ × Bool
parts_of entry = (entry % 256, entry / 256 % 16, entry / 4096 % 8, entry / 32768 == 1)

-- The parts for bits after k ones in a row; `before` is whether the last zero before them is an
-- inserted one. With a sixth one, they are the parts of the bits before it, and instead of the ones
-- 6, or 7 if a zero among these bits is an inserted one.
abbrev pub given_of : Bool → ℕ → List Bool → ℕ × ℕ × ℕ × Bool
given_of before k bits =
    cond (has_six k bits) (
      number_of (unstuffed k (before_sixth k bits)),
      length (unstuffed k (before_sixth k bits)),
      6 + (sixth_at k bits - length (unstuffed k (before_sixth k bits))),
      cond (sixth_at k bits + k == 5) false (dropped_after k before (before_sixth k bits)),
    )
    (number_of (unstuffed k bits), length (unstuffed k bits), ones_after k bits, dropped_after k before bits)
