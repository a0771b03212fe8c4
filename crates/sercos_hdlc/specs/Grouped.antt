-- What the bits of several bytes add to a reader.
use Rattle.std.specs.Prelude.{◌≡◌, ℕ, Bool, false, List, length}
use Rattle.sercos_model.specs.Bits.{low_bits}
use Rattle.sercos_hdlc.specs.declared.group.Group.{Group}
use Rattle.sercos_hdlc.specs.Reason.{unstuffed}
use Rattle.sercos_hdlc.specs.Sought.{ones_after, has_six, dropped_after}

-- After k ones in a row the bits contain no sixth one, and add these plain bits and this state;
-- `before` is whether the last zero before them is an inserted one.
pub record IsGroup (k : ℕ) (before : Bool) (bits : List Bool) (group : Group) : Type 0 where
  pub no_six : has_six k bits ≡ false
  pub plain : low_bits group.count group.bits ≡ unstuffed k bits
  pub all : group.count ≡ length (unstuffed k bits)
  pub behind : group.ones ≡ ones_after k bits
  pub last_zero : group.dropped ≡ dropped_after k before bits
