-- Properties of every valid ring.
use Rattle.std.specs.Prelude.{◌≤◌, length, map}
use Rattle.std.specs.List.{All}
use Rattle.sercos_timing.specs.Limits.{most_drives, most_t1min, most_tatmt, most_t4min, most_tatat, most_tmtsy, most_tmtsg}
use Rattle.sercos_timing.specs.Valid.{AreDistinct, IsAddress, IsOrder, AreCycles}
use Rattle.sercos_timing.specs.declared.wishes.Times.{Times}
use Rattle.sercos_block.specs.Views.{RingView}
use Rattle.sercos_block.specs.Rings.{wishes_of}

-- the times that a drive declares are at most the limits of this profile, in microseconds
pub record AreWithinLimits (t : Times) : Type 0 where
  pub t1min : t.t1min ≤ most_t1min
  pub tatmt : t.tatmt ≤ most_tatmt
  pub t4min : t.t4min ≤ most_t4min
  pub tatat : t.tatat ≤ most_tatat
  pub tmtsy : t.tmtsy ≤ most_tmtsy
  pub tmtsg : t.tmtsg ≤ most_tmtsg

-- at least one drive and not too many, with distinct addresses, which declare times within their
-- limits; an order that lists each drive once; and numbers of this profile
pub record IsRing (r : RingView) : Type 0 where
  pub some : 1 ≤ length r.drives
  pub few : length r.drives ≤ most_drives
  pub addresses : All (λ d. IsAddress d.address) r.drives
  pub times : All (λ d. AreWithinLimits d.times) r.drives
  pub apart : AreDistinct (map (λ d. d.address) r.drives)
  pub order : IsOrder r.order (length r.drives)
  pub cycles : AreCycles (wishes_of r)
