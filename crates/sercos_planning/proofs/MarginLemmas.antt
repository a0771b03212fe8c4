-- A ring's drives declare times within their limits, and what is said of them is right.
use Rattle.std.proofs.Common.{◌≡◌, ℕ, zero, suc, ◌<◌, ◌≤◌, true, List, [], ◌∷◌, length, map, get_or, Option, Result, Ok, Err, IfOk, OnErr, IfErr, refl, sym, subst, arith}
use Rattle.std.specs.List.{All}
use Rattle.std.proofs.lemmas.List.{length-map}
use Rattle.sercos_timing.specs.Views.{WishesView, PlanView}
use Rattle.sercos_timing.specs.Order.{no_wish, times}
use Rattle.sercos_timing.specs.declared.wishes.Times.{Times}
use Rattle.sercos_timing.specs.Valid.{IsValid}
use Rattle.sercos_plan.specs.Views.{ChainView}
use Rattle.sercos_plan.specs.Chains.{IsChain}
use Rattle.sercos_plan.specs.Least.{IsLeast, NoneFits}
use Rattle.sercos_margin.specs.Margins.{time_in, greatest, declared, HasPlan, IsMargin, IsLeastCycle, margin_of, least_cycle_of}
use Rattle.sercos_margin.specs.declared.changes.Time.{Time}
use Rattle.sercos_margin.specs.declared.changes.Time.TheVariants.{T1min, Tatmt, T4min, Tatat, Tmtsy, Tmtsg}
use Rattle.sercos_block.specs.Views.{DriveView, RingView}
use Rattle.sercos_block.specs.Rings.{is_ring, wish_of, wishes_of}
use Rattle.sercos_block.specs.ValidRings.{AreWithinLimits, IsRing}
use Rattle.sercos_planning.specs.LeastTimes.{IsLeastChain}
use Rattle.sercos_planning.specs.Margins.{wishes_margins, AreLimited, AreMargins}

within : (ts : Times) (t : Time) → AreWithinLimits ts → time_in t ts ≤ greatest t
within ts T1min are = are.t1min
within ts Tatmt are = are.tatmt
within ts T4min are = are.t4min
within ts Tatat are = are.tatat
within ts Tmtsy are = are.tmtsy
within ts Tmtsg are = are.tmtsg

-- the times that the drive at a place declares
times_at : (drives : List DriveView) (k : ℕ) → k < length drives → All (λ d. AreWithinLimits d.times) drives → AreWithinLimits (get_or (map wish_of drives) k no_wish).times
times_at [] k below are = absurd (omega arith)
times_at (d ∷ drives) zero below are = are 0 d (omega arith)
times_at (d ∷ drives) (suc k) below are = times_at drives k (omega (arith, below)) (λ i x within. are (suc i) x (omega (arith, within)))

pub are_limited : (r : RingView) → IsRing r → AreLimited (wishes_of r)
unfolding wishes_of
are_limited r ring k t below =
    let long : length (map wish_of r.drives) ≡ length r.drives = length-map r.drives wish_of in
    within (times (wishes_of r) k) t (times_at r.drives k (omega (arith, long, below)) ring.times)

pub limited_wishes : (r : RingView) (w : WishesView) → w ≡ wishes_of r → ((r : RingView) → is_ring r ≡ true → IsRing r) → is_ring r ≡ true → AreLimited w
limited_wishes r w is law ring = subst AreLimited (sym is) (are_limited r (law r ring))

-- what the answer says
pub are_margins : (w : WishesView) (cycle : Option ℕ) (made : Result PlanView ChainView) → IsLeastCycle w cycle → cycle ≡ least_cycle_of w
    → ((k : ℕ) (t : Time) → IsValid w → declared w k t ≤ greatest t → HasPlan w → IsMargin w k t (margin_of w k t)) → IsValid w → AreLimited w
    → IfOk made (IsLeast w) → OnErr made (NoneFits w) → IfErr made (IsChain w) → IfErr made (IsLeastChain w) → AreMargins w (wishes_margins w made)
unfolding wishes_margins
are_margins w cycle (Ok p) least is margins valid limits fits none chain at = record {
  no = λ e. absurd (cc);
  done = λ e. record {
    plan = (p, fits.fits);
    cycle = cycle;
    least = least;
    values = margin_of w;
    margins = λ k t below. margins k t valid (limits k t below) (p, fits.fits);
    text_is = rw is refl;
  };
}
are_margins w cycle (Err c) least is margins valid limits fits none chain at = record {
  no = λ e. record { none = none; cycle = cycle; least = least; chain = c; is_chain = chain; is_least = at; text_is = rw is refl };
  done = λ e. absurd (cc);
}
