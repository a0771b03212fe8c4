-- Planner's input with another time of one drive or another cycle time, and how far each can be
-- changed while a plan still fits.
use Rattle.std.specs.Prelude.{ℕ, zero, suc, ◌+◌, ◌-◌, ◌*◌, ◌<◌, ◌≤◌, Bool, if◌then◌else◌, List, ◌∷◌, map, Option, Some, None, slice_set}
use Rattle.std.specs.List.{find, range_with_len}
use Rattle.sercos_timing.specs.Views.{WishesView, PlanView}
use Rattle.sercos_timing.specs.Limits.{least_cycle, cycle_unit, most_t1min, most_tatmt, most_t4min, most_tatat, most_tmtsy, most_tmtsg}
use Rattle.sercos_timing.specs.Valid.{IsCycle}
use Rattle.sercos_timing.specs.Order.{wish, times}
use Rattle.sercos_timing.specs.Inequalities.{Fits}
use Rattle.sercos_timing.specs.declared.wishes.Times.{Times}
use Rattle.sercos_timing.specs.declared.wishes.Wish.{Wish}
use Rattle.sercos_plan.specs.Least.{NoneFits}
use Rattle.sercos_plan.specs.LeastTimes.{is_roomy}
use Rattle.sercos_margin.specs.declared.changes.Time.{Time}
use Rattle.sercos_margin.specs.declared.changes.Time.TheVariants.{T1min, Tatmt, T4min, Tatat, Tmtsy, Tmtsg}

-- one of the six times that a drive declares
abbrev pub time_in : Time → Times → ℕ
time_in T1min ts = ts.t1min
time_in Tatmt ts = ts.tatmt
time_in T4min ts = ts.t4min
time_in Tatat ts = ts.tatat
time_in Tmtsy ts = ts.tmtsy
time_in Tmtsg ts = ts.tmtsg

-- the greatest value that a drive may declare, in microseconds
abbrev pub greatest : Time → ℕ
greatest T1min = most_t1min
greatest Tatmt = most_tatmt
greatest T4min = most_t4min
greatest Tatat = most_tatat
greatest Tmtsy = most_tmtsy
greatest Tmtsg = most_tmtsg

-- the time t that the drive k declares
abbrev pub declared : WishesView → ℕ → Time → ℕ
declared w k t = time_in t (times w k)

-- the times with the value v of the time t
abbrev pub changed : Time → ℕ → Times → Times
changed T1min v ts = record ts { t1min = v }
changed Tatmt v ts = record ts { tatmt = v }
changed T4min v ts = record ts { t4min = v }
changed Tatat v ts = record ts { tatat = v }
changed Tmtsy v ts = record ts { tmtsy = v }
changed Tmtsg v ts = record ts { tmtsg = v }

-- a drive's input with the value v of its time t
abbrev pub changed_wish : Time → ℕ → Wish → Wish
changed_wish t v d = record d { times = changed t v d.times }

-- the planner's input with the value v of the time t of the drive k
abbrev pub with_time : WishesView → ℕ → Time → ℕ → WishesView
with_time w k t v = record w { drives = slice_set w.drives k (changed_wish t v (wish w k)) }

-- the planner's input with the cycle time and the control unit cycle time c
abbrev pub with_cycle : WishesView → ℕ → WishesView
with_cycle w c = record w { cycle = c; control = c }

-- some plan fits
abbrev pub HasPlan : WishesView → Type 0
HasPlan w = (p : PlanView) × Fits w p

-- n is the margin of the time t of the drive k: a plan fits with each value from the declared one
-- up to n, and with no value above n that a drive may declare
pub record IsMargin (w : WishesView) (k : ℕ) (t : Time) (n : ℕ) : Type 0 where
  pub least : declared w k t ≤ n
  pub most : n ≤ greatest t
  pub fits : (v : ℕ) → declared w k t ≤ v → v ≤ n → HasPlan (with_time w k t v)
  pub none : (v : ℕ) → n < v → v ≤ greatest t → NoneFits (with_time w k t v)

-- a plan fits with the value `low`, and with no value above `high` that a drive may declare
pub record IsBetween (w : WishesView) (k : ℕ) (t : Time) (low high : ℕ) : Type 0 where
  pub least : declared w k t ≤ low
  pub ordered : low ≤ high
  pub most : high ≤ greatest t
  pub fits : HasPlan (with_time w k t low)
  pub none : (v : ℕ) → high < v → v ≤ greatest t → NoneFits (with_time w k t v)

-- a plan fits with each cycle time of this profile from n on, and with none below
pub record IsLeastOf (w : WishesView) (n : ℕ) : Type 0 where
  pub cycle : IsCycle n
  pub fits : (c : ℕ) → IsCycle c → n ≤ c → HasPlan (with_cycle w c)
  pub none : (c : ℕ) → IsCycle c → c < n → NoneFits (with_cycle w c)

-- the least cycle time with which a plan fits; None if no plan fits with any cycle time of this
-- profile
abbrev pub IsLeastCycle : WishesView → Option ℕ → Type 0
IsLeastCycle w None = (c : ℕ) → IsCycle c → NoneFits (with_cycle w c)
IsLeastCycle w (Some n) = IsLeastOf w n

-- the greatest of low, low + 1, .., low + n that passes a test; low if no value above it does
unfoldable pub highest : (ℕ → Bool) → ℕ → ℕ → ℕ
highest f low zero = low
highest f low (suc n) = if f (low + suc n) then low + suc n else highest f low n

-- the margin of the time t of the drive k, found value by value: a plan fits iff the least times
-- keep their bounds
unfoldable pub margin_of : WishesView → ℕ → Time → ℕ
margin_of w k t = highest (λ v. is_roomy (with_time w k t v)) (declared w k t) (greatest t - declared w k t)

-- all cycle times of this profile, ascending
unfoldable pub all_cycles : List ℕ
all_cycles = least_cycle ∷ map (λ m. cycle_unit * m) (range_with_len 1 256)

-- the least cycle time with which a plan fits, found one by one
unfoldable pub least_cycle_of : WishesView → Option ℕ
least_cycle_of w = find (λ c. is_roomy (with_cycle w c)) all_cycles
