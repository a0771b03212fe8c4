-- The first inequality that a plan breaks: the least in number, and of that the first AT in the
-- order that breaks it.
use Rattle.std.specs.Prelude.{ℕ, ◌+◌, ◌*◌, Bool, true, List, [], ◌∷◌, Option, Some, None, option_map, nat_le, ◌==◌, if◌then◌else◌}
use Rattle.std.specs.Option.{option_or}
use Rattle.sercos_timing.specs.Views.{WishesView, PlanView}
use Rattle.sercos_timing.specs.Order.{wish, sent, bits_of, record_bytes}
use Rattle.sercos_timing.specs.Inequalities.{number_of, asked_of_start, asked_5, asked_6, asked_7, asked_10, sum_9, bound_9, greatest_tmtsy}
use Rattle.sercos_timing.specs.declared.wishes.Wish.{Wish}
use Rattle.sercos_timing.specs.declared.fitting.Broken.{Broken}
use Rattle.sercos_timing.specs.declared.inequality.Inequality.{Inequality}
use Rattle.sercos_timing.specs.declared.inequality.Inequality.TheVariants.{Own, Gap, Neighbor, Slave, Last, Master, Records, Cycle, NextMst, Capture, Positions}

-- What an inequality requires of an AT at the times of the plan, and the plan's time that it bounds
-- from below. For 1 to 4 this is the start of the AT.
abbrev pub asked_by : WishesView → PlanView → Inequality → ℕ → List ℕ → Option ℕ
asked_by w p Master = asked_6 w (bits_of w p.t1)
asked_by w p Records = asked_7 w (w.rate * p.t2)
asked_by w p Capture = asked_10 w p.t4
asked_by w p rule = asked_of_start w rule (bits_of w p.t1)

abbrev pub has_by : WishesView → PlanView → Inequality → ℕ → ℕ
has_by w p Master = λ k. w.rate * p.t2
has_by w p Records = λ k. w.rate * p.t3
has_by w p Capture = λ k. w.cycle
has_by w p rule = bits_of w p.t1

-- whether a value meets a requirement, if there is one
abbrev pub is_met : Option ℕ → ℕ → Bool
is_met None has = true
is_met (Some asked) has = nat_le asked has

-- the drive of the first AT in the order for which an inequality isn't met
abbrev pub first_unmet : (ℕ → List ℕ → Option ℕ) → (ℕ → ℕ) → List ℕ → Option ℕ
first_unmet asked has [] = None
first_unmet asked has (k ∷ before) =
    option_or (first_unmet asked has before) (if is_met (asked k before) (has k) then None else Some k)

-- the address of the first drive of the ring whose position is wrong
abbrev pub first_misplaced : ℕ → List Wish → List ℕ → Option ℕ
first_misplaced next [] places = None
first_misplaced next (d ∷ drives) [] = Some d.address
first_misplaced next (d ∷ drives) (place ∷ places) =
    if place == next then first_misplaced (next + d.record_len) drives places else Some d.address

-- an inequality, with the address of the drive whose AT is the first to break it
unfoldable pub broken_by : WishesView → PlanView → Inequality → Option Broken
broken_by w p rule =
    option_map (λ k. record { rule = number_of rule; drive = (wish w k).address })
    (first_unmet (asked_by w p rule) (has_by w p rule) (sent w))

-- an inequality that concerns no single drive, unless it is kept
abbrev pub broken_unless : Inequality → Bool → Option Broken
broken_unless rule kept = if kept then None else Some (record { rule = number_of rule; drive = 0 })

-- inequality 12, with the address of the first drive whose position is wrong
unfoldable pub broken_position : WishesView → PlanView → Option Broken
broken_position w p = option_map (λ a. record { rule = number_of Positions; drive = a }) (first_misplaced 1 w.drives p.position)

-- the first inequality that is broken; 11 isn't tested, since valid input keeps it
unfoldable pub first_broken : WishesView → PlanView → Option Broken
first_broken w p =
    option_or (broken_by w p Own) (option_or (broken_by w p Gap)
    (option_or (broken_by w p Neighbor) (option_or (broken_by w p Slave)
    (option_or (broken_unless Last (is_met (asked_5 w (bits_of w p.t1) (sent w)) (w.rate * p.t2)))
    (option_or (broken_by w p Master) (option_or (broken_by w p Records)
    (option_or (broken_unless Cycle (nat_le p.t3 w.cycle))
    (option_or (broken_unless NextMst (nat_le (sum_9 w (w.rate * p.t2) (greatest_tmtsy w)) (bound_9 w)))
    (option_or (broken_by w p Capture) (option_or (broken_position w p)
    (broken_unless Positions (p.mdt_len == record_bytes w.drives))))))))))))
