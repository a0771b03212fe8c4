-- Chains of inequalities, which lead from an inequality 1 or 2 to a bound that they break.
use Rattle.std.specs.Prelude.{◌≡◌, ℕ, ◌-◌, ◌*◌, ◌<◌, Bool, true, false, List, [], ◌∷◌, length, Option, Some, None, option_map, slice_index, ◌==◌, ◌&&◌, if◌then◌else◌}
use Rattle.sercos_timing.specs.Views.{WishesView}
use Rattle.sercos_timing.specs.Order.{wish, times, sent, first_sent, neighbor, previous}
use Rattle.sercos_timing.specs.declared.inequality.Inequality.{Inequality}
use Rattle.sercos_timing.specs.declared.inequality.Inequality.TheVariants.{Own, Gap, Neighbor, Slave, Last, Master, Records, Cycle, NextMst, Capture}
use Rattle.sercos_timing.specs.Inequalities.{of_number, asked_1, asked_2, asked_3, asked_4, asked_5, asked_6, asked_7, sum_9, bound_9}
use Rattle.sercos_plan.specs.LeastTimes.{round_up}
use Rattle.sercos_plan.specs.Views.{ChainView}
use Rattle.sercos_plan.specs.declared.chain.Link.{Link}

-- the time that an inequality bounds: T1 of its drive, T2 or T3
pub data Moment : Type 0 where
  of_t1 : Moment
  of_t2 : Moment
  of_t3 : Moment
  of_none : Moment

-- the time that this inequality bounds; 8 to 12 bound none of them
abbrev pub moment_of : Option Inequality → Moment
moment_of (Some Own) = of_t1
moment_of (Some Gap) = of_t1
moment_of (Some Neighbor) = of_t1
moment_of (Some Slave) = of_t1
moment_of (Some Last) = of_t2
moment_of (Some Master) = of_t2
moment_of (Some Records) = of_t3
moment_of _ = of_none

abbrev pub is_t1 : Moment → Bool
is_t1 of_t1 = true
is_t1 _ = false

abbrev pub is_t2 : Moment → Bool
is_t2 of_t2 = true
is_t2 _ = false

abbrev pub is_t3 : Moment → Bool
is_t3 of_t3 = true
is_t3 _ = false

-- the AT of the drive with an address, with the ATs before it; [] if there is no such drive
abbrev pub up_to : WishesView → ℕ → List ℕ → List ℕ
up_to w address [] = []
up_to w address (k ∷ before) = if (wish w k).address == address then k ∷ before else up_to w address before

-- the drive that sends the last AT of the order
abbrev pub last_place : WishesView → ℕ
last_place w = slice_index w.order (length w.order - 1)

-- the link bounds T1 of the drive j
abbrev pub is_t1_of : WishesView → Link → Option ℕ → Bool
is_t1_of w l None = false
is_t1_of w l (Some j) = is_t1 (moment_of (of_number l.rule)) && ((wish w j).address == l.drive)

abbrev pub given_if : Bool → Option ℕ → Option ℕ
given_if true asked = asked
given_if false asked = None

-- What an inequality of the drive k requires after a link, if the earlier time in the inequality is
-- the one that this link bounds, and has the link's bit time. None means that its earlier time is
-- another. The list is the drive's AT with the ATs before it.
abbrev pub asked_after : WishesView → Option Inequality → Option Link → List ℕ → Option ℕ
asked_after w (Some Own) None (k ∷ before) = asked_1 w (λ _. 0) k before
asked_after w (Some Gap) None (k ∷ before) = asked_2 w (λ _. 0) k before
asked_after w (Some Neighbor) (Some l) (k ∷ before) = given_if (is_t1_of w l (neighbor w k before)) (asked_3 w (λ _. l.at) k before)
asked_after w (Some Slave) (Some l) (k ∷ before) = given_if (is_t1_of w l (previous w k before)) (asked_4 w (λ _. l.at) k before)
asked_after w (Some Last) (Some l) (k ∷ before) = given_if (is_t1_of w l (Some k) && (k == last_place w)) (asked_5 w (λ _. l.at) (sent w))
asked_after w (Some Master) (Some l) (k ∷ before) = given_if (is_t1_of w l (Some k)) (asked_6 w (λ _. l.at) k before)
asked_after w (Some Records) (Some l) (k ∷ before) = given_if (is_t2 (moment_of (of_number l.rule))) (asked_7 w l.at k before)
asked_after w rule from ats = None

-- the bit time equals the requirement, rounded up to a microsecond
abbrev pub Gives : WishesView → Option ℕ → ℕ → Type 0
Gives w None time = ⊥
Gives w (Some asked) time = time ≡ w.rate * round_up w.rate asked

-- each link follows from the planner's input and the link before it
abbrev pub Linked : WishesView → Option Link → List Link → Type 0
Linked w from [] = Unit {0}
Linked w from (l ∷ links) = Gives w (asked_after w (of_number l.rule) from (up_to w l.drive (sent w))) l.at × Linked w (Some l) links

abbrev pub last_link : Option Link → List Link → Option Link
last_link from [] = from
last_link from (l ∷ links) = last_link (Some l) links

abbrev pub head_of : List ℕ → Option ℕ
head_of [] = None
head_of (k ∷ before) = Some k

-- the time used as the greatest TMTSY: that of the drive with an address, or the gap for address 0
abbrev pub pause_of : WishesView → ℕ → Option ℕ
pause_of w drive = if drive == 0 then Some w.gap else option_map (λ k. (times w k).tmtsy) (head_of (up_to w drive (sent w)))

abbrev pub ended_if : Bool → Option (ℕ × ℕ) → Option (ℕ × ℕ)
ended_if true end = end
ended_if false end = None

-- The sum and the bound of 8, 9 or 10 after the last link: 9 follows a link to T2, 8 the same
-- drive's link to T3, and 10 follows no link.
abbrev pub ends : WishesView → Option Inequality → ℕ → Option Link → Option (ℕ × ℕ)
ends w (Some NextMst) drive (Some l) = ended_if (is_t2 (moment_of (of_number l.rule)))
    (option_map (λ s. (sum_9 w l.at s, bound_9 w)) (pause_of w drive))
ends w (Some Cycle) drive (Some l) = ended_if (is_t3 (moment_of (of_number l.rule)) && (drive == l.drive)) (Some (l.at, w.rate * w.cycle))
ends w (Some Capture) drive None = option_map (λ k. (w.rate * (times w k).t4min, w.rate * w.cycle)) (head_of (up_to w drive (sent w)))
ends w rule drive from = None

-- links that follow from the planner's input lead to a sum that is above its bound
pub record IsChain (w : WishesView) (c : ChainView) : Type 0 where
  pub links : Linked w None c.links
  pub end : ends w (of_number c.rule) c.drive (last_link None c.links) ≡ Some (c.sum, c.bound)
  pub above : c.bound < c.sum

-- the same as functions that can be computed
abbrev pub gives : WishesView → Option ℕ → ℕ → Bool
gives w None time = false
gives w (Some asked) time = time == w.rate * round_up w.rate asked

abbrev pub are_linked : WishesView → Option Link → List Link → Bool
are_linked w from [] = true
are_linked w from (l ∷ links) = gives w (asked_after w (of_number l.rule) from (up_to w l.drive (sent w))) l.at &&
    are_linked w (Some l) links

-- the AT at an index of the order, with those before it
abbrev pub ats_at : List ℕ → Option ℕ → List ℕ
ats_at order None = []
ats_at order (Some at) = slice_index order at ∷ first_sent order at
