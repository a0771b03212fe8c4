-- The twelve inequalities between planner's input and a plan. The requirement of each is written
-- once, in bit times after the MST's end.
use Rattle.std.specs.Prelude.{◌≡◌, ℕ, ◌+◌, ◌-◌, ◌*◌, ◌%◌, ◌<◌, ◌≤◌, ◌==◌, if◌then◌else◌, max, List, [], ◌∷◌, length, Option, Some, None, option_map}
use Rattle.sercos_model.specs.Frames.{wire_bits}
use Rattle.sercos_timing.specs.Views.{WishesView, PlanView}
use Rattle.sercos_timing.specs.Order.{times, sent, neighbor, previous, at_bits, mdt_bits, record_bytes, bits_of}
use Rattle.sercos_timing.specs.declared.wishes.Wish.{Wish}
use Rattle.sercos_timing.specs.declared.inequality.Inequality.{Inequality}
use Rattle.sercos_timing.specs.declared.inequality.Inequality.TheVariants.{Own, Gap, Neighbor, Slave, Last, Master, Records, Cycle, NextMst, Capture, Control, Positions}

-- the number of an inequality, and the inequality with a number
abbrev pub number_of : Inequality → ℕ
number_of Own = 1
number_of Gap = 2
number_of Neighbor = 3
number_of Slave = 4
number_of Last = 5
number_of Master = 6
number_of Records = 7
number_of Cycle = 8
number_of NextMst = 9
number_of Capture = 10
number_of Control = 11
number_of Positions = 12

abbrev pub of_number : ℕ → Option Inequality
of_number n =
    if n == 1 then Some Own else (if n == 2 then Some Gap else (if n == 3 then Some Neighbor else (if n == 4 then Some Slave
    else (if n == 5 then Some Last else (if n == 6 then Some Master else (if n == 7 then Some Records else (if n == 8 then Some Cycle
    else (if n == 9 then Some NextMst else (if n == 10 then Some Capture else (if n == 11 then Some Control
    else (if n == 12 then Some Positions else None)))))))))))

-- What inequalities 1 to 4 require of T1 of the drive k, whose AT is sent after those of `before`,
-- if each AT begins at the bit time `b` of its drive. None means that an inequality requires
-- nothing of this AT. 1: T1 is at least the drive's T1min
abbrev pub asked_1 : WishesView → (ℕ → ℕ) → ℕ → List ℕ → Option ℕ
asked_1 w b k before = Some (w.rate * (times w k).t1min)

-- 2: the first AT of the order begins at least the gap after the MST
abbrev pub asked_2 : WishesView → (ℕ → ℕ) → ℕ → List ℕ → Option ℕ
asked_2 w b k [] = Some (w.rate * w.gap)
asked_2 w b k (j ∷ before) = None

-- 3: an AT begins at least the gap after the end of the AT directly before it, if another slave
-- sends that one
abbrev pub asked_3 : WishesView → (ℕ → ℕ) → ℕ → List ℕ → Option ℕ
asked_3 w b k before = option_map (λ j. b j + (at_bits w j + w.rate * w.gap)) (neighbor w k before)

-- 4: an AT begins at least the drive's TATAT after the end of the previous AT of the same slave
abbrev pub asked_4 : WishesView → (ℕ → ℕ) → ℕ → List ℕ → Option ℕ
asked_4 w b k before = option_map (λ j. b j + (at_bits w j + w.rate * (times w k).tatat)) (previous w k before)

-- the others require nothing of the start of an AT
abbrev pub asked_of_start : WishesView → Inequality → (ℕ → ℕ) → ℕ → List ℕ → Option ℕ
asked_of_start w Own = asked_1 w
asked_of_start w Gap = asked_2 w
asked_of_start w Neighbor = asked_3 w
asked_of_start w Slave = asked_4 w
asked_of_start w _ = λ b k before. None

-- What 5 and 6 require of T2. 5: the MDT begins at least the gap after the end of the last AT
abbrev pub asked_5 : WishesView → (ℕ → ℕ) → List ℕ → Option ℕ
asked_5 w b [] = None
asked_5 w b (last ∷ before) = Some (b last + (at_bits w last + w.rate * w.gap))

-- 6: the MDT begins at least the drive's TATMT after the end of its AT
abbrev pub asked_6 : WishesView → (ℕ → ℕ) → ℕ → List ℕ → Option ℕ
asked_6 w b k before = Some (b k + (at_bits w k + w.rate * (times w k).tatmt))

-- 7 bounds T3, if the MDT begins at the bit time `b2`: T3 is at least the drive's TMTSG after the
-- end of the MDT
abbrev pub asked_7 : WishesView → ℕ → ℕ → List ℕ → Option ℕ
asked_7 w b2 k before = Some (b2 + (mdt_bits w + w.rate * (times w k).tmtsg))

-- 9: if the MDT begins at `b2`, there is at least the gap, and at least each drive's TMTSY, between
-- its end and the next MST, which ends with the cycle. `switch` is the greatest TMTSY
abbrev pub sum_9 : WishesView → ℕ → ℕ → ℕ
sum_9 w b2 switch = b2 + (mdt_bits w + w.rate * max w.gap switch)

-- the earliest bit time at which the next MST can begin; its content has two bytes
abbrev pub bound_9 : WishesView → ℕ
bound_9 w = w.rate * w.cycle - wire_bits 2

-- the greatest value of a function over these drives, 0 if there are none
abbrev pub greatest : (ℕ → ℕ) → List ℕ → ℕ
greatest f [] = 0
greatest f (k ∷ before) = max (f k) (greatest f before)

abbrev pub greatest_tmtsy : WishesView → ℕ
greatest_tmtsy w = greatest (λ k. (times w k).tmtsy) (sent w)

-- 10, in microseconds: between T4 and the end of the cycle there is at least the drive's T4min
abbrev pub asked_10 : WishesView → ℕ → ℕ → List ℕ → Option ℕ
asked_10 w t4 k before = Some (t4 + (times w k).t4min)

-- 12: the positions of the data records in the MDT, one after the other, the first at `next`
abbrev pub positions : ℕ → List Wish → List ℕ
positions next [] = []
positions next (d ∷ drives) = next ∷ positions (next + d.record_len) drives

-- the requirement is met
abbrev pub Meets : Option ℕ → ℕ → Type 0
Meets None has = Unit {0}
Meets (Some asked) has = asked ≤ has

-- the requirement is met by each AT of a list, with those before it
abbrev pub Keeps : (ℕ → List ℕ → Option ℕ) → (ℕ → ℕ) → List ℕ → Type 0
Keeps asked has [] = Unit {0}
Keeps asked has (k ∷ before) = Meets (asked k before) (has k) × Keeps asked has before

-- the plan keeps all inequalities
pub record Fits (w : WishesView) (p : PlanView) : Type 0 where
  pub times : length p.t1 ≡ length w.drives
  pub places : length p.position ≡ length w.drives
  pub rule_1 : Keeps (asked_1 w (bits_of w p.t1)) (bits_of w p.t1) (sent w)
  pub rule_2 : Keeps (asked_2 w (bits_of w p.t1)) (bits_of w p.t1) (sent w)
  pub rule_3 : Keeps (asked_3 w (bits_of w p.t1)) (bits_of w p.t1) (sent w)
  pub rule_4 : Keeps (asked_4 w (bits_of w p.t1)) (bits_of w p.t1) (sent w)
  pub rule_5 : Meets (asked_5 w (bits_of w p.t1) (sent w)) (w.rate * p.t2)
  pub rule_6 : Keeps (asked_6 w (bits_of w p.t1)) (λ k. w.rate * p.t2) (sent w)
  pub rule_7 : Keeps (asked_7 w (w.rate * p.t2)) (λ k. w.rate * p.t3) (sent w)
  -- T3 is within the cycle
  pub rule_8 : p.t3 ≤ w.cycle
  pub rule_9 : sum_9 w (w.rate * p.t2) (greatest_tmtsy w) ≤ bound_9 w
  pub rule_10 : Keeps (asked_10 w p.t4) (λ k. w.cycle) (sent w)
  -- the control unit cycle time is a positive multiple of the cycle time
  pub rule_11 : (0 < w.control) × (w.control % w.cycle ≡ 0)
  -- and the length of the MDT is that of all records together
  pub rule_12 : (p.position ≡ positions 1 w.drives) × (p.mdt_len ≡ record_bytes w.drives)
