-- Planner's input and plans as plain data, their vectors as lists.
use Rattle.std.specs.Prelude.{ℕ, List}
use Rattle.sercos_timing.specs.declared.wishes.Wish.{Wish}

-- the planner's input; `order` has indices into `drives`
pub record WishesView : Type 0 where
  pub rate : ℕ
  pub cycle : ℕ
  pub control : ℕ
  pub gap : ℕ
  pub order : List ℕ
  pub drives : List Wish

-- the start of each AT and the position of each data record, in the order of the ring; the times
-- T2, T3 and T4; and the length of the MDT
pub record PlanView : Type 0 where
  pub t1 : List ℕ
  pub t2 : ℕ
  pub t3 : ℕ
  pub t4 : ℕ
  pub position : List ℕ
  pub mdt_len : ℕ
