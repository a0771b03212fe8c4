-- The structs of the time slots, as the planner's input and what it returns.
use Rattle.std.specs.Prelude.{ℕ, ◌≤◌, List, map}
use Rattle.sercos_timing.specs.Views.{WishesView, PlanView}
use Rattle.sercos_timing.specs.declared.wishes.Wish.{Wish}
use Rattle.sercos_plan.specs.Views.{ChainView}
use Rattle.sercos_plan.specs.declared.chain.Link.{Link}
use Rattle.sercos_c.specs.declared.slots.SercosRingTimes.{SercosRingTimes}
use Rattle.sercos_c.specs.declared.slots.SercosWish.{SercosWish}
use Rattle.sercos_c.specs.declared.slots.SercosPlanTimes.{SercosPlanTimes}
use Rattle.sercos_c.specs.declared.slots.SercosSlot.{SercosSlot}
use Rattle.sercos_c.specs.declared.slots.SercosLink.{SercosLink}
use Rattle.sercos_c.specs.declared.slots.SercosChain.{SercosChain}

-- the planner's input of a drive
abbrev pub wish_of : SercosWish → Wish
wish_of d = record {
  address = d.address;
  slave = d.slave;
  times = record { t1min = d.t1min; tatmt = d.tatmt; t4min = d.t4min; tatat = d.tatat; tmtsy = d.tmtsy; tmtsg = d.tmtsg };
  at_len = d.at_len;
  record_len = d.record_len;
}

-- the planner's input of a ring
abbrev pub wishes_of : SercosRingTimes → List SercosWish → List ℕ → WishesView
wishes_of ring drives order = record {
  rate = ring.rate;
  cycle = ring.cycle;
  control = ring.control;
  gap = ring.gap;
  order = order;
  drives = map wish_of drives;
}

-- the plan of its times and slots
abbrev pub plan_of : SercosPlanTimes → List SercosSlot → PlanView
plan_of p slots = record {
  t1 = map (λ s. s.t1) slots;
  t2 = p.t2;
  t3 = p.t3;
  t4 = p.t4;
  position = map (λ s. s.position) slots;
  mdt_len = p.mdt_len;
}

abbrev pub link_of : SercosLink → Link
link_of l = record { rule = l.rule; drive = l.drive; at = l.at }

-- the chain of its end and its links
abbrev pub chain_from : SercosChain → List SercosLink → ChainView
chain_from c links = record {
  links = map link_of links;
  rule = c.rule;
  drive = c.drive;
  sum = c.sum;
  bound = c.bound;
}

-- there is room for the slots of the drives, and for every chain
pub record HaveRoom (drives slots links : ℕ) : Type 0 where
  pub for_slots : drives ≤ slots
  pub for_links : 66 ≤ links
