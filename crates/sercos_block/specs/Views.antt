-- The setups of a drive and a ring as plain data, with lists for their vectors.
use Rattle.std.specs.Prelude.{ℕ, List}
use Rattle.sercos_idn.specs.declared.idn.Idn.{Idn}
use Rattle.sercos_timing.specs.declared.wishes.Times.{Times}
use Rattle.sercos_block.specs.declared.block.Block.{Block}

-- the setup of a drive
pub record DriveView : Type 0 where
  pub address : ℕ
  pub slave : ℕ
  pub busy : ℕ
  pub command : ℕ
  pub times : Times
  pub cycle_min : ℕ
  pub cycle_max : ℕ
  pub at : List Idn
  pub mdt : List Idn
  pub blocks : List Block

-- the setup of a ring; `order` has indices into `drives`
pub record RingView : Type 0 where
  pub rate : ℕ
  pub cycle : ℕ
  pub control : ℕ
  pub gap : ℕ
  pub cycles : ℕ
  pub order : List ℕ
  pub drives : List DriveView
