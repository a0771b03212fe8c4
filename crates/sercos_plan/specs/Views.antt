-- A chain as plain data, its links as a list.
use Rattle.std.specs.Prelude.{ℕ, List}
use Rattle.sercos_plan.specs.declared.chain.Link.{Link}

pub record ChainView : Type 0 where
  pub links : List Link
  pub rule : ℕ
  pub drive : ℕ
  pub sum : ℕ
  pub bound : ℕ
