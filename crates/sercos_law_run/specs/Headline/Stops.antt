-- Which stops of the master occur, and for which cause.
use Rattle.std.specs.Prelude.{◌≡◌, ℕ, List, Option, Some}
use Rattle.sercos_idn.specs.declared.idn.Idn.{Idn}
use Rattle.sercos_block.specs.Rings.{wishes_of}
use Rattle.sercos_block.specs.Views.{RingView}
use Rattle.sercos_plan.specs.Least.{NoneFits}
use Rattle.sercos_plan.specs.Views.{ChainView}
use Rattle.sercos_trace.specs.declared.events.Stop.{Stop}
use Rattle.sercos_trace.specs.declared.events.Stop.TheVariants as stop

-- The stop is `NoFit` only if no plan fits the ring's requirements. It is never `BadConfig` or
-- `Check127`.
pub record StopsRight (r : RingView) (o : Option Stop) : Type 0 where
  pub no_fit : (chain : ChainView) → o ≡ Some (stop.NoFit chain) → NoneFits (wishes_of r)
  pub no_bad_config : (address : ℕ) (i : Idn) (word : ℕ) → o ≡ Some (stop.BadConfig address i word) → ⊥
  pub no_check127 : (address : ℕ) (list : List Idn) → o ≡ Some (stop.Check127 address (record { items = list })) → ⊥
