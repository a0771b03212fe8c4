use Rattle.std.proofs.Common.{◌≡◌, ℕ, ◌≤◌, Bool, true, false, if◌then◌else◌, List, length, arith, refl, subst}
use Rattle.std.specs.Prelude.{nat_le}
use Rattle.sercos_block.specs.declared.block.Block.{Block}
use Rattle.sercos_block.specs.Stores.{find_block}
use Rattle.sercos_c.specs.Drives.{IsElement, an_element, no_element}
use Rattle.sercos_c.specs.Room.{IsPut}
use Rattle.sercos_c.proofs.drive.element_of.Goals as goal

few : (content before after : List ℕ) (count result : ℕ) → IsPut content before after count result → length content ≤ 1024 → count ≤ 1024
few content before after count result is low = by (nat_le (length content) (length before)) is.written
  where
    by : (b : Bool) → count ≡ (if b then length content else 0) → count ≤ 1024
    by true same = omega (arith, same, low)
    by false same = omega (arith, same)

pub returns-in-Ok-clause-bound : goal.returns-in-Ok-clause-bound
returns-in-Ok-clause-bound c = few c.in-Ok.bytes.now _ _ _ _ c.put.ensures c.in-Ok.ensures.bound

pub returns-in-Ok-clause-read : goal.returns-in-Ok-clause-read
returns-in-Ok-clause-read c = λ d rate h stands low high.
    subst (λ (blocks : List Block). IsElement (find_block c.args.idn blocks) c.args.element c.args.out.now c.put.new.out c.put.new.written 0 c.put.result) (c.store.ensures d rate h stands)
    (an_element c.in-Ok.ensures.ok c.in-Ok.ensures.fault c.put.ensures refl)

pub returns-in-Err-clause-read : goal.returns-in-Err-clause-read
returns-in-Err-clause-read c = λ d rate h stands low high.
    subst (λ (blocks : List Block). IsElement (find_block c.args.idn blocks) c.args.element c.args.out.now c.args.out.now 0 c.in-Err.why.raw 1) (c.store.ensures d rate h stands)
    (no_element c.in-Err.ensures.fault (record { status = refl; written = refl; out = refl }) refl)
