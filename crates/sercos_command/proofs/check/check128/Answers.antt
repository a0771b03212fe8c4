use Rattle.std.proofs.Common.{sym, ◌∙◌, arith}
use Rattle.sercos_command.specs.Checks.{unfit_for_phase_4}
use Rattle.sercos_command.proofs.CheckLemmas.{unfit_more}
use Rattle.sercos_command.proofs.check.check128.Goals as goal

pub loop-index-init : goal.loop-index-init
unfolding unfit_for_phase_4
loop-index-init c = record { found = c.new-unfit.ensures; few = rw c.new-unfit.ensures (omega arith) }

pub loop-index-preserved : goal.loop-index-preserved
loop-index-preserved c = record {
  found = c.add_if.ensures.items ∙ rw c.loop-index.invariant.found (sym (unfit_more c.args.store.now c.loop-index.index c.idn.result c.is_outside.result c.is_outside.ensures c.idn.ensures));
  few = omega (arith, c.add_if.ensures.few, c.loop-index.invariant.few);
}
