use Rattle.std.proofs.Common.{sym, subst}
use Rattle.sercos_timing.specs.Valid.{IsValid}
use Rattle.sercos_margin.proofs.EasierLemmas.{valid_time}
use Rattle.sercos_margin.proofs.margins.has_with_time.Goals as goal

pub has_plan-requires : goal.has_plan-requires
has_plan-requires c = subst IsValid (sym c.with_time-new.ensures) (valid_time c.args.w.now c.args.index c.args.t c.args.value c.requires.valid)
