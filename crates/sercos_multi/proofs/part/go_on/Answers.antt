use Rattle.std.proofs.Common.{sym, subst}
use Rattle.sercos_trace.specs.MarkedWritten.{HasFailed}
use Rattle.sercos_trace.proofs.MarkedLemmas.{failed_early, failed_later}
use Rattle.sercos_multi.proofs.PartLemmas.{one_more, text_is, goes_failed, goes_well}
use Rattle.sercos_multi.proofs.part.go_on.Goals as goal

pub returns-in_err-phase : goal.returns-in_err-phase
returns-in_err-phase g c = λ v is.
    let more = one_more g.L.BitLink.carry g.L.BitLink.restart c.args.part.now c.make_next.new.ring c.make_next.new.totals v c.run_law.ensures.next c.totals_law.ensures.more c.totals_law.ensures.few_more is c.requires.some
    c.make_next.ensures.after c.make_next.ensures.next c.make_next.ensures.counted c.make_next.ensures.few in
    goes_failed _ _ _ _ _ _ _ c.from_residual.result v c.from_residual.ensures.0
    (subst (HasFailed _ _) (sym (text_is _ _ _ _ _ v is more)) (failed_early _ _ _ _ c.in_err-phase.ensures.written))

pub returns-in_err-write_last : goal.returns-in_err-write_last
returns-in_err-write_last g c = λ v is.
    let more = one_more g.L.BitLink.carry g.L.BitLink.restart c.args.part.now c.make_next.new.ring c.make_next.new.totals v c.run_law.ensures.next c.totals_law.ensures.more c.totals_law.ensures.few_more is c.requires.some
    c.make_next.ensures.after c.make_next.ensures.next c.make_next.ensures.counted c.make_next.ensures.few in
    goes_failed _ _ _ _ _ _ _ c.from_residual-in_err-write_last.result v c.from_residual-in_err-write_last.ensures.0
    (subst (HasFailed _ _) (sym (text_is _ _ _ _ _ v is more)) (failed_later _ _ _ _ _ c.in_ok-phase.ensures.written c.in_err-write_last.ensures))

pub returns : goal.returns
returns g c = λ v is.
    let more = one_more g.L.BitLink.carry g.L.BitLink.restart c.args.part.now c.make_next.new.ring c.make_next.new.totals v c.run_law.ensures.next c.totals_law.ensures.more c.totals_law.ensures.few_more is c.requires.some
    c.make_next.ensures.after c.make_next.ensures.next c.make_next.ensures.counted c.make_next.ensures.few in
    goes_well _ _ c.args.time c.span.result c.in_ok-phase.phase _ _ _ _ _ _ v is more c.in_ok-phase.ensures.phase c.span.ensures.value (c.span.ensures.bound c.requires.time) c.in_ok-phase.ensures.written c.in_ok-write_last.ensures
