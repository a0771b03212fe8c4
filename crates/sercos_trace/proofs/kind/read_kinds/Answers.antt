use Rattle.std.proofs.Common.{rules, ◌≡◌, refl, arith}
use Rattle.std.specs.Prelude.{max}
use Rattle.sercos_trace.proofs.KindLemmas.{later-front, kind_refused, kind_taken, kinds_end, first_refused, first_taken}
use Rattle.sercos_trace.specs.declared.kind.LineKind.TheVariants as kind
use Rattle.sercos_trace.proofs.kind.read_kinds.Goals as goal

pub loop-kind-init : goal.loop-kind-init
loop-kind-init c = record { fault = later-front _; first = refl; within = omega arith }

pub returns-in-Ok-clause-fault : goal.returns-in-Ok-clause-fault
returns-in-Ok-clause-fault c =
    kind_taken c.args.kinds.now c.args.line.now c.loop-kind.kind-index _ kind.Version _ (omega arith) c.loop-kind.invariant.fault (rw (c.template_for.ensures.value, c.tail_for.ensures) at c.in-Ok.ensures.fault)

pub returns-in-Ok-clause-kind : goal.returns-in-Ok-clause-kind
returns-in-Ok-clause-kind c =
    first_taken c.args.kinds.now c.args.line.now c.loop-kind.kind-index kind.Version _ (omega arith) c.loop-kind.invariant.first (rw (c.template_for.ensures.value, c.tail_for.ensures) at c.in-Ok.ensures.fault)

pub loop-kind-preserved : goal.loop-kind-preserved
loop-kind-preserved c =
    let last : c.max-last.result ≡ max c.loop-kind.last c.in-Err.place = search rules in
    record {
      fault = rw last (kind_refused c.args.kinds.now c.args.line.now c.loop-kind.kind-index _ _ kind.Version _ (omega arith) c.loop-kind.invariant.fault (rw (c.template_for.ensures.value, c.tail_for.ensures) at c.in-Err.ensures.fault));
      first = first_refused c.args.kinds.now c.args.line.now c.loop-kind.kind-index _ kind.Version _ (omega arith) c.loop-kind.invariant.first (rw (c.template_for.ensures.value, c.tail_for.ensures) at c.in-Err.ensures.fault);
      within = omega (arith, last, c.loop-kind.invariant.within, c.in-Err.ensures.place);
    }

pub returns-clause-fault : goal.returns-clause-fault
returns-clause-fault c =
    kinds_end c.args.kinds.now c.args.line.now c.loop-kind.kind-index _ _ (omega arith) c.loop-kind.invariant.fault
