use Rattle.std.proofs.Common.{rules, ◌<◌, ◌≤◌, ◌∙◌, length}
use Rattle.sercos_script.proofs.PathLemmas.{next_lets, next_holds, path_end, rest_short}
use Rattle.sercos_script.proofs.path.over_all.Goals as goal

pub returns-then-not-over_passage : goal.returns-then-not-over_passage
returns-then-not-over_passage c =
    let inside : c.loop-fault.fault-index < length c.args.faults.now = search rules in
    next_holds c.args.p.now c.args.way c.args.faults.now c.loop-fault.fault-index _ c.loop-fault.bits c.over_passage.new.bits inside (rw c.if-not-over_passage.true at c.over_passage.ensures) ∙ c.loop-fault.invariant

pub loop-fault-preserved : goal.loop-fault-preserved
loop-fault-preserved c =
    let inside : c.loop-fault.fault-index < length c.args.faults.now = search rules in
    next_lets c.args.p.now c.args.way c.args.faults.now c.loop-fault.fault-index _ c.loop-fault.bits c.over_passage.new.bits inside (rw c.if-not-over_passage.false at c.over_passage.ensures) ∙ c.loop-fault.invariant

pub returns : goal.returns
returns c =
    let past : length c.args.faults.now ≤ c.loop-fault.fault-index = search rules in
    path_end c.args.p.now c.args.way c.args.faults.now c.loop-fault.fault-index c.loop-fault.bits past ∙ c.loop-fault.invariant

pub returns-then-len-reach_of : goal.returns-then-len-reach_of
returns-then-len-reach_of c =
    rest_short c.args.p.now c.args.way c.args.faults.now c.loop-fault.fault-index _ c.loop-fault.bits c.requires (rw (c.len.ensures.value, c.reach_of.ensures.value) at c.if-len-reach_of.true) ∙ c.loop-fault.invariant
