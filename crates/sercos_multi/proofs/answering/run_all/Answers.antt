use Rattle.std.proofs.Common.{map, None, ap, ◌∙◌, arith}
use Rattle.sercos_multi.specs.Asking.{first_cycle, voices_from}
use Rattle.sercos_multi.proofs.RunLemmas.{parts_count, voices_count, cycles_same, run_time, fault_is, fault_written, merged_written}
use Rattle.sercos_multi.proofs.answering.run_all.Goals as goal

pub cycle_fault-requires-clause-some : goal.cycle_fault-requires-clause-some
cycle_fault-requires-clause-some g c =
    let (documents, all, some, few) = c.requires.all in
    let count = parts_count g.L.BitLink.carry g.L.BitLink.restart c.args.parts.now.items documents all in
    rw c.as_slice.ensures.value (omega (arith, count, some))

pub cycle_fault-requires-clause-few : goal.cycle_fault-requires-clause-few
cycle_fault-requires-clause-few g c =
    let (documents, all, some, few) = c.requires.all in
    let count = parts_count g.L.BitLink.carry g.L.BitLink.restart c.args.parts.now.items documents all in
    rw c.as_slice.ensures.value (omega (arith, count, few))

pub first_cycle-time-requires : goal.first_cycle-time-requires
first_cycle-time-requires g c =
    let (documents, all, some, few) = c.requires.all in
    let count = parts_count g.L.BitLink.carry g.L.BitLink.restart c.args.parts.now.items documents all in
    record { some = rw c.as_slice-in-None.ensures.value (omega (arith, count, some)) }

pub give_merged-requires-clause-all : goal.give_merged-requires-clause-all
give_merged-requires-clause-all g c =
    let (documents, all, some, few) = c.requires.all in
    let count = voices_count 1 documents in
    (voices_from 1 documents, all, omega (arith, count, some))

pub give_merged-requires-clause-some : goal.give_merged-requires-clause-some
give_merged-requires-clause-some g c =
    let (documents, all, some, few) = c.requires.all in
    let count = parts_count g.L.BitLink.carry g.L.BitLink.restart c.args.parts.now.items documents all in
    (run_time (λ p. p.wishes.cycle) c.args.parts.now.items _ _ c.cycle_fault.result c.first_cycle-time.result c.as_slice.ensures.value c.as_slice-in-None.ensures.value (omega (arith, count, some)) c.cycle_fault.ensures c.in-None.is c.first_cycle-time.ensures).some

pub give_merged-requires-clause-time : goal.give_merged-requires-clause-time
give_merged-requires-clause-time g c =
    let (documents, all, some, few) = c.requires.all in
    let count = parts_count g.L.BitLink.carry g.L.BitLink.restart c.args.parts.now.items documents all in
    (run_time (λ p. p.wishes.cycle) c.args.parts.now.items _ _ c.cycle_fault.result c.first_cycle-time.result c.as_slice.ensures.value c.as_slice-in-None.ensures.value (omega (arith, count, some)) c.cycle_fault.ensures c.in-None.is c.first_cycle-time.ensures).few

pub returns-in-Some : goal.returns-in-Some
returns-in-Some g c = λ documents all some.
    let cycles = cycles_same g.L.BitLink.carry g.L.BitLink.restart c.args.parts.now.items 1 documents all in
    fault_written documents c.in-Some.document c.in-Some.cycle _ c.refuse_cycle.result (fault_is (λ p. p.wishes.cycle) c.args.parts.now.items _ _ c.cycle_fault.result _ c.as_slice.ensures.value cycles c.cycle_fault.ensures c.in-Some.is) c.refuse_cycle.ensures

pub returns-in-None : goal.returns-in-None
returns-in-None g c = λ documents all some.
    let cycles = cycles_same g.L.BitLink.carry g.L.BitLink.restart c.args.parts.now.items 1 documents all in
    let count = voices_count 1 documents in
    merged_written documents c.first_cycle-time.result _ c.give_merged.result (fault_is (λ p. p.wishes.cycle) c.args.parts.now.items _ _ c.cycle_fault.result None c.as_slice.ensures.value cycles c.cycle_fault.ensures c.in-None.is)
    (c.first_cycle-time.ensures ∙ ap (λ l. first_cycle (map (λ p. p.wishes.cycle) l)) c.as_slice-in-None.ensures.value ∙ ap first_cycle cycles)
    (c.give_merged.ensures (voices_from 1 documents) all (omega (arith, count, some)))
