use Rattle.std.proofs.Common.{true, false, map, sym, ◌∙◌, arith}
use Rattle.std.proofs.lemmas.List.{length-map}
use Rattle.sercos_multi.proofs.RunLemmas.{fault_by}
use Rattle.sercos_multi.proofs.answering.cycle_fault.Goals as goal

pub returns-then-not-is_common : goal.returns-then-not-is_common
returns-then-not-is_common g c =
    let same = length-map c.args.parts.now (λ p. p.wishes.cycle) in let some = c.requires.some in
    sym (fault_by (map (λ p. p.wishes.cycle) c.args.parts.now) c.first_cycle-time.result false (omega (arith, same, some)) c.first_cycle-time.ensures (sym c.if-not-is_common.ensures))

pub returns : goal.returns
returns g c =
    let same = length-map c.args.parts.now (λ p. p.wishes.cycle) in let some = c.requires.some in
    c.other_cycle.ensures ∙ sym (fault_by (map (λ p. p.wishes.cycle) c.args.parts.now) c.first_cycle-time.result true (omega (arith, same, some)) c.first_cycle-time.ensures (sym c.if-not-is_common.ensures))
