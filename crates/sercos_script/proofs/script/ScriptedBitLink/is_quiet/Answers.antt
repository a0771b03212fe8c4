use Rattle.std.proofs.Common.{rules, ◌≡◌, List, [], ◌∙◌, sym, subst}
use Rattle.std.specs.List.{filter}
use Rattle.sercos_script.specs.declared.fault.Fault.{Fault}
use Rattle.sercos_script.specs.Lanes.{IsGathered, candidates, is_in, telegram_lane}
use Rattle.sercos_script.proofs.ScriptLemmas.{carried-quiet}
use Rattle.sercos_script.proofs.script.ScriptedBitLink.is_quiet.Goals as goal

pub returns-clause-quiet : goal.returns-clause-quiet
returns-clause-quiet c = λ quiet p bits cycle kind from.
    let script : c.as_slice-script.result.now ≡ c.args.self.now.faults = search rules in
    carried-quiet c.args.self.now.stations c.args.self.now.faults c.turn.new.self p bits (subst (λ (faults : List Fault). IsGathered faults c.turn.new.self) script c.turn.ensures.gathered)
    (cycle ∙ sym c.turn.ensures.cycle)
    (rw (kind, from) (subst (λ (faults : List Fault). filter (is_in (telegram_lane c.args.kind c.args.from)) (candidates faults c.turn.new.self) ≡ []) script (c.is_quiet.ensures quiet)))
