use Rattle.std.proofs.Common.{sym, ◌∙◌, subst}
use Rattle.sercos_replay.specs.Differences.{heard_calls, master_calls}
use Rattle.sercos_replay.specs.Kept.{MasterAwaits}
use Rattle.sercos_replay.proofs.MasterLemmas.{not_there}
use Rattle.sercos_replay.proofs.master_replay.MasterReplay.end.Goals as goal

pub returns-in-Some : goal.returns-in-Some
returns-in-Some c = λ s jobs t j a.
    c.turn.ensures s jobs t j (subst (λ o. MasterAwaits (record c.args.self.now { master = o }) s jobs t j) (sym c.take.ensures.value ∙ c.in-Some.is) a)

pub returns-in_default : goal.returns-in_default
returns-in_default c = λ s jobs t j a.
    absurd (not_there c.args.self.now.master s jobs (heard_calls t (master_calls j)) (sym c.take.ensures.value ∙ c.in_default.is) a.stands)
