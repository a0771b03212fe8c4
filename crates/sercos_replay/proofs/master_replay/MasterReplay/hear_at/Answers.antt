use Rattle.std.proofs.Common.{Some, ◌∷◌, refl, ◌∙◌, ap, subst}
use Rattle.sercos_master.specs.Annals.{HearAt}
use Rattle.sercos_master.specs.Any.{AnyStandsFor}
use Rattle.sercos_replay.specs.Differences.{content_of, heard_calls, master_calls}
use Rattle.sercos_replay.proofs.MasterLemmas.{heard, is_there}
use Rattle.sercos_replay.proofs.master_replay.MasterReplay.hear_at.Goals as goal

pub returns-in-Some-clause-stands : goal.returns-in-Some-clause-stands
returns-in-Some-clause-stands c = λ s jobs t j a.
    let before = heard_calls t (master_calls j) in
    let there = is_there c.args.self.now.master c.in-Some.master s jobs before c.in-Some.is a.stands in
    heard c.args.self.now (record c.args.self.now { master = Some c.hear_at.new.self }) s jobs t j c.args.sent.now a refl refl refl
    (subst (λ bytes. AnyStandsFor c.hear_at.new.self s jobs (HearAt bytes ∷ before)) (c.as_slice.ensures.value ∙ ap content_of c.sent.view_is) (c.hear_at.ensures s jobs before there))
