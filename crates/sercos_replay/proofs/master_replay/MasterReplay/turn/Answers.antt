use Rattle.std.proofs.Common.{◌∷◌, Some, false, refl, sym, subst}
use Rattle.std.specs.Box.{with_value}
use Rattle.std.specs.Prelude.{option_map}
use Rattle.sercos_master.specs.Annals.{End}
use Rattle.sercos_replay.specs.Differences.{heard_calls, mdt_calls, master_calls}
use Rattle.sercos_replay.specs.Kept.{HasMaster}
use Rattle.sercos_replay.proofs.MasterLemmas.{ended}
use Rattle.sercos_replay.proofs.master_replay.MasterReplay.turn.Goals as goal

pub returns : goal.returns
returns c = λ s jobs t j a.
    let before = heard_calls t (master_calls j) in
    let went = c.compare_mdt-self.ensures.stands s jobs before a.stands in
    ended (record c.args.self.now { master = Some c.args.master })
    (record c.args.self.now { master = c.put.new.place; is_open = false; differs = c.compare_mdt-self.result; told = with_value c.args.self.now.told c.compare_mdt-self.new.told; said = with_value c.args.self.now.said c.compare_mdt-self.new.said; events = with_value c.args.self.now.events c.end_cycle-next.new.events })
    s jobs t j (option_map (λ m. m.now) c.args.found) a refl refl
    (c.compare_mdt-self.ensures.place s jobs before a.stands)
    (subst (λ o. HasMaster o s jobs (End ∷ mdt_calls t (master_calls j))) (sym c.put.ensures) (c.end_cycle-next.ensures s jobs (mdt_calls t (master_calls j)) went))
