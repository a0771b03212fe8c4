use Rattle.std.proofs.Common.{◌∷◌, false, refl, sym, subst}
use Rattle.sercos_drive.specs.Heard.{Mdt}
use Rattle.sercos_drive.specs.Kept.{DriveStandsFor}
use Rattle.sercos_replay.specs.Differences.{mst_calls}
use Rattle.sercos_replay.proofs.DriveLemmas.{ended}
use Rattle.sercos_replay.proofs.drive_replay.DriveReplay.end.Goals as goal

pub returns : goal.returns
returns c = λ d rate t j mdt a not same.
    let passed = c.pass.ensures d rate t j a not in
    ended c.pass.new.self (record c.pass.new.self { drive = c.hear_mdt.new.self; is_open = false }) d rate t j mdt passed refl refl refl refl refl
    (subst (λ x. DriveStandsFor c.hear_mdt.new.self d rate (Mdt x ∷ mst_calls t j)) (sym same) (c.hear_mdt.ensures d rate (mst_calls t j) passed.stands))
