use Rattle.std.proofs.Common.{◌∷◌, subst}
use Rattle.sercos_drive.specs.Heard.{Restart}
use Rattle.sercos_drive.specs.Annals.{annals}
use Rattle.sercos_drive.specs.contracts.drive.Drive.{the_view}
use Rattle.sercos_drive.specs.Kept.{DriveState, DriveStandsFor}
use Rattle.sercos_drive.proofs.DriveLemmas.{keeps-restart}
use Rattle.sercos_drive.proofs.drive.Drive.restart.Goals as goal

pub returns : goal.returns
returns c = λ d rate h.
    subst (λ (v : DriveState). DriveStandsFor v d rate h → DriveStandsFor c.enter.new.self d rate (Restart ∷ h)) c.self.view_is
    (λ k. keeps-restart (the_view c.self.inside) c.enter.new.self d rate (annals d rate h) k c.enter.ensures)
