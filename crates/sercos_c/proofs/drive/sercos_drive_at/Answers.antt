use Rattle.std.proofs.Common.{rules, ◌≡◌, Some, Option, subst}
use Rattle.sercos_c.specs.declared.station.Station.{Station}
use Rattle.sercos_c.specs.Drives.{HoldsDrive}
use Rattle.sercos_c.proofs.drive.sercos_drive_at.Goals as goal
use Rattle.sercos_c.proofs.drive.sercos_drive_at.Goals.{in-Drive, in_default-deref_mut}

pub returns-clause-said : goal.returns-clause-said
returns-clause-said c = λ d rate h holds.
    let was : c.args.drive.now.held.value ≡ Some c.deref_mut.result.now = search rules in
    let before = subst (λ (held : Option Station). HoldsDrive held d rate h) was holds in
    elim c.match-deref_mut.branch [
      | in-Drive w ↦
          rw (w.out-is, w.written-is, w.start-is, w.status-is)
          (w.at_of-status.ensures.said d rate h (subst (λ (s : Station). HoldsDrive (Some s) d rate h) w.in-Drive.is before))
      | in_default-deref_mut w ↦ search rules
    ]
