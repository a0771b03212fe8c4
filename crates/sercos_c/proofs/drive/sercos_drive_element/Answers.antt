use Rattle.std.proofs.Common.{rules, ◌≡◌, Some, Option, subst}
use Rattle.sercos_c.specs.declared.station.Station.{Station}
use Rattle.sercos_c.specs.Drives.{HoldsDrive}
use Rattle.sercos_c.proofs.drive.sercos_drive_element.Goals as goal
use Rattle.sercos_c.proofs.drive.sercos_drive_element.Goals.{in-Drive, in_default-deref_mut}

pub returns-clause-read : goal.returns-clause-read
returns-clause-read c = λ d rate h holds low high.
    let was : c.args.drive.now.held.value ≡ Some c.deref_mut.result.now = search rules in
    let before = subst (λ (held : Option Station). HoldsDrive held d rate h) was holds in
    elim c.match-deref_mut.branch [
      | in-Drive w ↦
          rw (w.out-is, w.written-is, w.code-is, w.status-is)
          (w.element_of-status.ensures.read d rate h (subst (λ (s : Station). HoldsDrive (Some s) d rate h) w.in-Drive.is before) low high)
      | in_default-deref_mut w ↦ search rules
    ]
