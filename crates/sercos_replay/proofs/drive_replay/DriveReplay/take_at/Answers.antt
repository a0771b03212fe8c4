use Rattle.std.proofs.Common.{sym, ◌∙◌}
use Rattle.sercos_replay.proofs.DriveLemmas.{at-left, at-taken}
use Rattle.sercos_replay.proofs.drive_replay.DriveReplay.take_at.Goals as goal

pub returns-then-awaits : goal.returns-then-awaits
returns-then-awaits c = λ d rate j goes not.
    at-taken c.args.self.now c.take_own.new.self d rate j c.args.sent.now (sym c.awaits.ensures ∙ c.if-awaits.true)
    (λ t before a missing own. c.take_own.ensures d rate t before a not missing own) goes

pub returns-else-awaits : goal.returns-else-awaits
returns-else-awaits c = λ d rate j goes not. at-left c.args.self.now d rate j c.args.sent.now not (sym c.awaits.ensures ∙ c.if-awaits.false) goes
