use Rattle.std.proofs.Common.{◌≡◌, true, not, ◌&&◌, is_some, refl, rules}
use mathlib.Core.Bool.{beq}
use Rattle.sercos_service_master.proofs.Hearings.{answers_open}
use Rattle.sercos_service_master.proofs.channel.MasterChannel.hear.Goals as goal

pub returns-then-answered-clause-stands : goal.returns-then-answered-clause-stands
returns-then-answered-clause-stands c = λ h s.
    let test : (is_some c.args.self.now.transfer && (beq c.args.status.now.ahs c.args.self.now.mhs && not c.args.status.now.busy)) ≡ true = search rules in
    c.take.ensures.stands h c.args.status.now c.args.info s (answers_open _ h c.args.status.now s test) refl
