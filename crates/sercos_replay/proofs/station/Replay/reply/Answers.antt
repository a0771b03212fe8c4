use Rattle.std.proofs.Common.{IfOk, subst}
use Rattle.sercos_replay.specs.Replaying.{place_answer, Says}
use Rattle.sercos_replay.proofs.StationLemmas.{master_told, drive_told}
use Rattle.sercos_replay.proofs.station.Replay.reply.Goals as goal

pub returns-in-Master : goal.returns-in-Master
returns-in-Master c = λ s lines stands.
    subst (λ told. IfOk c.place_reply.result (λ reply. Says reply (place_answer told c.args.cycles)))
    (master_told c.in-Master.replay _ c.finish.ensures.differs s lines (rw c.in-Master.is at stands)) c.place_reply.ensures

pub returns-in-Drive : goal.returns-in-Drive
returns-in-Drive c = λ s lines stands.
    subst (λ told. IfOk c.place_reply-in-Drive.result (λ reply. Says reply (place_answer told c.args.cycles)))
    (drive_told c.in-Drive.replay _ c.finish-in-Drive.ensures.differs s lines (rw c.in-Drive.is at stands)) c.place_reply-in-Drive.ensures
