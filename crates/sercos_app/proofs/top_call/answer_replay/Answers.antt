use Rattle.sercos_call.proofs.ReplyLemmas.{made_replies}
use Rattle.sercos_app.proofs.OwnRuns.{replays_ring}
use Rattle.sercos_app.proofs.top_call.answer_replay.Goals as goal

pub returns : goal.returns
returns g c =
    made_replies c.replay.result _ _ _ _ _ c.replay.ensures.answer
    (replays_ring c.replay.result c.args.address c.args.bytes.now c.asking_law.ensures c.replay_law.ensures c.replay.ensures.opens) c.give_or_refuse.ensures
