use Rattle.sercos_replay.proofs.TracedLemmas.{reads_traces, traces}
use Rattle.sercos_replay.proofs.UndisturbedLemmas.{captured}
use Rattle.sercos_replay.proofs.undisturbed.undisturbed_law.Goals as goal

pub returns : goal.returns
returns c =
    let late = captured c.agreement_law.ensures.drive c.agreement_law.ensures.master c.capture_law.ensures.telegrams in
    let reads = reads_traces c.reading_law.ensures.back in
    record { captured = late; reads = reads; traces = traces reads late }
