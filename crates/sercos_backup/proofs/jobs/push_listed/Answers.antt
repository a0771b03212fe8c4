use Rattle.std.proofs.Common.{◌+◌, ◌*◌, ◌<◌, ◌≤◌, length, arith, rules}
use Rattle.std.proofs.lemmas.List.Elements.{All-push}
use Rattle.sercos_step.specs.Steps.{IsTypedRequest}
use Rattle.sercos_backup.specs.Jobs.{reads_data}
use Rattle.sercos_backup.proofs.ListLemmas.{listed_more, listed_end, numbers_all}
use Rattle.sercos_backup.proofs.jobs.push_listed.Goals as goal

pub loop-place-preserved : goal.loop-place-preserved
loop-place-preserved c =
    let bound = c.count_on-place-end.ensures.bound in
    let within : 2 * c.loop-place.place + 1 < length c.args.bytes.now = omega (arith, c.loop-place-test.true, bound) in (
      listed_more (reads_data c.args.address) c.loop-place.jobs.items _ _ c.args.bytes.now c.loop-place.place c.number_at.result within c.number_at.ensures (search rules) c.loop-place.invariant.0,
      λ typed. rw c.in_ok-push.ensures.items (All-push (λ job. IsTypedRequest job.request) c.loop-place.jobs.items c.reads_data.result (c.loop-place.invariant.1 typed) c.reads_data.ensures.typed),
    )

pub returns : goal.returns
returns c =
    let all = numbers_all c.args.bytes.now c.count_on-place-end.result c.count_on-place-end.ensures.value in
    let ended : length c.args.bytes.now ≤ 2 * c.loop-place.place + 1 = omega (arith, c.loop-place-test.false, all) in
    record {
      pushed = listed_end (reads_data c.args.address) c.loop-place.jobs.items _ c.args.bytes.now c.loop-place.place ended c.loop-place.invariant.0;
      typed = c.loop-place.invariant.1;
    }
