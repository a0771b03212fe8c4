use Rattle.std.proofs.Common.{◌++◌, get_or, sym, ◌∙◌, ap, arith}
use Rattle.sercos_seat.specs.Records.{lens_said, value_said}
use Rattle.sercos_seat.proofs.Sends.{by_lens, values_more, values_whole, longer}
use Rattle.sercos_seat.proofs.answers.put_command_values.Goals as goal

pub loop-place-preserved : goal.loop-place-preserved
loop-place-preserved c = record {
  are = c.push_count.ensures ∙ ap (λ vs. vs ++ value_said c.args.count (get_or c.args.lens.now c.loop-place.place 0)) c.loop-place.invariant.are ∙ sym (values_more c.args.count c.args.lens.now c.loop-place.place (omega arith));
  few = rw c.push_count.ensures (longer c.loop-place.values.items c.args.count (get_or c.args.lens.now c.loop-place.place 0) c.loop-place.place c.loop-place.invariant.few);
}

pub returns : goal.returns
returns c = λ words is.
    c.loop-place.invariant.are ∙ values_whole c.args.count c.args.lens.now c.loop-place.place (omega arith)
    ∙ ap (lens_said c.args.count) is ∙ sym (by_lens c.args.count words)
