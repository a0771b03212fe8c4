use Rattle.std.proofs.Common.{arith, drop, map, length-drop}
use Rattle.std.proofs.lemmas.List.{take_rest, drop-drop}
use Rattle.sercos_text.specs.Given.{value_of}
use Rattle.sercos_text.proofs.WriteSteps.{letter_written, line_end}
use Rattle.sercos_text.proofs.writer.push_line.Goals as goal

pub loop-letter-preserved : goal.loop-letter-preserved
loop-letter-preserved c =
    let next = c.loop-letter.next in
    let values = c.args.values.now in
    let rest = take_rest values next in
    let left = rw (rest, drop-drop) at c.push_part-next.ensures.taken in
    let room = rw (rest, drop-drop) at c.push_part-next.ensures.room in
    record {
      within = omega (arith, c.push_part-next.ensures.bound, rest, length-drop next values);
      whole = letter_written c.args.template.now (map value_of (drop next values)) _ c.loop-letter.letter-index _ _ _ (omega arith) left (rw rest at c.push_part-next.ensures.value) c.loop-letter.invariant.whole;
      room = omega (arith, room, c.loop-letter.invariant.room);
    }

pub returns-clause-value : goal.returns-clause-value
returns-clause-value c = line_end c.args.template.now _ c.loop-letter.letter-index _ _ (omega arith) c.loop-letter.invariant.whole
