use Rattle.std.proofs.Common.{◌≡◌, ◌+◌, ◌≤◌, [], ◌++◌, length}
use Rattle.std.specs.List.{flat_map}
use Rattle.sercos_hdlc.specs.Fed.{taken_of, IsFed}
use Rattle.sercos_answer.specs.Lines.{lines_of}
use Rattle.sercos_show.specs.Show.{first_fault, line_answer}
use Rattle.sercos_show.proofs.show.show.Given as goal

abbrev pub invariant-loop-rest : goal.invariant-loop-rest
invariant-loop-rest l =
    (l.answers.items ++ flat_map line_answer (lines_of l.rest) ≡ flat_map line_answer (lines_of l.text))
    × (first_fault l.number (lines_of l.rest) ≡ first_fault 1 (lines_of l.text))
    × (l.number + length l.rest ≤ length l.text + 1)
    × IsFed [] l.deframer
    × (taken_of l.deframer ≡ 0)

abbrev pub decreases-loop-rest : goal.decreases-loop-rest
decreases-loop-rest l = length l.rest
