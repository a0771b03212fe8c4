use Rattle.std.proofs.Common.{◌≡◌, ◌++◌}
use Rattle.sercos_margin.specs.Margins.{margin_of}
use Rattle.sercos_planning.specs.Margins.{margin_lines}
use Rattle.sercos_planning.proofs.margin_command.push_margins.Given as goal

abbrev pub invariant-loop-place : goal.invariant-loop-place
invariant-loop-place l = l.out.items ≡ l.initial.out.items ++ margin_lines l.wishes (margin_of l.wishes) l.place
