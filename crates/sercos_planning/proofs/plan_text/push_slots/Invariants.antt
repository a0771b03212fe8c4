use Rattle.std.proofs.Common.{◌≡◌, ◌++◌}
use Rattle.sercos_planning.specs.Planning.{slot_lines}
use Rattle.sercos_planning.proofs.plan_text.push_slots.Given as goal

abbrev pub invariant-loop-place : goal.invariant-loop-place
invariant-loop-place l = l.out.items ≡ l.initial.out.items ++ slot_lines l.wishes l.plan l.place
