use Rattle.std.proofs.Common.{◌≡◌, ℕ, get_or, length}
use Rattle.sercos_plan.proofs.least.blank.Given as goal

abbrev pub invariant-loop : goal.invariant-loop
invariant-loop l = record {
  count : length l.blank.items ≡ l.counter;
  blank : (j : ℕ) → get_or l.blank.items j 0 ≡ 0;
}
