use Rattle.std.proofs.Common.{◌≡◌, ◌+◌, drop, map}
use Rattle.sercos_multi.specs.Asking.{other_cycle}
use Rattle.sercos_multi.proofs.answering.other_cycle.Given as goal

abbrev pub invariant-loop-k : goal.invariant-loop-k
invariant-loop-k g l = other_cycle l.time (l.k + 1) (drop l.k (map (λ p. p.wishes.cycle) l.parts)) ≡ other_cycle l.time 2 (drop 1 (map (λ p. p.wishes.cycle) l.parts))
