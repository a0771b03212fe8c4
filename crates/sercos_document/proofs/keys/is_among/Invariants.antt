use Rattle.std.proofs.Common.{◌≡◌, map, drop}
use Rattle.sercos_document.specs.Tables.{is_among}
use Rattle.sercos_document.proofs.keys.is_among.Given as goal

abbrev pub invariant-loop-k : goal.invariant-loop-k
invariant-loop-k l = is_among l.key (map (λ k. k.now) (drop l.k-index l.keys)) ≡ is_among l.key (map (λ k. k.now) l.keys)
