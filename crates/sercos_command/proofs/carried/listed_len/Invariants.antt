use Rattle.std.proofs.Common.{◌≡◌, ◌+◌, ◌*◌, ◌≤◌, take, unwrap_or}
use Rattle.std.specs.List.{sum_by}
use Rattle.sercos_command.specs.Checks.{cyclic_len}
use Rattle.sercos_command.proofs.carried.listed_len.Given as goal

abbrev pub invariant-loop-idn : goal.invariant-loop-idn
invariant-loop-idn l = (l.len ≡ 4 + sum_by (λ idn. unwrap_or (cyclic_len l.store idn.raw) 0) (take l.idn-index l.idns)) × (l.len ≤ 4 + 4 * l.idn-index) × (4 ≤ l.len)
