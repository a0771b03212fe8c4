use Rattle.std.proofs.Common.{◌≡◌, ◌+◌, ◌≤◌, drop, length, nat_eq}
use Rattle.std.specs.List.{common_prefix_len}
use Rattle.sercos_show.proofs.line.shared_with.Given as goal

abbrev pub invariant-loop-place : goal.invariant-loop-place
invariant-loop-place l =
    (l.place + common_prefix_len nat_eq (drop l.place l.line) (drop l.place l.text) ≡ common_prefix_len nat_eq l.line l.text)
    × (l.place ≤ length l.line)
