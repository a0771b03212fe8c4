use Rattle.std.proofs.Common.{◌≡◌, ◌+◌, drop}
use Rattle.sercos_timing.specs.Order.{record_bytes}
use Rattle.sercos_timing.specs.FirstBroken.{first_misplaced}
use Rattle.sercos_timing.proofs.fitting.misplaced.Given as goal

abbrev pub invariant-loop-i : goal.invariant-loop-i
invariant-loop-i l = record {
  value : first_misplaced l.next (drop l.i l.w.drives) (drop l.i l.p.position) ≡ first_misplaced 1 l.w.drives l.p.position;
  sum : l.next + record_bytes (drop l.i l.w.drives) ≡ 1 + record_bytes l.w.drives;
}
