use Rattle.std.proofs.Common.{◌≡◌, ℕ, ◌+◌, ◌≤◌, List, length}
use Rattle.std.specs.Prelude.{take}
use Rattle.sercos_block.specs.Views.{DriveView, RingView}
use Rattle.sercos_drive.specs.Heard.{DriveCall}
use Rattle.sercos_ring.specs.Stations.{AllStand}
use Rattle.sercos_ring.specs.Sendings.{said_by, AreSent, AreTurns}
use Rattle.sercos_ring.proofs.sending.send_ats.Given as goal

abbrev pub invariant-loop-k : goal.invariant-loop-k
invariant-loop-k g l = record {
  carry : g.L.BitLink.carry l.link ≡ g.L.BitLink.carry l.initial.link;
  restart : g.L.BitLink.restart l.link ≡ g.L.BitLink.restart l.initial.link;
  bound : l.unseen ≤ l.k;
  count : l.count ≤ l.initial.count + l.k;
  within : l.count ≤ length l.list.items;
  sent : (d : ℕ → DriveView) (speed : ℕ) (h : ℕ → List DriveCall) (r : RingView) → AllStand l.drives d speed h → AreTurns (length l.drives) d speed h r l.turns →
      AreSent r (g.L.BitLink.carry l.initial.link) l.cycle l.rate (said_by d speed h (take l.k l.turns)) (take l.initial.count l.initial.list.items) (take l.count l.list.items) l.initial.master l.master l.unseen;
}
