use Rattle.std.proofs.Common.{arith, sym, subst, ap, ℕ, ◌+◌, ◌≤◌, ◌≡◌}
use Rattle.sercos_script.specs.Lanes.{GatheredView}
use Rattle.sercos_script.specs.Stretches.{AreAhead}
use Rattle.sercos_script.proofs.StretchLemmas.{ahead-unknown, ahead-later}
use Rattle.sercos_script.proofs.gathered.Gathered.turn.Goals.{then-cycle-self-2, else-cycle-self-2}
use Rattle.sercos_script.proofs.gathered.Gathered.turn.Goals as goal

pub gather-requires : goal.gather-requires
gather-requires c = elim c.if-cycle-self-2.branch [
  | then-cycle-self-2 w ↦ subst (λ (v : GatheredView). AreAhead c.args.script.now c.args.cycle v.soonest) (sym w.self-is)
      (ahead-unknown c.args.script.now c.args.cycle w.nothing_known-self-inside.result w.nothing_known-self-inside.ensures)
  | else-cycle-self-2 w ↦ subst (λ (v : GatheredView). AreAhead c.args.script.now c.args.cycle v.soonest) (sym w.self-is)
      (ahead-later c.args.script.now (c.args.self.now.cycle + 1) c.args.cycle c.args.self.now.soonest c.requires.ahead (later c.args.cycle c.self.inside.cycle c.args.self.now w.if-cycle-self-2.false c.if-cycle-self.false (ap (λ (v : GatheredView). v.cycle) c.self.view_is)))
]
  where
    later : (cycle old : ℕ) (v : GatheredView) → old ≤ cycle → (cycle ≡ old → ⊥) → old ≡ v.cycle → v.cycle + 1 ≤ cycle
    later cycle old v le other is = omega (arith, other)
