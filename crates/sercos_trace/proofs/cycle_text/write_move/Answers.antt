use Rattle.std.proofs.Common.{◌≡◌, false, if◌then◌else◌, [], rules, subst, sym, ap}
use mathlib.Core.Bool.{beq}
use Rattle.sercos_trace.specs.Texts.{move_text}
use Rattle.sercos_trace.specs.MarkedWritten.{HasTaken}
use Rattle.sercos_trace.proofs.MarkedLemmas.{taken_none}
use Rattle.sercos_trace.proofs.cycle_text.write_move.Goals as goal

pub returns-then-moved-late : goal.returns-then-moved-late
returns-then-moved-late g c =
    let other : beq c.args.moved.now.late c.args.late ≡ false = search rules in
    subst (HasTaken _ _) (sym (ap (λ b. if b then move_text c.args.cycle c.args.moved.now else []) other)) (taken_none _)
