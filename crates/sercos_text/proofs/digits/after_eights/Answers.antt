use Rattle.std.proofs.Common.{◌≡◌, ℕ, ◌+◌, ◌-◌, ◌*◌, take, drop, refl, arith}
use Rattle.sercos_text.proofs.DigitLemmas.{eight_more}
use Rattle.sercos_text.proofs.digits.after_eights.Goals as goal

pub loop-turn-preserved : goal.loop-turn-preserved
loop-turn-preserved c =
    let start : ℕ = 8 * c.loop-turn.turn in
    let eight : start + 8 - start ≡ 8 = omega arith in
    eight_more c.args.text.now c.loop-turn.turn (take 8 (drop start c.args.text.now)) (omega arith) refl (rw eight at (c.are_eight.ensures c.if-not-are_eight.false)) c.loop-turn.invariant
