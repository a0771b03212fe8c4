use Rattle.std.proofs.Common.{◌≡◌, ℕ, ◌+◌, ◌-◌, ◌*◌, take, drop, refl, ◌∙◌, sym, arith}
use Rattle.sercos_text.proofs.DigitLemmas.{sixteen_more}
use Rattle.sercos_text.proofs.digits.after_sixteens.Goals as goal

pub loop-turn-preserved : goal.loop-turn-preserved
loop-turn-preserved c =
    let start : ℕ = 16 * c.loop-turn.turn in
    let sixteen : start + 16 - start ≡ 16 = omega arith in
    sixteen_more c.args.text.now c.loop-turn.turn (take 16 (drop start c.args.text.now)) (omega arith) refl (rw sixteen at (sym c.are_digits.ensures ∙ c.if-not-are_digits.false)) c.loop-turn.invariant
