use Rattle.std.proofs.Common.{ℕ, ◌*◌, List, ◌++◌, ap, ◌∙◌, arith}
use Rattle.sercos_text.proofs.WriteSteps.{piece_more, pieces_end}
use Rattle.sercos_show.proofs.text.push_hex.Goals as goal

pub loop-turn-preserved : goal.loop-turn-preserved
loop-turn-preserved c =
    piece_more c.args.bytes.now c.loop-turn.turn _ _ _ _ c.piece_of-piece.ensures.value (c.in_ok-extend_from_slice.ensures.items ∙ ap (λ (xs : List ℕ). c.loop-turn.out.items ++ xs) c.put_pairs.ensures) c.loop-turn.invariant

pub returns : goal.returns
returns c = pieces_end c.args.bytes.now (32 * c.loop-turn.turn) _ _ (omega (arith, c.div_ceil-turn-end.ensures, c.loop-turn-test.false)) c.loop-turn.invariant
