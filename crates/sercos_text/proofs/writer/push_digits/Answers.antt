use Rattle.std.proofs.Common.{◌*◌, List, ℕ, ap, drop, length, length-append, arith}
use Rattle.hex.specs.Hex.{encode_lower, lower_digits}
use Rattle.hex.proofs.HexLemmas.{length-encode_with}
use Rattle.sercos_text.proofs.WriteSteps.{left_count, part_within, piece_more, pieces_end}
use Rattle.sercos_text.proofs.writer.push_digits.Goals as goal

pub push_piece-requires-clause-within : goal.push_piece-requires-clause-within
push_piece-requires-clause-within c =
    let rest : List ℕ = drop (32 * c.loop-turn.turn) c.args.bytes.now in
    omega (arith, left_count _ rest _ _ c.loop-turn.invariant.digits, part_within rest _ c.piece_of.ensures.value)

pub loop-turn-preserved : goal.loop-turn-preserved
loop-turn-preserved c = record {
  digits = piece_more c.args.bytes.now c.loop-turn.turn _ _ _ _ c.piece_of.ensures.value c.push_piece.ensures.value c.loop-turn.invariant.digits;
  room = omega arith;
}

pub returns-clause-value : goal.returns-clause-value
returns-clause-value c = pieces_end c.args.bytes.now (32 * c.loop-turn.turn) _ _ (omega (arith, c.div_ceil-turn-end.ensures, c.loop-turn-test.false)) c.loop-turn.invariant.digits

pub returns-clause-bound : goal.returns-clause-bound
returns-clause-bound c =
    let is = pieces_end c.args.bytes.now (32 * c.loop-turn.turn) _ _ (omega (arith, c.div_ceil-turn-end.ensures, c.loop-turn-test.false)) c.loop-turn.invariant.digits in
    omega (arith, ap length is, length-append c.args.line.now (encode_lower c.args.bytes.now), length-encode_with lower_digits c.args.bytes.now)
