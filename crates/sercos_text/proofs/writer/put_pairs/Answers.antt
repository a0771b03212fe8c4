use Rattle.std.proofs.Common.{List, ℕ, ◌∙◌, ◌≡◌, ◌*◌, ◌++◌, ◌+◌, ◌∷◌, [], arith, ap, drop, get_or, length, take}
use Rattle.hex.specs.Hex.{encode_lower, lower_digits}
use Rattle.hex.proofs.HexLemmas.{length-encode_with}
use Rattle.sercos_text.proofs.WriteSteps.{no_pairs, pair_more, pair_put, pairs_end}
use Rattle.sercos_text.proofs.writer.put_pairs.Goals as goal

pub loop-place-init : goal.loop-place-init
loop-place-init c = no_pairs c.args.room.now

pub loop-place-preserved : goal.loop-place-preserved
loop-place-preserved c =
    let at : ℕ = 2 * c.loop-place.place in
    let room : List ℕ = c.loop-place.room in
    let is : c.copy_from_slice.new.self ≡ encode_lower (get_or c.args.bytes.now c.loop-place.place 0 ∷ []) = c.copy_from_slice.ensures.after ∙ c.pair_of.ensures in
    let two : length c.copy_from_slice.new.self ≡ 2 = omega (arith, ap length is, length-encode_with lower_digits (get_or c.args.bytes.now c.loop-place.place 0 ∷ [])) in
    pair_more c.args.bytes.now c.args.room.now room _ c.loop-place.place (omega arith) c.loop-place.invariant
    (pair_put room c.copy_from_slice.new.self at (omega arith) two ∙ ap (λ p. take at room ++ p ++ drop (at + 2) room) is)

pub returns : goal.returns
returns c = pairs_end c.args.bytes.now c.args.room.now _ c.loop-place.place (omega arith) (omega arith) c.loop-place.invariant
