use Rattle.std.proofs.Common.{◌≡◌, ◌*◌, ◌%◌, ap, arith, length, length-append}
use Rattle.sercos_model.specs.Bits.{bytes_of}
use Rattle.sercos_model.proofs.BitLemmas.{bits_of-bytes_of, AreBytes-bytes_of}
use Rattle.sercos_bits.proofs.SpellingLemmas.{bytes_step, bytes_end}
use Rattle.sercos_bits.proofs.spelling.bytes_of.Goals as goal

pub loop-place-preserved : goal.loop-place-preserved
loop-place-preserved c = record {
  bytes = bytes_step _ _ _ c.args.bits.now c.loop-place.place _ c.push_within.ensures c.byte_at.ensures.value c.loop-place.invariant.bytes (omega arith);
  length = omega (arith, simp length-append at (ap length c.push_within.ensures));
}

-- the content is what the bits spell
spelled : (c : goal.After-loop-place) → c.loop-place.out ≡ bytes_of c.args.bits.now
spelled c =
    bytes_end _ _ c.args.bits.now (8 * c.loop-place.place) c.loop-place.invariant.bytes (omega arith)

pub returns-clause-ok : goal.returns-clause-ok
returns-clause-ok c = spelled c

pub returns-clause-inverse : goal.returns-clause-inverse
returns-clause-inverse c =
    let whole : length c.args.bits.now % 8 ≡ 0 = omega arith in
    rw (spelled c) (bits_of-bytes_of c.args.bits.now whole)

pub returns-clause-bytes : goal.returns-clause-bytes
returns-clause-bytes c = rw (spelled c) (AreBytes-bytes_of c.args.bits.now)
