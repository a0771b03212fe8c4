use Rattle.std.proofs.Common.{rules, refl, arith}
use Rattle.sercos_model.specs.Bits.{bits_of}
use Rattle.sercos_c.proofs.FrameLemmas.{filled_more, filled_all}
use Rattle.sercos_c.proofs.frames.fill.Goals as goal

pub loop-place-init : goal.loop-place-init
loop-place-init c = record { front = unfold bits_of in refl; long = c.requires }

pub loop-place-preserved : goal.loop-place-preserved
loop-place-preserved c = record {
  front = filled_more _ _ _ _ (omega arith) c.byte_at.ensures.bits c.loop-place.invariant.front;
  long = search rules;
}

pub returns : goal.returns
returns c = filled_all _ _ c.loop-place.place (omega arith) c.loop-place.invariant.long c.loop-place.invariant.front
