use Rattle.std.proofs.Common.{arith}
use Rattle.std.proofs.lemmas.List.{take_rest, length-drop}
use Rattle.sercos_model.proofs.KnownBytes.{Appends-next}
use Rattle.sercos_io.proofs.whole.write_all.Goals as goal

pub loop-place-preserved : goal.loop-place-preserved
loop-place-preserved g c =
    let before = c.loop-place.invariant in
    let after = c.in_ok-place.ensures in
    let most = simp (take_rest, length-drop) at after.bound in
    record {
      within = omega arith;
      taken = Appends-next _ _ _ _ _ _ before.taken after.bytes;
      faultless = cc (after.cause, before.faultless);
      room_left = grind (arith, after.room, before.room_left);
    }
