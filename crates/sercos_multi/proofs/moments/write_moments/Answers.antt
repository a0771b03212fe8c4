use Rattle.std.proofs.Common.{◌≡◌, ℕ, ◌+◌, ◌<◌, Option, Some, None, IfSome, ap, ◌∙◌, subst, arith}
use Rattle.sercos_multi.specs.Going.{timed_count}
use Rattle.sercos_multi.proofs.PassLemmas.{on_begun, on_next, on_failed, on_ended, writes_failed, earliest_above, earliest_of}
use Rattle.sercos_multi.proofs.moments.write_moments.Goals as goal

pub moments-init : goal.moments-init
moments-init g c = record {
  on = λ voices all some. on_begun g.L.BitLink.carry g.L.BitLink.restart c.args.time c.args.parts.now.items _ voices all some;
  few = omega arith;
  soon = omega arith;
}

pub earliest-requires : goal.earliest-requires
earliest-requires g c =
    let (voices, all, some) = c.requires.all in
    let on = c.moments.invariant.on voices all some in
    record { all = rw c.as_slice.ensures.value (on.voices, on.at, on.all_from) }

pub returns-in_default : goal.returns-in_default
returns-in_default g c = λ voices all some.
    let on = c.moments.invariant.on voices all some in
    let is = earliest_of g.L.BitLink.carry g.L.BitLink.restart c.moments.from _ _ _ None on.voices c.earliest.ensures.is c.as_slice.ensures.value c.in_default.is on.at on.all_from in
    on_ended g.L.BitLink.carry g.L.BitLink.restart c.args.time c.moments.from c.moments.together c.moments.parts.items _ _ _ c.write_number.result _ on is c.write_number.ensures

pub write_moment-requires-clause-all : goal.write_moment-requires-clause-all
write_moment-requires-clause-all g c =
    let (voices, all, some) = c.requires.all in
    let on = c.moments.invariant.on voices all some in
    let is = earliest_of g.L.BitLink.carry g.L.BitLink.restart c.moments.from _ _ _ (Some c.in-Some.moment) on.voices c.earliest.ensures.is c.as_slice.ensures.value c.in-Some.is on.at on.all_from in
    (on.voices, on.at, is.0)

pub returns-in_err-timed : goal.returns-in_err-timed
returns-in_err-timed g c = λ voices all some.
    let on = c.moments.invariant.on voices all some in
    let is = earliest_of g.L.BitLink.carry g.L.BitLink.restart c.moments.from _ _ _ (Some c.in-Some.moment) on.voices c.earliest.ensures.is c.as_slice.ensures.value c.in-Some.is on.at on.all_from in
    writes_failed _ _ c.from_residual.result _ c.from_residual.ensures.0
    (on_failed g.L.BitLink.carry g.L.BitLink.restart c.args.time c.moments.from c.in-Some.moment c.moments.together c.moments.parts.items _ _ _ _ c.requires.some on is (c.in_err-timed.ensures on.voices on.at is.0).written)

below_of : (o : Option ℕ) (m most : ℕ) → o ≡ Some m → IfSome o (λ m. m < most) → m < most
below_of o m most is below = subst (λ o. IfSome o (λ m. m < most)) is below

pub moments-smaller : goal.moments-smaller
moments-smaller g c =
    let (voices, all, some) = c.requires.all in
    let on = c.moments.invariant.on voices all some in
    let is = earliest_of g.L.BitLink.carry g.L.BitLink.restart c.moments.from _ _ _ (Some c.in-Some.moment) on.voices c.earliest.ensures.is c.as_slice.ensures.value c.in-Some.is on.at on.all_from in
    let above = earliest_above c.moments.from c.in-Some.moment on.voices on.all_from is in
    let below = below_of c.earliest.result c.in-Some.moment 50000000 c.in-Some.is c.earliest.ensures.bound in
    omega (arith, above, below)

pub moments-preserved : goal.moments-preserved
moments-preserved g c =
    let below = below_of c.earliest.result c.in-Some.moment 50000000 c.in-Some.is c.earliest.ensures.bound in
    record {
      on = λ voices all some.
          let on = c.moments.invariant.on voices all some in
          let is = earliest_of g.L.BitLink.carry g.L.BitLink.restart c.moments.from _ _ _ (Some c.in-Some.moment) on.voices c.earliest.ensures.is c.as_slice.ensures.value c.in-Some.is on.at on.all_from in
          let one = c.in_ok-timed.ensures on.voices on.at is.0 in
          on_next g.L.BitLink.carry g.L.BitLink.restart c.args.time c.moments.from c.in-Some.moment c.moments.together _ c.moments.parts.items c.write_moment.new.parts.items _ _ _ _ c.requires.some on is one.at one.written
          (ap (λ n. c.moments.together + n) (c.count_of-together.ensures.value ∙ ap timed_count one.timed));
      few =
          let (voices, all, some) = c.requires.all in
          let on = c.moments.invariant.on voices all some in
          let is = earliest_of g.L.BitLink.carry g.L.BitLink.restart c.moments.from _ _ _ (Some c.in-Some.moment) on.voices c.earliest.ensures.is c.as_slice.ensures.value c.in-Some.is on.at on.all_from in
          let above = earliest_above c.moments.from c.in-Some.moment on.voices on.all_from is in
          let before = c.moments.invariant.few in
          let one = c.count_of-together.ensures.few in
          omega (arith, above, before, one);
      soon = omega (arith, below);
    }
