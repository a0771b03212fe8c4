use Rattle.std.proofs.Common.{◌≡◌, length, refl, subst, ◌∙◌, arith, length-set}
use Rattle.sercos_show.proofs.DigitLemmas.{IsSet, IsSet-none, IsSet-more, AreDigitPairs-set, bytes_set, all_seen}
use Rattle.sercos_show.proofs.digits.set_pairs.Goals as goal

pub loop-place-init : goal.loop-place-init
loop-place-init c = record { len = refl; set = IsSet-none c.args.digits.now c.args.bytes.now }

pub loop-place-preserved : goal.loop-place-preserved
loop-place-preserved c = record {
  len = length-set c.loop-place.bytes c.loop-place.place _ ∙ c.loop-place.invariant.len;
  set = IsSet-more c.args.digits.now c.loop-place.bytes c.loop-place.place c.loop-place.seen c.value_or-high.result c.value_or-low.result _ (omega (arith, c.loop-place.invariant.len)) (omega (arith, c.requires, c.loop-place.invariant.len)) c.value_or-high.ensures.digit c.value_or-high.ensures.test c.value_or-low.ensures.digit c.value_or-low.ensures.test refl c.loop-place.invariant.set;
}

-- all bytes are set
whole : (c : goal.After-loop-place) → IsSet c.args.digits.now c.loop-place.bytes (length c.loop-place.bytes) c.loop-place.seen
whole c =
    let end : c.loop-place.place ≡ length c.loop-place.bytes = omega (arith, c.loop-place.auto.place-end, c.loop-place-test.false, c.loop-place.invariant.len) in
    subst (λ n. IsSet c.args.digits.now c.loop-place.bytes n c.loop-place.seen) end c.loop-place.invariant.set

pub returns-clause-pairs : goal.returns-clause-pairs
returns-clause-pairs c = λ test. AreDigitPairs-set c.args.digits.now c.loop-place.bytes c.loop-place.seen (omega (arith, c.requires, c.loop-place.invariant.len)) (whole c) test

pub returns-clause-bytes : goal.returns-clause-bytes
returns-clause-bytes c = λ test. bytes_set c.args.digits.now c.loop-place.bytes c.loop-place.seen (omega (arith, c.requires, c.loop-place.invariant.len)) (whole c) test

pub returns-clause-all : goal.returns-clause-all
returns-clause-all c = λ pairs. all_seen c.args.digits.now c.loop-place.bytes c.loop-place.seen (omega (arith, c.requires, c.loop-place.invariant.len)) (whole c) pairs
