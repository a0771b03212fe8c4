use Rattle.std.proofs.Common.{arith}
use Rattle.std.proofs.lemmas.Bool.Decides.{Decides-eqb}
use Rattle.std.proofs.lemmas.Slice.Eq.{slice_eq-Decides}
use Rattle.sercos_bits.proofs.PackedLemmas.{same_words, bit-of_same}
use Rattle.sercos_bits.proofs.words.are_same_words.Goals as goal

pub returns-clause-same : goal.returns-clause-same
returns-clause-same c =
    λ test i. bit-of_same c.args.words.now c.args.others.now c.args.count i ((slice_eq-Decides Decides-eqb _ _ _ c.eq.ensures).0 test)

pub returns-clause-differ : goal.returns-clause-differ
returns-clause-differ c =
    λ same. (slice_eq-Decides Decides-eqb _ _ _ c.eq.ensures).1
    (same_words c.args.words.now c.args.others.now c.args.count c.requires.within c.requires.of_others (λ p. omega (arith, c.type_inv.words p)) (λ p. omega (arith, c.type_inv.others p)) same)
