use Rattle.std.proofs.Common.{List, ℕ, ◌++◌, ap, drop}
use Rattle.sercos_bits.proofs.PackedLemmas.{copied-bit, kept-bit}
use Rattle.sercos_bits.proofs.words.copy_words.Goals as goal

pub returns-clause-copied : goal.returns-clause-copied
returns-clause-copied c =
    λ i. copied-bit c.args.words.now c.args.others.now _ c.args.count i (ap (λ (ws : List ℕ). ws ++ drop c.args.count c.args.words.now) c.copy_from_slice.ensures.after) c.requires.within c.requires.of_others

pub returns-clause-kept : goal.returns-clause-kept
returns-clause-kept c =
    λ i. kept-bit c.args.words.now c.args.others.now _ c.args.count i (ap (λ (ws : List ℕ). ws ++ drop c.args.count c.args.words.now) c.copy_from_slice.ensures.after) c.requires.within c.requires.of_others
