use Rattle.std.proofs.Common.{ℕ, length-set, ◌≢◌, ◌/◌, ◌%◌, ◌∙◌, inl, inr, arith}
use Rattle.std.proofs.lemmas.Bool.{cases_eq}
use Rattle.std.proofs.lemmas.Nat.{one_shl}
use Rattle.sercos_bits.proofs.PackedLemmas.{cut-kept, cut-cleared, wiped, bit_in-other_word}
use Rattle.sercos_bits.proofs.words.clear_from.Goals as goal

pub loop-word-init : goal.loop-word-init
loop-word-init c =
    rw (one_shl (c.args.place % 64) 64 (omega arith)) record {
      kept = λ i. cut-kept c.args.words.now c.args.place i (omega arith);
      cleared = λ i from below. cut-cleared c.args.words.now c.args.place i (omega arith) from (omega arith);
      rest = λ i past. elim (cases_eq (i / 64) (c.args.place / 64)) [
        | inl same ↦ cut-cleared c.args.words.now c.args.place i (omega arith) (omega arith) same
        | inr differ ↦ bit_in-other_word c.args.words.now (c.args.place / 64) _ i differ ∙ c.requires.zeros i past
      ];
    }

pub loop-word-preserved : goal.loop-word-preserved
loop-word-preserved c =
    let word = c.loop-word.word in
    let words = c.loop-word.words in
    record {
      kept = λ i before. let differ : i / 64 ≢ word = (λ e. omega arith) in
          bit_in-other_word words word 0 i differ ∙ c.loop-word.invariant.kept i before;
      cleared = λ i from below. elim (cases_eq (i / 64) word) [
        | inl same ↦ wiped words word i (omega (arith, length-set {A = ℕ}, c.loop-word.auto.words)) same
        | inr differ ↦ bit_in-other_word words word 0 i differ ∙ c.loop-word.invariant.cleared i from (omega arith)
      ];
      rest = λ i past. elim (cases_eq (i / 64) word) [
        | inl same ↦ wiped words word i (omega (arith, length-set {A = ℕ}, c.loop-word.auto.words)) same
        | inr differ ↦ bit_in-other_word words word 0 i differ ∙ c.loop-word.invariant.rest i past
      ];
    }
