use Rattle.std.proofs.Common.{◌∙◌, ◌≡◌, ◌==◌, true, false, [], ◌∷◌, ◌++◌, refl, arith}
use Rattle.std.specs.Prelude.{slice_index, if◌then◌else◌}
use Rattle.std.proofs.lemmas.Bool.Decides.{nat_tests}
use Rattle.sercos_step.proofs.ReadWords.{after_word, first_after}
use Rattle.sercos_step.proofs.reading.keep_word.Goals as goal
use Rattle.sercos_step.proofs.reading.keep_word.Goals.{then-place-eq0, else-place-eq0}

pub returns : goal.returns
returns c = λ e words p f b h.
    let chosen : c.if-place-eq0.known ≡ (if c.args.place == 0 then c.args.word else c.args.first.now) = elim c.if-place-eq0.branch [
      | then-place-eq0 w ↦
          let yes : (c.args.place == 0) ≡ true = grind (arith, nat_tests, w.if-place-eq0.true) in
          rw (w.known-is, yes) refl
      | else-place-eq0 w ↦
          let no : (c.args.place == 0) ≡ false = grind (arith, nat_tests, w.if-place-eq0.false) in
          rw (w.known-is, no) refl
    ] in
    let known : c.if-place-eq0.known ≡ slice_index (words ++ c.args.word ∷ []) 0 = chosen ∙ (rw f (first_after e c.args.place c.args.word words p)) in
    rw c.words_in.ensures.value (after_word e c.args.place c.args.word c.args.shape words c.if-place-eq0.known c.args.bytes.now c.keep_bytes.new.bytes p known b h c.keep_bytes.ensures)
