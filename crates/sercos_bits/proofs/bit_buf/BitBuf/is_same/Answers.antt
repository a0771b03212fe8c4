use Rattle.std.proofs.Common.{◌∙◌, ap, length, sym, arith}
use Rattle.std.proofs.lemmas.Bool.{eqb-true}
use Rattle.sercos_bits.proofs.PackedLemmas.{len-of, same-is, same-bits}
use Rattle.sercos_bits.proofs.bit_buf.BitBuf.is_same.Goals as goal

pub returns-then-self-other : goal.returns-then-self-other
returns-then-self-other c = (
  λ same. same-is _ _ _ _ _ _ c.self.view_is c.other.view_is c.if-self-other.true (λ i inside. c.are_same_words.ensures.same same i (omega (arith, c.div_ceil.ensures))),
  λ same. c.are_same_words.ensures.differ (λ i inside. same-bits _ _ _ _ i _ _ c.self.view_is c.other.view_is same c.self.invariant.clear c.other.invariant.clear),
)

pub returns-else-self-other : goal.returns-else-self-other
returns-else-self-other c = (
  λ test. absurd (c.if-self-other.false (eqb-true _ _ test)),
  λ same. absurd (c.if-self-other.false (len-of _ _ _ c.self.view_is ∙ ap length same ∙ sym (len-of _ _ _ c.other.view_is))),
)
