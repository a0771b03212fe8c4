use Rattle.sercos_master.proofs.Words.{sym, ◌∙◌}
use Rattle.sercos_master.proofs.Rings.{no_stop}
use Rattle.sercos_master.proofs.ring.Ring.begin.Goals as goal

pub returns-then-may_begin : goal.returns-then-may_begin
returns-then-may_begin c = λ s p waiting low stands.
    c.begin_next.ensures s p waiting low (no_stop p.stop (sym (c.may_begin.ensures s p stands) ∙ c.if-may_begin.true)) stands
