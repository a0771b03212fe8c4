use Rattle.std.proofs.Common.{rules, ◌≡◌, arith, sym, ◌∙◌}
use Rattle.std.specs.Prelude.{None, IsTrue, ◌↔◌}
use Rattle.std.proofs.lemmas.Bool.{ltb-true, lt-ltb}
use Rattle.sercos_plan.specs.Chains.{are_linked, IsChain}
use Rattle.sercos_plan.proofs.TestLemmas.{linked-Linked, Linked-linked}
use Rattle.sercos_plan.proofs.SoundLemmas.{chain_none}
use Rattle.sercos_plan.proofs.checking.check_chain.Goals as goal

pub returns : goal.returns
returns c =
    let linked : c.are_linked-linked.result ≡ are_linked c.args.w.now None c.args.c.now.links = search rules in
    let sum = c.sum.ensures in
    let bound = c.bound.ensures in
    let exact : IsTrue c.are_all.result ↔ IsChain c.args.w.now c.args.c.now = (
      λ t.
          let parts = c.are_all.ensures.0 t in
          let above = ltb-true c.bound.result c.sum.result parts.2 in
          record { links = linked-Linked c.args.w.now None c.args.c.now.links (sym linked ∙ parts.0); end = c.is_ended-ended.ensures.0 parts.1; above = omega arith },
      λ chain.
          let above = chain.above in
          c.are_all.ensures.1 (linked ∙ Linked-linked c.args.w.now None c.args.c.now.links chain.links, c.is_ended-ended.ensures.1 chain.end, lt-ltb c.bound.result c.sum.result (omega arith)),
    ) in
    record { exact = exact; none = λ t. chain_none c.args.w.now c.args.c.now c.requires (exact.0 t) }
