use Rattle.std.proofs.Common.{ℕ, List, length, ◌∙◌, ap, sym}
use Rattle.std.proofs.lemmas.Bool.{leb-true}
use Rattle.sercos_law_run.proofs.Theorems.{few_drives}
use Rattle.sercos_ring.proofs.RunLemmas.{length-list_below}
use Rattle.sercos_ring.proofs.ring.Ring.open.Goals as goal

pub addresses_of-requires : goal.addresses_of-requires
addresses_of-requires g c = leb-true (length c.args.setup.now.drives) 64 (few_drives c.args.setup.now c.requires.ring)

pub invariant_of-result-clause-few : goal.invariant_of-result-clause-few
invariant_of-result-clause-few g c = rw c.in_ok-drives.ensures.count (leb-true (length c.args.setup.now.drives) 64 (few_drives c.args.setup.now c.requires.ring))

pub invariant_of-result-clause-addressed : goal.invariant_of-result-clause-addressed
invariant_of-result-clause-addressed g c =
    ap (λ (l : List ℕ). length l) c.addresses_of.ensures ∙ (length-list_below (length c.args.setup.now.drives) _ ∙ sym c.in_ok-drives.ensures.count)
