use Rattle.std.proofs.Common.{ℕ, List, refl, sym, subst}
use Rattle.sercos_c.specs.Room.{IsPut}
use Rattle.sercos_c.specs.Drives.{an_at}
use Rattle.sercos_c.proofs.drive.at_of.Goals as goal

pub returns-in-Some-clause-said : goal.returns-in-Some-clause-said
returns-in-Some-clause-said c = λ d rate h stands.
    an_at (sym (c.in-Some.ensures.said d rate h stands))
    (subst (λ (content : List ℕ). IsPut content c.args.out.now c.put.new.out c.put.new.written c.put.result) c.as_slice.ensures.value c.put.ensures)
    refl
